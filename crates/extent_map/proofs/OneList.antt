-- A function on sectors has one shortest list of rows.
use Rattle.std.proofs.Common.{ℕ, ◌+◌, ◌-◌, ◌<◌, ◌≡◌, inl, inr, Some, List, [], ◌∷◌, refl, sym, ◌∙◌, ap, arith}
use Rattle.std.proofs.lemmas.Bool.{cases_lt, cases_order}
use Rattle.extent_map.specs.declared.extent.Extent.{Extent}
use Rattle.extent_map.specs.Extents.{place_at, IsShortest}
use Rattle.extent_map.proofs.Places.{at_inside, at_past, after_row, none_before}

module _ {P : Type 0} (on : ℕ → P → P) (on_none : (p : P) → on 0 p ≡ p) where
  same_row : (a b : Extent P) → a.lba ≡ b.lba → a.sectors ≡ b.sectors → a.place ≡ b.place → a ≡ b
  same_row a b lba sectors place =
      ap (λ x. record a { lba = x }) lba
      ∙ ap (λ x. record a { lba = b.lba; sectors = x }) sectors
      ∙ ap (λ x. record b { place = x }) place

  -- rows that begin later do not give the first sector a place
  not_later : (a b : Extent P) (more_a more_b : List (Extent P)) → IsShortest on (a ∷ more_a) → IsShortest on (b ∷ more_b)
      → ((k : ℕ) → place_at on (a ∷ more_a) k ≡ place_at on (b ∷ more_b) k) → a.lba < b.lba → ⊥
  not_later a b more_a more_b shortest_a shortest_b same later =
      let here = same a.lba in
      let found = at_inside on a more_a a.lba (omega arith) (omega (arith, shortest_a.0)) in
      let none = none_before on (b ∷ more_b) b.lba a.lba shortest_b (omega arith) later in
      cc

  same_lba : (a b : Extent P) (more_a more_b : List (Extent P)) → IsShortest on (a ∷ more_a) → IsShortest on (b ∷ more_b)
      → ((k : ℕ) → place_at on (a ∷ more_a) k ≡ place_at on (b ∷ more_b) k) → a.lba ≡ b.lba
  same_lba a b more_a more_b shortest_a shortest_b same =
      elim (cases_order a.lba b.lba) [
        | inl is ↦ is
        | inr differ ↦ elim differ [
          | inl later ↦ absurd (not_later a b more_a more_b shortest_a shortest_b same later)
          | inr later ↦ absurd (not_later b a more_b more_a shortest_b shortest_a (λ k. sym (same k)) later)
        ]
      ]

  same_place : (a b : Extent P) (more_a more_b : List (Extent P)) → IsShortest on (a ∷ more_a) → IsShortest on (b ∷ more_b)
      → ((k : ℕ) → place_at on (a ∷ more_a) k ≡ place_at on (b ∷ more_b) k) → a.lba ≡ b.lba → a.place ≡ b.place
  same_place a b more_a more_b shortest_a shortest_b same lba =
      let here = same a.lba in
      let in_a = at_inside on a more_a a.lba (omega arith) (omega (arith, shortest_a.0)) in
      let in_b = at_inside on b more_b a.lba (omega arith) (omega (arith, shortest_b.0)) in
      let first_a : a.lba - a.lba ≡ 0 = omega arith in
      let first_b : a.lba - b.lba ≡ 0 = omega arith in
      let is_a = on_none a.place in
      let is_b = on_none b.place in
      cc

  -- what stands after a row does not go on with its places
  pub not_on : (a : Extent P) (more_a : List (Extent P)) → IsShortest on (a ∷ more_a)
      → place_at on more_a (a.lba + a.sectors) ≡ Some (on a.sectors a.place) → ⊥
  not_on a [] shortest goes_on = cc
  not_on a (next ∷ more_a) shortest goes_on =
      elim (cases_lt (a.lba + a.sectors) next.lba) [
        | inl gap ↦ let none = none_before on (next ∷ more_a) next.lba (a.lba + a.sectors) shortest.2 (omega arith) gap in cc
        | inr touch ↦
            let first : a.lba + a.sectors - next.lba ≡ 0 = omega (arith, shortest.1.in_order) in
            let found = at_inside on next more_a (a.lba + a.sectors) touch (omega (arith, shortest.1.in_order, shortest.2.0)) in
            let is_next = on_none next.place in
            shortest.1.apart (omega (arith, shortest.1.in_order)) (cc)
      ]

  not_shorter : (a b : Extent P) (more_a more_b : List (Extent P)) → IsShortest on (a ∷ more_a)
      → ((k : ℕ) → place_at on (a ∷ more_a) k ≡ place_at on (b ∷ more_b) k) → a.lba ≡ b.lba → a.place ≡ b.place
      → a.sectors < b.sectors → ⊥
  not_shorter a b more_a more_b shortest same lba place shorter =
      let end = a.lba + a.sectors in
      let here = same end in
      let beyond = at_past on a more_a end (omega arith) in
      let in_b = at_inside on b more_b end (omega arith) (omega arith) in
      let far : end - b.lba ≡ a.sectors = omega arith in
      not_on a more_a shortest (cc)

  same_sectors : (a b : Extent P) (more_a more_b : List (Extent P)) → IsShortest on (a ∷ more_a) → IsShortest on (b ∷ more_b)
      → ((k : ℕ) → place_at on (a ∷ more_a) k ≡ place_at on (b ∷ more_b) k) → a.lba ≡ b.lba → a.place ≡ b.place
      → a.sectors ≡ b.sectors
  same_sectors a b more_a more_b shortest_a shortest_b same lba place =
      elim (cases_order a.sectors b.sectors) [
        | inl is ↦ is
        | inr differ ↦ elim differ [
          | inl shorter ↦ absurd (not_shorter a b more_a more_b shortest_a same lba place shorter)
          | inr shorter ↦ absurd (not_shorter b a more_b more_a shortest_b (λ k. sym (same k)) (sym lba) (sym place) shorter)
        ]
      ]

  same_rest : (a b : Extent P) (more_a more_b : List (Extent P)) → IsShortest on (a ∷ more_a) → IsShortest on (b ∷ more_b)
      → ((k : ℕ) → place_at on (a ∷ more_a) k ≡ place_at on (b ∷ more_b) k) → a.lba ≡ b.lba → a.sectors ≡ b.sectors
      → (k : ℕ) → place_at on more_a k ≡ place_at on more_b k
  same_rest a b more_a more_b shortest_a shortest_b same lba sectors k =
      elim (cases_lt k (a.lba + a.sectors)) [
        | inl low ↦
            none_before on more_a (a.lba + a.sectors) k shortest_a.2 (after_row on a more_a shortest_a.1) low
            ∙ sym (none_before on more_b (b.lba + b.sectors) k shortest_b.2 (after_row on b more_b shortest_b.1) (omega arith))
        | inr high ↦ sym (at_past on a more_a k high) ∙ same k ∙ at_past on b more_b k (omega arith)
      ]

  pub one_list : (a b : List (Extent P)) → IsShortest on a → IsShortest on b
      → ((k : ℕ) → place_at on a k ≡ place_at on b k) → a ≡ b
  one_list [] [] shortest_a shortest_b same = refl
  one_list [] (b ∷ more_b) shortest_a shortest_b same =
      let here = same b.lba in
      let found = at_inside on b more_b b.lba (omega arith) (omega (arith, shortest_b.0)) in
      cc
  one_list (a ∷ more_a) [] shortest_a shortest_b same =
      let here = same a.lba in
      let found = at_inside on a more_a a.lba (omega arith) (omega (arith, shortest_a.0)) in
      cc
  one_list (a ∷ more_a) (b ∷ more_b) shortest_a shortest_b same =
      let lba = same_lba a b more_a more_b shortest_a shortest_b same in
      let place = same_place a b more_a more_b shortest_a shortest_b same lba in
      let sectors = same_sectors a b more_a more_b shortest_a shortest_b same lba place in
      let rest = one_list more_a more_b shortest_a.2 shortest_b.2 (same_rest a b more_a more_b shortest_a shortest_b same lba
      sectors) in
      let first = same_row a b lba sectors place in
      cc
