-- Rows that are joined with those that go on with them.
use Rattle.std.proofs.Common.{ℕ, ◌+◌, ◌-◌, ◌^◌, ◌<◌, ◌≡◌, inl, inr, Some, List, [], ◌∷◌, ◌++◌, refl, sym, ◌∙◌, ap, subst, arith}
use Rattle.std.proofs.lemmas.Bool.{cases_lt}
use Rattle.std.proofs.lemmas.List.{append_assoc}
use Rattle.extent_map.specs.declared.extent.Extent.{Extent}
use Rattle.extent_map.specs.Extents.{NumbersGoOn, place_at, ComesBeforeFirst, IsShortest, Fits, AllFit}
use Rattle.extent_map.specs.Join.{GoesOn, joined, TakesNext, IsPutAfter}
use Rattle.extent_map.specs.Laws.{StartsFrom}
use Rattle.extent_map.specs.Join.{EndBy}
use Rattle.extent_map.proofs.Places.{at_inside, at_below, at_past}
use Rattle.extent_map.proofs.Order.{same_after_all, before_same, fit_append}

module _ {P : Type 0} (on : ℕ → P → P) (on_twice : (a b : ℕ) (p : P) → on a (on b p) ≡ on (b + a) p) where
  -- ---- two rows as one

  joined_places : (row next : Extent P) (rows : List (Extent P)) (k : ℕ) → GoesOn on row next
      → place_at on (joined row next ∷ rows) k ≡ place_at on (row ∷ next ∷ rows) k
  joined_places row next rows k goes =
      let one = joined row next in
      let touch = goes.touches in
      elim (cases_lt k row.lba) [
        | inl low ↦
            at_below on one rows k low
            ∙ sym (at_below on row (next ∷ rows) k low ∙ at_below on next rows k (omega arith))
        | inr from ↦ elim (cases_lt k (row.lba + row.sectors)) [
          | inl first ↦
              at_inside on one rows k from (omega arith) ∙ sym (at_inside on row (next ∷ rows) k from first)
          | inr second ↦ elim (cases_lt k (next.lba + next.sectors)) [
            | inl inside ↦
                let far : row.sectors + (k - next.lba) ≡ k - row.lba = omega arith in
                let there = ap (on (k - next.lba)) (sym goes.places)
                ∙ on_twice (k - next.lba) row.sectors row.place
                ∙ ap (λ n. on n row.place) far in
                at_inside on one rows k from (omega arith)
                ∙ ap (λ p. Some p) (sym there)
                ∙ sym (at_past on row (next ∷ rows) k second ∙ at_inside on next rows k (omega arith) inside)
            | inr past ↦
                at_past on one rows k (omega arith)
                ∙ sym (at_past on row (next ∷ rows) k second ∙ at_past on next rows k past)
          ]
        ]
      ]

  joined_before : (row next : Extent P) (rows : List (Extent P)) → GoesOn on row next → ComesBeforeFirst on next rows
      → ComesBeforeFirst on (joined row next) rows
  joined_before row next [] goes before = tt
  joined_before row next (after ∷ rows) goes before =
      let touch = goes.touches in
      record {
        in_order = omega (arith, before.in_order);
        apart = λ meet places. before.apart (omega arith)
            (ap (on next.sectors) (sym goes.places) ∙ on_twice next.sectors row.sectors row.place ∙ places);
      }

  joined_shortest : (row next : Extent P) (rows : List (Extent P)) → GoesOn on row next → IsShortest on (next ∷ rows)
      → IsShortest on (joined row next ∷ rows)
  joined_shortest row next rows goes shortest =
      (omega (arith, shortest.0), joined_before row next rows goes shortest.1, shortest.2)

  module _ (number : P → ℕ) (number_on : NumbersGoOn on number) where
    pub joined_fits : (row next : Extent P) → GoesOn on row next → Fits number next → Fits number (joined row next)
    joined_fits row next goes fits =
        let touch = goes.touches in
        let sectors : row.sectors + next.sectors < 2 ^ 63 = omega (arith, fits.sectors) in
        record {
          sectors = omega (arith, fits.sectors);
          places = elim (number_on row.sectors row.place) [
            | inl counts ↦ omega (arith, fits.places, counts, ap number goes.places)
            | inr none ↦ omega (arith, none.0, sectors)
          ];
        }

  -- ---- a row and those after it

  pub taken_places : (row : Extent P) (rows : List (Extent P)) (new : Extent P) (left : List (Extent P)) (k : ℕ)
      → TakesNext on row rows new left → place_at on (new ∷ left) k ≡ place_at on (row ∷ rows) k
  taken_places row [] new left k taken = ap (λ r. place_at on (r ∷ left) k) taken.0 ∙ ap (λ rs. place_at on (row ∷ rs) k) taken.1
  taken_places row (next ∷ rows) new left k taken =
      elim taken [
        | inl both ↦
            ap (λ r. place_at on (r ∷ left) k) both.1
            ∙ ap (λ rs. place_at on (joined row next ∷ rs) k) both.2
            ∙ joined_places row next rows k both.0
        | inr one ↦ ap (λ r. place_at on (r ∷ left) k) one.1 ∙ ap (λ rs. place_at on (row ∷ rs) k) one.2
      ]

  pub taken_shortest : (row : Extent P) (rows : List (Extent P)) (new : Extent P) (left : List (Extent P))
      → 0 < row.sectors → IsShortest on rows → StartsFrom (row.lba + row.sectors) rows → TakesNext on row rows new left
      → IsShortest on (new ∷ left)
  taken_shortest row [] new left some shortest starts taken = rw (taken.0, taken.1) (some, tt, tt)
  taken_shortest row (next ∷ rows) new left some shortest starts taken =
      elim taken [
        | inl both ↦ rw (both.1, both.2) (joined_shortest row next rows both.0 shortest)
        | inr one ↦
            rw (one.1, one.2) (
              some,
              record {
                in_order = starts;
                apart = λ touch places.
                    one.0 (record { touches = touch; places = places });
              },
              shortest,
            )
      ]

  pub taken_lba : (row : Extent P) (rows : List (Extent P)) (new : Extent P) (left : List (Extent P))
      → TakesNext on row rows new left → new.lba ≡ row.lba
  taken_lba row [] new left taken = ap (λ r. r.lba) taken.0
  taken_lba row (next ∷ rows) new left taken =
      elim taken [ inl both ↦ ap (λ r. r.lba) both.1 | inr one ↦ ap (λ r. r.lba) one.1 ]

  module _ (number : P → ℕ) (number_on : NumbersGoOn on number) where
    pub taken_fits : (row : Extent P) (rows : List (Extent P)) (new : Extent P) (left : List (Extent P))
        → Fits number row → AllFit number rows → TakesNext on row rows new left → Fits number new × AllFit number left
    taken_fits row [] new left fits all taken = rw (taken.0, taken.1) (fits, tt)
    taken_fits row (next ∷ rows) new left fits all taken =
        elim taken [
          | inl both ↦ rw (both.1, both.2) (joined_fits number number_on row next both.0 all.0, all.1)
          | inr one ↦ rw (one.1, one.2) (fits, all)
        ]

  -- ---- a row and those before it

  last_before : (rest : List (Extent P)) (last row : Extent P) (back : List (Extent P))
      → IsShortest on (rest ++ last ∷ []) → GoesOn on last row → IsShortest on (row ∷ back)
      → IsShortest on (rest ++ joined last row ∷ back)
  last_before [] last row back front goes shortest = joined_shortest last row back goes shortest
  last_before (first ∷ []) last row back front goes shortest =
      (front.0, before_same on first last (joined last row) refl refl front.1, joined_shortest last row back goes shortest)
  last_before (first ∷ second ∷ rest) last row back front goes shortest =
      (front.0, front.1, last_before (second ∷ rest) last row back front.2 goes shortest)

  apart_before : (front : List (Extent P)) (row : Extent P) (back : List (Extent P)) → IsShortest on front
      → EndBy row.lba front
      → ((rest : List (Extent P)) (last : Extent P) → front ≡ rest ++ last ∷ [] → GoesOn on last row → ⊥)
      → IsShortest on (row ∷ back) → IsShortest on (front ++ row ∷ back)
  apart_before [] row back front ends apart shortest = shortest
  apart_before (first ∷ []) row back front ends apart shortest = (
    front.0,
    record {
      in_order = ends.0;
      apart = λ touch places. apart [] first refl (record { touches = touch; places = places });
    },
    shortest,
  )
  apart_before (first ∷ second ∷ rest) row back front ends apart shortest = (
    front.0,
    front.1,
    apart_before (second ∷ rest) row back front.2 ends.1
        (λ more last is. apart (first ∷ more) last (ap (λ xs. first ∷ xs) is)) shortest,
  )

  pub put_places : (front : List (Extent P)) (row : Extent P) (back new : List (Extent P)) (k : ℕ)
      → IsPutAfter on front row back new → place_at on new k ≡ place_at on (front ++ row ∷ back) k
  put_places front row back new k put =
      elim put [
        | inl both ↦
            let rest = both.0 in
            let last = both.1 in
            let front_is : front ≡ rest ++ last ∷ [] = both.2 in
            let goes : GoesOn on last row = both.3 in
            let new_is : new ≡ rest ++ joined last row ∷ back = both.4 in
            ap (λ xs. place_at on xs k) new_is
            ∙ same_after_all on rest (joined last row ∷ back) (last ∷ row ∷ back) k (joined_places last row back k goes)
            ∙ ap (λ xs. place_at on xs k) (sym (append_assoc rest (last ∷ []) (row ∷ back)))
            ∙ ap (λ xs. place_at on (xs ++ row ∷ back) k) (sym front_is)
        | inr one ↦ ap (λ xs. place_at on xs k) one.1
      ]

  pub put_shortest : (front : List (Extent P)) (row : Extent P) (back new : List (Extent P)) → IsShortest on front
      → EndBy row.lba front → IsShortest on (row ∷ back) → IsPutAfter on front row back new → IsShortest on new
  put_shortest front row back new shortest ends beyond put =
      elim put [
        | inl both ↦
            let front_is : front ≡ both.0 ++ both.1 ∷ [] = both.2 in
            let new_is : new ≡ both.0 ++ joined both.1 row ∷ back = both.4 in
            subst (IsShortest on) (sym new_is)
            (last_before both.0 both.1 row back (subst (IsShortest on) front_is shortest) both.3 beyond)
        | inr one ↦ subst (IsShortest on) (sym one.1) (apart_before front row back shortest ends one.0 beyond)
      ]

  module _ (number : P → ℕ) (number_on : NumbersGoOn on number) where
    fit_rest : (rest : List (Extent P)) (last : Extent P) → AllFit number (rest ++ last ∷ []) → AllFit number rest
    fit_rest [] last fits = tt
    fit_rest (row ∷ rest) last fits = (fits.0, fit_rest rest last fits.1)

    pub put_fits : (front : List (Extent P)) (row : Extent P) (back new : List (Extent P)) → AllFit number front
        → Fits number row → AllFit number back → IsPutAfter on front row back new → AllFit number new
    put_fits front row back new front_fits fits back_fits put =
        elim put [
          | inl both ↦
              let front_is : front ≡ both.0 ++ both.1 ∷ [] = both.2 in
              let new_is : new ≡ both.0 ++ joined both.1 row ∷ back = both.4 in
              subst (AllFit number) (sym new_is)
              (fit_append number both.0 (joined both.1 row ∷ back)
              (fit_rest both.0 both.1 (subst (AllFit number) front_is front_fits))
              (joined_fits number number_on both.1 row both.3 fits, back_fits))
          | inr one ↦ subst (AllFit number) (sym one.1) (fit_append number front (row ∷ back) front_fits (fits, back_fits))
        ]
