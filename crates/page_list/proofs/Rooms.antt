-- What a change of pages does to the room, by the lengths of the pages.
use Rattle.std.proofs.Common.{ℕ, ◌+◌, ◌-◌, ◌<◌, ◌≤◌, ◌≡◌, ◌⊎◌, inl, inr, List, [], ◌∷◌, ◌++◌, length, get_or, take, drop, ◌∙◌, ap}
use Rattle.std.proofs.Common.{arith, refl, length-append, length-take-le, take-append-drop, drop-drop}
use Rattle.std.proofs.Math.ListN.{set, length-set}
use Rattle.std.specs.List.{sum, sum_by}
use Rattle.std.proofs.lemmas.Bool.{cases_lt, cases_eq}
use Rattle.std.proofs.lemmas.List.{get_or-append_right, get_or-set_same, get_or-set_other, get_or_default, get_or_at, take_at}
use Rattle.std.proofs.lemmas.List.Sums.{sum_by-append, sum_by-cons, sum_by-set, sum_by-take-drop}
use Rattle.page_list.specs.Items.{ListState, length_at, page_start, surplus_of, lack_of, halves_of, insert_room}
use Rattle.page_list.proofs.Lengths.{start_more}
use Rattle.page_list.proofs.Places.{one_split}

-- the last of two parts is that of the second
lack_back : (a b : List ℕ) → 0 < length b → lack_of (a ++ b) ≡ lack_of b
lack_back a b some =
    let is : length (a ++ b) - 1 - length a ≡ length b - 1 = omega (arith, length-append a b) in
    ap (λ n. 64 - n)
    (get_or-append_right a b (length a) (length (a ++ b) - 1) 64 refl (omega (arith, some, length-append a b))
    ∙ ap (λ i. get_or b i 64) is)

-- what a page has, and what another length of it changes
pub lack_with : (ns : List ℕ) (p m : ℕ) → p < length ns
    → ((lack_of (set ns p m) ≡ 64 - m) × (lack_of ns ≡ 64 - length_at ns p)) ⊎ (lack_of (set ns p m) ≡ lack_of ns)
lack_with ns p m inside =
    let long = length-set ns p m in
    elim (cases_eq (length ns - 1) p) [
      | inl is ↦
          let at : length (set ns p m) - 1 ≡ p = omega (arith, is, long) in
          inl (
            ap (λ i. 64 - get_or (set ns p m) i 64) at ∙ ap (λ n. 64 - n) (get_or-set_same ns p m 64 inside),
            ap (λ i. 64 - get_or ns i 64) is ∙ ap (λ n. 64 - n) (get_or_default ns p 64 0 inside),
          )
      | inr other ↦
          let at : length (set ns p m) - 1 ≡ length ns - 1 = omega (arith, long) in
          inr (ap (λ i. 64 - get_or (set ns p m) i 64) at ∙ ap (λ n. 64 - n) (get_or-set_other ns p (length ns - 1) m 64 other))
    ]

pub surplus_with : (ns : List ℕ) (p m : ℕ) → p < length ns → surplus_of (set ns p m) + (length_at ns p - 64)
    ≡ surplus_of ns + (m - 64)
surplus_with ns p m inside = sum_by-set (λ n. n - 64) ns p m 0 inside

pub lack_full : (ns : List ℕ) → get_or ns (length ns - 1) 128 ≡ 128 → lack_of ns ≡ 0
lack_full [] full = refl
lack_full (n ∷ ns) full =
    omega (arith, full, get_or_default (n ∷ ns) (length (n ∷ ns) - 1) 64 128 (omega arith))

pub split_surplus : (ns : List ℕ) (p : ℕ) → p < length ns → length_at ns p ≡ 128
    → surplus_of ns ≡ surplus_of (take p ns ++ 64 ∷ 64 ∷ drop (p + 1) ns) + 64
split_surplus ns p inside is =
    let f : ℕ → ℕ = λ n. n - 64 in
    let was = ap (sum_by f) (one_split ns p 0 inside) in
    omega (
      arith,
      was,
      is,
      sum_by-append f (take p ns) (get_or ns p 0 ∷ drop (p + 1) ns),
      sum_by-cons f (get_or ns p 0) (drop (p + 1) ns),
      sum_by-append f (take p ns) (64 ∷ 64 ∷ drop (p + 1) ns),
      sum_by-cons f 64 (64 ∷ drop (p + 1) ns),
      sum_by-cons f 64 (drop (p + 1) ns),
    )

split_last : (n : ℕ) (ns : List ℕ) → n ≡ 128 → lack_of (n ∷ ns) ≤ lack_of (64 ∷ 64 ∷ ns)
split_last n [] is = omega (arith, is)
split_last n (m ∷ ns) is =
    omega (arith, lack_back (n ∷ []) (m ∷ ns) (omega arith), lack_back (64 ∷ 64 ∷ []) (m ∷ ns) (omega arith))

split_lack : (ns : List ℕ) (p : ℕ) → p < length ns → length_at ns p ≡ 128
    → lack_of ns ≤ lack_of (take p ns ++ 64 ∷ 64 ∷ drop (p + 1) ns)
split_lack ns p inside is =
    omega (
      arith,
      ap lack_of (one_split ns p 0 inside),
      lack_back (take p ns) (get_or ns p 0 ∷ drop (p + 1) ns) (omega arith),
      lack_back (take p ns) (64 ∷ 64 ∷ drop (p + 1) ns) (omega arith),
      split_last (get_or ns p 0) (drop (p + 1) ns) is,
    )

lack_small : (ns : List ℕ) → lack_of ns ≤ 64
lack_small ns = omega arith

drop_less : (ns : List ℕ) (first last : ℕ) → first ≤ last → surplus_of (drop last ns) ≤ surplus_of (drop first ns)
drop_less ns first last order =
    let f : ℕ → ℕ = λ n. n - 64 in
    let is : first + (last - first) ≡ last = omega (arith, order) in
    let shown = drop-drop (last - first) first ns ∙ ap (λ k. drop k ns) is in
    omega (arith, ap (sum_by f) shown, sum_by-take-drop f (drop first ns) (last - first))

gone_surplus : (ns : List ℕ) (first last : ℕ) → first ≤ last → surplus_of (take first ns ++ drop last ns) ≤ surplus_of ns
gone_surplus ns first last order =
    let f : ℕ → ℕ = λ n. n - 64 in
    omega (arith, sum_by-append f (take first ns) (drop last ns), sum_by-take-drop f ns first, drop_less ns first last order)

module _ {T : Type 0} (old new : ListState T) where
  -- an item more in a page
  pub halves_put : (p : ℕ) → p < length old.lengths → new.lengths ≡ set old.lengths p (length_at old.lengths p + 1)
      → new.free ≡ old.free
      → halves_of old ≤ halves_of new + 1
  halves_put p inside lengths free =
      let n = length_at old.lengths p in
      let more = surplus_with old.lengths p (n + 1) inside in
      elim (lack_with old.lengths p (n + 1) inside) [
        | inl last ↦ omega (arith, free, more, ap surplus_of lengths, ap lack_of lengths, last.0, last.1)
        | inr other ↦ omega (arith, free, more, ap surplus_of lengths, ap lack_of lengths, other)
      ]

  -- fewer items in a page
  pub halves_trim : (p m : ℕ) → p < length old.lengths → m ≤ length_at old.lengths p → new.lengths ≡ set old.lengths p m
      → new.free ≡ old.free
      → halves_of old ≤ halves_of new
  halves_trim p m inside fewer lengths free =
      let more = surplus_with old.lengths p m inside in
      elim (lack_with old.lengths p m inside) [
        | inl last ↦ omega (arith, free, fewer, more, ap surplus_of lengths, ap lack_of lengths, last.0, last.1)
        | inr other ↦ omega (arith, free, fewer, more, ap surplus_of lengths, ap lack_of lengths, other)
      ]

  -- a page begun at the end, after one that is full
  pub room_push : get_or old.lengths (length old.lengths - 1) 128 ≡ 128 → new.lengths ≡ old.lengths ++ 1 ∷ []
      → new.free + 1 ≡ old.free
      → insert_room old ≤ insert_room new + 1
  room_push full lengths free =
      let f : ℕ → ℕ = λ n. n - 64 in
      omega (
        arith,
        free,
        ap lack_of lengths,
        ap surplus_of lengths,
        lack_full old.lengths full,
        lack_back old.lengths (1 ∷ []) (omega arith),
        sum_by-append f old.lengths (1 ∷ []),
        sum_by-cons f 1 [],
      )

  -- a full page split in halves
  pub halves_split : (p : ℕ) → p < length old.lengths → length_at old.lengths p ≡ 128
      → new.lengths ≡ take p old.lengths ++ 64 ∷ 64 ∷ drop (p + 1) old.lengths → new.free + 1 ≡ old.free
      → halves_of old ≤ halves_of new
  halves_split p inside full lengths free =
      omega (
        arith,
        free,
        ap lack_of lengths,
        ap surplus_of lengths,
        split_surplus old.lengths p inside full,
        split_lack
            old.lengths p inside full,
      )

  -- pages taken out
  pub halves_gone : (first last : ℕ) → first ≤ last → new.lengths ≡ take first old.lengths ++ drop last old.lengths
      → new.free ≡ old.free + (last - first)
      → halves_of old ≤ halves_of new
  halves_gone first last order lengths free =
      elim (cases_lt first last) [
        | inl some ↦ omega (
          arith,
          some,
          free,
          ap surplus_of lengths,
          gone_surplus old.lengths first last order,
          lack_small
              old.lengths,
        )
        | inr none ↦
            let is : last ≡ first = omega (arith, order, none) in
            let same : new.lengths ≡ old.lengths = lengths ∙ ap (λ k. take first old.lengths ++ drop k old.lengths) is
            ∙ take-append-drop first old.lengths in
            omega (arith, is, free, ap surplus_of same, ap lack_of same)
      ]

  -- a bound that neither falls by more than one, nor does the greater of both
  pub room_bound : old.free ≤ new.free + 1 → halves_of old ≤ halves_of new + 1 → insert_room old ≤ insert_room new + 1
  room_bound free halves = omega (arith, free, halves)

  pub room_kept : old.free ≤ new.free → halves_of old ≤ halves_of new → insert_room old ≤ insert_room new
  room_kept free halves = omega (arith, free, halves)

-- where the second half of a page that was split starts
pub split_start : (ns : List ℕ) (p : ℕ) → p < length ns → page_start (take p ns ++ 64 ∷ 64 ∷ drop (p + 1) ns) (p + 1)
    ≡ page_start ns p + 64
split_start ns p inside =
    let back = 64 ∷ 64 ∷ drop (p + 1) ns in
    let long = length-take-le p ns (omega (arith, inside)) in
    let front = take_at (take p ns) (64 ∷ 64 ∷ drop (p + 1) ns) p long in
    let half = get_or_at (take p ns) 64 (64 ∷ drop (p + 1) ns) 0 p long in
    omega (
      arith,
      ap sum front,
      half,
      start_more (take p ns ++ 64 ∷ 64 ∷ drop (p + 1) ns) p
          (omega (arith, long, length-append (take p ns) (64 ∷ 64 ∷ drop (p + 1) ns))),
    )
