-- The numbers of the objects that are not in a table, which were removed before its newest checkpoint, and of those that a hold
-- keeps.
use Rattle.std.proofs.Common.{◌≡◌, ℕ, zero, suc, ◌+◌, ◌<◌, ◌≤◌, ◌||◌, not, eqb, Bool, true, false, cond, Option, Some, None}
use Rattle.std.proofs.Common.{List, [], ◌∷◌, inl, inr, refl, sym, ◌∙◌, ap, subst, arith}
use Rattle.std.specs.Prelude.{IsSome, is_some, map}
use Rattle.std.specs.List.{All, filter, range_with_len}
use Rattle.std.proofs.lemmas.Bool.{cases_lt}
use Rattle.std.proofs.lemmas.Bool.Decides.{nat_tests}
use Rattle.std.proofs.lemmas.List.Elements.{All-from_get_or, All-filter, All-weaker, filter_passes}
use Rattle.std.proofs.lemmas.List.FromFn.{length-range_with_len, get_or-range_with_len}
use Rattle.object_table.specs.declared.row.ObjectRow.{ObjectRow}
use Rattle.object_table.specs.Table.{numbers, row_of}
use Rattle.object_uploads.specs.State.{NumberedReceipt, QueueState}
use Rattle.object_uploads.specs.Queue.{receipt_in}
use Rattle.object_uploads.specs.Order.{is_out, AreKnown}
use Rattle.plain_disk.specs.Removals.{has}

-- a number has no row
abbrev pub is_missing : List ObjectRow → (number : ℕ) → Bool
is_missing rows number = not (is_some (row_of number rows))

-- those up to a last one that have none
abbrev pub missing_in : List ObjectRow → (last : ℕ) → List ℕ
missing_in rows last = filter (is_missing rows) (range_with_len 1 last)

-- a number has a row that a hold keeps
abbrev pub held_by : Option ObjectRow → Bool
held_by None = false
held_by (Some row) = row.is_held

abbrev pub is_held : List ObjectRow → (number : ℕ) → Bool
is_held rows number = held_by (row_of number rows)

-- those up to a last one that have one
abbrev pub held_in : List ObjectRow → (last : ℕ) → List ℕ
held_in rows last = filter (is_held rows) (range_with_len 1 last)

-- ---- which numbers pass a test

-- those of a range lie in it
ranged : (from count : ℕ) → All (λ number. (from ≤ number) × (number < from + count)) (range_with_len from count)
ranged from count =
    let long = length-range_with_len from count in
    All-from_get_or (λ (number : ℕ). (from ≤ number) × (number < from + count)) (range_with_len from count) 0 (λ i inside.
    let low : i < count = omega (arith, inside, long) in
    let at = get_or-range_with_len from count i 0 low in
    (omega (arith, at), omega (arith, at, low)))

-- a lower number is none of them
none_lower : (test : ℕ → Bool) (from count number : ℕ) → number < from
    → has (filter test (range_with_len from count)) number ≡ false
none_lower test from zero number low = refl
none_lower test from (suc count) number low =
    let other : eqb from number ≡ false = grind (arith, nat_tests) in
    let rest = none_lower test (from + 1) count number (omega (arith, low)) in
    elim (test from) as (λ b. has (cond b (from ∷ filter test (range_with_len (from + 1) count))
    (filter test (range_with_len (from + 1) count))) number ≡ false) [
      | true ↦ ap (λ b. b || has (filter test (range_with_len (from + 1) count)) number) other ∙ rest
      | false ↦ rest
    ]

-- one of the range is one of them where it passes
has_by_test : (test : ℕ → Bool) (from count number : ℕ) → from ≤ number → number < from + count
    → has (filter test (range_with_len from count)) number ≡ test number
has_by_test test from zero number low high = absurd (omega (arith, low, high))
has_by_test test from (suc count) number low high =
    let more = filter test (range_with_len (from + 1) count) in
    elim (cases_lt from number) [
      | inl past ↦
          (let other : eqb from number ≡ false = grind (arith, nat_tests) in
          let rest = has_by_test test (from + 1) count number (omega (arith, past)) (omega (arith, high)) in
          elim (test from) as (λ b. has (cond b (from ∷ more) more) number ≡ test number) [
            | true ↦ ap (λ b. b || has more number) other ∙ rest
            | false ↦ rest
          ])
      | inr here ↦
          (let own : from ≡ number = omega (arith, low, here) in
          let it : eqb from number ≡ true = grind (arith, nat_tests) in
          elim (test from) as (λ b. test from ≡ b → has (cond b (from ∷ more) more) number ≡ test number) [
            | true ↦ λ passes. ap (λ b. b || has more number) it ∙ (sym passes ∙ ap test own)
            | false ↦ λ fails. none_lower test (from + 1) count number (omega (arith, own)) ∙ (sym fails ∙ ap test own)
          ] refl)
    ]

-- a number up to the last is missing where it has no row, and held where a hold keeps its row
pub has_missing : (rows : List ObjectRow) (last number : ℕ) → 1 ≤ number → number ≤ last
    → has (missing_in rows last) number ≡ is_missing rows number
has_missing rows last number low high = has_by_test (is_missing rows) 1 last number low (omega (arith, high))

pub has_held : (rows : List ObjectRow) (last number : ℕ) → 1 ≤ number → number ≤ last
    → has (held_in rows last) number ≡ is_held rows number
has_held rows last number low high = has_by_test (is_held rows) 1 last number low (omega (arith, high))

-- each of those that pass lies in the range
all_passing : (test : ℕ → Bool) (last : ℕ)
    → All (λ number. (1 ≤ number) × (number ≤ last) × (test number ≡ true)) (filter test (range_with_len 1 last))
all_passing test last =
    let P : ℕ → Type 0 = λ number. (1 ≤ number) × (number < 1 + last) in
    let within = All-filter test P (range_with_len 1 last) (ranged 1 last) in
    let passes = filter_passes test (range_with_len 1 last) in
    λ k d inside.
    let in_range = within k d inside in
    let low = in_range.0 in
    let high = in_range.1 in
    (low, omega (arith, high), passes k d inside)

no_row : (found : Option ObjectRow) → not (is_some found) ≡ true → found ≡ None
no_row None is = refl
no_row (Some row) is = absurd cc

-- each of the missing is such a number
pub all_missing : (rows : List ObjectRow) (last : ℕ)
    → All (λ number. (1 ≤ number) × (number ≤ last) × (row_of number rows ≡ None)) (missing_in rows last)
all_missing rows last =
    All-weaker (λ number. (1 ≤ number) × (number ≤ last) × (is_missing rows number ≡ true))
    (λ number. (1 ≤ number) × (number ≤ last) × (row_of number rows ≡ None))
    (λ number is. (is.0, is.1, no_row (row_of number rows) is.2)) (missing_in rows last) (all_passing (is_missing rows) last)

some_row : (found : Option ObjectRow) → held_by found ≡ true → not (is_some found) ≡ false
some_row None is = absurd cc
some_row (Some row) is = refl

-- each of the held lies in the range, and is not missing
pub all_held : (rows : List ObjectRow) (last : ℕ)
    → All (λ number. (number ≤ last) × (has (missing_in rows last) number ≡ false)) (held_in rows last)
all_held rows last =
    All-weaker (λ number. (1 ≤ number) × (number ≤ last) × (is_held rows number ≡ true))
    (λ number. (number ≤ last) × (has (missing_in rows last) number ≡ false))
    (λ number is. (is.1, has_missing rows last number is.0 is.1 ∙ some_row (row_of number rows) is.2)) (held_in rows last)
    (all_passing (is_held rows) last)

-- ---- none is missing from the newest checkpoint on

-- a receipt that is there is that of a number among the receipts'
receipt_listed : (number : ℕ) (receipts : List NumberedReceipt) → IsSome (receipt_in receipts number)
    → has (map (λ (r : NumberedReceipt). r.number) receipts) number ≡ true
receipt_listed number [] some = absurd cc
receipt_listed number (given ∷ receipts) some =
    let rest = receipt_listed number receipts in
    elim (eqb given.number number) as (λ b. eqb given.number number ≡ b
    → (b || has (map (λ (r : NumberedReceipt). r.number) receipts) number) ≡ true) [
      | true ↦ λ own. refl
      | false ↦ λ other. rest (
          let same : receipt_in (given ∷ receipts) number ≡ receipt_in receipts number = rw other refl in
          subst IsSome same some)
    ] refl

-- what a filter keeps was there
kept_was : (test : ℕ → Bool) (list : List ℕ) (number : ℕ) → has (filter test list) number ≡ true → has list number ≡ true
kept_was test [] number is = is
kept_was test (first ∷ list) number is =
    elim (test first) as (λ b. has (cond b (first ∷ filter test list) (filter test list)) number ≡ true
    → has (first ∷ list) number ≡ true) [
      | true ↦ λ any. elim (eqb first number) as (λ b. (b || has (filter test list) number) ≡ true
          → (b || has list number) ≡ true) [
            | true ↦ λ here. refl
            | false ↦ λ later. kept_was test list number later
          ] any
      | false ↦ λ later. elim (eqb first number) as (λ b. (b || has list number) ≡ true) [
        | true ↦ refl
        | false ↦ kept_was test list number later
      ]
    ] is

-- a number of a table's rows has a row
row_listed : (number : ℕ) (rows : List ObjectRow) → has (numbers rows) number ≡ true → IsSome (row_of number rows)
row_listed number [] is = absurd cc
row_listed number (row ∷ rows) is =
    elim (eqb row.number number) as (λ b. (b || has (numbers rows) number) ≡ true
    → IsSome (cond b (Some row) (row_of number rows))) [
      | true ↦ λ here. refl
      | false ↦ λ later. row_listed number rows later
    ] is

pub not_there : (found : Option ObjectRow) → found ≡ None → IsSome found → ⊥
not_there None none there = cc
not_there (Some row) none there = cc

-- an object that is missing is below the newest checkpoint
pub missing_is_below : (uuid : List ℕ) (queue : QueueState) (number : ℕ) → AreKnown uuid queue
    → 0 < queue.maps.objects.checkpoint → number ≤ queue.frontier → row_of number queue.maps.objects.rows ≡ None
    → number < queue.maps.objects.checkpoint
missing_is_below uuid queue number known some within none =
    elim (cases_lt number queue.maps.objects.checkpoint) [
      | inl low ↦ low
      | inr from ↦
          (let rows = queue.maps.objects.rows in
          let listed = receipt_listed number queue.receipts (known.follow number some from within) in
          let given = sym (ap (λ list. has list number) known.receipts) ∙ listed in
          let there = row_listed number rows (kept_was (λ n. not (is_out queue.removal n)) (numbers rows) number given) in
          absurd (not_there (row_of number rows) none there))
    ]
