-- The rows of a plan: they stand apart in the payload, and once all are written, the plan is copied.
use Rattle.std.proofs.Common.{◌≡◌, ℕ, ◌+◌, ◌*◌, ◌≤◌, inl, inr, List, [], ◌∷◌, length, get_or, refl, arith}
use Rattle.std.specs.List.{All}
use Rattle.std.specs.List.Sorted.{IsPermutation}
use Rattle.std.proofs.lemmas.List.Elements.{All-nil, All-cons, All-weaker, Contains-get_or}
use Rattle.std.proofs.lemmas.List.Sorted.{All-permutation, Contains-permutation}
use Rattle.std.proofs.lemmas.List.Sums.{sum_by-cons}
use Rattle.object_format.specs.declared.copy_row.CopyRow.{CopyRow}
use Rattle.gc_copier.specs.Plan.{SourceState, StandInOrder, HasSource, IsPlan, sectors_of}
use Rattle.gc_copier.specs.Copying.{IsCopied}
use Rattle.gc_copier.specs.Runs.{HasRoom, CanRead, AreApart, Fills}

-- ---- where rows stand

-- rows in order stand past each sector that the first stands past
all_past : (low lba at : ℕ) (rows : List CopyRow) → low ≤ at → StandInOrder lba at rows
    → All (λ (row : CopyRow). low ≤ row.place) rows
all_past low lba at [] le order = All-nil (λ (row : CopyRow). low ≤ row.place)
all_past low lba at (row ∷ rows) le order =
    let there = order.0.place in
    All-cons (λ (row : CopyRow). low ≤ row.place) row rows (omega (arith, le, there))
    (all_past low (row.lba + row.sectors) (at + row.sectors) rows (omega (arith, le)) order.1)

-- they end by the sector that is all of theirs past the first
all_end : (end lba at : ℕ) (rows : List CopyRow) → at + sectors_of rows ≤ end → StandInOrder lba at rows
    → All (λ (row : CopyRow). row.place + row.sectors ≤ end) rows
all_end end lba at [] le order = All-nil (λ (row : CopyRow). row.place + row.sectors ≤ end)
all_end end lba at (row ∷ rows) le order =
    let there = order.0.place in
    let sum : sectors_of (row ∷ rows) ≡ row.sectors + sectors_of rows = sum_by-cons (λ (row : CopyRow). row.sectors) row rows in
    All-cons (λ (row : CopyRow). row.place + row.sectors ≤ end) row rows (omega (arith, le, there, sum))
    (all_end end (row.lba + row.sectors) (at + row.sectors) rows (omega (arith, le, sum)) order.1)

-- each stands apart from all of them
all_apart : (lba at : ℕ) (rows : List CopyRow) → StandInOrder lba at rows → All (λ row. All (AreApart row) rows) rows
all_apart lba at [] order = All-nil (λ row. All (AreApart row) [])
all_apart lba at (row ∷ rows) order =
    let there = order.0.place in
    let end = row.place + row.sectors in
    let past = all_past end (row.lba + row.sectors) (at + row.sectors) rows (omega (arith, there)) order.1 in
    let rest = all_apart (row.lba + row.sectors) (at + row.sectors) rows order.1 in
    All-cons (λ other. All (AreApart other) (row ∷ rows)) row rows
    (All-cons (AreApart row) row rows (inl refl)
    (All-weaker (λ (other : CopyRow). end ≤ other.place) (AreApart row) (λ other after. inr (inr after)) rows past))
    (λ k d inside. All-cons (AreApart (get_or rows k d)) row rows (inr (inl (past k d inside))) (rest k d inside))

-- ---- a plan

module _ (rows : List CopyRow) (sources : List SourceState) (plan : IsPlan rows sources) (sorted : List CopyRow)
    (moved : IsPermutation rows sorted) where
  pub can_read : (size : ℕ) → size ≡ 512 * sectors_of rows → CanRead sources size sorted
  can_read size is = record {
    ascending = plan.ascending;
    have = All-permutation (HasSource sources) rows sorted moved plan.have;
    room =
        All-permutation (HasRoom size) rows sorted moved
        (All-weaker (λ (row : CopyRow). row.place + row.sectors ≤ sectors_of rows) (HasRoom size)
        (λ row inside. omega (arith, inside, is)) rows (all_end (sectors_of rows) 0 0 rows (omega arith) plan.order));
  }

  pub is_copied : (blank payload : List ℕ) → length payload ≡ 512 * sectors_of rows → Fills sources sorted blank payload
      → IsCopied rows sources payload
  is_copied blank payload size fills = record {
    plan = plan;
    size = size;
    contents = λ k d inside.
        let row = get_or rows k d in
        fills.each row (All-permutation (AreApart row) rows sorted moved (all_apart 0 0 rows plan.order k d inside))
        (inl (Contains-permutation rows sorted row moved (Contains-get_or rows k d inside)));
  }
