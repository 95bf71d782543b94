-- A source that a copy names and that the replay still maps is named by the checkpoint, or it has landed.
use Rattle.std.proofs.Common.{◌≡◌, ℕ, zero, suc, ◌+◌, ◌-◌, ◌<◌, ◌≤◌, inl, inr, Bool, true, false, Option, Some, None}
use Rattle.std.proofs.Common.{List, cond, sym, ◌∙◌, ap, arith}
use Rattle.std.specs.Prelude.{◌⊎◌}
use Rattle.std.proofs.lemmas.Bool.Decides.{nat_tests}
use Rattle.lsvd_objstore.specs.Objects.{Objects}
use Rattle.object_format.specs.declared.expected.Expected.{Expected}
use Rattle.object_format.specs.declared.rows.Rows.{Rows}
use Rattle.object_format.specs.declared.rows.Rows.TheVariants as rows_of
use Rattle.object_stream.specs.declared.change.Change.{Change}
use Rattle.object_stream.specs.declared.change.Change.TheVariants.{Put, Clear}
use Rattle.object_stream.specs.declared.owner.Owner.{Owner}
use Rattle.object_stream.specs.Changes.{change_in}
use Rattle.object_stream.specs.Replay.{source_at, after_rows, Replays}
use Rattle.object_stream.specs.Stream.{Owners, is_own, owner_by_change, owner_by_copy}
use Rattle.object_recovery.specs.Judging.{HaveLanded}
use Rattle.vol_check.specs.Report.{IsThere, IsSource, HasOwner, owner_at}

-- ---- one object

-- an owner is as before, or the object itself
abbrev IsKeptOr : (number : ℕ) → Option Owner → Owner → Type 0
IsKeptOr number before owner = (before ≡ Some owner) ⊎ (owner ≡ owner_at 0 number)

itself : (number : ℕ) (before : Option Owner) (owner : Owner) → Some (owner_at 0 number) ≡ Some owner
    → IsKeptOr number before owner
itself number before owner is = inr cc

by_change : (number : ℕ) (change : Option Change) (before : Option Owner) (owner : Owner)
    → owner_by_change number change before ≡ Some owner → IsKeptOr number before owner
by_change number None before owner is = inl is
by_change number (Some (Put sector)) before owner is = itself number before owner is
by_change number (Some Clear) before owner is = absurd cc

by_test : (number : ℕ) (test : Bool) (before : Option Owner) (owner : Owner)
    → cond test (Some (owner_at 0 number)) before ≡ Some owner → IsKeptOr number before owner
by_test number true before owner is = itself number before owner is
by_test number false before owner is = inl is

by_copy : (number : ℕ) (source : Option ℕ) (before : Option Owner) (owner : Owner)
    → owner_by_copy number source before ≡ Some owner → IsKeptOr number before owner
by_copy number None before owner is = inl is
by_copy number (Some source) before owner is = by_test number (is_own source before) before owner is

by_rows : (number : ℕ) (rows : Rows) (payload : List ℕ) (before : Owners) (k : ℕ) (owner : Owner)
    → after_rows number rows payload before k ≡ Some owner → IsKeptOr number (before k) owner
by_rows number (rows_of.Data rows) payload before k owner is =
    by_change number (change_in rows.items payload k) (before k) owner is
by_rows number (rows_of.Copy rows) payload before k owner is =
    by_copy number (source_at rows.items k) (before k) owner is
by_rows number rows_of.Checkpoint payload before k owner is = inl is

-- ---- all of them

-- an owner after a replay is as before it, or one of the objects replayed
pub owner_from : (objects : Objects) (volume : Expected) (number end : ℕ) (before : Owners) (count last_end : ℕ)
    (after : Owners) → Replays objects volume number end before count last_end after → (k : ℕ) (owner : Owner)
    → after k ≡ Some owner
    → (before k ≡ Some owner) ⊎ ((number < owner.number) × (owner.number ≤ number + count))
owner_from objects volume number end before zero last_end after replays k owner is = inl (sym (replays.1 k) ∙ is)
owner_from objects volume number end before (suc count) last_end after replays k owner is =
    let header = replays.1 in
    let rows = replays.2 in
    let payload = replays.3 in
    let middle : Owners = after_rows (number + 1) rows payload before in
    elim (owner_from objects volume (number + 1) header.end_seq middle count last_end after replays.6 k owner is) [
      | inl kept ↦ elim (by_rows (number + 1) rows payload before k owner kept) [
        | inl same ↦ inl same
        | inr own ↦ let n = ap (λ (o : Owner). o.number) own in inr (omega (arith, n), omega (arith, n))
      ]
      | inr later ↦ inr (omega (arith, later.0), omega (arith, later.1))
    ]

-- ---- a source

-- the volume's own object of a number, where an owner is
pub owner_is : (number : ℕ) (owner : Option Owner) → is_own number owner ≡ true → owner ≡ Some (owner_at 0 number)
owner_is number None is = absurd cc
owner_is number (Some owner) is =
    let level : owner.level ≡ 0 = grind (arith, nat_tests, is) in
    let same : owner.number ≡ number = grind (arith, nat_tests, is) in
    ap (λ (l : ℕ). Some (owner_at l owner.number)) level ∙ ap (λ (n : ℕ). Some (owner_at 0 n)) same

-- it is named by the checkpoint, or it has landed after that
pub source_from : (volume : Expected) (objects : Objects) (base end : ℕ) (owned : Owners) (last source : ℕ)
    → HaveLanded objects volume base last → IsSource volume objects base end owned last source
    → HasOwner owned (owner_at 0 source) ⊎ IsThere volume objects source
source_from volume objects base end owned last source landed is =
    let number = is.number in
    elim (owner_from objects volume base end owned (number - 1 - base) is.end_before is.before is.replayed is.k
    (owner_at 0 source) (owner_is source (is.before is.k) is.owns)) [
      | inl kept ↦ inl (is.k, kept)
      | inr later ↦ inr (landed source later.0 (omega (arith, later.1, is.past, is.within)))
    ]
