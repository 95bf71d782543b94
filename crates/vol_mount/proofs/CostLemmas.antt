-- The calls of the steps of a mount, one after the other.
use Rattle.std.proofs.Common.{◌≡◌, ℕ, ◌*◌, ◌≤◌, Bool, true, List, [], ◌∷◌, refl, sym, subst, inl, inr, arith}
use Rattle.std.specs.Prelude.{Option, None}
use Rattle.lsvd_base.specs.declared.geometry.Geometry.{Geometry}
use Rattle.lsvd_device.specs.Medium.{Medium}
use Rattle.lsvd_device.specs.Calls.{Cost, together}
use Rattle.lsvd_device.specs.Device.{DiskState, HoldsNow, MakesCalls}
use Rattle.lsvd_device.proofs.Together.{made_then}
use Rattle.commit_body.specs.declared.body.CommitBody.{CommitBody}
use Rattle.commit_slot.specs.Slots.{Reads}
use Rattle.commit_slot.specs.Commits.{CommitsState, commit_cost}
use Rattle.commit_slot.specs.Loading.{MakesAtMost, load_cost}
use Rattle.cache_log.specs.Reads.{AreReadOnly, MakesReads, reads_cost}
use Rattle.cache_log.specs.Opening.{entry_count}
use Rattle.cache_log.proofs.ForCallers.{nothing_taken}
use Rattle.vol_mount.specs.Costs.{open_cost, again_cost, mount_cost, IsEntryCount, CostsMount}
use Rattle.vol_mount.proofs.Moments.{now_as}

pub most_then : (a b : Cost) (is_made : Bool) (old middle new : DiskState) → MakesAtMost a true old middle
    → MakesAtMost b is_made middle new
    → MakesAtMost (together a b) is_made old new
most_then a b is_made old middle new first second =
    let c = first.most_calls in
    let d = second.most_calls in
    let e = first.most_changes in
    let f = second.most_changes in
    let h = first.most_bytes in
    let k = second.most_bytes in
    record {
      cost = together first.cost second.cost;
      most_calls = omega (arith, c, d);
      most_changes = omega (arith, e, f);
      most_bytes = omega (arith, h, k);
      calls = made_then first.cost second.cost is_made old middle new first.calls second.calls;
    }

-- what is at most one cost is at most a greater one
at_most : (a b : Cost) (is_made : Bool) (old new : DiskState) → a.calls ≤ b.calls → a.changes ≤ b.changes → a.bytes ≤ b.bytes
    → MakesAtMost a is_made old new → MakesAtMost b is_made old new
at_most a b is_made old new calls changes bytes most =
    let c = most.most_calls in
    let e = most.most_changes in
    let h = most.most_bytes in
    record {
      cost = most.cost;
      most_calls = omega (arith, c, calls);
      most_changes = omega (arith, e, changes);
      most_bytes = omega (arith, h, bytes);
      calls = most.calls;
    }

pub most_more : (a b : Cost) (is_made : Bool) (old new : DiskState) → MakesAtMost a is_made old new
    → MakesAtMost (together a b) is_made old new
most_more a b is_made old new most = at_most a (together a b) is_made old new (omega arith) (omega arith) (omega arith) most

pub most_reads : (n : ℕ) (is_made : Bool) (old new : DiskState) → MakesReads n is_made old new
    → MakesAtMost (reads_cost n) is_made old new
most_reads n is_made old new reads =
    record {
      cost = reads_cost reads.count;
      most_calls = reads.within;
      most_changes = omega arith;
      most_bytes = omega arith;
      calls = reads.calls;
    }

-- fewer reads
pub fewer_reads : (fewer more : ℕ) (is_made : Bool) (old new : DiskState) → fewer ≤ more → MakesReads fewer is_made old new
    → MakesReads more is_made old new
fewer_reads fewer more is_made old new less reads =
    let within = reads.within in
    record { count = reads.count; within = omega (arith, within, less); calls = reads.calls }

-- the commits were loaded, and the log was opened or not
pub opened_calls : (n : ℕ) (is_made : Bool) (old : DiskState) (middle new : CommitsState)
    → MakesAtMost load_cost true old middle.disk
    → AreReadOnly (2 * n) is_made middle new → MakesAtMost (open_cost n) is_made old new.disk
opened_calls n is_made old middle new first second =
    most_then load_cost (reads_cost (2 * n)) is_made old middle.disk new.disk first
    (most_reads (2 * n) is_made middle.disk new.disk second.reads)

-- the calls of a commit where none is unfinished
pub most_commit : (unfinished : Option CommitBody) (is_made : Bool) (old new : DiskState) → unfinished ≡ None
    → MakesCalls (commit_cost unfinished) is_made old new → MakesAtMost (commit_cost None) is_made old new
most_commit unfinished is_made old new none calls =
    let P : Option CommitBody → Type 0 = λ u. MakesCalls (commit_cost u) is_made old new in
    record {
      cost = commit_cost None;
      most_calls = omega arith;
      most_changes = omega arith;
      most_bytes = omega arith;
      calls = subst P none calls;
    }

-- no call
pub no_calls : (cost : Cost) (old new : DiskState) → new ≡ old → MakesAtMost cost true old new
no_calls cost old new same =
    let none : MakesAtMost cost true old old = record {
      cost = reads_cost 0;
      most_calls = omega arith;
      most_changes = omega arith;
      most_bytes = omega arith;
      calls = record { size = refl; faults = refl; budget = nothing_taken old.budget };
    } in
    subst (MakesAtMost cost true old) (sym same) none

-- ---- the entries of the commit that is read

-- a mount came to no entry
counts_none : (log : ℕ) (moments : List Medium) → HoldsNow (IsEntryCount log 0) moments
counts_none log [] = tt
counts_none log (now ∷ past) = inl refl

-- the entries are those of the commit that was loaded
counts_read : (log number : ℕ) (body : CommitBody) (moments : List Medium)
    → HoldsNow (λ now. Reads log now.bytes body number) moments
    → HoldsNow (IsEntryCount log (entry_count body)) moments
counts_read log number body moments read =
    now_as (λ now. Reads log now.bytes body number) (IsEntryCount log (entry_count body)) moments
    (λ now is. inr (number, body, is, refl)) read

-- ---- the calls of a mount

-- it made no call
pub costs_nothing : (geometry : Geometry) (old new : DiskState) → new ≡ old → CostsMount geometry.log true old new
costs_nothing geometry old new same =
    record { count = 0; is_count = counts_none geometry.log old.moments; calls = no_calls (mount_cost 0) old new same }

-- it loaded the commits alone, or that failed
pub costs_load : (geometry : Geometry) (is_made : Bool) (old new : DiskState) → MakesAtMost load_cost is_made old new
    → CostsMount geometry.log is_made old new
costs_load geometry is_made old new load = record {
  count = 0;
  is_count = counts_none geometry.log old.moments;
  calls = at_most load_cost (mount_cost 0) is_made old new (omega arith) (omega arith) (omega arith) load;
}

-- it opened the log, or that failed
pub costs_open : (geometry : Geometry) (is_made : Bool) (old new : DiskState) (number : ℕ) (body : CommitBody)
    → HoldsNow (λ now. Reads geometry.log now.bytes body number) old.moments
    → MakesAtMost (open_cost (entry_count body)) is_made old new
    → CostsMount geometry.log is_made old new
costs_open geometry is_made old new number body read opens = record {
  count = entry_count body;
  is_count = counts_read geometry.log number body old.moments read;
  calls = most_more (open_cost (entry_count body)) (again_cost (entry_count body)) is_made old new opens;
}

-- and then it committed again, or that failed
pub costs_again : (geometry : Geometry) (is_made : Bool) (old middle new : DiskState) (number : ℕ) (body : CommitBody)
    → HoldsNow (λ now. Reads geometry.log now.bytes body number) old.moments
    → MakesAtMost (open_cost (entry_count body)) true old middle
    → MakesAtMost (again_cost (entry_count body)) is_made middle new → CostsMount geometry.log is_made old new
costs_again geometry is_made old middle new number body read opens again = record {
  count = entry_count body;
  is_count = counts_read geometry.log number body old.moments read;
  calls = most_then (open_cost (entry_count body)) (again_cost (entry_count body)) is_made old middle new opens again;
}
