use Rattle.std.proofs.Common.{◌≡◌, ◌-◌, ◌+◌, ◌≤◌, ◌++◌, ℕ, List, length, take, drop, map, true, refl, sym, ◌∙◌, ap, subst}
use Rattle.std.specs.Prelude.{Result, Ok, Err, OnOk, IfOk, IfErr, Vec, min}
use Rattle.std.specs.List.{AllByRecursion}
use Rattle.std.proofs.lemmas.List.{take-append-drop, length-drop, drop-drop, drop_min}
use Rattle.lsvd_base.specs.declared.entry.Entry.{Entry}
use Rattle.std.specs.declared.alloc.Global.{Global}
use Rattle.lsvd_device.specs.Medium.{Medium}
use Rattle.lsvd_device.specs.Device.{HoldsNow}
use Rattle.commit_body.specs.declared.body.Mark.{Mark}
use Rattle.commit_slot.specs.Commits.{CommitsState}
use Rattle.log_room.specs.Room.{Room}
use Rattle.cache_log.specs.declared.error.LogReadError.{LogReadError}
use Rattle.cache_log.specs.declared.row.Row.{Row}
use Rattle.cache_log.specs.Rows.{position_of, record_size, entry_of}
use Rattle.cache_log.specs.Reads.{AreReadOnly, reads_without_fault}
use Rattle.cache_log.specs.Log.{LogState, AreRowsOf, HasSameEntries, IsReadOnly, entries_in}
use Rattle.cache_log.specs.Invariant.{IsLog}
use Rattle.cache_log.proofs.ReadLemmas.{all_inside, entries_on_ok}
use Rattle.cache_log.proofs.WriteLemmas.{read_log}
use Rattle.cache_log.proofs.CommittedLemmas.{view_of}
use Rattle.cache_log.proofs.log.CacheLog.entries_from.Goals as goal

-- whatever was answered, the device was read alone
still_log : {T : Type 0} (r : Result T LogReadError) (most : ℕ) (place : Room) (mark : Mark) (held rows : List Row)
    (old new : CommitsState) → OnOk r (AreReadOnly most true old new)
    → IfErr r (λ e. AreReadOnly most (reads_without_fault e) old new) → IsLog place mark held rows old
    → IsLog place mark held rows new
still_log (Ok x) most place mark held rows old new only err log = read_log place mark held rows old new log only.same only.moments
    only.reads.calls.size only.on_disk
still_log (Err e) most place mark held rows old new only err log = read_log place mark held rows old new log err.same err.moments
    err.reads.calls.size err.on_disk

pub invariant_of-self : goal.invariant_of-self
invariant_of-self g c = (
  c.self.invariant.0,
  still_log c.read_entries.result _ _ _ _ _ _ _ c.read_entries.ensures.read
      c.read_entries.ensures.err c.self.invariant.1,
)

pub read_entries-requires-clause-inside : goal.read_entries-requires-clause-inside
read_entries-requires-clause-inside g c =
    let items : List Row = c.self.inside.rows.items in
    let P : List Row → Type 0 = AllByRecursion (λ row. position_of row + record_size row ≤ c.self.inside.room.log) in
    subst P (take-append-drop c.self.inside.dropped items) (all_inside _ _ _ _ _ c.self.invariant.1)

-- the rows that are not skipped are those from the seq on
left_from : (count seq d : ℕ) (items : List Row) (log : LogState) (view : LogState) → view.rows ≡ drop d items → view ≡ log
    → count ≡ min (seq - log.first) (length log.rows)
    → drop (d + count) items ≡ drop (seq - view.first) (drop d items)
left_from count seq d items log view same seen is =
    let k : ℕ = seq - view.first in
    let rows : List Row = drop d items in
    let counted : count ≡ min k (length rows) = is ∙ ap (λ (l : LogState). min (seq - l.first) (length l.rows)) (sym seen)
    ∙ ap (λ r. min k (length r)) same in
    ap (λ n. drop (d + n) items) counted ∙ sym (drop-drop (min k (length rows)) d items) ∙ drop_min k rows

pub returns-clause-entries : goal.returns-clause-entries
returns-clause-entries g c =
    let d : ℕ = c.self.inside.dropped in
    let items : List Row = c.self.inside.rows.items in
    let k : ℕ = c.args.seq - c.self.inside.tail.seq in
    let skipped = left_from c.count_below.result c.args.seq d items _ _ refl c.self.view_is c.count_below.ensures.count in
    let moments : List Medium = c.self.inside.commits.disk.moments in
    let read = subst (λ l. IfOk c.read_entries.result (λ list. HoldsNow (λ now. list.items ≡ map (entry_of now.bytes) l) moments))
    skipped c.read_entries.ensures.entries in
    rw (← c.self.view_is) (entries_on_ok (λ (list : Vec Entry Global). list.items) c.read_entries.result (drop d items) k
    moments read)

pub returns-clause-rows : goal.returns-clause-rows
returns-clause-rows g c =
    let skipped = left_from c.count_below.result c.args.seq c.self.inside.dropped c.self.inside.rows.items _ _ refl c.self.view_is
    c.count_below.ensures.count in
    rw (← c.self.view_is) (subst (λ l. IfOk c.read_entries.result (λ list. AreRowsOf l list.items)) skipped
    c.read_entries.ensures.rows)

-- the log is as before but for its commits, which were read
kept_entries : (place : Room) (mark : Mark) (held rows : List Row) (old new : CommitsState) (reserved : ℕ)
    → new.disk.moments ≡ old.disk.moments
    → HasSameEntries (view_of place mark held rows old reserved) (view_of place mark held rows new reserved)
kept_entries place mark held rows old new reserved same = record {
  entries = ap (entries_in rows) same;
  rows = refl;
  all = ap (entries_in (held ++ rows)) same;
  held = refl;
  room = refl;
  start = refl;
  first = refl;
}

read_ok : {T : Type 0} (r : Result T LogReadError) (most limit : ℕ) (place : Room) (mark : Mark) (held rows : List Row)
    (old new : CommitsState) (reserved : ℕ) → most ≡ limit → OnOk r (AreReadOnly most true old new)
    → OnOk r (IsReadOnly limit true (view_of place mark held rows old reserved) (view_of place mark held rows new reserved))
read_ok (Ok x) most limit place mark held rows old new reserved same only = record {
  same = kept_entries place mark held rows old new reserved only.moments;
  commits = subst (λ n. AreReadOnly n true old new) same only;
}
read_ok (Err e) most limit place mark held rows old new reserved same only = tt

read_err : {T : Type 0} (r : Result T LogReadError) (most limit : ℕ) (place : Room) (mark : Mark) (held rows : List Row)
    (old new : CommitsState) (reserved : ℕ) → most ≡ limit
    → IfErr r (λ e. AreReadOnly most (reads_without_fault e) old new)
    → IfErr r (λ e. IsReadOnly limit (reads_without_fault e) (view_of place mark held rows old reserved)
    (view_of place mark held rows new reserved))
read_err (Ok x) most limit place mark held rows old new reserved same only = tt
read_err (Err e) most limit place mark held rows old new reserved same only = record {
  same = kept_entries place mark held rows old new reserved only.moments;
  commits = subst (λ n. AreReadOnly n (reads_without_fault e) old new) same only;
}

-- as many entries are read as are left from the seq on
left_count : (count seq d : ℕ) (items : List Row) (log : LogState) (view : LogState) → view.rows ≡ drop d items → view ≡ log
    → count ≡ min (seq - log.first) (length log.rows)
    → length items - (d + count) ≡ length (drop d items) - (seq - view.first)
left_count count seq d items log view same seen is =
    sym (length-drop (d + count) items) ∙ (ap length (left_from count seq d items log view same seen is)
    ∙ length-drop (seq - view.first) (drop d items))

pub returns-clause-ok : goal.returns-clause-ok
returns-clause-ok g c =
    let d : ℕ = c.self.inside.dropped in
    let items : List Row = c.self.inside.rows.items in
    let count = left_count c.count_below.result c.args.seq d items _ _ refl c.self.view_is c.count_below.ensures.count in
    rw (← c.self.view_is) (read_ok c.read_entries.result _ _ c.self.inside.room c.self.inside.tail (take d items) (drop d items)
    c.self.inside.commits c.read_entries.new.commits _ count c.read_entries.ensures.read)

pub returns-clause-err : goal.returns-clause-err
returns-clause-err g c =
    let d : ℕ = c.self.inside.dropped in
    let items : List Row = c.self.inside.rows.items in
    let count = left_count c.count_below.result c.args.seq d items _ _ refl c.self.view_is c.count_below.ensures.count in
    rw (← c.self.view_is) (read_err c.read_entries.result _ _ c.self.inside.room c.self.inside.tail (take d items) (drop d items)
    c.self.inside.commits c.read_entries.new.commits _ count c.read_entries.ensures.err)
