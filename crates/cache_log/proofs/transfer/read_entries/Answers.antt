use Rattle.std.proofs.Common.{rules, ◌≡◌, ◌+◌, ◌-◌, ◌<◌, ◌≤◌, ◌∷◌, ◌++◌, [], List, length, get_or, true, sym, subst, arith}
use Rattle.std.specs.Prelude.{IfErr}
use Rattle.lsvd_base.specs.declared.entry.Entry.{Entry}
use Rattle.lsvd_device.specs.Device.{HoldsNow}
use Rattle.commit_slot.specs.Commits.{CommitsState}
use Rattle.cache_log.specs.Rows.{seq_of, position_of, entry_of}
use Rattle.cache_log.specs.Log.{row_of}
use Rattle.cache_log.specs.Reads.{AreReadOnly, reads_without_fault}
use Rattle.cache_log.specs.Writing.{RowLiesInside}
use Rattle.cache_log.specs.declared.row.Row.{Row}
use Rattle.cache_log.proofs.ReadCounts.{read_none, only_more, only_then, read_error_then}
use Rattle.cache_log.proofs.ReadLemmas.{none_so_far, one_so_far, all_so_far, none_of_so_far, one_of_so_far, all_of_so_far}
use Rattle.cache_log.proofs.AheadLemmas.{none_ahead}
use Rattle.cache_log.proofs.ReadLemmas.{row_lies, SoFar, AreOfSoFar}
use Rattle.cache_log.proofs.transfer.read_entries.Goals as goal

pub loop-index-init : goal.loop-index-init
loop-index-init g c = record {
  only = read_none _ c.args.commits.now c.requires.on_disk;
  piece = none_ahead c.in_ok-ahead.ahead c.args.commits.now.disk.moments (search rules);
  within = omega arith;
  so_far = none_so_far c.args.rows.now.items c.args.skipped c.new-entries.result.items c.args.commits.now.disk.moments
      c.new-entries.ensures.items;
  rows = none_of_so_far c.args.rows.now.items c.args.skipped c.new-entries.result.items c.new-entries.ensures.items;
}

pub read_entry-requires-clause-inside : goal.read_entry-requires-clause-inside
read_entry-requires-clause-inside g c =
    let rows : List Row = c.args.rows.now.items in
    let inside : c.loop-index.index < length rows = search rules in
    let is : c.index.result.now ≡ get_or rows c.loop-index.index c.index.result.now = search rules in
    subst (RowLiesInside c.index.result.now) (sym c.sectors.ensures)
    (row_lies rows c.loop-index.index c.index.result.now c.args.room.now.log inside is c.requires.inside)

pub returns-in_err-entry-clause-err : goal.returns-in_err-entry-clause-err
returns-in_err-entry-clause-err g c =
    let second : IfErr c.from_residual-in_err-entry.result (λ e. AreReadOnly 1 (reads_without_fault e) c.loop-index.commits
    c.read_entry.new.commits) = search rules in
    let inside : c.loop-index.index < length c.args.rows.now.items = search rules in
    let from = c.loop-index.auto.index in
    read_error_then c.from_residual-in_err-entry.result (c.loop-index.index - c.args.skipped) 1
    (length c.args.rows.now.items - c.args.skipped) c.args.commits.now c.loop-index.commits c.read_entry.new.commits
    c.loop-index.invariant.only second (omega (arith, inside, from))

pub returns-in_err-push-clause-err : goal.returns-in_err-push-clause-err
returns-in_err-push-clause-err g c =
    let inside : c.loop-index.index < length c.args.rows.now.items = search rules in
    let from = c.loop-index.auto.index in
    let one : AreReadOnly 1 true c.loop-index.commits c.read_entry.new.commits = search rules in
    let all : AreReadOnly (length c.args.rows.now.items - c.args.skipped) true c.args.commits.now c.read_entry.new.commits =
    only_then (c.loop-index.index - c.args.skipped) 1 (length c.args.rows.now.items - c.args.skipped) true c.args.commits.now
    c.loop-index.commits c.read_entry.new.commits c.loop-index.invariant.only one (omega (arith, inside, from)) in
    search (all, rules)

pub loop-index-preserved : goal.loop-index-preserved
loop-index-preserved g c =
    let rows : List Row = c.args.rows.now.items in
    let old : CommitsState = c.args.commits.now in
    let row : Row = c.index.result.now in
    let entry : Entry = c.in_ok-entry.entry in
    let inside : c.loop-index.index < length rows = search rules in
    let from = c.loop-index.auto.index in
    let is : row ≡ get_or rows c.loop-index.index row = search rules in
    let one : AreReadOnly 1 true c.loop-index.commits c.read_entry.new.commits = search rules in
    let read : HoldsNow (λ n. entry ≡ entry_of n.bytes row) c.loop-index.commits.disk.moments = search rules in
    let own : row ≡ row_of (seq_of row) (position_of row) entry = search rules in
    let read_first : HoldsNow (λ n. entry ≡ entry_of n.bytes row) old.disk.moments =
    subst (HoldsNow (λ n. entry ≡ entry_of n.bytes row)) c.loop-index.invariant.only.moments read in
    let pushed : c.push.new.self.items ≡ c.loop-index.entries.items ++ entry ∷ [] = search rules in
    let more = one_so_far rows c.args.skipped c.loop-index.index c.loop-index.entries.items row entry old.disk.moments from inside
    is c.loop-index.invariant.so_far read_first in
    record {
      only = only_then (c.loop-index.index - c.args.skipped) 1 (c.loop-index.index + 1 - c.args.skipped) true old
          c.loop-index.commits c.read_entry.new.commits c.loop-index.invariant.only one (omega (arith, from));
      piece = search rules;
      within = omega (arith, inside, from);
      so_far = subst (λ list. SoFar rows c.args.skipped (c.loop-index.index + 1) list old.disk.moments) (sym pushed) more;
      rows = subst (AreOfSoFar rows c.args.skipped (c.loop-index.index + 1)) (sym pushed)
          (one_of_so_far rows c.args.skipped c.loop-index.index c.loop-index.entries.items row entry from inside is
          c.loop-index.invariant.rows own);
    }

pub returns-clause-entries : goal.returns-clause-entries
returns-clause-entries g c =
    let end : length c.args.rows.now.items ≤ c.loop-index.index = search rules in
    all_so_far c.args.rows.now.items c.args.skipped c.loop-index.index c.loop-index.entries.items c.args.commits.now.disk.moments
    end c.loop-index.invariant.so_far

pub returns-clause-rows : goal.returns-clause-rows
returns-clause-rows g c =
    let end : length c.args.rows.now.items ≤ c.loop-index.index = search rules in
    all_of_so_far c.args.rows.now.items c.args.skipped c.loop-index.index c.loop-index.entries.items end
    c.loop-index.invariant.rows

pub returns-clause-read : goal.returns-clause-read
returns-clause-read g c = only_more _ _ true c.args.commits.now c.loop-index.commits c.loop-index.invariant.only
    c.loop-index.invariant.within
