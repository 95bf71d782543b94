-- For `mount_with_cache`: what is shown of a list that was completed and a log that was committed again.
use Rattle.std.proofs.Common.{◌≡◌, ℕ, ◌+◌, ◌-◌, ◌<◌, ◌≤◌, Bool, true, List, [], ◌∷◌, ◌++◌, length, refl, sym, ◌∙◌, ap, subst, inl}
use Rattle.std.proofs.Common.{arith, length-drop, length-append}
use Rattle.std.specs.Prelude.{Option, Some, None, IfSome, IsTrue, max, slice_index_or}
use Rattle.std.specs.List.{All}
use Rattle.std.proofs.lemmas.List.Elements.{All-nil, All-cons}
use Rattle.clone_chain.specs.declared.ancestor.Ancestor.{Ancestor}
use Rattle.lsvd_base.specs.declared.entry.Entry.{Entry}
use Rattle.lsvd_base.specs.declared.geometry.Geometry.{Geometry}
use Rattle.lsvd_base.specs.Limits.{is_within_limits}
use Rattle.lsvd_base.specs.Range.{is_in_range}
use Rattle.lsvd_device.specs.Medium.{Medium}
use Rattle.lsvd_device.specs.Device.{DiskState, IsDisk, HoldsSince}
use Rattle.lsvd_objstore.specs.Objects.{Objects}
use Rattle.commit_body.specs.declared.body.CommitBody.{CommitBody}
use Rattle.commit_slot.specs.Slots.{log_of, Reads}
use Rattle.commit_slot.specs.Commits.{CommitsState, finished_number}
use Rattle.commit_slot.specs.Loading.{MakesAtMost}
use Rattle.commit_slot.proofs.Passing.{passes_on}
use Rattle.cache_log.specs.declared.row.Row.{Row}
use Rattle.cache_log.specs.Rows.{log_start, position_of}
use Rattle.cache_log.specs.Log.{LogState, AreRowsOf, IsTrimmed}
use Rattle.cache_log.specs.Opening.{AreRecordsInRange, AreRowsInRange, IsOpenedLog, entry_count}
use Rattle.upload_window.specs.Window.{WindowState}
use Rattle.obj_log.specs.State.{ObjLogState}
use Rattle.stopped_volume.specs.Device.{CacheOwner, owner_with}
use Rattle.plain_disk.specs.declared.log.PlainCommit.{PlainCommit}
use Rattle.plain_disk.specs.Log.{PlainLog}
use Rattle.plain_disk.specs.State.{PlainState, history_length}
use Rattle.plain_disk.specs.Valid.{IsPlainVolume}
use Rattle.object_recovery.specs.Checkpoints.{expected_of}
use Rattle.refine_log.specs.Shows.{ShowsLog}
use Rattle.refine_log.specs.Fuses.{fuse_in}
use Rattle.refine_log.specs.Logged.{HasLoggedEntries}
use Rattle.refine_objects.specs.Shows.{ShowsObjects}
use Rattle.refine_objects.specs.Table.{ShowsTable}
use Rattle.refine_log.specs.Stops.{HasCommitted, entries_past}
use Rattle.refine_log.proofs.CommittedLemmas.{trimmed_has_committed, commit_has_committed}
use Rattle.refine_mount.specs.Mounted.{end_of_object, mounted_with, mounted_without, log_found, committed_at, going_on, data_in}
use Rattle.refine_mount.specs.Stops.{StopKeepsMount}
use Rattle.refine_mount.specs.Rest.{IsAtRest}
use Rattle.refine_mount.proofs.ListLemmas.{list_shows_some}
use Rattle.refine_mount.proofs.EntryLemmas.{entries_go_on}
use Rattle.refine_mount.proofs.TableLemmas.{entries_keep_table}
use Rattle.refine_mount.proofs.ReopenedLemmas.{reopened_shows_log}
use Rattle.refine_mount.proofs.OpenedLemmas.{opened_has_committed, added_are_logged}
use Rattle.refine_mount.proofs.GoingLemmas.{mounted_is_plain_volume, mounted_is_going_on}
use Rattle.refine_mount.proofs.StopLemmas.{committing_keeps_mount}
use Rattle.vol_core.specs.Volume.{volume_of}
use Rattle.vol_core.specs.Shows.{Shows, IsSmall, max_number, pins_on}
use Rattle.vol_core.specs.Step.{passing}
use Rattle.vol_mount.specs.Costs.{again_cost, CostsMount}
use Rattle.vol_mount.specs.Mounted.{IsOfVolume, NumbersNextCommit}
use Rattle.vol_mount.specs.Mounting.{IsLeft, MountsLeft, KeepsLeft}
use Rattle.vol_mount.specs.Refusals.{HasExtent, IsOwnCommit}
use Rattle.vol_mount.specs.Passing.{PassesLeft}
use Rattle.vol_mount.specs.Steps.{IsRecovered, IsRecoveredFrom, IsOpenedOf, IsCompleted, LeavesFrom, mounted_of}
use Rattle.vol_mount.proofs.Moments.{now_as, now_with}
use Rattle.vol_mount.proofs.RecoveryLemmas.{IsListOf, list_of, knows_stored, good_up_to}
use Rattle.vol_mount.proofs.CostLemmas.{costs_again}
use Rattle.vol_mount.proofs.ShownLemmas.{shown}
use Rattle.vol_mount.proofs.TableLemmas.{none_more, no_pins_then, knows_added}
use Rattle.vol_mount.proofs.AddLemmas.{HasAdded, has_added, entry_in_range, a_row}
use Rattle.vol_mount.proofs.CompleteLemmas.{first_is, rows_in_range}
use Rattle.vol_mount.proofs.FoundLemmas.{left_sizes, reads_one, newest, has_commit, long, load_keeps, body_is, after}
use Rattle.vol_mount.proofs.FoundLemmas.{moments_are, rows_are, entries_left, told_is, left_are}

-- ---- entries of rows

rows_count : (rows : List Row) (entries : List Entry) → AreRowsOf rows entries → length entries ≡ length rows
rows_count [] [] are = refl
rows_count [] (entry ∷ entries) are = absurd are
rows_count (row ∷ rows) [] are = absurd are
rows_count (row ∷ rows) (entry ∷ entries) are = (let rest = rows_count rows entries are.1 in omega (arith, rest))

pub entries_in_range : (geometry : Geometry) (rows : List Row) (entries : List Entry) → AreRowsOf rows entries
    → AreRowsInRange geometry rows
    → All (λ entry. is_in_range geometry entry ≡ true) entries
entries_in_range geometry [] [] are may = All-nil (λ entry. is_in_range geometry entry ≡ true)
entries_in_range geometry [] (entry ∷ entries) are may = absurd are
entries_in_range geometry (row ∷ rows) [] are may = absurd are
entries_in_range geometry (row ∷ rows) (entry ∷ entries) are may =
    All-cons (λ e. is_in_range geometry e ≡ true) entry entries (entry_in_range geometry row entry are.0 may.0)
    (entries_in_range geometry rows entries are.1 may.1)

-- what is told is one
told_one : (told : Option (List Entry)) (all list : List Entry) → told ≡ Some all → IfSome told (λ l. l ≡ list) → list ≡ all
told_one told all list is same = sym (subst (λ t. IfSome t (λ l. l ≡ list)) is same)

-- ---- a plain volume that was left

module _ (uuid : List ℕ) (geometry : Geometry) (chain : List Ancestor) (epoch : ℕ) (list : ObjLogState) (checkpoint : ℕ)
    (told : Option Objects)
    (old : DiskState) (log : LogState)
    (limits : IsTrue (is_within_limits geometry)) (size : log_start ≤ old.size) (sectors : geometry.log ≡ log_of old.size)
    (is_disk : IsDisk old)
    (is : IsRecovered uuid geometry (length chain) list checkpoint)
    (opened : IsOpenedOf (owner_with uuid epoch) geometry list.uploads.queue.end old log)
    (from : IfSome told (λ o. IsRecoveredFrom uuid geometry chain o list checkpoint)) where
  abbrev end : ℕ
  end = list.uploads.queue.end

  abbrev owner : CacheOwner
  owner = owner_with uuid epoch

  abbrev body : CommitBody
  body = opened.commits.body

  abbrev of_log : PlainLog
  of_log = committed_at end (log_found geometry.log body log.rows)

  module _ (plain : PlainState) (found : PlainCommit) (number : ℕ)
      (left : IsLeft owner geometry chain plain found number told old)
    where
      of : (o : Objects) × IsListOf uuid geometry chain plain number o list checkpoint
      of = list_of uuid geometry chain plain number told list checkpoint limits is from left.stored

      abbrev rest : PlainState
      rest = mounted_without geometry.log number plain

      -- its entries past the objects' end
      abbrev entries : List Entry
      entries = entries_left uuid geometry chain epoch plain found number told old size sectors is_disk left end log limits opened

      -- with them it is what a mount is to make
      goes_on : going_on entries of_log rest ≡ mounted_with found number plain
      goes_on =
          let has = has_commit uuid geometry chain epoch plain found number told old size sectors is_disk left in
          let count : ℕ = end_of_object number plain in
          let P : List Entry → ℕ → Geometry → CommitBody → List Row → PlainState =
          λ l n g b r. going_on l (committed_at n (log_found g.log b r)) (mounted_without g.log number plain) in
          ap (λ l. P l end geometry body log.rows)
          (left_are uuid geometry chain epoch plain found number told old size sectors is_disk left end log limits opened
          of.1.end_is)
          ∙ ap (λ n. P (entries_past plain count has.body.head.seq) n geometry body log.rows) of.1.end_is
          ∙ ap (λ g. P (entries_past plain count has.body.head.seq) count g body log.rows)
          (sym (left_sizes uuid geometry chain epoch plain found number told old left))
          ∙ ap (λ b. P (entries_past plain count has.body.head.seq) count plain.geometry b log.rows)
          (sym (body_is uuid geometry chain epoch plain found number told old size sectors is_disk left end log limits opened))
          ∙ ap (λ r. P (entries_past plain count has.body.head.seq) count plain.geometry has.body r)
          (sym (rows_are uuid geometry chain epoch plain found number told old size sectors is_disk left end log limits opened))
          ∙ mounted_is_going_on uuid owner plain found number of.0 _ left.stored.valid of.1.has has

      -- whatever a stop leaves meanwhile reads as the one or as the other
      keeps_left : (new : DiskState) → IsDisk new → LeavesFrom end log new
          → HoldsSince (StopKeepsMount owner plain found number) old.moments new.moments
      keeps_left new new_is_disk leaves =
          let K : Medium → Type 0 = StopKeepsMount owner plain found number in
          let trimmed : LogState = leaves.0 in
          let trims : IsTrimmed end log trimmed = leaves.1 in
          let now = newest uuid geometry chain epoch plain found number told old size sectors is_disk left in
          let loaded = after uuid geometry chain epoch plain found number told old size sectors is_disk left end log limits
          opened in
          let keeps =
          committing_keeps_mount owner plain found number now.now.bytes loaded.newest loaded.older opened.commits log trimmed new
          left.stored.valid
          (has_commit uuid geometry chain epoch plain found number told old size sectors is_disk left)
          (long uuid geometry chain epoch plain found number told old size sectors is_disk left)
          loaded.bytes_are
          (moments_are uuid geometry chain epoch plain found number told old size sectors is_disk left end log limits opened)
          (sym (body_is uuid geometry chain epoch plain found number told old size sectors is_disk left end log limits opened))
          opened.up_to.finished
          (subst (λ g. IsOpenedLog g opened.commits log) (sym
          (left_sizes uuid geometry chain epoch plain found number told old left))
          opened.up_to.opened)
          (sym (rows_are uuid geometry chain epoch plain found number told old size sectors is_disk left end log limits opened))
          (subst (λ n. IsTrimmed n log trimmed) of.1.end_is trims) new_is_disk leaves.2 in
          let moments : trimmed.commits.disk.moments ≡ log.commits.disk.moments =
          ap (λ (c : CommitsState). c.disk.moments) trims.commits in
          passes_on K old.moments log.commits.disk.moments new.moments
          (load_keeps uuid geometry chain epoch plain found number told old size sectors is_disk left log.commits.disk
          opened.settled)
          (subst (λ m. HoldsSince K m new.moments) moments keeps)

  pub completing_keeps : (new : DiskState) → IsDisk new → LeavesFrom end log new → KeepsLeft owner geometry chain told old new
  completing_keeps new new_is_disk leaves = λ plain found number left synced. keeps_left plain found number left new new_is_disk
      leaves

-- ---- the tests

-- store and device passed all, where the log was opened
pub passes_left : (uuid : List ℕ) (geometry : Geometry) (chain : List Ancestor) (epoch : ℕ) (list : ObjLogState)
    (checkpoint greatest : ℕ)
    (told : Option Objects) (old : DiskState) (log : LogState)
    → IsRecovered uuid geometry (length chain) list checkpoint
    → IfSome told (λ o. IsRecoveredFrom uuid geometry chain o list checkpoint)
    → HasExtent uuid geometry chain told greatest list.uploads.queue.end → list.uploads.window.last ≤ greatest
    → (epoch < max_number) × (greatest < max_number)
    → (opened : IsOpenedOf (owner_with uuid epoch) geometry list.uploads.queue.end old log)
    → PassesLeft (owner_with uuid epoch) geometry chain told old list.uploads.window.last
    (max list.uploads.queue.end opened.commits.body.head.seq)
passes_left uuid geometry chain epoch list checkpoint greatest told old log is from extent less low opened =
    let end : ℕ = list.uploads.queue.end in
    let entries : ℕ = max end opened.commits.body.head.seq in
    let most = low.1 in
    let P : ℕ → CommitBody → Type 0 =
    λ n b. IsOwnCommit (owner_with uuid epoch) end b × (n < max_number) × (entries ≡ max end b.head.seq) in
    record {
      good = good_up_to uuid geometry chain told list checkpoint (omega (arith, less, most)) is from;
      greatest = greatest;
      end = end;
      extent = extent;
      low = (low.0, (low.1, (opened.up_to.count, tt)));
      device =
          now_with (λ now. Reads geometry.log now.bytes opened.commits.body opened.commits.number)
          (λ now. AreRecordsInRange geometry opened.commits.body log.rows now.bytes)
          (λ now. (n : ℕ) × (b : CommitBody) × Reads geometry.log now.bytes b n × P n b
          × ((rows : List Row) × AreRecordsInRange geometry b rows now.bytes)) old.moments
          (λ now reads are. (
            opened.commits.number,
            opened.commits.body,
            reads,
            ((opened.is_of, opened.up_to.tail), opened.up_to.number, refl),
            (log.rows, are),
          ))
          opened.read opened.records;
    }

-- ---- its calls

pub completing_costs : (uuid : List ℕ) (geometry : Geometry) (chain : List Ancestor) (epoch end : ℕ) (old new : DiskState)
    (log : LogState) (made : Bool)
    → IsOpenedOf (owner_with uuid epoch) geometry end old log
    → MakesAtMost (again_cost (length log.rows)) made log.commits.disk new → CostsMount geometry.log made old new
completing_costs uuid geometry chain epoch end old new log made opened again =
    let seqs = opened.up_to.opened.rows.seqs in
    let count : length log.rows ≡ entry_count opened.commits.body = omega (arith, seqs) in
    costs_again geometry made old log.commits.disk new opened.commits.number opened.commits.body opened.read opened.calls
    (subst (λ n. MakesAtMost (again_cost n) made log.commits.disk new) count again)

-- ---- the volume

module _ (uuid : List ℕ) (geometry : Geometry) (chain : List Ancestor) (epoch : ℕ) (list : ObjLogState) (checkpoint : ℕ)
    (old : DiskState)
    (log new : LogState) (objects : ObjLogState)
    (limits : IsTrue (is_within_limits geometry)) (is : IsRecovered uuid geometry (length chain) list checkpoint)
    (opened : IsOpenedOf (owner_with uuid epoch) geometry list.uploads.queue.end old log)
    (done : IsCompleted list log new objects) where
  abbrev end_is : ℕ
  end_is = list.uploads.queue.end

  abbrev own_cache : CacheOwner
  own_cache = owner_with uuid epoch

  abbrev found_log : PlainLog
  found_log = committed_at end_is (log_found geometry.log opened.commits.body log.rows)

  trimmed_first : done.trimmed.first ≡ end_is
  trimmed_first = first_is geometry end_is opened.commits log done.trimmed limits opened.up_to done.trims

  abbrev place_of : ℕ → ℕ
  place_of = data_in done.trimmed a_row

  added : HasAdded done.entries list objects
  added = has_added place_of done.entries list objects (done.added a_row)

  in_range : All (λ entry. is_in_range geometry entry ≡ true) done.entries
  in_range =
      entries_in_range geometry done.trimmed.rows done.entries done.rows
      (rows_in_range geometry end_is opened.commits log done.trimmed limits opened.up_to done.trims)

  count_is : end_is + length done.entries ≡ max end_is opened.commits.body.head.seq
  count_is =
      let a = rows_count done.trimmed.rows done.entries done.rows in
      let b = ap length done.trims.rows in
      let c = length-drop (end_is - log.first) log.rows in
      let d = opened.up_to.opened.first in
      let e = opened.up_to.opened.rows.seqs in
      let f = opened.up_to.tail in
      omega (arith, a, b, c, d, e, f)

  shows_log : ShowsLog new found_log
  shows_log =
      subst (λ n. ShowsLog new (committed_at n (log_found geometry.log opened.commits.body log.rows))) trimmed_first
      (reopened_shows_log geometry opened.commits log done.trimmed new end_is limits opened.up_to.may_stand opened.up_to.finished
      opened.up_to.opened
      done.trims done.same done.released done.made)

  data_same : data_in new a_row ≡ place_of
  data_same =
      ap (λ rows. λ seq. position_of (slice_index_or rows (seq - new.first) a_row) + 1) done.same.rows
      ∙ ap (λ first. λ seq. position_of (slice_index_or done.trimmed.rows (seq - first) a_row) + 1) done.same.first

  -- it shows each volume at rest that the list shows, with the entries
  kept_shows : (plain : PlainState) → IsAtRest geometry checkpoint end_is plain
      → ((data_at : ℕ → ℕ) → ShowsObjects data_at list plain) → ShowsTable list.uploads.queue plain
      → Shows (volume_of objects new) (passing (fuse_in new.commits.disk.budget) (going_on done.entries found_log plain))
  kept_shows plain rest shows table =
      let now : PlainState = going_on done.entries found_log plain in
      let valid : IsPlainVolume now =
      mounted_is_plain_volume geometry checkpoint end_is plain opened.commits.body log.rows done.entries rest
      opened.up_to.may_stand
      opened.up_to.opened.rows opened.up_to.tail in_range count_is in
      let of_objects : ShowsObjects place_of objects now =
      entries_go_on place_of geometry checkpoint end_is plain done.entries found_log list objects rest (shows place_of)
      (done.added a_row) in
      let of_table : ShowsTable objects.uploads.queue now =
      entries_keep_table place_of plain done.entries found_log list objects rest.valid table (done.added a_row) in
      let rows : AreRowsOf new.rows done.entries = subst (λ r. AreRowsOf r done.entries) (sym done.same.rows) done.rows in
      let told : IfSome new.entries (λ l. l ≡ done.entries) =
      subst (λ t. IfSome t (λ l. l ≡ done.entries)) (sym done.same.entries) done.told in
      let logged : HasLoggedEntries (data_in new a_row) new now =
      added_are_logged geometry checkpoint end_is plain done.entries found_log new a_row rest (done.same.first
      ∙ trimmed_first) rows told
      done.numbered in
      shown place_of objects new now valid rest.no_plan of_objects of_table shows_log
      (subst (λ d. HasLoggedEntries d new now) data_same logged)

  pub kept_shows_some : (plain : PlainState) × Shows (volume_of objects new) plain
  kept_shows_some =
      let some = list_shows_some uuid geometry chain checkpoint list.uploads.window.last end_is list limits is.numbered is.from
      is.list
      is.order is.places is.table in (
        passing (fuse_in new.commits.disk.budget) (going_on done.entries found_log some.0),
        kept_shows some.0 some.2 some.3 some.4,
      )

  pub last_is : objects.uploads.window.last ≡ list.uploads.window.last
  last_is = ap (λ (w : WindowState). w.last) added.window

  trimmed_number : done.trimmed.commits.number ≡ opened.commits.number
  trimmed_number = ap (λ (c : CommitsState). c.number) done.trims.commits ∙ opened.up_to.opened.only.same.same_number

  trimmed_unfinished : done.trimmed.commits.unfinished ≡ None
  trimmed_unfinished = ap (λ (c : CommitsState). c.unfinished) done.trims.commits ∙ opened.up_to.opened.only.same.same_unfinished
      ∙ opened.up_to.finished

  number_is : new.commits.number ≡ opened.commits.number + 1
  number_is =
      let made = done.made.same_number in
      let none = ap (λ u. finished_number done.trimmed.commits.number u + 1) trimmed_unfinished in
      let same = trimmed_number in
      omega (arith, made, none, same)

  unpinned : (n : ℕ) → pins_on (volume_of objects new) n ≡ 0
  unpinned = no_pins_then list.uploads.queue objects.uploads.queue checkpoint is.table added.objects

  pub kept_is_small : list.uploads.window.last < max_number → IsSmall (volume_of objects new) 0
  kept_is_small last =
      let first = done.same.first in
      let rows = ap length done.same.rows in
      let here = trimmed_first in
      let count = rows_count done.trimmed.rows done.entries done.rows in
      let whole = count_is in
      let low = opened.up_to.count in
      let window = last_is in
      let number = number_is in
      let young = opened.up_to.number in
      record {
        entries = omega (arith, first, rows, here, count, whole, low);
        objects = omega (arith, window, last);
        commits = omega (arith, number, young);
        pins = λ n. none_more (unpinned n);
      }

  -- its history has the entries of the objects, or those up to the head of the commit, if that are more
  pub history_is : objects.batch.first + length objects.batch.entries ≡ max end_is opened.commits.body.head.seq
  history_is =
      let first = added.first ∙ is.list.first in
      let entries = ap length (added.entries_are ∙ ap (λ l. l ++ done.entries) is.list.entries) in
      let whole = count_is in
      omega (arith, first, entries, whole)

  pub kept_of_volume : IsOfVolume (owner_with uuid epoch) geometry chain (mounted_of objects new)
  kept_of_volume =
      let first = opened_has_committed own_cache geometry opened.commits log opened.is_of opened.up_to.finished
      opened.up_to.opened in
      let then = trimmed_has_committed own_cache geometry log done.trimmed end_is first done.trims in
      let own = commit_has_committed own_cache geometry done.trimmed new then done.released (inl done.made) in
      let uuid_is = added.uuid ∙ is.list.uuid_is in
      let geometry_is = added.geometry ∙ is.list.geometry_is in
      record {
        uuid_is = uuid_is;
        geometry_is = geometry_is;
        ancestors_are = added.ancestors ∙ is.list.ancestors_are;
        steps = refl;
        own = subst (λ g. HasCommitted own_cache g new) (sym geometry_is) own;
        last = refl;
        acknowledged = ap (λ (w : WindowState). w.objects) added.window ∙ ap (λ (w : WindowState). w.objects) is.list.window;
        none_sealed = added.objects.sealed ∙ is.list.sealed;
        plans = unpinned;
        none_out = added.objects.removal ∙ is.table.removal;
        no_plan = refl;
      }

  pub numbers_next : NumbersNextCommit geometry.log old (mounted_of objects new)
  numbers_next =
      now_as (λ now. Reads geometry.log now.bytes opened.commits.body opened.commits.number)
      (λ now. (n : ℕ) (b : CommitBody) → Reads geometry.log now.bytes b n → new.commits.number ≡ n + 1) old.moments
      (λ now reads n b others.
      let one = (reads_one geometry.log now.bytes opened.commits.number n opened.commits.body b reads others).0 in
      let number = number_is in
      omega (arith, number, one)) opened.read

  -- ---- what it is of a plain volume that was left

  module _ (told : Option Objects) (size : log_start ≤ old.size) (sectors : geometry.log ≡ log_of old.size) (is_disk : IsDisk old)
      (from : IfSome told (λ o. IsRecoveredFrom uuid geometry chain o list checkpoint)) where
    pub mounts_left : MountsLeft (owner_with uuid epoch) geometry chain told old (mounted_of objects new)
    mounts_left = λ plain found number left.
        let of = (list_of uuid geometry chain plain number told list checkpoint limits is from left.stored).1 in
        let rest : PlainState = mounted_without geometry.log number plain in
        let told_entries = done.trims.entries
        ∙ told_is uuid geometry chain epoch plain found number told old size sectors is_disk left end_is log limits opened in
        let same = told_one done.trimmed.entries _ done.entries told_entries done.told in
        let goes : going_on done.entries found_log rest ≡ mounted_with found number plain =
        ap (λ l. going_on l found_log rest) same
        ∙ goes_on uuid geometry chain epoch list checkpoint told old log limits size sectors is_disk is opened from plain found
        number left in
        let shows = kept_shows rest of.at_rest of.shows of.table in
        let first = added.first ∙ is.list.first in
        let entries = added.entries_are ∙ ap (λ l. l ++ done.entries) is.list.entries in
        let count = ap length entries in
        let history = of.at_rest.history in
        let longer = length-append rest.entries done.entries in
        let whole = ap history_length goes in
        record {
          shows = subst (λ p. Shows (volume_of objects new) (passing (fuse_in new.commits.disk.budget) p)) goes shows;
          entries = omega (arith, first, count, history, longer, whole);
          number_is = last_is ∙ of.number_is;
          knows =
              knows_added (expected_of uuid geometry
              (length chain)) told plain.checkpoint.number list.uploads.queue objects.uploads.queue
              added.objects
              (knows_stored uuid geometry chain plain number told list checkpoint limits from left.stored);
        }
