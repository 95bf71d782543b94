-- For `mount_without_cache`: what is shown of a list that was recovered and a log that was just formatted.
use Rattle.std.proofs.Common.{◌≡◌, ℕ, ◌+◌, ◌<◌, ◌≤◌, List, [], ◌∷◌, length, refl, sym, ◌∙◌, ap, subst, arith}
use Rattle.std.specs.Prelude.{Option, IfSome, IsTrue}
use Rattle.std.proofs.lemmas.Bool.Decides.{nat_tests}
use Rattle.std.proofs.lemmas.List.{append-nil}
use Rattle.clone_chain.specs.declared.ancestor.Ancestor.{Ancestor}
use Rattle.lsvd_base.specs.declared.entry.Entry.{Entry}
use Rattle.lsvd_base.specs.declared.geometry.Geometry.{Geometry}
use Rattle.lsvd_base.specs.Limits.{is_within_limits}
use Rattle.lsvd_device.specs.Medium.{Medium}
use Rattle.lsvd_device.specs.Device.{DiskState}
use Rattle.lsvd_objstore.specs.Objects.{Objects}
use Rattle.log_room.specs.Room.{Room, max_log}
use Rattle.commit_slot.specs.Slots.{log_of}
use Rattle.cache_log.specs.Rows.{AreNumbered}
use Rattle.cache_log.specs.Log.{LogState, AreRowsOf, entries_in}
use Rattle.cache_log.specs.Committed.{IsFormattedLog}
use Rattle.obj_log.specs.State.{ObjLogState}
use Rattle.stopped_volume.specs.Device.{owner_with}
use Rattle.plain_disk.specs.Log.{empty_from}
use Rattle.plain_disk.specs.Cache.{PlainCache, cache_with}
use Rattle.plain_disk.specs.State.{PlainState}
use Rattle.refine_log.specs.Shows.{ShowsLog}
use Rattle.refine_log.specs.Fuses.{fuse_in}
use Rattle.refine_log.specs.Logged.{HasLoggedEntries}
use Rattle.refine_log.proofs.Shown.{formatted_shows_empty}
use Rattle.refine_objects.specs.Shows.{ShowsObjects}
use Rattle.refine_objects.specs.Table.{ShowsTable}
use Rattle.refine_log.specs.Stops.{HasCommitted}
use Rattle.refine_log.proofs.CommittedLemmas.{formatted_has_committed}
use Rattle.refine_mount.specs.Mounted.{data_in, going_on, mounted_without}
use Rattle.refine_mount.specs.Rest.{IsAtRest}
use Rattle.refine_mount.proofs.ListLemmas.{list_shows_some}
use Rattle.refine_mount.proofs.OpenedLemmas.{added_are_logged}
use Rattle.upload_window.specs.Window.{WindowState}
use Rattle.vol_core.specs.Volume.{volume_of}
use Rattle.vol_core.specs.Shows.{Shows, IsSmall}
use Rattle.vol_core.specs.Step.{passing}
use Rattle.vol_mount.specs.Mounted.{IsOfVolume}
use Rattle.vol_mount.specs.Mounting.{MountsStored}
use Rattle.vol_mount.specs.Steps.{AreLow, IsRecovered, IsRecoveredFrom, mounted_of}
use Rattle.vol_mount.proofs.RecoveryLemmas.{list_of, knows_stored}
use Rattle.vol_mount.proofs.ShownLemmas.{shown}
use Rattle.vol_mount.proofs.TableLemmas.{no_pins, none_more}
use Rattle.vol_mount.proofs.AddLemmas.{a_row}

no_entries : (moments : List Medium) → IfSome (entries_in [] moments) (λ list. list ≡ [])
no_entries [] = tt
no_entries (now ∷ past) = refl

-- a volume at rest that goes on with no entry is as it was
goes_nowhere : (geometry : Geometry) (checkpoint end : ℕ) (plain : PlainState) → IsAtRest geometry checkpoint end plain
    → going_on [] (empty_from geometry.log end) plain ≡ plain
goes_nowhere geometry checkpoint end plain rest =
    ap (λ (list : List Entry). record plain { entries = list; cache = cache_with (empty_from geometry.log end) })
    (append-nil plain.entries)
    ∙ ap (λ (cache : PlainCache). record plain { cache = cache }) (sym rest.cache)

module _ (uuid : List ℕ) (geometry : Geometry) (chain : List Ancestor) (epoch : ℕ) (list : ObjLogState) (checkpoint : ℕ)
    (old : DiskState)
    (log : LogState)
    (limits : IsTrue (is_within_limits geometry)) (sectors : geometry.log ≡ log_of old.size)
    (is : IsRecovered uuid geometry (length chain) list checkpoint)
    (formatted : IsFormattedLog uuid epoch list.uploads.queue.end old log) where
  abbrev end : ℕ
  end = list.uploads.queue.end

  size : log.room.log ≡ geometry.log
  size = ap (λ (r : Room). r.log) formatted.room ∙ sym sectors

  shows_empty : ShowsLog log (empty_from geometry.log end)
  shows_empty =
      let some : 0 < log.room.log = grind (arith, nat_tests, limits, size) in
      let most : log.room.log ≤ max_log = grind (arith, nat_tests, limits, size) in
      subst (λ n. ShowsLog log (empty_from n end)) size (formatted_shows_empty uuid epoch end old log some most formatted)

  logs_none : (plain : PlainState) → IsAtRest geometry checkpoint end plain → HasLoggedEntries (data_in log a_row) log plain
  logs_none plain rest =
      let rows : AreRowsOf log.rows [] = subst (λ rows. AreRowsOf rows []) (sym formatted.rows) tt in
      let numbered : AreNumbered log.first log.rows = subst (AreNumbered log.first) (sym formatted.rows) tt in
      let none : IfSome log.entries (λ l. l ≡ []) =
      subst (λ told. IfSome told (λ l. l ≡ [])) (sym formatted.entries) (no_entries log.commits.disk.moments) in
      subst (HasLoggedEntries (data_in log a_row) log) (goes_nowhere geometry checkpoint end plain rest)
      (added_are_logged geometry checkpoint end plain [] (empty_from geometry.log end) log a_row rest formatted.first rows
      none numbered)

  lost_shows : (plain : PlainState) → IsAtRest geometry checkpoint end plain
      → ((data_at : ℕ → ℕ) → ShowsObjects data_at list plain) → ShowsTable list.uploads.queue plain
      → Shows (volume_of list log) (passing (fuse_in log.commits.disk.budget) plain)
  lost_shows plain rest shows table =
      let of_log : ShowsLog log plain.cache.log = subst (λ (cache : PlainCache). ShowsLog log cache.log) (sym rest.cache)
      shows_empty in
      shown (data_in log a_row) list log plain rest.valid rest.no_plan (shows (data_in log a_row)) table of_log
      (logs_none plain rest)

  pub lost_shows_some : (plain : PlainState) × Shows (volume_of list log) plain
  lost_shows_some =
      let some = list_shows_some uuid geometry chain checkpoint list.uploads.window.last end list limits is.numbered is.from
      is.list
      is.order is.places is.table in
      (passing (fuse_in log.commits.disk.budget) some.0, lost_shows some.0 some.2 some.3 some.4)

  pub lost_is_small : (before : ℕ) → AreLow before list → IsSmall (volume_of list log) 0
  lost_is_small before are =
      let first = formatted.first in
      let rows = ap length formatted.rows in
      let low = are.end in
      let last = are.last in
      let number = formatted.commits.same_number in
      record {
        entries = omega (arith, first, rows, low);
        objects = omega (arith, last);
        commits = omega (arith, number);
        pins = λ number. none_more (no_pins list.uploads.queue checkpoint is.table number);
      }

  pub lost_of_volume : IsOfVolume (owner_with uuid epoch) geometry chain (mounted_of list log)
  lost_of_volume =
      let own = formatted_has_committed (owner_with uuid epoch) end geometry old log formatted in
      record {
        uuid_is = is.list.uuid_is;
        geometry_is = is.list.geometry_is;
        ancestors_are = is.list.ancestors_are;
        steps = refl;
        own = subst (λ g. HasCommitted (owner_with uuid epoch) g log) (sym is.list.geometry_is) own;
        last = refl;
        acknowledged = ap (λ (w : WindowState). w.objects) is.list.window;
        none_sealed = is.list.sealed;
        plans = no_pins list.uploads.queue checkpoint is.table;
        none_out = is.table.removal;
        no_plan = refl;
      }

  -- its history has the entries of the objects
  pub history_is : list.batch.first + length list.batch.entries ≡ end
  history_is = (let first = is.list.first in let none = ap length is.list.entries in omega (arith, first, none))

  pub mounts_stored : (objects : Option Objects) → IfSome objects (λ o. IsRecoveredFrom uuid geometry chain o list checkpoint)
      → MountsStored uuid geometry chain objects (mounted_of list log)
  mounts_stored objects from = λ plain number stored.
      let of = (list_of uuid geometry chain plain number objects list checkpoint limits is from stored).1 in
      let whole = history_is in
      let history = of.at_rest.history in
      record {
        shows = lost_shows (mounted_without geometry.log number plain) of.at_rest of.shows of.table;
        entries = omega (arith, whole, history);
        number_is = of.number_is;
        knows = knows_stored uuid geometry chain plain number objects list checkpoint limits from stored;
      }
