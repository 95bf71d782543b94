-- The list while objects are adopted.
use Rattle.std.proofs.Common.{◌≡◌, ℕ, ◌+◌, ◌^◌, ◌<◌, cond, Bool, true, false, Option, Some, None, List, [], ◌∷◌, length, refl}
use Rattle.std.proofs.Common.{sym, ◌∙◌, ap, subst, arith}
use Rattle.std.specs.Prelude.{IfSome}
use Rattle.lsvd_base.specs.declared.geometry.Geometry.{Geometry}
use Rattle.extent_map.specs.Extents.{is_within, place_at}
use Rattle.extent_map.specs.State.{MapState}
use Rattle.lsvd_objstore.specs.Objects.{Objects, found}
use Rattle.lsvd_objstore.specs.Store.{ReceiptState}
use Rattle.object_format.specs.declared.data_row.DataRow.{DataRow}
use Rattle.object_format.specs.declared.expected.Expected.{Expected}
use Rattle.object_stream.specs.Replay.{object_name, expected_at}
use Rattle.upload_window.specs.Window.{WindowState}
use Rattle.volume_maps.specs.declared.place.LogPlace.{LogPlace}
use Rattle.volume_maps.specs.Places.{log_on}
use Rattle.volume_maps.specs.Maps.{MapsState, logged_at, logged_by}
use Rattle.object_uploads.specs.declared.rows.SealedRows.{SealedRows}
use Rattle.object_uploads.specs.declared.rows.SealedRows.TheVariants as sealed_rows
use Rattle.object_uploads.specs.Queue.{SettlesSealed}
use Rattle.obj_log.specs.State.{ObjLogState}
use Rattle.obj_log.specs.Changes.{expected_of_volume, next_of, HasAdoptedObject}
use Rattle.object_recovery.specs.declared.judging.Reached.{Reached}
use Rattle.object_recovery.specs.Judging.{IsEndOf, expected_after}
use Rattle.object_recovery.specs.Judged.{IsReached}
use Rattle.object_recovery.specs.Adoption.{IsStoredAs, IsLeftAt, AdoptsNext, reached_by, KeepsGood}
use Rattle.object_recovery.specs.Recovery.{IsListUpTo, HasStreamTo, KeepsStreams}
use Rattle.object_recovery.proofs.EndLemmas.{end_of_object}
use Rattle.object_recovery.proofs.JudgeLemmas.{reached_next, reached_left}
use Rattle.object_recovery.proofs.StreamLemmas.{missing_at, one_more}

-- ---- the list

-- rows leave a sector that is not in the log out of it
none_by_test : (test : Bool) (end : ℕ) (rows : List DataRow) (k : ℕ) → logged_by end rows None k ≡ None
    → logged_by end rows (cond test None None) k ≡ None
none_by_test true end rows k rest = rest
none_by_test false end rows k rest = rest

none_logged : (end : ℕ) (rows : List DataRow) (k : ℕ) → logged_by end rows None k ≡ None
none_logged end [] k = refl
none_logged end (row ∷ rows) k = none_by_test (is_within row.lba row.sectors k) end rows k (none_logged end rows k)

-- and so do those of any object
none_settled : (number size end : ℕ) (rows : SealedRows) (old new : MapsState) → SettlesSealed number size rows end old new
    → ((k : ℕ) → logged_at old k ≡ None) → (k : ℕ) → logged_at new k ≡ None
none_settled number size end (sealed_rows.Data list) old new settles none k =
    settles.logged k ∙ (ap (λ place. logged_by end list.items place k) (none k) ∙ none_logged end list.items k)
none_settled number size end (sealed_rows.Copy list) old new settles none k = settles.logged k ∙ none k
none_settled number size end sealed_rows.Checkpoint old new settles none k =
    ap (λ (map : MapState LogPlace). place_at log_on map.rows k) settles.log ∙ none k

-- a list is one of its own uuid and its own sizes
pub own_list : (uuid : List ℕ) (geometry : Geometry) (ancestors number end : ℕ) (log : ObjLogState)
    → IsListUpTo uuid geometry ancestors number end log
    → IsListUpTo log.uploads.uuid log.batch.geometry log.uploads.ancestors log.uploads.window.last log.uploads.queue.end log
own_list uuid geometry ancestors number end log is = record {
  uuid_is = refl;
  ancestors_are = refl;
  geometry_is = refl;
  sectors = is.sectors ∙ ap (λ (sizes : Geometry). sizes.sectors) (sym is.geometry_is);
  first = is.first ∙ sym is.end_is;
  entries = is.entries;
  window = is.window ∙ ap (λ (n : ℕ). let window : WindowState = record { last = n; objects = [] } in window)
      (sym (ap (λ (w : WindowState). w.last) is.window));
  frontier = is.frontier ∙ sym (ap (λ (w : WindowState). w.last) is.window);
  end_is = refl;
  sealed = is.sealed;
  logged = is.logged;
}

-- and with the next object it is one
pub list_more : (uuid : List ℕ) (geometry : Geometry) (ancestors number before end : ℕ) (rows : SealedRows)
    (receipt : ReceiptState)
    (old new : ObjLogState)
    → IsListUpTo uuid geometry ancestors number before old → HasAdoptedObject rows end receipt old new
    → IsListUpTo uuid geometry ancestors new.uploads.window.last new.uploads.queue.end new
list_more uuid geometry ancestors number before end rows receipt old new is adopted =
    let now = adopted.uploads in
    let last : new.uploads.window.last ≡ old.uploads.window.last + 1 = ap (λ (w : WindowState). w.last) now.window in
    let was : old.uploads.window.last ≡ number = ap (λ (w : WindowState). w.last) is.window in
    record {
      uuid_is = now.uuid ∙ is.uuid_is;
      ancestors_are = now.ancestors ∙ is.ancestors_are;
      geometry_is = adopted.geometry ∙ is.geometry_is;
      sectors = now.sectors ∙ is.sectors;
      first = adopted.first ∙ sym now.settled.ends;
      entries = adopted.entries;
      window = now.window ∙ ap (λ (n : ℕ). let window : WindowState = record { last = n; objects = [] } in window) (sym last);
      frontier = omega (arith, now.settled.frontier, is.frontier, last, was);
      end_is = refl;
      sealed = now.settled.sealed;
      logged =
          none_settled (old.uploads.queue.frontier + 1) receipt.size end rows old.uploads.queue.maps new.uploads.queue.maps
          now.settled.maps is.logged;
    }

-- ---- the streams

keeps_same : (volume : Expected) (objects : Objects) (log : ObjLogState) → KeepsStreams volume objects log log
keeps_same volume objects log uuid_at stream opening number has from to list = (omega arith, to, list)

keeps_more : (volume : Expected) (objects : Objects) (a b c : ObjLogState) → KeepsStreams volume objects a b
    → KeepsStreams volume objects b c
    → KeepsStreams volume objects a c
keeps_more volume objects a b c first second uuid_at stream opening number has from to list =
    let mid = first uuid_at stream opening number has from to list in
    let last = second uuid_at stream opening number has (omega (arith, from, mid.0)) mid.1 mid.2 in
    (omega (arith, mid.0, last.0), last.1, last.2)

-- an object that is adopted, which the store has
adopted_keeps : (volume : Expected) (objects : Objects) (Tells : Type 0) (uuid : List ℕ) (geometry : Geometry)
    (ancestors before : ℕ)
    (old new : ObjLogState)
    → volume.sectors < 2 ^ 64
    → expected_of_volume old ≡ volume → IsListUpTo uuid geometry ancestors old.uploads.window.last before old → Tells
    → AdoptsNext Tells (Some objects) old new
    → KeepsStreams volume objects old new
adopted_keeps volume objects Tells uuid geometry ancestors before old new wide same_volume is tells adopts uuid_at stream
    opening number
    has from to list =
    let there = adopts.stored tells in
    let at = old.uploads.window.last in
    let last : new.uploads.window.last ≡ at + 1 = ap (λ (w : WindowState). w.last) adopts.adopted.uploads.window in
    let present : found objects (object_name volume (at + 1)) ≡ Some there.bytes =
    ap (λ (v : Expected). found objects (object_name v (at + 1))) (sym same_volume) ∙ there.present in
    let below = missing_at volume uuid_at objects stream opening number wide has at there.bytes to present in
    let more = one_more volume uuid_at objects stream opening number wide has at from below old new adopts.rows adopts.end
    adopts.receipt same_volume refl is.sealed is.entries adopts.order adopts.adopted list there in
    (omega (arith, last), omega (arith, last, below), subst (λ n. HasStreamTo opening stream n new) (sym last) more)

-- so it is where the store tells its objects
pub told_more : (told : Option Objects) (volume : Expected) (Tells : Type 0) (uuid : List ℕ) (geometry : Geometry)
    (ancestors before : ℕ)
    (begun old new : ObjLogState) → volume.sectors < 2 ^ 64
    → expected_of_volume old ≡ volume → IsListUpTo uuid geometry ancestors old.uploads.window.last before old → Tells
    → AdoptsNext Tells told old new
    → IfSome told (λ objects. KeepsStreams volume objects begun old)
    → IfSome told (λ objects. KeepsStreams volume objects begun new)
told_more None volume Tells uuid geometry ancestors before begun old new wide same_volume is tells adopts keeps = tt
told_more (Some objects) volume Tells uuid geometry ancestors before begun old new wide same_volume is tells adopts keeps =
    keeps_more volume objects begun old new keeps (adopted_keeps volume objects Tells uuid geometry ancestors before old new wide
    same_volume is tells adopts)

pub told_same : (told : Option Objects) (volume : Expected) (log : ObjLogState)
    → IfSome told (λ objects. KeepsStreams volume objects log log)
told_same None volume log = tt
told_same (Some objects) volume log = keeps_same volume objects log

-- ---- the objects that are good

module _ (volume : Expected) (log : ObjLogState) (uuid : List ℕ) (geometry : Geometry) (ancestors : ℕ)
    (same_volume : expected_of_volume log ≡ volume)
    (is : IsListUpTo uuid geometry ancestors log.uploads.window.last log.uploads.queue.end log) where
  -- what is expected of the next object, by how far those of the list were judged
  next_after : next_of log ≡ expected_after volume (log.uploads.window.last + 1) (Some log.uploads.queue.end)
  next_after =
      ap (λ (v : Expected). expected_at v (log.uploads.window.last + 1) log.batch.first) same_volume
      ∙ ap (expected_at volume (log.uploads.window.last + 1)) is.first

  pub left_good : (objects : Objects) (base : ℕ) (left : Reached) → IsLeftAt objects (next_of log) left
      → IsReached volume objects base (reached_by log) → IsReached volume objects base left
  left_good objects base left there reached =
      let at = subst (λ e. IsLeftAt objects e left) next_after there in
      let named : log.uploads.window.last + 1 < 2 ^ 64 = omega (arith, at.left.named, at.left.number) in
      reached_left volume objects base (reached_by log) reached at.bytes named at.present left refl at.left

  adopted_good : (objects : Objects) (Tells : Type 0) (new : ObjLogState) → Tells → AdoptsNext Tells (Some objects) log new
      → KeepsGood volume objects log new
  adopted_good objects Tells new tells adopts base reached =
      let last : log.uploads.window.last + 1 ≡ new.uploads.window.last =
      sym (ap (λ (w : WindowState). w.last) adopts.adopted.uploads.window) in
      let end : adopts.end ≡ new.uploads.queue.end = sym adopts.adopted.uploads.settled.ends in
      let there = subst (λ e. IsStoredAs objects e adopts.rows adopts.end adopts.receipt) next_after (adopts.stored tells) in
      let expected = expected_after volume (log.uploads.window.last + 1) (Some log.uploads.queue.end) in
      let whole = there.is_object in
      let own = end_of_object there.bytes (length there.bytes) expected there.header there.rows_read whole in
      let ends = subst (λ e. IsEndOf there.bytes (length there.bytes) expected (Some e)) (there.end_is ∙ end) own in
      let Next : ℕ → Reached = λ n. record { number = n; end = Some new.uploads.queue.end; refused = None } in
      subst (λ n. IsReached volume objects base (Next n)) last
      (reached_next volume objects base (reached_by log) reached there.bytes adopts.named there.present
      (Some new.uploads.queue.end) None ends
      (there.header, there.rows_read, whole))

-- so they are where the store tells its objects
pub told_good : (told : Option Objects) (volume : Expected) (Tells : Type 0) (uuid : List ℕ) (geometry : Geometry) (ancestors : ℕ)
    (begun old new : ObjLogState)
    → expected_of_volume old ≡ volume → IsListUpTo uuid geometry ancestors old.uploads.window.last old.uploads.queue.end old
    → Tells
    → AdoptsNext Tells told old new
    → IfSome told (λ objects. KeepsGood volume objects begun old) → IfSome told (λ objects. KeepsGood volume objects begun new)
told_good None volume Tells uuid geometry ancestors begun old new same_volume is tells adopts keeps = tt
told_good (Some objects) volume Tells uuid geometry ancestors begun old new same_volume is tells adopts keeps = λ base reached.
    adopted_good volume old uuid geometry ancestors same_volume is objects Tells new tells adopts base (keeps base reached)

pub told_still : (told : Option Objects) (volume : Expected) (log : ObjLogState)
    → IfSome told (λ objects. KeepsGood volume objects log log)
told_still None volume log = tt
told_still (Some objects) volume log = λ base reached. reached
