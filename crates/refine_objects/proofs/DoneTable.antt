-- A put that is done leaves a table that shows the plain volume then.
use Rattle.std.proofs.Common.{◌≡◌, ℕ, zero, suc, ◌+◌, ◌-◌, ◌<◌, ◌≤◌, not, Bool, true}
use Rattle.std.proofs.Common.{false, cond, Option, Some, None, List, [], ◌∷◌, length, take}
use Rattle.std.proofs.Common.{get_or, refl, sym, ◌∙◌, ap, subst, arith}
use Rattle.std.specs.Prelude.{IfSome, nat_eq}
use Rattle.std.proofs.lemmas.Bool.Decides.{nat_tests}
use Rattle.std.proofs.lemmas.List.{length-take-le}
use Rattle.lsvd_objstore.specs.Store.{ReceiptState}
use Rattle.object_stream.specs.Stream.{Stream, after_objects, owners, is_own, last_number}
use Rattle.object_stream.specs.Laws.{from_object}
use Rattle.object_stream.proofs.StreamLemmas.{keeps_owners}
use Rattle.upload_window.specs.Window.{WindowState}
use Rattle.object_table.specs.declared.row.ObjectRow.{ObjectRow}
use Rattle.object_table.specs.Table.{row_of}
use Rattle.object_table.proofs.Rows.{its_number}
use Rattle.object_table.proofs.Listed.{found_holds}
use Rattle.volume_maps.specs.declared.place.ObjectPlace.{ObjectPlace}
use Rattle.extent_map.specs.Extents.{place_at}
use Rattle.volume_maps.specs.Places.{object_on}
use Rattle.volume_maps.specs.Maps.{MapsState, settled_at}
use Rattle.volume_maps.specs.Laws.{place_owner}
use Rattle.volume_maps.specs.Live.{is_live, live_sectors}
use Rattle.object_uploads.specs.State.{SealedState, QueueState, UploadsState}
use Rattle.object_uploads.specs.declared.rows.SealedRows.{SealedRows}
use Rattle.object_uploads.specs.declared.rows.SealedRows.TheVariants as sealed_rows
use Rattle.object_uploads.specs.Queue.{with_at, with_receipt, FirstWaits, SettlesSealed, SettlesObjects}
use Rattle.object_uploads.specs.Order.{IsUploads}
use Rattle.object_uploads.specs.Changes.{index_of, IsOut, IsPutDone}
use Rattle.object_uploads.specs.Stream.{AreSealedOf}
use Rattle.object_uploads.proofs.KeepLemmas.{settle_all}
use Rattle.object_uploads.proofs.OpenLemmas.{started_at}
use Rattle.object_uploads.proofs.DeadLemmas.{nowhere, none_live, data_gives, copy_gives}
use Rattle.obj_log.specs.State.{ObjLogState}
use Rattle.obj_log.specs.Changes.{expected_of_volume}
use Rattle.obj_log.specs.Stream.{IsOfStream}
use Rattle.plain_disk.specs.State.{PlainState, PlainCheckpoint, stream_in, payload_of}
use Rattle.plain_disk.specs.Checkpoints.{checkpoint_at, is_started_checkpoint}
use Rattle.plain_disk.specs.Objects.{window_after_done}
use Rattle.plain_disk.specs.Removals.{maps}
use Rattle.plain_disk.specs.Valid.{IsPlainVolume}
use Rattle.plain_disk.proofs.FoldLemmas.{owned_at}
use Rattle.plain_disk.proofs.CheckpointLemmas.{some_owns, owns_some, started_is_lowest}
use Rattle.refine_objects.specs.Table.{ShowsTable}
use Rattle.refine_objects.specs.TableLaws.{ShowsBoth, DoneShowsTable}
use Rattle.refine_objects.proofs.ShowLemmas.{shown_have_counts}
use Rattle.refine_objects.proofs.PayloadLemmas.{payloads_shown}
use Rattle.refine_objects.proofs.TableRows.{RowsShow, MapsLive, HaveLive, LiveAre}
use Rattle.refine_objects.proofs.TableRows.{seen_of, with_newest, rows_of_shown, shown_by_rows}
use Rattle.refine_objects.proofs.SettledRows.{settle_data, waiting_taken, still_waiting, FirstIsCheckpoint, first_is_checkpoint}
use Rattle.refine_objects.proofs.SettledRows.{HavePayloads, payloads_taken, payloads_given, places_stay, settle_first}

-- ---- what a checkpoint maps

-- an owner is an object just where the place is in it
own_live : (number : ℕ) (place : Option ObjectPlace) → is_own number (place_owner place) ≡ is_live number place
own_live number None = refl
own_live number (Some place) = refl

-- the owners after a checkpoint that is the first past the frontier are those of the objects' map
owners_then : (data_at : ℕ → ℕ) (stream : Stream) (objects : ObjLogState) → IsUploads objects.uploads
    → IsOfStream data_at stream objects → FirstIsCheckpoint objects.uploads.queue.sealed
    → (k : ℕ) → place_owner (settled_at objects.uploads.queue.maps k) ≡ owners stream (objects.uploads.queue.frontier + 1) k
owners_then data_at stream objects is of_stream first k =
    let volume = expected_of_volume objects in
    let are = of_stream.objects in
    let uploads = objects.uploads in
    let from = uploads.queue.frontier in
    let part = from_object from stream in
    let sealed = uploads.queue.sealed in
    let before = settled_at uploads.queue.maps k in
    let most : from ≤ last_number stream = omega (arith, is.last, are.last) in
    let list = subst (λ e. AreSealedOf stream volume from e part.entries (owners stream from) part.objects sealed) are.end
    are.sealed in
    let one : from + 1 - from ≡ 1 = omega arith in
    let kept = keeps_owners stream from (from + 1) are.valid are.from most (omega arith) in
    ap place_owner (sym (places_stay from sealed before k first))
    ∙ (settle_all stream volume k 1 from part.end part.entries (owners stream from) part.objects sealed before list
    (are.settled k)
    ∙ (ap (λ n. after_objects from part.end part.entries (owners stream from) (take n part.objects) k) (sym one) ∙ kept.0 k))

-- a count of live sectors is none just where a checkpoint does not map the object
by_live : (live count : ℕ) (mapped : Bool) → live ≡ count → (count ≡ 0 → mapped ≡ false) → (mapped ≡ false → count ≡ 0)
    → nat_eq live 0 ≡ not mapped
by_live live count false same unmapped none = let zero_is = none refl in grind (arith, nat_tests)
by_live live count true same unmapped none =
    elim (nat_eq live 0) as (λ b. nat_eq live 0 ≡ b → b ≡ false) [
      | true ↦ λ test. (
          let zero_is : live ≡ 0 = grind (arith, nat_tests) in
          let other = unmapped (sym same ∙ zero_is) in
          absurd cc)
      | false ↦ λ test. refl
    ] refl

module _ (uploads : UploadsState) (plain : PlainState) (number : ℕ) (is : IsUploads uploads) (valid : IsPlainVolume plain)
    (owned : (k : ℕ) → place_owner (settled_at uploads.queue.maps k) ≡ owners (stream_in plain) number k) where
  abbrev checkpoint : PlainCheckpoint
  checkpoint = checkpoint_at number plain

  owner_is : (n k : ℕ) → is_own n (get_or checkpoint.owned k None) ≡ is_live n (settled_at uploads.queue.maps k)
  owner_is n k = ap (is_own n) (owned_at plain number valid k ∙ sym (owned k)) ∙ own_live n (settled_at uploads.queue.maps k)

  none_mapped : (n : ℕ) → live_sectors n uploads.queue.maps.settled.rows ≡ 0 → maps checkpoint n ≡ false
  none_mapped n none =
      elim (maps checkpoint n) as (λ b. maps checkpoint n ≡ b → b ≡ false) [
        | true ↦ λ mapped. (
            let at = some_owns n checkpoint.owned mapped in
            let live = sym (owner_is n at.0) ∙ at.1 in
            let dead = nowhere n uploads.queue.maps.settled.rows at.0 none in
            absurd cc)
        | false ↦ λ unmapped. refl
      ] refl

  all_mapped : (n : ℕ) → maps checkpoint n ≡ false → live_sectors n uploads.queue.maps.settled.rows ≡ 0
  all_mapped n unmapped =
      none_live n uploads.queue.maps.settled.rows is.known.shortest (λ k.
      elim (is_live n (settled_at uploads.queue.maps k)) as (λ b. is_live n (settled_at uploads.queue.maps k) ≡ b → b ≡ false) [
        | true ↦ λ live. (
            let mapped = owns_some n checkpoint.owned k (owner_is n k ∙ live) in
            absurd cc)
        | false ↦ λ dead. refl
      ] refl)

  live_by : (n : ℕ) (found : Option ObjectRow) → row_of n uploads.queue.maps.objects.rows ≡ found → MapsLive checkpoint n found
  live_by n None at = tt
  live_by n (Some row) at =
      let rows = uploads.queue.maps.objects.rows in
      let count = found_holds (λ (r : ObjectRow). r.live ≡ live_sectors r.number uploads.queue.maps.settled.rows) n rows row at
      is.known.counted.live in
      let own = ap (λ m. live_sectors m uploads.queue.maps.settled.rows) (its_number n rows row at) in
      by_live row.live (live_sectors n uploads.queue.maps.settled.rows) (maps checkpoint n) (count ∙ own) (none_mapped n)
      (all_mapped n)

  pub maps_live : (n : ℕ) → MapsLive checkpoint n (row_of n uploads.queue.maps.objects.rows)
  maps_live n = live_by n (row_of n uploads.queue.maps.objects.rows) refl

-- ---- which objects have live sectors then

-- an object without one gains none by the settling of later ones
settled_nowhere : (n number size : ℕ) (rows : SealedRows) (end : ℕ) (old new : MapsState) → n ≤ number
    → SettlesSealed (number + 1) size rows end old new → ((k : ℕ) → is_live n (settled_at old k) ≡ false)
    → (k : ℕ) → is_live n (settled_at new k) ≡ false
settled_nowhere n number size (sealed_rows.Data list) end old new low settles none k =
    ap (is_live n) (settles.settled k)
    ∙ data_gives (number + 1) list.items n (settled_at old k) k (λ same. omega (arith, same, low)) (none k)
settled_nowhere n number size (sealed_rows.Copy list) end old new low settles none k =
    ap (is_live n) (settles.settled k)
    ∙ copy_gives (number + 1) list.items n (settled_at old k) k (λ same. omega (arith, same, low)) (none k)
settled_nowhere n number size sealed_rows.Checkpoint end old new low settles none k =
    ap (λ m. is_live n (place_at object_on m.rows k)) settles.settled ∙ none k

all_nowhere : (n number : ℕ) (list : List SealedState) (old new : MapsState) → n ≤ number → SettlesObjects number list old new
    → ((k : ℕ) → is_live n (settled_at old k) ≡ false) → (k : ℕ) → is_live n (settled_at new k) ≡ false
all_nowhere n number [] old new low settles none k = ap (λ m. is_live n (settled_at m k)) settles ∙ none k
all_nowhere n number (first ∷ list) old new low settles none k =
    all_nowhere n (number + 1) list settles.0 new (omega (arith, low)) settles.2
    (settled_nowhere n number (length first.bytes) first.rows first.end old settles.0 low settles.1 none) k

module _ (uploads : UploadsState) (is : IsUploads uploads) where
  abbrev live_now : ℕ → ℕ
  live_now n = live_sectors n uploads.queue.maps.settled.rows

  counted_row : (n : ℕ) (row : ObjectRow) → row_of n uploads.queue.maps.objects.rows ≡ Some row → row.live ≡ live_now n
  counted_row n row at =
      let rows = uploads.queue.maps.objects.rows in
      found_holds (λ (r : ObjectRow). r.live ≡ live_sectors r.number uploads.queue.maps.settled.rows) n rows row at
      is.known.counted.live
      ∙ ap (λ m. live_now m) (its_number n rows row at)

  live_are_by : (n : ℕ) (found : Option ObjectRow) → row_of n uploads.queue.maps.objects.rows ≡ found
      → IfSome found (λ row. 0 < row.live → 0 < live_now n)
  live_are_by n None at = tt
  live_are_by n (Some row) at = λ some. subst (λ count. 0 < count) (counted_row n row at) some

  -- each row counts those of its object
  live_are : LiveAre live_now uploads.queue.maps.objects.rows
  live_are n = live_are_by n (row_of n uploads.queue.maps.objects.rows) refl

-- ---- the put is done

module _ (data_at : ℕ → ℕ) (old new : ObjLogState) (plain : PlainState) (number : ℕ) (bytes : List ℕ) (receipt : ReceiptState)
    (is : IsUploads old.uploads) (now_is : IsUploads new.uploads) (valid : IsPlainVolume plain)
    (shows : ShowsBoth data_at old plain)
    (out : IsOut old.uploads number bytes) (done : IsPutDone number receipt old.uploads new.uploads) where
  abbrev queue : QueueState
  queue = old.uploads.queue

  abbrev index : ℕ
  index = index_of old.uploads number

  abbrev given : List SealedState
  given = with_at index (with_receipt receipt) queue.sealed

  reached : new.uploads.queue.frontier ≡ queue.frontier + length (take done.count given)
  reached = let size = length-take-le done.count given done.settled.within in omega (arith, size, done.settled.frontier)

  -- an object that has a live sector then had one before
  abbrev live : ℕ → ℕ
  live = live_now new.uploads now_is

  had_live : (n : ℕ) (row : ObjectRow) (count : ℕ) → row_of n queue.maps.objects.rows ≡ Some row → row.live ≡ count
      → 0 < live n → 0 < row.live
  had_live n row (suc count) at counted some = omega (arith, counted)
  had_live n row zero at counted some =
      let rows = queue.maps.objects.rows in
      let low : n ≤ queue.frontier =
      subst (λ m. m ≤ queue.frontier) (its_number n rows row at)
      (found_holds (λ (r : ObjectRow). r.number ≤ queue.frontier) n rows row at is.known.within) in
      let none : live_sectors n queue.maps.settled.rows ≡ 0 = sym (counted_row old.uploads is n row at) ∙ counted in
      let later = all_nowhere n queue.frontier (take done.count given) queue.maps new.uploads.queue.maps low done.settled.maps
      (λ k. nowhere n queue.maps.settled.rows k none) in
      let still : live n ≡ 0 = none_live n new.uploads.queue.maps.settled.rows now_is.known.shortest later in
      absurd (omega (arith, still, some))

  have_live_by : (n : ℕ) (found : Option ObjectRow) → row_of n queue.maps.objects.rows ≡ found
      → IfSome found (λ row. 0 < live n → 0 < row.live)
  have_live_by n None at = tt
  have_live_by n (Some row) at = λ some. had_live n row row.live at refl some

  have_live : HaveLive live queue.maps.objects.rows
  have_live n = have_live_by n (row_of n queue.maps.objects.rows) refl

  before : RowsShow (seen_of live plain) queue.frontier queue.maps.objects
  before = rows_of_shown live old.uploads plain is have_live shows.table

  -- the objects past the old frontier have their payload
  have_payloads : HavePayloads (payload_of plain) queue.frontier queue.sealed
  have_payloads = payloads_shown data_at old plain is valid shows.objects

  data_rows : is_started_checkpoint number old.uploads.window.objects ≡ false
      → RowsShow (seen_of live plain) new.uploads.queue.frontier new.uploads.queue.maps.objects
  data_rows other =
      let found = started_at number (queue.frontier + 1) queue.sealed old.uploads.window.objects is.opened out.started in
      let at : number ≡ queue.frontier + 1 + index = omega (arith, found.0) in
      let waiting = still_waiting number receipt (queue.frontier + 1) index queue.sealed old.uploads.window.objects is.opened at
      found.1 other is.waiting in
      let have = payloads_taken (payload_of plain) queue.frontier done.count given
      (payloads_given (payload_of plain) queue.frontier index receipt queue.sealed have_payloads) in
      rw reached (settle_data (seen_of live plain) queue.frontier (take done.count given) queue.maps
      new.uploads.queue.maps done.settled.acknowledged (waiting_taken done.count given waiting) have done.settled.maps before)

  checkpoint_rows : is_started_checkpoint number old.uploads.window.objects ≡ true
      → RowsShow (with_newest (checkpoint_at number plain) (seen_of live plain)) new.uploads.queue.frontier
      new.uploads.queue.maps.objects
  checkpoint_rows own =
      let stream = stream_in plain in
      let plain_own : is_started_checkpoint number plain.window.objects ≡ true =
      ap (λ (w : WindowState). is_started_checkpoint number w.objects) (sym shows.objects.window) ∙ own in
      let counts = shown_have_counts data_at old plain is valid shows.objects in
      let at : number ≡ queue.frontier + 1 =
      (started_is_lowest plain number valid plain_own).0 ∙ ap (λ n. n + 1) (sym counts.frontier) in
      let first_at : index ≡ 0 = omega (arith, at) in
      let found = started_at number (queue.frontier + 1) queue.sealed old.uploads.window.objects is.opened out.started in
      let first = first_is_checkpoint (queue.frontier + 1) queue.sealed old.uploads.window.objects is.opened
      (rw first_at at found.1)
      (subst (λ n. is_started_checkpoint n old.uploads.window.objects ≡ true) at own) in
      let owned : (k : ℕ) → place_owner (settled_at queue.maps k) ≡ owners stream number k = λ k.
      owners_then data_at stream old is shows.objects.stream first k
      ∙ ap (λ n. owners stream n k) (sym at) in
      let waits = subst FirstWaits done.settled.sealed done.waits in
      rw reached (rw first_at (settle_first (seen_of live plain) (checkpoint_at number plain) queue.frontier
      done.count receipt queue.sealed queue.maps new.uploads.queue.maps first (rw first_at at waits)
      (rw first_at at done.settled.acknowledged) is.waiting have_payloads (rw first_at at done.settled.maps) at
      (maps_live old.uploads plain number is valid owned) before))

  done_by : (checkpoint : Bool) → is_started_checkpoint number old.uploads.window.objects ≡ checkpoint
      → ShowsTable new.uploads.queue (record plain {
        window = window_after_done (Some number) plain.window;
        checkpoint = cond checkpoint (checkpoint_at number plain) plain.checkpoint;
      })
  done_by true own =
      let now : PlainState = record plain {
        window = window_after_done (Some number) plain.window;
        checkpoint = checkpoint_at number plain;
      } in
      shown_by_rows live new.uploads.queue now (done.settled.removal ∙ shows.table.removal) shows.table.free
      (live_are new.uploads now_is) (checkpoint_rows own)
  done_by false other =
      let now : PlainState = record plain { window = window_after_done (Some number) plain.window } in
      shown_by_rows live new.uploads.queue now (done.settled.removal ∙ shows.table.removal) shows.table.free
      (live_are new.uploads now_is) (data_rows other)

pub done_shows_table : DoneShowsTable
done_shows_table data_at old new plain number bytes receipt is now valid shows out done =
    done_by data_at old new plain number bytes receipt is now valid shows out done
    (is_started_checkpoint number plain.window.objects)
    (ap (λ (w : WindowState). is_started_checkpoint number w.objects) shows.objects.window)
