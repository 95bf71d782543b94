-- Each list that was recovered shows some plain volume, which opens after the last of its objects.
use Rattle.std.proofs.Common.{◌≡◌, ℕ, suc, ◌+◌, ◌-◌, ◌<◌, ◌≤◌, ◌&&◌, not, nat_lt, Bool, true, false, inl, inr, IsTrue, Option}
use Rattle.std.proofs.Common.{Some}
use Rattle.std.proofs.Common.{None, List, [], ◌∷◌, length, map, take, get_or, refl, sym, ◌∙◌, ap, subst, arith}
use Rattle.std.proofs.lemmas.List.{append-nil}
use Rattle.std.specs.Prelude.{IsSome, IfSome, is_some}
use Rattle.std.specs.List.{All, list_any, range_with_len}
use Rattle.std.proofs.Math.Seq.{take-nil, drop-nil}
use Rattle.std.proofs.lemmas.Bool.{cases_lt}
use Rattle.std.proofs.lemmas.Bool.Decides.{nat_tests}
use Rattle.std.proofs.lemmas.List.Elements.{All-nil, All-weaker}
use Rattle.std.proofs.lemmas.List.FromFn.{get_or-map-range_with_len, length-map-range_with_len}
use Rattle.clone_chain.specs.declared.ancestor.Ancestor.{Ancestor}
use Rattle.lsvd_base.specs.declared.geometry.Geometry.{Geometry}
use Rattle.lsvd_base.specs.declared.entry.Entry.{Entry}
use Rattle.lsvd_base.specs.Image.{Image, after}
use Rattle.lsvd_base.specs.Limits.{is_within_limits}
use Rattle.lsvd_base.specs.Range.{is_in_range}
use Rattle.upload_window.specs.Window.{WindowState}
use Rattle.object_stream.specs.declared.object.StreamObject.{StreamObject}
use Rattle.object_stream.specs.declared.owner.Owner.{Owner}
use Rattle.object_stream.specs.Stream.{Stream, owners, is_own, after_objects, end_after, end_at, last_number}
use Rattle.object_stream.specs.Laws.{from_object}
use Rattle.object_table.specs.declared.row.ObjectRow.{ObjectRow}
use Rattle.object_table.specs.Table.{row_of}
use Rattle.object_table.proofs.Listed.{found_holds}
use Rattle.object_table.proofs.Rows.{its_number}
use Rattle.volume_maps.specs.declared.place.ObjectPlace.{ObjectPlace}
use Rattle.volume_maps.specs.Places.{left_at}
use Rattle.volume_maps.specs.Maps.{settled_at}
use Rattle.volume_maps.specs.Laws.{place_owner}
use Rattle.volume_maps.specs.Live.{is_live}
use Rattle.object_uploads.specs.State.{QueueState}
use Rattle.object_uploads.specs.Order.{PlaceFits, AreKnown, IsUploads}
use Rattle.object_uploads.specs.Stream.{IsPlacedIn, AreSealedOf, AreOfStream}
use Rattle.object_uploads.specs.Image.{HasImage}
use Rattle.obj_log.specs.State.{ObjLogState}
use Rattle.obj_log.specs.Changes.{expected_of_volume}
use Rattle.plain_disk.specs.Log.{empty_from}
use Rattle.plain_disk.specs.Cache.{cache_with}
use Rattle.plain_disk.specs.Removals.{maps, has}
use Rattle.plain_disk.specs.State.{PlainState, stream_in, frontier_end, payload_of}
use Rattle.plain_disk.specs.Valid.{IsUnneeded, IsPlainCheckpoint, IsKeptByHold}
use Rattle.plain_disk.proofs.EventLemmas.{log_has_sectors}
use Rattle.object_recovery.specs.Recovery.{IsListUpTo}
use Rattle.object_recovery.specs.Places.{HasPlacesInside}
use Rattle.object_recovery.specs.Table.{HasTableFrom}
use Rattle.object_recovery.proofs.SomeImageLemmas.{list_has_some_image}
use Rattle.refine_objects.specs.Shows.{ShowsObjects}
use Rattle.refine_objects.specs.Table.{passes_unmapped, ShowsTable}
use Rattle.refine_mount.specs.Rest.{IsAtRest}
use Rattle.refine_mount.specs.Laws.{ListShowsSome}
use Rattle.refine_mount.proofs.TableLemmas.{none_pinned, none_copied}
use Rattle.refine_mount.proofs.MissingLemmas.{missing_in, held_by, held_in, has_missing, has_held, all_missing, all_held}
use Rattle.refine_mount.proofs.MissingLemmas.{missing_is_below}
use Rattle.refine_mount.proofs.TellLemmas.{Tells, held_owners, held_owner_at, own_live, live_has_row, live_is_mapped, some_tell}

-- ---- the volume

-- the payloads of objects up to a number, as rows say
abbrev payload_in : Option ObjectRow → ℕ
payload_in None = 0
payload_in (Some row) = row.payload

abbrev payloads_to : (number : ℕ) → List ObjectRow → List ℕ
payloads_to number rows = map (λ n. payload_in (row_of n rows)) (range_with_len 1 number)

-- where objects have the sectors of the volume, as the objects' map says
abbrev sector_in : Option ObjectPlace → ℕ
sector_in None = 0
sector_in (Some place) = place.sector

abbrev sectors_held : (sectors : ℕ) → QueueState → List ℕ
sectors_held sectors queue = map (λ k. sector_in (settled_at queue.maps k)) (range_with_len 0 sectors)

-- It is a clone of these ancestors, opens with this image after the last object of the list, where the objects' map has its
-- sectors, and nothing was done since. Its newest checkpoint has these owners, the objects that have no row were removed, and
-- holds keep those whose rows say so.
abbrev opened_after : Geometry → List Ancestor → (checkpoint number end : ℕ) → Image → QueueState → List (Option Owner)
    → PlainState
opened_after geometry chain checkpoint number end image queue owned = record {
  geometry = geometry;
  chain = chain;
  opening = image;
  number = number;
  end = end;
  owned = held_owners geometry.sectors queue;
  inherited = sectors_held geometry.sectors queue;
  payloads = payloads_to number queue.maps.objects.rows;
  entries = [];
  objects = [];
  window = record { last = number; objects = [] };
  checkpoint = record { number = checkpoint; owned = owned };
  plan = None;
  pins = [];
  held = held_in queue.maps.objects.rows number;
  removed = missing_in queue.maps.objects.rows number;
  given_out = missing_in queue.maps.objects.rows number;
  removal = None;
  cache = cache_with (empty_from geometry.log end);
}

-- without objects it ends where it opens
end_of_none : (plain : PlainState) → plain.objects ≡ [] → (number : ℕ) → end_at (stream_in plain) number ≡ plain.end
end_of_none plain none number =
    ap (λ (objects : List StreamObject). end_after plain.end (take (number - plain.number) objects)) none
    ∙ ap (end_after plain.end) (take-nil (number - plain.number))

module _ (uuid : List ℕ) (geometry : Geometry) (chain : List Ancestor) (checkpoint number end : ℕ) (image : Image)
    (queue : QueueState) (owned : List (Option Owner)) (some : 0 < checkpoint) (from : checkpoint ≤ number)
    (reached : queue.frontier ≡ number) (known : AreKnown uuid queue) (inside : HasPlacesInside geometry.sectors queue)
    (table : HasTableFrom checkpoint queue) (tells : Tells checkpoint queue owned) where
  abbrev rows : List ObjectRow
  rows = queue.maps.objects.rows

  abbrev volume : PlainState
  volume = opened_after geometry chain checkpoint number end image queue owned

  -- its checkpoint holds the owners that it opens with, where it opens there
  opened_holds : number ≤ checkpoint → (k : ℕ) → get_or owned k None ≡ owners (stream_in volume) checkpoint k
  opened_holds first k =
      tells.holds (omega (arith, reached, first, from)) k
      ∙ (held_owner_at geometry.sectors queue inside k
      ∙ ap (λ (objects : List StreamObject). after_objects number end [] (stream_in volume).opening objects k)
      (sym (take-nil (checkpoint - number))))

  -- it maps each object before it that owns one of them
  mapped_by : (other k : ℕ) (found : Option ObjectRow) → row_of other rows ≡ found → IsSome found → other < checkpoint
      → is_live other (settled_at queue.maps k) ≡ true → list_any (is_own other) owned ≡ true
  mapped_by other k None at there early live = absurd cc
  mapped_by other k (Some row) at there early live =
      tells.mapped other row at early
      ∙ ap not (live_is_mapped other k queue row known.counted known.unmapped at live)

  opened_still : (other k : ℕ) → other < checkpoint → is_own other ((stream_in volume).opening k) ≡ true
      → maps volume.checkpoint other ≡ true
  opened_still other k early owns =
      let live : is_live other (settled_at queue.maps k) ≡ true =
      sym (own_live other (settled_at queue.maps k))
      ∙ (ap (is_own other) (held_owner_at geometry.sectors queue inside k) ∙ owns) in
      mapped_by other k (row_of other rows) refl (live_has_row other k queue known.counted live) early live

  -- an object that is missing was removed before it
  missing_early : (other : ℕ) → other ≤ number → row_of other rows ≡ None → other < checkpoint
  missing_early other high none =
      let below = missing_is_below uuid queue other known (omega (arith, some, table.checkpoint_is))
      (omega (arith, high, reached)) none in
      omega (arith, below, table.checkpoint_is)

  opened_unneeded : All (IsUnneeded volume.checkpoint) volume.given_out
  opened_unneeded =
      All-weaker (λ other. (1 ≤ other) × (other ≤ number) × (row_of other rows ≡ None)) (IsUnneeded volume.checkpoint)
      (λ other missing. record {
        before = missing_early other missing.1 missing.2;
        unmapped = tells.none other missing.2;
      }) volume.given_out (all_missing rows number)

  opened_checkpoint : IsPlainCheckpoint (stream_in volume) number volume.given_out volume.checkpoint
  opened_checkpoint = record {
    numbered = some;
    reached = from;
    holds = opened_holds;
    still = λ before. opened_still;
    unneeded = opened_unneeded;
  }

  opened_held : All (IsKeptByHold number volume.given_out) volume.held
  opened_held =
      All-weaker (λ other. (other ≤ number) × (has volume.given_out other ≡ false)) (IsKeptByHold number volume.given_out)
      (λ other is. record { acknowledged = is.0; kept = is.1 }) volume.held (all_held rows number)

  pub opened_is_at_rest : IsTrue (is_within_limits geometry) → length image ≡ geometry.sectors
      → IsAtRest geometry checkpoint end volume
  opened_is_at_rest limits sectors =
      let size = log_has_sectors geometry limits in
      let count = length-map-range_with_len (λ k. place_owner (settled_at queue.maps k)) 0 geometry.sectors in
      let ends : end_at (stream_in volume) number ≡ end = end_of_none volume refl number in
      let last_ends = end_of_none volume refl (last_number (stream_in volume)) in
      record {
        valid = record {
          limits = limits;
          sectors = sectors;
          owned = omega (arith, count);
          payloads = length-map-range_with_len (λ n. payload_in (row_of n rows)) 1 number;
          in_range = All-nil (λ entry. is_in_range geometry entry ≡ true);
          stream = record { ends = tt; within = omega (arith, last_ends) };
          window = record {
            order = omega arith;
            starts = All-nil (λ object. IsTrue object.is_started
                → IsTrue object.was_started);
          };
          last = omega arith;
          opened = omega arith;
          begun = All-nil (λ object. IsTrue (object.was_started && object.is_checkpoint) → object.number ≤ number + 1);
          checkpoint = opened_checkpoint;
          held = opened_held;
          log = record {
            counted = omega arith;
            room = record { limit = size.1; head = size.0; used = omega arith };
            last = record { order = omega arith; tail = omega (arith, ends); head = omega arith; place = size.0 };
            unfinished = tt;
          };
          size = refl;
        };
        geometry_is = refl;
        checkpoint_is = refl;
        none = refl;
        frontier = ends;
        history = omega arith;
        pins = refl;
        none_out = refl;
        no_plan = refl;
        gone = refl;
        cache = refl;
      }

  -- ---- the table shows it

  row_shown : (other : ℕ) (found : Option ObjectRow) → row_of other rows ≡ found
      → IfSome found (λ row. row.is_unmapped ≡ passes_unmapped volume.checkpoint other)
  row_shown other None at = tt
  row_shown other (Some row) at =
      elim (cases_lt other checkpoint) [
        | inl low ↦
            (let early : nat_lt other checkpoint ≡ true = grind (arith, nat_tests) in
            sym (ap (λ b. b && not (maps volume.checkpoint other)) early
            ∙ (ap not (tells.mapped other row at low) ∙ not-not row.is_unmapped)))
        | inr high ↦
            (let late : nat_lt other checkpoint ≡ false = grind (arith, nat_tests) in
            late_mapped other row at high ∙ sym (ap (λ b. b && not (maps volume.checkpoint other)) late))
      ]
    where
      not-not : (b : Bool) → not (not b) ≡ b
      not-not true = refl
      not-not false = refl

      late_mapped : (other : ℕ) (row : ObjectRow) → row_of other rows ≡ Some row → checkpoint ≤ other → row.is_unmapped ≡ false
      late_mapped other row at high =
          elim row.is_unmapped as (λ b. row.is_unmapped ≡ b → b ≡ false) [
            | true ↦ λ unmapped. (
                let low = (known.unmapped other (row, at, unmapped)).1 in
                absurd (omega (arith, low, high, table.checkpoint_is)))
            | false ↦ λ mapped. refl
          ] refl

  -- each row says the payload that the volume knows
  row_payload : (other : ℕ) (found : Option ObjectRow) → row_of other rows ≡ found
      → IfSome found (λ row. 0 < row.live → row.payload ≡ payload_of volume other)
  row_payload other None at = tt
  row_payload other (Some row) at = λ live.
      (
      let within = found_holds (λ (r : ObjectRow). r.number ≤ queue.frontier) other rows row at known.within in
      let from_one = found_holds (λ (r : ObjectRow). 1 ≤ r.number) other rows row at known.from_one in
      let named = its_number other rows row at in
      let index : suc (other - 1) ≡ other = omega (arith, from_one, named) in
      let list = payloads_to number rows in
      let payload_is : get_or (0 ∷ list) (suc (other - 1)) 0 ≡ row.payload =
      get_or-map-range_with_len (λ n. payload_in (row_of n rows)) 1 number (other - 1) other 0
      (omega (arith, within, named, reached, from_one)) (omega (arith, from_one, named))
      ∙ ap payload_in at in
      sym (ap (λ (l : List ℕ). get_or (0 ∷ l) other 0) (append-nil list)
      ∙ (ap (λ n. get_or (0 ∷ list) n 0) (sym index) ∙ payload_is)))

  -- each row says whether a hold keeps it
  held_shown : (other : ℕ) (found : Option ObjectRow) → row_of other rows ≡ found
      → IfSome found (λ row. row.is_held ≡ has volume.held other)
  held_shown other None at = tt
  held_shown other (Some row) at =
      let within = found_holds (λ (r : ObjectRow). r.number ≤ queue.frontier) other rows row at known.within in
      let from_one = found_holds (λ (r : ObjectRow). 1 ≤ r.number) other rows row at known.from_one in
      let named = its_number other rows row at in
      sym (has_held rows number other (omega (arith, from_one, named)) (omega (arith, within, named, reached))
      ∙ ap held_by at)

  pub opened_shows_table : ShowsTable queue volume
  opened_shows_table = record {
    checkpoint = table.checkpoint_is;
    removal = table.removal;
    known = λ other low high. known_here other low (omega (arith, high, reached));
    unmapped = λ other. row_shown other (row_of other rows) refl;
    pins = λ other. none_pinned rows other (row_of other rows) refl table.unpinned;
    copied = λ other. none_copied rows other (row_of other rows) refl table.not_copied;
    held = λ other. held_shown other (row_of other rows) refl;
    payload = λ other. row_payload other (row_of other rows) refl;
    free = tt;
    gone = All-weaker (λ other. (1 ≤ other) × (other ≤ number) × (row_of other rows ≡ None)) (λ other. other < checkpoint)
        (λ other missing. missing_early other missing.1 missing.2) volume.removed (all_missing rows number);
    kept = All-weaker (λ other. (other ≤ number) × (has volume.removed other ≡ false)) (λ other. other ≤ queue.frontier)
        (λ other is. omega (arith, is.0, reached)) volume.held (all_held rows number);
    reached = tt;
  }
    where
      there : (b : Bool) → b ≡ not (not b)
      there true = refl
      there false = refl

      known_here : (other : ℕ) → 1 ≤ other → other ≤ number → is_some (row_of other rows) ≡ not (has volume.removed other)
      known_here other low high = there (is_some (row_of other rows)) ∙ ap not (sym (has_missing rows number other low high))

-- ---- the list shows it

-- the sector that a place has, where it lies inside
held_at : (sectors : ℕ) (queue : QueueState) (k : ℕ) (place : ObjectPlace) → HasPlacesInside sectors queue
    → settled_at queue.maps k ≡ Some place → place.sector ≡ get_or (sectors_held sectors queue) k 0
held_at sectors queue k place inside at =
    sym (get_or-map-range_with_len (λ k. sector_in (settled_at queue.maps k)) 0 sectors k k 0 (inside k place at).0 (omega arith)
    ∙ ap sector_in at)

-- Places up to the object that a stream opens after are in none of its own objects; those in objects of ancestors are where the
-- stream opens with them.
none_placed : (stream : Stream) (sectors ancestors last k : ℕ) (place : Option ObjectPlace) → last ≡ stream.number
    → ((some : ObjectPlace) → place ≡ Some some → some.sector ≡ stream.inherited k)
    → IfSome place (PlaceFits sectors ancestors last k) → IfSome place (IsPlacedIn stream k)
none_placed stream sectors ancestors last k None same held fits = tt
none_placed stream sectors ancestors last k (Some place) same held fits = (
  λ own past. (let high = fits.number own in absurd (omega (arith, same, high, past))),
  λ above. held place refl,
)

module _ (uuid : List ℕ) (geometry : Geometry) (chain : List Ancestor) (checkpoint number end : ℕ) (log : ObjLogState)
    (list : IsListUpTo uuid geometry (length chain) number end log) (order : IsUploads log.uploads)
    (inside : HasPlacesInside geometry.sectors log.uploads.queue) (image : Image) (has : HasImage image log.uploads.queue)
    (owned : List (Option Owner)) where
  abbrev opened : PlainState
  opened = opened_after geometry chain checkpoint number end image log.uploads.queue owned

  abbrev stream : Stream
  stream = stream_in opened

  abbrev frontier : ℕ
  frontier = log.uploads.queue.frontier

  none_sealed : AreSealedOf stream (expected_of_volume log) frontier log.uploads.queue.end (from_object frontier stream).entries
      (owners stream frontier) (from_object frontier stream).objects log.uploads.queue.sealed
  none_sealed = rw (list.sealed, drop-nil {A = StreamObject} (frontier - number)) tt

  are_of_stream : (data_at : ℕ → ℕ) → AreOfStream (expected_of_volume log) data_at stream log.uploads
  are_of_stream data_at = record {
    valid = record { ends = tt; within = omega (arith, end_of_none opened refl (last_number stream)) };
    from = omega (arith, list.frontier);
    last = omega (arith, ap (λ (w : WindowState). w.last) list.window);
    end = list.end_is ∙ sym (end_of_none opened refl frontier);
    settled = λ k.
        held_owner_at geometry.sectors log.uploads.queue inside k
        ∙ ap (λ (objects : List StreamObject). after_objects number end [] stream.opening objects k)
        (sym (take-nil (frontier - number)));
    placed = λ k. none_placed stream log.uploads.sectors log.uploads.ancestors frontier k
        (settled_at log.uploads.queue.maps k) list.frontier
        (λ place. held_at geometry.sectors log.uploads.queue k place inside) (order.places k);
    sealed = none_sealed;
    logged = λ k.
        list.logged k
        ∙ ap (λ (entries : List Entry). left_at data_at log.uploads.queue.end entries k)
        (sym (drop-nil (end_at stream frontier - end)));
  }

  list_shows : (data_at : ℕ → ℕ) → ShowsObjects data_at log opened
  list_shows data_at =
      let none = take-nil {A = Entry} (frontier_end opened - end) in
      record {
        geometry = list.geometry_is;
        ancestors = list.ancestors_are;
        stream = record {
          objects = are_of_stream data_at;
          sectors = list.sectors ∙ sym (ap (λ (g : Geometry). g.sectors) list.geometry_is);
          first = list.first ∙ sym (end_of_none opened refl (last_number stream));
          entries = list.entries ∙ sym (drop-nil (end_at stream (last_number stream) - end));
        };
        window = list.window;
        image = subst (λ entries. HasImage (after image entries) log.uploads.queue) (sym none) has;
        receipts = rw list.sealed tt;
        copied = λ tells alike. rw list.sealed tt;
      }

pub list_shows_some : ListShowsSome
list_shows_some uuid geometry chain checkpoint number end log limits some from list order inside table =
    let queue = log.uploads.queue in
    let known = order.known in
    let image = list_has_some_image geometry.sectors log inside in
    let told = some_tell log.uploads.uuid geometry.sectors checkpoint queue known inside table in (
      opened_after geometry chain checkpoint number end image.0 queue told.0,
      refl,
      opened_is_at_rest log.uploads.uuid geometry chain checkpoint number end image.0 queue told.0 some from list.frontier known
          inside table told.1 limits image.1,
      list_shows uuid geometry chain checkpoint number end log list order inside image.0 image.2 told.0,
      opened_shows_table log.uploads.uuid geometry chain checkpoint number end image.0 queue told.0 some from list.frontier known
          inside table told.1,
    )
