-- What the objects on their way to the store always keep, over each call.
use Rattle.std.proofs.Common.{◌≡◌, ℕ, zero, suc, ◌+◌, ◌-◌, ◌<◌, ◌≤◌, not, Bool, true, false, Option, Some, None, List, [], ◌∷◌}
use Rattle.std.proofs.Common.{◌++◌, length}
use Rattle.std.proofs.Common.{drop, refl, sym, ◌∙◌, ap, subst, arith, length-append, length-drop}
use Rattle.std.specs.Prelude.{IfSome}
use Rattle.std.specs.List.{All, AllByRecursion}
use Rattle.std.proofs.lemmas.List.Elements.{All-nil}
use Rattle.extent_map.specs.State.{MapState}
use Rattle.lsvd_names.specs.Names.{numbered_name}
use Rattle.lsvd_objstore.specs.Store.{ReceiptState}
use Rattle.object_table.specs.declared.row.ObjectRow.{ObjectRow}
use Rattle.object_table.specs.Table.{TableState, row_of}
use Rattle.upload_window.specs.declared.object.OpenObject.{OpenObject}
use Rattle.upload_window.specs.Window.{WindowState, below_open, entered, marked, acknowledged, lowest_ready, was_started}
use Rattle.volume_maps.specs.declared.place.ObjectPlace.{ObjectPlace}
use Rattle.volume_maps.specs.Maps.{MapsState, settled_at}
use Rattle.volume_maps.specs.Live.{IsCounted, live_sectors}
use Rattle.object_uploads.specs.declared.rows.SealedRows.{SealedRows}
use Rattle.object_uploads.specs.State.{SealedState, InheritedObject, QueueState, UploadsState}
use Rattle.object_uploads.specs.Queue.{with_at, just_sealed, with_spare, with_receipt, is_checkpoint, FitSealed}
use Rattle.object_uploads.specs.Queue.{HasSamePlaces, IsSettledBy, IsNextSettled, FirstWaits, sealed_at}
use Rattle.object_uploads.specs.Order.{AreOpen, AreKnown, AreInherited, IsUploads, IsDeadIn, PlacesFit, PlacesFitIn}
use Rattle.object_uploads.specs.Invariant.{IsOpenAt, IsKnown, KeepsAllButObjects, KeepsAllButFound}
use Rattle.object_uploads.proofs.UnmappedRows.{unmapped_same}
use Rattle.object_uploads.proofs.QueueLemmas.{length-with}
use Rattle.object_uploads.proofs.OpenLemmas.{open_push, open_marked, open_done, open_dropped, waits_with, waits_pushed, below_by}
use Rattle.object_uploads.proofs.BegunLemmas.{AreAtIfBegun, IsAtIfBegun, begun_pushed, begun_without, begun_later, begun_failed}
use Rattle.object_uploads.proofs.BegunLemmas.{begun_taken}
use Rattle.object_uploads.proofs.WaitingKept.{waiting_pushed, waiting_changed, waiting_done}
use Rattle.object_uploads.proofs.NamesKept.{IsNamed, names_pushed, names_changed, names_given, names_dropped, named_settled}
use Rattle.object_uploads.proofs.NamesKept.{named_pushed}
use Rattle.object_uploads.proofs.PlacesKept.{all_fit, places_settled, sealed_fits, settled_is}

-- the whole, of its parts
abbrev pub whole : (uuid : List ℕ) (sectors ancestors : ℕ) → QueueState → WindowState → UploadsState
whole uuid sectors ancestors queue window = record {
  uuid = uuid;
  sectors = sectors;
  ancestors = ancestors;
  queue = queue;
  window = window;
}

-- ---- what is known

-- what is known of a queue, with the names
pub known_named : (uuid : List ℕ) (queue : QueueState) → IsKnown queue → All (IsNamed uuid) queue.receipts
    → AreKnown uuid queue
known_named uuid queue known named = record {
  order = known.order;
  from_one = known.from_one;
  within = known.within;
  checkpoint = known.checkpoint;
  receipts = known.receipts;
  named = named;
  follow = known.follow;
  removal = known.removal;
  unmapped = known.unmapped;
  counted = known.counted;
  shortest = known.shortest;
}

-- counts, and objects without a live sector, of the same rows
pub counted_same : (old new : MapsState) → HasSamePlaces old new → IsCounted old.settled.rows old.objects
    → IsCounted new.settled.rows new.objects
counted_same old new same counted = record {
  live = rw (same.settled, same.objects) counted.live;
  known = rw (same.settled, same.objects) counted.known;
}

pub dead_same : (old new : MapsState) (out : Option ℕ) → HasSamePlaces old new → IfSome out (IsDeadIn old)
    → IfSome out (IsDeadIn new)
dead_same old new None same dead = tt
dead_same old new (Some number) same dead =
    (dead.0, ap (row_of number) same.objects ∙ dead.1, dead.2, dead.3)

-- whether an object is dead rests on the table alone
dead_entered : (old new : MapsState) (out : Option ℕ) → IfSome out (IsDeadIn old)
    → IfSome out (IsDeadIn (record new { objects = old.objects }))
dead_entered old new None dead = tt
dead_entered old new (Some number) dead = (dead.0, dead.1, dead.2, dead.3)

-- the same objects and receipts
pub are_known_same : (uuid : List ℕ) (old new : QueueState) → AreKnown uuid old → new.frontier ≡ old.frontier
    → new.receipts ≡ old.receipts → new.removal ≡ old.removal → HasSamePlaces old.maps new.maps → AreKnown uuid new
are_known_same uuid old new known frontier receipts removal same = record {
  order = rw same.objects known.order;
  from_one = rw same.objects known.from_one;
  within = rw (same.objects, frontier) known.within;
  checkpoint = rw (same.checkpoint, frontier) known.checkpoint;
  receipts = rw (receipts, removal, same.objects) known.receipts;
  named = rw receipts known.named;
  follow = rw (receipts, same.checkpoint, frontier) known.follow;
  removal = rw removal (dead_same old.maps new.maps old.removal same known.removal);
  unmapped = unmapped_same old.maps new.maps same.objects same.checkpoint known.unmapped;
  counted = counted_same old.maps new.maps same known.counted;
  shortest = rw same.settled known.shortest;
}

-- while an entry is entered too
pub are_known_entered : (uuid : List ℕ) (old new : QueueState) → AreKnown uuid old → new.frontier ≡ old.frontier
    → new.receipts ≡ old.receipts → new.removal ≡ old.removal → new.maps.settled ≡ old.maps.settled
    → new.maps.objects ≡ old.maps.objects → AreKnown uuid new
are_known_entered uuid old new known frontier receipts removal settled objects = record {
  order = rw objects known.order;
  from_one = rw objects known.from_one;
  within = rw (objects, frontier) known.within;
  checkpoint = rw (objects, frontier) known.checkpoint;
  receipts = rw (receipts, removal, objects) known.receipts;
  named = rw receipts known.named;
  follow = rw (receipts, objects, frontier) known.follow;
  removal = rw removal (subst (λ (t : TableState). IfSome old.removal (IsDeadIn (record new.maps { objects = t })))
      (sym objects) (dead_entered old.maps new.maps old.removal known.removal));
  unmapped = unmapped_same old.maps new.maps (ap (λ (t : TableState). t.rows) objects)
      (ap (λ (t : TableState). t.checkpoint) objects) known.unmapped;
  counted = rw (settled, objects) known.counted;
  shortest = rw settled known.shortest;
}

-- the same rows give the same places
pub places_same : (sectors ancestors last : ℕ) (old new : MapsState) → new.settled.rows ≡ old.settled.rows
    → PlacesFit sectors ancestors last old → PlacesFit sectors ancestors last new
places_same sectors ancestors last old new rows places k =
    rw rows (places k)

-- ---- calls that change neither the window nor the objects past the frontier

pub uploads_kept : (uuid : List ℕ) (sectors ancestors : ℕ) (window : WindowState) (old new : QueueState)
    → IsUploads (whole uuid sectors ancestors old window) → new.frontier ≡ old.frontier → new.sealed ≡ old.sealed
    → new.inherited ≡ old.inherited → AreKnown uuid new → PlacesFit sectors ancestors old.frontier new.maps
    → IsUploads (whole uuid sectors ancestors new window)
uploads_kept uuid sectors ancestors window old new are frontier sealed inherited known places = record {
  opened = rw (frontier, sealed) are.opened;
  last = rw (frontier, sealed) are.last;
  waits = rw sealed are.waits;
  names = rw (frontier, sealed) are.names;
  fit = rw sealed are.fit;
  sectors = are.sectors;
  known = known;
  begun = rw frontier are.begun;
  waiting = rw sealed are.waiting;
  places = rw frontier places;
  ancestors = are.ancestors;
  inherited = rw inherited are.inherited;
}

-- nothing changes but room
pub uploads_same : (uuid : List ℕ) (sectors ancestors : ℕ) (window : WindowState) (old new : QueueState)
    → IsUploads (whole uuid sectors ancestors old window) → new.frontier ≡ old.frontier → new.sealed ≡ old.sealed
    → new.receipts ≡ old.receipts → new.removal ≡ old.removal → new.inherited ≡ old.inherited
    → HasSamePlaces old.maps new.maps
    → IsUploads (whole uuid sectors ancestors new window)
uploads_same uuid sectors ancestors window old new are frontier sealed receipts removal inherited same =
    uploads_kept uuid sectors ancestors window old new are frontier sealed inherited
    (are_known_same uuid old new are.known frontier receipts removal same)
    (places_same sectors ancestors old.frontier old.maps new.maps same.settled are.places)

-- ---- an object is sealed

fit_pushed : (sectors : ℕ) (list : List SealedState) (sealed : SealedState) → FitSealed sectors sealed.rows
    → AllByRecursion (λ (s : SealedState). FitSealed sectors s.rows) list
    → AllByRecursion (λ (s : SealedState). FitSealed sectors s.rows) (list ++ sealed ∷ [])
fit_pushed sectors [] sealed fit all = (fit, tt)
fit_pushed sectors (first ∷ list) sealed fit all = (all.0, fit_pushed sectors list sealed fit all.1)

pub uploads_sealed : (uuid : List ℕ) (sectors ancestors : ℕ) (window : WindowState) (old new : QueueState) (bytes : List ℕ)
    (rows : SealedRows) (end : ℕ) → IsUploads (whole uuid sectors ancestors old window) → FitSealed sectors rows
    → new.sealed ≡ old.sealed ++ just_sealed bytes rows end ∷ [] → new.frontier ≡ old.frontier
    → new.receipts ≡ old.receipts → new.removal ≡ old.removal → new.inherited ≡ old.inherited
    → HasSamePlaces old.maps new.maps
    → IsUploads (whole uuid sectors ancestors new (entered (window.last + 1) (is_checkpoint rows) window))
uploads_sealed uuid sectors ancestors window old new bytes rows end are fit list frontier receipts removal inherited same =
    let sealed = just_sealed bytes rows end in
    let more : OpenObject =
    record { number = window.last + 1; is_checkpoint = is_checkpoint rows; is_started = false; was_started = false } in
    let opened = open_push more (old.frontier + 1) old.sealed window.objects sealed are.opened refl (omega (arith, are.last))
    refl refl in
    let size : length new.sealed ≡ length old.sealed + 1 = ap length list ∙ length-append old.sealed (sealed ∷ []) in
    record {
      opened = rw (list, frontier) opened;
      last = omega (arith, size, frontier, are.last);
      waits = rw list (waits_pushed old.sealed sealed refl are.waits);
      names = rw (list, frontier) (names_pushed uuid old.frontier old.sealed sealed refl are.names);
      fit = rw list (fit_pushed sectors old.sealed sealed fit are.fit);
      sectors = are.sectors;
      known = are_known_same uuid old new are.known frontier receipts removal same;
      begun = rw frontier (begun_pushed (old.frontier + 1) (window.last + 1) (is_checkpoint rows) window.objects are.begun);
      waiting = rw list (waiting_pushed old.sealed sealed refl are.waiting);
      places = rw frontier (places_same sectors ancestors old.frontier old.maps new.maps same.settled are.places);
      ancestors = are.ancestors;
      inherited = rw inherited are.inherited;
    }

-- the places once all objects past the frontier are settled
pub sealed_places_fit : (uuid : List ℕ) (sectors ancestors : ℕ) (window : WindowState) (queue : QueueState)
    → IsUploads (whole uuid sectors ancestors queue window) → PlacesFitIn sectors ancestors window.last (sealed_at queue)
sealed_places_fit uuid sectors ancestors window queue are k =
    subst (λ last. PlacesFitIn sectors ancestors last (sealed_at queue)) are.last
    (λ i. all_fit sectors ancestors queue.frontier i queue.sealed (settled_at queue.maps i) are.fit (are.places i)) k

-- ---- a put begins, or fails

fit_changed : (sectors index : ℕ) (change : SealedState → SealedState) (list : List SealedState)
    → ((s : SealedState) → (change s).rows ≡ s.rows)
    → AllByRecursion (λ (s : SealedState). FitSealed sectors s.rows) list
    → AllByRecursion (λ (s : SealedState). FitSealed sectors s.rows) (with_at index change list)
fit_changed sectors index change [] same all = all
fit_changed sectors zero change (sealed ∷ list) same all =
    (subst (FitSealed sectors) (sym (same sealed)) all.0, all.1)
fit_changed sectors (suc index) change (sealed ∷ list) same all =
    (all.0, fit_changed sectors index change list same all.1)

-- the queue where the second bytes of an object are there, or not
abbrev pub queue_marked : QueueState → (index : ℕ) → (started : Bool) → QueueState
queue_marked queue index started = record queue { sealed = with_at index (with_spare (not started)) queue.sealed }

marked_by : (uuid : List ℕ) (sectors ancestors : ℕ) (window : WindowState) (queue : QueueState) (number index : ℕ)
    (started has_spare : Bool) → IsUploads (whole uuid sectors ancestors queue window) → number ≡ queue.frontier + 1 + index
    → IsOpenAt index queue.sealed has_spare → AreAtIfBegun (queue.frontier + 1) (marked number started window).objects
    → IsUploads (whole uuid sectors ancestors (queue_marked queue index started) (marked number started window))
marked_by uuid sectors ancestors window queue number index started has_spare are at opened begun = record {
  opened = open_marked number started (queue.frontier + 1) index queue.sealed window.objects has_spare are.opened at opened;
  last = ap (λ n. queue.frontier + n) (length-with index (with_spare (not started)) queue.sealed) ∙ are.last;
  waits = waits_with index (with_spare (not started)) queue.sealed (λ s. refl) are.waits;
  names = names_changed uuid queue.frontier index (with_spare (not started)) queue.sealed (λ s. refl) are.names;
  fit = fit_changed sectors index (with_spare (not started)) queue.sealed (λ s. refl) are.fit;
  sectors = are.sectors;
  known = are_known_same uuid queue (queue_marked queue index started) are.known refl refl refl
      (record { settled = refl; log = refl; objects = refl; checkpoint = refl });
  begun = begun;
  waiting = waiting_changed index (with_spare (not started)) queue.sealed (λ s. refl) (λ s. refl) are.waiting;
  places = are.places;
  ancestors = are.ancestors;
  inherited = are.inherited;
}

-- an object of a volume that is open, past the frontier
pub record IsOpenIn (queue : QueueState) (number index : ℕ) (has_spare : Bool) : Type 0 where
  pub index_is : index ≡ number - (queue.frontier + 1)
  pub past : queue.frontier < number
  pub opened : IsOpenAt index queue.sealed has_spare

pub uploads_taken : (uuid : List ℕ) (sectors ancestors : ℕ) (old_window window : WindowState) (old new : QueueState)
    (number index : ℕ)
    → IsUploads (whole uuid sectors ancestors old old_window) → IsOpenIn old number index true
    → new ≡ queue_marked old index true → lowest_ready old_window.objects ≡ Some number
    → window ≡ marked number true old_window → IsUploads (whole uuid sectors ancestors new window)
uploads_taken uuid sectors ancestors old_window window old new number index are in_ changed lowest now =
    let begun = begun_taken old.frontier number old.sealed old_window.objects are.opened are.waits in_.past lowest are.begun in
    rw (changed, now) (marked_by uuid sectors ancestors old_window old number index true true are
    (omega (arith, in_.index_is, in_.past))
    in_.opened begun)

pub uploads_failed : (uuid : List ℕ) (sectors ancestors : ℕ) (old_window window : WindowState) (old new : QueueState)
    (number index : ℕ)
    → IsUploads (whole uuid sectors ancestors old old_window) → IsOpenIn old number index false
    → new ≡ queue_marked old index false
    → window ≡ marked number false old_window → IsUploads (whole uuid sectors ancestors new window)
uploads_failed uuid sectors ancestors old_window window old new number index are in_ changed now =
    let begun = begun_failed (old.frontier + 1) number old_window.objects are.begun in
    rw (changed, now) (marked_by uuid sectors ancestors old_window old number index false false are
    (omega (arith, in_.index_is, in_.past)) in_.opened begun)

-- ---- a put is done

fit_dropped : (sectors count : ℕ) (list : List SealedState)
    → AllByRecursion (λ (s : SealedState). FitSealed sectors s.rows) list
    → AllByRecursion (λ (s : SealedState). FitSealed sectors s.rows) (drop count list)
fit_dropped sectors zero list all = all
fit_dropped sectors (suc count) [] all = tt
fit_dropped sectors (suc count) (sealed ∷ list) all = fit_dropped sectors count list all.1

-- the queue where the store gave this for an object
abbrev pub queue_given : QueueState → (index : ℕ) → ReceiptState → QueueState
queue_given queue index receipt = record queue { sealed = with_at index (with_receipt receipt) queue.sealed }

pub uploads_done : (uuid : List ℕ) (sectors ancestors : ℕ) (old_window window : WindowState) (old given new : QueueState)
    (number index count : ℕ) (receipt : ReceiptState)
    → IsUploads (whole uuid sectors ancestors old old_window) → IsOpenIn old number index false
    → receipt.name ≡ numbered_name uuid number → given ≡ queue_given old index receipt
    → IsSettledBy count given new → FirstWaits new.sealed → IsKnown new → was_started number old_window.objects ≡ true
    → window ≡ acknowledged number old_window
    → IsUploads (whole uuid sectors ancestors new window)
uploads_done uuid sectors ancestors old_window window old given new number index count receipt are in_ named changed settled
    waits known
    started now =
    let by : IsSettledBy count (queue_given old index receipt) new = subst (λ q. IsSettledBy count q new) changed settled in
    let list = with_at index (with_receipt receipt) old.sealed in
    let at : number ≡ old.frontier + 1 + index = omega (arith, in_.index_is, in_.past) in
    let size : length list ≡ length old.sealed = length-with index (with_receipt receipt) old.sealed in
    let done = open_done number receipt (old.frontier + 1) index old.sealed old_window.objects false are.opened at in_.opened in
    let left = open_dropped (old.frontier + 1) count list (acknowledged number old_window).objects done by.within
    by.acknowledged in
    let next : old.frontier + 1 + count ≡ new.frontier + 1 = omega (arith, by.frontier) in
    let opened : AreOpen (new.frontier + 1) new.sealed (acknowledged number old_window).objects =
    rw (by.sealed, sym next) left in
    let rest : length new.sealed ≡ length list - count = ap length by.sealed ∙ length-drop count list in
    let names = names_given uuid old.frontier index receipt old.sealed (subst (λ n. receipt.name ≡ numbered_name uuid n) at named)
    are.names in
    let fit = fit_changed sectors index (with_receipt receipt) old.sealed (λ s. refl) are.fit in
    let begun = begun_without (old.frontier + 1) number old_window.objects are.begun in
    rw now (record {
      opened = opened;
      last = omega (arith, by.frontier, rest, size, are.last, by.within);
      waits = waits;
      names = rw (by.sealed, by.frontier) (names_dropped uuid old.frontier count list names);
      fit = rw by.sealed (fit_dropped sectors count list fit);
      sectors = are.sectors;
      known = known_named uuid new known (rw by.receipts (named_settled uuid old.frontier count old.receipts list are.known.named
          names));
      begun = begun_later (old.frontier + 1) (new.frontier + 1) new.sealed (acknowledged number old_window).objects
          (omega (arith, by.frontier)) opened begun;
      waiting = rw by.sealed (waiting_done (old.frontier + 1) number index count old.sealed old_window.objects receipt
          are.opened
          at in_.opened started are.begun are.waiting (subst FirstWaits by.sealed waits));
      places = rw by.frontier (places_settled sectors ancestors old.frontier count list old.maps new.maps by.within fit by.maps
          are.places);
      ancestors = are.ancestors;
      inherited = rw by.inherited are.inherited;
    })

-- ---- the next object is adopted

pub uploads_adopted : (uuid : List ℕ) (sectors ancestors : ℕ) (old_window window : WindowState) (old new : QueueState)
    (rows : SealedRows) (end : ℕ) (receipt : ReceiptState)
    → IsUploads (whole uuid sectors ancestors old old_window) → FitSealed sectors rows
    → receipt.name ≡ numbered_name uuid (old.frontier + 1)
    → IsNextSettled rows end receipt old new → IsKnown new → window ≡ record { last = new.frontier; objects = [] }
    → IsUploads (whole uuid sectors ancestors new window)
uploads_adopted uuid sectors ancestors old_window window old new rows end receipt are fit named next known now =
    let none : length new.sealed ≡ 0 = ap length next.sealed in
    rw now (record {
      opened = rw next.sealed refl;
      last = omega (arith, none);
      waits = rw next.sealed tt;
      names = rw next.sealed tt;
      fit = rw next.sealed tt;
      sectors = are.sectors;
      known = known_named uuid new known (rw next.receipts (named_pushed uuid (old.frontier + 1) old.receipts receipt
          are.known.named named));
      begun = All-nil (IsAtIfBegun (new.frontier + 1));
      waiting = rw next.sealed tt;
      places = rw next.frontier (λ k.
          rw (settled_is sectors ancestors (old.frontier + 1) receipt.size end rows old.maps new.maps next.maps k)
          (sealed_fits sectors ancestors old.frontier k rows (settled_at old.maps k) fit (are.places k)));
      ancestors = are.ancestors;
      inherited = rw next.inherited are.inherited;
    })

-- ---- where nothing is past the frontier or known up to it, uploads begin

none_inherited : (ancestors : ℕ) → AreInherited ancestors []
none_inherited ancestors = record {
  ascend = λ i j d low inside. absurd (omega arith);
  levels = All-nil (λ (object : InheritedObject). (1 ≤ object.level) × (object.level ≤ ancestors));
}

pub uploads_begin : (uuid : List ℕ) (sectors ancestors : ℕ) (queue : QueueState) (window : WindowState)
    → sectors ≤ 2147483648 → ancestors ≤ 15 → queue.sealed ≡ [] → queue.receipts ≡ [] → queue.removal ≡ None
    → queue.inherited ≡ [] → queue.maps.settled.rows ≡ []
    → queue.maps.objects.rows ≡ [] → queue.maps.objects.checkpoint ≡ 0
    → window ≡ record { last = queue.frontier; objects = [] } → IsUploads (whole uuid sectors ancestors queue window)
uploads_begin uuid sectors ancestors queue window low few sealed receipts removal inherited settled objects checkpoint now =
    let none : length queue.sealed ≡ 0 = ap length sealed in
    rw now (record {
      opened = rw sealed refl;
      last = omega (arith, none);
      waits = rw sealed tt;
      names = rw sealed tt;
      fit = rw sealed tt;
      sectors = low;
      known = record {
        order = rw objects tt;
        from_one = rw objects (All-nil (λ (object : ObjectRow). 1 ≤ object.number));
        within = rw objects (All-nil (λ (object : ObjectRow). object.number ≤ queue.frontier));
        checkpoint = omega (arith, checkpoint);
        receipts = rw (receipts, objects) refl;
        named = rw receipts (All-nil (IsNamed uuid));
        follow = λ number some from to. absurd (omega (arith, some, checkpoint));
        removal = rw removal tt;
        unmapped = λ number is.
            (let none : None ≡ Some is.0 = sym (ap (row_of number) objects) ∙ is.1 in absurd cc);
        counted = record {
          live = rw (settled, objects) (All-nil (λ (object : ObjectRow). object.live ≡ live_sectors object.number []));
          known = rw settled (All-nil _);
        };
        shortest = rw settled tt;
      };
      begun = All-nil (IsAtIfBegun (queue.frontier + 1));
      waiting = rw sealed tt;
      places = λ k. rw settled tt;
      ancestors = few;
      inherited = rw inherited (none_inherited ancestors);
    })

-- ---- the frontier

-- it is below the lowest open number
pub frontier_below : (uploads : UploadsState) → IsUploads uploads → below_open uploads.window ≡ uploads.queue.frontier
frontier_below uploads are =
    below_by uploads.queue.frontier uploads.queue.sealed uploads.window.objects uploads.window.last are.opened are.last are.waits

-- ---- pins and removals

-- the receipts and the table of objects change
pub uploads_changed : (uuid : List ℕ) (sectors ancestors : ℕ) (window : WindowState) (old new : QueueState)
    → IsUploads (whole uuid sectors ancestors old window) → KeepsAllButObjects old new → IsKnown new
    → All (IsNamed uuid) new.receipts
    → IsUploads (whole uuid sectors ancestors new window)
uploads_changed uuid sectors ancestors window old new are rest known named =
    uploads_kept uuid sectors ancestors window old new are rest.frontier rest.sealed rest.inherited
    (known_named uuid new known named)
    (places_same sectors ancestors old.frontier old.maps new.maps (ap (λ (m : MapState ObjectPlace). m.rows) rest.settled)
    are.places)

-- ---- what a mount finds

-- the same places, and other objects
pub uploads_found : (uuid : List ℕ) (sectors ancestors : ℕ) (window : WindowState) (old new : QueueState)
    → IsUploads (whole uuid sectors ancestors old window) → KeepsAllButFound old new → IsKnown new
    → All (IsNamed uuid) new.receipts
    → PlacesFit sectors ancestors old.frontier new.maps → IsUploads (whole uuid sectors ancestors new window)
uploads_found uuid sectors ancestors window old new are rest known named places =
    uploads_kept uuid sectors ancestors window old new are rest.frontier rest.sealed rest.inherited
    (known_named uuid new known named) places

-- nothing but room
pub found_none : (uuid : List ℕ) (sectors ancestors : ℕ) (window : WindowState) (old new : QueueState)
    → IsUploads (whole uuid sectors ancestors old window) → KeepsAllButFound old new → new.receipts ≡ old.receipts
    → new.maps.settled.rows ≡ old.maps.settled.rows → new.maps.objects.rows ≡ old.maps.objects.rows
    → new.maps.objects.checkpoint ≡ old.maps.objects.checkpoint → IsUploads (whole uuid sectors ancestors new window)
found_none uuid sectors ancestors window old new are rest receipts settled rows checkpoint =
    uploads_same uuid sectors ancestors window old new are rest.frontier rest.sealed receipts rest.removal rest.inherited
    (record { settled = settled; log = rest.log; objects = rows; checkpoint = checkpoint })
