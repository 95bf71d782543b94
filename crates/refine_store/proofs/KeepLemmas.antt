-- An object of a plain volume stays one while events go on, and over a mount that recovers it.
use Rattle.std.proofs.Common.{◌≡◌, ℕ, ◌+◌, ◌-◌, ◌<◌, ◌≤◌, Bool, true, false, cond, not, ◌&&◌, List, [], ◌∷◌, ◌++◌, length, take}
use Rattle.std.proofs.Common.{Option, Some, None, inl, inr, drop, get_or}
use Rattle.std.proofs.Common.{refl, sym, ◌∙◌, ap, subst, arith, append-nil}
use Rattle.std.specs.Prelude.{IfSome, ◌⊎◌}
use Rattle.std.specs.List.{slice_get}
use Rattle.std.proofs.lemmas.List.{take-take, take-append-le, take-append-drop, length-take-le}
use Rattle.std.proofs.lemmas.Option.{slice_get_within}
use Rattle.lsvd_base.specs.declared.entry.Entry.{Entry}
use Rattle.lsvd_base.specs.Image.{Image, after}
use Rattle.object_format.specs.declared.expected.Expected.{Expected}
use Rattle.ckpt_format.specs.Checkpoint.{IsCheckpoint}
use Rattle.object_stream.specs.declared.object.CopiedSector.{CopiedSector}
use Rattle.object_stream.specs.declared.object.Content.{Content}
use Rattle.object_stream.specs.declared.object.Content.TheVariants.{Data, Copy, Checkpoint}
use Rattle.object_stream.specs.declared.object.StreamObject.{StreamObject}
use Rattle.object_stream.specs.declared.owner.Owner.{Owner}
use Rattle.object_stream.specs.Replay.{expected_at}
use Rattle.object_stream.specs.Stream.{Stream, Owners, owners, is_own, place_in_object, after_objects, end_after, end_at}
use Rattle.object_stream.specs.Stream.{last_number, entries_in_object}
use Rattle.object_stream.proofs.StreamLemmas.{follow_first}
use Rattle.upload_window.specs.Window.{entered}
use Rattle.volume_maps.specs.declared.place.ObjectPlace.{ObjectPlace}
use Rattle.volume_maps.specs.Laws.{place_owner}
use Rattle.object_uploads.specs.declared.rows.SealedRows.{SealedRows}
use Rattle.object_uploads.specs.declared.rows.SealedRows.TheVariants as sealed_rows
use Rattle.object_uploads.specs.Stream.{object_at, IsPlacedOwn, IsPlacedIn, HoldsContent}
use Rattle.stopped_volume.specs.Expected.{expected_alone}
use Rattle.plain_disk.specs.declared.event.PlainEvent.{PlainEvent}
use Rattle.plain_disk.specs.declared.event.PlainEvent.TheVariants.{Write, Zero, Flush, Look, Release, Seal, TakeJob, JobDone}
use Rattle.plain_disk.specs.declared.event.PlainEvent.TheVariants.{JobFailed, SealCheckpoint, TakeRemove}
use Rattle.plain_disk.specs.declared.event.PlainEvent.TheVariants.{RemoveDone, RemoveFailed, PlanCopy, SealCopy, DropPlan, Status}
use Rattle.lsvd_base.specs.Limits.{may_transfer}
use Rattle.plain_disk.specs.Cache.{after_reads}
use Rattle.plain_disk.specs.Collection.{planned_copy, with_plan, after_sealed_copy}
use Rattle.plain_disk.specs.Objects.{has_unsealed, is_busy, end_of_next}
use Rattle.plain_disk.specs.Reads.{look_calls, passes_look, objects_read, are_pinned, without_pins}
use Rattle.plain_disk.specs.Removals.{to_remove, with_removal, is_out}
use Rattle.plain_disk.specs.Found.{IsOwnPast, IsInheritedAt}
use Rattle.plain_disk.specs.State.{PlainState, OpensFirst, stream_in}
use Rattle.plain_disk.specs.Step.{plain_after}
use Rattle.plain_disk.specs.Stops.{recovered_number, recovered_end, kept_count, mounted_from, mounted_on}
use Rattle.plain_disk.specs.Valid.{IsPlainVolume}
use Rattle.plain_disk.proofs.EndLemmas.{ends_grow, ends_within, ends_from}
use Rattle.plain_disk.proofs.FlushLemmas.{events_keep_committed}
use Rattle.plain_disk.proofs.FoldLemmas.{owners_of_first}
use Rattle.plain_disk.proofs.OpeningLemmas.{owners_are_past}
use Rattle.refine_store.specs.Puts.{IsOpeningObject, image_up_to, HasSourceSectors, IsLaterObject, IsObjectOf}
use Rattle.refine_store.specs.Laws.{EventsKeepObject, MountsKeepObject}
use Rattle.refine_store.proofs.ObjectLemmas.{get_of_first, same_part}

-- ---- content in another stream

-- a place that is told is where another stream has it too
placed_too : (stream other : Stream) (owner : Option Owner) (k : ℕ) (place : Option ObjectPlace) → place_owner place ≡ owner
    → ((p : ObjectPlace) → place_owner (Some p) ≡ owner → IsPlacedIn stream k p → IsPlacedIn other k p)
    → IfSome place (IsPlacedIn stream k)
    → IfSome place (IsPlacedIn other k)
placed_too stream other owner k None is too placed = tt
placed_too stream other owner k (Some p) is too placed = too p is placed

holds_too : (stream other : Stream) (expected : Expected) (content : Content) (entries : List Entry) (before : Owners) (end : ℕ)
    (bytes : List ℕ) (rows : SealedRows)
    → ((k : ℕ) (p : ObjectPlace) → place_owner (Some p) ≡ before k → IsPlacedIn stream k p → IsPlacedIn other k p)
    → HoldsContent stream expected content entries before end bytes rows
    → HoldsContent other expected content entries before end bytes rows
holds_too stream other expected Data entries before end bytes (sealed_rows.Data list) too holds = holds
holds_too stream other expected (Copy pairs) entries before end bytes (sealed_rows.Copy list) too holds = holds
holds_too stream other expected Checkpoint entries before end bytes sealed_rows.Checkpoint too holds = record {
  places = holds.places;
  holds = holds.holds;
  owners_are = holds.owners_are;
  placed = λ k. placed_too stream other (before k) k (holds.places k) (holds.owners_are k) (too k) (holds.placed k);
}
holds_too stream other expected Data entries before end bytes (sealed_rows.Copy list) too holds = absurd holds
holds_too stream other expected Data entries before end bytes sealed_rows.Checkpoint too holds = absurd holds
holds_too stream other expected Checkpoint entries before end bytes (sealed_rows.Data list) too holds = absurd holds
holds_too stream other expected Checkpoint entries before end bytes (sealed_rows.Copy list) too holds = absurd holds
holds_too stream other expected (Copy copied) entries before end bytes (sealed_rows.Data list) too holds = absurd holds
holds_too stream other expected (Copy copied) entries before end bytes sealed_rows.Checkpoint too holds = absurd holds

-- the sectors of a copy are told by the owners and the image before it
pub copied_too : (plain now : PlainState) (number : ℕ) (bytes : List ℕ) (rows : SealedRows)
    → owners (stream_in now) (number - 1) ≡ owners (stream_in plain) (number - 1)
    → image_up_to now (number - 1) ≡ image_up_to plain (number - 1)
    → HasSourceSectors plain number bytes rows → HasSourceSectors now number bytes rows
copied_too plain now number bytes (sealed_rows.Data list) owned image copied = tt
copied_too plain now number bytes (sealed_rows.Copy list) owned image copied =
    λ k source sector from own at.
    copied k source sector from (ap (λ (os : Owners). is_own source (os k)) (sym owned) ∙ own)
    (ap (λ (i : Image). slice_get i k) (sym image) ∙ at)
copied_too plain now number bytes sealed_rows.Checkpoint owned image copied = tt

-- ---- a volume with the same object

module _ (volume : Expected) (plain : PlainState) (number : ℕ) (bytes : List ℕ) (valid : IsPlainVolume plain)
    (blank : OpensFirst plain) (is : IsLaterObject volume plain number bytes) where
  -- how many objects there are up to this one, and how many entries in them
  abbrev count : ℕ
  count = number - plain.number

  abbrev size : ℕ
  size = end_at (stream_in plain) number - plain.end

  pub count_within : count ≤ length plain.objects
  count_within = let past = is.past in omega (arith, slice_get_within plain.objects (number - (plain.number + 1)) _ is.there)

  pub size_within : size ≤ length plain.entries
  size_within = omega (arith, ends_within plain number valid (omega (arith, count_within, is.past)))

  -- another volume that opens at the same object, and has the same objects and entries up to there, has it
  module _ (now : PlainState) (opens : now.number ≡ plain.number) (ends : now.end ≡ plain.end)
      (opening : now.opening ≡ plain.opening) (owned : now.owned ≡ plain.owned)
      (inherited : now.inherited ≡ plain.inherited)
      (objects : take count now.objects ≡ take count plain.objects) (entries : take size now.entries ≡ take size plain.entries)
    where
      same_objects : (n : ℕ) → n ≤ count → take n now.objects ≡ take n plain.objects
      same_objects n low = sym (take-take n count now.objects low) ∙ ap (take n) objects ∙ take-take n count plain.objects low

      same_end : (other : ℕ) → other ≤ number → end_at (stream_in now) other ≡ end_at (stream_in plain) other
      same_end other low =
          let few : other - plain.number ≤ count = omega arith in
          ap (λ n. end_after now.end (take (other - n) now.objects)) opens
          ∙ ap (λ end. end_after end (take (other - plain.number) now.objects)) ends
          ∙ ap (end_after plain.end) (same_objects (other - plain.number) few)

      same_entries : (other : ℕ) → other ≤ number
          → entries_in_object (stream_in now) other ≡ entries_in_object (stream_in plain) other
      same_entries other most =
          let from = end_at (stream_in plain) (other - 1) in
          let to = end_at (stream_in plain) other in
          let part = from - plain.end + (to - from) in
          let low = ends_from plain (other - 1) valid in
          let grown = ends_grow (stream_in plain) (other - 1) other valid.stream.ends (omega arith) in
          let high = ends_grow (stream_in plain) other number valid.stream.ends most in
          let within : part ≤ size = omega (arith, low, grown, high) in
          let first : take part now.entries ≡ take part plain.entries =
          sym (take-take part size now.entries within) ∙ ap (take part) entries ∙ take-take part size plain.entries within in
          let first_now = end_at (stream_in now) (other - 1) in
          ap (λ end. take (end - first_now) (drop (first_now - now.end) now.entries)) (same_end other most)
          ∙ ap (λ end. take (to - end) (drop (end - now.end) now.entries)) (same_end (other - 1) (omega arith))
          ∙ ap (λ end. take (to - from) (drop (from - end) now.entries)) ends
          ∙ same_part (from - plain.end) (to - from) now.entries plain.entries first

      same_owners : owners (stream_in now) (number - 1) ≡ owners (stream_in plain) (number - 1)
      same_owners =
          let n = number - 1 - plain.number in
          let list = take n plain.objects in
          let opening = (stream_in plain).opening in
          let first = take size plain.entries in
          let low = ends_from plain (number - 1) valid in
          let grown = ends_grow (stream_in plain) (number - 1) number valid.stream.ends (omega arith) in
          let long = length-take-le size plain.entries size_within in
          let inside : end_after plain.end list ≤ plain.end + length first = omega (arith, long, low, grown) in
          let follow = follow_first plain.end n plain.objects valid.stream.ends in
          let After : List Entry → Owners = λ es. after_objects plain.number plain.end es opening list in
          ap (λ m. after_objects m now.end now.entries (stream_in now).opening (take (number - 1 - m) now.objects)) opens
          ∙ ap (λ end. after_objects plain.number end now.entries (stream_in now).opening (take n now.objects)) ends
          ∙ ap (λ (os : List (Option Owner)). after_objects plain.number plain.end now.entries (λ k. get_or os k None)
          (take n now.objects)) owned
          ∙ ap (after_objects plain.number plain.end now.entries opening) (same_objects n (omega arith))
          ∙ ap After (sym (take-append-drop size now.entries))
          ∙ ap (λ es. After (es ++ drop size now.entries)) entries
          ∙ owners_of_first plain.number plain.end first (drop size now.entries) opening list follow inside
          ∙ sym (owners_of_first plain.number plain.end first (drop size plain.entries) opening list follow inside)
          ∙ ap After (take-append-drop size plain.entries)

      same_object : (other : ℕ) → plain.number < other → other ≤ number
          → object_at (stream_in now) other ≡ object_at (stream_in plain) other
      same_object other past most =
          let i = other - (plain.number + 1) in
          let inside : i < count = omega arith in
          ap (λ n. slice_get now.objects (other - (n + 1))) opens
          ∙ sym (get_of_first count i now.objects inside)
          ∙ ap (λ list. slice_get list i) objects
          ∙ get_of_first count i plain.objects inside

      same_image : image_up_to now (number - 1) ≡ image_up_to plain (number - 1)
      same_image =
          let from = end_at (stream_in plain) (number - 1) - plain.end in
          let grown = ends_grow (stream_in plain) (number - 1) number valid.stream.ends (omega arith) in
          let low : from ≤ size = omega (arith, grown) in
          ap (λ image. after image (take (end_at (stream_in now) (number - 1) - now.end) now.entries)) opening
          ∙ ap (λ end. after plain.opening (take (end - now.end) now.entries)) (same_end (number - 1) (omega arith))
          ∙ ap (λ end. after plain.opening (take (end_at (stream_in plain) (number - 1) - end) now.entries)) ends
          ∙ ap (after plain.opening)
          (sym (take-take from size now.entries low) ∙ ap (take from) entries ∙ take-take from size plain.entries low)

      -- a place in an object of the volume's own is in an earlier one
      own_place : (k : ℕ) (place : ObjectPlace) (level : place.level ≡ 0) (past : now.number < place.number)
          → IsPlacedOwn (stream_in plain) k place
          → IsOwnPast (number - 1) (record { level = place.level; number = place.number })
          ⊎ IsInheritedAt plain k (record { level = place.level; number = place.number })
          → IfSome (object_at (stream_in now) place.number)
          (λ object. place.sector ≡ place_in_object object.content (entries_in_object (stream_in now) place.number) k)
      own_place k place level past placed (inr inherits) = absurd (omega (arith, level, inherits.0))
      own_place k place level past placed (inl before) =
          let n = place.number in
          let At : Option StreamObject → List Entry → Type 0 =
          λ found list. IfSome found (λ object. place.sector ≡ place_in_object object.content list k) in
          subst (λ found. At found (entries_in_object (stream_in now) n))
          (sym (same_object n (omega (arith, past, opens)) (omega (arith, before.2))))
          (subst (At (object_at (stream_in plain) n)) (sym (same_entries n (omega (arith, before.2))))
          (placed level (omega (arith, past, opens))))

      -- each place of a checkpoint is in an earlier object, or an ancestor's
      same_place : (k : ℕ) (place : ObjectPlace) → place_owner (Some place) ≡ owners (stream_in plain) (number - 1) k
          → IsPlacedIn (stream_in plain) k place → IsPlacedIn (stream_in now) k place
      same_place k place owns placed =
          let owner : Owner = record { level = place.level; number = place.number } in (
            λ level past. own_place k place level past placed.0 (owners_are_past plain (number - 1) k owner blank (sym owns)),
            λ from. placed.1 from ∙ ap (λ (list : List ℕ). get_or list k 0) (sym inherited),
          )

      pub later_kept : IsLaterObject volume now number bytes
      later_kept =
          let i = number - (plain.number + 1) in
          let past = is.past in
          let inside : i < count = omega arith in
          let object = is.object in
          let last = end_at (stream_in plain) (number - 1) in
          let own = entries_in_object (stream_in plain) number in
          let Holds : ℕ → List Entry → Owners → Type 0 =
          λ end list os. HoldsContent (stream_in now) (expected_at volume number end) object.content list os object.end bytes
          is.rows in
          record {
            past = omega (arith, opens, past);
            object = object;
            there =
                ap (λ n. slice_get now.objects (number - (n + 1))) opens
                ∙ sym (get_of_first count i now.objects inside)
                ∙ ap (λ list. slice_get list i) objects
                ∙ get_of_first count i plain.objects inside
                ∙ is.there;
            rows = is.rows;
            copied = copied_too plain now number bytes is.rows same_owners same_image is.copied;
            holds =
                subst (λ os. Holds (end_at (stream_in now) (number - 1)) (entries_in_object (stream_in now) number) os)
                (sym same_owners)
                (subst (λ list. Holds (end_at (stream_in now) (number - 1)) list (owners (stream_in plain) (number - 1)))
                (sym (same_entries number (omega arith)))
                (subst (λ end. Holds end own (owners (stream_in plain) (number - 1))) (sym (same_end (number - 1) (omega arith)))
                (holds_too (stream_in plain) (stream_in now) (expected_at volume number last) object.content own
                (owners (stream_in plain) (number - 1)) object.end bytes is.rows same_place is.holds)));
          }

opening_kept : (volume : Expected) (plain now : PlainState) (number : ℕ) (bytes : List ℕ) → now.number ≡ plain.number
    → now.end ≡ plain.end → now.owned ≡ plain.owned → now.inherited ≡ plain.inherited
    → IsOpeningObject volume plain number bytes → IsOpeningObject volume now number bytes
opening_kept volume plain now number bytes opens ends owned inherited is = record {
  first = is.first ∙ sym opens;
  rows = is.rows;
  is_checkpoint = subst (λ end. IsCheckpoint bytes (expected_alone volume number) end is.rows) (sym ends) is.is_checkpoint;
  says = λ k. ap (λ (list : List (Option Owner)). get_or list k None) owned ∙ is.says k;
  places = λ k place at. is.places k place at ∙ ap (λ (list : List ℕ). get_or list k 0) (sym inherited);
}

-- ---- events

-- a volume opens where another one does, and has its objects, and maybe more
abbrev KeepsObjects : (old new : PlainState) → Type 0
KeepsObjects old new =
    (new.number ≡ old.number) × (new.end ≡ old.end) × (new.opening ≡ old.opening) × (new.owned ≡ old.owned)
    × (new.inherited ≡ old.inherited) × ((more : List StreamObject) × (new.objects ≡ old.objects ++ more))

has_same : (plain : PlainState) → KeepsObjects plain plain
has_same plain = (refl, refl, refl, refl, refl, ([], sym (append-nil plain.objects)))

either_keeps : (plain : PlainState) (b : Bool) (x y : PlainState) → KeepsObjects plain x → KeepsObjects plain y
    → KeepsObjects plain (cond b x y)
either_keeps plain true x y keeps other = keeps
either_keeps plain false x y other keeps = keeps

-- a removal that begins, or none
removal_keeps : (plain : PlainState) (out lowest : Option ℕ) → KeepsObjects plain (with_removal out lowest plain)
removal_keeps plain None None = has_same plain
removal_keeps plain None (Some number) = has_same plain
removal_keeps plain (Some other) lowest = has_same plain

-- a plan of a copy, or none, and its seal
plan_keeps : (plain : PlainState) (out : Option (List CopiedSector)) (sectors : List CopiedSector)
    → KeepsObjects plain (with_plan out sectors plain)
plan_keeps plain (Some plan) sectors = has_same plain
plan_keeps plain None [] = has_same plain
plan_keeps plain None (first ∷ more) = has_same plain

copy_keeps : (plain : PlainState) (is_sealed : Bool) (out : Option (List CopiedSector))
    → KeepsObjects plain (after_sealed_copy is_sealed out plain)
copy_keeps plain is_sealed None = has_same plain
copy_keeps plain false (Some plan) = has_same plain
copy_keeps plain true (Some plan) =
    let object : StreamObject = record {
      content = Copy plan;
      end = end_at (stream_in plain) (last_number (stream_in plain));
    } in
    (refl, refl, refl, refl, refl, (object ∷ [], refl))

keeps_objects : (plain : PlainState) (event : PlainEvent) → KeepsObjects plain (plain_after event plain)
keeps_objects plain (Write lba body) = has_same plain
keeps_objects plain (Zero lba sectors) = has_same plain
keeps_objects plain Flush = has_same plain
keeps_objects plain (Look lba sectors) =
    either_keeps plain (may_transfer plain.geometry lba sectors)
    (record plain {
      cache = after_reads (look_calls plain lba sectors) plain.cache;
      pins = cond (passes_look plain lba sectors) (plain.pins ++ objects_read plain lba sectors) plain.pins;
    })
    plain (has_same plain) (has_same plain)
keeps_objects plain (Release numbers) =
    let released : PlainState = record plain { pins = without_pins numbers plain.pins } in
    either_keeps plain (are_pinned numbers plain.pins) released plain (has_same plain) (has_same plain)
keeps_objects plain Seal =
    let object : StreamObject = record { content = Data; end = end_of_next plain } in
    either_keeps plain (has_unsealed plain && not (is_busy plain))
    (record plain { objects = plain.objects ++ object ∷ []; window = entered (plain.window.last + 1) false plain.window })
    plain (refl, refl, refl, refl, refl, (object ∷ [], refl)) (has_same plain)
keeps_objects plain TakeJob = has_same plain
keeps_objects plain (JobDone job) = has_same plain
keeps_objects plain (JobFailed job) = has_same plain
keeps_objects plain SealCheckpoint =
    let object : StreamObject = record {
      content = Checkpoint;
      end = end_at (stream_in plain) (last_number (stream_in plain));
    } in
    either_keeps plain (is_busy plain) plain
    (record plain { objects = plain.objects ++ object ∷ []; window = entered (plain.window.last + 1) true plain.window })
    (has_same plain) (refl, refl, refl, refl, refl, (object ∷ [], refl))
keeps_objects plain TakeRemove = removal_keeps plain plain.removal (to_remove plain)
keeps_objects plain (RemoveDone number) =
    let gone : PlainState = record plain { removed = plain.removed ++ number ∷ []; removal = None } in
    either_keeps plain (is_out number plain.removal) gone plain (has_same plain) (has_same plain)
keeps_objects plain (RemoveFailed number) =
    either_keeps plain (is_out number plain.removal) (record plain { removal = None }) plain (has_same plain) (has_same plain)
keeps_objects plain PlanCopy = plan_keeps plain plain.plan (planned_copy plain)
keeps_objects plain (SealCopy is_planned) = copy_keeps plain (is_planned && not (is_busy plain)) plain.plan
keeps_objects plain DropPlan = has_same plain
keeps_objects plain Status = has_same plain

pub events_keep_object : EventsKeepObject
events_keep_object volume plain number bytes event valid blank (inl is) =
    let keeps = keeps_objects plain event in
    inl (opening_kept volume plain (plain_after event plain) number bytes keeps.0 keeps.1 keeps.3 keeps.4 is)
events_keep_object volume plain number bytes event valid blank (inr is) =
    let now = plain_after event plain in
    let keeps = keeps_objects plain event in
    let grows = (events_keep_committed plain event valid).1 in
    let first = number - plain.number in
    let held = end_at (stream_in plain) number - plain.end in
    inr (later_kept volume plain number bytes valid blank is now keeps.0 keeps.1 keeps.2 keeps.3
    keeps.4 (ap (take first) keeps.5.1
    ∙ take-append-le first plain.objects keeps.5.0 (count_within volume plain number bytes valid blank is))
    (ap (take held) grows.1
    ∙ take-append-le held plain.entries grows.0 (size_within volume plain number bytes valid blank is)))

-- ---- mounts

-- a volume that keeps its objects up to a number, and the entries in them at least, keeps the objects up to there
cut_keeps : (volume : Expected) (plain now : PlainState) (last number to : ℕ) (bytes : List ℕ) → IsPlainVolume plain
    → OpensFirst plain → number ≤ last → end_at (stream_in plain) last ≤ to
    → now.number ≡ plain.number → now.end ≡ plain.end → now.opening ≡ plain.opening → now.owned ≡ plain.owned
    → now.inherited ≡ plain.inherited → now.objects ≡ take (last - plain.number) plain.objects
    → now.entries ≡ take (to - plain.end) plain.entries
    → IsObjectOf volume plain number bytes → IsObjectOf volume now number bytes
cut_keeps volume plain now last number to bytes valid blank low high opens ends opening owned inherited objects entries
    (inl is) =
    inl (opening_kept volume plain now number bytes opens ends owned inherited is)
cut_keeps volume plain now last number to bytes valid blank low high opens ends opening owned inherited objects entries
    (inr is) =
    let first = number - plain.number in
    let held = end_at (stream_in plain) number - plain.end in
    let grown = ends_grow (stream_in plain) number last valid.stream.ends low in
    inr (later_kept volume plain number bytes valid blank is now opens ends opening owned inherited
    (ap (take first) objects ∙ take-take first (last - plain.number) plain.objects (omega arith))
    (ap (take held) entries ∙ take-take held (to - plain.end) plain.entries (omega (arith, grown))))

pub mounts_keep_object : MountsKeepObject
mounts_keep_object volume plain landed found log number bytes valid blank may low is =
    let last = recovered_number landed plain in (
      cut_keeps volume plain (mounted_from landed found plain) last number (kept_count landed found plain) bytes valid blank low
          (omega arith) refl refl refl refl refl refl refl is,
      cut_keeps volume plain (mounted_on log landed plain) last number (recovered_end landed plain) bytes valid blank low
          (omega arith) refl refl refl refl refl refl refl is,
    )
