-- The objects that a store has of a plain volume one by one, by those of a list that are stored.
use Rattle.std.proofs.Common.{◌≡◌, ℕ, zero, suc, ◌+◌, ◌-◌, ◌<◌, Option, Some, List, [], ◌∷◌, length, take, drop, refl, sym, ◌∙◌}
use Rattle.std.proofs.Common.{ap, subst, arith}
use Rattle.std.specs.List.{slice_get}
use Rattle.lsvd_base.specs.declared.entry.Entry.{Entry}
use Rattle.lsvd_objstore.specs.Objects.{Objects}
use Rattle.object_format.specs.declared.expected.Expected.{Expected}
use Rattle.object_stream.specs.declared.object.StreamObject.{StreamObject}
use Rattle.object_stream.specs.Replay.{expected_at}
use Rattle.object_stream.specs.Stored.{IsObjectStored, AreStored}
use Rattle.object_stream.specs.Stream.{Stream, Owners, after_object, after_objects, end_after, end_at, EndsFollow}
use Rattle.object_stream.specs.Stream.{entries_in_object}
use Rattle.plain_disk.specs.State.{PlainState, stream_in}
use Rattle.refine_store.proofs.ObjectLemmas.{end_up_to, entries_at, entries_past_first, entries_of_first}

-- ---- objects that are stored

-- objects are stored where each is
module _ (objects : Objects) (uuid_at : ℕ → Option (List ℕ)) (volume : Expected) where
  -- the object at an index is stored
  abbrev pub IsStoredAt : (number end : ℕ) → List Entry → Owners → List StreamObject → ℕ → StreamObject → Type 0
  IsStoredAt number end entries before list i object =
      IsObjectStored objects uuid_at (expected_at volume (number + 1 + i) (end_after end (take i list)))
      (after_objects number end entries before (take i list)) object (entries_at end entries list i object)

  -- the owners after the first object
  abbrev after_first : (number end : ℕ) → List Entry → Owners → StreamObject → Owners
  after_first number end entries before first =
      after_object (number + 1) first.content (take (first.end - end) entries) before

  stored_past_first : (number end : ℕ) (entries : List Entry) (before : Owners) (first object : StreamObject) (i : ℕ)
      (more : List StreamObject)
      → EndsFollow end (first ∷ more) → IsStoredAt number end entries before (first ∷ more) (suc i) object
      → IsStoredAt (number + 1) first.end (drop (first.end - end) entries) (after_first number end entries before first) more i
      object
  stored_past_first number end entries before first object i more follow is =
      let last = end_after first.end (take i more) in
      let owned = after_objects number end entries before (first ∷ take i more) in
      let sum : number + 1 + suc i ≡ number + 1 + 1 + i = omega arith in
      let part = entries_at first.end (drop (first.end - end) entries) more i object in
      subst (λ n. IsObjectStored objects uuid_at (expected_at volume n last) owned object part) sum
      (subst (λ list. IsObjectStored objects uuid_at (expected_at volume (number + 1 + suc i) last) owned object list)
      (sym (entries_past_first end entries first object i more follow)) is)

  stored_is_first : (number end : ℕ) (entries : List Entry) (before : Owners) (object : StreamObject) (more : List StreamObject)
      → IsStoredAt number end entries before (object ∷ more) 0 object
      → IsObjectStored objects uuid_at (expected_at volume (number + 1) end) before object (take (object.end - end) entries)
  stored_is_first number end entries before object more is =
      let sum : number + 1 + 0 ≡ number + 1 = omega arith in
      subst (λ n. IsObjectStored objects uuid_at (expected_at volume n end) before object (take (object.end - end) entries)) sum
      (subst (λ list. IsObjectStored objects uuid_at (expected_at volume (number + 1 + 0) end) before object list)
      (sym (entries_of_first end entries object more)) is)

  pub stored_by_each : (count number end : ℕ) (entries : List Entry) (before : Owners) (list : List StreamObject)
      → EndsFollow end list
      → ((i : ℕ) (object : StreamObject) → i < count → slice_get list i ≡ Some object
      → IsStoredAt number end entries before list i object)
      → AreStored objects uuid_at volume number end entries before (take count list)
  stored_by_each zero number end entries before list follow each = tt
  stored_by_each (suc count) number end entries before [] follow each = tt
  stored_by_each (suc count) number end entries before (object ∷ more) follow each = (
    stored_is_first number end entries before object more (each 0 object (omega arith) refl),
    stored_by_each count (number + 1) object.end (drop (object.end - end) entries) (after_first number end entries before object)
        more follow.1
        (λ i other low at.
        stored_past_first number end entries before object other i more follow (each (suc i) other (omega arith) at)),
  )

-- ---- in a plain volume

pub get_within : {X : Type 0} (i : ℕ) (xs : List X) → i < length xs → (x : X) × (slice_get xs i ≡ Some x)
get_within i [] low = absurd (omega (arith, low))
get_within zero (x ∷ xs) low = (x, refl)
get_within (suc i) (x ∷ xs) low = get_within i xs (omega (arith, low))

-- the object at an index
module _ (plain : PlainState) (i : ℕ) (object : StreamObject) (at : slice_get plain.objects i ≡ Some object) where
  abbrev stream : Stream
  stream = stream_in plain

  abbrev n : ℕ
  n = plain.number + 1 + i

  pub end_before : end_at stream (n - 1) ≡ end_after plain.end (take i plain.objects)
  end_before =
      let index : n - 1 - plain.number ≡ i = omega arith in ap (λ m. end_after plain.end (take m plain.objects)) index

  pub end_there : end_at stream n ≡ object.end
  end_there =
      let index : n - plain.number ≡ suc i = omega arith in
      ap (λ m. end_after plain.end (take m plain.objects)) index ∙ end_up_to plain.end i plain.objects object at

  pub entries_there : entries_in_object stream n ≡ entries_at plain.end plain.entries plain.objects i object
  entries_there =
      let from = end_after plain.end (take i plain.objects) in
      ap (λ last. take (end_at stream n - last) (drop (last - plain.end) plain.entries)) end_before
      ∙ ap (λ end. take (end - from) (drop (from - plain.end) plain.entries)) end_there
