-- When nothing is left to put, and the newest object is a checkpoint, by the plain volume; and that two plain volumes which one
-- volume shows have the same objects to remove.
use Rattle.std.proofs.Common.{arith, ◌≡◌, ℕ, zero, suc, ◌+◌, ◌-◌, ◌≤◌, nat_eq, Bool, true, false, cond, ◌&&◌, ◌||◌, List, []}
use Rattle.std.proofs.Common.{◌∷◌, ◌++◌, take, drop, length-append, refl, sym, ◌∙◌, ap, subst}
use Rattle.std.specs.Prelude.{Option, Some, None, find}
use Rattle.std.specs.List.{range_with_len}
use Rattle.std.proofs.lemmas.Bool.Decides.{nat_tests}
use Rattle.std.proofs.lemmas.List.{take_all}
use Rattle.object_stream.specs.declared.object.Content.TheVariants.{Checkpoint}
use Rattle.object_stream.specs.declared.object.StreamObject.{StreamObject}
use Rattle.object_stream.specs.Stream.{end_after, end_at, last_number}
use Rattle.object_stream.proofs.StreamLemmas.{end_in_parts}
use Rattle.object_uploads.specs.Order.{IsUploads}
use Rattle.upload_window.specs.declared.object.OpenObject.{OpenObject}
use Rattle.upload_window.specs.Window.{WindowState, has_number, is_started, with_started, without, entered}
use Rattle.plain_disk.specs.Checkpoints.{is_started_checkpoint}
use Rattle.plain_disk.specs.Objects.{window_after_take}
use Rattle.plain_disk.specs.Removals.{is_removable, to_remove}
use Rattle.plain_disk.specs.State.{PlainState, stream_in, unsealed_entries}
use Rattle.refine_objects.proofs.RemovalShown.{removable_is, removable_by}
use Rattle.vol_core.specs.Volume.{VolumeState}
use Rattle.vol_core.specs.Shows.{Shows}
use Rattle.volume_owner.specs.Clearing.{HasAllPut, AwaitsCheckpoint}

-- ---- by the plain volume

pub record IsAllPut (plain : PlainState) : Type 0 where
  pub unsealed : unsealed_entries plain ≡ []
  pub on_way : plain.window.objects ≡ []
  pub checkpoint : plain.checkpoint.number ≡ plain.window.last

pub record IsAwaiting (plain : PlainState) : Type 0 where
  pub unsealed : unsealed_entries plain ≡ []
  pub object : OpenObject
  pub on_way : plain.window.objects ≡ object ∷ []
  pub is_checkpoint : object.is_checkpoint ≡ true
  pub number : object.number ≡ plain.window.last

module _ (volume : VolumeState) (plain : PlainState) (shows : Shows volume plain) where
  same_objects : volume.objects.uploads.window.objects ≡ plain.window.objects
  same_objects = ap (λ (w : WindowState). w.objects) shows.objects.window

  same_last : volume.objects.uploads.window.last ≡ plain.window.last
  same_last = ap (λ (w : WindowState). w.last) shows.objects.window

  pub all_put_plain : HasAllPut volume → IsAllPut plain
  all_put_plain put = record {
    unsealed = sym shows.objects.stream.entries ∙ put.unsealed;
    on_way = sym same_objects ∙ put.on_way;
    checkpoint = sym shows.table.checkpoint ∙ put.checkpoint ∙ same_last;
  }

  pub all_put_shown : IsAllPut plain → HasAllPut volume
  all_put_shown put = record {
    unsealed = shows.objects.stream.entries ∙ put.unsealed;
    on_way = same_objects ∙ put.on_way;
    checkpoint = shows.table.checkpoint ∙ put.checkpoint ∙ sym same_last;
  }

  pub awaiting_plain : AwaitsCheckpoint volume → IsAwaiting plain
  awaiting_plain awaits = record {
    unsealed = sym shows.objects.stream.entries ∙ awaits.unsealed;
    object = awaits.object;
    on_way = sym same_objects ∙ awaits.on_way;
    is_checkpoint = awaits.is_checkpoint;
    number = awaits.number ∙ same_last;
  }

  pub awaiting_shown : IsAwaiting plain → AwaitsCheckpoint volume
  awaiting_shown awaits = record {
    unsealed = shows.objects.stream.entries ∙ awaits.unsealed;
    object = awaits.object;
    on_way = same_objects ∙ awaits.on_way;
    is_checkpoint = awaits.is_checkpoint;
    number = awaits.number ∙ sym same_last;
  }

-- ---- the put of the one object that is open

started_by : (same started : Bool) → (same && started || false) ≡ true → (same ≡ true) × (started ≡ true)
started_by true true is = (refl, refl)
started_by true false is = (let bad : ⊥ = cc in absurd bad)
started_by false started is = (let bad : ⊥ = cc in absurd bad)

same_by : (a b : ℕ) → nat_eq a b ≡ true → a ≡ b
same_by a b is = grind (arith, nat_tests)

-- it is done: it is open no more, and it was a checkpoint
pub record IsOnePut (n : ℕ) (object : OpenObject) (objects : List OpenObject) : Type 0 where
  pub none : without n objects ≡ []
  pub is_checkpoint : is_started_checkpoint n objects ≡ true
  pub number : object.number ≡ n

pub one_put : (n : ℕ) (object : OpenObject) (objects : List OpenObject) → objects ≡ object ∷ []
    → object.is_checkpoint ≡ true → is_started n objects ≡ true → IsOnePut n object objects
one_put n object objects is checkpoint started =
    let parts = started_by (has_number n object) object.is_started (ap (is_started n) (sym is) ∙ started) in
    let here = parts.0 in
    let out = parts.1 in
    record {
      none = ap (without n) is ∙ ap (λ (b : Bool). cond b [] (object ∷ [])) here;
      is_checkpoint = ap (is_started_checkpoint n) is ∙ rw (here, out, checkpoint) refl;
      number = same_by object.number n here;
    }

-- it begins: the same object is open
record IsOneStill (object : OpenObject) (objects : List OpenObject) : Type 0 where
  other : OpenObject
  one : objects ≡ other ∷ []
  is_checkpoint : other.is_checkpoint ≡ object.is_checkpoint
  number : other.number ≡ object.number

one_marked : (n : ℕ) (object : OpenObject) → IsOneStill object (with_started n true (object ∷ []))
one_marked n object =
    let changed : OpenObject = record object { is_started = true; was_started = object.was_started || true } in
    elim (has_number n object) as (λ b. IsOneStill object (cond b (changed ∷ []) (object ∷ []))) [
      | true ↦ record { other = changed; one = refl; is_checkpoint = refl; number = refl }
      | false ↦ record { other = object; one = refl; is_checkpoint = refl; number = refl }
    ]

one_taken : (lowest : Option ℕ) (object : OpenObject) (window : WindowState) → window.objects ≡ object ∷ []
    → IsOneStill object (window_after_take lowest window).objects
one_taken None object window is = record { other = object; one = is; is_checkpoint = refl; number = refl }
one_taken (Some n) object window is =
    subst (λ (objects : List OpenObject). IsOneStill object (with_started n true objects)) (sym is) (one_marked n object)

pub last_taken : (lowest : Option ℕ) (window : WindowState) → (window_after_take lowest window).last ≡ window.last
last_taken None window = refl
last_taken (Some n) window = refl

pub taken_awaits : (lowest : Option ℕ) (plain after : PlainState) → unsealed_entries after ≡ unsealed_entries plain
    → after.window ≡ window_after_take lowest plain.window → IsAwaiting plain → IsAwaiting after
taken_awaits lowest plain after unsealed window awaits =
    let still = one_taken lowest awaits.object plain.window awaits.on_way in
    record {
      unsealed = unsealed ∙ awaits.unsealed;
      object = still.other;
      on_way = ap (λ (w : WindowState). w.objects) window ∙ still.one;
      is_checkpoint = still.is_checkpoint ∙ awaits.is_checkpoint;
      number =
          still.number ∙ awaits.number ∙ sym (last_taken lowest plain.window)
          ∙ ap (λ (w : WindowState). w.last) (sym window);
    }

-- ---- a checkpoint is sealed

-- it leaves the entries that are in no object
abbrev pub with_checkpoint : PlainState → PlainState
with_checkpoint plain = record plain {
  objects =
      plain.objects
      ++ record { content = Checkpoint; end = end_at (stream_in plain) (last_number (stream_in plain)) } ∷ [];
  window = entered (plain.window.last + 1) true plain.window;
}

pub checkpoint_unsealed : (plain : PlainState) → unsealed_entries (with_checkpoint plain) ≡ unsealed_entries plain
checkpoint_unsealed plain =
    let object : StreamObject =
    record { content = Checkpoint; end = end_at (stream_in plain) (last_number (stream_in plain)) } in
    let objects : List StreamObject = plain.objects ++ object ∷ [] in
    let more = length-append plain.objects (object ∷ []) in
    let all : take (last_number (stream_in (with_checkpoint plain)) - plain.number) objects ≡ objects =
    take_all (last_number (stream_in (with_checkpoint plain)) - plain.number) objects (omega arith) in
    let ends : end_at (stream_in (with_checkpoint plain)) (last_number (stream_in (with_checkpoint plain))) ≡ object.end =
    ap (end_after plain.end) all ∙ end_in_parts plain.end plain.objects (object ∷ []) in
    ap (λ e. drop (e - plain.end) plain.entries) ends

-- where nothing is on its way and no entry is left, it alone is on its way
pub checkpoint_awaits : (plain : PlainState) → unsealed_entries plain ≡ [] → plain.window.objects ≡ []
    → IsAwaiting (with_checkpoint plain)
checkpoint_awaits plain unsealed none = record {
  unsealed = checkpoint_unsealed plain ∙ unsealed;
  object = record { number = plain.window.last + 1; is_checkpoint = true; is_started = false; was_started = false };
  on_way = ap (λ (objects : List OpenObject). objects ++ record {
    number = plain.window.last + 1;
    is_checkpoint = true;
    is_started = false;
    was_started = false;
  } ∷ []) none;
  is_checkpoint = refl;
  number = refl;
}

-- ---- which object may be removed

both_ways : (a b : Bool) → (a ≡ true → b ≡ true) → (b ≡ true → a ≡ true) → a ≡ b
both_ways true b to back = sym (to refl)
both_ways false true to back = back refl
both_ways false false to back = refl

-- tests that tell the same find the same
find_same : (p q : ℕ → Bool) (from count : ℕ) → ((n : ℕ) → from ≤ n → p n ≡ q n)
    → find p (range_with_len from count) ≡ find q (range_with_len from count)
find_same p q from zero same = refl
find_same p q from (suc count) same =
    let rest = find_same p q (from + 1) count (λ n past. same n (omega (arith, past))) in
    ap (λ (b : Bool). cond b (Some from) (find p (range_with_len (from + 1) count))) (same from (omega arith))
    ∙ ap (λ (o : Option ℕ). cond (q from) (Some from) o) rest

-- two plain volumes that one volume shows have the same one
pub same_to_remove : (volume : VolumeState) (plain other : PlainState) → IsUploads volume.objects.uploads → Shows volume plain
    → Shows volume other → to_remove plain ≡ to_remove other
same_to_remove volume plain other is shows others =
    let uploads = volume.objects.uploads in
    let count : plain.checkpoint.number ≡ other.checkpoint.number = sym shows.table.checkpoint ∙ others.table.checkpoint in
    ap (λ n. find (is_removable plain) (range_with_len 1 (n - 1))) count
    ∙ find_same (is_removable plain) (is_removable other) 1 (other.checkpoint.number - 1)
    (λ n low. both_ways (is_removable plain n) (is_removable other n)
    (λ may. removable_is uploads other is others.table n (removable_by uploads plain is shows.table n low may))
    (λ may. removable_is uploads plain is shows.table n (removable_by uploads other is others.table n low may)))
