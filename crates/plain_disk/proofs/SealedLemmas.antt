-- Each checkpoint of a plain volume is one of its objects, so the newest one that has landed maps only objects before it.
use Rattle.std.proofs.Common.{arith, ℕ, zero, suc, ◌+◌, ◌-◌, ◌<◌, ◌≤◌, ◌≡◌, Bool, true, false, cond, not, ◌&&◌, ◌||◌, eqb}
use Rattle.std.proofs.Common.{Option, Some, None, List, [], ◌∷◌, ◌++◌, length, take, drop, refl, sym, ◌∙◌, ap, inl, inr}
use Rattle.std.proofs.Math.Bool.{or-true}
use Rattle.std.proofs.lemmas.List.Folds.{list_any-append}
use Rattle.std.specs.List.{list_any, slice_get}
use Rattle.lsvd_base.specs.declared.geometry.Geometry.{Geometry}
use Rattle.lsvd_base.specs.Limits.{may_transfer}
use Rattle.std.proofs.lemmas.Bool.Decides.{nat_tests}
use Rattle.object_stream.specs.declared.owner.Owner.{Owner}
use Rattle.object_stream.specs.declared.object.CopiedSector.{CopiedSector}
use Rattle.object_stream.specs.declared.object.Content.TheVariants.{Data, Copy, Checkpoint}
use Rattle.object_stream.specs.declared.object.StreamObject.{StreamObject}
use Rattle.object_stream.specs.Landed.{Numbers}
use Rattle.object_stream.specs.Stream.{is_own, owners, after_objects, end_at, last_number}
use Rattle.object_stream.proofs.StreamLemmas.{keeps_owners}
use Rattle.upload_window.specs.declared.object.OpenObject.{OpenObject}
use Rattle.upload_window.specs.Window.{has_number, with_started, without, entered, marked, acknowledged, is_started}
use Rattle.upload_window.specs.Window.{lowest_ready}
use Rattle.plain_disk.specs.declared.event.PlainEvent.{PlainEvent}
use Rattle.plain_disk.specs.declared.event.PlainEvent.TheVariants.{Write, Zero, Flush, Look, Release, Seal, TakeJob, JobDone}
use Rattle.plain_disk.specs.declared.event.PlainEvent.TheVariants.{JobFailed, SealCheckpoint, TakeRemove}
use Rattle.plain_disk.specs.declared.event.PlainEvent.TheVariants.{RemoveDone, RemoveFailed, PlanCopy, SealCopy, DropPlan}
use Rattle.plain_disk.specs.declared.event.PlainEvent.TheVariants.{Status}
use Rattle.plain_disk.specs.Cache.{after_reads}
use Rattle.plain_disk.specs.State.{PlainState, OpensFirst, created_volume, stream_in}
use Rattle.plain_disk.specs.Checkpoints.{checkpoint_at, landed_checkpoint, is_started_checkpoint}
use Rattle.plain_disk.specs.Objects.{is_busy, has_unsealed, end_of_next, window_after_take, after_done}
use Rattle.plain_disk.specs.Reads.{look_calls, passes_look, objects_read, are_pinned, without_pins}
use Rattle.plain_disk.specs.Removals.{maps, has, to_remove, with_removal, is_out}
use Rattle.plain_disk.specs.Collection.{planned_copy, with_plan, with_copy, after_sealed_copy}
use Rattle.plain_disk.specs.Step.{plain_after}
use Rattle.plain_disk.specs.Stops.{recovered_number}
use Rattle.plain_disk.specs.Valid.{IsPlainVolume, is_checkpoint_from}
use Rattle.plain_disk.specs.Found.{SealsCheckpoints, MappedHaveLanded}
use Rattle.plain_disk.proofs.CheckpointLemmas.{any_weaker, both_true, either_true, same_number, own_by, some_owns, landed_is}
use Rattle.plain_disk.proofs.CheckpointLemmas.{given_is_unneeded}
use Rattle.plain_disk.proofs.EventLemmas.{either_state, plans_keep}
use Rattle.plain_disk.proofs.FoundStreamLemmas.{slice_of_take}
use Rattle.plain_disk.proofs.OpeningLemmas.{owners_are_past}
use Rattle.plain_disk.proofs.StopLemmas.{recovers_base, base_is_checkpoint, base_is_lowest, mapped_has_landed}

-- ---- an element of a longer list

module _ {X : Type 0} where
  slice_of_append : (i : ℕ) (xs more : List X) (x : X) → slice_get xs i ≡ Some x → slice_get (xs ++ more) i ≡ Some x
  slice_of_append i [] more x is = let bad : ⊥ = cc in absurd bad
  slice_of_append zero (y ∷ xs) more x is = is
  slice_of_append (suc i) (y ∷ xs) more x is = slice_of_append i xs more x is

  slice_of_last : (xs : List X) (x : X) → slice_get (xs ++ x ∷ []) (length xs) ≡ Some x
  slice_of_last [] x = refl
  slice_of_last (y ∷ xs) x = slice_of_last xs x

  one_from : (i : ℕ) (xs : List X) (x : X) → slice_get xs i ≡ Some x → take 1 (drop i xs) ≡ x ∷ []
  one_from i [] x is = let bad : ⊥ = cc in absurd bad
  one_from zero (y ∷ xs) x is = let same : y ≡ x = cc in ap (λ (z : X). z ∷ []) same
  one_from (suc i) (y ∷ xs) x is = one_from i xs x is

pub or_later : (a b : Bool) → b ≡ true → (a || b) ≡ true
or_later a b is = ap (λ c. a || c) is ∙ or-true a

-- ---- open checkpoints

-- a checkpoint of this number
abbrev pub checkpoint_of : (number : ℕ) → OpenObject → Bool
checkpoint_of number object = has_number number object && object.is_checkpoint

any_without : (test : OpenObject → Bool) (number : ℕ) (objects : List OpenObject)
    → list_any test (without number objects) ≡ true → list_any test objects ≡ true
any_without test number [] is = is
any_without test number (object ∷ objects) is =
    elim (has_number number object) as (λ b. list_any test (cond b objects (object ∷ without number objects)) ≡ true
    → (test object || list_any test objects) ≡ true) [
      | true ↦ λ any. or_later (test object) (list_any test objects) any
      | false ↦ λ any. elim (test object) as (λ b. (b || list_any test (without number objects)) ≡ true
          → (b || list_any test objects) ≡ true) [
            | true ↦ λ first. refl
            | false ↦ λ later. any_without test number objects later
          ] any
    ] is

pub any_marked : (n number : ℕ) (started : Bool) (objects : List OpenObject)
    → list_any (checkpoint_of n) (with_started number started objects) ≡ list_any (checkpoint_of n) objects
any_marked n number started [] = refl
any_marked n number started (object ∷ objects) =
    elim (has_number number object) as (λ b. list_any (checkpoint_of n)
    (cond b (record object { is_started = started; was_started = object.was_started || started } ∷ objects)
    (object ∷ with_started number started objects)) ≡ (checkpoint_of n object || list_any (checkpoint_of n) objects)) [
      | true ↦ refl
      | false ↦ ap (λ b. checkpoint_of n object || b) (any_marked n number started objects)
    ]

-- Each checkpoint from the newest acknowledged one on, past the one that the volume opens at, is one of its objects.
abbrev pub HasSealed : PlainState → Type 0
HasSealed state =
    (number : ℕ) → state.number < number → is_checkpoint_from state number ≡ true
    → (end : ℕ) × (slice_get state.objects (number - (state.number + 1)) ≡ Some (record { content = Checkpoint; end = end }))

-- ---- each event

mark_seals : (state : PlainState) (number : ℕ) (started : Bool) → HasSealed state
    → HasSealed (record state { window = marked number started state.window })
mark_seals state number started h n past is =
    h n past (sym (ap (λ b. eqb n state.checkpoint.number || b) (any_marked n number started state.window.objects)) ∙ is)

take_seals : (state : PlainState) (found : Option ℕ) → HasSealed state
    → HasSealed (record state { window = window_after_take found state.window })
take_seals state None h = h
take_seals state (Some number) h = mark_seals state number true h

-- a put that is done makes no checkpoint that was not open
from_after_done : (state : PlainState) (number n : ℕ) → is_checkpoint_from (after_done (Some number) state) n ≡ true
    → is_checkpoint_from state n ≡ true
from_after_done state number n is =
    let window = state.window in
    let newest = state.checkpoint.number in
    let test = is_started_checkpoint number window.objects in
    let done = is_started number window.objects in
    let opened = list_any (checkpoint_of n) window.objects in
    let itself : eqb n (cond test (checkpoint_at number state) state.checkpoint).number ≡ true → (eqb n newest || opened) ≡ true =
    elim test as (λ b. test ≡ b → eqb n (cond b (checkpoint_at number state) state.checkpoint).number ≡ true
    → (eqb n newest || opened) ≡ true) [
      | true ↦ λ started same. or_later (eqb n newest) opened
          (ap (λ m. list_any (checkpoint_of m) window.objects) (same_number n number same)
          ∙ any_weaker (λ o. has_number number o && o.is_started && o.is_checkpoint) (checkpoint_of number)
          (λ o tested.
          let both = both_true (has_number number o && o.is_started) o.is_checkpoint tested in
          let first = both_true (has_number number o) o.is_started both.0 in
          ap (λ b. b && o.is_checkpoint) first.0 ∙ both.1) window.objects started)
      | false ↦ λ not_started same. ap (λ b. b || opened) same
    ] refl in
    let others : list_any (checkpoint_of n) (cond done (acknowledged number window) window).objects ≡ true → opened ≡ true =
    elim done as (λ b. list_any (checkpoint_of n) (cond b (acknowledged number window) window).objects ≡ true → opened ≡ true) [
      | true ↦ λ any. any_without (checkpoint_of n) number window.objects any
      | false ↦ λ any. any
    ] in
    elim (either_true (eqb n (cond test (checkpoint_at number state) state.checkpoint).number)
    (list_any (checkpoint_of n) (cond done (acknowledged number window) window).objects) is) [
      | inl same ↦ itself same
      | inr any ↦ or_later (eqb n newest) opened (others any)
    ]

-- a seal adds a checkpoint with its object
seal_seals : (state : PlainState) (object : StreamObject) (is_checkpoint : Bool)
    → (is_checkpoint ≡ true → (end : ℕ) × (object ≡ record { content = Checkpoint; end = end }))
    → IsPlainVolume state → HasSealed state
    → HasSealed (record state {
      objects = state.objects ++ object ∷ [];
      window = entered (state.window.last + 1) is_checkpoint state.window;
    })
seal_seals state object is_checkpoint content valid h n past is =
    let next : ℕ = state.window.last + 1 in
    let new : OpenObject =
    record { number = next; is_checkpoint = is_checkpoint; is_started = false; was_started = false } in
    let opened = state.window.objects in
    let newest = state.checkpoint.number in
    let at = n - (state.number + 1) in
    let Sealed : Type 0 =
    (end : ℕ) × (slice_get (state.objects ++ object ∷ []) at ≡ Some (record { content = Checkpoint; end = end })) in
    let still : is_checkpoint_from state n ≡ true → Sealed = λ was.
    (let old = h n past was in
    (old.0, slice_of_append at state.objects (object ∷ []) (record { content = Checkpoint; end = old.0 }) old.1)) in
    elim (either_true (eqb n newest) (list_any (checkpoint_of n) (opened ++ new ∷ [])) is) [
      | inl same ↦ still (ap (λ b. b || list_any (checkpoint_of n) opened) same)
      | inr any ↦ elim (either_true (list_any (checkpoint_of n) opened) (list_any (checkpoint_of n) (new ∷ []))
          (sym (list_any-append (checkpoint_of n) opened (new ∷ [])) ∙ any)) [
            | inl was ↦ still (or_later (eqb n newest) (list_any (checkpoint_of n) opened) was)
            | inr here ↦ elim (either_true (checkpoint_of n new) false here) [
              | inl it ↦
                  let both = both_true (has_number n new) is_checkpoint it in
                  let own = content both.1 in
                  let number = same_number next n both.0 in
                  let place : at ≡ length state.objects = omega (arith, number, valid.last) in (
                    own.0,
                    ap (slice_get (state.objects ++ object ∷ [])) place ∙ slice_of_last state.objects object
                        ∙ ap (λ (o : StreamObject). Some o) own.1,
                  )
              | inr none ↦ let bad : ⊥ = cc in absurd bad
            ]
          ]
    ]

removal_seals : (state : PlainState) (out lowest : Option ℕ) → HasSealed state
    → HasSealed (with_removal out lowest state)
removal_seals state (Some other) lowest h = h
removal_seals state None None h = h
removal_seals state None (Some number) h = h

planning_seals : (state : PlainState) (out : Option (List CopiedSector)) (sectors : List CopiedSector) → HasSealed state
    → HasSealed (with_plan out sectors state)
planning_seals state (Some plan) sectors h = h
planning_seals state None [] h = h
planning_seals state None (first ∷ more) h = h

copy_seals : (state : PlainState) (is_sealed : Bool) (out : Option (List CopiedSector)) → IsPlainVolume state
    → HasSealed state → HasSealed (after_sealed_copy is_sealed out state)
copy_seals state is_sealed None valid h = h
copy_seals state is_sealed (Some plan) valid h =
    let object : StreamObject = record { content = Copy plan; end = end_at (stream_in state) (last_number (stream_in state)) } in
    let unplanned : PlainState = record state { plan = None } in
    either_state HasSealed is_sealed (with_copy plan state) state
    (seal_seals unplanned object false (λ is. let bad : ⊥ = cc in absurd bad) (plans_keep state None valid) h) h

pub created_sealed : (g : Geometry) → HasSealed (created_volume g)
created_sealed g number past is =
    elim (either_true (eqb number 1) false is) [
      | inl same ↦ absurd (omega (arith, same_number number 1 same))
      | inr none ↦ let bad : ⊥ = cc in absurd bad
    ]

pub events_keep_sealed : (state : PlainState) (event : PlainEvent) → IsPlainVolume state → HasSealed state
    → HasSealed (plain_after event state)
events_keep_sealed state (Write lba body) valid h = h
events_keep_sealed state (Zero lba sectors) valid h = h
events_keep_sealed state Flush valid h = h
events_keep_sealed state (Look lba sectors) valid h =
    let read : PlainState = record state {
      cache = after_reads (look_calls state lba sectors) state.cache;
      pins = cond (passes_look state lba sectors) (state.pins ++ objects_read state lba sectors) state.pins;
    } in
    either_state HasSealed (may_transfer state.geometry lba sectors) read state h h
events_keep_sealed state (Release numbers) valid h =
    either_state HasSealed (are_pinned numbers state.pins) (record state { pins = without_pins numbers state.pins })
    state h h
events_keep_sealed state Seal valid h =
    let object : StreamObject = record { content = Data; end = end_of_next state } in
    let sealed : PlainState = record state {
      objects = state.objects ++ object ∷ [];
      window = entered (state.window.last + 1) false state.window;
    } in
    either_state HasSealed (has_unsealed state && not (is_busy state)) sealed state
    (seal_seals state object false (λ is. let bad : ⊥ = cc in absurd bad) valid h) h
events_keep_sealed state TakeJob valid h = take_seals state (lowest_ready state.window.objects) h
events_keep_sealed state (JobDone None) valid h = h
events_keep_sealed state (JobDone (Some number)) valid h = λ n past is. h n past (from_after_done state number n is)
events_keep_sealed state (JobFailed None) valid h = h
events_keep_sealed state (JobFailed (Some number)) valid h =
    elim (is_started number state.window.objects) as (λ b. HasSealed (record state {
      window = cond b (marked number false state.window) state.window;
    })) [
      | true ↦ mark_seals state number false h
      | false ↦ h
    ]
events_keep_sealed state SealCheckpoint valid h =
    let end = end_at (stream_in state) (last_number (stream_in state)) in
    let object : StreamObject = record { content = Checkpoint; end = end } in
    let sealed : PlainState = record state {
      objects = state.objects ++ object ∷ [];
      window = entered (state.window.last + 1) true state.window;
    } in
    either_state HasSealed (is_busy state) state sealed h (seal_seals state object true (λ is. (end, refl)) valid h)
events_keep_sealed state TakeRemove valid h = removal_seals state state.removal (to_remove state) h
events_keep_sealed state (RemoveDone number) valid h =
    either_state HasSealed (is_out number state.removal)
    (record state { removed = state.removed ++ number ∷ []; removal = None }) state h h
events_keep_sealed state (RemoveFailed number) valid h =
    either_state HasSealed (is_out number state.removal) (record state { removal = None }) state h h
events_keep_sealed state PlanCopy valid h = planning_seals state state.plan (planned_copy state) h
events_keep_sealed state (SealCopy is_planned) valid h =
    copy_seals state (is_planned && not (is_busy state)) state.plan valid h
events_keep_sealed state DropPlan valid h = h
events_keep_sealed state Status valid h = h

-- ---- a mount

pub mount_keeps_sealed : (state : PlainState) (landed : Numbers) → HasSealed state → (number : ℕ) → state.number < number
    → (eqb number (landed_checkpoint landed state).number || false) ≡ true
    → (end : ℕ) × (slice_get (take (recovered_number landed state - state.number) state.objects) (number - (state.number + 1))
    ≡ Some (record { content = Checkpoint; end = end }))
mount_keeps_sealed state landed h number past is =
    let base = (landed_checkpoint landed state).number in
    elim (either_true (eqb number base) false is) [
      | inl same ↦
          let equal = same_number number base same in
          let old = h number past (ap (λ n. is_checkpoint_from state n) equal ∙ base_is_checkpoint state landed) in
          let reached = recovers_base state landed in
          let early : number - (state.number + 1) < recovered_number landed state - state.number = omega arith in (
            old.0,
            slice_of_take (recovered_number landed state - state.number) (number - (state.number + 1)) state.objects early
                ∙ old.1,
          )
      | inr none ↦ let bad : ⊥ = cc in absurd bad
    ]

-- ---- what the newest checkpoint that has landed maps

-- a checkpoint changes no owner
pub owners_before : (state : PlainState) (number k end : ℕ) → IsPlainVolume state → state.number < number
    → number ≤ last_number (stream_in state)
    → slice_get state.objects (number - (state.number + 1)) ≡ Some (record { content = Checkpoint; end = end })
    → owners (stream_in state) number k ≡ owners (stream_in state) (number - 1) k
owners_before state number k end h past sealed is =
    let stream = stream_in state in
    let before = number - 1 in
    let rest = drop (before - state.number) state.objects in
    let one : number - before ≡ 1 = omega arith in
    let place : before - state.number ≡ number - (state.number + 1) = omega arith in
    let it : take (number - before) rest ≡ record { content = Checkpoint; end = end } ∷ [] =
    ap (λ n. take n rest) one
    ∙ one_from (before - state.number) state.objects (record { content = Checkpoint; end = end })
    (ap (slice_get state.objects) place ∙ is) in
    sym ((keeps_owners stream before number h.stream (omega arith) (omega arith) (omega arith)).0 k)
    ∙ ap (λ (os : List StreamObject). after_objects before (end_at stream before)
    (drop (end_at stream before - state.end) state.entries) (owners stream before) os k) it

-- an ancestor's object is none of the volume's own
no_ancestor : (number : ℕ) (owner : Owner) → 1 ≤ owner.level → is_own number (Some owner) ≡ true → ⊥
no_ancestor number owner level own = grind (arith, nat_tests)

-- of a volume that opens at its first object, an own object that owns a sector
own_is_past : (state : PlainState) (number to k : ℕ) → OpensFirst state → is_own number (owners (stream_in state) to k) ≡ true
    → (1 < number) × (number ≤ to)
own_is_past state number to k blank owns =
    let own = own_by number (owners (stream_in state) to k) owns in
    elim (owners_are_past state to k own.0 blank own.1) [
      | inl past ↦ (omega (arith, past.1, own.2), omega (arith, past.2, own.2))
      | inr inherited ↦
          let none : is_own number (Some own.0) ≡ true = ap (is_own number) (sym own.1) ∙ owns in
          absurd (no_ancestor number own.0 inherited.0 none)
    ]

mapped_is_before : (state : PlainState) (landed : Numbers) (number : ℕ) → IsPlainVolume state → OpensFirst state
    → SealsCheckpoints state → maps (landed_checkpoint landed state) number ≡ true
    → (1 < number) × (number < (landed_checkpoint landed state).number)
mapped_is_before state landed number h blank seals mapped =
    let checkpoint = landed_checkpoint landed state in
    let base = checkpoint.number in
    let is = landed_is state landed h in
    let at = some_owns number checkpoint.owned mapped in
    let from : state.number ≤ base = omega (arith, blank.number, is.numbered) in
    let owns = sym (ap (is_own number) (is.holds from at.0)) ∙ at.1 in
    let past = own_is_past state number base at.0 blank owns in
    let first = past.0 in
    let last = past.1 in
    let begins : 1 < base = omega arith in
    let later : state.number < base = omega (arith, blank.number) in
    let object = seals.sealed base later (base_is_checkpoint state landed) in
    let same = owners_before state base at.0 object.0 h later is.reached object.1 in
    let earlier = own_is_past state number (base - 1) at.0 blank (sym (ap (is_own number) same) ∙ owns) in
    (first, omega (arith, earlier.1))

pub mapped_have_landed : MappedHaveLanded
mapped_have_landed state landed number h may blank seals mapped =
    let base = landed_checkpoint landed state in
    let place = mapped_is_before state landed number h blank seals mapped in
    let some : 0 < number = omega (arith, place.0) in
    record {
      there = mapped_has_landed state landed number h may some place.1 mapped;
      not_given_out =
          elim (has state.given_out number) as (λ b. has state.given_out number ≡ b → b ≡ false) [
            | true ↦ λ given.
                (let old = given_is_unneeded base state.given_out number (landed_is state landed h).unneeded given in
                let unmapped = old.unmapped in
                let bad : ⊥ = cc in absurd bad)
            | false ↦ λ given. refl
          ] refl;
      some = some;
      reached = omega (arith, place.1, base_is_lowest state landed h may);
      before = place.1;
    }
