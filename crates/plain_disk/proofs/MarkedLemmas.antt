-- The checkpoints of a plain volume are those that its window has for such, and what was removed was given out for it.
use Rattle.std.proofs.Common.{arith, ℕ, zero, suc, ◌+◌, ◌-◌, ◌<◌, ◌≤◌, ◌≡◌, Bool, true, false, cond, not, ◌&&◌, ◌||◌, eqb}
use Rattle.std.proofs.Common.{Option, Some, None, List, [], ◌∷◌, ◌++◌, length, take, refl, sym, ◌∙◌, ap, inl, inr}
use Rattle.std.specs.Prelude.{IfSome}
use Rattle.std.specs.List.{list_any, slice_get}
use Rattle.std.proofs.lemmas.Bool.{cases_lt}
use Rattle.std.proofs.lemmas.Bool.Decides.{nat_tests}
use Rattle.std.proofs.lemmas.List.{length-take}
use Rattle.std.proofs.lemmas.List.Folds.{list_any-append}
use Rattle.std.proofs.lemmas.Option.{slice_get_within}
use Rattle.lsvd_base.specs.Limits.{may_transfer}
use Rattle.object_stream.specs.declared.object.CopiedSector.{CopiedSector}
use Rattle.object_stream.specs.declared.object.Content.TheVariants.{Data, Copy, Checkpoint}
use Rattle.object_stream.specs.declared.object.StreamObject.{StreamObject}
use Rattle.object_stream.specs.Landed.{Numbers}
use Rattle.object_stream.specs.Stream.{end_at, last_number}
use Rattle.upload_window.specs.declared.object.OpenObject.{OpenObject}
use Rattle.upload_window.specs.Window.{Ascends, has_number, without, entered, marked, acknowledged, is_started}
use Rattle.upload_window.specs.Window.{lowest_ready}
use Rattle.plain_disk.specs.declared.event.PlainEvent.{PlainEvent}
use Rattle.plain_disk.specs.declared.event.PlainEvent.TheVariants.{Write, Zero, Flush, Look, Release, Seal, TakeJob, JobDone}
use Rattle.plain_disk.specs.declared.event.PlainEvent.TheVariants.{JobFailed, SealCheckpoint, TakeRemove}
use Rattle.plain_disk.specs.declared.event.PlainEvent.TheVariants.{RemoveDone, RemoveFailed, PlanCopy, SealCopy, DropPlan}
use Rattle.plain_disk.specs.declared.event.PlainEvent.TheVariants.{Status}
use Rattle.plain_disk.specs.Cache.{after_reads}
use Rattle.plain_disk.specs.State.{PlainState, stream_in}
use Rattle.plain_disk.specs.Checkpoints.{checkpoint_at, landed_checkpoint, is_started_checkpoint}
use Rattle.plain_disk.specs.Objects.{is_busy, has_unsealed, end_of_next, window_after_take, after_done}
use Rattle.plain_disk.specs.Reads.{look_calls, passes_look, objects_read, are_pinned, without_pins}
use Rattle.plain_disk.specs.Removals.{has, to_remove, with_removal, is_out}
use Rattle.plain_disk.specs.Collection.{planned_copy, with_plan, with_copy, after_sealed_copy}
use Rattle.plain_disk.specs.Step.{plain_after}
use Rattle.plain_disk.specs.Stops.{recovered_number}
use Rattle.plain_disk.specs.Valid.{IsPlainVolume, is_checkpoint_from}
use Rattle.plain_disk.specs.Found.{CreatedSealsCheckpoints, EventsSealCheckpoints, StopsSealCheckpoints}
use Rattle.plain_disk.specs.Found.{MountsSealCheckpoints}
use Rattle.plain_disk.proofs.CheckpointLemmas.{either_true, same_number, started_is_lowest, landed_from}
use Rattle.plain_disk.proofs.EventLemmas.{either_state, plans_keep}
use Rattle.plain_disk.proofs.FoundStreamLemmas.{slice_of_take}
use Rattle.plain_disk.proofs.SealedLemmas.{or_later, checkpoint_of, any_marked, created_sealed, events_keep_sealed}
use Rattle.plain_disk.proofs.SealedLemmas.{mount_keeps_sealed}
use Rattle.plain_disk.proofs.StopLemmas.{have_landed, newest_of_all}

-- ---- tests

or_first : (a b : Bool) → a ≡ true → (a || b) ≡ true
or_first a b is = ap (λ c. c || b) is

pub first_of : (a b : Bool) → b ≡ false → (a || b) ≡ true → a ≡ true
first_of true b none is = refl
first_of false b none is = sym none ∙ is

itself : (n : ℕ) → eqb n n ≡ true
itself n = grind (arith, nat_tests)

test_same : (a b : ℕ) → a ≡ b → eqb a b ≡ true
test_same a b is = grind (arith, nat_tests)

test_later : (a b : ℕ) → b < a → eqb a b ≡ false
test_later a b later = grind (arith, nat_tests)

-- ---- open objects

-- each number is open once
pub none_later : (test : OpenObject → Bool) (number low last : ℕ) (objects : List OpenObject) → Ascends low objects last
    → number ≤ low
    → list_any (λ o. has_number number o && test o) objects ≡ false
none_later test number low last [] order most = refl
none_later test number low last (object ∷ objects) order most =
    ap (λ b. (b && test object) || list_any (λ o. has_number number o && test o) objects)
    (test_later object.number number (omega (arith, order.0, most)))
    ∙ none_later test number object.number last objects order.1 (omega (arith, order.0, most))

-- a checkpoint is the one whose put is under way, where that has its number
started_checkpoint : (number low last : ℕ) (objects : List OpenObject) → Ascends low objects last
    → is_started number objects ≡ true → list_any (checkpoint_of number) objects ≡ true
    → is_started_checkpoint number objects ≡ true
started_checkpoint number low last [] order started opened = started
started_checkpoint number low last (object ∷ objects) order started opened =
    elim (has_number number object) as (λ b. has_number number object ≡ b
    → ((b && object.is_started) || is_started number objects) ≡ true
    → ((b && object.is_checkpoint) || list_any (checkpoint_of number) objects) ≡ true
    → ((b && object.is_started && object.is_checkpoint) || is_started_checkpoint number objects) ≡ true) [
      | true ↦ λ here one other.
          (let most : number ≤ object.number = omega (arith, same_number object.number number here) in
          let is = first_of object.is_started (is_started number objects)
          (none_later (λ o. o.is_started) number object.number last objects order.1 most) one in
          let kind = first_of object.is_checkpoint (list_any (checkpoint_of number) objects)
          (none_later (λ o. o.is_checkpoint) number object.number last objects order.1 most) other in
          or_first (object.is_started && object.is_checkpoint) (is_started_checkpoint number objects)
          (ap (λ b. b && object.is_checkpoint) is ∙ kind))
      | false ↦ λ not_here one other. started_checkpoint number object.number last objects order.1 one other
    ] refl started opened

-- a checkpoint of another number stays open
other_stays : (n number : ℕ) (objects : List OpenObject) → eqb n number ≡ false → list_any (checkpoint_of n) objects ≡ true
    → list_any (checkpoint_of n) (without number objects) ≡ true
other_stays n number [] other opened = opened
other_stays n number (object ∷ objects) other opened =
    elim (has_number number object) as (λ b. has_number number object ≡ b
    → list_any (checkpoint_of n) (cond b objects (object ∷ without number objects)) ≡ true) [
      | true ↦ λ here.
          (let same = same_number object.number number here in
          let not_it : has_number n object ≡ false = grind (arith, nat_tests) in
          sym (ap (λ b. (b && object.is_checkpoint) || list_any (checkpoint_of n) objects) not_it) ∙ opened)
      | false ↦ λ not_here. elim (checkpoint_of n object) as (λ b. (b || list_any (checkpoint_of n) objects) ≡ true
          → (b || list_any (checkpoint_of n) (without number objects)) ≡ true) [
            | true ↦ λ first. refl
            | false ↦ λ later. other_stays n number objects other later
          ] opened
    ] refl

-- Each of its objects that is a checkpoint, from the newest acknowledged one on, is that one, or an open one.
abbrev HasMarked : PlainState → Type 0
HasMarked state =
    (number end : ℕ) → state.number < number → state.checkpoint.number ≤ number
    → slice_get state.objects (number - (state.number + 1)) ≡ Some (record { content = Checkpoint; end = end })
    → is_checkpoint_from state number ≡ true

-- ---- each event

mark_marks : (state : PlainState) (number : ℕ) (started : Bool) → HasMarked state
    → HasMarked (record state { window = marked number started state.window })
mark_marks state number started h n end past from at =
    ap (λ b. eqb n state.checkpoint.number || b) (any_marked n number started state.window.objects) ∙ h n end past from at

take_marks : (state : PlainState) (found : Option ℕ) → HasMarked state
    → HasMarked (record state { window = window_after_take found state.window })
take_marks state None h = h
take_marks state (Some number) h = mark_marks state number true h

-- a checkpoint whose put is done is the newest one
done_marks : (state : PlainState) (number : ℕ) → IsPlainVolume state → HasMarked state
    → HasMarked (after_done (Some number) state)
done_marks state number valid h n end past =
    let objects = state.window.objects in
    let newest = state.checkpoint.number in
    let test = is_started_checkpoint number objects in
    let done = is_started number objects in
    let left : Bool → List OpenObject = λ b. (cond b (acknowledged number state.window) state.window).objects in
    let now : Bool → ℕ = λ b. (cond b (checkpoint_at number state) state.checkpoint).number in
    let At : Type 0 =
    slice_get state.objects (n - (state.number + 1)) ≡ Some (record { content = Checkpoint; end = end }) in
    let still : eqb n number ≡ false → list_any (checkpoint_of n) objects ≡ true → list_any (checkpoint_of n) (left done) ≡ true =
    λ other opened. elim done as (λ b. list_any (checkpoint_of n) (left b) ≡ true) [
      | true ↦ other_stays n number objects other opened
      | false ↦ opened
    ] in
    elim test as (λ t. test ≡ t → now t ≤ n → At → (eqb n (now t) || list_any (checkpoint_of n) (left done)) ≡ true) [
      | true ↦ λ started from at.
          (let lowest = started_is_lowest state number valid started in
          let reached = valid.checkpoint.reached in
          elim (either_true (eqb n newest) (list_any (checkpoint_of n) objects) (h n end past (omega arith) at)) [
            | inl same ↦ absurd (omega (arith, same_number n newest same, lowest.0, reached, from))
            | inr opened ↦ elim (eqb n number) as (λ b. eqb n number ≡ b → (b || list_any (checkpoint_of n) (left done)) ≡ true) [
              | true ↦ λ it. refl
              | false ↦ λ other. still other opened
            ] refl
          ])
      | false ↦ λ not_started from at.
          elim (either_true (eqb n newest) (list_any (checkpoint_of n) objects) (h n end past from at)) [
            | inl same ↦ or_first (eqb n newest) (list_any (checkpoint_of n) (left done)) same
            | inr opened ↦ or_later (eqb n newest) (list_any (checkpoint_of n) (left done))
                (elim (eqb n number) as (λ b. eqb n number ≡ b → list_any (checkpoint_of n) (left done) ≡ true) [
                  | true ↦ λ it. elim done as (λ b. done ≡ b → list_any (checkpoint_of n) (left b) ≡ true) [
                    | true ↦ λ under.
                        (let same = same_number n number it in
                        let is = started_checkpoint number 0 state.window.last objects valid.window.order under
                        (ap (λ m. list_any (checkpoint_of m) objects) (sym same) ∙ opened) in
                        let bad : ⊥ = cc in absurd bad)
                    | false ↦ λ not_under. opened
                  ] refl
                  | false ↦ λ other. still other opened
                ] refl)
          ]
    ] refl

-- an element of a list with one more
one_of : (i : ℕ) (xs : List StreamObject) (x y : StreamObject) → slice_get (xs ++ x ∷ []) i ≡ Some y
    → (Old : Type 0) → (slice_get xs i ≡ Some y → Old) → (i ≡ length xs → x ≡ y → Old) → Old
one_of i [] x y at Old old new =
    elim i as (λ n. slice_get (x ∷ []) n ≡ Some y → (n ≡ 0 → x ≡ y → Old) → Old) [
      | zero ↦ λ here is. is refl (let same : x ≡ y = cc in same)
      | suc n ↦ λ none is. (let bad : ⊥ = cc in absurd bad)
    ] at new
one_of i (first ∷ xs) x y at Old old new =
    elim i as (λ n. slice_get (first ∷ (xs ++ x ∷ [])) n ≡ Some y → (slice_get (first ∷ xs) n ≡ Some y → Old)
    → (n ≡ suc (length xs) → x ≡ y → Old) → Old) [
      | zero ↦ λ here was is. was here
      | suc n ↦ λ later was is. one_of n xs x y later Old was (λ last same. is (ap suc last) same)
    ] at old new

-- a data object is no checkpoint
data_is_none : (object : StreamObject) (end : ℕ) → object.content ≡ Data → object ≡ record { content = Checkpoint; end = end } → ⊥
data_is_none object end is_data is =
    let same : Data ≡ Checkpoint = sym is_data ∙ ap (λ (o : StreamObject). o.content) is in cc

-- nor is a copy
copy_is_none : (object : StreamObject) (plan : List CopiedSector) (end : ℕ) → object.content ≡ Copy plan
    → object ≡ record { content = Checkpoint; end = end } → ⊥
copy_is_none object plan end is_copy is =
    let same : Copy plan ≡ Checkpoint = sym is_copy ∙ ap (λ (o : StreamObject). o.content) is in cc

seal_marks : (state : PlainState) (object : StreamObject) (is_checkpoint : Bool)
    → ((end : ℕ) → object ≡ record { content = Checkpoint; end = end } → is_checkpoint ≡ true)
    → IsPlainVolume state → HasMarked state
    → HasMarked (record state {
      objects = state.objects ++ object ∷ [];
      window = entered (state.window.last + 1) is_checkpoint state.window;
    })
seal_marks state object is_checkpoint kind valid h n end past from at =
    let next : ℕ = state.window.last + 1 in
    let new : OpenObject =
    record { number = next; is_checkpoint = is_checkpoint; is_started = false; was_started = false } in
    let opened = state.window.objects in
    let newest = state.checkpoint.number in
    let all : list_any (checkpoint_of n) (opened ++ new ∷ [])
    ≡ (list_any (checkpoint_of n) opened || list_any (checkpoint_of n) (new ∷ [])) =
    list_any-append (checkpoint_of n) opened (new ∷ []) in
    let Marked : Type 0 = (eqb n newest || list_any (checkpoint_of n) (opened ++ new ∷ [])) ≡ true in
    one_of (n - (state.number + 1)) state.objects object (record { content = Checkpoint; end = end }) at Marked
    (λ was. elim (either_true (eqb n newest) (list_any (checkpoint_of n) opened) (h n end past from was)) [
      | inl same ↦ or_first (eqb n newest) (list_any (checkpoint_of n) (opened ++ new ∷ [])) same
      | inr any ↦ or_later (eqb n newest) (list_any (checkpoint_of n) (opened ++ new ∷ []))
          (all ∙ or_first (list_any (checkpoint_of n) opened) (list_any (checkpoint_of n) (new ∷ [])) any)
    ])
    (λ last same.
    let number : next ≡ n = omega (arith, last, valid.last, past) in
    or_later (eqb n newest) (list_any (checkpoint_of n) (opened ++ new ∷ []))
    (all ∙ or_later (list_any (checkpoint_of n) opened) (list_any (checkpoint_of n) (new ∷ []))
    (or_first (checkpoint_of n new) false (ap (λ b. b && is_checkpoint) (test_same next n number) ∙ kind end same))))

removal_marks : (state : PlainState) (out lowest : Option ℕ) → HasMarked state
    → HasMarked (with_removal out lowest state)
removal_marks state (Some other) lowest h = h
removal_marks state None None h = h
removal_marks state None (Some number) h = h

planning_marks : (state : PlainState) (out : Option (List CopiedSector)) (sectors : List CopiedSector) → HasMarked state
    → HasMarked (with_plan out sectors state)
planning_marks state (Some plan) sectors h = h
planning_marks state None [] h = h
planning_marks state None (first ∷ more) h = h

copy_marks : (state : PlainState) (is_sealed : Bool) (out : Option (List CopiedSector)) → IsPlainVolume state
    → HasMarked state → HasMarked (after_sealed_copy is_sealed out state)
copy_marks state is_sealed None valid h = h
copy_marks state is_sealed (Some plan) valid h =
    let object : StreamObject = record { content = Copy plan; end = end_at (stream_in state) (last_number (stream_in state)) } in
    let unplanned : PlainState = record state { plan = None } in
    either_state HasMarked is_sealed (with_copy plan state) state
    (seal_marks unplanned object false (λ end is. absurd (copy_is_none object plan end refl is)) (plans_keep state None valid) h)
    h

events_mark : (state : PlainState) (event : PlainEvent) → IsPlainVolume state → HasMarked state
    → HasMarked (plain_after event state)
events_mark state (Write lba body) valid h = h
events_mark state (Zero lba sectors) valid h = h
events_mark state Flush valid h = h
events_mark state (Look lba sectors) valid h =
    let read : PlainState = record state {
      cache = after_reads (look_calls state lba sectors) state.cache;
      pins = cond (passes_look state lba sectors) (state.pins ++ objects_read state lba sectors) state.pins;
    } in
    either_state HasMarked (may_transfer state.geometry lba sectors) read state h h
events_mark state (Release numbers) valid h =
    either_state HasMarked (are_pinned numbers state.pins) (record state { pins = without_pins numbers state.pins })
    state h h
events_mark state Seal valid h =
    let object : StreamObject = record { content = Data; end = end_of_next state } in
    let sealed : PlainState = record state {
      objects = state.objects ++ object ∷ [];
      window = entered (state.window.last + 1) false state.window;
    } in
    either_state HasMarked (has_unsealed state && not (is_busy state)) sealed state
    (seal_marks state object false (λ end is. absurd (data_is_none object end refl is)) valid h) h
events_mark state TakeJob valid h = take_marks state (lowest_ready state.window.objects) h
events_mark state (JobDone None) valid h = h
events_mark state (JobDone (Some number)) valid h = done_marks state number valid h
events_mark state (JobFailed None) valid h = h
events_mark state (JobFailed (Some number)) valid h =
    elim (is_started number state.window.objects) as (λ b. HasMarked (record state {
      window = cond b (marked number false state.window) state.window;
    })) [
      | true ↦ mark_marks state number false h
      | false ↦ h
    ]
events_mark state SealCheckpoint valid h =
    let object : StreamObject = record {
      content = Checkpoint;
      end = end_at (stream_in state) (last_number (stream_in state));
    } in
    let sealed : PlainState = record state {
      objects = state.objects ++ object ∷ [];
      window = entered (state.window.last + 1) true state.window;
    } in
    either_state HasMarked (is_busy state) state sealed h (seal_marks state object true (λ end is. refl) valid h)
events_mark state TakeRemove valid h = removal_marks state state.removal (to_remove state) h
events_mark state (RemoveDone number) valid h =
    either_state HasMarked (is_out number state.removal)
    (record state { removed = state.removed ++ number ∷ []; removal = None }) state h h
events_mark state (RemoveFailed number) valid h =
    either_state HasMarked (is_out number state.removal) (record state { removal = None }) state h h
events_mark state PlanCopy valid h = planning_marks state state.plan (planned_copy state) h
events_mark state (SealCopy is_planned) valid h = copy_marks state (is_planned && not (is_busy state)) state.plan valid h
events_mark state DropPlan valid h = h
events_mark state Status valid h = h

-- ---- what was removed

-- what was removed was given out for it, and so was what is being removed
abbrev GaveOut : PlainState → Type 0
GaveOut state =
    ((number : ℕ) → has state.removed number ≡ true → has state.given_out number ≡ true)
    × IfSome state.removal (λ number. has state.given_out number ≡ true)

-- one of numbers with one more
has_more : (numbers : List ℕ) (one number : ℕ)
    → has (numbers ++ one ∷ []) number ≡ (has numbers number || (eqb one number || false))
has_more numbers one number = list_any-append (λ other. eqb other number) numbers (one ∷ [])

given_with : (numbers : List ℕ) (one number : ℕ) → has numbers number ≡ true → has (numbers ++ one ∷ []) number ≡ true
given_with numbers one number is = has_more numbers one number ∙ or_first (has numbers number) (eqb one number || false) is

planning_gives : (state : PlainState) (out : Option (List CopiedSector)) (sectors : List CopiedSector) → GaveOut state
    → GaveOut (with_plan out sectors state)
planning_gives state (Some plan) sectors h = h
planning_gives state None [] h = h
planning_gives state None (first ∷ more) h = h

copy_gives : (state : PlainState) (is_sealed : Bool) (out : Option (List CopiedSector)) → GaveOut state
    → GaveOut (after_sealed_copy is_sealed out state)
copy_gives state is_sealed None h = h
copy_gives state is_sealed (Some plan) h = either_state GaveOut is_sealed (with_copy plan state) state h h

removal_gives : (state : PlainState) (out lowest : Option ℕ) → GaveOut state → GaveOut (with_removal out lowest state)
removal_gives state (Some other) lowest h = h
removal_gives state None None h = h
removal_gives state None (Some number) h = (
  λ n gone. given_with state.given_out number n (h.0 n gone),
  has_more state.given_out number number
      ∙ or_later (has state.given_out number) (eqb number number || false) (or_first (eqb number number) false (itself number)),
)

-- the number whose removal is out was given out
out_given : (given_out : List ℕ) (number : ℕ) (out : Option ℕ) → IfSome out (λ n. has given_out n ≡ true)
    → is_out number out ≡ true → has given_out number ≡ true
out_given given_out number None given is = let bad : ⊥ = cc in absurd bad
out_given given_out number (Some other) given is = ap (has given_out) (sym (same_number other number is)) ∙ given

done_gives : (state : PlainState) (number : ℕ) → GaveOut state
    → GaveOut (cond (is_out number state.removal) (record state { removed = state.removed ++ number ∷ []; removal = None }) state)
done_gives state number h =
    elim (is_out number state.removal) as (λ b. is_out number state.removal ≡ b
    → GaveOut (cond b (record state { removed = state.removed ++ number ∷ []; removal = None }) state)) [
      | true ↦ λ is. (
        λ n gone. elim (either_true (has state.removed n) (eqb number n || false)
            (sym (has_more state.removed number n) ∙ gone)) [
              | inl was ↦ h.0 n was
              | inr it ↦ ap (has state.given_out) (sym (same_number number n (first_of (eqb number n) false refl it)))
                  ∙ out_given state.given_out number state.removal h.1 is
            ],
        tt,
      )
      | false ↦ λ is. h
    ] refl

events_give : (state : PlainState) (event : PlainEvent) → GaveOut state → GaveOut (plain_after event state)
events_give state (Write lba body) h = h
events_give state (Zero lba sectors) h = h
events_give state Flush h = h
events_give state (Look lba sectors) h =
    let read : PlainState = record state {
      cache = after_reads (look_calls state lba sectors) state.cache;
      pins = cond (passes_look state lba sectors) (state.pins ++ objects_read state lba sectors) state.pins;
    } in
    either_state GaveOut (may_transfer state.geometry lba sectors) read state h h
events_give state (Release numbers) h =
    either_state GaveOut (are_pinned numbers state.pins) (record state { pins = without_pins numbers state.pins }) state h h
events_give state Seal h =
    let object : StreamObject = record { content = Data; end = end_of_next state } in
    let sealed : PlainState = record state {
      objects = state.objects ++ object ∷ [];
      window = entered (state.window.last + 1) false state.window;
    } in
    either_state GaveOut (has_unsealed state && not (is_busy state)) sealed state h h
events_give state TakeJob h = h
events_give state (JobDone job) h = h
events_give state (JobFailed job) h = h
events_give state SealCheckpoint h =
    let object : StreamObject = record {
      content = Checkpoint;
      end = end_at (stream_in state) (last_number (stream_in state));
    } in
    let sealed : PlainState = record state {
      objects = state.objects ++ object ∷ [];
      window = entered (state.window.last + 1) true state.window;
    } in
    either_state GaveOut (is_busy state) state sealed h h
events_give state TakeRemove h = removal_gives state state.removal (to_remove state) h
events_give state (RemoveDone number) h = done_gives state number h
events_give state (RemoveFailed number) h =
    either_state GaveOut (is_out number state.removal) (record state { removal = None }) state (h.0, tt) h
events_give state PlanCopy h = planning_gives state state.plan (planned_copy state) h
events_give state (SealCopy is_planned) h = copy_gives state (is_planned && not (is_busy state)) state.plan h
events_give state DropPlan h = h
events_give state Status h = h

-- ---- a mount

mount_marks : (state : PlainState) (landed : Numbers) → IsPlainVolume state → HasMarked state → (number end : ℕ)
    → state.number < number → (landed_checkpoint landed state).number ≤ number
    → slice_get (take (recovered_number landed state - state.number) state.objects) (number - (state.number + 1))
    ≡ Some (record { content = Checkpoint; end = end })
    → (eqb number (landed_checkpoint landed state).number || false) ≡ true
mount_marks state landed valid h number end past from at =
    let base = (landed_checkpoint landed state).number in
    let last = recovered_number landed state in
    let object : StreamObject = record { content = Checkpoint; end = end } in
    let long = length-take (last - state.number) state.objects in
    let low : number - (state.number + 1) < last - state.number =
    omega (arith, long, slice_get_within (take (last - state.number) state.objects) (number - (state.number + 1)) object at) in
    let marked = h number end past (omega (arith, from, landed_from state landed valid))
    (sym (slice_of_take (last - state.number) (number - (state.number + 1)) state.objects low) ∙ at) in
    elim (cases_lt base number) [
      | inl above ↦
          let there = have_landed landed base (last_number (stream_in state) - base) number above (omega (arith, low)) in
          absurd (omega (arith, above, newest_of_all state landed number valid marked there))
      | inr most ↦
          let same : number ≡ base = omega (arith, from, most) in
          or_first (eqb number base) false (test_same number base same)
    ]

-- ---- the laws

pub created_seals : CreatedSealsCheckpoints
created_seals g = record {
  sealed = created_sealed g;
  marked = λ number end past from at. (let bad : ⊥ = cc in absurd bad);
  removed = λ number gone. gone;
  out = tt;
}

pub events_seal : EventsSealCheckpoints
events_seal state event valid h =
    let gives = events_give state event (h.removed, h.out) in
    record {
      sealed = events_keep_sealed state event valid h.sealed;
      marked = events_mark state event valid h.marked;
      removed = gives.0;
      out = gives.1;
    }

pub stops_seal : StopsSealCheckpoints
stops_seal state calls h = record { sealed = h.sealed; marked = h.marked; removed = h.removed; out = h.out }

pub mounts_seal : MountsSealCheckpoints
mounts_seal state landed found log valid h =
    let sealed = mount_keeps_sealed state landed h.sealed in
    let marked = mount_marks state landed valid h.marked in (
      record { sealed = sealed; marked = marked; removed = λ number gone. gone; out = tt },
      record { sealed = sealed; marked = marked; removed = λ number gone. gone; out = tt },
    )
