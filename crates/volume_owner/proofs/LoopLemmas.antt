-- Helps one after the other, with attempts to enter an entry between them or without: how far they have come.
use Rattle.std.proofs.Common.{arith, ◌≡◌, ℕ, ◌+◌, ◌*◌, ◌-◌, ◌^◌, ◌≤◌, ◌<◌, ◌⊎◌, inl, inr, Bool, true, false, List}
use Rattle.std.proofs.Common.{[], length, refl, ap, subst}
use Rattle.std.specs.Prelude.{Result, Ok, Err, IfOk, OnOk}
use Rattle.std.proofs.lemmas.List.{nil_from_length}
use Rattle.lsvd_base.specs.declared.entry.Entry.{Entry}
use Rattle.lsvd_fault.specs.Faults.{Counts}
use Rattle.lsvd_objstore.specs.Store.{StoreState, ReceiptState}
use Rattle.upload_window.specs.declared.object.OpenObject.{OpenObject}
use Rattle.vol_core.specs.declared.event.Event.TheVariants as asks
use Rattle.vol_core.specs.Calls.{event_of}
use Rattle.vol_core.specs.Volume.{VolumeState, SteppedVolume}
use Rattle.vol_core.specs.Shows.{max_number}
use Rattle.vol_core.specs.View.{objects_on_way, unsealed_entries}
use Rattle.volume_owner.specs.declared.error.OwnerError.{OwnerError}
use Rattle.volume_owner.specs.Owner.{IsIdle, max_steps, most_of_call}
use Rattle.volume_owner.specs.Acts.{Moment, moment_of, MakesStep}
use Rattle.volume_owner.specs.Tally.{IsTally}
use Rattle.volume_owner.specs.Calls.{HasNoneToRemove, IsDurable, IsDrained, MakesSteps, IsCall}
use Rattle.volume_owner.specs.Clearing.{HasAllPut, most_of_helps, most_of_removals}
use Rattle.volume_owner.specs.Collecting.{NeedsNoCopy, most_of_copies, most_of_collection}
use Rattle.volume_owner.specs.Helping.{work_of, most_work, HasHelped}
use Rattle.volume_owner.proofs.ActLemmas.{step_acts, entry_acts}
use Rattle.volume_owner.proofs.CallLemmas.{nothing_call, disk_call, call_then, call_fewer}
use Rattle.volume_owner.proofs.TallyLemmas.{tally_then, tally_after, tally_before, no_tally, quiet_tally}

-- ---- where nothing is left

-- no entry is unsealed, and each object is acknowledged
pub nothing_left : (volume : VolumeState) → work_of volume ≡ 0
    → (unsealed_entries volume ≡ []) × (objects_on_way volume ≡ [])
nothing_left volume none = (
  nil_from_length volume.objects.batch.entries (omega (arith, none)),
  nil_from_length volume.objects.uploads.window.objects (omega (arith, none)),
)

-- ---- helps, with attempts to enter an entry between them

-- how many steps helps made that left as much work
abbrev pub helping_steps : (old now : SteppedVolume) → ℕ
helping_steps old now = 3 * (work_of old.volume - work_of now.volume)

-- nothing was done yet, or a bound of the work before is known
abbrev pub IsBounded : (old now : SteppedVolume) → Type 0
IsBounded old now = (now ≡ old) ⊎ (work_of old.volume ≤ most_work)

-- helps made this volume and this store of others, and entered nothing
pub record IsHelped {R : Type 0} (state : R → ReceiptState) (old now : SteppedVolume) (first second : StoreState) : Type 0 where
  pub less : work_of now.volume ≤ work_of old.volume
  pub call : IsCall state (helping_steps old now) [] false old now first second
  pub idle : IsIdle now.volume
  pub bounded : IsBounded old now

-- the first time
pub helped_first : {R : Type 0} (state : R → ReceiptState) (old : SteppedVolume) (store : StoreState) → IsIdle old.volume
    → IsHelped state old old store store
helped_first state old store idle = record {
  less = omega arith;
  call = nothing_call state (helping_steps old old) old store;
  idle = idle;
  bounded = inl refl;
}

-- what bounds the work now bounds the work before
bound_before : (old now : SteppedVolume) → IsBounded old now → work_of now.volume ≤ most_work → work_of old.volume ≤ most_work
bound_before old now (inl same) bound = subst (λ (v : SteppedVolume). work_of v.volume ≤ most_work) same bound
bound_before old now (inr bound) now_bound = bound

-- so few steps were made
few_before : (old now : SteppedVolume) → IsBounded old now → old.steps ≤ max_steps
    → now.steps ≤ old.steps + helping_steps old now → now.steps + 3 < max_number
few_before old now (inl same) few steps =
    let at = ap (λ (v : SteppedVolume). v.steps) same in
    omega (arith, few, at)
few_before old now (inr bound) few steps = omega (arith, few, bound, steps)

-- or where there is room for all helps
room_before : (old now : SteppedVolume) → IsBounded old now → old.steps + most_of_helps < max_number
    → now.steps ≤ old.steps + helping_steps old now → now.steps + 3 < max_number
room_before old now (inl same) few steps =
    let at = ap (λ (v : SteppedVolume). v.steps) same in
    omega (arith, few, at)
room_before old now (inr bound) few steps = omega (arith, few, bound, steps)

-- what was some is less after a help
pub helped_some : (has_helped : Bool) (old new : VolumeState) → 0 < work_of old → HasHelped has_helped old new
    → work_of new < work_of old
helped_some true old new some less = less
helped_some false old new some none = (let nothing = none.0 in omega (arith, some, nothing))

-- one object that is left to put is put
pub helped_none : (result : Result Bool OwnerError) (old new : VolumeState) → work_of old ≡ 1
    → IfOk result (λ has_helped. HasHelped has_helped old new) → OnOk result (work_of new ≡ 0)
helped_none (Ok true) old new one less = omega (arith, one, less)
helped_none (Ok false) old new one none = none.1
helped_none (Err error) old new one is = tt

module _ {R : Type 0} (state : R → ReceiptState) (old now : SteppedVolume) (first second : StoreState)
    (helped : IsHelped state old now first second) where
  -- the steps are few enough for more
  pub helped_few : old.steps ≤ max_steps → now.steps + 3 < max_number
  helped_few few = few_before old now helped.bounded few helped.call.steps.steps

  pub helped_room : old.steps + most_of_helps < max_number → now.steps + 3 < max_number
  helped_room few = room_before old now helped.bounded few helped.call.steps.steps

  -- three steps more, which end it
  pub helped_ends : (added : List Entry) (failed : Bool) (new : SteppedVolume) (third : StoreState)
      → work_of now.volume ≤ most_work
      → IsCall state 3 added failed now new second third
      → IsCall state most_of_helps added failed old new first third
  helped_ends added failed new third work call =
      let bound = bound_before old now helped.bounded work in
      call_fewer state (helping_steps old now + 3) most_of_helps added failed old new first third (omega (arith, bound))
      (call_then state (helping_steps old now) 3 added failed old now new first second third helped.call call)

  -- in a call that makes more steps
  pub helped_ends_call : (added : List Entry) (failed : Bool) (new : SteppedVolume) (third : StoreState)
      → work_of now.volume ≤ most_work
      → IsCall state 3 added failed now new second third
      → IsCall state most_of_call added failed old new first third
  helped_ends_call added failed new third work call =
      call_fewer state most_of_helps most_of_call added failed old new first third (omega arith)
      (helped_ends added failed new third work call)

  -- or after which it goes on, with less left
  pub helped_more : (new : SteppedVolume) (third : StoreState) → work_of now.volume ≤ most_work
      → IsCall state 3 [] false now new second third
      → work_of new.volume < work_of now.volume
      → IsIdle new.volume → IsHelped state old new first third
  helped_more new third work call less idle = record {
    less = omega (arith, helped.less, less);
    call = call_fewer state (helping_steps old now + 3) (helping_steps old new) [] false old new first third
        (omega (arith, helped.less, less))
        (call_then state (helping_steps old now) 3 [] false old now new first second third helped.call call);
    idle = idle;
    bounded = inr (bound_before old now helped.bounded work);
  }

-- ---- helps alone

-- nor did they copy or remove anything, nor make a victim where nothing was left to help with
pub record IsHelpedAll {R : Type 0} (state : R → ReceiptState) (old now : SteppedVolume) (first second : StoreState) :
    Type 0 where
  pub helped : IsHelped state old now first second
  pub tally : IsTally state 0 0 (moment_of old first) (moment_of now second)
  pub victims : work_of old.volume ≡ 0 → NeedsNoCopy old.volume → NeedsNoCopy now.volume

pub helps_first : {R : Type 0} (state : R → ReceiptState) (old : SteppedVolume) (store : StoreState) → IsIdle old.volume
    → IsHelpedAll state old old store store
helps_first state old store idle = record {
  helped = helped_first state old store idle;
  tally = no_tally state (moment_of old store);
  victims = λ none needs. needs;
}

module _ {R : Type 0} (state : R → ReceiptState) (old now : SteppedVolume) (first second : StoreState)
    (helps : IsHelpedAll state old now first second) (new : SteppedVolume) (third : StoreState)
    (victims : unsealed_entries now.volume ≡ [] → NeedsNoCopy now.volume → NeedsNoCopy new.volume) where
  -- one more makes none either
  pub helps_need : work_of old.volume ≡ 0 → NeedsNoCopy old.volume → NeedsNoCopy new.volume
  helps_need none needs =
      let less = helps.helped.less in
      let left = nothing_left now.volume (omega (arith, none, less)) in
      victims left.0 (helps.victims none needs)

  pub helps_tally : IsTally state 0 0 (moment_of now second) (moment_of new third)
      → IsTally state 0 0 (moment_of old first) (moment_of new third)
  helps_tally tally =
      tally_then state 0 0 0 0 (moment_of old first) (moment_of now second) (moment_of new third) helps.tally tally

  pub helps_more : work_of now.volume ≤ most_work → IsCall state 3 [] false now new second third
      → work_of new.volume < work_of now.volume → IsIdle new.volume
      → IsTally state 0 0 (moment_of now second) (moment_of new third) → IsHelpedAll state old new first third
  helps_more work call less idle tally = record {
    helped = helped_more state old now first second helps.helped new third work call less idle;
    tally = helps_tally tally;
    victims = helps_need;
  }

-- ---- what these steps are

pub one_attempt : {R : Type 0} (state : R → ReceiptState) (entry : Entry) (added : List Entry) (failed : Bool)
    (now new : SteppedVolume) (store : StoreState)
    → MakesStep state (event_of entry) added now new → MakesSteps 1 added now new
    → Counts failed now.volume.log.commits.disk.faults new.volume.log.commits.disk.faults
    → IsCall state 3 added failed now new store store
one_attempt state entry added failed now new store step makes counts =
    call_fewer state 1 3 added failed now new store store (omega arith)
    (disk_call state 1 added failed now new store (entry_acts state entry added now new store step) makes counts)

pub attempt_and_help : {R : Type 0} (state : R → ReceiptState) (entry : Entry) (failed : Bool) (now mid new : SteppedVolume)
    (second third : StoreState)
    → MakesStep state (event_of entry) [] now mid → MakesSteps 1 [] now mid
    → mid.volume.log.commits.disk.faults ≡ now.volume.log.commits.disk.faults → IsCall state 2 [] failed mid new second third
    → IsCall state 3 [] failed now new second third
attempt_and_help state entry failed now mid new second third step makes counts help =
    call_then state 1 2 [] failed now mid new second second third
    (disk_call state 1 [] false now mid second (entry_acts state entry [] now mid second step) makes counts) help

pub one_help : {R : Type 0} (state : R → ReceiptState) (failed : Bool) (now new : SteppedVolume) (second third : StoreState)
    → IsCall state 2 [] failed now new second third
    → IsCall state 3 [] failed now new second third
one_help state failed now new second third help = call_fewer state 2 3 [] failed now new second third (omega arith) help

-- ---- a volume that is drained

-- where nothing is left, there is no work
pub no_work : (volume : VolumeState) → unsealed_entries volume ≡ [] → objects_on_way volume ≡ [] → work_of volume ≡ 0
no_work volume unsealed on_way =
    let entries = ap (λ (es : List Entry). length es) unsealed in
    let objects = ap (λ (o : List OpenObject). length o) on_way in
    omega (arith, entries, objects)

-- a volume with no more to put or to remove, whose entries are committed, is drained
pub all_put_is_drained : (volume : VolumeState) → HasAllPut volume → HasNoneToRemove volume → IsDurable volume → IsDrained volume
all_put_is_drained volume put none durable = record {
  unsealed = put.unsealed;
  on_way = put.on_way;
  checkpoint = put.checkpoint;
  none = none;
  durable = durable;
}

-- ---- removals, one after the other

-- so many made this volume and this store of others, of which all is put, and no victim of it
pub record IsCleared {R : Type 0} (state : R → ReceiptState) (count : ℕ) (old now : SteppedVolume) (first second : StoreState) :
    Type 0 where
  pub call : IsCall state (2 * count) [] false old now first second
  pub tally : IsTally state 0 count (moment_of old first) (moment_of now second)
  pub victims : NeedsNoCopy old.volume → NeedsNoCopy now.volume
  pub put : HasAllPut now.volume
  pub idle : IsIdle now.volume

pub cleared_first : {R : Type 0} (state : R → ReceiptState) (old : SteppedVolume) (store : StoreState) → HasAllPut old.volume
    → IsIdle old.volume → IsCleared state 0 old old store store
cleared_first state old store put idle = record {
  call = nothing_call state (2 * 0) old store;
  tally = no_tally state (moment_of old store);
  victims = λ needs. needs;
  put = put;
  idle = idle;
}

module _ {R : Type 0} (state : R → ReceiptState) (count : ℕ) (old now new : SteppedVolume) (first second third : StoreState)
    (cleared : IsCleared state count old now first second) where
  pub cleared_more : IsCall state 2 [] false now new second third
      → IsTally state 0 1 (moment_of now second) (moment_of new third) → (NeedsNoCopy now.volume → NeedsNoCopy new.volume)
      → HasAllPut new.volume → IsIdle new.volume → IsCleared state (count + 1) old new first third
  cleared_more call tally victims put idle = record {
    call = call_fewer state (2 * count + 2) (2 * (count + 1)) [] false old new first third (omega arith)
        (call_then state (2 * count) 2 [] false old now new first second third cleared.call call);
    tally =
        tally_then state 0 count 0 1 (moment_of old first) (moment_of now second) (moment_of new third) cleared.tally tally;
    victims = λ needs. victims (cleared.victims needs);
    put = put;
    idle = idle;
  }

  -- one more, which ends it
  pub cleared_ends : (failed : Bool) → count < 2 ^ 37 → IsCall state 2 [] failed now new second third
      → IsCall state most_of_removals [] failed old new first third
  cleared_ends failed few call =
      call_fewer state (2 * count + 2) most_of_removals [] failed old new first third (omega (arith, few))
      (call_then state (2 * count) 2 [] failed old now new first second third cleared.call call)

-- ---- copies, one after the other

-- So many turns made this volume and this store of others, and copied so many sectors; nothing is left to seal or to put.
pub record IsCopied {R : Type 0} (state : R → ReceiptState) (count copied : ℕ) (old now : SteppedVolume)
    (first second : StoreState) : Type 0 where
  pub call : IsCall state (5 * count) [] false old now first second
  pub tally : IsTally state copied 0 (moment_of old first) (moment_of now second)
  pub few : copied ≤ 2 ^ 17 * count
  pub work : work_of now.volume ≡ 0
  pub idle : IsIdle now.volume

pub copied_first : {R : Type 0} (state : R → ReceiptState) (old : SteppedVolume) (store : StoreState) → work_of old.volume ≡ 0
    → IsIdle old.volume → IsCopied state 0 0 old old store store
copied_first state old store work idle = record {
  call = nothing_call state (5 * 0) old store;
  tally = no_tally state (moment_of old store);
  few = omega arith;
  work = work;
  idle = idle;
}

module _ {R : Type 0} (state : R → ReceiptState) (count copied : ℕ) (old now new : SteppedVolume)
    (first second third : StoreState) (done : IsCopied state count copied old now first second) where
  pub copied_more : (sectors : ℕ) → IsCall state 5 [] false now new second third
      → IsTally state sectors 0 (moment_of now second) (moment_of new third) → sectors ≤ 2 ^ 17 → work_of new.volume ≡ 0
      → IsIdle new.volume → IsCopied state (count + 1) (copied + sectors) old new first third
  copied_more sectors call tally few work idle = record {
    call = call_fewer state (5 * count + 5) (5 * (count + 1)) [] false old new first third (omega arith)
        (call_then state (5 * count) 5 [] false old now new first second third done.call call);
    tally =
        tally_then state copied 0 sectors 0 (moment_of old first) (moment_of now second) (moment_of new third) done.tally tally;
    few = (let before = done.few in omega (arith, before, few));
    work = work;
    idle = idle;
  }

  -- one more, which ends it
  pub copied_ends : (failed : Bool) → count < 2 ^ 36 → IsCall state 5 [] failed now new second third
      → IsCall state most_of_copies [] failed old new first third
  copied_ends failed few call =
      call_fewer state (5 * count + 5) most_of_copies [] failed old new first third (omega (arith, few))
      (call_then state (5 * count) 5 [] failed old now new first second third done.call call)

-- ---- a drain

-- helps, the put of a checkpoint, and what comes after it
pub cleared_call : {R : Type 0} (state : R → ReceiptState) (most : ℕ) (failed : Bool) (old mid put new : SteppedVolume)
    (first second third fourth : StoreState) → most_of_helps + 4 + most ≤ most_of_call
    → IsCall state most_of_helps [] false old mid first second → IsCall state 4 [] false mid put second third
    → IsCall state most [] failed put new third fourth → IsCall state most_of_call [] failed old new first fourth
cleared_call state most failed old mid put new first second third fourth few helps sealed rest =
    call_fewer state (most_of_helps + 4 + most) most_of_call [] failed old new first fourth few
    (call_then state (most_of_helps + 4) most [] failed old put new first third fourth
    (call_then state most_of_helps 4 [] false old mid put first second third helps sealed) rest)

-- removals and a flush
pub clear_and_flush : {R : Type 0} (state : R → ReceiptState) (failed : Bool) (put clear new : SteppedVolume)
    (third fourth : StoreState)
    → IsCall state most_of_removals [] false put clear third fourth
    → MakesStep state asks.Flush [] clear new → MakesSteps 1 [] clear new
    → Counts failed clear.volume.log.commits.disk.faults new.volume.log.commits.disk.faults
    → IsCall state (most_of_removals + 1) [] failed put new third fourth
clear_and_flush state failed put clear new third fourth removals step makes counts =
    call_then state most_of_removals 1 [] failed put clear new third fourth fourth removals
    (disk_call state 1 [] failed clear new fourth (step_acts state asks.Flush [] clear new fourth (λ volume s. tt) step)
    makes counts)

-- what was removed is what the removals removed
pub drained_tally : {R : Type 0} (state : R → ReceiptState) (removed : ℕ) (old mid put clear new : SteppedVolume)
    (first second third fourth : StoreState) → IsTally state 0 0 (moment_of old first) (moment_of mid second)
    → IsTally state 0 0 (moment_of mid second) (moment_of put third)
    → IsTally state 0 removed (moment_of put third) (moment_of clear fourth) → MakesStep state asks.Flush [] clear new
    → IsTally state 0 removed (moment_of old first) (moment_of new fourth)
drained_tally state removed old mid put clear new first second third fourth helped sealed removals flush =
    tally_before state 0 removed (moment_of old first) (moment_of clear fourth) (moment_of new fourth)
    (tally_after state 0 removed (moment_of old first) (moment_of mid second) (moment_of clear fourth) helped
    (tally_after state 0 removed (moment_of mid second) (moment_of put third) (moment_of clear fourth) sealed removals))
    (quiet_tally state asks.Flush flush.reply 0 clear new fourth flush.step tt refl refl flush.step.step.copying)

-- ---- a whole collection

-- a plan is given up, the volume is drained, copies are made, and it is drained again
pub whole_tally : {R : Type 0} (state : R → ReceiptState) (before copied after : ℕ) (old gave clear mid new : Moment)
    → IsTally state 0 0 old gave → IsTally state 0 before gave clear → IsTally state copied 0 clear mid
    → IsTally state 0 after mid new → IsTally state copied (before + after) old new
whole_tally state before copied after old gave clear mid new given_up drained copies drained_again =
    let copies_are : 0 + (copied + 0) ≡ copied = omega arith in
    let removals_are : before + (0 + after) ≡ before + after = omega arith in
    let all = tally_then state 0 before (copied + 0) (0 + after) old clear new
    (tally_after state 0 before old gave clear given_up drained)
    (tally_then state copied 0 0 after clear mid new copies drained_again) in
    subst (λ n. IsTally state n (before + after) old new) copies_are
    (subst (λ n. IsTally state (0 + (copied + 0)) n old new) removals_are all)

module _ {R : Type 0} (state : R → ReceiptState) (failed : Bool) (old gave clear mid new : SteppedVolume)
    (first second third fourth : StoreState) where
  -- the first drain ends it
  pub whole_first : IsCall state 1 [] false old gave first first → IsCall state most_of_call [] failed gave new first fourth
      → IsCall state most_of_collection [] failed old new first fourth
  whole_first given_up drained =
      call_fewer state (1 + most_of_call) most_of_collection [] failed old new first fourth (omega arith)
      (call_then state 1 most_of_call [] failed old gave new first first fourth given_up drained)

  -- or what comes after it
  pub whole_then : (most : ℕ) → most ≤ most_of_copies + most_of_call → IsCall state 1 [] false old gave first first
      → IsCall state most_of_call [] false gave clear first second → IsCall state most [] failed clear new second fourth
      → IsCall state most_of_collection [] failed old new first fourth
  whole_then most few given_up drained rest =
      call_fewer state (1 + most_of_call + most) most_of_collection [] failed old new first fourth (omega (arith, few))
      (call_then state (1 + most_of_call) most [] failed old clear new first second fourth
      (call_then state 1 most_of_call [] false old gave clear first first second given_up drained) rest)

  -- the copies, and the second drain
  pub copies_then : IsCall state most_of_copies [] false clear mid second third
      → IsCall state most_of_call [] failed mid new third fourth
      → IsCall state (most_of_copies + most_of_call) [] failed clear new second fourth
  copies_then copies drained =
      call_then state most_of_copies most_of_call [] failed clear mid new second third fourth copies drained
