-- What is held of a copy stays that of the plan that is out.
use Rattle.std.proofs.Common.{◌≡◌, true, Option, Some, None, refl, sym, ◌∙◌, ap, subst}
use Rattle.std.specs.Prelude.{is_some, IsTrue}
use Rattle.lsvd_objstore.specs.Memory.{Kept}
use Rattle.gc_copier.specs.Plan.{PlanState}
use Rattle.gc_copier.specs.Copying.{CopiedState, IsCopyOf}
use Rattle.object_uploads.specs.State.{QueueState}
use Rattle.plain_disk.specs.State.{PlainState}
use Rattle.refine_objects.specs.Plan.{ShowsPlan}
use Rattle.vol_core.specs.declared.event.Event.{Event}
use Rattle.vol_core.specs.declared.event.Event.TheVariants.{Write, Zero, Flush, Look, Release, Seal, TakeJob, JobDone, JobFailed}
use Rattle.vol_core.specs.declared.event.Event.TheVariants.{SealCheckpoint, TakeRemove, RemoveDone}
use Rattle.vol_core.specs.declared.event.Event.TheVariants.{RemoveFailed, PlanCopy, SealCopy}
use Rattle.vol_core.specs.declared.event.Event.TheVariants.{DropPlan, Status}
use Rattle.vol_core.specs.declared.reply.Reply.{Reply}
use Rattle.vol_core.specs.Volume.{VolumeState, SteppedVolume}
use Rattle.vol_core.specs.Events.{IsPlanned}
use Rattle.vol_core.specs.Step.{ChangesPlan}
use Rattle.replay_rig.specs.Steps.{is_counted, IsUntouched}
use Rattle.replay_rig.specs.Held.{IsHeldCopy}
use Rattle.replay_rig.specs.Rig.{RigState, ShowsPlain}

-- ---- the plan stays

-- while the plan that is out stays
pub held_still : (was out : Option PlanState) (copied : Option CopiedState) → out ≡ was → IsHeldCopy was copied
    → IsHeldCopy out copied
held_still was out copied same held = subst (λ plan. IsHeldCopy plan copied) (sym same) held

-- an event that hands out counts changes no plan
pub counted_plan : (event : Event Kept) (reply : Reply Kept) (was out : Option PlanState) → is_counted event ≡ true
    → ChangesPlan event reply was out → out ≡ was
counted_plan (Write lba body) reply was out is changes = changes
counted_plan (Zero lba sectors) reply was out is changes = changes
counted_plan Flush reply was out is changes = changes
counted_plan Seal reply was out is changes = changes
counted_plan SealCheckpoint reply was out is changes = changes
counted_plan Status reply was out is changes = changes
counted_plan (Look lba sectors) reply was out is changes = cc
counted_plan (Release plan) reply was out is changes = cc
counted_plan TakeJob reply was out is changes = cc
counted_plan (JobDone job receipt) reply was out is changes = cc
counted_plan (JobFailed job) reply was out is changes = cc
counted_plan TakeRemove reply was out is changes = cc
counted_plan (RemoveDone number) reply was out is changes = cc
counted_plan (RemoveFailed receipt) reply was out is changes = cc
counted_plan PlanCopy reply was out is changes = cc
counted_plan (SealCopy copied) reply was out is changes = cc
counted_plan DropPlan reply was out is changes = cc

-- nor does room on the device
pub untouched_plan : (old new : SteppedVolume) → IsUntouched old new → new.volume.plan ≡ old.volume.plan
untouched_plan old new of = ap (λ (v : VolumeState). v.plan) of.volume

-- ---- none is out

-- none is out where the plain volume has none
pub none_out : (queue : QueueState) (out : Option PlanState) (plain : PlainState) → ShowsPlan queue out plain
    → plain.plan ≡ None → out ≡ None
none_out queue None plain shows none = refl
none_out queue (Some plan) plain (pairs, is, of) none = (let both : Some pairs ≡ None = sym is ∙ none in absurd cc)

pub none_held : (out : Option PlanState) → out ≡ None → IsHeldCopy out None
none_held out none = subst (λ plan. IsHeldCopy plan None) (sym none) tt

-- ---- one is out

pub copy_held : (out : Option PlanState) (plan : PlanState) (copied : CopiedState) → out ≡ Some plan → IsCopyOf plan copied
    → IsHeldCopy out (Some copied)
copy_held out plan copied is of = subst (λ p. IsHeldCopy p (Some copied)) (sym is) of

-- what is held was copied by the plan that is out
pub held_planned : (out : Option PlanState) (copied : CopiedState) → IsHeldCopy out (Some copied) → IsPlanned out copied
held_planned None copied held = absurd held
held_planned (Some plan) copied held = (held.rows, held.sources)

-- something is held just where the plain volume's plan is out
is_held : (queue : QueueState) (out : Option PlanState) (copied : Option CopiedState) (plain : PlainState)
    → IsHeldCopy out copied → ShowsPlan queue out plain → is_some copied ≡ is_some plain.plan
is_held queue None None plain held shows = ap is_some (sym shows)
is_held queue None (Some copied) plain held shows = absurd held
is_held queue (Some plan) None plain held shows = absurd held
is_held queue (Some plan) (Some copied) plain held (pairs, is, of) = ap is_some (sym is)

pub held_shown : (rig : RigState) (copied : Option CopiedState) (plain : PlainState)
    → IsHeldCopy rig.volume.volume.plan copied → ShowsPlain rig plain → is_some copied ≡ is_some plain.plan
held_shown rig copied plain held h =
    is_held rig.volume.volume.objects.uploads.queue rig.volume.volume.plan copied plain held h.shows.plan

-- so it is where a condition says that one is out
pub some_held : (rig now : RigState) (copied : Option CopiedState) → rig ≡ now → ((plain : PlainState) × ShowsPlain rig plain)
    → IsHeldCopy rig.volume.volume.plan copied
    → ((plain : PlainState) → ShowsPlain now plain → IsTrue (is_some plain.plan)) → is_some copied ≡ true
some_held rig now copied same known held out =
    held_shown rig copied known.0 held known.1 ∙ out known.0 (subst (λ (r : RigState). ShowsPlain r known.0) same known.1)
