-- What a flush does, and a look with the release of its plan.
use Rattle.std.proofs.Common.{◌≡◌, ℕ, ◌*◌, ◌==◌, nat_eq, ◌⊎◌, inl, inr, Bool, true, false, cond, ◌&&◌, ◌||◌, List, [], ◌∷◌}
use Rattle.std.proofs.Common.{◌++◌, ◌≤◌, length, refl, sym, ◌∙◌, ap, subst, arith}
use Rattle.std.specs.Prelude.{Option, Some, None, IfSome, IsSome, Ok, Err, if◌then◌else◌}
use Rattle.std.specs.List.{list_any}
use Rattle.std.proofs.lemmas.Bool.{eq-eqb}
use Rattle.lsvd_base.specs.Limits.{may_transfer}
use Rattle.lsvd_fault.specs.Faults.{Counts}
use Rattle.lsvd_device.specs.Calls.{Fuse}
use Rattle.lsvd_objstore.specs.Store.{ReceiptState}
use Rattle.object_uploads.specs.Order.{IsUploads}
use Rattle.upload_window.specs.Window.{WindowState}
use Rattle.refine_log.specs.Fuses.{fuse_in}
use Rattle.plain_disk.specs.declared.event.PlainEvent.TheVariants as events
use Rattle.plain_disk.specs.declared.event.PlainReply.TheVariants as replies
use Rattle.plain_disk.specs.declared.log.PlainCommit.{PlainCommit}
use Rattle.plain_disk.specs.Cache.{passes_commit, after_reads}
use Rattle.plain_disk.specs.Sectors.{sectors_at}
use Rattle.plain_disk.specs.State.{PlainState, history_length, image_now}
use Rattle.plain_disk.specs.Entries.{flush_reply, after_flush}
use Rattle.plain_disk.specs.Reads.{look_calls, passes_look, objects_read, planned_read, look_reply, after_look, unpinned}
use Rattle.plain_disk.specs.Reads.{are_pinned, without_pins}
use Rattle.plain_disk.specs.Step.{plain_reply, plain_after}
use Rattle.plain_disk.proofs.FlushLemmas.{flush_commits}
use Rattle.read_plan.specs.Plan.{PlanState, Gives, GivesNoOther}
use Rattle.vol_core.specs.declared.event.Event.TheVariants as asks
use Rattle.vol_core.specs.declared.reply.Reply.{Reply}
use Rattle.vol_core.specs.declared.reply.Reply.TheVariants as told
use Rattle.vol_core.specs.Volume.{VolumeState, SteppedVolume}
use Rattle.vol_core.specs.Shows.{Shows}
use Rattle.vol_core.specs.Events.{TellsRead, Tells}
use Rattle.vol_core.specs.Step.{passing, IsStep, IsNoStep, HasItsBytes, lacks_memory, tells_fault, CountedStep}
use Rattle.vol_core.proofs.StepLemmas.{passing_keeps}
use Rattle.volume_owner.specs.Owner.{IsIdle}
use Rattle.volume_owner.specs.Calls.{IsLengthOf, IsDurable, HasNoneToRemove, HasSectors, MakesSteps}
use Rattle.volume_owner.specs.Clearing.{HasAllPut}
use Rattle.volume_owner.specs.Errors.{is_eio}
use Rattle.volume_owner.specs.declared.error.OwnerError.{OwnerError}
use Rattle.volume_owner.specs.declared.error.OwnerError.TheVariants as errors
use Rattle.volume_owner.specs.Replies.{count_in, plan_in}
use Rattle.volume_owner.specs.Helping.{work_of}
use Rattle.volume_owner.proofs.PlainLemmas.{is_quiet}
use Rattle.volume_owner.proofs.WindowLemmas.{any_started}
use Rattle.volume_owner.proofs.TellsLemmas.{tells_flushed, tells_planned, tells_failed}
use Rattle.volume_owner.proofs.ReplyLemmas.{count_cases, plan_cases}
use Rattle.volume_owner.proofs.StepLemmas.{shown_work, length_is, IsIdlePlain, shown_idle, idle_shown, quiet_makes}
use Rattle.volume_owner.proofs.HelpLemmas.{is_silent, silent_faults}
use Rattle.volume_owner.proofs.ClearLemmas.{LeavesPut, left_put, none_shown}

-- ---- a flush

-- what it leaves
record IsAfterFlush {R : Type 0} (state : R → ReceiptState) (reply : Reply R) (plain : PlainState) (old new : VolumeState) :
    Type 0 where
  left : Fuse
  shows : Shows new (passing (fuse_in new.log.commits.disk.budget) (after_flush (passing left plain)))
  tells : Tells state old reply (flush_reply (passing left plain))

after_flush_by : {R : Type 0} (state : R → ReceiptState) (reply : Reply R) (plain : PlainState) (old new : VolumeState)
    → IsStep state asks.Flush reply plain old new ⊎ IsNoStep state asks.Flush reply plain old new
    → IsAfterFlush state reply plain old new
after_flush_by state reply plain old new (inl s) = record {
  left = s.left;
  shows = subst (λ e. Shows new (passing (fuse_in new.log.commits.disk.budget) (plain_after e (passing s.left plain))))
      s.asks s.shows;
  tells = subst (λ e. Tells state old reply (plain_reply (passing s.left plain) e)) s.asks s.tells;
}
after_flush_by state reply plain old new (inr n) = (let may = n.may in let bad : ⊥ = cc in absurd bad)

-- each plain volume that is shown has as much committed
committed_is : (volume : VolumeState) (plain other : PlainState) → Shows volume plain → Shows volume other
    → other.cache.log.last.head.seq ≡ plain.cache.log.last.head.seq
committed_is volume plain other shows others = ap (λ (c : PlainCommit). c.head.seq) (others.log.last ∙ sym shows.log.last)

flush_by : {R : Type 0} (state : R → ReceiptState) (volume : VolumeState) (reply : Reply R) (passed : Bool) (count : ℕ)
    → Tells state volume reply (if passed then replies.Flushed count else replies.Fault)
    → ((passed ≡ true) × (reply ≡ told.Flushed count)) ⊎ (tells_fault reply ≡ true)
flush_by state volume reply true count tells = inl (refl, tells_flushed state volume reply count tells)
flush_by state volume reply false count tells = inr (tells_failed state volume reply tells)

module _ {R : Type 0} (state : R → ReceiptState) (reply : Reply R) (old new : SteppedVolume)
    (of : CountedStep state asks.Flush reply old new)
    (plain : PlainState) (shows : Shows old.volume plain) where
  flushing : IsAfterFlush state reply plain old.volume new.volume
  flushing = after_flush_by state reply plain old.volume new.volume (of.step.step plain shows)

  pub flush_makes : MakesSteps 1 [] old new
  flush_makes = quiet_makes state asks.Flush reply old new (λ asked is. ap is_quiet is) of

  pub flush_idle : IsIdle old.volume → IsIdle new.volume
  flush_idle idle =
      let was = shown_idle old.volume plain shows idle in
      idle_shown new.volume _ flushing.shows (record {
        puts = was.puts;
        plans = was.plans;
        none_out = was.none_out;
        few = was.few;
      })

  -- what is left to seal and to put stays
  pub flush_work : work_of new.volume ≡ work_of old.volume
  flush_work = shown_work new.volume _ flushing.shows ∙ sym (shown_work old.volume plain shows)

  -- what is all put stays so, and where no object may be removed, none may be after it
  flush_leaves : LeavesPut plain new.volume
  flush_leaves = record {
    after = _;
    shows = flushing.shows;
    unsealed = refl;
    window = refl;
    checkpoint = refl;
    pins = refl;
  }

  pub flush_put : HasAllPut old.volume → HasAllPut new.volume
  flush_put = left_put old.volume new.volume plain shows flush_leaves

  pub flush_none : IsUploads new.volume.objects.uploads → HasNoneToRemove old.volume → HasNoneToRemove new.volume
  flush_none is none = none_shown new.volume _ is flushing.shows (none plain shows)

  -- it is told to be done
  pub flushed_is : (count : ℕ) → reply ≡ told.Flushed count → IsLengthOf count new.volume × IsDurable new.volume
      × (tells_fault reply ≡ false)
  flushed_is count is =
      let after = flushing in
      let ready : PlainState = passing after.left plain in
      let done : PlainState = passing (fuse_in new.volume.log.commits.disk.budget) (after_flush ready) in
      let no_fault : tells_fault reply ≡ false = ap tells_fault is in
      elim (flush_by state old.volume reply (passes_commit ready.cache) (history_length plain) after.tells) [
        | inl e ↦
            let told_it = e.1 in
            let same : count ≡ history_length plain = cc in
            let replied : flush_reply ready ≡ replies.Flushed (history_length plain) =
            ap (λ (b : Bool). if b then replies.Flushed (history_length plain) else replies.Fault) e.0 in
            let commits = flush_commits ready (history_length plain) (passing_keeps after.left plain shows.valid) replied in
            let durable : done.cache.log.last.head.seq ≡ history_length done = commits.1 in (
              length_is count new.volume done after.shows same,
              λ plain shown other others.
                  (let committed : other.cache.log.last.head.seq ≡ history_length done =
                  committed_is new.volume done other after.shows others ∙ durable in
                  let whole : history_length done ≡ history_length plain =
                  length_is (history_length done) new.volume done after.shows refl plain shown in
                  omega (arith, committed, whole)),
              no_fault,
            )
        | inr fault ↦ (let bad : ⊥ = cc in absurd bad)
      ]

  -- it is not
  pub not_flushed : count_in reply ≡ None → tells_fault reply ≡ true
  not_flushed none =
      let after = flushing in
      let ready : PlainState = passing after.left plain in
      elim (flush_by state old.volume reply (passes_commit ready.cache) (history_length plain) after.tells) [
        | inl e ↦ (let counted = ap count_in e.1 in let bad : ⊥ = cc in absurd bad)
        | inr fault ↦ fault
      ]

pub flushed_reply : {R : Type 0} (reply : Reply R) (count : ℕ) → count_in reply ≡ Some count → reply ≡ told.Flushed count
flushed_reply reply count is =
    elim (count_cases reply) [
      | inl e ↦
          let counted = ap count_in e.1 in
          let same : e.0 ≡ count = cc in
          e.1 ∙ ap told.Flushed same
      | inr none ↦ (let bad : ⊥ = cc in absurd bad)
    ]

-- ---- a look

if_some : {A : Type 0} (o : Option A) (P : Type 0) → IsSome o → IfSome o (λ x. P) → P
if_some None P some is = let bad : ⊥ = cc in absurd bad
if_some (Some x) P some is = is

pub planned_reply : {R : Type 0} (reply : Reply R) (plan : PlanState) → plan_in reply ≡ Ok plan → reply ≡ told.Planned plan
planned_reply reply plan is =
    elim (plan_cases reply) [
      | inl e ↦
          let planned = ap plan_in e.1 in
          let same : e.0 ≡ plan = cc in
          e.1 ∙ ap told.Planned same
      | inr none ↦ (let other = none.is in let bad : ⊥ = cc in absurd bad)
    ]

-- where there is none, its error tells whether a call of the device failed
pub no_plan : {R : Type 0} (reply : Reply R) (error : OwnerError) → plan_in reply ≡ Err error
    → ((plan : PlanState) → reply ≡ told.Planned plan → ⊥) × (is_eio {T = ℕ} (Err error) ≡ tells_fault reply)
    × (error ≡ errors.Range → ⊥)
no_plan reply error is =
    elim (plan_cases reply) [
      | inl e ↦ (let planned = ap plan_in e.1 in let bad : ⊥ = cc in absurd bad)
      | inr none ↦
          let other = none.is in
          let same : none.error ≡ error = cc in (
            λ plan told_it. (let planned = ap plan_in told_it in cc),
            ap (λ e. is_eio {T = ℕ} (Err e)) (sym same) ∙ none.fault,
            λ range. none.no_range (same ∙ range),
          )
    ]

-- what it leaves
record IsAfterLook {R : Type 0} (state : R → ReceiptState) (reply : Reply R) (lba sectors : ℕ) (plain : PlainState)
    (old new : VolumeState) : Type 0 where
  left : Fuse
  now : Fuse
  shows : Shows new (passing now (after_look lba sectors (passing left plain)))
  tells : Tells state old reply (look_reply (passing left plain) lba sectors)

-- a plan tells what the plain volume says of the read
planned_by : {R : Type 0} (state : R → ReceiptState) (volume : VolumeState) (plan : PlanState) (lba sectors : ℕ)
    (plain : PlainState) (may passed : Bool)
    → Tells {R = R} state volume (told.Planned plan)
    (if may then (if passed then replies.Planned (planned_read plain lba sectors) else replies.Fault) else replies.Range)
    → (may ≡ true) × (passed ≡ true) × TellsRead volume plan (planned_read plain lba sectors)
planned_by state volume plan lba sectors plain true true tells =
    let (read, is, told_read) = tells in
    let same : read ≡ planned_read plain lba sectors = cc in
    (refl, refl, subst (TellsRead volume plan) same told_read)
planned_by state volume plan lba sectors plain true false tells = (let is = tells.1 in let bad : ⊥ = cc in absurd bad)
planned_by state volume plan lba sectors plain false passed tells = (let is = tells.1 in let bad : ⊥ = cc in absurd bad)

-- pins that are taken out as they came are gone
pinned_again : (numbers : List ℕ) → (are_pinned numbers numbers ≡ true) × (without_pins numbers numbers ≡ [])
pinned_again [] = (refl, refl)
pinned_again (number ∷ numbers) =
    let same : nat_eq number number ≡ true = eq-eqb number number refl in
    let rest = pinned_again numbers in (
      ap (λ b. (b || list_any (λ pin. pin == number) numbers) && are_pinned numbers
          (cond b numbers (number ∷ unpinned number numbers))) same ∙ rest.0,
      ap (λ b. without_pins numbers (cond b numbers (number ∷ unpinned number numbers))) same ∙ rest.1,
    )

module _ {R : Type 0} (state : R → ReceiptState) (reply : Reply R) (lba sectors : ℕ) (old new : SteppedVolume)
    (of : CountedStep state (asks.Look lba sectors) reply old new) where
  pub look_makes : MakesSteps 1 [] old new
  look_makes = quiet_makes state (asks.Look lba sectors) reply old new (λ asked is. ap is_quiet is) of

  after_look_by : (plain : PlainState)
      → IsStep state (asks.Look lba sectors) reply plain old.volume new.volume
      ⊎ IsNoStep state (asks.Look lba sectors) reply plain old.volume new.volume
      → IsAfterLook state reply lba sectors plain old.volume new.volume ⊎ ((lacks_memory reply ≡ true) × Shows new.volume plain)
  after_look_by plain (inl s) =
      let now : Fuse = fuse_in new.volume.log.commits.disk.budget in
      inl (record {
        left = s.left;
        now = now;
        shows = subst (λ e. Shows new.volume (passing now (plain_after e (passing s.left plain)))) s.asks s.shows;
        tells = subst (λ e. Tells state old.volume reply (plain_reply (passing s.left plain) e)) s.asks s.tells;
      })
  after_look_by plain (inr n) = inr (n.lacks, n.shows)

  -- where there is no plan, the volume is idle still
  looked_idle_by : (plain : PlainState) (left now : Fuse) (may passed : Bool) → IsIdlePlain plain
      → ((plan : PlanState) → reply ≡ told.Planned plan → ⊥)
      → Tells state old.volume reply
      (if may then (if passed then replies.Planned (planned_read plain lba sectors) else replies.Fault) else replies.Range)
      → Shows new.volume (passing now (if may then record (passing left plain) {
        cache = after_reads (look_calls plain lba sectors) (passing left plain).cache;
        pins = if passed then plain.pins ++ objects_read plain lba sectors else plain.pins;
      } else passing left plain)) → IsIdle new.volume
  looked_idle_by plain left now true true was not_planned tells shows =
      let planned = tells_planned state old.volume reply _ tells in absurd (not_planned planned.0 planned.1)
  looked_idle_by plain left now true false was not_planned tells shows =
      idle_shown new.volume _ shows (record { puts = was.puts; plans = was.plans; none_out = was.none_out; few = was.few })
  looked_idle_by plain left now false passed was not_planned tells shows =
      idle_shown new.volume _ shows (record { puts = was.puts; plans = was.plans; none_out = was.none_out; few = was.few })

  pub not_looked_idle : (plain : PlainState) → Shows old.volume plain → IsIdle old.volume
      → ((plan : PlanState) → reply ≡ told.Planned plan → ⊥) → IsIdle new.volume
  not_looked_idle plain shows idle not_planned =
      let was = shown_idle old.volume plain shows idle in
      elim (after_look_by plain (of.step.step plain shows)) [
        | inl a ↦
            looked_idle_by plain a.left a.now (may_transfer plain.geometry lba sectors)
            (passes_look (passing a.left plain) lba sectors) was not_planned a.tells a.shows
        | inr n ↦ idle_shown new.volume plain n.1 was
      ]

  -- where there is one, it is of each plain volume that was shown, and its objects alone are pinned
  pub record IsLooked (plan : PlanState) (plain : PlainState) : Type 0 where
    pub after : PlainState
    pub shows : Shows new.volume after
    pub tells_read : TellsRead old.volume plan (planned_read plain lba sectors)
    pub window : after.window ≡ plain.window
    pub pins : after.pins ≡ plain.pins ++ plan.objects
    pub removal : after.removal ≡ plain.removal

  looked_by : (plan : PlanState) (plain : PlainState) (left now : Fuse) (may passed : Bool)
      → Tells {R = R} state old.volume (told.Planned plan)
      (if may then (if passed then replies.Planned (planned_read plain lba sectors) else replies.Fault) else replies.Range)
      → Shows new.volume (passing now (if may then record (passing left plain) {
        cache = after_reads (look_calls plain lba sectors) (passing left plain).cache;
        pins = if passed then plain.pins ++ objects_read plain lba sectors else plain.pins;
      } else passing left plain)) → IsLooked plan plain
  looked_by plan plain left now true true tells shows =
      let is = (planned_by state old.volume plan lba sectors plain true true tells).2 in
      record {
        after = _;
        shows = shows;
        tells_read = is;
        window = refl;
        pins = ap (λ o. plain.pins ++ o) (sym is.objects);
        removal = refl;
      }
  looked_by plan plain left now true false tells shows = (let is = tells.1 in let bad : ⊥ = cc in absurd bad)
  looked_by plan plain left now false passed tells shows = (let is = tells.1 in let bad : ⊥ = cc in absurd bad)

  pub looked : (plan : PlanState) (plain : PlainState) → Shows old.volume plain → reply ≡ told.Planned plan → IsLooked plan plain
  looked plan plain shows is =
      elim (after_look_by plain (of.step.step plain shows)) [
        | inl a ↦
            looked_by plan plain a.left a.now (may_transfer plain.geometry lba sectors)
            (passes_look (passing a.left plain) lba sectors)
            (subst (λ r. Tells state old.volume r (look_reply (passing a.left plain) lba sectors)) is a.tells) a.shows
        | inr n ↦ (let lacked = ap lacks_memory is in let lacks = n.0 in let bad : ⊥ = cc in absurd bad)
      ]

  pub look_shown : (plan : PlanState) (plain : PlainState) → Shows old.volume plain → reply ≡ told.Planned plan
      → (after : PlainState) × Shows new.volume after
  look_shown plan plain shows is = (let look = looked plan plain shows is in (look.after, look.shows))

  pub look_faults : (plan : PlanState) → reply ≡ told.Planned plan
      → new.volume.log.commits.disk.faults ≡ old.volume.log.commits.disk.faults
  look_faults plan is =
      subst (λ b. Counts b old.volume.log.commits.disk.faults new.volume.log.commits.disk.faults) (ap tells_fault is)
      of.step.faults

  -- ---- the plan is given back

  module _ (plan : PlanState) (back : Reply R) (last : SteppedVolume)
      (given : CountedStep state (asks.Release plan) back new last)
    where
      pub release_makes : MakesSteps 1 [] new last
      release_makes = quiet_makes state (asks.Release plan) back new last (λ asked is. ap is_quiet is) given

      pub release_faults : (plain : PlainState) → Shows new.volume plain
          → last.volume.log.commits.disk.faults ≡ new.volume.log.commits.disk.faults
      release_faults plain shows = silent_faults state (asks.Release plan) back plain new last (λ asked is. ap is_silent is)
          shows given

      released_by : (plain : PlainState) → IsIdlePlain (record plain { pins = [] }) → plain.pins ≡ plan.objects
          → IsStep state (asks.Release plan) back plain new.volume last.volume
          ⊎ IsNoStep state (asks.Release plan) back plain new.volume last.volume
          → IsIdle last.volume
      released_by plain was pins (inl s) =
          let ready : PlainState = passing s.left plain in
          let now : Fuse = fuse_in last.volume.log.commits.disk.budget in
          let all = pinned_again plan.objects in
          let are : are_pinned plan.objects plain.pins ≡ true = ap (are_pinned plan.objects) pins ∙ all.0 in
          let none : without_pins plan.objects plain.pins ≡ [] = ap (without_pins plan.objects) pins ∙ all.1 in
          let shown : Shows last.volume (passing now (plain_after (events.Release plan.objects) ready)) =
          subst (λ e. Shows last.volume (passing now (plain_after e ready))) s.asks s.shows in
          let gone : Shows last.volume (passing now (record ready { pins = without_pins plan.objects plain.pins })) =
          subst (λ (b : Bool). Shows last.volume
          (passing now (if b then record ready { pins = without_pins plan.objects plain.pins } else ready))) are shown in
          idle_shown last.volume _ gone (record { puts = was.puts; plans = none; none_out = was.none_out; few = was.few })
      released_by plain was pins (inr n) = (let may = n.may in let bad : ⊥ = cc in absurd bad)

      -- it names the objects of the plan that was made
      pub released_idle : (made : PlanState) (plain : PlainState) → made.objects ≡ plan.objects → Shows old.volume plain
          → IsIdle old.volume → reply ≡ told.Planned made → IsIdle last.volume
      released_idle made plain same shows idle is =
          let was = shown_idle old.volume plain shows idle in
          let look = looked made plain shows is in
          released_by look.after (record {
            puts = ap (λ (w : WindowState). any_started w.objects) look.window ∙ was.puts;
            plans = refl;
            none_out = look.removal ∙ was.none_out;
            few = subst (λ (w : WindowState). length w.objects ≤ 16) (sym look.window) was.few;
          })
          (look.pins ∙ ap (λ (p : List ℕ). p ++ made.objects) was.plans ∙ same) (given.step.step look.after look.shows)

  -- ---- what it gives

  -- as many bytes as the read has
  pub looked_size : (plan : PlanState) → reply ≡ told.Planned plan → length plan.bytes ≡ 512 * sectors
  looked_size plan is = subst (λ (r : Reply R). HasItsBytes (asks.Look lba sectors) r) is of.step.plan

  pub looked_length : (plan : PlanState) (plain : PlainState) → Shows old.volume plain → reply ≡ told.Planned plan
      → IsLengthOf plan.history_length old.volume
  looked_length plan plain shows is =
      length_is plan.history_length old.volume plain shows (looked plan plain shows is).tells_read.history_length

  pub looked_sectors : (plan : PlanState) (bytes : List ℕ) → reply ≡ told.Planned plan → length bytes ≡ 512 * sectors
      → (((receipt : R) → IsSome (state receipt).told) → GivesNoOther plan bytes) → HasSectors state old.volume lba bytes
  looked_sectors plan bytes is size gives tells plain shows =
      let gave = (looked plan plain shows is).tells_read.gives in
      let had : Gives plan (sectors_at lba sectors (image_now plain)) = if_some old.volume.log.entries _ tells.log gave in
      sym (gives tells.receipts (sectors_at lba sectors (image_now plain)) had)
      ∙ ap (λ n. sectors_at lba n (image_now plain)) (omega (arith, size))
