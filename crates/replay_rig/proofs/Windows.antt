-- The events that hand out counts leave the objects under way.
use Rattle.std.proofs.Common.{◌≡◌, ℕ, ◌+◌, nat_eq, Bool, true, false, cond, not, ◌&&◌, ◌||◌, List, [], ◌∷◌, ◌++◌, refl, sym, ◌∙◌}
use Rattle.std.proofs.Common.{ap, subst, arith}
use Rattle.std.specs.List.{list_any}
use Rattle.std.proofs.Math.Bool.{or-false}
use Rattle.std.proofs.lemmas.Bool.{eq-eqb, ne_eqb}
use Rattle.lsvd_objstore.specs.Memory.{Kept, told_receipt}
use Rattle.object_stream.specs.declared.object.Content.TheVariants.{Data, Checkpoint}
use Rattle.object_stream.specs.Stream.{end_at, last_number}
use Rattle.upload_window.specs.declared.object.OpenObject.{OpenObject}
use Rattle.upload_window.specs.Window.{WindowState, has_number, entered}
use Rattle.plain_disk.specs.declared.event.PlainEvent.{PlainEvent}
use Rattle.plain_disk.specs.State.{PlainState, stream_in}
use Rattle.plain_disk.specs.Objects.{has_unsealed, is_busy, end_of_next}
use Rattle.plain_disk.specs.Step.{plain_after}
use Rattle.plain_disk.specs.Valid.{IsPlainVolume}
use Rattle.vol_core.specs.declared.event.Event.{Event}
use Rattle.vol_core.specs.declared.event.Event.TheVariants.{Write, Zero, Flush, Look, Release, Seal, TakeJob, JobDone, JobFailed}
use Rattle.vol_core.specs.declared.event.Event.TheVariants.{SealCheckpoint, TakeRemove, RemoveDone}
use Rattle.vol_core.specs.declared.event.Event.TheVariants.{RemoveFailed, PlanCopy, SealCopy}
use Rattle.vol_core.specs.declared.event.Event.TheVariants.{DropPlan, Status}
use Rattle.vol_core.specs.Volume.{VolumeState}
use Rattle.vol_core.specs.Events.{Asks}
use Rattle.replay_rig.specs.Steps.{is_counted}
use Rattle.replay_rig.specs.Puts.{PutView}
use Rattle.replay_rig.specs.Rig.{AreUnderWay, IsFirstUnderWay}
use Rattle.replay_rig.proofs.PlainLemmas.{KeepsRemovals, is_no_removal, event_keeps_removals}
use Rattle.replay_rig.proofs.Stepped.{KeepsUnderWay, same_under_way}

-- ---- an object is entered, of which no put began

entered_by : (first : OpenObject) (objects entered_ : List OpenObject) (puts : List PutView) (b : Bool)
    → ((more : List PutView) → AreUnderWay objects more → AreUnderWay entered_ more)
    → IsFirstUnderWay b first puts (AreUnderWay objects) → IsFirstUnderWay b first puts (AreUnderWay entered_)
entered_by first objects entered_ [] true more are = absurd are
entered_by first objects entered_ (put ∷ puts) true more are = (are.0, are.1, more puts are.2)
entered_by first objects entered_ puts false more are = more puts are

entered_under_way : (object : OpenObject) (objects : List OpenObject) (puts : List PutView) → object.was_started ≡ false
    → AreUnderWay objects puts
    → AreUnderWay (objects ++ object ∷ []) puts
entered_under_way object [] puts never are = rw never are
entered_under_way object (first ∷ objects) puts never are =
    entered_by first objects (objects ++ object ∷ []) puts first.was_started
    (λ more are_. entered_under_way object objects more never are_) are

entered_numbers : (k : ℕ) (object : OpenObject) (objects : List OpenObject)
    → list_any (has_number k) (objects ++ object ∷ []) ≡ (list_any (has_number k) objects || has_number k object)
entered_numbers k object [] = or-false (has_number k object)
entered_numbers k object (first ∷ objects) =
    let rest = entered_numbers k object objects in
    elim (has_number k first) as (λ b. (b || list_any (has_number k) (objects ++ object ∷ []))
    ≡ ((b || list_any (has_number k) objects) || has_number k object)) [
      | true ↦ refl
      | false ↦ rest
    ]

neither : (a b : Bool) → (a || b) ≡ false → (a ≡ false) × (b ≡ false)
neither true b is = cc
neither false b is = (refl, is)

pub entered_keeps : (is_checkpoint : Bool) (window : WindowState)
    → KeepsUnderWay window (entered (window.last + 1) is_checkpoint window)
entered_keeps is_checkpoint window =
    let object : OpenObject = record {
      number = window.last + 1;
      is_checkpoint = is_checkpoint;
      is_started = false;
      was_started = false;
    } in
    let objects : List OpenObject = window.objects in
    record {
      under_way = λ puts are. entered_under_way object objects puts refl are;
      back = λ number positive is.
          let none = sym (entered_numbers number object objects) ∙ is.not_open in
          let parts = neither (list_any (has_number number) objects) (has_number number object) none in
          let most = is.was_entered in
          let other : window.last + 1 ≡ number → ⊥ =
          λ same. (let e : false ≡ true = sym parts.1 ∙ eq-eqb (window.last + 1) number same in cc) in
          record { was_entered = omega (arith, most, other); not_open = parts.0 };
      forth = λ number positive is.
          let most = is.was_entered in
          let other : nat_eq (window.last + 1) number ≡ false =
          ne_eqb (window.last + 1) number (λ same. omega (arith, same, most)) in
          record {
            was_entered = omega (arith, most);
            not_open = entered_numbers number object objects ∙ ap (λ b. b || has_number number object) is.not_open ∙ other;
          };
    }

-- ---- events

seal_keeps : (plain : PlainState) (seals : Bool) (sealed : PlainState)
    → sealed.window ≡ entered (plain.window.last + 1) false plain.window
    → KeepsUnderWay plain.window (cond seals sealed plain).window
seal_keeps plain true sealed is = subst (KeepsUnderWay plain.window) (sym is) (entered_keeps false plain.window)
seal_keeps plain false sealed is = same_under_way plain.window

checkpoint_keeps : (plain : PlainState) (busy : Bool) (sealed : PlainState)
    → sealed.window ≡ entered (plain.window.last + 1) true plain.window
    → KeepsUnderWay plain.window (cond busy plain sealed).window
checkpoint_keeps plain true sealed is = same_under_way plain.window
checkpoint_keeps plain false sealed is = subst (KeepsUnderWay plain.window) (sym is) (entered_keeps true plain.window)

pub quiet_windows : (event : Event Kept) (asked : PlainEvent) (volume : VolumeState) (plain : PlainState)
    → is_counted event ≡ true
    → Asks told_receipt volume event asked → IsPlainVolume plain → KeepsUnderWay plain.window (plain_after asked plain).window
quiet_windows (Write lba body) asked volume plain is asks valid =
    subst (λ e. KeepsUnderWay plain.window (plain_after e plain).window) (sym asks) (same_under_way plain.window)
quiet_windows (Zero lba sectors) asked volume plain is asks valid =
    subst (λ e. KeepsUnderWay plain.window (plain_after e plain).window) (sym asks) (same_under_way plain.window)
quiet_windows Flush asked volume plain is asks valid =
    subst (λ e. KeepsUnderWay plain.window (plain_after e plain).window) (sym asks) (same_under_way plain.window)
quiet_windows Seal asked volume plain is asks valid =
    let sealed : PlainState = record plain {
      objects = plain.objects ++ record { content = Data; end = end_of_next plain } ∷ [];
      window = entered (plain.window.last + 1) false plain.window;
    } in
    subst (λ e. KeepsUnderWay plain.window (plain_after e plain).window) (sym asks)
    (seal_keeps plain (has_unsealed plain && not (is_busy plain)) sealed refl)
quiet_windows SealCheckpoint asked volume plain is asks valid =
    let sealed : PlainState = record plain {
      objects =
          plain.objects
          ++ record { content = Checkpoint; end = end_at (stream_in plain) (last_number (stream_in plain)) } ∷ [];
      window = entered (plain.window.last + 1) true plain.window;
    } in
    subst (λ e. KeepsUnderWay plain.window (plain_after e plain).window) (sym asks)
    (checkpoint_keeps plain (is_busy plain) sealed refl)
quiet_windows Status asked volume plain is asks valid =
    subst (λ e. KeepsUnderWay plain.window (plain_after e plain).window) (sym asks) (same_under_way plain.window)
quiet_windows (Look lba sectors) asked volume plain is asks valid = cc
quiet_windows (Release plan) asked volume plain is asks valid = cc
quiet_windows TakeJob asked volume plain is asks valid = cc
quiet_windows (JobDone job receipt) asked volume plain is asks valid = cc
quiet_windows (JobFailed job) asked volume plain is asks valid = cc
quiet_windows TakeRemove asked volume plain is asks valid = cc
quiet_windows (RemoveDone number) asked volume plain is asks valid = cc
quiet_windows (RemoveFailed receipt) asked volume plain is asks valid = cc
quiet_windows PlanCopy asked volume plain is asks valid = cc
quiet_windows (SealCopy copied) asked volume plain is asks valid = cc
quiet_windows DropPlan asked volume plain is asks valid = cc

-- and the removals
pub quiet_removals : (event : Event Kept) (asked : PlainEvent) (volume : VolumeState) (plain : PlainState)
    → is_counted event ≡ true → Asks told_receipt volume event asked → KeepsRemovals plain (plain_after asked plain)
quiet_removals (Write lba body) asked volume plain is asks = event_keeps_removals plain asked (ap is_no_removal asks)
quiet_removals (Zero lba sectors) asked volume plain is asks = event_keeps_removals plain asked (ap is_no_removal asks)
quiet_removals Flush asked volume plain is asks = event_keeps_removals plain asked (ap is_no_removal asks)
quiet_removals Seal asked volume plain is asks = event_keeps_removals plain asked (ap is_no_removal asks)
quiet_removals SealCheckpoint asked volume plain is asks = event_keeps_removals plain asked (ap is_no_removal asks)
quiet_removals Status asked volume plain is asks = event_keeps_removals plain asked (ap is_no_removal asks)
quiet_removals (Look lba sectors) asked volume plain is asks = cc
quiet_removals (Release plan) asked volume plain is asks = cc
quiet_removals TakeJob asked volume plain is asks = cc
quiet_removals (JobDone job receipt) asked volume plain is asks = cc
quiet_removals (JobFailed job) asked volume plain is asks = cc
quiet_removals TakeRemove asked volume plain is asks = cc
quiet_removals (RemoveDone number) asked volume plain is asks = cc
quiet_removals (RemoveFailed receipt) asked volume plain is asks = cc
quiet_removals PlanCopy asked volume plain is asks = cc
quiet_removals (SealCopy copied) asked volume plain is asks = cc
quiet_removals DropPlan asked volume plain is asks = cc
