-- Contract: how much the acts of a call copied, and how many objects they removed.
use Rattle.std.specs.Prelude.{◌≡◌, ℕ, None, List}
use Rattle.std.specs.List.{sum_by}
use Rattle.lsvd_objstore.specs.Store.{ReceiptState}
use Rattle.gc_copier.specs.Plan.{sectors_of}
use Rattle.gc_copier.specs.Copying.{CopiedState}
use Rattle.vol_core.specs.declared.event.Event.{Event}
use Rattle.vol_core.specs.declared.event.Event.TheVariants as events
use Rattle.vol_core.specs.declared.reply.Reply.{Reply}
use Rattle.vol_core.specs.declared.reply.Reply.TheVariants as told
use Rattle.vol_core.specs.View.{plan_out}
use Rattle.volume_owner.specs.Acts.{Moment, Act, Made, Puts, Removes, Gets, AreActs}

-- ---- copies

-- a copy is sealed where the reply tells that
abbrev pub copied_if_told : {R : Type 0} → CopiedState → Reply R → ℕ
copied_if_told copied (told.Sealed number) = sectors_of copied.rows
copied_if_told copied reply = 0

-- how many sectors the copy has that an event seals
abbrev pub copied_by_event : {R : Type 0} → Event R → Reply R → ℕ
copied_by_event (events.SealCopy copied) reply = copied_if_told copied reply
copied_by_event event reply = 0

-- that an act seals
abbrev pub copied_by_act : {R : Type 0} → Act R → ℕ
copied_by_act (Made event reply) = copied_by_event event reply
copied_by_act (Puts job failed) = 0
copied_by_act (Removes number failed) = 0
copied_by_act (Gets failed) = 0

-- ---- removals

-- an object is removed where the reply tells that
abbrev pub removed_if_told : {R : Type 0} → Reply R → ℕ
removed_if_told told.Removed = 1
removed_if_told reply = 0

-- how many objects an event tells to be removed
abbrev pub removed_by_event : {R : Type 0} → Event R → Reply R → ℕ
removed_by_event (events.RemoveDone number) reply = removed_if_told reply
removed_by_event event reply = 0

-- that an act tells so
abbrev pub removed_by_act : {R : Type 0} → Act R → ℕ
removed_by_act (Made event reply) = removed_by_event event reply
removed_by_act (Puts job failed) = 0
removed_by_act (Removes number failed) = 0
removed_by_act (Gets failed) = 0

-- ---- one after the other

-- Acts were made, and nothing else, which sealed copies of so many sectors, and by which so many objects were removed. No plan of
-- a copy is out after them, where none was before.
pub record IsTally {R : Type 0} (state : R → ReceiptState) (copied removed : ℕ) (old new : Moment) : Type 0 where
  pub acts : List (Act R)
  pub done : AreActs state acts old new
  pub copies : sum_by copied_by_act acts ≡ copied
  pub removals : sum_by removed_by_act acts ≡ removed
  pub plan : plan_out old.volume.volume ≡ None → plan_out new.volume.volume ≡ None
