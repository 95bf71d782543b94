-- Contract: the number of a refusal, and the values that are told with it.
use Rattle.std.specs.Prelude.{ℕ}
use Rattle.log_record.specs.Tests.{code_of as record_code}
use Rattle.object_format.specs.Tests.{code_of as object_code}
use Rattle.super_format.specs.Tests.{code_of as reason_code}
use Rattle.refusals.specs.declared.bad_super.BadSuper.{BadSuper}
use Rattle.refusals.specs.declared.bad_super.BadSuper.TheVariants as supers
use Rattle.refusals.specs.declared.refusal.Refusal.{Refusal}
use Rattle.refusals.specs.declared.refusal.Refusal.TheVariants as reasons
use Rattle.refusals.specs.declared.refusal.Values.{Values}
use Rattle.refusals.specs.declared.refusal.Values.TheVariants.{Nothing, One, Two, Volume}

-- the number of a reason for which a super object, an epoch or a hold is refused, in the order of the tests
abbrev pub super_code : BadSuper → ℕ
super_code (supers.Super reason) = reason_code reason
super_code supers.NoEpoch = 7
super_code (supers.BadEpoch number) = 8
super_code (supers.BadHold number) = 8

-- the number of a refusal
abbrev pub refusal_number : Refusal → ℕ
refusal_number reasons.NoVolume = 1
refusal_number (reasons.BadSuper reason) = 2
refusal_number reasons.NoCheckpoint = 3
refusal_number (reasons.BadObject number reason) = 4
refusal_number (reasons.MissingObject number) = 4
refusal_number (reasons.StaleCache cache store) = 5
refusal_number (reasons.WrongVolume found) = 6
refusal_number (reasons.NoSlot log) = 7
refusal_number (reasons.BaseMissing ancestor) = 8
refusal_number (reasons.TooDeep levels) = 9
refusal_number (reasons.BadRecord seq reason) = 10
refusal_number reasons.Exists = 11
refusal_number (reasons.Worn value) = 12

-- the values that are told with it: the reasons of bad objects go to 8, and a missing one has the next
abbrev pub refusal_values : Refusal → Values
refusal_values reasons.NoVolume = Nothing
refusal_values (reasons.BadSuper reason) = One (super_code reason)
refusal_values reasons.NoCheckpoint = Nothing
refusal_values (reasons.BadObject number reason) = Two number (object_code reason)
refusal_values (reasons.MissingObject number) = Two number 9
refusal_values (reasons.StaleCache cache store) = Two cache store
refusal_values (reasons.WrongVolume found) = Volume found
refusal_values (reasons.NoSlot log) = One log
refusal_values (reasons.BaseMissing ancestor) = Volume ancestor
refusal_values (reasons.TooDeep levels) = One levels
refusal_values (reasons.BadRecord seq reason) = Two seq (record_code reason)
refusal_values reasons.Exists = Nothing
refusal_values (reasons.Worn value) = One value
