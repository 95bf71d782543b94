-- Contract: for which reason bytes are no super object: the tests, and their order.
use Rattle.std.specs.Prelude.{ℕ, ◌≡◌, ◌+◌, ◌*◌, ◌<◌, IsTrue, List, length, take, codes}
use Rattle.std.specs.Int.{w32}
use Rattle.lsvd_bytes.specs.Places.{bytes_at, number_at}
use Rattle.super_format.specs.declared.super_object.Super.{Super}
use Rattle.super_format.specs.declared.reason.SuperReason.{SuperReason}
use Rattle.super_format.specs.declared.reason.SuperReason.TheVariants as reasons
use Rattle.super_format.specs.declared.reading.SuperReadError.{SuperReadError}
use Rattle.super_format.specs.declared.reading.SuperReadError.TheVariants.{BadSuper, OutOfMemory}
use Rattle.super_format.specs.Super.{super_in, keeps_limits, HasNoVolumeTwice, IsSuper}

-- the number of a reason, in the order of the tests
abbrev pub code_of : SuperReason → ℕ
code_of reasons.Length = 1
code_of reasons.Magic = 2
code_of reasons.Version = 3
code_of reasons.Uuid = 4
code_of reasons.Limits = 5
code_of reasons.Ancestors = 6

-- the bytes pass the test that a reason stands for
abbrev pub PassesSuperTest : (bytes uuid : List ℕ) → SuperReason → Type 0
PassesSuperTest bytes uuid reasons.Length = length bytes ≡ 48 + 24 * number_at w32 44 bytes
PassesSuperTest bytes uuid reasons.Magic = take 8 bytes ≡ codes "LSVDSUP1"
PassesSuperTest bytes uuid reasons.Version = number_at w32 8 bytes ≡ 1
PassesSuperTest bytes uuid reasons.Uuid = bytes_at 12 16 bytes ≡ uuid
PassesSuperTest bytes uuid reasons.Limits = IsTrue (keeps_limits (super_in bytes))
PassesSuperTest bytes uuid reasons.Ancestors = HasNoVolumeTwice (super_in bytes)

-- they pass each test before that of the reason
abbrev pub PassesTestsBefore : (bytes uuid : List ℕ) → SuperReason → Type 0
PassesTestsBefore bytes uuid reason = (other : SuperReason) → code_of other < code_of reason → PassesSuperTest bytes uuid other

-- the first test that they do not pass is that of this reason, and they are no super object of the volume
pub record IsSuperRefusedAs (bytes uuid : List ℕ) (reason : SuperReason) : Type 0 where
  pub earlier : PassesTestsBefore bytes uuid reason
  pub failed : PassesSuperTest bytes uuid reason → ⊥
  pub none : (volume : Super) → IsSuper bytes uuid volume → ⊥

-- what an error of a read says of the bytes
abbrev pub IsSuperReason : (bytes uuid : List ℕ) → SuperReadError → Type 0
IsSuperReason bytes uuid (BadSuper reason) = IsSuperRefusedAs bytes uuid reason
IsSuperReason bytes uuid OutOfMemory = PassesTestsBefore bytes uuid reasons.Ancestors

-- bytes of this length that begin so
pub record BeginsWith (front : List ℕ) (len : ℕ) (bytes : List ℕ) : Type 0 where
  pub size : length bytes ≡ len
  pub front_is : take (length front) bytes ≡ front
