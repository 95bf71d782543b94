-- For this crate's own clauses: how far the objects of a store were judged.
use Rattle.std.specs.Prelude.{◌≡◌, ℕ, ◌+◌, ◌^◌, ◌<◌, ◌≤◌, ◌⊎◌, Option, Some, None, List, length, slice_index_or}
use Rattle.lsvd_names.specs.declared.name.ObjName.{ObjName}
use Rattle.lsvd_objstore.specs.Objects.{Objects, found, Lists}
use Rattle.object_format.specs.declared.expected.Expected.{Expected}
use Rattle.object_format.specs.declared.reason.BadObject.{BadObject}
use Rattle.object_format.specs.Tests.{IsObjectRefusedAs}
use Rattle.object_stream.specs.Replay.{object_name}
use Rattle.stopped_volume.specs.Expected.{expected_alone}
use Rattle.stopped_volume.specs.Objects.{IsWhole}
use Rattle.object_recovery.specs.declared.reading.ReadObject.{ReadObject}
use Rattle.object_recovery.specs.declared.reading.ReadObject.TheVariants as read
use Rattle.object_recovery.specs.declared.judging.Judged.{Judged}
use Rattle.object_recovery.specs.declared.judging.Reached.{Reached}
use Rattle.object_recovery.specs.declared.judging.ObjectRefusal.{ObjectRefusal}
use Rattle.object_recovery.specs.Checkpoints.{IsNewest}
use Rattle.object_recovery.specs.Judging.{IsEndOf, HasEnd, IsBadObject, AreGood, HaveLanded}

-- ---- one object

-- bytes are an object of the grammar under what is expected, or they are refused for this reason
abbrev pub IsBadFor : Expected → List ℕ → Option BadObject → Type 0
IsBadFor expected bytes None = IsWhole expected bytes
IsBadFor expected bytes (Some reason) = IsObjectRefusedAs bytes (length bytes) expected reason

-- the store has the expected object, and it was judged so
pub record IsJudged (objects : Objects) (expected : Expected) (judged : Judged) : Type 0 where
  pub bytes : List ℕ
  pub present : found objects (object_name expected expected.number) ≡ Some bytes
  pub is_end : IsEndOf bytes (length bytes) expected judged.end
  pub is_bad : IsBadFor expected bytes judged.bad

-- how an object was judged that was read so
abbrev pub judged_by : ReadObject → Judged
judged_by (read.Whole rows end) = record { end = Some end; bad = None }
judged_by (read.Bad reason end) = record { end = end; bad = Some reason }

abbrev pub IsJudgement : Objects → Expected → Option Judged → Type 0
IsJudgement objects expected None = found objects (object_name expected expected.number) ≡ None
IsJudgement objects expected (Some judged) = IsJudged objects expected judged

-- ---- some objects

-- why objects are refused where the one of a number that is greater than theirs is bad for this reason, or is not
abbrev pub refused_with : (number : ℕ) → Option BadObject → Option ObjectRefusal → Option ObjectRefusal
refused_with number None before = before
refused_with number (Some reason) before = Some (record { number = number; reason = reason })

-- what is refused stays so
abbrev pub StaysRefused : (old new : Option ObjectRefusal) → Type 0
StaysRefused old new = new ≡ None → old ≡ None

-- the objects of the store with such numbers are refused so: for the greatest of them that is bad
abbrev pub IsVerdict : Expected → Objects → (last : ℕ) → (Such : ℕ → Type 0) → Option ObjectRefusal → Type 0
IsVerdict volume objects last Such None = AreGood volume objects last Such
IsVerdict volume objects last Such (Some refusal) =
    Such refusal.number × IsBadObject volume objects last refusal.number refusal.reason
    × AreGood volume objects last (λ other. Such other × (refusal.number < other))

-- Those past the newest checkpoint, which has this number, were judged, up to one that was reached, wherever the first missing
-- number is after that.
pub record IsReached (volume : Expected) (objects : Objects) (base : ℕ) (reached : Reached) : Type 0 where
  pub newest : IsNewest volume objects base
  pub from : base ≤ reached.number
  pub landed : HaveLanded objects volume base reached.number
  pub has_end : HasEnd volume objects reached.number reached.end
  pub verdict : (last : ℕ) → reached.number ≤ last
      → IsVerdict volume objects last (λ number. (base < number) × (number ≤ reached.number)) reached.refused

-- none is after that one
abbrev pub IsGap : Expected → Objects → Reached → Type 0
IsGap volume objects reached = reached.number + 1 < 2 ^ 64 → found objects (object_name volume (reached.number + 1)) ≡ None

-- the next one was judged too, or there is none
abbrev pub IsJudgedNext : Expected → Objects → Reached → Option Reached → Type 0
IsJudgedNext volume objects reached None = found objects (object_name volume (reached.number + 1)) ≡ None
IsJudgedNext volume objects reached (Some next) = (base : ℕ) → IsReached volume objects base reached
    → IsReached volume objects base next

-- and all up to the first missing number
pub record GoesToGap (volume : Expected) (objects : Objects) (from gap : Reached) : Type 0 where
  pub reached : (base : ℕ) → IsReached volume objects base from → IsReached volume objects base gap
  pub missing : IsGap volume objects gap
  pub stays : StaysRefused from.refused gap.refused

-- ---- those past the first missing number

-- one is judged by itself
abbrev pub IsJudgedAlone : Expected → Objects → (number : ℕ) → (old new : Option ObjectRefusal) → Type 0
IsJudgedAlone volume objects number old new =
    ((found objects (object_name volume number) ≡ None) × (new ≡ old))
    ⊎ ((bytes : List ℕ) × (bad : Option BadObject) × (number < 2 ^ 64) × (found objects (object_name volume number) ≡ Some bytes)
    × IsBadFor (expected_alone volume number) bytes bad × (new ≡ refused_with number bad old))

-- a number is that of one of the first so many names
abbrev pub IsAmong : Expected → List ObjName → (count number : ℕ) → Type 0
IsAmong volume names count number =
    (k : ℕ) × (k < count) × (k < length names)
    × (slice_index_or names k (object_name volume number) ≡ object_name volume number)

-- all are judged, by the names of the objects that there are
abbrev pub JudgesPast : Expected → Objects → List ObjName → (gap : Reached) → Option ObjectRefusal → Type 0
JudgesPast volume objects names gap refused =
    (base : ℕ) → Lists volume.uuid objects names → IsReached volume objects base gap
    → IsVerdict volume objects gap.number (λ number. base < number) refused
