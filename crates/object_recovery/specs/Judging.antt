-- Contract: which objects of a volume in a store are bad.
use Rattle.std.specs.Prelude.{◌≡◌, ℕ, ◌+◌, ◌-◌, ◌^◌, ◌<◌, ◌≤◌, ◌⊎◌, Option, Some, None, IsTrue, List, length}
use Rattle.lsvd_objstore.specs.Objects.{Objects, found}
use Rattle.object_format.specs.declared.expected.Expected.{Expected}
use Rattle.object_format.specs.declared.header.Header.{Header}
use Rattle.object_format.specs.declared.reason.BadObject.{BadObject}
use Rattle.object_format.specs.declared.rows.Rows.{Rows}
use Rattle.object_format.specs.Object.{IsObject}
use Rattle.object_format.specs.Tests.{IsObjectRefusedAs}
use Rattle.object_stream.specs.Replay.{object_name}
use Rattle.extent_map.specs.declared.extent.Extent.{Extent}
use Rattle.ckpt_format.specs.declared.place.StoredPlace.{StoredPlace}
use Rattle.ckpt_format.specs.Checkpoint.{IsCheckpoint}
use Rattle.stopped_volume.specs.Expected.{expected_alone}
use Rattle.stopped_volume.specs.Objects.{landed_in, IsWhole}
use Rattle.object_recovery.specs.Checkpoints.{IsNewestWithEnd}

-- ---- the end before an object

-- The end that bytes have where they are an object of the grammar under the expected number, wherever it begins; none where they
-- are not.
abbrev pub IsEndOf : (bytes : List ℕ) (size : ℕ) → Expected → Option ℕ → Type 0
IsEndOf bytes size expected None = (header : Header) (rows : Rows) → IsObject bytes size (expected_alone expected expected.number)
    header rows → ⊥
IsEndOf bytes size expected (Some end) =
    (header : Header) × (rows : Rows) × IsObject bytes size (expected_alone expected expected.number) header rows
    × (header.end_seq ≡ end)

-- bytes are an object of the grammar under what is expected, with or without rows of a checkpoint, and this is its end
abbrev pub EndsAt : (bytes : List ℕ) → Expected → (end : ℕ) → Type 0
EndsAt bytes expected end =
    ((header : Header) × (rows : Rows) × IsObject bytes (length bytes) expected header rows × (header.end_seq ≡ end))
    ⊎ ((rows : List (Extent StoredPlace)) × IsCheckpoint bytes expected end rows)

-- the end that bytes have where they are; none where they are not
abbrev pub HaveEnd : (bytes : List ℕ) → Expected → Option ℕ → Type 0
HaveEnd bytes expected None = (end : ℕ) → EndsAt bytes expected end → ⊥
HaveEnd bytes expected (Some end) = EndsAt bytes expected end

-- the store has an object of this number, and that is the end of its bytes
pub record HasEnd (volume : Expected) (objects : Objects) (number : ℕ) (end : Option ℕ) : Type 0 where
  pub bytes : List ℕ
  pub present : found objects (object_name volume number) ≡ Some bytes
  pub is_end : HaveEnd bytes (expected_alone volume number) end

-- The end before an object, by the last one before the first missing number: up to that one, the end of the object before it;
-- past the first missing number it is not known.
pub record IsEndBefore (volume : Expected) (objects : Objects) (last number : ℕ) (end : Option ℕ) : Type 0 where
  pub known : number ≤ last → HasEnd volume objects (number - 1) end
  pub unknown : last < number → end ≡ None

-- ---- an object

-- what is expected of the object of a number after this end; the rest is the volume's
abbrev pub expected_after : Expected → (number : ℕ) (end_before : Option ℕ) → Expected
expected_after volume number end_before = record volume { number = number; end_before = end_before }

-- the store has an object of this number, of which this holds under what is expected of it
pub record HasObject (volume : Expected) (objects : Objects) (last number : ℕ) (Holds : Expected → List ℕ → Type 0) : Type 0 where
  pub named : number < 2 ^ 64
  pub bytes : List ℕ
  pub present : found objects (object_name volume number) ≡ Some bytes
  pub end_before : Option ℕ
  pub is_before : IsEndBefore volume objects last number end_before
  pub holds : Holds (expected_after volume number end_before) bytes

-- it is of the grammar, and goes on at the end before it where that is known; or it is not, for this reason
abbrev pub IsGoodObject : Expected → Objects → (last number : ℕ) → Type 0
IsGoodObject volume objects last number = HasObject volume objects last number IsWhole

abbrev pub IsBadObject : Expected → Objects → (last number : ℕ) → BadObject → Type 0
IsBadObject volume objects last number reason =
    HasObject volume objects last number (λ expected bytes. IsObjectRefusedAs bytes (length bytes) expected reason)

-- each object of the store with such a number is good
abbrev pub AreGood : Expected → Objects → (last : ℕ) → (Such : ℕ → Type 0) → Type 0
AreGood volume objects last Such =
    (number : ℕ) (bytes : List ℕ) → Such number → number < 2 ^ 64 → found objects (object_name volume number) ≡ Some bytes
    → IsGoodObject volume objects last number

-- the object of this number, past another, is bad, and each that is greater is good
pub record IsGreatestBad (volume : Expected) (objects : Objects) (last past number : ℕ) (reason : BadObject) : Type 0 where
  pub after : past < number
  pub bad : IsBadObject volume objects last number reason
  pub greater : AreGood volume objects last (λ other. number < other)

-- ---- which are judged

-- the objects of these numbers have landed: past one, up to another
abbrev pub HaveLanded : Objects → Expected → (past to : ℕ) → Type 0
HaveLanded objects volume past to = (number : ℕ) → past < number → number ≤ to → IsTrue (landed_in objects volume number)

-- this is the newest checkpoint of a store, and this the last object before the first missing number; names have numbers below
-- 2^64
pub record IsRun (volume : Expected) (objects : Objects) (base last : ℕ) : Type 0 where
  pub end : ℕ
  pub newest : IsNewestWithEnd volume objects base end
  pub from : base ≤ last
  pub landed : HaveLanded objects volume base last
  pub missing : last + 1 < 2 ^ 64 → found objects (object_name volume (last + 1)) ≡ None
