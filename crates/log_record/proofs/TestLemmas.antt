-- The tests of a header, one by one and together.
use Rattle.std.proofs.Common.{◌≡◌, ℕ, ◌^◌, ◌<◌, ◌≤◌, IsTrue, false, List, [], length, take, drop, append-nil, sym, ◌∙◌, ap, subst}
use Rattle.std.proofs.Common.{arith, rules}
use Rattle.lsvd_base.specs.declared.geometry.Geometry.{Geometry}
use Rattle.lsvd_base.specs.Limits.{is_within_limits}
use Rattle.log_record.specs.declared.head.Head.{Head}
use Rattle.log_record.specs.declared.head.Head.TheVariants.{Write, Zero, Pad}
use Rattle.log_record.specs.declared.head.Place.{Place}
use Rattle.log_record.specs.declared.reason.Reason.{Reason}
use Rattle.log_record.specs.declared.reason.Reason.TheVariants as reasons
use Rattle.log_record.specs.Numbers.{kind_of, lba_of, sectors_of, kind_in, seq_in, HasNumbers, filler}
use Rattle.log_record.specs.Grammar.{header_of, is_in_range, fits, IsHeader}
use Rattle.log_record.specs.Tests.{code_of, PassesRecordTest, IsRefusedAs}
use Rattle.log_record.proofs.HeaderLemmas.{spelled, is_spelled, HasNumbers-header_of, one_head, magic-header, filler-header}
use Rattle.log_record.proofs.HeaderLemmas.{seq_in-header, IsBytes, HasParts, header_of_parts}
use Rattle.log_record.specs.Laws.{DeterminesHead}
use Rattle.std.proofs.lemmas.Bool.{both_ways}

-- ---- numbers in range are numbers of 64 bits

lba_fits : (geometry : Geometry) (position : ℕ) (head : Head) → IsTrue (is_within_limits geometry)
    → IsTrue (is_in_range geometry position head) → lba_of head < 2 ^ 64
lba_fits geometry position (Write lba sectors) limits in_range = search rules
lba_fits geometry position (Zero lba sectors) limits in_range = search rules
lba_fits geometry position (Pad sectors) limits in_range = search rules

sectors_fit : (geometry : Geometry) (position : ℕ) (head : Head) → IsTrue (is_within_limits geometry)
    → IsTrue (is_in_range geometry position head) → sectors_of head < 2 ^ 64
sectors_fit geometry position (Write lba sectors) limits in_range = search rules
sectors_fit geometry position (Zero lba sectors) limits in_range = search rules
sectors_fit geometry position (Pad sectors) limits in_range = search rules

-- ---- a header passes each test

-- the numbers in a header of a place are those of its head
pub HasNumbers-from_IsHeader : (sector : List ℕ) (seq : ℕ) (geometry : Geometry) (place : Place) (head : Head)
    → IsTrue (is_within_limits geometry) → IsHeader sector seq geometry place head → HasNumbers sector head
HasNumbers-from_IsHeader sector seq geometry place head limits is =
    let P : List ℕ → Type 0 = λ bytes. HasNumbers bytes head in
    let lba = lba_fits geometry place.position head limits is.in_range in
    let sectors = sectors_fit geometry place.position head limits is.in_range in
    subst P (sym (spelled head seq sector is.says)) (HasNumbers-header_of head seq lba sectors)

known_kind : (head : Head) (kind : ℕ) → kind ≡ kind_of head → (1 ≤ kind) × (kind ≤ 3)
known_kind (Write lba sectors) kind e = (omega (arith, e), omega (arith, e))
known_kind (Zero lba sectors) kind e = (omega (arith, e), omega (arith, e))
known_kind (Pad sectors) kind e = (omega (arith, e), omega (arith, e))

pub header_passes : (sector : List ℕ) (seq : ℕ) (geometry : Geometry) (place : Place) (head : Head) (reason : Reason)
    → seq < 2 ^ 64 → IsTrue (is_within_limits geometry) → IsHeader sector seq geometry place head
    → PassesRecordTest sector seq geometry place reason
header_passes sector seq geometry place head reasons.Magic fits limits is =
    ap (take 8) (spelled head seq sector is.says) ∙ magic-header (kind_of head) seq (lba_of head) (sectors_of head)
header_passes sector seq geometry place head reasons.Kind fits limits is =
    known_kind head (kind_in sector) (HasNumbers-from_IsHeader sector seq geometry place head limits is).kind
header_passes sector seq geometry place head reasons.Seq fits limits is =
    ap seq_in (spelled head seq sector is.says ∙ sym (append-nil (header_of head seq)))
    ∙ seq_in-header (kind_of head) seq (lba_of head) (sectors_of head) [] fits
header_passes sector seq geometry place head reasons.Range fits limits is =
    (head, HasNumbers-from_IsHeader sector seq geometry place head limits is, is.in_range)
header_passes sector seq geometry place head reasons.Zeros fits limits is =
    ap (drop 36) (spelled head seq sector is.says) ∙ filler-header (kind_of head) seq (lba_of head) (sectors_of head)
header_passes sector seq geometry place head reasons.Place fits limits is =
    (head, HasNumbers-from_IsHeader sector seq geometry place head limits is, is.fits)

-- a sector that fails a test is no header of the place
pub no_header : (sector : List ℕ) (seq : ℕ) (geometry : Geometry) (place : Place) (reason : Reason)
    → seq < 2 ^ 64 → IsTrue (is_within_limits geometry) → (PassesRecordTest sector seq geometry place reason → ⊥)
    → (head : Head) → IsHeader sector seq geometry place head → ⊥
no_header sector seq geometry place reason seq_fits limits failed head is =
    failed (header_passes sector seq geometry place head reason seq_fits limits is)

-- a sector is the header of one head
pub determines_head : DeterminesHead
determines_head sector seq geometry place a b limits is_a is_b =
    one_head sector a b
    (HasNumbers-from_IsHeader sector seq geometry place a limits is_a)
    (HasNumbers-from_IsHeader sector seq geometry place b limits is_b)

-- ---- a sector that passes each test is a header

-- what the first four tests found
pub record HasHead (sector : List ℕ) (seq : ℕ) (geometry : Geometry) (place : Place) (head : Head) : Type 0 where
  pub magic : PassesRecordTest sector seq geometry place reasons.Magic
  pub kind : PassesRecordTest sector seq geometry place reasons.Kind
  pub seq_is : PassesRecordTest sector seq geometry place reasons.Seq
  pub numbers : HasNumbers sector head
  pub in_range : IsTrue (is_in_range geometry place.position head)

pub header_if_passes : (sector : List ℕ) (seq : ℕ) (geometry : Geometry) (place : Place) (head : Head)
    → length sector ≡ 512 → IsBytes sector → HasHead sector seq geometry place head
    → drop 36 sector ≡ filler → IsTrue (fits geometry place head)
    → IsHeader sector seq geometry place head
header_if_passes sector seq geometry place head size bytes found zeros is_fit =
    let parts : HasParts sector (kind_of head) seq (lba_of head) (sectors_of head) = record {
      of_magic = found.magic;
      of_kind = found.numbers.kind;
      of_seq = found.seq_is;
      of_lba = found.numbers.lba;
      of_sectors = found.numbers.sectors;
      of_zeros = zeros;
    } in
    record {
      says = is_spelled head seq sector (header_of_parts sector (kind_of head) seq (lba_of head) (sectors_of head) size
          bytes parts);
      in_range = found.in_range;
      fits = is_fit;
    }

-- ---- the last two reasons

pub refused_as_zeros : (sector : List ℕ) (seq : ℕ) (geometry : Geometry) (place : Place) (head : Head)
    → HasHead sector seq geometry place head → (drop 36 sector ≡ filler → ⊥)
    → IsRefusedAs sector seq geometry place reasons.Zeros
refused_as_zeros sector seq geometry place head found failed = record { earlier = earlier; failed = failed }
  where
    earlier : (other : Reason) → code_of other < 5 → PassesRecordTest sector seq geometry place other
    earlier reasons.Magic h = found.magic
    earlier reasons.Kind h = found.kind
    earlier reasons.Seq h = found.seq_is
    earlier reasons.Range h = (head, found.numbers, found.in_range)
    earlier reasons.Zeros h = absurd (omega (arith, h))
    earlier reasons.Place h = absurd (omega (arith, h))

unfit : (sector : List ℕ) (geometry : Geometry) (place : Place) (head other : Head) → HasNumbers sector head
    → fits geometry place head ≡ false → HasNumbers sector other → IsTrue (fits geometry place other) → ⊥
unfit sector geometry place head other numbers failed other_numbers is_fit =
    let P : Head → Type 0 = λ h. IsTrue (fits geometry place h) in
    let e = one_head sector other head other_numbers numbers in
    both_ways (fits geometry place head) failed (subst P e is_fit)

pub not_at_place : (sector : List ℕ) (seq : ℕ) (geometry : Geometry) (place : Place) (head : Head)
    → HasNumbers sector head → fits geometry place head ≡ false
    → PassesRecordTest sector seq geometry place reasons.Place → ⊥
not_at_place sector seq geometry place head numbers failed passes =
    unfit sector geometry place head passes.0 numbers failed passes.1 passes.2

pub refused_as_place : (sector : List ℕ) (seq : ℕ) (geometry : Geometry) (place : Place) (head : Head)
    → HasHead sector seq geometry place head → drop 36 sector ≡ filler → fits geometry place head ≡ false
    → IsRefusedAs sector seq geometry place reasons.Place
refused_as_place sector seq geometry place head found zeros failed =
    record { earlier = earlier; failed = not_at_place sector seq geometry place head found.numbers failed }
  where
    earlier : (other : Reason) → code_of other < 6 → PassesRecordTest sector seq geometry place other
    earlier reasons.Magic h = found.magic
    earlier reasons.Kind h = found.kind
    earlier reasons.Seq h = found.seq_is
    earlier reasons.Range h = (head, found.numbers, found.in_range)
    earlier reasons.Zeros h = zeros
    earlier reasons.Place h = absurd (omega (arith, h))
