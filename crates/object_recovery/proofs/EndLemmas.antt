-- The end before an object, and what is refused for it.
use Rattle.std.proofs.Common.{◌≡◌, ℕ, ◌+◌, ◌-◌, ◌<◌, ◌≤◌, ◌&&◌, inl, inr, Bool, true, false, Option, Some, None, List, []}
use Rattle.std.proofs.Common.{length}
use Rattle.std.proofs.Common.{refl, sym, ◌∙◌, ap, subst, arith}
use Rattle.std.specs.Prelude.{IsTrue, IfSome}
use Rattle.std.specs.Option.{IsSomeAnd}
use Rattle.std.proofs.lemmas.Bool.{cases_lt, and_parts}
use Rattle.std.proofs.lemmas.Bool.Decides.{nat_tests}
use Rattle.lsvd_objstore.specs.Objects.{Objects, found}
use Rattle.lsvd_objstore.specs.Store.{ReceiptState}
use Rattle.object_format.specs.declared.header.Header.{Header}
use Rattle.object_format.specs.declared.expected.Expected.{Expected}
use Rattle.object_format.specs.declared.reason.BadObject as reason_type
use Rattle.object_format.specs.declared.reason.BadObject.TheVariants as reasons
use Rattle.object_format.specs.declared.kind.Kind.{Kind}
use Rattle.object_format.specs.declared.kind.Kind.TheVariants as kinds
use Rattle.object_format.specs.declared.rows.Rows.{Rows}
use Rattle.object_format.specs.declared.rows.Rows.TheVariants as rows_of
use Rattle.object_format.specs.Header.{has_due_seqs, begins_at, has_seqs_of_kind, IsObjectHeader}
use Rattle.object_format.specs.Object.{IsObject}
use Rattle.object_format.specs.Tests.{PassesObjectTest, IsObjectRefusedAs}
use Rattle.object_format.proofs.ObjectLemmas.{same_header}
use Rattle.object_format.proofs.TestLemmas.{header_in-IsHeader, header_passes}
use Rattle.extent_map.specs.declared.extent.Extent.{Extent}
use Rattle.ckpt_format.specs.declared.place.StoredPlace.{StoredPlace}
use Rattle.ckpt_format.specs.Checkpoint.{checkpoint_header, IsCheckpoint}
use Rattle.ckpt_format.proofs.LawLemmas.{is_object_without_rows}
use Rattle.object_stream.specs.Replay.{object_name}
use Rattle.stopped_volume.specs.Expected.{expected_alone}
use Rattle.stopped_volume.specs.Opening.{owned_by}
use Rattle.object_recovery.specs.Checkpoints.{IsNewest}
use Rattle.object_recovery.specs.Judging.{IsEndOf, EndsAt, HaveEnd, HasEnd, IsEndBefore, IsGoodObject, IsBadObject}
use Rattle.object_recovery.specs.declared.error.RecoverError.TheVariants as errors
use Rattle.object_recovery.specs.declared.reading.ReadObject.TheVariants as read
use Rattle.object_recovery.specs.Read.{AreFirstOf, HasHead, IsReadHeader, IsWhyNotRead, IsToldRefused, IsToldEnd, IsReadOf}
use Rattle.object_recovery.proofs.ReadLemmas.{same_head, moved_header, header_of_all, refused_is_none}

-- ---- by itself

seqs_alone : (of_kind begins : Bool) → IsTrue (of_kind && begins) → IsTrue (of_kind && true)
seqs_alone true begins is = refl
seqs_alone false begins is = is

alone_header : (bytes : List ℕ) (size : ℕ) (expected : Expected) (header : Header) → IsObjectHeader bytes size expected header
    → IsObjectHeader bytes size (expected_alone expected expected.number) header
alone_header bytes size expected header is = record {
  head = is.head;
  has_size = is.has_size;
  uuid = is.uuid;
  number = is.number;
  seqs = seqs_alone (has_seqs_of_kind header header.kind) (begins_at header.first_seq expected.end_before) is.seqs;
  limits = is.limits;
  widths = is.widths;
}

-- what is of the grammar after some end is so by itself
pub alone_object : (bytes : List ℕ) (size : ℕ) (expected : Expected) (header : Header) (rows : Rows)
    → IsObject bytes size expected header rows
    → IsObject bytes size (expected_alone expected expected.number) header rows
alone_object bytes size expected header rows is = record {
  head = alone_header bytes size expected header is.head;
  whole_front = is.whole_front;
  rows_are = is.rows_are;
  row_bytes = is.row_bytes;
  zeros = is.zeros;
}

-- so its end is that of the bytes
pub end_of_object : (bytes : List ℕ) (size : ℕ) (expected : Expected) (header : Header) (rows : Rows)
    → IsObject bytes size expected header rows
    → IsEndOf bytes size expected (Some header.end_seq)
end_of_object bytes size expected header rows is = (header, rows, alone_object bytes size expected header rows is, refl)

-- what is refused for another reason than its seqs is none by itself
pub refused_alone : (bytes : List ℕ) (size : ℕ) (expected : Expected) (reason : reason_type.BadObject)
    → (reason ≡ reasons.Seqs → ⊥)
    → IsObjectRefusedAs bytes size expected reason → IsEndOf bytes size expected None
refused_alone bytes size expected reasons.Length other refused header rows is =
    refused.failed (header_passes bytes size (expected_alone expected expected.number) header reasons.Length
    (omega arith) is.head)
refused_alone bytes size expected reasons.Magic other refused header rows is =
    refused.failed (header_passes bytes size (expected_alone expected expected.number) header reasons.Magic (omega arith) is.head)
refused_alone bytes size expected reasons.Kind other refused header rows is =
    refused.failed (header_passes bytes size (expected_alone expected expected.number) header reasons.Kind (omega arith) is.head)
refused_alone bytes size expected reasons.Uuid other refused header rows is =
    refused.failed (header_passes bytes size (expected_alone expected expected.number) header reasons.Uuid (omega arith) is.head)
refused_alone bytes size expected reasons.Number other refused header rows is =
    refused.failed (header_passes bytes size (expected_alone expected expected.number) header reasons.Number
    (omega arith) is.head)
refused_alone bytes size expected reasons.Seqs other refused header rows is = other refl
refused_alone bytes size expected reasons.Counts other refused header rows is =
    refused.failed (header_passes bytes size (expected_alone expected expected.number) header reasons.Counts
    (omega arith) is.head)
refused_alone bytes size expected reasons.Rows other refused header rows is =
    let there = header_in-IsHeader bytes size (expected_alone expected expected.number) header is.head in
    let P : Option Header → Type 0 = λ o. IsSomeAnd o (λ x. IsTrue (has_due_seqs expected x)) in
    let head : IsObjectHeader bytes size expected header = record {
      head = is.head.head;
      has_size = is.head.has_size;
      uuid = is.head.uuid;
      number = is.head.number;
      seqs = subst P there (refused.earlier reasons.Seqs (omega arith));
      limits = is.head.limits;
      widths = is.head.widths;
    } in
    refused.failed (
      header,
      rows,
      record {
        head = head;
        whole_front = is.whole_front;
        rows_are = is.rows_are;
        row_bytes = is.row_bytes;
        zeros = is.zeros;
      },
    )

-- what is refused by itself is none
pub refused_none : (bytes : List ℕ) (size : ℕ) (expected : Expected) (reason : reason_type.BadObject)
    → IsObjectRefusedAs bytes size (expected_alone expected expected.number) reason → IsEndOf bytes size expected None
refused_none bytes size expected reason refused header rows is =
    refused_is_none bytes size (expected_alone expected expected.number) reason refused header rows is

-- ---- what the reads say of it

-- what is refused after its header was read is none
pub front_refused : (receipt : ReceiptState) (expected : Expected) (bytes : List ℕ) (header : Header) (number : ℕ)
    (reason : reason_type.BadObject)
    → IsReadHeader receipt expected bytes header → IsWhyNotRead receipt expected (errors.BadObject number reason)
    → IsReadOf receipt expected (read.Bad reason None)
front_refused receipt expected bytes header number reason is why = (why.1, of_told receipt.told is.first why.1)
  where
    of_told : (told : Option (List ℕ)) → AreFirstOf told bytes
        → IfSome told (λ all. IsObjectRefusedAs all receipt.size expected reason)
        → IfSome told (λ all. IsEndOf all receipt.size expected None)
    of_told None first refused = tt
    of_told (Some all) first refused =
        let head = header_of_all all bytes first receipt.size expected header is.header_is in
        refused_alone all receipt.size expected reason
        (λ same. refused.failed (subst (PassesObjectTest all receipt.size expected) (sym same)
        (header_passes all receipt.size expected header reasons.Seqs (omega arith) head))) refused

pub other_reason : (receipt : ReceiptState) (expected : Expected) (reason : reason_type.BadObject) → (reason ≡ reasons.Seqs → ⊥)
    → IsToldRefused receipt expected reason → IsToldEnd receipt expected None
other_reason receipt expected reason other refused = of_told receipt.told refused
  where
    of_told : (told : Option (List ℕ)) → IfSome told (λ all. IsObjectRefusedAs all receipt.size expected reason)
        → IfSome told (λ all. IsEndOf all receipt.size expected None)
    of_told None refused = tt
    of_told (Some all) refused = refused_alone all receipt.size expected reason other refused

pub head_read : (receipt : ReceiptState) (bytes others : List ℕ) → bytes ≡ others → HasHead receipt bytes → HasHead receipt others
head_read receipt bytes others same head = subst (HasHead receipt) same head

-- where the first bytes have no header, it is none
pub headless : (receipt : ReceiptState) (expected : Expected) (bytes : List ℕ) → HasHead receipt bytes
    → IfSome receipt.told (λ told. receipt.size ≡ length told)
    → ((header : Header) → IsObjectHeader bytes receipt.size (expected_alone expected expected.number) header → ⊥)
    → IsToldEnd receipt expected None
headless receipt expected bytes head whole none = of_told receipt.told head.first whole
  where
    of_told : (told : Option (List ℕ)) → AreFirstOf told bytes → IfSome told (λ all. receipt.size ≡ length all)
        → IfSome told (λ all. IsEndOf all receipt.size expected None)
    of_told None first whole = tt
    of_told (Some all) first whole = λ header rows is.
        none header (moved_header all bytes receipt.size (expected_alone expected expected.number) header
        (sym (same_head all bytes receipt.size head.count first whole)) is.head)

-- what is read by itself
pub end_alone : (receipt : ReceiptState) (expected : Expected) (rows : Rows) (end : ℕ)
    → IsReadOf receipt (expected_alone expected expected.number) (read.Whole rows end) → IsToldEnd receipt expected (Some end)
end_alone receipt expected rows end is = of_told receipt.told is.1.told
  where
    of_told : (told : Option (List ℕ)) → IfSome told
        (λ all. IsObject all receipt.size (expected_alone expected expected.number) is.0 rows)
        → IfSome told (λ all. IsEndOf all receipt.size expected (Some end))
    of_told None object = tt
    of_told (Some all) object = (is.0, rows, object, is.2)

pub bad_alone : (receipt : ReceiptState) (expected : Expected) (reason : reason_type.BadObject) (end : Option ℕ)
    → IsReadOf receipt (expected_alone expected expected.number) (read.Bad reason end) → IsToldEnd receipt expected None
bad_alone receipt expected reason end is = of_told receipt.told is.0
  where
    of_told : (told : Option (List ℕ)) → IfSome told
        (λ all. IsObjectRefusedAs all receipt.size (expected_alone expected expected.number) reason)
        → IfSome told (λ all. IsEndOf all receipt.size expected None)
    of_told None refused = tt
    of_told (Some all) refused = refused_none all receipt.size expected reason refused

-- ---- with the rows of a checkpoint

-- the end is that of the header, with or without such rows
end_in_header : (bytes : List ℕ) (expected : Expected) (end : ℕ) → EndsAt bytes expected end
    → (header : Header) × IsObjectHeader bytes (length bytes) expected header × (header.end_seq ≡ end)
end_in_header bytes expected end ends =
    elim ends [
      | inl object ↦ (object.0, object.2.head, object.3)
      | inr checkpoint ↦ (checkpoint_header expected end (length checkpoint.0), checkpoint.1.head, refl)
    ]

-- so bytes have one end
pub one_end_of : (bytes : List ℕ) (expected : Expected) (a b : Option ℕ) → HaveEnd bytes expected a → HaveEnd bytes expected b
    → a ≡ b
one_end_of bytes expected None None is_a is_b = refl
one_end_of bytes expected None (Some b) is_a is_b = absurd (is_a b is_b)
one_end_of bytes expected (Some a) None is_a is_b = absurd (is_b a is_a)
one_end_of bytes expected (Some a) (Some b) is_a is_b =
    let in_a = end_in_header bytes expected a is_a in
    let in_b = end_in_header bytes expected b is_b in
    let same = same_header bytes (length bytes) expected in_a.0 in_b.0 in_a.1 in_b.1 in
    ap Some (sym in_a.2 ∙ ap (λ (h : Header). h.end_seq) same ∙ in_b.2)

-- the end of bytes that are no checkpoint is that of an object without such rows
end_of_other : (bytes : List ℕ) (expected : Expected) (end : Option ℕ)
    → ((e : ℕ) (rows : List (Extent StoredPlace)) → IsCheckpoint bytes (expected_alone expected expected.number) e rows → ⊥)
    → IsEndOf bytes (length bytes) expected end → HaveEnd bytes (expected_alone expected expected.number) end
end_of_other bytes expected None none is = λ end ends.
    elim ends [
      | inl object ↦ is object.0 object.1 object.2
      | inr checkpoint ↦ none end checkpoint.0 checkpoint.1
    ]
end_of_other bytes expected (Some end) none is = inl is

module _ (volume : Expected) (objects : Objects) where
  -- so is that of an object past the newest checkpoint
  pub end_past : (base number : ℕ) (bytes : List ℕ) (before end : Option ℕ) → IsNewest volume objects base → base < number
      → found objects (object_name volume number) ≡ Some bytes
      → IsEndOf bytes (length bytes) (record volume { number = number; end_before = before }) end
      → HasEnd volume objects number end
  end_past base number bytes before end newest past there is =
      let expected : Expected = record volume { number = number; end_before = before } in
      record {
        bytes = bytes;
        present = there;
        is_end =
            end_of_other bytes expected end
            (λ e rows checkpoint.
            let low = newest number e (owned_by rows)
            (record { bytes = bytes; present = there; rows = rows; is_checkpoint = checkpoint; says = λ k. refl }) in
            omega (arith, low, past)) is;
      }

  pub one_end_at : (number : ℕ) (a b : Option ℕ) → HasEnd volume objects number a → HasEnd volume objects number b → a ≡ b
  one_end_at number a b has_a has_b =
      let same : has_b.bytes ≡ has_a.bytes = let e = has_a.present in let f = has_b.present in cc in
      let there = subst (λ bytes. HaveEnd bytes (expected_alone volume number) b) same has_b.is_end in
      one_end_of has_a.bytes (expected_alone volume number) a b has_a.is_end there

  pub one_end_before : (last number : ℕ) (a b : Option ℕ) → IsEndBefore volume objects last number a
      → IsEndBefore volume objects last number b → a ≡ b
  one_end_before last number a b is_a is_b =
      elim (cases_lt last number) [
        | inl past ↦ is_a.unknown past ∙ sym (is_b.unknown past)
        | inr to ↦ one_end_at (number - 1) a b (is_a.known to) (is_b.known to)
      ]

  -- the end of an object is that before the next one
  pub before_next : (number last : ℕ) (end : Option ℕ) → number + 1 ≤ last → HasEnd volume objects number end
      → IsEndBefore volume objects last (number + 1) end
  before_next number last end to has = record {
    known = λ _. let at : number ≡ number + 1 - 1 = omega arith in subst (λ n. HasEnd volume objects n end) at has;
    unknown = λ past. absurd (omega (arith, past, to));
  }

  pub before_past : (last number : ℕ) → last < number → IsEndBefore volume objects last number None
  before_past last number past = record { known = λ to. absurd (omega (arith, past, to)); unknown = λ _. refl }

  -- no object is good and bad
  pub good_or_bad : (last number : ℕ) (reason : reason_type.BadObject) → IsGoodObject volume objects last number
      → IsBadObject volume objects last number reason → ⊥
  good_or_bad last number reason good bad =
      let same : bad.bytes ≡ good.bytes = let e = good.present in let f = bad.present in cc in
      let end = one_end_before last number good.end_before bad.end_before good.is_before bad.is_before in
      let expected : Option ℕ → Expected = λ e. record volume { number = number; end_before = e } in
      let is = good.holds in
      let moved = subst (λ e. IsObject good.bytes (length good.bytes) (expected e) is.0 is.1) end is.2 in
      refused_is_none good.bytes (length good.bytes) (expected bad.end_before) reason
      (subst (λ bytes. IsObjectRefusedAs bytes (length bytes) (expected bad.end_before) reason) same bad.holds) is.0 is.1 moved

-- ---- a checkpoint without rows

-- the header of an object without rows is that of a checkpoint
checkpoint_header_is : (expected : Expected) (header : Header) → kinds.Checkpoint ≡ header.kind → header.uuid ≡ expected.uuid
    → header.number ≡ expected.number → header.first_seq ≡ header.end_seq → 0 ≡ header.rows → header.payload ≡ 0
    → header ≡ checkpoint_header expected header.end_seq 0
checkpoint_header_is expected header kind uuid number seqs rows payload =
    let Of : Kind → List ℕ → ℕ → ℕ → ℕ → ℕ → Header = λ k u n first count size.
    record { kind = k; uuid = u; number = n; first_seq = first; end_seq = header.end_seq; rows = count; payload = size } in
    ap (λ k. Of k header.uuid header.number header.first_seq header.rows header.payload) (sym kind)
    ∙ (ap (λ u. Of kinds.Checkpoint u header.number header.first_seq header.rows header.payload) uuid
    ∙ (ap (λ n. Of kinds.Checkpoint expected.uuid n header.first_seq header.rows header.payload) number
    ∙ (ap (λ n. Of kinds.Checkpoint expected.uuid expected.number n header.rows header.payload) seqs
    ∙ (ap (λ n. Of kinds.Checkpoint expected.uuid expected.number header.end_seq n header.payload) (sym rows)
    ∙ ap (λ n. Of kinds.Checkpoint expected.uuid expected.number header.end_seq 0 n) payload))))

checkpoint_seqs : (header : Header) (after : Bool) → kinds.Checkpoint ≡ header.kind
    → IsTrue (has_seqs_of_kind header header.kind && after) → header.first_seq ≡ header.end_seq
checkpoint_seqs header after kind is =
    let of_kind : IsTrue (has_seqs_of_kind header kinds.Checkpoint) =
    subst (λ k. IsTrue (has_seqs_of_kind header k)) (sym kind)
    (and_parts (has_seqs_of_kind header header.kind) after is).0 in
    grind (arith, nat_tests)

-- none is past the newest checkpoint
pub none_past : (volume : Expected) (objects : Objects) (base number : ℕ) (bytes : List ℕ) (before : Option ℕ) (header : Header)
    → IsNewest volume objects base → base < number → found objects (object_name volume number) ≡ Some bytes
    → IsObject bytes (length bytes) (record volume { number = number; end_before = before }) header rows_of.Checkpoint → ⊥
none_past volume objects base number bytes before header newest past there is =
    let expected : Expected = record volume { number = number; end_before = before } in
    let alone = expected_alone volume number in
    let object = alone_object bytes (length bytes) expected header rows_of.Checkpoint is in
    let kind = is.rows_are.kind in
    let seqs = checkpoint_seqs header (begins_at header.first_seq before) kind is.head.seqs in
    let same = checkpoint_header_is alone header kind is.head.uuid is.head.number seqs is.rows_are.count
    (grind (arith, nat_tests, is.rows_are.spelling)) in
    let whole = subst (λ h. IsObject bytes (length bytes) alone h rows_of.Checkpoint) same object in
    let low = newest number header.end_seq (owned_by [])
    (record {
      bytes = bytes;
      present = there;
      rows = [];
      is_checkpoint = (is_object_without_rows bytes alone header.end_seq).1 whole;
      says = λ k. refl;
    }) in
    omega (arith, low, past)
