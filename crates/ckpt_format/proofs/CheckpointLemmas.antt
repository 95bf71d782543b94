-- Checkpoints, and what is read of them.
use Rattle.std.proofs.Common.{◌≡◌, ℕ, suc, ◌+◌, ◌-◌, ◌*◌, ◌<◌, ◌≤◌, IsTrue, None, List, [], ◌∷◌, ◌++◌, length, take, drop}
use Rattle.std.proofs.Common.{replicate, refl, sym, ◌∙◌, ap, subst, append_assoc, arith}
use Rattle.std.proofs.lemmas.Bool.{and_parts, eqb-true}
use Rattle.std.proofs.lemmas.List.{length-replicate, length-drop, drop_at, drop-drop, take-append-drop}
use Rattle.std.proofs.Math.Seq.{take-add}
use Rattle.extent_map.specs.declared.extent.Extent.{Extent}
use Rattle.object_format.specs.declared.kind.Kind.{Kind}
use Rattle.object_format.specs.declared.kind.Kind.TheVariants.{Checkpoint}
use Rattle.object_format.specs.declared.header.Header.{Header}
use Rattle.object_format.specs.declared.expected.Expected.{Expected}
use Rattle.object_format.specs.declared.reason.BadObject.{BadObject}
use Rattle.object_format.specs.declared.reason.BadObject.TheVariants as reasons
use Rattle.object_format.specs.Layout.{padding, length_of}
use Rattle.object_format.specs.Header.{header_bytes, header_in, has_seqs_of_kind, begins_at, IsObjectHeader}
use Rattle.object_format.specs.Rows.{rows_in}
use Rattle.object_format.specs.Laws.{last_of}
use Rattle.object_format.specs.Tests.{code_of, PassesObjectTest, IsObjectRefusedAs}
use Rattle.object_format.proofs.PartLemmas.{IsBytes, bytes_of_rest}
use Rattle.object_format.proofs.HeaderLemmas.{length-header_bytes}
use Rattle.object_format.proofs.RowLemmas.{length-rows_in}
use Rattle.object_format.proofs.TestLemmas.{header_in-IsHeader, header_passes}
use Rattle.std.specs.Prelude.{Option, Some}
use Rattle.ckpt_format.specs.declared.place.StoredPlace.{StoredPlace}
use Rattle.ckpt_format.specs.Rows.{row_in, rows_bytes, HasRowWidths, MayComeAfter, AreCheckpointRows}
use Rattle.ckpt_format.specs.Checkpoint.{checkpoint_header, IsCheckpoint}
use Rattle.ckpt_format.specs.Reading.{PassesCheckpointTest, IsCheckpointRefusedAs, IsBegun, GivesRow, IsAtEnd}
use Rattle.ckpt_format.specs.Fields.{rows_at, EndsInZeros, HasCheckpointForm, reading_at, IsCursor}
use Rattle.ckpt_format.proofs.RowLemmas.{length-rows_bytes, rows_in_more, rows_in_both, rows_again, bytes_again}
use Rattle.ckpt_format.proofs.SpellingLemmas.{all_widths, rows_more, row_at, last_of_more}

-- ---- the header

-- the first 64 bytes have one header, whatever is expected of it
pub header_of_both : (bytes : List ℕ) (size : ℕ) (expected another : Expected) (a b : Header)
    → IsObjectHeader bytes size expected a → IsObjectHeader bytes size another b → a ≡ b
header_of_both bytes size expected another a b is_a is_b =
    let e : header_in (take 64 bytes) ≡ Some a = header_in-IsHeader bytes size expected a is_a in
    let f : header_in (take 64 bytes) ≡ Some b = header_in-IsHeader bytes size another b is_b in
    cc

abbrev header_of : Kind → List ℕ → (number first_seq end_seq rows payload : ℕ) → Header
header_of kind uuid number first_seq end_seq rows payload = record {
  kind = kind;
  uuid = uuid;
  number = number;
  first_seq = first_seq;
  end_seq = end_seq;
  rows = rows;
  payload = payload;
}

-- that of an object which is a checkpoint and has no payload is that of the expected checkpoint
pub header_is : (bytes : List ℕ) (size : ℕ) (expected : Expected) (header : Header) → IsObjectHeader bytes size expected header
    → header.kind ≡ Checkpoint → header.payload ≡ 0 → header ≡ checkpoint_header expected header.end_seq header.rows
header_is bytes size expected header is kind none =
    let end = header.end_seq in
    let rows = header.rows in
    let seqs = and_parts (has_seqs_of_kind header header.kind) (begins_at header.first_seq expected.end_before) is.seqs in
    let P : Kind → Type 0 = λ k. IsTrue (has_seqs_of_kind header k) in
    let same : header.first_seq ≡ end = eqb-true _ _ (subst P kind seqs.0) in
    ap (λ x. header_of x header.uuid header.number header.first_seq end rows header.payload) kind
    ∙ ap (λ x. header_of Checkpoint x header.number header.first_seq end rows header.payload) is.uuid
    ∙ ap (λ x. header_of Checkpoint expected.uuid x header.first_seq end rows header.payload) is.number
    ∙ ap (λ x. header_of Checkpoint expected.uuid expected.number x end rows header.payload) same
    ∙ ap (λ x. header_of Checkpoint expected.uuid expected.number end end rows x) none

-- ---- the parts of a checkpoint

apart : (a b c : List ℕ) → a ++ b ++ c ≡ a ++ (b ++ c)
apart a b c = append_assoc a b c

-- what stands after the header
pub after_header : (bytes : List ℕ) (expected : Expected) (end_seq : ℕ) (rows : List (Extent StoredPlace))
    → IsCheckpoint bytes expected end_seq rows
    → drop 64 bytes ≡ rows_bytes rows ++ replicate (padding (checkpoint_header expected end_seq (length rows))) 0
after_header bytes expected end_seq rows is =
    let header = checkpoint_header expected end_seq (length rows) in
    let zeros : List ℕ = replicate (padding header) 0 in
    ap (drop 64) (is.whole ∙ apart (header_bytes header) (rows_bytes rows) zeros)
    ∙ drop_at (header_bytes header) (rows_bytes rows ++ zeros) 64 (length-header_bytes header is.head.widths.uuid)

-- the rows that are read in it
pub rows_of_checkpoint : (bytes : List ℕ) (expected : Expected) (end_seq : ℕ) (rows : List (Extent StoredPlace))
    → IsCheckpoint bytes expected end_seq rows → rows_at 0 (length rows) bytes ≡ rows
rows_of_checkpoint bytes expected end_seq rows is =
    ap (rows_in 36 row_in (length rows)) (after_header bytes expected end_seq rows is)
    ∙ rows_again rows (replicate (padding (checkpoint_header expected end_seq (length rows))) 0)
    (all_widths expected rows is.rows_are.all_stand)

pub zeros_of_checkpoint : (bytes : List ℕ) (expected : Expected) (end_seq : ℕ) (rows : List (Extent StoredPlace))
    → IsCheckpoint bytes expected end_seq rows → EndsInZeros (length rows) bytes
zeros_of_checkpoint bytes expected end_seq rows is =
    let count = padding (checkpoint_header expected end_seq (length rows)) in
    let zeros : List ℕ = replicate count 0 in
    let part : drop (64 + 36 * length rows) bytes ≡ zeros =
    sym (drop-drop (36 * length rows) 64 bytes)
    ∙ ap (drop (36 * length rows)) (after_header bytes expected end_seq rows is)
    ∙ drop_at (rows_bytes rows) zeros (36 * length rows) (length-rows_bytes rows) in
    part ∙ ap (λ n. replicate n 0) (sym (ap length part ∙ length-replicate count 0))

-- ---- what was read is a checkpoint

-- a front, a part after it, and what is left are all of a list
pub joined : (bytes front : List ℕ) (at count : ℕ) → take at bytes ≡ front
    → bytes ≡ front ++ take count (drop at bytes) ++ drop (at + count) bytes
joined bytes front at count is =
    sym (take-append-drop (at + count) bytes)
    ∙ ap (λ xs. xs ++ drop (at + count) bytes) (take-add at count bytes)
    ∙ ap (λ xs. xs ++ take count (drop at bytes) ++ drop (at + count) bytes) is

pub is_checkpoint : (bytes : List ℕ) (expected : Expected) (end_seq count : ℕ) → IsBytes bytes
    → IsObjectHeader bytes (length bytes) expected (checkpoint_header expected end_seq count)
    → EndsInZeros count bytes → AreCheckpointRows expected (rows_at 0 count bytes)
    → IsCheckpoint bytes expected end_seq (rows_at 0 count bytes)
is_checkpoint bytes expected end_seq count fits head zeros spelling =
    let rows = rows_at 0 count bytes in
    let header = checkpoint_header expected end_seq count in
    let many : length rows ≡ count = length-rows_in 36 row_in count (drop 64 bytes) in
    let size : length bytes ≡ length_of header = head.has_size in
    let part : rows_bytes rows ≡ take (36 * count) (drop 64 bytes) =
    bytes_again count (drop 64 bytes) (omega (arith, length-drop 64 bytes, size)) (bytes_of_rest 64 bytes fits) in
    let left : length (drop (64 + 36 * count) bytes) ≡ padding header =
    omega (arith, length-drop (64 + 36 * count) bytes, size) in
    let whole : bytes ≡ header_bytes header ++ rows_bytes rows ++ replicate (padding header) 0 =
    joined bytes (header_bytes header) 64 (36 * count) head.head
    ∙ ap (λ xs. header_bytes header ++ xs ++ drop (64 + 36 * count) bytes) (sym part)
    ∙ ap (λ xs. header_bytes header ++ rows_bytes rows ++ xs) (zeros ∙ ap (λ n. replicate n 0) left) in
    let H : ℕ → Type 0 = λ n. IsObjectHeader bytes (length bytes) expected (checkpoint_header expected end_seq n) in
    let W : ℕ → Type 0 = λ n. bytes ≡ header_bytes (checkpoint_header expected end_seq n) ++ rows_bytes rows
    ++ replicate (padding (checkpoint_header expected end_seq n)) 0 in
    record { head = subst H (sym many) head; rows_are = spelling; whole = subst W (sym many) whole }

-- ---- why bytes are none

as_checkpoint_test : (bytes : List ℕ) (expected : Expected) (reason : BadObject) → code_of reason < 8
    → PassesObjectTest bytes (length bytes) expected reason → PassesCheckpointTest bytes expected reason
as_checkpoint_test bytes expected reasons.Length below passes = passes
as_checkpoint_test bytes expected reasons.Magic below passes = passes
as_checkpoint_test bytes expected reasons.Kind below passes = passes
as_checkpoint_test bytes expected reasons.Uuid below passes = passes
as_checkpoint_test bytes expected reasons.Number below passes = passes
as_checkpoint_test bytes expected reasons.Seqs below passes = passes
as_checkpoint_test bytes expected reasons.Counts below passes = passes
as_checkpoint_test bytes expected reasons.Rows below passes = absurd (omega (arith, below))

at_most_8 : (reason : BadObject) → code_of reason ≤ 8
at_most_8 reasons.Length = omega arith
at_most_8 reasons.Magic = omega arith
at_most_8 reasons.Kind = omega arith
at_most_8 reasons.Uuid = omega arith
at_most_8 reasons.Number = omega arith
at_most_8 reasons.Seqs = omega arith
at_most_8 reasons.Counts = omega arith
at_most_8 reasons.Rows = omega arith

pub refused_as_header : (bytes : List ℕ) (expected : Expected) (reason : BadObject)
    → IsObjectRefusedAs bytes (length bytes) expected reason
    → ((header : Header) → IsObjectHeader bytes (length bytes) expected header → ⊥)
    → IsCheckpointRefusedAs bytes expected reason
refused_as_header bytes expected reason refused none = record {
  earlier = λ other below.
      as_checkpoint_test bytes expected other (omega (arith, below, at_most_8 reason)) (refused.earlier other below);
  failed = fails reason refused.failed;
}
  where
    fails : (why : BadObject) → (PassesObjectTest bytes (length bytes) expected why → ⊥)
        → PassesCheckpointTest bytes expected why → ⊥
    fails reasons.Length failed passes = failed passes
    fails reasons.Magic failed passes = failed passes
    fails reasons.Kind failed passes = failed passes
    fails reasons.Uuid failed passes = failed passes
    fails reasons.Number failed passes = failed passes
    fails reasons.Seqs failed passes = failed passes
    fails reasons.Counts failed passes = failed passes
    fails reasons.Rows failed passes = none _ passes.2.head

pub refused_as_rows : (bytes : List ℕ) (expected : Expected) (header : Header)
    → IsObjectHeader bytes (length bytes) expected header
    → ((end_seq : ℕ) (rows : List (Extent StoredPlace)) → IsCheckpoint bytes expected end_seq rows → ⊥)
    → IsCheckpointRefusedAs bytes expected reasons.Rows
refused_as_rows bytes expected header head none = record {
  earlier = λ other below.
      as_checkpoint_test bytes expected other below (header_passes bytes (length bytes) expected header other below head);
  failed = λ passes. none passes.0 passes.1 passes.2;
}

-- an object that is a checkpoint has the form of one
pub has_form : (bytes : List ℕ) (expected : Expected) (header : Header) (end_seq : ℕ) (rows : List (Extent StoredPlace))
    → IsObjectHeader bytes (length bytes) expected header → IsCheckpoint bytes expected end_seq rows
    → HasCheckpointForm bytes header
has_form bytes expected header end_seq rows head is =
    let other = checkpoint_header expected end_seq (length rows) in
    let same : header ≡ other = header_of_both bytes (length bytes) expected expected header other head is.head in
    let Z : ℕ → Type 0 = λ n. EndsInZeros n bytes in
    record {
      kind = ap (λ (h : Header). h.kind) same;
      none = ap (λ (h : Header). h.payload) same;
      zeros = subst Z (sym (ap (λ (h : Header). h.rows) same)) (zeros_of_checkpoint bytes expected end_seq rows is);
    }

-- ---- a cursor

-- the rows of a checkpoint with a header of this end and count
pub rows_by_header : (bytes : List ℕ) (expected : Expected) (end_too count end_seq : ℕ) (rows : List (Extent StoredPlace))
    → IsObjectHeader bytes (length bytes) expected (checkpoint_header expected end_too count)
    → IsCheckpoint bytes expected end_seq rows → (end_seq ≡ end_too) × (rows ≡ rows_at 0 count bytes)
rows_by_header bytes expected end_too count end_seq rows head is =
    let mine = checkpoint_header expected end_too count in
    let other = checkpoint_header expected end_seq (length rows) in
    let same : other ≡ mine = header_of_both bytes (length bytes) expected expected other mine is.head head in (
      ap (λ (h : Header). h.end_seq) same,
      sym (rows_of_checkpoint bytes expected end_seq rows is)
          ∙ ap (λ n. rows_at 0 n bytes) (ap (λ (h : Header). h.rows) same),
    )

pub begins : (bytes : List ℕ) (expected : Expected) (header : Header) → IsBytes bytes
    → IsObjectHeader bytes (length bytes) expected header → HasCheckpointForm bytes header
    → IsCursor bytes expected header.end_seq header.rows 0 None
begins bytes expected header fits head form =
    let H : Header → Type 0 = λ h. IsObjectHeader bytes (length bytes) expected h in
    record {
      are_bytes = fits;
      head = subst H (header_is bytes (length bytes) expected header head form.kind form.none) head;
      zeros = form.zeros;
      within = omega arith;
      last = refl;
      spelling = record { shortest = tt; all_stand = tt };
    }

pub is_begun : (bytes : List ℕ) (expected : Expected) (header : Header)
    → IsCursor bytes expected header.end_seq header.rows 0 None
    → IsBegun bytes expected (reading_at bytes expected header.end_seq header.rows 0)
is_begun bytes expected header is = record {
  object = refl;
  expected = refl;
  given = refl;
  rest = λ end_seq rows checkpoint.
      let found = rows_by_header bytes expected header.end_seq header.rows end_seq rows is.head checkpoint in
      let all : header.rows ≡ header.rows - 0 = omega arith in
      (found.0, found.1 ∙ ap (λ n. rows_at 0 n bytes) all);
}

-- the row that comes next
abbrev pub next_in : ℕ → List ℕ → Extent StoredPlace
next_in given bytes = row_in (drop (64 + 36 * given) bytes)

rest_begins : (given count : ℕ) (bytes : List ℕ) → given < count
    → rows_at given (count - given) bytes ≡ next_in given bytes ∷ rows_at (given + 1) (count - (given + 1)) bytes
rest_begins given count bytes below =
    let more : count - given ≡ suc (count - (given + 1)) = omega arith in
    let rest : drop 36 (drop (64 + 36 * given) bytes) ≡ drop (64 + 36 * (given + 1)) bytes =
    drop-drop 36 (64 + 36 * given) bytes ∙ ap (λ n. drop n bytes) (omega arith) in
    ap (λ n. rows_at given n bytes) more
    ∙ ap (λ xs. next_in given bytes ∷ rows_in 36 row_in (count - (given + 1)) xs) rest

given_more : (given : ℕ) (bytes : List ℕ) → rows_at 0 (given + 1) bytes ≡ rows_at 0 given bytes ++ next_in given bytes ∷ []
given_more given bytes =
    let next : suc given ≡ given + 1 = omega arith in
    let rest : drop (36 * given) (drop 64 bytes) ≡ drop (64 + 36 * given) bytes = drop-drop (36 * given) 64 bytes in
    ap (λ n. rows_at 0 n bytes) (sym next)
    ∙ rows_in_more given (drop 64 bytes)
    ∙ ap (λ xs. rows_at 0 given bytes ++ row_in xs ∷ []) rest

-- ---- a step of a cursor

pub spelling_more : (bytes : List ℕ) (expected : Expected) (end_seq count given : ℕ) (before : Option (Extent StoredPlace))
    (row : Extent StoredPlace)
    → IsCursor bytes expected end_seq count given before → row ≡ next_in given bytes → HasRowWidths row
    → MayComeAfter expected before row → AreCheckpointRows expected (rows_at 0 given bytes ++ row ∷ [])
spelling_more bytes expected end_seq count given before row is read fits may =
    let P : Option (Extent StoredPlace) → Type 0 = λ b. MayComeAfter expected b row in
    rows_more expected (rows_at 0 given bytes) row is.spelling (subst P is.last may) fits

given_row : (given : ℕ) (bytes : List ℕ) (row : Extent StoredPlace) → row ≡ next_in given bytes
    → rows_at 0 (given + 1) bytes ≡ rows_at 0 given bytes ++ row ∷ []
given_row given bytes row read = given_more given bytes ∙ ap (λ x. rows_at 0 given bytes ++ x ∷ []) (sym read)

pub cursor_more : (bytes : List ℕ) (expected : Expected) (end_seq count given : ℕ) (before : Option (Extent StoredPlace))
    (row : Extent StoredPlace)
    → IsCursor bytes expected end_seq count given before → given < count → row ≡ next_in given bytes → HasRowWidths row
    → MayComeAfter expected before row → IsCursor bytes expected end_seq count (given + 1) (Some row)
cursor_more bytes expected end_seq count given before row is below read fits may =
    let rows = given_row given bytes row read in
    let S : List (Extent StoredPlace) → Type 0 = AreCheckpointRows expected in
    record {
      are_bytes = is.are_bytes;
      head = is.head;
      zeros = is.zeros;
      within = omega (arith, below);
      last = sym (ap (last_of None) rows ∙ last_of_more None (rows_at 0 given bytes) row);
      spelling = subst S (sym rows) (spelling_more bytes expected end_seq count given before row is read fits may);
    }

pub gives_row : (bytes : List ℕ) (expected : Expected) (end_seq count given : ℕ) (before : Option (Extent StoredPlace))
    (row : Extent StoredPlace)
    → IsCursor bytes expected end_seq count given before → given < count → row ≡ next_in given bytes → HasRowWidths row
    → MayComeAfter expected before row
    → GivesRow row (reading_at bytes expected end_seq count given) (reading_at bytes expected end_seq count (given + 1))
gives_row bytes expected end_seq count given before row is below read fits may =
    let old = reading_at bytes expected end_seq count given in
    let rest = rows_at (given + 1) (count - (given + 1)) bytes in
    record {
      first = rest_begins given count bytes below ∙ ap (λ x. x ∷ rest) (sym read);
      after = ap (λ xs. record old { given = xs; rest = rest }) (given_row given bytes row read);
      spelling = spelling_more bytes expected end_seq count given before row is read fits may;
    }

pub at_end : (bytes : List ℕ) (expected : Expected) (end_seq count given : ℕ) (before : Option (Extent StoredPlace))
    → IsCursor bytes expected end_seq count given before → given ≡ count
    → IsAtEnd (reading_at bytes expected end_seq count given) (reading_at bytes expected end_seq count given)
at_end bytes expected end_seq count given before is all =
    let none : count - given ≡ 0 = omega (arith, all) in
    let S : ℕ → Type 0 = λ n. AreCheckpointRows expected (rows_at 0 n bytes) in
    let C : ℕ → Type 0 = λ n. IsCheckpoint bytes expected end_seq (rows_at 0 n bytes) in
    record {
      none = ap (λ n. rows_at given n bytes) none;
      unchanged = refl;
      is_checkpoint = subst C (sym all)
          (is_checkpoint bytes expected end_seq count is.are_bytes is.head is.zeros (subst S all is.spelling));
    }

all_rows : (given count : ℕ) (bytes : List ℕ) → given < count
    → rows_at 0 count bytes
    ≡ rows_at 0 given bytes ++ next_in given bytes ∷ rows_at (given + 1) (count - (given + 1)) bytes
all_rows given count bytes below =
    let whole : count ≡ given + (count - given) = omega (arith, below) in
    let rest : drop (36 * given) (drop 64 bytes) ≡ drop (64 + 36 * given) bytes = drop-drop (36 * given) 64 bytes in
    ap (λ n. rows_at 0 n bytes) whole
    ∙ rows_in_both given (count - given) (drop 64 bytes)
    ∙ ap (λ xs. rows_at 0 given bytes ++ rows_in 36 row_in (count - given) xs) rest
    ∙ ap (λ xs. rows_at 0 given bytes ++ xs) (rest_begins given count bytes below)

pub refuses_row : (bytes : List ℕ) (expected : Expected) (end_seq count given : ℕ) (before : Option (Extent StoredPlace))
    (row : Extent StoredPlace)
    → IsCursor bytes expected end_seq count given before → given < count → row ≡ next_in given bytes
    → (MayComeAfter expected before row → ⊥) → IsCheckpointRefusedAs bytes expected reasons.Rows
refuses_row bytes expected end_seq count given before row is below read may_not =
    refused_as_rows bytes expected (checkpoint_header expected end_seq count) is.head no_rows
  where
    no_rows : (end_too : ℕ) (rows : List (Extent StoredPlace)) → IsCheckpoint bytes expected end_too rows → ⊥
    no_rows end_too rows checkpoint =
        let front = rows_at 0 given bytes in
        let rest = rows_at (given + 1) (count - (given + 1)) bytes in
        let found = (rows_by_header bytes expected end_seq count end_too rows is.head checkpoint).1 in
        let parts : rows ≡ front ++ row ∷ rest = found ∙ all_rows given count bytes below
        ∙ ap (λ x. front ++ x ∷ rest) (sym read) in
        let S : List (Extent StoredPlace) → Type 0 = AreCheckpointRows expected in
        let P : Option (Extent StoredPlace) → Type 0 = λ b. MayComeAfter expected b row in
        may_not (subst P (sym is.last) (row_at expected front row rest (subst S parts checkpoint.rows_are)))
