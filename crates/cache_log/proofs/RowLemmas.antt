-- The row at a place of a log, and the rows from there on.
use Rattle.std.proofs.Common.{◌≡◌, ℕ, ◌+◌, ◌-◌, ◌*◌, ◌/◌, ◌^◌, ◌<◌, ◌≤◌, ◌==◌, true, IsTrue, List, [], ◌∷◌, ◌++◌, length, take}
use Rattle.std.proofs.Common.{drop, map, refl, sym, ◌∙◌, ap, subst, inl, inr, arith, append-nil}
use Rattle.std.specs.List.{AllByRecursion}
use Rattle.std.proofs.lemmas.Bool.{cases_lt}
use Rattle.std.proofs.lemmas.Bool.Decides.{nat_tests}
use Rattle.std.proofs.lemmas.List.{length-take-le, length-drop, drop-drop}
use Rattle.std.proofs.Math.Seq.{take-add}
use Rattle.lsvd_base.specs.declared.entry.Entry.{Entry}
use Rattle.lsvd_base.specs.declared.geometry.Geometry.{Geometry}
use Rattle.lsvd_base.specs.Limits.{is_within_limits, may_transfer}
use Rattle.lsvd_base.specs.Range.{is_in_range as is_entry_in_range}
use Rattle.cache_log.specs.Rows.{byte_of, log_sectors, seq_of, position_of, record_size, entry_of, StandsFrom, sectors_taken}
use Rattle.cache_log.specs.Rows.{next, AreNumbered, Follow, end_of_rows, HaveRecords}
use Rattle.cache_log.specs.Opening.{is_row_in_range, AreRowsInRange, AreRecordsInRange, sectors_between, after_pad, IsRefusedAt}
use Rattle.cache_log.specs.Laws.{HaveOneList, AreReadAgain}
use Rattle.cache_log.specs.Headers.{IsPad, IsBadHeader, IsBadRow, head_of_row, HasRow, FitsFrom}
use Rattle.cache_log.specs.Invariant.{IsFurther}
use Rattle.log_record.specs.declared.head.Head.{Head}
use Rattle.log_record.specs.declared.head.Head.TheVariants as heads
use Rattle.log_record.specs.declared.head.Place.{Place}
use Rattle.log_record.specs.declared.reason.Reason.{Reason}
use Rattle.log_record.specs.Grammar.{is_in_range, fits, size_of as head_size, head_of, IsHeader, IsHeaderOf, IsRecordOf}
use Rattle.log_record.specs.Tests.{IsRefusedAs}
use Rattle.lsvd_device.specs.Medium.{Medium}
use Rattle.lsvd_device.specs.Device.{HoldsNow}
use Rattle.std.specs.Prelude.{Result, Ok, Err, IfErr}
use Rattle.cache_log.specs.declared.error.OpenError.{OpenError}
use Rattle.cache_log.specs.declared.error.OpenError.TheVariants as open_errors
use Rattle.log_record.proofs.ForCallers.{is_record_of_parts, parts_of_record, determines_head, refused_is_no_header}
use Rattle.commit_body.specs.declared.body.CommitBody.{CommitBody}
use Rattle.commit_body.specs.Body.{MayStand}
use Rattle.cache_log.specs.declared.row.Row.{Row}
use Rattle.cache_log.specs.declared.row.Row.TheVariants.{Write, Zero}
use Rattle.cache_log.proofs.Places.{some_size, taken_here, taken_round, step_of}

-- ---- from the tail to the head

pub between_most : (log : ℕ) (body : CommitBody) → MayStand body log → sectors_between log body ≤ log
between_most log body may = (let a = may.tail_inside in let b = may.head_inside in grind (arith, nat_tests))

pub between_further : (log : ℕ) (body : CommitBody) → MayStand body log
    → IsFurther log body.tail.position (sectors_between log body) body.head.position
between_further log body may =
    let a = may.tail_inside in
    let b = may.head_inside in
    elim (cases_lt body.tail.seq body.head.seq) [
      | inl less ↦ elim (cases_lt body.tail.position body.head.position) [
        | inl ahead ↦ inl (let e : sectors_between log body ≡ body.head.position - body.tail.position =
            grind (arith, nat_tests) in omega (arith, e, ahead))
        | inr round ↦ inr (let e : sectors_between log body ≡ log - body.tail.position + body.head.position =
            grind (arith, nat_tests) in omega (arith, e, a))
      ]
      | inr end ↦
          let same : body.tail.seq ≡ body.head.seq = (let o = may.in_order in omega (arith, end, o)) in
          inl (let e : sectors_between log body ≡ 0 = grind (arith, nat_tests, same) in let p = may.one_place same in
          omega (arith, e, p))
    ]

pub between_none : (log : ℕ) (body : CommitBody) → body.tail.seq ≡ body.head.seq → sectors_between log body ≡ 0
between_none log body same = grind (arith, nat_tests, same)

-- rows take the log as far as the sector after them
pub record IsRun (log from used : ℕ) (rows : List Row) : Type 0 where
  pub inside : end_of_rows log from rows < log
  pub further : IsFurther log from used (end_of_rows log from rows)
  pub some : 1 ≤ length rows → 1 ≤ used
  pub none : length rows ≡ 0 → used ≡ 0

further_both : (log from a b middle end : ℕ) → from < log → a + b ≤ log → end < log → IsFurther log from a middle
    → IsFurther log middle b end → IsFurther log from (a + b) end
further_both log from a b middle end inside most to (inl x) (inl y) = inl (omega (arith, x, y))
further_both log from a b middle end inside most to (inl x) (inr y) = inr (omega (arith, x, y))
further_both log from a b middle end inside most to (inr x) (inl y) = inr (omega (arith, x, y))
further_both log from a b middle end inside most to (inr x) (inr y) = absurd (omega (arith, x, y, inside, most, to))

pub run_of : (rows : List Row) (log from used : ℕ) → from < log → used ≤ log → Follow log from used rows
    → IsRun log from used rows
run_of [] log from used inside most none =
    record { inside = inside; further = inl (omega (arith, none)); some = λ some. absurd (omega (arith, some)); none = λ _. none }
run_of (row ∷ rows) log from used inside most (stands, enough, more) =
    let step = step_of log from row inside (omega (arith, enough, most)) stands in
    let rest = run_of rows log (next log row) (used - sectors_taken log from row) step.inside (omega (arith, most)) more in
    let sum : sectors_taken log from row + (used - sectors_taken log from row) ≡ used = omega (arith, enough) in
    record {
      inside = rest.inside;
      further = (let P : ℕ → Type 0 = λ u. IsFurther log from u (end_of_rows log (next log row) rows) in
          subst P sum (further_both log from (sectors_taken log from row) (used - sectors_taken log from row) (next log row)
          (end_of_rows log (next log row) rows) inside (omega (arith, sum, most)) rest.inside step.further rest.further));
      some = λ _. (let s = step.some in omega (arith, s, enough));
      none = λ none. absurd (omega (arith, none));
    }

-- records up to the head take the sectors up to it
pub used_is : (log : ℕ) (body : CommitBody) (rows : List Row) (used : ℕ) → MayStand body log → used ≤ log
    → Follow log body.tail.position used rows
    → end_of_rows log body.tail.position rows ≡ body.head.position → body.tail.seq + length rows ≡ body.head.seq
    → used ≡ sectors_between log body
used_is log body rows used may most follow end seqs =
    let run = run_of rows log body.tail.position used may.tail_inside most follow in
    let P : ℕ → Type 0 = λ h. IsFurther log body.tail.position used h in
    let further : IsFurther log body.tail.position used body.head.position = subst P end run.further in
    let a = may.tail_inside in
    let b = may.head_inside in
    elim (cases_lt body.tail.seq body.head.seq) [
      | inl less ↦
          let some : 1 ≤ used = run.some (omega (arith, seqs, less)) in
          elim (cases_lt body.tail.position body.head.position) [
            | inl ahead ↦
                let e : sectors_between log body ≡ body.head.position - body.tail.position = grind (arith, nat_tests) in
                elim further [ inl f ↦ omega (arith, e, f, ahead) | inr f ↦ absurd (omega (arith, f, ahead, most)) ]
            | inr round ↦
                let e : sectors_between log body ≡ log - body.tail.position + body.head.position = grind (arith, nat_tests) in
                elim further [ inl f ↦ absurd (omega (arith, f, round, some)) | inr f ↦ omega (arith, e, f, a) ]
          ]
      | inr end ↦
          let o = may.in_order in
          let same : body.tail.seq ≡ body.head.seq = omega (arith, end, o) in
          run.none (omega (arith, seqs, same)) ∙ sym (between_none log body same)
    ]

-- ---- a record and its header

-- a part of some sectors
pub sectors_part : (at n : ℕ) (bytes : List ℕ) → log_sectors at (1 + n) bytes ≡ log_sectors at 1 bytes ++ log_sectors
    (at + 1) n bytes
sectors_part at n bytes =
    let count : 512 * (1 + n) ≡ 512 + 512 * n = omega arith in
    let place : 512 + byte_of at ≡ byte_of (at + 1) = omega arith in
    ap (λ k. take k (drop (byte_of at) bytes)) count
    ∙ take-add 512 (512 * n) (drop (byte_of at) bytes)
    ∙ ap (λ xs. take 512 (drop (byte_of at) bytes) ++ take (512 * n) xs) (drop-drop 512 (byte_of at) bytes
    ∙ ap (λ k. drop k bytes) (omega (arith, place)))

pub sectors_count : (at n : ℕ) (bytes : List ℕ) → byte_of (at + n) ≤ length bytes → length (log_sectors at n bytes) ≡ 512 * n
sectors_count at n bytes fits = length-take-le (512 * n) (drop (byte_of at) bytes) (let e = length-drop (byte_of at) bytes in
    omega (arith, e, fits))

-- the header of a row's entry
entry_head : (row : Row) (bytes : List ℕ) → byte_of (position_of row + record_size row) ≤ length bytes
    → head_of (entry_of bytes row) ≡ head_of_row row
entry_head (Write own at lba n) bytes fits =
    let many : length (log_sectors (at + 1) n bytes) ≡ 512 * n = sectors_count (at + 1) n bytes (omega (arith, fits)) in
    ap (heads.Write lba) (omega (arith, many))
entry_head (Zero own at lba n) bytes fits = refl

-- the record of a row stands exactly where its header does
pub record_stands : (row : Row) (seq : ℕ) (bytes : List ℕ) → byte_of (position_of row + record_size row) ≤ length bytes
    → IsHeaderOf (head_of_row row) seq (log_sectors (position_of row) 1 bytes)
    → IsRecordOf (entry_of bytes row) seq (log_sectors (position_of row) (record_size row) bytes)
record_stands (Write own at lba n) seq bytes fits header =
    let same = entry_head (Write own at lba n) bytes fits in
    let entry : Entry = entry_of bytes (Write own at lba n) in
    let says : IsHeaderOf (head_of entry) seq (log_sectors at 1 bytes) =
    subst (λ h. IsHeaderOf h seq (log_sectors at 1 bytes)) (sym same) header in
    subst (IsRecordOf entry seq) (sym (sectors_part at n bytes)) (is_record_of_parts entry seq (log_sectors at 1 bytes)
    (log_sectors (at + 1) n bytes) says refl)
record_stands (Zero own at lba n) seq bytes fits header =
    let entry : Entry = entry_of bytes (Zero own at lba n) in
    subst (IsRecordOf entry seq) (append-nil (log_sectors at 1 bytes)) (is_record_of_parts entry seq (log_sectors at 1 bytes) []
    header refl)

header_stands : (row : Row) (seq : ℕ) (bytes : List ℕ) → byte_of (position_of row + record_size row) ≤ length bytes
    → IsRecordOf (entry_of bytes row) seq (log_sectors (position_of row) (record_size row) bytes)
    → IsHeaderOf (head_of_row row) seq (log_sectors (position_of row) 1 bytes)
header_stands (Write own at lba n) seq bytes fits stands =
    let many : length (log_sectors at 1 bytes) ≡ 512 = sectors_count at 1 bytes (omega (arith, fits)) in
    let entry : Entry = entry_of bytes (Write own at lba n) in
    let parts = parts_of_record entry seq (log_sectors at 1 bytes) (log_sectors (at + 1) n bytes) many
    (subst (IsRecordOf entry seq) (sectors_part at n bytes) stands) in
    subst (λ h. IsHeaderOf h seq (log_sectors at 1 bytes)) (entry_head (Write own at lba n) bytes fits) parts.0
header_stands (Zero own at lba n) seq bytes fits stands =
    let many : length (log_sectors at 1 bytes) ≡ 512 = sectors_count at 1 bytes fits in
    let entry : Entry = entry_of bytes (Zero own at lba n) in
    (parts_of_record entry seq (log_sectors at 1 bytes) [] many
    (subst (IsRecordOf entry seq) (sym (append-nil (log_sectors at 1 bytes))) stands)).0

-- ---- which row stands at a place

row_is : (row other : Row) → seq_of row ≡ seq_of other → position_of row ≡ position_of other → head_of_row row ≡ head_of_row other
    → row ≡ other
row_is (Write own at lba n) (Write own' at' lba' n') numbered here same = cc
row_is (Write own at lba n) (Zero own' at' lba' n') numbered here same = absurd (cc)
row_is (Zero own at lba n) (Write own' at' lba' n') numbered here same = absurd (cc)
row_is (Zero own at lba n) (Zero own' at' lba' n') numbered here same = cc

no_pad : (row : Row) (n : ℕ) → head_of_row row ≡ heads.Pad n → ⊥
no_pad (Write own at lba m) n same = cc
no_pad (Zero own at lba m) n same = cc

-- one row at most stands at a place
pub same_row : (geometry : Geometry) (place : Place) (seq : ℕ) (bytes : List ℕ) (row other : Row)
    → IsTrue (is_within_limits geometry) → HasRow geometry place seq bytes row → HasRow geometry place seq bytes other
    → row ≡ other
same_row geometry place seq bytes row other limits (an, inl a) (bn, inl b) =
    row_is row other (an ∙ sym bn) (a.0 ∙ sym b.0) (determines_head (log_sectors place.position 1 bytes) seq geometry place
    (head_of_row row) (head_of_row other) limits a.1 b.1)
same_row geometry place seq bytes row other limits (an, inl a) (bn, inr b) =
    absurd (no_pad row _ (determines_head (log_sectors place.position 1 bytes) seq geometry place (head_of_row row)
    (heads.Pad (geometry.log - place.position - 1)) limits a.1 b.1))
same_row geometry place seq bytes row other limits (an, inr a) (bn, inl b) =
    absurd (no_pad other _ (determines_head (log_sectors place.position 1 bytes) seq geometry place (head_of_row other)
    (heads.Pad (geometry.log - place.position - 1)) limits b.1 a.1))
same_row geometry place seq bytes row other limits (an, inr a) (bn, inr b) =
    row_is row other (an ∙ sym bn) (a.0 ∙ sym b.0) (determines_head (log_sectors 0 1 bytes) seq geometry
    (after_pad geometry.log place) (head_of_row row) (head_of_row other) limits a.2 b.2)

-- none does where it is refused
pub refused_none : (geometry : Geometry) (place : Place) (seq : ℕ) (bytes : List ℕ) (reason : Reason) (row : Row)
    → IsTrue (is_within_limits geometry) → seq < 2 ^ 64
    → IsRefusedAt geometry place seq bytes reason → HasRow geometry place seq bytes row → ⊥
refused_none geometry place seq bytes reason row limits small (inl refused) (numbered, inl is) =
    refused_is_no_header (log_sectors place.position 1 bytes) seq geometry place reason (head_of_row row) small limits
    refused is.1
refused_none geometry place seq bytes reason row limits small (inl refused) (numbered, inr is) =
    refused_is_no_header (log_sectors place.position 1 bytes) seq geometry place reason
    (heads.Pad (geometry.log - place.position - 1)) small limits refused is.1
refused_none geometry place seq bytes reason row limits small (inr refused) (numbered, inl is) =
    no_pad row _ (determines_head (log_sectors place.position 1 bytes) seq geometry place (head_of_row row)
    (heads.Pad (geometry.log - place.position - 1)) limits is.1 refused.0)
refused_none geometry place seq bytes reason row limits small (inr refused) (numbered, inr is) =
    refused_is_no_header (log_sectors 0 1 bytes) seq geometry (after_pad geometry.log place) reason (head_of_row row) small limits
    refused.1 is.2

-- ---- what a header says of its row

head_size_is : (row : Row) → head_size (head_of_row row) ≡ record_size row
head_size_is (Write own at lba n) = refl
head_size_is (Zero own at lba n) = refl

in_range_is : (geometry : Geometry) (position : ℕ) (row : Row) → is_in_range geometry position (head_of_row row)
    ≡ is_row_in_range geometry row
in_range_is geometry position (Write own at lba n) = refl
in_range_is geometry position (Zero own at lba n) = refl

-- what `fits` says of a row
pub record FitsAt (geometry : Geometry) (place : Place) (size : ℕ) : Type 0 where
  pub inside : place.position + size ≤ geometry.log
  pub within : size ≤ place.to_head
  pub ends : place.is_last ≡ true → size ≡ place.to_head

pub fits_at : (geometry : Geometry) (place : Place) (row : Row) → IsTrue (fits geometry place (head_of_row row))
    → FitsAt geometry place (record_size row)
fits_at geometry place (Write own at lba n) is = record {
  inside = grind (arith, nat_tests);
  within = grind (arith, nat_tests);
  ends = λ last. grind (arith, nat_tests);
}
fits_at geometry place (Zero own at lba n) is = record {
  inside = grind (arith, nat_tests);
  within = grind (arith, nat_tests);
  ends = λ last. grind (arith, nat_tests);
}

pub fits_if : (geometry : Geometry) (place : Place) (row : Row) → FitsAt geometry place (record_size row)
    → IsTrue (fits geometry place (head_of_row row))
fits_if geometry place (Write own at lba n) is = (let a = is.inside in let b = is.within in let c = is.ends in
    grind (arith, nat_tests))
fits_if geometry place (Zero own at lba n) is = (let a = is.inside in let b = is.within in let c = is.ends in
    grind (arith, nat_tests))

-- a row at a place
pub fits_here : (geometry : Geometry) (place : Place) (seq : ℕ) (row : Row) → seq_of row ≡ seq → position_of row ≡ place.position
    → IsTrue (is_in_range geometry place.position (head_of_row row)) → IsTrue (fits geometry place (head_of_row row))
    → FitsFrom geometry place seq row
fits_here geometry place seq row numbered here in_range fit =
    let is = fits_at geometry place row fit in
    let takes = taken_here geometry.log place.position row here in
    record {
      numbered = numbered;
      stands = inl (here, is.inside);
      within = (let w = is.within in omega (arith, takes, w));
      ends = λ last. takes ∙ is.ends last;
      in_range = subst IsTrue (in_range_is geometry place.position row) in_range;
    }

-- a pad at a place
pub pad_is : (geometry : Geometry) (place : Place) (n : ℕ) → IsTrue (is_in_range geometry place.position (heads.Pad n))
    → IsTrue (fits geometry place (heads.Pad n))
    → (n ≡ geometry.log - place.position - 1) × (geometry.log - place.position ≤ place.to_head)
pad_is geometry place n in_range fit =
    let sum : n + 1 + place.position ≡ geometry.log = grind (arith, nat_tests) in
    let some : 1 + n ≤ place.to_head = grind (arith, nat_tests) in
    (omega (arith, sum), omega (arith, sum, some))

-- a row after a pad at a place
pub fits_round : (geometry : Geometry) (place : Place) (seq : ℕ) (row : Row) → seq_of row ≡ seq → place.position < geometry.log
    → place.to_head ≤ geometry.log → geometry.log - place.position ≤ place.to_head → position_of row ≡ 0
    → IsTrue (is_in_range geometry 0 (head_of_row row)) → IsTrue (fits geometry (after_pad geometry.log place) (head_of_row row))
    → FitsFrom geometry place seq row
fits_round geometry place seq row numbered inside most part here in_range fit =
    let is = fits_at geometry (after_pad geometry.log place) row fit in
    let w = is.within in
    let i = is.inside in
    let some = some_size row in
    let ahead : 0 < place.position = omega (arith, w, some, most) in
    let takes = taken_round geometry.log place.position row (omega (arith, here, ahead)) in
    record {
      numbered = numbered;
      stands = inr (here, ahead, omega (arith, i));
      within = omega (arith, takes, w, part);
      ends = λ last. (let e = is.ends last in omega (arith, takes, e, part));
      in_range = subst IsTrue (in_range_is geometry 0 row) in_range;
    }

-- the log's end is not past the head where a pad stands
pub pad_before_head : (geometry : Geometry) (place : Place) (head : Head) → IsPad head
    → IsTrue (is_in_range geometry place.position head) → IsTrue (fits geometry place head)
    → geometry.log - place.position ≤ place.to_head
pad_before_head geometry place (heads.Write lba n) pad in_range fit = absurd pad
pad_before_head geometry place (heads.Zero lba n) pad in_range fit = absurd pad
pad_before_head geometry place (heads.Pad n) pad in_range fit = (pad_is geometry place n in_range fit).1

-- a pad before a row does not stand at the log's beginning
pub pad_ahead : (geometry : Geometry) (place : Place) (row : Row) → place.to_head ≤ geometry.log
    → geometry.log - place.position ≤ place.to_head → position_of row ≡ 0
    → IsTrue (fits geometry (after_pad geometry.log place) (head_of_row row)) → position_of row < place.position
pad_ahead geometry place row most part here fit =
    let is = fits_at geometry (after_pad geometry.log place) row fit in
    let w = is.within in
    let some = some_size row in
    omega (arith, w, some, most, here)

-- no pad stands after a pad
pub no_second_pad : (geometry : Geometry) (place : Place) (n : ℕ) → place.position < geometry.log → place.to_head ≤ geometry.log
    → IsTrue (is_in_range geometry 0 (heads.Pad n))
    → IsTrue (fits geometry (after_pad geometry.log place) (heads.Pad n)) → ⊥
no_second_pad geometry place n inside most in_range fit =
    let sum : n + 1 + 0 ≡ geometry.log = grind (arith, nat_tests) in
    let some : 1 + n ≤ place.to_head - (geometry.log - place.position) = grind (arith, nat_tests) in
    omega (arith, sum, some, inside, most)

-- the header after a pad is refused, or that of a row
pad_header : (geometry : Geometry) (place : Place) (seq : ℕ) (head : Head) (bytes : List ℕ) → IsPad head
    → IsTrue (is_in_range geometry place.position head) → IsTrue (fits geometry place head)
    → IsHeader (log_sectors place.position 1 bytes) seq geometry place head
    → IsHeader (log_sectors place.position 1 bytes) seq geometry place (heads.Pad (geometry.log - place.position - 1))
pad_header geometry place seq (heads.Write lba n) bytes pad in_range fit is = absurd pad
pad_header geometry place seq (heads.Zero lba n) bytes pad in_range fit is = absurd pad
pad_header geometry place seq (heads.Pad n) bytes pad in_range fit is =
    subst (λ k. IsHeader (log_sectors place.position 1 bytes) seq geometry place (heads.Pad k))
    (pad_is geometry place n in_range fit).0 is

refused_after : (geometry : Geometry) (place : Place) (seq : ℕ) (head : Head) (reason : Reason) (moments : List Medium)
    → IsPad head → IsTrue (is_in_range geometry place.position head) → IsTrue (fits geometry place head)
    → HoldsNow (λ now. IsHeader (log_sectors place.position 1 now.bytes) seq geometry place head) moments
    → HoldsNow (λ now. IsRefusedAs (log_sectors 0 1 now.bytes) seq geometry (after_pad geometry.log place) reason) moments
    → HoldsNow (λ now. IsRefusedAt geometry place seq now.bytes reason) moments
refused_after geometry place seq head reason [] pad in_range fit is refused = tt
refused_after geometry place seq head reason (now ∷ past) pad in_range fit is refused =
    inr (pad_header geometry place seq head now.bytes pad in_range fit is, refused)

pub bad_after_pad : {T : Type 0} (r : Result T OpenError) (geometry : Geometry) (place : Place) (seq : ℕ) (head : Head)
    (moments : List Medium) → IsPad head → IsTrue (is_in_range geometry place.position head)
    → IsTrue (fits geometry place head) → HoldsNow (λ now. IsHeader (log_sectors place.position 1 now.bytes) seq geometry place
    head) moments
    → IfErr r (λ e. IsBadHeader geometry (after_pad geometry.log place) seq moments e)
    → IfErr r (λ e. IsBadRow geometry place seq moments e)
bad_after_pad (Ok x) geometry place seq head moments pad in_range fit is bad = tt
bad_after_pad (Err (open_errors.BadRecord n reason)) geometry place seq head moments pad in_range fit is bad =
    (bad.0, refused_after geometry place seq head reason moments pad in_range fit is bad.1)
bad_after_pad (Err open_errors.DeviceFault) geometry place seq head moments pad in_range fit is bad = tt
bad_after_pad (Err open_errors.OutOfMemory) geometry place seq head moments pad in_range fit is bad = tt

-- the first header is refused
refused_first : (geometry : Geometry) (place : Place) (seq : ℕ) (reason : Reason) (moments : List Medium)
    → HoldsNow (λ now. IsRefusedAs (log_sectors place.position 1 now.bytes) seq geometry place reason) moments
    → HoldsNow (λ now. IsRefusedAt geometry place seq now.bytes reason) moments
refused_first geometry place seq reason [] refused = tt
refused_first geometry place seq reason (now ∷ past) refused = inl refused

pub bad_first : {T : Type 0} (r : Result T OpenError) (geometry : Geometry) (place : Place) (seq : ℕ) (moments : List Medium)
    → IfErr r (λ e. IsBadHeader geometry place seq moments e) → IfErr r (λ e. IsBadRow geometry place seq moments e)
bad_first (Ok x) geometry place seq moments bad = tt
bad_first (Err (open_errors.BadRecord n reason)) geometry place seq moments bad =
    (bad.0, refused_first geometry place seq reason moments bad.1)
bad_first (Err open_errors.DeviceFault) geometry place seq moments bad = tt
bad_first (Err open_errors.OutOfMemory) geometry place seq moments bad = tt

-- the first header is that of a row, or that of a pad, and the row's is the next
pub row_here : (geometry : Geometry) (place : Place) (seq : ℕ) (head : Head) (row : Row) (moments : List Medium)
    → seq_of row ≡ seq → position_of row ≡ place.position → head_of_row row ≡ head
    → HoldsNow (λ now. IsHeader (log_sectors place.position 1 now.bytes) seq geometry place head) moments
    → HoldsNow (λ now. HasRow geometry place seq now.bytes row) moments
row_here geometry place seq head row [] numbered here says header = tt
row_here geometry place seq head row (now ∷ past) numbered here says header = (
  numbered,
  inl (here, subst (IsHeader (log_sectors place.position 1 now.bytes) seq geometry place) (sym says) header),
)

pub row_after_pad : (geometry : Geometry) (place : Place) (seq : ℕ) (head next_head : Head) (row : Row) (moments : List Medium)
    → IsPad head → IsTrue (is_in_range geometry place.position head)
    → IsTrue (fits geometry place head) → HoldsNow (λ now. IsHeader (log_sectors place.position 1 now.bytes) seq geometry place
    head) moments → seq_of row ≡ seq → position_of row ≡ 0 → head_of_row row ≡ next_head
    → HoldsNow (λ now. IsHeader (log_sectors 0 1 now.bytes) seq geometry (after_pad geometry.log place) next_head) moments
    → HoldsNow (λ now. HasRow geometry place seq now.bytes row) moments
row_after_pad geometry place seq head next_head row [] pad in_range fit is numbered here says header = tt
row_after_pad geometry place seq head next_head row (now ∷ past) pad in_range fit is numbered here says header = (
  numbered,
  inr (
    here,
    pad_header geometry place seq head now.bytes pad in_range fit is,
    subst
        (IsHeader (log_sectors 0 1 now.bytes) seq geometry (after_pad geometry.log place)) (sym says) header,
  ),
)

-- ---- a row and the rest

-- the records from a place on up to the head's seq
pub record IsRest (geometry : Geometry) (end position to_head seq : ℕ) (rest : List Row) (bytes : List ℕ) : Type 0 where
  pub follow : Follow geometry.log position to_head rest
  pub numbered : AreNumbered seq rest
  pub seqs : seq + length rest ≡ end
  pub records : HaveRecords geometry.log position seq rest bytes
  pub in_range : AreRowsInRange geometry rest

abbrev pub place_of : (end position to_head seq : ℕ) → Place
place_of end position to_head seq = record { position = position; to_head = to_head; is_last = seq + 1 == end }

-- the last of the rest takes all that is left
last_takes : (log from used : ℕ) (row : Row) (rest : List Row) → Follow log from used (row ∷ rest) → length rest ≡ 0
    → sectors_taken log from row ≡ used
last_takes log from used row [] (stands, enough, none) empty = omega (arith, enough, none)
last_takes log from used row (other ∷ rest) follow empty = absurd (omega (arith, empty))

-- a row takes what `fits` allows
rest_takes : (geometry : Geometry) (end position to_head seq : ℕ) (row : Row) (rest : List Row) (bytes : List ℕ)
    → IsRest geometry end position to_head seq (row ∷ rest) bytes
    → (place_of end position to_head seq).is_last ≡ true → sectors_taken geometry.log position row ≡ to_head
rest_takes geometry end position to_head seq row rest bytes is last =
    let e = is.seqs in
    let at_end : seq + 1 ≡ end = grind (arith, nat_tests) in
    last_takes geometry.log position to_head row rest is.follow (omega (arith, e, at_end))

rest_has_in : (geometry : Geometry) (end position to_head seq : ℕ) (row : Row) (rest : List Row) (bytes : List ℕ)
    → position < geometry.log → to_head ≤ geometry.log → byte_of geometry.log ≤ length bytes
    → StandsFrom geometry.log position row → IsRest geometry end position to_head seq (row ∷ rest) bytes
    → HasRow geometry (place_of end position to_head seq) seq bytes row
rest_has_in geometry end position to_head seq row rest bytes inside most fits (inl here) is =
    let place : Place = place_of end position to_head seq in
    let takes = taken_here geometry.log position row here.0 in
    let w = is.follow.1 in
    let header = header_stands row seq bytes (omega (arith, here.0, here.1, fits)) is.records.1 in (
      is.numbered.0,
      inl (
        here.0,
        record {
          says = subst (λ p. IsHeaderOf (head_of_row row) seq (log_sectors p 1 bytes)) here.0 header;
          in_range = subst IsTrue (sym (in_range_is geometry position row)) is.in_range.0;
          fits = fits_if geometry place row (record {
            inside = here.1;
            within = omega (arith, takes, w);
            ends = λ last. sym takes ∙ rest_takes geometry end position to_head seq row rest bytes is last;
          });
        },
      ),
    )
rest_has_in geometry end position to_head seq row rest bytes inside most fits (inr round) is =
    let place : Place = place_of end position to_head seq in
    let less : position_of row < position = omega (arith, round.0, round.1) in
    let takes = taken_round geometry.log position row less in
    let w = is.follow.1 in
    let s = some_size row in
    let header = header_stands row seq bytes (omega (arith, round.0, round.2, fits)) is.records.1 in
    let n : ℕ = geometry.log - position - 1 in
    let sum : n + 1 + position ≡ geometry.log = omega (arith, inside) in (
      is.numbered.0,
      inr (
        round.0,
        record {
          says = is.records.0 less;
          in_range = grind (arith, nat_tests, sum);
          fits = (let a : position + (1 + n) ≤ geometry.log = omega (arith, sum) in let b : 1 + n ≤ to_head =
              omega (arith, sum, takes, w) in grind (arith, nat_tests, a, b));
        },
        record {
          says = subst (λ p. IsHeaderOf (head_of_row row) seq (log_sectors p 1 bytes)) round.0 header;
          in_range = subst IsTrue (sym (in_range_is geometry 0 row)) is.in_range.0;
          fits = fits_if geometry (after_pad geometry.log place) row (record {
            inside = omega (arith, round.2);
            within = omega (arith, takes, w);
            ends = λ last. (let e = rest_takes geometry end position to_head seq row rest bytes is last in
                omega (arith, takes, e));
          });
        },
      ),
    )

-- the header of the first of the rest stands there
pub rest_has : (geometry : Geometry) (end position to_head seq : ℕ) (row : Row) (rest : List Row) (bytes : List ℕ)
    → position < geometry.log → to_head ≤ geometry.log → byte_of geometry.log ≤ length bytes
    → IsRest geometry end position to_head seq (row ∷ rest) bytes
    → HasRow geometry (place_of end position to_head seq) seq bytes row
rest_has geometry end position to_head seq row rest bytes inside most fits is =
    rest_has_in geometry end position to_head seq row rest bytes inside most fits is.follow.0 is

pub rest_more : (geometry : Geometry) (end position to_head seq : ℕ) (row : Row) (rest : List Row) (bytes : List ℕ)
    → IsRest geometry end position to_head seq (row ∷ rest) bytes
    → IsRest geometry end (next geometry.log row) (to_head - sectors_taken geometry.log position row) (seq + 1) rest bytes
rest_more geometry end position to_head seq row rest bytes is = record {
  follow = is.follow.2;
  numbered = is.numbered.1;
  seqs = (let e = is.seqs in omega (arith, e));
  records = is.records.2;
  in_range = is.in_range.1;
}

-- ---- bytes have one list

one_rest : (geometry : Geometry) (end position to_head seq : ℕ) (rows others : List Row) (bytes : List ℕ)
    → IsTrue (is_within_limits geometry) → position < geometry.log → to_head ≤ geometry.log
    → byte_of geometry.log ≤ length bytes → IsRest geometry end position to_head seq rows bytes
    → IsRest geometry end position to_head seq others bytes → rows ≡ others
one_rest geometry end position to_head seq [] [] bytes limits inside most fits a b = refl
one_rest geometry end position to_head seq [] (other ∷ others) bytes limits inside most fits a b =
    absurd (let e = a.seqs in let f = b.seqs in omega (arith, e, f))
one_rest geometry end position to_head seq (row ∷ rows) [] bytes limits inside most fits a b =
    absurd (let e = a.seqs in let f = b.seqs in omega (arith, e, f))
one_rest geometry end position to_head seq (row ∷ rows) (other ∷ others) bytes limits inside most fits a b =
    let place : Place = place_of end position to_head seq in
    let same : row ≡ other = same_row geometry place seq bytes row other limits
    (rest_has geometry end position to_head seq row rows bytes inside most fits a)
    (rest_has geometry end position to_head seq other others bytes inside most fits b) in
    let P : Row → Type 0 = λ r. IsRest geometry end (next geometry.log r) (to_head - sectors_taken geometry.log position r)
    (seq + 1) others bytes in
    let step = step_of geometry.log position row inside (let w = a.follow.1 in omega (arith, w, most)) a.follow.0 in
    let more : rows ≡ others = one_rest geometry end (next geometry.log row) (to_head - sectors_taken geometry.log position row)
    (seq + 1) rows others bytes limits step.inside (omega (arith, most)) fits
    (rest_more geometry end position to_head seq row rows bytes a)
    (subst P (sym same) (rest_more geometry end position to_head seq other others bytes b)) in
    ap (λ r. r ∷ rows) same ∙ ap (λ xs. other ∷ xs) more

-- all that is read of a log is the rest from its tail on
pub all_rest : (geometry : Geometry) (body : CommitBody) (rows : List Row) (bytes : List ℕ) → MayStand body geometry.log
    → AreRecordsInRange geometry body rows bytes
    → IsRest geometry body.head.seq body.tail.position (sectors_between geometry.log body) body.tail.seq rows bytes
all_rest geometry body rows bytes may is =
    let r = is.records in
    let used = used_is geometry.log body rows r.used may r.most r.follow r.end r.seqs in
    record {
      follow = (let P : ℕ → Type 0 = λ u. Follow geometry.log body.tail.position u rows in subst P used r.follow);
      numbered = r.numbered;
      seqs = r.seqs;
      records = r.records;
      in_range = is.in_range;
    }

pub have_one_list : HaveOneList
have_one_list geometry body rows others bytes may a b =
    one_rest geometry body.head.seq body.tail.position (sectors_between geometry.log body) body.tail.seq rows others bytes
    may.limits may.may_stand.tail_inside
    (between_most geometry.log body may.may_stand) may.long (all_rest geometry body rows bytes may.may_stand a)
    (all_rest geometry body others bytes may.may_stand b)

-- ---- entries that a volume takes

-- the entry of a row is in range where the row is
pub entry_range : (geometry : Geometry) (row : Row) (bytes : List ℕ) → byte_of (position_of row + record_size row) ≤ length bytes
    → is_entry_in_range geometry (entry_of bytes row) ≡ is_row_in_range geometry row
entry_range geometry (Write own at lba n) bytes fits =
    let many : length (log_sectors (at + 1) n bytes) ≡ 512 * n = sectors_count (at + 1) n bytes (omega (arith, fits)) in
    let count : length (log_sectors (at + 1) n bytes) / 512 ≡ n = omega (arith, many) in
    ap (may_transfer geometry lba) count
entry_range geometry (Zero own at lba n) bytes fits = refl

-- rows are in range where their entries are
rows_range : (geometry : Geometry) (rows : List Row) (from used : ℕ) (bytes : List ℕ) → from < geometry.log → used ≤ geometry.log
    → byte_of geometry.log ≤ length bytes → Follow geometry.log from used rows
    → AllByRecursion (λ entry. IsTrue (is_entry_in_range geometry entry)) (map (entry_of bytes) rows)
    → AreRowsInRange geometry rows
rows_range geometry [] from used bytes inside most long follow all = tt
rows_range geometry (row ∷ rows) from used bytes inside most long (stands, enough, more) all =
    let step = step_of geometry.log from row inside (omega (arith, enough, most)) stands in
    let fits = step.fits in (
      subst IsTrue (entry_range geometry row bytes (omega (arith, fits, long))) all.0,
      rows_range geometry rows (next geometry.log row) (used - sectors_taken geometry.log from row) bytes step.inside
          (omega (arith, most)) long more all.1,
    )

-- and entries where their rows are
pub entries_range : (geometry : Geometry) (rows : List Row) (from used : ℕ) (bytes : List ℕ) → from < geometry.log
    → used ≤ geometry.log → byte_of geometry.log ≤ length bytes → Follow geometry.log from used rows
    → AreRowsInRange geometry rows → AllByRecursion (λ entry. IsTrue (is_entry_in_range geometry entry))
    (map (entry_of bytes) rows)
entries_range geometry [] from used bytes inside most long follow all = tt
entries_range geometry (row ∷ rows) from used bytes inside most long (stands, enough, more) all =
    let step = step_of geometry.log from row inside (omega (arith, enough, most)) stands in
    let fits = step.fits in (
      subst IsTrue (sym (entry_range geometry row bytes (omega (arith, fits, long)))) all.0,
      entries_range geometry rows (next geometry.log row) (used - sectors_taken geometry.log from row) bytes step.inside
          (omega (arith, most)) long more all.1,
    )

pub are_read_again : AreReadAgain
are_read_again geometry body list bytes may all has =
    let rows : List Row = has.0 in
    let are = has.1 in
    let listed = has.2 in
    let read : AreRecordsInRange geometry body rows bytes = record {
      records = are;
      in_range = rows_range geometry rows body.tail.position are.used bytes may.may_stand.tail_inside are.most may.long are.follow
          (subst (AllByRecursion (λ entry. IsTrue (is_entry_in_range geometry entry))) listed all);
    } in (
      (rows, read),
      λ others other. ap (map (entry_of bytes)) (have_one_list geometry body others rows bytes may other read)
          ∙ sym listed,
    )
