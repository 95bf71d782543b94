-- How far `read_rows` has read the records of a log.
use Rattle.std.proofs.Common.{◌≡◌, ℕ, ◌+◌, ◌-◌, ◌^◌, ◌<◌, ◌≤◌, ◌==◌, true, IsTrue, List, [], ◌∷◌, ◌++◌, length, refl, sym, ◌∙◌}
use Rattle.std.proofs.Common.{ap, subst, inl, inr, arith, length-append, append_assoc}
use Rattle.std.specs.Prelude.{Result, Ok, Err, IfErr}
use Rattle.std.specs.List.{AllByRecursion}
use Rattle.std.proofs.lemmas.Bool.Decides.{nat_tests}
use Rattle.lsvd_base.specs.declared.geometry.Geometry.{Geometry}
use Rattle.lsvd_base.specs.Limits.{is_within_limits}
use Rattle.lsvd_device.specs.Medium.{Medium}
use Rattle.lsvd_device.specs.Device.{HasSize, HoldsNow}
use Rattle.log_record.specs.declared.head.Place.{Place}
use Rattle.log_record.specs.declared.reason.Reason.{Reason}
use Rattle.log_record.specs.Grammar.{IsHeaderOf, IsRecordOf}
use Rattle.commit_body.specs.declared.body.CommitBody.{CommitBody}
use Rattle.commit_body.specs.Body.{MayStand}
use Rattle.cache_log.specs.declared.error.OpenError.{OpenError}
use Rattle.cache_log.specs.declared.error.OpenError.TheVariants as open_errors
use Rattle.cache_log.specs.declared.row.Row.{Row}
use Rattle.cache_log.specs.Rows.{byte_of, log_sectors, position_of, record_size, entry_of, sectors_taken, next, AreNumbered}
use Rattle.cache_log.specs.Rows.{Follow, end_of_rows, HasPad, HaveRecords}
use Rattle.cache_log.specs.Opening.{is_row_in_range, AreRowsInRange, AreRecordsInRange, sectors_between, IsRefusedAt, place_after}
use Rattle.cache_log.specs.Opening.{IsBadRecord, AreRowsOfLog, IsBadLog}
use Rattle.cache_log.specs.Headers.{head_of_row, HasRow, FitsFrom, IsBadRow}
use Rattle.cache_log.specs.Invariant.{IsFurther}
use Rattle.cache_log.proofs.Places.{step_of, follow_more, end_more}
use Rattle.cache_log.proofs.Records.{have_more}
use Rattle.cache_log.proofs.Slices.{numbered_more}
use Rattle.cache_log.proofs.RowLemmas.{between_most, between_further, between_none, run_of, IsRest, place_of, rest_has, rest_more}
use Rattle.cache_log.proofs.RowLemmas.{same_row, refused_none, all_rest, record_stands}

-- some rows from a commit's tail on, and where the next one would stand
pub record IsFar (geometry : Geometry) (body : CommitBody) (rows : List Row) (position to_head seq : ℕ) : Type 0 where
  pub used : ℕ
  pub follow : Follow geometry.log body.tail.position used rows
  pub sum : used + to_head ≡ sectors_between geometry.log body
  pub at_end : end_of_rows geometry.log body.tail.position rows ≡ position
  pub numbered : AreNumbered body.tail.seq rows
  pub next_seq : body.tail.seq + length rows ≡ seq
  pub in_range : AreRowsInRange geometry rows
  pub inside : position < geometry.log
  pub most : to_head ≤ geometry.log
  pub end : seq ≡ body.head.seq → to_head ≡ 0

-- bytes have these records, and all that is read of them begins so
pub record HasFar (geometry : Geometry) (body : CommitBody) (rows : List Row) (position to_head seq : ℕ) (bytes : List ℕ) :
    Type 0 where
  pub records : HaveRecords geometry.log body.tail.position body.tail.seq rows bytes
  pub only : (all : List Row) → AreRecordsInRange geometry body all bytes → (rest : List Row) × (all ≡ rows ++ rest)
      × IsRest geometry body.head.seq position to_head seq rest bytes

pub first_far : (geometry : Geometry) (body : CommitBody) → MayStand body geometry.log
    → IsFar geometry body [] body.tail.position (sectors_between geometry.log body) body.tail.seq
first_far geometry body may = record {
  used = 0;
  follow = refl;
  sum = omega arith;
  at_end = refl;
  numbered = tt;
  next_seq = omega arith;
  in_range = tt;
  inside = may.tail_inside;
  most = between_most geometry.log body may;
  end = between_none geometry.log body;
}

first_has : (geometry : Geometry) (body : CommitBody) (bytes : List ℕ) → MayStand body geometry.log
    → HasFar geometry body [] body.tail.position (sectors_between geometry.log body) body.tail.seq bytes
first_has geometry body bytes may = record {
  records = tt;
  only = λ all is. (all, refl, all_rest geometry body all bytes may is);
}

pub first_has_now : (geometry : Geometry) (body : CommitBody) (moments : List Medium) → MayStand body geometry.log
    → HoldsNow (λ now. HasFar geometry body [] body.tail.position (sectors_between geometry.log body) body.tail.seq now.bytes)
    moments
first_has_now geometry body [] may = tt
first_has_now geometry body (now ∷ past) may = first_has geometry body now.bytes may

-- ---- one row more

all_more : (P : Row → Type 0) (rows : List Row) (row : Row) → AllByRecursion P rows → P row → AllByRecursion P (rows ++ row ∷ [])
all_more P [] row all one = (one, tt)
all_more P (first ∷ rows) row all one = (all.0, all_more P rows row all.1 one)

-- the log's room up to a place of the rows
pub far_further : (geometry : Geometry) (body : CommitBody) (rows : List Row) (position to_head seq : ℕ)
    → MayStand body geometry.log → (far : IsFar geometry body rows position to_head seq)
    → (far.used ≤ geometry.log) × IsFurther geometry.log body.tail.position far.used position
far_further geometry body rows position to_head seq may far =
    let most : far.used ≤ geometry.log = (let e = between_most geometry.log body may in let s = far.sum in omega (arith, e, s)) in
    let run = run_of rows geometry.log body.tail.position far.used may.tail_inside most far.follow in
    (most, subst (IsFurther geometry.log body.tail.position far.used) far.at_end run.further)

pub next_far : (geometry : Geometry) (body : CommitBody) (rows : List Row) (position to_head seq : ℕ) (row : Row)
    → MayStand body geometry.log → IsFar geometry body rows position to_head seq
    → FitsFrom geometry (place_of body.head.seq position to_head seq) seq row
    → IsFar geometry body (rows ++ row ∷ []) (next geometry.log row) (to_head - sectors_taken geometry.log position row) (seq + 1)
next_far geometry body rows position to_head seq row may far fit =
    let log : ℕ = geometry.log in
    let n : ℕ = sectors_taken log position row in
    let w : n ≤ to_head = fit.within in
    let s = far.sum in
    let m = far.most in
    let q = far.next_seq in
    let room = far_further geometry body rows position to_head seq may far in
    let step = step_of log position row far.inside (omega (arith, w, m)) fit.stands in
    record {
      used = far.used + n;
      follow = follow_more rows row log body.tail.position far.used position may.tail_inside far.inside room.0 room.1 far.follow
          fit.stands;
      sum = omega (arith, s, w);
      at_end = end_more rows row log body.tail.position;
      numbered = numbered_more rows row body.tail.seq far.numbered (fit.numbered ∙ sym q);
      next_seq = (let e = length-append rows (row ∷ []) in omega (arith, e, q));
      in_range = all_more (λ r. IsTrue (is_row_in_range geometry r)) rows row far.in_range fit.in_range;
      inside = step.inside;
      most = omega (arith, m);
      end = λ last. (let is : (seq + 1 == body.head.seq) ≡ true = grind (arith, nat_tests, last) in let e = fit.ends is in
          omega (arith, e));
    }

-- where a row's header stands, its record does, and the pad before it
stands_pad : (geometry : Geometry) (place : Place) (seq : ℕ) (bytes : List ℕ) (row : Row) → HasRow geometry place seq bytes row
    → HasPad geometry.log place.position seq row bytes
stands_pad geometry place seq bytes row (numbered, inl is) less = absurd (omega (arith, is.0, less))
stands_pad geometry place seq bytes row (numbered, inr is) less = is.1.says

stands_header : (geometry : Geometry) (place : Place) (seq : ℕ) (bytes : List ℕ) (row : Row)
    → byte_of (position_of row + record_size row) ≤ length bytes → HasRow geometry place seq bytes row
    → IsRecordOf (entry_of bytes row) seq (log_sectors (position_of row) (record_size row) bytes)
stands_header geometry place seq bytes row fits (numbered, inl is) =
    record_stands row seq bytes fits (subst (λ p. IsHeaderOf (head_of_row row) seq (log_sectors p 1 bytes)) (sym is.0) is.1.says)
stands_header geometry place seq bytes row fits (numbered, inr is) =
    record_stands row seq bytes fits (subst (λ p. IsHeaderOf (head_of_row row) seq (log_sectors p 1 bytes)) (sym is.0) is.2.says)

-- what the rest begins with is this row
rest_is : (geometry : Geometry) (body : CommitBody) (rows all rest : List Row) (position to_head seq : ℕ) (row : Row)
    (bytes : List ℕ) → IsTrue (is_within_limits geometry) → seq < body.head.seq
    → position < geometry.log → to_head ≤ geometry.log → byte_of geometry.log ≤ length bytes
    → HasRow geometry (place_of body.head.seq position to_head seq) seq bytes row
    → all ≡ rows ++ rest → IsRest geometry body.head.seq position to_head seq rest bytes
    → (more : List Row) × (all ≡ (rows ++ row ∷ []) ++ more)
    × IsRest geometry body.head.seq (next geometry.log row) (to_head - sectors_taken geometry.log position row)
    (seq + 1) more bytes
rest_is geometry body rows all [] position to_head seq row bytes limits before inside most fits has is rest =
    absurd (let e = rest.seqs in omega (arith, e, before))
rest_is geometry body rows all (other ∷ more) position to_head seq row bytes limits before inside most fits has is rest =
    let place : Place = place_of body.head.seq position to_head seq in
    let same : other ≡ row = same_row geometry place seq bytes other row limits
    (rest_has geometry body.head.seq position to_head seq other more bytes inside most fits rest) has in
    let P : Row → Type 0 = λ r. IsRest geometry body.head.seq (next geometry.log r)
    (to_head - sectors_taken geometry.log position r) (seq + 1) more bytes in (
      more,
      is ∙ ap (λ r. rows ++ r ∷ more) same
          ∙ sym (append_assoc rows (row ∷ []) more),
      subst P same (rest_more geometry body.head.seq position to_head seq other
          more bytes rest),
    )

next_has : (geometry : Geometry) (body : CommitBody) (rows : List Row) (position to_head seq : ℕ) (row : Row) (bytes : List ℕ)
    → IsTrue (is_within_limits geometry) → byte_of geometry.log ≤ length bytes
    → seq < body.head.seq → IsFar geometry body rows position to_head seq
    → FitsFrom geometry (place_of body.head.seq position to_head seq) seq row
    → HasRow geometry (place_of body.head.seq position to_head seq) seq bytes row
    → HasFar geometry body rows position to_head seq bytes
    → HasFar geometry body (rows ++ row ∷ []) (next geometry.log row) (to_head - sectors_taken geometry.log position row)
    (seq + 1) bytes
next_has geometry body rows position to_head seq row bytes limits fits before far fit has so_far =
    let log : ℕ = geometry.log in
    let place : Place = place_of body.head.seq position to_head seq in
    let step = step_of log position row far.inside (let w = fit.within in let m = far.most in omega (arith, w, m)) fit.stands in
    let at : ℕ = body.tail.seq + length rows in
    let P : ℕ → Type 0 = λ n. HasPad log position n row bytes in
    let Q : ℕ → Type 0 = λ n. IsRecordOf (entry_of bytes row) n (log_sectors (position_of row) (record_size row) bytes) in
    let whole : byte_of (position_of row + record_size row) ≤ length bytes = (let f = step.fits in omega (arith, f, fits)) in
    record {
      records = have_more rows row log body.tail.position position body.tail.seq bytes far.at_end so_far.records
          (subst P (sym far.next_seq) (stands_pad geometry place seq bytes row has))
          (subst Q (sym far.next_seq) (stands_header geometry place seq bytes row whole has));
      only = λ all is.
          let rest = so_far.only all is in
          rest_is geometry body rows all rest.0 position to_head seq row bytes limits before far.inside far.most fits has
          rest.1 rest.2;
    }

pub next_has_now : (geometry : Geometry) (body : CommitBody) (rows : List Row) (position to_head seq size : ℕ) (row : Row)
    (moments : List Medium) → IsTrue (is_within_limits geometry) → byte_of geometry.log ≤ size
    → AllByRecursion (HasSize size) moments → seq < body.head.seq → IsFar geometry body rows position to_head seq
    → FitsFrom geometry (place_of body.head.seq position to_head seq) seq row
    → HoldsNow (λ now. HasRow geometry (place_of body.head.seq position to_head seq) seq now.bytes row) moments
    → HoldsNow (λ now. HasFar geometry body rows position to_head seq now.bytes) moments
    → HoldsNow (λ now. HasFar geometry body (rows ++ row ∷ []) (next geometry.log row)
    (to_head - sectors_taken geometry.log position row) (seq + 1) now.bytes) moments
next_has_now geometry body rows position to_head seq size row [] limits fits media before far fit has so_far = tt
next_has_now geometry body rows position to_head seq size row (now ∷ past) limits fits media before far fit has so_far =
    next_has geometry body rows position to_head seq row now.bytes limits (let e = media.0.bytes in omega (arith, e, fits)) before
    far fit has so_far

-- ---- the end

pub last_far : (geometry : Geometry) (body : CommitBody) (rows : List Row) (position to_head seq : ℕ) → MayStand body geometry.log
    → seq ≡ body.head.seq → IsFar geometry body rows position to_head seq
    → AreRowsOfLog geometry body rows
last_far geometry body rows position to_head seq may last far =
    let room = far_further geometry body rows position to_head seq may far in
    let none = far.end last in
    let s = far.sum in
    let all : far.used ≡ sectors_between geometry.log body = omega (arith, none, s) in
    let P : ℕ → Type 0 = λ u. IsFurther geometry.log body.tail.position u position in
    let Q : ℕ → Type 0 = λ u. Follow geometry.log body.tail.position u rows in
    record {
      follow = subst Q all far.follow;
      end = far.at_end ∙ same_end geometry.log body.tail.position (sectors_between geometry.log body) position body.head.position
          far.inside may.head_inside (subst P all room.1) (between_further geometry.log body may);
      numbered = far.numbered;
      seqs = far.next_seq ∙ last;
      in_range = far.in_range;
    }
  where
    same_end : (log from sectors to other : ℕ) → to < log → other < log → IsFurther log from sectors to
        → IsFurther log from sectors other → to ≡ other
    same_end log from sectors to other a b (inl x) (inl y) = omega (arith, x, y)
    same_end log from sectors to other a b (inl x) (inr y) = absurd (omega (arith, x, y, a))
    same_end log from sectors to other a b (inr x) (inl y) = absurd (omega (arith, x, y, b))
    same_end log from sectors to other a b (inr x) (inr y) = omega (arith, x, y)

-- the records up to the head
pub all_read : (geometry : Geometry) (body : CommitBody) (rows : List Row) (bytes : List ℕ) → MayStand body geometry.log
    → AreRowsOfLog geometry body rows
    → HaveRecords geometry.log body.tail.position body.tail.seq rows bytes → AreRecordsInRange geometry body rows bytes
all_read geometry body rows bytes may are have = record {
  records = record {
    used = sectors_between geometry.log body;
    most = between_most geometry.log body may;
    follow = are.follow;
    end = are.end;
    numbered = are.numbered;
    seqs = are.seqs;
    records = have;
  };
  in_range = are.in_range;
}

pub last_has_now : (geometry : Geometry) (body : CommitBody) (rows : List Row) (position to_head seq : ℕ) (moments : List Medium)
    → MayStand body geometry.log → AreRowsOfLog geometry body rows
    → HoldsNow (λ now. HasFar geometry body rows position to_head seq now.bytes) moments
    → HoldsNow (λ now. AreRecordsInRange geometry body rows now.bytes) moments
last_has_now geometry body rows position to_head seq [] may are has = tt
last_has_now geometry body rows position to_head seq (now ∷ past) may are has =
    all_read geometry body rows now.bytes may are has.records

-- ---- a bad record

-- where a row is refused there is no list
none_read : (geometry : Geometry) (body : CommitBody) (rows all rest : List Row) (position to_head seq : ℕ) (reason : Reason)
    (bytes : List ℕ) → IsTrue (is_within_limits geometry) → seq < body.head.seq → seq < 2 ^ 64
    → position < geometry.log → to_head ≤ geometry.log → byte_of geometry.log ≤ length bytes
    → IsRefusedAt geometry (place_of body.head.seq position to_head seq) seq bytes reason
    → IsRest geometry body.head.seq position to_head seq rest bytes → ⊥
none_read geometry body rows all [] position to_head seq reason bytes limits before small inside most fits refused rest =
    (let e = rest.seqs in omega (arith, e, before))
none_read geometry body rows all (row ∷ more) position to_head seq reason bytes limits before small inside most fits
    refused rest =
    refused_none geometry (place_of body.head.seq position to_head seq) seq bytes reason row limits small refused
    (rest_has geometry body.head.seq position to_head seq row more bytes inside most fits rest)

same_place : (geometry : Geometry) (body : CommitBody) (rows : List Row) (position to_head seq : ℕ)
    → (far : IsFar geometry body rows position to_head seq)
    → place_of body.head.seq position to_head seq ≡ place_after geometry.log body far.used rows
same_place geometry body rows position to_head seq far =
    let s = far.sum in
    let left : sectors_between geometry.log body - far.used ≡ to_head = omega (arith, s) in
    let last : (body.tail.seq + length rows + 1 == body.head.seq) ≡ (seq + 1 == body.head.seq) =
    ap (λ n. n + 1 == body.head.seq) far.next_seq in
    let b = far.at_end in
    ap (λ p. record { position = p; to_head = to_head; is_last = seq + 1 == body.head.seq }) (sym b)
    ∙ ap (λ n. record {
      position = end_of_rows geometry.log body.tail.position rows;
      to_head = n;
      is_last = seq + 1 == body.head.seq;
    }) (sym left)
    ∙ ap (λ t. record {
      position = end_of_rows geometry.log body.tail.position rows;
      to_head = sectors_between geometry.log body
          - far.used;
      is_last = t;
    }) (sym last)

bad_in : (geometry : Geometry) (body : CommitBody) (rows : List Row) (position to_head seq : ℕ) (reason : Reason) (bytes : List ℕ)
    → IsTrue (is_within_limits geometry) → byte_of geometry.log ≤ length bytes
    → seq < body.head.seq → seq < 2 ^ 64 → IsFar geometry body rows position to_head seq
    → IsRefusedAt geometry (place_of body.head.seq position to_head seq) seq bytes reason
    → HasFar geometry body rows position to_head seq bytes → IsBadRecord geometry body seq reason bytes
    × ((all : List Row) → AreRecordsInRange geometry body all bytes → ⊥)
bad_in geometry body rows position to_head seq reason bytes limits fits before small far refused so_far =
    let P : Place → Type 0 = λ p. IsRefusedAt geometry p seq bytes reason in
    let s = far.sum in (
      record {
        rows = rows;
        used = far.used;
        most = omega (arith, s);
        follow = far.follow;
        records = so_far.records;
        in_range = far.in_range;
        next_seq = far.next_seq;
        before_head = before;
        refused = subst P (same_place geometry body rows position to_head seq far) refused;
      },
      λ all is.
          let rest = so_far.only all is in
          none_read geometry body rows all rest.0 position to_head seq reason bytes limits before small far.inside far.most fits
          refused rest.2,
    )

pub bad_now : (geometry : Geometry) (body : CommitBody) (rows : List Row) (position to_head seq size : ℕ) (reason : Reason)
    (moments : List Medium) → IsTrue (is_within_limits geometry) → byte_of geometry.log ≤ size
    → AllByRecursion (HasSize size) moments → seq < body.head.seq → seq < 2 ^ 64 → IsFar geometry body rows position to_head seq
    → HoldsNow (λ now. IsRefusedAt geometry (place_of body.head.seq position to_head seq) seq now.bytes reason) moments
    → HoldsNow (λ now. HasFar geometry body rows position to_head seq now.bytes) moments
    → HoldsNow (λ now. IsBadRecord geometry body seq reason now.bytes
    × ((all : List Row) → AreRecordsInRange geometry body all now.bytes → ⊥)) moments
bad_now geometry body rows position to_head seq size reason [] limits fits media before small far refused so_far = tt
bad_now geometry body rows position to_head seq size reason (now ∷ past) limits fits media before small far refused so_far =
    bad_in geometry body rows position to_head seq reason now.bytes limits (let e = media.0.bytes in omega (arith, e, fits))
    before small far refused so_far

-- so an error that says so is right
pub bad_on_err : {T : Type 0} (r : Result T OpenError) (geometry : Geometry) (body : CommitBody) (rows : List Row)
    (position to_head seq size : ℕ) (moments : List Medium) → IsTrue (is_within_limits geometry)
    → byte_of geometry.log ≤ size → AllByRecursion (HasSize size) moments → seq < body.head.seq → seq < 2 ^ 64
    → IsFar geometry body rows position to_head seq
    → HoldsNow (λ now. HasFar geometry body rows position to_head seq now.bytes) moments
    → IfErr r (λ e. IsBadRow geometry (place_of body.head.seq position to_head seq) seq moments e)
    → IfErr r (λ e. IsBadLog geometry body moments e)
bad_on_err (Ok x) geometry body rows position to_head seq size moments limits fits media before small far so_far bad = tt
bad_on_err (Err (open_errors.BadRecord n reason)) geometry body rows position to_head seq size moments limits fits media before
    small far so_far bad =
    let P : ℕ → Type 0 = λ k. HoldsNow (λ now. IsBadRecord geometry body k reason now.bytes
    × ((all : List Row) → AreRecordsInRange geometry body all now.bytes → ⊥)) moments in
    subst P (sym bad.0) (bad_now geometry body rows position to_head seq size reason moments limits fits media before small far
    bad.1 so_far)
bad_on_err (Err open_errors.DeviceFault) geometry body rows position to_head seq size moments limits fits media before small far
    so_far bad = tt
bad_on_err (Err open_errors.OutOfMemory) geometry body rows position to_head seq size moments limits fits media before small far
    so_far bad = tt
