-- Reads one after the other, and how many they are.
use Rattle.std.proofs.Common.{◌≡◌, ℕ, ◌+◌, ◌<◌, ◌≤◌, Bool, true, false, List, [], ◌∷◌, ◌++◌, refl, sym, ◌∙◌, ap, arith, add_assoc}
use Rattle.std.specs.Prelude.{Option, Some, None, Result, Ok, Err, IfErr, if◌then◌else◌, nat_lt}
use Rattle.std.proofs.lemmas.Bool.Decides.{nat_tests}
use Rattle.lsvd_device.specs.Calls.{Fuse, Budget, passes, fuse_after, Takes, TakesWithin, read_cost}
use Rattle.lsvd_device.specs.Device.{MakesCalls}
use Rattle.lsvd_device.proofs.Together.{made_then}
use Rattle.commit_slot.specs.Commits.{CommitsState, IsAsBefore}
use Rattle.commit_slot.specs.OnDisk.{AreOnDisk}
use Rattle.cache_log.specs.declared.error.OpenError.{OpenError}
use Rattle.cache_log.specs.declared.error.LogReadError.{LogReadError}
use Rattle.cache_log.specs.declared.row.Row.{Row}
use Rattle.cache_log.specs.Rows.{position_of, next, end_of_rows}
use Rattle.cache_log.specs.Reads.{reads_cost, AreReadOnly, headers_of, headers_of_rows, opens_without_fault, reads_without_fault}
use Rattle.cache_log.specs.Laws.{AreAtMostTwoEach}

-- commits that are as before twice are as before
pub as_before_then : (old middle new : CommitsState) → IsAsBefore old middle → IsAsBefore middle new → IsAsBefore old new
as_before_then old middle new first second = record {
  same_number = second.same_number ∙ first.same_number;
  same_body = second.same_body ∙ first.same_body;
  same_unfinished = second.same_unfinished ∙ first.same_unfinished;
}

-- ---- no read, and one

-- no read at all
pub nothing_taken : (budget : Option Budget) → Takes (reads_cost 0) true budget budget
nothing_taken None = refl
nothing_taken (Some budget) = (budget, refl, λ calls bytes. nothing_within budget.fuse budget refl)
  where
    nothing_within : (fuse : Fuse) (budget : Budget) → budget.fuse ≡ fuse → TakesWithin (reads_cost 0) true budget budget
    nothing_within None budget is = record {
      made = ap (λ f. passes f 0) (sym is);
      fuse = is ∙ ap (λ f. fuse_after f 0) (sym is);
      calls = omega arith;
      bytes = omega arith;
    }
    nothing_within (Some left) budget is =
        let made : true ≡ passes (Some left) 0 = grind arith in
        let lower : Some left ≡ fuse_after (Some left) 0 = ap Some (omega arith) in
        record {
          made = made ∙ ap (λ f. passes f 0) (sym is);
          fuse = is ∙ lower ∙ ap (λ f. fuse_after f 0) (sym is);
          calls = omega arith;
          bytes = omega arith;
        }

pub read_none : (most : ℕ) (commits : CommitsState) → AreOnDisk commits → AreReadOnly most true commits commits
read_none most commits on_disk = record {
  same = record { same_number = refl; same_body = refl; same_unfinished = refl };
  moments = refl;
  reads = record {
    count = 0;
    within = omega arith;
    calls = record { size = refl; faults = refl; budget = nothing_taken commits.disk.budget };
  };
  on_disk = on_disk;
}

-- one read was made, or failed
pub one_read : (is_made : Bool) (old new : CommitsState) → IsAsBefore old new → new.disk.moments ≡ old.disk.moments
    → MakesCalls read_cost is_made old.disk new.disk → AreOnDisk new → AreReadOnly 1 is_made old new
one_read is_made old new same moments calls on_disk = record {
  same = same;
  moments = moments;
  reads = record { count = 1; within = omega arith; calls = calls };
  on_disk = on_disk;
}

-- ---- at most this many

pub only_then : (a b most : ℕ) (is_made : Bool) (old middle new : CommitsState) → AreReadOnly a true old middle
    → AreReadOnly b is_made middle new → a + b ≤ most → AreReadOnly most is_made old new
only_then a b most is_made old middle new first second within = record {
  same = as_before_then old middle new first.same second.same;
  moments = second.moments ∙ first.moments;
  reads =
      let m = first.reads.within in
      let n = second.reads.within in
      record {
        count = first.reads.count + second.reads.count;
        within = omega (arith, m, n, within);
        calls = made_then (reads_cost first.reads.count) (reads_cost second.reads.count) is_made old.disk middle.disk new.disk
            first.reads.calls second.reads.calls;
      };
  on_disk = second.on_disk;
}

pub only_more : (a most : ℕ) (is_made : Bool) (old new : CommitsState) → AreReadOnly a is_made old new → a ≤ most
    → AreReadOnly most is_made old new
only_more a most is_made old new only within = record {
  same = only.same;
  moments = only.moments;
  reads = (let n = only.reads.within in record {
    count = only.reads.count;
    within = omega (arith, n, within);
    calls =
        only.reads.calls;
  });
  on_disk = only.on_disk;
}

-- and so where an error is answered
pub open_error_more : {T : Type 0} (r : Result T OpenError) (a most : ℕ) (old new : CommitsState)
    → IfErr r (λ e. AreReadOnly a (opens_without_fault e) old new) → a ≤ most
    → IfErr r (λ e. AreReadOnly most (opens_without_fault e) old new)
open_error_more (Ok x) a most old new only within = tt
open_error_more (Err e) a most old new only within = only_more a most (opens_without_fault e) old new only within

pub open_error_then : {T : Type 0} (r : Result T OpenError) (a b most : ℕ) (old middle new : CommitsState)
    → AreReadOnly a true old middle → IfErr r (λ e. AreReadOnly b (opens_without_fault e) middle new) → a + b ≤ most
    → IfErr r (λ e. AreReadOnly most (opens_without_fault e) old new)
open_error_then (Ok x) a b most old middle new first second within = tt
open_error_then (Err e) a b most old middle new first second within =
    only_then a b most (opens_without_fault e) old middle new first second within

pub read_error_then : {T : Type 0} (r : Result T LogReadError) (a b most : ℕ) (old middle new : CommitsState)
    → AreReadOnly a true old middle → IfErr r (λ e. AreReadOnly b (reads_without_fault e) middle new) → a + b ≤ most
    → IfErr r (λ e. AreReadOnly most (reads_without_fault e) old new)
read_error_then (Ok x) a b most old middle new first second within = tt
read_error_then (Err e) a b most old middle new first second within =
    only_then a b most (reads_without_fault e) old middle new first second within

-- ---- the headers of rows

pub one_header : (from : ℕ) (row : Row) → position_of row ≡ from → headers_of from row ≡ 1
one_header from row at = (let no : from ≤ position_of row = omega (arith, at) in grind (arith, nat_tests, no))

pub two_headers : (from : ℕ) (row : Row) → position_of row < from → headers_of from row ≡ 2
two_headers from row less = grind (arith, nat_tests, less)

pub header_most : (from : ℕ) (row : Row) → headers_of from row ≤ 2
header_most from row = choice (nat_lt (position_of row) from)
  where
    choice : (b : Bool) → (if b then 2 else 1) ≤ 2
    choice true = omega arith
    choice false = omega arith

pub headers_most : AreAtMostTwoEach
headers_most log from [] = omega arith
headers_most log from (row ∷ rows) =
    let one = header_most from row in
    let more = headers_most log (next log row) rows in
    omega (arith, one, more)

-- with one row more
pub headers_more : (rows : List Row) (row : Row) (log from : ℕ) → headers_of_rows log from (rows ++ row ∷ [])
    ≡ headers_of_rows log from rows + headers_of (end_of_rows log from rows) row
headers_more [] row log from = omega arith
headers_more (first ∷ rows) row log from =
    ap (λ n. headers_of from first + n) (headers_more rows row log (next log first))
    ∙ sym (add_assoc (headers_of from first) (headers_of_rows log (next log first) rows)
    (headers_of (end_of_rows log (next log first) rows) row))
