-- Rows that stand one behind the other, and the records that they show.
use Rattle.std.proofs.Common.{◌≡◌, ℕ, ◌+◌, ◌-◌, ◌<◌, ◌≤◌, List, [], ◌∷◌, ◌++◌, suc, length, refl, sym, ap, subst, inl, inr, arith}
use Rattle.std.proofs.lemmas.Bool.{cases_eq, cases_lt}
use Rattle.std.proofs.lemmas.Bool.Decides.{nat_tests}
use Rattle.std.proofs.lemmas.List.Sums.{sum_by-cons}
use Rattle.log_room.specs.Room.{distance}
use Rattle.cache_log.specs.declared.row.Row.{Row}
use Rattle.cache_log.specs.declared.row.Row.TheVariants.{Write, Zero}
use Rattle.cache_log.specs.Rows.{position_of, record_size, StandsFrom, sectors_taken, next, Follow, end_of_rows}
use Rattle.cache_log.specs.Committed.{sectors_from}
use Rattle.cache_log.specs.Invariant.{IsFurther}
use Rattle.plain_disk.specs.Log.{used_by, taken_by}
use Rattle.refine_log.specs.Shows.{pad_from, record_of_row, records_of_rows}

-- Rows follow one another from a sector up to another, and take N sectors of the log.
pub record Reaches (log from used head : ℕ) (rows : List Row) : Type 0 where
  pub inside : from < log
  pub most : used ≤ log
  pub follow : Follow log from used rows
  pub end : end_of_rows log from rows ≡ head

-- ---- one row

some_size : (row : Row) → 1 ≤ record_size row
some_size (Write own at lba sectors) = omega arith
some_size (Zero own at lba sectors) = omega arith

taken_here : (log from : ℕ) (row : Row) → from ≤ position_of row → sectors_taken log from row ≡ record_size row
taken_here log from row on = grind (arith, on)

taken_round : (log from : ℕ) (row : Row) → position_of row < from → sectors_taken log from row ≡ (log - from) + record_size row
taken_round log from row less = grind (arith, less)

next_inside : (log : ℕ) (row : Row) → position_of row + record_size row < log → next log row ≡ position_of row + record_size row
next_inside log row less = grind (arith, less)

next_end : (log : ℕ) (row : Row) → position_of row + record_size row ≡ log → next log row ≡ 0
next_end log row end = grind (arith, end)

-- a row goes as far as the sector after it
record Goes (log from : ℕ) (row : Row) : Type 0 where
  inside : next log row < log
  further : IsFurther log from (sectors_taken log from row) (next log row)
  some : 1 ≤ sectors_taken log from row

goes : (log from : ℕ) (row : Row) → from < log → sectors_taken log from row ≤ log → StandsFrom log from row → Goes log from row
goes log from row inside enough (inl here) =
    let some = some_size row in
    let takes = taken_here log from row (omega (arith, here.0)) in
    elim (cases_eq (position_of row + record_size row) log) [
      | inl end ↦
          let to = next_end log row end in
          record {
            inside = omega (arith, to, inside);
            further = inr (omega (arith, to, takes, end, here.0));
            some = omega (arith, takes, some);
          }
      | inr before ↦
          let to = next_inside log row (omega (arith, before, here.0, here.1)) in
          record {
            inside = omega (arith, to, before, here.0, here.1);
            further = inl (omega (arith, to, takes, here.0));
            some = omega (arith, takes, some);
          }
    ]
goes log from row inside enough (inr round) =
    let some = some_size row in
    let takes = taken_round log from row (omega (arith, round.0, round.1)) in
    let less : position_of row + record_size row < log = omega (arith, takes, enough, inside, round.0) in
    let to = next_inside log row less in
    record {
      inside = omega (arith, to, less);
      further = inr (omega (arith, to, takes, inside, round.0));
      some = omega (arith, takes, some);
    }

-- the rows after the first
pub reach_next : (row : Row) (rows : List Row) (log from used head : ℕ) → Reaches log from used head (row ∷ rows)
    → Reaches log (next log row) (used - sectors_taken log from row) head rows
reach_next row rows log from used head is =
    let enough = is.follow.1 in
    record {
      inside = (goes log from row is.inside (omega (arith, enough, is.most)) is.follow.0).inside;
      most = omega (arith, is.most);
      follow = is.follow.2;
      end = is.end;
    }

-- ---- how far rows go

further_both : (log from a b middle end : ℕ) → from < log → a + b ≤ log → IsFurther log from a middle → IsFurther log middle b end
    → IsFurther log from (a + b) end
further_both log from a b middle end inside most (inl x) (inl y) = inl (omega (arith, x, y))
further_both log from a b middle end inside most (inl x) (inr y) = inr (omega (arith, x, y))
further_both log from a b middle end inside most (inr x) (inl y) = inr (omega (arith, x, y))
further_both log from a b middle end inside most (inr x) (inr y) = absurd (omega (arith, x, y, inside, most))

reach_further : (rows : List Row) (log from used head : ℕ) → Reaches log from used head rows → IsFurther log from used head
reach_further [] log from used head is = inl (omega (arith, is.follow, is.end))
reach_further (row ∷ rows) log from used head is =
    let enough = is.follow.1 in
    let n : ℕ = sectors_taken log from row in
    let first = goes log from row is.inside (omega (arith, enough, is.most)) is.follow.0 in
    let rest = reach_further rows log (next log row) (used - n) head (reach_next row rows log from used head is) in
    let sum : n + (used - n) ≡ used = omega (arith, enough) in
    subst (λ u. IsFurther log from u head) sum
    (further_both log from n (used - n) (next log row) head is.inside (omega (arith, sum, is.most)) first.further rest)

further_distance : (log from used head : ℕ) → from < log → used ≤ log → 1 ≤ used → IsFurther log from used head
    → used ≡ distance log from head
further_distance log from used head inside most some (inl ahead) =
    let is : distance log from head ≡ head - from = (let less : from < head = omega (arith, ahead, some) in
    grind (arith, nat_tests, less)) in
    omega (arith, is, ahead)
further_distance log from used head inside most some (inr round) =
    let on : head ≤ from = omega (arith, round, most) in
    let is : distance log from head ≡ log - from + head = grind (arith, nat_tests, on) in
    omega (arith, is, round, inside)

-- the sectors that are taken are those from the first to the head
pub reach_used : (rows : List Row) (log from used head : ℕ) → Reaches log from used head rows
    → used ≡ sectors_from log from head rows
reach_used [] log from used head is = is.follow
reach_used (row ∷ rows) log from used head is =
    let enough = is.follow.1 in
    let first = goes log from row is.inside (omega (arith, enough, is.most)) is.follow.0 in
    let some = first.some in
    further_distance log from used head is.inside is.most (omega (arith, some, enough))
    (reach_further (row ∷ rows) log from used head is)

-- ---- rows behind others, and past a pad

pub reach_behind : (rows more : List Row) (log from used head : ℕ) → Reaches log from used head (rows ++ more)
    → (left : ℕ) × Reaches log (end_of_rows log from rows) left head more
reach_behind [] more log from used head is = (used, is)
reach_behind (row ∷ rows) more log from used head is =
    reach_behind rows more log (next log row) (used - sectors_taken log from row) head
    (reach_next row (rows ++ more) log from used head is)

reach_past : (row : Row) (rows : List Row) (log from used head : ℕ) → StandsFrom log from row
    → Reaches log from used head (row ∷ rows)
    → (left : ℕ) × Reaches log (position_of row) left head (row ∷ rows)
reach_past row rows log from used head (inl here) is = subst (λ p. (left : ℕ) × Reaches log p left head (row ∷ rows))
    (sym here.0) (used, is)
reach_past row rows log from used head (inr round) is =
    let takes = taken_round log from row (omega (arith, round.0, round.1)) in
    let own = taken_here log (position_of row) row (omega arith) in
    let enough = is.follow.1 in
    let left : used - sectors_taken log from row ≡ (used - (log - from)) - sectors_taken log (position_of row) row =
    omega (arith, takes, own) in (
      used - (log - from),
      record {
        inside = omega (arith, round.0, is.inside);
        most = omega (arith, is.most);
        follow = (
          inl (refl, omega (arith, round.0, round.2)),
          omega (arith, own, takes, enough),
          subst (λ u. Follow log (next log row) u rows) left is.follow.2,
        );
        end = is.end;
      },
    )

-- rows reach as far from where the first stands
pub reach_from_first : (row : Row) (rows : List Row) (log from used head : ℕ) → Reaches log from used head (row ∷ rows)
    → (left : ℕ) × Reaches log (position_of row) left head (row ∷ rows)
reach_from_first row rows log from used head is = reach_past row rows log from used head is.follow.0 is

-- ---- one row more

follow_more : (rows : List Row) (row : Row) (log from used head : ℕ) → Follow log from used rows
    → end_of_rows log from rows ≡ head
    → StandsFrom log head row
    → Follow log from (used + sectors_taken log head row) (rows ++ row ∷ [])
follow_more [] row log from used head none end stands =
    let P : ℕ → Type 0 = λ h. Follow log h (used + sectors_taken log head row) (row ∷ []) in
    subst P (sym end) (stands, omega arith, omega (arith, none))
follow_more (first ∷ rows) row log from used head (here, enough, more) end stands =
    let n : ℕ = sectors_taken log from first in
    let P : ℕ → Type 0 = λ u. Follow log (next log first) u (rows ++ row ∷ []) in
    let sum : (used - n) + sectors_taken log head row ≡ (used + sectors_taken log head row) - n = omega (arith, enough) in
    (here, omega (arith, enough), subst P sum (follow_more rows row log (next log first) (used - n) head more end stands))

end_behind : (rows more : List Row) (log from : ℕ)
    → end_of_rows log from (rows ++ more) ≡ end_of_rows log (end_of_rows log from rows) more
end_behind [] more log from = refl
end_behind (row ∷ rows) more log from = end_behind rows more log (next log row)

pub reach_more : (rows : List Row) (row : Row) (log from used head : ℕ) → Reaches log from used head rows
    → StandsFrom log head row
    → used + sectors_taken log head row ≤ log
    → Reaches log from (used + sectors_taken log head row) (next log row) (rows ++ row ∷ [])
reach_more rows row log from used head is stands most = record {
  inside = is.inside;
  most = most;
  follow = follow_more rows row log from used head is.follow is.end stands;
  end = end_behind rows (row ∷ []) log from;
}

-- ---- the records

pub records_behind : (rows more : List Row) (log from : ℕ)
    → records_of_rows log from (rows ++ more) ≡ records_of_rows log from rows ++ records_of_rows log
    (end_of_rows log from rows) more
records_behind [] more log from = refl
records_behind (row ∷ rows) more log from = ap (λ l. record_of_row log from row ∷ l) (records_behind rows more log (next log row))

pub records_count : (rows : List Row) (log from : ℕ) → length (records_of_rows log from rows) ≡ length rows
records_count [] log from = refl
records_count (row ∷ rows) log from = ap suc (records_count rows log (next log row))

pub record_takes : (log from : ℕ) (row : Row) → pad_from log from row + record_size row ≡ sectors_taken log from row
record_takes log from row =
    elim (cases_lt (position_of row) from) [
      | inl less ↦ (let a = taken_round log from row less in let b : pad_from log from row ≡ log - from = grind (arith, less) in
          omega (arith, a, b))
      | inr on ↦ (let a = taken_here log from row on in let b : pad_from log from row ≡ 0 = grind (arith, on) in
          omega (arith, a, b))
    ]

-- they take the sectors that the rows take
pub records_used : (rows : List Row) (log from used : ℕ) → Follow log from used rows
    → used_by (records_of_rows log from rows) ≡ used
records_used [] log from used none = sym none
records_used (row ∷ rows) log from used (stands, enough, more) =
    let first = sum_by-cons taken_by (record_of_row log from row) (records_of_rows log (next log row) rows) in
    let one = record_takes log from row in
    let rest = records_used rows log (next log row) (used - sectors_taken log from row) more in
    omega (arith, first, one, rest, enough)
