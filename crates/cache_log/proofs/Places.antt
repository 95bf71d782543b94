-- Where records stand in a log, one after the other, and which sectors are free.
use Rattle.std.proofs.Common.{◌≡◌, ℕ, ◌+◌, ◌-◌, ◌<◌, ◌≤◌, ◌⊎◌, List, [], ◌∷◌, ◌++◌, refl, sym, ◌∙◌, ap, subst, inl, inr, arith}
use Rattle.std.proofs.Common.{if◌then◌else◌, ◌==◌}
use Rattle.std.proofs.lemmas.Bool.{cases_lt}
use Rattle.log_room.specs.Room.{room_of, position, pad_before, need, after_record}
use Rattle.cache_log.specs.declared.row.Row.{Row}
use Rattle.cache_log.specs.declared.row.Row.TheVariants.{Write, Zero}
use Rattle.cache_log.specs.Rows.{position_of, record_size, StandsFrom, sectors_taken, next, Follow, end_of_rows}
use Rattle.cache_log.specs.Invariant.{IsFurther}

-- a record has a sector at least
pub some_size : (row : Row) → 1 ≤ record_size row
some_size (Write own at lba sectors) = omega arith
some_size (Zero own at lba sectors) = omega arith

-- what a row that stands at a sector takes
pub taken_here : (log from : ℕ) (row : Row) → position_of row ≡ from → sectors_taken log from row ≡ record_size row
taken_here log from row at = (let no : from ≤ position_of row = omega (arith, at) in grind (arith, no))

pub taken_round : (log from : ℕ) (row : Row) → position_of row < from
    → sectors_taken log from row ≡ (log - from) + record_size row
taken_round log from row at = grind (arith, at)

-- the sector after a row
pub next_inside : (log : ℕ) (row : Row) → position_of row + record_size row < log
    → next log row ≡ position_of row + record_size row
next_inside log row less = grind (arith, less)

pub next_end : (log : ℕ) (row : Row) → position_of row + record_size row ≡ log → next log row ≡ 0
next_end log row end = grind (arith, end)

-- what a record takes brings its log as far as the sector after it
pub record IsStep (log from : ℕ) (row : Row) : Type 0 where
  pub inside : next log row < log
  pub further : IsFurther log from (sectors_taken log from row) (next log row)
  pub fits : position_of row + record_size row ≤ log
  pub some : 1 ≤ sectors_taken log from row

pub step_of : (log from : ℕ) (row : Row) → from < log → sectors_taken log from row ≤ log → StandsFrom log from row
    → IsStep log from row
step_of log from row inside enough (inl here) =
    let some = some_size row in
    let takes = taken_here log from row here.0 in
    elim (cases_lt (position_of row + record_size row) log) [
      | inl less ↦
          let to = next_inside log row less in
          record {
            inside = omega (arith, to, less);
            further = inl (omega (arith, to, takes, here.0));
            fits = omega (arith, less);
            some = omega (arith, takes, some);
          }
      | inr end ↦
          let to = next_end log row (omega (arith, end, here.0, here.1)) in
          record {
            inside = omega (arith, to, inside);
            further = inr (omega (arith, to, takes, end, here.0, here.1));
            fits = omega (arith, here.0, here.1);
            some = omega (arith, takes, some);
          }
    ]
step_of log from row inside enough (inr round) =
    let some = some_size row in
    let takes = taken_round log from row (omega (arith, round.0, round.1)) in
    let less : position_of row + record_size row < log = omega (arith, takes, enough, inside, round.0) in
    let to = next_inside log row less in
    record {
      inside = omega (arith, to, less);
      further = inr (omega (arith, to, takes, inside, round.0));
      fits = omega (arith, less);
      some = omega (arith, takes, some);
    }

-- what is still to come after a record
pub further_on : (log from used head : ℕ) (row : Row) → from < log → head < log → used ≤ log → sectors_taken log from row ≤ used
    → StandsFrom log from row → IsFurther log from used head
    → IsFurther log (next log row) (used - sectors_taken log from row) head
further_on log from used head row inside head_inside most enough stands (inl ahead) =
    let step = step_of log from row inside (omega (arith, enough, most)) stands in
    elim (step.further) [
      | inl on ↦ inl (omega (arith, on, ahead, enough))
      | inr round ↦ absurd (let e = step.inside in omega (arith, round, ahead, enough, head_inside, e))
    ]
further_on log from used head row inside head_inside most enough stands (inr ahead) =
    let step = step_of log from row inside (omega (arith, enough, most)) stands in
    elim (step.further) [
      | inl on ↦ inr (omega (arith, on, ahead, enough))
      | inr round ↦ inl (omega (arith, round, ahead, enough))
    ]

-- ---- a record more, as a log's room has it

-- a row that stands where a record goes from a sector on
pub record IsPlaced (log from : ℕ) (row : Row) : Type 0 where
  pub stands : StandsFrom log from row
  pub takes : sectors_taken log from row ≡ need (room_of log from 0) (record_size row)
  pub to_next : next log row ≡ (after_record (room_of log from 0) (record_size row)).head
  -- where a pad is, and how long it is
  pub pad : position_of row < from → (0 < pad_before (room_of log from 0) (record_size row))
      × (pad_before (room_of log from 0) (record_size row) ≡ log - from)

pub placed : (log from : ℕ) (row : Row) → from < log → need (room_of log from 0) (record_size row) ≤ log
    → position_of row ≡ position (room_of log from 0) (record_size row) → IsPlaced log from row
placed log from row inside enough at =
    let some = some_size row in
    elim (cases_lt log (from + record_size row)) [
      | inl more ↦
          let zero' : position (room_of log from 0) (record_size row) ≡ 0 = grind arith in
          let pad : pad_before (room_of log from 0) (record_size row) ≡ log - from = grind arith in
          let here : position_of row ≡ 0 = at ∙ zero' in
          let ahead : 0 < from = omega (arith, pad, enough, more) in
          let takes = taken_round log from row (omega (arith, here, ahead)) in
          record {
            stands = inr (here, ahead, omega (arith, pad, enough));
            takes = omega (arith, takes, pad);
            to_next = ap (λ p. if p + record_size row == log then 0 else p + record_size row) at;
            pad = λ _. (omega (arith, pad, inside), pad);
          }
      | inr fits ↦
          let same : position (room_of log from 0) (record_size row) ≡ from = grind arith in
          let none : pad_before (room_of log from 0) (record_size row) ≡ 0 = grind arith in
          let here : position_of row ≡ from = at ∙ same in
          let takes = taken_here log from row here in
          record {
            stands = inl (here, omega (arith, fits));
            takes = omega (arith, takes, none);
            to_next = ap (λ p. if p + record_size row == log then 0 else p + record_size row) at;
            pad = λ less. absurd (omega (arith, less, here));
          }
    ]

-- a row more after the others
pub follow_more : (rows : List Row) (row : Row) (log from used head : ℕ) → from < log → head < log → used ≤ log
    → IsFurther log from used head → Follow log from used rows
    → StandsFrom log head row → Follow log from (used + sectors_taken log head row) (rows ++ row ∷ [])
follow_more [] row log from used head inside head_inside most (inl further) none stands =
    let same : head ≡ from = omega (arith, further, none) in
    let P : ℕ → Type 0 = λ h. StandsFrom log h row in
    let Q : ℕ → Type 0 = λ h. sectors_taken log h row ≤ used + sectors_taken log head row in
    let R : ℕ → Type 0 = λ h. (used + sectors_taken log head row) - sectors_taken log h row ≡ 0 in
    (subst P same stands, subst Q same (omega arith), subst R same (omega (arith, none)))
follow_more [] row log from used head inside head_inside most (inr further) none stands =
    absurd (omega (arith, further, none, inside))
follow_more (first ∷ rows) row log from used head inside head_inside most further (here, enough, more) stands =
    let step = step_of log from first inside (omega (arith, enough, most)) here in
    let n : ℕ = sectors_taken log from first in
    let grown = follow_more rows row log (next log first) (used - n) head step.inside head_inside (omega (arith, most))
    (further_on log from used head first inside head_inside most enough here further) more stands in
    let P : ℕ → Type 0 = λ u. Follow log (next log first) u (rows ++ row ∷ []) in
    let sum : (used - n) + sectors_taken log head row ≡ (used + sectors_taken log head row) - n = omega (arith, enough) in
    (here, omega (arith, enough), subst P sum grown)

-- the sector after the rows is the head
pub end_is : (rows : List Row) (log from used head : ℕ) → from < log → head < log → used ≤ log → IsFurther log from used head
    → Follow log from used rows → end_of_rows log from rows ≡ head
end_is [] log from used head inside head_inside most (inl further) none = omega (arith, further, none)
end_is [] log from used head inside head_inside most (inr further) none = absurd (omega (arith, further, none, inside))
end_is (row ∷ rows) log from used head inside head_inside most further (here, enough, more) =
    let step = step_of log from row inside (omega (arith, enough, most)) here in
    end_is rows log (next log row) (used - sectors_taken log from row) head step.inside head_inside (omega (arith, most))
    (further_on log from used head row inside head_inside most enough here further) more

-- and that of one row more is the one after it
pub end_more : (rows : List Row) (row : Row) (log from : ℕ) → end_of_rows log from (rows ++ row ∷ []) ≡ next log row
end_more [] row log from = refl
end_more (first ∷ rows) row log from = end_more rows row log (next log first)

-- ---- which sectors are free

-- this many sectors from one on that are not in use, where a record or a pad may be written: at the head before the log's end, or
-- at the log's beginning
abbrev pub AreFree : (log head used at count : ℕ) → Type 0
AreFree log head used at count = ((at ≡ head) × (head + count ≤ log) × (used + count ≤ log)) ⊎ ((at ≡ 0) × (used + count ≤ head))

-- this many sectors from one on are none of others
abbrev pub Apart : (at count sector n : ℕ) → Type 0
Apart at count sector n = (sector + n ≤ at) ⊎ (at + count ≤ sector)

-- what is in use lies apart from what is free
here_apart : (log from size used total head at count : ℕ) → from < log → total ≤ log → used ≤ total → size ≤ used
    → from + size ≤ log
    → IsFurther log from used head → AreFree log head total at count → Apart at count from size
here_apart log from size used total head at count inside most less part fits (inl ahead) (inl free) =
    inl (omega (arith, ahead, free.0, part))
here_apart log from size used total head at count inside most less part fits (inl ahead) (inr free) =
    inr (omega (arith, ahead, free.0, free.1, less))
here_apart log from size used total head at count inside most less part fits (inr ahead) (inl free) =
    inr (omega (arith, ahead, free.0, free.1, free.2, less))
here_apart log from size used total head at count inside most less part fits (inr ahead) (inr free) =
    absurd (omega (arith, ahead, free.1, less, inside))

round_apart : (log from size used total head at count : ℕ) → from < log → head < log → total ≤ log → used ≤ total
    → (log - from) + size ≤ used
    → IsFurther log from used head → AreFree log head total at count → Apart at count 0 size × Apart at count from 1
round_apart log from size used total head at count inside head_inside most less part (inl ahead) free =
    absurd (omega (arith, ahead, part, head_inside, inside))
round_apart log from size used total head at count inside head_inside most less part (inr ahead) (inl free) =
    (inl (omega (arith, ahead, part, free.0, inside)), inr (omega (arith, ahead, free.0, free.2, less)))
round_apart log from size used total head at count inside head_inside most less part (inr ahead) (inr free) =
    absurd (omega (arith, ahead, free.1, less, inside))

-- the sectors of a record, and the header of its pad
pub record IsApart (log from : ℕ) (row : Row) (at count : ℕ) : Type 0 where
  pub sectors : Apart at count (position_of row) (record_size row)
  pub pad : position_of row < from → Apart at count from 1

is_apart : (log from : ℕ) (row : Row) (used total head at count : ℕ) → from < log → head < log → total ≤ log → used ≤ total
    → sectors_taken log from row ≤ used → StandsFrom log from row
    → IsFurther log from used head → AreFree log head total at count → IsApart log from row at count
is_apart log from row used total head at count inside head_inside most less part (inl here) further free =
    let takes = taken_here log from row here.0 in
    let P : ℕ → Type 0 = λ p. Apart at count p (record_size row) in
    record {
      sectors = subst P (sym here.0) (here_apart log from (record_size row) used total head at count inside most less
          (omega (arith, takes, part)) here.1 further free);
      pad = λ some. absurd (omega (arith, here.0, some));
    }
is_apart log from row used total head at count inside head_inside most less part (inr round) further free =
    let takes = taken_round log from row (omega (arith, round.0, round.1)) in
    let both = round_apart log from (record_size row) used total head at count inside head_inside most less
    (omega (arith, takes, part)) further free in
    let P : ℕ → Type 0 = λ p. Apart at count p (record_size row) in
    record { sectors = subst P (sym round.0) both.0; pad = λ _. both.1 }

-- all rows, with their pads, lie apart from this many sectors
abbrev pub LieApart : (at count log from : ℕ) → List Row → Type 0
LieApart at count log from [] = Unit {0}
LieApart at count log from (row ∷ rows) = IsApart log from row at count × LieApart at count log (next log row) rows

-- what is free is none of the sectors of rows
pub lie_apart : (rows : List Row) (log from used total head at count : ℕ) → from < log → head < log → total ≤ log → used ≤ total
    → IsFurther log from used head
    → AreFree log head total at count → Follow log from used rows → LieApart at count log from rows
lie_apart [] log from used total head at count inside head_inside most less further free follow = tt
lie_apart (row ∷ rows) log from used total head at count inside head_inside most less further free (here, enough, more) =
    let step = step_of log from row inside (omega (arith, enough, less, most)) here in (
      is_apart log from row used total head at count inside head_inside most less enough here further free,
      lie_apart rows log (next log row) (used - sectors_taken log from row) total head at count step.inside head_inside most
          (omega (arith, less))
          (further_on log from used head row inside head_inside (omega (arith, less, most)) enough here further) free more,
    )

-- and none of those of the first few
pub first_apart : (rows more : List Row) (at count log from : ℕ) → LieApart at count log from (rows ++ more)
    → LieApart at count log from rows
first_apart [] more at count log from apart = tt
first_apart (row ∷ rows) more at count log from apart = (apart.0, first_apart rows more at count log (next log row) apart.1)
