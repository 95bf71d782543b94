-- The records of a log from a sector up to its head: with one more, and without the first.
use Rattle.std.proofs.Common.{◌≡◌, ℕ, ◌+◌, ◌-◌, ◌<◌, ◌≤◌, List, [], ◌∷◌, zero, suc, drop, refl, sym, subst, inl, inr, arith}
use Rattle.std.proofs.lemmas.Bool.Decides.{nat_tests}
use Rattle.log_room.specs.Room.{Room, IsRoom, distance}
use Rattle.cache_log.specs.declared.row.Row.{Row}
use Rattle.cache_log.specs.Rows.{position_of, record_size, StandsFrom, sectors_taken, next, AreNumbered, Follow, HaveRecords}
use Rattle.cache_log.specs.Log.{start_of}
use Rattle.cache_log.specs.Committed.{sectors_from}
use Rattle.cache_log.specs.Invariant.{IsFurther, Reach}
use Rattle.cache_log.proofs.Places.{some_size, taken_here, taken_round, step_of, further_on}
use Rattle.cache_log.proofs.RowLemmas.{run_of}

-- records reach the head from a sector on, and take no more than so many
pub record ReachWithin (place : Room) (from most : ℕ) (rows : List Row) : Type 0 where
  pub used : ℕ
  pub within : used ≤ most
  pub reach : Reach place from used rows

-- ---- from the first record on, past the pad before it

stands_own : (log : ℕ) (row : Row) → position_of row + record_size row ≤ log → StandsFrom log (position_of row) row
stands_own log row fits = inl (refl, fits)

restart_in : (place : Room) (from used : ℕ) (row : Row) (rows : List Row) → IsRoom place → used ≤ place.log
    → Reach place from used (row ∷ rows) → StandsFrom place.log from row
    → ReachWithin place (position_of row) used (row ∷ rows)
restart_in place from used row rows room most reach (inl here) =
    let P : ℕ → Type 0 = λ p. ReachWithin place p used (row ∷ rows) in
    subst P (sym here.0) (record { used = used; within = omega arith; reach = reach })
restart_in place from used row rows room most reach (inr round) =
    let log : ℕ = place.log in
    let inside = reach.inside in
    let head = room.head in
    let takes = taken_round log from row (omega (arith, round.0, round.1)) in
    let some = some_size row in
    let enough = reach.follow.1 in
    let own = taken_here log (position_of row) row refl in
    let left : used - sectors_taken log from row ≡ (used - (log - from)) - sectors_taken log (position_of row) row =
    omega (arith, takes, own) in
    let P : ℕ → Type 0 = λ u. Follow log (next log row) u rows in
    record {
      used = used - (log - from);
      within = omega arith;
      reach = record {
        inside = omega (arith, round.0, inside);
        further = elim (reach.further) [
          | inl e ↦ absurd (omega (arith, e, takes, enough, some, head, inside))
          | inr e ↦ inl (omega (arith, e, round.0, takes, enough, inside))
        ];
        follow = (
          stands_own log row (omega (arith, round.0, round.2)),
          omega (arith, own, takes, enough),
          subst P left
              reach.follow.2,
        );
      };
    }

pub restart : (place : Room) (from used : ℕ) (row : Row) (rows : List Row) → IsRoom place → used ≤ place.log
    → Reach place from used (row ∷ rows) → ReachWithin place (position_of row) used (row ∷ rows)
restart place from used row rows room most reach = restart_in place from used row rows room most reach reach.follow.0

pub have_restart : (row : Row) (rows : List Row) (log from seq : ℕ) (bytes : List ℕ) → HaveRecords log from seq (row ∷ rows) bytes
    → HaveRecords log (position_of row) seq (row ∷ rows) bytes
have_restart row rows log from seq bytes (pad, here, more) = ((λ less. absurd (omega (arith, less))), here, more)

-- ---- without the first

none_reach : (place : Room) (most : ℕ) → IsRoom place → ReachWithin place place.head most []
none_reach place most room = record {
  used = 0;
  within = omega arith;
  reach = record { inside = room.head; further = inl (omega arith); follow = refl };
}

pub drop_reach : (rows : List Row) (n : ℕ) (place : Room) (from used : ℕ) → IsRoom place → used ≤ place.log
    → Reach place from used rows
    → ReachWithin place (start_of place.head (drop n rows)) used (drop n rows)
drop_reach [] zero place from used room most reach = none_reach place used room
drop_reach [] (suc n) place from used room most reach = none_reach place used room
drop_reach (row ∷ rows) zero place from used room most reach = restart place from used row rows room most reach
drop_reach (row ∷ rows) (suc n) place from used room most reach =
    let log : ℕ = place.log in
    let f = reach.follow in
    let enough = f.1 in
    let step = step_of log from row reach.inside (omega (arith, enough, most)) f.0 in
    let rest : Reach place (next log row) (used - sectors_taken log from row) rows = record {
      inside = step.inside;
      further = further_on log from used place.head row reach.inside room.head most enough f.0 reach.further;
      follow = f.2;
    } in
    let more = drop_reach rows n place (next log row) (used - sectors_taken log from row) room (omega (arith, most)) rest in
    let w = more.within in
    record { used = more.used; within = omega (arith, w); reach = more.reach }

pub drop_have : (rows : List Row) (n log from seq head : ℕ) (bytes : List ℕ) → HaveRecords log from seq rows bytes
    → HaveRecords log (start_of head (drop n rows)) (seq + n) (drop n rows) bytes
drop_have [] zero log from seq head bytes have = tt
drop_have [] (suc n) log from seq head bytes have = tt
drop_have (row ∷ rows) zero log from seq head bytes have =
    let P : ℕ → Type 0 = λ s. HaveRecords log (position_of row) s (row ∷ rows) bytes in
    subst P (omega arith) (have_restart row rows log from seq bytes have)
drop_have (row ∷ rows) (suc n) log from seq head bytes have =
    let P : ℕ → Type 0 = λ s. HaveRecords log (start_of head (drop n rows)) s (drop n rows) bytes in
    subst P (omega arith) (drop_have rows n log (next log row) (seq + 1) head bytes have.2)

pub drop_numbered : (rows : List Row) (n seq : ℕ) → AreNumbered seq rows → AreNumbered (seq + n) (drop n rows)
drop_numbered [] zero seq are = tt
drop_numbered [] (suc n) seq are = tt
drop_numbered (row ∷ rows) zero seq are =
    let P : ℕ → Type 0 = λ s. AreNumbered s (row ∷ rows) in
    subst P (omega arith) are
drop_numbered (row ∷ rows) (suc n) seq are =
    let P : ℕ → Type 0 = λ s. AreNumbered s (drop n rows) in
    subst P (omega arith) (drop_numbered rows n (seq + 1) are.1)

-- ---- how many sectors that is

reach_some : (log from used head : ℕ) (rows : List Row) → from < log → head < log → used ≤ log → 1 ≤ used
    → IsFurther log from used head → used ≡ distance log from head
reach_some log from used head rows inside head_inside most some (inl e) = grind (arith, nat_tests, e, some)
reach_some log from used head rows inside head_inside most some (inr e) =
    let no : head ≤ from = omega (arith, e, most) in
    let is : distance log from head ≡ log - from + head = grind (arith, nat_tests, no) in
    omega (arith, e, is, inside)

pub reach_is : (place : Room) (from used : ℕ) (rows : List Row) → IsRoom place → used ≤ place.log → Reach place from used rows
    → used ≡ sectors_from place.log from place.head rows
reach_is place from used [] room most reach = reach.follow
reach_is place from used (row ∷ rows) room most reach =
    let run = run_of (row ∷ rows) place.log from used reach.inside most reach.follow in
    reach_some place.log from used place.head (row ∷ rows) reach.inside room.head most (run.some (omega arith)) reach.further
