use Rattle.std.proofs.Common.{◌-◌, ◌≡◌, ◌<◌, ◌≤◌, Bool, true, false, length, get_or}
use Rattle.page_list.specs.Test.{AnswersBy}
use Rattle.page_list.proofs.Halves.{Halved}
use Rattle.page_list.proofs.search.search.Given as goal

-- the part between both indices is not searched yet, and is halved with each call
abbrev pub invariant-loop-low : goal.invariant-loop-low
invariant-loop-low g l = record {
  order : l.low ≤ l.high;
  bound : l.high ≤ length l.xs;
  passes : (p : g.row.X.Denot → Bool) (d : g.row.X.Denot) → AnswersBy g.F.Fn l.test p → 0 < l.low
      → p (get_or l.xs (l.low - 1) d) ≡ true;
  fails : (p : g.row.X.Denot → Bool) (d : g.row.X.Denot) → AnswersBy g.F.Fn l.test p → l.high < length l.xs
      → p (get_or l.xs l.high d) ≡ false;
  steps : Halved (length l.xs) (l.high - l.low) (l.steps - l.initial.steps);
  rises : l.initial.steps ≤ l.steps;
}

abbrev pub decreases-loop-low : goal.decreases-loop-low
decreases-loop-low g l = l.high - l.low
