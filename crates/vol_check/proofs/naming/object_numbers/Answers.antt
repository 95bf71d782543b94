use Rattle.std.proofs.Common.{subst}
use Rattle.std.specs.List.{Contains}
use Rattle.std.proofs.lemmas.List.Filters.{dedup_is}
use Rattle.std.proofs.lemmas.List.Kept.{Contains-dedup_nat, Contains-from_dedup}
use Rattle.std.proofs.lemmas.List.Sorted.{Contains-permutation, IsPermutation-sym}
use Rattle.std.proofs.lemmas.Map.Keys.{IsStrictlyIncreasing-dedup}
use Rattle.vol_check.proofs.naming.object_numbers.Goals as goal

pub returns-clause-ascending : goal.returns-clause-ascending
returns-clause-ascending c = rw (dedup_is _ _ _ c.dedup.ensures.filtered)
    (IsStrictlyIncreasing-dedup _ c.sort_unstable.ensures.sorted)

pub returns-clause-same : goal.returns-clause-same
returns-clause-same c = λ number.
    let is = dedup_is _ _ _ c.dedup.ensures.filtered in
    let moved = c.sort_unstable.ensures.permutation in
    let all = c.in_ok-numbers.ensures in (
      λ has. subst (λ numbers. Contains numbers number) all
          (Contains-permutation _ _ number (IsPermutation-sym _ _ moved)
          (Contains-from_dedup _ _ number (subst (λ numbers. Contains numbers number) is has))),
      λ has. rw is (Contains-dedup_nat _ number (Contains-permutation _ _ number moved (rw all has))),
    )
