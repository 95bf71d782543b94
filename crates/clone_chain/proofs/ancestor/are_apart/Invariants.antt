use Rattle.clone_chain.proofs.LevelLemmas.{AreApartTo}
use Rattle.clone_chain.proofs.ancestor.are_apart.Given as goal

-- no two of those before the place have one uuid
abbrev pub invariant-loop-place : goal.invariant-loop-place
invariant-loop-place l = AreApartTo l.place l.ancestors
