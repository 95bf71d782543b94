use Rattle.std.proofs.Common.{◌≡◌, ◌-◌, ◌*◌, ◌≤◌, ◌++◌, length}
use Rattle.super_format.specs.Ancestors.{chain_in}
use Rattle.super_format.proofs.ancestors.read_ancestors.Given as goal

-- the ancestors so far and those in the rest are all of them, and there is room for these
abbrev pub invariant-loop : goal.invariant-loop
invariant-loop l = record {
  all : l.ancestors.items ++ chain_in (l.count - l.counter) l.rest ≡ chain_in l.count l.bytes;
  room : 24 * (l.count - l.counter) ≤ length l.rest;
}
