-- Contract: a function that answers as a test says.
use Rattle.std.specs.Prelude.{Bool, ◌≡◌}
use Rattle.std.specs.Borrow.{Bor}
use Rattle.std.specs.Fn.{Shared, FnReturnsAt}

-- a function answers at each item as a test says
abbrev pub AnswersBy : {F T : Type 0} → Shared F (Bor T × Unit {0}) Bool → F → (T → Bool) → Type 0
AnswersBy {F} {T} g f test = (item : T) (answer : Bool) → FnReturnsAt g f item answer → answer ≡ test item
