-- For this crate's own clauses: which object may start, by the lowest open number.
use Rattle.std.specs.Prelude.{ℕ, Bool, not, ◌&&◌, ◌||◌, nat_le, List}
use Rattle.std.specs.List.{list_any}
use Rattle.upload_window.specs.declared.object.OpenObject.{OpenObject}
use Rattle.upload_window.specs.Window.{has_number}

-- an object's put is not under way, and if it is a checkpoint, no lower number is open
abbrev pub may_start : ℕ → OpenObject → Bool
may_start lowest object = not object.is_started && (not object.is_checkpoint || nat_le object.number lowest)

-- a number is open, and its object may start
abbrev pub number_may_start : (number lowest : ℕ) → List OpenObject → Bool
number_may_start number lowest objects = list_any (λ object. has_number number object && may_start lowest object) objects
