-- Contract: the objects on their way to the store, the frontier below them, and which of them is ready.
use Rattle.std.specs.Prelude.{ℕ, ◌-◌, ◌<◌, ◌≤◌, ◌≡◌, ◌↔◌, Bool, false, IsTrue, not, ◌&&◌, ◌||◌, nat_eq, nat_lt, if◌then◌else◌}
use Rattle.std.specs.Prelude.{Option, option_map, List, [], ◌∷◌, ◌++◌, find}
use Rattle.std.specs.List.{All, list_any}
use Rattle.upload_window.specs.declared.object.OpenObject.{OpenObject}

-- a window: each number up to the last that is not open is acknowledged
pub record WindowState : Type 0 where
  -- the greatest number that was entered
  pub last : ℕ
  -- the open objects, those that are not acknowledged
  pub objects : List OpenObject

-- the objects' numbers ascend above `low`, none above `last`
abbrev pub Ascends : ℕ → List OpenObject → ℕ → Type 0
Ascends low [] last = low ≤ last
Ascends low (object ∷ objects) last = (low < object.number) × Ascends object.number objects last

-- the open objects are in ascending order, from 1 up to the last number at most
abbrev pub IsInOrder : WindowState → Type 0
IsInOrder window = Ascends 0 window.objects window.last

-- each object whose put is under way was started
abbrev pub KeepsStarts : WindowState → Type 0
KeepsStarts window = All (λ object. IsTrue object.is_started → IsTrue object.was_started) window.objects

-- what holds of each window
pub record IsWindow (window : WindowState) : Type 0 where
  pub order : IsInOrder window
  pub starts : KeepsStarts window

abbrev pub has_number : ℕ → OpenObject → Bool
has_number number object = nat_eq object.number number

-- a number was entered and is not open
pub record IsAcknowledged (window : WindowState) (number : ℕ) : Type 0 where
  pub was_entered : number ≤ window.last
  pub not_open : list_any (has_number number) window.objects ≡ false

-- each number from 1 to this one is acknowledged
abbrev pub IsAcknowledgedTo : WindowState → ℕ → Type 0
IsAcknowledgedTo window to = (number : ℕ) → 0 < number → number ≤ to → IsAcknowledged window number

-- the frontier: the greatest number such that each from 1 to it is acknowledged
pub record IsFrontier (window : WindowState) (frontier : ℕ) : Type 0 where
  pub reached : IsAcknowledgedTo window frontier
  pub greatest : (to : ℕ) → IsAcknowledgedTo window to → to ≤ frontier

-- one less than the lowest number of these, or the last number where there is none
abbrev pub below_lowest : List OpenObject → ℕ → ℕ
below_lowest [] last = last
below_lowest (object ∷ objects) last = object.number - 1

abbrev pub below_open : WindowState → ℕ
below_open window = below_lowest window.objects window.last

-- a window in order has that number for its frontier, and no other
abbrev pub HasFrontierBelowOpen : Type 0
HasFrontierBelowOpen =
    (window : WindowState) → IsInOrder window
    → (frontier : ℕ) → IsFrontier window frontier ↔ (frontier ≡ below_open window)

-- an open object is ready: its put is not under way, and if it is a checkpoint, no lower number is open
abbrev pub is_ready : List OpenObject → OpenObject → Bool
is_ready objects object =
    not object.is_started
    && (not object.is_checkpoint || not (list_any (λ other. nat_lt other.number object.number) objects))

-- a number is open, and its object is ready
abbrev pub is_ready_number : ℕ → List OpenObject → Bool
is_ready_number number objects = list_any (λ object. has_number number object && is_ready objects object) objects

-- the lowest ready number: the objects ascend, so it is that of the first that is ready
abbrev pub lowest_ready : List OpenObject → Option ℕ
lowest_ready objects = option_map (λ object. object.number) (find (is_ready objects) objects)

abbrev pub is_started_with : ℕ → OpenObject → Bool
is_started_with number object = has_number number object && object.is_started

-- a number is open, and its put is under way
abbrev pub is_started : ℕ → List OpenObject → Bool
is_started number objects = list_any (is_started_with number) objects

abbrev pub was_started_with : ℕ → OpenObject → Bool
was_started_with number object = has_number number object && object.was_started

-- a number is open, and a put of it was ever begun
abbrev pub was_started : ℕ → List OpenObject → Bool
was_started number objects = list_any (was_started_with number) objects

-- in a window, each number whose put is under way was started
abbrev pub StartedNumbersWereStarted : Type 0
StartedNumbersWereStarted =
    (window : WindowState) → KeepsStarts window
    → (number : ℕ) → IsTrue (is_started number window.objects) → IsTrue (was_started number window.objects)

-- the objects after the one of this number was started, or made ready; that it was started once stays known
abbrev pub with_started : ℕ → Bool → List OpenObject → List OpenObject
with_started number started [] = []
with_started number started (object ∷ objects) =
    (if has_number number object
    then record object { is_started = started; was_started = object.was_started || started } ∷ objects
    else object ∷ with_started number started objects)

-- the objects without the one of this number
abbrev pub without : ℕ → List OpenObject → List OpenObject
without number [] = []
without number (object ∷ objects) =
    (if has_number number object then objects else object ∷ without number objects)

-- a window after an object was entered
abbrev pub entered : ℕ → Bool → WindowState → WindowState
entered number is_checkpoint window = record {
  last = number;
  objects =
      window.objects
      ++ record { number = number; is_checkpoint = is_checkpoint; is_started = false; was_started = false } ∷ [];
}

-- a window after a put began, or failed
abbrev pub marked : ℕ → Bool → WindowState → WindowState
marked number started window = record window { objects = with_started number started window.objects }

-- a window after a put was done
abbrev pub acknowledged : ℕ → WindowState → WindowState
acknowledged number window = record window { objects = without number window.objects }
