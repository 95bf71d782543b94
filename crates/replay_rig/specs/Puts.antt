-- Contract: what is seen of the objects under way, and what the steps of puts make of them.
use Rattle.std.specs.Prelude.{◌≡◌, ℕ, ◌==◌, nat_lt, if◌then◌else◌, Bool, true, false, Option, Some, None, List, [], ◌∷◌}
use Rattle.std.specs.Prelude.{find, option_map}
use Rattle.upload_window.specs.declared.object.OpenObject.{OpenObject}
use Rattle.object_uploads.specs.State.{JobState}

-- an object under way: its number, its bytes, and whether its put is out
pub record PutView : Type 0 where
  pub number : ℕ
  pub bytes : List ℕ
  pub is_out : Bool

-- the objects under way, in ascending order of their numbers, and for how many more there is memory
pub record PutsState : Type 0 where
  pub list : List PutView
  pub room : ℕ

-- ---- one object

-- the object of a number, which stands before those of greater ones
abbrev pub put_of : (number : ℕ) → List PutView → Option PutView
put_of number [] = None
put_of number (put ∷ puts) =
    if nat_lt put.number number then put_of number puts else (if put.number == number then Some put else None)

-- its put is out
abbrev pub is_put_out : Option PutView → Bool
is_put_out None = false
is_put_out (Some put) = put.is_out

-- the lowest number whose put is out: the objects ascend, so it is that of the first one
abbrev pub lowest_out : List PutView → Option ℕ
lowest_out puts = option_map (λ put. put.number) (find (λ put. put.is_out) puts)

-- the same of the open objects of a window
abbrev pub lowest_started : List OpenObject → Option ℕ
lowest_started objects = option_map (λ object. object.number) (find (λ object. object.is_started) objects)

-- ---- steps

-- an object whose put is out
abbrev pub out_put : (number : ℕ) → (bytes : List ℕ) → PutView
out_put number bytes = record { number = number; bytes = bytes; is_out = true }

-- a put of it began
abbrev pub with_begun : (number : ℕ) → (bytes : List ℕ) → List PutView → List PutView
with_begun number bytes [] = out_put number bytes ∷ []
with_begun number bytes (put ∷ puts) =
    if nat_lt put.number number then put ∷ with_begun number bytes puts
    else (if put.number == number then out_put number bytes ∷ puts else out_put number bytes ∷ put ∷ puts)

-- its put failed
abbrev pub with_failed : (number : ℕ) → List PutView → List PutView
with_failed number [] = []
with_failed number (put ∷ puts) =
    if nat_lt put.number number then put ∷ with_failed number puts
    else (if put.number == number then record put { is_out = false } ∷ puts else put ∷ puts)

-- it was acknowledged
abbrev pub without_put : (number : ℕ) → List PutView → List PutView
without_put number [] = []
without_put number (put ∷ puts) =
    if nat_lt put.number number then put ∷ without_put number puts
    else (if put.number == number then puts else put ∷ puts)

-- a put of the object of a number is out, which has these bytes
abbrev pub IsPutOut : (number : ℕ) → (bytes : List ℕ) → List PutView → Type 0
IsPutOut number bytes puts = put_of number puts ≡ Some (out_put number bytes)

-- the job of the put that was out was taken
abbrev pub IsJobTaken : (number : ℕ) → JobState → List PutView → Type 0
IsJobTaken number job puts = (job.name.number ≡ number) × IsPutOut number job.bytes puts
