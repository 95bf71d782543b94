-- Contract: the block device that a session serves: what is known of it at a moment, and what each of its calls does between two.
-- Others may make requests of the same volume between these calls, and inside one.
use Rattle.std.specs.Prelude.{◌≡◌, ℕ, ◌^◌, ◌*◌, ◌<◌, ◌≤◌, Bool, true, false, List, [], ◌∷◌, length, Result, Ok, Err}
use Rattle.lsvd_base.specs.declared.entry.Entry.{Entry}
use Rattle.lsvd_base.specs.declared.geometry.Geometry.{Geometry}
use Rattle.nbd_session.specs.declared.block_error.BlockError.{BlockError}
use Rattle.nbd_session.specs.declared.block_error.BlockError.TheVariants.{Io, OutOfMemory}

-- The sizes, the uuid and the steps so far are those of its volume at a moment. Between two moments one call has read these
-- bytes from a sector on; or it has entered these entries, and no other, and a call of the disk or of the store has failed in it,
-- or none has; or it was to make all entries so far durable, which has failed or not.
pub record BlockRelations (M : Type 0) : Type 1 where
  pub geometry : M → Geometry
  pub uuid : M → List ℕ
  pub steps : M → ℕ
  pub reads : (lba : ℕ) → (bytes : List ℕ) → M → M → Type 0
  pub enters : (added : List Entry) → (failed : Bool) → M → M → Type 0
  pub flushes : (failed : Bool) → M → M → Type 0

-- ---- what is known at a moment

abbrev pub geometry_at : {M : Type 0} → BlockRelations M → M → Geometry
geometry_at io moment = io.geometry moment

abbrev pub uuid_at : {M : Type 0} → BlockRelations M → M → List ℕ
uuid_at io moment = io.uuid moment

abbrev pub steps_at : {M : Type 0} → BlockRelations M → M → ℕ
steps_at io moment = io.steps moment

-- a session takes no request more of a volume that has made this many steps
abbrev pub max_session_steps : ℕ
max_session_steps = 2 ^ 58

abbrev pub HasRoom : {M : Type 0} → BlockRelations M → M → Type 0
HasRoom io moment = io.steps moment < max_session_steps

-- A flush may still be made after one other call for which there was room.
abbrev pub MayFlush : {M : Type 0} → BlockRelations M → M → Type 0
MayFlush io moment = io.steps moment ≤ 2 ^ 59

-- ---- calls

-- a call of the disk or of the store has failed
abbrev pub is_io : Result (Unit {0}) BlockError → Bool
is_io (Ok done) = false
is_io (Err Io) = true
is_io (Err OutOfMemory) = false

-- an entry that was answered is entered, and one that was not is not
abbrev pub added_by : Entry → Result (Unit {0}) BlockError → List Entry
added_by entry (Ok done) = entry ∷ []
added_by entry (Err error) = []

abbrev pub Enters : {M : Type 0} → BlockRelations M → Entry → Result (Unit {0}) BlockError → M → M → Type 0
Enters io entry result old new = io.enters (added_by entry result) (is_io result) old new

-- so many sectors from one on were read, which have these bytes, or were not, and nothing was entered
abbrev pub Reads : {M : Type 0} → BlockRelations M → (lba sectors : ℕ) → Result (List ℕ) BlockError → M → M → Type 0
Reads io lba sectors (Ok bytes) old new = (length bytes ≡ 512 * sectors) × io.reads lba bytes old new
Reads io lba sectors (Err error) old new = io.enters [] (is_io (Err error)) old new

-- all entries so far were to be made durable, which has failed or not
abbrev pub Flushes : {M : Type 0} → BlockRelations M → (failed : Bool) → M → M → Type 0
Flushes io failed old new = io.flushes failed old new

-- ---- laws

-- what reads nothing, or enters nothing, may be no call
abbrev pub ReadsNothing : {M : Type 0} → BlockRelations M → Type 0
ReadsNothing {M} io = (lba : ℕ) (moment : M) → io.reads lba [] moment moment

abbrev pub EntersNothing : {M : Type 0} → BlockRelations M → Type 0
EntersNothing {M} io = (moment : M) → io.enters [] false moment moment
