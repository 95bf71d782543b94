-- For this crate's own clauses: what is kept of an object under way, and of the plan of a copy that is out.
use Rattle.std.specs.Prelude.{◌≡◌, ℕ, Bool, true, false, Option, Some, None, List}
use Rattle.gc_copier.specs.Plan.{PlanState}
use Rattle.gc_copier.specs.Copying.{CopiedState, IsCopyOf}
use Rattle.replay_rig.specs.declared.puts.Held.{Held}
use Rattle.replay_rig.specs.declared.puts.Held.TheVariants.{Out, Failed}

-- its bytes
abbrev pub bytes_held : Held → List ℕ
bytes_held (Out job) = job.bytes
bytes_held (Failed bytes) = bytes

-- its put is out
abbrev pub is_held_out : Held → Bool
is_held_out (Out job) = true
is_held_out (Failed bytes) = false

-- a job is that of the object
abbrev pub IsHeldFor : (number : ℕ) → Held → Type 0
IsHeldFor number (Out job) = job.name.number ≡ number
IsHeldFor number (Failed bytes) = Unit {0}

-- what was copied is kept just where a plan is out, by which it was copied
abbrev pub IsHeldCopy : (plan : Option PlanState) → (copied : Option CopiedState) → Type 0
IsHeldCopy None None = Unit {0}
IsHeldCopy None (Some copied) = ⊥
IsHeldCopy (Some plan) None = ⊥
IsHeldCopy (Some plan) (Some copied) = IsCopyOf plan copied
