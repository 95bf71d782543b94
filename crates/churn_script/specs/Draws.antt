-- Contract: the draws of a generated script, and which command each of its steps is.
use Rattle.std.specs.Prelude.{ℕ, ◌+◌, ◌*◌, ◌/◌, ◌%◌, ◌^◌, ◌==◌, nat_lt, if◌then◌else◌, Bool, true, false, Option, Some, None}
use Rattle.std.specs.Prelude.{codes}
use Rattle.replay_script.specs.declared.command.Command.{Command}
use Rattle.replay_script.specs.declared.command.Command.TheVariants.{Write, Zero, Read, Flush, Seal, TakeJob, JobDone}
use Rattle.replay_script.specs.declared.command.Command.TheVariants.{SealCheckpoint, Remove, PlanCopy, SealCopy, Status}
use Rattle.replay_script.specs.declared.command.Command.TheVariants.{CrashKeep}

-- ---- draws

-- the state after a draw
unfoldable pub after_draw : (state : ℕ) → ℕ
after_draw state = (state * 6364136223846793005 + 1442695040888963407) % 2 ^ 64

-- the number below a bound that a draw gives: the upper 31 bits of the state after it, modulo the bound
unfoldable pub draw_below : (bound state : ℕ) → ℕ
draw_below bound state = (after_draw state / 2 ^ 33) % bound

-- ---- commands

-- a write draws where it begins, then how many sectors it has, and then their byte
abbrev pub write_drawn : (state : ℕ) → Command
write_drawn state =
    Write (draw_below 1024 state) (1 + draw_below 8 (after_draw state)) (draw_below 256 (after_draw (after_draw state)))

-- a zeroing and a read draw where they begin, and then how many sectors they have
abbrev pub zero_drawn : (state : ℕ) → Command
zero_drawn state = Zero (draw_below 1024 state) (1 + draw_below 64 (after_draw state))

abbrev pub read_drawn : (state : ℕ) → Command
read_drawn state = Read (draw_below 1024 state) (1 + draw_below 8 (after_draw state))

-- the lowest put that is out is done; where none is, the counts are asked for
abbrev pub end_of_put : (lowest : Option ℕ) → Command
end_of_put None = Status
end_of_put (Some number) = JobDone number

-- a copy is sealed where its plan is out, and else planned
abbrev pub step_of_copy : (has_plan : Bool) → Command
step_of_copy true = SealCopy
step_of_copy false = PlanCopy

-- a stop that keeps each write, and in which no object has landed
abbrev pub crash_drawn : Command
crash_drawn = CrashKeep (codes "-") (codes "-")

-- the command of one of the 16 kinds, which goes on drawing from this state
abbrev pub command_of_kind : (kind : ℕ) → (lowest : Option ℕ) → (has_plan : Bool) → (state : ℕ) → Command
command_of_kind kind lowest has_plan state =
    if nat_lt kind 5 then write_drawn state
    else (if kind == 5 then zero_drawn state
    else (if nat_lt kind 8 then read_drawn state
    else (if kind == 8 then Seal
    else (if kind == 9 then TakeJob
    else (if kind == 10 then end_of_put lowest
    else (if kind == 11 then SealCheckpoint
    else (if kind == 12 then step_of_copy has_plan
    else (if kind == 13 then Remove
    else (if kind == 14 then crash_drawn
    else Flush)))))))))

-- ---- steps

-- the kind of a step is drawn first
abbrev pub kind_drawn : (state : ℕ) → ℕ
kind_drawn state = draw_below 16 state

-- the command of a step, by the lowest number whose put is out, and by whether a plan of a copy is out
abbrev pub command_drawn : (lowest : Option ℕ) → (has_plan : Bool) → (state : ℕ) → Command
command_drawn lowest has_plan state = command_of_kind (kind_drawn state) lowest has_plan (after_draw state)

-- the state after what a kind draws
abbrev pub after_kind : (kind state : ℕ) → ℕ
after_kind kind state =
    if nat_lt kind 5 then after_draw (after_draw (after_draw state))
    else (if nat_lt kind 8 then after_draw (after_draw state) else state)

-- the state after a step
abbrev pub after_step : (state : ℕ) → ℕ
after_step state = after_kind (kind_drawn state) (after_draw state)
