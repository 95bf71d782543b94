-- Contract: which objects of the plain volume may be removed, and what removals answer and leave.
use Rattle.std.specs.Prelude.{ℕ, ◌-◌, ◌==◌, Option, Some, None, Bool, false, not, ◌&&◌, nat_lt, List, [], ◌∷◌, ◌++◌, find}
use Rattle.std.specs.Prelude.{if◌then◌else◌}
use Rattle.std.specs.List.{list_any, range_with_len, filter}
use Rattle.object_stream.specs.declared.object.CopiedSector.{CopiedSector}
use Rattle.object_stream.specs.Landed.{Numbers}
use Rattle.object_stream.specs.Stream.{is_own}
use Rattle.plain_disk.specs.declared.event.PlainReply.{PlainReply}
use Rattle.plain_disk.specs.declared.event.PlainReply.TheVariants.{Removing, Removed, GivenBack, Nothing}
use Rattle.plain_disk.specs.State.{PlainState, PlainCheckpoint}

-- ---- which may be removed

-- the checkpoint maps the object of this number
abbrev pub maps : PlainCheckpoint → (number : ℕ) → Bool
maps checkpoint number = list_any (is_own number) checkpoint.owned

-- the number is one of these
abbrev pub has : List ℕ → (number : ℕ) → Bool
has numbers number = list_any (λ other. other == number) numbers

-- a plan of a copy takes a sector from the object of this number
abbrev pub copies_from : (plan : Option (List CopiedSector)) → (number : ℕ) → Bool
copies_from None number = false
copies_from (Some plan) number = list_any (λ copied. copied.source == number) plan

-- An object may be removed that the newest acknowledged checkpoint has a greater number than, and does not map, where no plan
-- of a read pins it, no plan of a copy takes a sector from it, no hold keeps it, and it was not removed. What was given out for
-- removal and came back may be given out again.
abbrev pub is_removable : PlainState → (number : ℕ) → Bool
is_removable state number =
    nat_lt number state.checkpoint.number && not (maps state.checkpoint number) && not (has state.pins number)
    && not (copies_from state.plan number) && not (has state.held number) && not (has state.removed number)

-- the lowest number that may be removed, where no removal is out
abbrev pub to_remove : PlainState → Option ℕ
to_remove state = find (is_removable state) (range_with_len 1 (state.checkpoint.number - 1))

-- ---- a removal begins

abbrev pub reply_of_removal : (out lowest : Option ℕ) → PlainReply
reply_of_removal None (Some number) = Removing number
reply_of_removal None None = Nothing
reply_of_removal (Some other) lowest = Nothing

abbrev pub take_remove_reply : PlainState → PlainReply
take_remove_reply state = reply_of_removal state.removal (to_remove state)

abbrev pub with_removal : (out lowest : Option ℕ) → PlainState → PlainState
with_removal None (Some number) state = record state {
  given_out = state.given_out ++ number ∷ [];
  removal = Some number;
}
with_removal None None state = state
with_removal (Some other) lowest state = state

abbrev pub after_take_remove : PlainState → PlainState
after_take_remove state = with_removal state.removal (to_remove state) state

-- ---- it is done, or failed

-- the removal of this number is out
abbrev pub is_out : (number : ℕ) → Option ℕ → Bool
is_out number None = false
is_out number (Some out) = out == number

abbrev pub remove_done_reply : PlainState → (number : ℕ) → PlainReply
remove_done_reply state number = if is_out number state.removal then Removed else Nothing

abbrev pub after_remove_done : (number : ℕ) → PlainState → PlainState
after_remove_done number state =
    if is_out number state.removal then record state { removed = state.removed ++ number ∷ []; removal = None } else state

abbrev pub remove_failed_reply : PlainState → (number : ℕ) → PlainReply
remove_failed_reply state number = if is_out number state.removal then GivenBack else Nothing

abbrev pub after_remove_failed : (number : ℕ) → PlainState → PlainState
after_remove_failed number state = if is_out number state.removal then record state { removal = None } else state

-- ---- after a stop

-- of the objects that were given out for removal, those that a store does not have
abbrev pub absent_of : Numbers → (given_out : List ℕ) → List ℕ
absent_of landed given_out = filter (λ number. not (landed number)) given_out
