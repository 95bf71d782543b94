-- Contract: what a request of a client asks of a volume, and when it is refused. Commands, flags and errors have the numbers of
-- the NBD protocol document; which requests are refused, and in which order that is judged, is this project's own where the
-- document leaves it.
use Rattle.std.specs.Prelude.{ℕ, ◌/◌, ◌%◌, ◌==◌, Bool, true, false, not, ◌||◌, bit_and, nat_lt, Option, Some, None, if◌then◌else◌}
use Rattle.lsvd_base.specs.declared.geometry.Geometry.{Geometry}
use Rattle.lsvd_base.specs.Limits.{covers}
use Rattle.nbd_wire.specs.declared.message.Request.{Request}
use Rattle.nbd_session.specs.declared.command.Command.{Command}
use Rattle.nbd_session.specs.declared.command.Command.TheVariants.{Read, Write, Disconnect, Flush, Trim, WriteZeroes}
use Rattle.nbd_session.specs.declared.asking.Asked.{Asked}
use Rattle.nbd_session.specs.declared.asking.Asked.TheVariants as asked
use Rattle.nbd_session.specs.declared.asking.RequestError.{RequestError}
use Rattle.nbd_session.specs.declared.asking.RequestError.TheVariants.{Invalid, NoSpace}

-- the number of an error in a reply
abbrev pub error_code : RequestError → ℕ
error_code Invalid = 22
error_code NoSpace = 28

-- the command whose type this is
abbrev pub command_at : ℕ → Option Command
command_at kind =
    if kind == 0 then Some Read
    else if kind == 1 then Some Write
    else if kind == 2 then Some Disconnect
    else if kind == 3 then Some Flush
    else if kind == 4 then Some Trim
    else if kind == 6 then Some WriteZeroes
    else None

-- the flags are known ones: bit 0, that what is written is to be durable before the reply, and bit 1, that no hole is to be made
abbrev pub has_known_flags : Request → Bool
has_known_flags request = nat_lt request.flags 4

abbrev pub is_durable : Request → Bool
is_durable request = not (bit_and request.flags 1 == 0)

-- its bytes are no whole sectors
abbrev pub is_unaligned : Request → Bool
is_unaligned request = not (request.offset % 512 == 0) || not (request.length % 512 == 0)

-- its sectors are not all inside the volume
abbrev pub is_past_end : Geometry → Request → Bool
is_past_end geometry request = not (covers geometry (request.offset / 512) (request.length / 512))

-- the error of a request past the end
abbrev pub past_end : Command → RequestError
past_end Write = NoSpace
past_end WriteZeroes = NoSpace
past_end command = Invalid

-- it has more sectors than one read or write may have
abbrev pub is_too_long : Geometry → Request → Command → Bool
is_too_long geometry request Read = nat_lt geometry.max_write (request.length / 512)
is_too_long geometry request Write = nat_lt geometry.max_write (request.length / 512)
is_too_long geometry request command = false

-- the first reason for which the bytes of a request are refused
abbrev pub range_refusal : Geometry → Request → Command → Option RequestError
range_refusal geometry request Flush = None
range_refusal geometry request command =
    if is_unaligned request then Some Invalid
    else if is_past_end geometry request then Some (past_end command)
    else if is_too_long geometry request command then Some Invalid
    else None

-- the first reason for which a request with this command is refused
abbrev pub first_refusal : Geometry → Request → Command → Option RequestError
first_refusal geometry request command =
    if has_known_flags request then range_refusal geometry request command else Some Invalid

-- what a request asks that is not refused
abbrev pub taken_as : Request → Command → Asked
taken_as request Read = asked.Read (request.offset / 512) (request.length / 512)
taken_as request Write = asked.Write (request.offset / 512) (request.length / 512) (is_durable request)
taken_as request Trim = asked.Zero (request.offset / 512) (request.length / 512) (is_durable request)
taken_as request WriteZeroes = asked.Zero (request.offset / 512) (request.length / 512) (is_durable request)
taken_as request Flush = asked.Flush
taken_as request Disconnect = asked.Disconnect

abbrev pub judged_as : Request → Command → Option RequestError → Asked
judged_as request command (Some error) = asked.Refused error
judged_as request command None = taken_as request command

-- what a request with this command asks; whoever disconnects is not judged
abbrev pub asked_by : Geometry → Request → Option Command → Asked
asked_by geometry request None = asked.Refused Invalid
asked_by geometry request (Some Disconnect) = asked.Disconnect
asked_by geometry request (Some command) = judged_as request command (first_refusal geometry request command)

-- what a request asks
abbrev pub asked_of : Geometry → Request → Asked
asked_of geometry request = asked_by geometry request (command_at request.kind)

-- it is to end the session
abbrev pub is_to_disconnect : Asked → Bool
is_to_disconnect (asked.Read lba sectors) = false
is_to_disconnect (asked.Write lba sectors durable) = false
is_to_disconnect (asked.Zero lba sectors durable) = false
is_to_disconnect asked.Flush = false
is_to_disconnect asked.Disconnect = true
is_to_disconnect (asked.Refused why) = false
