-- What is asked by a request that is not refused.
use Rattle.std.proofs.Common.{◌≡◌, ◌*◌, ◌/◌, ◌%◌, ◌==◌, Bool, true, false, not, if◌then◌else◌, IsTrue, refl, sym, ap, subst}
use Rattle.std.proofs.Common.{arith}
use Rattle.std.proofs.lemmas.Bool.{or_parts, ltb-false, eqb-true}
use Rattle.std.specs.Prelude.{Option, Some, None}
use Rattle.lsvd_base.specs.declared.geometry.Geometry.{Geometry}
use Rattle.lsvd_base.specs.Limits.{covers}
use Rattle.nbd_wire.specs.declared.message.Request.{Request}
use Rattle.nbd_session.specs.declared.command.Command.{Command}
use Rattle.nbd_session.specs.declared.command.Command.TheVariants.{Read, Write, Disconnect, Flush, Trim, WriteZeroes}
use Rattle.nbd_session.specs.declared.asking.Asked.{Asked}
use Rattle.nbd_session.specs.declared.asking.Asked.TheVariants as asked
use Rattle.nbd_session.specs.declared.asking.RequestError.{RequestError}
use Rattle.nbd_session.specs.declared.asking.RequestError.TheVariants.{Invalid}
use Rattle.nbd_session.specs.Requests.{command_at, has_known_flags, is_unaligned, is_past_end, is_too_long, past_end}
use Rattle.nbd_session.specs.Requests.{range_refusal, first_refusal, taken_as, judged_as, asked_by, asked_of}
use Rattle.nbd_session.specs.Exchanges.{content_size, data_size}
use Rattle.nbd_session.specs.Steps.{MayBeTaken, IsWholeSectors}

-- the data of a write that is taken are just those that it is for
abbrev pub HasSize : Asked → Request → Type 0
HasSize (asked.Write lba sectors durable) request = content_size request ≡ 512 * sectors
HasSize asked request = Unit {0}

-- what a request asks fits the volume, and the data of a write are just those that it is for
pub record IsTaken (geometry : Geometry) (request : Request) (asked : Asked) : Type 0 where
  pub fits : MayBeTaken geometry asked
  pub whole : IsWholeSectors asked request
  pub size : HasSize asked request

-- it is refused by neither
none_of : {E : Type 0} (first : Bool) (error : E) (rest : Option E) → (if first then Some error else rest) ≡ None
    → (first ≡ false) × (rest ≡ None)
none_of true error rest is = let bad : ⊥ = cc in absurd bad
none_of false error rest is = (refl, is)

unknown_flags : {E : Type 0} (known : Bool) (rest : Option E) (error : E) → (if known then rest else Some error) ≡ None
    → rest ≡ None
unknown_flags true rest error is = is
unknown_flags false rest error is = let bad : ⊥ = cc in absurd bad

of_not : (b : Bool) → not b ≡ false → b ≡ true
of_not true is = refl
of_not false is = let bad : ⊥ = cc in absurd bad

-- its bytes are whole sectors, which the volume has
record IsInside (geometry : Geometry) (request : Request) : Type 0 where
  whole : request.length % 512 ≡ 0
  covered : IsTrue (covers geometry (request.offset / 512) (request.length / 512))

is_inside : (geometry : Geometry) (request : Request) → is_unaligned request ≡ false → is_past_end geometry request ≡ false
    → IsInside geometry request
is_inside geometry request aligned inside =
    let parts = or_parts (not (request.offset % 512 == 0)) (not (request.length % 512 == 0)) aligned in
    record {
      whole = eqb-true (request.length % 512) 0 (of_not (request.length % 512 == 0) parts.1);
      covered = of_not (covers geometry (request.offset / 512) (request.length / 512)) inside;
    }

-- of a command with bytes
record Passes (geometry : Geometry) (request : Request) (long : Bool) : Type 0 where
  inside : IsInside geometry request
  short : long ≡ false

passes : (geometry : Geometry) (request : Request) (error : RequestError) (long : Bool)
    → (if is_unaligned request then Some Invalid
    else if is_past_end geometry request then Some error
    else if long then Some Invalid
    else None) ≡ None
    → Passes geometry request long
passes geometry request error long none =
    let first = none_of (is_unaligned request) Invalid _ none in
    let second = none_of (is_past_end geometry request) error _ first.1 in
    let third = none_of long Invalid None second.1 in
    record { inside = is_inside geometry request first.0 second.0; short = third.0 }

taken : (geometry : Geometry) (request : Request) (command : Command) → command_at request.kind ≡ Some command
    → range_refusal geometry request command ≡ None → IsTaken geometry request (taken_as request command)
taken geometry request Read at none =
    let p = passes geometry request (past_end Read) (is_too_long geometry request Read) none in
    record { fits = (ltb-false geometry.max_write (request.length / 512) p.short, p.inside.covered); whole = tt; size = tt }
taken geometry request Write at none =
    let p = passes geometry request (past_end Write) (is_too_long geometry request Write) none in
    let size : content_size request ≡ request.length = ap (data_size request) at in
    record {
      fits = (ltb-false geometry.max_write (request.length / 512) p.short, p.inside.covered);
      whole = p.inside.whole;
      size = omega (arith, size, p.inside.whole);
    }
taken geometry request Disconnect at none = record { fits = tt; whole = tt; size = tt }
taken geometry request Flush at none = record { fits = tt; whole = tt; size = tt }
taken geometry request Trim at none =
    record { fits = (passes geometry request (past_end Trim) false none).inside.covered; whole = tt; size = tt }
taken geometry request WriteZeroes at none =
    record { fits = (passes geometry request (past_end WriteZeroes) false none).inside.covered; whole = tt; size = tt }

refused : (geometry : Geometry) (request : Request) (error : RequestError) → IsTaken geometry request (asked.Refused error)
refused geometry request error = record { fits = tt; whole = tt; size = tt }

judged : (geometry : Geometry) (request : Request) (command : Command) → command_at request.kind ≡ Some command
    → (refusal : Option RequestError)
    → first_refusal geometry request command ≡ refusal → IsTaken geometry request (judged_as request command refusal)
judged geometry request command at None none =
    taken geometry request command at (unknown_flags (has_known_flags request) (range_refusal geometry request command)
    Invalid none)
judged geometry request command at (Some error) is = refused geometry request error

by_command : (geometry : Geometry) (request : Request) (command : Option Command) → command_at request.kind ≡ command
    → IsTaken geometry request (asked_by geometry request command)
by_command geometry request None at = refused geometry request Invalid
by_command geometry request (Some Read) at = judged geometry request Read at (first_refusal geometry request Read) refl
by_command geometry request (Some Write) at = judged geometry request Write at (first_refusal geometry request Write) refl
by_command geometry request (Some Disconnect) at = record { fits = tt; whole = tt; size = tt }
by_command geometry request (Some Flush) at = judged geometry request Flush at (first_refusal geometry request Flush) refl
by_command geometry request (Some Trim) at = judged geometry request Trim at (first_refusal geometry request Trim) refl
by_command geometry request (Some WriteZeroes) at =
    judged geometry request WriteZeroes at (first_refusal geometry request WriteZeroes) refl

-- of each request
pub is_taken : (geometry : Geometry) (request : Request) (asked : Asked) → asked ≡ asked_of geometry request
    → IsTaken geometry request asked
is_taken geometry request asked is =
    subst (IsTaken geometry request) (sym is) (by_command geometry request (command_at request.kind) refl)
