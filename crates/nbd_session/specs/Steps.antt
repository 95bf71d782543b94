-- For this crate's own clauses: the steps of a session.
use Rattle.std.specs.Prelude.{ℕ, ◌≡◌, ◌*◌, ◌/◌, ◌%◌, ◌≤◌, IsTrue, Bool, true, false, List, [], length, Option, IfSome, Result, Ok}
use Rattle.std.specs.Prelude.{Err}
use Rattle.lsvd_base.specs.declared.geometry.Geometry.{Geometry}
use Rattle.lsvd_base.specs.Limits.{covers}
use Rattle.nbd_wire.specs.declared.message.Request.{Request}
use Rattle.nbd_wire.specs.declared.wire_end.WireEnd.{WireEnd}
use Rattle.nbd_wire.specs.declared.wire_end.WireEnd.TheVariants as wire
use Rattle.nbd_session.specs.declared.asking.Asked.{Asked}
use Rattle.nbd_session.specs.declared.asking.Asked.TheVariants.{Read, Write, Zero}
use Rattle.nbd_session.specs.declared.outcome.ReplyError.{ReplyError}
use Rattle.nbd_session.specs.declared.outcome.ReplyError.TheVariants as errors
use Rattle.nbd_session.specs.declared.session.SessionEnd.{SessionEnd}
use Rattle.nbd_session.specs.declared.session.SessionEnd.TheVariants as ends
use Rattle.nbd_session.specs.Exchanges.{Outcome, FlushesIf, RequestExchange, IsRequestExchange}
use Rattle.nbd_session.specs.Session.{LinkBytes, Passes, asked_bytes, answered_bytes, Disconnects, EndsSession}
use Rattle.nbd_session.specs.BlockDevice.{BlockRelations}

-- ---- the data of a write

-- the data of a request, where they were kept
abbrev pub IsContent : List ℕ → Option (List ℕ) → Type 0
IsContent bytes body = IfSome body (λ kept. kept ≡ bytes)

-- those of a write that is taken are whole sectors
abbrev pub IsWholeSectors : Asked → Request → Type 0
IsWholeSectors (Write lba sectors durable) request = request.length % 512 ≡ 0
IsWholeSectors asked request = Unit {0}

-- and just those that it is for
abbrev pub HasItsContent : Asked → List ℕ → Type 0
HasItsContent (Write lba sectors durable) content = length content ≡ 512 * sectors
HasItsContent asked content = Unit {0}

-- ---- what is asked

-- the volume has the sectors, and one call may be about so many
abbrev pub MayBeTaken : Geometry → Asked → Type 0
MayBeTaken geometry (Read lba sectors) = (sectors ≤ geometry.max_write) × IsTrue (covers geometry lba sectors)
MayBeTaken geometry (Write lba sectors durable) = (sectors ≤ geometry.max_write) × IsTrue (covers geometry lba sectors)
MayBeTaken geometry (Zero lba sectors durable) = IsTrue (covers geometry lba sectors)
MayBeTaken geometry asked = Unit {0}

-- so it is with data that are to be written
abbrev pub WriteFits : Geometry → (lba : ℕ) → List ℕ → Type 0
WriteFits geometry lba content = (length content / 512 ≤ geometry.max_write) × IsTrue (covers geometry lba (length content / 512))

-- it was flushed, if it was to be, or that failed
abbrev pub FlushesOrNot : {M : Type 0} → BlockRelations M → (durable : Bool) → Result (Unit {0}) ReplyError → M → M
    → Type 0
FlushesOrNot io durable (Ok done) old new = FlushesIf io durable old new
FlushesOrNot io durable (Err (errors.Refused why)) old new = ⊥
FlushesOrNot io durable (Err errors.Io) old new = (durable ≡ true) × io.flushes true old new
FlushesOrNot io durable (Err errors.NoMemory) old new = ⊥

-- what comes of a request without data in its answer
abbrev pub done_by : Result (Unit {0}) ReplyError → Outcome
done_by (Ok done) = Ok []
done_by (Err error) = Err error

-- ---- a request

-- the end that comes where no message could be read or written
abbrev pub of_wire : WireEnd → SessionEnd
of_wire wire.Ended = ends.Ended
of_wire wire.Closed = ends.Closed
of_wire wire.LinkFault = ends.LinkFault

-- a request was read and answered, and the session goes on; or it is one to disconnect; or the session ends by the link
abbrev pub ServesRequest : {M : Type 0} → BlockRelations M → Result Bool WireEnd → (first last : LinkBytes)
    → (old new : M) → Type 0
ServesRequest io (Ok true) first last old new =
    (exchange : RequestExchange) × IsRequestExchange io exchange old new
    × Passes (asked_bytes exchange) (answered_bytes exchange) first last
ServesRequest io (Ok false) first last old new = (new ≡ old) × Disconnects io old first last
ServesRequest io (Err end) first last old new = EndsSession io (of_wire end) 0 first last old new
