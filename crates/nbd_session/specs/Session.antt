-- Contract: a session as a whole: what a client sends, what the server sends to it, what becomes of the volume, and how it ends.
use Rattle.std.specs.Prelude.{ℕ, ◌≡◌, ◌*◌, ◌^◌, ◌≤◌, ◌⊎◌, Bool, true, false, List, length, flat_map, Option, None, Some}
use Rattle.std.specs.Io.KnownBytes.{Appends, Consumes, IsAtEnd, Keeps}
use Rattle.lsvd_base.specs.declared.geometry.Geometry.{Geometry}
use Rattle.nbd_wire.specs.declared.message.Request.{Request}
use Rattle.nbd_wire.specs.Messages.{request_bytes, IsRequest}
use Rattle.nbd_wire.specs.Reading.{BeginsNoMessage}
use Rattle.nbd_wire.specs.Writing.{WritesFront}
use Rattle.nbd_options.specs.declared.export.Export.{Export}
use Rattle.nbd_options.specs.declared.negotiation.NegotiationEnd.{NegotiationEnd}
use Rattle.nbd_options.specs.declared.negotiation.NegotiationEnd.TheVariants as negotiations
use Rattle.nbd_options.specs.Negotiation.{Negotiates}
use Rattle.nbd_session.specs.declared.asking.Asked.TheVariants.{Disconnect}
use Rattle.nbd_session.specs.declared.session.SessionEnd.{SessionEnd}
use Rattle.nbd_session.specs.declared.session.SessionEnd.TheVariants.{Ended, Closed, Spent, LinkFault, OutOfMemory}
use Rattle.nbd_session.specs.Exchanges.{IsClientRequest, client_request_bytes, request_reply_bytes, asked_at}
use Rattle.nbd_session.specs.Exchanges.{RequestExchange, IsRequestExchange, AreRequestExchanges}
use Rattle.nbd_session.specs.BlockDevice.{BlockRelations, max_session_steps}

-- ---- a link

-- what a link tells: the bytes that are left to read, and those that were written
pub record LinkBytes : Type 0 where
  pub left : Option (List ℕ)
  pub sent : Option (List ℕ)

-- bytes were read, and others written
abbrev pub Passes : (read written : List ℕ) → LinkBytes → LinkBytes → Type 0
Passes read written old new = Consumes old.left new.left read × Appends old.sent new.sent written

-- some bytes were read
abbrev pub ReadsSome : LinkBytes → LinkBytes → Type 0
ReadsSome old new = (bytes : List ℕ) × Consumes old.left new.left bytes × (new.sent ≡ old.sent)

-- ---- requests

-- the most requests of one session
abbrev pub max_requests : ℕ
max_requests = 2 ^ 40

-- the bytes of requests, and those of their replies
abbrev pub asked_bytes : RequestExchange → List ℕ
asked_bytes exchange = client_request_bytes exchange.message

abbrev pub answered_bytes : RequestExchange → List ℕ
answered_bytes exchange = request_reply_bytes exchange.message.request.cookie exchange.outcome

-- requests were read and answered, one after the other
pub record HasServed {M : Type 0} (io : BlockRelations M) (exchanges : List RequestExchange) (first now : LinkBytes)
    (old new : M) : Type 0 where
  pub few : length exchanges ≤ max_requests
  pub passed : Passes (flat_map asked_bytes exchanges) (flat_map answered_bytes exchanges) first now
  pub done : AreRequestExchanges io exchanges old new

-- ---- how it ends

-- a request to disconnect came
pub record Disconnects {M : Type 0} (io : BlockRelations M) (moment : M) (old new : LinkBytes) : Type 0 where
  pub request : Request
  pub is_request : IsRequest (request_bytes request) request
  pub asked : asked_at io moment request ≡ Disconnect
  pub read : Consumes old.left new.left (request_bytes request)
  pub sent : new.sent ≡ old.sent

-- a request was read and carried out, and a front of its reply was written
pub record BreaksInReply {M : Type 0} (io : BlockRelations M) (now last : LinkBytes) (old new : M) : Type 0 where
  pub exchange : RequestExchange
  pub is_exchange : IsRequestExchange io exchange old new
  pub read : Consumes now.left last.left (asked_bytes exchange)
  pub sent : WritesFront (answered_bytes exchange) now.sent last.sent

-- The requests so far, of which there are this many, were answered, and the session ends: by a request to disconnect, or by the
-- end of the input between two requests; by bytes that begin with no request, whole with its data; before a request that would be
-- one too many; or by a call of the link that failed, inside a request, or inside a reply.
abbrev pub EndsSession : {M : Type 0} → BlockRelations M → SessionEnd → (count : ℕ) → (now last : LinkBytes)
    → (old new : M) → Type 0
EndsSession io Ended count now last old new =
    (new ≡ old) × (Disconnects io old now last
    ⊎ (IsAtEnd now.left × Keeps now.left last.left × (last.sent ≡ now.sent)))
EndsSession io Closed count now last old new = (new ≡ old) × BeginsNoMessage IsClientRequest now.left × ReadsSome now last
EndsSession io Spent count now last old new = (new ≡ old) × (last ≡ now)
    × ((count ≡ max_requests) ⊎ (max_session_steps ≤ io.steps old))
EndsSession io LinkFault count now last old new = ((new ≡ old) × ReadsSome now last) ⊎ BreaksInReply io now last old new
EndsSession io OutOfMemory count now last old new = ⊥

-- the transmission of a session, which ended so
pub record Transmits {M : Type 0} (io : BlockRelations M) (end : SessionEnd) (first last : LinkBytes) (old new : M) :
    Type 0 where
  pub exchanges : List RequestExchange
  pub now : LinkBytes
  pub then : M
  pub served : HasServed io exchanges first now old then
  pub ends : EndsSession io end (length exchanges) now last then new

-- ---- a session

-- the end of a session that ended with its negotiation
abbrev pub ended_in : NegotiationEnd → Option SessionEnd
ended_in negotiations.Entered = None
ended_in negotiations.Ended = Some Ended
ended_in negotiations.Closed = Some Closed
ended_in negotiations.LinkFault = Some LinkFault
ended_in negotiations.OutOfMemory = Some OutOfMemory

-- a session negotiates, and where the client has entered the export, it goes on with its requests
abbrev pub IsSession : {M : Type 0} → BlockRelations M → Export → SessionEnd → (first last : LinkBytes)
    → (old new : M) → Type 0
IsSession io export end first last old new =
    ((how : NegotiationEnd) × Negotiates export how first.left last.left first.sent last.sent × (ended_in how ≡ Some end)
    × (new ≡ old))
    ⊎ ((entered : LinkBytes) × Negotiates export negotiations.Entered first.left entered.left first.sent entered.sent
    × Transmits io end entered last old new)

-- a call of the link failed
abbrev pub ended_by_link : SessionEnd → Bool
ended_by_link Ended = false
ended_by_link Closed = false
ended_by_link Spent = false
ended_by_link LinkFault = true
ended_by_link OutOfMemory = false

-- what is exported of a volume: its size and the most of one transfer, in bytes
abbrev pub export_with : (uuid : List ℕ) → Geometry → Export
export_with uuid geometry = record { uuid = uuid; size = geometry.sectors * 512; max_transfer = geometry.max_write * 512 }

abbrev pub export_of : {M : Type 0} → BlockRelations M → M → Export
export_of io moment = export_with (io.uuid moment) (io.geometry moment)
