-- Contract: one request of a client, what is answered to it, and what becomes of the volume. It is told by calls of the block
-- device, between moments of it.
use Rattle.std.specs.Prelude.{ℕ, ◌≡◌, ◌*◌, ◌==◌, ◌⊎◌, Bool, true, false, List, [], ◌∷◌, ◌++◌, length, Option, None}
use Rattle.std.specs.Prelude.{Some, IsSome, Result, Ok, Err, if◌then◌else◌}
use Rattle.lsvd_base.specs.declared.entry.Entry.{Entry}
use Rattle.lsvd_base.specs.declared.entry.Entry.TheVariants as entries
use Rattle.nbd_wire.specs.declared.message.Request.{Request}
use Rattle.nbd_wire.specs.Messages.{request_bytes, IsRequest, simple_reply_bytes}
use Rattle.nbd_session.specs.declared.asking.Asked.{Asked}
use Rattle.nbd_session.specs.declared.asking.Asked.TheVariants.{Read, Write, Zero, Flush, Disconnect, Refused}
use Rattle.nbd_session.specs.declared.outcome.ReplyError.{ReplyError}
use Rattle.nbd_session.specs.declared.outcome.ReplyError.TheVariants as errors
use Rattle.nbd_session.specs.declared.command.Command.{Command}
use Rattle.nbd_session.specs.declared.command.Command.TheVariants as commands
use Rattle.nbd_session.specs.declared.block_error.BlockError.{BlockError}
use Rattle.nbd_session.specs.declared.block_error.BlockError.TheVariants as block_errors
use Rattle.nbd_session.specs.Requests.{command_at, asked_of, error_code}
use Rattle.nbd_session.specs.BlockDevice.{BlockRelations, HasRoom}

-- ---- messages

-- a request as a client sends it: the data of a write come after it, and after no other
abbrev pub data_size : Request → Option Command → ℕ
data_size request (Some commands.Write) = request.length
data_size request command = 0

abbrev pub content_size : Request → ℕ
content_size request = data_size request (command_at request.kind)

pub record ClientRequest : Type 0 where
  pub request : Request
  pub content : List ℕ

abbrev pub client_request_bytes : ClientRequest → List ℕ
client_request_bytes message = request_bytes message.request ++ message.content

pub record IsClientRequest (bytes : List ℕ) (message : ClientRequest) : Type 0 where
  pub spelled : bytes ≡ client_request_bytes message
  pub is_request : IsRequest (request_bytes message.request) message.request
  pub size : length message.content ≡ content_size message.request

-- the number of an error in a reply, as the protocol has it: those of a refused request, EIO, and ENOMEM
abbrev pub reply_number : ReplyError → ℕ
reply_number (errors.Refused why) = error_code why
reply_number errors.Io = 5
reply_number errors.NoMemory = 12

-- what comes of a request: the data that are answered, which are none but a read's, or an error
abbrev pub Outcome : Type 0
Outcome = Result (List ℕ) ReplyError

-- the bytes of a reply to the request of a cookie
abbrev pub request_reply_bytes : (cookie : ℕ) → Outcome → List ℕ
request_reply_bytes cookie (Ok content) = simple_reply_bytes 0 cookie content
request_reply_bytes cookie (Err error) = simple_reply_bytes (reply_number error) cookie []

-- the error that tells one of the device
abbrev pub of_block_error : BlockError → ReplyError
of_block_error block_errors.Io = errors.Io
of_block_error block_errors.OutOfMemory = errors.NoMemory

-- ---- what is asked, and what comes of it

-- the sectors are read, which changes nothing of the history
abbrev pub ReadsSectors : {M : Type 0} → BlockRelations M → (lba sectors : ℕ) → Outcome → M → M → Type 0
ReadsSectors io lba sectors (Ok content) old new =
    (length content ≡ 512 * sectors) × io.reads lba content old new
ReadsSectors io lba sectors (Err (errors.Refused why)) old new = ⊥
ReadsSectors io lba sectors (Err errors.Io) old new = io.enters [] true old new
ReadsSectors io lba sectors (Err errors.NoMemory) old new = io.enters [] false old new

-- the entry of a write of these data, and that of a zeroing; there is none of nothing
abbrev pub write_of : (lba : ℕ) → List ℕ → Option Entry
write_of lba [] = None
write_of lba content = Some (entries.Write lba content)

abbrev pub zero_of : (lba sectors : ℕ) → Option Entry
zero_of lba sectors = if sectors == 0 then None else Some (entries.Zero lba sectors)

abbrev pub as_list : Option Entry → List Entry
as_list None = []
as_list (Some entry) = entry ∷ []

-- the entry, if there is one, was entered
abbrev pub EntersIt : {M : Type 0} → BlockRelations M → Option Entry → M → M → Type 0
EntersIt io None old new = new ≡ old
EntersIt io (Some entry) old new = io.enters (entry ∷ []) false old new

-- it was flushed, if it was to be
abbrev pub FlushesIf : {M : Type 0} → BlockRelations M → (durable : Bool) → M → M → Type 0
FlushesIf io false old new = new ≡ old
FlushesIf io true old new = io.flushes false old new

-- the entry was entered, if there is one, and then it was flushed, if it was to be; or it was not entered; or it was, and the
-- flush failed
abbrev pub EntersEntry : {M : Type 0} → BlockRelations M → Option Entry → (durable : Bool) → Outcome → (entered : List Entry)
    → M → M → Type 0
EntersEntry {M} io entry durable (Ok content) entered old new =
    (content ≡ []) × (entered ≡ as_list entry) × (mid : M) × EntersIt io entry old mid × FlushesIf io durable mid new
EntersEntry {M} io entry durable (Err (errors.Refused why)) entered old new = ⊥
EntersEntry {M} io entry durable (Err errors.Io) entered old new =
    (IsSome entry × (entered ≡ []) × io.enters [] true old new)
    ⊎ ((durable ≡ true) × (entered ≡ as_list entry) × (mid : M) × EntersIt io entry old mid
    × io.flushes true mid new)
EntersEntry {M} io entry durable (Err errors.NoMemory) entered old new = (entered ≡ []) × io.enters [] false old new

-- each entry so far was made durable, or that failed
abbrev pub FlushesAll : {M : Type 0} → BlockRelations M → Outcome → (entered : List Entry) → M → M → Type 0
FlushesAll io (Ok content) entered old new = (content ≡ []) × (entered ≡ []) × io.flushes false old new
FlushesAll io (Err (errors.Refused why)) entered old new = ⊥
FlushesAll io (Err errors.Io) entered old new = (entered ≡ []) × io.flushes true old new
FlushesAll io (Err errors.NoMemory) entered old new = ⊥

-- what was asked, with these data, has this outcome, and these entries were entered
abbrev pub CarriesOut : {M : Type 0} → BlockRelations M → Asked → (content : List ℕ) → Outcome → (entered : List Entry) → M
    → M → Type 0
CarriesOut io (Read lba sectors) content outcome entered old new = (entered ≡ [])
    × ReadsSectors io lba sectors outcome old new
CarriesOut io (Write lba sectors durable) content outcome entered old new =
    EntersEntry io (write_of lba content) durable outcome entered old new
CarriesOut io (Zero lba sectors durable) content outcome entered old new =
    EntersEntry io (zero_of lba sectors) durable outcome entered old new
CarriesOut io Flush content outcome entered old new = FlushesAll io outcome entered old new
CarriesOut io Disconnect content outcome entered old new = (outcome ≡ Ok []) × (entered ≡ []) × (new ≡ old)
CarriesOut io (Refused why) content outcome entered old new = (outcome ≡ Err (errors.Refused why)) × (entered ≡ [])
    × (new ≡ old)

-- ---- an exchange

-- a request, what came of it, and the entries that were entered for it
pub record RequestExchange : Type 0 where
  pub message : ClientRequest
  pub outcome : Outcome
  pub entered : List Entry

-- what a request asks of the volume at a moment
abbrev pub asked_at : {M : Type 0} → BlockRelations M → M → Request → Asked
asked_at io moment request = asked_of (io.geometry moment) request

-- a request that was answered, between two moments; one to disconnect is not
pub record IsRequestExchange {M : Type 0} (io : BlockRelations M) (exchange : RequestExchange) (old new : M) :
    Type 0 where
  pub message : IsClientRequest (client_request_bytes exchange.message) exchange.message
  pub room : HasRoom io old
  pub stays : asked_at io old exchange.message.request ≡ Disconnect → ⊥
  pub done : CarriesOut io (asked_at io old exchange.message.request) exchange.message.content exchange.outcome
      exchange.entered old new

-- requests that were answered one after the other
abbrev pub AreRequestExchanges : {M : Type 0} → BlockRelations M → List RequestExchange → M → M → Type 0
AreRequestExchanges {M} io [] old new = new ≡ old
AreRequestExchanges {M} io (exchange ∷ rest) old new = (mid : M) × IsRequestExchange io exchange old mid
    × AreRequestExchanges io rest mid new
