-- For this crate's own clauses: the steps of a negotiation.
use Rattle.std.specs.Prelude.{ℕ, ◌≡◌, ◌⊎◌, Bool, List, [], Option, Result, Ok, Err}
use Rattle.std.specs.Io.KnownBytes.{Appends, Consumes, IsAtEnd, Keeps}
use Rattle.nbd_wire.specs.declared.wire_end.WireEnd.{WireEnd}
use Rattle.nbd_wire.specs.declared.wire_end.WireEnd.TheVariants as wire
use Rattle.nbd_wire.specs.Reading.{BeginsNoMessage}
use Rattle.nbd_wire.specs.Writing.{WritesFront}
use Rattle.nbd_options.specs.declared.export.Export.{Export}
use Rattle.nbd_options.specs.declared.answer.Answer.{Answer}
use Rattle.nbd_options.specs.declared.negotiation.NegotiationEnd.{NegotiationEnd}
use Rattle.nbd_options.specs.Negotiation.{ClientOption, client_option_bytes, IsClientOption, Exchange, IsExchange, reply_bytes}
use Rattle.nbd_options.specs.Negotiation.{Stage, Answering, has_zeroes, HasCome, OnInput, Negotiates, end_from}

-- how a negotiation ended, by its own end or by one of a message
abbrev pub end_in : Result NegotiationEnd WireEnd → NegotiationEnd
end_in (Ok end) = end
end_in (Err e) = end_from e

-- some bytes were read
abbrev pub ReadsSomeBytes : Option (List ℕ) → Option (List ℕ) → Type 0
ReadsSomeBytes old new = (bytes : List ℕ) × Consumes old new bytes

-- an option was read and answered, and nothing of the link's input past it was read; or why not
abbrev pub AnswersOption : Export → Bool → (old new written_old written_new : Option (List ℕ)) → Result Answer WireEnd → Type 0
AnswersOption export zeroes old new written_old written_new (Ok answer) =
    (option : ClientOption) × IsExchange export (record { option = option; answer = answer })
    × Consumes old new (client_option_bytes option)
    × Appends written_old written_new (reply_bytes export zeroes (record { option = option; answer = answer }))
AnswersOption export zeroes old new written_old written_new (Err wire.Ended) = IsAtEnd old × Keeps old new
    × (written_new ≡ written_old)
AnswersOption export zeroes old new written_old written_new (Err wire.Closed) =
    BeginsNoMessage IsClientOption old × ReadsSomeBytes old new × (written_new ≡ written_old)
AnswersOption export zeroes old new written_old written_new (Err wire.LinkFault) =
    (ReadsSomeBytes old new × (written_new ≡ written_old))
    ⊎ ((exchange : Exchange) × IsExchange export exchange × Consumes old new (client_option_bytes exchange.option)
    × WritesFront (reply_bytes export zeroes exchange) written_old written_new)

-- a negotiation has come to this stage, on a link
abbrev pub IsUnderWay : Export → Stage → (old new written_old written_new : Option (List ℕ)) → Type 0
IsUnderWay export stage old new written_old written_new =
    OnInput old new (λ input next. (sent : List ℕ) × Appends written_old written_new sent × HasCome export stage input next sent)

-- the greeting was sent, and the client's flags came, which say whether zeros are sent; or the negotiation ended before
abbrev pub Greets : Export → (old new written_old written_new : Option (List ℕ)) → Result Bool WireEnd → Type 0
Greets export old new written_old written_new (Ok zeroes) =
    (flags : ℕ) × (zeroes ≡ has_zeroes flags) × IsUnderWay export (Answering flags []) old new written_old written_new
Greets export old new written_old written_new (Err e) = Negotiates export (end_from e) old new written_old written_new
