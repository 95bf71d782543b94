-- Contract: a negotiation as a whole: what a client sends, what the server sends to it, and how it ends.
use Rattle.std.specs.Prelude.{ℕ, ◌≡◌, ◌^◌, ◌<◌, ◌≤◌, ◌==◌, ◌⊎◌, Bool, true, false, List, [], ◌++◌, length, flat_map, All, bit_and}
use Rattle.std.specs.Prelude.{⊤, Option, None, Some}
use Rattle.std.specs.Int.{w32, to_be_bytes}
use Rattle.std.specs.Io.KnownBytes.{Appends}
use Rattle.nbd_wire.specs.declared.wire_end.WireEnd.{WireEnd}
use Rattle.nbd_wire.specs.declared.wire_end.WireEnd.TheVariants as wire
use Rattle.nbd_wire.specs.Messages.{greeting_bytes, IsClientFlags, option_head_bytes}
use Rattle.nbd_wire.specs.Reading.{BeginsNoMessage}
use Rattle.nbd_options.specs.declared.export.Export.{Export}
use Rattle.nbd_options.specs.declared.answer.Answer.{Answer}
use Rattle.nbd_options.specs.declared.answer.Answer.TheVariants as answers
use Rattle.nbd_options.specs.declared.negotiation.NegotiationEnd.{NegotiationEnd}
use Rattle.nbd_options.specs.declared.negotiation.NegotiationEnd.TheVariants.{Entered, Ended, Closed, LinkFault, OutOfMemory}
use Rattle.nbd_options.specs.Answers.{IsAnswerTo}
use Rattle.nbd_options.specs.Replies.{answer_bytes}

-- ---- options and their answers

-- the most options of one negotiation, refused ones and those with data that are too long included
abbrev pub max_options : ℕ
max_options = 1024

-- an option as a client sends it: its number, and its data
pub record ClientOption : Type 0 where
  pub number : ℕ
  pub content : List ℕ

-- its bytes: a head, which says how many data there are, and the data
abbrev pub client_option_bytes : ClientOption → List ℕ
client_option_bytes option = option_head_bytes (record { option = option.number; length = length option.content })
    ++ option.content

pub record IsClientOption (bytes : List ℕ) (option : ClientOption) : Type 0 where
  pub spelled : bytes ≡ client_option_bytes option
  pub number_fits : option.number < 2 ^ 32
  pub size_fits : length option.content < 2 ^ 32

-- an option, and what it was answered
pub record Exchange : Type 0 where
  pub option : ClientOption
  pub answer : Answer

pub record IsExchange (export : Export) (exchange : Exchange) : Type 0 where
  pub number_fits : exchange.option.number < 2 ^ 32
  pub size_fits : length exchange.option.content < 2 ^ 32
  pub answered : IsAnswerTo export exchange.option.number exchange.option.content exchange.answer

-- what the server sends in it
abbrev pub reply_bytes : Export → (zeroes : Bool) → Exchange → List ℕ
reply_bytes export zeroes exchange = answer_bytes export exchange.option.number zeroes exchange.answer

-- the end that comes with an answer; after the others the next option is read
abbrev pub end_of : Answer → Option NegotiationEnd
end_of answers.Exported = Some Entered
end_of answers.Closed = Some Closed
end_of answers.Aborted = Some Ended
end_of answers.Listed = None
end_of (answers.Described true blocks) = Some Entered
end_of (answers.Described false blocks) = None
end_of answers.Unknown = None
end_of answers.Invalid = None
end_of answers.Unsupported = None
end_of answers.TooBig = None

-- ---- how far a negotiation has come

-- the greeting was sent; or the client's flags came too, and then options, each of which was answered
pub data Stage : Type 0 where
  Greeted : Stage
  Answering : (flags : ℕ) → (exchanges : List Exchange) → Stage

-- the zeros after an export are sent, unless the flags have bit 1
abbrev pub has_zeroes : ℕ → Bool
has_zeroes flags = bit_and flags 2 == 0

-- what the client has sent
abbrev pub client_bytes : Stage → List ℕ
client_bytes Greeted = []
client_bytes (Answering flags exchanges) = to_be_bytes w32 flags ++ flat_map (λ x. client_option_bytes x.option) exchanges

-- what the server has sent
abbrev pub server_bytes : Export → Stage → List ℕ
server_bytes export Greeted = greeting_bytes
server_bytes export (Answering flags exchanges) = greeting_bytes ++ flat_map (reply_bytes export (has_zeroes flags)) exchanges

-- the option has its answer, after which the next option is read
pub record LeavesOpen (export : Export) (exchange : Exchange) : Type 0 where
  pub is_exchange : IsExchange export exchange
  pub goes_on : end_of exchange.answer ≡ None

-- the flags are known ones, and none of the answers ended the negotiation
abbrev pub IsNegotiating : Export → Stage → Type 0
IsNegotiating export Greeted = ⊤
IsNegotiating export (Answering flags exchanges) = (flags < 4) × (length exchanges ≤ max_options)
    × All (LeavesOpen export) exchanges

-- a negotiation has come so far: the server has sent this, and this comes next in the input
pub record HasCome (export : Export) (stage : Stage) (input next sent : List ℕ) : Type 0 where
  pub is_open : IsNegotiating export stage
  pub heard : input ≡ client_bytes stage ++ next
  pub said : sent ≡ server_bytes export stage

-- after the options before it one more came, and has its answer; the rest of the input is left
pub record HasLast (export : Export) (input left : List ℕ) : Type 0 where
  pub flags : ℕ
  pub before : List Exchange
  pub last : Exchange
  pub is_open : IsNegotiating export (Answering flags before)
  pub fewer : length before < max_options
  pub answered : IsExchange export last
  pub heard : input ≡ client_bytes (Answering flags before) ++ client_option_bytes last.option ++ left

-- ---- how a negotiation ends

-- by the answer to the last option, which was sent
pub record EndsByAnswer (export : Export) (end : NegotiationEnd) (input left sent : List ℕ) : Type 0 where
  pub options : HasLast export input left
  pub ends : end_of options.last.answer ≡ Some end
  pub said : sent ≡ server_bytes export (Answering options.flags options.before)
      ++ reply_bytes export (has_zeroes options.flags) options.last

-- by the end of the input between two messages
abbrev pub EndsWithInput : Export → (input left sent : List ℕ) → Type 0
EndsWithInput export input left sent = (stage : Stage) × HasCome export stage input [] sent × (left ≡ [])

-- the bytes that come next begin with no message that is taken: they end inside it, or are none, or the options were too many
abbrev pub AreOutOfForm : Stage → List ℕ → Type 0
AreOutOfForm Greeted next = BeginsNoMessage IsClientFlags (Some next)
AreOutOfForm (Answering flags exchanges) next =
    BeginsNoMessage IsClientOption (Some next) ⊎ ((0 < length next) × (length exchanges ≡ max_options))

-- these bytes, of which some may have been taken
abbrev pub IsRestOf : List ℕ → List ℕ → Type 0
IsRestOf next left = (part : List ℕ) × (next ≡ part ++ left)

-- by bytes that are out of form
pub record EndsOutOfForm (export : Export) (input left sent : List ℕ) : Type 0 where
  pub stage : Stage
  pub next : List ℕ
  pub come : HasCome export stage input next sent
  pub faulty : AreOutOfForm stage next
  pub rest : IsRestOf next left

-- before the greeting: nothing was read, and nothing sent
pub record EndsUnbegun (input left sent : List ℕ) : Type 0 where
  pub unread : left ≡ input
  pub unsent : sent ≡ []

-- inside the greeting: nothing was read
pub record BreaksInGreeting (input left sent : List ℕ) : Type 0 where
  pub unread : left ≡ input
  pub rest : List ℕ
  pub said : greeting_bytes ≡ sent ++ rest

-- inside a message of the client, of which some may have been taken
abbrev pub BreaksInMessage : Export → (input left sent : List ℕ) → Type 0
BreaksInMessage export input left sent = (stage : Stage) × (next : List ℕ) × HasCome export stage input next sent
    × IsRestOf next left

-- inside an answer, of which a front was sent
pub record BreaksInAnswer (export : Export) (input left sent : List ℕ) : Type 0 where
  pub options : HasLast export input left
  pub front : List ℕ
  pub rest : List ℕ
  pub reply : reply_bytes export (has_zeroes options.flags) options.last ≡ front ++ rest
  pub said : sent ≡ server_bytes export (Answering options.flags options.before) ++ front

-- a negotiation ends so, where a client sends this input, of which this is left, and the server has sent this
abbrev pub IsNegotiation : Export → NegotiationEnd → (input left sent : List ℕ) → Type 0
IsNegotiation export Entered input left sent = EndsByAnswer export Entered input left sent
IsNegotiation export Ended input left sent = EndsByAnswer export Ended input left sent ⊎ EndsWithInput export input left sent
IsNegotiation export Closed input left sent = EndsByAnswer export Closed input left sent ⊎ EndsOutOfForm export input left sent
IsNegotiation export LinkFault input left sent =
    BreaksInGreeting input left sent ⊎ (BreaksInMessage export input left sent ⊎ BreaksInAnswer export input left sent)
IsNegotiation export OutOfMemory input left sent = EndsUnbegun input left sent

-- ---- a negotiation on a link

-- of a link that tells the bytes that are left to read
abbrev pub OnInput : (old new : Option (List ℕ)) → (List ℕ → List ℕ → Type 0) → Type 0
OnInput None new P = ⊤
OnInput (Some input) None P = ⊥
OnInput (Some input) (Some left) P = P input left

-- a negotiation ended so, on a link that tells what is left to read and what was written, before and after it
abbrev pub Negotiates : Export → NegotiationEnd → (old new written_old written_new : Option (List ℕ)) → Type 0
Negotiates export end old new written_old written_new =
    OnInput old new (λ input left. (sent : List ℕ) × Appends written_old written_new sent
    × IsNegotiation export end input left sent)

-- a call of the link failed
abbrev pub is_fault : NegotiationEnd → Bool
is_fault Entered = false
is_fault Ended = false
is_fault Closed = false
is_fault LinkFault = true
is_fault OutOfMemory = false

-- how a negotiation ends where no message could be read or written
abbrev pub end_from : WireEnd → NegotiationEnd
end_from wire.Ended = Ended
end_from wire.Closed = Closed
end_from wire.LinkFault = LinkFault
