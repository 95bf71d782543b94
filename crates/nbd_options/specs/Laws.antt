-- Contract: an option has one answer, and input has one end of a negotiation.
use Rattle.std.specs.Prelude.{ℕ, ◌≡◌, List, ⊤}
use Rattle.nbd_options.specs.declared.export.Export.{Export}
use Rattle.nbd_options.specs.declared.answer.Answer.{Answer}
use Rattle.nbd_options.specs.declared.negotiation.NegotiationEnd.{NegotiationEnd}
use Rattle.nbd_options.specs.declared.negotiation.NegotiationEnd.TheVariants.{Entered, Ended, Closed, LinkFault, OutOfMemory}
use Rattle.nbd_options.specs.Answers.{IsAnswerTo}
use Rattle.nbd_options.specs.Negotiation.{IsNegotiation}

-- two answers to one option are the same
abbrev pub HasOneAnswer : Type 0
HasOneAnswer =
    (export : Export) (option : ℕ) (content : List ℕ) (a b : Answer) → IsAnswerTo export option content a
    → IsAnswerTo export option content b → a ≡ b

-- neither a fault nor want of memory made this end
abbrev pub IsOfInput : NegotiationEnd → Type 0
IsOfInput Entered = ⊤
IsOfInput Ended = ⊤
IsOfInput Closed = ⊤
IsOfInput LinkFault = ⊥
IsOfInput OutOfMemory = ⊥

-- two negotiations with one input, which neither a fault nor want of memory broke off, end in the same way, and the same was
-- sent; where they entered the export, the same is left
abbrev pub HasOneEnd : Type 0
HasOneEnd =
    (export : Export) (input left left' sent sent' : List ℕ) (a b : NegotiationEnd) → IsOfInput a → IsOfInput b
    → IsNegotiation export a input left sent → IsNegotiation export b input left' sent'
    → (a ≡ b) × (sent ≡ sent') × (a ≡ Entered → left ≡ left')
