-- A head and the data that come next are an option of a client.
use Rattle.std.proofs.Common.{◌≡◌, ℕ, ◌^◌, ◌<◌, Bool, List, ◌++◌, length, take, drop, refl, sym, ◌∙◌, ap, subst, inl, inr}
use Rattle.std.proofs.Common.{append_assoc, arith}
use Rattle.std.proofs.lemmas.List.{length-append}
use Rattle.std.proofs.lemmas.Nat.{from_be_bytes-to_be_bytes_4}
use Rattle.std.specs.Int.{w32, to_be_bytes, from_be_bytes}
use Rattle.std.specs.Prelude.{Option, Some, None, Ok, Err}
use Rattle.std.specs.Io.KnownBytes.{Appends, Consumes}
use Rattle.lsvd_fault.proofs.Streams.{consumes_more}
use Rattle.nbd_wire.specs.declared.message.OptionHead.{OptionHead}
use Rattle.nbd_wire.specs.declared.wire_end.WireEnd.{WireEnd}
use Rattle.nbd_wire.specs.declared.wire_end.WireEnd.TheVariants.{Ended, Closed, LinkFault}
use Rattle.nbd_wire.specs.Messages.{option_head_bytes, IsOptionHead}
use Rattle.nbd_wire.specs.Reading.{BeginsNoMessage, HasFewerThan, ReadsMessage, ReadsData}
use Rattle.nbd_wire.specs.Writing.{WritesFront, WritesMessage}
use Rattle.nbd_options.specs.declared.export.Export.{Export}
use Rattle.nbd_options.specs.declared.answer.Answer.{Answer}
use Rattle.nbd_options.specs.Answers.{IsAnswerTo}
use Rattle.nbd_options.specs.Replies.{answer_bytes}
use Rattle.nbd_options.specs.Negotiation.{ClientOption, client_option_bytes, IsClientOption, IsExchange}
use Rattle.nbd_options.specs.Steps.{AnswersOption}

-- a number is told by its bytes
pub same_number : (m n : ℕ) → m < 2 ^ 32 → n < 2 ^ 32 → to_be_bytes w32 m ≡ to_be_bytes w32 n → m ≡ n
same_number m n fits fits' same =
    sym (from_be_bytes-to_be_bytes_4 m fits) ∙ ap (from_be_bytes w32) same ∙ from_be_bytes-to_be_bytes_4 n fits'

-- bytes that begin with no head begin with no option
no_option : (old : Option (List ℕ)) → BeginsNoMessage IsOptionHead old → BeginsNoMessage IsClientOption old
no_option None none = tt
no_option (Some left) none =
    (none.0, λ bytes rest option split is. begins_one left rest option none.1 (split ∙ ap (λ xs. xs ++ rest) is.spelled) is)
  where
    begins_one : (left rest : List ℕ) (option : ClientOption) {bytes : List ℕ}
        → ((bytes rest : List ℕ) (head : OptionHead) → left ≡ bytes ++ rest → IsOptionHead bytes head → ⊥)
        → left ≡ client_option_bytes option ++ rest → IsClientOption bytes option → ⊥
    begins_one left rest option none split is =
        let head : OptionHead = record { option = option.number; length = length option.content } in
        none (option_head_bytes head) (option.content ++ rest) head (split
        ∙ append_assoc (option_head_bytes head) option.content rest)
        (record { spelled = refl; option = is.number_fits; length = is.size_fits })

-- the head of an option
abbrev head_of : ClientOption → List ℕ
head_of option = option_head_bytes (record { option = option.number; length = length option.content })

-- bytes that begin with a head and end inside its data begin with no option
cut_off : (bytes : List ℕ) (head : OptionHead) (old mid : Option (List ℕ)) → IsOptionHead bytes head → Consumes old mid bytes
    → HasFewerThan head.length mid → BeginsNoMessage IsClientOption old
cut_off bytes head None mid is read few = tt
cut_off bytes head (Some left) None is read few = absurd read
cut_off bytes head (Some left) (Some next) is read few =
    let split : left ≡ option_head_bytes head ++ next = read ∙ ap (λ xs. xs ++ next) is.spelled in (
      omega (arith, ap length split),
      λ bytes rest option again other. too_few head option next rest is.length other.size_fits few
          (sym split ∙ again ∙ ap (λ xs. xs ++ rest) other.spelled ∙ append_assoc (head_of option) option.content rest),
    )
  where
    too_few : (head : OptionHead) (option : ClientOption) (next rest : List ℕ) → head.length < 2 ^ 32
        → length option.content < 2 ^ 32
        → length next < head.length
        → option_head_bytes head ++ next ≡ head_of option ++ (option.content ++ rest)
        → ⊥
    too_few head option next rest fits fits' few same =
        let size = same_number head.length (length option.content) fits fits' (ap (λ xs. take 4 (drop 12 xs)) same) in
        let after : next ≡ option.content ++ rest = ap (drop 16) same in
        absurd (omega (arith, few, size, ap length after, length-append option.content rest))

-- the head was not read
pub head_broken : (export : Export) (zeroes : Bool) (old new old_out new_out : Option (List ℕ)) (e : WireEnd)
    → ReadsMessage {T = OptionHead} 16 IsOptionHead old new (Err e) → new_out ≡ old_out
    → AnswersOption export zeroes old new old_out new_out (Err e)
head_broken export zeroes old new old_out new_out Ended read same = (read.0, read.1, same)
head_broken export zeroes old new old_out new_out Closed read same = (no_option old read.0, (read.1.0, read.1.2), same)
head_broken export zeroes old new old_out new_out LinkFault read same = inl ((read.0, read.2), same)

-- the head was read, but the data were not
pub data_broken : (export : Export) (zeroes : Bool) (old mid new old_out new_out : Option (List ℕ)) (bytes : List ℕ)
    (head : OptionHead) → IsOptionHead bytes head → Consumes old mid bytes → (e : WireEnd)
    → ReadsData {T = Answer} head.length (IsAnswerTo export head.option) mid new (Err e) → new_out ≡ old_out
    → AnswersOption export zeroes old new old_out new_out (Err e)
data_broken export zeroes old mid new old_out new_out bytes head is read Ended more same = absurd more
data_broken export zeroes old mid new old_out new_out bytes head is read Closed more same =
    (cut_off bytes head old mid is read more.0, (bytes ++ more.1.0, consumes_more old mid new bytes more.1.0 read more.1.2), same)
data_broken export zeroes old mid new old_out new_out bytes head is read LinkFault more same =
    inl ((bytes ++ more.0, consumes_more old mid new bytes more.0 read more.2), same)

-- a whole option that was read, and its answer
pub record HasRead (export : Export) (old new : Option (List ℕ)) (option : ℕ) (answer : Answer) : Type 0 where
  pub content : List ℕ
  pub is : IsExchange export (record { option = record { number = option; content = content }; answer = answer })
  pub read : Consumes old new (client_option_bytes (record { number = option; content = content }))

pub has_read : (export : Export) (old mid last new : Option (List ℕ)) (head : OptionHead) (answer : Answer)
    → ReadsMessage 16 IsOptionHead old mid (Ok head) → ReadsData head.length (IsAnswerTo export head.option) mid last (Ok answer)
    → new ≡ last → HasRead export old new head.option answer
has_read export old mid last new head answer before after kept =
    let bytes = before.0 in
    let content = after.0 in
    let whole : bytes ++ content ≡ client_option_bytes (record { number = head.option; content = content }) =
    ap (λ xs. xs ++ content)
    (before.1.spelled ∙ ap (λ n. option_head_bytes (record { option = head.option; length = n })) (sym after.1)) in
    record {
      content = content;
      is = record { number_fits = before.1.option; size_fits = omega (arith, after.1, before.1.length); answered = after.2 };
      read =
          subst (λ (r : Option (List ℕ)). Consumes old r
          (client_option_bytes (record { number = head.option; content = content })))
          (sym kept) (subst (λ (xs : List ℕ). Consumes old last xs) whole
          (consumes_more old mid last bytes content before.2 after.3));
    }

-- the answer was not sent whole
pub answer_broken : (export : Export) (zeroes : Bool) (old new old_out mid_out new_out : Option (List ℕ)) (option : ℕ)
    (answer : Answer) (e : WireEnd) → HasRead export old new option answer → mid_out ≡ old_out
    → WritesMessage {T = Unit {0}} (answer_bytes export option zeroes answer) mid_out new_out (Err e)
    → AnswersOption export zeroes old new old_out new_out (Err e)
answer_broken export zeroes old new old_out mid_out new_out option answer Ended has same sent = absurd sent
answer_broken export zeroes old new old_out mid_out new_out option answer Closed has same sent = absurd sent
answer_broken export zeroes old new old_out mid_out new_out option answer LinkFault has same sent = inr (
  record { option = record { number = option; content = has.content }; answer = answer },
  has.is,
  has.read,
  subst (λ (w : Option (List ℕ)). WritesFront (answer_bytes export option zeroes answer) w new_out) same sent,
)

-- the option was answered
pub is_answered : (export : Export) (zeroes : Bool) (old new old_out mid_out new_out : Option (List ℕ)) (option : ℕ)
    (answer : Answer) → HasRead export old new option answer → mid_out ≡ old_out
    → Appends mid_out new_out (answer_bytes export option zeroes answer)
    → AnswersOption export zeroes old new old_out new_out (Ok answer)
is_answered export zeroes old new old_out mid_out new_out option answer has same sent = (
  record { number = option; content = has.content },
  has.is,
  has.read,
  subst (λ (w : Option (List ℕ)). Appends w new_out (answer_bytes export option zeroes answer)) same sent,
)
