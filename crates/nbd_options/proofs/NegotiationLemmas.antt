-- How the steps of a negotiation add up.
use Rattle.std.proofs.Common.{◌≡◌, ℕ, ◌+◌, ◌<◌, Bool, true, false, List, [], ◌∷◌, ◌++◌, length, refl, sym, ◌∙◌, ap, subst, inl}
use Rattle.std.proofs.Common.{inr, append_assoc, arith}
use Rattle.std.proofs.lemmas.List.{append-nil, length-append, flat_map_more}
use Rattle.std.proofs.lemmas.List.Elements.{All-nil, All-push}
use Rattle.std.specs.Int.{w32, to_be_bytes}
use Rattle.std.specs.Prelude.{Option, Some, None, Ok, Err, ⊤}
use Rattle.std.specs.Io.KnownBytes.{Appends, Consumes, IsAtEnd, Keeps}
use Rattle.lsvd_fault.proofs.Streams.{appends_more}
use Rattle.nbd_wire.specs.declared.message.OptionHead.{OptionHead}
use Rattle.nbd_wire.specs.declared.wire_end.WireEnd.{WireEnd}
use Rattle.nbd_wire.specs.declared.wire_end.WireEnd.TheVariants.{Ended, Closed, LinkFault}
use Rattle.nbd_wire.specs.Messages.{greeting_bytes, IsClientFlags, option_head_bytes, IsOptionHead}
use Rattle.nbd_wire.specs.Reading.{BeginsNoMessage, ReadsMessage}
use Rattle.nbd_wire.specs.Writing.{WritesFront, WritesMessage}
use Rattle.nbd_options.specs.declared.export.Export.{Export}
use Rattle.nbd_options.specs.declared.answer.Answer.{Answer}
use Rattle.nbd_options.specs.declared.answer.Answer.TheVariants as answers
use Rattle.nbd_options.specs.declared.negotiation.NegotiationEnd.{NegotiationEnd}
use Rattle.nbd_options.specs.declared.negotiation.NegotiationEnd.TheVariants as ends
use Rattle.nbd_options.specs.Negotiation.{ClientOption, client_option_bytes, IsClientOption, Exchange, IsExchange, reply_bytes}
use Rattle.nbd_options.specs.Negotiation.{end_of, Stage, Greeted, Answering, has_zeroes, client_bytes, LeavesOpen, HasCome}
use Rattle.nbd_options.specs.Negotiation.{HasLast, EndsByAnswer, AreOutOfForm, BreaksInMessage, IsNegotiation, OnInput}
use Rattle.nbd_options.specs.Negotiation.{Negotiates, end_from, max_options}
use Rattle.nbd_options.specs.Steps.{ReadsSomeBytes, AnswersOption, IsUnderWay, Greets}

-- ---- before the greeting

nothing_sent : (out : Option (List ℕ)) → Appends out out []
nothing_sent None = tt
nothing_sent (Some bytes) = sym (append-nil bytes)

-- there was no memory, and nothing was done
pub not_begun : (export : Export) (known out : Option (List ℕ)) → Negotiates export ends.OutOfMemory known known out out
not_begun export None out = tt
not_begun export (Some input) out = ([], nothing_sent out, record { unread = refl; unsent = refl })

-- ---- the greeting and the client's flags

-- the greeting was not sent whole, and nothing was read
pub greeting_broken : (export : Export) (old new old_out new_out : Option (List ℕ)) (e : WireEnd) → new ≡ old
    → WritesMessage {T = Unit {0}} greeting_bytes old_out new_out (Err e)
    → Negotiates export (end_from e) old new old_out new_out
greeting_broken export old new old_out new_out e same sent =
    subst (λ (r : Option (List ℕ)). Negotiates export (end_from e) old r old_out new_out) (sym same)
    (nothing_read export old old_out new_out e sent)
  where
    nothing_read : (export : Export) (known old_out new_out : Option (List ℕ)) (e : WireEnd)
        → WritesMessage {T = Unit {0}} greeting_bytes old_out new_out (Err e)
        → Negotiates export (end_from e) known known old_out new_out
    nothing_read export None old_out new_out e sent = tt
    nothing_read export (Some input) old_out new_out Ended sent = absurd sent
    nothing_read export (Some input) old_out new_out Closed sent = absurd sent
    nothing_read export (Some input) old_out new_out LinkFault sent =
        (sent.0, sent.3, inl (record { unread = refl; rest = sent.1; said = sent.2 }))

-- it was sent
pub greeted : (export : Export) (known old_out new_out : Option (List ℕ)) → Appends old_out new_out greeting_bytes
    → IsUnderWay export Greeted known known old_out new_out
greeted export None old_out new_out sent = tt
greeted export (Some input) old_out new_out sent = (greeting_bytes, sent, record { is_open = tt; heard = refl; said = refl })

-- ---- a message that did not come whole

-- the input was at its end
at_end : (export : Export) (stage : Stage) (first old new first_out old_out : Option (List ℕ))
    → IsUnderWay export stage first old first_out old_out → IsAtEnd old → Keeps old new
    → Negotiates export ends.Ended first new first_out old_out
at_end export stage None old new first_out old_out come end kept = tt
at_end export stage (Some input) None new first_out old_out come end kept = absurd come
at_end export stage (Some input) (Some next) None first_out old_out come end kept = absurd kept
at_end export stage (Some input) (Some next) (Some left) first_out old_out come end kept = (
  come.0,
  come.1,
  inr (stage, subst (λ (xs : List ℕ). HasCome export stage input xs come.0) end come.2, kept ∙ end),
)

-- the bytes that come next are out of form
abbrev AreFaulty : Stage → Option (List ℕ) → Type 0
AreFaulty stage None = ⊤
AreFaulty stage (Some next) = AreOutOfForm stage next

out_of_form : (export : Export) (stage : Stage) (first old new first_out old_out : Option (List ℕ))
    → IsUnderWay export stage first old first_out old_out → AreFaulty stage old → ReadsSomeBytes old new
    → Negotiates export ends.Closed first new first_out old_out
out_of_form export stage None old new first_out old_out come faulty read = tt
out_of_form export stage (Some input) None new first_out old_out come faulty read = absurd come
out_of_form export stage (Some input) (Some next) None first_out old_out come faulty read = absurd read.1
out_of_form export stage (Some input) (Some next) (Some left) first_out old_out come faulty read =
    (come.0, come.1, inr (record { stage = stage; next = next; come = come.2; faulty = faulty; rest = (read.0, read.1) }))

-- a call failed
abbrev BreaksOff : Export → (old new old_out new_out : Option (List ℕ)) → Type 0
BreaksOff export old new old_out new_out =
    OnInput old new (λ input left. (sent : List ℕ) × Appends old_out new_out sent × BreaksInMessage export input left sent)

breaks_off : (export : Export) (stage : Stage) (first old new first_out old_out : Option (List ℕ))
    → IsUnderWay export stage first old first_out old_out → ReadsSomeBytes old new → BreaksOff export first new first_out old_out
breaks_off export stage None old new first_out old_out come read = tt
breaks_off export stage (Some input) None new first_out old_out come read = absurd come
breaks_off export stage (Some input) (Some next) None first_out old_out come read = absurd read.1
breaks_off export stage (Some input) (Some next) (Some left) first_out old_out come read =
    (come.0, come.1, (stage, next, come.2, (read.0, read.1)))

by_fault : (export : Export) (old new old_out new_out : Option (List ℕ)) → BreaksOff export old new old_out new_out
    → Negotiates export ends.LinkFault old new old_out new_out
by_fault export None new old_out new_out broken = tt
by_fault export (Some input) None old_out new_out broken = absurd broken
by_fault export (Some input) (Some left) old_out new_out broken = (broken.0, broken.1, inr (inl broken.2))

-- the flags were not read
pub flags_broken : (export : Export) (old mid new old_out mid_out new_out : Option (List ℕ)) (e : WireEnd) → mid ≡ old
    → new_out ≡ mid_out → Appends old_out mid_out greeting_bytes
    → ReadsMessage {T = ℕ} 4 IsClientFlags mid new (Err e) → Negotiates export (end_from e) old new old_out new_out
flags_broken export old mid new old_out mid_out new_out e kept same sent read =
    subst (λ (w : Option (List ℕ)). Negotiates export (end_from e) old new old_out w) (sym same)
    (not_read export old new old_out mid_out e (greeted export old old_out mid_out sent)
    (subst (λ (r : Option (List ℕ)). ReadsMessage {T = ℕ} 4 IsClientFlags r new (Err e)) kept read))
  where
    faulty : (known : Option (List ℕ)) → BeginsNoMessage IsClientFlags known → AreFaulty Greeted known
    faulty None none = tt
    faulty (Some next) none = none

    not_read : (export : Export) (old new old_out new_out : Option (List ℕ)) (e : WireEnd)
        → IsUnderWay export Greeted old old old_out new_out → ReadsMessage {T = ℕ} 4 IsClientFlags old new (Err e)
        → Negotiates export (end_from e) old new old_out new_out
    not_read export old new old_out new_out Ended come read =
        at_end export Greeted old old new old_out new_out come read.0 read.1
    not_read export old new old_out new_out Closed come read =
        out_of_form export Greeted old old new old_out new_out come (faulty old read.0) (read.1.0, read.1.2)
    not_read export old new old_out new_out LinkFault come read =
        by_fault export old new old_out new_out
        (breaks_off export Greeted old old new old_out new_out come (read.0, read.2))

-- they were
pub flags_read : (export : Export) (old mid new old_out mid_out new_out : Option (List ℕ)) (flags : ℕ) → mid ≡ old
    → new_out ≡ mid_out → Appends old_out mid_out greeting_bytes → ReadsMessage 4 IsClientFlags mid new (Ok flags)
    → IsUnderWay export (Answering flags []) old new old_out new_out
flags_read export old mid new old_out mid_out new_out flags kept same sent read =
    subst (λ (w : Option (List ℕ)). IsUnderWay export (Answering flags []) old new old_out w) (sym same)
    (taken export old new old_out mid_out read.0 flags read.1
    (subst (λ (r : Option (List ℕ)). Consumes r new read.0) kept read.2) sent)
  where
    taken : (export : Export) (old new old_out new_out : Option (List ℕ)) (bytes : List ℕ) (flags : ℕ)
        → IsClientFlags bytes flags → Consumes old new bytes → Appends old_out new_out greeting_bytes
        → IsUnderWay export (Answering flags []) old new old_out new_out
    taken export None new old_out new_out bytes flags is read sent = tt
    taken export (Some input) None old_out new_out bytes flags is read sent = absurd read
    taken export (Some input) (Some left) old_out new_out bytes flags is read sent = (
      greeting_bytes,
      sent,
      record { is_open = (is.known, omega arith, All-nil _); heard = read ∙ ap (λ xs. xs ++ left) is.spelled; said = refl },
    )

-- ---- options

-- one option more was answered, and the next one comes
pub one_more : (export : Export) (flags : ℕ) (exchanges : List Exchange) (option : ClientOption) (answer : Answer)
    (first old new first_out old_out new_out : Option (List ℕ)) → length exchanges < max_options → end_of answer ≡ None
    → IsUnderWay export (Answering flags exchanges) first old first_out old_out
    → IsExchange export (record { option = option; answer = answer }) → Consumes old new (client_option_bytes option)
    → Appends old_out new_out (reply_bytes export (has_zeroes flags) (record { option = option; answer = answer }))
    → IsUnderWay export (Answering flags (exchanges ++ record { option = option; answer = answer } ∷ [])) first new
    first_out new_out
one_more export flags exchanges option answer None old new first_out old_out new_out few goes_on come is read sent = tt
one_more export flags exchanges option answer (Some input) None new first_out old_out new_out few goes_on come is read sent =
    absurd come
one_more export flags exchanges option answer (Some input) (Some next) None first_out old_out new_out few goes_on come is
    read sent =
    absurd read
one_more export flags exchanges option answer (Some input) (Some next) (Some left) first_out old_out new_out few goes_on come is
    read sent =
    let last : Exchange = record { option = option; answer = answer } in
    let reply = reply_bytes export (has_zeroes flags) last in
    let before = come.2 in (
      come.0 ++ reply,
      appends_more first_out old_out new_out come.0 reply come.1 sent,
      record {
        is_open = (
          before.is_open.0,
          omega (arith, few, length-append exchanges (last ∷ [])),
          All-push (LeavesOpen export) exchanges last before.is_open.2 (record { is_exchange = is; goes_on = goes_on }),
        );
        heard =
            before.heard ∙ ap (λ xs. client_bytes (Answering flags exchanges) ++ xs) read
            ∙ sym (append_assoc (client_bytes (Answering flags exchanges)) (client_option_bytes option) left)
            ∙ ap (λ xs. xs ++ left) (flat_map_more (λ x. client_option_bytes x.option) (to_be_bytes w32 flags) exchanges last);
        said =
            ap (λ xs. xs ++ reply) before.said
            ∙ flat_map_more (reply_bytes export (has_zeroes flags)) greeting_bytes exchanges last;
      },
    )

-- an option that came after these
pub has_last : (export : Export) (flags : ℕ) (exchanges : List Exchange) (last : Exchange) (input next left sent : List ℕ)
    → length exchanges < max_options → HasCome export (Answering flags exchanges) input next sent → IsExchange export last
    → next ≡ client_option_bytes last.option ++ left → HasLast export input left
has_last export flags exchanges last input next left sent few come is read = record {
  flags = flags;
  before = exchanges;
  last = last;
  is_open = come.is_open;
  fewer = few;
  answered = is;
  heard =
      come.heard ∙ ap (λ xs. client_bytes (Answering flags exchanges) ++ xs) read
      ∙ sym (append_assoc (client_bytes (Answering flags exchanges)) (client_option_bytes last.option) left);
}

-- no answer ends it by a fault or for want of memory
by_answer : (export : Export) (answer : Answer) (end : NegotiationEnd) → end_of answer ≡ Some end → {input left sent : List ℕ}
    → EndsByAnswer export end input left sent → IsNegotiation export end input left sent
by_answer export answer ends.Entered is by = by
by_answer export answer ends.Ended is by = inl by
by_answer export answer ends.Closed is by = inl by
by_answer export answer ends.LinkFault is by = absurd (no_fault answer is)
  where
    no_fault : (answer : Answer) → end_of answer ≡ Some ends.LinkFault → ⊥
    no_fault answers.Exported is = cc
    no_fault answers.Closed is = cc
    no_fault answers.Aborted is = cc
    no_fault answers.Listed is = cc
    no_fault (answers.Described true blocks) is = cc
    no_fault (answers.Described false blocks) is = cc
    no_fault answers.Unknown is = cc
    no_fault answers.Invalid is = cc
    no_fault answers.Unsupported is = cc
    no_fault answers.TooBig is = cc
by_answer export answer ends.OutOfMemory is by = absurd (no_want answer is)
  where
    no_want : (answer : Answer) → end_of answer ≡ Some ends.OutOfMemory → ⊥
    no_want answers.Exported is = cc
    no_want answers.Closed is = cc
    no_want answers.Aborted is = cc
    no_want answers.Listed is = cc
    no_want (answers.Described true blocks) is = cc
    no_want (answers.Described false blocks) is = cc
    no_want answers.Unknown is = cc
    no_want answers.Invalid is = cc
    no_want answers.Unsupported is = cc
    no_want answers.TooBig is = cc

-- its answer ended the negotiation
pub ended : (export : Export) (flags : ℕ) (exchanges : List Exchange) (option : ClientOption) (answer : Answer)
    (end : NegotiationEnd)
    (first old new first_out old_out new_out : Option (List ℕ)) → length exchanges < max_options
    → end_of answer ≡ Some end → IsUnderWay export (Answering flags exchanges) first old first_out old_out
    → IsExchange export (record { option = option; answer = answer }) → Consumes old new (client_option_bytes option)
    → Appends old_out new_out (reply_bytes export (has_zeroes flags) (record { option = option; answer = answer }))
    → Negotiates export end first new first_out new_out
unfolding has_last
ended export flags exchanges option answer end None old new first_out old_out new_out few ends come is read sent = tt
ended export flags exchanges option answer end (Some input) None new first_out old_out new_out few ends come is read sent =
    absurd come
ended export flags exchanges option answer end (Some input) (Some next) None first_out old_out new_out few ends come is
    read sent =
    absurd read
ended export flags exchanges option answer end (Some input) (Some next) (Some left) first_out old_out new_out few ends come is
    read sent =
    let last : Exchange = record { option = option; answer = answer } in
    let reply = reply_bytes export (has_zeroes flags) last in (
      come.0 ++ reply,
      appends_more first_out old_out new_out come.0 reply come.1 sent,
      by_answer export answer end ends
          (record {
            options = has_last export flags exchanges last input next left come.0 few come.2 is read;
            ends = ends;
            said = ap (λ xs. xs ++ reply) come.2.said;
          }),
    )

-- the option was not read, or its answer not sent whole
pub option_broken : (export : Export) (zeroes : Bool) (flags : ℕ) (exchanges : List Exchange)
    (first old new first_out old_out new_out : Option (List ℕ)) (e : WireEnd) → length exchanges < max_options
    → zeroes ≡ has_zeroes flags → IsUnderWay export (Answering flags exchanges) first old first_out old_out
    → AnswersOption export zeroes old new old_out new_out (Err e)
    → Negotiates export (end_from e) first new first_out new_out
unfolding has_last
option_broken export zeroes flags exchanges first old new first_out old_out new_out Ended few is come broken =
    subst (λ (w : Option (List ℕ)). Negotiates export ends.Ended first new first_out w) (sym broken.2)
    (at_end export (Answering flags exchanges) first old new first_out old_out come broken.0 broken.1)
option_broken export zeroes flags exchanges first old new first_out old_out new_out Closed few is come broken =
    subst (λ (w : Option (List ℕ)). Negotiates export ends.Closed first new first_out w) (sym broken.2)
    (out_of_form export (Answering flags exchanges) first old new first_out old_out come
    (faulty flags exchanges old broken.0) broken.1)
  where
    faulty : (flags : ℕ) (exchanges : List Exchange) (known : Option (List ℕ)) → BeginsNoMessage IsClientOption known
        → AreFaulty (Answering flags exchanges) known
    faulty flags exchanges None none = tt
    faulty flags exchanges (Some next) none = inl none
option_broken export zeroes flags exchanges first old new first_out old_out new_out LinkFault few is come (inl read) =
    subst (λ (w : Option (List ℕ)). Negotiates export ends.LinkFault first new first_out w) (sym read.1)
    (by_fault export first new first_out old_out
    (breaks_off export (Answering flags exchanges) first old new first_out old_out come read.0))
option_broken export zeroes flags exchanges first old new first_out old_out new_out LinkFault few is come (inr sent) =
    breaks_in_answer export flags exchanges sent.0 first old new first_out old_out new_out few come sent.1 sent.2
    (subst (λ (b : Bool). WritesFront (reply_bytes export b sent.0) old_out new_out) is sent.3)
  where
    breaks_in_answer : (export : Export) (flags : ℕ) (exchanges : List Exchange) (last : Exchange)
        (first old new first_out old_out new_out : Option (List ℕ)) → length exchanges < max_options
        → IsUnderWay export (Answering flags exchanges) first old first_out old_out → IsExchange export last
        → Consumes old new (client_option_bytes last.option)
        → WritesFront (reply_bytes export (has_zeroes flags) last) old_out new_out
        → Negotiates export ends.LinkFault first new first_out new_out
    breaks_in_answer export flags exchanges last None old new first_out old_out new_out few come is read sent = tt
    breaks_in_answer export flags exchanges last (Some input) None new first_out old_out new_out few come is read sent =
        absurd come
    breaks_in_answer export flags exchanges last (Some input) (Some next) None first_out old_out new_out few come is read sent =
        absurd read
    breaks_in_answer export flags exchanges last (Some input) (Some next) (Some left) first_out old_out new_out few come is
        read sent = (
          come.0 ++ sent.0,
          appends_more first_out old_out new_out come.0 sent.0 come.1 sent.3,
          inr (inr (record {
            options = has_last export flags exchanges last input next left come.0 few come.2 is read;
            front = sent.0;
            rest = sent.1;
            reply = sent.2;
            said = ap (λ xs. xs ++ sent.0) come.2.said;
          })),
        )

-- ---- one option too many

-- some bytes are left
abbrev HasMore : Option (List ℕ) → Type 0
HasMore None = ⊤
HasMore (Some next) = 0 < length next

-- something came after all of the options that are answered
all_taken : (flags : ℕ) (exchanges : List Exchange) (known : Option (List ℕ)) → length exchanges ≡ max_options → HasMore known
    → AreFaulty (Answering flags exchanges) known
all_taken flags exchanges None all more = tt
all_taken flags exchanges (Some next) all more = inr (more, all)

pub too_many : (export : Export) (flags : ℕ) (exchanges : List Exchange)
    (first old new first_out old_out new_out : Option (List ℕ))
    (head : OptionHead) → length exchanges ≡ max_options
    → IsUnderWay export (Answering flags exchanges) first old first_out old_out
    → ReadsMessage 16 IsOptionHead old new (Ok head) → new_out ≡ old_out
    → Negotiates export ends.Closed first new first_out new_out
too_many export flags exchanges first old new first_out old_out new_out head all come read same =
    subst (λ (w : Option (List ℕ)). Negotiates export ends.Closed first new first_out w) (sym same)
    (out_of_form export (Answering flags exchanges) first old new first_out old_out come
    (all_taken flags exchanges old all (has_more old new read.0 head read.1.spelled read.2)) (read.0, read.2))
  where
    has_more : (old new : Option (List ℕ)) (bytes : List ℕ) (head : OptionHead) → bytes ≡ option_head_bytes head
        → Consumes old new bytes
        → HasMore old
    has_more None new bytes head is read = tt
    has_more (Some next) None bytes head is read = absurd read
    has_more (Some next) (Some left) bytes head is read = omega (arith, ap length read, ap length is, length-append bytes left)

pub all_broken : (export : Export) (flags : ℕ) (exchanges : List Exchange)
    (first old new first_out old_out new_out : Option (List ℕ))
    (e : WireEnd) → length exchanges ≡ max_options → IsUnderWay export (Answering flags exchanges) first old first_out old_out
    → ReadsMessage {T = OptionHead} 16 IsOptionHead old new (Err e) → new_out ≡ old_out
    → Negotiates export (end_from e) first new first_out new_out
all_broken export flags exchanges first old new first_out old_out new_out Ended all come read same =
    subst (λ (w : Option (List ℕ)). Negotiates export ends.Ended first new first_out w) (sym same)
    (at_end export (Answering flags exchanges) first old new first_out old_out come read.0 read.1)
all_broken export flags exchanges first old new first_out old_out new_out Closed all come read same =
    subst (λ (w : Option (List ℕ)). Negotiates export ends.Closed first new first_out w) (sym same)
    (out_of_form export (Answering flags exchanges) first old new first_out old_out come
    (all_taken flags exchanges old all (has_more old read.0)) (read.1.0, read.1.2))
  where
    has_more : (known : Option (List ℕ)) → BeginsNoMessage IsOptionHead known → HasMore known
    has_more None none = tt
    has_more (Some next) none = none.0
all_broken export flags exchanges first old new first_out old_out new_out LinkFault all come read same =
    subst (λ (w : Option (List ℕ)). Negotiates export ends.LinkFault first new first_out w) (sym same)
    (by_fault export first new first_out old_out
    (breaks_off export (Answering flags exchanges) first old new first_out old_out come (read.0, read.2)))

-- ---- all of the options

-- this many options were answered, each with zeros after an export or without as the flags say, and the next one comes
pub record HaveBeenAnswered (export : Export) (zeroes : Bool) (count : ℕ) (old new old_out new_out : Option (List ℕ)) :
    Type 0 where
  pub flags : ℕ
  pub exchanges : List Exchange
  pub said : zeroes ≡ has_zeroes flags
  pub counted : length exchanges ≡ count
  pub come : IsUnderWay export (Answering flags exchanges) old new old_out new_out

pub none_answered : (export : Export) (zeroes : Bool) (old new old_out new_out : Option (List ℕ))
    → Greets export old new old_out new_out (Ok zeroes) → HaveBeenAnswered export zeroes 0 old new old_out new_out
none_answered export zeroes old new old_out new_out greets =
    record { flags = greets.0; exchanges = []; said = greets.1; counted = refl; come = greets.2 }

pub more_answered : (export : Export) (zeroes : Bool) (count : ℕ) (answer : Answer)
    (first old new first_out old_out new_out : Option (List ℕ)) → count < max_options
    → HaveBeenAnswered export zeroes count first old first_out old_out → end_of answer ≡ None
    → AnswersOption export zeroes old new old_out new_out (Ok answer)
    → HaveBeenAnswered export zeroes (count + 1) first new first_out new_out
more_answered export zeroes count answer first old new first_out old_out new_out few before goes_on answers =
    let last : Exchange = record { option = answers.0; answer = answer } in
    record {
      flags = before.flags;
      exchanges = before.exchanges ++ last ∷ [];
      said = before.said;
      counted = omega (arith, before.counted, length-append before.exchanges (last ∷ []));
      come =
          one_more export before.flags before.exchanges answers.0 answer first old new first_out old_out new_out
          (omega (arith, few, before.counted)) goes_on before.come answers.1 answers.2
          (subst (λ (b : Bool). Appends old_out new_out (reply_bytes export b last)) before.said answers.3);
    }

pub last_answered : (export : Export) (zeroes : Bool) (count : ℕ) (answer : Answer) (end : NegotiationEnd)
    (first old new first_out old_out new_out : Option (List ℕ)) → count < max_options
    → HaveBeenAnswered export zeroes count first old first_out old_out → end_of answer ≡ Some end
    → AnswersOption export zeroes old new old_out new_out (Ok answer)
    → Negotiates export end first new first_out new_out
last_answered export zeroes count answer end first old new first_out old_out new_out few before ends answers =
    ended export before.flags before.exchanges answers.0 answer end first old new first_out old_out new_out
    (omega (arith, few, before.counted)) ends before.come answers.1 answers.2
    (subst (λ (b : Bool). Appends old_out new_out (reply_bytes export b (record { option = answers.0; answer = answer })))
    before.said
    answers.3)

pub none_more : (export : Export) (zeroes : Bool) (count : ℕ) (first old new first_out old_out new_out : Option (List ℕ))
    (e : WireEnd) → count < max_options → HaveBeenAnswered export zeroes count first old first_out old_out
    → AnswersOption export zeroes old new old_out new_out (Err e)
    → Negotiates export (end_from e) first new first_out new_out
none_more export zeroes count first old new first_out old_out new_out e few before broken =
    option_broken export zeroes before.flags before.exchanges first old new first_out old_out new_out e
    (omega (arith, few, before.counted)) before.said before.come broken
