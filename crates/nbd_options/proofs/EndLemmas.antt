-- Input has one end of a negotiation.
use Rattle.std.proofs.Common.{◌≡◌, ℕ, ◌+◌, ◌<◌, ◌≤◌, List, [], ◌∷◌, ◌++◌, length, take, drop, get_or, refl, sym, ◌∙◌, ap, subst}
use Rattle.std.proofs.Common.{inl, inr, append_assoc, append-nil, arith}
use Rattle.std.specs.Prelude.{Some, None, flat_map, All, ◌⊎◌}
use Rattle.std.specs.Int.{w32, to_be_bytes}
use Rattle.std.proofs.lemmas.List.{take_at, drop_at, length-append, flat_map_more, get_or_append_left, get_or_at}
use Rattle.std.proofs.lemmas.List.Elements.{All-head, All-tail, All-push}
use Rattle.nbd_wire.specs.Messages.{greeting_bytes, IsClientFlags}
use Rattle.nbd_wire.specs.Reading.{BeginsNoMessage}
use Rattle.nbd_options.specs.declared.export.Export.{Export}
use Rattle.nbd_options.specs.declared.answer.Answer.{Answer}
use Rattle.nbd_options.specs.declared.answer.Answer.TheVariants.{Aborted}
use Rattle.nbd_options.specs.declared.negotiation.NegotiationEnd.{NegotiationEnd}
use Rattle.nbd_options.specs.declared.negotiation.NegotiationEnd.TheVariants.{Entered, Ended, Closed, LinkFault, OutOfMemory}
use Rattle.nbd_options.specs.Answers.{IsAnswerTo}
use Rattle.nbd_options.specs.Negotiation.{ClientOption, client_option_bytes, Exchange, IsExchange, reply_bytes, end_of, Stage}
use Rattle.nbd_options.specs.Negotiation.{Greeted, Answering, has_zeroes, server_bytes, LeavesOpen, HasCome, EndsByAnswer}
use Rattle.nbd_options.specs.Negotiation.{AreOutOfForm, IsNegotiation, max_options}
use Rattle.nbd_options.specs.Laws.{IsOfInput}
use Rattle.nbd_options.proofs.AnswerLemmas.{one_answer}
use Rattle.nbd_options.proofs.OptionLemmas.{same_number}

-- ---- one option

-- parts of one length, before the rest of the same list
same_front : (a b r s : List ℕ) → length a ≡ length b → a ++ r ≡ b ++ s → a ≡ b
same_front a b r s long same = sym (take_at a r (length a) refl) ∙ ap (take (length a)) same ∙ take_at b s (length a) (sym long)

same_rest : (a b r s : List ℕ) → length a ≡ length b → a ++ r ≡ b ++ s → r ≡ s
same_rest a b r s long same = sym (drop_at a r (length a) refl) ∙ ap (drop (length a)) same ∙ drop_at b s (length a) (sym long)

-- what begins bytes as an exchange is one alone
same_exchange : (export : Export) (x y : Exchange) (r s : List ℕ) → IsExchange export x → IsExchange export y
    → client_option_bytes x.option ++ r ≡ client_option_bytes y.option ++ s → (x ≡ y) × (r ≡ s)
same_exchange export x y r s is is' same =
    let number : x.option.number ≡ y.option.number =
    same_number x.option.number y.option.number is.number_fits is'.number_fits (ap (λ xs. take 4 (drop 8 xs)) same) in
    let size : length x.option.content ≡ length y.option.content =
    same_number (length x.option.content) (length y.option.content) is.size_fits is'.size_fits
    (ap (λ xs. take 4 (drop 12 xs)) same) in
    let after : x.option.content ++ r ≡ y.option.content ++ s = ap (drop 16) same in
    let content = same_front x.option.content y.option.content r s size after in
    let option : x.option ≡ y.option =
    ap (λ n. record { number = n; content = x.option.content }) number
    ∙ ap (λ (xs : List ℕ). record { number = y.option.number; content = xs }) content in
    let answer : x.answer ≡ y.answer =
    one_answer export y.option.number y.option.content x.answer y.answer
    (subst (λ (o : ClientOption). IsAnswerTo export o.number o.content x.answer) option is.answered) is'.answered in (
      ap (λ (o : ClientOption). record { option = o; answer = x.answer }) option
          ∙ ap (λ (a : Answer). record { option = y.option; answer = a }) answer,
      same_rest x.option.content y.option.content r s size after,
    )

-- ---- lists of options

abbrev options_bytes : List Exchange → List ℕ
options_bytes exchanges = flat_map (λ x. client_option_bytes x.option) exchanges

-- the second list goes on where the first one ends
record GoesOn (xs ys : List Exchange) (next next' : List ℕ) : Type 0 where
  more : List Exchange
  longer : ys ≡ xs ++ more
  between : next ≡ options_bytes more ++ next'

compare : (export : Export) (xs ys : List Exchange) (next next' : List ℕ) → All (IsExchange export) xs
    → All (IsExchange export) ys
    → options_bytes xs ++ next ≡ options_bytes ys ++ next' → GoesOn xs ys next next' ⊎ GoesOn ys xs next' next
compare export [] ys next next' are are' same = inl (record { more = ys; longer = refl; between = same })
compare export (x ∷ xs) [] next next' are are' same = inr (record { more = x ∷ xs; longer = refl; between = sym same })
compare export (x ∷ xs) (y ∷ ys) next next' are are' same =
    let first =
    same_exchange export x y (options_bytes xs ++ next) (options_bytes ys ++ next') (All-head (IsExchange export) x xs are)
    (All-head (IsExchange export) y ys are')
    (sym (append_assoc (client_option_bytes x.option) (options_bytes xs) next) ∙ same
    ∙ append_assoc (client_option_bytes y.option) (options_bytes ys) next') in
    elim (compare export xs ys next next' (All-tail (IsExchange export) x xs are)
    (All-tail (IsExchange export) y ys are') first.1) [
      | inl g ↦
          inl (record {
            more = g.more;
            longer = ap (λ zs. y ∷ zs) g.longer ∙ ap (λ z. z ∷ (xs ++ g.more)) (sym first.0);
            between = g.between;
          })
      | inr g ↦
          inr (record {
            more = g.more;
            longer = ap (λ zs. x ∷ zs) g.longer ∙ ap (λ z. z ∷ (ys ++ g.more)) first.0;
            between = g.between;
          })
    ]

-- ---- the end of one list

-- the last answer ends it, and none before it does
record ByLast (end : NegotiationEnd) (exchanges : List Exchange) : Type 0 where
  before : ℕ
  counted : before + 1 ≡ length exchanges
  ends : (d : Exchange) → end_of (get_or exchanges before d).answer ≡ Some end
  first_open : (k : ℕ) (d : Exchange) → k < before → end_of (get_or exchanges k d).answer ≡ None

-- none of the answers ends it, but what comes next
record ByNext (end : NegotiationEnd) (flags : ℕ) (exchanges : List Exchange) (next : List ℕ) : Type 0 where
  all_open : (k : ℕ) (d : Exchange) → k < length exchanges → end_of (get_or exchanges k d).answer ≡ None
  either : ((next ≡ []) × (end ≡ Ended)) ⊎ (AreOutOfForm (Answering flags exchanges) next × (end ≡ Closed))

abbrev IsEnd : NegotiationEnd → ℕ → List Exchange → List ℕ → Type 0
IsEnd end flags exchanges next = ByLast end exchanges ⊎ ByNext end flags exchanges next

-- any exchange, which is looked at nowhere
any : Exchange
any = record { option = record { number = 0; content = [] }; answer = Aborted }

-- an answer ends it in one way, or does not
one_end : (answer : Answer) (a b : NegotiationEnd) → end_of answer ≡ Some a → end_of answer ≡ Some b → a ≡ b
one_end answer a b is is' = let same : Some a ≡ Some b = sym is ∙ is' in cc

not_both : (answer : Answer) (a : NegotiationEnd) → end_of answer ≡ Some a → end_of answer ≡ None → ⊥
not_both answer a is is' = let same : Some a ≡ None = sym is ∙ is' in cc

-- what is out of form is something
not_nothing : (flags : ℕ) (exchanges : List Exchange) (next : List ℕ) → next ≡ []
    → AreOutOfForm (Answering flags exchanges) next → ⊥
not_nothing flags exchanges next nil (inl none) = absurd (omega (arith, none.0, ap length nil))
not_nothing flags exchanges next nil (inr all) = absurd (omega (arith, all.0, ap length nil))

same_end : (a b : NegotiationEnd) (flags : ℕ) (exchanges : List Exchange) (next : List ℕ) → IsEnd a flags exchanges next
    → IsEnd b flags exchanges next → a ≡ b
same_end a b flags exchanges next (inl is) (inl is') =
    let place : is.before ≡ is'.before = omega (arith, is.counted, is'.counted) in
    one_end (get_or exchanges is'.before any).answer a b
    (ap (λ k. end_of (get_or exchanges k any).answer) (sym place) ∙ is.ends any) (is'.ends any)
same_end a b flags exchanges next (inl is) (inr is') =
    absurd (not_both _ a (is.ends any) (is'.all_open is.before any (omega (arith, is.counted))))
same_end a b flags exchanges next (inr is) (inl is') =
    absurd (not_both _ b (is'.ends any) (is.all_open is'.before any (omega (arith, is'.counted))))
same_end a b flags exchanges next (inr is) (inr is') = both is.either is'.either
  where
    both : ((next ≡ []) × (a ≡ Ended)) ⊎ (AreOutOfForm (Answering flags exchanges) next × (a ≡ Closed))
        → ((next ≡ []) × (b ≡ Ended)) ⊎ (AreOutOfForm (Answering flags exchanges) next × (b ≡ Closed)) → a ≡ b
    both (inl is) (inl is') = is.1 ∙ sym is'.1
    both (inl is) (inr is') = absurd (not_nothing flags exchanges next is.0 is'.0)
    both (inr is) (inl is') = absurd (not_nothing flags exchanges next is'.0 is.0)
    both (inr is) (inr is') = is.1 ∙ sym is'.1

-- ---- a list that goes on

-- an answer before the last one leaves the negotiation open
open_before : (end : NegotiationEnd) (flags : ℕ) (exchanges : List Exchange) (next : List ℕ)
    → IsEnd end flags exchanges next → (k : ℕ)
    → k + 1 < length exchanges → end_of (get_or exchanges k any).answer ≡ None
open_before end flags exchanges next (inl is) k before = is.first_open k any (omega (arith, is.counted, before))
open_before end flags exchanges next (inr is) k before = is.all_open k any (omega (arith, before))

-- no negotiation ends where another one, with the same input, goes on by an option
goes_no_further : (export : Export) (a b : NegotiationEnd) (flags : ℕ) (xs ys zs : List Exchange) (z : Exchange)
    (next next' : List ℕ)
    → IsEnd a flags xs next → IsEnd b flags ys next' → length ys ≤ max_options → All (IsExchange export) ys → ys ≡ xs ++ z ∷ zs
    → next ≡ options_bytes (z ∷ zs) ++ next' → ⊥
goes_no_further export a b flags xs ys zs z next next' (inl is) is' few are longer between =
    let long : length ys ≡ length xs + length (z ∷ zs) = ap length longer ∙ length-append xs (z ∷ zs) in
    let same : get_or ys is.before any ≡ get_or xs is.before any =
    ap (λ es. get_or es is.before any) longer ∙ get_or_append_left xs (z ∷ zs) any is.before (omega (arith, is.counted)) in
    not_both _ a (ap (λ (e : Exchange). end_of e.answer) same ∙ is.ends any)
    (open_before b flags ys next' is' is.before (omega (arith, is.counted, long)))
goes_no_further export a b flags xs ys zs z next next' (inr is) is' few are longer between =
    after_end is.either
  where
    begins_one : (next rest : List ℕ) (z : Exchange) → IsExchange export z → next ≡ client_option_bytes z.option ++ rest
        → AreOutOfForm (Answering flags xs) next → (length xs ≡ max_options → ⊥) → ⊥
    begins_one next rest z is split (inl none) few =
        none.1 (client_option_bytes z.option) rest z.option split
        (record { spelled = refl; number_fits = is.number_fits; size_fits = is.size_fits })
    begins_one next rest z is split (inr all) few = few all.1

    after_end : ((next ≡ []) × (a ≡ Ended)) ⊎ (AreOutOfForm (Answering flags xs) next × (a ≡ Closed)) → ⊥
    after_end (inl nil) = absurd (omega (arith, ap length (sym nil.0 ∙ between)))
    after_end (inr faulty) =
        let long : length ys ≡ length xs + length (z ∷ zs) = ap length longer ∙ length-append xs (z ∷ zs) in
        let at : get_or ys (length xs) any ≡ z = ap (λ es. get_or es (length xs) any) longer
        ∙ get_or_at xs z zs any (length xs) refl in
        begins_one next (options_bytes zs ++ next') z (subst (IsExchange export) at (are (length xs) any (omega (arith, long))))
        (between ∙ append_assoc (client_option_bytes z.option) (options_bytes zs) next') faulty.0
        (λ all. omega (arith, all, few, long))

-- ---- the end of a negotiation

-- a negotiation after the client's flags, which neither a fault nor want of memory broke off
record IsWhole (export : Export) (end : NegotiationEnd) (flags : ℕ) (exchanges : List Exchange) (input next sent : List ℕ) :
    Type 0 where
  known : flags < 4
  heard : input ≡ to_be_bytes w32 flags ++ (options_bytes exchanges ++ next)
  said : sent ≡ server_bytes export (Answering flags exchanges)
  at_most : length exchanges ≤ max_options
  answered : All (IsExchange export) exchanges
  is_end : IsEnd end flags exchanges next

-- one before the client's flags
record IsStart (end : NegotiationEnd) (input sent : List ℕ) : Type 0 where
  said : sent ≡ greeting_bytes
  either : ((input ≡ []) × (end ≡ Ended)) ⊎ (BeginsNoMessage IsClientFlags (Some input) × (end ≡ Closed))

-- either; where the export was entered, what comes next was left
abbrev IsOutcome : Export → NegotiationEnd → (input left sent : List ℕ) → Type 0
IsOutcome export end input left sent =
    IsStart end input sent
    ⊎ ((flags : ℕ) × (exchanges : List Exchange) × (next : List ℕ) × IsWhole export end flags exchanges input next sent
    × (end ≡ Entered → left ≡ next))

are_exchanges : (export : Export) (exchanges : List Exchange) → All (LeavesOpen export) exchanges
    → All (IsExchange export) exchanges
are_exchanges export exchanges are k d inside = (are k d inside).is_exchange

by_answer : (export : Export) (end : NegotiationEnd) (input left sent : List ℕ) → EndsByAnswer export end input left sent
    → IsOutcome export end input left sent
by_answer export end input left sent by =
    let before = by.options.before in
    let last = by.options.last in
    let flags = by.options.flags in
    let is_open = by.options.is_open in
    inr (
      flags,
      before ++ last ∷ [],
      left,
      record {
        known = is_open.0;
        heard =
            by.options.heard
            ∙ ap (λ xs. xs ++ left) (flat_map_more (λ x. client_option_bytes x.option) (to_be_bytes w32 flags) before last);
        said = by.said ∙ flat_map_more (reply_bytes export (has_zeroes flags)) greeting_bytes before last;
        at_most = omega (arith, by.options.fewer, length-append before (last ∷ []));
        answered = All-push (IsExchange export) before last (are_exchanges export before is_open.2) by.options.answered;
        is_end =
            inl (record {
              before = length before;
              counted = sym (length-append before (last ∷ []));
              ends = λ d. ap (λ (e : Exchange). end_of e.answer) (get_or_at before last [] d (length before) refl) ∙ by.ends;
              first_open = λ k d first.
                  ap (λ (e : Exchange). end_of e.answer) (get_or_append_left before (last ∷ []) d k first)
                  ∙ (is_open.2 k d first).goes_on;
            });
      },
      λ entered. refl,
    )

-- what ended otherwise has not entered
not_entered : (P Q : Type 0) (end : NegotiationEnd) → (P × (end ≡ Ended)) ⊎ (Q × (end ≡ Closed)) → end ≡ Entered → ⊥
not_entered P Q end (inl is) entered = let same : Ended ≡ Entered = sym is.1 ∙ entered in cc
not_entered P Q end (inr is) entered = let same : Closed ≡ Entered = sym is.1 ∙ entered in cc

with_next : (export : Export) (end : NegotiationEnd) (flags : ℕ) (exchanges : List Exchange) (input next left sent : List ℕ)
    → HasCome export (Answering flags exchanges) input next sent
    → ((next ≡ []) × (end ≡ Ended)) ⊎ (AreOutOfForm (Answering flags exchanges) next × (end ≡ Closed))
    → IsOutcome export end input left sent
with_next export end flags exchanges input next left sent come either =
    inr (
      flags,
      exchanges,
      next,
      record {
        known = come.is_open.0;
        heard = come.heard;
        said = come.said;
        at_most = come.is_open.1;
        answered = are_exchanges export exchanges come.is_open.2;
        is_end = inr (record { all_open = λ k d inside. (come.is_open.2 k d inside).goes_on; either = either });
      },
      λ entered. absurd (not_entered (next ≡ []) (AreOutOfForm (Answering flags exchanges) next) end either entered),
    )

with_input : (export : Export) (stage : Stage) (input left sent : List ℕ) → HasCome export stage input [] sent
    → IsOutcome export Ended input left sent
with_input export Greeted input left sent come = inl (record { said = come.said; either = inl (come.heard, refl) })
with_input export (Answering flags exchanges) input left sent come =
    with_next export Ended flags exchanges input [] left sent come (inl (refl, refl))

out_of_form : (export : Export) (stage : Stage) (input next left sent : List ℕ) → HasCome export stage input next sent
    → AreOutOfForm stage next → IsOutcome export Closed input left sent
out_of_form export Greeted input next left sent come faulty =
    inl (record {
      said = come.said;
      either = inr (subst (λ (xs : List ℕ). BeginsNoMessage IsClientFlags (Some xs)) (sym come.heard) faulty, refl);
    })
out_of_form export (Answering flags exchanges) input next left sent come faulty =
    with_next export Closed flags exchanges input next left sent come (inr (faulty, refl))

outcome : (export : Export) (end : NegotiationEnd) (input left sent : List ℕ) → IsOfInput end
    → IsNegotiation export end input left sent → IsOutcome export end input left sent
outcome export Entered input left sent is by = by_answer export Entered input left sent by
outcome export Ended input left sent is (inl by) = by_answer export Ended input left sent by
outcome export Ended input left sent is (inr at) = with_input export at.0 input left sent at.1
outcome export Closed input left sent is (inl by) = by_answer export Closed input left sent by
outcome export Closed input left sent is (inr at) = out_of_form export at.stage input at.next left sent at.come at.faulty
outcome export LinkFault input left sent is by = absurd is
outcome export OutOfMemory input left sent is by = absurd is

-- ---- two ends

not_yet : (export : Export) (a b : NegotiationEnd) (flags : ℕ) (exchanges : List Exchange) (input next sent sent' : List ℕ)
    → IsStart a input sent → IsWhole export b flags exchanges input next sent' → ⊥
not_yet export a b flags exchanges input next sent sent' start whole =
    elim start.either [
      | inl nil ↦ absurd (omega (arith, ap length (sym nil.0 ∙ whole.heard)))
      | inr none ↦
          none.0.1 (to_be_bytes w32 flags) (options_bytes exchanges ++ next) flags whole.heard
          (record { spelled = refl; known = whole.known })
    ]

both_start : (a b : NegotiationEnd) (input sent sent' : List ℕ) → IsStart a input sent → IsStart b input sent' → a ≡ b
both_start a b input sent sent' start start' = both start.either start'.either
  where
    both : ((input ≡ []) × (a ≡ Ended)) ⊎ (BeginsNoMessage IsClientFlags (Some input) × (a ≡ Closed))
        → ((input ≡ []) × (b ≡ Ended)) ⊎ (BeginsNoMessage IsClientFlags (Some input) × (b ≡ Closed)) → a ≡ b
    both (inl is) (inl is') = is.1 ∙ sym is'.1
    both (inl is) (inr is') = absurd (omega (arith, is'.0.0, ap length is.0))
    both (inr is) (inl is') = absurd (omega (arith, is.0.0, ap length is'.0))
    both (inr is) (inr is') = is.1 ∙ sym is'.1

-- the second of two lists goes on where the first one ends: then it is the same
no_further : (export : Export) (a b : NegotiationEnd) (flags : ℕ) (xs ys : List Exchange) (input next next' sent sent' : List ℕ)
    → IsWhole export a flags xs input next sent → IsWhole export b flags ys input next' sent' → (more : List Exchange)
    → ys ≡ xs ++ more → next ≡ options_bytes more ++ next' → (a ≡ b) × (sent ≡ sent') × (next ≡ next')
no_further export a b flags xs ys input next next' sent sent' is is' [] longer between =
    let same : ys ≡ xs = longer ∙ append-nil xs in
    let end : IsEnd b flags xs next =
    subst (λ (zs : List ℕ). IsEnd b flags xs zs) (sym between) (subst (λ (es : List Exchange). IsEnd b flags es next') same
    is'.is_end) in (
      same_end a b flags xs next is.is_end end,
      is.said ∙ ap (λ es. server_bytes export (Answering flags es)) (sym same) ∙ sym is'.said,
      between,
    )
no_further export a b flags xs ys input next next' sent sent' is is' (z ∷ zs) longer between =
    absurd (goes_no_further export a b flags xs ys zs z next next' is.is_end is'.is_end is'.at_most is'.answered longer between)

both_whole : (export : Export) (a b : NegotiationEnd) (flags : ℕ) (xs ys : List Exchange) (input next next' sent sent' : List ℕ)
    → IsWhole export a flags xs input next sent → IsWhole export b flags ys input next' sent'
    → (a ≡ b) × (sent ≡ sent') × (next ≡ next')
both_whole export a b flags xs ys input next next' sent sent' is is' =
    elim (compare export xs ys next next' is.answered is'.answered (ap (drop 4) (sym is.heard ∙ is'.heard))) [
      | inl g ↦ no_further export a b flags xs ys input next next' sent sent' is is' g.more g.longer g.between
      | inr g ↦
          (let same = no_further export b a flags ys xs input next' next sent' sent is' is g.more g.longer g.between in
          (sym same.0, sym same.1, sym same.2))
    ]

same_flags : (export : Export) (a b : NegotiationEnd) (flags flags' : ℕ) (xs ys : List Exchange)
    (input next next' sent sent' : List ℕ)
    → IsWhole export a flags xs input next sent → IsWhole export b flags' ys input next' sent' → flags' ≡ flags
same_flags export a b flags flags' xs ys input next next' sent sent' is is' =
    same_number flags' flags (omega (arith, is'.known)) (omega (arith, is.known)) (ap (take 4) (sym is'.heard ∙ is.heard))

pub one_outcome : (export : Export) (input left left' sent sent' : List ℕ) (a b : NegotiationEnd) → IsOfInput a → IsOfInput b
    → IsNegotiation export a input left sent → IsNegotiation export b input left' sent'
    → (a ≡ b) × (sent ≡ sent') × (a ≡ Entered → left ≡ left')
one_outcome export input left left' sent sent' a b of_input of_input' is is' =
    both (outcome export a input left sent of_input is) (outcome export b input left' sent' of_input' is')
  where
    both : IsOutcome export a input left sent → IsOutcome export b input left' sent'
        → (a ≡ b) × (sent ≡ sent') × (a ≡ Entered → left ≡ left')
    both (inl start) (inl start') = (
      both_start a b input sent sent' start start',
      start.said ∙ sym start'.said,
      λ entered. absurd (not_entered (input ≡ []) (BeginsNoMessage IsClientFlags (Some input)) a start.either entered),
    )
    both (inl start) (inr whole) = absurd (not_yet export a b whole.0 whole.1 input whole.2 sent sent' start whole.3)
    both (inr whole) (inl start) = absurd (not_yet export b a whole.0 whole.1 input whole.2 sent' sent start whole.3)
    both (inr whole) (inr whole') =
        let same = same_flags export a b whole.0 whole'.0 whole.1 whole'.1 input whole.2 whole'.2 sent sent' whole.3 whole'.3 in
        let ends =
        both_whole export a b whole.0 whole.1 whole'.1 input whole.2 whole'.2 sent sent' whole.3
        (subst (λ (flags : ℕ). IsWhole export b flags whole'.1 input whole'.2 sent') same whole'.3) in
        (ends.0, ends.1, λ entered. whole.4 entered ∙ ends.2 ∙ sym (whole'.4 (sym ends.0 ∙ entered)))
