-- How clap refuses the words of a command that has no argument but requests for help and the version.
use Rattle.std.proofs.Common.{ℕ, zero, suc, Bool, true, false, List, [], ◌∷◌, Option, Some, None, length, ◌≡◌, ◌⊎◌, inl, inr}
use Rattle.std.proofs.Common.{refl, ap, find}
use Rattle.std.specs.Prelude.{slice_get, IfSome}
use Rattle.std.specs.Option.{option_map_or}
use Rattle.std.specs.Str.{bytes_eq, chars}
use Rattle.clap.specs.Lexer.{long_of, short_of}
use Rattle.clap.specs.Walk.{Held, Names, Row, Rule, Text, after_flag, arg_by_index, arg_by_long, arg_by_short, bundle_met}
use Rattle.clap.specs.Walk.{bundle_step, idle, long_or_other, nothing_held, plain, short_or_plain, subcommand_met, takes_values}
use Rattle.clap.specs.Walk.{value, walk_from}
use Rattle.clap.specs.Simple.{Shape}
use Rattle.clap.specs.Kinds.{Kinds, or_else}
use Rattle.clap.specs.Faults.{bundle_fault, bundle_step_fault, flag_word_fault, flags_fault, long_fault, short_fault, step_fault}
use Rattle.clap.specs.Faults.{stray_fault, turn_fault, use_fault}
use Rattle.clap.specs.declared.error.kind.ErrorKind.{ErrorKind}
use Rattle.clap.specs.declared.error.kind.ErrorKind.TheVariants.{UnknownArgument, InvalidSubcommand, TooManyValues}

-- one kind, or that of a stray word
abbrev pub IsRefusal : Kinds → Type 0
IsRefusal kinds = ((kind : ErrorKind) × (kinds ≡ kind ∷ [])) ⊎ (kinds ≡ UnknownArgument ∷ InvalidSubcommand ∷ [])

pub refusal_first : (first next : Kinds) → IsRefusal first → IsRefusal (or_else first next)
refusal_first first next (inl one) = inl (one.0, ap (λ kinds. or_else kinds next) one.1)
refusal_first first next (inr stray) = inr (ap (λ kinds. or_else kinds next) stray)

-- each use of the argument is refused: it is a request
pub record IsRequest (rule : Rule) : Type 0 where
  pub bare : takes_values rule ≡ false
  pub refused : (again : Bool) (rows : List Row) → IsRefusal (use_fault again rule [] rows)

abbrev pub AreRequests : List Rule → Type 0
AreRequests [] = Unit {0}
AreRequests (rule ∷ rules) = IsRequest rule × AreRequests rules

-- the command's arguments are requests, and no word goes to a place
pub record HasRequestsOnly (s : Shape) : Type 0 where
  pub requests : AreRequests s.rules
  pub places : arg_by_index s.rules 1 ≡ None

-- a search among requests
found_request : (p : Rule → Bool) (rules : List Rule) → AreRequests rules → IfSome (find p rules) IsRequest
found_request p [] all = tt
found_request p (rule ∷ rules) all = go (p rule) refl (found_request p rules all.1)
  where
    go : (test : Bool) → p rule ≡ test → IfSome (find p rules) IsRequest → IfSome (find p (rule ∷ rules)) IsRequest
    go true e more = rw e all.0
    go false e more = rw e more

stray_refused : (s : Shape) → HasRequestsOnly s → IsRefusal (step_fault s 1 nothing_held value)
stray_refused s has = rw has.places (go s.is_leaf refl)
  where
    go : (leaf : Bool) → s.is_leaf ≡ leaf → IsRefusal (stray_fault s)
    go true e = rw e (inl (UnknownArgument, refl))
    go false e = rw e (inr refl)

long_refused : (rules : List Rule) (again : Bool) (rule : Option Rule) (v : Option Text) → IfSome rule IsRequest
    → IsRefusal (long_fault rules again rule v nothing_held)
long_refused rules again None v request = inl (UnknownArgument, refl)
long_refused rules again (Some rule) None request = rw request.bare (request.refused again [])
long_refused rules again (Some rule) (Some v) request = rw request.bare (inl (TooManyValues, refl))

short_refused : (rules : List Rule) (again : Bool) (rule : Option Rule) (rest : Text) (next : Held → Kinds)
    → IfSome rule IsRequest
    → IsRefusal (short_fault rules again rule rest nothing_held next)
short_refused rules again None rest next request = inl (UnknownArgument, refl)
short_refused rules again (Some rule) rest next request = rw request.bare (refusal_first _ _ (request.refused again []))

-- a word that begins with one hyphen, by its characters
bundle_refused : (s : Shape) (word flags : Text) (skipped : ℕ) (x : Option ℕ) → HasRequestsOnly s
    → IsRefusal (or_else
    (bundle_step_fault s.rules s.args_override_self x flags 0 nothing_held (flags_fault s.rules s.args_override_self skipped))
    (let met = bundle_step s.rules x flags 0 plain nothing_held (bundle_met s.rules skipped) in
    step_fault s 1 (after_flag s.rules idle word met.0 met.1).0 (after_flag s.rules idle word met.0 met.1).1))
bundle_refused s word flags skipped None has = stray_refused s has
bundle_refused s word flags skipped (Some x) has =
    refusal_first _ _ (short_refused s.rules s.args_override_self (arg_by_short s.rules x) _ _
    (found_request _ s.rules has.requests))

flags_refused : (s : Shape) (word flags : Text) (count : ℕ) → HasRequestsOnly s
    → IsRefusal (or_else (flags_fault s.rules s.args_override_self count flags 0 nothing_held)
    (let met = bundle_met s.rules count flags 0 plain nothing_held in
    step_fault s 1 (after_flag s.rules idle word met.0 met.1).0 (after_flag s.rules idle word met.0 met.1).1))
unfolding flags_fault bundle_met
flags_refused s word flags zero has = stray_refused s has
flags_refused s word flags (suc count) has = bundle_refused s word flags count (slice_get (chars flags) 0) has

hyphen_refused : (s : Shape) (word : Text) (flags : Option Text) → HasRequestsOnly s
    → IsRefusal (or_else (option_map_or (λ flags. bundle_fault s.rules s.args_override_self flags nothing_held) flags [])
    (let met = short_or_plain s.rules idle word flags nothing_held in step_fault s 1 met.0 met.1))
hyphen_refused s word None has = stray_refused s has
hyphen_refused s word (Some flags) has = flags_refused s word flags (length flags) has

-- a word that is no command, by what it may be as a long option
long_or_other_refused : (s : Shape) (word : Text) (long : Option (Text × Option Text)) → HasRequestsOnly s
    → IsRefusal (or_else (flag_word_fault s.rules s.args_override_self long word nothing_held)
    (let met = long_or_other s.rules idle word long nothing_held in step_fault s 1 met.0 met.1))
long_or_other_refused s word (Some long) has =
    refusal_first _ _ (long_refused s.rules s.args_override_self (arg_by_long s.rules long.0) long.1
    (found_request _ s.rules has.requests))
long_or_other_refused s word None has = hyphen_refused s word (short_of word) has

-- the first word is refused, where it is no command and not `--`
pub first_refused : (s : Shape) (names : Names) (word : Text) → HasRequestsOnly s → subcommand_met names idle word ≡ None
    → bytes_eq word (45 ∷ 45 ∷ []) ≡ false → IsRefusal (turn_fault s names (walk_from nothing_held) word)
first_refused s names word has none other = rw (none, other) (long_or_other_refused s word (long_of word) has)

-- and so is a word after `--`
pub trailing_refused : (s : Shape) (names : Names) (word : Text) → HasRequestsOnly s
    → IsRefusal (turn_fault s names (record (walk_from nothing_held) { is_trailing = true }) word)
trailing_refused s names word has = stray_refused s has
