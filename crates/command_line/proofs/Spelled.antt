-- What the code reads of the values of options.
use Rattle.std.proofs.Common.{◌≡◌, ◌≢◌, ◌∙◌, ◌⊎◌, ◌^◌, ◌<◌, ◌≤◌, ℕ, arith, inl, inr, Bool, true, false, List, Option, Some, None}
use Rattle.std.proofs.Common.{ap, is_some, refl, sym, option_map}
use Rattle.std.specs.Prelude.{◌↔◌, Err, IfNone, IfOk, IfSome, IsOk, Ok, Result, decimal}
use Rattle.std.specs.Bool.{then_some}
use Rattle.std.specs.Borrow.{Bor}
use Rattle.std.specs.Result.{result_ok}
use Rattle.uuid.specs.Text.{parsed}
use Rattle.std.specs.Str.{bytes_eq}
use Rattle.std.proofs.lemmas.Fmt.{decimal_injective}
use Rattle.clap.specs.Values.{bool_text}
use Rattle.clap.specs.Walk.{Text, rows_of}
use Rattle.clap.specs.Matches.{first_value}
use Rattle.clap.specs.declared.parser.matches.Found.{Found}
use Rattle.clap.proofs.WalkLemmas.{first_value-rows}
use Rattle.lsvd_base.specs.Limits.{is_within_limits}
use Rattle.lsvd_base.specs.declared.geometry.Geometry.{Geometry}
use Rattle.command_line.specs.Create.{GivesSizes, HasBadValue, limits}
use Rattle.command_line.specs.Values.{IsNoUuid, IsNumber, LacksBetween, LacksNumber, is_set}
use Rattle.command_line.specs.Met.{value_among}

abbrev Texts : Type 0
Texts = Option (Bor Text)

abbrev text_of : Texts → Option Text
text_of = option_map (λ text. text.now)

-- what a look for a name found is the value among the rows
pub got : (found : Found) (name : Text) (text : Texts) → text_of text ≡ first_value found name
    → value_among (rows_of found) name ≡ text_of text
got found name text is = sym (is ∙ first_value-rows found name)

pub got_some : (found : Found) (name : Text) (text : Texts) (some : Bor Text) → text_of text ≡ first_value found name
    → text ≡ Some some
    → value_among (rows_of found) name ≡ Some some.now
got_some found name text some is has = got found name text is ∙ ap text_of has

pub got_none : (found : Found) (name : Text) (text : Texts) → text_of text ≡ first_value found name → text ≡ None
    → value_among (rows_of found) name ≡ None
got_none found name text is has = got found name text is ∙ ap text_of has

pub got_absent : (found : Found) (name : Text) (text : Texts) → text_of text ≡ first_value found name → is_some text ≡ false
    → value_among (rows_of found) name ≡ None
got_absent found name None is absent = got_none found name None is refl
got_absent found name (Some text) is absent = cc

pub got_present : (found : Found) (name : Text) (text : Texts) → text_of text ≡ first_value found name → is_some text ≡ true
    → value_among (rows_of found) name ≢ None
got_present found name None is present = cc
got_present found name (Some text) is present = λ none.
    let both : Some text.now ≡ None = sym (got_some found name (Some text) text is refl) ∙ none in cc

-- ---- numbers

pub lacks_absent : (value : Text → Option Text) (name : Text) → value name ≡ None → LacksNumber value name
lacks_absent value name none n is = let both : None ≡ Some (decimal n) = sym none ∙ is.1 in cc

pub lacks_other : (value : Text → Option Text) (name text : Text) (number : Option ℕ) → value name ≡ Some text
    → IfNone number ((n : ℕ) → n < 2 ^ 64 → text ≢ decimal n) → IfNone number (LacksNumber value name)
lacks_other value name text (Some n) some other = tt
lacks_other value name text None some other = λ n is. let both : Some text ≡ Some (decimal n) = sym some ∙ is.1 in other n is.0 cc

pub has_number : (value : Text → Option Text) (name text : Text) (number : Option ℕ) → value name ≡ Some text
    → IfSome number (λ n. (n < 2 ^ 64) × (text ≡ decimal n)) → IfSome number (IsNumber value name)
has_number value name text (Some n) some is = (is.0, some ∙ ap (λ (t : Text). Some t) is.1)
has_number value name text None some is = tt

-- an option has one number
pub same_number : (value : Text → Option Text) (name : Text) (a b : ℕ) → IsNumber value name a → IsNumber value name b → a ≡ b
same_number value name a b is_a is_b =
    let both : Some (decimal a) ≡ Some (decimal b) = sym is_a.1 ∙ is_b.1 in
    decimal_injective a b is_a.0 is_b.0 cc

-- a number that is not between these
pub lacks_beyond : (value : Text → Option Text) (name : Text) (least most number : ℕ) → IsNumber value name number
    → (number < least) ⊎ ((least ≤ number) × (most < number)) → LacksBetween value name least most
lacks_beyond value name least most number is (inl below) n (other, from, to) =
    let same = same_number value name n number other is in omega (arith, below, from, same)
lacks_beyond value name least most number is (inr above) n (other, from, to) =
    let same = same_number value name n number other is in omega (arith, above.1, to, same)

pub lacks_between : (value : Text → Option Text) (name : Text) (least most : ℕ) → LacksNumber value name
    → LacksBetween value name least most
lacks_between value name least most lacks n is = lacks n is.0

-- sizes that do not keep the limits
pub past_limits : (value : Text → Option Text) (sizes : Geometry) (test : Bool) → test ≡ is_within_limits sizes
    → GivesSizes value sizes
    → IfNone (then_some test sizes) (HasBadValue value)
past_limits value sizes true is gives = tt
past_limits value sizes false is gives = limits sizes gives (sym is)

-- ---- uuids

module _ {E : Type 0} where
  pub bad_uuid : (value : Text → Option Text) (name text : Text) (read : Result (List ℕ) E) → value name ≡ Some text
      → IsOk read ↔ ((u : List ℕ) × (parsed text ≡ Some u)) → result_ok read ≡ None → IsNoUuid value name
  bad_uuid value name text read some ok none = (text, some, go read (parsed text) refl ok none)
    where
      go : (r : Result (List ℕ) E) (found : Option (List ℕ)) → parsed text ≡ found
          → IsOk r ↔ ((u : List ℕ) × (parsed text ≡ Some u))
          → result_ok r ≡ None → parsed text ≡ None
      go r None is both none = is
      go (Ok u) (Some v) is both none = cc
      go (Err e) (Some v) is both none = let bad : false ≡ true = both.1 (v, is) in cc

  pub parsed_to : (text : Text) (u : List ℕ) (read : Result (List ℕ) E) → IfOk read (λ v. Some v ≡ parsed text)
      → result_ok read ≡ Some u
      → Some (parsed text) ≡ Some (Some u)
  parsed_to text u (Ok v) is some = let same : parsed text ≡ Some u = sym is ∙ some in ap (λ (p : Option (List ℕ)). Some p) same
  parsed_to text u (Err e) is some = cc

-- ---- flags

pub set_by : (value : Text → Option Text) (name text : Text) → value name ≡ Some text
    → bytes_eq text (bool_text true) ≡ is_set value name
set_by value name text some = rw some refl

pub not_set : (value : Text → Option Text) (name : Text) → value name ≡ None → false ≡ is_set value name
not_set value name none = rw none refl
