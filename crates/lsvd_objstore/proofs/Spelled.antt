-- A text spells a name exactly where it is the spelling of one.
use Rattle.std.proofs.Common.{◌≡◌, ◌∙◌, sym, ap, subst, refl, ℕ, ◌-◌, ◌^◌, ◌<◌, ◌&&◌, Bool, true, false, cond, List, []}
use Rattle.std.proofs.Common.{◌∷◌, ◌++◌, length, take, drop, Some, None, arith, inl, inr, length-append, append_assoc}
use Rattle.std.specs.Prelude.{◌⊎◌, Option, option_and_then, nat_lt}
use Rattle.std.specs.List.{AllByRecursion}
use Rattle.std.specs.Str.{bytes_eq}
use Rattle.std.specs.Str.Parse.{digits_value}
use Rattle.std.proofs.lemmas.Bool.Decides.{nat_tests}
use Rattle.std.proofs.lemmas.List.{take_at, drop_at}
use Rattle.std.proofs.lemmas.Slice.Eq.{bytes_eq-Decides}
use Rattle.uuid.specs.Text.{hyphenated_text, lower, parsed}
use Rattle.lsvd_names.specs.Spelling.{IsName, IsUuid, hex_digits, dot, word, ending, spelling}
use Rattle.lsvd_names.specs.declared.name.NameKind.{NameKind}
use Rattle.lsvd_names.specs.declared.name.NameKind.TheVariants.{Super, Epoch, Object, Hold}
use Rattle.lsvd_names.specs.declared.name.ObjName.{ObjName}
use Rattle.lsvd_names.proofs.Names.{text_parses, length-uuid_text, parsed_is_uuid, one_spelling}
use Rattle.lsvd_names.proofs.Hexadecimal.{length-hex_digits, digits_value-hex_digits}
use Rattle.lsvd_objstore.specs.Spelled.{first_spelled, names_with, last_number, name_spelled}

both : (a b : Bool) → (a && b) ≡ true → (a ≡ true) × (b ≡ true)
both true true e = (refl, refl)
both true false e = cc
both false b e = cc

below : (m n : ℕ) → nat_lt m n ≡ true → m < n
below m n h = grind (arith, nat_tests)

is_below : (m n : ℕ) → m < n → nat_lt m n ≡ true
is_below m n h = grind (arith, nat_tests)

-- these are names, as far as their numbers fit
abbrev AreNames : List ObjName → Type 0
AreNames names = AllByRecursion (λ (name : ObjName). name.number < 2 ^ 64 → IsName name) names

are_names : (uuid : List ℕ) (number : ℕ) → IsUuid uuid → AreNames (names_with uuid number)
are_names uuid number is = (
  λ fits. record { uuid = is; number = refl; fits = fits },
  (
    λ fits. record { uuid = is; number = tt; fits = fits },
    (λ fits. record { uuid = is; number = tt; fits = fits }, (λ fits. record { uuid = is; number = tt; fits = fits }, tt)),
  ),
)

found_here : (test : Bool) (text : List ℕ) (first name : ObjName) (rest : Option ObjName)
    → (test ≡ true → IsName first × (text ≡ spelling first)) → (rest ≡ Some name → IsName name × (text ≡ spelling name))
    → cond test (Some first) rest ≡ Some name → IsName name × (text ≡ spelling name)
found_here true text first name rest here later e =
    let same : first ≡ name = cc in
    subst (λ (it : ObjName). IsName it × (text ≡ spelling it)) same (here refl)
found_here false text first name rest here later e = later e

found_first : (text : List ℕ) (names : List ObjName) (name : ObjName) → AreNames names → first_spelled text names ≡ Some name
    → IsName name × (text ≡ spelling name)
found_first text [] name are e = cc
found_first text (first ∷ names) name are e =
    found_here (nat_lt first.number (2 ^ 64) && bytes_eq (spelling first) text) text first name (first_spelled text names)
    (λ test.
    let tests = both (nat_lt first.number (2 ^ 64)) (bytes_eq (spelling first) text) test in
    (are.0 (below first.number (2 ^ 64) tests.0), sym ((bytes_eq-Decides (spelling first) text).0 tests.1)))
    (found_first text names name are.1) e

of_uuid : (text : List ℕ) (found : Option (List ℕ)) (name : ObjName) → ((uuid : List ℕ) → Some uuid ≡ found → IsUuid uuid)
    → option_and_then (λ uuid. first_spelled text (names_with uuid (last_number text))) found ≡ Some name
    → IsName name × (text ≡ spelling name)
of_uuid text None name is e = cc
of_uuid text (Some uuid) name is e =
    found_first text (names_with uuid (last_number text)) name (are_names uuid (last_number text) (is uuid refl)) e

-- what a text spells is a name that it is the spelling of
pub spelled_is : (text : List ℕ) (name : ObjName) → name_spelled text ≡ Some name → IsName name × (text ≡ spelling name)
spelled_is text name e = of_uuid text (parsed (take 36 text)) name (parsed_is_uuid (take 36 text)) e

-- the uuid and the number of a spelling
uuid_of : (name : ObjName) → IsUuid name.uuid → parsed (take 36 (spelling name)) ≡ Some name.uuid
uuid_of name is =
    ap parsed (take_at (hyphenated_text lower name.uuid) (dot ∷ ending name.kind name.number) 36 (length-uuid_text name.uuid))
    ∙ sym (text_parses name.uuid is)

last_sixteen : (front back : List ℕ) → length back ≡ 16 → drop (length (front ++ back) - 16) (front ++ back) ≡ back
last_sixteen front back e = drop_at front back (length (front ++ back) - 16) (omega (arith, length-append front back))

number_at_end : (text front : List ℕ) (number : ℕ) → text ≡ front ++ hex_digits 16 number → number < 2 ^ 64
    → last_number text ≡ number
number_at_end text front number e fits =
    ap last_number e
    ∙ ap (digits_value 16) (last_sixteen front (hex_digits 16 number) (length-hex_digits 16 number))
    ∙ digits_value-hex_digits 16 number (omega arith)

-- `name` is one of these
abbrev Among : List ObjName → ObjName → Type 0
Among [] name = ⊥
Among (first ∷ names) name = (first ≡ name) ⊎ Among names name

among_kind : (kind : NameKind) (uuid : List ℕ) (number : ℕ) → IsName (record { uuid = uuid; kind = kind; number = number })
    → Among (names_with uuid (last_number (spelling (record { uuid = uuid; kind = kind; number = number }))))
    (record { uuid = uuid; kind = kind; number = number })
among_kind Super uuid number is =
    inl (ap (λ (n : ℕ). let name : ObjName = record { uuid = uuid; kind = Super; number = n } in name) (sym is.number))
among_kind Epoch uuid number is =
    let text = hyphenated_text lower uuid in
    let last = number_at_end (text ++ dot ∷ ending Epoch number) (text ++ dot ∷ (word Epoch ++ dot ∷ [])) number
    (sym (append_assoc text (dot ∷ (word Epoch ++ dot ∷ [])) (hex_digits 16 number))) is.fits in
    inr (inl (ap (λ (n : ℕ). let name : ObjName = record { uuid = uuid; kind = Epoch; number = n } in name) last))
among_kind Object uuid number is =
    let text = hyphenated_text lower uuid in
    let last = number_at_end (text ++ dot ∷ ending Object number) (text ++ dot ∷ (word Object ++ dot ∷ [])) number
    (sym (append_assoc text (dot ∷ (word Object ++ dot ∷ [])) (hex_digits 16 number))) is.fits in
    inr (inr (inl (ap (λ (n : ℕ). let name : ObjName = record { uuid = uuid; kind = Object; number = n } in name) last)))
among_kind Hold uuid number is =
    let text = hyphenated_text lower uuid in
    let last = number_at_end (text ++ dot ∷ ending Hold number) (text ++ dot ∷ (word Hold ++ dot ∷ [])) number
    (sym (append_assoc text (dot ∷ (word Hold ++ dot ∷ [])) (hex_digits 16 number))) is.fits in
    inr (inr (inr (inl (ap (λ (n : ℕ). let name : ObjName = record { uuid = uuid; kind = Hold; number = n } in name) last))))

tests_true : (name : ObjName) (text : List ℕ) → name.number < 2 ^ 64 → text ≡ spelling name
    → (nat_lt name.number (2 ^ 64) && bytes_eq (spelling name) text) ≡ true
tests_true name text fits e =
    let first = is_below name.number (2 ^ 64) fits in
    let second : bytes_eq (spelling name) text ≡ true = (bytes_eq-Decides (spelling name) text).1 (sym e) in
    rw (first, second) refl

is_here : (test : Bool) (first name : ObjName) (rest : Option ObjName) → (test ≡ true → first ≡ name)
    → (first ≡ name → test ≡ true) → (first ≡ name) ⊎ (rest ≡ Some name) → cond test (Some first) rest ≡ Some name
is_here true first name rest same test there = ap Some (same refl)
is_here false first name rest same test (inl e) = let both = test e in cc
is_here false first name rest same test (inr e) = e

either_later : {A B C : Type 0} → (B → C) → A ⊎ B → A ⊎ C
either_later f (inl a) = inl a
either_later f (inr b) = inr (f b)

first_is : (text : List ℕ) (names : List ObjName) (name : ObjName) → IsName name → text ≡ spelling name → AreNames names
    → Among names name → first_spelled text names ≡ Some name
first_is text [] name is e are among = absurd among
first_is text (first ∷ names) name is e are among =
    is_here (nat_lt first.number (2 ^ 64) && bytes_eq (spelling first) text) first name (first_spelled text names)
    (λ test.
    let tests = both (nat_lt first.number (2 ^ 64)) (bytes_eq (spelling first) text) test in
    one_spelling first name (are.0 (below first.number (2 ^ 64) tests.0)) is
    ((bytes_eq-Decides (spelling first) text).0 tests.1 ∙ e))
    (λ same.
    tests_true first text (subst (λ (it : ObjName). it.number < 2 ^ 64) (sym same) is.fits)
    (e ∙ ap spelling (sym same)))
    (either_later (first_is text names name is e are.1) among)

-- a name's spelling spells it
pub spelled_gives : (name : ObjName) → IsName name → name_spelled (spelling name) ≡ Some name
spelled_gives name is =
    let text = spelling name in
    ap (option_and_then (λ uuid. first_spelled text (names_with uuid (last_number text)))) (uuid_of name is.uuid)
    ∙ first_is text (names_with name.uuid (last_number text)) name is refl (are_names name.uuid (last_number text) is.uuid)
    (among_kind name.kind name.uuid name.number is)

none_if : (found : Option ObjName) → ((name : ObjName) → found ≡ Some name → ⊥) → found ≡ None
none_if None never = refl
none_if (Some name) never = absurd (never name refl)

-- a text that is no name's spelling spells none
pub spells_none : (text : List ℕ) → ((name : ObjName) → IsName name → text ≡ spelling name → ⊥) → name_spelled text ≡ None
spells_none text never = none_if (name_spelled text) (λ name e. let is = spelled_is text name e in never name is.0 is.1)
