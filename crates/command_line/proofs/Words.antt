-- What clap's lexer makes of the words that give options.
use Rattle.std.proofs.Common.{◌≡◌, ◌≢◌, ◌⊎◌, ◌∙◌, ◌+◌, ◌==◌, ◌<◌, ℕ, zero, suc, Bool, not, true, false, inl, inr, [], ◌∷◌, ◌++◌}
use Rattle.std.proofs.Common.{Option, Some, None, ap, ap₂, append_assoc, arith, codes, drop, get_or, length, refl, subst, sym}
use Rattle.std.proofs.Common.{take}
use Rattle.std.specs.Prelude.{slice_get}
use Rattle.std.specs.List.{after_first, before_first, position_or_len}
use Rattle.std.specs.Str.{bytes_eq, chars}
use Rattle.std.proofs.lemmas.Bool.Decides.{nat_tests}
use Rattle.clap.specs.Lexer.{has_byte, long_of, name_and_value, short_of}
use Rattle.clap.specs.Walk.{Text}
use Rattle.clap.proofs.CutLemmas.{Lacks}
use Rattle.clap.proofs.LexerLemmas.{name_and_value-at, name_and_value-without}
use Rattle.command_line.specs.Options.{StandsAlone}

abbrev pub dashes : Text
dashes = codes "--"

-- ---- the words of an option

-- the name of an option: it has a byte, and no `=`
pub record IsName (name : Text) : Type 0 where
  pub some : name ≢ []
  pub plain : Lacks 61 name

-- the same as a test
abbrev pub is_name : Text → Bool
is_name [] = false
is_name (x ∷ xs) = not (has_byte 61 (x ∷ xs))

lacks : (text : Text) → has_byte 61 text ≡ false → Lacks 61 text
lacks [] none i small = absurd (omega arith)
lacks (x ∷ xs) none i small = go (x == 61) refl i small (lacks xs)
  where
    go : (test : Bool) → (x == 61) ≡ test → (i : ℕ) → i < length (x ∷ xs) → (has_byte 61 xs ≡ false → Lacks 61 xs)
        → get_or (x ∷ xs) i 0 ≢ 61
    go true e i small more = let bad : true ≡ false = rw e at none in cc
    go false e zero small more = λ is. grind (arith, nat_tests)
    go false e (suc i) small more = more (rw e at none) i (omega arith)

pub name_from_test : (name : Text) → is_name name ≡ true → IsName name
name_from_test [] is = cc
name_from_test (x ∷ xs) is = record { some = λ bad. cc; plain = lacks (x ∷ xs) (go (has_byte 61 (x ∷ xs)) refl) }
  where
    go : (test : Bool) → has_byte 61 (x ∷ xs) ≡ test → has_byte 61 (x ∷ xs) ≡ false
    go false e = e
    go true e = let bad : false ≡ true = rw e at is in cc

pub no_dashes : (name : Text) → name ≢ [] → bytes_eq (dashes ++ name) dashes ≡ false
no_dashes [] some = absurd (some refl)
no_dashes (x ∷ xs) some = refl

pub long_alone : (name : Text) → IsName name → long_of (dashes ++ name) ≡ Some (name, None)
long_alone [] is = absurd (is.some refl)
long_alone (x ∷ xs) is = ap (λ (p : Text × Option Text). Some p) (name_and_value-without (x ∷ xs) is.plain)

pub long_joined : (name value : Text) → IsName name → long_of (dashes ++ name ++ codes "=" ++ value) ≡ Some (name, Some value)
long_joined [] value is = absurd (is.some refl)
long_joined (x ∷ xs) value is =
    ap (λ (text : Text). Some (name_and_value text)) (append_assoc (x ∷ xs) (codes "=") value)
    ∙ ap (λ (p : Text × Option Text). Some p) (name_and_value-at (x ∷ xs) value is.plain)

pub joined_no_dashes : (name value : Text) → name ≢ [] → bytes_eq (dashes ++ name ++ codes "=" ++ value) dashes ≡ false
joined_no_dashes [] value some = absurd (some refl)
joined_no_dashes (x ∷ xs) value some = refl

-- ---- and back

abbrev is_equals : ℕ → Bool
is_equals x = x == 61

-- a text with an `=`, cut at the first, and one without
cut : (text : Text) → (has_byte 61 text ≡ true → text ≡ before_first is_equals text ++ 61 ∷ after_first is_equals text)
    × (has_byte 61 text ≡ false → text ≡ before_first is_equals text)
cut [] = (λ has. cc, λ lacks. refl)
cut (x ∷ xs) = go (x == 61) refl (cut xs)
  where
    place : ℕ
    place = position_or_len is_equals xs

    one_more : 1 + place ≡ suc place
    one_more = omega arith

    past : suc place + 1 ≡ suc (suc place)
    past = omega arith

    next : place + 1 ≡ suc place
    next = omega arith

    go : (test : Bool) → (x == 61) ≡ test
        → (has_byte 61 xs ≡ true → xs ≡ before_first is_equals xs ++ 61 ∷ after_first is_equals xs)
        × (has_byte 61 xs ≡ false → xs ≡ before_first is_equals xs)
        → (has_byte 61 (x ∷ xs) ≡ true → x ∷ xs ≡ before_first is_equals (x ∷ xs) ++ 61 ∷ after_first is_equals (x ∷ xs))
        × (has_byte 61 (x ∷ xs) ≡ false → x ∷ xs ≡ before_first is_equals (x ∷ xs))
    go true e more = rw e (λ has. let is : x ≡ 61 = grind (arith, nat_tests) in ap (λ y. y ∷ xs) is, λ lacks. cc)
    go false e more = rw e (
      λ has. rw (one_more, past) (ap (λ text. x ∷ text) (more.0 has ∙ ap (λ n. take place xs ++ 61 ∷ drop n xs) next)),
      λ lacks. rw one_more (ap (λ text. x ∷ text) (more.1 lacks)),
    )

-- a long option is two hyphens before a text
dashed : (word : Text) (given : Text × Option Text) → long_of word ≡ Some given
    → (rest : Text) × (word ≡ dashes ++ rest) × (name_and_value rest ≡ given)
dashed [] given is = cc
dashed (a ∷ []) given is = go (a == 45) refl
  where
    go : (test : Bool) → (a == 45) ≡ test → (rest : Text) × (a ∷ [] ≡ dashes ++ rest) × (name_and_value rest ≡ given)
    go true e = let bad : None ≡ Some given = rw e at is in cc
    go false e = let bad : None ≡ Some given = rw e at is in cc
dashed (a ∷ b ∷ text) given is = go (a == 45) (b == 45) refl refl text is
  where
    go : (first second : Bool) → (a == 45) ≡ first → (b == 45) ≡ second → (text : Text) → long_of (a ∷ b ∷ text) ≡ Some given
        → (rest : Text) × (a ∷ b ∷ text ≡ dashes ++ rest) × (name_and_value rest ≡ given)
    go false second e f text is = let bad : None ≡ Some given = rw e at is in cc
    go true false e f text is = let bad : None ≡ Some given = rw (e, f) at is in cc
    go true true e f [] is = let bad : None ≡ Some given = rw (e, f) at is in cc
    go true true e f (c ∷ cs) is =
        let found : Some (name_and_value (c ∷ cs)) ≡ Some given = rw (e, f) at is in
        let one : a ≡ 45 = grind (arith, nat_tests) in
        let two : b ≡ 45 = grind (arith, nat_tests) in
        (c ∷ cs, rw (one, two) refl, cc)

-- the word of a long option
pub word_of_long : (word name : Text) → long_of word ≡ Some (name, None) → word ≡ dashes ++ name
word_of_long word name is = go (dashed word (name, None) is)
  where
    go : (rest : Text) × (word ≡ dashes ++ rest) × (name_and_value rest ≡ (name, None)) → word ≡ dashes ++ name
    go (rest, whole, parts) = by_test (has_byte 61 rest) refl
      where
        by_test : (test : Bool) → has_byte 61 rest ≡ test → word ≡ dashes ++ name
        by_test true e = let bad : Some (after_first is_equals rest) ≡ None =
            rw e at (ap (λ (p : Text × Option Text). p.1) parts) in cc
        by_test false e = whole ∙ ap (λ (text : Text). dashes ++ text) ((cut rest).1 e
            ∙ ap (λ (p : Text × Option Text). p.0) parts)

pub word_of_joined : (word name value : Text) → long_of word ≡ Some (name, Some value)
    → word ≡ dashes ++ name ++ codes "=" ++ value
word_of_joined word name value is = go (dashed word (name, Some value) is)
  where
    go : (rest : Text) × (word ≡ dashes ++ rest) × (name_and_value rest ≡ (name, Some value))
        → word ≡ dashes ++ name ++ codes "=" ++ value
    go (rest, whole, parts) = by_test (has_byte 61 rest) refl
      where
        by_test : (test : Bool) → has_byte 61 rest ≡ test → word ≡ dashes ++ name ++ codes "=" ++ value
        by_test true e =
            let before : before_first is_equals rest ≡ name = ap (λ (p : Text × Option Text). p.0) parts in
            let some : Some (after_first is_equals rest) ≡ Some value = rw e at (ap (λ (p : Text × Option Text). p.1) parts) in
            let after : after_first is_equals rest ≡ value = cc in
            whole ∙ ap (λ (text : Text). dashes ++ text) ((cut rest).0 e ∙ ap₂ (λ (b a : Text). b ++ 61 ∷ a) before after)
            ∙ sym (append_assoc (dashes ++ name) (codes "=") value)
        by_test false e = let bad : None ≡ Some value = rw e at (ap (λ (p : Text × Option Text). p.1) parts) in cc

-- ---- each word

-- the word is no flag and not `--`
pub record IsPlain (word : Text) : Type 0 where
  pub other : bytes_eq word dashes ≡ false
  pub not_long : long_of word ≡ None
  pub not_short : (short_of word ≡ None) ⊎ ((flags : Text) × (short_of word ≡ Some flags) × (slice_get (chars flags) 0 ≡ None))

-- what a word is
pub data WordKind (word : Text) : Type 0 where
  ends : word ≡ dashes → WordKind word
  long : (name : Text) (value : Option Text) → bytes_eq word dashes ≡ false → long_of word ≡ Some (name, value) → WordKind word
  short : (flags : Text) (x : ℕ) → bytes_eq word dashes ≡ false → long_of word ≡ None → short_of word ≡ Some flags
      → slice_get (chars flags) 0 ≡ Some x
      → WordKind word
  plain : IsPlain word → StandsAlone word → WordKind word

-- a hyphen is a character
hyphen_first : (rest : Text) → chars (45 ∷ rest) ≡ [] → ⊥
unfolding chars
hyphen_first [] none = cc
hyphen_first (b ∷ rest) none = cc

pub stands_plain : (word : Text) → StandsAlone word → IsPlain word
stands_plain [] stands = record { other = refl; not_long = refl; not_short = inl refl }
stands_plain (x ∷ rest) stands = go (x == 45) refl rest stands
  where
    go : (test : Bool) → (x == 45) ≡ test → (rest : Text) → StandsAlone (x ∷ rest) → IsPlain (x ∷ rest)
    go false e rest stands = record { other = rw e refl; not_long = rw e refl; not_short = inl (rw e refl) }
    go true e rest (inl other) = absurd (other (let is : x ≡ 45 = grind (arith, nat_tests) in ap (λ (n : ℕ). Some n) is))
    go true e [] (inr none) = record { other = rw e refl; not_long = rw e refl; not_short = inl (rw e refl) }
    go true e (y ∷ ys) (inr none) = second (y == 45) refl
      where
        second : (test : Bool) → (y == 45) ≡ test → IsPlain (x ∷ y ∷ ys)
        second true f = let is : y ≡ 45 = grind (arith, nat_tests) in absurd
            (hyphen_first ys (subst (λ (c : ℕ). chars (c ∷ ys) ≡ []) is none))
        second false f = record {
          other = rw (e, f) refl;
          not_long = rw (e, f) refl;
          not_short = inr (y ∷ ys, rw (e, f) refl, ap (λ (cs : Text). slice_get cs 0) none);
        }

no_characters : chars [] ≡ []
unfolding chars
no_characters = refl

nothing_first : (cs : Text) → slice_get cs 0 ≡ None → cs ≡ []
nothing_first [] none = refl
nothing_first (x ∷ xs) none = cc

as_plain : (word : Text) → StandsAlone word → WordKind word
as_plain word stands = plain (stands_plain word stands) stands

pub kind_of_word : (word : Text) → WordKind word
kind_of_word [] = as_plain [] (inl (λ bad. cc))
kind_of_word (x ∷ rest) = go (x == 45) refl rest
  where
    go : (test : Bool) → (x == 45) ≡ test → (rest : Text) → WordKind (x ∷ rest)
    go false e rest = as_plain (x ∷ rest) (inl (λ bad. let is : x ≡ 45 = cc in grind (arith, nat_tests)))
    go true e [] = as_plain (x ∷ []) (inr no_characters)
    go true e (y ∷ ys) = second (y == 45) refl ys
      where
        third : (ys : Text) (first : Option ℕ) → slice_get (chars (y ∷ ys)) 0 ≡ first → (y == 45) ≡ false → WordKind (x ∷ y ∷ ys)
        third ys None g f = as_plain (x ∷ y ∷ ys) (inr (nothing_first (chars (y ∷ ys)) g))
        third ys (Some c) g f = short (y ∷ ys) c (rw (e, f) refl) (rw (e, f) refl) (rw (e, f) refl) g

        second : (test : Bool) → (y == 45) ≡ test → (ys : Text) → WordKind (x ∷ y ∷ ys)
        second true f [] =
            let one : x ≡ 45 = grind (arith, nat_tests) in
            let two : y ≡ 45 = grind (arith, nat_tests) in
            ends (rw (one, two) refl)
        second true f (z ∷ zs) = long (name_and_value (z ∷ zs)).0 (name_and_value (z ∷ zs)).1 (rw (e, f) refl) (rw (e, f) refl)
        second false f ys = third ys (slice_get (chars (y ∷ ys)) 0) refl f
