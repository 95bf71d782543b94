-- Which texts are names, and that each is one.
use Rattle.std.proofs.Common.{◌≡◌, ◌≢◌, ℕ, zero, suc, ◌+◌, ◌*◌, ◌^◌, ◌<◌, inl, ◌==◌, not, Bool, true, false, if◌then◌else◌}
use Rattle.std.proofs.Common.{Option, Some, None, List, [], ◌∷◌, ◌++◌, length, get_or, take, drop, Result, Ok, Err, IsOk, ◌↔◌}
use Rattle.std.proofs.Common.{◌&&◌, IfOk, IfSome, IfNone, MatchOption, Bor, refl, sym, ◌∙◌, ap, arith, length-append}
use Rattle.std.proofs.Common.{append_assoc, unwrap_or, eqb-true}
use Rattle.std.specs.Bool.{then_some}
use Rattle.std.specs.List.{list_all}
use Rattle.std.specs.Result.{result_ok}
use Rattle.std.specs.Str.{bytes_eq}
use Rattle.std.proofs.lemmas.Bool.Decides.{nat_tests}
use Rattle.std.proofs.lemmas.List.{take_at, drop_at}
use Rattle.std.proofs.lemmas.Slice.Eq.{bytes_eq-Decides}
use Rattle.std.proofs.lemmas.Str.Pattern.{IsSplitOnceResult, split_after}
use Rattle.uuid.specs.Text.{hyphenated_text, lower, hex_digit, nibble, digit_place, is_hyphen_place, is_hex_digit, value_of}
use Rattle.uuid.specs.Text.{byte_of_digits, digits_of, by_index, has_hyphens, parsed_simple, parsed_hyphenated, parsed_braced}
use Rattle.uuid.specs.Text.{parsed_urn, parsed}
use Rattle.uuid.proofs.TextLemmas.{by_index_length, by_index_at, nibble_small}
use Rattle.uuid.proofs.RoundTrips.{parses_hyphenated}
use Rattle.lsvd_names.specs.Spelling.{hex_digits, dot, word, ending, spelling, IsNumbered, MayHaveNumber, IsUuid, IsName}
use Rattle.lsvd_names.specs.declared.name.NameKind.{NameKind}
use Rattle.lsvd_names.specs.declared.name.NameKind.TheVariants.{Super, Epoch, Object, Hold}
use Rattle.lsvd_names.specs.declared.name.ObjName.{ObjName}
use Rattle.lsvd_names.proofs.Hexadecimal.{length-hex_digits, hex_digits_injective}

-- the text of a uuid parses to it
pub text_parses : (uuid : List ℕ) → IsUuid uuid → Some uuid ≡ parsed (hyphenated_text lower uuid)
text_parses uuid is = parses_hyphenated lower uuid (inl refl) is.count is.bytes

-- so two uuids with one text are one
pub same_uuid : (a b : List ℕ) → IsUuid a → IsUuid b → hyphenated_text lower a ≡ hyphenated_text lower b → a ≡ b
same_uuid a b is_a is_b e = ap (λ (o : Option (List ℕ)). unwrap_or o []) (text_parses a is_a ∙ ap parsed e
    ∙ sym (text_parses b is_b))

pub length-uuid_text : (uuid : List ℕ) → length (hyphenated_text lower uuid) ≡ 36
length-uuid_text uuid = by_index_length 36 _

-- no byte of a uuid's text is a dot
not_dot : (hyphen : Bool) (d : ℕ) → d < 16 → (if hyphen then 45 else hex_digit lower d) ≢ 46
not_dot true d small e = omega arith
not_dot false d small e = grind (arith, nat_tests)

pub no_dot_in_uuid : (uuid : List ℕ) (i : ℕ) → i < length (hyphenated_text lower uuid)
    → get_or (hyphenated_text lower uuid) i 0 ≢ 46
no_dot_in_uuid uuid i h e =
    not_dot (is_hyphen_place i) (nibble uuid (digit_place i)) (nibble_small uuid (digit_place i))
    (sym (by_index_at 36 (λ k. if is_hyphen_place k then 45 else hex_digit lower (nibble uuid (digit_place k))) i 0
    (omega (arith, length-uuid_text uuid))) ∙ e)

-- no byte of a word is a dot
without_dot : (text : List ℕ) → list_all (λ b. not (b == 46)) text ≡ true → (i : ℕ) → i < length text → get_or text i 0 ≢ 46
without_dot [] all i h = absurd (omega arith)
without_dot (b ∷ text) all zero h = λ e. grind (arith, nat_tests)
without_dot (b ∷ text) all (suc i) h = without_dot text (grind (arith, nat_tests)) i (omega arith)

pub no_dot_in_word : (kind : NameKind) (i : ℕ) → i < length (word kind) → get_or (word kind) i 0 ≢ 46
no_dot_in_word Super = without_dot (word Super) refl
no_dot_in_word Epoch = without_dot (word Epoch) refl
no_dot_in_word Object = without_dot (word Object) refl
no_dot_in_word Hold = without_dot (word Hold) refl

-- what follows the uuid where there is a number
pub numbered_ending : (kind : NameKind) (number : ℕ) → IsNumbered kind
    → ending kind number ≡ word kind ++ dot ∷ hex_digits 16 number
numbered_ending Super number is = elim is [ ]
numbered_ending Epoch number is = refl
numbered_ending Object number is = refl
numbered_ending Hold number is = refl

-- one ending is of one kind and number
same_ending : (k l : NameKind) (m n : ℕ) → MayHaveNumber k m → MayHaveNumber l n → m < 2 ^ 64 → n < 2 ^ 64
    → ending k m ≡ ending l n → (k ≡ l) × (m ≡ n)
same_ending Super Super m n none_m none_n small_m small_n e = (refl, none_m ∙ sym none_n)
same_ending Epoch Epoch m n has_m has_n small_m small_n e = (refl, hex_digits_injective m n small_m small_n (cc))
same_ending Object Object m n has_m has_n small_m small_n e = (refl, hex_digits_injective m n small_m small_n (cc))
same_ending Hold Hold m n has_m has_n small_m small_n e = (refl, hex_digits_injective m n small_m small_n (cc))
same_ending _ _ m n has_m has_n small_m small_n e = absurd (omega (arith, ap (λ (l : List ℕ). get_or l 0 0) e))

-- the parts of a spelling
uuid_part : (name : ObjName) → take 36 (spelling name) ≡ hyphenated_text lower name.uuid
uuid_part name = take_at (hyphenated_text lower name.uuid) (dot ∷ ending name.kind name.number) 36 (length-uuid_text name.uuid)

rest_part : (name : ObjName) → drop 36 (spelling name) ≡ dot ∷ ending name.kind name.number
rest_part name = drop_at (hyphenated_text lower name.uuid) (dot ∷ ending name.kind name.number) 36 (length-uuid_text name.uuid)

-- names with the same parts are one
same_parts : (u v : List ℕ) (k l : NameKind) (m n : ℕ) → u ≡ v → k ≡ l → m ≡ n
    → ◌≡◌ {A = ObjName} (record { uuid = u; kind = k; number = m }) (record { uuid = v; kind = l; number = n })
same_parts u v k l m n e1 e2 e3 = cc

-- two names with one spelling are one
pub one_spelling : (a b : ObjName) → IsName a → IsName b → spelling a ≡ spelling b → a ≡ b
one_spelling a b is_a is_b e =
    let uuid = same_uuid a.uuid b.uuid is_a.uuid is_b.uuid (sym (uuid_part a) ∙ ap (take 36) e ∙ uuid_part b) in
    let rest : dot ∷ ending a.kind a.number ≡ dot ∷ ending b.kind b.number = sym (rest_part a) ∙ ap (drop 36) e ∙ rest_part b in
    let same = same_ending a.kind b.kind a.number b.number is_a.number is_b.number is_a.fits is_b.fits (cc) in
    same_parts a.uuid b.uuid a.kind b.kind a.number b.number uuid same.0 same.1

-- no ending begins another
nothing_follows : (rest : List ℕ) → length rest ≡ 0 → rest ≡ []
nothing_follows [] e = refl
nothing_follows (b ∷ rest) e = absurd (omega arith)

ending_prefix : (k l : NameKind) (m n : ℕ) (rest : List ℕ) → ending l n ≡ ending k m ++ rest → rest ≡ []
ending_prefix Super Super m n rest e = cc
ending_prefix Epoch Epoch m n rest e = nothing_follows rest
    (omega (arith, ap length e, length-append (hex_digits 16 m) rest, length-hex_digits 16 m, length-hex_digits 16 n))
ending_prefix Object Object m n rest e =
    nothing_follows rest (omega (
      arith,
      ap length e,
      length-append (hex_digits 16 m) rest,
      length-hex_digits 16
          m,
      length-hex_digits 16 n,
    ))
ending_prefix Hold Hold m n rest e = nothing_follows rest
    (omega (arith, ap length e, length-append (hex_digits 16 m) rest, length-hex_digits 16 m, length-hex_digits 16 n))
ending_prefix _ _ m n rest e = absurd (omega (arith, ap (λ (l : List ℕ). get_or l 0 0) e))

-- no spelling begins another
pub no_prefix : (a b : ObjName) (rest : List ℕ) → spelling b ≡ spelling a ++ rest → rest ≡ []
no_prefix a b rest e =
    let text = hyphenated_text lower a.uuid in
    let whole : spelling b ≡ text ++ (dot ∷ ending a.kind a.number ++ rest) = e
    ∙ append_assoc text (dot ∷ ending a.kind a.number) rest in
    let tail : dot ∷ ending b.kind b.number ≡ dot ∷ (ending a.kind a.number ++ rest) =
    sym (rest_part b) ∙ ap (drop 36) whole ∙ drop_at text (dot ∷ ending a.kind a.number ++ rest) 36 (length-uuid_text a.uuid) in
    ending_prefix a.kind b.kind a.number b.number rest (cc)

-- what parses as a uuid is one
abbrev Gives : Option (List ℕ) → Type 0
Gives found = (uuid : List ℕ) → Some uuid ≡ found → IsUuid uuid

gives_one : (test : Bool) (a b : Option (List ℕ)) → Gives a → Gives b → Gives (if test then a else b)
gives_one true a b gives_a gives_b = gives_a
gives_one false a b gives_a gives_b = gives_b

gives_none : Gives None
gives_none uuid e = cc

some_of : (test : Bool) (found uuid : List ℕ) → Some uuid ≡ (if test then Some found else None) → (test ≡ true) × (uuid ≡ found)
some_of true found uuid e = (refl, cc)
some_of false found uuid e = cc

all_at : (p : ℕ → Bool) (xs : List ℕ) (k : ℕ) → list_all p xs ≡ true → k < length xs → p (get_or xs k 0) ≡ true
all_at p [] k all h = absurd (omega arith)
all_at p (x ∷ xs) zero all h = grind (arith, nat_tests)
all_at p (x ∷ xs) (suc k) all h = all_at p xs k (grind (arith, nat_tests)) (omega arith)

value_small : (digit : ℕ) → is_hex_digit digit ≡ true → value_of digit < 16
value_small digit is = grind (arith, nat_tests)

both : (a b : Bool) → (a && b) ≡ true → (a ≡ true) × (b ≡ true)
both true true e = (refl, refl)
both true false e = cc
both false b e = cc

gives_simple : (hex : List ℕ) → Gives (parsed_simple hex)
gives_simple hex uuid e =
    let found = some_of ((length hex == 32) && list_all is_hex_digit hex) (by_index 16 (byte_of_digits hex)) uuid e in
    let tests = both (length hex == 32) (list_all is_hex_digit hex) found.0 in
    let count : length hex ≡ 32 = eqb-true (length hex) 32 tests.0 in
    let digit : (k : ℕ) → k < 32 → value_of (get_or hex k 0) < 16 =
    λ k h. value_small (get_or hex k 0) (all_at is_hex_digit hex k tests.1 (omega arith)) in
    let size : length uuid ≡ 16 = ap length found.1 ∙ by_index_length 16 (byte_of_digits hex) in
    record {
      count = size;
      bytes = λ k d h.
          rw (found.1, by_index_at 16 (byte_of_digits hex) k d (omega arith))
          (omega (arith, digit (2 * k) (omega arith), digit (2 * k + 1) (omega arith)));
    }

gives_hyphenated : (text : List ℕ) → Gives (parsed_hyphenated text)
gives_hyphenated text = gives_one ((length text == 36) && has_hyphens text) (parsed_simple (digits_of text)) None
    (gives_simple (digits_of text)) gives_none

pub parsed_is_uuid : (text uuid : List ℕ) → Some uuid ≡ parsed text → IsUuid uuid
parsed_is_uuid text =
    gives_one (length text == 32) (parsed_simple text) _ (gives_simple text)
    (gives_one (length text == 36) (parsed_hyphenated text) _ (gives_hyphenated text)
    (gives_one (length text == 38) (parsed_braced text) _ (gives_one _ (parsed_hyphenated (take 36 (drop 1 text))) None
    (gives_hyphenated (take 36 (drop 1 text))) gives_none)
    (gives_one (length text == 45) (parsed_urn text) None
    (gives_one _ (parsed_hyphenated (drop 9 text)) None (gives_hyphenated (drop 9 text)) gives_none) gives_none)))

-- what the reader of all forms gave
pub parsed_uuid : {E : Type 0} (text uuid : List ℕ) (found : Result (List ℕ) E) → IfOk found (λ u. Some u ≡ parsed text)
    → result_ok found ≡ Some uuid → Some uuid ≡ parsed text
parsed_uuid text uuid (Ok u) parses is = sym is ∙ parses
parsed_uuid text uuid (Err e) parses is = cc

-- where a text parses to no uuid, it is no uuid's text
pub unparsed : {E : Type 0} (text : List ℕ) (found : Result (List ℕ) E)
    → (IsOk found ↔ ((uuid : List ℕ) × (parsed text ≡ Some uuid))) → result_ok found ≡ None → (uuid : List ℕ) → IsUuid uuid
    → text ≡ hyphenated_text lower uuid → ⊥
unparsed text (Ok x) parses none uuid is e = cc
unparsed text (Err x) parses none uuid is e = let some = parses.1 (uuid, ap parsed e ∙ sym (text_parses uuid is)) in cc

-- the uuid that a text parses to, where the text is the one that it is spelled in
pub checked_found : (text spelled uuid : List ℕ) (same : Bool) (found : Option (List ℕ)) → found ≡ then_some same uuid
    → same ≡ bytes_eq spelled text → spelled ≡ hyphenated_text lower uuid → Some uuid ≡ parsed text
    → IfSome found (λ u. IsUuid u × (text ≡ hyphenated_text lower u))
checked_found text spelled uuid true found is_found test is_spelled parses =
    rw is_found (parsed_is_uuid text uuid parses, sym ((bytes_eq-Decides spelled text).0 (sym test)) ∙ is_spelled)
checked_found text spelled uuid false found is_found test is_spelled parses = rw is_found tt

pub checked_none : (text spelled uuid : List ℕ) (same : Bool) (found : Option (List ℕ)) → found ≡ then_some same uuid
    → same ≡ bytes_eq spelled text → spelled ≡ hyphenated_text lower uuid → Some uuid ≡ parsed text
    → IfNone found ((u : List ℕ) → IsUuid u → text ≡ hyphenated_text lower u → ⊥)
checked_none text spelled uuid true found is_found test is_spelled parses = rw is_found tt
checked_none text spelled uuid false found is_found test is_spelled parses =
    rw is_found (λ other is e.
    let one : Some uuid ≡ Some other = parses ∙ ap parsed e ∙ sym (text_parses other is) in
    let same : uuid ≡ other = cc in
    let equal = (bytes_eq-Decides spelled text).1 (is_spelled ∙ ap (hyphenated_text lower) same ∙ sym e) in
    cc)

-- the parts of a spelling, at its first dot
pub split_spelling : (text : List ℕ) (name : ObjName) (found : Option (Bor (List ℕ) × Bor (List ℕ)))
    → IsSplitOnceResult 46 text found → text ≡ spelling name
    → MatchOption found ⊥ (λ parts. (parts.0.now ≡ hyphenated_text lower name.uuid)
    × (parts.1.now ≡ ending name.kind name.number))
split_spelling text name found split e =
    split_after 46 text (hyphenated_text lower name.uuid) (ending name.kind name.number) found split (omega arith) e
    (no_dot_in_uuid name.uuid)

-- the parts of an ending with a number, at its first dot
pub split_ending : (text : List ℕ) (kind : NameKind) (number : ℕ) (found : Option (Bor (List ℕ) × Bor (List ℕ)))
    → IsSplitOnceResult 46 text found → IsNumbered kind → text ≡ ending kind number
    → MatchOption found ⊥ (λ parts. (parts.0.now ≡ word kind) × (parts.1.now ≡ hex_digits 16 number))
split_ending text kind number found split is e =
    split_after 46 text (word kind) (hex_digits 16 number) found split (omega arith) (e ∙ numbered_ending kind number is)
    (no_dot_in_word kind)

-- what is not spelled by the word of the super alone, has a number
pub ending_numbered : (text : List ℕ) (kind : NameKind) (number : ℕ) → text ≡ ending kind number → (text ≡ word Super → ⊥)
    → IsNumbered kind
ending_numbered text Super number e other = other e
ending_numbered text Epoch number e other = tt
ending_numbered text Object number e other = tt
ending_numbered text Hold number e other = tt

-- what `parse` gives of a name's spelling: that name
pub parse_gives : (text : List ℕ) (name : ObjName) (found : Option ObjName) → IfSome found (λ n. IsName n × (text ≡ spelling n))
    → IfNone found ((n : ObjName) → IsName n → text ≡ spelling n → ⊥) → IsName name → text ≡ spelling name → found ≡ Some name
parse_gives text name (Some n) is_found none is e = ap Some (one_spelling n name is_found.0 is (sym is_found.1 ∙ e))
parse_gives text name None is_found none is e = absurd (none name is e)
