-- An option has one answer.
use Rattle.std.proofs.Common.{◌≡◌, ℕ, ◌+◌, ◌<◌, Bool, true, false, List, ◌++◌, length, take, drop, refl, sym, ◌∙◌, ap, subst, inl}
use Rattle.std.proofs.Common.{inr, append_assoc, arith}
use Rattle.std.specs.Prelude.{IsTrue, ◌↔◌}
use Rattle.std.specs.Int.{w16, w32, to_be_bytes}
use Rattle.std.proofs.lemmas.List.{take_at, drop_at, length-append}
use Rattle.lsvd_bytes.specs.Places.{number_at}
use Rattle.nbd_options.specs.declared.export.Export.{Export}
use Rattle.nbd_options.specs.declared.answer.Answer.{Answer}
use Rattle.nbd_options.specs.declared.answer.Answer.TheVariants.{Exported, Closed, Aborted, Listed, Described, Unknown, Invalid}
use Rattle.nbd_options.specs.declared.answer.Answer.TheVariants.{Unsupported, TooBig}
use Rattle.nbd_options.specs.Export.{IsNameOf}
use Rattle.nbd_options.specs.Info.{AsksFor, HasType}
use Rattle.nbd_options.specs.Answers.{info_option, IsInfoOption, IsAnswer, IsAnswerUnread, IsAnswerTo}
use Rattle.nbd_options.proofs.InfoLemmas.{have_parts}

-- ---- data that ask for information

-- the name and the types are those at their places
record AreParts (content name types : List ℕ) : Type 0 where
  name_at : name ≡ take (number_at w32 0 content) (drop 4 content)
  types_at : types ≡ drop (6 + number_at w32 0 content) content

are_parts : (content name types : List ℕ) → AsksFor content name types → AreParts content name types
are_parts content name types asks =
    let size = (have_parts content name types asks).size in
    let head = to_be_bytes w32 (length name) in
    let counted = to_be_bytes w16 asks.count in
    let after : drop 4 content ≡ name ++ (counted ++ types) = ap (drop 4) asks.spelled ∙ append_assoc name counted types in
    let front : length ((head ++ name) ++ counted) ≡ 6 + length name =
    omega (arith, length-append (head ++ name) counted, length-append head name) in
    record {
      name_at =
          sym (ap (λ n. take n (drop 4 content)) size ∙ ap (take (length name)) after
          ∙ take_at name (counted ++ types) (length name) refl);
      types_at =
          sym (ap (λ n. drop (6 + n) content) size ∙ ap (drop (6 + length name)) asks.spelled
          ∙ drop_at ((head ++ name) ++ counted) types (6 + length name) front);
    }

same_name : (content name types name' types' : List ℕ) → AsksFor content name types → AsksFor content name' types' → name ≡ name'
same_name content name types name' types' asks asks' =
    (are_parts content name types asks).name_at ∙ sym (are_parts content name' types' asks').name_at

same_types : (content name types name' types' : List ℕ) → AsksFor content name types → AsksFor content name' types'
    → types ≡ types'
same_types content name types name' types' asks asks' =
    (are_parts content name types asks).types_at ∙ sym (are_parts content name' types' asks').types_at

-- a name is one of the export for both or for none
name_again : (export : Export) (content name types name' types' : List ℕ) → AsksFor content name types
    → AsksFor content name' types'
    → IsNameOf export name → IsNameOf export name'
name_again export content name types name' types' asks asks' is =
    subst (λ (xs : List ℕ). IsNameOf export xs) (same_name content name types name' types' asks asks') is

same_bool : {P : Type 0} (a b : Bool) → (IsTrue a ↔ P) → (IsTrue b ↔ P) → a ≡ b
same_bool true true is is' = refl
same_bool true false is is' = sym (is'.1 (is.0 refl))
same_bool false true is is' = is.1 (is'.0 refl)
same_bool false false is is' = refl

same_option : (option : ℕ) (a b : Bool) → option ≡ info_option a → option ≡ info_option b → a ≡ b
same_option option true true is is' = refl
same_option option true false is is' = absurd (omega (arith, is, is'))
same_option option false true is is' = absurd (omega (arith, is, is'))
same_option option false false is is' = refl

-- ---- the numbers of options

-- what an answer tells of the option's number
abbrev Numbers : Answer → ℕ → Type 0
Numbers Exported option = option ≡ 1
Numbers Closed option = option ≡ 1
Numbers Aborted option = option ≡ 2
Numbers Listed option = option ≡ 3
Numbers (Described enters blocks) option = (5 < option) × (option < 8)
Numbers Unknown option = (5 < option) × (option < 8)
Numbers Invalid option = (2 < option) × (option < 8)
Numbers Unsupported option = (option ≡ 1 → ⊥) × (option ≡ 2 → ⊥) × (option ≡ 3 → ⊥) × (option ≡ 6 → ⊥) × (option ≡ 7 → ⊥)
Numbers TooBig option = ⊥

asking : (option : ℕ) → IsInfoOption option → (5 < option) × (option < 8)
asking option (inl is) = (omega (arith, is), omega (arith, is))
asking option (inr is) = (omega (arith, is), omega (arith, is))

asking_by : (option : ℕ) (enters : Bool) → option ≡ info_option enters → IsInfoOption option
asking_by option false is = inl is
asking_by option true is = inr is

numbers : (export : Export) (option : ℕ) (content : List ℕ) (answer : Answer) → IsAnswer export option content answer
    → Numbers answer option
numbers export option content Exported is = is.0
numbers export option content Closed is = is.0
numbers export option content Aborted is = is
numbers export option content Listed is = is.0
numbers export option content (Described enters blocks) is = asking option (asking_by option enters is.0)
numbers export option content Unknown is = asking option is.0
numbers export option content Invalid (inl is) = (omega (arith, is.0), omega (arith, is.0))
numbers export option content Invalid (inr is) = let far = asking option is.0 in (omega (arith, far.0), far.1)
numbers export option content Unsupported is =
    (is.no_export_name, is.no_abort, is.no_list, (λ six. is.no_info (inl six)), (λ seven. is.no_info (inr seven)))
numbers export option content TooBig is = is

-- ---- two answers

one_read : (export : Export) (option : ℕ) (content : List ℕ) (a b : Answer) → IsAnswer export option content a
    → IsAnswer export option content b → a ≡ b
one_read export option content Exported Exported is is' = refl
one_read export option content Exported Closed is is' = absurd (is'.1 is.1)
one_read export option content Exported b is is' = absurd (omega (arith, is.0, numbers export option content b is'))
one_read export option content Closed Closed is is' = refl
one_read export option content Closed Exported is is' = absurd (is.1 is'.1)
one_read export option content Closed b is is' = absurd (omega (arith, is.0, numbers export option content b is'))
one_read export option content Aborted Aborted is is' = refl
one_read export option content Aborted b is is' = absurd (omega (arith, is, numbers export option content b is'))
one_read export option content Listed Listed is is' = refl
one_read export option content Listed Invalid is (inl is') = absurd (is'.1 is.1)
one_read export option content Listed Invalid is (inr is') = absurd (omega (arith, is.0, asking option is'.0))
one_read export option content Listed b is is' = absurd (omega (arith, is.0, numbers export option content b is'))
one_read export option content (Described enters blocks) (Described enters' blocks') is is' =
    let types = same_types content is.1 is.2 is'.1 is'.2 is.3 is'.3 in
    let again = subst (λ (xs : List ℕ). IsTrue blocks ↔ HasType xs 3) types is.5 in
    ap (λ e. Described e blocks) (same_option option enters enters' is.0 is'.0)
    ∙ ap (λ b. Described enters' b) (same_bool blocks blocks' again is'.5)
one_read export option content (Described enters blocks) Unknown is is' =
    absurd (is'.4 (name_again export content is.1 is.2 is'.1 is'.2 is.3 is'.3 is.4))
one_read export option content (Described enters blocks) Invalid is (inl is') =
    absurd (omega (arith, is'.0, asking option (asking_by option enters is.0)))
one_read export option content (Described enters blocks) Invalid is (inr is') = absurd (is'.1 is.1 is.2 is.3)
one_read export option content (Described enters blocks) b is is' =
    absurd (omega (arith, asking option (asking_by option enters is.0), numbers export option content b is'))
one_read export option content Unknown Unknown is is' = refl
one_read export option content Unknown (Described enters blocks) is is' =
    absurd (is.4 (name_again export content is'.1 is'.2 is.1 is.2 is'.3 is.3 is'.4))
one_read export option content Unknown Invalid is (inl is') = absurd (omega (arith, is'.0, asking option is.0))
one_read export option content Unknown Invalid is (inr is') = absurd (is'.1 is.1 is.2 is.3)
one_read export option content Unknown b is is' = absurd (omega (arith, asking option is.0, numbers export option content b is'))
one_read export option content Invalid Invalid is is' = refl
one_read export option content Invalid Unsupported (inl is) is' = absurd (is'.no_list is.0)
one_read export option content Invalid Unsupported (inr is) is' = absurd (is'.no_info is.0)
one_read export option content Invalid Listed (inl is) is' = absurd (is.1 is'.1)
one_read export option content Invalid Listed (inr is) is' = absurd (omega (arith, is'.0, asking option is.0))
one_read export option content Invalid (Described enters blocks) (inl is) is' =
    absurd (omega (arith, is.0, asking option (asking_by option enters is'.0)))
one_read export option content Invalid (Described enters blocks) (inr is) is' = absurd (is.1 is'.1 is'.2 is'.3)
one_read export option content Invalid Unknown (inl is) is' = absurd (omega (arith, is.0, asking option is'.0))
one_read export option content Invalid Unknown (inr is) is' = absurd (is.1 is'.1 is'.2 is'.3)
one_read export option content Invalid b is is' =
    absurd (omega (arith, numbers export option content Invalid is, numbers export option content b is'))
one_read export option content Unsupported Unsupported is is' = refl
one_read export option content Unsupported Invalid is (inl is') = absurd (is.no_list is'.0)
one_read export option content Unsupported Invalid is (inr is') = absurd (is.no_info is'.0)
one_read export option content Unsupported b is is' =
    absurd (omega (arith, numbers export option content Unsupported is, numbers export option content b is'))
one_read export option content TooBig b is is' = absurd is

one_unread : (option : ℕ) (a b : Answer) → IsAnswerUnread option a → IsAnswerUnread option b → a ≡ b
one_unread option Closed Closed is is' = refl
one_unread option Closed TooBig is is' = absurd (is' is)
one_unread option TooBig Closed is is' = absurd (is is')
one_unread option TooBig TooBig is is' = refl
one_unread option Closed b is is' = absurd is'
one_unread option TooBig b is is' = absurd is'
one_unread option a b is is' = absurd is

pub one_answer : (export : Export) (option : ℕ) (content : List ℕ) (a b : Answer) → IsAnswerTo export option content a
    → IsAnswerTo export option content b → a ≡ b
one_answer export option content a b (inl is) (inl is') = one_read export option content a b is.1 is'.1
one_answer export option content a b (inl is) (inr is') = absurd (omega (arith, is.0, is'.0))
one_answer export option content a b (inr is) (inl is') = absurd (omega (arith, is.0, is'.0))
one_answer export option content a b (inr is) (inr is') = one_unread option a b is.1 is'.1
