-- The letters of objects land what may have landed.
use Rattle.std.proofs.Common.{◌≡◌, ℕ, zero, suc, ◌<◌, ◌≤◌, ◌==◌, ◌||◌, Bool, true, false, cond, List, [], ◌∷◌, length, map}
use Rattle.std.proofs.Common.{get_or, refl, sym, ◌∙◌, ap, arith}
use Rattle.std.specs.Prelude.{nat_le, ◌&&◌, not}
use Rattle.std.specs.List.{filter, list_any}
use Rattle.std.proofs.lemmas.Bool.{le-leb, lt-leb, ne_eqb}
use Rattle.std.proofs.lemmas.Bool.Decides.{nat_tests}
use Rattle.std.proofs.lemmas.List.Folds.{list_any_at}
use Rattle.upload_window.specs.declared.object.OpenObject.{OpenObject}
use Rattle.upload_window.specs.Window.{Ascends, has_number, below_lowest, below_open}
use Rattle.upload_window.proofs.Order.{at_most, none_open}
use Rattle.plain_disk.specs.State.{PlainState}
use Rattle.plain_disk.specs.Removals.{has}
use Rattle.plain_disk.specs.Valid.{IsPlainVolume, MayLand}
use Rattle.plain_disk.proofs.CheckpointLemmas.{both_true, given_is_unneeded}
use Rattle.transcript.specs.Letters.{has_landed, landed_by}
use Rattle.transcript.proofs.Removals.{AreRemovalsMade}

-- the objects of which a put was ever begun, and their numbers
abbrev begun : List OpenObject → List OpenObject
begun objects = filter (λ object. object.was_started) objects

abbrev object_numbers : List OpenObject → List ℕ
object_numbers objects = map (λ object. object.number) objects

-- another number is not the one that is asked for
first_other : (first number : ℕ) (rest letters : List ℕ) → (first ≡ number → ⊥)
    → ((more : List ℕ) → has_landed rest more number ≡ false)
    → has_landed (first ∷ rest) letters number ≡ false
first_other first number rest [] apart none = refl
first_other first number rest (letter ∷ letters) apart none =
    let other : (first == number) ≡ false = ne_eqb first number apart in
    rw other (none letters)

-- no letter lands a number above the last
none_above : (low : ℕ) (objects : List OpenObject) (last number : ℕ) (letters : List ℕ) → Ascends low objects last → last < number
    → has_landed (object_numbers (begun objects)) letters number ≡ false
none_above low [] last number letters ascends above = refl
none_above low (object ∷ objects) last number letters ascends above =
    let below : object.number < number = omega (arith, at_most object.number objects last ascends.1, above) in
    elim object.was_started as (λ b. has_landed (object_numbers (cond b (object ∷ begun objects) (begun objects))) letters
    number ≡ false) [
      | true ↦ first_other object.number number (object_numbers (begun objects)) letters (λ same. omega (arith, below, same))
          (λ more. none_above object.number objects last number more ascends.1 above)
      | false ↦ none_above object.number objects last number letters ascends.1 above
    ]

-- nor one that is not above a lower bound
none_below : (low : ℕ) (objects : List OpenObject) (last number : ℕ) (letters : List ℕ) → Ascends low objects last → number ≤ low
    → has_landed (object_numbers (begun objects)) letters number ≡ false
none_below low [] last number letters ascends below = refl
none_below low (object ∷ objects) last number letters ascends below =
    let past : number < object.number = omega (arith, ascends.0, below) in
    elim object.was_started as (λ b. has_landed (object_numbers (cond b (object ∷ begun objects) (begun objects))) letters
    number ≡ false) [
      | true ↦ first_other object.number number (object_numbers (begun objects)) letters (λ same. omega (arith, past, same))
          (λ more. none_below object.number objects last number more ascends.1 (omega (arith, past)))
      | false ↦ none_below object.number objects last number letters ascends.1 (omega (arith, past))
    ]

-- the objects ascend above the frontier
ascends_from_frontier : (objects : List OpenObject) (last : ℕ) → Ascends 0 objects last
    → Ascends (below_lowest objects last) objects last
ascends_from_frontier [] last ascends = omega arith
ascends_from_frontier (object ∷ objects) last ascends = (omega (arith, ascends.0), ascends.1)

-- an object is above what is below all
above_low : (low : ℕ) (objects : List OpenObject) (last k : ℕ) (default : OpenObject) → Ascends low objects last
    → k < length objects → low < (get_or objects k default).number
above_low low [] last k default ascends inside = absurd (omega arith)
above_low low (object ∷ objects) last zero default ascends inside = ascends.0
above_low low (object ∷ objects) last (suc k) default ascends inside =
    let above = above_low object.number objects last k default ascends.1 (omega arith) in omega (arith, ascends.0, above)

-- what lands a later number does so by a later letter
lands_later : (first number : ℕ) (rest letters : List ℕ) → first < number → has_landed (first ∷ rest) letters number ≡ true
    → (more : List ℕ) × (has_landed rest more number ≡ true)
lands_later first number rest [] below lands = let bad : ⊥ = cc in absurd bad
lands_later first number rest (letter ∷ letters) below lands =
    let other : (first == number) ≡ false = ne_eqb first number (omega arith) in
    let same : has_landed (first ∷ rest) (letter ∷ letters) number ≡ has_landed rest letters number = rw other refl in
    (letters, sym same ∙ lands)

-- a put was begun of each open object that a letter lands
letter_was_begun : (low : ℕ) (objects : List OpenObject) (last : ℕ) (letters : List ℕ) (k : ℕ) (default : OpenObject)
    → Ascends low objects last → k < length objects
    → has_landed (object_numbers (begun objects)) letters (get_or objects k default).number ≡ true
    → (get_or objects k default).was_started ≡ true
letter_was_begun low [] last letters k default ascends inside lands = absurd (omega arith)
letter_was_begun low (object ∷ objects) last letters zero default ascends inside lands =
    elim object.was_started as (λ b. has_landed (object_numbers (cond b (object ∷ begun objects) (begun objects))) letters
    object.number ≡ true → b ≡ true) [
      | true ↦ λ there. refl
      | false ↦ λ there.
          (let absent = none_below object.number objects last object.number letters ascends.1 (omega arith) in
          let bad : ⊥ = cc in absurd bad)
    ] lands
letter_was_begun low (object ∷ objects) last letters (suc k) default ascends inside lands =
    let within : k < length objects = omega arith in
    let above = above_low object.number objects last k default ascends.1 within in
    elim object.was_started as (λ b. has_landed (object_numbers (cond b (object ∷ begun objects) (begun objects))) letters
    (get_or objects k default).number ≡ true → (get_or objects k default).was_started ≡ true) [
      | true ↦ λ there.
          (let later = lands_later object.number (get_or objects k default).number (object_numbers (begun objects)) letters
          above there in
          letter_was_begun object.number objects last later.0 k default ascends.1 within later.1)
      | false ↦ λ there. letter_was_begun object.number objects last letters k default ascends.1 within there
    ] lands

-- an open object lands by its letter alone
by_letter : (entered unsettled gone lands : Bool) → unsettled ≡ true → ((entered && not unsettled && not gone) || lands) ≡ true
    → lands ≡ true
by_letter true true gone lands is landed = landed
by_letter false true gone lands is landed = landed
by_letter entered false gone lands is landed = let bad : ⊥ = cc in absurd bad

-- what the letters land may have landed
pub may_land : (plain : PlainState) (word : List ℕ) → IsPlainVolume plain → AreRemovalsMade plain
    → MayLand plain (landed_by plain word)
may_land plain word h removals = record {
  surely = λ number positive acknowledged not_given.
      let entered : nat_le number plain.window.last ≡ true = le-leb _ _ acknowledged.was_entered in
      let closed : list_any (has_number number) plain.window.objects ≡ false = acknowledged.not_open in
      let there : has plain.removed number ≡ false = ap (λ numbers. has numbers number) removals.made ∙ not_given in
      rw (entered, closed, there) refl;
  removed = λ number gone.
      let given : has plain.given_out number ≡ true = sym (ap (λ numbers. has numbers number) removals.made) ∙ gone in
      let old = given_is_unneeded plain.checkpoint plain.given_out number h.checkpoint.unneeded given in
      let below : number ≤ below_open plain.window = omega (arith, old.before, h.checkpoint.reached) in
      let ascends = ascends_from_frontier plain.window.objects plain.window.last h.window.order in
      let most = at_most (below_open plain.window) plain.window.objects plain.window.last ascends in
      let entered : nat_le number plain.window.last ≡ true = le-leb _ _ (omega (arith, below, most)) in
      let closed = none_open (below_open plain.window) plain.window.objects plain.window.last number ascends below in
      let absent = none_below (below_open plain.window) plain.window.objects plain.window.last number word ascends below in
      rw (entered, closed, gone, absent) refl;
  perhaps = λ number above lands.
      let late : nat_le number plain.window.last ≡ false = lt-leb _ _ above in
      let absent = none_above 0 plain.window.objects plain.window.last number word h.window.order above in
      let not_landed : landed_by plain word number ≡ false = rw late absent in
      cc (lands, not_landed);
  begun = λ k default inside is.
      let object = get_or plain.window.objects k default in
      let lands = (both_true object.is_checkpoint (landed_by plain word object.number) is).1 in
      let its_own : has_number object.number object ≡ true = grind (arith, nat_tests) in
      let open_there : list_any (has_number object.number) plain.window.objects ≡ true =
      list_any_at (has_number object.number) plain.window.objects k default inside its_own in
      letter_was_begun 0 plain.window.objects plain.window.last word k default h.window.order inside
      (by_letter (nat_le object.number plain.window.last) (list_any (has_number object.number) plain.window.objects)
      (has plain.removed object.number) _ open_there lands);
}
