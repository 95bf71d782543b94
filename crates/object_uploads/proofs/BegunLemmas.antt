-- A checkpoint whose put was ever begun is the first object past the frontier.
use Rattle.std.proofs.Common.{◌≡◌, ℕ, ◌+◌, ◌<◌, ◌≤◌, ◌&&◌, ◌||◌, not, Bool, true, false, cond, Option, Some, None}
use Rattle.std.proofs.Common.{List, [], ◌∷◌, ◌++◌, nat_lt, refl, ◌∙◌, subst, arith}
use Rattle.std.specs.Prelude.{option_map, find}
use Rattle.std.specs.List.{All, list_any}
use Rattle.std.proofs.lemmas.Bool.Decides.{nat_tests}
use Rattle.std.proofs.lemmas.List.Elements.{All-nil, All-cons, All-head, All-tail, All-push, All-weaker}
use Rattle.lsvd_objstore.specs.Store.{ReceiptState}
use Rattle.upload_window.specs.declared.object.OpenObject.{OpenObject}
use Rattle.upload_window.specs.Window.{has_number, is_ready, lowest_ready, with_started, without}
use Rattle.object_uploads.specs.State.{SealedState}
use Rattle.object_uploads.specs.Queue.{is_checkpoint, FirstWaits, IsWaiting}
use Rattle.object_uploads.specs.Order.{IsOpenFirst, AreOpen}
use Rattle.object_uploads.proofs.OpenLemmas.{ready_in}

-- where an object is a checkpoint whose put was ever begun, its number is this one
abbrev pub IsAtIfBegun : (first : ℕ) → OpenObject → Type 0
IsAtIfBegun first object = (object.was_started && object.is_checkpoint) ≡ true → object.number ≡ first

abbrev pub AreAtIfBegun : (first : ℕ) → List OpenObject → Type 0
AreAtIfBegun first objects = All (IsAtIfBegun first) objects

-- one that was not begun
pub begun_pushed : (first number : ℕ) (kind : Bool) (objects : List OpenObject) → AreAtIfBegun first objects
    → AreAtIfBegun first (objects
    ++ record { number = number; is_checkpoint = kind; is_started = false; was_started = false } ∷ [])
begun_pushed first number kind objects all =
    All-push (IsAtIfBegun first) objects
    (record { number = number; is_checkpoint = kind; is_started = false; was_started = false }) all (λ begun. absurd cc)

-- ---- a put is done

without_test : (test : Bool) (first : ℕ) (object : OpenObject) (objects rest : List OpenObject)
    → AreAtIfBegun first (object ∷ objects) → AreAtIfBegun first rest
    → AreAtIfBegun first (cond test objects (object ∷ rest))
without_test true first object objects rest all kept = All-tail (IsAtIfBegun first) object objects all
without_test false first object objects rest all kept =
    All-cons (IsAtIfBegun first) object rest (All-head (IsAtIfBegun first) object objects all) kept

pub begun_without : (first number : ℕ) (objects : List OpenObject) → AreAtIfBegun first objects
    → AreAtIfBegun first (without number objects)
begun_without first number [] all = all
begun_without first number (object ∷ objects) all =
    without_test (has_number number object) first object objects (without number objects) all
    (begun_without first number objects (All-tail (IsAtIfBegun first) object objects all))

-- the numbers of open objects, from one on
abbrev pub AreFrom : ℕ → List OpenObject → Type 0
AreFrom low objects = All (λ (object : OpenObject). low ≤ object.number) objects

from_first : (number : ℕ) (receipt : Option ReceiptState) (kind has_spare : Bool) (objects : List OpenObject)
    (Rest : List OpenObject → Type 0) → ((list : List OpenObject) → Rest list → AreFrom (number + 1) list)
    → IsOpenFirst number receipt kind has_spare objects Rest → AreFrom number objects
from_first number (Some receipt) kind has_spare objects Rest rest are =
    All-weaker (λ (o : OpenObject). number + 1 ≤ o.number) (λ (o : OpenObject). number ≤ o.number)
    (λ o low. omega (arith, low)) objects (rest objects are)
from_first number None kind has_spare [] Rest rest are = absurd are
from_first number None kind has_spare (object ∷ objects) Rest rest are =
    All-cons (λ (o : OpenObject). number ≤ o.number) object objects (omega (arith, are.0))
    (All-weaker (λ (o : OpenObject). number + 1 ≤ o.number) (λ (o : OpenObject). number ≤ o.number)
    (λ o low. omega (arith, low)) objects (rest objects are.3))

pub open_from : (number : ℕ) (list : List SealedState) (objects : List OpenObject) → AreOpen number list objects
    → AreFrom number objects
open_from number [] objects are = rw are (All-nil (λ (o : OpenObject). number ≤ o.number))
open_from number (sealed ∷ more) objects are =
    from_first number sealed.receipt (is_checkpoint sealed.rows) sealed.has_spare objects (AreOpen (number + 1) more)
    (λ list are_. open_from (number + 1) more list are_) are

-- objects that all have higher numbers were not begun
later_begun : (first later : ℕ) (objects : List OpenObject) → first ≤ later → AreFrom later objects
    → AreAtIfBegun first objects → AreAtIfBegun later objects
later_begun first later [] order low all = All-nil (IsAtIfBegun later)
later_begun first later (object ∷ objects) order low all =
    let from : later ≤ object.number = All-head (λ (o : OpenObject). later ≤ o.number) object objects low in
    let at = All-head (IsAtIfBegun first) object objects all in
    All-cons (IsAtIfBegun later) object objects (λ begun. let is = at begun in omega (arith, from, is, order))
    (later_begun first later objects order (All-tail (λ (o : OpenObject). later ≤ o.number) object objects low)
    (All-tail (IsAtIfBegun first) object objects all))

pub begun_later : (first later : ℕ) (list : List SealedState) (objects : List OpenObject) → first ≤ later
    → AreOpen later list objects → AreAtIfBegun first objects → AreAtIfBegun later objects
begun_later first later list objects order are all = later_begun first later objects order (open_from later list objects are) all

-- ---- a put begins, or fails

either_false : (was kind : Bool) → ((was || false) && kind) ≡ true → (was && kind) ≡ true
either_false true kind is = is
either_false false kind is = absurd cc

failed_test : (test : Bool) (first number : ℕ) (object : OpenObject) (objects rest : List OpenObject)
    → AreAtIfBegun first (object ∷ objects) → AreAtIfBegun first rest
    → AreAtIfBegun first (cond test
    (record object { is_started = false; was_started = object.was_started || false } ∷ objects) (object ∷ rest))
failed_test true first number object objects rest all kept =
    All-cons (IsAtIfBegun first) (record object { is_started = false; was_started = object.was_started || false }) objects
    (λ begun. All-head (IsAtIfBegun first) object objects all
    (either_false object.was_started object.is_checkpoint begun))
    (All-tail (IsAtIfBegun first) object objects all)
failed_test false first number object objects rest all kept =
    All-cons (IsAtIfBegun first) object rest (All-head (IsAtIfBegun first) object objects all) kept

pub begun_failed : (first number : ℕ) (objects : List OpenObject) → AreAtIfBegun first objects
    → AreAtIfBegun first (with_started number false objects)
begun_failed first number [] all = all
begun_failed first number (object ∷ objects) all =
    failed_test (has_number number object) first number object objects (with_started number false objects) all
    (begun_failed first number objects (All-tail (IsAtIfBegun first) object objects all))

-- the lowest ready number is the first one where its object is a checkpoint
module _ (wanted first : ℕ) (all : List OpenObject)
    (ready_at_first : (object : OpenObject) → is_ready all object ≡ true → object.number ≡ wanted
    → object.is_checkpoint ≡ true → wanted ≡ first) where
  abbrev Finds : List OpenObject → Type 0
  Finds objects = option_map (λ (object : OpenObject). object.number) (find (is_ready all) objects) ≡ Some wanted

  begun_mark : (was kind : Bool) → ((was || true) && kind) ≡ true → kind ≡ true
  begun_mark true kind is = is
  begun_mark false kind is = is

  taken_test : (test : Bool) (number : ℕ) (object : OpenObject) (objects : List OpenObject) (more : List SealedState)
      → is_ready all object ≡ test → object.number ≡ number → AreOpen (number + 1) more objects
      → (Finds objects → AreAtIfBegun first objects → AreAtIfBegun first (with_started wanted true objects))
      → option_map (λ (o : OpenObject). o.number) (cond test (Some object) (find (is_ready all) objects)) ≡ Some wanted
      → AreAtIfBegun first (object ∷ objects) → AreAtIfBegun first (with_started wanted true (object ∷ objects))
  taken_test true number object objects more test named are later found begun =
      let is : object.number ≡ wanted = cc in
      let this : has_number wanted object ≡ true = grind (arith, nat_tests) in
      rw this (All-cons (IsAtIfBegun first) (record object { is_started = true; was_started = object.was_started || true })
      objects (λ marked. is ∙ ready_at_first object test is (begun_mark object.was_started object.is_checkpoint marked))
      (All-tail (IsAtIfBegun first) object objects begun))
  taken_test false number object objects more test named are later found begun =
      let above = ready_in wanted all (number + 1) more objects are found in
      let other : has_number wanted object ≡ false = let low = above.0 in grind (arith, nat_tests) in
      rw other (All-cons (IsAtIfBegun first) object (with_started wanted true objects)
      (All-head (IsAtIfBegun first) object objects begun)
      (later found (All-tail (IsAtIfBegun first) object objects begun)))

  taken_first : (number : ℕ) (receipt : Option ReceiptState) (kind has_spare : Bool) (objects : List OpenObject)
      (more : List SealedState)
      → ((list : List OpenObject) → AreOpen (number + 1) more list → Finds list → AreAtIfBegun first list
      → AreAtIfBegun first (with_started wanted true list))
      → IsOpenFirst number receipt kind has_spare objects (AreOpen (number + 1) more) → Finds objects
      → AreAtIfBegun first objects → AreAtIfBegun first (with_started wanted true objects)
  taken_first number (Some receipt) kind has_spare objects more later are finds begun = later objects are finds begun
  taken_first number None kind has_spare [] more later are finds begun = absurd are
  taken_first number None kind has_spare (object ∷ objects) more later are finds begun =
      taken_test (is_ready all object) number object objects more refl are.0 are.3 (later objects are.3) finds begun

  taken_in : (number : ℕ) (list : List SealedState) (objects : List OpenObject) → AreOpen number list objects → Finds objects
      → AreAtIfBegun first objects → AreAtIfBegun first (with_started wanted true objects)
  taken_in number [] objects are finds begun = let none : Finds [] = subst Finds are finds in absurd cc
  taken_in number (sealed ∷ more) objects are finds begun =
      taken_first number sealed.receipt (is_checkpoint sealed.rows) sealed.has_spare objects more (taken_in (number + 1) more)
      are finds begun

-- no lower number is open where a checkpoint is ready
none_lower : (started kind : Bool) (lower : Bool) → (not started && (not kind || not lower)) ≡ true → kind ≡ true
    → lower ≡ false
none_lower true kind lower ready is = absurd cc
none_lower false true true ready is = absurd cc
none_lower false true false ready is = refl
none_lower false false lower ready is = absurd cc

either_none : (a b : Bool) → (a || b) ≡ false → a ≡ false
either_none true b none = absurd cc
either_none false b none = refl

lower_first : (n : ℕ) (object : OpenObject) (objects : List OpenObject)
    → list_any (λ (other : OpenObject). nat_lt other.number n) (object ∷ objects) ≡ false → n ≤ object.number
lower_first n object objects none =
    let not_lower : nat_lt object.number n ≡ false = either_none (nat_lt object.number n)
    (list_any (λ (other : OpenObject). nat_lt other.number n) objects) none in
    grind (arith, nat_tests)

ready_first_of : (frontier wanted : ℕ) (receipt : Option ReceiptState) (kind has_spare : Bool) (objects : List OpenObject)
    (Rest : List OpenObject → Type 0) (object : OpenObject)
    → IsWaiting receipt → IsOpenFirst (frontier + 1) receipt kind has_spare objects Rest
    → frontier < wanted → is_ready objects object ≡ true → object.number ≡ wanted → object.is_checkpoint ≡ true
    → wanted ≡ frontier + 1
ready_first_of frontier wanted (Some receipt) kind has_spare objects Rest object waits are past ready is checkpoint = absurd waits
ready_first_of frontier wanted None kind has_spare [] Rest object waits are past ready is checkpoint = absurd are
ready_first_of frontier wanted None kind has_spare (first ∷ objects) Rest object waits are past ready is checkpoint =
    let none = none_lower object.is_started object.is_checkpoint
    (list_any (λ (other : OpenObject). nat_lt other.number object.number) (first ∷ objects)) ready checkpoint in
    let low = lower_first object.number first objects none in
    omega (arith, low, is, are.0, past)

ready_at_first_of : (frontier wanted : ℕ) (list : List SealedState) (objects : List OpenObject) (object : OpenObject)
    → AreOpen (frontier + 1) list objects → FirstWaits list → frontier < wanted
    → lowest_ready objects ≡ Some wanted → is_ready objects object ≡ true → object.number ≡ wanted
    → object.is_checkpoint ≡ true → wanted ≡ frontier + 1
ready_at_first_of frontier wanted [] objects object are waits past lowest ready is checkpoint =
    let none : lowest_ready [] ≡ Some wanted = subst (λ os. lowest_ready os ≡ Some wanted) are lowest in absurd cc
ready_at_first_of frontier wanted (sealed ∷ more) objects object are waits past lowest ready is checkpoint =
    ready_first_of frontier wanted sealed.receipt (is_checkpoint sealed.rows) sealed.has_spare objects
    (AreOpen (frontier + 1 + 1) more) object waits are past ready is checkpoint

-- a put of the lowest ready number begins
pub begun_taken : (frontier wanted : ℕ) (list : List SealedState) (objects : List OpenObject)
    → AreOpen (frontier + 1) list objects → FirstWaits list → frontier < wanted → lowest_ready objects ≡ Some wanted
    → AreAtIfBegun (frontier + 1) objects → AreAtIfBegun (frontier + 1) (with_started wanted true objects)
begun_taken frontier wanted list objects are waits past lowest begun =
    taken_in wanted (frontier + 1) objects
    (λ object ready is checkpoint. ready_at_first_of frontier wanted list objects object are waits past lowest ready is
    checkpoint) (frontier + 1) list objects are lowest begun
