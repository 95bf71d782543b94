-- The open objects of the window beside the sealed objects.
use Rattle.std.proofs.Common.{◌≡◌, ℕ, zero, suc, ◌+◌, ◌-◌, ◌<◌, ◌≤◌, ◌&&◌, ◌||◌, not, Bool, true, false, cond, Option, Some, None}
use Rattle.std.proofs.Common.{List, [], ◌∷◌, ◌++◌, length, take, drop, slice_index_or, nat_lt, refl, sym, ◌∙◌, ap, subst, arith}
use Rattle.std.specs.Prelude.{Result, Ok, Err, OnOk, IsErr, IsSome, option_map, find}
use Rattle.std.specs.List.{AllByRecursion, list_any}
use Rattle.std.proofs.lemmas.Bool.Decides.{nat_tests}
use Rattle.lsvd_objstore.specs.Store.{ReceiptState}
use Rattle.upload_window.specs.declared.object.OpenObject.{OpenObject}
use Rattle.upload_window.specs.Window.{has_number, is_ready, lowest_ready, is_started_with, is_started, with_started}
use Rattle.upload_window.specs.Window.{without, below_lowest}
use Rattle.object_uploads.specs.State.{SealedState}
use Rattle.object_uploads.specs.Queue.{with_at, with_spare, with_receipt, spare_of, is_checkpoint, IsWaiting, FirstWaits}
use Rattle.object_uploads.specs.Order.{IsOpenFirst, AreOpen}
use Rattle.object_uploads.specs.Invariant.{IsOpenAt}

not_started : (started or : Bool) → (not started && or) ≡ true → started ≡ false
not_started true or ready = absurd cc
not_started false or ready = refl

twice : (b : Bool) → b ≡ not (not b)
twice true = refl
twice false = refl

-- ---- one more

module _ (more : OpenObject) where
  push_first : (number : ℕ) (receipt : Option ReceiptState) (kind has_spare : Bool) (objects : List OpenObject)
      (Rest Rest_ : List OpenObject → Type 0)
      → ((list : List OpenObject) → Rest list → Rest_ (list ++ more ∷ [])) → IsOpenFirst number receipt kind has_spare objects
      Rest
      → IsOpenFirst number receipt kind has_spare (objects ++ more ∷ []) Rest_
  push_first number (Some receipt) kind has_spare objects Rest Rest_ pushed are = pushed objects are
  push_first number None kind has_spare [] Rest Rest_ pushed are = absurd are
  push_first number None kind has_spare (object ∷ objects) Rest Rest_ pushed are = (are.0, are.1, are.2, pushed objects are.3)

  only : (number : ℕ) (receipt : Option ReceiptState) (kind has_spare : Bool) → receipt ≡ None → more.number ≡ number
      → more.is_checkpoint ≡ kind
      → more.is_started ≡ not has_spare → IsOpenFirst number receipt kind has_spare (more ∷ []) (AreOpen (number + 1) [])
  only number (Some receipt) kind has_spare none named data_ ready = absurd cc
  only number None kind has_spare none named data_ ready = (named, data_, ready, refl)

  pub open_push : (number : ℕ) (list : List SealedState) (objects : List OpenObject) (sealed : SealedState)
      → AreOpen number list objects
      → sealed.receipt ≡ None → more.number ≡ number + length list → more.is_checkpoint ≡ is_checkpoint sealed.rows
      → more.is_started ≡ not sealed.has_spare
      → AreOpen number (list ++ sealed ∷ []) (objects ++ more ∷ [])
  open_push number [] objects sealed are none named data_ ready =
      let same : more.number ≡ number = omega (arith, named) in
      rw are (only number sealed.receipt (is_checkpoint sealed.rows) sealed.has_spare none same data_ ready)
  open_push number (first ∷ list) objects sealed are none named data_ ready =
      let same : more.number ≡ number + 1 + length list = omega (arith, named) in
      push_first number first.receipt (is_checkpoint first.rows) first.has_spare objects (AreOpen (number + 1) list)
      (AreOpen (number + 1) (list ++ sealed ∷ []))
      (λ objs are_. open_push (number + 1) list objs sealed are_ none same data_ ready) are

-- ---- one that is found

abbrev pub Found : (number wanted : ℕ) → List SealedState → Bool → Type 0
Found number wanted list has_spare = (number ≤ wanted) × IsOpenAt (wanted - number) list has_spare

further : (number wanted : ℕ) (more : List SealedState) (sealed : SealedState) (has_spare : Bool)
    → Found (number + 1) wanted more has_spare
    → Found number wanted (sealed ∷ more) has_spare
further number wanted more sealed has_spare found =
    let e : wanted - number ≡ suc (wanted - (number + 1)) = omega (arith, found.0) in
    (omega (arith, found.0), rw e found.1)

here : (number wanted : ℕ) (more : List SealedState) (sealed : SealedState) (has_spare : Bool) → wanted ≡ number
    → sealed.receipt ≡ None
    → sealed.has_spare ≡ has_spare → Found number wanted (sealed ∷ more) has_spare
here number wanted more sealed has_spare same none spare =
    let e : wanted - number ≡ 0 = omega (arith, same) in
    (omega (arith, same), rw e (none, spare))

not_spare : (has_spare started : Bool) → started ≡ not has_spare → has_spare ≡ not started
not_spare true started same = rw same refl
not_spare false started same = rw same refl

module _ (wanted : ℕ) where
  started_test : (test : Bool) (number : ℕ) (object : OpenObject) (objects : List OpenObject) (more : List SealedState)
      (sealed : SealedState)
      → is_started_with wanted object ≡ test → sealed.receipt ≡ None → object.number ≡ number
      → object.is_started ≡ not sealed.has_spare
      → (is_started wanted objects ≡ true → Found (number + 1) wanted more false) → (test || is_started wanted objects) ≡ true
      → Found number wanted (sealed ∷ more) false
  started_test true number object objects more sealed test none named started later found =
      let is : object.number ≡ wanted = grind (arith, nat_tests) in
      let under_way : object.is_started ≡ true = grind (arith, nat_tests) in
      here number wanted more sealed false (sym is ∙ named) none (not_spare sealed.has_spare object.is_started started
      ∙ ap not under_way)
  started_test false number object objects more sealed test none named started later found =
      further number wanted more sealed false (later found)

  started_first : (number : ℕ) (receipt : Option ReceiptState) (objects : List OpenObject) (more : List SealedState)
      (sealed : SealedState)
      → sealed.receipt ≡ receipt → ((list : List OpenObject) → AreOpen (number + 1) more list → is_started wanted list ≡ true
      → Found (number + 1) wanted more false)
      → IsOpenFirst number receipt (is_checkpoint sealed.rows) sealed.has_spare objects (AreOpen (number + 1) more)
      → is_started wanted objects ≡ true
      → Found number wanted (sealed ∷ more) false
  started_first number (Some receipt) objects more sealed r later are started =
      further number wanted more sealed false (later objects are started)
  started_first number None [] more sealed r later are started = absurd are
  started_first number None (object ∷ objects) more sealed r later are started =
      started_test (is_started_with wanted object) number object objects more sealed refl r are.0 are.2
      (λ yes_. later objects are.3 yes_) started

  pub started_at : (number : ℕ) (list : List SealedState) (objects : List OpenObject) → AreOpen number list objects
      → is_started wanted objects ≡ true
      → Found number wanted list false
  started_at number [] objects are started = let none : is_started wanted [] ≡ true =
      subst (λ list. is_started wanted list ≡ true) are started in absurd cc
  started_at number (sealed ∷ more) objects are started =
      started_first number sealed.receipt objects more sealed refl (started_at (number + 1) more) are started

  -- the lowest that is ready
  module _ (all : List OpenObject) where
    abbrev FindsReady : List OpenObject → Type 0
    FindsReady objects = option_map (λ (object : OpenObject). object.number) (find (is_ready all) objects) ≡ Some wanted

    ready_test : (test : Bool) (number : ℕ) (object : OpenObject) (objects : List OpenObject) (more : List SealedState)
        (sealed : SealedState)
        → is_ready all object ≡ test → sealed.receipt ≡ None → object.number ≡ number → object.is_started ≡ not sealed.has_spare
        → (FindsReady objects → Found (number + 1) wanted more true)
        → option_map (λ (o : OpenObject). o.number) (cond test (Some object) (find (is_ready all) objects)) ≡ Some wanted
        → Found number wanted (sealed ∷ more) true
    ready_test true number object objects more sealed test none named started later found =
        let is : object.number ≡ wanted = cc in
        let waits : object.is_started ≡ false =
        not_started object.is_started (not object.is_checkpoint || not (list_any (λ other. nat_lt other.number object.number)
        all)) test in
        here number wanted more sealed true (sym is ∙ named) none (not_spare sealed.has_spare object.is_started started
        ∙ ap not waits)
    ready_test false number object objects more sealed test none named started later found =
        further number wanted more sealed true (later found)

    ready_first : (number : ℕ) (receipt : Option ReceiptState) (objects : List OpenObject) (more : List SealedState)
        (sealed : SealedState)
        → sealed.receipt ≡ receipt → ((list : List OpenObject) → AreOpen (number + 1) more list → FindsReady list
        → Found (number + 1) wanted more true)
        → IsOpenFirst number receipt (is_checkpoint sealed.rows) sealed.has_spare objects (AreOpen (number + 1) more)
        → FindsReady objects
        → Found number wanted (sealed ∷ more) true
    ready_first number (Some receipt) objects more sealed r later are finds =
        further number wanted more sealed true (later objects are finds)
    ready_first number None [] more sealed r later are finds = absurd are
    ready_first number None (object ∷ objects) more sealed r later are finds =
        ready_test (is_ready all object) number object objects more sealed refl r are.0 are.2
        (λ yes_. later objects are.3 yes_) finds

    pub ready_in : (number : ℕ) (list : List SealedState) (objects : List OpenObject) → AreOpen number list objects
        → FindsReady objects
        → Found number wanted list true
    ready_in number [] objects are finds = let none : FindsReady [] = subst FindsReady are finds in absurd cc
    ready_in number (sealed ∷ more) objects are finds =
        ready_first number sealed.receipt objects more sealed refl (ready_in (number + 1) more) are finds

  pub ready_at : (number : ℕ) (list : List SealedState) (objects : List OpenObject) → AreOpen number list objects
      → lowest_ready objects ≡ Some wanted
      → Found number wanted list true
  ready_at number list objects are lowest = ready_in objects number list objects are lowest

-- ---- one that is changed

-- a put begins, or fails
module _ (wanted : ℕ) (started : Bool) where
  marked_first : (number : ℕ) (receipt : Option ReceiptState) (kind has_spare : Bool) (objects : List OpenObject)
      (Rest Rest_ : List OpenObject → Type 0)
      → number < wanted → ((list : List OpenObject) → Rest list → Rest_ (with_started wanted started list))
      → IsOpenFirst number receipt kind has_spare objects Rest
      → IsOpenFirst number receipt kind has_spare (with_started wanted started objects) Rest_
  marked_first number (Some receipt) kind has_spare objects Rest Rest_ low changed are = changed objects are
  marked_first number None kind has_spare [] Rest Rest_ low changed are = absurd are
  marked_first number None kind has_spare (object ∷ objects) Rest Rest_ low changed are =
      let other : has_number wanted object ≡ false = grind (arith, nat_tests) in
      rw other (are.0, are.1, are.2, changed objects are.3)

  marked_here : (receipt : Option ReceiptState) (kind has_spare : Bool) (objects : List OpenObject) (Rest : List OpenObject
      → Type 0)
      → receipt ≡ None → IsOpenFirst wanted receipt kind has_spare objects Rest
      → IsOpenFirst wanted receipt kind (not started) (with_started wanted started objects) Rest
  marked_here (Some receipt) kind has_spare objects Rest none are = absurd cc
  marked_here None kind has_spare [] Rest none are = absurd are
  marked_here None kind has_spare (object ∷ objects) Rest none are =
      let this : has_number wanted object ≡ true = grind (arith, nat_tests) in
      rw this (are.0, are.1, twice started, are.3)

  pub open_marked : (number index : ℕ) (list : List SealedState) (objects : List OpenObject) (has_spare : Bool)
      → AreOpen number list objects
      → wanted ≡ number + index → IsOpenAt index list has_spare
      → AreOpen number (with_at index (with_spare (not started)) list) (with_started wanted started objects)
  open_marked number index [] objects has_spare are at opened = absurd opened
  open_marked number zero (sealed ∷ more) objects has_spare are at opened =
      let same : wanted ≡ number = omega (arith, at) in
      subst (λ n. IsOpenFirst n sealed.receipt (is_checkpoint sealed.rows) (not started) (with_started wanted started objects)
      (AreOpen (number + 1) more))
      same
      (marked_here sealed.receipt (is_checkpoint sealed.rows) sealed.has_spare objects (AreOpen (number + 1) more) opened.0
      (subst (λ n. IsOpenFirst n sealed.receipt (is_checkpoint sealed.rows) sealed.has_spare objects (AreOpen (number + 1) more))
      (sym same) are))
  open_marked number (suc index) (sealed ∷ more) objects has_spare are at opened =
      marked_first number sealed.receipt (is_checkpoint sealed.rows) sealed.has_spare objects (AreOpen (number + 1) more)
      (AreOpen (number + 1) (with_at index (with_spare (not started)) more))
      (omega (arith, at)) (λ list are_. open_marked (number + 1) index more list has_spare are_ (omega (arith, at)) opened) are

-- a put is done
module _ (wanted : ℕ) (receipt : ReceiptState) where
  done_first : (number : ℕ) (own : Option ReceiptState) (kind has_spare : Bool) (objects : List OpenObject)
      (Rest Rest_ : List OpenObject → Type 0)
      → number < wanted → ((list : List OpenObject) → Rest list → Rest_ (without wanted list))
      → IsOpenFirst number own kind has_spare objects Rest → IsOpenFirst number own kind has_spare (without wanted objects) Rest_
  done_first number (Some own) kind has_spare objects Rest Rest_ low changed are = changed objects are
  done_first number None kind has_spare [] Rest Rest_ low changed are = absurd are
  done_first number None kind has_spare (object ∷ objects) Rest Rest_ low changed are =
      let other : has_number wanted object ≡ false = grind (arith, nat_tests) in
      rw other (are.0, are.1, are.2, changed objects are.3)

  done_here : (own : Option ReceiptState) (kind has_spare : Bool) (objects : List OpenObject) (Rest : List OpenObject → Type 0)
      → own ≡ None → IsOpenFirst wanted own kind has_spare objects Rest → Rest (without wanted objects)
  done_here (Some own) kind has_spare objects Rest none are = absurd cc
  done_here None kind has_spare [] Rest none are = absurd are
  done_here None kind has_spare (object ∷ objects) Rest none are =
      let this : has_number wanted object ≡ true = grind (arith, nat_tests) in
      rw this are.3

  pub open_done : (number index : ℕ) (list : List SealedState) (objects : List OpenObject) (has_spare : Bool)
      → AreOpen number list objects
      → wanted ≡ number + index → IsOpenAt index list has_spare → AreOpen number (with_at index (with_receipt receipt) list)
      (without wanted objects)
  open_done number index [] objects has_spare are at opened = absurd opened
  open_done number zero (sealed ∷ more) objects has_spare are at opened =
      let same : wanted ≡ number = omega (arith, at) in
      done_here sealed.receipt (is_checkpoint sealed.rows) sealed.has_spare objects (AreOpen (number + 1) more) opened.0
      (subst (λ n. IsOpenFirst n sealed.receipt (is_checkpoint sealed.rows) sealed.has_spare objects (AreOpen (number + 1) more))
      (sym same) are)
  open_done number (suc index) (sealed ∷ more) objects has_spare are at opened =
      done_first number sealed.receipt (is_checkpoint sealed.rows) sealed.has_spare objects (AreOpen (number + 1) more)
      (AreOpen (number + 1) (with_at index (with_receipt receipt) more))
      (omega (arith, at)) (λ list are_. open_done (number + 1) index more list has_spare are_ (omega (arith, at)) opened) are

-- ---- what is asked of an open object

pub inside : (index : ℕ) (list : List SealedState) (has_spare : Bool) → IsOpenAt index list has_spare → index < length list
inside index [] has_spare opened = absurd opened
inside zero (sealed ∷ more) has_spare opened = omega arith
inside (suc index) (sealed ∷ more) has_spare opened = let rest = inside index more has_spare opened in omega (arith, rest)

-- an open object that is lent has its second bytes or not, and its bytes are those at the index
pub lent_open : (index : ℕ) (list : List SealedState) (lent : SealedState) (has_spare : Bool) → IsOpenAt index list has_spare
    → lent ≡ slice_index_or list index lent → lent.has_spare ≡ has_spare
lent_open index [] lent has_spare opened at = absurd opened
lent_open zero (sealed ∷ more) lent has_spare opened at = ap (λ (s : SealedState). s.has_spare) at ∙ opened.1
lent_open (suc index) (sealed ∷ more) lent has_spare opened at = lent_open index more lent has_spare opened at

pub spare_there : (sealed : SealedState) → sealed.has_spare ≡ true → spare_of sealed ≡ Some sealed.bytes
spare_there sealed has = ap (λ b. cond b (Some sealed.bytes) None) has

abbrev bytes_or : List ℕ → Option (List ℕ) → List ℕ
bytes_or other None = other
bytes_or other (Some bytes) = bytes

pub some_is : (a b : List ℕ) → Some a ≡ Some b → a ≡ b
some_is a b same = ap (bytes_or a) same

-- ---- settling

-- acknowledged objects in front have no open object
drop_first : (number : ℕ) (receipt : Option ReceiptState) (kind has_spare : Bool) (objects : List OpenObject)
    (Rest : List OpenObject → Type 0)
    → IsSome receipt → IsOpenFirst number receipt kind has_spare objects Rest → Rest objects
drop_first number (Some receipt) kind has_spare objects Rest some are = are
drop_first number None kind has_spare objects Rest some are = absurd cc

pub open_dropped : (number count : ℕ) (list : List SealedState) (objects : List OpenObject) → AreOpen number list objects
    → count ≤ length list → AllByRecursion (λ (sealed : SealedState). IsSome sealed.receipt) (take count list)
    → AreOpen (number + count) (drop count list) objects
open_dropped number zero list objects are within all = let same : number + 0 ≡ number = omega arith in rw same are
open_dropped number (suc count) [] objects are within all = absurd (omega arith)
open_dropped number (suc count) (sealed ∷ more) objects are within all =
    let same : number + suc count ≡ number + 1 + count = omega arith in
    rw same (
    open_dropped (number + 1) count more objects (drop_first number sealed.receipt (is_checkpoint sealed.rows) sealed.has_spare
    objects
    (AreOpen (number + 1) more) all.0 are)
    (omega arith) all.1
    )

-- ---- the first

waits_by : (a b : Option ReceiptState) → b ≡ a → IsWaiting a → IsWaiting b
waits_by a b same waits = subst IsWaiting (sym same) waits

pub waits_with : (index : ℕ) (change : SealedState → SealedState) (list : List SealedState)
    → ((s : SealedState) → (change s).receipt ≡ s.receipt)
    → FirstWaits list → FirstWaits (with_at index change list)
waits_with index change [] same waits = tt
waits_with zero change (sealed ∷ more) same waits = waits_by sealed.receipt (change sealed).receipt (same sealed) waits
waits_with (suc index) change (sealed ∷ more) same waits = waits

pub waits_pushed : (list : List SealedState) (sealed : SealedState) → sealed.receipt ≡ None → FirstWaits list
    → FirstWaits (list ++ sealed ∷ [])
waits_pushed [] sealed none waits = subst IsWaiting (sym none) tt
waits_pushed (first ∷ list) sealed none waits = waits

below_first : (frontier last : ℕ) (receipt : Option ReceiptState) (kind has_spare : Bool) (objects : List OpenObject)
    (Rest : List OpenObject → Type 0)
    → IsWaiting receipt → IsOpenFirst (frontier + 1) receipt kind has_spare objects Rest → below_lowest objects last ≡ frontier
below_first frontier last (Some receipt) kind has_spare objects Rest waits are = absurd waits
below_first frontier last None kind has_spare [] Rest waits are = absurd are
below_first frontier last None kind has_spare (object ∷ objects) Rest waits are = omega (arith, are.0)

pub below_by : (frontier : ℕ) (list : List SealedState) (objects : List OpenObject) (last : ℕ) → AreOpen
    (frontier + 1) list objects
    → frontier + length list ≡ last → FirstWaits list → below_lowest objects last ≡ frontier
below_by frontier [] objects last are count waits = rw are (omega (arith, count))
below_by frontier (sealed ∷ more) objects last are count waits =
    below_first frontier last sealed.receipt (is_checkpoint sealed.rows) sealed.has_spare objects (AreOpen
    (frontier + 1 + 1) more) waits are

-- ---- results

-- what an Ok promises, where there is no error
pub when_ok : {A E : Type 0} (r : Result A E) (P : Type 0) → OnOk r P → (IsErr r → ⊥) → P
when_ok (Ok a) P of_ok none = of_ok
when_ok (Err e) P of_ok none = absurd (none refl)

pub full : (n : ℕ) → n < 16 → n ≡ 16 → ⊥
full n low same = absurd (omega arith)
