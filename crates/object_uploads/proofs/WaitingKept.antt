-- No checkpoint past the frontier is acknowledged.
use Rattle.std.proofs.Common.{◌≡◌, ℕ, zero, suc, ◌+◌, ◌<◌, ◌≤◌, ◌&&◌, ◌||◌, Bool, true, false, Option, Some, None, List, [], ◌∷◌}
use Rattle.std.proofs.Common.{◌++◌, drop, refl, sym, ◌∙◌, ap, subst, arith}
use Rattle.std.proofs.lemmas.Bool.Decides.{nat_tests}
use Rattle.std.proofs.lemmas.List.Elements.{All-head, All-tail}
use Rattle.lsvd_objstore.specs.Store.{ReceiptState}
use Rattle.upload_window.specs.declared.object.OpenObject.{OpenObject}
use Rattle.upload_window.specs.Window.{has_number, was_started}
use Rattle.object_uploads.specs.State.{SealedState}
use Rattle.object_uploads.specs.Queue.{with_at, with_receipt, is_checkpoint, FirstWaits}
use Rattle.object_uploads.specs.Order.{IsOpenFirst, AreOpen, AreWaiting}
use Rattle.object_uploads.specs.Invariant.{IsOpenAt}
use Rattle.object_uploads.proofs.BegunLemmas.{AreFrom, AreAtIfBegun, IsAtIfBegun, open_from}

pub waiting_pushed : (list : List SealedState) (sealed : SealedState) → sealed.receipt ≡ None → AreWaiting list
    → AreWaiting (list ++ sealed ∷ [])
waiting_pushed [] sealed none waiting = ((λ is. none), tt)
waiting_pushed (first ∷ list) sealed none waiting = (waiting.0, waiting_pushed list sealed none waiting.1)

pub waiting_changed : (index : ℕ) (change : SealedState → SealedState) (list : List SealedState)
    → ((s : SealedState) → (change s).receipt ≡ s.receipt) → ((s : SealedState) → (change s).rows ≡ s.rows)
    → AreWaiting list → AreWaiting (with_at index change list)
waiting_changed index change [] same rows waiting = waiting
waiting_changed zero change (sealed ∷ list) same rows waiting =
    ((λ is. same sealed ∙ waiting.0 (sym (ap is_checkpoint (rows sealed)) ∙ is)), waiting.1)
waiting_changed (suc index) change (sealed ∷ list) same rows waiting =
    (waiting.0, waiting_changed index change list same rows waiting.1)

waiting_dropped : (count : ℕ) (list : List SealedState) → AreWaiting list → AreWaiting (drop count list)
waiting_dropped zero list waiting = waiting
waiting_dropped (suc count) [] waiting = tt
waiting_dropped (suc count) (sealed ∷ list) waiting = waiting_dropped count list waiting.1

-- ---- a receipt comes

later : (test was rest : Bool) → test ≡ false → ((test && was) || rest) ≡ true → rest ≡ true
later true was rest other started = absurd cc
later false was rest other started = started

-- none of the objects with higher numbers is one of a number
not_later : (wanted low : ℕ) (objects : List OpenObject) → wanted < low → AreFrom low objects
    → was_started wanted objects ≡ true → ⊥
not_later wanted low [] order from started = absurd cc
not_later wanted low (object ∷ objects) order from started =
    let above : low ≤ object.number = All-head (λ (o : OpenObject). low ≤ o.number) object objects from in
    let other : has_number wanted object ≡ false = grind (arith, nat_tests) in
    not_later wanted low objects order (All-tail (λ (o : OpenObject). low ≤ o.number) object objects from)
    (later (has_number wanted object) object.was_started (was_started wanted objects) other started)

not_begun : (test was rest : Bool) → was ≡ false → ((test && was) || rest) ≡ true → rest ≡ true
not_begun true true rest none started = absurd cc
not_begun false true rest none started = absurd cc
not_begun true false rest none started = started
not_begun false false rest none started = started

begun_by : (first wanted : ℕ) (was : Bool) (object : OpenObject) (objects : List OpenObject) → object.was_started ≡ was
    → object.number ≡ wanted → first < wanted → AreFrom (wanted + 1) objects → was_started wanted (object ∷ objects) ≡ true
    → IsAtIfBegun first object → object.is_checkpoint ≡ true → ⊥
begun_by first wanted true object objects was named past from started begun checkpoint =
    let both : (object.was_started && object.is_checkpoint) ≡ true = rw (was, checkpoint) refl in
    let at = begun both in
    omega (arith, at, named, past)
begun_by first wanted false object objects was named past from started begun checkpoint =
    not_later wanted (wanted + 1) objects (omega arith) from
    (not_begun (has_number wanted object) object.was_started (was_started wanted objects) was started)

module _ (first wanted : ℕ) (receipt : ReceiptState) (past : first < wanted) where
  no_checkpoint : (own : Option ReceiptState) (kind has_spare : Bool) (objects : List OpenObject) (more : List SealedState)
      → own ≡ None → IsOpenFirst wanted own kind has_spare objects (AreOpen (wanted + 1) more)
      → was_started wanted objects ≡ true → AreAtIfBegun first objects → kind ≡ true → ⊥
  no_checkpoint (Some own) kind has_spare objects more none are started begun is = absurd cc
  no_checkpoint None kind has_spare [] more none are started begun is = absurd are
  no_checkpoint None kind has_spare (object ∷ objects) more none are started begun is =
      begun_by first wanted object.was_started object objects refl are.0 past (open_from (wanted + 1) more objects are.3)
      started (All-head (IsAtIfBegun first) object objects begun) (are.1 ∙ is)

  -- the others are looked at without an object of a lower number
  without_first : (number : ℕ) (own : Option ReceiptState) (kind has_spare : Bool) (objects : List OpenObject)
      (Rest : List OpenObject → Type 0) (Then : Type 0) → number < wanted
      → ((list : List OpenObject) → Rest list → was_started wanted list ≡ true → AreAtIfBegun first list → Then)
      → IsOpenFirst number own kind has_spare objects Rest → was_started wanted objects ≡ true → AreAtIfBegun first objects
      → Then
  without_first number (Some own) kind has_spare objects Rest Then low then_ are started begun = then_ objects are started begun
  without_first number None kind has_spare [] Rest Then low then_ are started begun = absurd are
  without_first number None kind has_spare (object ∷ objects) Rest Then low then_ are started begun =
      let other : has_number wanted object ≡ false = let named = are.0 in grind (arith, nat_tests) in
      then_ objects are.3
      (later (has_number wanted object) object.was_started (was_started wanted objects) other started)
      (All-tail (IsAtIfBegun first) object objects begun)

  -- an open object that is not the first is no checkpoint
  waiting_given : (number index : ℕ) (list : List SealedState) (objects : List OpenObject) → AreOpen number list objects
      → wanted ≡ number + index → IsOpenAt index list false → was_started wanted objects ≡ true → AreAtIfBegun first objects
      → AreWaiting list → AreWaiting (with_at index (with_receipt receipt) list)
  waiting_given number index [] objects are at opened started begun waiting = tt
  waiting_given number zero (sealed ∷ list) objects are at opened started begun waiting =
      let same : wanted ≡ number = omega (arith, at) in
      let are_ = subst (λ n. IsOpenFirst n sealed.receipt (is_checkpoint sealed.rows) sealed.has_spare objects
      (AreOpen (n + 1) list)) (sym same) are in (
        (λ is. absurd (no_checkpoint sealed.receipt (is_checkpoint sealed.rows) sealed.has_spare objects list opened.0 are_
            started begun is)),
        waiting.1,
      )
  waiting_given number (suc index) (sealed ∷ list) objects are at opened started begun waiting = (
    waiting.0,
    without_first number sealed.receipt (is_checkpoint sealed.rows) sealed.has_spare objects
        (AreOpen (number + 1) list) (AreWaiting (with_at index (with_receipt receipt) list)) (omega (arith, at))
        (λ objs are_ started_ begun_. waiting_given (number + 1) index list objs are_ (omega (arith, at)) opened started_ begun_
        waiting.1) are started begun,
  )

-- the objects past the new frontier, once those in front that are acknowledged are settled
pub waiting_done : (first wanted index count : ℕ) (list : List SealedState) (objects : List OpenObject) (receipt : ReceiptState)
    → AreOpen first list objects → wanted ≡ first + index → IsOpenAt index list false → was_started wanted objects ≡ true
    → AreAtIfBegun first objects → AreWaiting list → FirstWaits (drop count (with_at index (with_receipt receipt) list))
    → AreWaiting (drop count (with_at index (with_receipt receipt) list))
waiting_done first wanted zero zero [] objects receipt are at opened started begun waiting waits = tt
waiting_done first wanted zero (suc count) [] objects receipt are at opened started begun waiting waits = tt
waiting_done first wanted zero zero (sealed ∷ list) objects receipt are at opened started begun waiting waits = absurd waits
waiting_done first wanted zero (suc count) (sealed ∷ list) objects receipt are at opened started begun waiting waits =
    waiting_dropped count list waiting.1
waiting_done first wanted (suc index) count list objects receipt are at opened started begun waiting waits =
    waiting_dropped count (with_at (suc index) (with_receipt receipt) list)
    (waiting_given first wanted receipt (omega (arith, at)) first (suc index) list objects are at opened started begun waiting)
