-- Contract: what a call that waits for the next client does to a listener, by its answer: a link, the end, or a failure.
use Rattle.std.specs.Prelude.{◌≡◌, ℕ, Bool, true, List, [], ◌∷◌, Option, Some, None, IfSome, Result, Ok, Err}
use Rattle.lsvd_fault.specs.Faults.{counted_with}

-- how many links were given after it: one more where it gave one
abbrev pub given_after : {L E : Type 0} → Result (Option L) E → ℕ → ℕ
given_after (Ok (Some link)) given = counted_with given 1
given_after (Ok None) given = given
given_after (Err failed) given = given

-- whether the listener is closed after it: from the first end on
abbrev pub closed_after : {L E : Type 0} → Result (Option L) E → Bool → Bool
closed_after (Ok (Some link)) closed = closed
closed_after (Ok None) closed = true
closed_after (Err failed) closed = closed

-- it gave no link
abbrev pub GivesNoLink : {L E : Type 0} → Result (Option L) E → Type 0
GivesNoLink (Ok (Some link)) = ⊥
GivesNoLink (Ok None) = Unit {0}
GivesNoLink (Err failed) = Unit {0}

-- ---- the links that are still to come, where they are told

-- this one was the first of them, and the others are left
abbrev pub IsFirst : {L : Type 0} → L → (old new : Option (List L)) → Type 0
IsFirst link None new = new ≡ None
IsFirst link (Some old) None = ⊥
IsFirst link (Some old) (Some new) = old ≡ link ∷ new

-- there was none
abbrev pub AreNone : {L : Type 0} → (old new : Option (List L)) → Type 0
AreNone None new = new ≡ None
AreNone (Some old) new = (old ≡ []) × (new ≡ Some [])

-- an answer gives the first of them, or none exactly where there is none; a failure takes none
abbrev pub GivesFirst : {L E : Type 0} → Result (Option L) E → (old new : Option (List L)) → Type 0
GivesFirst (Ok (Some link)) old new = IsFirst link old new
GivesFirst (Ok None) old new = AreNone old new
GivesFirst (Err failed) old new = new ≡ old

-- nothing was sent on a link that is given, where it tells that
abbrev pub GivesFresh : {L E : Type 0} → (sent : L → Option (List ℕ)) → Result (Option L) E → Type 0
GivesFresh sent (Ok (Some link)) = IfSome (sent link) (λ bytes. bytes ≡ [])
GivesFresh sent (Ok None) = Unit {0}
GivesFresh sent (Err failed) = Unit {0}
