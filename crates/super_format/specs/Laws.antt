-- Contract: super objects, epochs and holds have one spelling, and none begins another of its kind.
use Rattle.std.specs.Prelude.{ℕ, ◌≡◌, List, [], ◌++◌}
use Rattle.super_format.specs.declared.super_object.Super.{Super}
use Rattle.super_format.specs.declared.epoch.Epoch.{Epoch}
use Rattle.super_format.specs.Super.{IsSuper}
use Rattle.super_format.specs.Epoch.{IsEpoch}
use Rattle.super_format.specs.declared.hold.Hold.{Hold}
use Rattle.super_format.specs.Hold.{IsHold}

-- what a super object says has one spelling, and a spelling says one thing, whatever is expected
abbrev pub SupersHaveOneSpelling : Type 0
SupersHaveOneSpelling =
    (bytes others uuid another : List ℕ) (a b : Super) → IsSuper bytes uuid a → IsSuper others another b
    → (a ≡ b → bytes ≡ others) × (bytes ≡ others → a ≡ b)

-- no super object begins another: where further bytes after those of one make another, there are none
abbrev pub NoSuperBeginsAnother : Type 0
NoSuperBeginsAnother =
    (bytes more uuid another : List ℕ) (a b : Super) → IsSuper bytes uuid a → IsSuper (bytes ++ more) another b → more ≡ []

-- so it is with epochs, and with holds
abbrev pub EpochsHaveOneSpelling : Type 0
EpochsHaveOneSpelling =
    (bytes others uuid another : List ℕ) (m n : ℕ) (a b : Epoch) → IsEpoch bytes uuid m a → IsEpoch others another n b
    → (a ≡ b → bytes ≡ others) × (bytes ≡ others → a ≡ b)

abbrev pub NoEpochBeginsAnother : Type 0
NoEpochBeginsAnother =
    (bytes more uuid another : List ℕ) (m n : ℕ) (a b : Epoch)
    → IsEpoch bytes uuid m a → IsEpoch (bytes ++ more) another n b → more ≡ []

abbrev pub HoldsHaveOneSpelling : Type 0
HoldsHaveOneSpelling =
    (bytes others uuid another : List ℕ) (m n : ℕ) (a b : Hold) → IsHold bytes uuid m a → IsHold others another n b
    → (a ≡ b → bytes ≡ others) × (bytes ≡ others → a ≡ b)

abbrev pub NoHoldBeginsAnother : Type 0
NoHoldBeginsAnother =
    (bytes more uuid another : List ℕ) (m n : ℕ) (a b : Hold)
    → IsHold bytes uuid m a → IsHold (bytes ++ more) another n b → more ≡ []
