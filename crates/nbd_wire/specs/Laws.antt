-- Contract: what messages have to do with their bytes.
use Rattle.std.specs.Prelude.{ℕ, ◌≡◌, List, ◌++◌, length}

-- what begins bytes as a message of a grammar is one message alone, whatever follows it
abbrev pub IsReadOneWay : {T : Type 0} → (List ℕ → T → Type 0) → Type 0
IsReadOneWay {T} IsMessage =
    (a b x y : List ℕ) (m n : T) → IsMessage a m → IsMessage b n → a ++ x ≡ b ++ y → (a ≡ b) × (x ≡ y) × (m ≡ n)

-- each message of a grammar has this many bytes
abbrev pub HasFixedSize : {T : Type 0} → ℕ → (List ℕ → T → Type 0) → Type 0
HasFixedSize {T} size IsMessage = (bytes : List ℕ) (message : T) → IsMessage bytes message → length bytes ≡ size
