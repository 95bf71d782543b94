-- Contract: what the values of options spell: numbers, uuids, and whether a flag is given.
use Rattle.std.specs.Prelude.{◌≡◌, ◌<◌, ◌≤◌, ◌^◌, ℕ, Bool, true, false, Option, Some, None, decimal}
use Rattle.std.specs.Option.{option_map_or}
use Rattle.std.specs.Str.{bytes_eq}
use Rattle.clap.specs.Values.{bool_text}
use Rattle.clap.specs.Walk.{Text}
use Rattle.uuid.specs.Text.{parsed}

-- the value is this number in decimal digits, without a sign or a needless zero
abbrev pub IsNumber : (Text → Option Text) → Text → ℕ → Type 0
IsNumber value name n = (n < 2 ^ 64) × (value name ≡ Some (decimal n))

abbrev pub LacksNumber : (Text → Option Text) → Text → Type 0
LacksNumber value name = (n : ℕ) → IsNumber value name n → ⊥

-- and the number is one of those from `least` to `most`
abbrev pub IsBetween : (Text → Option Text) → Text → ℕ → ℕ → ℕ → Type 0
IsBetween value name least most n = IsNumber value name n × (least ≤ n) × (n ≤ most)

abbrev pub LacksBetween : (Text → Option Text) → Text → ℕ → ℕ → Type 0
LacksBetween value name least most = (n : ℕ) → IsBetween value name least most n → ⊥

-- such a number, where the option has a value
abbrev pub MayBeBetween : (Text → Option Text) → Text → ℕ → ℕ → Option ℕ → Type 0
MayBeBetween value name least most None = value name ≡ None
MayBeBetween value name least most (Some n) = IsBetween value name least most n

-- the value is no uuid
abbrev pub IsNoUuid : (Text → Option Text) → Text → Type 0
IsNoUuid value name = (text : Text) × (value name ≡ Some text) × (parsed text ≡ None)

-- the flag is given
abbrev pub is_set : (Text → Option Text) → Text → Bool
is_set value name = option_map_or (λ text. bytes_eq text (bool_text true)) (value name) false
