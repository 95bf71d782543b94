-- Contract: the spelling of a name, and which values are names.
use Rattle.std.specs.Prelude.{◌≡◌, ℕ, zero, suc, ◌/◌, ◌%◌, ◌^◌, ◌<◌, List, [], ◌∷◌, ◌++◌, length, codes}
use Rattle.std.specs.Char.{digit_char}
use Rattle.std.specs.List.{All}
use Rattle.uuid.specs.Text.{hyphenated_text, lower}
use Rattle.lsvd_names.specs.declared.name.NameKind.{NameKind}
use Rattle.lsvd_names.specs.declared.name.NameKind.TheVariants.{Super, Epoch, Object, Hold}
use Rattle.lsvd_names.specs.declared.name.ObjName.{ObjName}

-- the last N digits of a number in lower-case hexadecimal, with leading zeros
unfoldable pub hex_digits : ℕ → ℕ → List ℕ
hex_digits zero number = []
hex_digits (suc count) number = hex_digits count (number / 16) ++ digit_char (number % 16) ∷ []

-- the code of `.`
abbrev pub dot : ℕ
dot = 46

-- the word of a kind
abbrev pub word : NameKind → List ℕ
word Super = codes "super"
word Epoch = codes "epoch"
word Object = codes "obj"
word Hold = codes "hold"

-- what follows the uuid: the word, and for all but a super the sixteen digits of the number
abbrev pub ending : NameKind → ℕ → List ℕ
ending Super number = word Super
ending Epoch number = word Epoch ++ dot ∷ hex_digits 16 number
ending Object number = word Object ++ dot ∷ hex_digits 16 number
ending Hold number = word Hold ++ dot ∷ hex_digits 16 number

-- the spelling of a name
abbrev pub spelling : ObjName → List ℕ
spelling name = hyphenated_text lower name.uuid ++ dot ∷ ending name.kind name.number

-- a kind has numbers (for this crate's own clauses)
abbrev pub IsNumbered : NameKind → Type 0
IsNumbered Super = ⊥
IsNumbered Epoch = Unit {0}
IsNumbered Object = Unit {0}
IsNumbered Hold = Unit {0}

-- the number is one of its kind: a super has none, and 0 stands there
abbrev pub MayHaveNumber : NameKind → ℕ → Type 0
MayHaveNumber Super number = number ≡ 0
MayHaveNumber Epoch number = Unit {0}
MayHaveNumber Object number = Unit {0}
MayHaveNumber Hold number = Unit {0}

-- the bytes of a uuid
pub record IsUuid (uuid : List ℕ) : Type 0 where
  pub count : length uuid ≡ 16
  pub bytes : All (λ b. b < 256) uuid

-- a value is a name
pub record IsName (name : ObjName) : Type 0 where
  pub uuid : IsUuid name.uuid
  pub number : MayHaveNumber name.kind name.number
  pub fits : name.number < 2 ^ 64
