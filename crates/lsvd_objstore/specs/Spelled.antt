-- Contract: the name of an object that the name of a file spells.
use Rattle.std.specs.Prelude.{ℕ, ◌-◌, ◌^◌, ◌&&◌, cond, nat_lt, List, [], ◌∷◌, length, take, drop, Option, Some, None}
use Rattle.std.specs.Prelude.{option_and_then}
use Rattle.std.specs.Str.{bytes_eq}
use Rattle.std.specs.Str.Parse.{digits_value}
use Rattle.uuid.specs.Text.{parsed}
use Rattle.lsvd_names.specs.Spelling.{spelling}
use Rattle.lsvd_names.specs.declared.name.ObjName.{ObjName}
use Rattle.lsvd_names.specs.declared.name.NameKind.TheVariants.{Super, Epoch, Object, Hold}

-- the first of these names that has this spelling
abbrev pub first_spelled : List ℕ → List ObjName → Option ObjName
first_spelled text [] = None
first_spelled text (name ∷ names) =
    cond (nat_lt name.number (2 ^ 64) && bytes_eq (spelling name) text) (Some name) (first_spelled text names)

-- the names of a volume that have this number, and its super object's
abbrev pub names_with : List ℕ → ℕ → List ObjName
names_with uuid number =
    record { uuid = uuid; kind = Super; number = 0 } ∷ record { uuid = uuid; kind = Epoch; number = number }
    ∷ record { uuid = uuid; kind = Object; number = number } ∷ record { uuid = uuid; kind = Hold; number = number } ∷ []

-- the number that a text ends with
abbrev pub last_number : List ℕ → ℕ
last_number text = digits_value 16 (drop (length text - 16) text)

-- the name that a text spells; none for any other text
abbrev pub name_spelled : List ℕ → Option ObjName
name_spelled text = option_and_then (λ uuid. first_spelled text (names_with uuid (last_number text))) (parsed (take 36 text))
