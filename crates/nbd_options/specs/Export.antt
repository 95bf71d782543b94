-- Contract: the names of an export.
use Rattle.std.specs.Prelude.{ℕ, ◌≡◌, ◌⊎◌, List, []}
use Rattle.uuid.specs.Text.{hyphenated_text, lower}
use Rattle.nbd_options.specs.declared.export.Export.{Export}

-- the text of the uuid, in lower case with hyphens
abbrev pub uuid_text : Export → List ℕ
uuid_text export = hyphenated_text lower export.uuid

-- a name of the export: the empty text, or the uuid's
abbrev pub IsNameOf : Export → List ℕ → Type 0
IsNameOf export name = (name ≡ []) ⊎ (name ≡ uuid_text export)
