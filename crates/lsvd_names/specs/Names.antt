-- Contract: the names of a volume's objects.
use Rattle.std.specs.Prelude.{ℕ, Option, Some, None, List}
use Rattle.std.specs.List.{filter_map}
use Rattle.lsvd_names.specs.declared.name.NameKind.{NameKind}
use Rattle.lsvd_names.specs.declared.name.ObjName.{ObjName}
use Rattle.lsvd_names.specs.declared.name.NameKind.TheVariants.{Super, Epoch, Object, Hold}

-- the name of the super object of a volume
abbrev pub super_name : (uuid : List ℕ) → ObjName
super_name uuid = record { uuid = uuid; kind = Super; number = 0 }

-- the name of the epoch of a number
abbrev pub epoch_name : (uuid : List ℕ) (number : ℕ) → ObjName
epoch_name uuid number = record { uuid = uuid; kind = Epoch; number = number }

-- the name of the object of a number of a volume's stream
abbrev pub numbered_name : (uuid : List ℕ) (number : ℕ) → ObjName
numbered_name uuid number = record { uuid = uuid; kind = Object; number = number }

-- the name of the hold on the checkpoint of a number
abbrev pub hold_name : (uuid : List ℕ) (number : ℕ) → ObjName
hold_name uuid number = record { uuid = uuid; kind = Hold; number = number }

-- the number of a name of a hold, and those of all such names, in their order
abbrev pub if_hold : NameKind → ℕ → Option ℕ
if_hold Super number = None
if_hold Epoch number = None
if_hold Object number = None
if_hold Hold number = Some number

abbrev pub hold_number : ObjName → Option ℕ
hold_number name = if_hold name.kind name.number

abbrev pub hold_numbers : List ObjName → List ℕ
hold_numbers names = filter_map hold_number names
