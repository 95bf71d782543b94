-- Contract: what is seen of a store in memory and of its receipts.
use Rattle.std.specs.Prelude.{ℕ, ◌-◌, ◌^◌, List, Some, None, length}
use Rattle.std.specs.List.{AllByRecursion}
use Rattle.lsvd_names.specs.Spelling.{IsName}
use Rattle.lsvd_names.specs.declared.name.ObjName.{ObjName}
use Rattle.lsvd_names.specs.declared.name.NameKind.TheVariants.{Super, Hold}
use Rattle.lsvd_objstore.specs.Objects.{Objects}
use Rattle.lsvd_objstore.specs.Store.{StoreState, ReceiptState}

-- a store in memory tells what it holds and not what it was asked, and has no faults
abbrev pub told_state : Objects → StoreState
told_state objects = record { objects = Some objects; asked = None; faults = 0 }

-- a receipt of a store in memory is the object itself
pub record Kept : Type 0 where
  pub name : ObjName
  pub bytes : List ℕ

abbrev pub told_receipt : Kept → ReceiptState
told_receipt kept = record { name = kept.name; size = length kept.bytes; told = Some kept.bytes }

-- each object has a name
abbrev pub HaveNames : Objects → Type 0
HaveNames objects = AllByRecursion (λ object. IsName object.0) objects

-- the first and the last name that an object of a volume may have
abbrev pub first_name_of : List ℕ → ObjName
first_name_of uuid = record { uuid = uuid; kind = Super; number = 0 }

abbrev pub last_name_of : List ℕ → ObjName
last_name_of uuid = record { uuid = uuid; kind = Hold; number = 2 ^ 64 - 1 }
