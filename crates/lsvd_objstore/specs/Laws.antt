-- Contract: what follows from the calls of a store.
use Rattle.std.specs.Prelude.{◌≡◌, ℕ, ◌⊎◌, List, Some, None}
use Rattle.lsvd_names.specs.declared.name.ObjName.{ObjName}
use Rattle.lsvd_objstore.specs.Objects.{Objects, found, MayBePut, MayBeRemoved, Lists}
use Rattle.lsvd_objstore.specs.Store.{StoreState}
use Rattle.lsvd_fault.specs.Faults.{CountsOne}

-- after a put, acknowledged or not, each name has the bytes that it had, or it is the name put and has the whole new ones
abbrev pub PutsWhole : Type 0
PutsWhole =
    (name : ObjName) (bytes : List ℕ) (old new : Objects) → MayBePut name bytes old new → (other : ObjName)
    → (found new other ≡ found old other) ⊎ ((other ≡ name) × (found new other ≡ Some bytes))

-- after a removal, acknowledged or not, each name has the bytes that it had, or it is the name removed and has none
abbrev pub RemovesWhole : Type 0
RemovesWhole =
    (name : ObjName) (old new : Objects) → MayBeRemoved name old new → (other : ObjName)
    → (found new other ≡ found old other) ⊎ ((other ≡ name) × (found new other ≡ None))

-- a volume's objects have one list
abbrev pub HasOneList : Type 0
HasOneList =
    (uuid : List ℕ) (objects : Objects) (names others : List ObjName)
    → Lists uuid objects names → Lists uuid objects others → names ≡ others

-- no call of a store in these states counts a fault, and so none fails
abbrev pub NeverFails : {S : Type 0} → (S → StoreState) → Type 0
NeverFails {S} state = (old new : S) → CountsOne (state old).faults (state new).faults → ⊥
