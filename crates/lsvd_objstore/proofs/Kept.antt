-- What `insert` and `remove` of a map make of the objects of a store in memory.
use Rattle.std.proofs.Common.{ℕ, Bool, true, false, cond, List, [], ◌∷◌, Some, None}
use Rattle.std.specs.Ordering.{match_ordering}
use Rattle.std.specs.declared.cmp.Ordering.{Ordering}
use Rattle.std.specs.declared.cmp.Ordering.TheVariants.{Less, Equal, Greater}
use Rattle.std.specs.BTreeMap.{BTreeMap, Updates, UpdatesBy, insert_entry}
use Rattle.std.specs.Map.{remove_entry}
use Rattle.lsvd_names.specs.Spelling.{IsName}
use Rattle.lsvd_names.specs.declared.name.ObjName.{ObjName}
use Rattle.lsvd_objstore.specs.Objects.{Objects, IsPut, IsRemoved, name_cmp}
use Rattle.lsvd_objstore.specs.Memory.{HaveNames}
use Rattle.lsvd_objstore.proofs.NameOrder.{not_at_other}

pub is_put : (name : ObjName) (bytes : List ℕ) (old new : BTreeMap ObjName (List ℕ))
    → Updates name_cmp old new name (Some bytes) → IsPut name bytes old.entries new.entries
is_put name bytes old new updates = record {
  put = updates.1;
  others = λ other differs. updates.2 other (not_at_other name other differs);
}

pub is_removed : (name : ObjName) (old new : BTreeMap ObjName (List ℕ))
    → UpdatesBy name_cmp (name_cmp name) old new None → IsRemoved name old.entries new.entries
is_removed name old new updates = record {
  absent = updates.1;
  others = λ other differs. updates.2 other (not_at_other name other differs);
}

inserted_at : (order : Ordering) (name : ObjName) (bytes : List ℕ) (object : ObjName × List ℕ) (rest more : Objects)
    → IsName name → HaveNames (object ∷ rest) → HaveNames more
    → HaveNames (match_ordering order ((name, bytes) ∷ object ∷ rest) ((object.0, bytes) ∷ rest) (object ∷ more))
inserted_at Less name bytes object rest more is old new = (is, old)
inserted_at Equal name bytes object rest more is old new = old
inserted_at Greater name bytes object rest more is old new = (old.0, new)

pub HaveNames-insert_entry : (name : ObjName) (bytes : List ℕ) (objects : Objects)
    → IsName name → HaveNames objects → HaveNames (insert_entry name_cmp objects name bytes)
HaveNames-insert_entry name bytes [] is old = (is, tt)
HaveNames-insert_entry name bytes (object ∷ rest) is old =
    inserted_at (name_cmp name object.0) name bytes object rest (insert_entry name_cmp rest name bytes) is old
    (HaveNames-insert_entry name bytes rest is old.1)

removed_at : (found : Bool) (object : ObjName × List ℕ) (rest less : Objects)
    → HaveNames (object ∷ rest) → HaveNames less → HaveNames (cond found rest (object ∷ less))
removed_at true object rest less old new = old.1
removed_at false object rest less old new = (old.0, new)

pub HaveNames-remove_entry : (test : ObjName → Bool) (objects : Objects) → HaveNames objects
    → HaveNames (remove_entry test objects)
HaveNames-remove_entry test [] old = tt
HaveNames-remove_entry test (object ∷ rest) old =
    removed_at (test object.0) object rest (remove_entry test rest) old (HaveNames-remove_entry test rest old.1)
