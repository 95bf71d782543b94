-- Objects that are removed one after the other.
use Rattle.std.proofs.Common.{◌≡◌, ℕ, ◌+◌, ◌<◌, inl, inr, Option, Some, None, List, length, refl, sym, ◌∙◌, subst, arith, rules}
use Rattle.std.specs.Prelude.{IfSome, slice_index_or}
use Rattle.std.proofs.lemmas.Bool.{cases_lt}
use Rattle.std.proofs.lemmas.List.{get_or_default}
use Rattle.std.specs.Option.{IsSome}
use Rattle.lsvd_names.specs.Spelling.{IsName}
use Rattle.lsvd_names.specs.declared.name.ObjName.{ObjName}
use Rattle.lsvd_objstore.specs.Objects.{Objects, found, IsRemoved, AreNamesOf, Lists}
use Rattle.lsvd_objstore.specs.Store.{Becomes}
use Rattle.object_format.specs.declared.expected.Expected.{Expected}
use Rattle.object_recovery.specs.Recovery.{IsLastLanded, IsPastOf, RemovesAllPast, MayRemovePast}
use Rattle.object_recovery.specs.Removal.{Removes, IsPast, IsListedPast, RemovesFirst}

-- ---- what a store becomes

pub becomes_so : (C D : Objects → Objects → Type 0) (old new : Option Objects) → ((a b : Objects) → C a b → D a b)
    → Becomes C old new
    → Becomes D old new
becomes_so C D None new so is = is
becomes_so C D (Some a) new so is = (is.0, is.1, so a is.0 is.2)

pub becomes_both : (C D E : Objects → Objects → Type 0) (old mid new : Option Objects)
    → ((a b c : Objects) → C a b → D b c → E a c)
    → Becomes C old mid → Becomes D mid new → Becomes E old new
becomes_both C D E None mid new both first second = subst (λ o. Becomes D o new) first second
becomes_both C D E (Some a) mid new both first second =
    let then : Becomes D (Some first.0) new = subst (λ o. Becomes D o new) first.1 second in
    (then.0, then.1, both a first.0 then.0 first.2 then.2)

-- two things that are so of what a store becomes are so of one
pub becomes_with : (C D : Objects → Objects → Type 0) (old new : Option Objects) → Becomes C old new → Becomes D old new
    → Becomes (λ a b. C a b × D a b) old new
becomes_with C D None new first second = first
becomes_with C D (Some a) new first second =
    let same : second.0 ≡ first.0 = let e = first.1 in let f = second.1 in cc in
    (first.0, first.1, (first.2, subst (D a) same second.2))

-- ---- removals

removes_none : (Which : ObjName → Type 0) (objects : Objects) → Removes Which objects objects
removes_none Which objects = record { others = λ name not. refl; removed = λ name. inl refl }

removes_more : (Which : ObjName → Type 0) (a b c : Objects) → Removes Which a b → Removes Which b c → Removes Which a c
removes_more Which a b c first second = record {
  others = λ name not. second.others name not ∙ first.others name not;
  removed = λ name.
      elim (second.removed name) [
        | inl same ↦ elim (first.removed name) [ inl was ↦ inl (same ∙ was) | inr gone ↦ inr (same ∙ gone) ]
        | inr gone ↦ inr gone
      ];
}

removes_such : (Which Those : ObjName → Type 0) (a b : Objects) → ((name : ObjName) → Which name → Those name) → Removes Which a b
    → Removes Those a b
removes_such Which Those a b such is = record {
  others = λ name not. is.others name (λ which. not (such name which));
  removed = is.removed;
}

-- what is gone stays so
stays_gone : (Which : ObjName → Type 0) (a b : Objects) (name : ObjName) → Removes Which a b → found a name ≡ None
    → found b name ≡ None
stays_gone Which a b name is gone = elim (is.removed name) [ inl same ↦ same ∙ gone | inr now ↦ now ]

-- ---- the names one after the other

-- one more
pub first_more : (names : List ObjName) (number index : ℕ) (name : ObjName) (a b c : Objects) → index < length names
    → slice_index_or names index name ≡ name
    → IsPast number name → RemovesFirst names number index a b → Removes (λ other. other ≡ name) b c → IsRemoved name b c
    → RemovesFirst names number (index + 1) a c
first_more names number index name a b c inside at past first removes removed =
    let such : (other : ObjName) → other ≡ name → IsListedPast names number other =
    λ other is. subst (IsListedPast names number) (sym is) ((index, inside, at), past) in
    let more = removes_such (λ other. other ≡ name) (IsListedPast names number) b c such removes in
    record {
      removes = removes_more (IsListedPast names number) a b c first.removes more;
      gone = λ k other below within there is_past.
          elim (cases_lt k index) [
            | inl low ↦ stays_gone (λ one. one ≡ name) b c other removes (first.gone k other low within there is_past)
            | inr from ↦
                let same : k ≡ index = omega (arith, below, from) in
                let one : name ≡ other =
                sym at ∙ get_or_default names index name other inside
                ∙ sym (subst (λ i. other ≡ slice_index_or names i other) same (sym there)) in
                subst (λ n. found c n ≡ None) one removed.absent
          ];
    }

-- one that is not past the number is passed over
pub first_skip : (names : List ObjName) (number index : ℕ) (name : ObjName) (a b : Objects) → index < length names
    → slice_index_or names index name ≡ name
    → (IsPast number name → ⊥) → RemovesFirst names number index a b → RemovesFirst names number (index + 1) a b
first_skip names number index name a b inside at not first = record {
  removes = first.removes;
  gone = λ k other below within there is_past.
      elim (cases_lt k index) [
        | inl low ↦ first.gone k other low within there is_past
        | inr from ↦
            let same : k ≡ index = omega (arith, below, from) in
            let one : name ≡ other =
            sym at ∙ get_or_default names index name other inside
            ∙ sym (subst (λ i. other ≡ slice_index_or names i other) same (sym there)) in
            absurd (not (subst (IsPast number) (sym one) is_past))
      ];
}

-- one that may have been removed, or not
pub some_more : (names : List ObjName) (number index : ℕ) (name : ObjName) (a b c : Objects) → index < length names
    → slice_index_or names index name ≡ name
    → IsPast number name → RemovesFirst names number index a b → Removes (λ other. other ≡ name) b c
    → Removes (IsListedPast names number) a c
some_more names number index name a b c inside at past first removes =
    let such : (other : ObjName) → other ≡ name → IsListedPast names number other =
    λ other is. subst (IsListedPast names number) (sym is) ((index, inside, at), past) in
    removes_more (IsListedPast names number) a b c first.removes (removes_such (λ other. other ≡ name) (IsListedPast names number)
    b c such removes)

-- ---- the objects of a volume

of_volume : (uuid : List ℕ) (names : List ObjName) (number : ℕ) → AreNamesOf uuid names → (name : ObjName)
    → IsListedPast names number name
    → IsPastOf uuid number name
of_volume uuid names number are name listed = ((are.each name listed.0).1, listed.1)

pub some_removed : (uuid : List ℕ) (names : List ObjName) (number : ℕ) (old new : Option Objects) → AreNamesOf uuid names
    → Becomes (Removes (IsListedPast names number)) old new → Becomes (Removes (IsPastOf uuid number)) old new
some_removed uuid names number None new are is = is
some_removed uuid names number (Some a) new are is =
    (is.0, is.1, removes_such (IsListedPast names number) (IsPastOf uuid number) a is.0 (of_volume uuid names number are) is.2)

-- For the proofs of callers: what a removal leaves, however it ends, where nothing else changed.
pub may_remove : (Tells : Type 0) (volume : Expected) (number : ℕ) (old new : Option Objects)
    → (Tells → IfSome old (λ objects. IsLastLanded volume objects number))
    → Becomes (Removes (IsPastOf volume.uuid number)) old new
    → Becomes (MayRemovePast Tells volume) old new
may_remove Tells volume number None new last is = is
may_remove Tells volume number (Some a) new last is = (is.0, is.1, inr (number, last, is.2))

-- where all are removed that are listed, none is past the number
none_past : (uuid : List ℕ) (names : List ObjName) (number : ℕ) (a b : Objects) → AreNamesOf uuid names → Lists uuid a names
    → RemovesFirst names number (length names) a b
    → RemovesAllPast uuid number a b
none_past uuid names number a b are listed first = record {
  removes = removes_such (IsListedPast names number) (IsPastOf uuid number) a b (of_volume uuid names number are) first.removes;
  gone = λ name is past. by_found name is past (found a name) refl;
}
  where
    by_found : (name : ObjName) → IsName name → IsPastOf uuid number name → (was : Option (List ℕ)) → found a name ≡ was
        → found b name ≡ None
    by_found name is past None was = stays_gone (IsListedPast names number) a b name first.removes was
    by_found name is past (Some bytes) was =
        let at = listed.complete name is past.0 (subst (λ o. IsSome o) (sym was) (search rules)) in
        first.gone at.0 name at.1 at.1 at.2 past.1

pub all_removed : (uuid : List ℕ) (names : List ObjName) (number : ℕ) (old new : Option Objects) → AreNamesOf uuid names
    → IfSome old (λ objects. Lists uuid objects names)
    → Becomes (RemovesFirst names number (length names)) old new → Becomes (RemovesAllPast uuid number) old new
all_removed uuid names number None new are listed is = is
all_removed uuid names number (Some a) new are listed is = (is.0, is.1, none_past uuid names number a is.0 are listed is.2)
