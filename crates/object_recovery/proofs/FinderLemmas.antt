-- The search for the objects before a checkpoint, name by name.
use Rattle.std.proofs.Common.{◌≡◌, ℕ, ◌+◌, ◌^◌, ◌<◌, ◌≤◌, inl, inr, Option, Some, None, List, [], ◌∷◌, ◌++◌, length, get_or, refl}
use Rattle.std.proofs.Common.{sym, ◌∙◌, ap, subst, arith}
use Rattle.std.specs.Prelude.{IfSome, ◌⊎◌}
use Rattle.std.specs.Option.{IsSome}
use Rattle.std.specs.List.{All}
use Rattle.std.proofs.lemmas.Bool.{cases_lt}
use Rattle.std.proofs.lemmas.List.{get_or_default}
use Rattle.std.proofs.lemmas.List.Elements.{All-push, All-weaker, Contains-append_left, Contains-push}
use Rattle.std.proofs.lemmas.List.Quantifiers.{all_pairs_push}
use Rattle.std.proofs.lemmas.Map.Keys.{Less-from_sorted}
use Rattle.std.specs.declared.cmp.Ordering.TheVariants.{Less}
use Rattle.lsvd_names.specs.declared.name.NameKind.TheVariants.{Object}
use Rattle.lsvd_names.specs.declared.name.ObjName.{ObjName}
use Rattle.lsvd_names.specs.Names.{numbered_name}
use Rattle.lsvd_names.specs.Spelling.{IsUuid}
use Rattle.lsvd_objstore.specs.Objects.{Objects, name_cmp, found, AreNamesOf, Lists}
use Rattle.lsvd_objstore.specs.Store.{ReceiptState, IsReceiptOf, Finds}
use Rattle.object_recovery.specs.Earlier.{EarlierObject, AreEarlier, IsStoredThere, AreAllEarlier, IsBefore, IsAmongFirst}
use Rattle.object_recovery.specs.Earlier.{HasAllOfFirst, FindsFirst}
use Rattle.object_recovery.proofs.CheckpointLemmas.{name_order, found_name}
use Rattle.object_recovery.proofs.FindLemmas.{numbered}

-- ---- one more object

earlier_push : (uuid : List ℕ) (below : ℕ) (earlier : List EarlierObject) (e : EarlierObject) → AreEarlier uuid below earlier
    → All (λ (o : EarlierObject). o.number < e.number) earlier → 1 ≤ e.number → e.number < below
    → e.receipt.name ≡ numbered_name uuid e.number
    → AreEarlier uuid below (earlier ++ e ∷ [])
earlier_push uuid below earlier e are under from_one within named = record {
  order = all_pairs_push (λ (a b : EarlierObject). a.number < b.number) earlier e are.order under;
  from_one = All-push (λ (o : EarlierObject). 1 ≤ o.number) earlier e are.from_one from_one;
  within = All-push (λ (o : EarlierObject). o.number < below) earlier e are.within within;
  named = All-push (λ (o : EarlierObject). o.receipt.name ≡ numbered_name uuid o.number) earlier e are.named named;
}

-- ---- among names

pub one_more_among : (names : List ObjName) (index : ℕ) (name other : ObjName) → index < length names
    → get_or names index name ≡ name
    → IsAmongFirst names (index + 1) other → IsAmongFirst names index other ⊎ (name ≡ other)
one_more_among names index name other inside at among =
    elim (cases_lt among.0 index) [
      | inl low ↦ inl (among.0, low, among.2, among.3)
      | inr high ↦
          let same : among.0 ≡ index = omega (arith, among.1, high) in
          inr (sym at ∙ get_or_default names index name other inside ∙ ap (λ i. get_or names i other) (sym same) ∙ among.3)
    ]

pub still_among_first : (names : List ObjName) (index : ℕ) (other : ObjName) → IsAmongFirst names index other
    → IsAmongFirst names (index + 1) other
still_among_first names index other among = (among.0, omega (arith, among.1), among.2, among.3)

module _ (uuid : List ℕ) (names : List ObjName) (names_of : AreNamesOf uuid names) (index : ℕ) (name : ObjName)
    (inside : index < length names) (at : get_or names index name ≡ name) where
  pub own_name : name.kind ≡ Object → name ≡ numbered_name uuid name.number
  own_name kind =
      numbered name kind ∙ ap (λ u. numbered_name u name.number) (names_of.each name (index, inside, at)).1

  -- those before a name have lower numbers
  lower : name.kind ≡ Object → (n : ℕ) → IsAmongFirst names index (numbered_name uuid n) → n < name.number
  lower kind n among =
      let less = Less-from_sorted name_cmp names among.0 index name names_of.ascending among.1 inside in
      let first : get_or names among.0 name ≡ numbered_name uuid n =
      get_or_default names among.0 name (numbered_name uuid n) among.2 ∙ among.3 in
      let order : name_cmp (numbered_name uuid n) (numbered_name uuid name.number) ≡ Less =
      ap (λ a. name_cmp a (numbered_name uuid name.number)) (sym first)
      ∙ ap (name_cmp (get_or names among.0 name)) (sym (at ∙ own_name kind)) ∙ less in
      name_order uuid n name.number order

  -- one of the first names is before the index, or the one there
  last_among : (n : ℕ) → IsAmongFirst names (index + 1) (numbered_name uuid n)
      → IsAmongFirst names index (numbered_name uuid n) ⊎ (name ≡ numbered_name uuid n)
  last_among n = one_more_among names index name (numbered_name uuid n) inside at

  more_among : (n : ℕ) → IsAmongFirst names index (numbered_name uuid n) → IsAmongFirst names (index + 1) (numbered_name uuid n)
  more_among n = still_among_first names index (numbered_name uuid n)

  -- a name that is skipped
  module _ (below : ℕ) (told : Option Objects) (earlier : List EarlierObject)
      (finds : FindsFirst uuid names below index told earlier) where
    still_among : All (λ (e : EarlierObject). IsAmongFirst names (index + 1) (numbered_name uuid e.number)) earlier
    still_among = All-weaker (λ (e : EarlierObject). IsAmongFirst names index (numbered_name uuid e.number))
        (λ (e : EarlierObject). IsAmongFirst names (index + 1) (numbered_name uuid e.number)) (λ e. more_among e.number)
        earlier finds.among

    pub skipped : (IsBefore below name → ⊥) → FindsFirst uuid names below (index + 1) told earlier
    skipped other = record {
      are = finds.are;
      unreached = finds.unreached;
      among = still_among;
      told = skip_told told finds.told;
    }
      where
        skip_told : (told : Option Objects) → IfSome told (HasAllOfFirst uuid names below index earlier)
            → IfSome told (HasAllOfFirst uuid names below (index + 1) earlier)
        skip_told None has = tt
        skip_told (Some objects) has = record {
          stored = has.stored;
          complete = λ n from_one under there among.
              elim (last_among n among) [
                | inl before ↦ has.complete n from_one under there before
                | inr is ↦
                    let number = ap (λ (o : ObjName). o.number) is in
                    absurd
                    (other (ap (λ (o : ObjName). o.kind) is, omega (arith, number, from_one), omega (arith, number, under)))
              ];
        }

    -- one that no object has
    pub absent : Finds name told None → FindsFirst uuid names below (index + 1) told earlier
    absent none = record {
      are = finds.are;
      unreached = finds.unreached;
      among = still_among;
      told = absent_told told none finds.told;
    }
      where
        absent_told : (told : Option Objects) → Finds name told None
            → IfSome told (HasAllOfFirst uuid names below index earlier)
            → IfSome told (HasAllOfFirst uuid names below (index + 1) earlier)
        absent_told None none has = tt
        absent_told (Some objects) none has = record {
          stored = has.stored;
          complete = λ n from_one under there among.
              elim (last_among n among) [
                | inl before ↦ has.complete n from_one under there before
                | inr is ↦
                    let gone : found objects (numbered_name uuid n) ≡ None = ap (found objects) (sym is) ∙ none in
                    absurd (subst (λ o. IsSome o → ⊥) (sym gone) (λ no. cc) there)
              ];
        }

    -- one that an object has
    pub found_one : (receipt : ReceiptState) → IsBefore below name → Finds name told (Some receipt)
        → FindsFirst uuid names below (index + 1) told
        (earlier ++ record { number = name.number; receipt = receipt; reach = 0 } ∷ [])
    found_one receipt before is =
        let e : EarlierObject = record { number = name.number; receipt = receipt; reach = 0 } in
        let own = own_name before.0 in
        record {
          are =
              earlier_push uuid below earlier e finds.are
              (All-weaker (λ (o : EarlierObject). IsAmongFirst names index (numbered_name uuid o.number))
              (λ (o : EarlierObject). o.number < name.number) (λ o. lower before.0 o.number) earlier finds.among)
              before.1 before.2 (found_name name told receipt is ∙ own);
          unreached = All-push (λ (o : EarlierObject). o.reach ≡ 0) earlier e finds.unreached refl;
          among =
              All-push (λ (o : EarlierObject). IsAmongFirst names (index + 1) (numbered_name uuid o.number)) earlier e still_among
              (index, omega arith, inside, get_or_default names index (numbered_name uuid name.number) name inside ∙ at ∙ own);
          told = found_told told is finds.told;
        }
      where
        found_told : (told : Option Objects) → Finds name told (Some receipt)
            → IfSome told (HasAllOfFirst uuid names below index earlier)
            → IfSome told (HasAllOfFirst uuid names below (index + 1)
            (earlier ++ record { number = name.number; receipt = receipt; reach = 0 } ∷ []))
        found_told None is has = tt
        found_told (Some objects) is has =
            let e : EarlierObject = record { number = name.number; receipt = receipt; reach = 0 } in
            let own = own_name before.0 in
            let stored : IsStoredThere uuid objects e =
            (is.0, ap (found objects) (sym own) ∙ is.1, subst (λ n. IsReceiptOf n is.0 receipt) own is.2) in
            record {
              stored = All-push (IsStoredThere uuid objects) earlier e has.stored stored;
              complete = λ n from_one under there among.
                  elim (last_among n among) [
                    | inl earlier_name ↦
                        let known = has.complete n from_one under there earlier_name in
                        (known.0, Contains-append_left earlier (e ∷ []) known.0 known.1, known.2)
                    | inr last ↦ (e, Contains-push earlier e, ap (λ (o : ObjName). o.number) last)
                  ];
            }

-- where all names were searched for, all objects were found
pub found_all : (uuid : List ℕ) (names : List ObjName) (below : ℕ) (told : Option Objects) (earlier : List EarlierObject)
    → IsUuid uuid → below ≤ 2 ^ 64 → FindsFirst uuid names below (length names) told earlier
    → IfSome told (λ objects. Lists uuid objects names → AreAllEarlier uuid objects below earlier)
found_all uuid names below None earlier is_uuid wide finds = tt
found_all uuid names below (Some objects) earlier is_uuid wide finds = λ listed. record {
  stored = finds.told.stored;
  complete = λ n from_one under there.
      let at = listed.complete (numbered_name uuid n) (record { uuid = is_uuid; number = tt; fits = omega (arith, under, wide) })
      refl there in
      finds.told.complete n from_one under there (at.0, at.1, at.1, at.2);
}
