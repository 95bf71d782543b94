-- Two lists in strict order with the same names are one list.
use Rattle.std.proofs.Common.{◌≡◌, ◌∙◌, sym, ap, subst, refl, ℕ, zero, suc, ◌<◌, List, [], ◌∷◌, length, inl, inr, arith}
use Rattle.std.specs.Prelude.{◌⊎◌, slice_index_or}
use Rattle.std.specs.List.{AllByRecursion, Contains}
use Rattle.std.specs.List.Sorted.{IsStrictlySortedBy}
use Rattle.std.specs.declared.cmp.Ordering.TheVariants.{Less}
use Rattle.std.proofs.lemmas.Map.Keys.{sorted_head, sorted_tail}
use Rattle.lsvd_names.specs.declared.name.ObjName.{ObjName}
use Rattle.lsvd_objstore.specs.Objects.{Objects, name_cmp, Lists}
use Rattle.lsvd_objstore.specs.Laws.{HasOneList}
use Rattle.lsvd_objstore.proofs.NameOrder.{name_cmp_total}

-- `Contains` by recursion
abbrev Among : List ObjName → ObjName → Type 0
Among [] name = ⊥
Among (x ∷ xs) name = (x ≡ name) ⊎ Among xs name

among_at : (xs : List ObjName) (name : ObjName) (k : ℕ) → k < length xs → slice_index_or xs k name ≡ name → Among xs name
among_at [] name k h e = absurd (omega arith)
among_at (x ∷ xs) name zero h e = inl e
among_at (x ∷ xs) name (suc k) h e = inr (among_at xs name k (omega arith) e)

among : (xs : List ObjName) (name : ObjName) → Contains xs name → Among xs name
among xs name at = among_at xs name at.0 at.1 at.2

contains : (xs : List ObjName) (name : ObjName) → Among xs name → Contains xs name
contains [] name h = absurd h
contains (x ∷ xs) name (inl e) = (0, omega arith, e)
contains (x ∷ xs) name (inr h) = let at = contains xs name h in (suc at.0, omega arith, at.2)

-- what is among names that all have P
has : (P : ObjName → Type 0) (xs : List ObjName) (name : ObjName) → AllByRecursion P xs → Among xs name → P name
has P [] name all h = absurd h
has P (x ∷ xs) name all (inl e) = subst P e all.0
has P (x ∷ xs) name all (inr h) = has P xs name all.1 h

not_below_itself : (x : ObjName) → name_cmp x x ≡ Less → ⊥
not_below_itself x h = let back = name_cmp_total.antisymm x x in cc

not_below_both : (x y : ObjName) → name_cmp x y ≡ Less → name_cmp y x ≡ Less → ⊥
not_below_both x y h i = let back = name_cmp_total.antisymm x y in cc

same_first : (x y : ObjName) (xs ys : List ObjName)
    → AllByRecursion (λ k. name_cmp x k ≡ Less) xs → AllByRecursion (λ k. name_cmp y k ≡ Less) ys
    → Among (y ∷ ys) x → Among (x ∷ xs) y → x ≡ y
same_first x y xs ys above below (inl e) there = sym e
same_first x y xs ys above below (inr here) (inl e) = e
same_first x y xs ys above below (inr here) (inr there) =
    absurd (not_below_both x y (has (λ k. name_cmp x k ≡ Less) xs y above there) (has (λ k. name_cmp y k ≡ Less) ys x below here))

among_rest : (x y name : ObjName) (ys : List ObjName) → x ≡ y → name_cmp x name ≡ Less → Among (y ∷ ys) name → Among ys name
among_rest x y name ys e below (inl same) =
    absurd (not_below_itself x (subst (λ k. name_cmp x k ≡ Less) (sym same ∙ sym e) below))
among_rest x y name ys e below (inr h) = h

one_list : (xs ys : List ObjName) → IsStrictlySortedBy name_cmp xs → IsStrictlySortedBy name_cmp ys
    → ((name : ObjName) → Among xs name → Among ys name) → ((name : ObjName) → Among ys name → Among xs name) → xs ≡ ys
one_list [] [] p q there back = refl
one_list [] (y ∷ ys) p q there back = absurd (back y (inl refl))
one_list (x ∷ xs) [] p q there back = absurd (there x (inl refl))
one_list (x ∷ xs) (y ∷ ys) p q there back =
    let above = sorted_head name_cmp x xs p in
    let below = sorted_head name_cmp y ys q in
    let first : x ≡ y = same_first x y xs ys above below (there x (inl refl)) (back y (inl refl)) in
    let rest : xs ≡ ys =
    one_list xs ys (sorted_tail name_cmp x xs p) (sorted_tail name_cmp y ys q)
    (λ name h. among_rest x y name ys first (has (λ k. name_cmp x k ≡ Less) xs name above h) (there name (inr h)))
    (λ name h. among_rest y x name xs (sym first) (has (λ k. name_cmp y k ≡ Less) ys name below h) (back name (inr h))) in
    ap (λ k. k ∷ xs) first ∙ ap (λ ks. y ∷ ks) rest

within : (uuid : List ℕ) (objects : Objects) (names others : List ObjName)
    → Lists uuid objects names → Lists uuid objects others → (name : ObjName) → Among names name → Among others name
within uuid objects names others these those name h =
    let here = these.present name (contains names name h) in
    among others name (those.complete name here.0 here.1 here.2)

pub has_one_list : HasOneList
has_one_list uuid objects names others these those =
    one_list names others these.ascending those.ascending (within uuid objects names others these those)
    (within uuid objects others names those these)
