-- The names of objects among the names of files.
use Rattle.std.proofs.Common.{◌≡◌, ◌∙◌, sym, ap, subst, refl, ℕ, zero, suc, ◌+◌, ◌<◌, ◌≤◌, Bool, true, false, List, [], ◌∷◌, ◌++◌}
use Rattle.std.proofs.Common.{length, get_or, take, Some, None, inl, inr, arith}
use Rattle.std.specs.Prelude.{◌⊎◌, Option, IsSome, Contains, ◌↔◌, option_map, slice_index_or, map, not}
use Rattle.std.specs.List.{All}
use Rattle.std.specs.Str.{bytes_eq}
use Rattle.std.specs.BTreeSet.{insert_key}
use Rattle.std.specs.Ordering.{match_ordering}
use Rattle.std.specs.declared.cmp.Ordering.{Ordering}
use Rattle.std.specs.declared.cmp.Ordering.TheVariants.{Less, Equal, Greater}
use Rattle.std.proofs.lemmas.List.{take_more, take_all, get_or-map, length-map}
use Rattle.std.proofs.lemmas.Slice.Eq.{bytes_eq-Decides}
use Rattle.std.proofs.lemmas.Map.Views.{All-insert_key}
use Rattle.std.proofs.lemmas.List.Elements.{All-contains, Contains-push_cases}
use Rattle.lsvd_names.specs.Spelling.{IsName, spelling}
use Rattle.lsvd_names.specs.declared.name.ObjName.{ObjName}
use Rattle.lsvd_names.proofs.Names.{one_spelling}
use Rattle.lsvd_files.specs.Directory.{FileState, DirectoryState, held}
use Rattle.lsvd_files.specs.Calls.{ByPath, AreNames}
use Rattle.lsvd_files.specs.Kept.{Stays}
use Rattle.lsvd_objstore.specs.Objects.{found, name_cmp, Lists, AreNamesOf}
use Rattle.lsvd_objstore.specs.Directory.{objects_of, IsSettled}
use Rattle.lsvd_objstore.proofs.NameOrder.{name_cmp_exact}
use Rattle.lsvd_objstore.proofs.Filed.{found-objects_of}
use Rattle.lsvd_objstore.proofs.Texts.{spelling_is_text}

not_both : {test : Bool} → test ≡ true → test ≡ false → ⊥
not_both e f = cc

not_so : false ≡ true → ⊥
not_so e = cc

-- a text that spells a name of another volume spells none of this one
pub of_other_volume : (uuid file : List ℕ) (found : ObjName) → IsName found × (file ≡ spelling found)
    → not (bytes_eq found.uuid uuid) ≡ true
    → (name : ObjName) → IsName name → name.uuid ≡ uuid → file ≡ spelling name → ⊥
of_other_volume uuid file found is differs name named e spelled =
    let same : found ≡ name = one_spelling found name is.0 named (sym is.1 ∙ spelled) in
    let equal : bytes_eq found.uuid uuid ≡ true = (bytes_eq-Decides found.uuid uuid).1 (ap (λ (n : ObjName). n.uuid) same ∙ e) in
    not_so (rw equal at differs)

-- a set of names with one more
contains_later : (first name : ObjName) (names : List ObjName) → Contains names name → Contains (first ∷ names) name
contains_later first name names h = (suc h.0, omega (arith, h.1), h.2)

contains_first : (name : ObjName) (names : List ObjName) → Contains (name ∷ names) name
contains_first name names = (0, omega arith, refl)

inserted_at : (order : Ordering) (name first : ObjName) (names more : List ObjName) → (order ≡ Equal → name ≡ first)
    → Contains more name → Contains (match_ordering order (name ∷ first ∷ names) (first ∷ names) (first ∷ more)) name
inserted_at Less name first names more same h = contains_first name (first ∷ names)
inserted_at Equal name first names more same h =
    subst (λ (it : ObjName). Contains (first ∷ names) it) (sym (same refl)) (contains_first first names)
inserted_at Greater name first names more same h = contains_later first name more h

pub insert_key_has : (name : ObjName) (names : List ObjName) → Contains (insert_key name_cmp names name) name
insert_key_has name [] = contains_first name []
insert_key_has name (first ∷ names) =
    inserted_at (name_cmp name first) name first names (insert_key name_cmp names name) (name_cmp_exact name first)
    (insert_key_has name names)

kept_at : (order : Ordering) (name first other : ObjName) (names more : List ObjName)
    → (Contains names other → Contains more other) → Contains (first ∷ names) other
    → Contains (match_ordering order (name ∷ first ∷ names) (first ∷ names) (first ∷ more)) other
kept_at Less name first other names more later h = contains_later name other (first ∷ names) h
kept_at Equal name first other names more later h = h
kept_at Greater name first other names more later h = in_rest h where
  in_rest : Contains (first ∷ names) other → Contains (first ∷ more) other
  in_rest (k, below, at) = elim k as (λ j. j < length (first ∷ names) → slice_index_or (first ∷ names) j other ≡ other
      → Contains (first ∷ more) other) [
        | zero ↦ λ _ e. (0, omega arith, e)
        | suc j ↦ λ less e. contains_later first other more (later (j, omega (arith, less), e))
      ] below at

pub insert_key_keeps : (name other : ObjName) (names : List ObjName) → Contains names other
    → Contains (insert_key name_cmp names name) other
insert_key_keeps name other [] h = absurd (omega (arith, h.1))
insert_key_keeps name other (first ∷ names) h =
    kept_at (name_cmp name first) name first other names (insert_key name_cmp names name) (insert_key_keeps name other names) h

-- the names so far: those that the texts so far spell
pub record AreGathered (uuid : List ℕ) (texts : List (List ℕ)) (count : ℕ) (names : List ObjName) : Type 0 where
  pub present : All (λ (name : ObjName). IsName name × (name.uuid ≡ uuid) × Contains texts (spelling name)) names
  pub complete : (name : ObjName) → IsName name → name.uuid ≡ uuid → Contains (take count texts) (spelling name)
      → Contains names name

among_more : (texts : List (List ℕ)) (count : ℕ) (text other : List ℕ) → count < length texts → get_or texts count text ≡ text
    → Contains (take (count + 1) texts) other → Contains (take count texts) other ⊎ (text ≡ other)
among_more texts count text other less at h =
    Contains-push_cases (take count texts) text other
    (subst (λ (it : List (List ℕ)). Contains it other)
    (take_more texts count text less ∙ ap (λ (last : List ℕ). take count texts ++ last ∷ []) at) h)

-- the text of an item that a loop is at
pub text_at : {X : Type 0} (text_of : X → List ℕ) (items : List X) (count : ℕ) (item : X) → count < length items
    → item ≡ slice_index_or items count item
    → (count < length (map text_of items)) × (get_or (map text_of items) count (text_of item) ≡ text_of item)
text_at text_of items count item less e =
    (omega (arith, length-map items text_of), get_or-map text_of items count item (text_of item) less ∙ ap text_of (sym e))

-- a text that spells a name of the volume
pub gathered_more : (uuid text : List ℕ) (texts : List (List ℕ)) (count : ℕ) (name : ObjName) (names : List ObjName)
    → count < length texts → get_or texts count text ≡ text → IsName name → name.uuid ≡ uuid → text ≡ spelling name
    → AreGathered uuid texts count names → AreGathered uuid texts (count + 1) (insert_key name_cmp names name)
gathered_more uuid text texts count name names less at is of_volume spelled so_far = record {
  present = All-insert_key name_cmp name (λ (it : ObjName). IsName it × (it.uuid ≡ uuid) × Contains texts (spelling it)) names
      so_far.present
      (is, of_volume, subst (λ (it : List ℕ). Contains texts it) spelled (count, less, at));
  complete = λ other is_other e h. which other is_other e (among_more texts count text (spelling other) less at h);
} where
  which : (other : ObjName) → IsName other → other.uuid ≡ uuid
      → Contains (take count texts) (spelling other) ⊎ (text ≡ spelling other)
      → Contains (insert_key name_cmp names name) other
  which other is_other e (inl h) = insert_key_keeps name other names (so_far.complete other is_other e h)
  which other is_other e (inr same) =
      subst (λ (it : ObjName). Contains (insert_key name_cmp names name) it)
      (one_spelling name other is is_other (sym spelled ∙ same)) (insert_key_has name names)

-- and one that spells none
pub gathered_pass : (uuid text : List ℕ) (texts : List (List ℕ)) (count : ℕ) (names : List ObjName)
    → count < length texts → get_or texts count text ≡ text
    → ((name : ObjName) → IsName name → name.uuid ≡ uuid → text ≡ spelling name → ⊥)
    → AreGathered uuid texts count names → AreGathered uuid texts (count + 1) names
gathered_pass uuid text texts count names less at none so_far = record {
  present = so_far.present;
  complete = λ other is_other e h. which other is_other e (among_more texts count text (spelling other) less at h);
} where
  which : (other : ObjName) → IsName other → other.uuid ≡ uuid
      → Contains (take count texts) (spelling other) ⊎ (text ≡ spelling other) → Contains names other
  which other is_other e (inl h) = so_far.complete other is_other e h
  which other is_other e (inr same) = absurd (none other is_other e same)

-- all names, once all texts were read
pub gathered_same : {X : Type 0} (uuid : List ℕ) (text_of : X → List ℕ) (items : List X) (files : List (List ℕ)) (count : ℕ)
    (names listed : List ObjName) → map text_of items ≡ files → listed ≡ names → length items ≤ count
    → AreGathered uuid (map text_of items) count names → (name : ObjName) → IsName name → name.uuid ≡ uuid
    → (Contains listed name ↔ Contains files (spelling name))
gathered_same uuid text_of items files count names listed all_files all_names all so_far name is e =
    subst (λ (it : List (List ℕ)). Contains listed name ↔ Contains it (spelling name)) all_files
    (subst (λ (it : List ObjName). Contains it name ↔ Contains texts (spelling name)) (sym all_names) (there, back)) where
      texts : List (List ℕ)
      texts = map text_of items

      there : Contains names name → Contains texts (spelling name)
      there h = (All-contains (λ (it : ObjName). IsName it × (it.uuid ≡ uuid) × Contains texts (spelling it)) names name
          so_far.present h).2

      back : Contains texts (spelling name) → Contains names name
      back h = so_far.complete name is e
          (subst (λ (it : List (List ℕ)). Contains it (spelling name))
          (sym (take_all count texts (omega (arith, length-map items text_of)))) h)

-- what a directory lists of the objects of a volume
some_bytes : (file : Option FileState) → IsSome file → IsSome (option_map (λ (it : FileState). it.bytes) file)
some_bytes None h = cc
some_bytes (Some it) h = refl

some_file : (file : Option FileState) → IsSome (option_map (λ (it : FileState). it.bytes) file) → IsSome file
some_file None h = cc
some_file (Some it) h = refl

pub lists_of : (uuid : List ℕ) (directory : DirectoryState) (texts : List (List ℕ)) (names : List ObjName)
    → AreNames directory texts → AreNamesOf uuid names
    → ((name : ObjName) → IsName name → name.uuid ≡ uuid → (Contains names name ↔ Contains texts (spelling name)))
    → Lists uuid (objects_of directory) names
lists_of uuid directory texts names listed are same = record {
  ascending = are.ascending;
  present = λ name h.
      let is = are.each name h in
      let there : IsSome (held directory (spelling name)) =
      All-contains (λ text. IsSome (held directory text)) texts (spelling name) listed.present ((same name is.0 is.1).0 h) in (
        is.0,
        is.1,
        subst (λ (it : Option (List ℕ)). IsSome it) (sym (found-objects_of directory name is.0))
            (some_bytes (held directory (spelling name)) there),
      );
  complete = λ name is e h.
      let there : IsSome (held directory (spelling name)) =
      some_file (held directory (spelling name))
      (subst (λ (it : Option (List ℕ)). IsSome it) (found-objects_of directory name is) h) in
      (same name is e).1 (listed.complete (spelling name) (spelling_is_text name) there);
}

-- the names that a settled directory lists, where its path leads to it
pub lists_all : (uuid : List ℕ) (texts : List (List ℕ)) (names listed : List ObjName) → listed ≡ names → AreNamesOf uuid names
    → ((name : ObjName) → IsName name → name.uuid ≡ uuid → (Contains names name ↔ Contains texts (spelling name)))
    → (a b c d : DirectoryState) → Stays a b × IsSettled b → ByPath ((c ≡ b) × AreNames b texts) b c
    → (d ≡ c) × (c.stands ≡ true) → Stays a d × IsSettled d × Lists uuid (objects_of d) listed
lists_all uuid texts names listed e are same a b c d settled (inl here) stands =
    let lists : Lists uuid (objects_of b) listed =
    subst (λ (it : List ObjName). Lists uuid (objects_of b) it) (sym e) (lists_of uuid b texts names here.1.1 are same) in
    subst (λ (it : DirectoryState). Stays a it × IsSettled it × Lists uuid (objects_of it) listed) (sym (stands.0 ∙ here.1.0))
    (settled.0, settled.1, lists)
lists_all uuid texts names listed e are same a b c d settled (inr moved) stands =
    absurd (not_both stands.1 (ap (λ (it : DirectoryState). it.stands) moved))
