-- The objects of a directory.
use Rattle.std.proofs.Common.{◌≡◌, ◌∙◌, sym, ap, refl, ℕ, Bool, true, false, cond, not, List, [], ◌∷◌, Some, None}
use Rattle.std.specs.Prelude.{Option, IsSome, is_some, option_map, option_and_then, filter_map, slice_get}
use Rattle.std.specs.List.{cons_option}
use Rattle.std.specs.Ordering.{is_eq}
use Rattle.std.specs.Str.{bytes_eq}
use Rattle.std.specs.Cmp.{eq_by_cmp_equiv}
use Rattle.std.proofs.lemmas.Map.Views.{tells_apart}
use Rattle.std.proofs.lemmas.Slice.Eq.{bytes_eq-Decides}
use Rattle.lsvd_names.specs.Spelling.{IsName, spelling}
use Rattle.lsvd_names.specs.declared.name.ObjName.{ObjName}
use Rattle.lsvd_names.proofs.Names.{one_spelling, no_prefix}
use Rattle.lsvd_files.specs.Directory.{FileState, DirectoryState, Names, leads, held}
use Rattle.lsvd_files.specs.Calls.{without_name}
use Rattle.lsvd_files.specs.Kept.{ChangesOnly}
use Rattle.lsvd_objstore.specs.Objects.{Objects, found, name_cmp, IsPut, IsRemoved}
use Rattle.lsvd_objstore.specs.Spelled.{name_spelled}
use Rattle.lsvd_objstore.specs.Directory.{object_at, objects_of, IsTemporaryOf}
use Rattle.lsvd_objstore.proofs.NameOrder.{name_cmp_exact, name_cmp_total, not_at_other}
use Rattle.lsvd_objstore.proofs.Spelled.{spelled_is, spelled_gives, spells_none}

at_itself : (name : ObjName) → is_eq (name_cmp name name) ≡ true
at_itself name = (eq_by_cmp_equiv name_cmp_total).refl name

none_is_none : {name : ObjName} → ◌≡◌ {A = Option ObjName} None (Some name) → ⊥
none_is_none e = cc

only_one : {some other : ObjName} → ◌≡◌ {A = Option ObjName} (Some some) (Some other) → some ≡ other
only_one e = cc

true_is_not_false : {test : Bool} → test ≡ true → test ≡ false → ⊥
true_is_not_false e f = cc

told : (some other : List ℕ) → some ≡ other → bytes_eq some other ≡ false → ⊥
told some other same e = true_is_not_false ((bytes_eq-Decides some other).1 same) e

unequal : (text : List ℕ) (first name : ObjName) → bytes_eq text (spelling name) ≡ false → text ≡ spelling first
    → first ≡ name → ⊥
unequal text first name e spelled one = told text (spelling name) (spelled ∙ ap spelling one) e

-- the bytes of the file under a name
abbrev pub bytes_under : DirectoryState → List ℕ → Option (List ℕ)
bytes_under directory name = option_map (λ (file : FileState). file.bytes) (held directory name)

-- the object of a file, if there is one
abbrev object_with : ObjName → Option FileState → Option (ObjName × List ℕ)
object_with name file = option_map (λ (it : FileState). (name, it.bytes)) file

-- what is found of objects before which one more stands
passed_over : (file : Option FileState) (first name : ObjName) (rest : Objects) → (first ≡ name → ⊥)
    → found (cons_option (object_with first file) rest) name ≡ found rest name
passed_over None first name rest differ = refl
passed_over (Some it) first name rest differ =
    ap (λ t. cond t (Some it.bytes) (found rest name)) (not_at_other name first differ)

none_later : (later : Bool) (found_later : Option (List ℕ)) → found_later ≡ cond later None None → found_later ≡ None
none_later true found_later e = e
none_later false found_later e = e

found_first : (file : Option FileState) (name : ObjName) (rest : Objects) (later : Bool)
    → found rest name ≡ cond later (option_map (λ (it : FileState). it.bytes) file) None
    → found (cons_option (object_with name file) rest) name ≡ option_map (λ (it : FileState). it.bytes) file
found_first None name rest later e = none_later later (found rest name) e
found_first (Some it) name rest later e = ap (λ t. cond t (Some it.bytes) (found rest name)) (at_itself name)

-- what is found where an entry more stands first
found_step : (spelled : Option ObjName) (test : Bool) (to : Option ℕ) (entry : List ℕ × ℕ) (directory : DirectoryState)
    (name : ObjName) (rest : Objects) → name_spelled entry.0 ≡ spelled → bytes_eq entry.0 (spelling name) ≡ test → IsName name
    → found rest name ≡ cond (is_some to) (bytes_under directory (spelling name)) None
    → found (cons_option (option_and_then (λ it. object_with it (held directory entry.0)) spelled) rest) name
    ≡ cond (is_some (cond test (Some entry.1) to)) (bytes_under directory (spelling name)) None
found_step None true to entry directory name rest s e is h =
    let same = (bytes_eq-Decides entry.0 (spelling name)).0 e in
    let spells : name_spelled entry.0 ≡ Some name = ap name_spelled same ∙ spelled_gives name is in
    absurd (none_is_none (sym s ∙ spells))
found_step None false to entry directory name rest s e is h = h
found_step (Some first) true to entry directory name rest s e is h =
    let same = (bytes_eq-Decides entry.0 (spelling name)).0 e in
    let spells : name_spelled entry.0 ≡ Some name = ap name_spelled same ∙ spelled_gives name is in
    let one : first ≡ name = only_one (sym s ∙ spells) in
    ap (λ (it : ObjName). found (cons_option (object_with it (held directory entry.0)) rest) name) one
    ∙ ap (λ (text : List ℕ). found (cons_option (object_with name (held directory text)) rest) name) same
    ∙ found_first (held directory (spelling name)) name rest (is_some to) h
found_step (Some first) false to entry directory name rest s e is h =
    let spells = spelled_is entry.0 first s in
    passed_over (held directory entry.0) first name rest (λ one. unequal entry.0 first name e spells.1 one) ∙ h

found_among : (directory : DirectoryState) (names : Names) (name : ObjName) → IsName name
    → found (filter_map (object_at directory) names) name
    ≡ cond (is_some (leads names (spelling name))) (bytes_under directory (spelling name)) None
found_among directory [] name is = refl
found_among directory (entry ∷ names) name is =
    found_step (name_spelled entry.0) (bytes_eq entry.0 (spelling name)) (leads names (spelling name)) entry directory name
    (filter_map (object_at directory) names) refl refl is (found_among directory names name is)

some_or_none : (to : Option ℕ) (f : ℕ → Option FileState)
    → cond (is_some to) (option_map (λ (it : FileState). it.bytes) (option_and_then f to)) None
    ≡ option_map (λ (it : FileState). it.bytes) (option_and_then f to)
some_or_none None f = refl
some_or_none (Some number) f = refl

-- under a name that spells an object's stands its file
pub found-objects_of : (directory : DirectoryState) (name : ObjName) → IsName name
    → found (objects_of directory) name ≡ bytes_under directory (spelling name)
found-objects_of directory name is =
    found_among directory directory.names name is
    ∙ some_or_none (leads directory.names (spelling name)) (λ file. slice_get directory.files file)

-- what is found has a name
named_first : (test : Bool) (first name : ObjName) (bytes : List ℕ) (later : Option (List ℕ)) → (test ≡ true → name ≡ first)
    → IsName first → (IsSome later → IsName name) → IsSome (cond test (Some bytes) later) → IsName name
named_first true first name bytes later same is rest h = rw (same refl) is
named_first false first name bytes later same is rest h = rest h

named_with : (file : Option FileState) (first name : ObjName) (rest : Objects) → IsName first
    → (IsSome (found rest name) → IsName name) → IsSome (found (cons_option (object_with first file) rest) name) → IsName name
named_with None first name rest is later h = later h
named_with (Some it) first name rest is later h =
    named_first (is_eq (name_cmp name first)) first name it.bytes (found rest name) (tells_apart name_cmp_exact name first) is
    later h

named_step : (spelled : Option ObjName) (entry : List ℕ × ℕ) (directory : DirectoryState) (name : ObjName) (rest : Objects)
    → name_spelled entry.0 ≡ spelled → (IsSome (found rest name) → IsName name)
    → IsSome (found (cons_option (option_and_then (λ it. object_with it (held directory entry.0)) spelled) rest) name)
    → IsName name
named_step None entry directory name rest s later h = later h
named_step (Some first) entry directory name rest s later h =
    named_with (held directory entry.0) first name rest (spelled_is entry.0 first s).0 later h

found_named : (directory : DirectoryState) (names : Names) (name : ObjName)
    → IsSome (found (filter_map (object_at directory) names) name) → IsName name
found_named directory [] name h = cc
found_named directory (entry ∷ names) name h =
    named_step (name_spelled entry.0) entry directory name (filter_map (object_at directory) names) refl
    (found_named directory names name) h

same_if : (some other : Option (List ℕ)) → (IsSome some → some ≡ other) → (IsSome other → some ≡ other) → some ≡ other
same_if None None one two = refl
same_if None (Some bytes) one two = two (cc)
same_if (Some bytes) other one two = one (cc)

-- where a name has the same file as before, the same object is found
pub same_found : (old new : DirectoryState) (name : ObjName)
    → (IsName name → held new (spelling name) ≡ held old (spelling name))
    → found (objects_of new) name ≡ found (objects_of old) name
same_found old new name same =
    let alike : IsName name → found (objects_of new) name ≡ found (objects_of old) name =
    λ is. found-objects_of new name is
    ∙ ap (option_map (λ (it : FileState). it.bytes)) (same is)
    ∙ sym (found-objects_of old name is) in
    same_if (found (objects_of new) name) (found (objects_of old) name) (λ h. alike (found_named new new.names name h))
    (λ h. alike (found_named old old.names name h))

-- a put, and a removal
pub is_put_of : (temporary : List ℕ) (name : ObjName) (bytes : List ℕ) (file : FileState) (old new : DirectoryState) → IsName name
    → name_spelled temporary ≡ None → held new (spelling name) ≡ Some file → file.bytes ≡ bytes
    → ((other : List ℕ) → (other ≡ temporary → ⊥) → (other ≡ spelling name → ⊥) → held new other ≡ held old other)
    → IsPut name bytes (objects_of old) (objects_of new)
is_put_of temporary name bytes file old new is scratch now whole others = record {
  put = found-objects_of new name is ∙ ap (option_map (λ (it : FileState). it.bytes)) now ∙ ap Some whole;
  others = λ other differ. same_found old new other
      (λ is_other. others (spelling other) (λ e. absurd (none_is_none (sym scratch ∙ ap name_spelled (sym e)
      ∙ spelled_gives other is_other))) (λ e. differ (one_spelling other name is_other is e)));
}

pub is_removed_of : (name : ObjName) (old new : DirectoryState) → IsName name → held new (spelling name) ≡ None
    → ((other : List ℕ) → (other ≡ spelling name → ⊥) → held new other ≡ held old other)
    → IsRemoved name (objects_of old) (objects_of new)
is_removed_of name old new is now others = record {
  absent = found-objects_of new name is ∙ ap (option_map (λ (it : FileState). it.bytes)) now;
  others = λ other differ. same_found old new other
      (λ is_other. others (spelling other) (λ e. differ (one_spelling other name is_other is e)));
}

-- objects are the same where only a name changed that spells none
no_object : (directory : DirectoryState) (entry : List ℕ × ℕ) → name_spelled entry.0 ≡ None → object_at directory entry ≡ None
no_object directory entry e =
    ap (option_and_then (λ name. option_map (λ (file : FileState). (name, file.bytes)) (held directory entry.0))) e

kept_or_dropped : (test : Bool) (directory : DirectoryState) (name : List ℕ) (entry : List ℕ × ℕ) (rest others : Names)
    → bytes_eq entry.0 name ≡ test → name_spelled name ≡ None
    → filter_map (object_at directory) rest ≡ filter_map (object_at directory) others
    → filter_map (object_at directory) (cond (not test) (entry ∷ rest) rest) ≡ filter_map (object_at directory) (entry ∷ others)
kept_or_dropped true directory name entry rest others e none h =
    let same = (bytes_eq-Decides entry.0 name).0 e in
    h ∙ sym (ap (λ it. cons_option it (filter_map (object_at directory) others))
    (no_object directory entry (ap name_spelled same ∙ none)))
kept_or_dropped false directory name entry rest others e none h = ap (cons_option (object_at directory entry)) h

objects_without : (directory : DirectoryState) (name : List ℕ) (names : Names) → name_spelled name ≡ None
    → filter_map (object_at directory) (without_name name names) ≡ filter_map (object_at directory) names
objects_without directory name [] none = refl
objects_without directory name (entry ∷ names) none =
    kept_or_dropped (bytes_eq entry.0 name) directory name entry (without_name name names) names refl none
    (objects_without directory name names none)

same_object : (test : Bool) (old new : DirectoryState) (name : List ℕ) (entry : List ℕ × ℕ) → bytes_eq entry.0 name ≡ test
    → name_spelled name ≡ None → ChangesOnly name old new → object_at new entry ≡ object_at old entry
same_object true old new name entry e none only =
    let same = (bytes_eq-Decides entry.0 name).0 e in
    no_object new entry (ap name_spelled same ∙ none) ∙ sym (no_object old entry (ap name_spelled same ∙ none))
same_object false old new name entry e none only =
    ap (λ (file : Option FileState).
    option_and_then (λ it. option_map (λ (it_is : FileState). (it, it_is.bytes)) file) (name_spelled entry.0))
    ((only.others entry.0 (λ same. told entry.0 name same e)).now)

same_objects : (old new : DirectoryState) (name : List ℕ) (names : Names) → name_spelled name ≡ None → ChangesOnly name old new
    → filter_map (object_at new) names ≡ filter_map (object_at old) names
same_objects old new name [] none only = refl
same_objects old new name (entry ∷ names) none only =
    ap (λ it. cons_option it (filter_map (object_at new) names))
    (same_object (bytes_eq entry.0 name) old new name entry refl none only)
    ∙ ap (cons_option (object_at old entry)) (same_objects old new name names none only)

pub objects_kept : (name : List ℕ) (old new : DirectoryState) → name_spelled name ≡ None → ChangesOnly name old new
    → objects_of new ≡ objects_of old
objects_kept name old new none only =
    sym (objects_without new name new.names none)
    ∙ ap (filter_map (object_at new)) only.names
    ∙ same_objects old new name (without_name name old.names) none only
    ∙ objects_without old name old.names none

-- a temporary name spells no object's
pub spells_no_object : (name : ObjName) (file : List ℕ) → IsTemporaryOf name file → name_spelled file ≡ None
spells_no_object name file is =
    spells_none file (λ other is_other e. is.more (no_prefix name other is.rest (sym e ∙ is.spelled)))
