-- A file whose name goes on after the spelling of an object's has a temporary name.
use Rattle.std.proofs.Common.{◌≡◌, ◌∙◌, sym, ap, ℕ, ◌+◌, ◌-◌, ◌≤◌, Bool, true, false, List, [], ◌++◌, Some, length, take, drop}
use Rattle.std.proofs.Common.{arith, length-drop}
use Rattle.std.specs.Bool.{then_some}
use Rattle.std.specs.Option.{IfSome, SomeIff}
use Rattle.std.specs.Prelude.{Option}
use Rattle.std.proofs.lemmas.List.{take-append-drop}
use Rattle.lsvd_names.specs.Spelling.{IsName, spelling}
use Rattle.lsvd_names.specs.declared.name.ObjName.{ObjName}
use Rattle.lsvd_objstore.specs.Directory.{IsTemporaryOf}

goes_on : (file : List ℕ) (n : ℕ) → n + 21 ≡ length file → drop n file ≡ [] → ⊥
goes_on file n h e = omega (arith, h, length-drop n file, ap (λ (l : List ℕ). length l) e)

-- the first bytes of a file's name, all but the last 21, spell a name
pub begins_with_name : (file spelled : List ℕ) (n : ℕ) (name : ObjName) → n + 21 ≡ length file → spelled ≡ take n file
    → IsName name × (spelled ≡ spelling name) → IsTemporaryOf name file
begins_with_name file spelled n name h front found = record {
  is_name = found.0;
  rest = drop n file;
  spelled = sym (take-append-drop n file) ∙ ap (λ (l : List ℕ). l ++ drop n file) (sym front ∙ found.1);
  more = goes_on file n h;
}

-- where a number is 21 less, it was at least 21
pub all_but_last : (found : Option ℕ) (count n : ℕ) → found ≡ Some n → SomeIff found (21 ≤ count) (count - 21) → n + 21 ≡ count
all_but_last found count n e h = let both = rw e at h in omega (arith, both.0, both.1)

pub if_so : (so : Bool) (name : ObjName) (P : ObjName → Type 0) → P name → IfSome (then_some so name) P
if_so true name P h = h
if_so false name P h = tt
