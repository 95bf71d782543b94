-- What a name leads to after a change of names.
use Rattle.std.proofs.Common.{◌≡◌, ◌∙◌, sym, ap, refl, ℕ, Bool, true, false, cond, not, List, [], ◌∷◌, ◌++◌, Some, None}
use Rattle.std.specs.Prelude.{Option, Decides}
use Rattle.std.specs.Str.{bytes_eq}
use Rattle.std.proofs.lemmas.Slice.Eq.{bytes_eq-Decides}
use Rattle.lsvd_files.specs.Directory.{Names, leads}
use Rattle.lsvd_files.specs.Calls.{without_name, with_name}

false_if : {P : Type 0} (r : Bool) → Decides r P → (P → ⊥) → r ≡ false
false_if true d n = absurd (n (d.0 refl))
false_if false d n = refl

-- names that differ are told apart
pub told_apart : (a b : List ℕ) → (a ≡ b → ⊥) → bytes_eq a b ≡ false
told_apart a b differ = false_if (bytes_eq a b) (bytes_eq-Decides a b) differ

pub equal_to_itself : (a : List ℕ) → bytes_eq a a ≡ true
equal_to_itself a = (bytes_eq-Decides a a).1 refl

without_same : (b : Bool) (name : List ℕ) (entry : List ℕ × ℕ) (rest : Names) → bytes_eq entry.0 name ≡ b
    → leads rest name ≡ None → leads (cond (not b) (entry ∷ rest) rest) name ≡ None
without_same true name entry rest e h = h
without_same false name entry rest e h = ap (λ t. cond t (Some entry.1) (leads rest name)) e ∙ h

-- a name that was removed leads nowhere
pub leads-without_same : (name : List ℕ) (names : Names) → leads (without_name name names) name ≡ None
leads-without_same name [] = refl
leads-without_same name (entry ∷ names) =
    without_same (bytes_eq entry.0 name) name entry (without_name name names) refl (leads-without_same name names)

without_other : (b : Bool) (name other : List ℕ) (entry : List ℕ × ℕ) (rest names : Names) → bytes_eq entry.0 name ≡ b
    → (other ≡ name → ⊥) → leads rest other ≡ leads names other
    → leads (cond (not b) (entry ∷ rest) rest) other ≡ leads (entry ∷ names) other
without_other true name other entry rest names e differ h =
    let same = (bytes_eq-Decides entry.0 name).0 e in
    let apart = told_apart entry.0 other (λ is. differ (sym is ∙ same)) in
    h ∙ sym (ap (λ t. cond t (Some entry.1) (leads names other)) apart)
without_other false name other entry rest names e differ h = ap (cond (bytes_eq entry.0 other) (Some entry.1)) h

-- and each other one leads where it led
pub leads-without_other : (name other : List ℕ) (names : Names) → (other ≡ name → ⊥)
    → leads (without_name name names) other ≡ leads names other
leads-without_other name other [] differ = refl
leads-without_other name other (entry ∷ names) differ =
    without_other (bytes_eq entry.0 name) name other entry (without_name name names) names refl differ
    (leads-without_other name other names differ)

-- an entry at the end of names
not_first : (b : Bool) (file : ℕ) (rest : Option ℕ) → cond b (Some file) rest ≡ None → (b ≡ false) × (rest ≡ None)
not_first true file rest h = cc
not_first false file rest h = (refl, h)

pub leads_at_end : (name : List ℕ) (file : ℕ) (names : Names) → leads names name ≡ None
    → leads (names ++ (name, file) ∷ []) name ≡ Some file
leads_at_end name file [] h = ap (λ t. cond t (Some file) None) (equal_to_itself name)
leads_at_end name file (entry ∷ names) h =
    let both = not_first (bytes_eq entry.0 name) entry.1 (leads names name) h in
    ap (λ t. cond t (Some entry.1) (leads (names ++ (name, file) ∷ []) name)) both.0 ∙ leads_at_end name file names both.1

pub leads_before_end : (name other : List ℕ) (file : ℕ) (names : Names) → (other ≡ name → ⊥)
    → leads (names ++ (name, file) ∷ []) other ≡ leads names other
leads_before_end name other file [] differ =
    ap (λ t. cond t (Some file) None) (told_apart name other (λ is. differ (sym is)))
leads_before_end name other file (entry ∷ names) differ =
    ap (cond (bytes_eq entry.0 other) (Some entry.1)) (leads_before_end name other file names differ)

-- a name that was made leads to its file
pub leads-with_same : (name : List ℕ) (file : ℕ) (names : Names) → leads (with_name name file names) name ≡ Some file
leads-with_same name file names = leads_at_end name file (without_name name names) (leads-without_same name names)

pub leads-with_other : (name other : List ℕ) (file : ℕ) (names : Names) → (other ≡ name → ⊥)
    → leads (with_name name file names) other ≡ leads names other
leads-with_other name other file names differ =
    leads_before_end name other file (without_name name names) differ ∙ leads-without_other name other names differ
