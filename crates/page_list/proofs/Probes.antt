-- What a call of a test says of the list that it was called at.
use Rattle.std.proofs.Common.{ℕ, ◌<◌, ◌≡◌, Bool, Some, List, [], ◌∷◌, length, get_or, sym, ap, ◌∙◌}
use Rattle.std.specs.List.{slice_get}
use Rattle.std.proofs.lemmas.List.{get_or_read}
use Rattle.page_list.specs.Pages.{passes_at_start}

pub probed : {X : Type 0} (xs : List X) (i at : ℕ) (x d : X) (p : X → Bool) (b : Bool) → i ≡ at → at < length xs
    → x ≡ get_or xs at x → p x ≡ b
    → p (get_or xs i d) ≡ b
probed xs i at x d p b is inside read answer =
    ap (λ j. p (get_or xs j d)) is ∙ sym (ap p (get_or_read xs at x inside read d)) ∙ answer

pub first_passes : {T : Type 0} (p : T → Bool) (page : List T) (item : T) → Some item ≡ slice_get page 0
    → p item ≡ passes_at_start p page
first_passes p [] item is = absurd (cc)
first_passes p (x ∷ page) item is = let same : item ≡ x = cc in ap p same
