-- Pages with a new one at their end, which holds one item and was a free page.
use Rattle.std.proofs.Common.{ℕ, ◌-◌, ◌<◌, ◌≤◌, ◌≡◌, List, [], ◌∷◌, ◌++◌, length, sym, ◌∙◌, ap, subst, arith, refl, length-append}
use Rattle.std.proofs.lemmas.List.{map-append}
use Rattle.std.proofs.lemmas.List.Elements.{All-append, All-cons, All-nil}
use Rattle.std.proofs.lemmas.List.Sums.{sum_by-append, sum_by-cons}
use Rattle.page_list.specs.Items.{surplus_of}
use Rattle.page_list.specs.Pages.{lengths_of, AreFilled, AreKept}
use Rattle.page_list.proofs.Splits.{left_empty}

pub no_items : {X : Type 0} (xs : List X) → length xs ≡ 0 → xs ≡ []
no_items [] none = refl
no_items (x ∷ xs) none = absurd (omega (arith, none))

pub pushed_kept : {T : Type 0} (pages free left next : List (List T)) (taken page : List T) (x : T)
    (surplus room free_room next_room next_free : ℕ)
    → AreKept pages free surplus room free_room
    → free ≡ left ++ taken ∷ [] → page ≡ x ∷ taken → next ≡ pages ++ page ∷ [] → room ≤ next_room → free_room ≤ next_free
    → AreKept next left surplus next_room next_free
pushed_kept pages free left next taken page x surplus room free_room next_room next_free kept left_is is next_is rises
    free_rises =
    let F : ℕ → Type 0 = λ n. (0 < n) × (n ≤ 128) in
    let f : ℕ → ℕ = λ n. n - 64 in
    let ns = lengths_of pages in
    let gone = left_empty free left taken left_is kept.empty in
    let one : length page ≡ 1 = omega (arith, ap length is, gone.0) in
    let shown : lengths_of next ≡ lengths_of pages ++ 1 ∷ [] = ap lengths_of next_is ∙ map-append length pages (page ∷ [])
    ∙ ap (λ n. lengths_of pages ++ n ∷ []) one in
    let count = ap length next_is ∙ length-append pages (page ∷ []) in
    record {
      filled = subst AreFilled (sym shown)
          (All-append F ns (1 ∷ []) kept.filled (All-cons F 1 [] (omega arith, omega arith) (All-nil F)));
      empty = gone.1;
      surplus_is = omega (arith, kept.surplus_is, ap surplus_of shown, sum_by-append f ns (1 ∷ []), sum_by-cons f 1 []);
      few = omega (arith, kept.few, count, gone.2);
      room = omega (arith, kept.room, count, gone.2, rises);
      free_room = omega (arith, kept.free_room, count, gone.2, free_rises);
    }
