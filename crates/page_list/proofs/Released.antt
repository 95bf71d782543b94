-- Whole pages that are taken out one by one, and kept empty for later.
use Rattle.std.proofs.Common.{ℕ, ◌+◌, ◌<◌, ◌≡◌, List, [], ◌∷◌, ◌++◌, length, sym, ◌∙◌, ap, arith, refl, length-append}
use Rattle.std.proofs.Common.{append_assoc, append-nil}
use Rattle.std.specs.List.{sum}
use Rattle.std.proofs.lemmas.List.{map-append}
use Rattle.std.proofs.lemmas.List.Sums.{sum_by-append}
use Rattle.page_list.specs.Pages.{items_of, lengths_of}
use Rattle.page_list.proofs.More.{one_empty_more}

-- of all pages that go, some were given so far and the rest is left; as many empty ones stand behind the old free pages
pub record AreReleased {T : Type 0} (all old given rest free : List (List T)) (old_steps steps : ℕ) : Type 0 where
  pub parts : given ++ rest ≡ all
  pub count : length free ≡ length old + length given
  pub empty : length (items_of free) ≡ length (items_of old)
  pub steps_are : steps ≡ old_steps + sum (lengths_of given)

module _ {T : Type 0} (all old : List (List T)) (old_steps : ℕ) where
  pub released_none : AreReleased all old [] all old old_steps old_steps
  released_none = record { parts = refl; count = omega arith; empty = refl; steps_are = omega arith }

  module _ (given rest free : List (List T)) (steps : ℕ) (so_far : AreReleased all old given rest free old_steps steps) where
    module _ (page : List T) (left : List (List T)) (is : rest ≡ page ∷ left) where
      pub released_room : length free < length old + length all
      released_room = omega (arith, so_far.count, ap length so_far.parts, length-append given rest, ap length is)

      pub released_more : (next : List (List T)) (cleared : List T) (next_steps : ℕ) → next ≡ free ++ cleared ∷ [] → cleared ≡ []
          → next_steps ≡ steps + length page
          → AreReleased all old (given ++ page ∷ []) left next old_steps next_steps
      released_more next cleared next_steps pushed empty counted =
          let more = one_empty_more free next cleared pushed empty in
          record {
            parts = append_assoc given (page ∷ []) left ∙ ap (λ ps. given ++ ps) (sym is) ∙ so_far.parts;
            count = omega (arith, more.0, so_far.count, length-append given (page ∷ []));
            empty = more.1 ∙ so_far.empty;
            steps_are = omega (
              arith,
              counted,
              so_far.steps_are,
              ap sum (map-append length given (page ∷ [])),
              sum_by-append (λ n. n) (lengths_of given) (length page ∷ []),
            );
          }

    -- all were given
    pub released_all : rest ≡ [] → given ≡ all
    released_all none = sym (append-nil given) ∙ ap (λ ps. given ++ ps) (sym none) ∙ so_far.parts
