-- Pins that are given back one by one.
use Rattle.std.proofs.Common.{◌≡◌, ℕ, zero, suc, ◌+◌, ◌<◌, ◌==◌, Bool, true, false, ◌&&◌, Some, None, List, [], ◌∷◌, length}
use Rattle.std.proofs.Common.{get_or, drop, refl, sym, ap, ◌∙◌, arith}
use Rattle.std.specs.List.{remove, position, list_any}
use Rattle.std.proofs.lemmas.List.{at_drop_more}
use Rattle.upload_window.proofs.Places.{IsFirst, Nowhere, first_after, nowhere_after, first_place, nowhere}
use Rattle.plain_disk.specs.Reads.{unpinned, are_pinned, without_pins}

abbrev is_pin_of : (number pin : ℕ) → Bool
is_pin_of number pin = pin == number

unpinned_at : (number : ℕ) (pins : List ℕ) (i : ℕ) → IsFirst (is_pin_of number) pins i 0 → remove pins i ≡ unpinned number pins
unpinned_at number [] i at = let h = at.inside in absurd (omega arith)
unpinned_at number (pin ∷ pins) zero at = let here = at.passes in rw here refl
unpinned_at number (pin ∷ pins) (suc i) at =
    let not_here = at.first 0 (omega arith) in
    rw not_here (ap (λ rest. pin ∷ rest) (unpinned_at number pins i (first_after (is_pin_of number) pin pins i 0 at)))

any_at : (number : ℕ) (pins : List ℕ) (i : ℕ) → IsFirst (is_pin_of number) pins i 0 → list_any (is_pin_of number) pins ≡ true
any_at number [] i at = let h = at.inside in absurd (omega arith)
any_at number (pin ∷ pins) zero at = let here = at.passes in rw here refl
any_at number (pin ∷ pins) (suc i) at =
    let not_here = at.first 0 (omega arith) in
    rw not_here (any_at number pins i (first_after (is_pin_of number) pin pins i 0 at))

any_nowhere : (number : ℕ) (pins : List ℕ) → Nowhere (is_pin_of number) pins 0 → list_any (is_pin_of number) pins ≡ false
any_nowhere number [] absent = refl
any_nowhere number (pin ∷ pins) absent =
    let not_here = absent.none 0 (omega arith) in
    rw not_here (any_nowhere number pins (nowhere_after (is_pin_of number) pin pins 0 absent))

-- a number that is not among the pins
pub not_pinned : (numbers pins : List ℕ) (i : ℕ) → i < length numbers → position (λ pin. pin == get_or numbers i 0) pins ≡ None
    → are_pinned (drop i numbers) pins ≡ false
not_pinned numbers pins i inside absent =
    let number = get_or numbers i 0 in
    at_drop_more (λ rest. are_pinned rest pins) numbers i 0 inside
    ∙ ap (λ b. b && are_pinned (drop (i + 1) numbers) (unpinned number pins))
    (any_nowhere number pins (nowhere (is_pin_of number) pins 0 absent))

-- a number that is, once it is taken out
pub pinned_more : (numbers pins left : List ℕ) (i place : ℕ) → i < length numbers
    → position (λ pin. pin == get_or numbers i 0) pins ≡ Some place
    → left ≡ remove pins place → are_pinned (drop (i + 1) numbers) left ≡ are_pinned (drop i numbers) pins
pinned_more numbers pins left i place inside at taken =
    let number = get_or numbers i 0 in
    let is = first_place (is_pin_of number) pins place 0 at in
    sym (at_drop_more (λ rest. are_pinned rest pins) numbers i 0 inside
    ∙ ap (λ b. b && are_pinned (drop (i + 1) numbers) (unpinned number pins)) (any_at number pins place is)
    ∙ ap (are_pinned (drop (i + 1) numbers)) (sym (taken ∙ unpinned_at number pins place is)))

pub without_more : (numbers pins left : List ℕ) (i place : ℕ) → i < length numbers
    → position (λ pin. pin == get_or numbers i 0) pins ≡ Some place
    → left ≡ remove pins place → without_pins (drop (i + 1) numbers) left ≡ without_pins (drop i numbers) pins
without_more numbers pins left i place inside at taken =
    let number = get_or numbers i 0 in
    let is = first_place (is_pin_of number) pins place 0 at in
    sym (at_drop_more (λ rest. without_pins rest pins) numbers i 0 inside
    ∙ ap (without_pins (drop (i + 1) numbers)) (sym (taken ∙ unpinned_at number pins place is)))
