-- Letters that fit, and the fates of those of writes.
use Rattle.std.proofs.Common.{◌≡◌, ℕ, Bool, true, false, List, length, map, replicate, refl, ◌∙◌, arith, ◌==◌, ◌&&◌, ◌||◌}
use Rattle.std.proofs.Common.{if◌then◌else◌}
use Rattle.std.specs.List.{list_all}
use Rattle.std.proofs.lemmas.List.{length-replicate, length-map}
use Rattle.std.proofs.lemmas.Bool.{eq-eqb}
use Rattle.std.proofs.lemmas.Grind.{common_steps}
use Rattle.lsvd_device.specs.declared.fate.Fate.TheVariants.{Kept}
use Rattle.transcript.specs.Letters.{is_dash, is_letter, fits_writes, fate_of, fates_of}

-- the word has N letters
counted_as : (word : List ℕ) (n : ℕ) (a b : Bool) → (length word == n) ≡ a → (a && b) ≡ true → length word ≡ n
counted_as word n true b is both = grind (arith, common_steps)
counted_as word n false b is both = cc

-- there are as many fates as writes
count_of : (pending : ℕ) (word : List ℕ) (dash : Bool) → (dash || (length word == pending && list_all is_letter word)) ≡ true
    → length (if dash then replicate pending Kept else map fate_of word) ≡ pending
count_of pending word true fits = length-replicate pending Kept
count_of pending word false fits = length-map word fate_of
    ∙ counted_as word pending (length word == pending) (list_all is_letter word) refl fits

pub fates_count : (pending : ℕ) (word : List ℕ) → fits_writes pending word ≡ true → length (fates_of pending word) ≡ pending
fates_count pending word fits = count_of pending word (is_dash word) fits

-- where a word is no dash and has N letters, they tell whether it fits
pub fits_by_letters : (dash all fit : Bool) (word : List ℕ) (n : ℕ) → dash ≡ false → length word ≡ n → fit ≡ all
    → fit ≡ (dash || (length word == n && all))
fits_by_letters dash all fit word n none long is =
    let same : (length word == n) ≡ true = eq-eqb (length word) n long in
    rw (none, same) is
