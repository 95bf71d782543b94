-- Objects are pinned one after the other, and their pins are given back.
use Rattle.std.proofs.Common.{◌≡◌, ℕ, zero, suc, ◌+◌, ◌<◌, ◌≤◌, ◌==◌, true, false, List, [], ◌∷◌, length, drop, get_or, refl, sym}
use Rattle.std.proofs.Common.{subst, arith}
use Rattle.std.specs.Prelude.{IsTrue, ◌↔◌, nat_lt}
use Rattle.std.specs.List.{All, list_all}
use Rattle.std.specs.List.Sorted.{IsStrictlyIncreasing}
use Rattle.std.proofs.lemmas.Bool.Decides.{nat_tests}
use Rattle.std.proofs.lemmas.List.{drop_all}
use Rattle.std.proofs.lemmas.List.Elements.{All-weaker}
use Rattle.std.proofs.lemmas.List.Kept.{AllPairs-from_increasing}
use Rattle.std.proofs.lemmas.List.Sums.{AllPass-from_list_all, list_all-from_AllPass}
use Rattle.object_table.specs.declared.row.ObjectRow.{ObjectRow}
use Rattle.object_table.specs.Table.{row_of}
use Rattle.object_uploads.specs.State.{UploadsState}
use Rattle.object_uploads.specs.Queue.{pins_of}
use Rattle.object_uploads.specs.Order.{IsUploads}
use Rattle.object_uploads.specs.Removal.{HasChangedRow, ChangesPinsEach}
use Rattle.object_uploads.proofs.PinsOf.{other_pins}

-- the pins on the object of a number
abbrev pub pins_on : UploadsState → (number : ℕ) → ℕ
pins_on uploads number = pins_of (row_of number uploads.queue.maps.objects.rows)

-- this holds of the pins on those of some objects that stand from an index on
abbrev pub HoldsFrom : (ℕ → Type 0) → (numbers : List ℕ) → UploadsState → (index : ℕ) → Type 0
HoldsFrom P numbers uploads index =
    (k : ℕ) → index ≤ k → k < length numbers → P (pins_on uploads (get_or numbers k 0))

module _ (change : ObjectRow → ObjectRow) (numbers : List ℕ) where
  -- it holds of the later ones while the pins of one are changed
  pub holds_later : (P : ℕ → Type 0) (index : ℕ) (old new : UploadsState)
      → ((row : ObjectRow) → (change row).number ≡ row.number) → IsStrictlyIncreasing numbers
      → HasChangedRow change (get_or numbers index 0) old new → HoldsFrom P numbers old index
      → HoldsFrom P numbers new (index + 1)
  holds_later P index old new keeps ascending changes holds k later inside =
      let below : get_or numbers index 0 < get_or numbers k 0 =
      AllPairs-from_increasing numbers ascending index k 0 (omega (arith, later)) inside in
      let differ : (get_or numbers index 0 == get_or numbers k 0) ≡ false = grind (arith, nat_tests, below) in
      subst P (sym (other_pins change (get_or numbers index 0) (get_or numbers k 0) old new keeps differ changes))
      (holds k (omega (arith, later)) inside)

-- the changes of those from an index on begin with that of the one there
changes_next : (change : ObjectRow → ObjectRow) (numbers : List ℕ) (index : ℕ) (old middle new : UploadsState)
    → index < length numbers → HasChangedRow change (get_or numbers index 0) old middle → IsUploads middle
    → ChangesPinsEach change (drop (suc index) numbers) middle new → ChangesPinsEach change (drop index numbers) old new
changes_next change [] index old middle new inside changes is rest = absurd (omega (arith, inside))
changes_next change (number ∷ numbers) zero old middle new inside changes is rest = (middle, changes, is, rest)
changes_next change (number ∷ numbers) (suc index) old middle new inside changes is rest =
    changes_next change numbers index old middle new (omega (arith, inside)) changes is rest

pub changes_from : (change : ObjectRow → ObjectRow) (numbers : List ℕ) (index : ℕ) (old middle new : UploadsState)
    → index < length numbers → HasChangedRow change (get_or numbers index 0) old middle → IsUploads middle
    → ChangesPinsEach change (drop (index + 1) numbers) middle new → ChangesPinsEach change (drop index numbers) old new
changes_from change numbers index old middle new inside changes is rest =
    let next : index + 1 ≡ suc index = omega arith in
    changes_next change numbers index old middle new inside changes is
    (subst (λ n. ChangesPinsEach change (drop n numbers) middle new) next rest)

-- and past the last there are none
pub no_changes : (change : ObjectRow → ObjectRow) (numbers : List ℕ) (index : ℕ) (uploads : UploadsState)
    → length numbers ≤ index → ChangesPinsEach change (drop index numbers) uploads uploads
no_changes change numbers index uploads past =
    subst (λ list. ChangesPinsEach change list uploads uploads) (sym (drop_all index numbers past)) refl

-- each of some objects is pinned
pub pass_where_pinned : (numbers : List ℕ) (uploads : UploadsState)
    → IsTrue (list_all (λ number. nat_lt 0 (pins_on uploads number)) numbers)
    ↔ All (λ number. 0 < pins_on uploads number) numbers
pass_where_pinned numbers uploads = (
  λ pass. All-weaker (λ number. nat_lt 0 (pins_on uploads number) ≡ true) (λ number. 0 < pins_on uploads number)
      (λ number yes. grind (arith, nat_tests)) numbers (AllPass-from_list_all (λ number. nat_lt 0 (pins_on uploads number))
      numbers pass),
  λ some. list_all-from_AllPass (λ number. nat_lt 0 (pins_on uploads number)) numbers
      (All-weaker (λ number. 0 < pins_on uploads number) (λ number. nat_lt 0 (pins_on uploads number) ≡ true)
      (λ number yes. grind (arith, nat_tests)) numbers some),
)
