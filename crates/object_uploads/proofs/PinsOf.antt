-- The pins of objects while those of some are changed, one after the other.
use Rattle.std.proofs.Common.{◌≡◌, ℕ, ◌+◌, ◌<◌, ◌==◌, false, cond, Option, Some, None, List, [], ◌∷◌, sym, ◌∙◌, ap, subst, arith}
use Rattle.std.specs.Prelude.{IfSome, option_map}
use Rattle.std.proofs.lemmas.Bool.Decides.{nat_tests}
use Rattle.object_table.specs.declared.row.ObjectRow.{ObjectRow}
use Rattle.object_table.specs.Table.{TableState, row_of, changed}
use Rattle.object_uploads.specs.State.{UploadsState}
use Rattle.object_uploads.specs.Queue.{pins_of}
use Rattle.object_uploads.specs.Order.{IsUploads}
use Rattle.object_uploads.specs.Removal.{HasChangedRow, ChangesPinsEach}

-- ---- one object

-- the row of a number after the one of another was changed, which keeps its number
pub row_changed : (change : ObjectRow → ObjectRow) (number other : ℕ) (rows : List ObjectRow)
    → ((row : ObjectRow) → (change row).number ≡ row.number)
    → row_of other (changed change number rows)
    ≡ cond (number == other) (option_map change (row_of other rows)) (row_of other rows)
row_changed change number other [] keeps = grind (arith, nat_tests)
row_changed change number other (row ∷ rows) keeps =
    let rest = row_changed change number other rows keeps in
    let own = keeps row in
    grind (arith, nat_tests, rest, own)

-- the pins of another object stay
pub other_pins : (change : ObjectRow → ObjectRow) (number other : ℕ) (old new : UploadsState)
    → ((row : ObjectRow) → (change row).number ≡ row.number) → (number == other) ≡ false
    → HasChangedRow change number old new
    → pins_of (row_of other new.queue.maps.objects.rows) ≡ pins_of (row_of other old.queue.maps.objects.rows)
other_pins change number other old new keeps differ changes =
    let rows = old.queue.maps.objects.rows in
    ap (λ (t : TableState). pins_of (row_of other t.rows)) changes.objects
    ∙ (ap pins_of (row_changed change number other rows keeps)
    ∙ ap (λ b. pins_of (cond b (option_map change (row_of other rows)) (row_of other rows))) differ)

-- what holds of the pins of an object, holds of its row
pub few_pins : (limit : ℕ) (found : Option ObjectRow) → pins_of found + 1 < limit
    → IfSome found (λ row. row.pins + 1 < limit)
few_pins limit None few = tt
few_pins limit (Some row) few = few

pub some_pins : (found : Option ObjectRow) → 0 < pins_of found → IfSome found (λ row. 0 < row.pins)
some_pins None some = tt
some_pins (Some row) some = some

-- ---- one after the other

-- they stay objects on their way to the store
pub changes_keep_uploads : (change : ObjectRow → ObjectRow) (numbers : List ℕ) (old new : UploadsState) → IsUploads old
    → ChangesPinsEach change numbers old new → IsUploads new
changes_keep_uploads change [] old new is same = subst IsUploads (sym same) is
changes_keep_uploads change (number ∷ numbers) old new is (middle, changes, now, rest) =
    changes_keep_uploads change numbers middle new now rest
