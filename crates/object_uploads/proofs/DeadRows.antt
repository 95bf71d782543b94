-- An object that is dead, without a live sector and not mapped by the newest checkpoint, while the table of objects changes.
use Rattle.std.proofs.Common.{◌≡◌, ℕ, ◌<◌, Bool, true, false, cond, Option, Some, None, List, [], ◌∷◌, ◌++◌}
use Rattle.std.proofs.Common.{refl, sym, ◌∙◌, ap, arith}
use Rattle.std.specs.Prelude.{map, option_map, nat_eq}
use Rattle.std.specs.List.{All}
use Rattle.std.proofs.lemmas.Bool.Decides.{nat_tests}
use Rattle.extent_map.specs.Extents.{IsShortest}
use Rattle.object_table.specs.declared.row.ObjectRow.{ObjectRow}
use Rattle.object_table.specs.Table.{TableState, has_number, numbers, row_of, IsRemovable, new_row, added}
use Rattle.object_table.specs.Table.{passed}
use Rattle.object_table.specs.Table.{acknowledged, with_changed}
use Rattle.object_table.proofs.Rows.{its_number}
use Rattle.object_table.proofs.Listed.{found_holds}
use Rattle.volume_maps.specs.declared.place.ObjectPlace.{ObjectPlace}
use Rattle.volume_maps.specs.Places.{object_on}
use Rattle.volume_maps.specs.Maps.{MapsState, settled_at}
use Rattle.volume_maps.specs.Live.{live_sectors, IsCounted, but_live, HasSameObjects}
use Rattle.volume_maps.proofs.TableLemmas.{changed_unseen}
use Rattle.object_uploads.specs.Order.{IsDeadIn}
use Rattle.object_uploads.proofs.DeadLemmas.{GivesAlone, still_none_live}

-- ---- the row of a number

-- which a view of the rows keeps
seen_by : {V : Type 0} (seen : ObjectRow → V) (test : Bool) (row : ObjectRow) (rest : Option ObjectRow) (more : Option V)
    → option_map seen rest ≡ more → option_map seen (cond test (Some row) rest) ≡ cond test (Some (seen row)) more
seen_by seen true row rest more same = refl
seen_by seen false row rest more same = same

-- the row of a number but for what a change of rows leaves alone
pub row_through : (change : ObjectRow → ObjectRow) (number : ℕ) (rows : List ObjectRow)
    → ((row : ObjectRow) → (change row).number ≡ row.number)
    → row_of number (map change rows) ≡ option_map change (row_of number rows)
row_through change number [] keeps = refl
row_through change number (row ∷ rows) keeps =
    let test : has_number number (change row) ≡ has_number number row = ap (λ n. nat_eq n number) (keeps row) in
    rw test (sym (seen_by change (has_number number row) row (row_of number rows) (row_of number (map change rows))
    (sym (row_through change number rows keeps))))

-- a row that one list has, another with the same view has too
seen_in_both : {V : Type 0} (seen : ObjectRow → V) (old new : Option ObjectRow) (row : ObjectRow)
    → option_map seen new ≡ option_map seen old → old ≡ Some row → (other : ObjectRow) × (new ≡ Some other) ×
    (seen other ≡ seen row)
seen_in_both seen None new row same is = absurd cc
seen_in_both seen (Some first) None row same is = absurd cc
seen_in_both seen (Some first) (Some other) row same is =
    let views : seen other ≡ seen first = cc in
    let own : first ≡ row = cc in
    (other, refl, views ∙ ap seen own)

-- rows of which a change keeps a view
pub row_seen : (seen : ObjectRow → ObjectRow) (number : ℕ) (old new : List ObjectRow) (row : ObjectRow)
    → ((r : ObjectRow) → (seen r).number ≡ r.number) → map seen new ≡ map seen old → row_of number old ≡ Some row
    → (other : ObjectRow) × (row_of number new ≡ Some other) × (seen other ≡ seen row)
row_seen seen number old new row keeps same is =
    seen_in_both seen (row_of number old) (row_of number new) row
    (sym (row_through seen number new keeps) ∙ (ap (row_of number) same ∙ row_through seen number old keeps)) is

still_by : (test : Bool) (first row : ObjectRow) (rest more : Option ObjectRow) → (rest ≡ Some row → more ≡ Some row)
    → cond test (Some first) rest ≡ Some row → cond test (Some first) more ≡ Some row
still_by true first row rest more keeps is = is
still_by false first row rest more keeps is = keeps is

-- a row is there yet when others come
pub row_still : (number : ℕ) (rows more : List ObjectRow) (row : ObjectRow) → row_of number rows ≡ Some row
    → row_of number (rows ++ more) ≡ Some row
row_still number [] more row is = absurd cc
row_still number (first ∷ rows) more row is =
    still_by (has_number number first) first row (row_of number rows) (row_of number (rows ++ more))
    (row_still number rows more row) is

-- ---- a dead object

-- what is there, with its live sectors
counted_row : (number : ℕ) (maps : MapsState) (row : ObjectRow) → row_of number maps.objects.rows ≡ Some row
    → IsCounted maps.settled.rows maps.objects → row.live ≡ live_sectors number maps.settled.rows
counted_row number maps row is counted =
    let own = its_number number maps.objects.rows row is in
    found_holds (λ (r : ObjectRow). r.live ≡ live_sectors r.number maps.settled.rows) number maps.objects.rows row is
    counted.live
    ∙ ap (λ n. live_sectors n maps.settled.rows) own

-- has no live sector in the map
pub dead_has_none : (number : ℕ) (maps : MapsState) → IsCounted maps.settled.rows maps.objects → IsDeadIn maps number
    → live_sectors number maps.settled.rows ≡ 0
dead_has_none number maps counted dead = sym (counted_row number maps dead.0 dead.1 counted) ∙ dead.3

-- an object that may be removed is dead
pub removable_is_dead : (number : ℕ) (maps : MapsState) → IsRemovable maps.objects number → IsDeadIn maps number
removable_is_dead number maps removable = (removable.row, removable.stands, removable.unmapped, removable.dead)

-- it is dead yet where the same objects have other live sectors, but it has none
pub same_objects_dead : (number : ℕ) (rows : List ObjectRow) (old new : MapsState) → IsDeadIn old number
    → map but_live new.objects.rows ≡ map but_live (old.objects.rows ++ rows) → IsCounted new.settled.rows new.objects
    → live_sectors number new.settled.rows ≡ 0 → IsDeadIn new number
same_objects_dead number rows old new dead same counted none =
    let there = row_still number old.objects.rows rows dead.0 dead.1 in
    let found = row_seen but_live number (old.objects.rows ++ rows) new.objects.rows dead.0 (λ r. refl) same there in
    let unmapped : found.0.is_unmapped ≡ dead.0.is_unmapped = ap (λ (r : ObjectRow). r.is_unmapped) found.2 in
    (found.0, found.1, unmapped ∙ dead.2, counted_row number new found.0 found.1 counted ∙ none)

-- so it is when the next object is settled
pub dead_settled : (next : ℕ) (row : ObjectRow) (settle : Option ObjectPlace → ℕ → Option ObjectPlace) (old new : MapsState)
    → GivesAlone next settle → IsCounted old.settled.rows old.objects → All (λ (r : ObjectRow). r.number < next) old.objects.rows
    → HasSameObjects (added row old.objects) new.objects
    → ((k : ℕ) → settled_at new k ≡ settle (settled_at old k) k) → IsShortest object_on new.settled.rows
    → IsCounted new.settled.rows new.objects → (number : ℕ) → IsDeadIn old number → IsDeadIn new number
dead_settled next row settle old new gives counted below same settled shortest now number dead =
    let low = found_holds (λ (r : ObjectRow). r.number < next) number old.objects.rows dead.0 dead.1 below in
    let own = its_number number old.objects.rows dead.0 dead.1 in
    let other : next ≡ number → ⊥ = λ is. absurd (omega (arith, low, own, is)) in
    let none = still_none_live number next settle old.settled.rows new.settled.rows gives other shortest settled
    (dead_has_none number old counted dead) in
    same_objects_dead number (row ∷ []) old new dead same.rows now none

-- when a checkpoint passes it
pub dead_passed : (next : ℕ) (old new : MapsState) → new.objects.rows ≡ (acknowledged next old.objects).rows → (number : ℕ)
    → IsDeadIn old number → IsDeadIn new number
dead_passed next old new same number dead =
    let there : row_of number (map passed old.objects.rows) ≡ Some (passed dead.0) =
    row_through passed number old.objects.rows (λ r. refl) ∙ ap (option_map passed) dead.1 in
    let unmapped : nat_eq dead.0.live 0 ≡ true = let none = dead.3 in grind (arith, nat_tests) in (
      passed dead.0,
      ap (row_of number) same ∙ row_still number (map passed old.objects.rows) (new_row next 0 0 ∷ []) (passed dead.0)
          there,
      unmapped,
      dead.3,
    )

-- an object but for what holds it
abbrev pub but_held : ObjectRow → ObjectRow
but_held row = record row { pins = 0; is_copied = false; is_held = false }

-- and when that changes
pub dead_pinned : (change : ObjectRow → ObjectRow) (changes : ℕ) (old new : MapsState)
    → ((r : ObjectRow) → but_held (change r) ≡ but_held r) → new.objects ≡ with_changed change changes old.objects → (number : ℕ)
    → IsDeadIn old number → IsDeadIn new number
dead_pinned change changes old new keeps same number dead =
    let views : map but_held new.objects.rows ≡ map but_held old.objects.rows =
    ap (λ (t : TableState). map but_held t.rows) same ∙ changed_unseen but_held change changes old.objects.rows keeps in
    let found = row_seen but_held number old.objects.rows new.objects.rows dead.0 (λ r. refl) views dead.1 in
    let unmapped : found.0.is_unmapped ≡ dead.0.is_unmapped = ap (λ (r : ObjectRow). r.is_unmapped) found.2 in
    let live : found.0.live ≡ dead.0.live = ap (λ (r : ObjectRow). r.live) found.2 in
    (found.0, found.1, unmapped ∙ dead.2, live ∙ dead.3)

-- ---- the numbers

numbers_seen : (seen : ObjectRow → ObjectRow) (rows : List ObjectRow) → ((r : ObjectRow) → (seen r).number ≡ r.number)
    → numbers (map seen rows) ≡ numbers rows
numbers_seen seen [] keeps = refl
numbers_seen seen (row ∷ rows) keeps =
    ap (λ n. n ∷ numbers (map seen rows)) (keeps row) ∙ ap (λ list. row.number ∷ list) (numbers_seen seen rows keeps)

pub numbers_passed : (rows : List ObjectRow) → numbers (map passed rows) ≡ numbers rows
numbers_passed rows = numbers_seen passed rows (λ r. refl)

pub numbers_pinned : (change : ObjectRow → ObjectRow) (changes : ℕ) (old new : TableState)
    → ((r : ObjectRow) → but_held (change r) ≡ but_held r) → new ≡ with_changed change changes old
    → numbers new.rows ≡ numbers old.rows
numbers_pinned change changes old new keeps same =
    ap (λ (t : TableState). numbers t.rows) same
    ∙ changed_unseen (λ (r : ObjectRow). r.number) change changes old.rows
    (λ r. ap (λ (b : ObjectRow). b.number) (keeps r))
