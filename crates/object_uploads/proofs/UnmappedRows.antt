-- The objects that the newest acknowledged checkpoint passed and does not map, while the table of objects changes.
use Rattle.std.proofs.Common.{◌≡◌, ℕ, ◌-◌, ◌<◌, ◌==◌, ◌&&◌, Bool, true, false, cond, Option, Some, None, List, [], ◌∷◌, ◌++◌}
use Rattle.std.proofs.Common.{refl, sym, ◌∙◌, ap, subst, arith, append-nil}
use Rattle.std.specs.Prelude.{IsTrue, IfSome, map, nat_eq, option_map}
use Rattle.std.specs.List.{All}
use Rattle.std.proofs.lemmas.Bool.Decides.{nat_tests}
use Rattle.std.proofs.lemmas.List.Elements.{All-head, All-tail, All-nil, All-cons}
use Rattle.extent_map.specs.Extents.{is_within, IsShortest, place_after_set}
use Rattle.object_table.specs.declared.row.ObjectRow.{ObjectRow}
use Rattle.object_table.specs.Table.{TableState, has_number, numbers, row_of, new_row, added, passed, acknowledged, with_changed}
use Rattle.object_table.specs.Table.{without}
use Rattle.object_table.specs.Lists.{Climbs}
use Rattle.object_table.proofs.Rows.{its_number, found_above}
use Rattle.object_table.proofs.Listed.{found_holds}
use Rattle.volume_maps.specs.declared.place.ObjectPlace.{ObjectPlace}
use Rattle.volume_maps.specs.Places.{object_on}
use Rattle.volume_maps.specs.Maps.{MapsState, settled_at}
use Rattle.volume_maps.specs.Live.{is_live, IsCounted, MayGain, but_live, HasSameObjects}
use Rattle.volume_maps.proofs.TableLemmas.{changed_unseen}
use Rattle.object_uploads.specs.Order.{IsDeadIn, IsUnmappedIn, UnmappedAreDead}
use Rattle.object_uploads.proofs.DeadLemmas.{nowhere, none_live, GivesAlone}
use Rattle.object_uploads.proofs.DeadRows.{row_through, row_seen, row_still, dead_has_none, same_objects_dead, dead_settled}
use Rattle.object_uploads.proofs.DeadRows.{dead_pinned, but_held}

-- ---- rows

-- no row of a list is unmapped
abbrev pub NoneUnmapped : List ObjectRow → Type 0
NoneUnmapped rows = All (λ (row : ObjectRow). row.is_unmapped ≡ false) rows

mapped_by : (test : Bool) (number : ℕ) (first row : ObjectRow) (rows : List ObjectRow) → has_number number first ≡ test
    → first.is_unmapped ≡ false → (row_of number rows ≡ Some row → row.is_unmapped ≡ false)
    → row_of number (first ∷ rows) ≡ Some row → row.is_unmapped ≡ false
mapped_by true number first row rows test mapped more is =
    let same : Some first ≡ Some row = rw test at is in
    let own : first ≡ row = cc in
    sym (ap (λ (r : ObjectRow). r.is_unmapped) own) ∙ mapped
mapped_by false number first row rows test mapped more is = more (rw test at is)

mapped_row : (number : ℕ) (rows : List ObjectRow) (row : ObjectRow) → NoneUnmapped rows → row_of number rows ≡ Some row
    → row.is_unmapped ≡ false
mapped_row number [] row none is = absurd cc
mapped_row number (first ∷ rows) row none is =
    mapped_by (has_number number first) number first row rows refl
    (All-head (λ (r : ObjectRow). r.is_unmapped ≡ false) first rows none)
    (mapped_row number rows row (All-tail (λ (r : ObjectRow). r.is_unmapped ≡ false) first rows none)) is

first_by : (test : Bool) (number : ℕ) (first row : ObjectRow) (rows more : List ObjectRow) → has_number number first ≡ test
    → (row_of number (rows ++ more) ≡ Some row → row_of number rows ≡ Some row)
    → row_of number (first ∷ (rows ++ more)) ≡ Some row → row_of number (first ∷ rows) ≡ Some row
first_by true number first row rows more test rest is =
    let same : Some first ≡ Some row = rw test at is in
    rw test same
first_by false number first row rows more test rest is = rw test (rest (rw test at is))

-- an unmapped row is one of the first, where no other is unmapped
row_before : (number : ℕ) (rows more : List ObjectRow) (row : ObjectRow) → NoneUnmapped more → IsTrue row.is_unmapped
    → row_of number (rows ++ more) ≡ Some row → row_of number rows ≡ Some row
row_before number [] more row none unmapped is =
    let mapped = mapped_row number more row none is in
    absurd cc
row_before number (first ∷ rows) more row none unmapped is =
    first_by (has_number number first) number first row rows more refl (row_before number rows more row none unmapped) is

-- ---- where each dead object stays dead

-- what is unmapped after a change was so before
kept_unmapped : (old new : MapsState) → UnmappedAreDead old → new.objects.checkpoint ≡ old.objects.checkpoint
    → ((n : ℕ) → IsUnmappedIn new n → IsUnmappedIn old n) → ((n : ℕ) → IsDeadIn old n → IsDeadIn new n) → UnmappedAreDead new
kept_unmapped old new was same back dead number is =
    let before = was number (back number is) in
    (dead number before.0, subst (λ (c : ℕ). number < c) (sym same) before.1)

-- the same rows, and some that no checkpoint has passed, but for live sectors
unmapped_back : (more : List ObjectRow) (old new : MapsState) → NoneUnmapped more
    → map but_live new.objects.rows ≡ map but_live (old.objects.rows ++ more) → (n : ℕ) → IsUnmappedIn new n → IsUnmappedIn old n
unmapped_back more old new none same n is =
    let found = row_seen but_live n new.objects.rows (old.objects.rows ++ more) is.0 (λ r. refl) (sym same) is.1 in
    let unmapped : found.0.is_unmapped ≡ is.0.is_unmapped = ap (λ (r : ObjectRow). r.is_unmapped) found.2 in
    let there : IsTrue found.0.is_unmapped = unmapped ∙ is.2 in
    (found.0, row_before n old.objects.rows more found.0 none there found.1, there)

none_new : (number payload front : ℕ) → NoneUnmapped (new_row number payload front ∷ [])
none_new number payload front =
    All-cons (λ (r : ObjectRow). r.is_unmapped ≡ false) (new_row number payload front) [] refl
    (All-nil (λ (r : ObjectRow). r.is_unmapped ≡ false))

-- the next object is settled
pub unmapped_settled : (next payload front : ℕ) (settle : Option ObjectPlace → ℕ → Option ObjectPlace) (old new : MapsState)
    → GivesAlone next settle → IsCounted old.settled.rows old.objects → All (λ (r : ObjectRow). r.number < next) old.objects.rows
    → HasSameObjects (added (new_row next payload front) old.objects) new.objects
    → ((k : ℕ) → settled_at new k ≡ settle (settled_at old k) k) → IsShortest object_on new.settled.rows
    → IsCounted new.settled.rows new.objects → UnmappedAreDead old → UnmappedAreDead new
unmapped_settled next payload front settle old new gives counted below same settled shortest now was =
    let row = new_row next payload front in
    kept_unmapped old new was same.checkpoint
    (unmapped_back (row ∷ []) old new (none_new next payload front) same.rows)
    (dead_settled next row settle old new gives counted below same settled shortest now)

-- one is found
pub unmapped_found : (number payload front : ℕ) (old new : MapsState)
    → new.objects.rows ≡ old.objects.rows ++ new_row number payload front ∷ []
    → new.objects.checkpoint ≡ old.objects.checkpoint → UnmappedAreDead old → UnmappedAreDead new
unmapped_found number payload front old new rows same was =
    let row = new_row number payload front in
    kept_unmapped old new was same
    (λ n is. (
      is.0,
      row_before n old.objects.rows (row ∷ []) is.0 (none_new number payload front) is.2
          (sym (ap (row_of n) rows) ∙ is.1),
      is.2,
    ))
    (λ n dead. (dead.0, ap (row_of n) rows ∙ row_still n old.objects.rows (row ∷ []) dead.0 dead.1, dead.2, dead.3))

-- the table is the same
pub unmapped_same : (old new : MapsState) → new.objects.rows ≡ old.objects.rows
    → new.objects.checkpoint ≡ old.objects.checkpoint → UnmappedAreDead old → UnmappedAreDead new
unmapped_same old new rows same was =
    kept_unmapped old new was same (λ n is. (is.0, sym (ap (row_of n) rows) ∙ is.1, is.2))
    (λ n dead. (dead.0, ap (row_of n) rows ∙ dead.1, dead.2, dead.3))

-- what holds an object changes
pub unmapped_pinned : (change : ObjectRow → ObjectRow) (changes : ℕ) (old new : MapsState)
    → ((r : ObjectRow) → but_held (change r) ≡ but_held r) → new.objects ≡ with_changed change changes old.objects
    → UnmappedAreDead old → UnmappedAreDead new
unmapped_pinned change changes old new keeps same was =
    let views : map but_held new.objects.rows ≡ map but_held old.objects.rows =
    ap (λ (t : TableState). map but_held t.rows) same ∙ changed_unseen but_held change changes old.objects.rows keeps in
    kept_unmapped old new was (ap (λ (t : TableState). t.checkpoint) same) (λ n is.
    let found = row_seen but_held n new.objects.rows old.objects.rows is.0 (λ r. refl) (sym views) is.1 in
    let unmapped : found.0.is_unmapped ≡ is.0.is_unmapped = ap (λ (r : ObjectRow). r.is_unmapped) found.2 in
    (found.0, found.1, unmapped ∙ is.2))
    (dead_pinned change changes old new keeps same)

-- ---- a checkpoint is acknowledged

-- a row that a checkpoint has passed
was_passed : (n next : ℕ) (row : ObjectRow) (found : Option ObjectRow) → option_map passed found ≡ Some row
    → IfSome found (λ (r : ObjectRow). r.number < next) → IfSome found (λ (r : ObjectRow). r.number ≡ n)
    → IsTrue row.is_unmapped → (row.live ≡ 0) × (n < next)
was_passed n next row None is below named unmapped = absurd cc
was_passed n next row (Some old) is below named unmapped =
    let own : passed old ≡ row = cc in
    let live : old.live ≡ row.live = ap (λ (r : ObjectRow). r.live) own in
    let test : nat_eq old.live 0 ≡ true = ap (λ (r : ObjectRow). r.is_unmapped) own ∙ unmapped in
    let none : old.live ≡ 0 = grind (arith, nat_tests) in
    (sym live ∙ none, omega (arith, below, named))

found_below : (n next : ℕ) (rows : List ObjectRow) (found : Option ObjectRow) → row_of n rows ≡ found
    → All (λ (r : ObjectRow). r.number < next) rows → IfSome found (λ (r : ObjectRow). r.number < next)
found_below n next rows None is below = tt
found_below n next rows (Some row) is below = found_holds (λ (r : ObjectRow). r.number < next) n rows row is below

found_named : (n : ℕ) (rows : List ObjectRow) (found : Option ObjectRow) → row_of n rows ≡ found
    → IfSome found (λ (r : ObjectRow). r.number ≡ n)
found_named n rows None is = tt
found_named n rows (Some row) is = its_number n rows row is

pub unmapped_passed : (next : ℕ) (old new : MapsState) → new.objects.rows ≡ (acknowledged next old.objects).rows
    → new.objects.checkpoint ≡ next → All (λ (r : ObjectRow). r.number < next) old.objects.rows → UnmappedAreDead new
unmapped_passed next old new rows checkpoint below n is =
    let before = old.objects.rows in
    let there : row_of n (map passed before ++ new_row next 0 0 ∷ []) ≡ Some is.0 = sym (ap (row_of n) rows) ∙ is.1 in
    let first = row_before n (map passed before) (new_row next 0 0 ∷ []) is.0 (none_new next 0 0) is.2 there in
    let was = was_passed n next is.0 (row_of n before) (sym (row_through passed n before (λ r. refl)) ∙ first)
    (found_below n next before (row_of n before) refl below) (found_named n before (row_of n before) refl) is.2 in
    ((is.0, is.1, is.2, was.0), subst (λ (c : ℕ). n < c) (sym checkpoint) was.1)

-- ---- an object is removed

left_by_both : (out it : Bool) (n : ℕ) (first row : ObjectRow) (rest less : List ObjectRow) → has_number n first ≡ it
    → (row_of n rest ≡ Some row → first.number < n) → (row_of n less ≡ Some row → row_of n rest ≡ Some row)
    → row_of n (cond out rest (first ∷ less)) ≡ Some row → row_of n (first ∷ rest) ≡ Some row
left_by_both true true n first row rest less it above kept is =
    let past = above is in
    let same : first.number ≡ n = grind (arith, nat_tests) in
    absurd (omega (arith, past, same))
left_by_both true false n first row rest less it above kept is = rw it is
left_by_both false true n first row rest less it above kept is =
    let same : Some first ≡ Some row = rw it at is in
    rw it same
left_by_both false false n first row rest less it above kept is = rw it (kept (rw it at is))

-- what is left of rows was among them
left_before : (low n number : ℕ) (rows : List ObjectRow) (row : ObjectRow) → Climbs low (numbers rows)
    → row_of n (without number rows) ≡ Some row → row_of n rows ≡ Some row
left_before low n number [] row order is = is
left_before low n number (first ∷ rest) row order is =
    left_by_both (has_number number first) (has_number n first) n first row rest (without number rest) refl
    (λ there. found_above first.number n rest row order.1 there)
    (left_before first.number n number rest row order.1) is

-- what was dead is so where its row is left
pub unmapped_dropped : (number : ℕ) (old new : MapsState) → Climbs 0 (numbers old.objects.rows)
    → new.objects.rows ≡ without number old.objects.rows → new.objects.checkpoint ≡ old.objects.checkpoint
    → UnmappedAreDead old → UnmappedAreDead new
unmapped_dropped number old new order rows checkpoint was n is =
    let there = left_before 0 n number old.objects.rows is.0 order (sym (ap (row_of n) rows) ∙ is.1) in
    let before = was n (is.0, there, is.2) in
    let one : Some before.0.0 ≡ Some is.0 = sym before.0.1 ∙ there in
    let same : before.0.0 ≡ is.0 = cc in (
      (is.0, is.1, is.2, sym (ap (λ (r : ObjectRow). r.live) same) ∙ before.0.3),
      subst (λ (c : ℕ). n < c) (sym checkpoint)
          before.1,
    )

-- ---- a row of a checkpoint is entered

in_other : (own : Bool) (number : ℕ) (place : ObjectPlace) → (place.level == 0) ≡ own
    → (place.level ≡ 0 → place.number ≡ number → ⊥) → own && (place.number == number) ≡ false
in_other true number place own other =
    let apart = other (grind (arith, nat_tests)) in
    let differ : (place.number == number) ≡ false = grind (arith, nat_tests) in
    differ
in_other false number place own other = refl

-- where the places of another object are entered, the object has none
mapped_elsewhere : (test : Bool) (number : ℕ) (place : ObjectPlace) (before : Option ObjectPlace)
    → (place.level ≡ 0 → place.number ≡ number → ⊥) → is_live number before ≡ false
    → is_live number (cond test (Some place) before) ≡ false
mapped_elsewhere true number place before other none = in_other (place.level == 0) number place refl other
mapped_elsewhere false number place before other none = none

pub unmapped_mapped : (lba sectors : ℕ) (place : ObjectPlace) (old new : MapsState)
    → (place.level ≡ 0 → MayGain place.number old.objects) → IsCounted old.settled.rows old.objects
    → HasSameObjects old.objects new.objects
    → ((k : ℕ) → settled_at new k ≡ place_after_set object_on lba sectors place (settled_at old) k)
    → IsShortest object_on new.settled.rows → IsCounted new.settled.rows new.objects → UnmappedAreDead old → UnmappedAreDead new
unmapped_mapped lba sectors place old new gains counted same settled shortest now was =
    let rows : map but_live new.objects.rows ≡ map but_live (old.objects.rows ++ []) =
    same.rows ∙ ap (map but_live) (sym (append-nil old.objects.rows)) in
    kept_unmapped old new was same.checkpoint
    (unmapped_back [] old new (All-nil (λ (r : ObjectRow). r.is_unmapped ≡ false)) rows) (λ n dead.
    let other : place.level ≡ 0 → place.number ≡ n → ⊥ = λ own is. (
    let gain = gains own in
    let one : Some gain.0 ≡ Some dead.0 = sym gain.1 ∙ (ap (λ m. row_of m old.objects.rows) is ∙ dead.1) in
    let same_row : gain.0 ≡ dead.0 = cc in
    let unmapped : false ≡ true = sym gain.2 ∙ (ap (λ (r : ObjectRow). r.is_unmapped) same_row ∙ dead.2) in
    absurd cc) in
    let none = none_live n new.settled.rows shortest (λ k. ap (is_live n) (settled k)
    ∙ mapped_elsewhere (is_within lba sectors k) n (object_on (k - lba) place) (settled_at old k) other
    (nowhere n old.settled.rows k (dead_has_none n old counted dead))) in
    same_objects_dead n [] old new dead rows now none)
