-- The object that is removed next is that of the plain volume, and so is a removal that begins, fails or is done.
use Rattle.std.proofs.Common.{◌≡◌, ℕ, zero, suc, ◌+◌, ◌-◌, ◌<◌, ◌≤◌, ◌==◌, ◌&&◌, ◌||◌, inl, inr, not, Bool, true, false, cond}
use Rattle.std.proofs.Common.{Option, Some, None, List, [], ◌∷◌, ◌++◌, refl, sym, ◌∙◌, ap, subst, arith}
use Rattle.std.specs.Prelude.{IfSome, is_some, nat_lt, find}
use Rattle.std.specs.List.{range_with_len}
use Rattle.std.proofs.lemmas.Bool.{cases_lt}
use Rattle.std.proofs.lemmas.Bool.Decides.{nat_tests}
use Rattle.std.proofs.lemmas.List.Elements.{All-nil, All-cons, All-append}
use Rattle.std.proofs.lemmas.List.Sums.{sum_by-cons}
use Rattle.lsvd_objstore.specs.Store.{ReceiptState}
use Rattle.object_table.specs.declared.row.ObjectRow.{ObjectRow}
use Rattle.object_stream.specs.Replay.{object_name}
use Rattle.object_table.specs.Table.{TableState, has_number, row_of, live_of, numbers, without, IsRemovable, IsLowestRemovable}
use Rattle.object_table.specs.Lists.{Climbs}
use Rattle.object_table.proofs.Rows.{found_above}
use Rattle.object_uploads.specs.State.{UploadsState}
use Rattle.object_uploads.specs.Queue.{pins_of}
use Rattle.object_uploads.specs.Order.{IsDeadIn, IsUploads}
use Rattle.object_uploads.specs.Removal.{IsRemovedNext}
use Rattle.object_uploads.proofs.RemovalImage.{removals_keep_image}
use Rattle.obj_log.specs.Changes.{expected_of_volume}
use Rattle.plain_disk.specs.declared.event.PlainReply.TheVariants.{Removed, GivenBack, Nothing}
use Rattle.plain_disk.specs.State.{PlainState}
use Rattle.plain_disk.specs.Removals.{maps, has, copies_from, is_removable, to_remove, reply_of_removal, with_removal, is_out}
use Rattle.plain_disk.proofs.CheckpointLemmas.{both_true, same_number}
use Rattle.refine_objects.specs.Table.{times_pinned, passes_unmapped, ShowsTable}
use Rattle.refine_objects.specs.TableLaws.{ShowsBoth, TakenShowsRemoval, NoneTakenShowsNone, FinishedShowsRemoved}
use Rattle.refine_objects.specs.TableLaws.{TakenBackShowsGivenBack, NotOutShowsNothing}
use Rattle.refine_objects.proofs.AlikeLemmas.{same_alike, taken_alike, back_alike}
use Rattle.refine_objects.proofs.TableRows.{TableSeen, seen_of, RowShows, RowsShow, held_to, planned_more}
use Rattle.refine_objects.proofs.TableRows.{its_live, has_own_live, rows_of_shown, shown_by_rows}
use Rattle.refine_objects.proofs.TableChanged.{with_others, table_changed}

-- ---- numbers among others

-- by a test, whether the first is it, a number that none counts is not among them
not_among : (test rest : Bool) (all count : ℕ) → all ≡ cond test 1 0 + count → all ≡ 0 → (count ≡ 0 → rest ≡ false)
    → (test || rest) ≡ false
not_among true rest all count is none more = absurd (omega (arith, is, none))
not_among false rest all count is none more = more (omega (arith, is, none))

-- what has no pin is not among the pins
pub not_pinned : (number : ℕ) (pins : List ℕ) → times_pinned number pins ≡ 0 → has pins number ≡ false
not_pinned number [] none = refl
not_pinned number (pin ∷ pins) none =
    not_among (pin == number) (has pins number) (times_pinned number (pin ∷ pins)) (times_pinned number pins)
    (sum_by-cons (λ p. cond (p == number) 1 0) pin pins) none (not_pinned number pins)

-- and what is not among them has none
none_among : (test rest : Bool) (all count : ℕ) → all ≡ cond test 1 0 + count → (test || rest) ≡ false
    → (rest ≡ false → count ≡ 0) → all ≡ 0
none_among true rest all count is none more = absurd cc
none_among false rest all count is none more = omega (arith, is, more none)

pub no_pins : (number : ℕ) (pins : List ℕ) → has pins number ≡ false → times_pinned number pins ≡ 0
no_pins number [] none = refl
no_pins number (pin ∷ pins) none =
    none_among (pin == number) (has pins number) (times_pinned number (pin ∷ pins)) (times_pinned number pins)
    (sum_by-cons (λ p. cond (p == number) 1 0) pin pins) none (no_pins number pins)

-- one number more
has_more : (number other : ℕ) (removed : List ℕ)
    → has (removed ++ number ∷ []) other ≡ (has removed other || (number == other))
has_more number other [] = grind (arith, nat_tests)
has_more number other (first ∷ removed) =
    let rest = has_more number other removed in
    grind (arith, nat_tests, rest)

or_true : (b : Bool) → (b || true) ≡ true
or_true true = refl
or_true false = refl

or_false : (b : Bool) → (b || false) ≡ b
or_false true = refl
or_false false = refl

-- ---- which object may be removed

-- what tests say
below_by : (a b : ℕ) → nat_lt a b ≡ true → a < b
below_by a b is = grind (arith, nat_tests)

not_true : (b : Bool) → not b ≡ true → b ≡ false
not_true true is = absurd cc
not_true false is = refl

none_left : (gone : Bool) → true ≡ not gone → gone ≡ false
none_left true is = absurd cc
none_left false is = refl

some_row : (found : Option ObjectRow) → is_some found ≡ true → (row : ObjectRow) × (found ≡ Some row)
some_row None is = absurd cc
some_row (Some row) is = (row, refl)

-- what the test of the plain volume says
test_parts : (plain : PlainState) (number : ℕ) → is_removable plain number ≡ true
    → (passes_unmapped plain.checkpoint number ≡ true) × (not (has plain.pins number) ≡ true)
    × (not (copies_from plain.plan number) ≡ true) × (not (has plain.held number) ≡ true)
    × (not (has plain.removed number) ≡ true)
test_parts plain number removable =
    let free = not (has plain.pins number) in
    let apart = not (copies_from plain.plan number) in
    let left = not (has plain.removed number) in
    let passes = passes_unmapped plain.checkpoint number in
    let unheld = not (has plain.held number) in
    let first = both_true (passes && free && apart && unheld) left removable in
    let kept = both_true (passes && free && apart) unheld first.0 in
    let second = both_true (passes && free) apart kept.0 in
    let third = both_true passes free second.0 in
    (third.0, third.1, second.1, kept.1, first.1)

-- a row that is found twice has the same live sectors
live_of_dead : (row dead : ObjectRow) (found : Option ObjectRow) → found ≡ Some row → found ≡ Some dead → dead.live ≡ 0
    → row.live ≡ 0
live_of_dead row dead found is dead_is none =
    let same : Some dead ≡ Some row = sym dead_is ∙ is in
    let own : dead ≡ row = cc in
    ap (λ (r : ObjectRow). r.live) (sym own) ∙ none

module _ (uploads : UploadsState) (plain : PlainState) (is : IsUploads uploads) (shows : ShowsTable uploads.queue plain) where
  abbrev table : TableState
  table = uploads.queue.maps.objects

  -- what may be removed by the table may be so by the plain volume
  pub removable_is : (number : ℕ) → IsRemovable table number → is_removable plain number ≡ true
  removable_is number removable =
      let low = found_above 0 number table.rows removable.row is.known.order removable.stands in
      let high : number ≤ uploads.queue.frontier = omega (arith, removable.below, is.known.checkpoint) in
      let stands = removable.stands in
      let known : true ≡ not (has plain.removed number) =
      subst (λ (r : Option ObjectRow). is_some r ≡ not (has plain.removed number)) stands (shows.known number low high) in
      let unmapped : removable.row.is_unmapped ≡ passes_unmapped plain.checkpoint number =
      subst (λ r. IfSome r (λ (row : ObjectRow). row.is_unmapped ≡ passes_unmapped plain.checkpoint number)) stands
      (shows.unmapped number) in
      let pins : removable.row.pins ≡ times_pinned number plain.pins =
      subst (λ r. pins_of r ≡ times_pinned number plain.pins) stands (shows.pins number) in
      let passes : passes_unmapped plain.checkpoint number ≡ true = sym unmapped ∙ removable.unmapped in
      let free : has plain.pins number ≡ false = not_pinned number plain.pins (sym pins ∙ removable.no_pins) in
      let left : has plain.removed number ≡ false = none_left (has plain.removed number) known in
      let copied : removable.row.is_copied ≡ copies_from plain.plan number =
      subst (λ r. IfSome r (λ (row : ObjectRow). row.is_copied ≡ copies_from plain.plan number)) stands
      (shows.copied number) in
      let apart : copies_from plain.plan number ≡ false = sym copied ∙ removable.not_copied in
      let held : removable.row.is_held ≡ has plain.held number =
      subst (λ r. IfSome r (λ (row : ObjectRow). row.is_held ≡ has plain.held number)) stands (shows.held number) in
      let unheld : has plain.held number ≡ false = sym held ∙ removable.not_held in
      rw (passes, free, apart, unheld, left) refl

  -- and the other way
  pub removable_by : (number : ℕ) → 1 ≤ number → is_removable plain number ≡ true → IsRemovable table number
  removable_by number low removable =
      let parts = test_parts plain number removable in
      let passes : passes_unmapped plain.checkpoint number ≡ true = parts.0 in
      let passed : nat_lt number plain.checkpoint.number ≡ true =
      (both_true (nat_lt number plain.checkpoint.number) (not (maps plain.checkpoint number)) passes).0 in
      let below_plain : number < plain.checkpoint.number = below_by number plain.checkpoint.number passed in
      let below : number < table.checkpoint = omega (arith, below_plain, shows.checkpoint) in
      let high : number ≤ uploads.queue.frontier = omega (arith, below, is.known.checkpoint) in
      let known : is_some (row_of number table.rows) ≡ not (has plain.removed number) = shows.known number low high in
      let left : not (has plain.removed number) ≡ true = parts.4 in
      let there = some_row (row_of number table.rows) (known ∙ left) in
      let row = there.0 in
      let stands = there.1 in
      let unmapped : row.is_unmapped ≡ passes_unmapped plain.checkpoint number =
      subst (λ r. IfSome r (λ (row : ObjectRow). row.is_unmapped ≡ passes_unmapped plain.checkpoint number)) stands
      (shows.unmapped number) in
      let is_unmapped : row.is_unmapped ≡ true = unmapped ∙ passes in
      let pins : row.pins ≡ times_pinned number plain.pins =
      subst (λ r. pins_of r ≡ times_pinned number plain.pins) stands (shows.pins number) in
      let free : times_pinned number plain.pins ≡ 0 =
      no_pins number plain.pins (not_true (has plain.pins number) parts.1) in
      let copied : row.is_copied ≡ copies_from plain.plan number =
      subst (λ r. IfSome r (λ (row : ObjectRow). row.is_copied ≡ copies_from plain.plan number)) stands
      (shows.copied number) in
      let held : row.is_held ≡ has plain.held number =
      subst (λ r. IfSome r (λ (row : ObjectRow). row.is_held ≡ has plain.held number)) stands (shows.held number) in
      let dead = (is.known.unmapped number (row, stands, is_unmapped)).0 in
      record {
        row = row;
        stands = stands;
        below = below;
        unmapped = is_unmapped;
        dead = live_of_dead row dead.0 (row_of number table.rows) stands dead.1 dead.3;
        no_pins = pins ∙ free;
        not_copied = copied ∙ not_true (copies_from plain.plan number) parts.2;
        not_held = held ∙ not_true (has plain.held number) parts.3;
      }

-- ---- the lowest of them

-- a search of a range finds the lowest number that passes, or none
found_lowest : (test : ℕ → Bool) (lowest from count : ℕ) → from ≤ lowest → lowest < from + count → test lowest ≡ true
    → ((number : ℕ) → from ≤ number → test number ≡ true → lowest ≤ number)
    → find test (range_with_len from count) ≡ Some lowest
found_lowest test lowest from zero low high passes least = absurd (omega arith)
found_lowest test lowest from (suc count) low high passes least =
    elim (test from) as (λ b. test from ≡ b → cond b (Some from) (find test (range_with_len (from + 1) count)) ≡ Some lowest) [
      | true ↦ λ here.
          (let at_most = least from (omega arith) here in
          let same : from ≡ lowest = omega (arith, at_most, low) in
          ap (λ n. Some n) same)
      | false ↦ λ none.
          elim (cases_lt from lowest) [
            | inl later ↦
                found_lowest test lowest (from + 1) count (omega arith) (omega arith) passes
                (λ number past. least number (omega (arith, past)))
            | inr first ↦
                (let same : from ≡ lowest = omega (arith, first, low) in
                let here = ap test same ∙ passes in
                absurd cc)
          ]
    ] refl

found_none : (test : ℕ → Bool) (from count : ℕ) → ((number : ℕ) → from ≤ number → test number ≡ true → ⊥)
    → find test (range_with_len from count) ≡ None
found_none test from zero none = refl
found_none test from (suc count) none =
    elim (test from) as (λ b. test from ≡ b → cond b (Some from) (find test (range_with_len (from + 1) count)) ≡ None) [
      | true ↦ λ here. absurd (none from (omega arith) here)
      | false ↦ λ fails. found_none test (from + 1) count (λ number past. none number (omega (arith, past)))
    ] refl

module _ (uploads : UploadsState) (plain : PlainState) (is : IsUploads uploads) (shows : ShowsTable uploads.queue plain) where
  lowest_is : (number : ℕ) → IsLowestRemovable uploads.queue.maps.objects (Some number) → to_remove plain ≡ Some number
  lowest_is number lowest =
      let removable = lowest.0 in
      let low = found_above 0 number uploads.queue.maps.objects.rows removable.row is.known.order removable.stands in
      found_lowest (is_removable plain) number 1 (plain.checkpoint.number - 1) low
      (omega (arith, low, removable.below, shows.checkpoint)) (removable_is uploads plain is shows number removable)
      (λ other from passes. lowest.1 other (removable_by uploads plain is shows other from passes))

  none_is : IsLowestRemovable uploads.queue.maps.objects None → to_remove plain ≡ None
  none_is none =
      found_none (is_removable plain) 1 (plain.checkpoint.number - 1)
      (λ other from passes. none other (removable_by uploads plain is shows other from passes))

-- ---- a removal begins

-- one is removed next only where none is out
pub next_by : (out : Option ℕ) (table : TableState) (number : ℕ) → IsRemovedNext out table (Some number)
    → (out ≡ None) × IsLowestRemovable table (Some number)
next_by None table number next = (refl, next)
next_by (Some other) table number next = absurd cc

pub taken_shows_removal : TakenShowsRemoval
taken_shows_removal data_at old new plain number receipt was now valid shows next takes one batch =
    let queue = old.uploads.queue in
    let by = next_by queue.removal queue.maps.objects number next in
    let out : plain.removal ≡ None = sym shows.table.removal ∙ by.0 in
    let lowest : to_remove plain ≡ Some number = lowest_is old.uploads plain was shows.table number by.1 in
    let removable = by.1.0 in
    let kept = removals_keep_image number receipt old.uploads new.uploads was now (inl takes) in
    let given = plain.given_out ++ number ∷ [] in
    let after : PlainState = record plain { given_out = given; removal = Some number } in
    let rows = ap (λ (t : TableState). t.rows) takes.objects in
    let pins : removable.row.pins ≡ times_pinned number plain.pins =
    subst (λ r. pins_of r ≡ times_pinned number plain.pins) removable.stands (shows.table.pins number) in
    let newest = ap (λ (t : TableState). t.checkpoint) takes.objects in
    let some : 0 < new.uploads.queue.maps.objects.checkpoint =
    omega (arith, newest, shows.table.checkpoint, valid.checkpoint.numbered) in
    let shown : ShowsBoth data_at new after = record {
      objects =
          with_others data_at new plain plain.checkpoint plain.plan plain.pins plain.removed given (Some number)
          (table_changed data_at old new plain takes.rest batch kept
          (λ tells. taken_alike tells number receipt old.uploads new.uploads now some takes one) shows.objects);
      table = record {
        checkpoint = ap (λ (t : TableState). t.checkpoint) takes.objects ∙ shows.table.checkpoint;
        removal = takes.removal;
        known = λ n low high. rw rows (shows.table.known n low (subst (λ m. n ≤ m) takes.rest.frontier high));
        unmapped = λ n. rw rows (shows.table.unmapped n);
        pins = λ n. rw rows (shows.table.pins n);
        copied = λ n. rw rows (shows.table.copied n);
        held = λ n. rw rows (shows.table.held n);
        payload = λ n. rw rows (shows.table.payload n);
        free = sym pins ∙ removable.no_pins;
        gone = shows.table.gone;
        kept = held_to queue.frontier new.uploads.queue.frontier plain.held (omega (arith, takes.rest.frontier))
            shows.table.kept;
        reached = planned_more queue.frontier new.uploads.queue.frontier plain.plan (omega (arith, takes.rest.frontier))
            shows.table.reached;
      };
    } in (
      subst (ShowsBoth data_at new) (sym (ap (λ o. with_removal o (to_remove plain) plain) out
          ∙ ap (λ l. with_removal None l plain) lowest)) shown,
      ap (λ o. reply_of_removal o (to_remove plain)) out ∙ ap (reply_of_removal None) lowest,
    )

-- none is
none_by : (out next : Option ℕ) (plain : PlainState) → to_remove plain ≡ next → (out ≡ None → next ≡ None)
    → (reply_of_removal out (to_remove plain) ≡ Nothing) × (with_removal out (to_remove plain) plain ≡ plain)
none_by (Some other) next plain is none = (refl, refl)
none_by None next plain is none =
    let same : to_remove plain ≡ None = is ∙ none refl in
    (ap (reply_of_removal None) same, ap (λ l. with_removal None l plain) same)

next_none : (out : Option ℕ) (table : TableState) → IsRemovedNext out table None → out ≡ None → IsLowestRemovable table None
next_none None table next is = next
next_none (Some other) table next is = absurd cc

pub none_taken_shows_none : NoneTakenShowsNone
none_taken_shows_none data_at objects plain uploads valid shows next =
    let queue = objects.uploads.queue in
    none_by plain.removal (to_remove plain) plain refl (λ out.
    none_is objects.uploads plain uploads shows.table
    (next_none queue.removal queue.maps.objects next (shows.table.removal ∙ out)))

-- ---- it is done, or failed

its_own : (number : ℕ) → is_out number (Some number) ≡ true
its_own number = grind (arith, nat_tests)

-- no row of greater numbers is that of a number
absent_by : (other low : ℕ) (rows : List ObjectRow) (found : Option ObjectRow) → row_of other rows ≡ found
    → Climbs low (numbers rows) → other ≤ low → found ≡ None
absent_by other low rows None is order past = refl
absent_by other low rows (Some row) is order past =
    let above = found_above low other rows row order is in
    absurd (omega (arith, above, past))

-- the row of a number, once it was taken out
own_without : (number low : ℕ) (rows : List ObjectRow) → Climbs low (numbers rows)
    → row_of number (without number rows) ≡ None
own_without number low [] order = refl
own_without number low (row ∷ rows) order =
    elim (has_number number row) as (λ b. has_number number row ≡ b
    → row_of number (cond b rows (row ∷ without number rows)) ≡ None) [
      | true ↦ λ here.
          (let same : number ≤ row.number = grind (arith, nat_tests) in
          absent_by number row.number rows (row_of number rows) refl order.1 same)
      | false ↦ λ other. rw other (own_without number row.number rows order.1)
    ] refl

-- or that of another was
pub other_without : (number other : ℕ) (rows : List ObjectRow) → (number == other) ≡ false
    → row_of other (without number rows) ≡ row_of other rows
other_without number other [] apart = refl
other_without number other (row ∷ rows) apart =
    elim (has_number number row) as (λ b. has_number number row ≡ b
    → row_of other (cond b rows (row ∷ without number rows))
    ≡ cond (has_number other row) (Some row) (row_of other rows)) [
      | true ↦ λ here.
          (let not_it : has_number other row ≡ false = grind (arith, nat_tests) in
          rw not_it refl)
      | false ↦ λ elsewhere.
          ap (λ found. cond (has_number other row) (Some row) found) (other_without number other rows apart)
    ] refl

module _ (seen : TableSeen) (frontier number : ℕ) (rows : List ObjectRow)
    (order : Climbs 0 (numbers rows)) (free : times_pinned number seen.pins ≡ 0) where
  abbrev gone : List ℕ
  gone = seen.removed ++ number ∷ []

  abbrev later : TableSeen
  later = record seen { removed = gone }

  -- what the row of a number shows, once that object was removed
  row_gone : (test : Bool) (n : ℕ) → (number == n) ≡ test
      → RowShows seen frontier n (row_of n rows)
      → RowShows later frontier n (row_of n (without number rows))
  row_gone true n test shows =
      let same : number ≡ n = same_number number n test in
      let none : row_of n (without number rows) ≡ None =
      ap (λ m. row_of m (without number rows)) (sym same) ∙ own_without number 0 rows order in
      let gone_is : has gone n ≡ true =
      has_more number n seen.removed ∙ (ap (λ b. has seen.removed n || b) test ∙ or_true (has seen.removed n)) in
      rw none (record {
        known = λ low high. rw gone_is refl;
        above = λ past. refl;
        unmapped = tt;
        pins_are = sym free ∙ ap (λ m. times_pinned m seen.pins) same;
        copied = tt;
        held_is = tt;
        payload_is = tt;
      })
  row_gone false n test shows =
      let stays : row_of n (without number rows) ≡ row_of n rows = other_without number n rows test in
      let gone_is : has gone n ≡ has seen.removed n =
      has_more number n seen.removed ∙ (ap (λ b. has seen.removed n || b) test ∙ or_false (has seen.removed n)) in
      rw stays (record {
        known = λ low high. shows.known low high ∙ ap not (sym gone_is);
        above = shows.above;
        unmapped = shows.unmapped;
        pins_are = shows.pins_are;
        copied = shows.copied;
        held_is = shows.held_is;
        payload_is = shows.payload_is;
      })

-- the rows that are left have the live sectors that they had
left_live : (number n : ℕ) (rows : List ObjectRow) (test : Bool) → Climbs 0 (numbers rows) → (number == n) ≡ test
    → IfSome (row_of n (without number rows)) (λ row. 0 < row.live → 0 < live_of n rows)
left_live number n rows true order test =
    let none : row_of n (without number rows) ≡ None =
    ap (λ m. row_of m (without number rows)) (sym (same_number number n test)) ∙ own_without number 0 rows order in
    rw none tt
left_live number n rows false order test = rw (other_without number n rows test) (its_live (row_of n rows))

pub finished_shows_removed : FinishedShowsRemoved
finished_shows_removed data_at old new plain number was now shows out done batch =
    let queue = old.uploads.queue in
    let plain_out : plain.removal ≡ Some number = sym shows.table.removal ∙ out in
    let receipt : ReceiptState = record { name = object_name (expected_of_volume old) number; size = 0; told = None } in
    let kept = removals_keep_image number receipt old.uploads new.uploads was now (inr (inl done)) in
    let dead : IsDeadIn queue.maps number = subst (λ o. IfSome o (IsDeadIn queue.maps)) out was.known.removal in
    let below = (was.known.unmapped number (dead.0, dead.1, dead.2)).1 in
    let free : times_pinned number plain.pins ≡ 0 =
    subst (λ o. IfSome o (λ n. times_pinned n plain.pins ≡ 0)) plain_out shows.table.free in
    let removed = plain.removed ++ number ∷ [] in
    let after : PlainState = record plain { removed = removed; removal = None } in
    let live : ℕ → ℕ = λ n. live_of n queue.maps.objects.rows in
    let rows = rows_of_shown live old.uploads plain was (has_own_live queue.maps.objects.rows) shows.table in
    let Below : ℕ → Type 0 = λ n. n < plain.checkpoint.number in
    let low : number < plain.checkpoint.number = omega (arith, below, shows.table.checkpoint) in
    let now_rows : RowsShow (seen_of live after) new.uploads.queue.frontier new.uploads.queue.maps.objects =
    record {
      newest = done.checkpoint ∙ shows.table.checkpoint;
      reached = omega (arith, rows.reached, done.rest.frontier);
      gone = All-append Below plain.removed (number ∷ []) shows.table.gone (All-cons Below number [] low (All-nil Below));
      kept = held_to queue.frontier new.uploads.queue.frontier plain.held (omega (arith, done.rest.frontier)) shows.table.kept;
      planned = planned_more queue.frontier new.uploads.queue.frontier plain.plan (omega (arith, done.rest.frontier))
          shows.table.reached;
      rows_show = λ n. rw (done.rows, done.rest.frontier) (row_gone (seen_of live plain) queue.frontier
          number queue.maps.objects.rows was.known.order free (number == n) n refl (rows.rows_show n));
    } in
    let shown : ShowsBoth data_at new after = record {
      objects =
          with_others data_at new plain plain.checkpoint plain.plan plain.pins removed plain.given_out None
          (table_changed data_at old new plain done.rest batch kept
          (λ tells. same_alike tells old.uploads.queue new.uploads.queue done.receipts done.rest.inherited done.rest.sealed)
          shows.objects);
      table = shown_by_rows live new.uploads.queue after done.removal tt
          (λ n. rw done.rows (left_live number n queue.maps.objects.rows (number == n) was.known.order refl)) now_rows;
    } in
    let is : is_out number plain.removal ≡ true = ap (is_out number) plain_out ∙ its_own number in
    (subst (ShowsBoth data_at new) (sym (ap (λ b. cond b after plain) is)) shown, ap (λ b. cond b Removed Nothing) is)

pub taken_back_shows_given_back : TakenBackShowsGivenBack
taken_back_shows_given_back data_at old new plain number receipt was now shows out back batch =
    let plain_out : plain.removal ≡ Some number = sym shows.table.removal ∙ out in
    let kept = removals_keep_image number receipt old.uploads new.uploads was now (inr (inr back)) in
    let after : PlainState = record plain { removal = None } in
    let rows = ap (λ (t : TableState). t.rows) back.objects in
    let shown : ShowsBoth data_at new after = record {
      objects =
          with_others data_at new plain plain.checkpoint plain.plan plain.pins plain.removed plain.given_out None
          (table_changed data_at old new plain back.rest batch kept
          (λ tells. back_alike tells number receipt old.uploads new.uploads back) shows.objects);
      table = record {
        checkpoint = ap (λ (t : TableState). t.checkpoint) back.objects ∙ shows.table.checkpoint;
        removal = back.removal;
        known = λ n low high. rw rows (shows.table.known n low (subst (λ m. n ≤ m) back.rest.frontier high));
        unmapped = λ n. rw rows (shows.table.unmapped n);
        pins = λ n. rw rows (shows.table.pins n);
        copied = λ n. rw rows (shows.table.copied n);
        held = λ n. rw rows (shows.table.held n);
        payload = λ n. rw rows (shows.table.payload n);
        free = tt;
        gone = shows.table.gone;
        kept = held_to old.uploads.queue.frontier new.uploads.queue.frontier plain.held (omega (arith, back.rest.frontier))
            shows.table.kept;
        reached = planned_more old.uploads.queue.frontier new.uploads.queue.frontier plain.plan
            (omega (arith, back.rest.frontier)) shows.table.reached;
      };
    } in
    let is : is_out number plain.removal ≡ true = ap (is_out number) plain_out ∙ its_own number in
    (subst (ShowsBoth data_at new) (sym (ap (λ b. cond b after plain) is)) shown, ap (λ b. cond b GivenBack Nothing) is)

-- one that is not out
other_out : (number : ℕ) (out : Option ℕ) → (out ≡ Some number → ⊥) → is_out number out ≡ false
other_out number None other = refl
other_out number (Some out) other =
    elim (out == number) as (λ b. (out == number) ≡ b → b ≡ false) [
      | true ↦ λ same. absurd (other (ap (λ n. Some n) (same_number out number same)))
      | false ↦ λ apart. refl
    ] refl

pub not_out_shows_nothing : NotOutShowsNothing
not_out_shows_nothing queue plain number shows other =
    let none : is_out number plain.removal ≡ false =
    other_out number plain.removal (λ out. other (shows.removal ∙ out)) in
    let gone : PlainState = record plain { removed = plain.removed ++ number ∷ []; removal = None } in
    let back : PlainState = record plain { removal = None } in (
      ap (λ b. cond b Removed Nothing) none,
      ap (λ b. cond b gone plain) none,
      ap (λ b. cond b GivenBack Nothing) none,
      ap (λ b. cond b back plain) none,
    )
