-- Pins of the table are those of the plain volume.
use Rattle.std.proofs.Common.{◌≡◌, ℕ, ◌+◌, ◌-◌, ◌<◌, ◌==◌, not, Bool, true, false, cond, Option, Some, None, List, []}
use Rattle.std.proofs.Common.{◌∷◌, ◌++◌, refl, sym, ◌∙◌, ap, subst, arith}
use Rattle.std.specs.Prelude.{IfSome, IsSome, option_map}
use Rattle.std.specs.List.{list_any}
use Rattle.std.proofs.lemmas.Bool.Decides.{nat_tests}
use Rattle.std.proofs.lemmas.List.Sums.{sum_by-cons, sum_by_push}
use Rattle.object_stream.specs.Stream.{owners, is_own}
use Rattle.object_table.specs.declared.row.ObjectRow.{ObjectRow}
use Rattle.object_table.specs.Table.{TableState, row_of, live_in, live_of, pinned, unpinned}
use Rattle.volume_maps.specs.declared.place.ObjectPlace.{ObjectPlace}
use Rattle.volume_maps.specs.Maps.{MapsState, settled_at}
use Rattle.volume_maps.specs.Laws.{place_owner}
use Rattle.volume_maps.proofs.LossLemmas.{known_at}
use Rattle.object_uploads.specs.Order.{IsDeadIn}
use Rattle.object_uploads.proofs.PinsOf.{row_changed}
use Rattle.object_uploads.proofs.RemovalImage.{pins_keep_image, dead_is_apart}
use Rattle.plain_disk.specs.Writers.{covers_sector}
use Rattle.plain_disk.specs.State.{PlainState, stream_in, frontier_of, logged_entries}
use Rattle.plain_disk.specs.Reads.{unpinned as without_pin}
use Rattle.plain_disk.proofs.CheckpointLemmas.{both_true, same_number}
use Rattle.refine_objects.specs.Table.{times_pinned}
use Rattle.refine_objects.specs.TableLaws.{PinnedShowsPin, UnpinnedShowsUnpin}
use Rattle.refine_objects.proofs.ShowLemmas.{shown_have_counts}
use Rattle.refine_objects.proofs.AlikeLemmas.{same_alike}
use Rattle.refine_objects.proofs.TableRows.{TableSeen, seen_of, RowShows, RowsShow}
use Rattle.refine_objects.proofs.TableRows.{held_to, not_past, planned_more, its_live, has_own_live}
use Rattle.refine_objects.proofs.TableRows.{rows_of_shown, shown_by_rows}
use Rattle.refine_objects.proofs.TableChanged.{with_others, table_changed}

-- ---- counts

-- one more pin
pinned_more : (number other : ℕ) (pins : List ℕ)
    → times_pinned other (pins ++ number ∷ []) ≡ times_pinned other pins + cond (number == other) 1 0
pinned_more number other pins = sum_by_push (λ p. cond (p == other) 1 0) pins number

-- by tests, whether the first pin is the one, and both are that of a number
less_by : (first own its : Bool) (rest all more : ℕ) → all ≡ cond its 1 0 + rest → (first ≡ true → own ≡ its)
    → (first ≡ false → its ≡ true → own ≡ false) → more ≡ rest - cond own 1 0
    → cond first rest (cond its 1 0 + more) ≡ all - cond own 1 0
less_by true own true rest all more is same apart less = let yes_ = same refl in rw yes_ (omega (arith, is))
less_by true own false rest all more is same apart less = let no_ = same refl in rw no_ (omega (arith, is))
less_by false own true rest all more is same apart less =
    let no_ = apart refl refl in
    let less_ : more ≡ rest - 0 = less ∙ ap (λ b. rest - cond b 1 0) no_ in
    rw no_ (omega (arith, is, less_))
less_by false true false rest all more is same apart less = omega (arith, is, less)
less_by false false false rest all more is same apart less = omega (arith, is, less)

-- how often a number is among the rest
times_of : (test : Bool) (number pin other : ℕ) (pins : List ℕ)
    → times_pinned other (cond test pins (pin ∷ without_pin number pins))
    ≡ cond test (times_pinned other pins) (cond (pin == other) 1 0 + times_pinned other (without_pin number pins))
times_of true number pin other pins = refl
times_of false number pin other pins = sum_by-cons (λ p. cond (p == other) 1 0) pin (without_pin number pins)

-- one pin less
pub unpinned_less : (number other : ℕ) (pins : List ℕ)
    → times_pinned other (without_pin number pins) ≡ times_pinned other pins - cond (number == other) 1 0
unpinned_less number other [] = grind (arith, nat_tests)
unpinned_less number other (pin ∷ pins) =
    let same : (pin == number) ≡ true → (number == other) ≡ (pin == other) =
    λ is. ap (λ n. n == other) (sym (same_number pin number is)) in
    let apart : (pin == number) ≡ false → (pin == other) ≡ true → (number == other) ≡ false =
    λ differ is. grind (arith, nat_tests) in
    times_of (pin == number) number pin other pins
    ∙ less_by (pin == number) (number == other) (pin == other) (times_pinned other pins) (times_pinned other (pin ∷ pins))
    (times_pinned other (without_pin number pins)) (sum_by-cons (λ p. cond (p == other) 1 0) pin pins) same apart
    (unpinned_less number other pins)

-- ---- what a row shows

-- what is seen with other pins
abbrev pub with_pins_seen : List ℕ → TableSeen → TableSeen
with_pins_seen pins seen = record seen { pins = pins }

-- a change of pins leaves live sectors
changed_live : (change : ObjectRow → ObjectRow) (test : Bool) (found : Option ObjectRow)
    → ((row : ObjectRow) → (change row).live ≡ row.live)
    → IfSome (cond test (option_map change found) found) (λ row. 0 < row.live → 0 < live_in found)
changed_live change true None same = tt
changed_live change true (Some row) same = λ some. subst (λ n. 0 < n) (same row) some
changed_live change false found same = its_live found

module _ (seen : TableSeen) (frontier number : ℕ) where
  abbrev pins : List ℕ
  pins = seen.pins

  -- the row of a number after one more pin, and one less
  row_pinned : (test : Bool) (n : ℕ) (found : Option ObjectRow) → (number == n) ≡ test → (test ≡ true → IsSome found)
      → RowShows seen frontier n found
      → RowShows (with_pins_seen (pins ++ number ∷ []) seen) frontier n (cond test (option_map pinned found) found)
  row_pinned true n None test there shows = let some = there refl in absurd cc
  row_pinned true n (Some row) test there shows =
      let low = not_past frontier n row shows.above in
      record {
        known = shows.known;
        above = λ past. absurd (omega (arith, low, past));
        unmapped = shows.unmapped;
        pins_are =
            sym (pinned_more number n pins
            ∙ (ap (λ b. times_pinned n pins + cond b 1 0) test ∙ ap (λ m. m + 1) (sym shows.pins_are)));
        copied = shows.copied;
        held_is = shows.held_is;
        payload_is = shows.payload_is;
      }
  row_pinned false n found test there shows = record {
    known = shows.known;
    above = shows.above;
    unmapped = shows.unmapped;
    pins_are =
        let none : times_pinned n pins + 0 ≡ times_pinned n pins = omega arith in
        shows.pins_are
        ∙ sym (pinned_more number n pins ∙ (ap (λ b. times_pinned n pins + cond b 1 0) test ∙ none));
    copied = shows.copied;
    held_is = shows.held_is;
    payload_is = shows.payload_is;
  }

  row_unpinned : (test : Bool) (n : ℕ) (found : Option ObjectRow) → (number == n) ≡ test
      → RowShows seen frontier n found
      → RowShows (with_pins_seen (without_pin number pins) seen) frontier n (cond test (option_map unpinned found) found)
  row_unpinned true n None test shows =
      let less = unpinned_less number n pins ∙ ap (λ b. times_pinned n pins - cond b 1 0) test in
      record {
        known = shows.known;
        above = shows.above;
        unmapped = tt;
        pins_are = omega (arith, less, shows.pins_are);
        copied = tt;
        held_is = tt;
        payload_is = tt;
      }
  row_unpinned true n (Some row) test shows =
      let low = not_past frontier n row shows.above in
      let less = unpinned_less number n pins ∙ ap (λ b. times_pinned n pins - cond b 1 0) test in
      record {
        known = shows.known;
        above = λ past. absurd (omega (arith, low, past));
        unmapped = shows.unmapped;
        pins_are = ap (λ m. m - 1) shows.pins_are ∙ sym less;
        copied = shows.copied;
        held_is = shows.held_is;
        payload_is = shows.payload_is;
      }
  row_unpinned false n found test shows =
      let less = unpinned_less number n pins ∙ ap (λ b. times_pinned n pins - cond b 1 0) test in
      record {
        known = shows.known;
        above = shows.above;
        unmapped = shows.unmapped;
        pins_are = omega (arith, less, shows.pins_are);
        copied = shows.copied;
        held_is = shows.held_is;
        payload_is = shows.payload_is;
      }

-- ---- a pin

-- an object is read from that a sector has its place in
place_by : (number : ℕ) (found : Option ObjectPlace) → is_own number (place_owner found) ≡ true
    → (place : ObjectPlace) × (found ≡ Some place) × (place.level ≡ 0) × (place.number ≡ number)
place_by number None is = absurd cc
place_by number (Some place) is =
    let both = both_true (place.level == 0) (place.number == number) is in
    (place, refl, same_number place.level 0 both.0, same_number place.number number both.1)

-- the one whose removal is out gets no pin
free_by : (number : ℕ) (pins : List ℕ) (out : Option ℕ) (maps : MapsState) → IfSome out (IsDeadIn maps)
    → IfSome out (λ n. times_pinned n pins ≡ 0) → ((n : ℕ) → IsDeadIn maps n → (number == n) ≡ false)
    → IfSome out (λ n. times_pinned n (pins ++ number ∷ []) ≡ 0)
free_by number pins None maps dead free apart = tt
free_by number pins (Some out) maps dead free apart =
    pinned_more number out pins ∙ (ap (λ b. times_pinned out pins + cond b 1 0) (apart out dead) ∙ omega (arith, free))

pub pinned_shows_pin : PinnedShowsPin
pinned_shows_pin data_at old new plain number k was now valid shows reads changed_pins batch =
    let queue = old.uploads.queue in
    let counts = shown_have_counts data_at old plain was valid shows.objects in
    let own = both_true (is_own number (owners (stream_in plain) (frontier_of plain) k))
    (not (list_any (λ entry. covers_sector entry k) (logged_entries plain))) reads in
    let owner : place_owner (settled_at queue.maps k) ≡ owners (stream_in plain) (frontier_of plain) k =
    shows.objects.stream.objects.settled k ∙ ap (λ n. owners (stream_in plain) n k) counts.frontier in
    let at = place_by number (settled_at queue.maps k) (ap (is_own number) owner ∙ own.0) in
    let place = at.0 in
    let there : IsSome (row_of number queue.maps.objects.rows) =
    subst (λ n. IsSome (row_of n queue.maps.objects.rows)) at.3
    (known_at queue.maps.objects.rows queue.maps.settled.rows k place was.known.counted.known at.1 at.2) in
    let apart : (n : ℕ) → IsDeadIn queue.maps n → (number == n) ≡ false =
    λ n dead. ap (λ m. m == n) (sym at.3) ∙ dead_is_apart n k queue.maps place was.known.counted dead at.1 at.2 in
    let kept = pins_keep_image pinned number old.uploads new.uploads (λ row. (refl, refl)) changed_pins in
    let pins = plain.pins ++ number ∷ [] in
    let after : PlainState = record plain { pins = pins } in
    let live : ℕ → ℕ = λ n. live_of n queue.maps.objects.rows in
    let rows = rows_of_shown live old.uploads plain was (has_own_live queue.maps.objects.rows) shows.table in
    let rows_are = ap (λ (t : TableState). t.rows) changed_pins.objects in
    let now_rows : RowsShow (seen_of live after) new.uploads.queue.frontier new.uploads.queue.maps.objects =
    record {
      newest = ap (λ (t : TableState). t.checkpoint) changed_pins.objects ∙ shows.table.checkpoint;
      reached = omega (arith, rows.reached, changed_pins.rest.frontier);
      gone = shows.table.gone;
      kept = held_to queue.frontier new.uploads.queue.frontier plain.held (omega (arith, changed_pins.rest.frontier))
          shows.table.kept;
      planned = planned_more queue.frontier new.uploads.queue.frontier plain.plan (omega (arith, changed_pins.rest.frontier))
          shows.table.reached;
      rows_show = λ n.
          rw (rows_are, changed_pins.rest.frontier, row_changed pinned number n queue.maps.objects.rows (λ row. refl))
          (row_pinned (seen_of live plain) queue.frontier number (number == n) n
          (row_of n queue.maps.objects.rows) refl
          (λ same. subst (λ m. IsSome (row_of m queue.maps.objects.rows)) (same_number number n same) there)
          (rows.rows_show n));
    } in
    let dead = subst (λ o. IfSome o (IsDeadIn queue.maps)) shows.table.removal was.known.removal in
    record {
      objects =
          with_others data_at new plain plain.checkpoint plain.plan pins plain.removed plain.given_out plain.removal
          (table_changed data_at old new plain changed_pins.rest batch kept
          (λ tells. same_alike tells old.uploads.queue new.uploads.queue changed_pins.receipts changed_pins.rest.inherited
          changed_pins.rest.sealed) shows.objects);
      table =
          shown_by_rows live new.uploads.queue after (changed_pins.removal ∙ shows.table.removal)
          (free_by number plain.pins plain.removal queue.maps dead shows.table.free apart)
          (λ n. rw (rows_are, row_changed pinned number n queue.maps.objects.rows (λ row. refl))
          (changed_live pinned (number == n) (row_of n queue.maps.objects.rows) (λ row. refl))) now_rows;
    }

-- ---- a pin is given back

-- the one whose removal is out has none yet
free_yet : (number : ℕ) (pins : List ℕ) (out : Option ℕ) → IfSome out (λ n. times_pinned n pins ≡ 0)
    → IfSome out (λ n. times_pinned n (without_pin number pins) ≡ 0)
free_yet number pins None free = tt
free_yet number pins (Some out) free = let less = unpinned_less number out pins in omega (arith, less, free)

pub unpinned_shows_unpin : UnpinnedShowsUnpin
unpinned_shows_unpin data_at old new plain number was shows changed_pins batch =
    let queue = old.uploads.queue in
    let kept = pins_keep_image unpinned number old.uploads new.uploads (λ row. (refl, refl)) changed_pins in
    let pins = without_pin number plain.pins in
    let after : PlainState = record plain { pins = pins } in
    let live : ℕ → ℕ = λ n. live_of n queue.maps.objects.rows in
    let rows = rows_of_shown live old.uploads plain was (has_own_live queue.maps.objects.rows) shows.table in
    let rows_are = ap (λ (t : TableState). t.rows) changed_pins.objects in
    let now_rows : RowsShow (seen_of live after) new.uploads.queue.frontier new.uploads.queue.maps.objects =
    record {
      newest = ap (λ (t : TableState). t.checkpoint) changed_pins.objects ∙ shows.table.checkpoint;
      reached = omega (arith, rows.reached, changed_pins.rest.frontier);
      gone = shows.table.gone;
      kept = held_to queue.frontier new.uploads.queue.frontier plain.held (omega (arith, changed_pins.rest.frontier))
          shows.table.kept;
      planned = planned_more queue.frontier new.uploads.queue.frontier plain.plan (omega (arith, changed_pins.rest.frontier))
          shows.table.reached;
      rows_show = λ n.
          rw (rows_are, changed_pins.rest.frontier, row_changed unpinned number n queue.maps.objects.rows (λ row. refl))
          (row_unpinned (seen_of live plain) queue.frontier number (number == n) n
          (row_of n queue.maps.objects.rows) refl (rows.rows_show n));
    } in
    record {
      objects =
          with_others data_at new plain plain.checkpoint plain.plan pins plain.removed plain.given_out plain.removal
          (table_changed data_at old new plain changed_pins.rest batch kept
          (λ tells. same_alike tells old.uploads.queue new.uploads.queue changed_pins.receipts changed_pins.rest.inherited
          changed_pins.rest.sealed) shows.objects);
      table =
          shown_by_rows live new.uploads.queue after (changed_pins.removal ∙ shows.table.removal)
          (free_yet number plain.pins plain.removal shows.table.free)
          (λ n. rw (rows_are, row_changed unpinned number n queue.maps.objects.rows (λ row. refl))
          (changed_live unpinned (number == n) (row_of n queue.maps.objects.rows) (λ row. refl))) now_rows;
    }
