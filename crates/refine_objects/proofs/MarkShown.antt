-- The marks of the objects that a plan of a copy takes sectors from: what they leave, and what the table shows then.
use Rattle.std.proofs.Common.{◌≡◌, ℕ, zero, suc, ◌<◌, ◌≤◌, ◌==◌, ◌||◌, cond, Bool, true, false, Option, Some, None, List, [], ◌∷◌}
use Rattle.std.proofs.Common.{refl, sym, ◌∙◌, ap, subst, arith}
use Rattle.std.specs.Prelude.{IfSome, option_map}
use Rattle.std.specs.List.{All, Contains}
use Rattle.std.proofs.lemmas.Bool.Decides.{nat_tests}
use Rattle.lsvd_objstore.specs.Store.{ReceiptState}
use Rattle.object_stream.specs.declared.object.CopiedSector.{CopiedSector}
use Rattle.object_stream.specs.declared.owner.Owner.{Owner}
use Rattle.object_table.specs.declared.row.ObjectRow.{ObjectRow}
use Rattle.object_table.specs.Table.{row_of, live_in, live_of, copied}
use Rattle.volume_maps.proofs.RowsLemmas.{is_in}
use Rattle.object_uploads.specs.State.{StoredObject, QueueState, UploadsState}
use Rattle.object_uploads.specs.Queue.{receipt_in, stored_with, inherited_in, stored_of}
use Rattle.object_uploads.specs.Order.{IsUploads}
use Rattle.object_uploads.specs.Collection.{marked, marked_in}
use Rattle.object_uploads.proofs.PinsOf.{row_changed}
use Rattle.plain_disk.specs.State.{PlainState}
use Rattle.plain_disk.specs.Removals.{copies_from}
use Rattle.refine_objects.specs.Table.{ShowsTable}
use Rattle.refine_objects.proofs.TableRows.{TableSeen, seen_of, RowShows, RowsShow, LiveAre}
use Rattle.refine_objects.proofs.TableRows.{IsPlannedTo, not_past, its_live, has_own_live}
use Rattle.refine_objects.proofs.TableRows.{rows_of_shown, shown_by_rows}

-- ---- numbers in a list

same_of : (m n : ℕ) → (m == n) ≡ true → m ≡ n
same_of m n is = grind (arith, nat_tests)

pub self_equal : (n : ℕ) → (n == n) ≡ true
self_equal n = grind (arith, nat_tests)

or_right : (b : Bool) → (b || true) ≡ true
or_right true = refl
or_right false = refl

pub contained_in : (numbers : List ℕ) (n : ℕ) → Contains numbers n → is_in numbers n ≡ true
contained_in [] n (k, inside, at) = absurd (omega (arith, inside))
contained_in (first ∷ numbers) n (zero, inside, at) =
    ap (λ m. (m == n) || is_in numbers n) at ∙ ap (λ b. b || is_in numbers n) (self_equal n)
contained_in (first ∷ numbers) n (suc k, inside, at) =
    ap (λ b. (first == n) || b) (contained_in numbers n (k, omega (arith, inside), at)) ∙ or_right (first == n)

pub in_contained : (numbers : List ℕ) (n : ℕ) → is_in numbers n ≡ true → Contains numbers n
in_contained [] n is = absurd cc
in_contained (first ∷ numbers) n is =
    elim (first == n) as (λ b. (first == n) ≡ b → (b || is_in numbers n) ≡ true → Contains (first ∷ numbers) n) [
      | true ↦ λ same is. (0, omega arith, same_of first n same)
      | false ↦ λ other is. (let more = in_contained numbers n is in (suc more.0, omega (arith, more.1), more.2))
    ] refl is

-- ---- what marks leave

module _ (is_copied : Bool) where
  twice : (first rest : Bool) (found : Option ObjectRow)
      → cond rest (option_map (copied is_copied) (cond first (option_map (copied is_copied) found) found))
      (cond first (option_map (copied is_copied) found) found)
      ≡ cond (first || rest) (option_map (copied is_copied) found) found
  twice true true None = refl
  twice true true (Some row) = refl
  twice true false found = refl
  twice false rest found = refl

  -- the row of a number is marked where the number is one of these
  pub marked_row : (numbers : List ℕ) (queue : QueueState) (n : ℕ)
      → row_of n (marked_in is_copied numbers queue).maps.objects.rows
      ≡ cond (is_in numbers n) (option_map (copied is_copied) (row_of n queue.maps.objects.rows))
      (row_of n queue.maps.objects.rows)
  marked_row [] queue n = refl
  marked_row (first ∷ numbers) queue n =
      marked_row numbers (marked is_copied first queue) n
      ∙ (ap (λ found. cond (is_in numbers n) (option_map (copied is_copied) found) found)
      (row_changed (copied is_copied) first n queue.maps.objects.rows (λ row. refl))
      ∙ twice (first == n) (is_in numbers n) (row_of n queue.maps.objects.rows))

  pub marked_receipts : (numbers : List ℕ) (queue : QueueState)
      → (marked_in is_copied numbers queue).receipts ≡ queue.receipts
  marked_receipts [] queue = refl
  marked_receipts (first ∷ numbers) queue = marked_receipts numbers (marked is_copied first queue)

  pub marked_inherited : (numbers : List ℕ) (queue : QueueState)
      → (marked_in is_copied numbers queue).inherited ≡ queue.inherited
  marked_inherited [] queue = refl
  marked_inherited (first ∷ numbers) queue = marked_inherited numbers (marked is_copied first queue)

  pub marked_removal : (numbers : List ℕ) (queue : QueueState)
      → (marked_in is_copied numbers queue).removal ≡ queue.removal
  marked_removal [] queue = refl
  marked_removal (first ∷ numbers) queue = marked_removal numbers (marked is_copied first queue)

  pub marked_frontier : (numbers : List ℕ) (queue : QueueState)
      → (marked_in is_copied numbers queue).frontier ≡ queue.frontier
  marked_frontier [] queue = refl
  marked_frontier (first ∷ numbers) queue = marked_frontier numbers (marked is_copied first queue)

  pub marked_sealed : (numbers : List ℕ) (queue : QueueState)
      → (marked_in is_copied numbers queue).sealed ≡ queue.sealed
  marked_sealed [] queue = refl
  marked_sealed (first ∷ numbers) queue = marked_sealed numbers (marked is_copied first queue)

  pub marked_settled : (numbers : List ℕ) (queue : QueueState)
      → (marked_in is_copied numbers queue).maps.settled ≡ queue.maps.settled
  marked_settled [] queue = refl
  marked_settled (first ∷ numbers) queue = marked_settled numbers (marked is_copied first queue)

  pub marked_checkpoint : (numbers : List ℕ) (queue : QueueState)
      → (marked_in is_copied numbers queue).maps.objects.checkpoint ≡ queue.maps.objects.checkpoint
  marked_checkpoint [] queue = refl
  marked_checkpoint (first ∷ numbers) queue = marked_checkpoint numbers (marked is_copied first queue)

  -- an object is in the store as it was
  stored_by : (test : Bool) (receipt : Option ReceiptState) (found : Option ObjectRow)
      → stored_with receipt (cond test (option_map (copied is_copied) found) found) ≡ stored_with receipt found
  stored_by true None found = refl
  stored_by true (Some receipt) None = refl
  stored_by true (Some receipt) (Some row) = refl
  stored_by false receipt found = refl

  pub marked_stored : (numbers : List ℕ) (queue : QueueState) (owner : Owner)
      → stored_of (marked_in is_copied numbers queue) owner ≡ stored_of queue owner
  marked_stored numbers queue owner =
      let found = row_of owner.number queue.maps.objects.rows in
      let own : stored_with (receipt_in (marked_in is_copied numbers queue).receipts owner.number)
      (row_of owner.number (marked_in is_copied numbers queue).maps.objects.rows)
      ≡ stored_with (receipt_in queue.receipts owner.number) found =
      ap (λ list. stored_with (receipt_in list owner.number)
      (row_of owner.number (marked_in is_copied numbers queue).maps.objects.rows)) (marked_receipts numbers queue)
      ∙ (ap (stored_with (receipt_in queue.receipts owner.number)) (marked_row numbers queue owner.number)
      ∙ stored_by (is_in numbers owner.number) (receipt_in queue.receipts owner.number) found) in
      let inherited : inherited_in (marked_in is_copied numbers queue).inherited owner ≡ inherited_in queue.inherited owner =
      ap (λ list. inherited_in list owner) (marked_inherited numbers queue) in
      ap (λ (s : Option StoredObject). cond (owner.level == 0) s (inherited_in (marked_in is_copied numbers queue).inherited
      owner)) own
      ∙ ap (cond (owner.level == 0) (stored_with (receipt_in queue.receipts owner.number) found)) inherited

  -- ---- the table

  -- what is seen with another plan
  abbrev with_plan : Option (List CopiedSector) → TableSeen → TableSeen
  with_plan plan seen = record seen { plan = plan }

  row_marked : (seen : TableSeen) (plan : Option (List CopiedSector)) (frontier n : ℕ) (test : Bool)
      (found : Option ObjectRow) → cond test is_copied (copies_from seen.plan n) ≡ copies_from plan n
      → RowShows seen frontier n found
      → RowShows (with_plan plan seen) frontier n (cond test (option_map (copied is_copied) found) found)
  row_marked seen plan frontier n true None same shows = record {
    known = shows.known;
    above = λ past. refl;
    unmapped = tt;
    pins_are = shows.pins_are;
    copied = tt;
    held_is = tt;
    payload_is = tt;
  }
  row_marked seen plan frontier n true (Some row) same shows =
      let low = not_past frontier n row shows.above in
      record {
        known = shows.known;
        above = λ past. absurd (omega (arith, low, past));
        unmapped = shows.unmapped;
        pins_are = shows.pins_are;
        copied = same;
        held_is = shows.held_is;
        payload_is = shows.payload_is;
      }
  row_marked seen plan frontier n false None same shows = record {
    known = shows.known;
    above = λ past. refl;
    unmapped = tt;
    pins_are = shows.pins_are;
    copied = tt;
    held_is = tt;
    payload_is = tt;
  }
  row_marked seen plan frontier n false (Some row) same shows = record {
    known = shows.known;
    above = shows.above;
    unmapped = shows.unmapped;
    pins_are = shows.pins_are;
    copied = shows.copied ∙ same;
    held_is = shows.held_is;
    payload_is = shows.payload_is;
  }

  marked_live : (test : Bool) (found : Option ObjectRow)
      → IfSome (cond test (option_map (copied is_copied) found) found) (λ row. 0 < row.live → 0 < live_in found)
  marked_live true None = tt
  marked_live true (Some row) = λ some. some
  marked_live false found = its_live found

  -- it shows the volume whose plan takes sectors from just those objects that are marked then
  pub marked_table : (numbers : List ℕ) (uploads : UploadsState) (plain : PlainState) (plan : Option (List CopiedSector))
      → IsUploads uploads → ShowsTable uploads.queue plain
      → ((n : ℕ) → cond (is_in numbers n) is_copied (copies_from plain.plan n) ≡ copies_from plan n)
      → IsPlannedTo uploads.queue.frontier plan
      → ShowsTable (marked_in is_copied numbers uploads.queue) (record plain { plan = plan })
  marked_table numbers uploads plain plan is shows same reached =
      let queue = uploads.queue in
      let new = marked_in is_copied numbers queue in
      let now : PlainState = record plain { plan = plan } in
      let live : ℕ → ℕ = λ n. live_of n queue.maps.objects.rows in
      let rows = rows_of_shown live uploads plain is (has_own_live queue.maps.objects.rows) shows in
      let frontier = marked_frontier numbers queue in
      let now_rows : RowsShow (seen_of live now) new.frontier new.maps.objects = record {
        newest = marked_checkpoint numbers queue ∙ shows.checkpoint;
        reached = subst (λ n. plain.checkpoint.number ≤ n) (sym frontier) rows.reached;
        gone = shows.gone;
        kept = subst (λ n. All (λ (m : ℕ). m ≤ n) plain.held) (sym frontier) rows.kept;
        planned = subst (λ n. IsPlannedTo n plan) (sym frontier) reached;
        rows_show = λ n.
            subst (λ m. RowShows (seen_of live now) m n (row_of n new.maps.objects.rows)) (sym frontier)
            (subst (RowShows (seen_of live now) queue.frontier n) (sym (marked_row numbers queue n))
            (row_marked (seen_of live plain) plan queue.frontier n (is_in numbers n) (row_of n queue.maps.objects.rows) (same n)
            (rows.rows_show n)));
      } in
      let some : LiveAre live new.maps.objects.rows = λ n.
      subst (λ found. IfSome found (λ row. 0 < row.live → 0 < live n)) (sym (marked_row numbers queue n))
      (marked_live (is_in numbers n) (row_of n queue.maps.objects.rows)) in
      shown_by_rows live new now (marked_removal numbers queue ∙ shows.removal) shows.free some now_rows
