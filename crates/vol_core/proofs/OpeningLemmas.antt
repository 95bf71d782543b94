-- A volume that shows a plain volume whose first objects were folded into its image shows that volume as it opens.
use Rattle.std.proofs.Common.{◌≡◌, ℕ, ◌<◌, ◌≤◌, Option, Some, None, IfSome, List, ◌∷◌, refl, sym, ◌∙◌, ap, subst}
use Rattle.std.specs.Prelude.{slice_index_or}
use Rattle.std.proofs.Math.Path.{subst₂}
use Rattle.lsvd_base.specs.declared.entry.Entry.{Entry}
use Rattle.cache_log.specs.Log.{LogState, AreRowsOf}
use Rattle.object_table.specs.declared.row.ObjectRow.{ObjectRow}
use Rattle.object_table.specs.Table.{row_of}
use Rattle.object_uploads.specs.State.{QueueState}
use Rattle.plain_disk.specs.State.{PlainState, frontier_end, logged_entries, payload_of, folded_to}
use Rattle.plain_disk.proofs.FoldLemmas.{MayFold, frontier_end_of_fold, logged_of_fold, payloads_of_fold}
use Rattle.refine_log.specs.Logged.{listed_from, HasLoggedEntries}
use Rattle.refine_objects.specs.Table.{ShowsTable}
use Rattle.refine_objects.proofs.FoldedShown.{shown_from_first}
use Rattle.refine_objects.proofs.PlanCalls.{others_keep_plan}
use Rattle.vol_core.specs.Opening.{ShowsFromFirst}

-- the entries of a list from an end on, where the end and the entries are told in another way
told_alike : (log : LogState) (end other : ℕ) (entries left : List Entry) (told : Option (List Entry)) → end ≡ other
    → entries ≡ left
    → IfSome told (λ list. listed_from end log list ≡ entries)
    → IfSome told (λ list. listed_from other log list ≡ left)
told_alike log end other entries left None same same_left are = tt
told_alike log end other entries left (Some list) same same_left are =
    ap (λ n. listed_from n log list) (sym same) ∙ (are ∙ same_left)

module _ (plain : PlainState) (number : ℕ) (h : MayFold plain number) where
  -- the log has the same entries past the frontier's end
  logged_from_first : (data_at : ℕ → ℕ) (log : LogState) → HasLoggedEntries data_at log (folded_to number plain)
      → HasLoggedEntries data_at log plain
  logged_from_first data_at log is =
      let end = frontier_end_of_fold plain number h in
      let left = logged_of_fold plain number h in
      record {
        first = subst (λ n. log.first ≤ n) end is.first;
        rows = subst₂ (λ n (list : List Entry). AreRowsOf (listed_from n log log.rows) list) end left is.rows;
        entries =
            told_alike log (frontier_end (folded_to number plain)) (frontier_end plain) (logged_entries (folded_to number plain))
            (logged_entries plain) log.entries end left is.entries;
        placed = is.placed;
      }

  -- so have the objects of a table their payload
  payloads_from_first : (other : ℕ) (found : Option ObjectRow)
      → IfSome found (λ row. 0 < row.live → row.payload ≡ payload_of (folded_to number plain) other)
      → IfSome found (λ row. 0 < row.live → row.payload ≡ payload_of plain other)
  payloads_from_first other None has = tt
  payloads_from_first other (Some row) has = λ live.
      has live ∙ ap (λ (list : List ℕ). slice_index_or (0 ∷ list) other 0) (payloads_of_fold plain number h)

  -- folding changes nothing that a table tells
  table_from_first : (queue : QueueState) → ShowsTable queue (folded_to number plain) → ShowsTable queue plain
  table_from_first queue is = record {
    checkpoint = is.checkpoint;
    removal = is.removal;
    known = is.known;
    unmapped = is.unmapped;
    pins = is.pins;
    copied = is.copied;
    held = is.held;
    payload = λ other. payloads_from_first other (row_of other queue.maps.objects.rows) (is.payload other);
    free = is.free;
    gone = is.gone;
    kept = is.kept;
    reached = is.reached;
  }

pub shows_from_first : ShowsFromFirst
shows_from_first volume plain number valid from to none placed shows =
    let h : MayFold plain number = record { valid = valid; from = from; to = to } in
    record {
      valid = valid;
      data_at = shows.data_at;
      objects = shown_from_first shows.data_at volume.objects plain number valid from to none placed shows.objects;
      table = table_from_first plain number h volume.objects.uploads.queue shows.table;
      plan =
          others_keep_plan volume.objects.uploads.queue volume.plan (folded_to number plain) plain refl refl shows.table
          shows.plan;
      log = shows.log;
      logged = logged_from_first plain number h shows.data_at volume.log shows.logged;
      fuse = shows.fuse;
    }
