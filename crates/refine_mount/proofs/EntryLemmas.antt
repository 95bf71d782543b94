-- A list goes on with entries that are added one after the other, and so does the plain volume that it shows.
use Rattle.std.proofs.Common.{◌≡◌, ℕ, ◌+◌, ◌-◌, ◌≤◌, List, [], ◌∷◌, length, sym, ◌∙◌, subst, arith, append_assoc, length-append}
use Rattle.std.proofs.lemmas.List.{append-nil, take-append-le}
use Rattle.lsvd_base.specs.declared.entry.Entry.{Entry}
use Rattle.lsvd_base.specs.Image.{after}
use Rattle.object_uploads.specs.Order.{IsUploads}
use Rattle.object_uploads.specs.Image.{HasImage, AreCopied}
use Rattle.obj_log.specs.State.{ObjLogState}
use Rattle.obj_log.specs.Changes.{IsAdded}
use Rattle.obj_log.proofs.StreamLemmas.{adding_keeps_stream, next_seq}
use Rattle.obj_log.proofs.ImageLemmas.{adding_keeps_image}
use Rattle.plain_disk.specs.Log.{PlainLog}
use Rattle.plain_disk.specs.Cache.{cache_with}
use Rattle.plain_disk.specs.State.{PlainState, stream_in, history_length, frontier_end}
use Rattle.refine_objects.specs.Shows.{settled_image, ShowsObjects}
use Rattle.refine_objects.proofs.AlikeLemmas.{same_alike}
use Rattle.refine_objects.proofs.ShowLemmas.{room_shows_same, shown_with_other_cache}
use Rattle.refine_mount.specs.Mounted.{going_on, AddsEntries}
use Rattle.refine_mount.specs.Laws.{EntriesGoOn}

-- the volume has the entries up to its frontier's end
abbrev HasEntriesToFrontier : PlainState → Type 0
HasEntriesToFrontier plain = frontier_end plain - plain.end ≤ length plain.entries

module _ (data_at : ℕ → ℕ) (log : PlainLog) where
  entry_goes_on : (entry : Entry) (old new : ObjLogState) (plain : PlainState)
      → IsUploads old.uploads → HasEntriesToFrontier plain → ShowsObjects data_at old plain
      → IsAdded entry (data_at (old.batch.first + length old.batch.entries)) old new
      → ShowsObjects data_at new (going_on (entry ∷ []) log plain)
  entry_goes_on entry old new plain uploads has shows added =
      let seq : old.batch.first + length old.batch.entries ≡ history_length plain =
      next_seq data_at (stream_in plain) old shows.stream in
      let at = subst (λ n. IsAdded entry (data_at n) old new) seq added in
      let kept = adding_keeps_image entry (data_at (history_length plain)) old new at in
      let same = take-append-le (frontier_end plain - plain.end) plain.entries (entry ∷ []) has in
      record {
        geometry = added.geometry ∙ shows.geometry;
        ancestors = added.ancestors ∙ shows.ancestors;
        stream = adding_keeps_stream data_at (stream_in plain) old new entry uploads shows.stream at;
        window = added.window ∙ shows.window;
        image =
            subst (λ entries. HasImage (after plain.opening entries) new.uploads.queue) (sym same)
            (kept.image (settled_image plain) shows.image);
        receipts = kept.receipts shows.receipts;
        copied = λ tells alike.
            subst (λ entries. AreCopied tells (after plain.opening entries) new.uploads.queue) (sym same)
            (kept.copies tells (settled_image plain)
            (shows.copied tells (same_alike tells old.uploads.queue new.uploads.queue at.entered.receipts at.entered.inherited
            at.entered.sealed alike)));
      }

  all_go_on : (entries : List Entry) (old new : ObjLogState) (plain : PlainState) → HasEntriesToFrontier plain
      → ShowsObjects data_at old plain → AddsEntries data_at entries old new
      → ShowsObjects data_at new (going_on entries log plain)
  all_go_on [] old new plain has shows same =
      subst (λ (list : List Entry). ShowsObjects data_at new (record plain { entries = list; cache = cache_with log }))
      (sym (append-nil plain.entries))
      (shown_with_other_cache data_at new plain (cache_with log) plain.pins (room_shows_same data_at old new plain shows same))
  all_go_on (entry ∷ entries) old new plain has shows adds =
      let ready = room_shows_same data_at old adds.0 plain shows adds.2 in
      let added = entry_goes_on entry adds.0 adds.1 plain adds.3 has ready adds.4 in
      let more = length-append plain.entries (entry ∷ []) in
      let rest = all_go_on entries adds.1 new (going_on (entry ∷ []) log plain) (omega (arith, more)) added adds.5 in
      subst (λ (list : List Entry). ShowsObjects data_at new (record plain { entries = list; cache = cache_with log }))
      (append_assoc plain.entries (entry ∷ []) entries) rest

pub entries_go_on : EntriesGoOn
entries_go_on data_at geometry checkpoint end plain entries log old new rest shows adds =
    all_go_on data_at log entries old new plain (omega (arith, rest.frontier, rest.history)) shows adds
