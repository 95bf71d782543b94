-- What a list has in common with the plain volume that it shows, and that it goes on showing it.
use Rattle.std.proofs.Common.{◌≡◌, ℕ, ◌+◌, ◌-◌, ◌<◌, ◌≤◌, None, List, [], ◌∷◌, length, drop, refl, sym, ◌∙◌, ap, subst, arith}
use Rattle.std.proofs.Common.{length-drop}
use Rattle.std.specs.Option.{option_or}
use Rattle.std.proofs.lemmas.List.{take-append-le}
use Rattle.lsvd_base.specs.declared.entry.Entry.{Entry}
use Rattle.lsvd_base.specs.declared.geometry.Geometry.{Geometry}
use Rattle.lsvd_base.specs.Image.{after}
use Rattle.upload_window.specs.Window.{below_open}
use Rattle.object_stream.specs.Stream.{end_at}
use Rattle.volume_maps.specs.Places.{place_left_by, left_at}
use Rattle.object_uploads.specs.Image.{HasImage, AreCopied}
use Rattle.object_uploads.proofs.UploadsKept.{frontier_below}
use Rattle.batcher.specs.State.{BatchState}
use Rattle.obj_log.proofs.StreamLemmas.{new_list_begins_stream, room_keeps_stream, adding_keeps_stream, next_seq}
use Rattle.obj_log.proofs.ImageLemmas.{new_list_has_blank, room_keeps_image, adding_keeps_image}
use Rattle.plain_disk.specs.State.{created_volume, stream_in, history_length, frontier_of, frontier_end}
use Rattle.plain_disk.proofs.EndLemmas.{frontier_ends}
use Rattle.refine_objects.specs.Shows.{settled_image}
use Rattle.refine_objects.specs.Laws.{ShownHaveCounts, NewShowsCreated, ShownWithOtherCache, ShownWithOtherPlaces, RoomShowsSame}
use Rattle.refine_objects.specs.Laws.{AddedShowsEntry}
use Rattle.refine_objects.proofs.AlikeLemmas.{same_alike}

pub shown_have_counts : ShownHaveCounts
shown_have_counts data_at objects plain uploads valid shows =
    let below = frontier_below objects.uploads uploads in
    let frontier : objects.uploads.queue.frontier ≡ frontier_of plain = sym below ∙ ap below_open shows.window in
    record {
      frontier = frontier;
      end = shows.stream.objects.end ∙ ap (end_at (stream_in plain)) frontier;
      entries = shows.stream.entries;
      next = next_seq data_at (stream_in plain) objects shows.stream;
    }

pub new_shows_created : NewShowsCreated
new_shows_created data_at objects geometry limits batch uploads sectors ancestors window frontier end sealed settled logged =
    let first = ap (λ (b : BatchState). b.first) batch in
    let entries = ap (λ (b : BatchState). b.entries) batch in
    let geometry_is = ap (λ (b : BatchState). b.geometry) batch in
    let sectors_are = sectors ∙ sym (ap (λ (g : Geometry). g.sectors) geometry_is) in
    let has = new_list_has_blank objects geometry.sectors sealed settled in
    record {
      geometry = geometry_is;
      ancestors = ancestors;
      stream = new_list_begins_stream data_at objects 1 0 (λ k. None) (λ k. 0) first entries sectors_are window frontier end
          sealed logged uploads (λ k. rw settled refl) (λ k. rw settled tt);
      window = window;
      image = has.0;
      receipts = has.1;
      copied = λ tells alike. has.2 tells (settled_image (created_volume geometry));
    }

pub shown_with_other_cache : ShownWithOtherCache
shown_with_other_cache data_at objects plain cache pins shows = record {
  geometry = shows.geometry;
  ancestors = shows.ancestors;
  stream = shows.stream;
  window = shows.window;
  image = shows.image;
  receipts = shows.receipts;
  copied = shows.copied;
}

-- where entries leave a sector depends only on where their own data begin
left_same : (data_at other : ℕ → ℕ) (first : ℕ) (entries : List Entry) (k : ℕ)
    → ((seq : ℕ) → first ≤ seq → seq < first + length entries → other seq ≡ data_at seq)
    → left_at data_at first entries k ≡ left_at other first entries k
left_same data_at other first [] k same = refl
left_same data_at other first (entry ∷ entries) k same =
    let rest = left_same data_at other (first + 1) entries k (λ seq from to. same seq (omega arith) (omega arith)) in
    let here : other first ≡ data_at first = same first (omega arith) (omega arith) in
    ap (λ place. option_or place (place_left_by first (data_at first) entry k)) rest
    ∙ ap (λ at. option_or (left_at other (first + 1) entries k) (place_left_by first at entry k)) (sym here)

pub shown_with_other_places : ShownWithOtherPlaces
shown_with_other_places data_at other objects plain same shows =
    let are = shows.stream.objects in
    let end = objects.uploads.queue.end in
    let skipped = end_at (stream_in plain) objects.uploads.queue.frontier - plain.end in
    let rest = drop skipped plain.entries in
    let size : length rest ≡ length plain.entries - (end - plain.end) =
    length-drop skipped plain.entries ∙ ap (λ e. length plain.entries - (e - plain.end)) (sym are.end) in
    record {
      geometry = shows.geometry;
      ancestors = shows.ancestors;
      stream = record {
        objects = record {
          valid = are.valid;
          from = are.from;
          last = are.last;
          end = are.end;
          settled = are.settled;
          placed = are.placed;
          sealed = are.sealed;
          logged = λ k. are.logged k ∙ left_same data_at other end rest k (λ seq from to. same seq from (omega (arith, size)));
        };
        sectors = shows.stream.sectors;
        first = shows.stream.first;
        entries = shows.stream.entries;
      };
      window = shows.window;
      image = shows.image;
      receipts = shows.receipts;
      copied = shows.copied;
    }

pub room_shows_same : RoomShowsSame
room_shows_same data_at old new plain shows same =
    let kept = room_keeps_image old new same in
    record {
      geometry = same.geometry ∙ shows.geometry;
      ancestors = same.uploads.ancestors ∙ shows.ancestors;
      stream = room_keeps_stream data_at (stream_in plain) old new shows.stream same;
      window = same.uploads.window ∙ shows.window;
      image = kept.image (settled_image plain) shows.image;
      receipts = kept.receipts shows.receipts;
      copied = λ tells alike. kept.copies tells (settled_image plain)
          (shows.copied tells (same_alike tells old.uploads.queue new.uploads.queue same.uploads.settled.receipts
          same.uploads.settled.inherited same.uploads.sealed alike));
    }

pub added_shows_entry : AddedShowsEntry
added_shows_entry data_at old new plain entry uploads valid shows added =
    let kept = adding_keeps_image entry (data_at (history_length plain)) old new added in
    let count = frontier_end plain - plain.end in
    let within : count ≤ length plain.entries = omega (arith, frontier_ends plain valid) in
    let same = take-append-le count plain.entries (entry ∷ []) within in
    record {
      geometry = added.geometry ∙ shows.geometry;
      ancestors = added.ancestors ∙ shows.ancestors;
      stream = adding_keeps_stream data_at (stream_in plain) old new entry uploads shows.stream added;
      window = added.window ∙ shows.window;
      image = subst (λ entries. HasImage (after plain.opening entries) new.uploads.queue) (sym same)
          (kept.image (settled_image plain) shows.image);
      receipts = kept.receipts shows.receipts;
      copied = λ tells alike.
          subst (λ entries. AreCopied tells (after plain.opening entries) new.uploads.queue) (sym same)
          (kept.copies tells (settled_image plain) (shows.copied tells (same_alike tells old.uploads.queue new.uploads.queue
          added.entered.receipts added.entered.inherited added.entered.sealed alike)));
    }
