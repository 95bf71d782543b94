-- What a volume and the plain volume that it shows have of a sector: its place in the log's map, the entry that left it there,
-- and the sector itself.
use Rattle.std.proofs.Common.{◌≡◌, ℕ, ◌-◌, ◌<◌, length, take, drop, get_or, sym, ◌∙◌, ap, subst, arith}
use Rattle.std.specs.List.{slice_get, All}
use Rattle.std.proofs.lemmas.List.{take-append-drop}
use Rattle.std.proofs.lemmas.List.Elements.{All-take, All-drop}
use Rattle.lsvd_base.specs.declared.entry.Entry.{Entry}
use Rattle.lsvd_base.specs.Image.{after}
use Rattle.lsvd_base.specs.Laws.{EndsBy}
use Rattle.lsvd_base.proofs.SectorLemmas.{applies_in_parts}
use Rattle.cache_log.specs.Log.{LogState}
use Rattle.object_stream.specs.Changes.{change_at}
use Rattle.object_stream.specs.Laws.{changed_by}
use Rattle.object_stream.proofs.ChangeLemmas.{changes_make_image}
use Rattle.object_stream.proofs.ValueLemmas.{length-after}
use Rattle.volume_maps.specs.Places.{left_at}
use Rattle.volume_maps.specs.Maps.{logged_at}
use Rattle.obj_log.specs.State.{ObjLogState}
use Rattle.plain_disk.specs.State.{PlainState, stream_in, image_now, frontier_end, logged_entries}
use Rattle.plain_disk.specs.Valid.{IsPlainVolume}
use Rattle.plain_disk.proofs.Overlaid.{EndsBy-in_range, EndsBy-more}
use Rattle.object_stream.specs.Stream.{end_at}
use Rattle.refine_objects.specs.Shows.{settled_image}
use Rattle.refine_objects.specs.Laws.{HasCounts}
use Rattle.refine_objects.proofs.ShowLemmas.{shown_have_counts}
use Rattle.vol_core.specs.ReadLaws.{ShowsReads}
use Rattle.vol_core.proofs.LeftLemmas.{LeavesAt, entries_leave}

-- ---- the image

module _ (plain : PlainState) (valid : IsPlainVolume plain) where
  all_end : All (EndsBy (length plain.opening)) plain.entries
  all_end = λ i d inside.
      let entry : Entry = get_or plain.entries i d in
      EndsBy-more plain.geometry.sectors (length plain.opening) entry
      (EndsBy-in_range plain.geometry entry (valid.in_range i d inside))
      (omega (arith, valid.sectors))

  settled_count : length (settled_image plain) ≡ length plain.opening
  settled_count =
      let count = frontier_end plain - plain.end in
      length-after plain.opening (take count plain.entries) (All-take (EndsBy (length plain.opening)) count plain.entries all_end)

  pub settled_has_sectors : length (settled_image plain) ≡ plain.geometry.sectors
  settled_has_sectors = settled_count ∙ valid.sectors

  pub image_has_sectors : length (image_now plain) ≡ plain.geometry.sectors
  image_has_sectors = length-after plain.opening plain.entries all_end ∙ valid.sectors

  image_in_parts : image_now plain ≡ after (settled_image plain) (logged_entries plain)
  image_in_parts =
      let count = frontier_end plain - plain.end in
      sym (ap (after plain.opening) (take-append-drop count plain.entries))
      ∙ applies_in_parts plain.opening (take count plain.entries) (drop count plain.entries)

  -- a sector is that of the settled image, as the logged entries change it
  pub sector_now : (k : ℕ) → k < plain.geometry.sectors
      → slice_get (image_now plain) k ≡ changed_by (change_at (logged_entries plain) k) (slice_get (settled_image plain) k)
  sector_now k inside =
      let count = frontier_end plain - plain.end in
      let later : All (EndsBy (length (settled_image plain))) (logged_entries plain) =
      subst (λ n. All (EndsBy n) (logged_entries plain)) (sym settled_count)
      (All-drop (EndsBy (length plain.opening)) count plain.entries all_end) in
      ap (λ image. slice_get image k) image_in_parts
      ∙ changes_make_image (settled_image plain) (logged_entries plain) k later (omega (arith, settled_has_sectors))

-- ---- the maps

module _ (data_at : ℕ → ℕ) (objects : ObjLogState) (log : LogState) (plain : PlainState)
    (shows : ShowsReads data_at objects log plain) where
  pub counts : HasCounts objects plain
  counts = shown_have_counts data_at objects plain shows.ordered shows.valid shows.objects_are

  logged_is : (k : ℕ) → logged_at objects.uploads.queue.maps k ≡ left_at data_at (frontier_end plain) (logged_entries plain) k
  logged_is k =
      let end_of = λ (number : ℕ). end_at (stream_in plain) number in
      shows.objects_are.stream.objects.logged k
      ∙ (ap (λ end. left_at data_at end (drop (end_of objects.uploads.queue.frontier - plain.end) plain.entries) k) counts.end
      ∙ ap (λ number. left_at data_at (frontier_end plain) (drop (end_of number - plain.end) plain.entries) k) counts.frontier)

  -- the log's map has a sector where the logged entries leave it
  pub logged_leave : (k : ℕ) → LeavesAt data_at (frontier_end plain) (logged_entries plain) k
      (logged_at objects.uploads.queue.maps k)
  logged_leave k =
      subst (LeavesAt data_at (frontier_end plain) (logged_entries plain) k) (sym (logged_is k))
      (entries_leave data_at (frontier_end plain) (logged_entries plain) k)
