-- What a mount without the cache makes of a plain volume, and that the list that was recovered shows it.
use Rattle.std.proofs.Common.{◌≡◌, ℕ, ◌-◌, ◌<◌, ◌≤◌, true, List, [], take, refl, sym, ◌∙◌, ap, subst, arith}
use Rattle.std.specs.Prelude.{IsTrue}
use Rattle.std.specs.List.{All}
use Rattle.std.proofs.Math.Path.{subst₂}
use Rattle.std.proofs.lemmas.List.{take-take}
use Rattle.std.proofs.lemmas.List.Elements.{All-weaker}
use Rattle.lsvd_base.specs.declared.entry.Entry.{Entry}
use Rattle.lsvd_base.specs.declared.entry.Entry.TheVariants.{Write, Zero}
use Rattle.lsvd_base.specs.declared.geometry.Geometry.{Geometry}
use Rattle.lsvd_base.specs.Image.{after}
use Rattle.lsvd_base.specs.Limits.{is_within_limits}
use Rattle.lsvd_base.specs.Range.{is_in_range}
use Rattle.log_room.specs.Room.{max_log}
use Rattle.object_stream.specs.Stream.{end_after, last_number}
use Rattle.upload_window.specs.Window.{below_open}
use Rattle.object_uploads.specs.Image.{HasImage}
use Rattle.plain_disk.specs.Log.{empty_from}
use Rattle.plain_disk.specs.Cache.{PlainCache, cache_with}
use Rattle.plain_disk.specs.State.{PlainState, stream_in, history_length, frontier_end}
use Rattle.plain_disk.specs.Valid.{IsPlainVolume, IsPlainCheckpoint, IsKeptByHold, IsPlainLog}
use Rattle.plain_disk.proofs.EndLemmas.{ends_within}
use Rattle.plain_disk.proofs.EventLemmas.{log_has_sectors}
use Rattle.plain_disk.proofs.MountLemmas.{cut_is, cut_count}
use Rattle.refine_objects.specs.Shows.{settled_image}
use Rattle.refine_mount.specs.Mounted.{end_of_object, cut_to_object, sizes_with}
use Rattle.refine_mount.specs.Laws.{MountedIsAtRest, RecoveredShowsObjects}

-- ---- the volume at rest

-- a log of so many sectors, without entries
emptied_is : (size end : ℕ) → 0 < size → size ≤ max_log → IsPlainLog end end (empty_from size end)
emptied_is size end some most = record {
  counted = omega arith;
  room = record { limit = most; head = some; used = omega arith };
  last = record { order = omega arith; tail = omega arith; head = omega arith; place = some };
  unfinished = tt;
}

-- the entries that a volume takes do not depend on its log
still_in_range : (log : ℕ) (geometry : Geometry) (entry : Entry) → is_in_range geometry entry ≡ true
    → is_in_range (sizes_with log geometry) entry ≡ true
still_in_range log geometry (Write lba body) in_range = in_range
still_in_range log geometry (Zero lba sectors) in_range = in_range

-- a plain volume has another cache, whose log may be of another length, and whatever objects were removed
moved_is : (log : ℕ) (plain : PlainState) (removed : List ℕ) (cache : PlainCache) → IsPlainVolume plain
    → IsTrue (is_within_limits (sizes_with log plain.geometry)) → cache.log.size ≡ log
    → IsPlainLog (frontier_end plain) (history_length plain) cache.log
    → IsPlainVolume (record plain { geometry = sizes_with log plain.geometry; removed = removed; cache = cache })
moved_is log plain removed cache valid limits size of_log = record {
  limits = limits;
  sectors = valid.sectors;
  owned = valid.owned;
  payloads = valid.payloads;
  in_range =
      All-weaker (λ entry. is_in_range plain.geometry entry ≡ true)
      (λ entry. is_in_range (sizes_with log plain.geometry) entry ≡ true) (still_in_range log plain.geometry) plain.entries
      valid.in_range;
  stream = valid.stream;
  window = valid.window;
  last = valid.last;
  opened = valid.opened;
  begun = valid.begun;
  checkpoint = valid.checkpoint;
  held = valid.held;
  log = of_log;
  size = size;
}

-- an object after which a volume was cut off ends where it did before
cut_end : (plain : PlainState) (number : ℕ) → frontier_end (cut_to_object number plain) ≡ end_of_object number plain
cut_end plain number =
    let count = number - plain.number in
    ap (end_after plain.end) (take-take count count plain.objects (omega arith))

-- the newest acknowledged checkpoint is so of the objects up to a number that is not before it
newest_is : (plain : PlainState) (number : ℕ) → IsPlainVolume plain → plain.checkpoint.number ≤ number
    → IsPlainCheckpoint (stream_in plain) number plain.given_out plain.checkpoint
newest_is plain number valid from =
    let is = valid.checkpoint in
    record { numbered = is.numbered; reached = from; holds = is.holds; still = is.still; unneeded = is.unneeded }

pub mounted_is_at_rest : MountedIsAtRest
mounted_is_at_rest uuid log plain number objects valid has limits =
    let end : ℕ = end_of_object number plain in
    let from : plain.number ≤ number = omega (arith, has.stored.stored.base, has.stored.stored.missing.above) in
    let last : number ≤ last_number (stream_in plain) = has.stored.stored.last in
    let within : end ≤ history_length plain = ends_within plain number valid last in
    let frontier = cut_end plain number in
    let history = cut_count plain number end valid (omega arith) within in
    let same : PlainCache = cache_with (empty_from plain.cache.log.size end) in
    let old_log = emptied_is plain.cache.log.size end (omega (arith, valid.log.room.head)) valid.log.room.limit in
    let newest = newest_is plain number valid (omega (arith, has.opened, from)) in
    let held = subst (λ n. All (IsKeptByHold n plain.given_out) plain.held) (ap below_open has.window) valid.held in
    let old = cut_is plain number end plain.checkpoint plain.given_out same valid from last (omega arith) within newest held
    valid.size old_log in
    let sectors = log_has_sectors (sizes_with log plain.geometry) limits in
    let of_log = subst₂ (λ e c. IsPlainLog e c (empty_from log end)) (sym frontier) (sym history)
    (emptied_is log end sectors.0 sectors.1) in
    record {
      valid =
          moved_is log (record (cut_to_object number plain) { removed = plain.given_out; cache = same }) plain.removed
          (cache_with (empty_from log end)) old limits refl of_log;
      geometry_is = refl;
      checkpoint_is = refl;
      none = refl;
      frontier = frontier;
      history = history;
      pins = refl;
      none_out = refl;
      no_plan = refl;
      gone = has.gone;
      cache = refl;
    }

-- ---- the list

-- all entries that are left are in objects
cut_image : (plain : PlainState) (number : ℕ)
    → settled_image (cut_to_object number plain) ≡ after plain.opening
    (take (end_of_object number plain - plain.end) plain.entries)
cut_image plain number =
    let count = end_of_object number plain - plain.end in
    ap (λ end. after plain.opening (take (end - plain.end) (take count plain.entries))) (cut_end plain number)
    ∙ ap (after plain.opening) (take-take count count plain.entries (omega arith))

pub recovered_shows_objects : RecoveredShowsObjects
recovered_shows_objects uuid data_at size plain number objects log valid has list recovered =
    record {
      geometry = list.geometry_is;
      ancestors = list.ancestors_are;
      stream = recovered.streams.of_stream data_at;
      window = list.window ∙ ap (λ n. record { last = n; objects = [] }) recovered.number_is;
      image = subst (λ i. HasImage i log.uploads.queue) (sym (cut_image plain number)) recovered.streams.image;
      receipts = recovered.streams.receipts;
      copied = λ tells alike. rw list.sealed tt;
    }
