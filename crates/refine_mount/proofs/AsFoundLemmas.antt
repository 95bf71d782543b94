-- What a mount is to make of a plain volume is what it makes of the one that it finds, and bytes read as the same commit of both.
use Rattle.std.proofs.Common.{◌≡◌, ℕ, ◌+◌, ◌-◌, ◌≤◌, max, List, take, drop, sym, ◌∙◌, ap, arith}
use Rattle.std.proofs.lemmas.List.{drop-take}
use Rattle.lsvd_base.specs.declared.entry.Entry.{Entry}
use Rattle.plain_disk.specs.Log.{empty_from, mounted_log}
use Rattle.plain_disk.specs.Cache.{cache_with}
use Rattle.plain_disk.specs.State.{PlainState}
use Rattle.plain_disk.specs.Stops.{recovered_number, recovered_end, cut_to_count}
use Rattle.plain_disk.specs.Found.{found_in, Finds}
use Rattle.plain_disk.proofs.EndLemmas.{ends_from}
use Rattle.plain_disk.proofs.FoundLemmas.{found_is, found_has_counts, mounts_of_found}
use Rattle.plain_disk.proofs.FoundStreamLemmas.{found_has_stream}
use Rattle.refine_log.specs.Stops.{entries_past}
use Rattle.refine_mount.specs.Mounted.{end_of_object, sizes_with}
use Rattle.refine_mount.specs.Laws.{MountsAsFound, FoundHasCommit}

-- ---- what a mount is to make

pub mounts_as_found : MountsAsFound
mounts_as_found plain landed found log valid may reached =
    let finds : Finds landed plain = record { valid = valid; may = may; opened = reached } in
    let number : ℕ = recovered_number landed plain in
    let there : PlainState = found_in landed plain in
    let ends : recovered_end landed plain ≡ end_of_object number there = sym (found_has_counts plain landed finds).end in
    let is = mounts_of_found plain landed found log finds in (
      is.kept ∙ ap (λ end. record (cut_to_count number (max end found.head.seq) there) {
        cache = cache_with (mounted_log found end plain.cache.log);
      }) ends,
      is.lost ∙ ap (λ end. record (cut_to_count number end there) {
        geometry = sizes_with log plain.geometry;
        cache = cache_with (empty_from log end);
      }) ends,
    )

-- ---- commits

-- the entries past some, up to a head, are the first of those past them
past_are : (end count head : ℕ) (entries : List Entry) → end ≤ count
    → drop (count - end) (take (max count head - end) entries) ≡ take (max count head - count) (drop (count - end) entries)
past_are end count head entries from =
    let sum : max count head - end ≡ count - end + (max count head - count) = omega (arith, from) in
    ap (λ n. drop (count - end) (take n entries)) sum ∙ drop-take (count - end) (max count head - count) entries

-- two volumes with the same entries from a count on have the same past it
same_past : (plain other : PlainState) (count head : ℕ) → plain.end ≤ count → other.end ≤ count
    → drop (count - other.end) other.entries ≡ drop (count - plain.end) plain.entries
    → entries_past plain count head ≡ entries_past other count head
same_past plain other count head from later same =
    past_are plain.end count head plain.entries from
    ∙ (ap (take (max count head - count)) (sym same)
    ∙ sym (past_are other.end count head other.entries later))

pub found_has_commit : FoundHasCommit
found_has_commit owner plain landed found count left valid may reached past has =
    let finds : Finds landed plain = record { valid = valid; may = may; opened = reached } in
    let number : ℕ = recovered_number landed plain in
    let there : PlainState = found_in landed plain in
    let ends : end_of_object number there ≡ recovered_end landed plain = (found_has_counts plain landed finds).end in
    let from : plain.end ≤ count = omega (arith, ends_from plain number valid, past) in
    let later : there.end ≤ count = omega (arith, ends_from there number (found_is plain landed finds), ends, past) in
    record {
      number = has.number;
      body = has.body;
      is_of = has.is_of;
      commit = has.commit;
      slots = has.slots;
      rows = has.rows;
      records = has.records;
      placed = has.placed;
      tail = has.tail;
      entries = has.entries ∙ same_past plain there count has.body.head.seq from later
          ((found_has_stream plain landed finds).later count later);
    }
