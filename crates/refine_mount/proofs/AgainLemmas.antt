-- A mount of what a mount made makes the same.
use Rattle.std.proofs.Common.{◌≡◌, ℕ, ◌+◌, ◌-◌, ◌≤◌, ◌==◌, Bool, true, false, max, List, [], ◌∷◌, length, take, drop}
use Rattle.std.proofs.Common.{refl, ◌∙◌, ap, arith, length-drop}
use Rattle.std.specs.Prelude.{None}
use Rattle.std.proofs.Math.Seq.{take-nil, drop-nil}
use Rattle.std.proofs.lemmas.List.{take-take, take_all}
use Rattle.lsvd_base.specs.declared.entry.Entry.{Entry}
use Rattle.object_stream.specs.Stream.{end_after}
use Rattle.plain_disk.specs.declared.log.PlainCommit.{PlainCommit}
use Rattle.plain_disk.specs.declared.log.PlainRecord.{PlainRecord}
use Rattle.plain_disk.specs.Log.{PlainLog, point, empty_commit, empty_from, place_of_first, commit_from, past_pad, held_from}
use Rattle.plain_disk.specs.Log.{mounted_log}
use Rattle.plain_disk.specs.Cache.{cache_with}
use Rattle.plain_disk.specs.State.{PlainState}
use Rattle.plain_disk.proofs.CommitLemmas.{past_count}
use Rattle.refine_log.proofs.Following.{records_count}
use Rattle.refine_mount.specs.Mounted.{end_of_object, mounted_with, mounted_without, committed_at}
use Rattle.refine_mount.specs.Laws.{MountsKeptAgain, MountsLostAgain, LosesAgain}
use Rattle.refine_mount.proofs.GoingLemmas.{unpadded, unpadded_again, same_place}

-- ---- the log

-- the first record is past its pad once
pub past_again : (tail : ℕ) (records : List PlainRecord) → past_pad tail (past_pad tail records) ≡ past_pad tail records
past_again tail [] = refl
past_again tail (stored ∷ records) = ap (λ first. first ∷ records) (first_again (stored.at == tail) refl)
  where
    first_again : (is_past : Bool) → (stored.at == tail) ≡ is_past
        → unpadded ((unpadded is_past stored).at == tail) (unpadded is_past stored) ≡ unpadded is_past stored
    first_again true is = unpadded_again (stored.at == tail) stored
    first_again false is = ap (λ b. unpadded b stored) is

-- a log with a commit made from a seq on
module _ (log : PlainLog) (seq : ℕ) (from : log.last.tail.seq ≤ seq) where
  abbrev left : List PlainRecord
  left = drop (seq - log.last.tail.seq) log.records

  abbrev place : ℕ
  place = place_of_first log.head left

  abbrev made : PlainLog
  made = committed_at seq log

  left_count : length made.records ≡ length log.records - (seq - log.last.tail.seq)
  left_count = past_count place left ∙ length-drop (seq - log.last.tail.seq) log.records

  all_left : drop (seq - seq) made.records ≡ made.records
  all_left = (let none : seq - seq ≡ 0 = omega arith in ap (λ n. drop n made.records) none)

  -- its own commit left it so
  pub held_again : held_from (commit_from seq log) made ≡ made
  held_again =
      let many : ℕ = max seq (log.last.tail.seq + length log.records) - seq in
      let count = left_count in
      let records : take many (drop (seq - seq) made.records) ≡ made.records =
      ap (take many) all_left ∙ take_all many made.records (omega (arith, count, from)) in
      λ i. record made { records = records i }

  -- and such a commit changes nothing more
  pub made_again : committed_at seq made ≡ made
  made_again =
      let count = left_count in
      let at : place_of_first log.head (drop (seq - seq) made.records) ≡ place =
      ap (place_of_first log.head) all_left ∙ same_place log.head place 0 left in
      let next : max seq (seq + length made.records) ≡ max seq (log.last.tail.seq + length log.records) =
      omega (arith, count, from) in
      let records : past_pad (place_of_first log.head (drop (seq - seq) made.records)) (drop (seq - seq) made.records)
      ≡ made.records =
      (λ i. past_pad (at i) (all_left i)) ∙ past_again place left in
      λ i. record made {
        last = record { tail = point seq (at i); head = point (next i) log.head };
        records = records i;
      }

-- ---- the volume

-- an object after which a volume was cut off ends where it did before
pub cut_end : (plain : PlainState) (number : ℕ)
    → end_after plain.end (take (number - plain.number) (take (number - plain.number) plain.objects)) ≡ end_of_object number plain
cut_end plain number =
    let n : ℕ = number - plain.number in
    ap (end_after plain.end) (take-take n n plain.objects (omega arith))

cut_objects : (plain : PlainState) (number : ℕ)
    → take (number - plain.number) (take (number - plain.number) plain.objects) ≡ take (number - plain.number) plain.objects
cut_objects plain number = (let n : ℕ = number - plain.number in take-take n n plain.objects (omega arith))

-- of the first N entries as many are the first, and of them fewer
cut_entries : (count few many : ℕ) (entries : List Entry) → count ≡ few → few ≤ many → take count (take many entries)
    ≡ take few entries
cut_entries count few many entries same most = ap (λ n. take n (take many entries)) same ∙ take-take few many entries most

pub mounts_kept_again : MountsKeptAgain
mounts_kept_again owner plain found number left has =
    let end : ℕ = end_of_object number plain in
    let held : PlainLog = held_from found plain.cache.log in
    let mounted : PlainState = mounted_with found number plain in
    let again : ℕ = end_of_object number mounted in
    let made : PlainLog = mounted.cache.log in
    let same_end : again ≡ end = cut_end plain number in
    let rows = records_count has.rows plain.geometry.log has.body.tail.position in
    let records = ap length has.placed in
    let count = past_count has.body.tail.position held.records in
    let seqs = has.records.records.seqs in
    let tail : has.body.tail.seq ≡ found.tail.seq = ap (λ (c : PlainCommit). c.tail.seq) has.commit in
    let head : has.body.head.seq ≡ found.head.seq = ap (λ (c : PlainCommit). c.head.seq) has.commit in
    let within = has.tail in
    let from : found.tail.seq ≤ end = omega (arith, tail, within) in
    let next : found.tail.seq + length held.records ≡ found.head.seq = omega (arith, rows, records, count, seqs, tail, head) in
    let few : ℕ = max end found.head.seq - plain.end in
    let entries =
    cut_entries (max again made.last.head.seq - plain.end) few few plain.entries (omega (arith, same_end, next)) (omega arith) in
    let objects = cut_objects plain number in
    let log : mounted_log made.last again made ≡ made =
    ap (λ n. mounted_log made.last n made) same_end
    ∙ ap (committed_at end) (held_again held end from)
    ∙ made_again held end from in
    λ i. record mounted { entries = entries i; objects = objects i; cache = cache_with (log i) }

-- a log without entries is one again
empty_again : (size seq : ℕ) → mounted_log (empty_commit seq 0) seq (empty_from size seq) ≡ empty_from size seq
empty_again size seq =
    let none : List PlainRecord = take (seq - seq) (drop (seq - seq) []) in
    let is : none ≡ [] = ap (take (seq - seq)) (drop-nil (seq - seq)) ∙ take-nil (seq - seq) in
    let rest : drop (seq - seq) none ≡ [] = ap (drop (seq - seq)) is ∙ drop-nil (seq - seq) in
    let next : max seq (seq + length none) ≡ seq = (let count = ap length is in omega (arith, count)) in
    λ i. record {
      size = size;
      head = 0;
      last = record { tail = point seq (place_of_first 0 (rest i)); head = point (next i) 0 };
      records = past_pad (place_of_first 0 (rest i)) (rest i);
      unfinished = None;
    }

pub mounts_lost_again : MountsLostAgain
mounts_lost_again size plain number =
    let end : ℕ = end_of_object number plain in
    let mounted : PlainState = mounted_without size number plain in
    let again : ℕ = end_of_object number mounted in
    let same_end : again ≡ end = cut_end plain number in
    let few : ℕ = end - plain.end in
    let entries = cut_entries (max again end - plain.end) few few plain.entries (omega (arith, same_end)) (omega arith) in
    let objects = cut_objects plain number in
    let log : mounted_log (empty_commit end 0) again (empty_from size end) ≡ empty_from size end =
    ap (λ n. mounted_log (empty_commit end 0) n (empty_from size end)) same_end ∙ empty_again size end in
    λ i. record mounted { entries = entries i; objects = objects i; cache = cache_with (log i) }

-- a volume that was cut off after an object, of which no fewer entries are left
lost_of : (plain : PlainState) (number many : ℕ) → end_of_object number plain - plain.end ≤ many
    → (end_after plain.end (take (number - plain.number) (take (number - plain.number) plain.objects))
    ≡ end_of_object number plain)
    × (take (end_after plain.end (take (number - plain.number) (take (number - plain.number) plain.objects)) - plain.end)
    (take many plain.entries)
    ≡ take (end_of_object number plain - plain.end) plain.entries)
lost_of plain number many most =
    let end : ℕ = end_of_object number plain in
    let same_end = cut_end plain number in
    (same_end, cut_entries _ (end - plain.end) many plain.entries (ap (λ n. n - plain.end) same_end) most)

pub loses_again : LosesAgain
loses_again size other plain found number =
    let end : ℕ = end_of_object number plain in
    let objects = cut_objects plain number in
    let kept = lost_of plain number (max end found.head.seq - plain.end) (omega arith) in
    let lost = lost_of plain number (end - plain.end) (omega arith) in
    let mounted : PlainState = mounted_without size number plain in (
      λ i. record mounted { entries = kept.1 i; objects = objects i; cache = cache_with (empty_from size (kept.0 i)) },
      λ i. record mounted { entries = lost.1 i; objects = objects i; cache = cache_with (empty_from size (lost.0 i)) },
    )
