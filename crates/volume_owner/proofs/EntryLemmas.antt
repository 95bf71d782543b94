-- What an entry of the plain volume is answered: that it is entered, or where nothing is left to seal and to put, that a call
-- failed.
use Rattle.std.proofs.Common.{arith, ◌≡◌, ℕ, ◌+◌, ◌*◌, ◌-◌, ◌≤◌, ◌<◌, ◌⊎◌, inl, inr, nat_le, nat_lt, Bool, true, false, not, ◌&&◌}
use Rattle.std.proofs.Common.{◌||◌, Option, Some, None, is_some, unwrap_or, IsTrue, List, [], ◌∷◌, length, length-drop, refl, sym}
use Rattle.std.proofs.Common.{◌∙◌, ap, subst}
use Rattle.std.specs.Prelude.{option_map, if◌then◌else◌}
use Rattle.std.specs.List.{sum_by}
use Rattle.std.proofs.lemmas.Bool.Decides.{nat_tests}
use Rattle.lsvd_base.specs.declared.entry.Entry.{Entry}
use Rattle.lsvd_base.specs.declared.entry.Entry.TheVariants as entries
use Rattle.lsvd_base.specs.declared.geometry.Geometry.{Geometry}
use Rattle.lsvd_base.specs.Limits.{is_within_limits}
use Rattle.lsvd_base.specs.Range.{is_in_range}
use Rattle.lsvd_device.specs.Calls.{passes}
use Rattle.batcher.specs.declared.full.Full.{Full}
use Rattle.batcher.specs.declared.full.Full.TheVariants as full
use Rattle.batcher.specs.Batch.{data_sectors, fullness}
use Rattle.log_room.specs.Room.{IsRoom, need, free, record_sectors}
use Rattle.object_stream.specs.Stream.{end_at, last_number}
use Rattle.upload_window.specs.declared.object.OpenObject.{OpenObject}
use Rattle.upload_window.specs.Window.{below_lowest}
use Rattle.plain_disk.specs.declared.event.PlainReply.{PlainReply}
use Rattle.plain_disk.specs.declared.event.PlainReply.TheVariants as replies
use Rattle.plain_disk.specs.declared.log.PlainRecord.{PlainRecord}
use Rattle.plain_disk.specs.Log.{PlainLog, used_by, room_in}
use Rattle.plain_disk.specs.Cache.{PlainCache, passes_entry, passes_commit, cache_after_commit}
use Rattle.plain_disk.specs.State.{PlainState, stream_in, history_length, frontier_of, frontier_end, unsealed_entries}
use Rattle.plain_disk.specs.Entries.{reply_of_full, batch_refusal, has_room_for, cache_for, commits_are_made, enter_reply}
use Rattle.plain_disk.specs.Valid.{IsPlainVolume}
use Rattle.plain_disk.proofs.CommitLemmas.{IsLogOf, commit_keeps}
use Rattle.plain_disk.proofs.EndLemmas.{ends_from, frontier_ends}
use Rattle.refine_log.proofs.PlainCommits.{commit_made, calls_of_commit}
use Rattle.volume_owner.proofs.PlainLemmas.{is_entered}

-- ---- whether it is entered

-- what is answered by a refusal of the batch, and by whether a commit was made, there is room, and the record's writes pass
abbrev answered : Option PlainReply → (made room passed : Bool) → (no_room : PlainReply) (count : ℕ) → PlainReply
answered refusal made room passed no_room count =
    unwrap_or refusal
    (if not made then replies.Fault else (if not room then no_room else
    (if passed then replies.Entered count else replies.Fault)))

abbrev taken : Option PlainReply → (made room passed : Bool) → Bool
taken refusal made room passed = not (is_some refusal) && made && room && passed

taken_answers : (refusal : Option PlainReply) (made room passed : Bool) (no_room : PlainReply) (count : ℕ)
    → taken refusal made room passed ≡ true
    → answered refusal made room passed no_room count ≡ replies.Entered count
taken_answers None true true true no_room count is = refl
taken_answers None true true false no_room count is = let bad : ⊥ = cc in absurd bad
taken_answers None true false passed no_room count is = let bad : ⊥ = cc in absurd bad
taken_answers None false room passed no_room count is = let bad : ⊥ = cc in absurd bad
taken_answers (Some reply) made room passed no_room count is = let bad : ⊥ = cc in absurd bad

answers_taken : (refusal : Option PlainReply) (made room passed : Bool) (needed left count n : ℕ)
    → ((other : ℕ) → refusal ≡ Some (replies.Entered other) → ⊥)
    → answered refusal made room passed (replies.NoRoom needed left) count ≡ replies.Entered n
    → (taken refusal made room passed ≡ true) × (n ≡ count)
answers_taken None true true true needed left count n not_so is = (refl, cc)
answers_taken None true true false needed left count n not_so is = let bad : ⊥ = cc in absurd bad
answers_taken None true false passed needed left count n not_so is = let bad : ⊥ = cc in absurd bad
answers_taken None false room passed needed left count n not_so is = let bad : ⊥ = cc in absurd bad
answers_taken (Some reply) made room passed needed left count n not_so is = absurd (not_so n (ap Some is))

refusal_is_other : (is_inside : Bool) (why : Option Full) (count : ℕ)
    → (if is_inside then option_map reply_of_full why else Some replies.Range) ≡ Some (replies.Entered count) → ⊥
refusal_is_other true None count is = cc
refusal_is_other true (Some (full.Sectors sectors)) count is = cc
refusal_is_other true (Some (full.Entries entries)) count is = cc
refusal_is_other false why count is = cc

module _ (plain : PlainState) (entry : Entry) where
  pub entered_is_answered : is_entered plain entry ≡ true → enter_reply plain entry ≡ replies.Entered (history_length plain + 1)
  entered_is_answered is =
      taken_answers (batch_refusal plain entry) (commits_are_made plain entry) (has_room_for (cache_for plain entry) entry)
      (passes_entry (cache_for plain entry) entry) _ (history_length plain + 1) is

  pub answered_is_entered : (count : ℕ) → enter_reply plain entry ≡ replies.Entered count
      → (is_entered plain entry ≡ true) × (count ≡ history_length plain + 1)
  answered_is_entered count is =
      answers_taken (batch_refusal plain entry) (commits_are_made plain entry) (has_room_for (cache_for plain entry) entry)
      (passes_entry (cache_for plain entry) entry) _ _ (history_length plain + 1) count
      (refusal_is_other (is_in_range plain.geometry entry)
      (fullness plain.geometry.batch (sum_by data_sectors (unsealed_entries plain)) (length (unsealed_entries plain)))) is

-- ---- where nothing is left

empty_list : {A : Type 0} (list : List A) → length list ≡ 0 → list ≡ []
empty_list [] is = refl
empty_list (x ∷ list) is = let bad : ⊥ = omega arith in absurd bad

no_fullness : (batch : ℕ) (list : List Entry) → 0 < batch → length list ≡ 0
    → fullness batch (sum_by data_sectors list) (length list) ≡ None
no_fullness batch list some is =
    let none : fullness batch 0 0 ≡ None = grind (arith, nat_tests) in
    subst (λ (l : List Entry). fullness batch (sum_by data_sectors l) (length l) ≡ None) (sym (empty_list list is)) none

batch_has_some : (g : Geometry) → IsTrue (is_within_limits g) → 0 < g.batch
batch_has_some g limits = grind (arith, nat_tests)

log_has_two : (g : Geometry) → IsTrue (is_within_limits g) → 2 * (g.max_write + 1) ≤ g.log
log_has_two g limits = grind (arith, nat_tests)

record_is_short : (g : Geometry) (entry : Entry) → is_in_range g entry ≡ true → record_sectors entry ≤ g.max_write + 1
record_is_short g (entries.Write lba body) is = grind (arith, nat_tests)
record_is_short g (entries.Zero lba sectors) is = omega arith

no_refusal : (plain : PlainState) (entry : Entry) → IsPlainVolume plain → is_in_range plain.geometry entry ≡ true
    → length (unsealed_entries plain) ≡ 0 → batch_refusal plain entry ≡ None
no_refusal plain entry valid inside none =
    let some = batch_has_some plain.geometry valid.limits in
    ap (λ (b : Bool). if b then option_map reply_of_full
    (fullness plain.geometry.batch (sum_by data_sectors (unsealed_entries plain)) (length (unsealed_entries plain))) else
    Some replies.Range) inside
    ∙ ap (option_map reply_of_full) (no_fullness plain.geometry.batch (unsealed_entries plain) some none)

-- a log without records has room for two of the longest ones
uses_nothing : (records : List PlainRecord) → length records ≡ 0 → used_by records ≡ 0
uses_nothing [] is = refl
uses_nothing (stored ∷ records) is = let bad : ⊥ = omega arith in absurd bad

empty_has_room : (log : PlainLog) (sectors : ℕ) → used_by log.records ≡ 0 → IsRoom (room_in log) → 2 * sectors ≤ log.size
    → nat_le (need (room_in log) sectors) (free (room_in log)) ≡ true
empty_has_room log sectors none room short = (let head = room.head in grind (arith, nat_tests))

-- the frontier's end is that of the history
all_is_sealed : (plain : PlainState) → IsPlainVolume plain → length (unsealed_entries plain) ≡ 0 → length plain.window.objects ≡ 0
    → frontier_end plain ≡ history_length plain
all_is_sealed plain valid none no_objects =
    let last : frontier_of plain ≡ last_number (stream_in plain) =
    ap (λ (objects : List OpenObject). below_lowest objects plain.window.last) (empty_list plain.window.objects no_objects)
    ∙ valid.last in
    let end : frontier_end plain ≡ end_at (stream_in plain) (last_number (stream_in plain)) =
    ap (end_at (stream_in plain)) last in
    let long = length-drop (end_at (stream_in plain) (last_number (stream_in plain)) - plain.end) plain.entries in
    omega (arith, end, long, ends_from plain (frontier_of plain) valid, frontier_ends plain valid, none)

-- a log whose tail is at the end of its entries has no records
tail_at_end : (size count : ℕ) (log : PlainLog) (sectors : ℕ) → IsLogOf size count count log → log.last.tail.seq ≡ count
    → 2 * sectors ≤ size → nat_le (need (room_in log) sectors) (free (room_in log)) ≡ true
tail_at_end size count log sectors is tail short =
    let counted = is.1.counted in
    let same = is.0 in
    empty_has_room log sectors (uses_nothing log.records (omega arith)) is.1.room (omega arith)

committed_tail : (seq : ℕ) (cache : PlainCache) → passes_commit cache ≡ true
    → (cache_after_commit seq cache).log.last.tail.seq ≡ seq
committed_tail seq cache passed =
    let made = commit_made seq cache (ap (passes cache.left) (calls_of_commit cache.log.unfinished) ∙ passed) in
    ap (λ (l : PlainLog). l.last.tail.seq) made.same_log

-- the log has room for an entry, once a commit for it was made where one was to be
room_by : (plain : PlainState) (entry : Entry) (had later passed : Bool) → IsPlainVolume plain
    → is_in_range plain.geometry entry ≡ true
    → frontier_end plain ≡ history_length plain → has_room_for plain.cache entry ≡ had
    → nat_lt plain.cache.log.last.tail.seq (frontier_end plain) ≡ later → passes_commit plain.cache ≡ passed
    → (not (not had && later) || passed) ≡ true
    → has_room_for (if not had && later then cache_after_commit (frontier_end plain) plain.cache else plain.cache) entry ≡ true
room_by plain entry true later passed valid inside ends had lies passes made = had
room_by plain entry false false passed valid inside ends had lies passes made =
    let short = record_is_short plain.geometry entry inside in
    let two = log_has_two plain.geometry valid.limits in
    let from : frontier_end plain ≤ plain.cache.log.last.tail.seq = grind (arith, nat_tests) in
    let within = valid.log.last.tail in
    let log : IsLogOf plain.geometry.log (history_length plain) (history_length plain) plain.cache.log =
    subst (λ n. IsLogOf plain.geometry.log n (history_length plain) plain.cache.log) ends (valid.size, valid.log) in
    tail_at_end plain.geometry.log (history_length plain) plain.cache.log (record_sectors entry) log (omega arith) (omega arith)
room_by plain entry false true true valid inside ends had lies passes made =
    let short = record_is_short plain.geometry entry inside in
    let two = log_has_two plain.geometry valid.limits in
    let cache : PlainCache = cache_after_commit (frontier_end plain) plain.cache in
    let kept = commit_keeps plain.geometry.log (frontier_end plain) (history_length plain) plain.cache (frontier_ends plain valid)
    (valid.size, valid.log) in
    let log : IsLogOf plain.geometry.log (history_length plain) (history_length plain) cache.log =
    subst (λ n. IsLogOf plain.geometry.log n (history_length plain) cache.log) ends kept in
    tail_at_end plain.geometry.log (history_length plain) cache.log (record_sectors entry) log
    (committed_tail (frontier_end plain) plain.cache passes ∙ ends) (omega arith)
room_by plain entry false true false valid inside ends had lies passes made = let bad : ⊥ = cc in absurd bad

-- by whether the commit was made and the record's writes pass
rest_answered : (made room passed : Bool) (no_room : PlainReply) (count : ℕ) → (made ≡ true → room ≡ true)
    → (answered None made room passed no_room count ≡ replies.Entered count)
    ⊎ (answered None made room passed no_room count ≡ replies.Fault)
rest_answered false room passed no_room count has = inr refl
rest_answered true true true no_room count has = inl refl
rest_answered true true false no_room count has = inr refl
rest_answered true false passed no_room count has = let bad : ⊥ = (let e = has refl in cc) in absurd bad

pub nothing_left : (plain : PlainState) (entry : Entry) → IsPlainVolume plain → is_in_range plain.geometry entry ≡ true
    → length (unsealed_entries plain) ≡ 0 → length plain.window.objects ≡ 0
    → (enter_reply plain entry ≡ replies.Entered (history_length plain + 1)) ⊎ (enter_reply plain entry ≡ replies.Fault)
nothing_left plain entry valid inside none no_objects =
    let ends = all_is_sealed plain valid none no_objects in
    let refusal = no_refusal plain entry valid inside none in
    let made : Bool = commits_are_made plain entry in
    let room : Bool = has_room_for (cache_for plain entry) entry in
    let passed : Bool = passes_entry (cache_for plain entry) entry in
    let has : made ≡ true → room ≡ true = λ is.
    room_by plain entry _ _ _ valid inside ends refl refl refl is in
    let n : ℕ = history_length plain + 1 in
    let log : PlainLog = (cache_for plain entry).log in
    let no_room : PlainReply = replies.NoRoom (need (room_in log) (record_sectors entry)) (free (room_in log)) in
    let P : Option PlainReply → Type 0 = λ o. (answered o made room passed no_room n ≡ replies.Entered n)
    ⊎ (answered o made room passed no_room n ≡ replies.Fault) in
    subst P (sym refusal) (rest_answered made room passed no_room n has)
