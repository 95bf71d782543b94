-- An append to the log does what an entry of the plain volume does at its log, where the device has some fuse.
use Rattle.std.proofs.Common.{◌≡◌, ℕ, ◌+◌, ◌*◌, ◌≤◌, ◌==◌, Bool, true, false, cond, List, [], ◌∷◌, ◌++◌, length, refl, sym, ◌∙◌}
use Rattle.std.proofs.Common.{ap, subst, arith}
use Rattle.std.specs.Prelude.{Option, Some, None, Result, Ok, Err, nat_le}
use Rattle.std.proofs.Math.Path.{subst₂}
use Rattle.std.proofs.lemmas.Bool.{le-leb, lt-leb}
use Rattle.lsvd_base.specs.declared.entry.Entry.{Entry}
use Rattle.lsvd_device.specs.Calls.{Fuse, Budget, Cost, write_cost, together, passes, fuse_after}
use Rattle.lsvd_device.specs.Memory.{HasRoom}
use Rattle.log_room.specs.Room.{Room, need, free, record_sectors, pad_before}
use Rattle.cache_log.specs.declared.error.AppendError.{AppendError}
use Rattle.cache_log.specs.declared.error.AppendError.TheVariants as errors
use Rattle.cache_log.specs.Log.{LogState, next_seq, append_cost, HasNoRoomFor}
use Rattle.plain_disk.specs.declared.event.PlainReply.{PlainReply}
use Rattle.plain_disk.specs.declared.event.PlainReply.TheVariants.{Entered, NoRoom, Fault}
use Rattle.plain_disk.specs.Log.{PlainLog, room_in, with_record}
use Rattle.plain_disk.specs.Cache.{PlainCache, writes_of, cache_after_entry}
use Rattle.plain_disk.specs.State.{PlainState, history_length, frontier_end}
use Rattle.plain_disk.specs.Entries.{after_entering}
use Rattle.refine_log.specs.Shows.{ShowsLog}
use Rattle.refine_log.specs.Logged.{HasLoggedEntries}
use Rattle.refine_log.specs.Fuses.{fuse_in}
use Rattle.refine_log.specs.Laws.{HasFuseForEntry}
use Rattle.refine_log.proofs.Shown.{same_shows_same}
use Rattle.refine_log.proofs.Appended.{appended_shows_record}
use Rattle.refine_log.proofs.PlainCommits.{IsCacheOf}
use Rattle.refine_log.proofs.FuseLemmas.{entry_has_fuse}
use Rattle.vol_core.specs.Calls.{Appends}
use Rattle.vol_core.proofs.LoggedLemmas.{with_place, ReachesEnd, logged_alike, logged_appended}
use Rattle.vol_core.proofs.PlainEntering.{EntersPlain, ComesToCache, has_no_room, write_failed, entry_taken, full_cache}
use Rattle.vol_core.proofs.PlainEntering.{entered_cache}

-- ---- what an append answers and leaves

-- its reply, where the history has so many entries
abbrev pub reply_to_append : Result ℕ AppendError → (count : ℕ) → PlainReply
reply_to_append (Ok at) count = Entered (count + 1)
reply_to_append (Err (errors.NoRoom needed left)) count = NoRoom needed left
reply_to_append (Err errors.DeviceFault) count = Fault

abbrev pub log_by : Result ℕ AppendError → PlainLog → Entry → PlainLog
log_by (Ok at) log entry = with_record log entry
log_by (Err error) log entry = log

abbrev pub entries_by : Result ℕ AppendError → List Entry → Entry → List Entry
entries_by (Ok at) entries entry = entries ++ entry ∷ []
entries_by (Err error) entries entry = entries

-- where data begin, with those of the entry of this seq
abbrev pub places_by : Result ℕ AppendError → (ℕ → ℕ) → (seq : ℕ) → ℕ → ℕ
places_by (Ok at) data_at seq = with_place data_at seq (at + 1)
places_by (Err error) data_at seq = data_at

-- the calls that it takes
abbrev pub calls_by : Result ℕ AppendError → PlainLog → Entry → ℕ
calls_by (Ok at) log entry = length (writes_of log entry)
calls_by (Err (errors.NoRoom needed left)) log entry = 0
calls_by (Err errors.DeviceFault) log entry = length (writes_of log entry)

-- what a fuse passes of them
abbrev pub PassesBy : Result ℕ AppendError → Fuse → PlainLog → Entry → Type 0
PassesBy (Ok at) fuse log entry = passes fuse (length (writes_of log entry)) ≡ true
PassesBy (Err (errors.NoRoom needed left)) fuse log entry = Unit {0}
PassesBy (Err errors.DeviceFault) fuse log entry = passes fuse (length (writes_of log entry)) ≡ false

-- ---- its fuse

-- the writes of a record of N sectors, and of a pad's header before it
abbrev pub most_of_append : (sectors : ℕ) → Cost
most_of_append sectors = together (write_cost 512) (write_cost (512 * sectors))

-- some fuse passes what was made, and it is the disk's own where it is told
pub record HasFuseForAppend (entry : Entry) (result : Result ℕ AppendError) (old new : LogState) (log : PlainLog) : Type 0 where
  pub fuse : Fuse
  pub lets : PassesBy result fuse log entry
  pub told : HasRoom (most_of_append (record_sectors entry)).changes (most_of_append (record_sectors entry)).bytes
      old.commits.disk.budget
      → (fuse ≡ fuse_in old.commits.disk.budget) × (fuse_in new.commits.disk.budget ≡ fuse_after fuse (calls_by result log entry))

fewer : (has_none : Bool) (sectors : ℕ)
    → ((cond has_none (write_cost (512 * sectors)) (most_of_append sectors)).changes ≤ 2)
    × ((cond has_none (write_cost (512 * sectors)) (most_of_append sectors)).bytes ≤ 512 + 512 * sectors)
fewer true sectors = (omega arith, omega arith)
fewer false sectors = (omega arith, omega arith)

pub room_for_fewer : (changes bytes more_changes more_bytes : ℕ) (budget : Option Budget) → changes ≤ more_changes
    → bytes ≤ more_bytes
    → HasRoom more_changes more_bytes budget
    → HasRoom changes bytes budget
room_for_fewer changes bytes more_changes more_bytes None fewer less room = room
room_for_fewer changes bytes more_changes more_bytes (Some budget) fewer less room =
    (let a = room.0 in let b = room.1 in (omega (arith, a, fewer), omega (arith, b, less)))

pub room_for_append : (room : Room) (sectors : ℕ) (budget : Option Budget)
    → HasRoom (most_of_append sectors).changes (most_of_append sectors).bytes budget
    → HasRoom (append_cost room sectors).changes (append_cost room sectors).bytes budget
room_for_append room sectors budget most =
    let less = fewer (pad_before room sectors == 0) sectors in
    room_for_fewer (append_cost room sectors).changes (append_cost room sectors).bytes (most_of_append sectors).changes
    (most_of_append sectors).bytes budget less.0 less.1 most

told_of : (old new : LogState) (log : PlainLog) (entry : Entry) (are_made : Bool)
    → (some : HasFuseForEntry old new log entry are_made)
    → HasRoom (most_of_append (record_sectors entry)).changes (most_of_append (record_sectors entry)).bytes
    old.commits.disk.budget
    → (some.fuse ≡ fuse_in old.commits.disk.budget)
    × (fuse_in new.commits.disk.budget ≡ fuse_after some.fuse (length (writes_of log entry)))
told_of old new log entry are_made some most =
    let own = some.told (room_for_append old.room (record_sectors entry) old.commits.disk.budget most) in
    (own.0, own.1 ∙ ap (fuse_after some.fuse) (sym some.count))

none_spent : (fuse : Fuse) → fuse ≡ fuse_after fuse 0
none_spent None = refl
none_spent (Some left) = ap Some (omega arith)

pub append_has_fuse : (entry : Entry) (result : Result ℕ AppendError) (old new : LogState) (log : PlainLog) → ShowsLog old log
    → Appends entry result old new
    → HasFuseForAppend entry result old new log
append_has_fuse entry (Ok at) old new log is appends =
    let some = entry_has_fuse old new log entry (next_seq old) true is appends.ok.calls in
    record { fuse = some.fuse; lets = some.lets; told = told_of old new log entry true some }
append_has_fuse entry (Err (errors.NoRoom needed left)) old new log is appends =
    let same = ap (λ (l : LogState). fuse_in l.commits.disk.budget) appends.err.untouched in
    record {
      fuse = fuse_in old.commits.disk.budget;
      lets = tt;
      told = λ room. (refl, same ∙ none_spent (fuse_in old.commits.disk.budget));
    }
append_has_fuse entry (Err errors.DeviceFault) old new log is appends =
    let some = entry_has_fuse old new log entry (next_seq old) false is appends.err.calls in
    record { fuse = some.fuse; lets = some.lets; told = told_of old new log entry false some }

-- ---- what it leaves

pub append_shows : (entry : Entry) (result : Result ℕ AppendError) (old new : LogState) (log : PlainLog) → ShowsLog old log
    → Appends entry result old new
    → ShowsLog new (log_by result log entry)
append_shows entry (Ok at) old new log is appends =
    (appended_shows_record old new log entry at is appends.ok appends.keeps.commits).0
append_shows entry (Err (errors.NoRoom needed left)) old new log is appends =
    subst (λ l. ShowsLog l log) (sym appends.err.untouched) is
append_shows entry (Err errors.DeviceFault) old new log is appends =
    same_shows_same old new log is appends.err.same appends.keeps.commits

pub append_logged : (entry : Entry) (result : Result ℕ AppendError) (data_at : ℕ → ℕ) (old new : LogState) (plain : PlainState)
    (log : PlainLog)
    → ShowsLog old log → frontier_end plain ≤ history_length plain → next_seq old ≡ history_length plain → ReachesEnd old plain
    → HasLoggedEntries data_at old plain → Appends entry result old new
    → HasLoggedEntries (places_by result data_at (history_length plain)) new
    (record plain { entries = entries_by result plain.entries entry })
append_logged entry (Ok at) data_at old new plain log is ends counted reaches logged appends =
    logged_appended data_at old new plain entry at log is ends counted reaches appends.ok logged
append_logged entry (Err (errors.NoRoom needed left)) data_at old new plain log is ends counted reaches logged appends =
    subst (λ l. HasLoggedEntries data_at l plain) (sym appends.err.untouched) logged
append_logged entry (Err errors.DeviceFault) data_at old new plain log is ends counted reaches logged appends =
    let same = appends.err.same in
    logged_alike data_at old new plain same.first same.rows same.entries logged

-- ---- what the plain volume does

has_room_in : (old : LogState) (log : PlainLog) (entry : Entry) → ShowsLog old log
    → need old.room (record_sectors entry) ≤ free old.room
    → nat_le (need (room_in log) (record_sectors entry)) (free (room_in log)) ≡ true
has_room_in old log entry is enough =
    ap (λ r. nat_le (need r (record_sectors entry)) (free r)) is.room
    ∙ le-leb (need old.room (record_sectors entry)) (free old.room) enough

lacks_room_in : (old new : LogState) (log : PlainLog) (entry : Entry) (needed left : ℕ) → ShowsLog old log
    → HasNoRoomFor entry needed left old new
    → nat_le (need (room_in log) (record_sectors entry)) (free (room_in log)) ≡ false
lacks_room_in old new log entry needed left is few =
    let less = few.too_few in
    let needs : needed ≡ need (room_in log) (record_sectors entry) = few.needed_is
    ∙ ap (λ r. need r (record_sectors entry)) (sym is.room) in
    let has : left ≡ free (room_in log) = few.left_is ∙ ap free (sym is.room) in
    lt-leb (need (room_in log) (record_sectors entry)) (free (room_in log)) (omega (arith, less, needs, has))

-- an entry that comes to a cache which has this log and these calls
pub append_does : (state : PlainState) (entry : Entry) (ready : PlainCache) (result : Result ℕ AppendError) (old new : LogState)
    (log : PlainLog)
    (left : Fuse)
    → ComesToCache state entry ready true → IsCacheOf log left ready → ShowsLog old log → Appends entry result old new
    → PassesBy result left log entry
    → EntersPlain state entry (reply_to_append result (history_length state)) (log_by result log entry)
    (fuse_after left (calls_by result log entry))
    (entries_by result state.entries entry)
append_does state entry ready (Ok at) old new log left comes is shows appends passed =
    let has = ap (λ l. nat_le (need (room_in l) (record_sectors entry)) (free (room_in l))) is.same_log
    ∙ has_room_in old log entry shows appends.ok.had_room in
    let passes = ap (λ f. passes f (length (writes_of ready.log entry))) is.same_left
    ∙ ap (λ l. passes left (length (writes_of l entry))) is.same_log ∙ passed in
    subst₂ (λ l f. EntersPlain state entry (Entered (history_length state + 1)) (with_record l entry)
    (fuse_after f (length (writes_of l entry)))
    (state.entries ++ entry ∷ []))
    is.same_log is.same_left (entry_taken state entry ready comes has passes)
append_does state entry ready (Err errors.DeviceFault) old new log left comes is shows appends stopped =
    let has = ap (λ l. nat_le (need (room_in l) (record_sectors entry)) (free (room_in l))) is.same_log
    ∙ has_room_in old log entry shows appends.err.had_room in
    let passes = ap (λ f. passes f (length (writes_of ready.log entry))) is.same_left
    ∙ ap (λ l. passes left (length (writes_of l entry))) is.same_log ∙ stopped in
    subst₂ (λ l f. EntersPlain state entry Fault l (fuse_after f (length (writes_of l entry))) state.entries)
    is.same_log is.same_left (write_failed state entry ready comes has passes)
append_does state entry ready (Err (errors.NoRoom needed left_over)) old new log left comes is shows appends passed =
    let few = appends.err in
    let sectors : ℕ = record_sectors entry in
    let needs : needed ≡ need (room_in log) sectors = few.needed_is ∙ ap (λ r. need r sectors) (sym shows.room) in
    let has : left_over ≡ free (room_in log) = few.left_is ∙ ap free (sym shows.room) in
    let none = lacks_room_in old new log entry needed left_over shows few in
    let lacks = ap (λ l. nat_le (need (room_in l) sectors) (free (room_in l))) is.same_log ∙ none in
    let told : NoRoom (need (room_in log) sectors) (free (room_in log)) ≡ NoRoom needed left_over =
    λ i. NoRoom (sym needs i) (sym has i) in
    subst (λ r. EntersPlain state entry r log (fuse_after left 0) state.entries) told
    (subst₂ (λ l f. EntersPlain state entry (NoRoom (need (room_in l) sectors) (free (room_in l))) l f state.entries)
    is.same_log (is.same_left ∙ none_spent left) (has_no_room state entry ready comes lacks))

-- ---- the cache that is left

-- that of an append which came to this cache
abbrev pub cache_by : Result ℕ AppendError → Entry → PlainCache → PlainCache
cache_by (Ok at) entry ready = cache_after_entry entry ready
cache_by (Err (errors.NoRoom needed left)) entry ready = ready
cache_by (Err errors.DeviceFault) entry ready = cache_after_entry entry ready

pub append_cache : (state : PlainState) (entry : Entry) (ready : PlainCache) (result : Result ℕ AppendError) (old new : LogState)
    → ComesToCache state entry ready true → ShowsLog old ready.log → Appends entry result old new
    → (after_entering entry state).cache ≡ cache_by result entry ready
append_cache state entry ready (Ok at) old new comes shows appends =
    entered_cache state entry ready comes (has_room_in old ready.log entry shows appends.ok.had_room)
append_cache state entry ready (Err (errors.NoRoom needed left)) old new comes shows appends =
    full_cache state entry ready comes (lacks_room_in old new ready.log entry needed left shows appends.err)
append_cache state entry ready (Err errors.DeviceFault) old new comes shows appends =
    entered_cache state entry ready comes (has_room_in old ready.log entry shows appends.err.had_room)
