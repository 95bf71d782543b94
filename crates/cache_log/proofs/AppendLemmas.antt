-- The writes of `append`, and what they leave.
use Rattle.std.proofs.Common.{◌≡◌, Bool, true, false, ℕ, ◌+◌, ◌-◌, ◌*◌, ◌^◌, ◌<◌, ◌≤◌, ◌==◌, List, [], ◌∷◌, ◌++◌, length, take}
use Rattle.std.proofs.Common.{drop, refl, sym, ◌∙◌, ap, subst, inl, inr, arith, if◌then◌else◌}
use Rattle.lsvd_base.specs.declared.entry.Entry.{Entry}
use Rattle.std.specs.Prelude.{IfSome, IfErr, IsErrAnd, Result, Ok, Err}
use Rattle.std.proofs.Math.Path.{subst₂}
use Rattle.std.proofs.lemmas.List.{take-append-le, drop-append-le}
use Rattle.lsvd_device.specs.Calls.{write_cost, together}
use Rattle.lsvd_device.specs.Device.{HoldsSince, DiskState}
use Rattle.lsvd_device.specs.Sequence.{Call, Write}
use Rattle.lsvd_device.proofs.Together.{made_then, failed_then}
use Rattle.commit_body.specs.declared.body.Mark.{Mark}
use Rattle.commit_slot.specs.Commits.{CommitsState, IsAsBefore, IsLast}
use Rattle.commit_slot.specs.Sequence.{Costs}
use Rattle.lsvd_device.proofs.Passed.{Asks, passed_then, passed_failed}
use Rattle.log_room.specs.Room.{Room, position, pad_before, record_sectors, need, free, after_record}
use Rattle.log_record.specs.declared.head.Head.TheVariants.{Pad}
use Rattle.log_record.proofs.ForCallers.{has_one_sector}
use Rattle.cache_log.specs.Rows.{byte_of}
use Rattle.cache_log.specs.Log.{LogState, row_of, IsAppended, FailsByFault, FailsToAppend, entries_in, with_appended, append_cost}
use Rattle.cache_log.specs.Log.{append_writes, CostsAppend}
use Rattle.cache_log.specs.Committed.{LeavesEntries, KeepsCommits}
use Rattle.cache_log.specs.Writing.{IsWrittenAt, IsNotWrittenAt, IsPadded, FailsToPad}
use Rattle.cache_log.specs.Invariant.{IsLog}
use Rattle.cache_log.specs.declared.error.AppendError.{AppendError}
use Rattle.cache_log.specs.declared.error.AppendError.TheVariants.{DeviceFault}
use Rattle.cache_log.specs.declared.row.Row.{Row}
use Rattle.cache_log.proofs.CommittedLemmas.{view_of}
use Rattle.cache_log.proofs.WriteLemmas.{IsPiece, stays_of, stays_then, same_then, written_same, not_written_same, log_since}
use Rattle.cache_log.proofs.WriteLemmas.{same_log, mark_with, rows_with, has_place, fail_stays, ready, not_padded, one_more}

-- what one write asks for
write_asks : (at : ℕ) (piece : List ℕ) (bytes : ℕ) → length piece ≡ bytes → Asks (Write at piece ∷ []) (write_cost bytes)
write_asks at piece bytes is = record { count = refl; changes = refl; bytes = omega (arith, is) }

-- the write of a pad's header, and that of the record
abbrev pad_write : Room → (pad : List ℕ) → List Call
pad_write room pad = Write (byte_of room.head) pad ∷ []

abbrev record_write : Room → (sectors : ℕ) → (bytes : List ℕ) → List Call
record_write room sectors bytes = Write (byte_of (position room sectors)) bytes ∷ []

-- what is asked for with a pad and without one
cost_without : (place : Room) (size : ℕ) → pad_before place size ≡ 0 → write_cost (512 * size) ≡ append_cost place size
cost_without place size none = ap (λ n. if n == 0 then write_cost (512 * size) else together (write_cost 512)
    (write_cost (512 * size))) (sym none)

cost_with : (place : Room) (size : ℕ) → 0 < pad_before place size → together (write_cost 512) (write_cost (512 * size))
    ≡ append_cost place size
cost_with place size some = grind (arith, some)

choose_first : {A : Type 0} (n : ℕ) (x y : A) → n ≡ 0 → x ≡ (if n == 0 then x else y)
choose_first n x y none = ap (λ k. if k == 0 then x else y) (sym none)

choose_second : {A : Type 0} (n : ℕ) (x y : A) → 0 < n → y ≡ (if n == 0 then x else y)
choose_second n x y some = grind (arith, some)

writes_without : (place : Room) (size : ℕ) (pad bytes : List ℕ) → pad_before place size ≡ 0
    → record_write place size bytes ≡ append_writes place size pad bytes
writes_without place size pad bytes none =
    let empty : List Call = [] in
    ap (λ calls. calls ++ record_write place size bytes) (choose_first (pad_before place size) empty (pad_write place pad) none)

writes_with : (place : Room) (size : ℕ) (pad bytes : List ℕ) → 0 < pad_before place size
    → pad_write place pad ++ record_write place size bytes ≡ append_writes place size pad bytes
writes_with place size pad bytes some =
    let empty : List Call = [] in
    ap (λ calls. calls ++ record_write place size bytes) (choose_second (pad_before place size) empty (pad_write place pad) some)

-- the pad that was needed, if one was, and a write of the record, made or not
both_writes : (place : Room) (entry : Entry) (seq : ℕ) (piece : List ℕ) (is_made : Bool) (old middle : CommitsState)
    (new : DiskState) → IsPiece entry seq piece
    → IsPadded place (record_sectors entry) seq old middle
    → Costs (write_cost (length piece)) (record_write place (record_sectors entry) piece) is_made middle.disk new
    → CostsAppend place entry seq is_made old.disk new
both_writes place entry seq piece is_made old middle new is (inl none) write =
    let size : ℕ = record_sectors entry in
    let P : CommitsState → Type 0 = λ c. Costs (write_cost (512 * size)) (record_write place size piece) is_made c.disk new in
    let sized : Costs (write_cost (512 * size)) (record_write place size piece) is_made middle.disk new =
    subst (λ n. Costs (write_cost n) (record_write place size piece) is_made middle.disk new) is.whole write in
    let both = subst P none.1 sized in
    record {
      pad = [];
      bytes = piece;
      is_pad = λ some. absurd (omega (arith, none.0, some));
      pad_size = omega arith;
      is_record = is.is_record;
      size = is.whole;
      costs = subst₂ (λ c w. Costs c w is_made old.disk new) (cost_without place size none.0)
          (writes_without place size [] piece none.0) both;
    }
both_writes place entry seq piece is_made old middle new is (inr padded) write =
    let size : ℕ = record_sectors entry in
    let pad : List ℕ = padded.piece in
    let whole : length pad ≡ 512 = has_one_sector (Pad (pad_before place size - 1)) seq pad padded.is_pad in
    let first : Costs (write_cost 512) (pad_write place pad) true old.disk middle.disk =
    subst (λ n. Costs (write_cost n) (pad_write place pad) true old.disk middle.disk) whole padded.written.costs in
    let second : Costs (write_cost (512 * size)) (record_write place size piece) is_made middle.disk new =
    subst (λ n. Costs (write_cost n) (record_write place size piece) is_made middle.disk new) is.whole write in
    let both : Costs (together (write_cost 512) (write_cost (512 * size))) (pad_write place pad ++ record_write place size piece)
    is_made old.disk new = record {
      calls = made_then (write_cost 512) (write_cost (512 * size)) is_made old.disk middle.disk new first.calls second.calls;
      performed = passed_then (pad_write place pad) (record_write place size piece) (write_cost 512) old.disk middle.disk new
          (write_asks _ _ 512 whole) first.calls first.performed second.performed;
    } in
    record {
      pad = pad;
      bytes = piece;
      is_pad = λ some. padded.is_pad;
      pad_size = omega (arith, whole);
      is_record = is.is_record;
      size = is.whole;
      costs = subst₂ (λ c w. Costs c w is_made old.disk new) (cost_with place size padded.needed)
          (writes_with place size pad piece padded.needed) both;
    }

-- the write of the pad failed
pad_failed : (place : Room) (entry : Entry) (seq : ℕ) (piece : List ℕ) (old new : CommitsState) → IsPiece entry seq piece
    → FailsToPad place (record_sectors entry) seq old new
    → CostsAppend place entry seq false old.disk new.disk
pad_failed place entry seq piece old new is fails =
    let size : ℕ = record_sectors entry in
    let pad : List ℕ = fails.piece in
    let whole : length pad ≡ 512 = has_one_sector (Pad (pad_before place size - 1)) seq pad fails.is_pad in
    let first : Costs (write_cost 512) (pad_write place pad) false old.disk new.disk =
    subst (λ n. Costs (write_cost n) (pad_write place pad) false old.disk new.disk) whole fails.not_written.costs in
    let both : Costs (together (write_cost 512) (write_cost (512 * size))) (pad_write place pad ++ record_write place size piece)
    false old.disk new.disk = record {
      calls = failed_then (write_cost 512) (write_cost (512 * size)) old.disk new.disk first.calls;
      performed = passed_failed (pad_write place pad) (record_write place size piece) (write_cost 512) old.disk new.disk
          (write_asks _ _ 512 whole) first.calls first.performed;
    } in
    record {
      pad = pad;
      bytes = piece;
      is_pad = λ some. fails.is_pad;
      pad_size = omega (arith, whole);
      is_record = is.is_record;
      size = is.whole;
      costs = subst₂ (λ c w. Costs c w false old.disk new.disk) (cost_with place size fails.needed)
          (writes_with place size pad piece fails.needed) both;
    }

-- ---- what an append leaves

-- the log with one entry more
pub record IsEntered (place : Room) (mark : Mark) (held rows : List Row) (entry : Entry) (old new : CommitsState) : Type 0 where
  pub log : IsLog (after_record place (record_sectors entry)) (mark_with mark (position place (record_sectors entry)) rows) held
      (rows_with place (mark.seq + length rows) rows entry) new
  pub entries : entries_in (rows_with place (mark.seq + length rows) rows entry) new.disk.moments
      ≡ with_appended (entries_in rows old.disk.moments) entry
  pub all : entries_in (held ++ rows_with place (mark.seq + length rows) rows entry) new.disk.moments
      ≡ with_appended (entries_in (held ++ rows) old.disk.moments) entry
  pub same : IsAsBefore old new
  pub since : IfSome (entries_in (held ++ rows) old.disk.moments)
      (λ list. HoldsSince (LeavesEntries place.log (held ++ rows) list (IsLast old)) old.disk.moments new.disk.moments)
  pub calls : CostsAppend place entry (mark.seq + length rows) true old.disk new.disk

pub entered : (place : Room) (mark : Mark) (held rows : List Row) (entry : Entry) (piece : List ℕ) (old middle new : CommitsState)
    → IsLog place mark held rows old
    → need place (record_sectors entry) ≤ free place → IsPiece entry (mark.seq + length rows) piece
    → IsPadded place (record_sectors entry) (mark.seq + length rows) old middle
    → IsWrittenAt (byte_of (position place (record_sectors entry))) piece middle new → mark.seq + length rows + 1 < 2 ^ 64
    → IsEntered place mark held rows entry old new
entered place mark held rows entry piece old middle new log enough is_piece padded written numbers =
    let seq : ℕ = mark.seq + length rows in
    let all : List Row = held ++ rows in
    let set = ready place mark held rows seq (record_sectors entry) old middle log enough padded in
    let more = one_more place mark held rows entry piece middle new set.same.log enough is_piece set.pad written numbers in
    let stays = stays_of place.log mark rows all middle old middle.disk.moments new.disk.moments set.are.same more.stays in
    let both = stays_then place.log mark rows all old old.disk.moments middle.disk.moments new.disk.moments set.stays stays in
    let are = same_then old middle new set.are (written_same (byte_of (position place (record_sectors entry))) piece middle new
    written) in
    record {
      log = more.log;
      entries = more.entries ∙ ap (λ e. with_appended e entry) set.same.entries;
      all = more.all ∙ ap (λ e. with_appended e entry) set.same.all;
      same = are.same;
      since = log_since place mark held rows old new log are both;
      calls = both_writes place entry seq piece true old middle new.disk is_piece padded written.costs;
    }

-- the log as before, after a call that failed
pub record IsNotEntered (place : Room) (mark : Mark) (held rows : List Row) (entry : Entry) (old new : CommitsState) :
    Type 0 where
  pub log : IsLog place mark held rows new
  pub entries : entries_in rows new.disk.moments ≡ entries_in rows old.disk.moments
  pub all : entries_in (held ++ rows) new.disk.moments ≡ entries_in (held ++ rows) old.disk.moments
  pub same : IsAsBefore old new
  pub since : IfSome (entries_in (held ++ rows) old.disk.moments)
      (λ list. HoldsSince (LeavesEntries place.log (held ++ rows) list (IsLast old)) old.disk.moments new.disk.moments)
  pub calls : CostsAppend place entry (mark.seq + length rows) false old.disk new.disk

pub not_entered : (place : Room) (mark : Mark) (held rows : List Row) (entry : Entry) (piece : List ℕ)
    (old middle new : CommitsState) → IsLog place mark held rows old
    → need place (record_sectors entry) ≤ free place → IsPiece entry (mark.seq + length rows) piece
    → IsPadded place (record_sectors entry) (mark.seq + length rows) old middle
    → IsNotWrittenAt (byte_of (position place (record_sectors entry))) piece middle new
    → IsNotEntered place mark held rows entry old new
not_entered place mark held rows entry piece old middle new log enough is_piece padded is =
    let seq : ℕ = mark.seq + length rows in
    let all : List Row = held ++ rows in
    let at : ℕ = position place (record_sectors entry) in
    let whole = is_piece.whole in
    let set = ready place mark held rows seq (record_sectors entry) old middle log enough padded in
    let goes = has_place place (record_sectors entry) log.is.room enough in
    let within : byte_of at + length piece ≤ middle.disk.size = (let e = goes.inside in let f = set.same.log.is.fits in
    omega (arith, e, f, whole)) in
    let fails = fail_stays place mark at (record_sectors entry) held rows piece middle new set.same.log goes.free whole
    within is in
    let stays = stays_of place.log mark rows all middle old middle.disk.moments new.disk.moments set.are.same fails in
    let both = stays_then place.log mark rows all old old.disk.moments middle.disk.moments new.disk.moments set.stays stays in
    let are = same_then old middle new set.are (not_written_same (byte_of at) piece middle new is) in
    let same = same_log place mark held rows old new log are both in
    record {
      log = same.log;
      entries = same.entries;
      all = same.all;
      same = are.same;
      since = same.since;
      calls = both_writes place entry seq piece false old middle new.disk is_piece padded is.costs;
    }

pub not_begun : (place : Room) (mark : Mark) (held rows : List Row) (entry : Entry) (piece : List ℕ) (old new : CommitsState)
    → IsLog place mark held rows old
    → need place (record_sectors entry) ≤ free place → IsPiece entry (mark.seq + length rows) piece
    → FailsToPad place (record_sectors entry) (mark.seq + length rows) old new → IsNotEntered place mark held rows entry old new
not_begun place mark held rows entry piece old new log enough is_piece fails =
    let seq : ℕ = mark.seq + length rows in
    let same = not_padded place mark held rows seq (record_sectors entry) old new log enough fails in
    record {
      log = same.log;
      entries = same.entries;
      all = same.all;
      same = fails.not_written.same;
      since = same.since;
      calls = pad_failed place entry seq piece old new is_piece fails;
    }

-- ---- what `append` promises

-- a call of the device failed
pub record IsFailure (entry : Entry) (old new : LogState) : Type 0 where
  pub err : FailsByFault entry old new
  pub commits : KeepsCommits old new

pub failure : (place : Room) (mark : Mark) (held rows : List Row) (entry : Entry) (old new : CommitsState) (before after : ℕ)
    (log : LogState) → view_of place mark held rows old before ≡ log
    → need place (record_sectors entry) ≤ free place → IsNotEntered place mark held rows entry old new
    → IsFailure entry log (view_of place mark held rows new after)
failure place mark held rows entry old new before after log seen enough is =
    subst (λ l. IsFailure entry l (view_of place mark held rows new after)) seen (record {
      err = record {
        had_room = enough;
        same = record { entries = is.entries; rows = refl; all = is.all; held = refl; room = refl; start = refl; first = refl };
        calls = is.calls;
      };
      commits = record { commits = is.same; stands = is.since };
    })

-- so it is where `append` answers that error alone
pub fault_error : (r : Result ℕ AppendError) (entry : Entry) (old new : LogState) → IsErrAnd r (λ e. e ≡ DeviceFault)
    → IsFailure entry old new → IfErr r (λ error. FailsToAppend entry error old new)
fault_error (Ok at) entry old new is failed = tt
fault_error (Err e) entry old new is failed = subst (λ error. FailsToAppend entry error old new) (sym is) failed.err

-- the entry was appended
pub record IsSuccess (entry : Entry) (at : ℕ) (old new : LogState) (mark : Mark) : Type 0 where
  pub ok : IsAppended entry at old new
  pub commits : KeepsCommits old new
  pub log : IsLog new.room mark new.held new.rows new.commits

pub success : (place : Room) (mark : Mark) (held rows : List Row) (entry : Entry) (at : ℕ) (old new : CommitsState)
    (before after : ℕ) (log : LogState) → view_of place mark held rows old before ≡ log
    → need place (record_sectors entry) ≤ free place → at ≡ position place (record_sectors entry)
    → IsEntered place mark held rows entry old new
    → IsSuccess entry at log (view_of (after_record place (record_sectors entry)) (mark_with mark at rows) held
    (rows_with place (mark.seq + length rows) rows entry) new after) (mark_with mark at rows)
success place mark held rows entry at old new before after log seen enough at_is is =
    let grown : Room = after_record place (record_sectors entry) in
    let more : List Row = rows_with place (mark.seq + length rows) rows entry in
    subst (λ l. IsSuccess entry at l (view_of grown (mark_with mark at rows) held more new after) (mark_with mark at rows))
    seen (record {
      ok = record {
        at_head = at_is;
        had_room = enough;
        entries = is.entries;
        rows = refl;
        all = is.all;
        held = refl;
        room = refl;
        start = refl;
        first = refl;
        calls = is.calls;
      };
      commits = record { commits = is.same; stands = is.since };
      log = (let P : ℕ → Type 0 = λ p. IsLog grown (mark_with mark p rows) held more new in subst P (sym at_is) is.log);
    })

-- the rows with one more, of which the first ones are held
pub pushed_log : (place grown : Room) (mark tail : Mark) (items pushed : List Row) (d : ℕ) (entry : Entry) (at : ℕ)
    (old new : CommitsState) (before after : ℕ) (log : LogState)
    → view_of place mark (take d items) (drop d items) old before ≡ log → need place (record_sectors entry) ≤ free place
    → at ≡ position place (record_sectors entry)
    → grown ≡ after_record place (record_sectors entry) → tail ≡ mark_with mark at (drop d items)
    → pushed ≡ items ++ row_of (mark.seq + length (drop d items)) at entry ∷ [] → d ≤ length items
    → IsEntered place mark (take d items) (drop d items) entry old new
    → IsSuccess entry at log (view_of grown tail (take d pushed) (drop d pushed) new after) tail
pushed_log place grown mark tail items pushed d entry at old new before after log seen enough at_is grown_is tail_is
    pushed_is less is =
    let held : List Row = take d items in
    let rows : List Row = drop d items in
    let seq : ℕ = mark.seq + length rows in
    let row : Row = row_of seq at entry in
    let done = success place mark held rows entry at old new before after log seen enough at_is is in
    let held_is : take d pushed ≡ held = ap (take d) pushed_is ∙ take-append-le d items (row ∷ []) less in
    let rows_is : drop d pushed ≡ rows_with place seq rows entry = ap (drop d) pushed_is ∙ drop-append-le d items (row ∷ []) less
    ∙ ap (λ p. rows ++ row_of seq p entry ∷ []) at_is in
    let P : Room → Mark → List Row → List Row → Type 0 = λ g t h r. IsSuccess entry at log (view_of g t h r new after) t in
    subst₂ (λ g t. P g t (take d pushed) (drop d pushed)) (sym grown_is) (sym tail_is)
    (subst₂ (λ h r. P (after_record place (record_sectors entry)) (mark_with mark at rows) h r) (sym held_is) (sym rows_is) done)
