use Rattle.std.proofs.Common.{rules, ◌≡◌, ◌+◌, ◌-◌, ◌*◌, ◌<◌, ◌≤◌, ◌^◌, ℕ, List, [], ◌∷◌, ◌++◌, length, take, drop, sym, ◌∙◌, ap}
use Rattle.std.proofs.Common.{subst, arith, length-append}
use Rattle.std.proofs.Math.Path.{subst₂}
use Rattle.lsvd_base.specs.declared.entry.Entry.{Entry}
use Rattle.commit_body.specs.declared.body.Mark.{Mark}
use Rattle.commit_slot.specs.Commits.{CommitsState}
use Rattle.log_room.specs.Room.{Room, need, free, position, record_sectors, after_record}
use Rattle.log_record.specs.Grammar.{IsRecordOf}
use Rattle.cache_log.specs.Rows.{byte_of}
use Rattle.cache_log.specs.Log.{LogState, next_seq, row_of, start_with}
use Rattle.cache_log.specs.Writing.{IsPadded, FailsToPad, IsWrittenAt, IsNotWrittenAt}
use Rattle.cache_log.specs.declared.row.Row.{Row}
use Rattle.cache_log.proofs.AppendLemmas.{IsNotEntered, entered, not_entered, not_begun, failure, fault_error, IsSuccess}
use Rattle.cache_log.proofs.AppendLemmas.{pushed_log}
use Rattle.cache_log.proofs.WriteLemmas.{IsPiece, mark_with}
use Rattle.cache_log.proofs.CommittedLemmas.{view_of}
use Rattle.cache_log.proofs.log.CacheLog.append.Given as given
use Rattle.cache_log.proofs.log.CacheLog.append.Goals.{After-from_residual, After-from_residual-in_err-write_at}
use Rattle.cache_log.proofs.log.CacheLog.append.Goals.{After-push_back_reserved}
use Rattle.cache_log.proofs.log.CacheLog.append.Goals as goal

-- the record that was made
piece_of : (entry : Entry) (seq number : ℕ) (bytes : List ℕ) → number ≡ seq → IsRecordOf entry number bytes
    → length bytes ≡ 512 * record_sectors entry → IsPiece entry seq bytes
piece_of entry seq number bytes same is whole =
    record { is_record = subst (λ n. IsRecordOf entry n bytes) same is; whole = whole }

-- there is room for it
room_for : (place : Room) (sectors size needed left : ℕ) → sectors ≡ size → needed ≡ need place sectors → left ≡ free place
    → needed ≤ left → need place size ≤ free place
room_for place sectors size needed left sized needs leaves enough =
    subst (λ n. need place n ≤ free place) sized (subst₂ (λ a b. a ≤ b) needs leaves enough)

-- ---- the write of the pad failed

pad_failed : (g : given.Over) (c : After-from_residual g)
    → (need c.self.inside.room (record_sectors c.args.entry.now) ≤ free c.self.inside.room)
    × IsNotEntered c.self.inside.room c.self.inside.tail (take c.self.inside.dropped c.self.inside.rows.items)
    (drop c.self.inside.dropped c.self.inside.rows.items) c.args.entry.now c.self.inside.commits c.write_pad_before.new.commits
pad_failed g c =
    let place : Room = c.self.inside.room in
    let entry : Entry = c.args.entry.now in
    let size : ℕ = record_sectors entry in
    let mark : Mark = c.self.inside.tail in
    let d : ℕ = c.self.inside.dropped in
    let items : List Row = c.self.inside.rows.items in
    let seq : ℕ = mark.seq + length (drop d items) in
    let old : CommitsState = c.self.inside.commits in
    let new : CommitsState = c.write_pad_before.new.commits in
    let sized : c.record_sectors-sectors.result ≡ size = c.record_sectors-sectors.ensures.sectors in
    let numbered : c.next_seq-seq.result ≡ seq = c.next_seq-seq.ensures ∙ ap next_seq (sym c.self.view_is) in
    let fails : FailsToPad place size seq old new = subst₂ (λ n s. FailsToPad place n s old new) sized numbered
    c.in_err-write_pad_before.ensures.err in
    let enough = room_for place c.record_sectors-sectors.result size c.need-need.result c.free-free.result sized
    c.need-need.ensures c.free-free.ensures.free c.if-free-need.false in
    let bytes = c.encode_into.new.bytes in
    let piece = piece_of entry seq c.next_seq-seq.result bytes numbered c.encode_into.ensures (search rules) in (
      enough,
      not_begun place mark (take d items) (drop d items) entry c.encode_into.new.bytes old new c.self.invariant.1 enough
          piece fails,
    )

pub invariant_of-self : goal.invariant_of-self
invariant_of-self g c = (c.self.invariant.0, (pad_failed g c).1.log)

pub returns-in_err-write_pad_before-clause-err : goal.returns-in_err-write_pad_before-clause-err
returns-in_err-write_pad_before-clause-err g c =
    let path = pad_failed g c in
    fault_error _ c.args.entry.now c.args.self.now _ c.from_residual.ensures.1
    (failure _ _ _ _ _ _ _ _ _ _ c.self.view_is path.0 path.1)

pub returns-in_err-write_pad_before-clause-commits : goal.returns-in_err-write_pad_before-clause-commits
returns-in_err-write_pad_before-clause-commits g c =
    (let path = pad_failed g c in (failure _ _ _ _ _ _ _ _ _ _ c.self.view_is path.0 path.1).commits)

-- ---- the write of the record failed

write_failed : (g : given.Over) (c : After-from_residual-in_err-write_at g)
    → (need c.self.inside.room (record_sectors c.args.entry.now) ≤ free c.self.inside.room)
    × IsNotEntered c.self.inside.room c.self.inside.tail (take c.self.inside.dropped c.self.inside.rows.items)
    (drop c.self.inside.dropped c.self.inside.rows.items) c.args.entry.now c.self.inside.commits c.write_at.new.commits
write_failed g c =
    let place : Room = c.self.inside.room in
    let entry : Entry = c.args.entry.now in
    let size : ℕ = record_sectors entry in
    let mark : Mark = c.self.inside.tail in
    let d : ℕ = c.self.inside.dropped in
    let items : List Row = c.self.inside.rows.items in
    let seq : ℕ = mark.seq + length (drop d items) in
    let old : CommitsState = c.self.inside.commits in
    let middle : CommitsState = c.write_pad_before.new.commits in
    let new : CommitsState = c.write_at.new.commits in
    let bytes : List ℕ = c.encode_into.new.bytes in
    let sized : c.record_sectors-sectors.result ≡ size = c.record_sectors-sectors.ensures.sectors in
    let numbered : c.next_seq-seq.result ≡ seq = c.next_seq-seq.ensures ∙ ap next_seq (sym c.self.view_is) in
    let at_is : c.position-at.result ≡ position place size = c.position-at.ensures ∙ ap (position place) sized in
    let padded : IsPadded place size seq old middle = subst₂ (λ n s. IsPadded place n s old middle) sized numbered
    c.in_ok-write_pad_before.ensures.ok in
    let not_there : IsNotWrittenAt (byte_of (position place size)) bytes middle new =
    subst (λ p. IsNotWrittenAt (byte_of p) bytes middle new) at_is c.in_err-write_at.ensures.err in
    let enough = room_for place c.record_sectors-sectors.result size c.need-need.result c.free-free.result sized
    c.need-need.ensures c.free-free.ensures.free c.if-free-need.false in
    let piece = piece_of entry seq c.next_seq-seq.result bytes numbered c.encode_into.ensures (search rules) in (
      enough,
      not_entered place mark (take d items) (drop d items) entry bytes old middle new c.self.invariant.1 enough piece
          padded not_there,
    )

pub invariant_of-self-in_err-write_at : goal.invariant_of-self-in_err-write_at
invariant_of-self-in_err-write_at g c = (c.self.invariant.0, (write_failed g c).1.log)

pub returns-in_err-write_at-clause-err : goal.returns-in_err-write_at-clause-err
returns-in_err-write_at-clause-err g c =
    let path = write_failed g c in
    fault_error _ c.args.entry.now c.args.self.now _ c.from_residual-in_err-write_at.ensures.1
    (failure _ _ _ _ _ _ _ _ _ _ c.self.view_is path.0 path.1)

pub returns-in_err-write_at-clause-commits : goal.returns-in_err-write_at-clause-commits
returns-in_err-write_at-clause-commits g c =
    (let path = write_failed g c in (failure _ _ _ _ _ _ _ _ _ _ c.self.view_is path.0 path.1).commits)

-- ---- the record was written

done : (g : given.Over) (c : After-push_back_reserved g) (after : ℕ)
    → IsSuccess c.args.entry.now c.position-at.result c.args.self.now
    (view_of c.enter.new.self (record c.self.inside.tail { position = c.start_with-start.result })
    (take c.self.inside.dropped c.push_back_reserved.new.self.items)
    (drop c.self.inside.dropped c.push_back_reserved.new.self.items) c.write_at.new.commits after)
    (record c.self.inside.tail { position = c.start_with-start.result })
done g c after =
    let place : Room = c.self.inside.room in
    let mark : Mark = c.self.inside.tail in
    let d : ℕ = c.self.inside.dropped in
    let items : List Row = c.self.inside.rows.items in
    let entry : Entry = c.args.entry.now in
    let size : ℕ = record_sectors entry in
    let seq : ℕ = mark.seq + length (drop d items) in
    let at : ℕ = c.position-at.result in
    let old : CommitsState = c.self.inside.commits in
    let middle : CommitsState = c.write_pad_before.new.commits in
    let new : CommitsState = c.write_at.new.commits in
    let bytes : List ℕ = c.encode_into.new.bytes in
    let sized : c.record_sectors-sectors.result ≡ size = c.record_sectors-sectors.ensures.sectors in
    let numbered : c.next_seq-seq.result ≡ seq = c.next_seq-seq.ensures ∙ ap next_seq (sym c.self.view_is) in
    let at_is : at ≡ position place size = c.position-at.ensures ∙ ap (position place) sized in
    let padded : IsPadded place size seq old middle = subst₂ (λ n s. IsPadded place n s old middle) sized numbered
    c.in_ok-write_pad_before.ensures.ok in
    let there : IsWrittenAt (byte_of (position place size)) bytes middle new =
    subst (λ p. IsWrittenAt (byte_of p) bytes middle new) at_is c.in_ok-write_at.ensures.ok in
    let enough = room_for place c.record_sectors-sectors.result size c.need-need.result c.free-free.result sized
    c.need-need.ensures c.free-free.ensures.free c.if-free-need.false in
    let piece = piece_of entry seq c.next_seq-seq.result bytes numbered c.encode_into.ensures (search rules) in
    let below : next_seq c.args.self.now < 2 ^ 64 - 1 = c.requires.seq in
    let small : seq < 2 ^ 64 - 1 = subst (λ (l : LogState). next_seq l < 2 ^ 64 - 1) (sym c.self.view_is) below in
    let is = entered place mark (take d items) (drop d items) entry bytes old middle new c.self.invariant.1 enough piece padded
    there (omega (arith, small)) in
    let grown : c.enter.new.self ≡ after_record place size = c.enter.ensures ∙ ap (after_record place) sized in
    let tail : record mark { position = c.start_with-start.result } ≡ mark_with mark at (drop d items) =
    ap (λ p. record mark { position = p }) (c.start_with-start.ensures
    ∙ ap (λ (l : LogState). start_with at l.start l.rows) (sym c.self.view_is)) in
    let pushed : c.push_back_reserved.new.self.items ≡ items ++ row_of seq at entry ∷ [] =
    c.push_back_reserved.ensures.items ∙ ap (λ r. items ++ r ∷ []) (c.of.ensures ∙ ap (λ n. row_of n at entry) numbered) in
    pushed_log place c.enter.new.self mark (record c.self.inside.tail { position = c.start_with-start.result }) items
    c.push_back_reserved.new.self.items d entry at old new _ after c.args.self.now c.self.view_is enough at_is grown tail
    pushed c.self.invariant.0 is

pub invariant_of-self-2 : goal.invariant_of-self-2
invariant_of-self-2 g c =
    let longer : length c.push_back_reserved.new.self.items ≡ length (c.self.inside.rows.items ++ c.of.result ∷ []) =
    ap length c.push_back_reserved.ensures.items in
    let one = length-append c.self.inside.rows.items (c.of.result ∷ []) in
    let less = c.self.invariant.0 in
    (omega (arith, longer, one, less), (done g c 0).log)

pub returns-clause-ok : goal.returns-clause-ok
returns-clause-ok g c = (done g c _).ok

pub returns-clause-commits : goal.returns-clause-commits
returns-clause-commits g c = (done g c _).commits
