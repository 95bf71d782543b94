-- By the fates of the pending writes a stop leaves of the cache what reads as the commit that the plain cache keeps then.
use Rattle.std.proofs.Common.{◌≡◌, ℕ, ◌+◌, ◌%◌, ◌<◌, ◌≤◌, Bool, true, false, List, ◌∷◌, length, map, refl, sym, ◌∙◌, ap, subst}
use Rattle.std.proofs.Common.{inl, inr, arith, if◌then◌else◌}
use Rattle.std.specs.Prelude.{Option, Some, None, IfSome, option_map}
use Rattle.lsvd_device.specs.Medium.{Medium, MayLeave}
use Rattle.lsvd_device.specs.Device.{HasSize, HoldsNow}
use Rattle.lsvd_device.specs.Stop.{left_in_order}
use Rattle.lsvd_device.specs.declared.fate.Fate.{Fate}
use Rattle.commit_body.specs.declared.body.CommitBody.{CommitBody}
use Rattle.commit_slot.specs.Slots.{log_of, gate_at, Reads}
use Rattle.commit_slot.specs.Commits.{CommitsState}
use Rattle.commit_slot.specs.OnDisk.{ReadsWithGate, HasGate}
use Rattle.cache_log.specs.Log.{LogState}
use Rattle.plain_disk.specs.declared.log.PlainCommit.{PlainCommit}
use Rattle.plain_disk.specs.Cache.{keeps_opened_gate, is_kept, commit_or, kept_commit}
use Rattle.plain_disk.specs.State.{PlainState, frontier_end}
use Rattle.refine_log.specs.Shows.{commit_of}
use Rattle.stopped_volume.specs.Device.{CacheOwner}
use Rattle.refine_log.specs.StopLaws.{ShowsStops}
use Rattle.refine_log.proofs.Sizes.{left_size}
use Rattle.refine_log.proofs.StopLemmas.{IsLastOrUnfinished, one_of, HasCommitUpTo, log_fits, one_own, now_size, leaves_now}
use Rattle.refine_log.proofs.StopLemmas.{has_commit}
use Rattle.refine_log.specs.Pending.{IsBrokenOff, ShowsPending}
use Rattle.refine_log.proofs.Asked.{pending_count, newest_of}
use Rattle.refine_mount.specs.Laws.{FatesKeepCommit}
use Rattle.refine_mount.proofs.GateLemmas.{IsOpenBy, gate_left}

-- ---- numbers

one_young : (number : ℕ) (last : CommitBody) (unfinished : Option CommitBody) (n : ℕ) (body : CommitBody)
    → IsLastOrUnfinished number last unfinished n body → n ≤ number + 1
one_young number last unfinished n body (inl is) = (let e = is.same_number in omega (arith, e))
one_young number last unfinished n body (inr (more, same, is)) = (let e = is.same_number in omega (arith, e))

-- bytes read as commits of one number
one_number : (log : ℕ) (bytes : List ℕ) (body other : CommitBody) (n m : ℕ) → Reads log bytes body n
    → Reads log bytes other m → n ≡ m
one_number log bytes body other n m a b =
    let least = a.newest b.slot other m b.is_open in
    let most = b.newest a.slot body n a.is_open in
    omega (arith, least, most)

-- ---- the commit that is read

module _ (owner : CacheOwner) (data_at : ℕ → ℕ) (log : LogState) (plain : PlainState)
    (shows : ShowsStops owner data_at log plain) where
  module _ (now : Medium) (past : List Medium) (is : log.commits.disk.moments ≡ now ∷ past) where
    now_is : HasSize log.commits.disk.size now
    now_is = now_size owner data_at log plain shows now past is

    -- where the gate of the unfinished one says which commit is read, and is open exactly where its opening is kept
    by_gate : (more : CommitBody) (keeps : Bool) (left : List ℕ) (n : ℕ) (body : CommitBody)
        → ReadsWithGate log.room.log log.commits.number log.commits.body more left
        → IsOpenBy keeps (gate_at ((log.commits.number + 1) % 3)) left
        → IsLastOrUnfinished log.commits.number log.commits.body log.commits.unfinished n body → Reads log.room.log left body n
        → commit_of body ≡ (if keeps then commit_or plain.cache.log.unfinished plain.cache.log.last else plain.cache.log.last)
    by_gate more keeps left n body gated (inl open_) (inl of) reads =
        let number = one_number log.room.log left body more n (log.commits.number + 1) reads (gated.opened open_.0) in
        let last = of.same_number in
        absurd (omega (arith, number, last))
    by_gate more keeps left n body gated (inl open_) (inr (other, same, of)) reads =
        let P : Bool → Option PlainCommit → PlainCommit =
        λ k u. if k then commit_or u plain.cache.log.last else plain.cache.log.last in
        let unfinished = shows.log_is.unfinished ∙ ap (option_map commit_of) same in
        ap commit_of of.same_body ∙ sym (ap (λ k. P k plain.cache.log.unfinished) open_.1 ∙ ap (P true) unfinished)
    by_gate more keeps left n body gated (inr closed) (inl of) reads =
        ap commit_of of.same_body
        ∙ sym shows.log_is.last
        ∙ sym (ap (λ k. if k then commit_or plain.cache.log.unfinished plain.cache.log.last else plain.cache.log.last) closed.1)
    by_gate more keeps left n body gated (inr closed) (inr (other, same, of)) reads =
        let number = one_number log.room.log left body log.commits.body n log.commits.number reads (gated.closed closed.0) in
        let next = of.same_number in
        absurd (omega (arith, number, next))

    -- ---- by the fates of the pending writes

    gate_now : (more : CommitBody) → log.commits.unfinished ≡ Some more
        → HasGate log.room.log log.commits.number log.commits.body more now
    gate_now more same =
        let commits : CommitsState = log.commits in
        let P : ℕ → Medium → Type 0 = λ n. HasGate n commits.number commits.body more in
        let gate =
        subst (λ u. IfSome u (λ b. HoldsNow (HasGate (log_of commits.disk.size) commits.number commits.body b)
        commits.disk.moments)) same
        shows.on_disk.commits.gate in
        subst (λ n. P n now) (sym shows.on_disk.sectors) (subst (HoldsNow (P (log_of commits.disk.size))) is gate)

    gate_inside : gate_at ((log.commits.number + 1) % 3) < length now.synced
    gate_inside =
        let synced = now_is.synced in
        let least = shows.on_disk.commits.size in
        let slot : (log.commits.number + 1) % 3 < 3 = omega arith in
        omega (arith, synced, least, slot)

    module _ (fates : List Fate) (pending : ShowsPending log plain.cache) (count : length fates ≡ length plain.cache.pending)
        (may : MayLeave now (left_in_order fates log.commits.disk.moments)) where
      abbrev left_now : List ℕ
      left_now = left_in_order fates log.commits.disk.moments

      kept_in : (unfinished : Option CommitBody) → log.commits.unfinished ≡ unfinished → (n : ℕ) (body : CommitBody)
          → IsLastOrUnfinished log.commits.number log.commits.body log.commits.unfinished n body
          → Reads log.room.log left_now body n
          → commit_of body ≡ kept_commit (map is_kept fates) plain.cache
      kept_in None same n body (inr (more, other, of)) reads = absurd (let e : ◌≡◌ {A = Option CommitBody} None (Some more) =
          sym same ∙ other in cc)
      kept_in None same n body (inl of) reads =
          let keeps : Bool = keeps_opened_gate plain.cache.pending (map is_kept fates) in
          let last : PlainCommit = plain.cache.log.last in
          ap commit_of of.same_body
          ∙ sym shows.log_is.last
          ∙ sym (either keeps last)
          ∙ ap (λ u. if keeps then commit_or u last else last) (sym (shows.log_is.unfinished ∙ ap (option_map commit_of) same))
        where
          either : (keeps : Bool) (last : PlainCommit) → (if keeps then commit_or None last else last) ≡ last
          either true last = refl
          either false last = refl
      kept_in (Some more) same n body one reads =
          let gate : ℕ = gate_at ((log.commits.number + 1) % 3) in
          let broken = subst (λ u. IfSome u (λ b. IsBrokenOff gate log.commits.disk plain.cache.pending)) same pending.broken in
          by_gate more (keeps_opened_gate plain.cache.pending (map is_kept fates)) left_now n body
          ((gate_now more same).left left_now may)
          (gate_left gate log.commits.disk past now plain.cache.pending fates is broken gate_inside count may)
          one reads

      fates_have : (end : ℕ) → frontier_end plain ≤ end
          → HasCommitUpTo owner (log.commits.number + 1) plain (kept_commit (map is_kept fates) plain.cache) end left_now
      fates_have end from =
          let read = leaves_now owner data_at log plain shows now past is left_now may in
          let which = one_of log.commits.number log.commits.body log.commits.unfinished read.0 read.1 read.2 in
          let young = one_young log.commits.number log.commits.body log.commits.unfinished read.0 read.1 which in
          let whole = left_size log.commits.disk.size now left_now now_is may in
          let fits = log_fits owner data_at log plain shows in
          (has_commit owner data_at log plain shows now past is left_now (omega (arith, whole, fits)) read.0 read.1
          (one_own owner data_at log plain shows read.0 read.1 which) read.3 read.4
          (kept_commit (map is_kept fates) plain.cache) end (log.commits.number + 1)
          (kept_in log.commits.unfinished refl read.0 read.1 which read.3.reads) from young)

-- ---- the law

pub fates_keep_commit : FatesKeepCommit
fates_keep_commit owner data_at log plain fates end shows pending count may from to =
    let newest = newest_of log.commits.disk.moments (length plain.cache.pending)
    (pending_count log plain.cache pending) in
    fates_have owner data_at log plain shows newest.now newest.past newest.is fates pending count
    (subst (HoldsNow (λ now. MayLeave now (left_in_order fates log.commits.disk.moments))) newest.is may) end from
