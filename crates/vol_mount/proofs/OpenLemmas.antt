-- For `open_log`: a log that was opened, and why one was not.
use Rattle.std.proofs.Common.{◌≡◌, ℕ, ◌+◌, ◌*◌, ◌<◌, true, false, List, [], ◌∷◌, length, sym, ◌∙◌, ap, subst, inl, inr}
use Rattle.std.proofs.Common.{arith}
use Rattle.std.proofs.Math.Path.{subst₂}
use Rattle.std.specs.Prelude.{max}
use Rattle.std.specs.List.{All}
use Rattle.lsvd_base.specs.declared.geometry.Geometry.{Geometry}
use Rattle.lsvd_device.specs.Device.{DiskState, HoldsNow, HoldsSince}
use Rattle.lsvd_device.specs.Memory.{IsSynced}
use Rattle.log_record.specs.declared.reason.Reason.{Reason}
use Rattle.commit_body.specs.declared.body.CommitBody.{CommitBody}
use Rattle.commit_body.specs.Body.{MayStand}
use Rattle.commit_slot.specs.declared.error.LoadError.{LoadError}
use Rattle.commit_slot.specs.declared.error.LoadError.TheVariants as load_errors
use Rattle.commit_slot.specs.Slots.{log_of, Reads, ReadsNone}
use Rattle.commit_slot.specs.Commits.{CommitsState, IsCommit, Leaves, LeavesNow}
use Rattle.commit_slot.specs.LogArea.{log_area, LeavesLogArea, KeepsLogAreaSince, MakesLogAreaDurable}
use Rattle.commit_slot.specs.Loading.{MakesAtMost, load_cost, AreLoaded, FailsToLoad, IsCrashSafeLoad, LeavesSettled}
use Rattle.commit_slot.specs.Loading.{AreButSynced, LeavesRead}
use Rattle.cache_log.specs.declared.error.OpenError.{OpenError}
use Rattle.cache_log.specs.declared.error.OpenError.TheVariants as open_errors
use Rattle.cache_log.specs.declared.row.Row.{Row}
use Rattle.cache_log.specs.Reads.{AreReadOnly, opens_without_fault}
use Rattle.cache_log.specs.Opening.{AreRecordsInRange, IsBadRecord, IsBadLog, IsOpenedLog, entry_count}
use Rattle.cache_log.specs.Log.{LogState, next_seq}
use Rattle.vol_core.specs.Shows.{max_number}
use Rattle.refusals.specs.declared.refusal.Refusal.{Refusal}
use Rattle.refusals.specs.declared.refusal.Refusal.TheVariants.{WrongVolume, StaleCache, BadRecord, Worn}
use Rattle.vol_mount.specs.declared.error.MountError.{MountError}
use Rattle.vol_mount.specs.declared.error.MountError.TheVariants.{Refused}
use Rattle.stopped_volume.specs.Device.{owner_of, owner_with}
use Rattle.vol_mount.specs.Refusals.{of_load, of_open, ReadsAsCommitOf, ReadsWhole, IsBadLeftLog, IsOwnCommit, IsFirstGreat}
use Rattle.vol_mount.specs.Refusals.{IsWhyNotOpened}
use Rattle.vol_mount.specs.Leaving.{IsButLoaded, KeepsCommit, MayLeaveDevice}
use Rattle.vol_mount.specs.Costs.{open_cost, CostsMount}
use Rattle.vol_mount.specs.Steps.{IsOpenedOf, IsNotOpened, IsWhyRefusedCommit}
use Rattle.vol_mount.proofs.Moments.{now_as, now_with}
use Rattle.vol_mount.proofs.RecordLemmas.{bad_before, records_before}
use Rattle.vol_mount.proofs.CostLemmas.{opened_calls, costs_load, costs_open}

-- ---- the commits were not loaded

module _ (uuid : List ℕ) (geometry : Geometry) (epoch end greatest : ℕ) (old : DiskState)
    (sectors : geometry.log ≡ log_of old.size) where
  load_fails : (error : LoadError) (new : DiskState) → FailsToLoad error old new → IsButLoaded old new
      → IsNotOpened (owner_with uuid epoch) geometry end greatest (of_load error) old new
  load_fails (load_errors.NoSlot log) new fails loaded = record {
    why = (fails.0 ∙ sym sectors, subst (λ n. HoldsNow (λ now. ReadsNone n now.bytes) old.moments) (sym sectors) fails.1);
    settled = loaded.settled;
    device = fails.2;
    costs = costs_load geometry true old new fails.3;
  }
  load_fails load_errors.DeviceFault new fails loaded =
      record { why = tt; settled = loaded.settled; device = inl loaded; costs = costs_load geometry false old new fails }

  pub not_loaded : (error : LoadError) (result : MountError) (new : DiskState) → result ≡ of_load error
      → FailsToLoad error old new → IsCrashSafeLoad old new → LeavesSettled old new
      → IsNotOpened (owner_with uuid epoch) geometry end greatest result old new
  not_loaded error result new is fails safe settled =
      subst (λ r. IsNotOpened (owner_with uuid epoch) geometry end greatest r old new) (sym is)
      (load_fails error new fails (record { safe = safe; settled = settled }))

  -- ---- they were loaded

  module _ (commits : CommitsState) (loaded : AreLoaded old commits) (load : MakesAtMost load_cost true old commits.disk)
      (settled : LeavesSettled old commits.disk) (safe : IsCrashSafeLoad old commits.disk) where
    read_is : HoldsNow (λ now. Reads geometry.log now.bytes commits.body commits.number) old.moments
    read_is = subst (λ n. HoldsNow (λ now. Reads n now.bytes commits.body commits.number) old.moments) (sym sectors) loaded.read

    -- it reads as this commit
    reads_as : (P : ℕ → CommitBody → Type 0) → P commits.number commits.body → ReadsAsCommitOf geometry P old
    reads_as P is =
        now_as (λ now. Reads geometry.log now.bytes commits.body commits.number)
        (λ now. (number : ℕ) × (body : CommitBody) × Reads geometry.log now.bytes body number × P number body) old.moments
        (λ now reads. (commits.number, commits.body, reads, is)) read_is

    -- as it is left by reads
    settled_on : (new : DiskState) → new.moments ≡ commits.disk.moments → LeavesSettled old new
    settled_on new same = λ number body reads. subst (AreButSynced old.moments) (sym same) (settled number body reads)

    safe_on : (new : DiskState) → new.moments ≡ commits.disk.moments → IsCrashSafeLoad old new
    safe_on new same = record {
      stands = λ number body synced reads.
          subst (λ m. HoldsNow (λ before. HoldsSince (λ medium. LeavesRead (log_of old.size) number body medium
          × LeavesLogArea (log_area before.bytes) medium) old.moments m) old.moments)
          (sym same) (safe.stands number body synced reads);
      log_area = subst (KeepsLogAreaSince old.moments) (sym same) safe.log_area;
    }

    loaded_on : (new : DiskState) → new.moments ≡ commits.disk.moments → IsButLoaded old new
    loaded_on new same = record { safe = safe_on new same; settled = settled_on new same }

    keeps_on : (new : DiskState) → new.size ≡ commits.disk.size → new.moments ≡ commits.disk.moments
        → KeepsCommit geometry old new
    keeps_on new size same = record {
      loaded = loaded_on new same;
      commit =
          reads_as (λ number body. LeavesNow (IsCommit number body) new)
          (subst₂ (λ n m. HoldsNow (Leaves (log_of n) (IsCommit commits.number commits.body)) m) (sym size) (sym same)
          loaded.stands);
      log_area = subst (MakesLogAreaDurable old.moments) (sym same) loaded.durable;
      synced = subst (HoldsNow IsSynced) (sym same) loaded.synced;
    }

    -- the commit is refused
    why_refused : (refusal : Refusal) (new : DiskState) → KeepsCommit geometry old new
        → IsWhyRefusedCommit (owner_with uuid epoch) end commits.body refusal
        → IsWhyNotOpened (owner_with uuid epoch) geometry end greatest old (Refused refusal)
        × MayLeaveDevice ⊥ geometry (Refused refusal) old new
    why_refused (WrongVolume found) new keeps why =
        (reads_as (λ number body. (body.uuid ≡ found) × (found ≡ uuid → ⊥)) why, keeps)
    why_refused (StaleCache cache store) new keeps why =
        ((why.2, why.3, reads_as (λ number body. (body.uuid ≡ uuid) × (body.epoch ≡ cache)) (why.0, why.1)), keeps)
    why_refused (BadRecord seq reason) new keeps why = (
      inl (
        why.0,
        why.1,
        reads_as (λ number body. (owner_of body ≡ owner_with uuid epoch) × (end < body.tail.seq))
            (why.2, why.3),
      ),
      keeps,
    )
    why_refused refusal new keeps why = absurd why

    pub not_taken : (refusal : Refusal) (new : DiskState) → new ≡ commits.disk
        → IsWhyRefusedCommit (owner_with uuid epoch) end commits.body refusal
        → IsNotOpened (owner_with uuid epoch) geometry end greatest (Refused refusal) old new
    not_taken refusal new same why =
        let moments : new.moments ≡ commits.disk.moments = ap (λ (d : DiskState). d.moments) same in
        let is = why_refused refusal new (keeps_on new (ap (λ (d : DiskState). d.size) same) moments) why in
        record {
          why = is.0;
          settled = settled_on new moments;
          device = is.1;
          costs = costs_load geometry true old new (subst (MakesAtMost load_cost true old) (sym same) load);
        }

    -- ---- the commit is taken

    module _ (own : IsOwnCommit (owner_with uuid epoch) end commits.body) where
      -- the log is not opened
      bad_left : (seq : ℕ) (reason : Reason)
          → IsBadLog geometry commits.body commits.disk.moments (open_errors.BadRecord seq reason)
          → IsBadLeftLog geometry (λ number body. IsOwnCommit (owner_with uuid epoch) end body) old seq reason
      bad_left seq reason bad =
          let B : List ℕ → Type 0 = λ bytes.
          IsBadRecord geometry commits.body seq reason bytes
          × ((rows : List Row) → AreRecordsInRange geometry commits.body rows bytes → ⊥) in
          now_with (λ now. Reads geometry.log now.bytes commits.body commits.number) (λ now. B now.bytes)
          (λ now. (number : ℕ) × (body : CommitBody) × Reads geometry.log now.bytes body number
          × IsOwnCommit (owner_with uuid epoch) end body × IsBadRecord geometry body seq reason now.bytes
          × ((rows : List Row) → AreRecordsInRange geometry body rows now.bytes → ⊥)) old.moments
          (λ now reads is. (commits.number, commits.body, reads, own, is.0, is.1)) read_is
          (bad_before geometry commits.body seq reason old.moments commits.disk.moments safe.log_area bad)

      open_fails : (error : OpenError) (new : CommitsState)
          → IsBadLog geometry commits.body commits.disk.moments error
          → AreReadOnly (2 * entry_count commits.body) (opens_without_fault error) commits new
          → IsNotOpened (owner_with uuid epoch) geometry end greatest (of_open error) old new.disk
      open_fails (open_errors.BadRecord seq reason) new bad reads = record {
        why = inr (bad_left seq reason bad);
        settled = settled_on new.disk reads.moments;
        device = keeps_on new.disk reads.reads.calls.size reads.moments;
        costs =
            costs_open geometry true old new.disk commits.number commits.body read_is
            (opened_calls (entry_count commits.body) true old commits new load reads);
      }
      open_fails open_errors.DeviceFault new bad reads = record {
        why = tt;
        settled = settled_on new.disk reads.moments;
        device = inl (loaded_on new.disk reads.moments);
        costs =
            costs_open geometry false old new.disk commits.number commits.body read_is
            (opened_calls (entry_count commits.body) false old commits new load reads);
      }
      open_fails open_errors.OutOfMemory new bad reads = record {
        why = tt;
        settled = settled_on new.disk reads.moments;
        device = inl (keeps_on new.disk reads.reads.calls.size reads.moments);
        costs =
            costs_open geometry true old new.disk commits.number commits.body read_is
            (opened_calls (entry_count commits.body) true old commits new load reads);
      }

      pub not_opened : (error : OpenError) (result : MountError) (after : CommitsState) (new : DiskState)
          → result ≡ of_open error → new ≡ after.disk → IsBadLog geometry commits.body commits.disk.moments error
          → AreReadOnly (2 * entry_count commits.body) (opens_without_fault error) commits after
          → IsNotOpened (owner_with uuid epoch) geometry end greatest result old new
      not_opened error result after new is same bad reads =
          subst (λ disk. IsNotOpened (owner_with uuid epoch) geometry end greatest result old disk) (sym same)
          (subst (λ r. IsNotOpened (owner_with uuid epoch) geometry end greatest r old after.disk) (sym is)
          (open_fails error after bad reads))

      -- ---- it was opened

      module _ (log : LogState) (is : IsOpenedLog geometry commits log) where
        number_is : log.commits.number ≡ commits.number
        number_is = is.only.same.same_number

        seq_is : next_seq log ≡ commits.body.head.seq
        seq_is = ap (λ n. n + length log.rows) is.first ∙ is.rows.seqs

        open_calls : MakesAtMost (open_cost (entry_count commits.body)) true old log.commits.disk
        open_calls = opened_calls (entry_count commits.body) true old commits log.commits load is.only

        -- the device had its records
        records_are : HoldsNow (λ now. AreRecordsInRange geometry commits.body log.rows now.bytes) old.moments
        records_are = records_before geometry commits.body log.rows old.moments commits.disk.moments safe.log_area is.records

        reads_whole : (P : ℕ → CommitBody → Type 0) → P commits.number commits.body → ReadsWhole geometry P old
        reads_whole P so =
            now_with (λ now. Reads geometry.log now.bytes commits.body commits.number)
            (λ now. AreRecordsInRange geometry commits.body log.rows now.bytes)
            (λ now. (number : ℕ) × (body : CommitBody) × Reads geometry.log now.bytes body number × P number body
            × ((rows : List Row) × AreRecordsInRange geometry body rows now.bytes)) old.moments
            (λ now reads are. (commits.number, commits.body, reads, so, (log.rows, are))) read_is records_are

        -- and is worn out
        pub worn_left : (value count : ℕ) (new : DiskState) → new ≡ log.commits.disk → count ≡ max end (next_seq log)
            → IsFirstGreat (log.commits.number ∷ epoch ∷ greatest ∷ count ∷ []) value
            → IsNotOpened (owner_with uuid epoch) geometry end greatest (Refused (Worn value)) old new
        worn_left value count new same count_is which =
            let P : ℕ → ℕ → Type 0 = λ n k. IsFirstGreat (n ∷ epoch ∷ greatest ∷ k ∷ []) value in
            let moments : new.moments ≡ commits.disk.moments = ap (λ (d : DiskState). d.moments) same ∙ is.only.moments in
            record {
              why = reads_whole (λ number body. P number (max end body.head.seq) × IsOwnCommit (owner_with uuid epoch) end body)
                  (subst₂ P number_is (count_is ∙ ap (max end) seq_is) which, own);
              settled = settled_on new moments;
              device = keeps_on new (ap (λ (d : DiskState). d.size) same ∙ is.only.reads.calls.size) moments;
              costs =
                  subst (λ disk. CostsMount geometry.log true old disk) (sym same)
                  (costs_open geometry true old log.commits.disk commits.number commits.body read_is open_calls);
            }

        -- or has small numbers
        pub opened_of : (count : ℕ) → MayStand commits.body (log_of commits.disk.size) → count ≡ max end (next_seq log)
            → All (λ number. number < max_number) (log.commits.number ∷ epoch ∷ greatest ∷ count ∷ [])
            → IsOpenedOf (owner_with uuid epoch) geometry end old log
        opened_of count stands count_is low =
            let size : log_of commits.disk.size ≡ geometry.log = ap log_of load.calls.size ∙ sym sectors in
            record {
              commits = commits;
              read = read_is;
              records = records_are;
              is_of = own.0;
              up_to = record {
                may_stand = subst (MayStand commits.body) size stands;
                finished = loaded.finished;
                opened = is;
                tail = own.1;
                number = subst (λ n. n < max_number) number_is (low 0 0 (omega arith));
                count = subst (λ n. n < max_number) (count_is ∙ ap (max end) seq_is) (low 3 0 (omega arith));
              };
              settled = settled_on log.commits.disk is.only.moments;
              calls = open_calls;
            }
