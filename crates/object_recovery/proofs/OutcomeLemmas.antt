-- What comes of a recovery, by what was adopted and how the others were judged.
use Rattle.std.proofs.Common.{◌≡◌, ℕ, ◌+◌, ◌-◌, ◌^◌, ◌<◌, ◌≤◌, inl, inr, Option, Some, None, List, length, refl, sym}
use Rattle.std.proofs.Common.{ap, subst, arith}
use Rattle.std.specs.Prelude.{Ok, Err, IfSome}
use Rattle.clone_chain.specs.declared.ancestor.Ancestor.{Ancestor}
use Rattle.lsvd_base.specs.declared.geometry.Geometry.{Geometry}
use Rattle.lsvd_fault.specs.Faults.{Counts}
use Rattle.lsvd_names.specs.declared.name.ObjName.{ObjName}
use Rattle.lsvd_objstore.specs.declared.error.StoreError.{StoreError}
use Rattle.lsvd_objstore.specs.declared.error.StoreError.TheVariants as store
use Rattle.lsvd_objstore.specs.Objects.{Objects, found, Lists}
use Rattle.lsvd_objstore.specs.Store.{StoreState, has_failed}
use Rattle.object_format.specs.declared.expected.Expected.{Expected}
use Rattle.object_stream.specs.Replay.{object_name}
use Rattle.extent_map.specs.declared.extent.Extent.{Extent}
use Rattle.ckpt_format.specs.declared.place.StoredPlace.{StoredPlace}
use Rattle.ckpt_format.specs.Checkpoint.{IsCheckpoint}
use Rattle.stopped_volume.specs.Ancestors.{uuid_in_chain}
use Rattle.stopped_volume.specs.Expected.{expected_alone}
use Rattle.stopped_volume.specs.Objects.{IsWhole}
use Rattle.stopped_volume.specs.Opening.{owned_by}
use Rattle.upload_window.specs.Window.{WindowState}
use Rattle.object_uploads.specs.State.{QueueState}
use Rattle.obj_log.specs.State.{ObjLogState}
use Rattle.obj_log.specs.Changes.{expected_of_volume, next_of}
use Rattle.object_recovery.specs.declared.error.RecoverError.{RecoverError}
use Rattle.object_recovery.specs.declared.judging.Reached.{Reached}
use Rattle.object_recovery.specs.declared.judging.ObjectRefusal.{ObjectRefusal}
use Rattle.object_recovery.specs.Beginning.{BeginsList, BeginsInStore}
use Rattle.object_recovery.specs.Checkpoints.{expected_of, ReadCheckpoint, IsStoredCheckpoint, IsNewest, IsNewestWithEnd}
use Rattle.object_recovery.specs.declared.error.RecoverError.TheVariants as errors
use Rattle.object_recovery.specs.Faults.{of_store, of_refusal, refusal_or_missing, is_store_fault, IsNoAnswer}
use Rattle.object_recovery.specs.Judging.{IsRun}
use Rattle.object_recovery.specs.Judged.{IsVerdict, IsReached, IsGap, GoesToGap, JudgesPast, StaysRefused}
use Rattle.object_recovery.specs.Adoption.{IsWhyLeft, HasEndedAt, KeepsGood, KeepsKnown, reached_by, ReachesGap, JudgesRest}
use Rattle.object_recovery.specs.Adoption.{RefusesRest}
use Rattle.object_recovery.specs.Adoption.{IsRecoveryBegun, RefusesBeside, HasGoneOn, GoesOnWith, StopsWith}
use Rattle.object_recovery.specs.Adoption.{GoesOnOf, RecoverListOf}
use Rattle.object_recovery.specs.Missing.{IsMissing}
use Rattle.object_recovery.specs.Places.{HasPlacesInside}
use Rattle.object_recovery.specs.Recovery.{IsListUpTo, KeepsStreams, AreAllGood, AreNamedWholePast, IsWhyObjectsRefused}
use Rattle.object_recovery.specs.Recovery.{IsRefusal, IsRecoveryRefused}
use Rattle.object_recovery.specs.Recovering.{Recovers}
use Rattle.object_recovery.specs.Table.{FindsNamed}
use Rattle.object_recovery.proofs.EndLemmas.{alone_object}
use Rattle.object_recovery.proofs.ListLemmas.{left_good}
use Rattle.object_recovery.proofs.RecoverLemmas.{IsBegun, one_reading, stream_to, is_recovered}
use Rattle.object_recovery.proofs.RefusalLemmas.{volume_is, is_refused, no_answer_refused}

-- all objects past a checkpoint were judged
pub record AreJudged (volume : Expected) (objects : Objects) (base : ℕ) (refused : Option ObjectRefusal) : Type 0 where
  pub last : ℕ
  pub run : IsRun volume objects base last
  pub verdict : IsVerdict volume objects last (λ number. base < number) refused

module _ (volume : Expected) (objects : Objects) (base base_end : ℕ) (newest : IsNewestWithEnd volume objects base base_end) where
  -- ---- where it begins

  pub at_base : IsReached volume objects base (record { number = base; end = Some base_end; refused = None })
  at_base =
      let is = newest.is in
      record {
        newest = newest.newest;
        from = omega arith;
        landed = λ number past to. absurd (omega (arith, past, to));
        has_end = record { bytes = is.bytes; present = is.present; is_end = inr (is.rows, is.is_checkpoint) };
        verdict = λ last to number bytes such fits there. absurd (omega (arith, such.0, such.1));
      }

  pub begun_reached : (uuid : List ℕ) (geometry : Geometry) (ancestors : ℕ) (begun : ObjLogState)
      → IsListUpTo uuid geometry ancestors base base_end begun → IsReached volume objects base (reached_by begun)
  begun_reached uuid geometry ancestors begun list =
      let last : base ≡ begun.uploads.window.last = sym (ap (λ (w : WindowState). w.last) list.window) in
      let At : ℕ → ℕ → Reached = λ n e. record { number = n; end = Some e; refused = None } in
      subst (λ n. IsReached volume objects base (At n begun.uploads.queue.end)) last
      (subst (λ e. IsReached volume objects base (At base e)) (sym list.end_is) at_base)

  -- ---- how it ends

  is_run : (gap : Reached) → IsReached volume objects base gap → IsGap volume objects gap → IsRun volume objects base gap.number
  is_run gap is missing = record { end = base_end; newest = newest; from = is.from; landed = is.landed; missing = missing }

  -- where all past it were judged
  pub beside_judged : (gap : Reached) (names : List ObjName) (refused : Option ObjectRefusal)
      → Lists volume.uuid objects names
      → GoesToGap volume objects (record { number = base; end = Some base_end; refused = None }) gap
      → JudgesPast volume objects names gap refused → AreJudged volume objects base refused
  beside_judged gap names refused listed goes past =
      let there = goes.reached base at_base in
      record { last = gap.number; run = is_run gap there goes.missing; verdict = past base listed there }

  module _ (log : ObjLogState) (same_volume : expected_of_volume log ≡ volume) (uuid : List ℕ) (geometry : Geometry)
      (ancestors : ℕ) (list : IsListUpTo uuid geometry ancestors log.uploads.window.last log.uploads.queue.end log)
      (reached : IsReached volume objects base (reached_by log)) (names : List ObjName)
      (listed : Lists volume.uuid objects names) where
    gap_reached : (left : Option Reached) (gap : Reached) → HasEndedAt objects log left → ReachesGap volume objects log left gap
        → IsReached volume objects base gap × IsGap volume objects gap
    gap_reached None gap ended reaches =
        let missing : IsGap volume objects (reached_by log) =
        subst (λ (v : Expected). log.uploads.window.last + 1 < 2 ^ 64
        → found objects (object_name v (log.uploads.window.last + 1)) ≡ None) same_volume ended in
        (subst (IsReached volume objects base) (sym reaches) reached, subst (IsGap volume objects) (sym reaches) missing)
    gap_reached (Some left) gap ended reaches = (
      reaches.reached base (left_good volume log uuid geometry ancestors same_volume list objects base left ended reached),
      reaches.missing,
    )

    pub are_judged : (left : Option Reached) (refused : Option ObjectRefusal) → HasEndedAt objects log left
        → JudgesRest objects log names left refused
        → AreJudged volume objects base refused
    are_judged left refused ended rest =
        let reaches = subst (λ v. ReachesGap v objects log left rest.gap) same_volume rest.reaches in
        let there = gap_reached left rest.gap ended reaches in
        record {
          last = rest.gap.number;
          run = is_run rest.gap there.0 there.1;
          verdict = (subst (λ v. JudgesPast v objects names rest.gap refused) same_volume rest.past) base listed there.0;
        }

    -- where none is refused, the list ends before the first missing number, or before the greatest number of all
    pub none_next : (left : Option Reached) → HasEndedAt objects log left → JudgesRest objects log names left None
        → log.uploads.window.last + 1 < 2 ^ 64 - 1 → found objects (object_name volume (log.uploads.window.last + 1)) ≡ None
    none_next None ended rest low =
        subst (λ (v : Expected). found objects (object_name v (log.uploads.window.last + 1)) ≡ None) same_volume
        (ended (omega (arith, low)))
    none_next (Some left) ended rest low =
        let none : left.refused ≡ None = rest.reaches.stays (rest.stays refl) in
        let why = subst (IsWhyLeft ended.bytes (length ended.bytes) (next_of log)) none ended.left.why in
        absurd (omega (arith, why.0, low))

-- ---- the outcomes

module _ (volume : Expected) (uuid_at : ℕ → Option (List ℕ)) (objects : Objects) (base : ℕ) where
  pub all_good : AreJudged volume objects base None → AreAllGood volume objects base
  all_good is = (is.last, is.run, is.verdict)

  pub whole_past : (number : ℕ) → base ≤ number → AreJudged volume objects base None → AreNamedWholePast volume objects number
  whole_past number from is other bytes past fits there =
      let good = is.verdict other bytes (omega (arith, from, past)) fits there in
      let same : good.bytes ≡ bytes = let e = good.present in cc in
      let whole = good.holds in
      let expected : Expected = record volume { number = other; end_before = good.end_before } in
      subst (λ b. IsWhole (expected_alone volume other) b) same
      (whole.0, whole.1, alone_object good.bytes (length good.bytes) expected whole.0 whole.1 whole.2)

  pub why_refused : (refusal : ObjectRefusal) → AreJudged volume objects base (Some refusal)
      → IsWhyObjectsRefused volume uuid_at objects (of_refusal refusal)
  why_refused refusal is =
      let verdict = is.verdict in (
        base,
        is.last,
        is.run,
        record {
          after = verdict.0;
          bad = verdict.1;
          greater = λ other bytes past fits there. verdict.2 other bytes (omega (arith, verdict.0, past), past) fits there;
        },
      )

-- ---- a recovery

-- the checkpoint that a recovery begins at is the newest, with these rows
abbrev newest_of : (volume : Expected) (objects : Objects) (base : ReadCheckpoint) (rows : List (Extent StoredPlace))
    → IsCheckpoint base.bytes (expected_alone volume base.number) base.end rows → IsStoredCheckpoint volume objects base
    → IsNewest volume objects base.number → IsNewestWithEnd volume objects base.number base.end
newest_of volume objects base rows is stored newest = record {
  owned = owned_by rows;
  is = record {
    bytes = base.bytes;
    present = stored.present;
    rows = rows;
    is_checkpoint = is;
    says = λ k. refl;
  };
  newest = newest;
}

module _ (uuid : List ℕ) (geometry : Geometry) (chain : List Ancestor) (base : ReadCheckpoint)
    (rows : List (Extent StoredPlace)) (names : List ObjName) (wide : geometry.sectors < 2 ^ 64)
    (is : IsCheckpoint base.bytes (expected_alone (expected_of uuid geometry (length chain)) base.number) base.end rows) where
  abbrev ancestors : ℕ
  ancestors = length chain

  abbrev volume : Expected
  volume = expected_of uuid geometry ancestors

  abbrev uuid_at : ℕ → Option (List ℕ)
  uuid_at = uuid_in_chain uuid chain

  abbrev newest_at : (objects : Objects) → IsRecoveryBegun uuid geometry ancestors base names objects
      → IsNewestWithEnd volume objects base.number base.end
  newest_at objects from = newest_of volume objects base rows is from.stored from.newest

  -- ---- beside an object that its rows name and that is not there

  beside_of : (objects : Objects) (missing : ℕ) (refused : Option ObjectRefusal)
      → IsMissing uuid_at objects rows missing → IsRecoveryBegun uuid geometry ancestors base names objects
      → AreJudged volume objects base.number refused
      → IsRecoveryRefused volume uuid_at objects (refusal_or_missing missing refused)
  beside_of objects missing None lacks from judged =
      let newest = newest_at objects from in
      is_refused volume uuid_at objects wide (errors.MissingObject missing) (record {
        base = base.number;
        end = base.end;
        owned = owned_by rows;
        checkpoint = newest.is;
        newest = newest.newest;
        good = all_good volume uuid_at objects base.number judged;
        missing = lacks;
      })
  beside_of objects missing (Some refusal) lacks from judged =
      is_refused volume uuid_at objects wide (of_refusal refusal) (why_refused volume uuid_at objects base.number refusal judged)

  beside : (objects : Objects) (missing : ℕ) (error : RecoverError) → IsMissing uuid_at objects rows missing
      → RefusesBeside volume objects (record { number = base.number; end = Some base.end; refused = None }) names missing error
      → IsRecoveryBegun uuid geometry ancestors base names objects → IsRecoveryRefused volume uuid_at objects error
  beside objects missing error lacks refuses from =
      let judged = beside_judged volume objects base.number base.end (newest_at objects from) refuses.0 names refuses.1
      from.listed refuses.2 refuses.3 in
      subst (IsRecoveryRefused volume uuid_at objects) (sym refuses.4) (beside_of objects missing refuses.1 lacks from judged)

  pub told_beside : (told : Option Objects) (missing : ℕ) (error : RecoverError)
      → IfSome told (λ objects. Lists uuid objects names → (end : ℕ) (others : List (Extent StoredPlace))
      → IsCheckpoint base.bytes (expected_alone volume base.number) end others → IsMissing uuid_at objects others missing)
      → IfSome told (λ objects. RefusesBeside volume objects
      (record { number = base.number; end = Some base.end; refused = None }) names missing error)
      → IfSome told (λ objects. IsRecoveryBegun uuid geometry ancestors base names objects
      → IsRecoveryRefused volume uuid_at objects error)
  told_beside None missing error lacks refuses = tt
  told_beside (Some objects) missing error lacks refuses = λ from.
      beside objects missing error (lacks from.listed base.end rows is) refuses from

  -- ---- where a list begins with them

  -- what the list has once it has begun, where the store tells its objects
  abbrev pub BeginsAsStored : ObjLogState → (absent : Option (List ℕ)) → Objects → Type 0
  BeginsAsStored begun absent objects = Lists uuid objects names → IsStoredCheckpoint volume objects base
      → BeginsInStore volume uuid_at objects base.number rows begun absent

  -- a list that goes on is one of the same uuid and the same sizes
  list_after : (begun log : ObjLogState) (absent : Option (List ℕ)) → BeginsList uuid geometry ancestors base rows begun absent
      → IsListUpTo begun.uploads.uuid begun.batch.geometry begun.uploads.ancestors log.uploads.window.last log.uploads.queue.end
      log
      → IsListUpTo uuid geometry ancestors log.uploads.window.last log.uploads.queue.end log
  list_after begun log absent begins list =
      subst (λ u. IsListUpTo u geometry ancestors log.uploads.window.last log.uploads.queue.end log) begins.list.uuid_is
      (subst (λ sizes. IsListUpTo begun.uploads.uuid sizes ancestors log.uploads.window.last log.uploads.queue.end log)
      begins.list.geometry_is
      (subst (λ n. IsListUpTo begun.uploads.uuid begun.batch.geometry n log.uploads.window.last log.uploads.queue.end log)
      begins.list.ancestors_are list))

  module _ (begun log : ObjLogState) (absent : Option (List ℕ))
      (begins : BeginsList uuid geometry ancestors base rows begun absent)
      (objects : Objects) (of_store : BeginsAsStored begun absent objects) (left : Option Reached)
      (gone : HasGoneOn objects begun log left)
      (from : IsRecoveryBegun uuid geometry ancestors base names objects) where
    list : IsListUpTo uuid geometry ancestors log.uploads.window.last log.uploads.queue.end log
    list = list_after begun log absent begins gone.list

    abbrev newest : IsNewestWithEnd volume objects base.number base.end
    newest = newest_at objects from

    begun_volume : expected_of_volume begun ≡ volume
    begun_volume = volume_is uuid geometry ancestors base.number base.end begun begins.list

    log_volume : expected_of_volume log ≡ volume
    log_volume = volume_is uuid geometry ancestors log.uploads.window.last log.uploads.queue.end log list

    begun_at : IsBegun uuid_at objects uuid geometry ancestors rows base.number base.end begun
    begun_at = record {
      list = begins.list;
      order = begins.order;
      owners_are = begins.owners_are;
      value = (of_store from.listed from.stored).value;
      inherited = λ k place at further.
          (of_store from.listed from.stored).knows.places base.end (owned_by rows) newest.is k place at
          (λ own. absurd (omega (arith, own, further)));
    }

    kept : KeepsStreams volume objects begun log
    kept = subst (λ v. KeepsStreams v objects begun log) begun_volume gone.streams

    kept_known : KeepsKnown volume objects begun log
    kept_known = subst (λ v. KeepsKnown v objects begun log) begun_volume gone.knows

    log_reached : IsReached volume objects base.number (reached_by log)
    log_reached =
        (subst (λ v. KeepsGood v objects begun log) begun_volume gone.good) base.number
        (begun_reached volume objects base.number base.end newest uuid geometry ancestors begun begins.list)

    judged : (refused : Option ObjectRefusal) → JudgesRest objects log names left refused
        → AreJudged volume objects base.number refused
    judged refused rest =
        are_judged volume objects base.number base.end newest log log_volume uuid geometry ancestors list log_reached
        names from.listed left refused gone.ended rest

    recovers : JudgesRest objects log names left None → Recovers volume uuid_at base.number objects log absent
    recovers rest = record {
      checkpoint = (base.end, newest);
      recovered = λ low.
          let none = none_next volume objects base.number base.end newest log log_volume uuid geometry ancestors list
          log_reached names from.listed left gone.ended rest low in
          is_recovered volume objects base.number base.end wide newest uuid_at uuid geometry ancestors begun log begun_at kept
          list log_reached.from log_reached.landed none;
      no_longer = λ stream opening number has.
          (stream_to volume objects base.number base.end wide newest uuid_at stream opening number has uuid geometry ancestors
          begun log begun_at kept).1;
      landed = log_reached.landed;
      good = all_good volume uuid_at objects base.number (judged None rest);
      past = whole_past volume uuid_at objects base.number log.uploads.window.last log_reached.from (judged None rest);
      knows = kept_known base.number (omega (arith, begins.list.frontier)) (of_store from.listed from.stored).knows;
      finds = λ end owned checkpoint.
          let one = one_reading volume objects base.number base.number base.end end (owned_by rows) owned refl newest.is
          checkpoint in
          subst (λ others. FindsNamed volume uuid_at objects others absent) (sym one.1) (of_store from.listed from.stored).finds;
    }

    refuses : (error : RecoverError) → RefusesRest objects log names left error → IsRecoveryRefused volume uuid_at objects error
    refuses error refused =
        elim refused [
          | inl none ↦ no_answer_refused volume uuid_at objects error none
          | inr is ↦
              subst (IsRecoveryRefused volume uuid_at objects) (sym is.1)
              (is_refused volume uuid_at objects wide (of_refusal is.0)
              (why_refused volume uuid_at objects base.number is.0 (judged (Some is.0) is.2)))
        ]

  -- ---- where the store tells its objects

  module _ (begun : ObjLogState) (absent : Option (List ℕ)) (begins : BeginsList uuid geometry ancestors base rows begun absent)
    where
      told_recovers : (told : Option Objects) (log : ObjLogState) → IfSome told (BeginsAsStored begun absent)
          → IfSome told (λ objects. GoesOnWith objects names begun log)
          → IfSome told (λ objects. IsRecoveryBegun uuid geometry ancestors base names objects
          → Recovers volume uuid_at base.number objects log
          absent)
      told_recovers None log of_store goes = tt
      told_recovers (Some objects) log of_store goes = λ from.
          recovers begun log absent begins objects of_store goes.0 goes.1 from goes.2

      told_refuses : (told : Option Objects) (error : RecoverError) → IfSome told (BeginsAsStored begun absent)
          → IfSome told (λ objects. StopsWith objects names begun error)
          → IfSome told (λ objects. IsRecoveryBegun uuid geometry ancestors base names objects
          → IsRecoveryRefused volume uuid_at objects error)
      told_refuses None error of_store stops = tt
      told_refuses (Some objects) error of_store stops = λ from.
          elim stops [
            | inl none ↦ no_answer_refused volume uuid_at objects error none
            | inr is ↦ refuses begun is.0 absent begins objects of_store is.1 is.2 from error is.3
          ]

      -- how the list goes on, the recovery ends
      pub recovers_so : (Tells : Type 0) (old new : StoreState) (log : ObjLogState)
          → (Tells → IfSome old.objects (BeginsAsStored begun absent)) → GoesOnOf Tells begun names old new (Ok log)
          → RecoverListOf Tells uuid geometry chain base names old new (Ok (record { log = log; absent = absent }))
      recovers_so Tells old new log of_store goes = record {
        list = list_after begun log absent begins goes.list;
        from = subst (λ n. n ≤ log.uploads.window.last) (ap (λ (w : WindowState). w.last) begins.list.window) goes.from;
        order = goes.order;
        places = λ none.
            let At : Geometry → QueueState → Type 0 = λ sizes queue. HasPlacesInside sizes.sectors queue in
            let geometry_is = begins.list.geometry_is in
            subst (λ sizes. At sizes log.uploads.queue) geometry_is
            (goes.places (subst (λ sizes. At sizes begun.uploads.queue) (sym geometry_is) (begins.places none)));
        table = goes.table base.number begins.table;
        recovers = λ tells. told_recovers old.objects log (of_store tells) (goes.goes_on tells);
        refused = λ tells. tt;
        unchanged = goes.unchanged;
        faults = goes.faults;
      }

      pub stops_so : (Tells : Type 0) (old new : StoreState) (error : RecoverError)
          → (Tells → IfSome old.objects (BeginsAsStored begun absent)) → GoesOnOf Tells begun names old new (Err error)
          → RecoverListOf Tells uuid geometry chain base names old new (Err error)
      stops_so Tells old new error of_store goes = record {
        list = tt;
        from = tt;
        order = tt;
        places = tt;
        table = tt;
        recovers = λ tells. tt;
        refused = λ tells. told_refuses old.objects error (of_store tells) (goes.refused tells);
        unchanged = goes.unchanged;
        faults = goes.faults;
      }

-- where a call of the store failed, or memory ran out, nothing is refused
pub told_failed : (told : Option Objects) (of_volume : Expected) (uuids : ℕ → Option (List ℕ)) (Begun : Objects → Type 0)
    (error : RecoverError) → IsNoAnswer error
    → IfSome told (λ objects. Begun objects → IsRecoveryRefused of_volume uuids objects error)
told_failed None of_volume uuids Begun error none = tt
told_failed (Some objects) of_volume uuids Begun error none = λ _. no_answer_refused of_volume uuids objects error none

-- a call of the store that failed, or that found no memory, is no answer, and a fault was counted where it failed
pub of_store_is_no_answer : (error : StoreError) → IsNoAnswer (of_store error)
of_store_is_no_answer store.Failed = tt
of_store_is_no_answer store.OutOfMemory = tt

pub store_counts : (T : Type 0) (error : StoreError) (old new : ℕ) → Counts (has_failed {T = T} (Err error)) old new
    → Counts (is_store_fault (of_store error)) old new
store_counts T store.Failed old new counts = counts
store_counts T store.OutOfMemory old new counts = counts

-- an error by which an object is refused refuses what the store has, and is no fault
pub refusal_is_one : (refusal : ObjectRefusal) (error : RecoverError) → error ≡ of_refusal refusal → IsRefusal error
refusal_is_one refusal error is = subst IsRefusal (sym is) tt

pub refusal_counts : (error : RecoverError) (old new : ℕ) → IsRefusal error → new ≡ old → Counts (is_store_fault error) old new
refusal_counts errors.NoCheckpoint old new is same = same
refusal_counts (errors.BadObject number reason) old new is same = same
refusal_counts (errors.MissingObject number) old new is same = same
refusal_counts (errors.BaseMissing uuid) old new is same = same
refusal_counts errors.StoreFault old new is same = absurd is
refusal_counts errors.OutOfMemory old new is same = absurd is

pub told_rest : (told : Option Objects) (log : ObjLogState) (volume : Expected) (names : List ObjName) (left : Option Reached)
    (gap : Reached)
    (refused : Option ObjectRefusal) → volume ≡ expected_of_volume log → StaysRefused gap.refused refused
    → IfSome told (λ objects. ReachesGap volume objects log left gap)
    → IfSome told (λ objects. JudgesPast volume objects names gap refused)
    → IfSome told (λ objects. JudgesRest objects log names left refused)
told_rest None log of_volume names left gap refused same stays reaches past = tt
told_rest (Some objects) log of_volume names left gap refused same stays reaches past = record {
  gap = gap;
  reaches = subst (λ v. ReachesGap v objects log left gap) same reaches;
  past = subst (λ v. JudgesPast v objects names gap refused) same past;
  stays = stays;
}

pub told_refusal :
    (told : Option Objects) (log : ObjLogState) (names : List ObjName) (left : Option Reached) (refusal : ObjectRefusal)
    (error : RecoverError)
    → error ≡ of_refusal refusal → IfSome told (λ objects. JudgesRest objects log names left (Some refusal))
    → IfSome told (λ objects. RefusesRest objects log names left error)
told_refusal None log names left refusal error same rest = tt
told_refusal (Some objects) log names left refusal error same rest = inr (refusal, same, rest)

-- a list went on, where all past it were judged
pub told_goes_on : (told : Option Objects) (names : List ObjName) (begun log : ObjLogState) (left : Option Reached)
    → IsListUpTo begun.uploads.uuid begun.batch.geometry begun.uploads.ancestors log.uploads.window.last log.uploads.queue.end log
    → IfSome told (λ objects. KeepsStreams (expected_of_volume begun) objects begun log)
    → IfSome told (λ objects. KeepsGood (expected_of_volume begun) objects begun log)
    → IfSome told (λ objects. KeepsKnown (expected_of_volume begun) objects begun log)
    → IfSome told (λ objects. HasEndedAt objects log left) → IfSome told (λ objects. JudgesRest objects log names left None)
    → IfSome told (λ objects. GoesOnWith objects names begun log)
told_goes_on None names begun log left up_to streams good knows ended rest = tt
told_goes_on (Some objects) names begun log left up_to streams good knows ended rest =
    (left, record { list = up_to; streams = streams; good = good; knows = knows; ended = ended }, rest)

pub told_stops : (told : Option Objects) (names : List ObjName) (begun log : ObjLogState) (left : Option Reached)
    (error : RecoverError)
    → IsListUpTo begun.uploads.uuid begun.batch.geometry begun.uploads.ancestors log.uploads.window.last log.uploads.queue.end log
    → IfSome told (λ objects. KeepsStreams (expected_of_volume begun) objects begun log)
    → IfSome told (λ objects. KeepsGood (expected_of_volume begun) objects begun log)
    → IfSome told (λ objects. KeepsKnown (expected_of_volume begun) objects begun log)
    → IfSome told (λ objects. HasEndedAt objects log left) → IfSome told (λ objects. RefusesRest objects log names left error)
    → IfSome told (λ objects. StopsWith objects names begun error)
told_stops None names begun log left error up_to streams good knows ended rest = tt
told_stops (Some objects) names begun log left error up_to streams good knows ended rest =
    inr (log, left, record { list = up_to; streams = streams; good = good; knows = knows; ended = ended }, rest)

pub told_unread : (told : Option Objects) (names : List ObjName) (begun : ObjLogState) (error : RecoverError) → IsNoAnswer error
    → IfSome told (λ objects. StopsWith objects names begun error)
told_unread None names begun error none = tt
told_unread (Some objects) names begun error none = inl none

-- beside an object that is not there all past the checkpoint were judged
pub told_refuses_beside :
    (told : Option Objects) (of_volume : Expected) (base gap : Reached) (names : List ObjName) (missing : ℕ)
    (refused : Option ObjectRefusal) (error : RecoverError)
    → error ≡ refusal_or_missing missing refused → IfSome told (λ objects. GoesToGap of_volume objects base gap)
    → IfSome told (λ objects. JudgesPast of_volume objects names gap refused)
    → IfSome told (λ objects. RefusesBeside of_volume objects base names missing error)
told_refuses_beside None of_volume base gap names missing refused error same goes past = tt
told_refuses_beside (Some objects) of_volume base gap names missing refused error same goes past =
    (gap, refused, goes, past, same)

-- what follows from what a recovery begins with
pub told_then : (told : Option Objects) (P Q : Objects → Type 0) → IfSome told P → IfSome told (λ objects. P objects → Q objects)
    → IfSome told Q
told_then None P Q is so = tt
told_then (Some objects) P Q is so = so is
