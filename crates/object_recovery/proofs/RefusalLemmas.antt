-- What a recovery refuses.
use Rattle.std.proofs.Common.{◌≡◌, ℕ, ◌+◌, ◌-◌, ◌^◌, ◌<◌, ◌≤◌, inl, inr, Option, Some, None, List, length, sym}
use Rattle.std.proofs.Common.{◌∙◌, ap, subst, arith}
use Rattle.std.specs.Prelude.{◌⊎◌, IfSome}
use Rattle.std.proofs.lemmas.Bool.{cases_lt}
use Rattle.lsvd_base.specs.declared.geometry.Geometry.{Geometry}
use Rattle.lsvd_names.specs.Spelling.{IsUuid}
use Rattle.lsvd_names.specs.declared.name.ObjName.{ObjName}
use Rattle.lsvd_objstore.specs.Objects.{Objects, found, Lists}
use Rattle.object_format.specs.declared.expected.Expected.{Expected}
use Rattle.object_format.specs.declared.reason.BadObject.{BadObject}
use Rattle.object_format.specs.Tests.{IsObjectRefusedAs}
use Rattle.object_stream.specs.Replay.{object_name, expected_at}
use Rattle.object_stream.specs.Stream.{Stream, end_at}
use Rattle.ckpt_format.specs.Checkpoint.{IsCheckpoint}
use Rattle.lsvd_base.specs.Image.{Image}
use Rattle.stopped_volume.specs.Expected.{expected_alone}
use Rattle.obj_log.specs.State.{ObjLogState}
use Rattle.obj_log.specs.Changes.{expected_of_volume}
use Rattle.object_recovery.specs.declared.error.RecoverError.{RecoverError}
use Rattle.object_recovery.specs.declared.error.RecoverError.TheVariants as errors
use Rattle.object_recovery.specs.Faults.{IsNoAnswer}
use Rattle.object_recovery.specs.Adoption.{IsRecoveryBegun}
use Rattle.object_recovery.specs.Checkpoints.{expected_of, ReadCheckpoint, IsNoCheckpoint, IsStoredCheckpoint, IsNewest}
use Rattle.object_recovery.specs.Checkpoints.{IsNewestWithEnd}
use Rattle.object_recovery.specs.Judging.{HasEnd, IsBadObject, IsRun, expected_after}
use Rattle.object_recovery.specs.Recovery.{HasDataUpTo, IsListUpTo, IsMissingThere, IsWhyObjectsRefused, IsRefusal}
use Rattle.object_recovery.specs.Recovery.{IsRecoveryRefused}
use Rattle.object_recovery.proofs.EndLemmas.{end_of_object, one_end_before, before_next}
use Rattle.object_recovery.proofs.ReadLemmas.{refused_is_none}
use Rattle.object_recovery.proofs.StreamLemmas.{is_stored, next_end}
use Rattle.object_recovery.proofs.RecoverLemmas.{base_is, begin_end, hold_places}

-- where there was no answer, nothing is refused
no_answer_why : (volume : Expected) (uuid_at : ℕ → Option (List ℕ)) (objects : Objects) (error : RecoverError) → IsNoAnswer error
    → IsWhyObjectsRefused volume uuid_at objects error
no_answer_why volume uuid_at objects errors.NoCheckpoint none = absurd none
no_answer_why volume uuid_at objects (errors.BadObject number reason) none = absurd none
no_answer_why volume uuid_at objects (errors.MissingObject number) none = absurd none
no_answer_why volume uuid_at objects (errors.BaseMissing uuid) none = absurd none
no_answer_why volume uuid_at objects errors.StoreFault none = tt
no_answer_why volume uuid_at objects errors.OutOfMemory none = tt

no_answer_refuses : (error : RecoverError) → IsNoAnswer error → IsRefusal error → ⊥
no_answer_refuses errors.NoCheckpoint none is = none
no_answer_refuses (errors.BadObject number reason) none is = none
no_answer_refuses (errors.MissingObject number) none is = none
no_answer_refuses (errors.BaseMissing uuid) none is = none
no_answer_refuses errors.StoreFault none is = is
no_answer_refuses errors.OutOfMemory none is = is

pub no_answer_refused : (volume : Expected) (uuid_at : ℕ → Option (List ℕ)) (objects : Objects) (error : RecoverError)
    → IsNoAnswer error
    → IsRecoveryRefused volume uuid_at objects error
no_answer_refused volume uuid_at objects error none = record {
  why = no_answer_why volume uuid_at objects error none;
  no_stream = λ stream opening number has. no_answer_refuses error none;
}

-- a store without a checkpoint has no stream
none_refused : (volume : Expected) (uuid_at : ℕ → Option (List ℕ)) (objects : Objects)
    → ((number : ℕ) → IsNoCheckpoint volume objects number)
    → IsRecoveryRefused volume uuid_at objects errors.NoCheckpoint
none_refused volume uuid_at objects none = record {
  why = none;
  no_stream = λ stream opening number has is.
      none stream.number stream.end stream.opening has.stored.opens.is.checkpoint;
}

-- ---- the objects of a stream

module _ (volume : Expected) (objects : Objects) (wide : volume.sectors < 2 ^ 64) (uuid_at : ℕ → Option (List ℕ))
    (stream : Stream) (opening : Image) (number : ℕ)
    (has : HasDataUpTo volume uuid_at objects stream opening number) where
  -- each object from the checkpoint on has the end that the stream has there
  checkpoint_end : HasEnd volume objects stream.number (Some (end_at stream stream.number))
  checkpoint_end =
      let is = has.stored.opens.is.checkpoint in
      let Ends : ℕ → Type 0 = λ e. IsCheckpoint is.bytes (expected_alone volume stream.number) e is.rows in
      record {
        bytes = is.bytes;
        present = is.present;
        is_end = inr (is.rows, subst Ends (sym (begin_end stream)) is.is_checkpoint);
      }

  object_end : (at : ℕ) → stream.number ≤ at → at < number → HasEnd volume objects (at + 1) (Some (end_at stream (at + 1)))
  object_end at from below =
      let stored = is_stored volume uuid_at objects stream opening number wide has at from below in
      let next = next_end volume uuid_at objects stream opening number wide has at from below in
      let expected = expected_at volume (at + 1) (end_at stream at) in
      let own = end_of_object stored.bytes (length stored.bytes) expected stored.header stored.rows_of stored.parts.is_object in
      record {
        bytes = stored.bytes;
        present = stored.present;
        is_end = inl (own.0, own.1, own.2, own.3 ∙ stored.ends ∙ sym next);
      }

  end_there : (at : ℕ) → stream.number ≤ at → at ≤ number → HasEnd volume objects at (Some (end_at stream at))
  end_there at from to =
      elim (cases_lt stream.number at) [
        | inl past ↦
            let more : at - 1 + 1 ≡ at = omega arith in
            subst (λ n. HasEnd volume objects n (Some (end_at stream n))) more (object_end (at - 1) (omega arith) (omega arith))
        | inr low ↦
            let same : stream.number ≡ at = omega arith in
            subst (λ n. HasEnd volume objects n (Some (end_at stream n))) same checkpoint_end
      ]

  module _ (base last : ℕ) (run : IsRun volume objects base last) where
    begins : base ≡ stream.number
    begins = base_is volume objects base run.end wide run.newest uuid_at stream opening number has

    -- the run of the store ends where the stream does
    no_shorter : last < number → ⊥
    no_shorter short =
        let from : stream.number ≤ last = omega (arith, begins, run.from) in
        let stored = is_stored volume uuid_at objects stream opening number wide has last from short in
        let head = stored.parts.is_object.head in
        let fits : last + 1 < 2 ^ 64 = omega (arith, head.number, head.widths.number) in
        let absent = run.missing fits in
        let present : found objects (object_name volume (last + 1)) ≡ Some stored.bytes = stored.present in
        absurd cc

    no_longer : number < last → ⊥
    no_longer long =
        let low = has.stored.missing.above in
        let landed = run.landed (number + 1) (omega (arith, begins, has.stored.base, low)) (omega arith) in
        absurd (let absent = has.stored.missing.absent in cc)

    ends : last ≡ number
    ends =
        elim (cases_lt last number) [
          | inl short ↦ absurd (no_shorter short)
          | inr from ↦ elim (cases_lt number last) [ inl long ↦ absurd (no_longer long) | inr to ↦ omega arith ]
        ]

    -- no object is bad
    none_bad : (at : ℕ) (reason : BadObject) → base < at → IsBadObject volume objects last at reason → ⊥
    none_bad at reason past bad =
        elim (cases_lt number at) [
          | inl beyond ↦
              let none = bad.is_before.unknown (omega (arith, beyond, ends)) in
              let whole = has.stored.past at bad.bytes beyond bad.present in
              refused_is_none bad.bytes (length bad.bytes) (expected_alone volume at) reason
              (subst (λ e. IsObjectRefusedAs bad.bytes (length bad.bytes) (expected_after volume at e) reason) none bad.holds)
              whole.0
              whole.1 whole.2
          | inr within ↦
              let before = at - 1 in
              let from : stream.number ≤ before = omega (arith, begins, past) in
              let below : before < number = omega (arith, within, past) in
              let more : before + 1 ≡ at = omega (arith, past) in
              let stored = is_stored volume uuid_at objects stream opening number wide has before from below in
              let end = end_there before from (omega (arith, below)) in
              let expected : ℕ → Option ℕ → Expected = λ n e. expected_after volume n e in
              let moved = subst (λ n. IsBadObject volume objects last n reason) (sym more) bad in
              let known = before_next volume objects before last (Some (end_at stream before)) (omega (arith, below, ends)) end in
              let one = one_end_before volume objects last (before + 1) moved.end_before (Some (end_at stream before))
              moved.is_before known in
              let same : moved.bytes ≡ stored.bytes = let e = moved.present in let f = stored.present in cc in
              refused_is_none stored.bytes (length stored.bytes) (expected (before + 1) (Some (end_at stream before))) reason
              (subst (λ b. IsObjectRefusedAs b (length b) (expected (before + 1) (Some (end_at stream before))) reason) same
              (subst (λ e. IsObjectRefusedAs moved.bytes (length moved.bytes) (expected (before + 1) e) reason) one moved.holds))
              stored.header stored.rows_of stored.parts.is_object
        ]

-- each object that the newest checkpoint maps is there
none_missing : (volume : Expected) (uuid_at : ℕ → Option (List ℕ)) (objects : Objects) (wide : volume.sectors < 2 ^ 64) (at : ℕ)
    → IsMissingThere volume uuid_at objects at → (stream : Stream) (opening : Image) (number : ℕ)
    → HasDataUpTo volume uuid_at objects stream opening number → ⊥
none_missing volume uuid_at objects wide at is stream opening number has =
    let missing = is.missing in
    let newest : IsNewestWithEnd volume objects is.base is.end =
    record { owned = is.owned; is = is.checkpoint; newest = is.newest } in
    let hold = hold_places volume objects is.base is.end wide newest uuid_at stream opening number has in
    missing.not_there (hold missing.k missing.place missing.row)

-- so what is refused is no stream
why_no_stream : (volume : Expected) (uuid_at : ℕ → Option (List ℕ)) (objects : Objects) (wide : volume.sectors < 2 ^ 64)
    (error : RecoverError)
    → IsWhyObjectsRefused volume uuid_at objects error
    → (stream : Stream) (opening : Image) (number : ℕ)
    → HasDataUpTo volume uuid_at objects stream opening number → IsRefusal error → ⊥
why_no_stream volume uuid_at objects wide errors.NoCheckpoint why stream opening number has is =
    why stream.number stream.end stream.opening has.stored.opens.is.checkpoint
why_no_stream volume uuid_at objects wide (errors.BadObject at reason) why stream opening number has is =
    none_bad volume objects wide uuid_at stream opening number has why.0 why.1 why.2 at reason why.3.after why.3.bad
why_no_stream volume uuid_at objects wide (errors.MissingObject at) why stream opening number has is =
    none_missing volume uuid_at objects wide at why stream opening number has
why_no_stream volume uuid_at objects wide (errors.BaseMissing uuid) why stream opening number has is = why
why_no_stream volume uuid_at objects wide errors.StoreFault why stream opening number has is = is
why_no_stream volume uuid_at objects wide errors.OutOfMemory why stream opening number has is = is

pub is_refused : (volume : Expected) (uuid_at : ℕ → Option (List ℕ)) (objects : Objects) (wide : volume.sectors < 2 ^ 64)
    (error : RecoverError)
    → IsWhyObjectsRefused volume uuid_at objects error
    → IsRecoveryRefused volume uuid_at objects error
is_refused volume uuid_at objects wide error why = record {
  why = why;
  no_stream = why_no_stream volume uuid_at objects wide error why;
}

-- ---- where the store tells its objects

-- for the proofs of callers: an error that is no answer refuses nothing
pub told_no_answer : (told : Option Objects) (volume : Expected) (uuid_at : ℕ → Option (List ℕ)) (error : RecoverError)
    → IsNoAnswer error
    → IfSome told (λ objects. IsRecoveryRefused volume uuid_at objects error)
told_no_answer None volume uuid_at error none = tt
told_no_answer (Some objects) volume uuid_at error none = no_answer_refused volume uuid_at objects error none

-- what names of objects tell: whichever volume they are of, it has no checkpoint, or this is its newest
abbrev pub HasNoneAmong : Geometry → (ancestors : ℕ) → List ObjName → Objects → Type 0
HasNoneAmong geometry ancestors names objects =
    (uuid : List ℕ) (number : ℕ) → IsUuid uuid → Lists uuid objects names
    → IsNoCheckpoint (expected_of uuid geometry ancestors) objects number

abbrev pub IsNewestAmong : Geometry → (ancestors : ℕ) → List ObjName → ReadCheckpoint → Objects → Type 0
IsNewestAmong geometry ancestors names newest objects =
    (uuid : List ℕ) → IsUuid uuid → Lists uuid objects names
    → IsStoredCheckpoint (expected_of uuid geometry ancestors) objects newest
    × IsNewest (expected_of uuid geometry ancestors) objects newest.number

pub newest_refused : (told : Option Objects) (uuid : List ℕ) (geometry : Geometry) (ancestors : ℕ) (uuid_at : ℕ → Option (List ℕ))
    (names : List ObjName) (error : RecoverError)
    → IsUuid uuid → IfSome told (λ objects. Lists uuid objects names) → ((error ≡ errors.NoCheckpoint) ⊎ IsNoAnswer error)
    → (error ≡ errors.NoCheckpoint → IfSome told (HasNoneAmong geometry ancestors names))
    → IfSome told (λ objects. IsRecoveryRefused (expected_of uuid geometry ancestors) uuid_at objects error)
newest_refused None uuid geometry ancestors uuid_at names error is_uuid listed answer none = tt
newest_refused (Some objects) uuid geometry ancestors uuid_at names error is_uuid listed answer none =
    let volume = expected_of uuid geometry ancestors in
    elim answer [
      | inl no_checkpoint ↦ subst (IsRecoveryRefused volume uuid_at objects) (sym no_checkpoint)
          (none_refused volume uuid_at objects (λ number. none no_checkpoint uuid number is_uuid listed))
      | inr no_answer ↦ no_answer_refused volume uuid_at objects error no_answer
    ]

-- so the recovery of this volume begins at it
pub newest_begins : (told : Option Objects) (uuid : List ℕ) (geometry : Geometry) (ancestors : ℕ) (names : List ObjName)
    (newest : ReadCheckpoint)
    → IsUuid uuid → IfSome told (λ objects. Lists uuid objects names)
    → IfSome told (IsNewestAmong geometry ancestors names newest)
    → (others : List ObjName) → names ≡ others → IfSome told (IsRecoveryBegun uuid geometry ancestors newest others)
newest_begins None uuid geometry ancestors names newest is_uuid listed is others same = tt
newest_begins (Some objects) uuid geometry ancestors names newest is_uuid listed is others same =
    let here = is uuid is_uuid listed in
    record { stored = here.0; newest = here.1; listed = subst (Lists uuid objects) same listed }

-- what is expected of the volume of a list
pub volume_is : (uuid : List ℕ) (geometry : Geometry) (ancestors number end : ℕ) (log : ObjLogState)
    → IsListUpTo uuid geometry ancestors number end log
    → expected_of_volume log ≡ expected_of uuid geometry ancestors
volume_is uuid geometry ancestors number end log list =
    ap (λ (u : List ℕ). expected_of u log.batch.geometry log.uploads.ancestors) list.uuid_is
    ∙ ap (λ sizes. expected_of uuid sizes log.uploads.ancestors) list.geometry_is
    ∙ ap (expected_of uuid geometry) list.ancestors_are
