-- What the front of a super object, of an epoch and of a hold says of the whole.
use Rattle.std.proofs.Common.{◌≡◌, ℕ, ◌≤◌, Bool, false, Option, Some, None, Result, Ok, Err, List, length, refl, sym, ◌∙◌}
use Rattle.std.proofs.Common.{ap, subst, arith}
use Rattle.std.specs.Prelude.{IfSome, IfOk, IfErr, OnErr, IsTrue, ◌↔◌, is_ok}
use Rattle.std.proofs.lemmas.Bool.{false≢true}
use Rattle.std.proofs.lemmas.List.{take_all}
use Rattle.lsvd_names.specs.declared.name.ObjName.{ObjName}
use Rattle.lsvd_names.specs.Names.{super_name, epoch_name, hold_name}
use Rattle.lsvd_objstore.specs.Objects.{Objects, found}
use Rattle.super_format.specs.declared.epoch.Epoch.{Epoch}
use Rattle.super_format.specs.declared.hold.Hold.{Hold}
use Rattle.super_format.specs.declared.reading.SuperReadError.{SuperReadError}
use Rattle.super_format.specs.declared.reading.SuperReadError.TheVariants as reads
use Rattle.super_format.specs.declared.super_object.Super.{Super}
use Rattle.super_format.specs.Epoch.{IsEpoch}
use Rattle.super_format.specs.Hold.{IsHold}
use Rattle.super_format.specs.Super.{IsSuper}
use Rattle.super_format.specs.Tests.{IsSuperReason}
use Rattle.super_format.proofs.NumberedLemmas.{length_of_numbered}
use Rattle.stopped_volume.specs.Super.{HasSuper}
use Rattle.super_recovery.specs.declared.reading.Front.{Front}
use Rattle.super_recovery.specs.Faults.{of_read}
use Rattle.super_recovery.specs.Fronts.{IsFrontOf, IsFrontReadOf}
use Rattle.super_recovery.specs.Found.{HasEpoch, IsWhyVolumeRefused}
use Rattle.super_recovery.specs.Holds.{HasHold}
use Rattle.super_recovery.proofs.Results.{told_so}

-- an object that is no longer than what is read at most was read whole
whole : (most : ℕ) (front : Front) (bytes : List ℕ) → front.len ≤ most → IsFrontOf most front bytes → front.bytes.items ≡ bytes
whole most front bytes short is = is.begins ∙ take_all most bytes (omega (arith, is.len, short))

-- ---- a super object

module _ (front : Front) (uuid : List ℕ) (short : front.len ≤ 408) where
  pub says_of_whole : (read : Result Super SuperReadError) → IfOk read (IsSuper front.bytes.items uuid)
      → IfOk read (λ volume. (bytes : List ℕ) → IsFrontOf 408 front bytes → IsSuper bytes uuid volume)
  says_of_whole (Ok volume) is = λ bytes of. subst (λ xs. IsSuper xs uuid volume) (whole 408 front bytes short of) is
  says_of_whole (Err error) is = tt

  pub why_of_whole : (read : Result Super SuperReadError) → IfErr read (IsSuperReason front.bytes.items uuid)
      → IfErr read (λ error. (bytes : List ℕ) → IsFrontOf 408 front bytes → IsSuperReason bytes uuid error)
  why_of_whole (Ok volume) is = tt
  why_of_whole (Err error) is = λ bytes of. subst (λ xs. IsSuperReason xs uuid error) (whole 408 front bytes short of) is

pub told_says : (told : Option Objects) (uuid : List ℕ) (name : ObjName) (front : Front) (volume : Super)
    → name ≡ super_name uuid → IsFrontReadOf told name 408 (Some front)
    → ((bytes : List ℕ) → IsFrontOf 408 front bytes → IsSuper bytes uuid volume) → IfSome told (HasSuper uuid volume)
told_says None uuid name front volume same read says = tt
told_says (Some objects) uuid name front volume same read says = record {
  bytes = read.0;
  present = sym (ap (found objects) same) ∙ read.1;
  is_super = says read.0 read.2;
}

pub told_why_not : (told : Option Objects) (uuid : List ℕ) (name : ObjName) (front : Front) (error : SuperReadError)
    → name ≡ super_name uuid → IsFrontReadOf told name 408 (Some front)
    → ((bytes : List ℕ) → IsFrontOf 408 front bytes → IsSuperReason bytes uuid error)
    → IfSome told (λ objects. IsWhyVolumeRefused uuid objects (of_read error))
told_why_not None uuid name front error same read why = tt
told_why_not (Some objects) uuid name front (reads.BadSuper reason) same read why =
    (read.0, sym (ap (found objects) same) ∙ read.1, why read.0 read.2)
told_why_not (Some objects) uuid name front reads.OutOfMemory same read why = tt

-- ---- an epoch or a hold

-- where the object has the length of one, its bytes were tested
pub by_bytes : {T E : Type 0} (Is : List ℕ → T → Type 0) (front : Front) (read : Result T E) → front.len ≤ 32
    → IfOk read (Is front.bytes.items) → OnErr read ((value : T) → Is front.bytes.items value → ⊥) → (bytes : List ℕ)
    → IsFrontOf 32 front bytes → IsTrue (is_ok read) ↔ ((value : T) × Is bytes value)
by_bytes Is front (Ok value) short is none bytes of =
    (λ ok. (value, subst (λ xs. Is xs value) (whole 32 front bytes short of) is), λ some. refl)
by_bytes Is front (Err error) short is none bytes of = (
  λ ok. absurd (false≢true ok),
  λ some. absurd (none some.0 (subst (λ xs. Is xs some.0) (sym (whole 32 front bytes short of)) some.1)),
)

-- and one of another length is none
none_by_length : {T : Type 0} (Is : List ℕ → T → Type 0) (front : Front) (has : Bool) → has ≡ false → (front.len ≡ 32 → ⊥)
    → ((bytes : List ℕ) (value : T) → Is bytes value → length bytes ≡ 32) → (bytes : List ℕ)
    → IsFrontOf 32 front bytes → IsTrue has ↔ ((value : T) × Is bytes value)
none_by_length Is front has fails other size bytes of = (
  λ yes. absurd (false≢true (sym fails ∙ yes)),
  λ some. absurd (other (of.len ∙ size bytes some.0 some.1)),
)

pub no_epoch_by_length : (front : Front) (uuid : List ℕ) (number : ℕ) (has : Bool) → has ≡ false → (front.len ≡ 32 → ⊥)
    → (bytes : List ℕ) → IsFrontOf 32 front bytes → IsTrue has ↔ ((epoch : Epoch) × IsEpoch bytes uuid number epoch)
no_epoch_by_length front uuid number has fails other =
    none_by_length (λ bytes. IsEpoch bytes uuid number) front has fails other
    (λ bytes epoch is. length_of_numbered bytes _ _ _ refl is.numbered)

pub no_hold_by_length : (front : Front) (uuid : List ℕ) (number : ℕ) (has : Bool) → has ≡ false → (front.len ≡ 32 → ⊥)
    → (bytes : List ℕ) → IsFrontOf 32 front bytes → IsTrue has ↔ ((hold : Hold) × IsHold bytes uuid number hold)
no_hold_by_length front uuid number has fails other =
    none_by_length (λ bytes. IsHold bytes uuid number) front has fails other
    (λ bytes hold is. length_of_numbered bytes _ _ _ refl is.numbered)

-- what the store has under a name is one list of bytes
one_list : (held : Option (List ℕ)) (bytes others : List ℕ) → held ≡ Some bytes → held ≡ Some others → others ≡ bytes
one_list held bytes others some other = let one : Some bytes ≡ Some others = sym some ∙ other in cc

-- so the object that was read is one exactly where the store has one
told_one : {T : Type 0} (Is : List ℕ → T → Type 0) (told : Option Objects) (own name : ObjName) (front : Front) (has : Bool)
    → name ≡ own → IsFrontReadOf told name 32 (Some front)
    → ((bytes : List ℕ) → IsFrontOf 32 front bytes → IsTrue has ↔ ((value : T) × Is bytes value))
    → IfSome told (λ objects. IsTrue has ↔ ((bytes : List ℕ) × (found objects own ≡ Some bytes) × ((value : T) × Is bytes value)))
told_one Is None own name front has same read either = tt
told_one Is (Some objects) own name front has same read either =
    let present : found objects own ≡ Some read.0 = sym (ap (found objects) same) ∙ read.1 in
    let is = either read.0 read.2 in (
      λ yes. (read.0, present, is.0 yes),
      λ some. is.1 (some.2.0, subst (λ xs. Is xs some.2.0) (one_list (found objects own) read.0 some.0 present some.1) some.2.1),
    )

module _ (told : Option Objects) (uuid : List ℕ) (number : ℕ) (name : ObjName) (front : Front) (has : Bool) where
  pub told_epoch : name ≡ epoch_name uuid number → IsFrontReadOf told name 32 (Some front)
      → ((bytes : List ℕ) → IsFrontOf 32 front bytes → IsTrue has ↔ ((epoch : Epoch) × IsEpoch bytes uuid number epoch))
      → IfSome told (λ objects. IsTrue has ↔ HasEpoch uuid number objects)
  told_epoch same read either =
      told_so _ _ told
      (λ objects is. (
        λ yes. let one = is.0 yes in record { bytes = one.0; present = one.1; epoch = one.2.0; is_epoch = one.2.1 },
        λ some. is.1 (some.bytes, some.present, (some.epoch, some.is_epoch)),
      )) (told_one (λ bytes. IsEpoch bytes uuid number) told (epoch_name uuid number) name front has same read either)

  pub told_hold : name ≡ hold_name uuid number → IsFrontReadOf told name 32 (Some front)
      → ((bytes : List ℕ) → IsFrontOf 32 front bytes → IsTrue has ↔ ((hold : Hold) × IsHold bytes uuid number hold))
      → IfSome told (λ objects. IsTrue has ↔ HasHold uuid number objects)
  told_hold same read either =
      told_so _ _ told
      (λ objects is. (
        λ yes. let one = is.0 yes in record { bytes = one.0; present = one.1; hold = one.2.0; is_hold = one.2.1 },
        λ some. is.1 (some.bytes, some.present, (some.hold, some.is_hold)),
      )) (told_one (λ bytes. IsHold bytes uuid number) told (hold_name uuid number) name front has same read either)
