-- What is found of a volume in a store, and why it is refused.
use Rattle.std.proofs.Common.{◌≡◌, ℕ, ◌^◌, ◌<◌, ◌≤◌, inl, inr, Bool, true, false, Option, Some, None, List, [], ◌∷◌, ◌++◌, refl}
use Rattle.std.proofs.Common.{sym, ◌∙◌, ap, subst, arith}
use Rattle.std.specs.Prelude.{IfSome, IsTrue, ◌↔◌}
use Rattle.std.specs.Option.{IsSome}
use Rattle.std.specs.List.{Contains}
use Rattle.std.proofs.lemmas.List.Elements.{Contains-append_left, Contains-push, Contains-push_cases}
use Rattle.clone_chain.specs.declared.ancestor.Ancestor.{Ancestor}
use Rattle.lsvd_base.specs.declared.geometry.Geometry.{Geometry}
use Rattle.lsvd_names.specs.declared.name.NameKind.TheVariants as kinds
use Rattle.lsvd_names.specs.declared.name.ObjName.{ObjName}
use Rattle.lsvd_names.specs.Spelling.{IsUuid, IsName}
use Rattle.lsvd_names.specs.Names.{super_name, epoch_name, hold_name}
use Rattle.lsvd_objstore.specs.Objects.{Objects, found, Lists}
use Rattle.super_format.specs.declared.super_object.Super.{Super}
use Rattle.super_format.specs.Super.{IsSuper}
use Rattle.stopped_volume.specs.Super.{HasSuper, HasNewestEpoch, HasVolume}
use Rattle.refusals.specs.declared.bad_super.BadSuper.TheVariants as reasons
use Rattle.super_recovery.specs.declared.error.SuperError.{SuperError}
use Rattle.super_recovery.specs.declared.error.SuperError.TheVariants as errors
use Rattle.super_recovery.specs.declared.finding.FoundVolume.{FoundVolume}
use Rattle.super_recovery.specs.Faults.{IsNoAnswer}
use Rattle.super_recovery.specs.Fronts.{IsFrontReadOf}
use Rattle.super_recovery.specs.Found.{IsGreatestEpoch, IsGreatestIn, HasEpoch, HasNoEpoch, HasBadEpoch}
use Rattle.super_recovery.specs.Found.{IsWhyNoEpoch}
use Rattle.super_recovery.specs.Found.{IsWhyVolumeRefused, IsFound, IsVolumeRefused}
use Rattle.super_recovery.specs.Holds.{AreHolds, IsWhyNoHolds}
use Rattle.super_recovery.proofs.LawLemmas.{one_super, one_newest, sizes_of_super, epoch_fits}
use Rattle.super_recovery.proofs.NameLemmas.{named_so}
use Rattle.super_recovery.proofs.Results.{told_so, told_both, told_three}

-- ---- names

-- what is so of the epochs among names and of a further name is so of those among both
each_with : (P : ObjName → Type 0) (names : List ObjName) (name : ObjName)
    → ((other : ObjName) → Contains names other → other.kind ≡ kinds.Epoch → P other)
    → (name.kind ≡ kinds.Epoch → P name) → (other : ObjName) → Contains (names ++ name ∷ []) other
    → other.kind ≡ kinds.Epoch → P other
each_with P names name each further other listed kind =
    elim (Contains-push_cases names name other listed) [
      | inl before ↦ each other before kind
      | inr same ↦ subst P same (further (ap (λ (n : ObjName). n.kind) same ∙ kind))
    ]

module _ (names : List ObjName) (name : ObjName) where
  same_greatest : (number : ℕ) → IsGreatestEpoch names number → (name.kind ≡ kinds.Epoch → name.number ≤ number)
      → IsGreatestEpoch (names ++ name ∷ []) number
  same_greatest number is lower = record {
    name = is.name;
    listed = Contains-append_left names (name ∷ []) is.name is.listed;
    of_epoch = is.of_epoch;
    number_is = is.number_is;
    greatest = each_with (λ other. other.number ≤ number) names name is.greatest lower;
  }

  own_greatest : name.kind ≡ kinds.Epoch → ((other : ObjName) → Contains names other → other.kind ≡ kinds.Epoch
      → other.number ≤ name.number)
      → IsGreatestEpoch (names ++ name ∷ []) name.number
  own_greatest kind lower = record {
    name = name;
    listed = Contains-push names name;
    of_epoch = kind;
    number_is = refl;
    greatest = each_with (λ other. other.number ≤ name.number) names name lower (λ own. omega arith);
  }

  -- a name of another object changes nothing
  pub with_other : (greatest : Option ℕ) → (name.kind ≡ kinds.Epoch → ⊥) → IsGreatestIn names greatest
      → IsGreatestIn (names ++ name ∷ []) greatest
  with_other None apart is = each_with (λ other. ⊥) names name is apart
  with_other (Some number) apart is = same_greatest number is (λ kind. absurd (apart kind))

  -- nor does an epoch of no greater number
  pub with_lower : (number : ℕ) → name.number ≤ number → IsGreatestIn names (Some number)
      → IsGreatestIn (names ++ name ∷ []) (Some number)
  with_lower number lower is = same_greatest number is (λ kind. lower)

  -- any other epoch is the greatest
  pub with_greater : (greatest : Option ℕ) → name.kind ≡ kinds.Epoch → IfSome greatest (λ number. number < name.number)
      → IsGreatestIn names greatest
      → IsGreatestIn (names ++ name ∷ []) (Some name.number)
  with_greater None kind greater is = own_greatest kind (λ other listed own. absurd (is other listed own))
  with_greater (Some number) kind greater is = own_greatest kind (λ other listed own. let low = is.greatest other listed own in
      omega arith)

-- ---- the epochs of a store

none_unless : (held : Option (List ℕ)) → (IsSome held → ⊥) → held ≡ None
none_unless None not = refl
none_unless (Some bytes) not = absurd (not refl)

epoch_named : (uuid : List ℕ) (number : ℕ) → IsUuid uuid → number < 2 ^ 64 → IsName (epoch_name uuid number)
epoch_named uuid number is fits = record { uuid = is; number = tt; fits = fits }

module _ (uuid : List ℕ) (names : List ObjName) (is_uuid : IsUuid uuid) (objects : Objects)
    (lists : Lists uuid objects names) where
  -- an epoch that the store has is listed
  has_none : (number : ℕ) → number < 2 ^ 64 → (Contains names (epoch_name uuid number) → ⊥)
      → found objects (epoch_name uuid number) ≡ None
  has_none number fits not =
      none_unless (found objects (epoch_name uuid number))
      (λ some. not (lists.complete (epoch_name uuid number) (epoch_named uuid number is_uuid fits) refl some))

  pub has_no_epoch : IsGreatestIn names None → HasNoEpoch uuid objects
  has_no_epoch none number fits = has_none number fits (λ listed. none (epoch_name uuid number) listed refl)

  none_after : (number : ℕ) → IsGreatestEpoch names number → (other : ℕ) → number < other → other < 2 ^ 64
      → found objects (epoch_name uuid other) ≡ None
  none_after number is other past fits =
      has_none other fits (λ listed. let low = is.greatest (epoch_name uuid other) listed refl in omega arith)

  is_present : (number : ℕ) → IsGreatestEpoch names number → IsSome (found objects (epoch_name uuid number))
  is_present number is =
      let present = lists.present is.name is.listed in
      subst (λ name. IsSome (found objects name))
      (named_so is.name (epoch_name uuid number) present.1 is.of_epoch is.number_is) present.2

  pub has_bad_epoch : (number : ℕ) → IsGreatestEpoch names number → (HasEpoch uuid number objects → ⊥)
      → HasBadEpoch uuid number objects
  has_bad_epoch number is bad = record { present = is_present number is; bad = bad; newest = none_after number is }

  pub has_newest_epoch : (number : ℕ) → IsGreatestEpoch names number → HasEpoch uuid number objects
      → HasNewestEpoch uuid number objects
  has_newest_epoch number is has =
      record {
        bytes = has.bytes;
        present = has.present;
        epoch = has.epoch;
        is_epoch = has.is_epoch;
        newest = none_after number is;
      }

-- ---- what is found

pub is_found : (uuid : List ℕ) (objects : Objects) (it : FoundVolume) → HasSuper uuid it.volume objects
    → HasNewestEpoch uuid it.epoch objects → AreHolds uuid it.holds.items objects
    → IsFound uuid objects it
is_found uuid objects it says newest holds = record {
  says = says;
  newest = newest;
  holds = holds;
  only = λ geometry chain epoch has.
      let same = one_super uuid has.volume it.volume objects has.says says in
      record {
        sizes = sizes_of_super geometry has.volume it.volume has.sizes same;
        chain_is = sym (ap (λ (v : Super). v.chain) same) ∙ has.chain_is;
        epoch_is = one_newest uuid it.epoch epoch objects newest has.epochs;
      };
}

-- ---- why it is refused

pub why_refused : (uuid : List ℕ) (objects : Objects) (volume : Super) (error : SuperError) → HasSuper uuid volume objects
    → IsWhyNoEpoch uuid objects error → IsWhyVolumeRefused uuid objects error
why_refused uuid objects volume errors.NoVolume says why = absurd why
why_refused uuid objects volume (errors.BadSuper (reasons.Super reason)) says why = absurd why
why_refused uuid objects volume (errors.BadSuper reasons.NoEpoch) says why = ((volume, says), why)
why_refused uuid objects volume (errors.BadSuper (reasons.BadEpoch number)) says why = ((volume, says), why)
why_refused uuid objects volume (errors.BadSuper (reasons.BadHold number)) says why = absurd why
why_refused uuid objects volume errors.StoreFault says why = tt
why_refused uuid objects volume errors.OutOfMemory says why = tt

-- for a hold, after its super object and its newest epoch were read
why_held : (uuid : List ℕ) (objects : Objects) (volume : Super) (epoch : ℕ) (error : SuperError) → HasSuper uuid volume objects
    → HasNewestEpoch uuid epoch objects → IsWhyNoHolds uuid objects error → IsWhyVolumeRefused uuid objects error
why_held uuid objects volume epoch errors.NoVolume says newest why = absurd why
why_held uuid objects volume epoch (errors.BadSuper (reasons.Super reason)) says newest why = absurd why
why_held uuid objects volume epoch (errors.BadSuper reasons.NoEpoch) says newest why = absurd why
why_held uuid objects volume epoch (errors.BadSuper (reasons.BadEpoch number)) says newest why = absurd why
why_held uuid objects volume epoch (errors.BadSuper (reasons.BadHold number)) says newest why =
    ((volume, says), (epoch, newest), why)
why_held uuid objects volume epoch errors.StoreFault says newest why = tt
why_held uuid objects volume epoch errors.OutOfMemory says newest why = tt

-- a store has one object under a name
one_of : (held : Option (List ℕ)) (bytes : List ℕ) → held ≡ Some bytes → held ≡ None → ⊥
one_of held bytes some none = cc

same_bytes : (held : Option (List ℕ)) (bytes others : List ℕ) → held ≡ Some bytes → held ≡ Some others → bytes ≡ others
same_bytes held bytes others some other = let one : Some bytes ≡ Some others = sym some ∙ other in cc

bytes_of : (held : Option (List ℕ)) → IsSome held → (bytes : List ℕ) × (held ≡ Some bytes)
bytes_of None some = cc
bytes_of (Some bytes) some = (bytes, refl)

no_volume : (uuid : List ℕ) (objects : Objects) (geometry : Geometry) (chain : List Ancestor) (epoch : ℕ) (error : SuperError)
    → IsWhyVolumeRefused uuid objects error
    → HasVolume uuid geometry chain epoch objects → IsNoAnswer error
no_volume uuid objects geometry chain epoch errors.NoVolume why has =
    one_of (found objects (super_name uuid)) has.says.bytes has.says.present why
no_volume uuid objects geometry chain epoch (errors.BadSuper (reasons.Super reason)) why has =
    let same = same_bytes (found objects (super_name uuid)) has.says.bytes why.0 has.says.present why.1 in
    let none = why.2.none has.volume in
    none (subst (λ bytes. IsSuper bytes uuid has.volume) same has.says.is_super)
no_volume uuid objects geometry chain epoch (errors.BadSuper reasons.NoEpoch) why has =
    one_of (found objects (epoch_name uuid epoch)) has.epochs.bytes has.epochs.present
    (why.1 epoch (epoch_fits has.epochs.bytes uuid epoch has.epochs.epoch has.epochs.is_epoch))
no_volume uuid objects geometry chain epoch (errors.BadSuper (reasons.BadEpoch number)) why has =
    let held = bytes_of (found objects (epoch_name uuid number)) why.1.present in
    let whole = has.whole number held.0 held.1 in
    why.1.bad (record { bytes = held.0; present = held.1; epoch = whole.0; is_epoch = whole.1 })
no_volume uuid objects geometry chain epoch (errors.BadSuper (reasons.BadHold number)) why has =
    let held = bytes_of (found objects (hold_name uuid number)) why.2.present in
    let good = has.holds number held.0 held.1 in
    why.2.bad (record { bytes = held.0; present = held.1; hold = good.0; is_hold = good.1 })
no_volume uuid objects geometry chain epoch errors.StoreFault why has = tt
no_volume uuid objects geometry chain epoch errors.OutOfMemory why has = tt

pub is_refused : (uuid : List ℕ) (objects : Objects) (error : SuperError) → IsWhyVolumeRefused uuid objects error
    → IsVolumeRefused uuid objects error
is_refused uuid objects error why = record {
  why = why;
  no_volume = λ geometry chain epoch has. no_volume uuid objects geometry chain epoch
      error why has;
}

-- ---- where a store tells what it holds

true_is_false : {has : Bool} → has ≡ false → has ≡ true → ⊥
true_is_false {has} fails holds = let both : true ≡ false = sym holds ∙ fails in cc

module _ (told : Option Objects) (uuid : List ℕ) where
  module _ (names : List ObjName) (is_uuid : IsUuid uuid) (lists : IfSome told (λ objects. Lists uuid objects names)) where
    pub told_none : IsGreatestIn names None → IfSome told (HasNoEpoch uuid)
    told_none none = told_so _ _ told (λ objects is. has_no_epoch uuid names is_uuid objects is none) lists

    module _ (number : ℕ) (greatest : IsGreatestEpoch names number) (has : Bool)
        (tells : IfSome told (λ objects. IsTrue has ↔ HasEpoch uuid number objects)) where
      pub told_bad : has ≡ false → IfSome told (HasBadEpoch uuid number)
      told_bad fails =
          told_both _ _ _ told
          (λ objects is either. has_bad_epoch uuid names is_uuid objects is number greatest
          (λ epoch. true_is_false fails (either.1 epoch))) lists tells

      pub told_newest : has ≡ true → IfSome told (HasNewestEpoch uuid number)
      told_newest holds =
          told_both _ _ _ told (λ objects is either. has_newest_epoch uuid names is_uuid objects is number greatest
          (either.0 holds)) lists tells

  pub told_found : (it : FoundVolume) → IfSome told (HasSuper uuid it.volume) → IfSome told (HasNewestEpoch uuid it.epoch)
      → IfSome told (AreHolds uuid it.holds.items) → IfSome told (λ objects. IsFound uuid objects it)
  told_found it = told_three _ _ _ _ told (λ objects. is_found uuid objects it)

  pub told_refused : (error : SuperError) → IfSome told (λ objects. IsWhyVolumeRefused uuid objects error)
      → IfSome told (λ objects. IsVolumeRefused uuid objects error)
  told_refused error = told_so _ _ told (λ objects. is_refused uuid objects error)

  pub told_why : (volume : Super) (error : SuperError) → IfSome told (HasSuper uuid volume)
      → IfSome told (λ objects. IsWhyNoEpoch uuid objects error)
      → IfSome told (λ objects. IsVolumeRefused uuid objects error)
  told_why volume error = told_both _ _ _ told
      (λ objects says why. is_refused uuid objects error (why_refused uuid objects volume error says why))

  pub told_held : (volume : Super) (epoch : ℕ) (error : SuperError) → IfSome told (HasSuper uuid volume)
      → IfSome told (HasNewestEpoch uuid epoch) → IfSome told (λ objects. IsWhyNoHolds uuid objects error)
      → IfSome told (λ objects. IsVolumeRefused uuid objects error)
  told_held volume epoch error =
      told_three _ _ _ _ told
      (λ objects says newest why. is_refused uuid objects error (why_held uuid objects volume epoch error says newest why))

-- where no object has the name of the super object, there is no volume
pub told_absent : (told : Option Objects) (uuid : List ℕ) (name : ObjName) (most : ℕ) → name ≡ super_name uuid
    → IsFrontReadOf told name most None → IfSome told (λ objects. IsWhyVolumeRefused uuid objects errors.NoVolume)
told_absent None uuid name most same absent = tt
told_absent (Some objects) uuid name most same absent = sym (ap (found objects) same) ∙ absent
