-- What a store says of a volume depends on its super object, its epochs and its holds alone, and is one thing.
use Rattle.std.proofs.Common.{◌≡◌, ℕ, ◌+◌, ◌^◌, ◌<◌, inl, inr, Some, None, List, refl, sym, ◌∙◌, ap, subst, arith}
use Rattle.std.specs.Option.{IsSome}
use Rattle.std.proofs.lemmas.Bool.{cases_eq, cases_order}
use Rattle.clone_chain.specs.declared.ancestor.Ancestor.{Ancestor}
use Rattle.lsvd_base.specs.declared.geometry.Geometry.{Geometry}
use Rattle.lsvd_names.specs.declared.name.ObjName.{ObjName}
use Rattle.lsvd_names.specs.Names.{super_name, epoch_name, hold_name}
use Rattle.lsvd_objstore.specs.Objects.{Objects, found, KeepsOthers}
use Rattle.super_format.specs.declared.epoch.Epoch.{Epoch}
use Rattle.super_format.specs.declared.super_object.Super.{Super}
use Rattle.super_format.specs.Epoch.{IsEpoch}
use Rattle.super_format.specs.Super.{geometry_with}
use Rattle.super_format.proofs.LawLemmas.{supers_have_one_spelling}
use Rattle.stopped_volume.specs.Super.{HasSuper, HasNewestEpoch, HasVolume}
use Rattle.super_recovery.specs.Found.{HasEpoch}
use Rattle.super_recovery.specs.Holds.{HasHold, AreHolds}
use Rattle.super_recovery.specs.Laws.{KeepsVolume, SaysTheSame, IsOtherKind, IsOtherName, ChangesOnly, OthersKeepVolume}
use Rattle.super_recovery.specs.Laws.{HasOneSuper}
use Rattle.super_recovery.specs.Laws.{HasOneNewest, HasOneVolume, NextEpochIsBegun, VolumeIsCreated}

-- ---- other objects

module _ (uuid : List ℕ) (old new : Objects) (keeps : KeepsVolume uuid old new) where
  same_super : (volume : Super) → HasSuper uuid volume old → HasSuper uuid volume new
  same_super volume is = record { bytes = is.bytes; present = keeps.of_super ∙ is.present; is_super = is.is_super }

  same_newest : (number : ℕ) → HasNewestEpoch uuid number old → HasNewestEpoch uuid number new
  same_newest number is = record {
    bytes = is.bytes;
    present = keeps.of_epochs number ∙ is.present;
    epoch = is.epoch;
    is_epoch = is.is_epoch;
    newest = λ other past fits. keeps.of_epochs other ∙ is.newest other past fits;
  }

  same_hold : (number : ℕ) → HasHold uuid number old → HasHold uuid number new
  same_hold number is =
      record { bytes = is.bytes; present = keeps.of_holds number ∙ is.present; hold = is.hold; is_hold = is.is_hold }

  same_holds : (numbers : List ℕ) → AreHolds uuid numbers old → AreHolds uuid numbers new
  same_holds numbers are = record {
    ascending = are.ascending;
    same = λ number fits.
        let either = are.same number fits in
        let kept = keeps.of_holds number in (
          λ has. subst IsSome (sym kept) (either.0 has),
          λ some. either.1 (subst IsSome kept some),
        );
    each = λ number has. same_hold number (are.each number has);
  }

  same_volume : (geometry : Geometry) (chain : List Ancestor) (epoch : ℕ) → HasVolume uuid geometry chain epoch old
      → HasVolume uuid geometry chain epoch new
  same_volume geometry chain epoch is = record {
    volume = is.volume;
    says = same_super is.volume is.says;
    sizes = is.sizes;
    chain_is = is.chain_is;
    epochs = same_newest epoch is.epochs;
    whole = λ number bytes present. is.whole number bytes (sym (keeps.of_epochs number) ∙ present);
    holds = λ number bytes present. is.holds number bytes (sym (keeps.of_holds number) ∙ present);
  }

pub says_the_same : SaysTheSame
says_the_same uuid old new keeps = record {
  says = same_super uuid old new keeps;
  newest = same_newest uuid old new keeps;
  holds = same_holds uuid old new keeps;
  has = same_volume uuid old new keeps;
}

-- a name of another kind or of another volume is none of the super object, none of an epoch, and none of a hold
no_super : (uuid : List ℕ) (name : ObjName) → IsOtherName uuid name → super_name uuid ≡ name → ⊥
no_super uuid name (inl kind) same = subst IsOtherKind (sym (ap (λ (n : ObjName). n.kind) same)) kind
no_super uuid name (inr other) same = other (sym (ap (λ (n : ObjName). n.uuid) same))

no_epoch : (uuid : List ℕ) (number : ℕ) (name : ObjName) → IsOtherName uuid name → epoch_name uuid number ≡ name → ⊥
no_epoch uuid number name (inl kind) same = subst IsOtherKind (sym (ap (λ (n : ObjName). n.kind) same)) kind
no_epoch uuid number name (inr other) same = other (sym (ap (λ (n : ObjName). n.uuid) same))

no_hold : (uuid : List ℕ) (number : ℕ) (name : ObjName) → IsOtherName uuid name → hold_name uuid number ≡ name → ⊥
no_hold uuid number name (inl kind) same = subst IsOtherKind (sym (ap (λ (n : ObjName). n.kind) same)) kind
no_hold uuid number name (inr other) same = other (sym (ap (λ (n : ObjName). n.uuid) same))

keeps_others : (name : ObjName) (old new : Objects) → ChangesOnly name old new → KeepsOthers name old new
keeps_others name old new (inl others) = others
keeps_others name old new (inr (inl (bytes, inl same))) = λ other apart. ap (λ objects. found objects other) same
keeps_others name old new (inr (inl (bytes, inr put))) = put.others
keeps_others name old new (inr (inr (inl same))) = λ other apart. ap (λ objects. found objects other) same
keeps_others name old new (inr (inr (inr removed))) = removed.others

pub others_keep_volume : OthersKeepVolume
others_keep_volume uuid name old new other changes =
    let others = keeps_others name old new changes in
    record {
      of_super = others (super_name uuid) (no_super uuid name other);
      of_epochs = λ number. others (epoch_name uuid number) (no_epoch uuid number name other);
      of_holds = λ number. others (hold_name uuid number) (no_hold uuid number name other);
    }

-- ---- one volume

pub one_super : HasOneSuper
one_super uuid a b objects is other =
    let same : Some is.bytes ≡ Some other.bytes = sym is.present ∙ other.present in
    let one : is.bytes ≡ other.bytes = cc in
    (supers_have_one_spelling is.bytes other.bytes uuid uuid a b is.is_super other.is_super).1 one

-- the number of an epoch fits
pub epoch_fits : (bytes uuid : List ℕ) (number : ℕ) (epoch : Epoch) → IsEpoch bytes uuid number epoch → number < 2 ^ 64
epoch_fits bytes uuid number epoch is = subst (λ n. n < 2 ^ 64) is.number_is is.numbered.number_width

not_past : (uuid : List ℕ) (m n : ℕ) (objects : Objects) → HasNewestEpoch uuid m objects → HasNewestEpoch uuid n objects
    → m < n → ⊥
not_past uuid m n objects is other past =
    let none = is.newest n past (epoch_fits other.bytes uuid n other.epoch other.is_epoch) in
    let some = other.present in
    cc

pub one_newest : HasOneNewest
one_newest uuid m n objects is other =
    elim (cases_order m n) [
      | inl same ↦ same
      | inr (inl past) ↦ absurd (not_past uuid m n objects is other past)
      | inr (inr past) ↦ absurd (not_past uuid n m objects other is past)
    ]

-- the sizes of a volume are those of its super object
pub sizes_of_super : (a : Geometry) (volume other : Super) → a ≡ geometry_with volume a.log → volume ≡ other
    → a ≡ geometry_with other a.log
sizes_of_super a volume other sizes same = sizes ∙ ap (λ v. geometry_with v a.log) same

pub one_volume : HasOneVolume
one_volume uuid a b c d m n objects is other =
    let same = one_super uuid is.volume other.volume objects is.says other.says in
    let with_log : Geometry → Geometry = λ geometry. record geometry { log = a.log } in (
      sizes_of_super a is.volume other.volume is.sizes same ∙ sym (ap with_log other.sizes),
      sym is.chain_is ∙ ap (λ (v : Super). v.chain) same ∙ other.chain_is,
      one_newest uuid m n objects is.epochs other.epochs,
    )

-- ---- puts

apart_kind : (uuid : List ℕ) (number : ℕ) → super_name uuid ≡ epoch_name uuid number → ⊥
apart_kind uuid number same = let kind = ap (λ (n : ObjName). n.kind) same in cc

apart_hold : (uuid : List ℕ) (m n : ℕ) → hold_name uuid m ≡ epoch_name uuid n → ⊥
apart_hold uuid m n same = let kind = ap (λ (n : ObjName). n.kind) same in cc

apart_number : (uuid : List ℕ) (m n : ℕ) → (m ≡ n → ⊥) → epoch_name uuid m ≡ epoch_name uuid n → ⊥
apart_number uuid m n apart same = apart (ap (λ (name : ObjName). name.number) same)

-- an epoch that the store has under a number is of the grammar, since each other one is
whole_with : (uuid : List ℕ) (put : ℕ) (objects : Objects) → HasEpoch uuid put objects
    → ((number : ℕ) (bytes : List ℕ) → (number ≡ put → ⊥) → found objects (epoch_name uuid number) ≡ Some bytes
    → (older : Epoch) × IsEpoch bytes uuid number older)
    → (number : ℕ) (bytes : List ℕ) → found objects (epoch_name uuid number) ≡ Some bytes → (older : Epoch)
    × IsEpoch bytes uuid number older
whole_with uuid put objects has rest number bytes present =
    elim (cases_eq number put) [
      | inl same ↦
          let one : Some has.bytes ≡ Some bytes = sym has.present ∙ sym (ap (λ n. found objects (epoch_name uuid n)) same)
          ∙ present in
          let is : has.bytes ≡ bytes = cc in (
            has.epoch,
            subst (λ b. IsEpoch b uuid number has.epoch) is (subst (λ n. IsEpoch has.bytes uuid n has.epoch) (sym same)
                has.is_epoch),
          )
      | inr apart ↦ rest number bytes apart present
    ]

pub next_epoch_is_begun : NextEpochIsBegun
next_epoch_is_begun uuid geometry chain epoch old new is puts =
    let of_super = puts.others (super_name uuid) (apart_kind uuid (epoch + 1)) in
    let others : (number : ℕ) → (number ≡ epoch + 1 → ⊥)
    → found new (epoch_name uuid number) ≡ found old (epoch_name uuid number) =
    λ number apart. puts.others (epoch_name uuid number) (apart_number uuid number (epoch + 1) apart) in
    record {
      volume = is.volume;
      says = record { bytes = is.says.bytes; present = of_super ∙ is.says.present; is_super = is.says.is_super };
      sizes = is.sizes;
      chain_is = is.chain_is;
      epochs = record {
        bytes = puts.has.bytes;
        present = puts.has.present;
        epoch = puts.has.epoch;
        is_epoch = puts.has.is_epoch;
        newest = λ other past fits. others other (λ same. omega arith) ∙ is.epochs.newest other (omega arith) fits;
      };
      whole =
          whole_with uuid (epoch + 1) new puts.has (λ number bytes apart present. is.whole number bytes (sym (others number apart)
          ∙ present));
      holds = λ number bytes present.
          is.holds number bytes (sym (puts.others (hold_name uuid number) (apart_hold uuid number (epoch + 1))) ∙ present);
    }

pub volume_is_created : VolumeIsCreated
volume_is_created volume geometry objects sizes says has none no_holds = record {
  volume = volume;
  says = says;
  sizes = sizes;
  chain_is = refl;
  epochs = record {
    bytes = has.bytes;
    present = has.present;
    epoch = has.epoch;
    is_epoch = has.is_epoch;
    newest = λ other past fits. none other past;
  };
  whole = whole_with volume.uuid 0 objects has
      (λ number bytes apart present. let missing = none number (omega arith) in
      absurd (some_is_none bytes (sym present ∙ missing)));
  holds = λ number bytes present. absurd (some_is_none bytes (sym present ∙ no_holds number));
}
  where
    some_is_none : (bytes : List ℕ) → Some bytes ≡ None → ⊥
    some_is_none bytes same = cc
