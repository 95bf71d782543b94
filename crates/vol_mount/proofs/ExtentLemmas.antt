-- The greatest number of a volume's objects, and the end of those before the first missing one.
use Rattle.std.proofs.Common.{◌≡◌, ℕ, ◌≤◌, inl, inr, Option, Some, None, List, refl, sym, ◌∙◌, ap, subst, arith}
use Rattle.std.specs.Prelude.{IfSome, IsTrue, length}
use Rattle.std.specs.Option.{IsSome, is_some}
use Rattle.std.proofs.lemmas.Bool.{cases_lt}
use Rattle.clone_chain.specs.declared.ancestor.Ancestor.{Ancestor}
use Rattle.lsvd_base.specs.declared.geometry.Geometry.{Geometry}
use Rattle.lsvd_names.specs.declared.name.NameKind.{NameKind}
use Rattle.lsvd_names.specs.declared.name.NameKind.TheVariants.{Object}
use Rattle.lsvd_names.specs.declared.name.ObjName.{ObjName}
use Rattle.lsvd_names.specs.Names.{numbered_name}
use Rattle.lsvd_objstore.specs.Objects.{Objects, found, Lists}
use Rattle.obj_log.specs.State.{ObjLogState}
use Rattle.stopped_volume.specs.Objects.{landed_in}
use Rattle.object_recovery.specs.Checkpoints.{expected_of}
use Rattle.object_recovery.specs.State.{RecoveredState, HasAllNames, IsGreatestNumber}
use Rattle.vol_mount.specs.Refusals.{IsExtent, HasExtent}
use Rattle.vol_mount.specs.Steps.{IsRecovered, IsRecoveredFrom}

none_unless : (held : Option (List ℕ)) → (IsSome held → ⊥) → held ≡ None
none_unless None not = refl
none_unless (Some bytes) not = absurd (not refl)

named_so : (uuid : List ℕ) (name : ObjName) (number : ℕ) → name.uuid ≡ uuid → name.kind ≡ Object → name.number ≡ number
    → name ≡ numbered_name uuid number
named_so uuid name number same kind is =
    ap (λ (u : List ℕ). let other : ObjName = record { uuid = u; kind = name.kind; number = name.number } in other) same
    ∙ ap (λ (k : NameKind). let other : ObjName = record { uuid = uuid; kind = k; number = name.number } in other) kind
    ∙ ap (λ (n : ℕ). numbered_name uuid n) is

module _ (uuid : List ℕ) (geometry : Geometry) (chain : List Ancestor) (objects : Objects) (list : ObjLogState) (checkpoint : ℕ)
    (names : List ObjName)
    (greatest : ℕ)
    (from_checkpoint : checkpoint ≤ list.uploads.window.last)
    (from : IsRecoveredFrom uuid geometry chain objects list checkpoint) (lists : Lists uuid objects names)
    (is : IsGreatestNumber names list.uploads.window.last greatest) where
  last_present : IsTrue (landed_in objects (expected_of uuid geometry (length chain)) list.uploads.window.last)
  last_present =
      elim (cases_lt checkpoint list.uploads.window.last) [
        | inl past ↦ from.landed list.uploads.window.last past (omega arith)
        | inr none ↦
            (let same : checkpoint ≡ list.uploads.window.last = omega (arith, none, from_checkpoint) in
            subst (λ n. IsTrue (landed_in objects (expected_of uuid geometry (length chain)) n)) same
            (ap is_some from.newest.is.present))
      ]

  extent_told : IsExtent uuid geometry chain objects greatest list.uploads.queue.end
  extent_told = record {
    none_greater = λ name named past.
        none_unless (found objects name) (λ some.
        let low = is.none_greater name (lists.complete name named past.0 some) past.1.0 in
        let high = past.1.1 in
        absurd (omega (arith, low, high)));
    present = elim is.is [
      | inl same ↦ subst (λ n. IsTrue (landed_in objects (expected_of uuid geometry (length chain)) n)) (sym same) last_present
      | inr it ↦
          (let listed = lists.present it.0 it.1 in
          subst (λ (name : ObjName). IsTrue (is_some (found objects name)))
          (named_so uuid it.0 greatest listed.1 it.2 it.3) listed.2)
    ];
    end_is = λ low stream opening number has.
        (let least = is.no_less in
        ((from.recovered (omega (arith, low, least))).streams stream opening number has).end_is);
  }

pub extent_of : (uuid : List ℕ) (geometry : Geometry) (chain : List Ancestor) (told : Option Objects) (recovered : RecoveredState)
    (greatest : ℕ)
    → IsRecovered uuid geometry (length chain) recovered.log recovered.checkpoint
    → IfSome told (λ o. IsRecoveredFrom uuid geometry chain o recovered.log recovered.checkpoint) → HasAllNames told recovered
    → IsGreatestNumber recovered.names recovered.log.uploads.window.last greatest
    → HasExtent uuid geometry chain told greatest recovered.log.uploads.queue.end
extent_of uuid geometry chain None recovered greatest list from names is = tt
extent_of uuid geometry chain (Some objects) recovered greatest list from names is =
    extent_told uuid geometry chain objects recovered.log recovered.checkpoint recovered.names greatest list.from from
    (subst (λ u. Lists u objects recovered.names) list.list.uuid_is names.listed) is
