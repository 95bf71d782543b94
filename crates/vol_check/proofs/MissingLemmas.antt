-- Which objects are named and absent.
use Rattle.std.proofs.Common.{◌≡◌, ℕ, zero, suc, ◌^◌, ◌<◌, inl, inr, Option, Some, None, true, List, refl, sym, ap, subst}
use Rattle.std.specs.Prelude.{◌↔◌, is_some, option_map}
use Rattle.std.specs.BTreeSet.{BTreeSet}
use Rattle.std.specs.List.{Contains}
use Rattle.clone_chain.specs.declared.ancestor.Ancestor.{Ancestor}
use Rattle.clone_chain.specs.Chain.{ancestor_at}
use Rattle.lsvd_names.specs.Names.{numbered_name}
use Rattle.lsvd_objstore.specs.Objects.{Objects, found}
use Rattle.object_format.specs.declared.expected.Expected.{Expected}
use Rattle.object_stream.specs.Replay.{object_name}
use Rattle.object_stream.specs.Stream.{Owners}
use Rattle.stopped_volume.specs.Ancestors.{uuid_in_chain}
use Rattle.stopped_volume.specs.Holds.{IsHeld}
use Rattle.stopped_volume.specs.Opening.{owned_by}
use Rattle.object_recovery.specs.Judging.{HaveLanded}
use Rattle.vol_check.specs.declared.report.ObjectOfLevel.{ObjectOfLevel}
use Rattle.vol_check.specs.Report.{AreJustMissing, IsThere, IsNamed, IsAbsent, HasOwner, object_at, owner_at}
use Rattle.vol_check.specs.Steps.{Has, IsAway, IsAwayAt, IsNoneOf, IsPartOf, KeepsObject, NamesAll}
use Rattle.vol_check.proofs.SourceLemmas.{source_from}

none_of : (held : Option (List ℕ)) → (is_some held ≡ true → ⊥) → held ≡ None
none_of None gone = refl
none_of (Some bytes) gone = absurd (gone refl)

-- the uuid of an ancestor is that of one
uuid_of : (ancestor : Option Ancestor) (uuid : List ℕ) → option_map (λ a. a.uuid) ancestor ≡ Some uuid
    → (one : Ancestor) × (ancestor ≡ Some one) × (one.uuid ≡ uuid)
uuid_of None uuid is = absurd cc
uuid_of (Some one) uuid is = (one, refl, cc)

module _ (volume : Expected) (objects : Objects) (base last : ℕ) (bytes holds : List ℕ) (named : BTreeSet ObjectOfLevel)
    (all : NamesAll volume objects base bytes holds named)
    (held : (n : ℕ) → Contains holds n ↔ IsHeld volume objects n) (landed : HaveLanded objects volume base last) where
  abbrev owned : Owners
  owned = owned_by all.rows

  -- what is named is so by the report, too
  by_kept : (n : ObjectOfLevel) (checkpoint : ℕ) → IsHeld volume objects checkpoint
      → KeepsObject volume objects checkpoint n → IsNamed volume objects base all.end owned last n.level n.number
  by_kept n checkpoint is (inl same) =
      inr (inr (inl (
        ap (λ (o : ObjectOfLevel). o.level) same,
        subst (IsHeld volume objects) (sym (ap (λ (o : ObjectOfLevel). o.number) same)) is,
      )))
  by_kept n checkpoint is (inr (end, kept, of, mapped)) = inr (inr (inr (checkpoint, is, end, kept, of, mapped)))

  named_so : (n : ObjectOfLevel) → Has named n → IsNamed volume objects base all.end owned last n.level n.number
  named_so n has =
      elim ((all.same n).0 has) [
        | inl mapped ↦ inl mapped
        | inr kept ↦ by_kept n kept.0 ((held kept.0).0 kept.1) kept.2
      ]

  -- and the other way, where the volume's own object is absent
  so_named : (level n : ℕ) → (level ≡ 0 → IsThere volume objects n → ⊥)
      → IsNamed volume objects base all.end owned last level n → Has named (object_at level n)
  so_named level n gone (inl mapped) = (all.same (object_at level n)).1 (inl mapped)
  so_named level n gone (inr (inl (own, source))) =
      elim (source_from volume objects base all.end owned last n landed source) [
        | inl by ↦ (all.same (object_at level n)).1
            (inl (subst (λ (l : ℕ). HasOwner owned (owner_at l n)) (sym own) by))
        | inr there ↦ absurd (gone own there)
      ]
  so_named level n gone (inr (inr (inl (own, is)))) =
      (all.same (object_at level n)).1 (inr (n, (held n).1 is, inl (ap (λ (l : ℕ). object_at l n) own)))
  so_named level n gone (inr (inr (inr (checkpoint, is, end, kept, of, mapped)))) =
      (all.same (object_at level n)).1 (inr (checkpoint, (held checkpoint).1 is, inr (end, kept, of, mapped)))

  module _ (numbers : List ℕ) (there : (n : ℕ) → n < 2 ^ 64 → Contains numbers n ↔ IsThere volume objects n)
      (chain : List Ancestor) where
    -- what is away is absent
    away_absent : (level n : ℕ) → n < 2 ^ 64 → IsAwayAt (IsNoneOf numbers) objects chain level n
        → IsAbsent objects (uuid_in_chain volume.uuid chain) level n
    away_absent zero n fits away =
        (volume.uuid, refl, none_of (found objects (object_name volume n)) (λ some. away ((there n fits).1 some)))
    away_absent (suc place) n fits (ancestor, at, none) =
        (ancestor.uuid, ap (option_map (λ a. a.uuid)) at, none)

    absent_away : (level n : ℕ) → n < 2 ^ 64 → IsAbsent objects (uuid_in_chain volume.uuid chain) level n
        → IsAwayAt (IsNoneOf numbers) objects chain level n
    absent_away zero n fits (uuid, at, none) =
        let own : uuid ≡ volume.uuid = cc in
        let gone : found objects (object_name volume n) ≡ None =
        subst (λ (u : List ℕ). found objects (numbered_name u n) ≡ None) own none in
        λ has. absurd (let some = (there n fits).0 has in let other = gone in cc)
    absent_away (suc place) n fits (uuid, at, none) =
        let one = uuid_of (ancestor_at chain (suc place)) uuid at in (
          one.0,
          one.1,
          subst (λ (u : List ℕ). found objects (numbered_name u n) ≡ None) (sym one.2) none,
        )

    -- the volume's own object is not there
    own_gone : (level n : ℕ) → n < 2 ^ 64 → IsAwayAt (IsNoneOf numbers) objects chain level n → level ≡ 0
        → IsThere volume objects n → ⊥
    own_gone zero n fits away own is = away ((there n fits).1 is)
    own_gone (suc place) n fits away own is = absurd cc

    pub are_missing : (list : List ObjectOfLevel) → IsPartOf (Has named) (IsAway (IsNoneOf numbers) objects chain) list
        → AreJustMissing (λ level n. IsNamed volume objects base all.end owned last level n
        × IsAbsent objects (uuid_in_chain volume.uuid chain) level n) list
    are_missing list part = record {
      ascending = part.ascending;
      same = λ level n fits. (
        λ has. let is = (part.same (object_at level n)).0 has in
            (named_so (object_at level n) is.0, away_absent level n fits is.1),
        λ such. let away = absent_away level n fits such.1 in
            (part.same (object_at level n)).1 (so_named level n (own_gone level n fits away) such.0, away),
      );
    }
