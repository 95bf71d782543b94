-- What a volume opens with of its ancestors stays while nothing but its own names changes.
use Rattle.std.proofs.Common.{arith, ℕ, zero, suc, ◌<◌, ◌≤◌, ◌≡◌, Option, Some, None, List, [], ◌∷◌, length, get_or, refl, sym}
use Rattle.std.proofs.Common.{◌∙◌, ap, subst}
use Rattle.std.proofs.Common.{slice_get, inl, inr}
use Rattle.std.proofs.lemmas.Option.{slice_get-get_or}
use Rattle.std.proofs.lemmas.List.Elements.{All-nil, All-cons, All-head, All-tail, All-from_get_or}
use Rattle.std.specs.Prelude.{IsSomeAnd, option_map}
use Rattle.std.specs.List.{All}
use Rattle.std.specs.Option.{IsSome}
use Rattle.clone_chain.specs.declared.ancestor.Ancestor.{Ancestor}
use Rattle.clone_chain.specs.Chain.{ancestor_at, IsLevelOf, IsNoAncestor}
use Rattle.lsvd_base.specs.Image.{Image}
use Rattle.lsvd_names.specs.Names.{super_name, numbered_name}
use Rattle.lsvd_objstore.specs.Objects.{Objects, found}
use Rattle.object_stream.specs.declared.owner.Owner.{Owner}
use Rattle.object_stream.specs.Replay.{object_name}
use Rattle.object_stream.specs.Stream.{Owners}
use Rattle.object_stream.specs.Value.{HasSector, StandsForSector}
use Rattle.stopped_volume.specs.Ancestors.{uuid_in_chain, HasAncestor, HasInherited, place_of, KeepsOtherVolumes}
use Rattle.stopped_volume.specs.Laws.{InheritedIsKept}
use Rattle.stopped_volume.specs.Opening.{HasSectorAt}

-- a uuid of a further level is an ancestor's
of_ancestor : (ancestor : Option Ancestor) (other uuid : List ℕ) → option_map (λ (a : Ancestor). a.uuid) ancestor ≡ Some other
    → other ≡ uuid → IsSomeAnd ancestor (λ a. a.uuid ≡ uuid)
of_ancestor None other uuid is same = absurd (cc)
of_ancestor (Some ancestor) other uuid is same = let it : ancestor.uuid ≡ uuid = cc in it

level_is_other : (uuid : List ℕ) (chain : List Ancestor) → IsNoAncestor chain uuid → (level : ℕ) (other : List ℕ) → 1 ≤ level
    → uuid_in_chain uuid chain level ≡ Some other → other ≡ uuid → ⊥
level_is_other uuid chain apart zero other from is same = omega (arith, from)
level_is_other uuid chain apart (suc place) other from is same =
    apart (suc place) (of_ancestor (ancestor_at chain (suc place)) other uuid is same)

none_is_own : (uuid : List ℕ) (chain : List Ancestor) → IsNoAncestor chain uuid
    → All (λ (a : Ancestor). a.uuid ≡ uuid → ⊥) chain
none_is_own uuid [] apart = All-nil (λ (a : Ancestor). a.uuid ≡ uuid → ⊥)
none_is_own uuid (first ∷ more) apart =
    All-from_get_or (λ (a : Ancestor). a.uuid ≡ uuid → ⊥) (first ∷ more) first
    (λ i below same. apart (suc i) (subst (λ o. IsSomeAnd o (λ (a : Ancestor). a.uuid ≡ uuid))
    (sym (slice_get-get_or (first ∷ more) i first below)) same))

module _ (uuid : List ℕ) (old new : Objects) (keeps : KeepsOtherVolumes uuid old new) where
  ancestor_kept : (ancestor : Ancestor) → (ancestor.uuid ≡ uuid → ⊥) → HasAncestor old ancestor → HasAncestor new ancestor
  ancestor_kept ancestor other has = record {
    super_there = subst IsSome (sym (keeps (super_name ancestor.uuid) other)) has.super_there;
    checkpoint_there =
        subst IsSome (sym (keeps (numbered_name ancestor.uuid ancestor.checkpoint) other)) has.checkpoint_there;
  }

  ancestors_kept : (chain : List Ancestor) → All (λ (a : Ancestor). a.uuid ≡ uuid → ⊥) chain → All (HasAncestor old) chain
      → All (HasAncestor new) chain
  ancestors_kept [] others has = All-nil (HasAncestor new)
  ancestors_kept (first ∷ more) others has =
      let Other : Ancestor → Type 0 = λ a. a.uuid ≡ uuid → ⊥ in
      All-cons (HasAncestor new) first more
      (ancestor_kept first (All-head Other first more others) (All-head (HasAncestor old) first more has))
      (ancestors_kept more (All-tail Other first more others) (All-tail (HasAncestor old) first more has))

  module _ (chain : List Ancestor) (apart : IsNoAncestor chain uuid) where
    abbrev uuid_at : ℕ → Option (List ℕ)
    uuid_at = uuid_in_chain uuid chain

    abbrev sector_kept : (owner : Owner) (k : ℕ) (sector : List ℕ) → 1 ≤ owner.level → HasSector old uuid_at owner k sector
        → HasSector new uuid_at owner k sector
    sector_kept owner k sector from has = record {
      expected = has.expected;
      wide = has.wide;
      level = has.level;
      number = has.number;
      bytes = has.bytes;
      present =
          keeps (object_name has.expected owner.number)
          (level_is_other uuid chain apart owner.level has.expected.uuid from has.level)
          ∙ has.present;
      header = has.header;
      rows = has.rows;
      payload = has.payload;
      parts = has.parts;
      has = has.has;
    }

    stands_kept : (owner : Option Owner) (k : ℕ) (sector : List ℕ) → ((o : Owner) → owner ≡ Some o → 1 ≤ o.level)
        → StandsForSector old uuid_at owner k sector → StandsForSector new uuid_at owner k sector
    stands_kept None k sector from stands = stands
    stands_kept (Some owner) k sector from stands = sector_kept owner k sector (from owner refl) stands

    place_kept : (owner : Owner) (sector k : ℕ) → 1 ≤ owner.level → HasSectorAt old uuid_at (place_of owner sector) k
        → HasSectorAt new uuid_at (place_of owner sector) k
    place_kept owner sector k from was = record {
      numbered = was.numbered;
      sector = was.sector;
      has = sector_kept (record { level = owner.level; number = owner.number }) k was.sector from was.has;
      inside = was.inside;
      at = was.at;
    }

pub inherited_is_kept : InheritedIsKept
inherited_is_kept uuid chain owned inherited opening old new keeps has = record {
  apart = has.apart;
  ancestors = ancestors_kept uuid old new keeps chain (none_is_own uuid chain has.apart) has.ancestors;
  value = λ k sector at.
      stands_kept uuid old new keeps chain has.apart (owned k) k sector (λ o is. (has.places k o is).0) (has.value k sector at);
  places = λ k owner is.
      let was = has.places k owner is in
      (was.0, place_kept uuid old new keeps chain has.apart owner (inherited k) k was.0 was.1);
}
