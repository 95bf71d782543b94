-- The objects that the rows of a checkpoint name, in the store: each is there, but for those that ancestors lack.
use Rattle.std.proofs.Common.{rules, ◌≡◌, ℕ, inl, inr, Option, Some, None, List, length, refl, sym, ◌∙◌, ap, subst}
use Rattle.std.proofs.Common.{arith}
use Rattle.std.specs.Prelude.{IfSome}
use Rattle.std.specs.Option.{IsSome}
use Rattle.std.specs.List.{All}
use Rattle.std.proofs.lemmas.List.Elements.{All-contains}
use Rattle.clone_chain.specs.declared.ancestor.Ancestor.{Ancestor}
use Rattle.lsvd_base.specs.declared.geometry.Geometry.{Geometry}
use Rattle.lsvd_names.specs.Names.{numbered_name}
use Rattle.lsvd_objstore.specs.Objects.{Objects, found}
use Rattle.extent_map.specs.declared.extent.Extent.{Extent}
use Rattle.extent_map.specs.Extents.{place_at}
use Rattle.object_format.specs.declared.expected.Expected.{Expected}
use Rattle.object_format.specs.Header.{IsObjectHeader}
use Rattle.ckpt_format.specs.declared.place.StoredPlace.{StoredPlace}
use Rattle.ckpt_format.specs.Places.{stored_on}
use Rattle.ckpt_format.specs.Rows.{AllMayStand}
use Rattle.stopped_volume.specs.Ancestors.{uuid_in_chain}
use Rattle.stopped_volume.specs.Expected.{expected_alone}
use Rattle.object_table.specs.declared.row.ObjectRow.{ObjectRow}
use Rattle.object_table.specs.Table.{row_of}
use Rattle.volume_maps.specs.declared.place.ObjectPlace.{ObjectPlace}
use Rattle.object_uploads.specs.State.{QueueState}
use Rattle.object_recovery.specs.declared.inherited.Named.{Named}
use Rattle.object_recovery.specs.Checkpoints.{expected_of}
use Rattle.object_recovery.specs.Earlier.{EarlierObject, IsStoredThere, AreReached}
use Rattle.object_recovery.specs.Inherited.{AreNamedBy, ComesFrom, IsBelow, IsNotAbsent, IsAbsentThere, IsFirstAbsent}
use Rattle.object_recovery.specs.Inherited.{HasInherited}
use Rattle.object_recovery.specs.Missing.{IsThere, ComesBefore, IsBaseMissing}
use Rattle.object_recovery.specs.Table.{HasPayloadThere, ArePayloadsThere, IsNamedThere, FindsNamed}
use Rattle.object_recovery.proofs.BegunLemmas.{HasPayloadIn, HasBegunWith, HasAt, mapped_from, own_at, has_at}
use Rattle.object_recovery.proofs.BegunLemmas.{whole_at}
use Rattle.object_recovery.proofs.FindLemmas.{of_told}
use Rattle.object_recovery.proofs.PlaceLemmas.{so_some, some_so}

-- ---- ancestors' objects that are absent

-- what is so of the objects that a store tells
pub told_at : (told : Option Objects) (objects : Objects) (P : Objects → Type 0) → told ≡ Some objects → IfSome told P → P objects
told_at told objects P is so = subst (λ o. IfSome o P) is so

module _ (Tells : Type 0) (uuid : List ℕ) (geometry : Geometry) (chain : List Ancestor) (told : Option Objects)
    (objects : Objects) (of_store : told ≡ Some objects) where
  abbrev uuid_at : ℕ → Option (List ℕ)
  uuid_at = uuid_in_chain uuid chain

  -- the store has no object of a place whose object is absent
  none_there : (n : Named) (place : StoredPlace) (its : List ℕ) → n.level ≡ place.level → n.number ≡ place.number
      → IsAbsentThere Tells geometry chain told n → uuid_at place.level ≡ Some its
      → found objects (numbered_name its place.number) ≡ None
  none_there n place its level number is of =
      let absent : found objects (numbered_name is.uuid n.number) ≡ None =
      told_at told objects (λ o. found o (numbered_name is.uuid n.number) ≡ None) of_store is.absent in
      let there : Some is.uuid ≡ Some its = sym (is.of uuid) ∙ ap uuid_at level ∙ of in
      let same : is.uuid ≡ its = cc in
      subst (λ u. found objects (numbered_name u place.number) ≡ None) same
      (subst (λ m. found objects (numbered_name is.uuid m) ≡ None) number absent)

  pub not_absent : (n : Named) (place : StoredPlace) → n.level ≡ place.level → n.number ≡ place.number
      → IsAbsentThere Tells geometry chain told n → IsThere objects uuid_at place → ⊥
  not_absent n place level number is there =
      let none = none_there n place there.0 level number is there.1 in
      let some : IsSome {T = List ℕ} None = subst (λ o. IsSome o) none there.2 in
      absurd (search rules)

  -- an object that is not absent is there
  there_by : (n : Named) (place : StoredPlace) → n.level ≡ place.level → n.number ≡ place.number
      → IsNotAbsent Tells geometry chain told n → IsThere objects uuid_at place
  there_by n place level number is = (
    is.0,
    ap uuid_at (sym level) ∙ is.1 uuid,
    subst (λ m. IsSome (found objects (numbered_name is.0 m))) number
        (told_at told objects (λ o. IsSome (found o (numbered_name is.0 n.number))) of_store is.2),
  )

  below_by : (n first : Named) (other place : StoredPlace) → n.level ≡ other.level → n.number ≡ other.number
      → place.level ≡ first.level → place.number ≡ first.number → ComesBefore other place → IsBelow n first
  below_by n first other place level number its_level its_number (inl low) = inl (omega (arith, level, its_level, low))
  below_by n first other place level number its_level its_number (inr low) =
      inr (level ∙ low.0 ∙ its_level, omega (arith, number, its_number, low.1))

  -- the first that is absent is the first of those that rows name
  base_missing : (rows : List (Extent StoredPlace)) (named : List Named) (its : List ℕ) → AreNamedBy rows named
      → IsFirstAbsent Tells geometry chain told named its → IsBaseMissing uuid_at objects rows its
  base_missing rows named its names is =
      let first = is.first in
      let by = All-contains (ComesFrom rows) named first names.by is.among in
      let absent : found objects (numbered_name its first.number) ≡ None =
      told_at told objects (λ o. found o (numbered_name its first.number) ≡ None) of_store is.absent in
      record {
        k = by.k;
        place = by.place;
        row = by.row;
        inherited = by.inherited;
        of = ap uuid_at by.level ∙ is.of uuid;
        absent = subst (λ m. found objects (numbered_name its m) ≡ None) (sym by.number) absent;
        nearer = λ i other at further before.
            let n = names.all i other at further in
            there_by n.0 other n.2 n.3
            (is.nearer n.0 n.1 (below_by n.0 first other by.place n.2 n.3 by.level by.number before));
      }

-- ---- the objects of places

module _ (Tells : Type 0) (uuid : List ℕ) (geometry : Geometry) (chain : List Ancestor) (told : Option Objects) (number : ℕ)
    (earlier : List EarlierObject) (named : List Named) (absent : Option (List ℕ)) (rows : List (Extent StoredPlace))
    (queue : QueueState) (stand : AllMayStand (expected_alone (expected_of uuid geometry (length chain)) number) rows)
    (reached : AreReached rows earlier) (begun : HasBegunWith (expected_of uuid geometry (length chain)) earlier rows queue)
    (names : AreNamedBy rows named) (inherits : HasInherited Tells geometry chain told named queue.inherited absent)
    (objects : Objects) (of_store : told ≡ Some objects) (stored : All (IsStoredThere uuid objects) earlier)
    (tells : Tells) (own_tell : All (λ (e : EarlierObject). IsSome e.receipt.told) earlier) where
  abbrev volume : Expected
  volume = expected_of uuid geometry (length chain)

  abbrev At : StoredPlace → Type 0
  At = HasAt Tells uuid geometry chain told number earlier named absent rows queue stand reached begun names inherits

  -- the object of a place, with its payload
  payload_of : (place : StoredPlace) (has : At place)
      → HasPayloadThere (expected_of has.its geometry (length chain)) objects place.number has.payload
  payload_of place has =
      let e = has.object in
      let its_volume = expected_of has.its geometry (length chain) in
      let there = has.in_store objects of_store stored in
      let told_so = has.is_told tells own_tell in
      let header = has.parts.header (λ none. omega (arith, none, has.before)) in
      let own : HasPayloadThere its_volume objects e.number has.payload =
      record {
        bytes = there.0;
        present = there.1;
        header = header.header;
        is_header =
            of_told (λ bytes size. IsObjectHeader bytes size (expected_alone its_volume e.number) header.header)
            (numbered_name has.its e.number) there.0 e.receipt there.2 told_so header.told;
        no_checkpoint = header.no_checkpoint;
        payload_is = header.payload_is;
      } in
      subst (λ n. HasPayloadThere its_volume objects n has.payload) has.number_is own

  named_of : (place : StoredPlace) → At place → IsNamedThere volume (uuid_in_chain uuid chain) objects place
  named_of place has =
      let there = payload_of place has in
      record {
        uuid = has.its;
        of = has.of;
        bytes = there.bytes;
        present = there.present;
        header = there.header;
        is_header = there.is_header;
        no_checkpoint = there.no_checkpoint;
        inside = omega (arith, there.payload_is, has.parts.reach, has.before);
      }

  pub finds_named : FindsNamed volume (uuid_in_chain uuid chain) objects rows absent
  finds_named = record {
    named = λ k place at there.
        elim (has_at Tells uuid geometry chain told number earlier named absent rows queue stand reached begun names inherits k
        place at) [
          | inl has ↦ named_of place has
          | inr lacks ↦ absurd (not_absent Tells uuid geometry chain told objects of_store lacks.object place lacks.level
              lacks.number_is lacks.lacks (there lacks.further))
        ];
    whole = λ whole k place at.
        named_of place
        (whole_at Tells uuid geometry chain told number earlier named absent rows queue stand reached begun names inherits whole k
        place at);
    missing =
        so_some (IsBaseMissing (uuid_in_chain uuid chain) objects rows) absent
        (λ its is.
        base_missing Tells uuid geometry chain told objects of_store rows named its names
        (some_so (IsFirstAbsent Tells geometry chain told named) absent inherits.first its is));
  }

  -- ---- what the table says of the volume's own

  payload_in_row : (row : Option ObjectRow) (n payload : ℕ) → HasPayloadThere volume objects n payload
      → ((r : ObjectRow) → row ≡ Some r → r.payload ≡ payload)
      → IfSome row (λ (r : ObjectRow). HasPayloadThere volume objects n r.payload)
  payload_in_row None n payload there says = tt
  payload_in_row (Some r) n payload there says = subst (HasPayloadThere volume objects n) (sym (says r refl)) there

  own_payload : (place : StoredPlace) (has : At place) → place.level ≡ 0
      → HasPayloadThere volume objects place.number has.payload
  own_payload place has own =
      let both : Some uuid ≡ Some has.its = ap (uuid_in_chain uuid chain) (sym own) ∙ has.of in
      let same : uuid ≡ has.its = cc in
      subst (λ u. HasPayloadThere (expected_of u geometry (length chain)) objects place.number has.payload) (sym same)
      (payload_of place has)

  pub payloads_there : ArePayloadsThere volume objects queue
  payloads_there k place at own =
      let from = mapped_from (place_at stored_on rows k) place (sym (begun.settled k) ∙ at) in
      let level : from.0.level ≡ 0 = ap (λ (p : ObjectPlace). p.level) from.2 ∙ own in
      let has = own_at Tells uuid geometry chain told number earlier named absent rows queue stand reached begun names inherits k
      from.0 from.1 level in
      let its = subst (λ n. HasPayloadIn n has.payload queue.maps.objects.rows) has.number_is (has.in_table level) in
      subst (λ (p : ObjectPlace). IfSome (row_of p.number queue.maps.objects.rows) (λ (r : ObjectRow).
      HasPayloadThere volume objects p.number r.payload)) from.2
      (payload_in_row (row_of from.0.number queue.maps.objects.rows) from.0.number has.payload
      (own_payload from.0 has level) (λ r is.
      let both : Some r ≡ Some its.row = sym is ∙ its.there in
      let same : r ≡ its.row = cc in
      ap (λ (o : ObjectRow). o.payload) same ∙ its.payload_is))
