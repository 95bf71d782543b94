-- The image of a list that begins with a checkpoint, and which objects are missing.
use Rattle.std.proofs.Common.{◌≡◌, ℕ, ◌+◌, ◌*◌, ◌≤◌, Option, Some, None, List, length, take, drop, refl, sym, ◌∙◌, ap, subst}
use Rattle.std.proofs.Common.{arith, rules, true, Bool, inl, inr}
use Rattle.std.specs.Prelude.{IfSome, IsTrue, option_map, ◌&&◌, nat_le}
use Rattle.std.specs.Option.{IsSome}
use Rattle.std.specs.List.{All, Contains}
use Rattle.std.proofs.lemmas.Bool.{and_parts, and_from}
use Rattle.std.proofs.lemmas.List.{drop-drop}
use Rattle.std.proofs.lemmas.List.Elements.{All-contains}
use Rattle.clone_chain.specs.declared.ancestor.Ancestor.{Ancestor}
use Rattle.lsvd_base.specs.declared.geometry.Geometry.{Geometry}
use Rattle.lsvd_base.specs.Image.{Image}
use Rattle.lsvd_names.specs.Names.{numbered_name}
use Rattle.lsvd_objstore.specs.Objects.{Objects, found}
use Rattle.extent_map.specs.declared.extent.Extent.{Extent}
use Rattle.extent_map.specs.Extents.{place_at}
use Rattle.object_format.specs.declared.expected.Expected.{Expected}
use Rattle.object_format.specs.declared.header.Header.{Header}
use Rattle.object_format.specs.declared.kind.Kind.{Kind}
use Rattle.object_format.specs.declared.kind.Kind.TheVariants as kinds
use Rattle.object_format.specs.declared.rows.Rows.{Rows}
use Rattle.object_format.specs.declared.rows.Rows.TheVariants as rows_of
use Rattle.object_format.specs.Layout.{front_sectors}
use Rattle.object_format.specs.Header.{header_in, has_seqs_of_kind, begins_at, most_rows, IsObjectHeader}
use Rattle.object_format.specs.Rows.{rows_kind}
use Rattle.object_format.proofs.TestLemmas.{header_in-IsHeader}
use Rattle.ckpt_format.specs.declared.place.StoredPlace.{StoredPlace}
use Rattle.ckpt_format.specs.Places.{stored_on}
use Rattle.ckpt_format.specs.Rows.{AllMayStand}
use Rattle.object_stream.specs.Changes.{sector_of}
use Rattle.object_stream.specs.Value.{sector_in, HasSector, StandsForSector, IsValue}
use Rattle.object_stream.proofs.OneLemmas.{one_sector}
use Rattle.stopped_volume.specs.Ancestors.{uuid_in_chain}
use Rattle.stopped_volume.specs.Expected.{expected_alone}
use Rattle.stopped_volume.specs.Opening.{stored_owner, owned_by, HasSectorAt, HoldPlaces}
use Rattle.object_uploads.specs.State.{QueueState}
use Rattle.object_uploads.specs.Image.{GivesSector, HoldsSector, HasImage}
use Rattle.object_recovery.specs.declared.inherited.Named.{Named}
use Rattle.object_recovery.specs.Checkpoints.{expected_of}
use Rattle.object_recovery.specs.Missing.{IsMissing}
use Rattle.object_recovery.specs.Earlier.{EarlierObject, AreAllEarlier, IsStoredThere, HasEarlier, AreReached, ReachedBy}
use Rattle.object_recovery.specs.Earlier.{NamesNone}
use Rattle.object_recovery.specs.Inherited.{AreNamedBy, ComesFrom, found_as, HasInherited, LacksAmong}
use Rattle.object_recovery.specs.Beginning.{LacksReach}
use Rattle.object_uploads.specs.Checkpoint.{mapped_place}
use Rattle.object_recovery.proofs.RowLemmas.{place_stands}
use Rattle.object_recovery.proofs.BegunLemmas.{HasBegunWith, HasAt, has_at, inside_payload}
use Rattle.object_recovery.proofs.FoundPlaces.{told_at, not_absent}

-- ---- a header alone

-- an object that has a sector is no checkpoint
rows_no_checkpoint : (rows : Rows) (header : Header) (payload : List ℕ) (k : ℕ) (sector : List ℕ) → rows_kind rows ≡ header.kind
    → sector_in rows payload k ≡ Some sector → header.kind ≡ kinds.Checkpoint → ⊥
rows_no_checkpoint (rows_of.Data list) header payload k sector kind has is = absurd cc
rows_no_checkpoint (rows_of.Copy list) header payload k sector kind has is = absurd cc
rows_no_checkpoint rows_of.Checkpoint header payload k sector kind has is = absurd cc

-- what may stand after an end may stand where that is not known
alone_seqs : (header : Header) (after : Bool) → IsTrue (has_seqs_of_kind header header.kind && after)
    → IsTrue (has_seqs_of_kind header header.kind && true)
alone_seqs header after is = and_from _ _ (and_parts (has_seqs_of_kind header header.kind) after is).0 refl

-- the size of the volume bounds the rows of a checkpoint alone
alone_by : (kind : Kind) (sectors others rows payload : ℕ) → (kind ≡ kinds.Checkpoint → ⊥)
    → IsTrue (nat_le rows (most_rows others kind) && nat_le payload 131071)
    → IsTrue (nat_le rows (most_rows sectors kind) && nat_le payload 131071)
alone_by kinds.Data sectors others rows payload other is = is
alone_by kinds.Copy sectors others rows payload other is = is
alone_by kinds.Checkpoint sectors others rows payload other is = absurd (other refl)

alone_limits : (sectors others : ℕ) (header : Header) → (header.kind ≡ kinds.Checkpoint → ⊥)
    → IsTrue (nat_le header.rows (most_rows others header.kind) && nat_le header.payload 131071)
    → IsTrue (nat_le header.rows (most_rows sectors header.kind) && nat_le header.payload 131071)
alone_limits sectors others header other is = alone_by header.kind sectors others header.rows header.payload other is

-- ---- a place that holds its sector, in the object of its level

module _ (volume : Expected) (objects : Objects) (uuid_at : ℕ → Option (List ℕ)) (place : StoredPlace) (k : ℕ)
    (of : uuid_at place.level ≡ Some volume.uuid) (holds : HasSectorAt objects uuid_at place k) where
  same_uuid : volume.uuid ≡ holds.has.expected.uuid
  same_uuid =
      let both : Some volume.uuid ≡ Some holds.has.expected.uuid = sym of ∙ holds.has.level in
      cc

  -- the store has the object
  pub present : found objects (numbered_name volume.uuid place.number) ≡ Some holds.has.bytes
  present = ap (λ u. found objects (numbered_name u place.number)) same_uuid ∙ holds.has.present

  -- and a header that was read of it is its own
  pub own_header : (told : List ℕ) (size : ℕ) (expected : Expected) (header : Header) → told ≡ holds.has.bytes
      → IsObjectHeader told size expected header → header ≡ holds.has.header
  own_header told size expected header same is =
      let e : header_in (take 64 told) ≡ Some header = header_in-IsHeader told size expected header is in
      let f : header_in (take 64 holds.has.bytes) ≡ Some holds.has.header =
      header_in-IsHeader holds.has.bytes (length holds.has.bytes) holds.has.expected holds.has.header
      holds.has.parts.is_object.head in
      let g : header_in (take 64 told) ≡ header_in (take 64 holds.has.bytes) = ap (λ b. header_in (take 64 b)) same in
      cc

  pub no_checkpoint : holds.has.header.kind ≡ kinds.Checkpoint → ⊥
  no_checkpoint =
      rows_no_checkpoint holds.has.rows holds.has.header holds.has.payload k holds.sector holds.has.parts.is_object.rows_are.kind
      holds.has.has

  -- its header may stand alone under its number
  pub stands_alone : (size : ℕ) → size ≡ length holds.has.bytes
      → IsObjectHeader holds.has.bytes size (expected_alone volume place.number) holds.has.header
  stands_alone size whole =
      let head = holds.has.parts.is_object.head in
      record {
        head = head.head;
        has_size = whole ∙ head.has_size;
        uuid = head.uuid ∙ sym same_uuid;
        number = head.number ∙ sym holds.has.number;
        seqs = alone_seqs holds.has.header (begins_at holds.has.header.first_seq holds.has.expected.end_before) head.seqs;
        limits = alone_limits volume.sectors holds.has.expected.sectors holds.has.header no_checkpoint head.limits;
        widths = head.widths;
      }

  -- the sector stands there in its bytes
  pub sector_there : (front : ℕ) → front_sectors holds.has.header ≡ front
      → sector_of (front + place.place) holds.has.bytes ≡ holds.sector
  sector_there front is =
      let payload = holds.has.parts.payload_is in
      let at : 512 * place.place + 0 ≡ 512 * place.place = omega arith in
      let sum : 512 * front + 512 * place.place ≡ 512 * (front + place.place) = omega arith in
      let dropped : drop (512 * place.place) holds.has.payload ≡ drop (512 * (front + place.place)) holds.has.bytes =
      ap (drop (512 * place.place)) payload
      ∙ ap (λ f. drop (512 * place.place) (drop (512 * f) holds.has.bytes)) is
      ∙ drop-drop (512 * place.place) (512 * front) holds.has.bytes
      ∙ ap (λ n. drop n holds.has.bytes) sum in
      sym (ap (take 512) dropped) ∙ holds.at

-- ---- the image

module _ (Tells : Type 0) (uuid : List ℕ) (geometry : Geometry) (chain : List Ancestor) (told : Option Objects) (number : ℕ)
    (earlier : List EarlierObject) (named : List Named) (absent : Option (List ℕ)) (rows : List (Extent StoredPlace))
    (queue : QueueState) (stand : AllMayStand (expected_alone (expected_of uuid geometry (length chain)) number) rows)
    (reached : AreReached rows earlier) (begun : HasBegunWith (expected_of uuid geometry (length chain)) earlier rows queue)
    (names : AreNamedBy rows named) (inherits : HasInherited Tells geometry chain told named queue.inherited absent)
    (objects : Objects) (of_store : told ≡ Some objects) (stored : All (IsStoredThere uuid objects) earlier) (image : Image)
    (hold : HoldPlaces objects (uuid_in_chain uuid chain) rows)
    (value : IsValue objects (uuid_in_chain uuid chain) (owned_by rows) image) where
  abbrev uuid_of : ℕ → Option (List ℕ)
  uuid_of = uuid_in_chain uuid chain

  abbrev At : StoredPlace → Type 0
  At = HasAt Tells uuid geometry chain told number earlier named absent rows queue stand reached begun names inherits

  told_sector : (place : StoredPlace) (k : ℕ) (has : At place) (holds : HasSectorAt objects uuid_of place k)
      (bytes : Option (List ℕ)) → has.object.receipt.told ≡ bytes
      → IfSome bytes (λ bytes. sector_of (has.front + place.place) bytes ≡ holds.sector)
  told_sector place k has holds None is = tt
  told_sector place k has holds (Some bytes) is =
      let e = has.object in
      let there = has.in_store objects of_store stored in
      let volume = expected_of has.its geometry (length chain) in
      let found_there : found objects (numbered_name has.its place.number) ≡ Some there.0 =
      ap (λ n. found objects (numbered_name has.its n)) (sym has.number_is) ∙ there.1 in
      let own_bytes = present volume objects uuid_of place k has.of holds in
      let same : there.0 ≡ holds.has.bytes = cc in
      let told_is : bytes ≡ there.0 = subst (λ t. IfSome t (λ b. b ≡ there.0)) is there.2.told in
      let header = has.parts.header (λ none. omega (arith, none, has.before)) in
      let head = subst (λ t. IfSome t (λ b. IsObjectHeader b e.receipt.size (expected_alone volume e.number) header.header)) is
      header.told in
      let one = own_header volume objects uuid_of place k has.of holds bytes e.receipt.size
      (expected_alone volume e.number) header.header (told_is ∙ same) head in
      let front : front_sectors holds.has.header ≡ has.front = ap front_sectors (sym one) ∙ header.front_is in
      ap (sector_of (has.front + place.place)) (told_is ∙ same)
      ∙ sector_there volume objects uuid_of place k has.of holds has.front front

  gives_at : (place : StoredPlace) (k : ℕ) (sector : List ℕ) → At place → HasSectorAt objects uuid_of place k
      → HasSector objects uuid_of (stored_owner place) k sector → HoldsSector queue (Some (mapped_place place)) sector
  gives_at place k sector has holds of_value =
      let one = one_sector objects uuid_of (Some (stored_owner place)) k holds.sector sector holds.has of_value in
      let volume = expected_of has.its geometry (length chain) in
      let inside = inside_payload volume has.object has.payload has.front place.place has.parts has.before in
      subst (λ o. GivesSector o place.place sector) (sym has.stored) (
        inside,
        subst (λ s. IfSome has.object.receipt.told (λ bytes. sector_of (has.front + place.place) bytes ≡ s)) one
            (told_sector place k has holds has.object.receipt.told refl),
      )

  gives : (place : StoredPlace) (k : ℕ) (sector : List ℕ) → place_at stored_on rows k ≡ Some place
      → HasSector objects uuid_of (stored_owner place) k sector
      → HoldsSector queue (Some (mapped_place place)) sector
  gives place k sector is of_value =
      let holds = hold k place is in
      elim (has_at Tells uuid geometry chain told number earlier named absent rows queue stand reached begun names inherits k
      place is) [
        | inl has ↦ gives_at place k sector has holds of_value
        | inr lacks ↦ absurd (not_absent Tells uuid geometry chain told objects of_store lacks.object place lacks.level
            lacks.number_is lacks.lacks
            (holds.has.expected.uuid, holds.has.level, subst (λ o. IsSome o) (sym holds.has.present) (search rules)))
      ]

  holds_by : (place : Option StoredPlace) (k : ℕ) (sector : List ℕ) → place_at stored_on rows k ≡ place
      → StandsForSector objects uuid_of (option_map stored_owner place) k sector
      → HoldsSector queue (option_map mapped_place place) sector
  holds_by None k sector is stands = stands
  holds_by (Some place) k sector is stands = gives place k sector is stands

  pub has_image : HasImage image queue
  has_image k sector at =
      subst (λ p. HoldsSector queue p sector) (sym (begun.settled k))
      (holds_by (place_at stored_on rows k) k sector refl (value k sector at))

-- ---- missing objects

-- a header of an object that does not have what rows name of it
lacks_by : (e : EarlierObject) (bytes : List ℕ) (told : Option (List ℕ)) (size : ℕ) (expected : Expected)
    → told ≡ Some bytes
    → IfSome told (λ t. (header : Header) → IsObjectHeader t size expected header → (header.kind ≡ kinds.Checkpoint → ⊥)
    → e.reach ≤ header.payload → ⊥)
    → (header : Header) → IsObjectHeader bytes size expected header → (header.kind ≡ kinds.Checkpoint → ⊥)
    → e.reach ≤ header.payload → ⊥
lacks_by e bytes told size expected is lacks =
    subst (λ t. IfSome t (λ b. (header : Header) → IsObjectHeader b size expected header
    → (header.kind ≡ kinds.Checkpoint → ⊥) → e.reach ≤ header.payload → ⊥)) is lacks

told_bytes : (told : Option (List ℕ)) (bytes : List ℕ) → IsSome told → IfSome told (λ t. t ≡ bytes) → told ≡ Some bytes
told_bytes None bytes some is = cc
told_bytes (Some t) bytes some is = ap Some is

module _ (uuid : List ℕ) (geometry : Geometry) (chain : List Ancestor) (objects : Objects) where
  abbrev levels : ℕ → Option (List ℕ)
  levels = uuid_in_chain uuid chain

  -- an object that does not have what a place of rows names of it
  lacking_at : (its : List ℕ) (e : EarlierObject) (k : ℕ) (place : StoredPlace) → levels place.level ≡ Some its
      → place.number ≡ e.number → place.place + 1 ≡ e.reach → IsStoredThere its objects e → IsSome e.receipt.told
      → LacksReach (expected_of its geometry (length chain)) e → HasSectorAt objects levels place k → ⊥
  lacking_at its e k place of number_is reach there tells lacks holds =
      let volume = expected_of its geometry (length chain) in
      let told = told_bytes e.receipt.told there.0 tells there.2.told in
      let found_there : found objects (numbered_name its place.number) ≡ Some there.0 =
      ap (λ n. found objects (numbered_name its n)) number_is ∙ there.1 in
      let own_bytes = present volume objects levels place k of holds in
      let same : holds.has.bytes ≡ there.0 = cc in
      let whole : e.receipt.size ≡ length holds.has.bytes = there.2.size ∙ ap length (sym same) in
      let head = stands_alone volume objects levels place k of holds e.receipt.size whole in
      let head_named = subst (λ n. IsObjectHeader holds.has.bytes e.receipt.size (expected_alone volume n)
      holds.has.header) number_is head in
      lacks_by e holds.has.bytes e.receipt.told e.receipt.size (expected_alone volume e.number)
      (told ∙ ap Some (sym same)) lacks.1 holds.has.header head_named
      (no_checkpoint volume objects levels place k of holds)
      (omega (arith, holds.inside, reach))

  module _ (number : ℕ) (earlier : List EarlierObject) (rows : List (Extent StoredPlace))
      (stand : AllMayStand (expected_alone (expected_of uuid geometry (length chain)) number) rows)
      (all : AreAllEarlier uuid objects number earlier) where
    -- an object of the volume's own that the store does not have
    pub absent_missing : (named : ℕ) → NamesNone rows earlier named → IsMissing levels objects rows named
    absent_missing named none =
        let volume = expected_of uuid geometry (length chain) in
        let stands = place_stands (expected_alone volume number) rows none.k none.place stand none.row in
        let of : levels none.place.level ≡ Some uuid = ap levels none.own in
        record {
          k = none.k;
          place = none.place;
          row = none.row;
          named = none.named;
          inherited = λ further. absurd (omega (arith, further, none.own));
          not_there = λ holds.
              let there = present volume objects levels none.place none.k of holds in
              let some : IsSome (found objects (numbered_name uuid none.place.number)) =
              subst (λ o. IsSome o) (sym there) (search rules) in
              none.none (subst (HasEarlier earlier) none.named
              (all.complete none.place.number holds.numbered (stands.number none.own) some));
        }

    -- and one that does not have what rows name of it
    pub lacking_missing : (e : EarlierObject) → Contains earlier e → ReachedBy rows e → IsSome e.receipt.told
        → LacksReach (expected_of uuid geometry (length chain)) e → IsMissing levels objects rows e.number
    lacking_missing e at by tells lacks =
        let is = by lacks.0 in
        let there = All-contains (IsStoredThere uuid objects) earlier e all.stored at in
        record {
          k = is.0;
          place = is.1;
          row = is.2;
          named = is.4;
          inherited = λ further. absurd (omega (arith, further, is.3));
          not_there = lacking_at uuid e is.0 is.1 (ap levels is.3) is.4 is.5 there tells lacks;
        }

  -- so it is with one of an ancestor
  pub inherited_missing : (Tells : Type 0) (told : Option Objects) (rows : List (Extent StoredPlace)) (named : List Named)
      (number : ℕ) → told ≡ Some objects → Tells → AreNamedBy rows named → LacksAmong Tells geometry chain told named number
      → IsMissing levels objects rows number
  inherited_missing Tells told rows named number of_store tells names among =
      let n = among.named in
      let by = All-contains (ComesFrom rows) named n names.by among.among in
      let lacks = among.lacks in
      let e = found_as n lacks.receipt in
      let there = told_at told objects (λ o. IsStoredThere among.uuid o e) of_store lacks.found.stored in
      let of : levels by.place.level ≡ Some among.uuid = ap levels by.level ∙ among.of uuid in
      let some : IsSome (found objects (numbered_name among.uuid n.number)) =
      subst (λ o. IsSome o) (sym there.1) (search rules) in
      record {
        k = by.k;
        place = by.place;
        row = by.row;
        named = by.number ∙ among.number_is;
        inherited = λ further. (
          among.uuid,
          of,
          subst (λ m. IsSome (found objects (numbered_name among.uuid m))) (sym by.number) some,
        );
        not_there = lacking_at among.uuid e by.k by.place of by.number by.last there (lacks.found.tells tells) lacks.lacks;
      }
