-- The newest checkpoint of a store.
use Rattle.std.proofs.Common.{◌≡◌, ℕ, ◌+◌, ◌^◌, ◌<◌, inl, inr, Option, Some, None, List, length, refl, sym, ◌∙◌, ap}
use Rattle.std.proofs.Common.{subst, arith, rules}
use Rattle.std.specs.Prelude.{IfSome, slice_index_or}
use Rattle.std.specs.Option.{IsSome}
use Rattle.std.specs.List.{Contains}
use Rattle.std.specs.Ordering.{nat_cmp, ordering_then, ordering_reverse}
use Rattle.std.specs.Cmp.Lexicographic.{slice_cmp}
use Rattle.std.specs.declared.cmp.Ordering.{Ordering}
use Rattle.std.specs.declared.cmp.Ordering.TheVariants.{Less, Equal, Greater}
use Rattle.std.proofs.lemmas.Bool.{cases_lt}
use Rattle.std.proofs.lemmas.Bool.Decides.{nat_tests}
use Rattle.std.proofs.lemmas.Cmp.{nat_list_cmp_total}
use Rattle.std.proofs.lemmas.List.{get_or_default}
use Rattle.std.proofs.lemmas.Map.Keys.{Less-from_sorted}
use Rattle.lsvd_base.specs.declared.geometry.Geometry.{Geometry}
use Rattle.lsvd_names.specs.Spelling.{IsUuid}
use Rattle.lsvd_names.specs.declared.name.NameKind.TheVariants.{Object}
use Rattle.lsvd_names.specs.declared.name.ObjName.{ObjName}
use Rattle.lsvd_names.specs.Names.{numbered_name, hold_name}
use Rattle.lsvd_objstore.specs.Objects.{Objects, name_cmp, found, Lists}
use Rattle.lsvd_objstore.specs.Store.{ReceiptState, Finds}
use Rattle.extent_map.specs.declared.extent.Extent.{Extent}
use Rattle.object_format.specs.declared.expected.Expected.{Expected}
use Rattle.object_format.specs.declared.header.Header.{Header}
use Rattle.object_format.specs.declared.kind.Kind.TheVariants as kinds
use Rattle.object_format.specs.Header.{IsObjectHeader}
use Rattle.object_format.proofs.ObjectLemmas.{same_header}
use Rattle.ckpt_format.specs.declared.place.StoredPlace.{StoredPlace}
use Rattle.ckpt_format.specs.Checkpoint.{checkpoint_header, IsCheckpoint}
use Rattle.object_stream.specs.Stream.{Owners}
use Rattle.object_stream.specs.Replay.{object_name}
use Rattle.stopped_volume.specs.Expected.{expected_alone}
use Rattle.stopped_volume.specs.Opening.{IsCheckpointOf}
use Rattle.object_recovery.specs.Read.{AreFirstOf, IsReadHeader}
use Rattle.object_recovery.specs.Checkpoints.{expected_of, IsNoCheckpoint, ReadCheckpoint, IsStoredCheckpoint}
use Rattle.object_recovery.specs.Checkpoints.{IsCheckpointNamed, HasNoneFrom, IsNewest, MayBeCheckpoint}
use Rattle.object_recovery.proofs.ReadLemmas.{header_of_all}
use Rattle.object_recovery.proofs.FindLemmas.{of_told, numbered}

-- ---- by the bytes of an object

-- an object whose header is that of another kind is no checkpoint
pub other_kind : (receipt : ReceiptState) (expected : Expected) (bytes : List ℕ) (header : Header)
    → IsReadHeader receipt expected bytes header
    → (header.kind ≡ kinds.Checkpoint → ⊥) → MayBeCheckpoint receipt expected None
other_kind receipt expected bytes header is other = told_so receipt.told is.first
  where
    told_so : (told : Option (List ℕ)) → AreFirstOf told bytes
        → IfSome told (λ all. receipt.size ≡ length all → (end : ℕ) (rows : List (Extent StoredPlace))
        → IsCheckpoint all expected end rows → ⊥)
    told_so None first = tt
    told_so (Some all) first = λ whole end rows checkpoint.
        let another = checkpoint_header expected end (length rows) in
        let head = subst (λ n. IsObjectHeader all n expected another) (sym whole) checkpoint.head in
        let same = same_header all receipt.size expected header another
        (header_of_all all bytes first receipt.size expected header is.header_is) head in
        other (ap (λ (h : Header). h.kind) same)

-- bytes that are none are those of an object that is none
pub bytes_are_none : (receipt : ReceiptState) (expected : Expected) (bytes : List ℕ)
    → MayBeCheckpoint receipt expected (Some bytes)
    → ((end : ℕ) (rows : List (Extent StoredPlace)) → IsCheckpoint bytes expected end rows → ⊥)
    → MayBeCheckpoint receipt expected None
bytes_are_none receipt expected bytes may none = told_so receipt.told may.1
  where
    told_so : (told : Option (List ℕ)) → IfSome told (λ all. receipt.size ≡ length all → bytes ≡ all)
        → IfSome told (λ all. receipt.size ≡ length all → (end : ℕ) (rows : List (Extent StoredPlace))
        → IsCheckpoint all expected end rows → ⊥)
    told_so None is = tt
    told_so (Some all) is = λ whole end rows checkpoint.
        none end rows (subst (λ b. IsCheckpoint b expected end rows) (sym (is whole)) checkpoint)

-- ---- in a store

-- a receipt that was found has the name
pub found_name : (name : ObjName) (told : Option Objects) (receipt : ReceiptState) → Finds name told (Some receipt)
    → receipt.name ≡ name
found_name name None receipt finds = finds
found_name name (Some objects) receipt finds = finds.2.named

-- what the bytes of an object say is so of the store that has it
pub no_checkpoint_found : (told : Option Objects) (name : ObjName) (geometry : Geometry) (ancestors : ℕ) (receipt : ReceiptState)
    → name.kind ≡ Object → Finds name told (Some receipt) → IsSome receipt.told
    → MayBeCheckpoint receipt (expected_alone (expected_of name.uuid geometry ancestors) name.number) None
    → IfSome told (λ objects. IsCheckpointNamed geometry ancestors objects name None)
no_checkpoint_found None name geometry ancestors receipt kind finds some none = tt
no_checkpoint_found (Some objects) name geometry ancestors receipt kind finds some none = λ same_kind end owned checkpoint.
    let volume = expected_of name.uuid geometry ancestors in
    let expected = expected_alone volume name.number in
    let there : found objects (object_name volume name.number) ≡ Some finds.0 =
    ap (found objects) (sym (numbered name kind)) ∙ finds.1 in
    let same : checkpoint.bytes ≡ finds.0 = let present = checkpoint.present in cc in
    of_told (λ bytes size. size ≡ length bytes → (end : ℕ) (rows : List (Extent StoredPlace))
    → IsCheckpoint bytes expected end rows → ⊥) name finds.0 receipt finds.2 some none refl end checkpoint.rows
    (subst (λ b. IsCheckpoint b expected end checkpoint.rows) same checkpoint.is_checkpoint)

-- ---- among names

number_order : (a b : ℕ) → nat_cmp a b ≡ Less → a < b
number_order a b less = grind (arith, nat_tests)

self_reversed : (r : Ordering) → r ≡ ordering_reverse r → r ≡ Equal
self_reversed Less h = cc
self_reversed Equal h = refl
self_reversed Greater h = cc

same_uuid : (uuid : List ℕ) → slice_cmp nat_cmp uuid uuid ≡ Equal
same_uuid uuid = self_reversed (slice_cmp nat_cmp uuid uuid) (nat_list_cmp_total.antisymm uuid uuid)

-- numbered names of a volume are in the order of their numbers
pub name_order : (uuid : List ℕ) (a b : ℕ) → name_cmp (numbered_name uuid a) (numbered_name uuid b) ≡ Less → a < b
name_order uuid a b less = number_order a b (sym (ap (λ order. ordering_then order (nat_cmp a b)) (same_uuid uuid)) ∙ less)

-- so are those of holds
pub hold_order : (uuid : List ℕ) (a b : ℕ) → name_cmp (hold_name uuid a) (hold_name uuid b) ≡ Less → a < b
hold_order uuid a b less = number_order a b (sym (ap (λ order. ordering_then order (nat_cmp a b)) (same_uuid uuid)) ∙ less)

module _ (uuid : List ℕ) (geometry : Geometry) (ancestors : ℕ) (objects : Objects) (names : List ObjName) (is_uuid : IsUuid uuid)
    (listed : Lists uuid objects names) where
  abbrev volume : Expected
  volume = expected_of uuid geometry ancestors

  -- a checkpoint of the store is among the names of its objects
  is_listed : (number end : ℕ) (owned : Owners) → IsCheckpointOf volume objects number end owned
      → Contains names (object_name volume number)
  is_listed number end owned checkpoint =
      let fits : number < 2 ^ 64 = checkpoint.is_checkpoint.head.widths.number in
      let there : IsSome (found objects (object_name volume number)) =
      subst (λ o. IsSome o) (sym checkpoint.present) (search rules) in
      listed.complete (object_name volume number) (record { uuid = is_uuid; number = tt; fits = fits }) refl there

  -- and, where those from an index on have none, before that
  before_index : (index : ℕ) → HasNoneFrom geometry ancestors objects names index → (number end : ℕ) (owned : Owners)
      → IsCheckpointOf volume objects number end owned
      → (k : ℕ) × (k < index) × (k < length names)
      × (slice_index_or names k (object_name volume number) ≡ object_name volume number)
  before_index index none number end owned checkpoint =
      let at = is_listed number end owned checkpoint in
      elim (cases_lt at.0 index) [
        | inl low ↦ (at.0, low, at.1, at.2)
        | inr from ↦ absurd (none at.0 (object_name volume number) from at.1 at.2 refl end owned checkpoint)
      ]

  -- so none is newer than the one before them
  newest_at : (index : ℕ) (name : ObjName) → index < length names → slice_index_or names index name ≡ name → name.kind ≡ Object
      → name.uuid ≡ uuid
      → HasNoneFrom geometry ancestors objects names (index + 1) → IsNewest volume objects name.number
  newest_at index name inside at kind of_volume none other other_end owned checkpoint =
      let place = before_index (index + 1) none other other_end owned checkpoint in
      let here : name ≡ object_name volume name.number = numbered name kind ∙ ap (λ u. numbered_name u name.number) of_volume in
      elim (cases_lt place.0 index) [
        | inl low ↦
            let less = Less-from_sorted name_cmp names place.0 index name listed.ascending low inside in
            let first : slice_index_or names place.0 name ≡ object_name volume other =
            get_or_default names place.0 name (object_name volume other) place.2 ∙ place.3 in
            let order : name_cmp (object_name volume other) (object_name volume name.number) ≡ Less =
            ap (λ a. name_cmp a (object_name volume name.number)) (sym first)
            ∙ ap (name_cmp (slice_index_or names place.0 name)) (sym (at ∙ here)) ∙ less in
            omega (arith, name_order uuid other name.number order)
        | inr from ↦
            let same : place.0 ≡ index = omega (arith, place.1, from) in
            let one : object_name volume other ≡ name =
            sym place.3 ∙ ap (λ k. slice_index_or names k (object_name volume other)) same
            ∙ get_or_default names index (object_name volume other) name inside
            ∙ at in
            omega (arith, ap (λ (n : ObjName). n.number) one)
      ]

-- ---- where the store tells its objects

pub found_newest : (told : Option Objects) (geometry : Geometry) (ancestors : ℕ) (names : List ObjName) (index : ℕ)
    (name : ObjName)
    (checkpoint : ReadCheckpoint)
    → index < length names → slice_index_or names index name ≡ name
    → IfSome told (λ objects. HasNoneFrom geometry ancestors objects names (index + 1))
    → IfSome told (λ objects. IsCheckpointNamed geometry ancestors objects name (Some checkpoint))
    → IfSome told (λ objects. (uuid : List ℕ) → IsUuid uuid → Lists uuid objects names
    → IsStoredCheckpoint (expected_of uuid geometry ancestors) objects checkpoint
    × IsNewest (expected_of uuid geometry ancestors) objects checkpoint.number)
found_newest None geometry ancestors names index name checkpoint inside at none is = tt
found_newest (Some objects) geometry ancestors names index name checkpoint inside at none is = λ uuid is_uuid listed.
    let of_volume = (listed.present name (index, inside, at)).1 in (
      subst (λ u. IsStoredCheckpoint (expected_of u geometry ancestors) objects checkpoint) of_volume is.2,
      subst (IsNewest (expected_of uuid geometry ancestors) objects) (sym is.1)
          (newest_at uuid geometry ancestors objects names is_uuid listed index name inside at is.0 of_volume none),
    )

pub none_more : (told : Option Objects) (geometry : Geometry) (ancestors : ℕ) (names : List ObjName) (index : ℕ) (name : ObjName)
    → index < length names → slice_index_or names index name ≡ name
    → IfSome told (λ objects. HasNoneFrom geometry ancestors objects names (index + 1))
    → IfSome told (λ objects. IsCheckpointNamed geometry ancestors objects name None)
    → IfSome told (λ objects. HasNoneFrom geometry ancestors objects names index)
none_more None geometry ancestors names index name inside at none is = tt
none_more (Some objects) geometry ancestors names index name inside at none is = λ k other from within there.
    elim (cases_lt index k) [
      | inl past ↦ none k other (omega arith) within there
      | inr to ↦
          let same : k ≡ index = omega arith in
          let one : name ≡ other =
          sym at ∙ get_or_default names index name other inside ∙ ap (λ i. slice_index_or names i other) (sym same) ∙ there in
          subst (λ n. IsCheckpointNamed geometry ancestors objects n None) one is
    ]

pub found_none : (told : Option Objects) (geometry : Geometry) (ancestors : ℕ) (names : List ObjName)
    → IfSome told (λ objects. HasNoneFrom geometry ancestors objects names 0)
    → IfSome told (λ objects. (uuid : List ℕ) (number : ℕ) → IsUuid uuid → Lists uuid objects names
    → IsNoCheckpoint (expected_of uuid geometry ancestors) objects number)
found_none None geometry ancestors names none = tt
found_none (Some objects) geometry ancestors names none = λ uuid number is_uuid listed end owned checkpoint.
    absurd (omega (
      arith,
      (before_index uuid geometry ancestors objects names is_uuid listed 0 none number end owned
          checkpoint).1,
    ))
