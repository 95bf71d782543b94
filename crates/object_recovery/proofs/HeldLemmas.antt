-- What a list knows of the holds of a store once what they keep was marked.
use Rattle.std.proofs.Common.{◌≡◌, ℕ, ◌+◌, ◌^◌, ◌<◌, ◌≤◌, inl, inr, Bool, true, false, Option, Some, None, List, length, get_or}
use Rattle.std.proofs.Common.{refl, sym, ◌∙◌, ap, subst, arith}
use Rattle.std.specs.Prelude.{IsTrue, is_some, ◌↔◌, IfSome}
use Rattle.std.proofs.lemmas.Bool.{cases_lt, both_ways}
use Rattle.std.proofs.lemmas.List.{get_or_default}
use Rattle.std.proofs.lemmas.Map.Keys.{Less-from_sorted}
use Rattle.clone_chain.specs.declared.ancestor.Ancestor.{Ancestor}
use Rattle.lsvd_base.specs.declared.geometry.Geometry.{Geometry}
use Rattle.lsvd_base.specs.Image.{Image}
use Rattle.lsvd_names.specs.declared.name.NameKind.{NameKind}
use Rattle.lsvd_names.specs.declared.name.NameKind.TheVariants.{Hold}
use Rattle.lsvd_names.specs.declared.name.ObjName.{ObjName}
use Rattle.lsvd_names.specs.Names.{hold_name, numbered_name}
use Rattle.lsvd_names.specs.Spelling.{IsUuid}
use Rattle.lsvd_objstore.specs.Objects.{Objects, found, name_cmp, AreNamesOf, Lists}
use Rattle.object_format.specs.declared.expected.Expected.{Expected}
use Rattle.object_stream.specs.Stream.{Stream, is_own}
use Rattle.stopped_volume.specs.Ancestors.{uuid_in_chain}
use Rattle.stopped_volume.specs.Holds.{IsHeld, IsKept}
use Rattle.object_table.specs.declared.row.ObjectRow.{ObjectRow}
use Rattle.object_table.specs.Table.{row_of, held}
use Rattle.object_table.proofs.Listed.{found_holds}
use Rattle.object_uploads.specs.Order.{IsUploads}
use Rattle.object_uploads.proofs.PinsOf.{changes_keep_uploads}
use Rattle.obj_log.specs.State.{ObjLogState}
use Rattle.obj_log.specs.Changes.{expected_of_volume}
use Rattle.obj_log.proofs.StreamLemmas.{removals_keep_stream}
use Rattle.object_recovery.specs.declared.error.RecoverError.{RecoverError}
use Rattle.object_recovery.specs.declared.error.RecoverError.TheVariants as errors
use Rattle.object_recovery.specs.Checkpoints.{expected_of}
use Rattle.object_recovery.specs.Earlier.{IsAmongFirst}
use Rattle.object_recovery.specs.Holding.{IsMarked, MarksKept, IsHoldAmong, RefusesOrFails, RefusesAmong, RefusesHolds}
use Rattle.object_recovery.specs.Judging.{HaveLanded}
use Rattle.object_recovery.specs.Places.{HasPlacesInside}
use Rattle.object_recovery.specs.Recovery.{IsListUpTo, up_to_object, HasStreamTo, IsNoLonger, IsLastLanded, AreNamedWholePast}
use Rattle.object_recovery.specs.Recovery.{IsRecoveryRefused, RefusesNoStream}
use Rattle.object_recovery.specs.Recovering.{Recovers, RecoveredOf, IsHoldRefused, IsRefusedThere}
use Rattle.object_recovery.specs.Table.{HasTableUnheld, HasPayloadThere, KnowsObjects, KnowsHolds}
use Rattle.object_recovery.proofs.CheckpointLemmas.{hold_order}
use Rattle.object_recovery.proofs.FindLemmas.{told_so}
use Rattle.object_recovery.proofs.FinderLemmas.{one_more_among, still_among_first}
use Rattle.object_recovery.proofs.HoldingLemmas.{AreKeptBy, HaveCheckpoints, both_so, kept_more, kept_as}
use Rattle.object_recovery.proofs.MarkLemmas.{IsStill, marked_still, same_last, list_still, settled_still, places_still}
use Rattle.object_recovery.proofs.MarkLemmas.{table_still, row_still, row_now, held_in}
use Rattle.object_recovery.proofs.MarkLemmas.{was_marked, now_marked}
use Rattle.object_recovery.proofs.PlaceLemmas.{so_some, some_so}
use Rattle.object_recovery.proofs.RecoverLemmas.{hold_places}
use Rattle.object_recovery.proofs.RefusalLemmas.{volume_is, no_answer_refused}
use Rattle.object_recovery.proofs.TableLemmas.{same_presence}

-- ---- the list is as it was recovered

module _ (volume : Expected) (objects : Objects) (base : ℕ) (old new : ObjLogState) (batch : new.batch ≡ old.batch)
    (still : IsStill old.uploads new.uploads) where
  abbrev before : List ObjectRow
  before = old.uploads.queue.maps.objects.rows

  abbrev after : List ObjectRow
  after = new.uploads.queue.maps.objects.rows

  -- what holds of the row of a number, whatever its mark
  same_row : (P : ObjectRow → Type 0) → ((row : ObjectRow) (is_held : Bool) → P (record row { is_held = is_held }) → P row)
      → ((row : ObjectRow) → P row → P (record row { is_held = false })) → (n : ℕ)
      → IfSome (row_of n before) P → IfSome (row_of n after) P
  same_row P from to n was =
      so_some P (row_of n after) (λ row at.
      let other = row_still old new batch still n row at in
      from row false (subst P other.2 (to other.0 (some_so P (row_of n before) was other.0 other.1))))

  knows_still : KnowsObjects volume objects base old.uploads.queue → KnowsObjects volume objects base new.uploads.queue
  knows_still was = record {
    known = λ n some to.
        same_presence (row_of n after) (row_of n before)
        (λ row at. ap is_some (row_still old new batch still n row at).1) (λ row at. row_now old new batch still n row at)
        ∙ was.known n some (omega (arith, to, still.rest.frontier));
    unmapped = λ end owned checkpoint n.
        same_row (λ (row : ObjectRow). IsTrue row.is_unmapped ↔ ((n < base) × ((k : ℕ) → is_own n (owned k) ≡ false)))
        (λ row mark is. is) (λ row is. is) n (was.unmapped end owned checkpoint n);
    places = λ end owned checkpoint k place at low.
        was.places end owned checkpoint k place (sym (settled_still old new batch still k) ∙ at) low;
    payloads = λ k place at own.
        same_row (λ (row : ObjectRow). HasPayloadThere volume objects place.number row.payload) (λ row mark is. is)
        (λ row is. is) place.number (was.payloads k place (sym (settled_still old new batch still k) ∙ at) own);
  }

  stream_still : (opening : Image) (stream : Stream) (number : ℕ) → HasStreamTo opening stream number old
      → HasStreamTo opening stream number new
  stream_still opening stream number is = record {
    of_stream = λ data_at.
        removals_keep_stream data_at (up_to_object number stream) old new (is.of_stream data_at) still.rest batch;
    image = still.image.image _ is.image;
    receipts = still.image.receipts is.receipts;
  }

  last_is : old.uploads.window.last ≡ new.uploads.window.last
  last_is = sym (same_last old new batch still)

  pub recovers_still : (uuid_at : ℕ → Option (List ℕ)) (absent : Option (List ℕ))
      → Recovers volume uuid_at base objects old absent
      → Recovers volume uuid_at base objects new absent
  recovers_still uuid_at absent is = record {
    checkpoint = is.checkpoint;
    recovered = λ low.
        let was = is.recovered (omega (arith, low, last_is)) in
        record {
          streams = λ stream opening number has.
              let found = was.streams stream opening number has in
              record {
                number_is = sym last_is ∙ found.number_is;
                end_is = still.rest.end ∙ found.end_is;
                streams = stream_still opening stream number found.streams;
              };
          last = subst (IsLastLanded volume objects) last_is was.last;
        };
    no_longer = subst (IsNoLonger volume uuid_at objects) last_is is.no_longer;
    landed = subst (HaveLanded objects volume base) last_is is.landed;
    good = is.good;
    past = subst (AreNamedWholePast volume objects) last_is is.past;
    knows = knows_still is.knows;
    finds = is.finds;
  }

-- ---- names of holds, one by one

-- the name of a hold
hold_numbered : (name : ObjName) → name.kind ≡ Hold → name ≡ hold_name name.uuid name.number
hold_numbered name kind =
    ap (λ (k : NameKind). let other : ObjName = record { uuid = name.uuid; kind = k; number = name.number } in other) kind

module _ (uuid : List ℕ) (names : List ObjName) (index : ℕ) (name : ObjName) (inside : index < length names)
    (at : get_or names index name ≡ name) where
  pub hold_is : AreNamesOf uuid names → name.kind ≡ Hold
      → get_or names index (hold_name uuid name.number) ≡ hold_name uuid name.number
  hold_is names_of kind =
      get_or_default names index (hold_name uuid name.number) name inside ∙ at ∙ hold_numbered name kind
      ∙ ap (λ u. hold_name u name.number) (names_of.each name (index, inside, at)).1

  abbrev pub hold_at : AreNamesOf uuid names → name.kind ≡ Hold → IsHoldAmong uuid names name.number
  hold_at names_of kind = (index, inside, hold_is names_of kind)

  module _ (Tells : Type 0) (volume : Expected) (told : Option Objects) (old middle new : ObjLogState)
      (before : MarksKept Tells volume told (λ n. IsAmongFirst names index (hold_name uuid n)) old middle) where
    abbrev First : ℕ → Type 0
    First n = IsAmongFirst names index (hold_name uuid n)

    abbrev All : ℕ → Type 0
    All n = IsAmongFirst names (index + 1) (hold_name uuid n)

    still : (n : ℕ) → First n → All n
    still n = still_among_first names index (hold_name uuid n)

    -- one hold more
    pub next_held : AreNamesOf uuid names → name.kind ≡ Hold
        → MarksKept Tells volume told (λ checkpoint. checkpoint ≡ name.number) middle new
        → MarksKept Tells volume told All old new
    next_held names_of kind now =
        kept_more Tells volume told First (λ checkpoint. checkpoint ≡ name.number) All
        (λ n among. elim (one_more_among names index name (hold_name uuid n) inside at among) [
          | inl first ↦ inl first
          | inr same ↦ inr (sym (ap (λ (o : ObjName). o.number) same))
        ]) still
        (λ n same. subst All (sym same) (index, omega arith, inside, hold_is names_of kind)) old middle new before now

    -- another name
    pub next_other : (name.kind ≡ Hold → ⊥) → MarksKept Tells volume told All old middle
    next_other other =
        kept_as Tells volume told First All old middle still
        (λ n among. elim (one_more_among names index name (hold_name uuid n) inside at among) [
          | inl first ↦ first
          | inr same ↦ absurd (other (ap (λ (o : ObjName). o.kind) same))
        ]) before

-- all names
pub all_held : (uuid : List ℕ) (names : List ObjName) (index : ℕ) (Tells : Type 0) (volume : Expected) (told : Option Objects)
    (old new : ObjLogState)
    → length names ≤ index → MarksKept Tells volume told (λ n. IsAmongFirst names index (hold_name uuid n)) old new
    → MarksKept Tells volume told (IsHoldAmong uuid names) old new
all_held uuid names index Tells volume told old new all marks =
    kept_as Tells volume told (λ n. IsAmongFirst names index (hold_name uuid n)) (IsHoldAmong uuid names) old new
    (λ n among. (among.0, among.2, among.3)) (λ n among. (among.0, omega (arith, all, among.1), among.1, among.2)) marks

-- why the hold with a name is refused
pub refused_among : (names : List ObjName) (number : ℕ) (volume : Expected) (told : Option Objects) (error : RecoverError)
    → (among : IsHoldAmong volume.uuid names number)
    → IfSome told (HaveCheckpoints volume (λ n. IsAmongFirst names among.0 (hold_name volume.uuid n)))
    → IfSome told (λ objects. RefusesOrFails volume objects number error)
    → IfSome told (λ objects. RefusesHolds volume objects names error)
refused_among names number volume told error among have refuses =
    both_so (HaveCheckpoints volume (λ n. IsAmongFirst names among.0 (hold_name volume.uuid n)))
    (λ objects. RefusesOrFails volume objects number error) (λ objects. RefusesHolds volume objects names error) told
    by_case have refuses
  where
    by_case : (objects : Objects) → HaveCheckpoints volume (λ n. IsAmongFirst names among.0 (hold_name volume.uuid n)) objects
        → RefusesOrFails volume objects number error → RefusesHolds volume objects names error
    by_case objects there (inl none) = inl none
    by_case objects there (inr is) = inr (record { number = number; among = among; before = there; refuses = is })

-- ---- names of holds

module _ (uuid : List ℕ) (geometry : Geometry) (ancestors : ℕ) (objects : Objects) (names : List ObjName)
    (is_uuid : IsUuid uuid) (listed : Lists uuid objects names) where
  abbrev volume_of : Expected
  volume_of = expected_of uuid geometry ancestors

  held_listed : (n : ℕ) → IsHeld volume_of objects n → IsHoldAmong uuid names n
  held_listed n is =
      listed.complete (hold_name uuid n) (record { uuid = is_uuid; number = tt; fits = is.named }) refl is.present

  listed_held : (n : ℕ) → IsHoldAmong uuid names n → IsHeld volume_of objects n
  listed_held n among =
      let there = listed.present (hold_name uuid n) among in
      record { named = there.0.fits; present = there.2 }

  -- ---- which hold is refused

  -- a hold on a lower number has an earlier name
  is_before : (number other : ℕ) (among : IsHoldAmong uuid names number) (lower : IsHoldAmong uuid names other)
      → other < number → lower.0 < among.0
  is_before number other among lower low =
      elim (cases_lt lower.0 among.0) [
        | inl first ↦ first
        | inr from ↦
            elim (cases_lt among.0 lower.0) [
              | inl past ↦
                  let d = hold_name uuid number in
                  let order = Less-from_sorted name_cmp names among.0 lower.0 d listed.ascending past lower.1 in
                  let later : get_or names lower.0 d ≡ hold_name uuid other =
                  get_or_default names lower.0 d (hold_name uuid other) lower.1 ∙ lower.2 in
                  let less = ap (λ a. name_cmp a (hold_name uuid other)) (sym among.2)
                  ∙ ap (name_cmp (get_or names among.0 d)) (sym later) ∙ order in
                  absurd (omega (arith, low, hold_order uuid number other less))
              | inr to ↦
                  let same : lower.0 ≡ among.0 = omega (arith, from, to) in
                  let one : hold_name uuid other ≡ hold_name uuid number =
                  sym lower.2 ∙ get_or_default names lower.0 (hold_name uuid other) (hold_name uuid number) lower.1
                  ∙ ap (λ k. get_or names k (hold_name uuid number)) same
                  ∙ among.2 in
                  absurd (omega (arith, low, ap (λ (n : ObjName). n.number) one))
            ]
      ]

  hold_refused : (uuid_at : ℕ → Option (List ℕ)) (base : ℕ) (log : ObjLogState) (absent : Option (List ℕ)) (error : RecoverError)
      → Recovers volume_of uuid_at base objects log absent → RefusesAmong volume_of objects names error
      → IsHoldRefused volume_of uuid_at objects error
  hold_refused uuid_at base log absent error recovers is = record {
    base = base;
    log = log;
    absent = absent;
    recovers = recovers;
    number = is.number;
    is_held = listed_held is.number is.among;
    lower = λ other low held.
        let among = held_listed other held in
        is.before other (among.0, is_before is.number other is.among among low, among.1, among.2);
    refuses = is.refuses;
  }

  pub refused_there : (uuid_at : ℕ → Option (List ℕ)) (base : ℕ) (log : ObjLogState) (absent : Option (List ℕ))
      (error : RecoverError)
      → Recovers volume_of uuid_at base objects log absent → RefusesHolds volume_of objects names error
      → IsRefusedThere volume_of uuid_at objects error
  refused_there uuid_at base log absent error recovers (inl none) =
      inl (no_answer_refused volume_of uuid_at objects error none)
  refused_there uuid_at base log absent error recovers (inr is) =
      inr (inl (hold_refused uuid_at base log absent error recovers is))

  -- ---- an object that an ancestor lacks

  -- no stream of the store names it
  base_no_stream : (uuid_at : ℕ → Option (List ℕ)) (base : ℕ) (log : ObjLogState) (lacks : List ℕ) → geometry.sectors < 2 ^ 64
      → Recovers volume_of uuid_at base objects log (Some lacks)
      → RefusesNoStream volume_of uuid_at objects (errors.BaseMissing lacks)
  base_no_stream uuid_at base log lacks wide recovers stream opening number has is =
      let newest = recovers.checkpoint.1 in
      let missing = (recovers.finds recovers.checkpoint.0 newest.owned newest.is).missing in
      let hold = hold_places volume_of objects base recovers.checkpoint.0 wide newest uuid_at stream opening number has in
      let sector = (hold missing.k missing.place missing.row).has in
      let same : Some sector.expected.uuid ≡ Some lacks = sym sector.level ∙ missing.of in
      let uuids : sector.expected.uuid ≡ lacks = cc in
      let there : found objects (numbered_name lacks missing.place.number) ≡ Some sector.bytes =
      ap (λ (u : List ℕ). found objects (numbered_name u missing.place.number)) (sym uuids) ∙ sector.present in
      let none = missing.absent in
      absurd cc

  pub base_refused : (uuid_at : ℕ → Option (List ℕ)) (base : ℕ) (log : ObjLogState) (lacks : List ℕ) → geometry.sectors < 2 ^ 64
      → Recovers volume_of uuid_at base objects log (Some lacks) → HaveCheckpoints volume_of (IsHoldAmong uuid names) objects
      → IsRefusedThere volume_of uuid_at objects (errors.BaseMissing lacks)
  base_refused uuid_at base log lacks wide recovers have = inr (inr (record {
    base = base;
    log = log;
    uuid = lacks;
    recovers = recovers;
    holds = λ n held. have n (held_listed n held);
    is = refl;
    no_stream = base_no_stream uuid_at base log lacks wide recovers;
  }))

  -- ---- what the table knows

  module _ (checkpoint : ℕ) (old new : ObjLogState) (numbers : List ℕ) (marked : IsMarked numbers old new)
      (table : HasTableUnheld checkpoint old.uploads.queue)
      (have : HaveCheckpoints volume_of (IsHoldAmong uuid names) objects)
      (kept : AreKeptBy volume_of (IsHoldAmong uuid names) numbers objects) where
    abbrev rows_before : List ObjectRow
    rows_before = old.uploads.queue.maps.objects.rows

    abbrev rows_after : List ObjectRow
    rows_after = new.uploads.queue.maps.objects.rows

    row_before : (n : ℕ) (row : ObjectRow) → row_of n rows_after ≡ Some row
        → (other : ObjectRow) × (row_of n rows_before ≡ Some other)
    row_before n row at =
        let was = row_still old new marked.batch (marked_still numbers old new marked) n row at in (was.0, was.1)

    not_before : (n : ℕ) (row : ObjectRow) → row_of n rows_before ≡ Some row → held_in (row_of n rows_before) ≡ true → ⊥
    not_before n row at is =
        both_ways row.is_held (found_holds (λ (r : ObjectRow). r.is_held ≡ false) n rows_before row at table.unheld)
        (ap held_in (sym at) ∙ is)

    says : (n : ℕ) (row : ObjectRow) → row_of n rows_after ≡ Some row → IsTrue row.is_held ↔ IsKept volume_of objects n
    says n row at =
        let was = row_before n row at in (
          λ held. elim (was_marked numbers old.uploads new.uploads marked.marks n (ap held_in at ∙ held)) [
            | inl before ↦ absurd (not_before n was.0 was.1 before)
            | inr among ↦ let by = (kept n).0 among in (by.0, listed_held by.0 by.1, by.2)
          ],
          λ is.
              ap held_in (sym at)
              ∙ now_marked numbers old.uploads new.uploads marked.marks n (ap is_some was.1)
              (inr ((kept n).1 (is.0, held_listed is.0 is.1, is.2))),
        )

    pub knows_holds : KnowsHolds volume_of objects new.uploads.queue
    knows_holds = record {
      checkpoints = λ n is. have n (held_listed n is);
      says = λ n. so_some (λ (row : ObjectRow). IsTrue row.is_held ↔ IsKept volume_of objects n) (row_of n rows_after) (says n);
    }

-- ---- where the store tells its objects

-- the objects are refused before any hold is
pub told_refused_first : (told : Option Objects) (volume : Expected) (uuid_at : ℕ → Option (List ℕ)) (error : RecoverError)
    → IfSome told (λ objects. IsRecoveryRefused volume uuid_at objects error)
    → IfSome told (λ objects. IsRefusedThere volume uuid_at objects error)
told_refused_first told volume uuid_at error refused =
    told_so (λ objects. IsRecoveryRefused volume uuid_at objects error) (λ objects. IsRefusedThere volume uuid_at objects error)
    told (λ objects is. inl is) refused

module _ (Tells : Type 0) (uuid : List ℕ) (geometry : Geometry) (chain : List Ancestor) (told : Option Objects)
    (names : List ObjName) (base : ℕ) (log : ObjLogState) (absent : Option (List ℕ)) (is_uuid : IsUuid uuid)
    (lists : IfSome told (λ objects. Lists uuid objects names))
    (list : IsListUpTo uuid geometry (length chain) log.uploads.window.last log.uploads.queue.end log)
    (recovers : Tells → IfSome told (λ objects.
    Recovers (expected_of uuid geometry (length chain)) (uuid_in_chain uuid chain) base objects log absent)) where
  abbrev volume_is_this : Expected
  volume_is_this = expected_of uuid geometry (length chain)

  abbrev uuid_of : ℕ → Option (List ℕ)
  uuid_of = uuid_in_chain uuid chain

  same_volume : expected_of_volume log ≡ volume_is_this
  same_volume = volume_is uuid geometry (length chain) log.uploads.window.last log.uploads.queue.end log list

  listed_and_recovered : Tells
      → IfSome told (λ objects. Lists uuid objects names × Recovers volume_is_this uuid_of base objects log absent)
  listed_and_recovered tells =
      both_so (λ objects. Lists uuid objects names) (λ objects. Recovers volume_is_this uuid_of base objects log absent)
      (λ objects. Lists uuid objects names × Recovers volume_is_this uuid_of base objects log absent) told
      (λ objects a b. (a, b)) lists (recovers tells)

  -- the checkpoint of a hold is refused
  pub told_refused_there : (error : RecoverError) → Tells
      → IfSome told (λ objects. RefusesHolds (expected_of_volume log) objects names error)
      → IfSome told (λ objects. IsRefusedThere volume_is_this uuid_of objects error)
  told_refused_there error tells refuses =
      both_so (λ objects. Lists uuid objects names × Recovers volume_is_this uuid_of base objects log absent)
      (λ objects. RefusesHolds volume_is_this objects names error)
      (λ objects. IsRefusedThere volume_is_this uuid_of objects error) told
      (λ objects both is.
      refused_there uuid geometry (length chain) objects names is_uuid both.0 uuid_of base log absent error both.1 is)
      (listed_and_recovered tells)
      (subst (λ v. IfSome told (λ objects. RefusesHolds v objects names error)) same_volume refuses)

  module _ (new : ObjLogState) (table : HasTableUnheld base log.uploads.queue)
      (marks : MarksKept Tells (expected_of_volume log) told (IsHoldAmong log.uploads.uuid names) log new) where
    abbrev marked : IsMarked marks.numbers log new
    marked = marks.marked

    still_there : IsStill log.uploads new.uploads
    still_there = marked_still marks.numbers log new marked

    marks_here : MarksKept Tells volume_is_this told (IsHoldAmong uuid names) log new
    marks_here =
        subst (λ u. MarksKept Tells volume_is_this told (IsHoldAmong u names) log new) list.uuid_is
        (subst (λ v. MarksKept Tells v told (IsHoldAmong log.uploads.uuid names) log new) same_volume marks)

    holds_told : Tells → IfSome told (λ objects. KnowsHolds volume_is_this objects new.uploads.queue)
    holds_told tells =
        both_so (λ objects. Lists uuid objects names × HaveCheckpoints volume_is_this (IsHoldAmong uuid names) objects)
        (AreKeptBy volume_is_this (IsHoldAmong uuid names) marks_here.numbers)
        (λ objects. KnowsHolds volume_is_this objects new.uploads.queue) told
        (λ objects both kept.
        knows_holds uuid geometry (length chain) objects names is_uuid both.0 base log new marks_here.numbers marks_here.marked
        table both.1 kept)
        (both_so (λ objects. Lists uuid objects names) (HaveCheckpoints volume_is_this (IsHoldAmong uuid names))
        (λ objects. Lists uuid objects names × HaveCheckpoints volume_is_this (IsHoldAmong uuid names) objects) told
        (λ objects a b. (a, b)) lists (marks_here.checkpoints tells)) (marks_here.kept tells)

    recovers_told : Tells → IfSome told (λ objects. Recovers volume_is_this uuid_of base objects new absent)
    recovers_told tells =
        told_so (λ objects. Recovers volume_is_this uuid_of base objects log absent)
        (λ objects. Recovers volume_is_this uuid_of base objects new absent) told
        (λ objects is. recovers_still volume_is_this objects base log new marked.batch still_there uuid_of absent is)
        (recovers tells)

    -- an ancestor lacks an object that the checkpoint maps
    pub told_base_missing : (lacks : List ℕ) → absent ≡ Some lacks → geometry.sectors < 2 ^ 64 → Tells
        → IfSome told (λ objects. IsRefusedThere volume_is_this uuid_of objects (errors.BaseMissing lacks))
    told_base_missing lacks is wide tells =
        both_so (λ objects. Lists uuid objects names × Recovers volume_is_this uuid_of base objects log absent)
        (HaveCheckpoints volume_is_this (IsHoldAmong uuid names))
        (λ objects. IsRefusedThere volume_is_this uuid_of objects (errors.BaseMissing lacks)) told
        (λ objects both have.
        base_refused uuid geometry (length chain) objects names is_uuid both.0 uuid_of base log lacks wide
        (subst (Recovers volume_is_this uuid_of base objects log) is both.1) have)
        (listed_and_recovered tells) (marks_here.checkpoints tells)

    -- the list was recovered, and what holds keep is marked
    pub recovered_with_holds : absent ≡ None → AreNamesOf uuid names → base ≤ log.uploads.window.last → IsUploads log.uploads
        → HasPlacesInside geometry.sectors log.uploads.queue
        → RecoveredOf Tells uuid geometry chain told (record { log = new; checkpoint = base; names = names })
    recovered_with_holds whole names_of from order places =
        let own : uuid ≡ new.uploads.uuid = sym (still_there.rest.uuid ∙ list.uuid_is) in
        record {
          list = list_still log new marked.batch still_there uuid geometry (length chain) list;
          from = subst (λ n. base ≤ n) (sym (same_last log new marked.batch still_there)) from;
          order = changes_keep_uploads held marks.numbers log.uploads new.uploads order marked.marks;
          places = places_still log new marked.batch still_there geometry.sectors places;
          table = table_still log new marked.batch still_there base table.table;
          names = record {
            of_volume = subst (λ u. AreNamesOf u names) own names_of;
            listed = subst (λ u. IfSome told (λ objects. Lists u objects names)) own lists;
          };
          holds = holds_told;
          told = λ tells.
              subst (λ a. IfSome told (λ objects. Recovers volume_is_this uuid_of base objects new a)) whole
              (recovers_told tells);
        }
