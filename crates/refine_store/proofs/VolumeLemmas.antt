-- What a mount finds of a plain volume is what the store has after a stop: it opens at the newest checkpoint that is there.
use Rattle.std.proofs.Common.{option_map, ◌≡◌, ℕ, ◌+◌, ◌-◌, ◌<◌, ◌≤◌, ◌==◌, ◌⊎◌, inl, inr, Bool, true, false, not}
use Rattle.std.proofs.Common.{◌&&◌, ◌||◌, nat_lt, nat_le}
use Rattle.std.proofs.Common.{Option, Some, None, is_some, List, ◌∷◌, length, take, get_or, refl, sym, ◌∙◌, ap, subst, arith}
use Rattle.std.specs.Prelude.{IsTrue}
use Rattle.std.specs.List.{All, slice_get}
use Rattle.std.proofs.lemmas.Bool.{cases_lt}
use Rattle.std.proofs.lemmas.Bool.Decides.{nat_tests}
use Rattle.std.proofs.lemmas.List.{length-take}
use Rattle.std.proofs.lemmas.List.Elements.{All-weaker}
use Rattle.std.proofs.lemmas.Option.{slice_get-get_or}
use mathlib.Core.Path.{fun_ext}
use Rattle.lsvd_base.specs.declared.entry.Entry.{Entry}
use Rattle.lsvd_base.specs.Laws.{EndsBy}
use Rattle.lsvd_base.specs.Range.{is_in_range}
use Rattle.lsvd_names.specs.Names.{numbered_name}
use Rattle.lsvd_objstore.specs.Objects.{Objects, found}
use Rattle.object_format.specs.declared.expected.Expected.{Expected}
use Rattle.object_format.specs.declared.rows.Rows.{Rows}
use Rattle.object_format.specs.declared.rows.Rows.TheVariants as rows_of
use Rattle.ckpt_format.specs.Checkpoint.{IsCheckpoint}
use Rattle.object_stream.specs.declared.object.CopiedSector.{CopiedSector}
use Rattle.object_stream.specs.declared.object.Content.{Content}
use Rattle.object_stream.specs.declared.object.Content.TheVariants.{Data, Copy, Checkpoint}
use Rattle.object_stream.specs.declared.object.StreamObject.{StreamObject}
use Rattle.object_stream.specs.declared.owner.Owner.{Owner}
use Rattle.object_stream.specs.Landed.{Numbers, IsFirstMissing}
use Rattle.object_stream.specs.Replay.{object_name, expected_at}
use Rattle.object_stream.specs.Stored.{HasContent, IsObjectStored}
use Rattle.object_stream.specs.Stream.{Stream, Owners, owners, is_own, source_in, objects_to, after_objects, end_after, end_at}
use Rattle.object_stream.specs.Stream.{last_number, entries_in_object}
use Rattle.object_stream.specs.Value.{sector_in, HasSector, StandsForSector, IsValue}
use Rattle.object_stream.proofs.OneLemmas.{one_sector}
use Rattle.object_uploads.specs.declared.rows.SealedRows.{SealedRows}
use Rattle.object_uploads.specs.Checkpoint.{mapped_place}
use Rattle.object_uploads.specs.Stream.{HoldsContent}
use Rattle.stopped_volume.specs.Expected.{expected_alone}
use Rattle.stopped_volume.specs.Objects.{landed_in, AreCheckpoints}
use Rattle.stopped_volume.specs.Opening.{IsCheckpointOf, HasOpening}
use Rattle.stopped_volume.specs.Laws.{HasStreamUpTo}
use Rattle.refine_mount.specs.Found.{expected_for}
use Rattle.plain_disk.specs.State.{PlainState, stream_in, history_length, payload_of}
use Rattle.plain_disk.specs.Checkpoints.{landed_checkpoint}
use Rattle.plain_disk.specs.Found.{found_in, Finds, HasFoundStream, IsOwnPast}
use Rattle.plain_disk.specs.Removals.{has, absent_of}
use Rattle.plain_disk.specs.Stops.{recovered_number, found_by}
use Rattle.plain_disk.specs.Valid.{IsPlainVolume}
use Rattle.plain_disk.proofs.EndLemmas.{ends_within}
use Rattle.plain_disk.proofs.FoldLemmas.{payloads_of_fold}
use Rattle.plain_disk.proofs.FoundLemmas.{found_is, found_has_present, whole_may_fold}
use Rattle.plain_disk.proofs.FoundStreamLemmas.{found_has_stream}
use Rattle.plain_disk.proofs.OpeningLemmas.{owners_are_past}
use Rattle.plain_disk.proofs.Overlaid.{EndsBy-in_range, sectors_limit}
use Rattle.plain_disk.proofs.StopLemmas.{recovers_sealed}
use Rattle.object_recovery.specs.Table.{HasPayloadThere}
use Rattle.refine_mount.specs.Found.{HasObjects}
use Rattle.refine_mount.proofs.CutPayloads.{payload_of_cut}
use Rattle.refine_store.specs.Puts.{image_up_to, HasSourceSectors, IsLaterObject, IsObjectOf}
use Rattle.refine_store.specs.Stored.{HasVolumeUpTo}
use Rattle.refine_store.specs.Laws.{VolumeHasObjects}
use Rattle.refine_store.proofs.BaseLemmas.{IsPlainCheckpointAt, opening_is_checkpoint, later_is_checkpoint, HasBase}
use Rattle.refine_store.proofs.BaseLemmas.{has_base}
use Rattle.refine_store.proofs.DataLemmas.{AreContentRows, sectors_of_content, copy_sector, checkpoint_or, no_sectors}
use Rattle.refine_store.proofs.NewestLemmas.{base_from, no_newer, none_past, landed_past}
use Rattle.refine_store.proofs.ObjectLemmas.{get_of_first, entries_at}
use Rattle.refine_store.proofs.OwnerLemmas.{uuid_at, own_sector, stands_for, hold_places}
use Rattle.refine_store.proofs.PayloadLemmas.{object_payload}
use Rattle.refine_store.proofs.PlaceLemmas.{sector_of_copy_inside}
use Rattle.refine_store.proofs.StoredLemmas.{IsStoredAt, stored_by_each, get_within, end_before, entries_there}
use Rattle.refine_store.proofs.ValueLemmas.{OwnsBy, owns_at, long_image, owner_of}

-- ---- tests

abbrev is_kind : Content → Bool
is_kind Data = false
is_kind (Copy pairs) = false
is_kind Checkpoint = true

abbrev is_checkpoint : Option StreamObject → Bool
is_checkpoint None = false
is_checkpoint (Some object) = is_kind object.content

kind_is : (content : Content) → is_kind content ≡ true → content ≡ Checkpoint
kind_is Data is = absurd (cc)
kind_is (Copy pairs) is = absurd (cc)
kind_is Checkpoint is = refl

both_hold : (a b : Bool) → (a && b) ≡ true → (a ≡ true) × (b ≡ true)
both_hold true b is = (refl, is)
both_hold false b is = absurd (cc)

and_both : (a b : Bool) → a ≡ true → b ≡ true → (a && b) ≡ true
and_both a b is other = ap (λ c. c && b) is ∙ other

either_holds : (a b : Bool) (Result : Type 0) → (a || b) ≡ true → (a ≡ true → Result) → (b ≡ true → Result) → Result
either_holds true b Result is first second = first refl
either_holds false b Result is first second = second is

or_second : (a b : Bool) → b ≡ true → (a || b) ≡ true
or_second true b is = refl
or_second false b is = is

same_test : (a b : ℕ) → (a == b) ≡ true → a ≡ b
same_test a b is = grind (arith, nat_tests)

test_same : (a b : ℕ) → a ≡ b → (a == b) ≡ true
test_same a b is = grind (arith, nat_tests)

most_test : (a b : ℕ) → nat_le a b ≡ true → a ≤ b
most_test a b is = grind (arith, nat_tests)

test_most : (a b : ℕ) → a ≤ b → nat_le a b ≡ true
test_most a b is = grind (arith, nat_tests)

past_test : (a b : ℕ) → nat_lt a b ≡ true → a < b
past_test a b is = grind (arith, nat_tests)

test_past : (a b : ℕ) → a < b → nat_lt a b ≡ true
test_past a b is = grind (arith, nat_tests)

-- the object at an index
object_there : (found_there : Option StreamObject) → is_checkpoint found_there ≡ true
    → (object : StreamObject) × (found_there ≡ Some object) × (object.content ≡ Checkpoint)
object_there None is = absurd (cc)
object_there (Some object) is = (object, refl, kind_is object.content is)

module _ (uuid : List ℕ) (epoch : ℕ) (plain : PlainState) (landed : Numbers) (objects : Objects) (valid : IsPlainVolume plain)
    (has_it : HasVolumeUpTo uuid epoch plain landed objects) where
  abbrev volume : Expected
  volume = expected_for uuid plain

  abbrev stream : Stream
  stream = stream_in plain

  abbrev base : ℕ
  base = (landed_checkpoint landed plain).number

  abbrev number : ℕ
  number = recovered_number landed plain

  -- what a mount finds
  abbrev there : PlainState
  there = found_in landed plain

  from : (plain.number ≡ 1) × (0 < base) × (plain.checkpoint.number ≤ base) × (base ≤ number)
  from = base_from plain landed valid has_it.opens has_it.seals has_it.may

  finds : Finds landed plain
  finds = record { valid = valid; may = has_it.may; opened = omega (arith, has_it.opens.number, valid.checkpoint.numbered) }

  has_stream : HasFoundStream landed plain
  has_stream = found_has_stream plain landed finds

  there_valid : IsPlainVolume there
  there_valid = found_is plain landed finds

  abbrev ObjectThere : ℕ → Type 0
  ObjectThere n = (bytes : List ℕ) × (found objects (object_name volume n) ≡ Some bytes) × IsObjectOf volume plain n bytes

  -- ---- which objects are there

  landed_there : (n : ℕ) → 0 < n → n ≤ number → landed_in objects volume n ≡ landed n
  landed_there n some most =
      elim (landed n) as (λ b. landed n ≡ b → landed_in objects volume n ≡ b) [
        | true ↦ λ is. ap is_some (has_it.there n some most is).1
        | false ↦ λ is. ap is_some (has_it.absent n some most is)
      ] refl

  present : (n : ℕ) → 1 ≤ n → n ≤ number → landed_in objects volume n ≡ not (has (absent_of landed plain.given_out) n)
  present n some most = landed_there n some most ∙ found_has_present plain landed n valid has_it.may some most

  -- ---- the checkpoints

  -- the plain volume has a checkpoint under a number
  abbrev marks : ℕ → Bool
  marks n = (n == plain.number)
      || (nat_lt plain.number n && is_checkpoint (slice_get plain.objects (n - (plain.number + 1))))

  abbrev checkpoint : Numbers
  checkpoint n = landed n && (nat_le n number && marks n)

  -- what its test tells
  record IsCheckpointThere (n : ℕ) : Type 0 where
    some : 0 < n
    most : n ≤ number
    there_is : IsTrue (landed n)
    kind : (n ≡ plain.number) ⊎ ((object : StreamObject) × (plain.number < n)
        × (slice_get plain.objects (n - (plain.number + 1)) ≡ Some object) × (object.content ≡ Checkpoint))

  told : (n : ℕ) → checkpoint n ≡ true → IsCheckpointThere n
  told n is =
      let both = both_hold (landed n) (nat_le n number && marks n) is in
      let rest = both_hold (nat_le n number) (marks n) both.1 in
      let later = slice_get plain.objects (n - (plain.number + 1)) in
      let opens = from in
      either_holds (n == plain.number) (nat_lt plain.number n && is_checkpoint later) (IsCheckpointThere n) rest.1
      (λ same. record {
        some = omega (arith, opens.0, same_test n plain.number same);
        most = most_test n number rest.0;
        there_is = both.0;
        kind = inl (same_test n plain.number same);
      })
      (λ after.
      let past = both_hold (nat_lt plain.number n) (is_checkpoint later) after in
      let object = object_there later past.1 in
      record {
        some = omega (arith, past_test plain.number n past.0);
        most = most_test n number rest.0;
        there_is = both.0;
        kind = inr (object.0, past_test plain.number n past.0, object.1, object.2);
      })

  -- the object under the number of a checkpoint is one
  kind_there : (n : ℕ) (bytes : List ℕ) → IsCheckpointThere n → (is : IsLaterObject volume plain n bytes)
      → is.object.content ≡ Checkpoint
  kind_there n bytes one is = elim one.kind [
    | inl same ↦ absurd (omega (arith, same, is.past))
    | inr later ↦
        let same : later.0 ≡ is.object = let e = sym later.2 ∙ is.there in cc in
        sym (ap (λ (o : StreamObject). o.content) same) ∙ later.3
  ]

  most_sealed : (n : ℕ) → n ≤ number → n ≤ last_number stream
  most_sealed n most = omega (arith, most, recovers_sealed plain landed valid)

  plain_checkpoint : (n : ℕ) → IsCheckpointThere n → (object : ObjectThere n) → IsPlainCheckpointAt volume plain n object.0
  plain_checkpoint n one object = elim object.2 [
    | inl first ↦ opening_is_checkpoint volume plain n object.0 has_it.opens first
    | inr is ↦ later_is_checkpoint volume plain n object.0 valid (most_sealed n one.most) is (kind_there n object.0 one is)
  ]

  is_there : (n : ℕ) → checkpoint n ≡ true → (end : ℕ) × (owned : Owners) × IsCheckpointOf volume objects n end owned
  is_there n is =
      let one = told n is in
      let object = has_it.there n one.some one.most one.there_is in
      let it = plain_checkpoint n one object in (
        end_at stream n,
        owners stream n,
        record {
          bytes = object.0;
          present = object.1;
          rows = it.rows;
          is_checkpoint = it.is_checkpoint;
          says = it.says;
        },
      )

  -- a checkpoint that is there is one of the plain volume
  number_of : (n end : ℕ) (owned : Owners) → IsCheckpointOf volume objects n end owned → (0 < n) × (n ≤ number)
  number_of n end owned is = (
    elim (cases_lt 0 n) [
      | inl some ↦ some
      | inr none ↦
          let zero : 0 ≡ n = omega (arith, none) in
          let absent : found objects (object_name volume n) ≡ None =
          subst (λ m. found objects (object_name volume m) ≡ None) zero has_it.none_first in
          absurd (let e = is.present in cc)
    ],
    elim (cases_lt number n) [
      | inl past ↦ absurd (has_it.no_checkpoint n end owned past is)
      | inr most ↦ most
    ],
  )

  kind_by : (n end : ℕ) (owned : Owners) (object : ObjectThere n) → IsCheckpointOf volume objects n end owned → marks n ≡ true
  kind_by n end owned object is = elim object.2 [
    | inl first ↦
        ap (λ b. b || (nat_lt plain.number n && is_checkpoint (slice_get plain.objects (n - (plain.number + 1)))))
        (test_same n plain.number first.first)
    | inr later ↦
        or_second (n == plain.number) (nat_lt plain.number n && is_checkpoint (slice_get plain.objects (n - (plain.number + 1))))
        (and_both (nat_lt plain.number n) (is_checkpoint (slice_get plain.objects (n - (plain.number + 1))))
        (test_past plain.number n later.past)
        (ap is_checkpoint later.there
        ∙ checkpoint_or later.object.content (is_kind later.object.content ≡ true) (λ kind. ap is_kind kind)
        (λ not_so.
        let has = sectors_of_content stream (expected_at volume n (end_at stream (n - 1))) later.object.content
        (entries_in_object stream n) (owners stream (n - 1)) later.object.end object.0 later.rows not_so later.holds in
        absurd (no_sectors volume objects n end (end_at stream (n - 1)) later.object.end owned later.object.content
        (entries_in_object stream n) object.0 is object.1 has))))
  ]

  is_told : (n end : ℕ) (owned : Owners) → IsCheckpointOf volume objects n end owned → checkpoint n ≡ true
  is_told n end owned is =
      let within = number_of n end owned is in
      let there_is : landed n ≡ true = sym (landed_there n within.0 within.1) ∙ ap is_some is.present in
      and_both (landed n) (nat_le n number && marks n) there_is
      (and_both (nat_le n number) (marks n) (test_most n number within.1)
      (kind_by n end owned (has_it.there n within.0 within.1 there_is) is))

  checkpoints : AreCheckpoints volume objects checkpoint
  checkpoints n = (is_there n, λ one. is_told n one.0 one.1 one.2)

  abbrev newest : HasBase uuid epoch plain landed objects valid has_it
  newest = has_base uuid epoch plain landed objects valid has_it

  base_told : checkpoint base ≡ true
  base_told = is_told base (end_at stream base) (owners stream base) (record {
    bytes = newest.bytes;
    present = newest.present;
    rows = newest.is.rows;
    is_checkpoint = newest.is.is_checkpoint;
    says = newest.is.says;
  })

  none_newer : (n : ℕ) → checkpoint n ≡ true → n ≤ base
  none_newer n is =
      let one = told n is in
      let opens = from in
      elim one.kind [
        | inl same ↦ omega (arith, same, opens.0, opens.1)
        | inr later ↦ elim (cases_lt n plain.checkpoint.number) [
          | inl before ↦ omega (arith, before, opens.2)
          | inr after ↦ no_newer plain landed valid has_it.opens has_it.seals has_it.may n later.0
              (omega (arith, opens.0, later.1)) after one.there_is later.2 later.3
        ]
      ]

  abbrev missing : IsFirstMissing checkpoint (landed_in objects volume) (number + 1)
  missing = record {
    base = base;
    newest = record {
      is_checkpoint = base_told;
      has_landed = ap is_some newest.present;
      newest = λ other is landed_is. none_newer other is;
    };
    above = omega (arith, from.3);
    absent = ap is_some has_it.missing;
    least = λ other above below.
        (let there_is = landed_past plain landed valid has_it.opens has_it.seals has_it.may other above (omega (arith, below)) in
        ap is_some (has_it.there other (omega (arith, above)) (omega (arith, below)) there_is).1);
  }

  -- ---- the opening

  none_after : base - base ≡ 0
  none_after = omega arith

  end_is : end_at stream base ≡ there.end
  end_is =
      let opens = from in
      sym (has_stream.ends base (omega arith) opens.3) ∙ ap (λ m. end_after there.end (take m there.objects)) none_after

  opening_is : (k : ℕ) → (stream_in there).opening k ≡ owners stream base k
  opening_is k =
      let opens = from in
      sym (ap (λ m. after_objects there.number there.end there.entries (stream_in there).opening (take m there.objects) k)
      none_after)
      ∙ has_stream.owned base k (omega arith) opens.3

  value : IsValue objects (uuid_at uuid epoch plain landed objects valid has_it) (stream_in there).opening there.opening
  value k sector at =
      subst (λ (o : Option Owner). StandsForSector objects (uuid_at uuid epoch plain landed objects valid has_it) o k sector)
      (sym (opening_is k))
      (stands_for uuid epoch plain landed objects valid has_it k sector
      (sym (ap (λ i. slice_get i k) has_stream.image) ∙ at))

  opens : HasOpening volume (uuid_at uuid epoch plain landed objects valid has_it) objects (stream_in there) there.opening
  opens = record {
    is = record {
      checkpoint = record {
        bytes = newest.bytes;
        present = newest.present;
        rows = newest.is.rows;
        is_checkpoint =
            subst (λ end. IsCheckpoint newest.bytes (expected_alone volume base) end newest.is.rows) end_is
            newest.is.is_checkpoint;
        says = λ k. opening_is k ∙ newest.is.says k;
      };
      places = hold_places uuid epoch plain landed objects valid has_it;
    };
    inherited = λ k place at level. (newest.is.placed k (mapped_place place) (ap (option_map mapped_place) at)).1 level;
    value = value;
  }

  -- ---- the objects past it

  module _ (i : ℕ) (object : StreamObject) (low : i < number - base) (at : slice_get there.objects i ≡ Some object) where
    abbrev n : ℕ
    n = base + 1 + i

    there_is : IsTrue (landed n)
    there_is = landed_past plain landed valid has_it.opens has_it.seals has_it.may n (omega arith) (omega (arith, low))

    object_is : ObjectThere n
    object_is = has_it.there n (omega arith) (omega (arith, low)) there_is

    abbrev before : ℕ
    before = end_at stream (n - 1)

    abbrev own : List Entry
    own = entries_in_object stream n

    -- the object that the store has there is this one
    record IsThere : Type 0 where
      bytes : List ℕ
      present_is : found objects (object_name volume n) ≡ Some bytes
      later : IsLaterObject volume plain n bytes
      same : later.object ≡ object

    is_later : IsThere
    is_later = elim object_is.2 [
      | inl first ↦ absurd (let opens_at = from in omega (arith, first.first, opens_at.0, opens_at.1))
      | inr is ↦
          let index : n - (base + 1) ≡ i = omega arith in
          record {
            bytes = object_is.0;
            present_is = object_is.1;
            later = is;
            same =
                let e = sym is.there ∙ sym (has_stream.objects n (omega arith) (omega (arith, low)))
                ∙ ap (slice_get there.objects) index ∙ at in cc;
          }
    ]

    -- it is no checkpoint
    not_so : object.content ≡ Checkpoint → ⊥
    not_so kind =
        let is = is_later in
        none_past plain landed valid has_it.opens has_it.seals has_it.may volume n is.bytes (omega arith) there_is is.later
        (ap (λ (o : StreamObject). o.content) is.same ∙ kind)

    abbrev uuids : ℕ → Option (List ℕ)
    uuids = uuid_at uuid epoch plain landed objects valid has_it

    -- the image before the object has as many sectors as the volume
    -- an owner of the volume's own is past its opening
    own_is_past : (number k source : ℕ) → owners stream number k ≡ Some (record { level = 0; number = source })
        → IsOwnPast number (record { level = 0; number = source })
    own_is_past number k source owns =
        elim (owners_are_past plain number k (record { level = 0; number = source }) has_it.opens owns) [
          | inl past ↦ past
          | inr inherited ↦ absurd (let none = inherited.0 in omega (arith, none))
        ]

    image_long : length (image_up_to plain (n - 1)) ≡ plain.geometry.sectors
    image_long = long_image plain valid (n - 1)

    -- what a source has of a sector that it owned before the object is what the image had there
    module _ (k source : ℕ) (sector s : List ℕ) (owned : is_own source (owners stream (n - 1) k) ≡ true)
        (has : HasSector objects uuids (record { level = 0; number = source }) k sector)
        (held : slice_get (image_up_to plain (n - 1)) k ≡ Some s) where
      owner_is : owners stream (n - 1) k ≡ Some (record { level = 0; number = source })
      owner_is = owner_of source (owners stream (n - 1) k) owned

      present_there : found objects (object_name volume source) ≡ Some has.bytes
      present_there =
          let same : uuid ≡ has.expected.uuid = let e = has.level in cc in
          ap (λ u. found objects (numbered_name u source)) same ∙ has.present

      by_put : OwnsBy plain valid has_it.opens (Some (record { level = 0; number = source })) k (image_up_to plain (n - 1))
      by_put =
          let opens_at = from in
          subst (λ (o : Option Owner). OwnsBy plain valid has_it.opens o k (image_up_to plain (n - 1))) owner_is
          (owns_at plain valid has_it.opens (n - 1) k (omega (arith, opens_at.0, opens_at.1))
          (most_sealed (n - 1) (omega (arith, low))))

      own_there : (bytes : List ℕ) → found objects (object_name volume source) ≡ Some bytes
          → IsLaterObject volume plain source bytes
          → HasSector objects uuids (record { level = 0; number = source }) k s
      own_there bytes there_at is =
          let shown = image_up_to plain (n - 1) in
          let own_of = own_sector uuid epoch plain landed objects valid has_it shown is.object.content source k is.object.end
          bytes is.rows is.holds is.copied (by_put.own refl is.object is.there) in
          record {
            expected = expected_at volume source (end_at stream (source - 1));
            wide = omega (arith, sectors_limit plain.geometry valid.limits);
            level = refl;
            number = refl;
            bytes = bytes;
            present = there_at;
            header = own_of.object.header;
            rows = own_of.object.rows;
            payload = own_of.object.payload;
            parts = own_of.object.parts;
            has = own_of.placed.has ∙ ap Some (sym (own_of.image_has s held));
          }

      same_sector : s ≡ sector
      same_sector =
          let opens_at = from in
          let past = own_is_past (n - 1) k source owner_is in
          let landed_source : landed source ≡ true =
          sym (landed_there source (omega (arith, past.1)) (omega (arith, past.2, low))) ∙ ap is_some present_there in
          let object_at_source =
          has_it.there source (omega (arith, past.1)) (omega (arith, past.2, low)) landed_source in
          elim object_at_source.2 [
            | inl first ↦ absurd (omega (arith, first.first, opens_at.0, past.1))
            | inr is ↦
                one_sector objects uuids (Some (record { level = 0; number = source })) k s sector
                (own_there object_at_source.0 object_at_source.1 is) has
          ]

    -- ---- its content

    -- a sector that a copy has, by what the image had there
    copied_there : (pairs : List CopiedSector) (end : ℕ) (bytes : List ℕ) (rows : SealedRows)
        (holds : HoldsContent stream (expected_at volume n before) (Copy pairs) own (owners stream (n - 1)) end bytes rows)
        → HasSourceSectors plain n bytes rows → (k source : ℕ) (sector : List ℕ) → source_in pairs k ≡ Some source
        → is_own source (owners stream (n - 1) k) ≡ true
        → HasSector objects uuids (record { level = 0; number = source }) k sector
        → (let is = sectors_of_content stream (expected_at volume n before) (Copy pairs) own (owners stream (n - 1)) end bytes
        rows (λ kind. cc) holds in
        sector_in is.rows is.payload k ≡ Some sector)
    copied_there pairs end bytes rows holds copied k source sector of_source owned has =
        let expected : Expected = expected_at volume n before in
        let is = sectors_of_content stream expected (Copy pairs) own (owners stream (n - 1)) end bytes rows (λ kind. cc) holds in
        let inside = sector_of_copy_inside expected pairs own end bytes is k source of_source in
        let held = get_within k (image_up_to plain (n - 1)) (omega (arith, inside, image_long)) in
        copy_sector plain n expected pairs own (owners stream (n - 1)) end bytes rows (λ kind. cc) holds copied k source held.0
        of_source owned held.1
        ∙ ap Some (same_sector k source sector held.0 owned has held.1)

    copy_content : (pairs : List CopiedSector) (rows : Rows) (payload : List ℕ) → AreContentRows (Copy pairs) own rows payload
        → ((k source : ℕ) (sector : List ℕ) → source_in pairs k ≡ Some source → is_own source (owners stream (n - 1) k) ≡ true
        → HasSector objects uuids (record { level = 0; number = source }) k sector → sector_in rows payload k ≡ Some sector)
        → HasContent objects uuids (owners stream (n - 1)) (Copy pairs) own rows payload
    copy_content pairs (rows_of.Data list) payload are each = absurd are
    copy_content pairs (rows_of.Copy list) payload are each = (are, each)
    copy_content pairs rows_of.Checkpoint payload are each = absurd are

    data_content : (rows : Rows) (payload : List ℕ) → AreContentRows Data own rows payload
        → HasContent objects uuids (owners stream (n - 1)) Data own rows payload
    data_content (rows_of.Data list) payload are = are
    data_content (rows_of.Copy list) payload are = absurd are
    data_content rows_of.Checkpoint payload are = absurd are

    -- the object of this content is in the store
    stored_by : (content : Content) (end : ℕ) (bytes : List ℕ) (rows : SealedRows)
        → found objects (object_name volume n) ≡ Some bytes → (content ≡ Checkpoint → ⊥)
        → HoldsContent stream (expected_at volume n before) content own (owners stream (n - 1)) end bytes rows
        → HasSourceSectors plain n bytes rows
        → IsObjectStored objects uuids (expected_at volume n before) (owners stream (n - 1))
        (record { content = content; end = end }) own
    stored_by Data end bytes rows present_is kind holds copied =
        let is = sectors_of_content stream (expected_at volume n before) Data own (owners stream (n - 1)) end bytes rows kind
        holds in
        record {
          bytes = bytes;
          header = is.header;
          rows_of = is.rows;
          payload = is.payload;
          present = present_is;
          parts = is.parts;
          ends = is.ends;
          content = data_content is.rows is.payload is.are;
        }
    stored_by (Copy pairs) end bytes rows present_is kind holds copied =
        let is = sectors_of_content stream (expected_at volume n before) (Copy pairs) own (owners stream (n - 1)) end bytes rows
        (λ kind. cc) holds in
        record {
          bytes = bytes;
          header = is.header;
          rows_of = is.rows;
          payload = is.payload;
          present = present_is;
          parts = is.parts;
          ends = is.ends;
          content = copy_content pairs is.rows is.payload is.are (copied_there pairs end bytes rows holds copied);
        }
    stored_by Checkpoint end bytes rows present_is kind holds copied = absurd (kind refl)

    -- so it is in the stream that a mount finds
    ends_there : before ≡ end_after there.end (take i there.objects)
    ends_there = sym (has_stream.ends (n - 1) (omega arith) (omega (arith, low))) ∙ end_before there i object at

    entries_are : own ≡ entries_at there.end there.entries there.objects i object
    entries_are = sym (has_stream.entries n (omega arith) (omega (arith, low))) ∙ entries_there there i object at

    owned_there : owners stream (n - 1)
        ≡ after_objects there.number there.end there.entries (stream_in there).opening (take i there.objects)
    owned_there =
        let index : n - 1 - base ≡ i = omega arith in
        fun_ext (λ k. sym (has_stream.owned (n - 1) k (omega arith) (omega (arith, low))))
        ∙ ap (λ m. after_objects there.number there.end there.entries (stream_in there).opening (take m there.objects)) index

    is_stored : IsStoredAt objects uuids volume there.number there.end there.entries (stream_in there).opening there.objects i
        object
    is_stored =
        let is = is_later in
        let later = is.later in
        let Stored : ℕ → Owners → StreamObject → List Entry → Type 0 =
        λ end os o list. IsObjectStored objects uuids (expected_at volume n end) os o list in
        let one = stored_by later.object.content later.object.end is.bytes later.rows is.present_is
        (none_past plain landed valid has_it.opens has_it.seals has_it.may volume n is.bytes (omega arith) there_is later)
        later.holds later.copied in
        let last = end_after there.end (take i there.objects) in
        let os = after_objects there.number there.end there.entries (stream_in there).opening (take i there.objects) in
        subst (Stored last os object) entries_are
        (subst (λ o. Stored last os o own) is.same
        (subst (λ os. Stored last os later.object own) owned_there
        (subst (λ end. Stored end (owners stream (n - 1)) later.object own) ends_there one)))

  no_checkpoint : All (λ (object : StreamObject). object.content ≡ Checkpoint → ⊥) (objects_to (stream_in there) number)
  no_checkpoint i d inside is =
      let list = take (number - base) there.objects in
      let low : i < number - base = omega (arith, inside, length-take (number - base) there.objects) in
      let at = sym (get_of_first (number - base) i there.objects low) ∙ slice_get-get_or list i d inside in
      absurd (not_so i (get_or list i d) low at is)

  inside_all : All (EndsBy plain.geometry.sectors) there.entries
  inside_all =
      let g = plain.geometry in
      All-weaker (λ entry. is_in_range g entry ≡ true) (EndsBy g.sectors) (EndsBy-in_range g) there.entries there_valid.in_range

  last_is : number ≤ last_number (stream_in there)
  last_is = omega (arith, there_valid.last)

  has_stream_up_to : HasStreamUpTo volume (uuid_at uuid epoch plain landed objects valid has_it) objects (stream_in there)
      there.opening number
  has_stream_up_to = record {
    checkpoint = checkpoint;
    checkpoints = checkpoints;
    missing = missing;
    base = refl;
    opens = opens;
    last = last_is;
    stored = stored_by_each objects (uuid_at uuid epoch plain landed objects valid has_it) volume (number - base) there.number
        there.end there.entries (stream_in there).opening there.objects there_valid.stream.ends is_stored;
    past = has_it.past;
  }

  -- ---- the payloads

  payload_kept : (other : ℕ) → other ≤ number → payload_of plain other ≡ payload_of there other
  payload_kept other low =
      let whole : PlainState = found_by landed (history_length plain) plain in
      let opens_at = from in
      let most = most_sealed number (omega arith) in
      sym (payload_of_cut plain number (history_length plain) other valid (omega (arith, opens_at.0, opens_at.1, opens_at.3)) most
      (ends_within plain number valid most) low)
      ∙ ap (λ list. get_or (0 ∷ list) other 0) (sym (payloads_of_fold whole base (whole_may_fold landed plain finds)))

  payload_there : (other payload : ℕ) → other ≤ number → HasPayloadThere volume objects other payload
      → payload ≡ payload_of there other
  payload_there other payload low is =
      elim (cases_lt 0 other) [
        | inl some ↦
            (let there_is : landed other ≡ true = sym (landed_there other some low) ∙ ap is_some is.present in
            let object = has_it.there other some low there_is in
            let same : object.0 ≡ is.bytes = let e = is.present in let f = object.1 in cc in
            sym is.payload_is
            ∙ object_payload volume plain other is.bytes valid refl (most_sealed other low) is.header is.is_header
            is.no_checkpoint (subst (IsObjectOf volume plain other) same object.2)
            ∙ payload_kept other low)
        | inr none ↦
            (let zero_is : 0 ≡ other = omega (arith, none) in
            let absent : found objects (object_name volume other) ≡ None =
            subst (λ n. found objects (object_name volume n) ≡ None) zero_is has_it.none_first in
            let there_is = is.present in
            absurd cc)
      ]

  has_objects : HasObjects uuid there number objects
  has_objects = record {
    opened = refl;
    window = refl;
    pins = refl;
    none_out = refl;
    no_plan = refl;
    gone = refl;
    present = present;
    payloads = payload_there;
    holds = has_it.holds;
    stored = record {
      own = refl;
      valid = there_valid.stream;
      sectors = there_valid.sectors;
      stored = has_stream_up_to;
      no_checkpoint = no_checkpoint;
      inside = inside_all;
    };
  }

pub volume_has_objects : VolumeHasObjects
volume_has_objects uuid epoch plain landed objects valid has_it = has_objects uuid epoch plain landed objects valid has_it
