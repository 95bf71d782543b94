-- Whatever a stop leaves of the store has the plain volume up to the object before the first missing number.
use Rattle.std.proofs.Common.{◌≡◌, ℕ, ◌+◌, ◌-◌, ◌<◌, ◌≤◌, inl, inr, Bool, true, false, cond, ◌&&◌, ◌||◌, Option, Some, None}
use Rattle.std.proofs.Common.{is_some, List, [], ◌∷◌, get_or, refl, sym, ◌∙◌, ap, subst, arith}
use Rattle.std.specs.Prelude.{IsTrue}
use Rattle.std.specs.List.{list_any, All}
use Rattle.std.proofs.lemmas.Bool.{cases_lt}
use Rattle.std.proofs.lemmas.Bool.Decides.{nat_tests}
use Rattle.std.proofs.lemmas.List.Elements.{All-nil, All-cons, All-weaker}
use Rattle.std.proofs.lemmas.List.Folds.{list_any_at}
use Rattle.lsvd_objstore.specs.Objects.{Objects, found}
use Rattle.object_format.specs.declared.expected.Expected.{Expected}
use Rattle.object_stream.specs.declared.object.Content.{Content}
use Rattle.object_stream.specs.Landed.{Numbers}
use Rattle.object_stream.specs.Replay.{object_name, expected_at}
use Rattle.object_stream.specs.Stream.{end_at, entries_in_object}
use Rattle.upload_window.specs.declared.object.OpenObject.{OpenObject}
use Rattle.upload_window.specs.Window.{Ascends, has_number, was_started, IsAcknowledged}
use Rattle.stopped_volume.specs.Objects.{landed_in}
use Rattle.stopped_volume.specs.Store.{PutState, MayHoldPut}
use Rattle.stopped_volume.specs.Store.PutState.{Acknowledged, GivenOut, Begun, NotBegun}
use Rattle.stopped_volume.proofs.WholeLemmas.{is_whole}
use Rattle.refine_mount.specs.Found.{expected_for}
use Rattle.plain_disk.specs.State.{PlainState, stream_in}
use Rattle.plain_disk.specs.Checkpoints.{landed_checkpoint}
use Rattle.plain_disk.specs.Removals.{has}
use Rattle.plain_disk.specs.Stops.{recovered_number}
use Rattle.plain_disk.specs.Valid.{IsPlainVolume, MayLand}
use Rattle.plain_disk.proofs.CheckpointLemmas.{both_true, all_past}
use Rattle.plain_disk.proofs.MarkedLemmas.{first_of, none_later}
use Rattle.refine_store.specs.Puts.{IsObjectOf, state_of_put, AreBytesOfPut, ArePuts, MayBeLeft}
use Rattle.refine_store.specs.Stored.{HasVolumeUpTo}
use Rattle.refine_store.specs.Laws.{LeftHasVolume}
use Rattle.refine_store.proofs.DataLemmas.{HasSectors, no_sectors}
use Rattle.refine_store.proofs.NewestLemmas.{base_from, sectors_past, first_missing}

-- ---- the objects of puts

-- an object that is there under a put is the plain volume's
object_of_put : (volume : Expected) (plain : PlainState) (number : ℕ) (state : PutState) (bytes : List ℕ) (held : Option (List ℕ))
    → MayHoldPut state bytes held → AreBytesOfPut state volume plain number bytes → is_some held ≡ true
    → (held ≡ Some bytes) × IsObjectOf volume plain number bytes
object_of_put volume plain number Acknowledged bytes held may is there = (may, is)
object_of_put volume plain number GivenOut bytes held may is there = elim may [
  | inl none ↦ absurd (let e = ap is_some none in cc)
  | inr has ↦ (has, is)
]
object_of_put volume plain number Begun bytes held may is there = elim may [
  | inl none ↦ absurd (let e = ap is_some none in cc)
  | inr has ↦ (has, is)
]
object_of_put volume plain number NotBegun bytes held may is there = absurd (let e = ap is_some may in cc)

-- ---- how far a put has come

-- one that is not open was acknowledged
none_started_test : (open_here was any started : Bool) → (any ≡ false → started ≡ false) → (open_here || any) ≡ false
    → ((open_here && was) || started) ≡ false
none_started_test true was any started rest closed = absurd (cc)
none_started_test false was any started rest closed = rest closed

none_started : (number : ℕ) (objects : List OpenObject) → list_any (has_number number) objects ≡ false
    → was_started number objects ≡ false
none_started number [] closed = refl
none_started number (object ∷ objects) closed =
    none_started_test (has_number number object) object.was_started (list_any (has_number number) objects)
    (was_started number objects)
    (none_started number objects) closed

-- the state by its three tests
abbrev state_by : (begun opened given : Bool) → PutState
state_by begun opened given = cond begun Begun (cond opened NotBegun (cond given GivenOut Acknowledged))

acknowledged_put : (plain : PlainState) (number : ℕ) → IsAcknowledged plain.window number → has plain.given_out number ≡ false
    → state_of_put plain number ≡ Acknowledged
acknowledged_put plain number is given =
    ap (λ b. state_by b (list_any (has_number number) plain.window.objects) (has plain.given_out number))
    (none_started number plain.window.objects is.not_open)
    ∙ ap (λ b. state_by false b (has plain.given_out number)) is.not_open
    ∙ ap (λ b. state_by false false b) given

unbegun_put : (plain : PlainState) (number : ℕ) → was_started number plain.window.objects ≡ false
    → list_any (has_number number) plain.window.objects ≡ true
    → state_of_put plain number ≡ NotBegun
unbegun_put plain number begun opened =
    ap (λ b. state_by b (list_any (has_number number) plain.window.objects) (has plain.given_out number)) begun
    ∙ ap (λ b. state_by false b (has plain.given_out number)) opened

itself : (object : OpenObject) → has_number object.number object ≡ true
itself object = grind (arith, nat_tests)

other_number : (object other : OpenObject) → object.number < other.number → has_number other.number object ≡ false
other_number object other past = grind (arith, nat_tests)

-- an open object of which a put was begun is known by its number
begun_by_number : (low last : ℕ) (objects : List OpenObject) → Ascends low objects last
    → All (λ object. was_started object.number objects ≡ true → object.was_started ≡ true) objects
begun_by_number low last [] order = All-nil (λ object. was_started object.number [] ≡ true → object.was_started ≡ true)
begun_by_number low last (object ∷ objects) order =
    let Rest : OpenObject → Type 0 = λ o. was_started o.number objects ≡ true → o.was_started ≡ true in
    let past = all_past object.number objects last order.1 in
    let rest = begun_by_number object.number last objects order.1 in
    All-cons (λ o. was_started o.number (object ∷ objects) ≡ true → o.was_started ≡ true) object objects
    (λ any. first_of object.was_started (was_started object.number objects)
    (none_later (λ o. o.was_started) object.number object.number last objects order.1 (omega arith))
    (sym (ap (λ b. (b && object.was_started) || was_started object.number objects) (itself object)) ∙ any))
    (All-weaker (λ o. ((object.number < o.number) × (o.number ≤ last)) × Rest o)
    (λ o. was_started o.number (object ∷ objects) ≡ true → o.was_started ≡ true)
    (λ o is any. is.1
    (sym (ap (λ b. (b && object.was_started) || was_started o.number objects) (other_number object o is.0.0)) ∙ any))
    objects (λ k d inside. (past k d inside, rest k d inside)))

none_of : (held : Option (List ℕ)) → is_some held ≡ false → held ≡ None
none_of None none = refl
none_of (Some bytes) none = absurd (cc)

-- ---- what is left

module _ (uuid : List ℕ) (epoch : ℕ) (plain : PlainState) (puts : ℕ → Option (PutState × List ℕ)) (objects : Objects)
    (valid : IsPlainVolume plain)
    (are : ArePuts (expected_for uuid plain) plain puts) (left : MayBeLeft uuid epoch plain puts objects) where
  abbrev volume : Expected
  volume = expected_for uuid plain

  abbrev landed : Numbers
  landed = landed_in objects volume

  absent : (number : ℕ) → puts number ≡ None → landed number ≡ false
  absent number none = ap is_some (left.held.none_else number none)

  gone : (number : ℕ) → landed number ≡ true → puts number ≡ None → ⊥
  gone number there none = let e = absent number none in cc

  -- which objects there may be
  pub record IsPut (number : ℕ) : Type 0 where
    some : 0 < number
    sealed : number ≤ plain.window.last
    kept : has plain.removed number ≡ false

  is_put : (number : ℕ) → landed number ≡ true → IsPut number
  is_put number there = record {
    some = elim (cases_lt 0 number) [
      | inl some ↦ some
      | inr none ↦
          let zero : 0 ≡ number = omega (arith, none) in
          absurd (gone number there (sym (ap puts zero) ∙ are.none_first))
    ];
    sealed = elim (cases_lt plain.window.last number) [
      | inl over ↦ absurd (gone number there (are.none_else number over))
      | inr within ↦ within
    ];
    kept = elim (has plain.removed number) as (λ b. has plain.removed number ≡ b → b ≡ false) [
      | true ↦ λ removed. absurd (gone number there (are.removed number removed))
      | false ↦ λ kept. refl
    ] refl;
  }

  -- an object that has landed is the plain volume's
  landed_object : (number : ℕ) → landed number ≡ true
      → (bytes : List ℕ) × (found objects (object_name volume number) ≡ Some bytes) × IsObjectOf volume plain number bytes
  landed_object number there =
      let put = is_put number there in
      let known = are.known number put.some put.sealed put.kept in
      let state = state_of_put plain number in
      let held = left.held.puts_are number state known.0 known.1 in
      let is = object_of_put volume plain number state known.0 (found objects (object_name volume number)) held known.2 there in
      (known.0, is.0, is.1)

  -- which objects have landed is a choice that the plain volume allows
  surely_landed : (number : ℕ) → 0 < number → IsAcknowledged plain.window number → has plain.given_out number ≡ false
      → IsTrue (landed number)
  surely_landed number some is given =
      let kept : has plain.removed number ≡ false =
      elim (has plain.removed number) as (λ b. has plain.removed number ≡ b → b ≡ false) [
        | true ↦ λ removed. absurd (let e = left.seals.removed number removed in cc)
        | false ↦ λ kept. refl
      ] refl in
      let known = are.known number some is.was_entered kept in
      let held : MayHoldPut Acknowledged known.0 (found objects (object_name volume number)) =
      subst (λ s. MayHoldPut s known.0 (found objects (object_name volume number))) (acknowledged_put plain number is given)
      (left.held.puts_are number (state_of_put plain number) known.0 known.1) in
      ap is_some held

  -- one whose put was never begun is not there
  not_begun : (number : ℕ) → was_started number plain.window.objects ≡ false
      → list_any (has_number number) plain.window.objects ≡ true → landed number ≡ true → ⊥
  not_begun number begun opened there =
      let put = is_put number there in
      let known = are.known number put.some put.sealed put.kept in
      let held : MayHoldPut NotBegun known.0 (found objects (object_name volume number)) =
      subst (λ s. MayHoldPut s known.0 (found objects (object_name volume number))) (unbegun_put plain number begun opened)
      (left.held.puts_are number (state_of_put plain number) known.0 known.1) in
      let e = ap is_some held in
      cc

  begun : All (λ object. IsTrue (object.is_checkpoint && landed object.number) → IsTrue object.was_started) plain.window.objects
  begun k d inside tested =
      let opened = plain.window.objects in
      let object = get_or opened k d in
      let there = (both_true object.is_checkpoint (landed object.number) tested).1 in
      elim (was_started object.number opened) as (λ b. was_started object.number opened ≡ b → object.was_started ≡ true) [
        | true ↦ λ was. begun_by_number 0 plain.window.last opened valid.window.order k d inside was
        | false ↦ λ not_so.
            (let any = list_any_at (has_number object.number) opened k d inside (itself object) in
            absurd (not_begun object.number not_so any there))
      ] refl

  may_land : MayLand plain landed
  may_land = record {
    surely = surely_landed;
    removed = λ number removed. absent number (are.removed number removed);
    perhaps = λ number over there. gone number there (are.none_else number over);
    begun = begun;
  }

  abbrev base : ℕ
  base = (landed_checkpoint landed plain).number

  abbrev number : ℕ
  number = recovered_number landed plain

  -- what is past the newest checkpoint is data or a copy
  sectors_there : (other : ℕ) (bytes : List ℕ) → base < other → found objects (object_name volume other) ≡ Some bytes
      → (content : Content) × (end : ℕ) × HasSectors (expected_at volume other (end_at (stream_in plain) (other - 1))) content
      (entries_in_object (stream_in plain) other) end bytes
  sectors_there other bytes past there =
      let landed_there : landed other ≡ true = ap is_some there in
      let object = landed_object other landed_there in
      let same : object.0 ≡ bytes = let e = object.1 in cc in
      let from = base_from plain landed valid left.opens left.seals may_land in
      let Result : List ℕ → Type 0 =
      λ b. (content : Content) × (end : ℕ) × HasSectors (expected_at volume other (end_at (stream_in plain) (other - 1))) content
      (entries_in_object (stream_in plain) other) end b in
      subst Result same (elim object.2 [
        | inl first ↦ absurd (omega (arith, first.first, past, from.0, from.1))
        | inr is ↦ (
          is.object.content,
          is.object.end,
          sectors_past plain landed valid left.opens left.seals may_land volume other object.0 past landed_there is,
        )
      ])

  has_volume : HasVolumeUpTo uuid epoch plain landed objects
  has_volume =
      let from = base_from plain landed valid left.opens left.seals may_land in
      record {
        described = left.described;
        opens = left.opens;
        inherits = left.inherits;
        seals = left.seals;
        may = may_land;
        there = λ other some most there. landed_object other there;
        absent = λ other some most absent_is. none_of (found objects (object_name volume other)) absent_is;
        none_first = left.held.none_else 0 are.none_first;
        missing = none_of (found objects (object_name volume (number + 1)))
            (first_missing plain landed valid left.opens left.seals may_land).absent;
        holds = left.holds;
        past = λ other bytes after there.
            (let has = sectors_there other bytes (omega (arith, after, from.3)) there in
            is_whole volume other (end_at (stream_in plain) (other - 1)) bytes has.2.header has.2.rows has.2.payload
            has.2.parts);
        no_checkpoint = λ other end owned after is.
            (let has = sectors_there other is.bytes (omega (arith, after, from.3)) is.present in
            no_sectors volume objects other end (end_at (stream_in plain) (other - 1)) has.1 owned has.0
            (entries_in_object (stream_in plain) other) is.bytes is is.present has.2);
      }

pub left_has_volume : LeftHasVolume
left_has_volume uuid epoch plain puts objects valid are left = has_volume uuid epoch plain puts objects valid are left
