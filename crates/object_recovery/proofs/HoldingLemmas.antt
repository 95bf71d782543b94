-- What the checkpoints of holds keep, and why one is refused.
use Rattle.std.proofs.Common.{◌≡◌, ℕ, zero, suc, ◌<◌, ◌==◌, ◌&&◌, inl, inr, Bool, true, false, cond, Option, Some}
use Rattle.std.proofs.Common.{None, List, [], ◌∷◌, ◌++◌, length, refl, sym, ◌∙◌, ap, subst, arith}
use Rattle.std.specs.Prelude.{◌⊎◌, ◌↔◌, option_map, IfSome, Result, Ok, Err, OnErr}
use Rattle.std.specs.Option.{IsSome}
use Rattle.std.specs.List.{Contains}
use Rattle.std.proofs.lemmas.Bool.Decides.{nat_tests}
use Rattle.std.proofs.lemmas.List.Elements.{Contains-append_left, Contains-append_right, Contains-append_cases}
use Rattle.lsvd_objstore.specs.Objects.{Objects, found}
use Rattle.lsvd_objstore.specs.Store.{ReceiptState, Finds}
use Rattle.extent_map.specs.declared.extent.Extent.{Extent}
use Rattle.extent_map.specs.Extents.{place_at, IsShortest}
use Rattle.object_format.specs.declared.expected.Expected.{Expected}
use Rattle.object_format.specs.declared.header.Header.{Header}
use Rattle.object_format.specs.declared.reason.BadObject.{BadObject}
use Rattle.object_format.specs.declared.reason.BadObject.TheVariants as reasons
use Rattle.object_format.specs.Header.{IsObjectHeader}
use Rattle.object_format.specs.Tests.{code_of, IsObjectRefusedAs}
use Rattle.ckpt_format.specs.declared.place.StoredPlace.{StoredPlace}
use Rattle.ckpt_format.specs.Checkpoint.{IsCheckpoint}
use Rattle.ckpt_format.specs.Places.{stored_on}
use Rattle.ckpt_format.specs.Reading.{PassesCheckpointTest, IsCheckpointRefusedAs}
use Rattle.object_stream.specs.Replay.{object_name}
use Rattle.object_stream.specs.Stream.{is_own}
use Rattle.stopped_volume.specs.Expected.{expected_alone}
use Rattle.stopped_volume.specs.Holds.{HasCheckpoint, IsMappedBy, IsKeptBy}
use Rattle.stopped_volume.specs.Opening.{stored_owner, owned_by, IsCheckpointOf}
use Rattle.object_table.specs.Table.{held}
use Rattle.object_uploads.specs.Order.{IsUploads}
use Rattle.object_uploads.specs.Removal.{HasChangedRow}
use Rattle.obj_log.specs.State.{ObjLogState}
use Rattle.object_recovery.specs.declared.error.RecoverError.{RecoverError}
use Rattle.object_recovery.specs.declared.error.RecoverError.TheVariants as errors
use Rattle.object_recovery.specs.Holding.{IsMarked, own_numbers, MarksNamed, MarksRows, MarksKept, RefusesOrFails}
use Rattle.object_recovery.specs.Read.{IsWhyNotRead, HasNoHeader}
use Rattle.object_recovery.proofs.EarlierLemmas.{place_split, place_kept, last_place}
use Rattle.object_recovery.proofs.FindLemmas.{of_told, told_so}
use Rattle.object_recovery.proofs.MarkLemmas.{none_marked, marked_more}
use Rattle.object_recovery.proofs.RecoverLemmas.{one_reading}

-- ---- what rows name

-- the object of a place is the volume's own of this number
abbrev pub is_at : Option StoredPlace → (n : ℕ) → Bool
is_at place n = is_own n (option_map stored_owner place)

-- it is just where the place names it
named_by : (test : Bool) (number n : ℕ) → Contains (cond test (number ∷ []) []) n → (test && (number == n)) ≡ true
named_by true number n (zero, inside, at) = grind (arith, nat_tests)
named_by true number n (suc k, inside, at) = absurd (omega (arith, inside))
named_by false number n (k, inside, at) = absurd (omega (arith, inside))

names_by : (test : Bool) (number n : ℕ) → (test && (number == n)) ≡ true → Contains (cond test (number ∷ []) []) n
names_by true number n is = (0, omega arith, grind (arith, nat_tests))
names_by false number n is = absurd cc

still_at : (place more : Option StoredPlace) (n : ℕ) → ((p : StoredPlace) → place ≡ Some p → more ≡ Some p)
    → is_at place n ≡ true → is_at more n ≡ true
still_at None more n keeps is = absurd cc
still_at (Some p) more n keeps is = ap (λ o. is_at o n) (keeps p refl) ∙ is

module _ (rows : List (Extent StoredPlace)) (row : Extent StoredPlace) (shortest : IsShortest stored_on (rows ++ row ∷ []))
    (some : 0 < row.sectors) (old middle new : ObjLogState) (before : MarksNamed rows old middle)
    (last : IsMarked (own_numbers row.place) middle new) (n : ℕ) where
  abbrev all : List (Extent StoredPlace)
  all = rows ++ row ∷ []

  marked_named : Contains (before.numbers ++ own_numbers row.place) n → IsMappedBy (owned_by all) n
  marked_named among =
      elim (Contains-append_cases before.numbers (own_numbers row.place) n among) [
        | inl first ↦
            let was = (before.own n).0 first in (
              was.0,
              still_at (place_at stored_on rows was.0) (place_at stored_on all was.0) n
                  (λ p at. place_kept rows (row ∷ []) was.0 p at) was.1,
            )
        | inr own ↦ (
          row.lba,
          ap (λ o. is_at o n) (last_place rows row row.lba shortest (omega arith) (omega (arith, some)))
              ∙ named_by (row.place.level == 0) row.place.number n own,
        )
      ]

  named_at : (k : ℕ) (place : Option StoredPlace) → place_at stored_on all k ≡ place → is_at place n ≡ true
      → Contains (before.numbers ++ own_numbers row.place) n
  named_at k None at is = absurd cc
  named_at k (Some place) at is =
      elim (place_split rows row k place at) [
        | inl first ↦
            Contains-append_left before.numbers (own_numbers row.place) n
            ((before.own n).1 (k, ap (λ o. is_at o n) first ∙ is))
        | inr own ↦
            Contains-append_right before.numbers (own_numbers row.place) n
            (names_by (row.place.level == 0) row.place.number n (ap (λ p. is_at (Some p) n) own.1 ∙ is))
      ]

pub none_named : (log : ObjLogState) → MarksNamed [] log log
none_named log = record {
  numbers = [];
  marked = none_marked log;
  own = λ n. (λ among. absurd (omega (arith, among.1)), λ mapped. absurd (let is = mapped.1 in cc));
}

-- a row more
pub named_more : (rows : List (Extent StoredPlace)) (row : Extent StoredPlace) (old middle new : ObjLogState)
    → IsShortest stored_on (rows ++ row ∷ []) → 0 < row.sectors → MarksNamed rows old middle
    → IsMarked (own_numbers row.place) middle new
    → MarksNamed (rows ++ row ∷ []) old new
named_more rows row old middle new shortest some before last = record {
  numbers = before.numbers ++ own_numbers row.place;
  marked = marked_more before.numbers (own_numbers row.place) old middle new before.marked last;
  own = λ n. (
    marked_named rows row shortest some old middle new before last n,
    λ mapped.
        named_at rows row shortest some old middle new before last n mapped.0
        (place_at stored_on (rows ++ row ∷ []) mapped.0) refl mapped.1,
  );
}

-- ---- what checkpoints keep

-- what follows from what holds of the objects that a store tells, twice
pub both_so : (P Q R : Objects → Type 0) (told : Option Objects) → ((objects : Objects) → P objects → Q objects → R objects)
    → IfSome told P → IfSome told Q → IfSome told R
both_so P Q R None so p q = tt
both_so P Q R (Some objects) so p q = so objects p q

all_so : (P : Objects → Type 0) (told : Option Objects) → ((objects : Objects) → P objects) → IfSome told P
all_so P None so = tt
all_so P (Some objects) so = so objects

-- the numbers are those of all that the checkpoints of such numbers keep
abbrev pub AreKeptBy : Expected → (Which : ℕ → Type 0) → List ℕ → Objects → Type 0
AreKeptBy volume Which numbers objects =
    (n : ℕ) → Contains numbers n ↔ ((checkpoint : ℕ) × Which checkpoint × IsKeptBy volume objects checkpoint n)

abbrev pub HaveCheckpoints : Expected → (Which : ℕ → Type 0) → Objects → Type 0
HaveCheckpoints volume Which objects = (n : ℕ) → Which n → HasCheckpoint volume objects n

pub none_kept : (Tells : Type 0) (volume : Expected) (told : Option Objects) (Which : ℕ → Type 0) (log : ObjLogState)
    → ((n : ℕ) → Which n → ⊥) → MarksKept Tells volume told Which log log
none_kept Tells volume told Which log none = record {
  numbers = [];
  marked = none_marked log;
  checkpoints = λ tells. all_so (HaveCheckpoints volume Which) told (λ objects n which. absurd (none n which));
  kept = λ tells.
      all_so (AreKeptBy volume Which []) told
      (λ objects n. (λ among. absurd (omega (arith, among.1)), λ kept. absurd (none kept.0 kept.1)));
}

module _ (Tells : Type 0) (volume : Expected) (told : Option Objects) (First Next All : ℕ → Type 0)
    (split : (n : ℕ) → All n → First n ⊎ Next n) (first : (n : ℕ) → First n → All n) (next : (n : ℕ) → Next n → All n) where
  both_there : (objects : Objects) → HaveCheckpoints volume First objects → HaveCheckpoints volume Next objects
      → HaveCheckpoints volume All objects
  both_there objects before now n which = elim (split n which) [ inl a ↦ before n a | inr b ↦ now n b ]

  both_kept : (xs ys : List ℕ) (objects : Objects) → AreKeptBy volume First xs objects → AreKeptBy volume Next ys objects
      → AreKeptBy volume All (xs ++ ys) objects
  both_kept xs ys objects before now n = (
    λ among. elim (Contains-append_cases xs ys n among) [
      | inl a ↦ let kept = (before n).0 a in (kept.0, first kept.0 kept.1, kept.2)
      | inr b ↦ let kept = (now n).0 b in (kept.0, next kept.0 kept.1, kept.2)
    ],
    λ kept. elim (split kept.0 kept.1) [
      | inl a ↦ Contains-append_left xs ys n ((before n).1 (kept.0, a, kept.2))
      | inr b ↦ Contains-append_right xs ys n ((now n).1 (kept.0, b, kept.2))
    ],
  )

  -- more checkpoints
  pub kept_more : (old middle new : ObjLogState) → MarksKept Tells volume told First old middle
      → MarksKept Tells volume told Next middle new
      → MarksKept Tells volume told All old new
  kept_more old middle new before now = record {
    numbers = before.numbers ++ now.numbers;
    marked = marked_more before.numbers now.numbers old middle new before.marked now.marked;
    checkpoints = λ tells.
        both_so (HaveCheckpoints volume First) (HaveCheckpoints volume Next) (HaveCheckpoints volume All) told both_there
        (before.checkpoints tells) (now.checkpoints tells);
    kept = λ tells.
        both_so (AreKeptBy volume First before.numbers) (AreKeptBy volume Next now.numbers)
        (AreKeptBy volume All (before.numbers ++ now.numbers)) told (both_kept before.numbers now.numbers)
        (before.kept tells) (now.kept tells);
  }

-- the same checkpoints
pub kept_as : (Tells : Type 0) (volume : Expected) (told : Option Objects) (Was Now : ℕ → Type 0) (old new : ObjLogState)
    → ((n : ℕ) → Was n → Now n) → ((n : ℕ) → Now n → Was n)
    → MarksKept Tells volume told Was old new → MarksKept Tells volume told Now old new
kept_as Tells volume told Was Now old new now was marks = record {
  numbers = marks.numbers;
  marked = marks.marked;
  checkpoints = λ tells.
      told_so (HaveCheckpoints volume Was) (HaveCheckpoints volume Now) told (λ objects have n is. have n (was n is))
      (marks.checkpoints tells);
  kept = λ tells.
      told_so (AreKeptBy volume Was marks.numbers) (AreKeptBy volume Now marks.numbers) told (λ objects are n. (
        λ among. let by = (are n).0 among in (by.0, now by.0 by.1, by.2),
        λ by. (are n).1 (by.0, was by.0 by.1, by.2),
      )) (marks.kept tells);
}

-- the bytes of an object are a checkpoint that the store has
abbrev pub is_stored : (volume : Expected) (objects : Objects) (number end : ℕ) (bytes : List ℕ)
    → (rows : List (Extent StoredPlace)) → found objects (object_name volume number) ≡ Some bytes
    → IsCheckpoint bytes (expected_alone volume number) end rows → IsCheckpointOf volume objects number end (owned_by rows)
is_stored volume objects number end bytes rows present is = record {
  bytes = bytes;
  present = present;
  rows = rows;
  is_checkpoint = is;
  says = λ k. refl;
}

module _ (volume : Expected) (number : ℕ) (bytes : List ℕ) (middle new : ObjLogState)
    (named : MarksRows bytes (expected_alone volume number) middle new) where
  abbrev end : ℕ
  end = named.0

  abbrev rows : List (Extent StoredPlace)
  rows = named.1

  abbrev marks : MarksNamed rows middle new
  marks = named.3

  abbrev IsThere : Objects → Type 0
  IsThere objects = found objects (object_name volume number) ≡ Some bytes

  abbrev there_as : (objects : Objects) → IsThere objects → IsCheckpointOf volume objects number end (owned_by rows)
  there_as objects there = is_stored volume objects number end bytes rows there named.2

  -- it keeps itself, and what its rows name
  keeps : (objects : Objects) → IsThere objects → (n : ℕ) → Contains (number ∷ marks.numbers) n
      → IsKeptBy volume objects number n
  keeps objects there n among =
      elim (Contains-append_cases (number ∷ []) marks.numbers n among) [
        | inl own ↦ inl (only own)
        | inr later ↦ inr (end, owned_by rows, there_as objects there, (marks.own n).0 later)
      ]
    where
      only : Contains (number ∷ []) n → n ≡ number
      only (zero, inside, at) = sym at
      only (suc k, inside, at) = absurd (omega (arith, inside))

  kept_by : (objects : Objects) → IsThere objects → (n : ℕ) → IsKeptBy volume objects number n
      → Contains (number ∷ marks.numbers) n
  kept_by objects there n (inl own) = (0, omega arith, sym own)
  kept_by objects there n (inr (other_end, owned, checkpoint, mapped)) =
      let k = mapped.0 in
      let one = one_reading volume objects number number end other_end (owned_by rows) owned refl (there_as objects there)
      checkpoint in
      let same = ap (λ list. is_own n (owned_by list k)) (sym one.1) ∙ ap (is_own n) (sym (checkpoint.says k)) in
      Contains-append_right (number ∷ []) marks.numbers n ((marks.own n).1 (k, same ∙ mapped.1))

  pub one_kept : (Tells : Type 0) (told : Option Objects) (old : ObjLogState)
      → HasChangedRow held number old.uploads middle.uploads
      → IsUploads middle.uploads → middle.batch ≡ old.batch → (Tells → IfSome told IsThere)
      → MarksKept Tells volume told (λ checkpoint. checkpoint ≡ number) old new
  one_kept Tells told old change is batch there = record {
    numbers = number ∷ marks.numbers;
    marked = record {
      batch = marks.marked.batch ∙ batch;
      marks = (middle.uploads, change, is, marks.marked.marks);
    };
    checkpoints = λ tells.
        told_so IsThere (HaveCheckpoints volume (λ checkpoint. checkpoint ≡ number)) told
        (λ objects at n same.
        subst (HasCheckpoint volume objects) (sym same) (end, owned_by rows, there_as objects at)) (there tells);
    kept = λ tells.
        told_so IsThere (AreKeptBy volume (λ checkpoint. checkpoint ≡ number) (number ∷ marks.numbers)) told
        (λ objects at n. (
          λ among. (number, refl, keeps objects at n among),
          λ kept. kept_by objects at n (subst (λ c. IsKeptBy volume objects c n) kept.1 kept.2),
        )) (there tells);
  }

-- ---- why one is refused

-- the first reason that no header may stand there, or that the bytes are none, is that no checkpoint is
module _ (bytes : List ℕ) (expected : Expected)
    (none : (header : Header) → IsObjectHeader bytes (length bytes) expected header → ⊥) where
  passes : (reason other : BadObject) → code_of other < code_of reason
      → IsObjectRefusedAs bytes (length bytes) expected reason → PassesCheckpointTest bytes expected other
  passes reason reasons.Length low is = is.earlier reasons.Length low
  passes reason reasons.Magic low is = is.earlier reasons.Magic low
  passes reason reasons.Kind low is = is.earlier reasons.Kind low
  passes reason reasons.Uuid low is = is.earlier reasons.Uuid low
  passes reason reasons.Number low is = is.earlier reasons.Number low
  passes reason reasons.Seqs low is = is.earlier reasons.Seqs low
  passes reason reasons.Counts low is = is.earlier reasons.Counts low
  passes reason reasons.Rows low is = absurd (no_later reason low)
    where
      no_later : (reason : BadObject) → 8 < code_of reason → ⊥
      no_later reasons.Length low = omega (arith, low)
      no_later reasons.Magic low = omega (arith, low)
      no_later reasons.Kind low = omega (arith, low)
      no_later reasons.Uuid low = omega (arith, low)
      no_later reasons.Number low = omega (arith, low)
      no_later reasons.Seqs low = omega (arith, low)
      no_later reasons.Counts low = omega (arith, low)
      no_later reasons.Rows low = omega (arith, low)

  fails : (reason : BadObject) → IsObjectRefusedAs bytes (length bytes) expected reason
      → PassesCheckpointTest bytes expected reason → ⊥
  fails reasons.Length is pass = is.failed pass
  fails reasons.Magic is pass = is.failed pass
  fails reasons.Kind is pass = is.failed pass
  fails reasons.Uuid is pass = is.failed pass
  fails reasons.Number is pass = is.failed pass
  fails reasons.Seqs is pass = is.failed pass
  fails reasons.Counts is pass = is.failed pass
  fails reasons.Rows is pass = none _ pass.2.head

  no_checkpoint : (reason : BadObject) → IsObjectRefusedAs bytes (length bytes) expected reason
      → IsCheckpointRefusedAs bytes expected reason
  no_checkpoint reason is = record {
    earlier = λ other low. passes reason other low is;
    failed = fails reason is;
  }

-- the store has no such checkpoint where its object's bytes are none
pub none_there : (volume : Expected) (objects : Objects) (number : ℕ) (bytes : List ℕ)
    → found objects (object_name volume number) ≡ Some bytes
    → ((end : ℕ) (rows : List (Extent StoredPlace)) → IsCheckpoint bytes (expected_alone volume number) end rows → ⊥)
    → HasCheckpoint volume objects number → ⊥
none_there volume objects number bytes present none (end, owned, checkpoint) =
    let same : checkpoint.bytes ≡ bytes = let there = checkpoint.present in cc in
    none end checkpoint.rows
    (subst (λ b. IsCheckpoint b (expected_alone volume number) end checkpoint.rows) same checkpoint.is_checkpoint)

-- a row that does not keep the spelling makes bytes none
pub rows_refused : (bytes : List ℕ) (expected : Expected) (reason : BadObject) → reason ≡ reasons.Rows
    → IsCheckpointRefusedAs bytes expected reason
    → (end : ℕ) (rows : List (Extent StoredPlace)) → IsCheckpoint bytes expected end rows → ⊥
rows_refused bytes expected reason is refused end rows checkpoint =
    (subst (IsCheckpointRefusedAs bytes expected) is refused).failed (end, rows, checkpoint)

pub on_error : {T E : Type 0} (P : Type 0) (outcome : Result T E) → P → OnErr outcome P
on_error P (Ok value) so = tt
on_error P (Err error) so = so

-- what is expected where the end before is not known
pub alone_itself : (expected : Expected) → expected.end_before ≡ None → expected ≡ expected_alone expected expected.number
alone_itself expected none =
    ap (λ (end : Option ℕ). let alone : Expected = record expected { end_before = end } in alone) none

pub bytes_refused : (volume : Expected) (number : ℕ) (bytes : List ℕ) (reason : BadObject) (told : Option Objects)
    → IsCheckpointRefusedAs bytes (expected_alone volume number) reason
    → ((end : ℕ) (rows : List (Extent StoredPlace)) → IsCheckpoint bytes (expected_alone volume number) end rows → ⊥)
    → IfSome told (λ objects. found objects (object_name volume number) ≡ Some bytes)
    → IfSome told (λ objects. RefusesOrFails volume objects number (errors.BadObject number reason))
bytes_refused volume number bytes reason told is none there =
    told_so (λ objects. found objects (object_name volume number) ≡ Some bytes)
    (λ objects. RefusesOrFails volume objects number (errors.BadObject number reason)) told
    (λ objects present. inr (record {
      why = (refl, bytes, present, is);
      not_there = none_there volume objects number bytes present none;
    })) there

pub absent_refused : (volume : Expected) (number : ℕ) (told : Option Objects) → Finds (object_name volume number) told None
    → IfSome told (λ objects. RefusesOrFails volume objects number (errors.MissingObject number))
absent_refused volume number None none = tt
absent_refused volume number (Some objects) none = inr (record {
  why = (refl, none);
  not_there = λ has. (let there = has.2.present in cc);
})

-- an object whose header was not read
module _ (volume : Expected) (objects : Objects) (number : ℕ) (receipt : ReceiptState)
    (finds : Finds (object_name volume number) (Some objects) (Some receipt)) (some : IsSome receipt.told) where
  abbrev expected : Expected
  expected = expected_alone volume number

  unread : (error : RecoverError) → IsWhyNotRead receipt expected error → HasNoHeader receipt expected error
      → RefusesOrFails volume objects number error
  unread errors.NoCheckpoint why none = absurd why
  unread (errors.BadObject other reason) why none =
      let bytes = finds.0 in
      let no_header = of_told (λ b size. (header : Header) → IsObjectHeader b size expected header → ⊥)
      (object_name volume number) bytes receipt finds.2 some none in
      let refused = of_told (λ b size. IsObjectRefusedAs b size expected reason) (object_name volume number) bytes receipt
      finds.2 some why.1 in
      inr (record {
        why = (why.0, bytes, finds.1, no_checkpoint bytes expected no_header reason refused);
        not_there = none_there volume objects number bytes finds.1 (λ end rows is. no_header _ is.head);
      })
  unread (errors.MissingObject other) why none = absurd why
  unread (errors.BaseMissing uuid) why none = absurd why
  unread errors.StoreFault why none = inl tt
  unread errors.OutOfMemory why none = inl tt

pub told_unread_held : (volume : Expected) (number : ℕ) (told : Option Objects) (receipt : ReceiptState) (error : RecoverError)
    → Finds (object_name volume number) told (Some receipt) → IsSome receipt.told
    → IsWhyNotRead receipt (expected_alone volume number) error → HasNoHeader receipt (expected_alone volume number) error
    → IfSome told (λ objects. RefusesOrFails volume objects number error)
told_unread_held volume number None receipt error finds some why none = tt
told_unread_held volume number (Some objects) receipt error finds some why none =
    unread volume objects number receipt finds some error why none
