-- For this crate's own clauses: how the objects of a store are adopted, and the others judged.
use Rattle.std.specs.Prelude.{◌≡◌, ℕ, ◌+◌, ◌-◌, ◌^◌, ◌<◌, ◌≤◌, ◌⊎◌, Option, Some, None, IfSome, List, length}
use Rattle.std.specs.Prelude.{Result, IfOk, IfErr}
use Rattle.clone_chain.specs.declared.ancestor.Ancestor.{Ancestor}
use Rattle.lsvd_names.specs.declared.name.ObjName.{ObjName}
use Rattle.lsvd_base.specs.declared.geometry.Geometry.{Geometry}
use Rattle.lsvd_fault.specs.Faults.{Counts}
use Rattle.lsvd_objstore.specs.Objects.{Objects, found, Lists}
use Rattle.lsvd_objstore.specs.Store.{StoreState, ReceiptState, OnlyCounts}
use Rattle.object_format.specs.declared.expected.Expected.{Expected}
use Rattle.object_format.specs.declared.header.Header.{Header}
use Rattle.object_format.specs.declared.reason.BadObject.{BadObject}
use Rattle.object_format.specs.declared.rows.Rows.{Rows}
use Rattle.object_format.specs.declared.rows.Rows.TheVariants as rows_of
use Rattle.object_format.specs.Object.{IsObject}
use Rattle.object_format.specs.Tests.{IsObjectRefusedAs}
use Rattle.object_stream.specs.Replay.{object_name}
use Rattle.object_uploads.specs.declared.rows.SealedRows.{SealedRows}
use Rattle.object_uploads.specs.declared.rows.SealedRows.TheVariants as sealed_rows
use Rattle.object_uploads.specs.Image.{IsReceiptFor}
use Rattle.object_uploads.specs.Order.{IsUploads}
use Rattle.stopped_volume.specs.Ancestors.{uuid_in_chain}
use Rattle.obj_log.specs.State.{ObjLogState}
use Rattle.obj_log.specs.Changes.{expected_of_volume, next_of, HasAdoptedObject}
use Rattle.object_recovery.specs.declared.adoption.Next.{Next}
use Rattle.object_recovery.specs.declared.adoption.Next.TheVariants as next
use Rattle.object_recovery.specs.declared.adoption.NextObject.{NextObject}
use Rattle.object_recovery.specs.declared.adoption.NextObject.TheVariants as next_object
use Rattle.object_recovery.specs.declared.judging.Reached.{Reached}
use Rattle.object_recovery.specs.declared.judging.ObjectRefusal.{ObjectRefusal}
use Rattle.object_recovery.specs.declared.error.RecoverError.{RecoverError}
use Rattle.object_recovery.specs.Checkpoints.{expected_of, ReadCheckpoint, IsStoredCheckpoint, IsNewest}
use Rattle.object_recovery.specs.Faults.{IsNoAnswer, of_refusal, refusal_or_missing, ends_by_fault}
use Rattle.object_recovery.specs.Judging.{IsEndOf}
use Rattle.object_recovery.specs.Judged.{IsReached, GoesToGap, JudgesPast, StaysRefused}
use Rattle.object_recovery.specs.Places.{HasPlacesInside}
use Rattle.object_recovery.specs.Read.{IsReadAs}
use Rattle.object_recovery.specs.Recovery.{IsListUpTo, KeepsStreams, IsRecoveryRefused}
use Rattle.object_recovery.specs.Recovering.{Recovers}
use Rattle.object_recovery.specs.Table.{HasTableUnheld, KnowsObjects}

-- ---- the next object

-- the rows of an object that may come past the newest checkpoint: a data object's or a copy's
abbrev pub adoptable_rows : Rows → Option SealedRows
adoptable_rows (rows_of.Data list) = Some (sealed_rows.Data list)
adoptable_rows (rows_of.Copy list) = Some (sealed_rows.Copy list)
adoptable_rows rows_of.Checkpoint = None

-- an object was read as one that may be adopted, with these rows and this end
pub record IsReadToAdopt (receipt : ReceiptState) (expected : Expected) (rows : SealedRows) (end : ℕ) : Type 0 where
  pub header : Header
  pub rows_read : Rows
  pub adoptable : adoptable_rows rows_read ≡ Some rows
  pub read : IsReadAs receipt expected header rows_read
  pub end_is : header.end_seq ≡ end

-- why the object with these bytes is refused: it is bad, or it is a checkpoint
abbrev pub IsWhyRefused : (bytes : List ℕ) (size : ℕ) → Expected → BadObject → Type 0
IsWhyRefused bytes size expected reason =
    IsObjectRefusedAs bytes size expected reason
    ⊎ ((header : Header) × IsObject bytes size expected header rows_of.Checkpoint)

-- why it is not adopted: the list takes none of this number, or it is refused
abbrev pub IsWhyLeft : (bytes : List ℕ) (size : ℕ) → Expected → Option ObjectRefusal → Type 0
IsWhyLeft bytes size expected None = (2 ^ 64 - 1 ≤ expected.number) × (header : Header) × (rows : Rows)
    × IsObject bytes size expected header rows
IsWhyLeft bytes size expected (Some refusal) =
    (refusal.number ≡ expected.number) × IsWhyRefused bytes size expected refusal.reason

-- it is not, and was judged so
pub record IsNotAdopted (bytes : List ℕ) (size : ℕ) (expected : Expected) (reached : Reached) : Type 0 where
  pub number : reached.number ≡ expected.number
  pub named : reached.number < 2 ^ 64
  pub is_end : IsEndOf bytes size expected reached.end
  pub why : IsWhyLeft bytes size expected reached.refused

-- the expected object was read
abbrev pub IsNextRead : ReceiptState → Expected → NextObject → Type 0
IsNextRead receipt expected (next_object.Whole object) = IsReadToAdopt receipt expected object.rows object.end
    × (expected.number < 2 ^ 64 - 1)
IsNextRead receipt expected (next_object.Left reached) =
    IfSome receipt.told (λ told. IsNotAdopted told receipt.size expected reached)

-- ---- in the store

-- the store has the expected object, which may be adopted, with these rows and this end, and the receipt is for it
pub record IsStoredAs (objects : Objects) (expected : Expected) (rows : SealedRows) (end : ℕ) (receipt : ReceiptState) :
    Type 0 where
  pub bytes : List ℕ
  pub present : found objects (object_name expected expected.number) ≡ Some bytes
  pub header : Header
  pub rows_read : Rows
  pub adoptable : adoptable_rows rows_read ≡ Some rows
  pub is_object : IsObject bytes (length bytes) expected header rows_read
  pub end_is : header.end_seq ≡ end
  pub receipt_is : IsReceiptFor bytes receipt

-- the store has the expected object, which is not adopted
pub record IsLeftAt (objects : Objects) (expected : Expected) (reached : Reached) : Type 0 where
  pub bytes : List ℕ
  pub present : found objects (object_name expected expected.number) ≡ Some bytes
  pub left : IsNotAdopted bytes (length bytes) expected reached

-- the store has none of the next number, or it is past all numbers
abbrev pub HasNoNext : Objects → ObjLogState → Type 0
HasNoNext objects log = log.uploads.window.last + 1 < 2 ^ 64
    → found objects (object_name (expected_of_volume log) (log.uploads.window.last + 1)) ≡ None

-- the object of the next number was read and adopted; where receipts tell, it is the one that the store has
pub record AdoptsNext (Tells : Type 0) (objects : Option Objects) (old new : ObjLogState) : Type 0 where
  pub rows : SealedRows
  pub end : ℕ
  pub receipt : ReceiptState
  pub order : IsUploads old.uploads
  pub named : old.uploads.window.last + 1 < 2 ^ 64
  pub read : IsReadToAdopt receipt (next_of old) rows end
  pub adopted : HasAdoptedObject rows end receipt old new
  pub stored : Tells → IfSome objects (λ objects. IsStoredAs objects (next_of old) rows end receipt)

abbrev pub ComesNext : (Tells : Type 0) → Option Objects → (old new : ObjLogState) → Next → Type 0
ComesNext Tells objects old new next.Missing = (new ≡ old) × (Tells → IfSome objects (λ objects. HasNoNext objects old))
ComesNext Tells objects old new next.Adopted = AdoptsNext Tells objects old new
ComesNext Tells objects old new (next.Left reached) = (new ≡ old)
    × (Tells → IfSome objects (λ objects. IsLeftAt objects (next_of old) reached))

-- ---- up to the first missing number

-- how far the objects of a list were judged where all are adopted
abbrev pub reached_by : ObjLogState → Reached
reached_by log = record { number = log.uploads.window.last; end = Some log.uploads.queue.end; refused = None }

-- where those of one list were judged good, those of the other one are
abbrev pub KeepsGood : Expected → Objects → (old new : ObjLogState) → Type 0
KeepsGood volume objects old new = (base : ℕ) → IsReached volume objects base (reached_by old)
    → IsReached volume objects base (reached_by new)

-- where the table of one list has just the objects of the store from a checkpoint on, that of the other one has
abbrev pub KeepsKnown : Expected → Objects → (old new : ObjLogState) → Type 0
KeepsKnown volume objects old new = (base : ℕ) → base ≤ old.uploads.queue.frontier
    → KnowsObjects volume objects base old.uploads.queue → KnowsObjects volume objects base new.uploads.queue

-- where the table of one list is from a checkpoint on, before any hold is read, that of the other one is
abbrev pub KeepsTable : (old new : ObjLogState) → Type 0
KeepsTable old new = (checkpoint : ℕ) → HasTableUnheld checkpoint old.uploads.queue
    → HasTableUnheld checkpoint new.uploads.queue

-- the list ends before the first missing number, or before this object
abbrev pub HasEndedAt : Objects → ObjLogState → Option Reached → Type 0
HasEndedAt objects log None = HasNoNext objects log
HasEndedAt objects log (Some reached) = IsLeftAt objects (next_of log) reached

-- ---- the others

abbrev pub ReachesGap : Expected → Objects → ObjLogState → (left : Option Reached) → (gap : Reached) → Type 0
ReachesGap volume objects log None gap = gap ≡ reached_by log
ReachesGap volume objects log (Some reached) gap = GoesToGap volume objects reached gap

-- All past this one, or where it is none past the list, were judged by the names of the objects that there are.
pub record JudgesRest (objects : Objects) (log : ObjLogState) (names : List ObjName) (left : Option Reached)
    (refused : Option ObjectRefusal) : Type 0 where
  pub gap : Reached
  pub reaches : ReachesGap (expected_of_volume log) objects log left gap
  pub past : JudgesPast (expected_of_volume log) objects names gap refused
  pub stays : StaysRefused gap.refused refused

-- and the error refuses all so; or it is no answer
abbrev pub RefusesRest : Objects → ObjLogState → List ObjName → Option Reached → RecoverError → Type 0
RefusesRest objects log names left error =
    IsNoAnswer error
    ⊎ ((refusal : ObjectRefusal) × (error ≡ of_refusal refusal) × JudgesRest objects log names left (Some refusal))

-- ---- the whole

-- beside an object that the newest checkpoint maps and that does not have what it maps: all past the checkpoint were judged, up
-- to which this was reached, and the error refuses one of them, or that object
abbrev pub RefusesBeside : Expected → Objects → (base : Reached) → List ObjName → (missing : ℕ) → RecoverError → Type 0
RefusesBeside volume objects base names missing error =
    (gap : Reached) × (refused : Option ObjectRefusal) × GoesToGap volume objects base gap
    × JudgesPast volume objects names gap refused × (error ≡ refusal_or_missing missing refused)

-- a list went on from a checkpoint: its objects were adopted up to the first missing number, or before this one
pub record HasGoneOn (objects : Objects) (old new : ObjLogState) (left : Option Reached) : Type 0 where
  pub list : IsListUpTo old.uploads.uuid old.batch.geometry old.uploads.ancestors new.uploads.window.last new.uploads.queue.end
      new
  pub streams : KeepsStreams (expected_of_volume old) objects old new
  pub good : KeepsGood (expected_of_volume old) objects old new
  pub knows : KeepsKnown (expected_of_volume old) objects old new
  pub ended : HasEndedAt objects new left

-- and all past it were judged, and none is refused; or the error refuses them, or is no answer
abbrev pub GoesOnWith : Objects → List ObjName → (old new : ObjLogState) → Type 0
GoesOnWith objects names old new =
    (left : Option Reached) × HasGoneOn objects old new left × JudgesRest objects new names left None

abbrev pub StopsWith : Objects → List ObjName → (old : ObjLogState) → RecoverError → Type 0
StopsWith objects names old error =
    IsNoAnswer error
    ⊎ ((new : ObjLogState) × (left : Option Reached) × HasGoneOn objects old new left
    × RefusesRest objects new names left error)

-- how a list goes on from a checkpoint
pub record GoesOnOf (Tells : Type 0) (log : ObjLogState) (names : List ObjName) (old new : StoreState)
    (result : Result ObjLogState RecoverError) : Type 0 where
  pub list : IfOk result (λ after. IsListUpTo log.uploads.uuid log.batch.geometry log.uploads.ancestors
      after.uploads.window.last after.uploads.queue.end after)
  pub from : IfOk result (λ after. log.uploads.window.last ≤ after.uploads.window.last)
  pub order : IfOk result (λ after. IsUploads after.uploads)
  pub places : IfOk result (λ after. HasPlacesInside log.batch.geometry.sectors log.uploads.queue
      → HasPlacesInside log.batch.geometry.sectors after.uploads.queue)
  pub table : IfOk result (KeepsTable log)
  pub goes_on : Tells → IfOk result (λ after. IfSome old.objects (λ objects. GoesOnWith objects names log after))
  pub refused : Tells → IfErr result (λ error. IfSome old.objects (λ objects. StopsWith objects names log error))
  pub unchanged : OnlyCounts old new
  pub faults : Counts (ends_by_fault result) old.faults new.faults

-- a recovery begins at the newest checkpoint of a volume, with the names of all its objects
pub record IsRecoveryBegun (uuid : List ℕ) (geometry : Geometry) (ancestors : ℕ) (base : ReadCheckpoint) (names : List ObjName)
    (objects : Objects) : Type 0 where
  pub stored : IsStoredCheckpoint (expected_of uuid geometry ancestors) objects base
  pub newest : IsNewest (expected_of uuid geometry ancestors) objects base.number
  pub listed : Lists uuid objects names

-- a list that was recovered, and the uuid of the ancestor that lacks the first object of those that ancestors lack, if they do
pub record ListedState : Type 0 where
  pub log : ObjLogState
  pub absent : Option (List ℕ)

-- How the recovery of a list ends that begins at this checkpoint, with these names. Where bytes are told, and a recovery begins
-- so in the store, the list is that of what the store has, or the error refuses what it has.
pub record RecoverListOf (Tells : Type 0) (uuid : List ℕ) (geometry : Geometry) (chain : List Ancestor) (base : ReadCheckpoint)
    (names : List ObjName) (old new : StoreState) (result : Result ListedState RecoverError) : Type 0 where
  pub list : IfOk result (λ it. IsListUpTo uuid geometry (length chain) it.log.uploads.window.last it.log.uploads.queue.end
      it.log)
  pub from : IfOk result (λ it. base.number ≤ it.log.uploads.window.last)
  pub order : IfOk result (λ it. IsUploads it.log.uploads)
  pub places : IfOk result (λ it. it.absent ≡ None → HasPlacesInside geometry.sectors it.log.uploads.queue)
  pub table : IfOk result (λ it. HasTableUnheld base.number it.log.uploads.queue)
  pub recovers : Tells → IfOk result (λ it. IfSome old.objects (λ objects.
      IsRecoveryBegun uuid geometry (length chain) base names objects
      → Recovers (expected_of uuid geometry (length chain)) (uuid_in_chain uuid chain) base.number objects it.log it.absent))
  pub refused : Tells → IfErr result (λ error. IfSome old.objects (λ objects.
      IsRecoveryBegun uuid geometry (length chain) base names objects
      → IsRecoveryRefused (expected_of uuid geometry (length chain)) (uuid_in_chain uuid chain) objects error))
  pub unchanged : OnlyCounts old new
  pub faults : Counts (ends_by_fault result) old.faults new.faults
