-- For `recover_list`: the list of a volume, and why it is not recovered.
use Rattle.std.proofs.Common.{◌≡◌, ℕ, ◌<◌, ◌^◌, inl, inr, List, false, refl, sym, ◌∙◌, ap, subst, arith}
use Rattle.std.specs.Prelude.{Option, Some, None, IfSome, IsTrue, length}
use Rattle.std.proofs.lemmas.Bool.Decides.{nat_tests}
use Rattle.clone_chain.specs.declared.ancestor.Ancestor.{Ancestor}
use Rattle.lsvd_base.specs.declared.geometry.Geometry.{Geometry}
use Rattle.lsvd_base.specs.Limits.{is_within_limits}
use Rattle.lsvd_fault.specs.Faults.{Counts}
use Rattle.lsvd_objstore.specs.Objects.{Objects}
use Rattle.object_format.specs.declared.expected.Expected.{Expected}
use Rattle.obj_log.specs.State.{ObjLogState}
use Rattle.stopped_volume.specs.Ancestors.{uuid_in_chain}
use Rattle.stopped_volume.specs.Holds.{HasHeldCheckpoints}
use Rattle.plain_disk.specs.State.{PlainState, stream_in}
use Rattle.object_recovery.specs.declared.error.RecoverError.{RecoverError}
use Rattle.object_recovery.specs.declared.error.RecoverError.TheVariants as recovery
use Rattle.object_recovery.specs.Faults.{is_store_fault, IsNoAnswer}
use Rattle.object_recovery.specs.Checkpoints.{expected_of, IsNewestWithEnd, IsNoCheckpoint}
use Rattle.object_recovery.specs.Recovery.{HasDataUpTo, IsListUpTo, HasRecovered, IsLastLanded}
use Rattle.object_recovery.specs.Recovery.{IsRefusal}
use Rattle.object_recovery.specs.Recovering.{Recovers, IsRefusedThere}
use Rattle.object_recovery.specs.Table.{HasTableFrom, KnowsObjects, KnowsHolds}
use Rattle.object_recovery.proofs.RecoverLemmas.{base_is}
use Rattle.refine_mount.specs.Found.{expected_for, HasObjects}
use Rattle.refine_mount.specs.Mounted.{end_of_object, sizes_with, mounted_without}
use Rattle.refine_mount.specs.Rest.{IsAtRest}
use Rattle.refine_mount.proofs.RestLemmas.{mounted_is_at_rest, recovered_shows_objects}
use Rattle.refine_mount.proofs.TableLemmas.{recovered_shows_table}
use Rattle.refine_objects.specs.Shows.{ShowsObjects}
use Rattle.refine_objects.specs.Table.{ShowsTable}
use Rattle.vol_core.specs.Shows.{max_number}
use Rattle.refusals.specs.declared.refusal.Refusal.TheVariants.{NoCheckpoint, Worn}
use Rattle.vol_mount.specs.declared.error.MountError.{MountError}
use Rattle.vol_mount.specs.declared.error.MountError.TheVariants.{Refused, StoreFault, DeviceFault, OutOfMemory}
use Rattle.vol_mount.specs.Mounting.{IsStored, RefusesNoneStored}
use Rattle.vol_mount.specs.Refusals.{of_recovery, IsWhyNotStored, IsWhyLost, HasGoodObjects, IsFault, refuses, is_device_fault}
use Rattle.vol_mount.specs.Refusals.{is_store_fault_of}
use Rattle.vol_mount.specs.Passing.{AreGoodUpTo}
use Rattle.vol_mount.specs.Steps.{IsRecovered, IsRecoveredFrom}

-- ---- the errors of a recovery

pub no_device_fault : (error : RecoverError) → is_device_fault (of_recovery error) ≡ false
no_device_fault recovery.NoCheckpoint = refl
no_device_fault (recovery.BadObject number reason) = refl
no_device_fault (recovery.MissingObject number) = refl
no_device_fault (recovery.BaseMissing ancestor) = refl
no_device_fault recovery.StoreFault = refl
no_device_fault recovery.OutOfMemory = refl

pub same_fault : (error : RecoverError) → is_store_fault_of (of_recovery error) ≡ is_store_fault error
same_fault recovery.NoCheckpoint = refl
same_fault (recovery.BadObject number reason) = refl
same_fault (recovery.MissingObject number) = refl
same_fault (recovery.BaseMissing ancestor) = refl
same_fault recovery.StoreFault = refl
same_fault recovery.OutOfMemory = refl

none_is : (uuid : List ℕ) (geometry : Geometry) (chain : List Ancestor) (objects : Option Objects)
    → IfSome objects (λ o. IsRefusedThere (expected_of uuid geometry (length chain))
    (uuid_in_chain uuid chain) o recovery.NoCheckpoint)
    → IfSome objects (λ o. (number : ℕ) → 0 < number → IsNoCheckpoint (expected_of uuid geometry (length chain)) o number)
none_is uuid geometry chain None refused = tt
none_is uuid geometry chain (Some objects) (inl refused) = λ number more. refused.why number
none_is uuid geometry chain (Some objects) (inr (inl held)) = absurd held.refuses.why
none_is uuid geometry chain (Some objects) (inr (inr lacks)) = absurd (let bad = lacks.is in cc)

pub why_of : (error : RecoverError) (uuid : List ℕ) (geometry : Geometry) (chain : List Ancestor) (objects : Option Objects)
    → IfSome objects (λ o. IsRefusedThere (expected_of uuid geometry (length chain)) (uuid_in_chain uuid chain) o error)
    → IsWhyNotStored uuid geometry chain objects (of_recovery error)
why_of recovery.NoCheckpoint uuid geometry chain objects refused = none_is uuid geometry chain objects refused
why_of (recovery.BadObject number reason) uuid geometry chain objects refused = refused
why_of (recovery.MissingObject number) uuid geometry chain objects refused = refused
why_of (recovery.BaseMissing ancestor) uuid geometry chain objects refused = refused
why_of recovery.StoreFault uuid geometry chain objects refused = tt
why_of recovery.OutOfMemory uuid geometry chain objects refused = tt

-- the stream of a plain volume that the store has
data_of : (uuid : List ℕ) (geometry : Geometry) (chain : List Ancestor) (plain : PlainState) (number : ℕ) (objects : Objects)
    → geometry ≡ sizes_with geometry.log plain.geometry → plain.chain ≡ chain → HasObjects uuid plain number objects
    → HasDataUpTo (expected_of uuid geometry (length chain)) (uuid_in_chain uuid chain) objects (stream_in plain) plain.opening
    number
data_of uuid geometry chain plain number objects sizes chain_is has =
    subst (λ c. HasDataUpTo (expected_of uuid geometry (length c)) (uuid_in_chain uuid c) objects (stream_in plain) plain.opening
    number) chain_is
    (subst (λ g. HasDataUpTo (expected_of uuid g (length plain.chain)) (uuid_in_chain uuid plain.chain) objects (stream_in plain)
    plain.opening number) (sym sizes) has.stored)

-- what is expected of a plain volume's objects, by these sizes and these ancestors
same_volume : (uuid : List ℕ) (geometry : Geometry) (chain : List Ancestor) (plain : PlainState)
    → geometry ≡ sizes_with geometry.log plain.geometry → plain.chain ≡ chain
    → expected_for uuid plain ≡ expected_of uuid geometry (length chain)
same_volume uuid geometry chain plain sizes chain_is =
    ap (λ (g : Geometry). expected_of uuid g (length plain.chain)) (sym sizes)
    ∙ ap (λ (c : List Ancestor). expected_of uuid geometry (length c)) chain_is

refuses_none : (error : RecoverError) (uuid : List ℕ) (geometry : Geometry) (chain : List Ancestor) (objects : Option Objects)
    → IsRefusal error
    → IfSome objects (λ o. IsRefusedThere (expected_of uuid geometry (length chain)) (uuid_in_chain uuid chain) o error)
    → (plain : PlainState) (number : ℕ)
    → IsStored uuid geometry chain plain number objects → ⊥
refuses_none error uuid geometry chain None refusal refused plain number stored = absurd stored.objects_are
refuses_none error uuid geometry chain (Some objects) refusal (inl refused) plain number stored =
    let has : HasObjects uuid plain number objects = stored.objects_are in
    refused.no_stream (stream_in plain) plain.opening number
    (data_of uuid geometry chain plain number objects stored.sizes stored.chain_is has) refusal
refuses_none error uuid geometry chain (Some objects) refusal (inr (inl held)) plain number stored =
    let has : HasObjects uuid plain number objects = stored.objects_are in
    held.refuses.not_there
    ((subst (λ (v : Expected). HasHeldCheckpoints v objects) (same_volume uuid geometry chain plain stored.sizes stored.chain_is)
    has.holds.checkpoints) held.number held.is_held)
refuses_none error uuid geometry chain (Some objects) refusal (inr (inr lacks)) plain number stored =
    let has : HasObjects uuid plain number objects = stored.objects_are in
    lacks.no_stream (stream_in plain) plain.opening number
    (data_of uuid geometry chain plain number objects stored.sizes stored.chain_is has) refusal

pub no_refusal_of : (error : RecoverError) (uuid : List ℕ) (geometry : Geometry) (chain : List Ancestor)
    (objects : Option Objects)
    → IfSome objects (λ o. IsRefusedThere (expected_of uuid geometry (length chain)) (uuid_in_chain uuid chain) o error)
    → RefusesNoneStored uuid geometry chain objects (of_recovery error)
no_refusal_of recovery.NoCheckpoint uuid geometry chain objects refused = λ plain number stored.
    absurd (refuses_none recovery.NoCheckpoint uuid geometry chain objects tt refused plain number stored)
no_refusal_of (recovery.BadObject n reason) uuid geometry chain objects refused = λ plain number stored.
    absurd (refuses_none (recovery.BadObject n reason) uuid geometry chain objects tt refused plain number stored)
no_refusal_of (recovery.MissingObject n) uuid geometry chain objects refused = λ plain number stored.
    absurd (refuses_none (recovery.MissingObject n) uuid geometry chain objects tt refused plain number stored)
no_refusal_of (recovery.BaseMissing ancestor) uuid geometry chain objects refused = λ plain number stored.
    absurd (refuses_none (recovery.BaseMissing ancestor) uuid geometry chain objects tt refused plain number stored)
no_refusal_of recovery.StoreFault uuid geometry chain objects refused = λ plain number stored. refl
no_refusal_of recovery.OutOfMemory uuid geometry chain objects refused = λ plain number stored. refl

-- ---- the newest checkpoint

-- where bytes are told, a checkpoint is the newest with some end
abbrev pub IsToldNewest : (uuid : List ℕ) → Geometry → List Ancestor → Option Objects → (checkpoint : ℕ) → Type 0
IsToldNewest uuid geometry chain objects checkpoint =
    IfSome objects (λ o. (end : ℕ) × IsNewestWithEnd (expected_of uuid geometry (length chain)) o checkpoint end)

pub told_newest : (uuid : List ℕ) (geometry : Geometry) (chain : List Ancestor) (objects : Option Objects) (log : ObjLogState)
    (checkpoint : ℕ)
    → IfSome objects (λ o. Recovers (expected_of uuid geometry (length chain)) (uuid_in_chain uuid chain) checkpoint o log None)
    → IsToldNewest uuid geometry chain objects checkpoint
told_newest uuid geometry chain None log checkpoint told = tt
told_newest uuid geometry chain (Some objects) log checkpoint told = told.checkpoint

-- a checkpoint with the number 0 is the only one
pub only_none : (uuid : List ℕ) (geometry : Geometry) (chain : List Ancestor) (objects : Option Objects) (checkpoint : ℕ)
    → checkpoint ≡ 0
    → IsToldNewest uuid geometry chain objects checkpoint
    → IsWhyNotStored uuid geometry chain objects (Refused NoCheckpoint)
only_none uuid geometry chain None checkpoint none newest = tt
only_none uuid geometry chain (Some objects) checkpoint none newest = λ number more end owned is.
    let most = newest.1.newest number end owned is in
    absurd (omega (arith, most, none, more))

wide_is : (geometry : Geometry) → IsTrue (is_within_limits geometry) → geometry.sectors < 2 ^ 64
wide_is geometry limits = grind (arith, nat_tests, limits)

-- the newest checkpoint is that of each plain volume that the store has
checkpoint_is : (uuid : List ℕ) (geometry : Geometry) (chain : List Ancestor) (plain : PlainState) (number : ℕ)
    (objects : Objects) (checkpoint end : ℕ)
    → IsTrue (is_within_limits geometry) → IsNewestWithEnd (expected_of uuid geometry (length chain)) objects checkpoint end
    → geometry ≡ sizes_with geometry.log plain.geometry → plain.chain ≡ chain
    → HasObjects uuid plain number objects → plain.checkpoint.number ≡ checkpoint
checkpoint_is uuid geometry chain plain number objects checkpoint end limits newest sizes chain_is has =
    let is = base_is (expected_of uuid geometry (length chain)) objects checkpoint end (wide_is geometry limits) newest
    (uuid_in_chain uuid chain) (stream_in plain) plain.opening number
    (data_of uuid geometry chain plain number objects sizes chain_is has) in
    has.opened ∙ sym is

-- no plain volume has the number 0
pub only_none_refuses : (uuid : List ℕ) (geometry : Geometry) (chain : List Ancestor) (objects : Option Objects) (checkpoint : ℕ)
    → IsTrue (is_within_limits geometry)
    → checkpoint ≡ 0
    → IsToldNewest uuid geometry chain objects checkpoint → RefusesNoneStored uuid geometry chain objects (Refused NoCheckpoint)
only_none_refuses uuid geometry chain None checkpoint limits none newest = λ plain number stored. absurd stored.objects_are
only_none_refuses uuid geometry chain (Some objects) checkpoint limits none newest = λ plain number stored.
    let is = checkpoint_is uuid geometry chain plain number objects checkpoint newest.0 limits newest.1 stored.sizes
    stored.chain_is stored.objects_are in
    let more = stored.valid.checkpoint.numbered in
    absurd (omega (arith, is, more, none))

-- ---- the list

pub recovered_from : (uuid : List ℕ) (geometry : Geometry) (chain : List Ancestor) (objects : Option Objects) (log : ObjLogState)
    (checkpoint : ℕ)
    → IfSome objects (λ o. Recovers (expected_of uuid geometry (length chain)) (uuid_in_chain uuid chain) checkpoint o log None)
    → IfSome objects (λ o. KnowsHolds (expected_of uuid geometry (length chain)) o log.uploads.queue)
    → IfSome objects (λ o. IsRecoveredFrom uuid geometry chain o log checkpoint)
recovered_from uuid geometry chain None log checkpoint told holds = tt
recovered_from uuid geometry chain (Some objects) log checkpoint told holds = record {
  checkpoint_end = told.checkpoint.0;
  newest = told.checkpoint.1;
  landed = told.landed;
  no_longer = told.no_longer;
  good = told.good;
  named = λ end owned checkpoint. (told.finds end owned checkpoint).whole refl;
  knows = told.knows;
  holds = holds;
  recovered = told.recovered;
}

-- the list ends before the first missing number, where its numbers are low
pub last_landed : (uuid : List ℕ) (geometry : Geometry) (chain : List Ancestor) (objects : Option Objects) (log : ObjLogState)
    (checkpoint : ℕ)
    → log.uploads.window.last < max_number → IfSome objects (λ o. IsRecoveredFrom uuid geometry chain o log checkpoint)
    → IfSome objects (λ o. IsLastLanded (expected_of uuid geometry (length chain)) o log.uploads.window.last)
last_landed uuid geometry chain None log checkpoint low is = tt
last_landed uuid geometry chain (Some objects) log checkpoint low is = (is.recovered (omega (arith, low))).last

-- its objects are good
pub good_objects : (uuid : List ℕ) (geometry : Geometry) (chain : List Ancestor) (objects : Option Objects) (log : ObjLogState)
    (checkpoint : ℕ)
    → IsRecovered uuid geometry (length chain) log checkpoint
    → IfSome objects (λ o. IsRecoveredFrom uuid geometry chain o log checkpoint)
    → HasGoodObjects uuid geometry chain objects
good_objects uuid geometry chain None log checkpoint is from = tt
good_objects uuid geometry chain (Some objects) log checkpoint is from =
    (checkpoint, is.numbered, from.good, from.named, from.holds.checkpoints)

pub good_up_to : (uuid : List ℕ) (geometry : Geometry) (chain : List Ancestor) (objects : Option Objects) (log : ObjLogState)
    (checkpoint : ℕ)
    → log.uploads.window.last < max_number → IsRecovered uuid geometry (length chain) log checkpoint
    → IfSome objects (λ o. IsRecoveredFrom uuid geometry chain o log checkpoint)
    → IfSome objects (AreGoodUpTo uuid geometry chain log.uploads.window.last)
good_up_to uuid geometry chain None log checkpoint low is from = tt
good_up_to uuid geometry chain (Some objects) log checkpoint low is from = record {
  base = checkpoint;
  numbered = is.numbered;
  from = is.from;
  good = from.good;
  named = from.named;
  holds = from.holds.checkpoints;
  landed = from.landed;
  last = (from.recovered (omega (arith, low))).last;
}

-- what a list is of a plain volume that the store has
pub record IsListOf (uuid : List ℕ) (geometry : Geometry) (chain : List Ancestor) (plain : PlainState) (number : ℕ)
    (objects : Objects)
    (log : ObjLogState)
    (checkpoint : ℕ) : Type 0 where
  pub has : HasObjects uuid plain number objects
  pub at_rest : IsAtRest geometry checkpoint log.uploads.queue.end (mounted_without geometry.log number plain)
  pub shows : (data_at : ℕ → ℕ) → ShowsObjects data_at log (mounted_without geometry.log number plain)
  pub table : ShowsTable log.uploads.queue (mounted_without geometry.log number plain)
  pub end_is : log.uploads.queue.end ≡ end_of_object number plain
  pub number_is : log.uploads.window.last ≡ number

-- where the store has a plain volume, the list's table is known from that one's newest checkpoint on
knows_plain : (uuid : List ℕ) (geometry : Geometry) (chain : List Ancestor) (plain : PlainState) (number : ℕ) (objects : Objects)
    (log : ObjLogState)
    (checkpoint : ℕ)
    → IsTrue (is_within_limits geometry) → IsRecoveredFrom uuid geometry chain objects log checkpoint
    → IsStored uuid geometry chain plain number (Some objects)
    → KnowsObjects (expected_of uuid geometry (length chain)) objects plain.checkpoint.number log.uploads.queue
knows_plain uuid geometry chain plain number objects log checkpoint limits from stored =
    let first =
    checkpoint_is uuid geometry chain plain number objects checkpoint from.checkpoint_end limits from.newest stored.sizes
    stored.chain_is stored.objects_are in
    subst (λ n. KnowsObjects (expected_of uuid geometry (length chain)) objects n log.uploads.queue) (sym first) from.knows

pub knows_stored : (uuid : List ℕ) (geometry : Geometry) (chain : List Ancestor) (plain : PlainState) (number : ℕ)
    (objects : Option Objects)
    (log : ObjLogState) (checkpoint : ℕ)
    → IsTrue (is_within_limits geometry) → IfSome objects (λ o. IsRecoveredFrom uuid geometry chain o log checkpoint)
    → IsStored uuid geometry chain plain number objects
    → IfSome objects (λ o. KnowsObjects (expected_of uuid geometry (length chain)) o plain.checkpoint.number log.uploads.queue)
knows_stored uuid geometry chain plain number None log checkpoint limits from stored = tt
knows_stored uuid geometry chain plain number (Some objects) log checkpoint limits from stored =
    knows_plain uuid geometry chain plain number objects log checkpoint limits from stored

list_of_told : (uuid : List ℕ) (geometry : Geometry) (chain : List Ancestor) (plain : PlainState) (number : ℕ) (objects : Objects)
    (log : ObjLogState)
    (checkpoint : ℕ)
    → IsTrue (is_within_limits geometry) → IsRecovered uuid geometry (length chain) log checkpoint
    → IsRecoveredFrom uuid geometry chain objects log checkpoint
    → IsStored uuid geometry chain plain number (Some objects) → IsListOf uuid geometry chain plain number objects log checkpoint
list_of_told uuid geometry chain plain number objects log checkpoint limits is from stored =
    let has : HasObjects uuid plain number objects = stored.objects_are in
    let sizes = stored.sizes in
    let of_data = data_of uuid geometry chain plain number objects sizes stored.chain_is has in
    let short = from.no_longer (stream_in plain) plain.opening number of_data in
    let low = stored.low in
    let recovered : HasRecovered plain.opening (stream_in plain) number log =
    (from.recovered (omega (arith, short, low))).streams (stream_in plain) plain.opening number of_data in
    let first = checkpoint_is uuid geometry chain plain number objects checkpoint from.checkpoint_end limits from.newest sizes
    stored.chain_is has in
    let fits = subst (λ g. IsTrue (is_within_limits g)) sizes limits in
    let rest = mounted_is_at_rest uuid geometry.log plain number objects stored.valid has fits in
    let up_to =
    subst (λ g. IsListUpTo uuid g (length plain.chain) log.uploads.window.last log.uploads.queue.end log) sizes
    (subst (λ (c : List Ancestor). IsListUpTo uuid geometry (length c) log.uploads.window.last log.uploads.queue.end log)
    (sym stored.chain_is) is.list) in
    let volume_is = sym (same_volume uuid geometry chain plain sizes stored.chain_is) in
    let knows =
    knows_plain uuid geometry chain plain number objects log checkpoint limits from stored in
    let R : Geometry → ℕ → ℕ → Type 0 = λ g c e. IsAtRest g c e (mounted_without geometry.log number plain) in
    record {
      has = has;
      at_rest =
          subst (λ e. R geometry checkpoint e) (sym recovered.end_is)
          (subst (λ c. R geometry c (end_of_object number plain)) first
          (subst (λ g. R g plain.checkpoint.number (end_of_object number plain)) (sym sizes) rest));
      shows = λ data_at.
          recovered_shows_objects uuid data_at geometry.log plain number objects log stored.valid has up_to recovered;
      table =
          recovered_shows_table uuid geometry.log plain number objects log stored.valid has up_to recovered.number_is is.order
          (subst (λ n. HasTableFrom n log.uploads.queue) (sym first) is.table)
          (subst (λ (v : Expected). KnowsObjects v objects plain.checkpoint.number log.uploads.queue) volume_is knows)
          (subst (λ (v : Expected). KnowsHolds v objects log.uploads.queue) volume_is from.holds);
      end_is = recovered.end_is;
      number_is = recovered.number_is;
    }

pub list_of : (uuid : List ℕ) (geometry : Geometry) (chain : List Ancestor) (plain : PlainState) (number : ℕ)
    (objects : Option Objects)
    (log : ObjLogState) (checkpoint : ℕ)
    → IsTrue (is_within_limits geometry) → IsRecovered uuid geometry (length chain) log checkpoint
    → IfSome objects (λ o. IsRecoveredFrom uuid geometry chain o log checkpoint)
    → IsStored uuid geometry chain plain number objects → (o : Objects)
    × IsListOf uuid geometry chain plain number o log checkpoint
list_of uuid geometry chain plain number None log checkpoint limits is from stored = absurd stored.objects_are
list_of uuid geometry chain plain number (Some objects) log checkpoint limits is from stored =
    (objects, list_of_told uuid geometry chain plain number objects log checkpoint limits is from stored)

-- ---- what follows the recovery

-- the removal of objects ends by a fault alone
pub removal_faults : (error : RecoverError) → IsNoAnswer error → IsFault (of_recovery error)
removal_faults recovery.NoCheckpoint is = absurd is
removal_faults (recovery.BadObject number reason) is = absurd is
removal_faults (recovery.MissingObject number) is = absurd is
removal_faults (recovery.BaseMissing ancestor) is = absurd is
removal_faults recovery.StoreFault is = tt
removal_faults recovery.OutOfMemory is = tt

-- a fault refuses nothing
pub faults_refuse_none : (error : MountError) → IsFault error → refuses error ≡ false
faults_refuse_none (Refused refusal) is = absurd is
faults_refuse_none StoreFault is = refl
faults_refuse_none DeviceFault is = refl
faults_refuse_none OutOfMemory is = refl

pub why_faulted : (error : MountError) (uuid : List ℕ) (geometry : Geometry) (chain : List Ancestor) (objects : Option Objects)
    → IsFault error
    → IsWhyNotStored uuid geometry chain objects error
why_faulted (Refused refusal) uuid geometry chain objects is = absurd is
why_faulted StoreFault uuid geometry chain objects is = tt
why_faulted DeviceFault uuid geometry chain objects is = tt
why_faulted OutOfMemory uuid geometry chain objects is = tt

-- why a volume is not mounted without its cache, by its objects
pub why_lost_too : (error : MountError) (uuid : List ℕ) (geometry : Geometry) (chain : List Ancestor) (epoch : ℕ)
    (objects : Option Objects)
    → IsWhyNotStored uuid geometry chain objects error → IsWhyLost uuid geometry chain epoch objects error
why_lost_too (Refused (Worn value)) uuid geometry chain epoch objects why = absurd why
why_lost_too error uuid geometry chain epoch objects why = why

-- an error that is passed on was counted as such
pub counts_on : (e : MountError) (error : RecoverError) (old middle new : ℕ) → e ≡ of_recovery error → middle ≡ old
    → Counts (is_store_fault error) middle new → Counts (is_store_fault_of e) old new
counts_on e error old middle new is same counts =
    let fault : is_store_fault error ≡ is_store_fault_of e = sym (same_fault error) ∙ ap is_store_fault_of (sym is) in
    subst (λ n. Counts (is_store_fault_of e) n new) same (subst (λ b. Counts b middle new) fault counts)
