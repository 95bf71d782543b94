-- An object that is on its way to the store keeps its bytes in each step.
use Rattle.std.proofs.Common.{◌≡◌, ℕ, zero, suc, ◌+◌, ◌-◌, ◌≤◌, ◌||◌, Bool, true, false, Option, Some, None, List, [], ◌∷◌, ◌++◌}
use Rattle.std.proofs.Common.{drop, refl, sym, ◌∙◌, ap, subst, arith}
use Rattle.std.specs.List.{list_any}
use Rattle.std.proofs.lemmas.Bool.Decides.{nat_tests}
use Rattle.lsvd_base.specs.declared.entry.Entry.{Entry}
use Rattle.lsvd_objstore.specs.Store.{ReceiptState}
use Rattle.upload_window.specs.declared.object.OpenObject.{OpenObject}
use Rattle.upload_window.specs.Window.{has_number, is_started}
use Rattle.cache_log.specs.Log.{LogState}
use Rattle.object_uploads.specs.State.{JobState, SealedState}
use Rattle.object_uploads.specs.declared.rows.SealedRows.{SealedRows}
use Rattle.object_uploads.specs.Queue.{HasBytesAt, is_checkpoint, just_sealed, with_at, with_spare, with_receipt}
use Rattle.object_uploads.specs.Order.{IsOpenFirst, AreOpen, IsUploads}
use Rattle.object_uploads.specs.Changes.{IsSealedNext, IsPutDone}
use Rattle.obj_log.specs.State.{ObjLogState}
use Rattle.obj_log.specs.Changes.{IsSame}
use Rattle.refine_objects.proofs.FrontierLemmas.{open_after_done}
use Rattle.vol_core.specs.declared.reply.EntryRefusal.{EntryRefusal}
use Rattle.vol_core.specs.declared.reply.EntryRefusal.TheVariants as refusals
use Rattle.vol_core.specs.declared.reply.Reply.{Reply}
use Rattle.vol_core.specs.declared.reply.Reply.TheVariants as told
use Rattle.vol_core.specs.Volume.{VolumeState}
use Rattle.vol_core.specs.Step.{KeepsBytes}
use Rattle.vol_core.specs.Calls.{Seals, SealsCheckpoint, TakesLowestReady, Finishes, Returns, IsRefusedEntry, Enters}
use Rattle.vol_core.proofs.StepLemmas.{with_objects}
use Rattle.vol_core.proofs.EnterSteps.{with_both}

-- ---- the bytes at an index

-- one more object comes last
bytes_of_more : (index : ℕ) (sealed more : List SealedState) (bytes : List ℕ) → HasBytesAt index sealed bytes
    → HasBytesAt index (sealed ++ more) bytes
bytes_of_more index [] more bytes has = absurd has
bytes_of_more zero (first ∷ sealed) more bytes has = has
bytes_of_more (suc index) (first ∷ sealed) more bytes has = bytes_of_more index sealed more bytes has

-- one object changes, but for its bytes
bytes_of_changed : (index at : ℕ) (change : SealedState → SealedState) (sealed : List SealedState) (bytes : List ℕ)
    → ((object : SealedState) → (change object).bytes ≡ object.bytes) → HasBytesAt index sealed bytes
    → HasBytesAt index (with_at at change sealed) bytes
bytes_of_changed index at change [] bytes same has = absurd has
bytes_of_changed zero zero change (first ∷ sealed) bytes same has = has ∙ sym (same first)
bytes_of_changed zero (suc at) change (first ∷ sealed) bytes same has = has
bytes_of_changed (suc index) zero change (first ∷ sealed) bytes same has = has
bytes_of_changed (suc index) (suc at) change (first ∷ sealed) bytes same has =
    bytes_of_changed index at change sealed bytes same has

-- the first objects go
bytes_of_rest : (count index at : ℕ) (sealed : List SealedState) (bytes : List ℕ) → at ≡ count + index
    → HasBytesAt at sealed bytes
    → HasBytesAt index (drop count sealed) bytes
bytes_of_rest zero index at sealed bytes is has =
    let same : at ≡ index = omega (arith, is) in
    subst (λ n. HasBytesAt n sealed bytes) same has
bytes_of_rest (suc count) index at [] bytes is has = absurd has
bytes_of_rest (suc count) index zero (first ∷ sealed) bytes is has = absurd (omega (arith, is))
bytes_of_rest (suc count) index (suc at) (first ∷ sealed) bytes is has =
    let less : at ≡ count + index = omega (arith, is) in
    bytes_of_rest count index at sealed bytes less has

-- ---- the numbers of open objects

-- an open object has the number from which they count, or a later one
module _ (wanted : ℕ) where
  past_test : (test : Bool) (number : ℕ) (object : OpenObject) (objects : List OpenObject) → has_number wanted object ≡ test
      → object.number ≡ number
      → (list_any (has_number wanted) objects ≡ true → number + 1 ≤ wanted) → (test || list_any (has_number wanted) objects)
      ≡ true → number ≤ wanted
  past_test true number object objects test is later open_ =
      let named : object.number ≡ wanted = grind (arith, nat_tests) in
      omega (arith, named, is)
  past_test false number object objects test is later open_ =
      let past = later open_ in
      omega (arith, past)

  past_first : (number : ℕ) (receipt : Option ReceiptState) (kind has_spare : Bool) (objects : List OpenObject)
      (more : List SealedState)
      → ((list : List OpenObject) → AreOpen (number + 1) more list → list_any (has_number wanted) list ≡ true
      → number + 1 ≤ wanted)
      → IsOpenFirst number receipt kind has_spare objects (AreOpen (number + 1) more)
      → list_any (has_number wanted) objects ≡ true → number ≤ wanted
  past_first number (Some receipt) kind has_spare objects more later are open_ =
      let past = later objects are open_ in
      omega (arith, past)
  past_first number None kind has_spare [] more later are open_ = absurd are
  past_first number None kind has_spare (object ∷ objects) more later are open_ =
      past_test (has_number wanted object) number object objects refl are.0 (λ is. later objects are.3 is) open_

  open_past : (number : ℕ) (sealed : List SealedState) (objects : List OpenObject) → AreOpen number sealed objects
      → list_any (has_number wanted) objects ≡ true → number ≤ wanted
  open_past number [] objects are open_ =
      let none : list_any (has_number wanted) [] ≡ true = subst (λ list. list_any (has_number wanted) list ≡ true) are open_ in
      absurd cc
  open_past number (first ∷ sealed) objects are open_ =
      past_first number first.receipt (is_checkpoint first.rows) first.has_spare objects sealed (open_past
      (number + 1) sealed) are open_

-- ---- the objects do not change

pub same_bytes : (old new : VolumeState) → new.objects.uploads.queue.sealed ≡ old.objects.uploads.queue.sealed
    → new.objects.uploads.queue.frontier ≡ old.objects.uploads.queue.frontier → KeepsBytes old new
same_bytes old new sealed frontier number bytes before has after =
    let moved : HasBytesAt (number - (new.objects.uploads.queue.frontier + 1)) old.objects.uploads.queue.sealed bytes =
    subst (λ n. HasBytesAt (number - (n + 1)) old.objects.uploads.queue.sealed bytes) (sym frontier) has in
    subst (λ list. HasBytesAt (number - (new.objects.uploads.queue.frontier + 1)) list bytes) (sym sealed) moved

-- ---- each call of the list

module _ (old : VolumeState) (objects : ObjLogState) where
  abbrev now : VolumeState
  now = with_objects objects old

  unchanged_bytes : objects ≡ old.objects → KeepsBytes old now
  unchanged_bytes same =
      same_bytes old now (ap (λ (o : ObjLogState). o.uploads.queue.sealed) same)
      (ap (λ (o : ObjLogState). o.uploads.queue.frontier) same)

  roomier_bytes : IsSame old.objects objects → KeepsBytes old now
  roomier_bytes same = same_bytes old now same.uploads.sealed same.uploads.settled.frontier

  -- one object changes, but for its bytes
  changed_bytes : (at : ℕ) (change : SealedState → SealedState) → ((object : SealedState) → (change object).bytes ≡ object.bytes)
      → objects.uploads.queue.sealed ≡ with_at at change old.objects.uploads.queue.sealed
      → objects.uploads.queue.frontier ≡ old.objects.uploads.queue.frontier → KeepsBytes old now
  changed_bytes at change same sealed frontier number bytes before has after =
      let index = number - (old.objects.uploads.queue.frontier + 1) in
      let changed = bytes_of_changed index at change old.objects.uploads.queue.sealed bytes same has in
      let moved : HasBytesAt (number - (objects.uploads.queue.frontier + 1))
      (with_at at change old.objects.uploads.queue.sealed) bytes =
      subst (λ n. HasBytesAt (number - (n + 1)) (with_at at change old.objects.uploads.queue.sealed) bytes)
      (sym frontier) changed in
      subst (λ list. HasBytesAt (number - (objects.uploads.queue.frontier + 1)) list bytes) (sym sealed) moved

  -- one more object comes last
  pub sealed_bytes : (bytes : List ℕ) (rows : SealedRows) (end : ℕ)
      → IsSealedNext bytes rows end old.objects.uploads objects.uploads
      → KeepsBytes old now
  sealed_bytes bytes rows end next number own before has after =
      let index = number - (old.objects.uploads.queue.frontier + 1) in
      let more = bytes_of_more index old.objects.uploads.queue.sealed (just_sealed bytes rows end ∷ []) own has in
      let whole : HasBytesAt index objects.uploads.queue.sealed own =
      subst (λ list. HasBytesAt index list own) (sym next.sealed) more in
      subst (λ n. HasBytesAt (number - (n + 1)) objects.uploads.queue.sealed own) (sym next.settled.frontier) whole

  pub seal_keeps_bytes : {R : Type 0} (reply : Reply R) → Seals reply old.objects objects → KeepsBytes old now
  seal_keeps_bytes (told.Sealed number) seals = sealed_bytes _ _ _ seals.0.uploads
  seal_keeps_bytes told.Nothing seals = roomier_bytes seals.0
  seal_keeps_bytes told.Busy seals = roomier_bytes seals.0
  seal_keeps_bytes told.OutOfMemory seals = roomier_bytes seals.0
  seal_keeps_bytes reply seals = absurd seals

  pub checkpoint_keeps_bytes : {R : Type 0} (reply : Reply R) → SealsCheckpoint reply old.objects objects → KeepsBytes old now
  checkpoint_keeps_bytes (told.Sealed number) seals = sealed_bytes _ _ _ seals.0.sealed
  checkpoint_keeps_bytes told.Busy seals = unchanged_bytes seals.0
  checkpoint_keeps_bytes told.OutOfMemory seals = roomier_bytes seals.0
  checkpoint_keeps_bytes reply seals = absurd seals

  pub taking_keeps_bytes : {R : Type 0} (reply : Reply R) → TakesLowestReady reply old.objects objects → KeepsBytes old now
  taking_keeps_bytes (told.Taken job) taken =
      changed_bytes _ (with_spare false) (λ object. refl) (ap (λ (o : ObjLogState). o.uploads.queue.sealed) taken.2)
      (ap (λ (o : ObjLogState). o.uploads.queue.frontier) taken.2)
  taking_keeps_bytes told.Nothing taken = unchanged_bytes taken.1
  taking_keeps_bytes reply taken = absurd taken

  pub returning_keeps_bytes : {R : Type 0} (job : JobState) (reply : Reply R) → Returns job reply old.objects objects
      → KeepsBytes old now
  returning_keeps_bytes job told.Returned returned =
      changed_bytes _ (with_spare true) (λ object. refl) (ap (λ (o : ObjLogState). o.uploads.queue.sealed) returned.1)
      (ap (λ (o : ObjLogState). o.uploads.queue.frontier) returned.1)
  returning_keeps_bytes job (told.NotReturned back) returned = unchanged_bytes returned.2
  returning_keeps_bytes job reply returned = absurd returned

  -- the objects up to the frontier go, and the one that is on its way still is past it
  settled_keeps_bytes : (number : ℕ) (receipt : ReceiptState) → IsPutDone number receipt old.objects.uploads objects.uploads
      → is_started number old.objects.uploads.window.objects ≡ true → IsUploads old.objects.uploads → KeepsBytes old now
  settled_keeps_bytes number receipt done started uploads wanted bytes before has after =
      let queue = old.objects.uploads.queue in
      let settled = done.settled in
      let count = done.count in
      let frontier = settled.frontier in
      let at = number - (queue.frontier + 1) in
      let past : objects.uploads.queue.frontier + 1 ≤ wanted =
      open_past wanted (objects.uploads.queue.frontier + 1) objects.uploads.queue.sealed objects.uploads.window.objects
      (open_after_done old.objects.uploads objects.uploads number receipt uploads started done) after in
      let changed = bytes_of_changed (wanted - (queue.frontier + 1)) at (with_receipt receipt) queue.sealed bytes
      (λ object. refl) has in
      let index : wanted - (queue.frontier + 1) ≡ count + (wanted - (objects.uploads.queue.frontier + 1)) =
      omega (arith, past, frontier) in
      let rest =
      bytes_of_rest count (wanted - (objects.uploads.queue.frontier + 1)) (wanted - (queue.frontier + 1))
      (with_at at (with_receipt receipt) queue.sealed) bytes index changed in
      subst (λ list. HasBytesAt (wanted - (objects.uploads.queue.frontier + 1)) list bytes) (sym settled.sealed) rest

  pub finishing_keeps_bytes : {R : Type 0} (state : R → ReceiptState) (job : JobState) (receipt : R) (reply : Reply R)
      → Finishes state job receipt reply old.objects objects
      → IsUploads old.objects.uploads
      → KeepsBytes old now
  finishing_keeps_bytes state job receipt (told.Done frontier) done uploads =
      settled_keeps_bytes job.name.number (state receipt) done.1 done.0.0.started uploads
  finishing_keeps_bytes state job receipt (told.NotDone back given) done uploads = unchanged_bytes done.3
  finishing_keeps_bytes state job receipt reply done uploads = absurd done

-- ---- an entry

module _ (entry : Entry) (old : VolumeState) (objects : ObjLogState) (log : LogState) where
  entry_bytes : (sealed : objects.uploads.queue.sealed ≡ old.objects.uploads.queue.sealed)
      → objects.uploads.queue.frontier ≡ old.objects.uploads.queue.frontier → KeepsBytes old (with_both objects log old)
  entry_bytes sealed frontier = same_bytes old (with_both objects log old) sealed frontier

  entry_same_bytes : IsSame old.objects objects → KeepsBytes old (with_both objects log old)
  entry_same_bytes same = entry_bytes same.uploads.sealed same.uploads.settled.frontier

  entry_no_bytes : objects ≡ old.objects → KeepsBytes old (with_both objects log old)
  entry_no_bytes same = entry_bytes (ap (λ (o : ObjLogState). o.uploads.queue.sealed) same)
      (ap (λ (o : ObjLogState). o.uploads.queue.frontier) same)

  refused_keeps_bytes : (why : EntryRefusal) → IsRefusedEntry entry why old.objects objects old.log log
      → KeepsBytes old (with_both objects log old)
  refused_keeps_bytes refusals.Range refused = entry_no_bytes refused.1
  refused_keeps_bytes (refusals.Full full) refused = entry_no_bytes refused.2
  refused_keeps_bytes (refusals.NoRoom need free) refused = entry_same_bytes refused.same
  refused_keeps_bytes refusals.Fault refused = entry_same_bytes refused.same
  refused_keeps_bytes refusals.OutOfMemory refused = entry_same_bytes refused.0

  pub entering_keeps_bytes : {R : Type 0} (reply : Reply R) → Enters entry reply old.objects objects old.log log
      → KeepsBytes old (with_both objects log old)
  entering_keeps_bytes (told.Entered count) enters =
      let same = enters.comes.same.uploads in
      let added = enters.added.entered in
      entry_bytes (added.sealed ∙ same.sealed) (added.frontier ∙ same.settled.frontier)
  entering_keeps_bytes (told.NotEntered back why) enters = refused_keeps_bytes why enters.1
  entering_keeps_bytes reply enters = absurd enters
