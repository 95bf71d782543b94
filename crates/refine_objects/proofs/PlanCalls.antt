-- Each other call keeps the plan of a copy that is out: its sources stay in the store.
use Rattle.std.proofs.Common.{◌≡◌, ℕ, ◌≤◌, ◌==◌, ◌&&◌, ◌||◌, not, cond, Bool, true, false, Option, Some, None, List, [], ◌∷◌}
use Rattle.std.proofs.Common.{map, take, refl, sym, ◌∙◌, ap, subst, arith}
use Rattle.std.specs.Prelude.{IfSome, nat_lt, option_map}
use Rattle.std.specs.List.{filter}
use Rattle.std.proofs.lemmas.Bool.Decides.{nat_tests}
use Rattle.lsvd_objstore.specs.Store.{ReceiptState}
use Rattle.extent_map.specs.State.{MapState}
use Rattle.extent_map.specs.Extents.{place_at}
use Rattle.gc_copier.specs.Plan.{PlanState, numbers_of}
use Rattle.object_stream.specs.declared.object.CopiedSector.{CopiedSector}
use Rattle.object_table.specs.declared.row.ObjectRow.{ObjectRow}
use Rattle.object_table.specs.Table.{TableState, numbers, row_of, pinned, unpinned}
use Rattle.volume_maps.specs.declared.place.ObjectPlace.{ObjectPlace}
use Rattle.volume_maps.specs.Places.{object_on}
use Rattle.volume_maps.specs.Maps.{settled_at}
use Rattle.volume_maps.proofs.RowsLemmas.{is_in}
use Rattle.object_uploads.specs.State.{NumberedReceipt, QueueState, UploadsState}
use Rattle.object_uploads.specs.Queue.{with_at, with_receipt, receipt_in, receipts_of}
use Rattle.object_uploads.specs.Order.{IsUploads, AreKnown, is_out}
use Rattle.object_uploads.specs.Changes.{index_of, with_job}
use Rattle.object_uploads.specs.Removal.{IsSameButObjects, HasChangedRow, ChangesPinsEach, without_receipt, with_receipt_of}
use Rattle.object_uploads.specs.Removal.{IsRemovedNext, TakesRemoval, FinishesRemoval, TakesBackRemoval}
use Rattle.object_uploads.proofs.PinsOf.{row_changed}
use Rattle.object_uploads.proofs.StoredLemmas.{front_in, first_receipt, stored_parts}
use Rattle.plain_disk.specs.Removals.{copies_from}
use Rattle.refine_objects.specs.PlanLaws.{KeepsSources, KeepsPlan, OthersKeepPlan, RoomKeepsPlan, AddedKeepsPlan, SealedKeepsPlan}
use Rattle.refine_objects.specs.PlanLaws.{JobsKeepPlan, DoneKeepsPlan, PinsKeepPlan, RemovalsKeepPlan}
use Rattle.refine_objects.proofs.RemovalShown.{other_without, next_by}
use Rattle.refine_objects.proofs.VictimsShown.{in_filter}
use Rattle.refine_objects.proofs.MarkShown.{in_contained}
use Rattle.refine_objects.proofs.PlanKept.{kept_sources_keep_plan, all_stay, stays_by, same_place, same_sources}
use Rattle.refine_objects.proofs.PlanKept.{both_keep, settled_sources}

-- ---- calls that keep all sources

all_keep : (old new : QueueState) → ((plan : PlanState) → KeepsSources plan old new) → (plan : Option PlanState)
    → IfSome plan (λ (p : PlanState). KeepsSources p old new)
all_keep old new keeps None = tt
all_keep old new keeps (Some plan) = keeps plan

keep_plan : (old new : QueueState) → ((plan : PlanState) → KeepsSources plan old new) → KeepsPlan old new
keep_plan old new keeps plan plain after same geometry table shows =
    kept_sources_keep_plan old new plan plain after (all_keep old new keeps plan) same geometry table.reached shows

pub others_keep_plan : OthersKeepPlan
others_keep_plan queue = keep_plan queue queue (λ plan. same_sources plan queue queue refl refl refl refl)

pub room_keeps_plan : RoomKeepsPlan
room_keeps_plan old new same =
    let settled = same.uploads.settled in
    keep_plan old.uploads.queue new.uploads.queue (λ plan.
    same_sources plan old.uploads.queue new.uploads.queue settled.frontier settled.receipts settled.places.objects
    settled.places.settled)

pub added_keeps_plan : AddedKeepsPlan
added_keeps_plan old new entry data_at added =
    let e = added.entered in
    keep_plan old.uploads.queue new.uploads.queue (λ plan.
    same_sources plan old.uploads.queue new.uploads.queue e.frontier e.receipts (ap (λ (t : TableState). t.rows) e.objects)
    (ap (λ (m : MapState ObjectPlace). m.rows) e.settled))

pub sealed_keeps_plan : SealedKeepsPlan
sealed_keeps_plan bytes rows end old new sealed =
    let settled = sealed.settled in
    keep_plan old.queue new.queue (λ plan.
    same_sources plan old.queue new.queue settled.frontier settled.receipts settled.places.objects settled.places.settled)

pub jobs_keep_plan : JobsKeepPlan
jobs_keep_plan number started uploads =
    keep_plan uploads.queue (with_job number started uploads).queue (λ plan.
    same_sources plan uploads.queue (with_job number started uploads).queue refl refl refl refl)

pub done_keeps_plan : DoneKeepsPlan
done_keeps_plan number receipt old new done =
    let given = with_at (index_of old number) (with_receipt receipt) old.queue.sealed in
    keep_plan old.queue new.queue (λ plan.
    settled_sources plan old.queue new.queue (take done.count given) (receipts_of old.queue.frontier (take done.count given))
    (omega (arith, done.settled.frontier)) done.settled.receipts done.settled.maps)

-- ---- pins

same_front_by : (change : ObjectRow → ObjectRow) (test : Bool) (found : Option ObjectRow)
    → ((row : ObjectRow) → (change row).front ≡ row.front)
    → front_in (cond test (option_map change found) found) ≡ front_in found
same_front_by change true None keeps = refl
same_front_by change true (Some row) keeps = ap {B = Option ℕ} (λ f. Some f) (keeps row)
same_front_by change false found keeps = refl

pin_keeps : (change : ObjectRow → ObjectRow) (number : ℕ) (old new : UploadsState) (plan : PlanState)
    → ((row : ObjectRow) → ((change row).front ≡ row.front) × ((change row).number ≡ row.number))
    → HasChangedRow change number old new → KeepsSources plan old.queue new.queue
pin_keeps change number old new plan keeps changed_pins = record {
  frontier = omega (arith, changed_pins.rest.frontier);
  stored = all_stay old.queue new.queue plan.sources (λ n is. stays_by old.queue new.queue n
      (λ receipt at. ap (λ list. receipt_in list n) changed_pins.receipts ∙ at)
      (λ f at. ap (λ (t : TableState). front_in (row_of n t.rows)) changed_pins.objects
      ∙ (ap front_in (row_changed change number n old.queue.maps.objects.rows (λ row. (keeps row).1))
      ∙ (same_front_by change (number == n) (row_of n old.queue.maps.objects.rows) (λ row. (keeps row).0) ∙ at))));
  settled = λ k. same_place old.queue.frontier (settled_at new.queue.maps k) (settled_at old.queue.maps k)
      (ap (λ (m : MapState ObjectPlace). place_at object_on m.rows k) changed_pins.rest.settled);
}

pins_keep : (change : ObjectRow → ObjectRow) (numbers : List ℕ) (old new : UploadsState) (plan : PlanState)
    → ((row : ObjectRow) → ((change row).front ≡ row.front) × ((change row).number ≡ row.number))
    → ChangesPinsEach change numbers old new → KeepsSources plan old.queue new.queue
pins_keep change [] old new plan keeps same =
    subst (λ (u : UploadsState). KeepsSources plan old.queue u.queue) (sym same)
    (same_sources plan old.queue old.queue refl refl refl refl)
pins_keep change (number ∷ numbers) old new plan keeps (middle, changed_pins, now, rest) =
    both_keep plan old.queue middle.queue new.queue (pin_keeps change number old middle plan keeps changed_pins)
    (pins_keep change numbers middle new plan keeps rest)

pub pins_keep_plan : PinsKeepPlan
pins_keep_plan numbers old new = (
  λ pins. keep_plan old.queue new.queue (λ plan. pins_keep pinned numbers old new plan (λ row. (refl, refl)) pins),
  λ pins. keep_plan old.queue new.queue (λ plan. pins_keep unpinned numbers old new plan (λ row. (refl, refl)) pins),
)

-- ---- removals

other_receipt_by : (test : Bool) (given : NumberedReceipt) (receipts less : List NumberedReceipt) (n number : ℕ)
    → (n == number) ≡ false → (given.number == number) ≡ test → receipt_in less n ≡ receipt_in receipts n
    → receipt_in (cond test receipts (given ∷ less)) n ≡ receipt_in (given ∷ receipts) n
other_receipt_by true given receipts less n number apart is rest =
    sym (first_receipt false given receipts n (grind (arith, nat_tests)))
other_receipt_by false given receipts less n number apart is rest =
    let test = given.number == n in
    first_receipt test given less n refl
    ∙ (ap (cond test (Some given.receipt)) rest ∙ sym (first_receipt test given receipts n refl))

-- without the receipt of another number, that of a number is the same
other_receipt : (n number : ℕ) (receipts : List NumberedReceipt) → (n == number) ≡ false
    → receipt_in (without_receipt number receipts) n ≡ receipt_in receipts n
other_receipt n number [] apart = refl
other_receipt n number (given ∷ receipts) apart =
    other_receipt_by (given.number == number) given receipts (without_receipt number receipts) n number apart refl
    (other_receipt n number receipts apart)

back_receipt_by : (test : Bool) (given own : NumberedReceipt) (receipts more : List NumberedReceipt) (n : ℕ)
    → (own.number == n) ≡ false → receipt_in more n ≡ receipt_in receipts n
    → receipt_in (cond test (own ∷ given ∷ receipts) (given ∷ more)) n ≡ receipt_in (given ∷ receipts) n
back_receipt_by true given own receipts more n apart rest = first_receipt false own (given ∷ receipts) n apart
back_receipt_by false given own receipts more n apart rest =
    let test = given.number == n in
    first_receipt test given more n refl
    ∙ (ap (cond test (Some given.receipt)) rest ∙ sym (first_receipt test given receipts n refl))

-- and so it is with the receipt of another one more
back_receipt : (n number : ℕ) (receipt : ReceiptState) (receipts : List NumberedReceipt) → (number == n) ≡ false
    → receipt_in (with_receipt_of number receipt receipts) n ≡ receipt_in receipts n
back_receipt n number receipt [] apart = first_receipt false (record { number = number; receipt = receipt }) [] n apart
back_receipt n number receipt (given ∷ receipts) apart =
    back_receipt_by (nat_lt number given.number) given (record { number = number; receipt = receipt }) receipts
    (with_receipt_of number receipt receipts) n apart (back_receipt n number receipt receipts apart)

-- a number whose receipt is known is among them
listed_by : (test : Bool) (given : NumberedReceipt) (receipt : ReceiptState) (found : Option ReceiptState) (rest : Bool)
    → (found ≡ Some receipt → rest ≡ true) → cond test (Some given.receipt) found ≡ Some receipt → (test || rest) ≡ true
listed_by true given receipt found rest more is = refl
listed_by false given receipt found rest more is = more is

listed : (n : ℕ) (receipt : ReceiptState) (receipts : List NumberedReceipt) → receipt_in receipts n ≡ Some receipt
    → is_in (map (λ (r : NumberedReceipt). r.number) receipts) n ≡ true
listed n receipt [] is = absurd cc
listed n receipt (given ∷ receipts) is =
    let test = given.number == n in
    listed_by test given receipt (receipt_in receipts n) (is_in (map (λ (r : NumberedReceipt). r.number) receipts) n)
    (listed n receipt receipts) (sym (first_receipt test given receipts n refl) ∙ is)

second_true : (a b : Bool) → (a && b) ≡ true → b ≡ true
second_true true b is = is
second_true false b is = absurd cc

not_true : (b : Bool) → not b ≡ true → b ≡ false
not_true true is = absurd cc
not_true false is = refl

-- the one that is out has no receipt
out_is_apart : (uuid : List ℕ) (queue : QueueState) (number n : ℕ) (receipt : ReceiptState) → AreKnown uuid queue
    → queue.removal ≡ Some number → receipt_in queue.receipts n ≡ Some receipt → (number == n) ≡ false
out_is_apart uuid queue number n receipt known out is =
    let rows = numbers queue.maps.objects.rows in
    let test : ℕ → Bool = λ m. not (is_out queue.removal m) in
    let there : is_in (filter test rows) n ≡ true =
    sym (ap (λ list. is_in list n) known.receipts) ∙ listed n receipt queue.receipts is in
    let passes : test n ≡ true = second_true (is_in rows n) (test n) (sym (in_filter test rows n) ∙ there) in
    not_true (number == n) (sym (ap (λ o. not (is_out o n)) out) ∙ passes)

flipped : (m n : ℕ) → (m == n) ≡ false → (n == m) ≡ false
flipped m n is = grind (arith, nat_tests)

-- a removal changes no place
same_places : (old new : UploadsState) → IsSameButObjects old new → (k : ℕ)
    → IfSome (settled_at new.queue.maps k) (λ (place : ObjectPlace). place.number ≤ old.queue.frontier
    → settled_at old.queue.maps k ≡ Some place)
same_places old new rest k =
    same_place old.queue.frontier (settled_at new.queue.maps k) (settled_at old.queue.maps k)
    (ap (λ (m : MapState ObjectPlace). place_at object_on m.rows k) rest.settled)

same_fronts : (old new : QueueState) → new.maps.objects ≡ old.maps.objects → (n f : ℕ)
    → front_in (row_of n old.maps.objects.rows) ≡ Some f → front_in (row_of n new.maps.objects.rows) ≡ Some f
same_fronts old new same n f is = ap (λ (t : TableState). front_in (row_of n t.rows)) same ∙ is

finished_keeps : (number : ℕ) (old new : UploadsState) (plan : PlanState) → IsUploads old
    → old.queue.removal ≡ Some number → FinishesRemoval number old new → KeepsSources plan old.queue new.queue
finished_keeps number old new plan is out done = record {
  frontier = omega (arith, done.rest.frontier);
  stored = all_stay old.queue new.queue plan.sources (λ n among object at.
      (let found = row_of n old.queue.maps.objects.rows in
      let parts = stored_parts (receipt_in old.queue.receipts n) found object at in
      let apart = out_is_apart old.uuid old.queue number n parts.0 is.known out parts.2 in
      let row = ap (row_of n) done.rows ∙ other_without number n old.queue.maps.objects.rows apart in
      rw (done.receipts, row) at));
  settled = same_places old new done.rest;
}

back_keeps : (number : ℕ) (receipt : ReceiptState) (old new : UploadsState) (plan : PlanState) → IsUploads old
    → old.queue.removal ≡ Some number → TakesBackRemoval number receipt old new → KeepsSources plan old.queue new.queue
back_keeps number receipt old new plan is out back = record {
  frontier = omega (arith, back.rest.frontier);
  stored = all_stay old.queue new.queue plan.sources (λ n among. stays_by old.queue new.queue n
      (λ own at.
      ap (λ list. receipt_in list n) back.receipts
      ∙ (back_receipt n number receipt old.queue.receipts (out_is_apart old.uuid old.queue number n own is.known out at) ∙ at))
      (same_fronts old.queue new.queue back.objects n));
  settled = same_places old new back.rest;
}

-- the one that is taken is no source
not_taken_by : (test : Bool) (n number : ℕ) (plan : Option (List CopiedSector)) → (n == number) ≡ test
    → copies_from plan n ≡ true → copies_from plan number ≡ false → test ≡ false
not_taken_by true n number plan same taken none =
    let here : n ≡ number = grind (arith, nat_tests) in
    let other = ap (copies_from plan) here in
    absurd cc
not_taken_by false n number plan same taken none = refl

taken_keeps : (number : ℕ) (receipt : ReceiptState) (old new : UploadsState)
    → IsRemovedNext old.queue.removal old.queue.maps.objects (Some number) → TakesRemoval number receipt old new
    → KeepsPlan old.queue new.queue
taken_keeps number receipt old new next takes None plain after same geometry table shows = same ∙ shows
taken_keeps number receipt old new next takes (Some out) plain after same geometry table (pairs, plain_plan, is) =
    let removable = (next_by old.queue.removal old.queue.maps.objects number next).1.0 in
    let copied : removable.row.is_copied ≡ copies_from plain.plan number =
    subst (λ r. IfSome r (λ (row : ObjectRow). row.is_copied ≡ copies_from plain.plan number)) removable.stands
    (table.copied number) in
    let none : copies_from (Some pairs) number ≡ false =
    ap (λ p. copies_from p number) (sym plain_plan) ∙ (sym copied ∙ removable.not_copied) in
    let keeps : KeepsSources out old.queue new.queue = record {
      frontier = omega (arith, takes.rest.frontier);
      stored = all_stay old.queue new.queue out.sources (λ n among. stays_by old.queue new.queue n
          (λ own at.
          (let taken = (is.named n).0 (in_contained (numbers_of out.sources) n among) in
          let apart = not_taken_by (n == number) n number (Some pairs) refl taken none in
          ap (λ list. receipt_in list n) takes.receipts ∙ (other_receipt n number old.queue.receipts apart ∙ at)))
          (same_fronts old.queue new.queue takes.objects n));
      settled = same_places old new takes.rest;
    } in
    kept_sources_keep_plan old.queue new.queue (Some out) plain after keeps same geometry table.reached
    (pairs, plain_plan, is)

pub removals_keep_plan : RemovalsKeepPlan
removals_keep_plan number old new is = (
  λ receipt next takes. taken_keeps number receipt old new next takes,
  λ out done. keep_plan old.queue new.queue (λ plan. finished_keeps number old new plan is out done),
  λ receipt out back. keep_plan old.queue new.queue (λ plan. back_keeps number receipt old new plan is out back),
)
