-- What a queue knows of its objects when the removal of one begins, fails or is done.
use Rattle.std.proofs.Common.{◌≡◌, ℕ, ◌+◌, ◌≤◌, ◌==◌, nat_lt, Bool, true, false, not, Option, Some, None, List, []}
use Rattle.std.proofs.Common.{◌∷◌, length}
use Rattle.std.proofs.Common.{refl, sym, ◌∙◌, ap, subst, arith}
use Rattle.std.specs.Prelude.{IsSome, IfSome, is_some, option_map}
use Rattle.std.specs.List.{All}
use Rattle.std.proofs.lemmas.Bool.Decides.{nat_tests}
use Rattle.std.proofs.lemmas.List.Elements.{All-map, All-filter}
use Rattle.extent_map.specs.Extents.{IsShortest}
use Rattle.lsvd_objstore.specs.Store.{ReceiptState}
use Rattle.object_table.specs.declared.row.ObjectRow.{ObjectRow}
use Rattle.object_table.specs.Table.{numbers, row_of, without, IsRemovable}
use Rattle.object_table.specs.Lists.{Climbs}
use Rattle.object_table.proofs.Listed.{climbs_without}
use Rattle.volume_maps.specs.Places.{object_on}
use Rattle.volume_maps.specs.Live.{live_sectors, IsCounted}
use Rattle.object_uploads.specs.State.{NumberedReceipt, QueueState}
use Rattle.object_uploads.specs.Queue.{receipt_in}
use Rattle.object_uploads.specs.Removal.{without_receipt, with_receipt_of}
use Rattle.object_uploads.specs.Order.{is_out, IsDeadIn}
use Rattle.object_uploads.specs.Invariant.{IsKnown}
use Rattle.object_uploads.proofs.UnmappedRows.{unmapped_dropped}
use Rattle.object_uploads.proofs.RemovedLemmas.{receipt_numbers, left_by, all_left, receipt_taken, object_dropped, receipt_back}
use Rattle.object_uploads.proofs.RemovedLemmas.{receipt_is_out, receipt_there}
use Rattle.object_uploads.proofs.DeadRows.{dead_has_none, removable_is_dead}
use Rattle.object_uploads.proofs.QueueKept.{rows_have}

-- ---- receipts of other numbers

taken_by : (test own : Bool) (number other : ℕ) (first : NumberedReceipt) (rest : List NumberedReceipt)
    → (first.number == number) ≡ test → (first.number == other) ≡ own → (other ≡ number → ⊥)
    → (IsSome (receipt_in rest other) → IsSome (receipt_in (without_receipt number rest) other))
    → IsSome (receipt_in (first ∷ rest) other) → IsSome (receipt_in (without_receipt number (first ∷ rest)) other)
taken_by true true number other first rest test own apart keeps there =
    absurd (apart (grind (arith, nat_tests)))
taken_by true false number other first rest test own apart keeps there = rw test (rw own at there)
taken_by false true number other first rest test own apart keeps there = rw (test, own) refl
taken_by false false number other first rest test own apart keeps there = rw (test, own) (keeps (rw own at there))

-- one that is taken out takes no other with it
others_stay : (number other : ℕ) (receipts : List NumberedReceipt) → (other ≡ number → ⊥) → IsSome (receipt_in receipts other)
    → IsSome (receipt_in (without_receipt number receipts) other)
others_stay number other [] apart there = there
others_stay number other (first ∷ rest) apart there =
    taken_by (first.number == number) (first.number == other) number other first rest refl refl apart
    (others_stay number other rest apart) there

given_by : (here own : Bool) (number other : ℕ) (receipt : ReceiptState) (first : NumberedReceipt) (rest : List NumberedReceipt)
    → nat_lt number first.number ≡ here → (first.number == other) ≡ own
    → (IsSome (receipt_in rest other) → IsSome (receipt_in (with_receipt_of number receipt rest) other))
    → ((list : List NumberedReceipt) → IsSome (receipt_in list other)
    → IsSome (receipt_in (record { number = number; receipt = receipt } ∷ list) other))
    → IsSome (receipt_in (first ∷ rest) other) → IsSome (receipt_in (with_receipt_of number receipt (first ∷ rest)) other)
given_by true own number other receipt first rest here test keeps more there = rw here (more (first ∷ rest) there)
given_by false true number other receipt first rest here test keeps more there = rw (here, test) refl
given_by false false number other receipt first rest here test keeps more there = rw (here, test) (keeps (rw test at there))

more_by : (test : Bool) (given : NumberedReceipt) (list : List NumberedReceipt) (other : ℕ) → (given.number == other) ≡ test
    → IsSome (receipt_in list other) → IsSome (receipt_in (given ∷ list) other)
more_by true given list other test there = rw test refl
more_by false given list other test there = rw test there

-- nor does one that is put back
all_stay : (number other : ℕ) (receipt : ReceiptState) (receipts : List NumberedReceipt) → IsSome (receipt_in receipts other)
    → IsSome (receipt_in (with_receipt_of number receipt receipts) other)
all_stay number other receipt [] there = absurd cc
all_stay number other receipt (first ∷ rest) there =
    given_by (nat_lt number first.number) (first.number == other) number other receipt first rest refl refl
    (all_stay number other receipt rest)
    (λ list. more_by (number == other) (record { number = number; receipt = receipt }) list other refl) there

-- ---- a removal begins

-- where none is out there is a receipt of each object
pub given_of : (queue : QueueState) (number : ℕ) → IsKnown queue → queue.removal ≡ None → IsRemovable queue.maps.objects number
    → IsSome (receipt_in queue.receipts number)
given_of queue number known none removable =
    let all : receipt_numbers queue.receipts ≡ numbers queue.maps.objects.rows =
    known.receipts
    ∙ (ap (λ out. left_by out (numbers queue.maps.objects.rows)) none ∙ all_left (numbers queue.maps.objects.rows)) in
    receipt_there number queue.receipts queue.maps.objects.rows all (rw removable.stands refl)

pub known_taken : (old new : QueueState) (number : ℕ) → IsKnown old → old.removal ≡ None → IsRemovable old.maps.objects number
    → new.frontier ≡ old.frontier → new.receipts ≡ without_receipt number old.receipts → new.removal ≡ Some number
    → new.maps ≡ old.maps → IsKnown new
known_taken old new number known none removable frontier receipts out same =
    let nums = numbers old.maps.objects.rows in
    let all : receipt_numbers old.receipts ≡ nums =
    known.receipts ∙ (ap (λ out. left_by out nums) none ∙ all_left nums) in
    let climbs = subst (Climbs 0) (sym all) known.order in
    rw same (record {
      order = known.order;
      from_one = known.from_one;
      within = rw frontier known.within;
      checkpoint = omega (arith, known.checkpoint, frontier);
      receipts = ap receipt_numbers receipts ∙ (receipt_taken number 0 old.receipts climbs
          ∙ (ap (left_by (Some number)) all ∙ ap (λ out. left_by out nums) (sym out)));
      follow = λ n some from most. rw receipts (
          others_stay number n old.receipts (λ is. absurd (omega (arith, from, is, removable.below)))
          (known.follow n some from (omega (arith, frontier, most))));
      removal = rw out (removable_is_dead number old.maps removable);
      unmapped = known.unmapped;
      counted = known.counted;
      shortest = known.shortest;
    })

-- ---- it is done

-- the object that is removed has no live sector
pub out_has_none : (queue : QueueState) (number : ℕ) → IsKnown queue → queue.removal ≡ Some number
    → live_sectors number queue.maps.settled.rows ≡ 0
out_has_none queue number known out =
    dead_has_none number queue.maps known.counted (subst (λ o. IfSome o (IsDeadIn queue.maps)) out known.removal)

-- what is said of the numbers of objects is said of those without it
fewer_have : (P : ℕ → Type 0) (number : ℕ) (rows : List ObjectRow) → Climbs 0 (numbers rows)
    → All (λ (row : ObjectRow). P row.number) rows → All (λ (row : ObjectRow). P row.number) (without number rows)
fewer_have P number rows order all =
    rows_have P (without number rows) (subst (All P) (sym (object_dropped number 0 rows order))
    (All-filter (λ n. not (is_out (Some number) n)) P (numbers rows) (All-map P (λ (row : ObjectRow). row.number) rows all)))

pub known_dropped : (old new : QueueState) (number : ℕ) → IsKnown old → old.removal ≡ Some number
    → new.frontier ≡ old.frontier → new.receipts ≡ old.receipts → new.removal ≡ None
    → new.maps.objects.rows ≡ without number old.maps.objects.rows
    → new.maps.objects.checkpoint ≡ old.maps.objects.checkpoint → IsCounted new.maps.settled.rows new.maps.objects
    → new.maps.settled.rows ≡ old.maps.settled.rows → IsKnown new
known_dropped old new number known out frontier receipts none rows checkpoint counted settled =
    let left = without number old.maps.objects.rows in
    let nums = numbers old.maps.objects.rows in
    record {
      order = rw rows (climbs_without 0 number old.maps.objects.rows known.order);
      from_one = rw rows (fewer_have (λ (n : ℕ). 1 ≤ n) number old.maps.objects.rows known.order known.from_one);
      within = rw (rows, frontier)
          (fewer_have (λ (n : ℕ). n ≤ old.frontier) number old.maps.objects.rows known.order known.within);
      checkpoint = omega (arith, known.checkpoint, checkpoint, frontier);
      receipts = ap receipt_numbers receipts ∙ (known.receipts ∙ (ap (λ out. left_by out nums) out
          ∙ (sym (object_dropped number 0 old.maps.objects.rows known.order) ∙ (sym (all_left (numbers left))
          ∙ (ap (λ out. left_by out (numbers left)) (sym none)
          ∙ ap (λ list. left_by new.removal (numbers list)) (sym rows))))));
      follow = λ n some from most. rw receipts (
          known.follow n (omega (arith, some, checkpoint)) (omega (arith, from, checkpoint)) (omega (arith, most, frontier)));
      removal = rw none tt;
      unmapped = unmapped_dropped number old.maps new.maps known.order rows checkpoint known.unmapped;
      counted = counted;
      shortest = subst (IsShortest object_on) (sym settled) known.shortest;
    }

-- ---- it failed

-- no receipt is there of the object that is removed
pub out_is_absent : (queue : QueueState) (number : ℕ) → IsKnown queue → queue.removal ≡ Some number
    → receipt_in queue.receipts number ≡ None
out_is_absent queue number known out =
    receipt_is_out number queue.receipts (numbers queue.maps.objects.rows)
    (known.receipts ∙ ap (λ out. left_by out (numbers queue.maps.objects.rows)) out)

pub known_back : (old new : QueueState) (number : ℕ) (receipt : ReceiptState) → IsKnown old → old.removal ≡ Some number
    → new.frontier ≡ old.frontier → new.receipts ≡ with_receipt_of number receipt old.receipts → new.removal ≡ None
    → new.maps ≡ old.maps → IsKnown new
known_back old new number receipt known out frontier receipts none same =
    let nums = numbers old.maps.objects.rows in
    let others : receipt_numbers old.receipts ≡ left_by (Some number) nums =
    known.receipts ∙ ap (λ out. left_by out nums) out in
    let dead = subst (λ o. IfSome o (IsDeadIn old.maps)) out known.removal in
    let there : IsSome (row_of number old.maps.objects.rows) = rw dead.1 refl in
    rw same (record {
      order = known.order;
      from_one = known.from_one;
      within = rw frontier known.within;
      checkpoint = omega (arith, known.checkpoint, frontier);
      receipts = ap receipt_numbers receipts
          ∙ (receipt_back number 0 receipt old.receipts old.maps.objects.rows known.order there others
          ∙ (sym (all_left nums) ∙ ap (λ out. left_by out nums) (sym none)));
      follow = λ n some from most. rw receipts (
          all_stay number n receipt old.receipts (known.follow n some from (omega (arith, frontier, most))));
      removal = rw none tt;
      unmapped = known.unmapped;
      counted = known.counted;
      shortest = known.shortest;
    })

-- ---- how many receipts are left

length_by : (test : Bool) (number : ℕ) (first : NumberedReceipt) (rest : List NumberedReceipt) → (first.number == number) ≡ test
    → IsSome (receipt_in (first ∷ rest) number)
    → (IsSome (receipt_in rest number) → length (without_receipt number rest) + 1 ≡ length rest)
    → length (without_receipt number (first ∷ rest)) + 1 ≡ length (first ∷ rest)
length_by true number first rest test there more = rw test (omega arith)
length_by false number first rest test there more = let fewer = more (rw test at there) in rw test (omega (arith, fewer))

pub length-taken : (number : ℕ) (receipts : List NumberedReceipt) → IsSome (receipt_in receipts number)
    → length (without_receipt number receipts) + 1 ≡ length receipts
length-taken number [] there = absurd cc
length-taken number (first ∷ rest) there =
    length_by (first.number == number) number first rest refl there (length-taken number rest)

-- what is there as it is seen is there
pub some_seen : {A B : Type 0} (see : A → B) (given : Option A) (seen : Option B) → option_map see given ≡ seen → IsSome seen
    → IsSome given
some_seen see None seen same there = absurd cc
some_seen see (Some given) seen same there = refl

-- no removal is out where none is there
pub none_out : (out : Option ℕ) → is_some out ≡ false → out ≡ None
none_out None none = refl
none_out (Some number) none = absurd cc
