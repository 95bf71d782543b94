-- Pins and removals keep the image: what has a sector stays in the store.
use Rattle.std.proofs.Common.{◌≡◌, ℕ, ◌+◌, ◌-◌, ◌≤◌, ◌==◌, not, Bool, true, false, cond, Option, Some, None, List, []}
use Rattle.std.proofs.Common.{◌∷◌, inl, inr, refl, sym, ◌∙◌, ap, subst, arith}
use Rattle.std.specs.Prelude.{nat_lt, map, IfSome}
use Rattle.std.specs.List.{All, filter}
use Rattle.std.proofs.lemmas.Bool.Decides.{nat_tests}
use Rattle.std.proofs.lemmas.List.Elements.{All-head, All-tail}
use Rattle.std.proofs.lemmas.List.Sums.{sum_by-cons}
use Rattle.lsvd_objstore.specs.Store.{ReceiptState}
use Rattle.extent_map.specs.declared.extent.Extent.{Extent}
use Rattle.extent_map.specs.Extents.{is_within, place_at}
use Rattle.extent_map.specs.State.{MapState}
use Rattle.object_table.specs.declared.row.ObjectRow.{ObjectRow}
use Rattle.object_table.specs.Table.{TableState, numbers, row_of, without}
use Rattle.volume_maps.specs.declared.place.ObjectPlace.{ObjectPlace}
use Rattle.volume_maps.specs.Places.{object_on}
use Rattle.volume_maps.specs.Maps.{MapsState, settled_at}
use Rattle.volume_maps.specs.Live.{is_in_object, sectors_in, live_sectors, IsCounted}
use Rattle.object_uploads.specs.State.{NumberedReceipt, QueueState, UploadsState}
use Rattle.object_uploads.specs.Queue.{receipt_in, stored_with}
use Rattle.object_uploads.specs.Order.{is_out, IsDeadIn, AreKnown}
use Rattle.object_uploads.specs.Removal.{without_receipt, with_receipt_of, IsSameButObjects, TakesRemoval, FinishesRemoval}
use Rattle.object_uploads.specs.Removal.{TakesBackRemoval}
use Rattle.object_uploads.specs.ImageLaws.{KeepsImage, PinsKeepImage, RemovalsKeepImage}
use Rattle.object_uploads.proofs.StoredLemmas.{fixed, first_row, first_receipt, front_in, same_front, stored_parts, stays}
use Rattle.object_uploads.proofs.StoredLemmas.{fixed_changed}
use Rattle.object_uploads.proofs.HoldLemmas.{Stays, image_stays}
use Rattle.object_uploads.proofs.CopyImage.{are_copied_same}

-- ---- numbers that are counted

-- a test that passes counts once
abbrev pub tally : Bool → ℕ
tally true = 1
tally false = 0

-- how often a number stands among some
abbrev pub count_of : ℕ → List ℕ → ℕ
count_of number [] = 0
count_of number (first ∷ more) = tally (first == number) + count_of number more

-- two numbers differ, if they are not the same
apart_by : (test : Bool) (a b : ℕ) → (a == b) ≡ test → (a ≡ b → ⊥) → test ≡ false
apart_by true a b is apart = absurd (apart (grind (arith, nat_tests)))
apart_by false a b is apart = refl

receipt_by : {X : Type 0} (test : Bool) (first wanted : X) (more : Option X) (count : ℕ) → (more ≡ Some wanted → 1 ≤ count)
    → cond test (Some first) more ≡ Some wanted → 1 ≤ tally test + count
receipt_by true first wanted more count rest is = omega arith
receipt_by false first wanted more count rest is = omega (arith, rest is)

-- a number whose receipt is there is counted
receipt_counts : (number : ℕ) (receipts : List NumberedReceipt) (receipt : ReceiptState)
    → receipt_in receipts number ≡ Some receipt → 1 ≤ count_of number (map (λ (r : NumberedReceipt). r.number) receipts)
receipt_counts number [] receipt is = absurd cc
receipt_counts number (given ∷ receipts) receipt is =
    let test = given.number == number in
    receipt_by test given.receipt receipt (receipt_in receipts number)
    (count_of number (map (λ (r : NumberedReceipt). r.number) receipts)) (receipt_counts number receipts receipt)
    (sym (first_receipt test given receipts number refl) ∙ is)

row_by : (test : Bool) (row wanted : ObjectRow) (rows less : List ObjectRow) (number : ℕ) → (row.number == number) ≡ test
    → (row_of number rows ≡ Some wanted → count_of number (numbers rows) ≡ count_of number (numbers less) + 1)
    → cond test (Some row) (row_of number rows) ≡ Some wanted
    → tally test + count_of number (numbers rows) ≡ count_of number (numbers (cond test rows (row ∷ less))) + 1
row_by true row wanted rows less number at rest is = omega arith
row_by false row wanted rows less number at rest is =
    let none : tally (row.number == number) ≡ 0 = rw at refl in
    omega (arith, rest is, none)

-- a row that is gone was counted once more
pub row_counts : (number : ℕ) (rows : List ObjectRow) (row : ObjectRow) → row_of number rows ≡ Some row
    → count_of number (numbers rows) ≡ count_of number (numbers (without number rows)) + 1
row_counts number [] row is = absurd cc
row_counts number (first ∷ rows) row is =
    let test = first.number == number in
    row_by test first row rows (without number rows) number refl (row_counts number rows row)
    (sym (first_row test first rows number refl) ∙ is)

-- a receipt that came back is counted once more
back_by : (test : Bool) (number : ℕ) (first : NumberedReceipt) (receipt : ReceiptState) (rest more : List NumberedReceipt)
    → count_of number (map (λ (r : NumberedReceipt). r.number) more)
    ≡ count_of number (map (λ (r : NumberedReceipt). r.number) rest) + 1
    → count_of number (map (λ (r : NumberedReceipt). r.number)
    (cond test (record { number = number; receipt = receipt } ∷ first ∷ rest) (first ∷ more)))
    ≡ count_of number (map (λ (r : NumberedReceipt). r.number) (first ∷ rest)) + 1
back_by true number first receipt rest more counted =
    let one : tally (number == number) ≡ 1 = let same : (number == number) ≡ true = grind (arith, nat_tests) in rw same refl in
    omega (arith, one)
back_by false number first receipt rest more counted = omega (arith, counted)

back_counts : (number : ℕ) (receipt : ReceiptState) (receipts : List NumberedReceipt)
    → count_of number (map (λ (r : NumberedReceipt). r.number) (with_receipt_of number receipt receipts))
    ≡ count_of number (map (λ (r : NumberedReceipt). r.number) receipts) + 1
back_counts number receipt [] =
    let one : tally (number == number) ≡ 1 = let same : (number == number) ≡ true = grind (arith, nat_tests) in rw same refl in
    omega (arith, one)
back_counts number receipt (first ∷ rest) =
    back_by (nat_lt number first.number) number first receipt rest (with_receipt_of number receipt rest)
    (back_counts number receipt rest)

-- ---- the numbers that have receipts

-- all but the one that is out
abbrev pub not_out : Option ℕ → ℕ → Bool
not_out removal number = not (is_out removal number)

in_by : (test : Bool) (number first : ℕ) (list kept : List ℕ) → count_of number kept ≡ count_of number list
    → (test ≡ false → (first == number) ≡ false)
    → count_of number (cond test (first ∷ kept) kept) ≡ count_of number (first ∷ list)
in_by true number first list kept rest other = omega (arith, rest)
in_by false number first list kept rest other =
    let none : tally (first == number) ≡ 0 = rw (other refl) refl in
    omega (arith, rest, none)

other_out : (removal : Option ℕ) (number first : ℕ) → is_out removal number ≡ false → not_out removal first ≡ false
    → (first == number) ≡ false
other_out None number first free lost = absurd cc
other_out (Some gone) number first free lost = grind (arith, nat_tests)

-- a number that is not out is among them as often as in the table
pub in_counts : (removal : Option ℕ) (number : ℕ) (list : List ℕ) → is_out removal number ≡ false
    → count_of number (filter (not_out removal) list) ≡ count_of number list
in_counts removal number [] free = refl
in_counts removal number (first ∷ list) free =
    in_by (not_out removal first) number first list (filter (not_out removal) list) (in_counts removal number list free)
    (other_out removal number first free)

out_by : (test : Bool) (number first : ℕ) (kept : List ℕ) → count_of number kept ≡ 0
    → (test ≡ true → (first == number) ≡ false) → count_of number (cond test (first ∷ kept) kept) ≡ 0
out_by true number first kept rest other =
    let none : tally (first == number) ≡ 0 = rw (other refl) refl in
    omega (arith, rest, none)
out_by false number first kept rest other = rest

other_in : (removal : Option ℕ) (number first : ℕ) → is_out removal number ≡ true → not_out removal first ≡ true
    → (first == number) ≡ false
other_in None number first lost kept = absurd cc
other_in (Some gone) number first lost kept = grind (arith, nat_tests)

-- and the one that is out is not
out_counts : (removal : Option ℕ) (number : ℕ) (list : List ℕ) → is_out removal number ≡ true
    → count_of number (filter (not_out removal) list) ≡ 0
out_counts removal number [] out = refl
out_counts removal number (first ∷ list) out =
    out_by (not_out removal first) number first (filter (not_out removal) list) (out_counts removal number list out)
    (other_in removal number first out)

-- One that has a receipt is in the table as often as in the receipts.
known_by : (test : Bool) (removal : Option ℕ) (number : ℕ) (receipts list : List ℕ) → is_out removal number ≡ test
    → receipts ≡ filter (not_out removal) list → 1 ≤ count_of number receipts
    → count_of number receipts ≡ count_of number list
known_by true removal number receipts list is known some =
    absurd (omega (arith, some, ap (count_of number) known, out_counts removal number list is))
known_by false removal number receipts list is known some = ap (count_of number) known ∙ in_counts removal number list is

known_counts : (queue : QueueState) (uuid : List ℕ) (number : ℕ) (receipt : ReceiptState) → AreKnown uuid queue
    → receipt_in queue.receipts number ≡ Some receipt
    → count_of number (map (λ (r : NumberedReceipt). r.number) queue.receipts)
    ≡ count_of number (numbers queue.maps.objects.rows)
known_counts queue uuid number receipt known is =
    known_by (is_out queue.removal number) queue.removal number (map (λ (r : NumberedReceipt). r.number) queue.receipts)
    (numbers queue.maps.objects.rows) refl known.receipts (receipt_counts number queue.receipts receipt is)

-- with no removal out each number is there as often as in the table
all_counts : (queue : QueueState) (uuid : List ℕ) (number : ℕ) → AreKnown uuid queue → queue.removal ≡ None
    → count_of number (map (λ (r : NumberedReceipt). r.number) queue.receipts)
    ≡ count_of number (numbers queue.maps.objects.rows)
all_counts queue uuid number known none =
    let not_it : is_out queue.removal number ≡ false = rw none refl in
    ap (count_of number) known.receipts ∙ in_counts queue.removal number (numbers queue.maps.objects.rows) not_it

-- ---- the others stay

other_row_by : (test : Bool) (row : ObjectRow) (rows less : List ObjectRow) (n number : ℕ) → (n == number) ≡ false
    → (row.number == number) ≡ test → row_of n less ≡ row_of n rows
    → row_of n (cond test rows (row ∷ less)) ≡ row_of n (row ∷ rows)
other_row_by true row rows less n number apart is rest = sym (first_row false row rows n (grind (arith, nat_tests)))
other_row_by false row rows less n number apart is rest =
    let test = row.number == n in
    first_row test row less n refl ∙ (ap (cond test (Some row)) rest ∙ sym (first_row test row rows n refl))

other_row : (n number : ℕ) (rows : List ObjectRow) → (n == number) ≡ false → row_of n (without number rows) ≡ row_of n rows
other_row n number [] apart = refl
other_row n number (row ∷ rows) apart =
    other_row_by (row.number == number) row rows (without number rows) n number apart refl (other_row n number rows apart)

other_receipt_by : (test : Bool) (given : NumberedReceipt) (receipts less : List NumberedReceipt) (n number : ℕ)
    → (n == number) ≡ false → (given.number == number) ≡ test → receipt_in less n ≡ receipt_in receipts n
    → receipt_in (cond test receipts (given ∷ less)) n ≡ receipt_in (given ∷ receipts) n
other_receipt_by true given receipts less n number apart is rest =
    sym (first_receipt false given receipts n (grind (arith, nat_tests)))
other_receipt_by false given receipts less n number apart is rest =
    let test = given.number == n in
    first_receipt test given less n refl
    ∙ (ap (cond test (Some given.receipt)) rest ∙ sym (first_receipt test given receipts n refl))

other_receipt : (n number : ℕ) (receipts : List NumberedReceipt) → (n == number) ≡ false
    → receipt_in (without_receipt number receipts) n ≡ receipt_in receipts n
other_receipt n number [] apart = refl
other_receipt n number (given ∷ receipts) apart =
    other_receipt_by (given.number == number) given receipts (without_receipt number receipts) n number apart refl
    (other_receipt n number receipts apart)

back_receipt_by : (test : Bool) (given own : NumberedReceipt) (receipts more : List NumberedReceipt) (n : ℕ)
    → (own.number == n) ≡ false → receipt_in more n ≡ receipt_in receipts n
    → receipt_in (cond test (own ∷ given ∷ receipts) (given ∷ more)) n ≡ receipt_in (given ∷ receipts) n
back_receipt_by true given own receipts more n apart rest = first_receipt false own (given ∷ receipts) n apart
back_receipt_by false given own receipts more n apart rest =
    let test = given.number == n in
    first_receipt test given more n refl
    ∙ (ap (cond test (Some given.receipt)) rest ∙ sym (first_receipt test given receipts n refl))

back_receipt : (n number : ℕ) (receipt : ReceiptState) (receipts : List NumberedReceipt) → (number == n) ≡ false
    → receipt_in (with_receipt_of number receipt receipts) n ≡ receipt_in receipts n
back_receipt n number receipt [] apart = first_receipt false (record { number = number; receipt = receipt }) [] n apart
back_receipt n number receipt (given ∷ receipts) apart =
    back_receipt_by (nat_lt number given.number) given (record { number = number; receipt = receipt }) receipts
    (with_receipt_of number receipt receipts) n apart (back_receipt n number receipt receipts apart)

-- ---- no sector is in an object that has no live one

same_number : (a b : ObjectPlace) → Some a ≡ Some b → a.number ≡ b.number
same_number a b same = cc

same_level : (a b : ObjectPlace) → Some a ≡ Some b → a.level ≡ b.level
same_level a b same = cc

in_object : (number : ℕ) (place : ObjectPlace) → place.level ≡ 0 → place.number ≡ number → is_in_object number place ≡ true
in_object number place own is =
    let level : (place.level == 0) ≡ true = grind (arith, nat_tests) in
    let same : (place.number == number) ≡ true = grind (arith, nat_tests) in
    rw (level, same) refl

some_within : (lba sectors k : ℕ) → is_within lba sectors k ≡ true → 1 ≤ sectors
some_within lba sectors k inside = grind (arith, nat_tests)

live_by : (test : Bool) (number k : ℕ) (row : Extent ObjectPlace) (more : Option ObjectPlace) (place : ObjectPlace) (live : ℕ)
    → is_within row.lba row.sectors k ≡ test → (more ≡ Some place → 1 ≤ live) → place.level ≡ 0 → place.number ≡ number
    → cond test (Some (object_on (k - row.lba) row.place)) more ≡ Some place → 1 ≤ sectors_in number row + live
live_by true number k row more place live inside rest own is at =
    let level : row.place.level ≡ 0 = same_level (object_on (k - row.lba) row.place) place at ∙ own in
    let named : row.place.number ≡ number = same_number (object_on (k - row.lba) row.place) place at ∙ is in
    let all : sectors_in number row ≡ row.sectors =
    ap (λ t. cond t row.sectors 0) (in_object number row.place level named) in
    omega (arith, all, some_within row.lba row.sectors k inside)
live_by false number k row more place live inside rest own is at = omega (arith, rest at)

live_there : (number k : ℕ) (rows : List (Extent ObjectPlace)) (place : ObjectPlace) → place_at object_on rows k ≡ Some place
    → place.level ≡ 0 → place.number ≡ number → 1 ≤ live_sectors number rows
live_there number k [] place at own is = absurd cc
live_there number k (row ∷ rows) place at own is =
    let more = live_by (is_within row.lba row.sectors k) number k row (place_at object_on rows k) place
    (live_sectors number rows) refl (λ later. live_there number k rows place later own is) own is at in
    omega (arith, more, sum_by-cons (sectors_in number) row rows)

row_has_by : (P : ObjectRow → Type 0) (test : Bool) (number : ℕ) (first row : ObjectRow) (more : Option ObjectRow)
    → (first.number == number) ≡ test → P first → (more ≡ Some row → P row × (row.number ≡ number))
    → cond test (Some first) more ≡ Some row → P row × (row.number ≡ number)
row_has_by P true number first row more test has rest is =
    let same : first ≡ row = cc in
    let named : first.number ≡ number = grind (arith, nat_tests) in
    subst (λ r. P r × (r.number ≡ number)) same (has, named)
row_has_by P false number first row more test has rest is = rest is

-- what holds of all rows holds of the row of a number
row_has : (P : ObjectRow → Type 0) (number : ℕ) (rows : List ObjectRow) (row : ObjectRow) → All P rows
    → row_of number rows ≡ Some row → P row × (row.number ≡ number)
row_has P number [] row all is = absurd cc
row_has P number (first ∷ rows) row all is =
    let test = first.number == number in
    row_has_by P test number first row (row_of number rows) refl (All-head P first rows all)
    (row_has P number rows row (All-tail P first rows all)) (sym (first_row test first rows number refl) ∙ is)

pub dead_is_apart : (number k : ℕ) (maps : MapsState) (place : ObjectPlace) → IsCounted maps.settled.rows maps.objects
    → IsDeadIn maps number → settled_at maps k ≡ Some place → place.level ≡ 0 → (place.number == number) ≡ false
dead_is_apart number k maps place counted dead at own =
    let live = row_has (λ (r : ObjectRow). r.live ≡ live_sectors r.number maps.settled.rows) number maps.objects.rows dead.0
    counted.live dead.1 in
    let none : live_sectors number maps.settled.rows ≡ 0 =
    ap (λ n. live_sectors n maps.settled.rows) (sym live.1) ∙ (sym live.0 ∙ dead.3) in
    apart_by (place.number == number) place.number number refl
    (λ is. absurd (omega (arith, none, live_there number k maps.settled.rows place at own is)))

-- ---- what has a receipt and a row stays

-- the object that is removed has no receipt
gone_is_apart : (old new : UploadsState) (number n : ℕ) (receipt : ReceiptState) (row : ObjectRow)
    → AreKnown old.uuid old.queue → AreKnown new.uuid new.queue → FinishesRemoval number old new
    → receipt_in old.queue.receipts n ≡ Some receipt → row_of n old.queue.maps.objects.rows ≡ Some row → n ≡ number → ⊥
gone_is_apart old new number n receipt row was known done given there same =
    let counted = known_counts old.queue old.uuid n receipt was given in
    let all = all_counts new.queue new.uuid n known done.removal in
    let receipts = ap (λ list. count_of n (map (λ (r : NumberedReceipt). r.number) list)) done.receipts in
    let rows = ap (λ list. count_of n (numbers list)) (done.rows ∙ ap (λ m. without m old.queue.maps.objects.rows) (sym same)) in
    let fewer = row_counts n old.queue.maps.objects.rows row there in
    absurd (omega (arith, counted, all, receipts, rows, fewer))

-- nor had the one whose receipt came back
back_is_apart : (old new : UploadsState) (number n : ℕ) (receipt back : ReceiptState)
    → AreKnown old.uuid old.queue → AreKnown new.uuid new.queue → TakesBackRemoval number back old new
    → receipt_in old.queue.receipts n ≡ Some receipt → n ≡ number → ⊥
back_is_apart old new number n receipt back was known done given same =
    let counted = known_counts old.queue old.uuid n receipt was given in
    let all = all_counts new.queue new.uuid n known done.removal in
    let more = ap (λ list. count_of n (map (λ (r : NumberedReceipt). r.number) list))
    (done.receipts ∙ ap (λ m. with_receipt_of m back old.queue.receipts) (sym same)) in
    let rows = ap (λ (t : TableState). count_of n (numbers t.rows)) done.objects in
    absurd (omega (arith, counted, all, more, rows, back_counts n back old.queue.receipts))

same_rows : (old new : QueueState) → new.maps.objects ≡ old.maps.objects → (n f : ℕ)
    → front_in (row_of n old.maps.objects.rows) ≡ Some f → front_in (row_of n new.maps.objects.rows) ≡ Some f
same_rows old new same n f is = ap (λ (t : TableState). front_in (row_of n t.rows)) same ∙ is

taken_stays : (number : ℕ) (receipt : ReceiptState) (old new : UploadsState) (n : ℕ) → TakesRemoval number receipt old new
    → (n == number) ≡ false → Stays old.queue new.queue n
taken_stays number receipt old new n takes apart =
    stays old.queue.receipts new.queue.receipts old.queue.maps.objects.rows new.queue.maps.objects.rows n
    (λ r is. ap (λ list. receipt_in list n) takes.receipts ∙ (other_receipt n number old.queue.receipts apart ∙ is))
    (same_rows old.queue new.queue takes.objects n)

done_stays : (number : ℕ) (old new : UploadsState) (n : ℕ) → AreKnown old.uuid old.queue → AreKnown new.uuid new.queue
    → FinishesRemoval number old new → Stays old.queue new.queue n
done_stays number old new n was known done object is =
    let parts = stored_parts (receipt_in old.queue.receipts n) (row_of n old.queue.maps.objects.rows) object is in
    let apart = apart_by (n == number) n number refl
    (gone_is_apart old new number n parts.0 parts.1 was known done parts.2 parts.3) in
    let row : row_of n new.queue.maps.objects.rows ≡ row_of n old.queue.maps.objects.rows =
    ap (row_of n) done.rows ∙ other_row n number old.queue.maps.objects.rows apart in
    ap (λ list. stored_with (receipt_in list n) (row_of n new.queue.maps.objects.rows)) done.receipts
    ∙ (ap (stored_with (receipt_in old.queue.receipts n)) row ∙ is)

back_stays : (number : ℕ) (receipt : ReceiptState) (old new : UploadsState) (n : ℕ) → AreKnown old.uuid old.queue
    → AreKnown new.uuid new.queue → TakesBackRemoval number receipt old new → Stays old.queue new.queue n
back_stays number receipt old new n was known done =
    stays old.queue.receipts new.queue.receipts old.queue.maps.objects.rows new.queue.maps.objects.rows n
    (λ r is.
    let apart = apart_by (number == n) number n refl
    (λ same. back_is_apart old new number n r receipt was known done is (sym same)) in
    ap (λ list. receipt_in list n) done.receipts ∙ (back_receipt n number receipt old.queue.receipts apart ∙ is))
    (same_rows old.queue new.queue done.objects n)

-- ---- the laws

-- what changes only the table and the receipts keeps the image, where what has a sector stays in the store
kept_by : (old new : UploadsState) → IsSameButObjects old new
    → ((k : ℕ) (p : ObjectPlace) → settled_at old.queue.maps k ≡ Some p → p.level ≡ 0 → Stays old.queue new.queue p.number)
    → KeepsImage old.queue new.queue
kept_by old new rest stays = record {
  image = image_stays old.queue new.queue (ap (λ (m : MapState ObjectPlace). m.rows) rest.settled) rest.inherited stays;
  receipts = λ told. rw rest.sealed told;
  copies = λ tells image copied.
      are_copied_same tells image old.queue new.queue rest.frontier (ap (λ (m : MapState ObjectPlace). m.rows) rest.settled)
      rest.sealed copied;
}

pub pins_keep_image : PinsKeepImage
pins_keep_image change number old new keeps pinned =
    let fronts : map fixed new.queue.maps.objects.rows ≡ map fixed old.queue.maps.objects.rows =
    ap (λ (t : TableState). map fixed t.rows) pinned.objects
    ∙ fixed_changed change number old.queue.maps.objects.rows keeps in
    kept_by old new pinned.rest (λ k p at own.
    stays old.queue.receipts new.queue.receipts old.queue.maps.objects.rows new.queue.maps.objects.rows p.number
    (λ r is. ap (λ list. receipt_in list p.number) pinned.receipts ∙ is)
    (λ f is. same_front p.number new.queue.maps.objects.rows old.queue.maps.objects.rows fronts ∙ is))

-- the object whose removal begins has no sector
taking_keeps_image : (number : ℕ) (receipt : ReceiptState) (old new : UploadsState) → AreKnown new.uuid new.queue
    → TakesRemoval number receipt old new → KeepsImage old.queue new.queue
taking_keeps_image number receipt old new known takes =
    let dead : IsDeadIn new.queue.maps number = subst (λ o. IfSome o (IsDeadIn new.queue.maps)) takes.removal known.removal in
    kept_by old new takes.rest (λ k p at own.
    let now : settled_at new.queue.maps k ≡ Some p =
    ap (λ (m : MapState ObjectPlace). place_at object_on m.rows k) takes.rest.settled ∙ at in
    taken_stays number receipt old new p.number takes
    (dead_is_apart number k new.queue.maps p known.counted dead now own))

pub removals_keep_image : RemovalsKeepImage
removals_keep_image number receipt old new was is (inl takes) = taking_keeps_image number receipt old new is.known takes
removals_keep_image number receipt old new was is (inr (inl done)) =
    kept_by old new done.rest (λ k p at own. done_stays number old new p.number was.known is.known done)
removals_keep_image number receipt old new was is (inr (inr back)) =
    kept_by old new back.rest (λ k p at own. back_stays number receipt old new p.number was.known is.known back)
