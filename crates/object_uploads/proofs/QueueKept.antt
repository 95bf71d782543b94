-- What a queue always knows of the objects up to the frontier, while calls change it.
use Rattle.std.proofs.Common.{◌≡◌, ℕ, ◌+◌, ◌<◌, ◌≤◌, ◌==◌, Bool, true, false, not, Option, Some, None, List, [], ◌∷◌, ◌++◌}
use Rattle.std.proofs.Common.{inl, inr, refl, sym, ◌∙◌, ap, subst, arith}
use Rattle.std.specs.Prelude.{IsSome, IfSome}
use Rattle.std.specs.List.{All}
use Rattle.std.proofs.lemmas.Bool.{cases_lt}
use Rattle.std.proofs.lemmas.Bool.Decides.{nat_tests}
use Rattle.std.proofs.lemmas.List.{map-append}
use Rattle.std.proofs.lemmas.List.Elements.{All-nil, All-cons, All-head, All-tail, All-push, All-weaker, All-map, All-filter}
use Rattle.extent_map.specs.Extents.{IsShortest}
use Rattle.lsvd_objstore.specs.Store.{ReceiptState}
use Rattle.object_table.specs.declared.row.ObjectRow.{ObjectRow}
use Rattle.object_table.specs.Table.{numbers, row_of, IsNewest}
use Rattle.object_table.specs.Lists.{Climbs}
use Rattle.object_table.proofs.Rows.{its_number}
use Rattle.object_table.proofs.Listed.{found_holds}
use Rattle.volume_maps.specs.Places.{object_on}
use Rattle.volume_maps.specs.Maps.{MapsState}
use Rattle.volume_maps.specs.Live.{IsCounted}
use Rattle.object_uploads.specs.State.{NumberedReceipt, QueueState}
use Rattle.object_uploads.specs.Queue.{receipt_in}
use Rattle.object_uploads.specs.Receipts.{MayCome}
use Rattle.object_uploads.specs.Order.{is_out, IsDeadIn, UnmappedAreDead, KnowFromCheckpoint}
use Rattle.object_uploads.specs.Invariant.{IsKnown}
use Rattle.object_uploads.proofs.RemovedLemmas.{receipt_numbers, left_by}
use Rattle.object_uploads.proofs.UnmappedRows.{unmapped_same}

-- ---- what is said of rows, by their numbers

abbrev Numbered : (ℕ → Type 0) → List ObjectRow → Type 0
Numbered P rows = All (λ (row : ObjectRow). P row.number) rows

pub numbers_have : (P : ℕ → Type 0) (rows : List ObjectRow) → Numbered P rows → All P (numbers rows)
numbers_have P rows all = All-map P (λ (row : ObjectRow). row.number) rows all

pub rows_have : (P : ℕ → Type 0) (rows : List ObjectRow) → All P (numbers rows) → Numbered P rows
rows_have P [] all = All-nil (λ (row : ObjectRow). P row.number)
rows_have P (row ∷ rows) all =
    All-cons (λ (row : ObjectRow). P row.number) row rows (All-head P row.number (numbers rows) all)
    (rows_have P rows (All-tail P row.number (numbers rows) all))

-- rows with the same numbers
pub renumbered : (P : ℕ → Type 0) (old new : List ObjectRow) → numbers new ≡ numbers old → Numbered P old → Numbered P new
renumbered P old new same all = rows_have P new (subst (All P) (sym same) (numbers_have P old all))

-- and with one more
one_more : (P : ℕ → Type 0) (old new : List ObjectRow) (number : ℕ) → numbers new ≡ numbers old ++ number ∷ []
    → Numbered P old → P number → Numbered P new
one_more P old new number same all own =
    rows_have P new (subst (All P) (sym same) (All-push P (numbers old) number (numbers_have P old all) own))

-- ascending numbers with a greater one at their end
climbs_push : (low number : ℕ) (list : List ℕ) → Climbs low list → All (λ (n : ℕ). n < number) list → low < number
    → Climbs low (list ++ number ∷ [])
climbs_push low number [] order above first = (first, tt)
climbs_push low number (n ∷ list) order above first = (
  order.0,
  climbs_push n number list order.1 (All-tail (λ (n : ℕ). n < number) n list above)
      (All-head (λ (n : ℕ). n < number) n list above),
)

-- ---- the removal that is out

-- an object that is removed is dead yet, where each dead object still is
dead_yet : (out : Option ℕ) (old new : MapsState) → ((n : ℕ) → IsDeadIn old n → IsDeadIn new n) → IfSome out (IsDeadIn old)
    → IfSome out (IsDeadIn new)
dead_yet None old new keeps dead = tt
dead_yet (Some number) old new keeps dead = keeps number dead

pub dead_out : (removal out : Option ℕ) (old new : MapsState) → out ≡ removal → ((n : ℕ) → IsDeadIn old n → IsDeadIn new n)
    → IfSome removal (IsDeadIn old) → IfSome out (IsDeadIn new)
dead_out removal out old new same keeps dead =
    subst (λ o. IfSome o (IsDeadIn new)) (sym same) (dead_yet removal old new keeps dead)

-- a number above those of all objects is not that of a removal
not_out : (out : Option ℕ) (maps : MapsState) (number : ℕ) → IfSome out (IsDeadIn maps)
    → All (λ (row : ObjectRow). row.number < number) maps.objects.rows → is_out out number ≡ false
not_out None maps number dead above = refl
not_out (Some out) maps number dead above =
    let low = found_holds (λ (row : ObjectRow). row.number < number) out maps.objects.rows dead.0 dead.1 above in
    let own = its_number out maps.objects.rows dead.0 dead.1 in
    grind (arith, nat_tests)

left_more_by : (test : Bool) (out : Option ℕ) (first number : ℕ) (rest : List ℕ) → is_out out first ≡ test
    → left_by out (rest ++ number ∷ []) ≡ left_by out rest ++ number ∷ []
    → left_by out (first ∷ (rest ++ number ∷ [])) ≡ left_by out (first ∷ rest) ++ number ∷ []
left_more_by true out first number rest test more = rw test more
left_more_by false out first number rest test more = rw test (ap (λ list. first ∷ list) more)

-- one number more is left
left_more : (out : Option ℕ) (list : List ℕ) (number : ℕ) → is_out out number ≡ false
    → left_by out (list ++ number ∷ []) ≡ left_by out list ++ number ∷ []
left_more out [] number in_place = rw in_place refl
left_more out (first ∷ rest) number in_place =
    left_more_by (is_out out first) out first number rest refl (left_more out rest number in_place)

-- ---- receipts

still_by : (test : Bool) (given : NumberedReceipt) (rest more : List NumberedReceipt) (number : ℕ)
    → (given.number == number) ≡ test
    → (IsSome (receipt_in rest number) → IsSome (receipt_in more number)) → IsSome (receipt_in (given ∷ rest) number)
    → IsSome (receipt_in (given ∷ more) number)
still_by true given rest more number test keeps there = rw test refl
still_by false given rest more number test keeps there = rw test (keeps (rw test at there))

-- each receipt is there when one more comes, and so is that one
receipt_still : (receipts more : List NumberedReceipt) (number : ℕ) → IsSome (receipt_in receipts number)
    → IsSome (receipt_in (receipts ++ more) number)
receipt_still [] more number there = absurd cc
receipt_still (given ∷ receipts) more number there =
    still_by (given.number == number) given receipts (receipts ++ more) number refl (receipt_still receipts more number) there

pushed_by : (test : Bool) (given : NumberedReceipt) (more : List NumberedReceipt) (number : ℕ) → (given.number == number) ≡ test
    → IsSome (receipt_in more number) → IsSome (receipt_in (given ∷ more) number)
pushed_by true given more number test there = rw test refl
pushed_by false given more number test there = rw test there

receipt_pushed : (receipts : List NumberedReceipt) (number : ℕ) (receipt : ReceiptState)
    → IsSome (receipt_in (receipts ++ record { number = number; receipt = receipt } ∷ []) number)
receipt_pushed [] number receipt =
    let own : NumberedReceipt = record { number = number; receipt = receipt } in
    let it : (number == number) ≡ true = grind (arith, nat_tests) in
    rw it refl
receipt_pushed (given ∷ receipts) number receipt =
    pushed_by (given.number == number) given (receipts ++ record { number = number; receipt = receipt } ∷ []) number refl
    (receipt_pushed receipts number receipt)

-- receipts of numbers below one
receipts_below : (number : ℕ) (receipts : List NumberedReceipt) → All (λ (n : ℕ). n < number) (receipt_numbers receipts)
    → MayCome number receipts
receipts_below number [] below = All-nil (λ (r : NumberedReceipt). r.number < number)
receipts_below number (first ∷ receipts) below =
    All-cons (λ (r : NumberedReceipt). r.number < number) first receipts
    (All-head (λ (n : ℕ). n < number) first.number (receipt_numbers receipts) below)
    (receipts_below number receipts (All-tail (λ (n : ℕ). n < number) first.number (receipt_numbers receipts) below))

-- ---- the same objects

-- the table has the same numbers, and the object that is removed is dead
pub known_same : (old new : QueueState) → IsKnown old → new.frontier ≡ old.frontier → new.receipts ≡ old.receipts
    → new.removal ≡ old.removal → numbers new.maps.objects.rows ≡ numbers old.maps.objects.rows
    → new.maps.objects.checkpoint ≡ old.maps.objects.checkpoint → IfSome new.removal (IsDeadIn new.maps)
    → UnmappedAreDead new.maps → IsCounted new.maps.settled.rows new.maps.objects → IsShortest object_on new.maps.settled.rows
    → IsKnown new
known_same old new known frontier receipts removal named checkpoint dead unmapped counted shortest = record {
  order = subst (Climbs 0) (sym named) known.order;
  from_one = renumbered (λ (n : ℕ). 1 ≤ n) old.maps.objects.rows new.maps.objects.rows named known.from_one;
  within = rw frontier
      (renumbered (λ (n : ℕ). n ≤ old.frontier) old.maps.objects.rows new.maps.objects.rows named known.within);
  checkpoint = omega (arith, checkpoint, frontier, known.checkpoint);
  receipts = ap receipt_numbers receipts ∙ (known.receipts ∙ (ap (left_by old.removal) (sym named)
      ∙ ap (λ out. left_by out (numbers new.maps.objects.rows)) (sym removal)));
  follow = λ number some from most.
      rw receipts (known.follow number (omega (arith, checkpoint)) (omega (arith, checkpoint)) (omega (arith, frontier)));
  removal = dead;
  unmapped = unmapped;
  counted = counted;
  shortest = shortest;
}

dead_in : (old new : MapsState) → new.objects.rows ≡ old.objects.rows → (n : ℕ) → IsDeadIn old n → IsDeadIn new n
dead_in old new same n dead = (dead.0, ap (row_of n) same ∙ dead.1, dead.2, dead.3)

-- the same table, which is counted
pub known_kept : (old new : QueueState) → IsKnown old → new.frontier ≡ old.frontier → new.receipts ≡ old.receipts
    → new.removal ≡ old.removal → new.maps.objects.rows ≡ old.maps.objects.rows
    → new.maps.objects.checkpoint ≡ old.maps.objects.checkpoint → new.maps.settled.rows ≡ old.maps.settled.rows → IsKnown new
known_kept old new known frontier receipts removal rows checkpoint settled =
    known_same old new known frontier receipts removal (ap numbers rows) checkpoint
    (dead_out old.removal new.removal old.maps new.maps removal (dead_in old.maps new.maps rows) known.removal)
    (unmapped_same old.maps new.maps rows checkpoint known.unmapped) (record {
      live = rw (rows, settled) known.counted.live;
      known = rw (rows, settled) known.counted.known;
    }) (subst (IsShortest object_on) (sym settled) known.shortest)

-- a queue that differs in what is not known of objects
pub known_as : (old new : QueueState) → IsKnown old → new.frontier ≡ old.frontier → new.receipts ≡ old.receipts
    → new.removal ≡ old.removal → new.maps ≡ old.maps → IsKnown new
known_as old new known frontier receipts removal maps =
    known_kept old new known frontier receipts removal (ap (λ (m : MapsState). m.objects.rows) maps)
    (ap (λ (m : MapsState). m.objects.checkpoint) maps) (ap (λ (m : MapsState). m.settled.rows) maps)

-- ---- a number that comes

-- the number after the frontier is greater than all that are known
pub next_is_newest : (queue : QueueState) → IsKnown queue → IsNewest queue.maps.objects (queue.frontier + 1)
next_is_newest queue known = record {
  above_rows = All-weaker (λ (row : ObjectRow). row.number ≤ queue.frontier)
      (λ (row : ObjectRow). row.number < queue.frontier + 1) (λ row low. omega (arith, low)) queue.maps.objects.rows known.within;
  above_checkpoint = omega (arith, known.checkpoint);
}

-- and so than the numbers of all receipts
pub newest_may_come : (queue : QueueState) (number : ℕ) → IsKnown queue → IsNewest queue.maps.objects number
    → MayCome number queue.receipts
newest_may_come queue number known newest =
    let out = λ (n : ℕ). not (is_out queue.removal n) in
    receipts_below number queue.receipts (subst (All (λ (n : ℕ). n < number)) (sym known.receipts)
    (All-filter out (λ (n : ℕ). n < number) (numbers queue.maps.objects.rows)
    (numbers_have (λ (n : ℕ). n < number) queue.maps.objects.rows newest.above_rows)))

-- an object with this number and its receipt are known too
pub known_more : (old new : QueueState) (number : ℕ) (receipt : ReceiptState) → IsKnown old → IsNewest old.maps.objects number
    → new.receipts ≡ old.receipts ++ record { number = number; receipt = receipt } ∷ [] → new.removal ≡ old.removal
    → numbers new.maps.objects.rows ≡ numbers old.maps.objects.rows ++ number ∷ []
    → old.frontier ≤ new.frontier → number ≤ new.frontier → new.maps.objects.checkpoint ≤ new.frontier → KnowFromCheckpoint new
    → ((n : ℕ) → IsDeadIn old.maps n → IsDeadIn new.maps n) → UnmappedAreDead new.maps
    → IsCounted new.maps.settled.rows new.maps.objects → IsShortest object_on new.maps.settled.rows → IsKnown new
known_more old new number receipt known newest receipts removal named later within checkpoint follow dead unmapped counted
    shortest =
    let rows = old.maps.objects.rows in
    let own : NumberedReceipt = record { number = number; receipt = receipt } in
    let some : 0 < number = omega (arith, newest.above_checkpoint) in
    let apart = not_out old.removal old.maps number known.removal newest.above_rows in
    record {
      order = subst (Climbs 0) (sym named) (climbs_push 0 number (numbers rows) known.order
          (numbers_have (λ (n : ℕ). n < number) rows newest.above_rows) some);
      from_one = one_more (λ (n : ℕ). 1 ≤ n) rows new.maps.objects.rows number named known.from_one (omega arith);
      within = one_more (λ (n : ℕ). n ≤ new.frontier) rows new.maps.objects.rows number named
          (All-weaker (λ (row : ObjectRow). row.number ≤ old.frontier) (λ (row : ObjectRow). row.number ≤ new.frontier)
          (λ row low. omega (arith, low)) rows known.within) within;
      checkpoint = checkpoint;
      receipts =
          ap receipt_numbers receipts
          ∙ (map-append (λ (r : NumberedReceipt). r.number) old.receipts (own ∷ [])
          ∙ (ap (λ (list : List ℕ). list ++ number ∷ []) known.receipts
          ∙ (sym (left_more old.removal (numbers rows) number apart)
          ∙ (ap (left_by old.removal) (sym named)
          ∙ ap (λ out. left_by out (numbers new.maps.objects.rows)) (sym removal)))));
      follow = follow;
      removal = dead_out old.removal new.removal old.maps new.maps removal dead known.removal;
      unmapped = unmapped;
      counted = counted;
      shortest = shortest;
    }

-- ---- from the newest checkpoint on

-- with one receipt more, where the frontier is the same or its number
pub follow_more : (old new : QueueState) (number : ℕ) (receipt : ReceiptState) → IsKnown old
    → new.receipts ≡ old.receipts ++ record { number = number; receipt = receipt } ∷ []
    → ((n : ℕ) → old.frontier < n → n ≤ new.frontier → n ≡ number)
    → new.maps.objects.checkpoint ≡ old.maps.objects.checkpoint → KnowFromCheckpoint new
follow_more old new number receipt known receipts last checkpoint n some from most =
    let own : NumberedReceipt = record { number = number; receipt = receipt } in
    rw receipts (elim (cases_lt old.frontier n) [
      | inl high ↦
          subst (λ m. IsSome (receipt_in (old.receipts ++ own ∷ []) m)) (sym (last n high most))
          (receipt_pushed old.receipts number receipt)
      | inr low ↦
          receipt_still old.receipts (own ∷ []) n
          (known.follow n (omega (arith, checkpoint, some)) (omega (arith, checkpoint, from)) low)
    ])

-- where the newest checkpoint is the frontier
pub follow_at : (new : QueueState) (receipts : List NumberedReceipt) (number : ℕ) (receipt : ReceiptState)
    → new.receipts ≡ receipts ++ record { number = number; receipt = receipt } ∷ []
    → new.maps.objects.checkpoint ≡ number → new.frontier ≡ number → KnowFromCheckpoint new
follow_at new receipts number receipt given checkpoint frontier n some from most =
    let own : NumberedReceipt = record { number = number; receipt = receipt } in
    let same : n ≡ number = omega (arith, checkpoint, frontier) in
    rw given (subst (λ m. IsSome (receipt_in (receipts ++ own ∷ []) m)) (sym same) (receipt_pushed receipts number receipt))
