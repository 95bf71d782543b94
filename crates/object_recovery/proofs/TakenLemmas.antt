-- The objects before a checkpoint in a list that took them up.
use Rattle.std.proofs.Common.{◌≡◌, ℕ, zero, suc, ◌<◌, ◌==◌, true, false, Some, List, [], ◌∷◌, ◌++◌, length, map, get_or, refl}
use Rattle.std.proofs.Common.{sym, ◌∙◌, ap, subst, arith}
use Rattle.std.specs.List.{All, AllZip, Contains}
use Rattle.std.proofs.lemmas.Bool.Decides.{nat_tests}
use Rattle.std.proofs.lemmas.List.Elements.{All-nil, All-cons, All-head, All-tail}
use Rattle.object_format.specs.declared.expected.Expected.{Expected}
use Rattle.object_table.specs.declared.row.ObjectRow.{ObjectRow}
use Rattle.object_table.specs.Table.{row_of, new_row}
use Rattle.object_uploads.specs.State.{NumberedReceipt}
use Rattle.object_uploads.specs.Queue.{receipt_in}
use Rattle.object_uploads.proofs.StoredLemmas.{first_row, first_receipt}
use Rattle.object_recovery.specs.Earlier.{EarlierObject}
use Rattle.object_recovery.specs.Beginning.{HasPartsAsked, IsTakenUp, receipt_for}
use Rattle.object_recovery.proofs.EarlierLemmas.{Ascend, rest_ascend}

module _ (volume : Expected) where
  -- one more
  pub taken_push : (earlier : List EarlierObject) (rows : List ObjectRow) (e : EarlierObject) (payload front : ℕ)
      → AllZip (IsTakenUp volume) earlier rows → HasPartsAsked volume e payload front
      → AllZip (IsTakenUp volume) (earlier ++ e ∷ []) (rows ++ new_row e.number payload front ∷ [])
  taken_push [] [] e payload front taken parts = ((payload, front, refl, parts), tt)
  taken_push [] (row ∷ rows) e payload front taken parts = absurd taken
  taken_push (first ∷ rest) [] e payload front taken parts = absurd taken
  taken_push (first ∷ rest) (row ∷ rows) e payload front taken parts =
      (taken.0, taken_push rest rows e payload front taken.1 parts)

  -- their numbers are those of the objects
  pub taken_have : (P : ℕ → Type 0) (earlier : List EarlierObject) (rows : List ObjectRow)
      → AllZip (IsTakenUp volume) earlier rows → All (λ (e : EarlierObject). P e.number) earlier
      → All (λ (row : ObjectRow). P row.number) rows
  taken_have P [] [] taken all = All-nil (λ (row : ObjectRow). P row.number)
  taken_have P [] (row ∷ rows) taken all = absurd taken
  taken_have P (first ∷ rest) [] taken all = absurd taken
  taken_have P (first ∷ rest) (row ∷ rows) taken all =
      let head = All-head (λ (e : EarlierObject). P e.number) first rest all in
      let is = ap (λ (r : ObjectRow). r.number) taken.0.2 in
      All-cons (λ (r : ObjectRow). P r.number) row rows (subst P (sym is) head)
      (taken_have P rest rows taken.1 (All-tail (λ (e : EarlierObject). P e.number) first rest all))

  pub taken_below : (earlier : List EarlierObject) (rows : List ObjectRow) (number : ℕ)
      → AllZip (IsTakenUp volume) earlier rows → All (λ (e : EarlierObject). e.number < number) earlier
      → All (λ (row : ObjectRow). row.number < number) rows
  taken_below earlier rows number taken below = taken_have (λ n. n < number) earlier rows taken below

  -- what a list has of an object that was taken up
  pub record HasTaken (e : EarlierObject) (rows : List ObjectRow) (receipts : List NumberedReceipt) : Type 0 where
    pub row : ObjectRow
    pub there : row_of e.number rows ≡ Some row
    pub taken : IsTakenUp volume e row
    pub receipt : receipt_in receipts e.number ≡ Some e.receipt

  here : (first e : EarlierObject) (rest : List EarlierObject) (row : ObjectRow) (rows : List ObjectRow)
      → IsTakenUp volume first row → first ≡ e → HasTaken e (row ∷ rows) (map receipt_for (first ∷ rest))
  here first e rest row rows taken same =
      let is : row.number ≡ e.number = ap (λ (r : ObjectRow). r.number) taken.2 ∙ ap (λ (o : EarlierObject). o.number) same in
      let test : (row.number == e.number) ≡ true = grind (arith, nat_tests) in
      let own : first.number ≡ e.number = ap (λ (o : EarlierObject). o.number) same in
      let receipt_test : (first.number == e.number) ≡ true = grind (arith, nat_tests) in
      record {
        row = row;
        there = first_row true row rows e.number test;
        taken = subst (λ o. IsTakenUp volume o row) same taken;
        receipt =
            first_receipt true (receipt_for first) (map receipt_for rest) e.number receipt_test
            ∙ ap (λ (o : EarlierObject). Some o.receipt) same;
      }

  later : (first e : EarlierObject) (rest : List EarlierObject) (row : ObjectRow) (rows : List ObjectRow)
      → IsTakenUp volume first row → first.number < e.number → HasTaken e rows (map receipt_for rest)
      → HasTaken e (row ∷ rows) (map receipt_for (first ∷ rest))
  later first e rest row rows taken less has =
      let is : row.number ≡ first.number = ap (λ (r : ObjectRow). r.number) taken.2 in
      let test : (row.number == e.number) ≡ false = grind (arith, nat_tests) in
      let receipt_test : (first.number == e.number) ≡ false = grind (arith, nat_tests) in
      record {
        row = has.row;
        there = first_row false row rows e.number test ∙ has.there;
        taken = has.taken;
        receipt =
            first_receipt false (receipt_for first) (map receipt_for rest) e.number receipt_test ∙ has.receipt;
      }

  taken_at : (earlier : List EarlierObject) (rows : List ObjectRow) (e : EarlierObject) (k : ℕ) → Ascend earlier
      → AllZip (IsTakenUp volume) earlier rows → k < length earlier → get_or earlier k e ≡ e
      → HasTaken e rows (map receipt_for earlier)
  taken_at [] rows e k order taken inside is = absurd (omega arith)
  taken_at (first ∷ rest) [] e k order taken inside is = absurd taken
  taken_at (first ∷ rest) (row ∷ rows) e zero order taken inside is = here first e rest row rows taken.0 is
  taken_at (first ∷ rest) (row ∷ rows) e (suc k) order taken inside is =
      let more = order 0 (suc k) e (omega arith) inside in
      let number : (get_or rest k e).number ≡ e.number = ap (λ (o : EarlierObject). o.number) is in
      later first e rest row rows taken.0 (omega (arith, more, number))
      (taken_at rest rows e k (rest_ascend first rest order) taken.1 (omega arith) is)

  pub has_taken : (earlier : List EarlierObject) (rows : List ObjectRow) (e : EarlierObject) → Ascend earlier
      → AllZip (IsTakenUp volume) earlier rows → Contains earlier e → HasTaken e rows (map receipt_for earlier)
  has_taken earlier rows e order taken at = taken_at earlier rows e at.0 order taken at.1 at.2
