-- The row of a candidate's number is that of the candidate, where the numbers ascend.
use Rattle.std.proofs.Common.{ℕ, zero, suc, ◌+◌, ◌<◌, ◌≡◌, Bool, true, false, cond, Some, None, List, [], ◌∷◌, ◌++◌, length}
use Rattle.std.proofs.Common.{get_or, take, map, refl, ap, sym, subst, ◌∙◌, arith}
use Rattle.std.specs.Prelude.{IsTrue, Option}
use Rattle.std.specs.List.{All, filter}
use Rattle.std.proofs.lemmas.List.{get_or-map, length-map, take_more, map-append}
use Rattle.std.proofs.lemmas.List.Elements.{All-filter, filter_passes}
use Rattle.std.proofs.lemmas.Bool.Decides.{nat_tests}
use Rattle.std.proofs.lemmas.Option.{same_Some, none-some}
use Rattle.object_table.specs.declared.row.ObjectRow.{ObjectRow}
use Rattle.object_table.specs.Table.{has_number, numbers, row_of, is_candidate, candidates}
use Rattle.object_table.specs.Lists.{Climbs}
use Rattle.object_table.proofs.Rows.{above_row, blank}
use Rattle.gc_policy.specs.declared.candidate.Candidate.{Candidate}

-- a row that is found behind a lower number
behind : (row other : ObjectRow) (rows : List ObjectRow) → row.number < other.number → row_of other.number rows ≡ Some other
    → row_of other.number (row ∷ rows) ≡ Some other
behind row other rows below found =
    let not_it : has_number other.number row ≡ false = grind (arith, nat_tests) in
    rw not_it found

one_more : (passes : Bool) (row : ObjectRow) (rows rest : List ObjectRow) (i : ℕ) (d : ObjectRow)
    → All (λ (other : ObjectRow). row.number < other.number) rest
    → ((i : ℕ) → i < length rest → row_of (get_or rest i d).number rows ≡ Some (get_or rest i d))
    → i < length (cond passes (row ∷ rest) rest)
    → row_of (get_or (cond passes (row ∷ rest) rest) i d).number (row ∷ rows) ≡ Some (get_or (cond passes (row ∷ rest) rest) i d)
one_more true row rows rest zero d above found inside =
    let it : has_number row.number row ≡ true = grind (arith, nat_tests) in
    rw it refl
one_more true row rows rest (suc i) d above found inside =
    let within : i < length rest = omega arith in
    behind row (get_or rest i d) rows (above i d within) (found i within)
one_more false row rows rest i d above found inside = behind row (get_or rest i d) rows (above i d inside) (found i inside)

found_at : (low : ℕ) (rows : List ObjectRow) (i : ℕ) (d : ObjectRow) → Climbs low (numbers rows)
    → i < length (filter is_candidate rows)
    → row_of (get_or (filter is_candidate rows) i d).number rows ≡ Some (get_or (filter is_candidate rows) i d)
found_at low [] i d order inside = absurd (omega arith)
found_at low (row ∷ rows) i d order inside =
    let Above = λ (other : ObjectRow). row.number < other.number in
    let above : All Above rows = λ k d within. above_row row.number rows k d order.1 within in
    one_more (is_candidate row) row rows (filter is_candidate rows) i d (All-filter is_candidate Above rows above)
    (λ i within. found_at row.number rows i d order.1 within) inside

-- a look by the number at a place of the candidates, and what it gave
pub record IsLooked (rows : List ObjectRow) (i : ℕ) (found : Option ObjectRow) : Type 0 where
  pub inside : i < length (filter is_candidate rows)
  pub is : found ≡ Some (get_or (filter is_candidate rows) i blank)

pub looked : (rows : List ObjectRow) (ns : List ℕ) (i : ℕ) (found : Option ObjectRow) → ns ≡ candidates rows
    → Climbs 0 (numbers rows) → i < length ns → found ≡ row_of (get_or ns i 0) rows → IsLooked rows i found
looked rows ns i found listed order below is =
    let kept = filter is_candidate rows in
    let number = λ (row : ObjectRow). row.number in
    let within : i < length kept = omega (arith, below, ap length listed, length-map kept number) in
    let named : get_or ns i 0 ≡ (get_or kept i blank).number =
    ap (λ ns. get_or ns i 0) listed ∙ get_or-map number kept i blank 0 within in
    record {
      inside = within;
      is = is ∙ (ap (λ n. row_of n rows) named ∙ found_at 0 rows i blank order within);
    }

-- it is the candidate's own
pub its_row : (rows : List ObjectRow) (i : ℕ) (found : Option ObjectRow) (row : ObjectRow) → IsLooked rows i found
    → found ≡ Some row → (row ≡ get_or (filter is_candidate rows) i blank) × IsTrue (is_candidate row)
its_row rows i found row look given =
    let kept = filter is_candidate rows in
    let same : row ≡ get_or kept i blank = same_Some row (get_or kept i blank) (sym given ∙ look.is) in
    (same, subst (λ row. IsTrue (is_candidate row)) (sym same) (filter_passes is_candidate rows i blank look.inside))

pub none_missing : (rows : List ObjectRow) (i : ℕ) (found : Option ObjectRow) → IsLooked rows i found → found ≡ None → ⊥
none_missing rows i found look none = none-some (get_or (filter is_candidate rows) i blank) (sym none ∙ look.is)

-- and one more is found
pub found_more : (rows : List ObjectRow) (i : ℕ) (looked : Option ObjectRow) (found : List Candidate) (one : Candidate)
    → IsLooked rows i looked → map (λ (one : Candidate). one.row) found ≡ take i (filter is_candidate rows)
    → one.row ≡ get_or (filter is_candidate rows) i blank
    → map (λ (one : Candidate). one.row) (found ++ one ∷ []) ≡ take (i + 1) (filter is_candidate rows)
found_more rows i looked found one look so_far is =
    let kept = filter is_candidate rows in
    map-append (λ (one : Candidate). one.row) found (one ∷ [])
    ∙ (ap (λ rows. rows ++ one.row ∷ []) so_far
    ∙ (ap (λ row. take i kept ++ row ∷ []) is ∙ sym (take_more kept i blank look.inside)))
