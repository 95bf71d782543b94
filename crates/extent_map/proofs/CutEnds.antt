-- The last row that begins before a sector, and what a cut at the sector leaves on both sides of it.
use Rattle.std.proofs.Common.{ℕ, suc, ◌+◌, ◌<◌, ◌≤◌, ◌≡◌, Some, List, [], ◌∷◌, ◌++◌, length, get_or, take, drop, sym, ◌∙◌, ap}
use Rattle.std.proofs.Common.{subst, arith, add-one, take-append-drop}
use Rattle.std.proofs.Math.ListN.{set}
use Rattle.std.specs.List.{slice_get}
use Rattle.std.proofs.lemmas.List.{drop-set, take_more_set, drop-set-lt, length-take, get_or-take}
use Rattle.std.proofs.lemmas.Option.{slice_get_within, get_or_from_slice_get, slice_get-get_or}
use Rattle.extent_map.specs.declared.extent.Extent.{Extent}
use Rattle.extent_map.specs.Extents.{IsShortest, Fits, AllFit}
use Rattle.extent_map.specs.Cut.{cut_short, rest_of, rows_before, rows_from, before_count}
use Rattle.extent_map.proofs.Order.{fits_at}
use Rattle.extent_map.proofs.Cuts.{nothing_before, all_from}
use Rattle.extent_map.proofs.CutIndex.{no_count_starts, last_early, before_last, from_last, before_cut, from_cut}

module _ {P : Type 0} (on : ℕ → P → P) (rows : List (Extent P)) (at n : ℕ) (shortest : IsShortest on rows)
    (count : n ≡ before_count at rows) where
  pub none_before : n ≡ 0 → rows_before at rows ≡ []
  none_before none = nothing_before on at rows shortest (no_count_starts on at rows (sym count ∙ none))

  pub whole_from : n ≡ 0 → rows_from on at rows ≡ rows
  whole_from none = all_from on at rows shortest (no_count_starts on at rows (sym count ∙ none))

  module _ (i : ℕ) (row : Extent P) (next : i + 1 ≡ n) (read : slice_get rows i ≡ Some row) where
    count_last : before_count at rows ≡ suc i
    count_last = sym count ∙ sym next ∙ add-one i

    pub last_inside : i < length rows
    last_inside = slice_get_within rows i row read

    row_is : get_or rows i row ≡ row
    row_is = get_or_from_slice_get rows i row row read

    pub last_begins : row.lba < at
    last_begins = subst (λ r. r.lba < at) row_is (last_early on at i rows row count_last)

    pub last_fits : (number : P → ℕ) → AllFit number rows → Fits number row
    last_fits number fits = subst (Fits number) row_is (fits_at number i rows row fits last_inside)

    pub before_whole : row.lba + row.sectors ≤ at → rows_before at rows ≡ take n rows
    before_whole ended =
        before_last on at i rows row shortest count_last (subst (λ r. r.lba + r.sectors ≤ at) (sym row_is) ended)
        ∙ ap (λ k. take k rows) (sym (add-one i) ∙ next)

    pub from_whole : row.lba + row.sectors ≤ at → rows_from on at rows ≡ drop n rows
    from_whole ended =
        from_last on at i rows row shortest count_last (subst (λ r. r.lba + r.sectors ≤ at) (sym row_is) ended)
        ∙ ap (λ k. drop k rows) (sym (add-one i) ∙ next)

    pub before_part : at < row.lba + row.sectors → rows_before at rows ≡ take i rows ++ cut_short at row ∷ []
    before_part over =
        before_cut on at i rows row shortest count_last (subst (λ r. at < r.lba + r.sectors) (sym row_is) over)
        ∙ ap (λ r. take i rows ++ cut_short at r ∷ []) row_is

    pub from_part : at < row.lba + row.sectors → rows_from on at rows ≡ rest_of on at row ∷ drop n rows
    from_part over =
        from_cut on at i rows row shortest count_last (subst (λ r. at < r.lba + r.sectors) (sym row_is) over)
        ∙ ap (λ r. rest_of on at r ∷ drop (suc i) rows) row_is
        ∙ ap (λ k. rest_of on at row ∷ drop k rows) (sym (add-one i) ∙ next)

-- a row that was written at an index, and what is on both sides of it
module _ {X : Type 0} (xs : List X) (i n : ℕ) (x : X) (next : i + 1 ≡ n) (inside : i < length xs) where
  pub written_back : drop i (set xs i x) ≡ x ∷ drop n xs
  written_back = drop-set xs i x inside ∙ ap (λ k. x ∷ drop k xs) next

  pub written_front : take n (set xs i x) ≡ take i xs ++ x ∷ []
  written_front = ap (λ k. take k (set xs i x)) (sym next) ∙ take_more_set xs i x inside

  pub written_past : drop n (set xs i x) ≡ drop n xs
  written_past = drop-set-lt n xs i x (omega (arith, next))

-- a row that is read before an index is one of those before it
pub read_front : {X : Type 0} (xs : List X) (i n : ℕ) (x : X) → i + 1 ≡ n → slice_get xs i ≡ Some x
    → slice_get (take n xs) i ≡ Some x
read_front xs i n x next read =
    let inside = slice_get_within xs i x read in
    let long : i < length (take n xs) = omega (arith, next, inside, length-take n xs) in
    slice_get-get_or (take n xs) i x long ∙ ap (λ y. Some y) (get_or-take n xs i x (omega (arith, next))
    ∙ get_or_from_slice_get xs i x x read)

pub parts_whole : {X : Type 0} (xs : List X) (i n : ℕ) (x : X) → i + 1 ≡ n → i < length xs
    → set xs i x ≡ (take i xs ++ x ∷ []) ++ drop n xs
parts_whole xs i n x next inside =
    sym (take-append-drop n (set xs i x))
    ∙ ap (λ ys. ys ++ drop n (set xs i x)) (written_front xs i n x next inside)
    ∙ ap (λ ys. (take i xs ++ x ∷ []) ++ ys) (written_past xs i n x next inside)
