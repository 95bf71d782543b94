-- The items of pages, and where a page has its own among them.
use Rattle.std.proofs.Common.{ℕ, zero, suc, ◌+◌, ◌<◌, ◌≤◌, ◌≡◌, List, [], ◌∷◌, ◌++◌, length, get_or, take, drop, sym, ◌∙◌, ap}
use Rattle.std.proofs.Common.{arith, refl, length-append, zero-add, suc-add, add-one}
use Rattle.std.proofs.Math.ListN.{set}
use Rattle.std.specs.List.{sum, slice_get}
use Rattle.std.proofs.lemmas.List.{drop_at, drop-drop, take-append-le, drop-append-le, set_split, set-append_left}
use Rattle.std.proofs.lemmas.List.{take-append-drop, drop_more, take-map}
use Rattle.std.proofs.lemmas.List.Concat.{flat_map-append}
use Rattle.std.proofs.lemmas.List.Sums.{sum_by-cons}
use Rattle.page_list.specs.Items.{length_at, page_start}
use Rattle.page_list.specs.Pages.{items_of, lengths_of}

pub one_split : {X : Type 0} (xs : List X) (p : ℕ) (d : X) → p < length xs → xs ≡ take p xs ++ get_or xs p d ∷ drop (p + 1) xs
one_split xs p d inside = sym (take-append-drop p xs) ∙ ap (λ rest. take p xs ++ rest) (drop_more xs p d inside)

module _ {T : Type 0} where
  pub items_append : (a b : List (List T)) → items_of (a ++ b) ≡ items_of a ++ items_of b
  items_append a b = flat_map-append (λ page. page) a b

  pub items_length : (pages : List (List T)) → length (items_of pages) ≡ sum (lengths_of pages)
  items_length [] = refl
  items_length (page ∷ pages) =
      omega (
        arith,
        length-append page (items_of pages),
        items_length pages,
        sum_by-cons (λ n. n) (length page)
            (lengths_of pages),
      )

  pub start_is : (pages : List (List T)) (p : ℕ) → length (items_of (take p pages)) ≡ page_start (lengths_of pages) p
  start_is pages p = items_length (take p pages) ∙ ap sum (sym (take-map length p pages))

  pub length_is : (pages : List (List T)) (p : ℕ) → length_at (lengths_of pages) p ≡ length (get_or pages p [])
  length_is [] p = refl
  length_is (page ∷ pages) zero = refl
  length_is (page ∷ pages) (suc p) = length_is pages p

  pub items_split : (pages : List (List T)) (p : ℕ) → p < length pages
      → items_of pages ≡ items_of (take p pages) ++ (get_or pages p [] ++ items_of (drop (p + 1) pages))
  items_split pages p inside =
      ap items_of (one_split pages p [] inside) ∙ items_append (take p pages) (get_or pages p [] ∷ drop (p + 1) pages)

  -- a list of two parts, at an index of the second
  take_past : (a b : List T) (i : ℕ) → take (length a + i) (a ++ b) ≡ a ++ take i b
  take_past [] b i = simp zero-add refl
  take_past (x ∷ a) b i = simp suc-add (ap (λ xs. x ∷ xs) (take_past a b i))

  get_past : (a b : List T) (i : ℕ) → slice_get (a ++ b) (length a + i) ≡ slice_get b i
  get_past [] b i = simp zero-add refl
  get_past (x ∷ a) b i = simp suc-add (get_past a b i)

  get_front : (b c : List T) (i : ℕ) → i < length b → slice_get (b ++ c) i ≡ slice_get b i
  get_front [] c i inside = absurd (omega arith)
  get_front (x ∷ b) c zero inside = refl
  get_front (x ∷ b) c (suc i) inside = get_front b c i (omega arith)

  set_past : (a b : List T) (i : ℕ) (x : T) → set (a ++ b) (length a + i) x ≡ a ++ set b i x
  set_past [] b i x = simp zero-add refl
  set_past (y ∷ a) b i x = simp suc-add (ap (λ xs. y ∷ xs) (set_past a b i x))

-- a list of three parts, at an index of the second
module _ {T : Type 0} (a b c : List T) (i : ℕ) where
  take_mid : i ≤ length b → take (length a + i) (a ++ (b ++ c)) ≡ a ++ take i b
  take_mid inside = take_past a (b ++ c) i ∙ ap (λ xs. a ++ xs) (take-append-le i b c inside)

  drop_mid : i ≤ length b → drop (length a + i) (a ++ (b ++ c)) ≡ drop i b ++ c
  drop_mid inside =
      sym (drop-drop i (length a) (a ++ (b ++ c))) ∙ ap (drop i) (drop_at a (b ++ c) (length a) refl)
      ∙ drop-append-le i b c inside

  get_mid : i < length b → slice_get (a ++ (b ++ c)) (length a + i) ≡ slice_get b i
  get_mid inside = get_past a (b ++ c) i ∙ get_front b c i inside

  set_mid : (x : T) → i < length b → set (a ++ (b ++ c)) (length a + i) x ≡ a ++ (set b i x ++ c)
  set_mid x inside = set_past a (b ++ c) i x ∙ ap (λ xs. a ++ xs) (set-append_left b c i x inside)

-- the items up to an item of a page and from there on, in turn those of the pages before, of this one, and of those after
module _ {T : Type 0} (pages : List (List T)) (p i : ℕ) where
  pub front_is : p < length pages → i ≤ length (get_or pages p [])
      → take (page_start (lengths_of pages) p + i) (items_of pages) ≡ items_of (take p pages) ++ take i (get_or pages p [])
  front_is page inside =
      ap (λ n. take (n + i) (items_of pages)) (sym (start_is pages p))
      ∙ ap (take (length (items_of (take p pages)) + i)) (items_split pages p page)
      ∙ take_mid (items_of (take p pages)) (get_or pages p []) (items_of (drop (p + 1) pages)) i inside

  pub back_is : p < length pages → i ≤ length (get_or pages p [])
      → drop (page_start (lengths_of pages) p + i) (items_of pages) ≡ drop i (get_or pages p []) ++ items_of (drop (p + 1) pages)
  back_is page inside =
      ap (λ n. drop (n + i) (items_of pages)) (sym (start_is pages p))
      ∙ ap (drop (length (items_of (take p pages)) + i)) (items_split pages p page)
      ∙ drop_mid (items_of (take p pages)) (get_or pages p []) (items_of (drop (p + 1) pages)) i inside

  pub item_is : p < length pages → i < length (get_or pages p [])
      → slice_get (items_of pages) (page_start (lengths_of pages) p + i) ≡ slice_get (get_or pages p []) i
  item_is page inside =
      ap (λ n. slice_get (items_of pages) (n + i)) (sym (start_is pages p))
      ∙ ap (λ xs. slice_get xs (length (items_of (take p pages)) + i)) (items_split pages p page)
      ∙ get_mid (items_of (take p pages)) (get_or pages p []) (items_of (drop (p + 1) pages)) i inside

  -- a page in place of this one
  pub items_with : (page : List T) → p < length pages
      → items_of (set pages p page) ≡ items_of (take p pages) ++ (page ++ items_of (drop (p + 1) pages))
  items_with page inside =
      ap items_of (set_split pages p page inside)
      ∙ items_append (take p pages) (page ∷ drop (suc p) pages)
      ∙ ap (λ k. items_of (take p pages) ++ (page ++ items_of (drop k pages))) (sym (add-one p))

  pub item_replaced : (x : T) → p < length pages → i < length (get_or pages p [])
      → items_of (set pages p (set (get_or pages p []) i x)) ≡ set (items_of pages) (page_start (lengths_of pages) p + i) x
  item_replaced x page inside =
      items_with (set (get_or pages p []) i x) page
      ∙ sym (set_mid (items_of (take p pages)) (get_or pages p []) (items_of (drop (p + 1) pages)) i x inside)
      ∙ ap (λ xs. set xs (length (items_of (take p pages)) + i) x) (sym (items_split pages p page))
      ∙ ap (λ n. set (items_of pages) (n + i) x) (start_is pages p)
