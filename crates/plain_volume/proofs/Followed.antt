-- The last writers of sectors, when an entry comes after a history, and the runs that they make.
use Rattle.std.proofs.Common.{length-append, length-take, length-drop, ◌≡◌, ℕ, ◌+◌, ◌-◌, ◌<◌, ◌≤◌, Option, Some, None, true}
use Rattle.std.proofs.Common.{false, List, [], ◌∷◌, ◌++◌, get_or, length, take, drop, replicate, min, inl, inr, sym, ◌∙◌, ap}
use Rattle.std.proofs.Common.{refl, arith, rules}
use Rattle.std.proofs.lemmas.List.{same_lists, length-replicate, get_or-replicate, places}
use Rattle.std.proofs.lemmas.List.FromFn.{get_or-map-range_with_len, length-map-range_with_len}
use Rattle.std.proofs.lemmas.Bool.{cases_lt}
use Rattle.std.proofs.lemmas.Bool.Decides.{nat_tests}
use Rattle.lsvd_base.specs.declared.entry.Entry.{Entry}
use Rattle.lsvd_base.specs.Laws.{first_sector, sector_count}
use Rattle.plain_disk.specs.Writers.{covers_sector, writer_of, writer_after, writer_after_all, last_writer, writers}

-- one entry more after others
writer_after_all-push : (index : ℕ) (entries : List Entry) (entry : Entry) (sector : ℕ) (before : Option ℕ)
    → writer_after_all index (entries ++ entry ∷ []) sector before
    ≡ writer_after (index + length entries) entry sector (writer_after_all index entries sector before)
writer_after_all-push index [] entry sector before =
    ap (λ n. writer_after n entry sector before) (omega arith)
writer_after_all-push index (first ∷ entries) entry sector before =
    writer_after_all-push (index + 1) entries entry sector (writer_after index first sector before)
    ∙ ap (λ n. writer_after n entry sector (writer_after_all (index + 1) entries sector (writer_after index first sector before)))
    (omega arith)

pub last_writer-push : (history : List Entry) (entry : Entry) (sector : ℕ)
    → last_writer (history ++ entry ∷ []) sector ≡ writer_after (length history) entry sector (last_writer history sector)
last_writer-push history entry sector =
    writer_after_all-push 0 history entry sector None
    ∙ ap (λ n. writer_after n entry sector (last_writer history sector)) (omega arith)

-- a sector that the entry does not cover, and one that it covers
writer_after-outside : (index : ℕ) (entry : Entry) (sector : ℕ) (before : Option ℕ)
    → covers_sector entry sector ≡ false → writer_after index entry sector before ≡ before
writer_after-outside index entry sector before h = rw h refl

writer_after-inside : (index : ℕ) (entry : Entry) (sector : ℕ) (before : Option ℕ)
    → covers_sector entry sector ≡ true → writer_after index entry sector before ≡ writer_of index entry
writer_after-inside index entry sector before h = rw h refl

pub is_below : (entry : Entry) (sector : ℕ) → sector < first_sector entry → covers_sector entry sector ≡ false
is_below entry sector h = grind (arith, nat_tests)

pub is_inside : (entry : Entry) (sector : ℕ) → first_sector entry ≤ sector → sector < first_sector entry + sector_count entry
    → covers_sector entry sector ≡ true
is_inside entry sector h l = grind (arith, nat_tests)

pub is_behind : (entry : Entry) (sector : ℕ) → first_sector entry + sector_count entry ≤ sector
    → covers_sector entry sector ≡ false
is_behind entry sector h = grind (arith, nat_tests)

-- the last writer of each of the sectors
get_or-writers : (history : List Entry) (lba sectors k : ℕ) (d : Option ℕ) → k < sectors
    → get_or (writers history lba sectors) k d ≡ last_writer history (lba + k)
get_or-writers history lba sectors k d h = get_or-map-range_with_len (last_writer history) lba sectors k (lba + k) d h refl

pub length-writers : (history : List Entry) (lba sectors : ℕ) → length (writers history lba sectors) ≡ sectors
length-writers history lba sectors = length-map-range_with_len (last_writer history) lba sectors

-- a list with the middle part from start to end filled with one element
abbrev pub filled : {A : Type 0} → ℕ → ℕ → A → List A → List A
filled start end a xs = take start xs ++ (replicate (end - start) a ++ drop (end - start) (drop start xs))

length-filled : (start end : ℕ) (a : Option ℕ) (xs : List (Option ℕ)) → start ≤ end → end ≤ length xs
    → length (filled start end a xs) ≡ length xs
length-filled start end a xs h l =
    simp (length-append, length-take, length-drop, length-replicate) (omega arith)

filled-below : (start end : ℕ) (a : Option ℕ) (xs : List (Option ℕ)) (k : ℕ) (d : Option ℕ) → start ≤ end → end ≤ length xs
    → k < start
    → get_or (filled start end a xs) k d ≡ get_or xs k d
filled-below start end a xs k d h l b = search (rules, places)

filled-inside : (start end : ℕ) (a : Option ℕ) (xs : List (Option ℕ)) (k : ℕ) (d : Option ℕ) → start ≤ end → end ≤ length xs
    → start ≤ k → k < end
    → get_or (filled start end a xs) k d ≡ a
filled-inside start end a xs k d h l b i = search (rules, places)

filled-behind : (start end : ℕ) (a : Option ℕ) (xs : List (Option ℕ)) (k : ℕ) (d : Option ℕ) → start ≤ end → end ≤ length xs
    → end ≤ k → k < length xs
    → get_or (filled start end a xs) k d ≡ get_or xs k d
filled-behind start end a xs k d h l b i = search (rules, places)

-- with no entry no sector has a last writer
pub writers-none : (lba sectors : ℕ) → writers [] lba sectors ≡ replicate sectors None
writers-none lba sectors =
    same_lists (writers [] lba sectors) (replicate sectors None) (length-writers [] lba sectors
    ∙ sym (length-replicate sectors None))
    (λ k d h. let inside : k < sectors = omega (arith, length-writers [] lba sectors) in
    get_or-writers [] lba sectors k d inside ∙ sym (get_or-replicate sectors k None d inside))

-- one of the sectors, before the entry, in it or after it
at_sector : (history : List Entry) (entry : Entry) (lba sectors start end k : ℕ) (d : Option ℕ)
    → start ≡ min sectors (first_sector entry - lba) → end ≡ min sectors (first_sector entry + sector_count entry - lba)
    → k < sectors
    → get_or (filled start end (writer_of (length history) entry) (writers history lba sectors)) k d
    ≡ writer_after (length history) entry (lba + k) (last_writer history (lba + k))
at_sector history entry lba sectors start end k d s e h =
    let old = writers history lba sectors in
    let writer = writer_of (length history) entry in
    let size : length old ≡ sectors = length-writers history lba sectors in
    let order : start ≤ end = omega arith in
    let within : end ≤ length old = omega arith in
    elim (cases_lt k start) as (λ _. get_or (filled start end writer old) k d ≡ writer_after (length history) entry (lba + k)
    (last_writer history (lba + k))) [
      | inl below ↦
          filled-below start end writer old k d order within below
          ∙ (get_or-writers history lba sectors k d h
          ∙ sym (writer_after-outside (length history) entry (lba + k) (last_writer history (lba + k))
          (is_below entry (lba + k) (omega arith))))
      | inr from ↦ elim (cases_lt k end) as (λ _. get_or (filled start end writer old) k d ≡ writer_after (length history) entry
          (lba + k) (last_writer history (lba + k))) [
            | inl inside ↦
                filled-inside start end writer old k d order within from inside
                ∙ sym (writer_after-inside (length history) entry (lba + k) (last_writer history (lba + k))
                (is_inside entry (lba + k) (omega arith) (omega arith)))
            | inr behind ↦
                filled-behind start end writer old k d order within behind (omega arith)
                ∙ (get_or-writers history lba sectors k d h
                ∙ sym (writer_after-outside (length history) entry (lba + k) (last_writer history (lba + k))
                (is_behind entry (lba + k) (omega arith))))
          ]
    ]

-- the sectors that the entry covers have its writer, and the others keep theirs
pub filled_is : (history : List Entry) (entry : Entry) (lba sectors start end : ℕ)
    → start ≡ min sectors (first_sector entry - lba) → end ≡ min sectors (first_sector entry + sector_count entry - lba)
    → filled start end (writer_of (length history) entry) (writers history lba sectors) ≡ writers (history ++ entry ∷ [])
    lba sectors
filled_is history entry lba sectors start end s e =
    let old = writers history lba sectors in
    let writer = writer_of (length history) entry in
    let size : length old ≡ sectors = length-writers history lba sectors in
    let order : start ≤ end = omega arith in
    let within : end ≤ length old = omega arith in
    let whole : length (filled start end writer old) ≡ length old = length-filled start end writer old order within in
    same_lists (filled start end writer old) (writers (history ++ entry ∷ []) lba sectors)
    (whole ∙ (size ∙ sym (length-writers (history ++ entry ∷ []) lba sectors)))
    (λ k d h. let inside : k < sectors = omega arith in
    at_sector history entry lba sectors start end k d s e inside
    ∙ sym (get_or-writers (history ++ entry ∷ []) lba sectors k d inside ∙ last_writer-push history entry (lba + k)))

-- what holds of each variant holds
pub of_variants : (C : Option ℕ → Type 0) (o : Option ℕ) → (C None → None ≡ o) → ((n : ℕ) → C (Some n) → Some n ≡ o)
    → (y : Option ℕ) → C y → y ≡ o
of_variants C o none some None e = none e
of_variants C o none some (Some n) e = some n e

-- last writers of which the middle part was filled with that of the entry
pub follows : (history : List Entry) (entry : Entry) (lba start end : ℕ) (writer : Option ℕ) (old middle : List (Option ℕ))
    → start ≡ min (length old) (first_sector entry - lba) → end ≡ min (length old) (first_sector entry + sector_count entry - lba)
    → writer ≡ writer_of (length history) entry → old ≡ writers history lba (length old)
    → middle ≡ replicate (length (take (end - start) (drop start old))) writer
    → take start old ++ (middle ++ drop (end - start) (drop start old)) ≡ writers (history ++ entry ∷ []) lba (length old)
follows history entry lba start end writer old middle s e is shows fills =
    let size : length (take (end - start) (drop start old)) ≡ end - start = simp (length-take, length-drop) (omega arith) in
    let fill : middle ≡ replicate (end - start) writer = fills ∙ ap (λ n. replicate n writer) size in
    ap (λ m. take start old ++ (m ++ drop (end - start) (drop start old))) fill
    ∙ (ap (λ w. filled start end w old) is
    ∙ (ap (filled start end (writer_of (length history) entry)) shows
    ∙ filled_is history entry lba (length old) start end s e))
