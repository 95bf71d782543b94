-- Objects of a list one by one, and the ends of those before them.
use Rattle.std.proofs.Common.{◌≡◌, ℕ, zero, suc, ◌+◌, ◌-◌, ◌<◌, ◌≤◌, Some, List, [], ◌∷◌, take, drop, refl, sym, ◌∙◌, ap, arith}
use Rattle.std.specs.List.{slice_get}
use Rattle.std.proofs.lemmas.List.{drop-take, drop-drop}
use Rattle.lsvd_base.specs.declared.entry.Entry.{Entry}
use Rattle.object_stream.specs.declared.object.StreamObject.{StreamObject}
use Rattle.object_stream.specs.Stream.{end_after, EndsFollow}
use Rattle.object_stream.proofs.StreamLemmas.{goes_on, end_no_earlier, follow_first}

-- ---- elements of lists

pub get_of_first : {X : Type 0} (n i : ℕ) (xs : List X) → i < n → slice_get (take n xs) i ≡ slice_get xs i
get_of_first zero i xs below = absurd (omega arith)
get_of_first (suc n) i [] below = refl
get_of_first (suc n) zero (x ∷ xs) below = refl
get_of_first (suc n) (suc i) (x ∷ xs) below = get_of_first n i xs (omega arith)

pub get_of_rest : {X : Type 0} (n i k : ℕ) (xs : List X) → k ≡ n + i → slice_get (drop n xs) i ≡ slice_get xs k
get_of_rest zero i k xs sum = let same : i ≡ k = omega arith in ap (slice_get xs) same
get_of_rest (suc n) i k [] sum = refl
get_of_rest (suc n) i zero (x ∷ xs) sum = absurd (omega arith)
get_of_rest (suc n) i (suc k) (x ∷ xs) sum = get_of_rest n i k xs (omega arith)

-- a part of two lists is the same where their first elements up to its end are
pub same_part : {X : Type 0} (n m : ℕ) (xs ys : List X) → take (n + m) xs ≡ take (n + m) ys
    → take m (drop n xs) ≡ take m (drop n ys)
same_part n m xs ys same = sym (drop-take n m xs) ∙ ap (drop n) same ∙ drop-take n m ys

-- what comes past two parts of a list
pub past_both : {X : Type 0} (first middle last : ℕ) (xs : List X) → first ≤ middle → middle ≤ last
    → drop (last - middle) (drop (middle - first) xs) ≡ drop (last - first) xs
past_both first middle last xs low high =
    let sum : middle - first + (last - middle) ≡ last - first = omega arith in
    drop-drop (last - middle) (middle - first) xs ∙ ap (λ n. drop n xs) sum

-- ---- objects

-- the objects up to one end where that ends
pub end_up_to : (end i : ℕ) (objects : List StreamObject) (object : StreamObject) → slice_get objects i ≡ Some object
    → end_after end (take (suc i) objects) ≡ object.end
end_up_to end i [] object at = absurd (cc)
end_up_to end zero (first ∷ more) object at = let same : first ≡ object = cc in ap (λ (o : StreamObject). o.end) same
end_up_to end (suc i) (first ∷ more) object at = end_up_to first.end i more object at

-- the first of objects after one more end no earlier than that, nor than the one before it
pub ends_past : (end : ℕ) (first : StreamObject) (i : ℕ) (more : List StreamObject) → EndsFollow end (first ∷ more)
    → (end ≤ first.end) × (first.end ≤ end_after first.end (take i more))
ends_past end first i more follow = (
  goes_on first.content end first.end follow.0,
  end_no_earlier first.end (take i more)
      (follow_first first.end i more follow.1),
)

-- the entries of the object at an index, of those from an end on
abbrev pub entries_at : (end : ℕ) → List Entry → List StreamObject → (i : ℕ) → StreamObject → List Entry
entries_at end entries objects i object =
    take (object.end - end_after end (take i objects)) (drop (end_after end (take i objects) - end) entries)

-- they are those of the objects past a first one
pub entries_past_first : (end : ℕ) (entries : List Entry) (first object : StreamObject) (i : ℕ) (more : List StreamObject)
    → EndsFollow end (first ∷ more)
    → entries_at first.end (drop (first.end - end) entries) more i object ≡ entries_at end entries (first ∷ more) (suc i) object
entries_past_first end entries first object i more follow =
    let last = end_after first.end (take i more) in
    let order = ends_past end first i more follow in
    ap (take (object.end - last)) (past_both end first.end last entries order.0 order.1)

pub entries_of_first : (end : ℕ) (entries : List Entry) (object : StreamObject) (more : List StreamObject)
    → take (object.end - end) entries ≡ entries_at end entries (object ∷ more) 0 object
entries_of_first end entries object more =
    let none : 0 ≡ end - end = omega arith in ap (λ n. take (object.end - end) (drop n entries)) none
