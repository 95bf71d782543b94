-- Candidates that are sorted stand in the order in which they are taken.
use Rattle.std.proofs.Common.{ℕ, suc, ◌<◌, ◌≡◌, ◌≢◌, nat_eq, List, [], ◌∷◌, get_or}
use Rattle.std.proofs.Common.{map, sym, subst, ◌∙◌, arith}
use Rattle.std.specs.Prelude.{IsTrue, IsPermutation}
use Rattle.std.specs.List.{All, AllPairs, filter}
use Rattle.std.specs.List.Sorted.{IsSortedBy}
use Rattle.std.proofs.lemmas.List.{get_or-map, length-map}
use Rattle.std.proofs.lemmas.List.Elements.{All-nil, All-cons, All-map}
use Rattle.std.proofs.lemmas.List.Kept.{AllPairs-cons}
use Rattle.std.proofs.lemmas.List.Sorted.{IsPermutation-map, sorted_far}
use Rattle.std.proofs.lemmas.Simd.{map-map}
use Rattle.std.proofs.lemmas.Map.Keys.{IsDistinct-IsPermutation}
use Rattle.std.proofs.lemmas.Map.Made.{AllPairs-from_IsDistinct, IsDistinct-from_AllPairs}
use Rattle.std.proofs.lemmas.Bool.Decides.{nat_tests, Decides-eqb}
use Rattle.object_table.specs.declared.row.ObjectRow.{ObjectRow}
use Rattle.object_table.specs.Table.{numbers, is_candidate}
use Rattle.object_table.specs.Lists.{Climbs}
use Rattle.object_table.proofs.Numbers.{lower}
use Rattle.object_table.proofs.Listed.{climbs_filter}
use Rattle.gc_policy.specs.declared.candidate.Candidate.{Candidate}
use Rattle.gc_policy.specs.Victims.{goes_before, AreVictims}
use Rattle.gc_policy.proofs.Order.{in_order, one_first}

-- ---- numbers that differ

-- ascending numbers are above the lowest, and so each is above those before it
all_above : (low : ℕ) (ns : List ℕ) → Climbs low ns → All (λ n. low < n) ns
all_above low [] order = All-nil (λ n. low < n)
all_above low (n ∷ ns) order =
    let down = lower low n ns (omega (arith, order.0)) order.1 in
    All-cons (λ n. low < n) n ns order.0 (all_above low ns down)

all_differ : (low : ℕ) (ns : List ℕ) → Climbs low ns → AllPairs (λ m n. m ≢ n) ns
all_differ low [] order = λ i j d less inside. absurd (omega arith)
all_differ low (n ∷ ns) order =
    let above = all_above n ns order.1 in
    AllPairs-cons (λ m n. m ≢ n) n ns (λ k d inside. (let more = above k d inside in λ same. omega (arith, more, same)))
    (all_differ n ns order.1)

same_either_way : (m n : ℕ) → nat_eq m n ≡ nat_eq n m
same_either_way m n = grind (arith, nat_tests)

-- they differ in any order
differ_in_any : (before after : List ℕ) → IsPermutation before after → AllPairs (λ m n. m ≢ n) before
    → AllPairs (λ m n. m ≢ n) after
differ_in_any before after moved differ =
    AllPairs-from_IsDistinct Decides-eqb after
    (IsDistinct-IsPermutation nat_eq same_either_way before after moved (IsDistinct-from_AllPairs Decides-eqb before differ))

-- ---- a fact of each pair of mapped elements

AllPairs-map : {X Y : Type 0} (f : X → Y) (R : Y → Y → Type 0) (xs : List X) → AllPairs (λ x y. R (f x) (f y)) xs
    → AllPairs R (map f xs)
AllPairs-map f R [] pairs = λ i j d less inside. absurd (omega arith)
AllPairs-map f R (x ∷ xs) pairs =
    AllPairs-cons R (f x) (map f xs) (All-map (R (f x)) f xs (λ k d inside. pairs 0 (suc k) d (omega arith) (omega arith)))
    (AllPairs-map f R xs (λ i j d less inside. pairs (suc i) (suc j) d (omega arith) (omega arith)))

-- ---- the victims

-- candidates with different numbers, sorted
each_before : (taken : List Candidate) → IsSortedBy (λ (one other : Candidate). goes_before one.row other.row) taken
    → AllPairs (λ m n. m ≢ n) (map (λ (one : Candidate). one.row.number) taken)
    → AllPairs (λ (one other : Candidate). IsTrue (goes_before one.row other.row)) taken
each_before taken sorted differ = λ i j d less inside.
    let number = λ (one : Candidate). one.row.number in
    let first = get_or taken i d in
    let second = get_or taken j d in
    let not_after =
    sorted_far (λ (one other : Candidate). goes_before one.row other.row) in_order taken sorted i j d (omega arith) inside in
    let long = length-map taken number in
    let first_is = get_or-map number taken i d 0 (omega arith) in
    let second_is = get_or-map number taken j d 0 inside in
    one_first first.row second.row not_after
    (λ same. differ i j 0 less (omega (arith, long)) (first_is ∙ (same ∙ sym second_is)))

pub are_victims : (rows : List ObjectRow) (found taken : List Candidate) (victims : List ℕ) → Climbs 0 (numbers rows)
    → map (λ (one : Candidate). one.row) found ≡ filter is_candidate rows → IsPermutation found taken
    → IsSortedBy (λ (one other : Candidate). goes_before one.row other.row) taken
    → victims ≡ map (λ (one : Candidate). one.row.number) taken → AreVictims rows victims
are_victims rows found taken victims order all moved sorted are =
    let row = λ (one : Candidate). one.row in
    let number = λ (row : ObjectRow). row.number in
    let rows_moved : IsPermutation (filter is_candidate rows) (map row taken) =
    subst (λ rows. IsPermutation rows (map row taken)) all (IsPermutation-map row found taken moved) in
    let numbers_moved = IsPermutation-map number (filter is_candidate rows) (map row taken) rows_moved in
    let differ =
    differ_in_any (numbers (filter is_candidate rows)) (numbers (map row taken)) numbers_moved
    (all_differ 0 (numbers (filter is_candidate rows)) (climbs_filter is_candidate 0 rows order)) in
    let named = map-map number row taken in
    record {
      taken = map row taken;
      each_once = rows_moved;
      in_order =
          AllPairs-map row (λ one other. IsTrue (goes_before one other)) taken
          (each_before taken sorted (subst (AllPairs (λ m n. m ≢ n)) named differ));
      are = are ∙ sym named;
    }
