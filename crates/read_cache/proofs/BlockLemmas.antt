-- The bytes of a block, and what they give.
use Rattle.std.proofs.Common.{◌≡◌, ℕ, ◌+◌, ◌-◌, ◌<◌, ◌≤◌, Option, Some, None, List, ◌++◌, length, take, drop, sym, ◌∙◌, ap}
use Rattle.std.proofs.Common.{subst, arith, inl, inr, length-append, nat_cmp}
use Rattle.std.specs.Prelude.{IfSome, min}
use Rattle.std.proofs.Math.Seq.{take-add}
use Rattle.std.specs.Ordering.{ord_min}
use Rattle.std.proofs.lemmas.Bool.Decides.{nat_tests}
use Rattle.std.proofs.lemmas.Bool.{cases_lt}
use Rattle.std.proofs.lemmas.List.{take-take, drop-take, drop-drop, take_at, take_all, length-drop, length-take-le}
use Rattle.lsvd_bytes.specs.Places.{bytes_at}
use Rattle.lsvd_objstore.specs.Store.{ReceiptState}
use Rattle.read_cache.specs.Block.{IsFilled}

-- how many bytes of an object of so many a block has that begins at one
pub counted : (size length start count : ℕ) → length ≡ size → count ≡ ord_min nat_cmp 65536 (length - start)
    → count ≡ min 65536 (size - start)
counted size length start count same is =
    let least : ord_min nat_cmp 65536 (length - start) ≡ min 65536 (length - start) = grind (arith, nat_tests) in
    is ∙ least ∙ ap (λ n. min 65536 (n - start)) same

-- some bytes of a front are those of the whole
part_of_front : (n m k : ℕ) (bytes : List ℕ) → k + m ≤ n → take m (drop k (take n bytes)) ≡ take m (drop k bytes)
part_of_front n m k bytes inside =
    let whole : k + (n - k) ≡ n = omega (arith, inside) in
    ap (λ size. take m (drop k (take size bytes))) (sym whole)
    ∙ ap (take m) (drop-take k (n - k) bytes)
    ∙ take-take m (n - k) (drop k bytes) (omega (arith, inside))

-- a block gives bytes of its object
pub given : (size start at count : ℕ) (bytes told : List ℕ) → start + at + count ≤ size → at + count ≤ 65536
    → take (size - start) bytes ≡ bytes_at start 65536 told → take count (drop at bytes) ≡ take count (drop (start + at) told)
given size start at count bytes told inside block is =
    sym (part_of_front (size - start) count at bytes (omega (arith, inside)))
    ∙ ap (λ front. take count (drop at front)) is
    ∙ part_of_front 65536 count at (drop start told) block
    ∙ ap (take count) (drop-drop at start told)

-- the last block of an object
filled_last : (size start : ℕ) (got rest told : List ℕ) → length (drop start told) ≡ size - start → size - start < 65536
    → got ≡ take (min 65536 (size - start)) (drop start told) → take (size - start) (got ++ rest) ≡ bytes_at start 65536 told
filled_last size start got rest told rear less is =
    let all : got ≡ drop start told =
    is ∙ take_all (min 65536 (size - start)) (drop start told) (omega (arith, rear, less)) in
    take_at got rest (size - start) (ap length all ∙ rear)
    ∙ all
    ∙ sym (take_all 65536 (drop start told) (omega (arith, rear, less)))

-- one before it
filled_whole : (size start : ℕ) (got rest told : List ℕ) → length (drop start told) ≡ size - start → 65536 ≤ size - start
    → length (got ++ rest) ≡ 65536 → got ≡ take (min 65536 (size - start)) (drop start told)
    → take (size - start) (got ++ rest) ≡ bytes_at start 65536 told
filled_whole size start got rest told rear past long is =
    let least : min 65536 (size - start) ≡ 65536 = omega (arith, past) in
    let part : got ≡ take 65536 (drop start told) = is ∙ ap (λ n. take n (drop start told)) least in
    let count : length got ≡ 65536 =
    ap length part ∙ length-take-le 65536 (drop start told) (omega (arith, rear, past)) in
    take_all (size - start) (got ++ rest) (omega (arith, long, past))
    ∙ sym (take_all 65536 (got ++ rest) (omega (arith, long)))
    ∙ take_at got rest 65536 count
    ∙ part

-- bytes of an object from a byte on, and others after them, are a block
pub filled : (size start : ℕ) (got rest told : List ℕ) → size ≡ length told → start ≤ size
    → length (got ++ rest) ≡ 65536 → got ≡ take (min 65536 (size - start)) (drop start told)
    → take (size - start) (got ++ rest) ≡ bytes_at start 65536 told
filled size start got rest told whole inside long is =
    let rear : length (drop start told) ≡ size - start = length-drop start told ∙ ap (λ n. n - start) (sym whole) in
    elim (cases_lt (size - start) 65536) [
      | inl less ↦ filled_last size start got rest told rear less is
      | inr past ↦ filled_whole size start got rest told rear past long is
    ]

-- bytes and those after them
pub joined : (from m n : ℕ) (told : List ℕ) → take m (drop from told) ++ take n (drop (from + m) told)
    ≡ take (m + n) (drop from told)
joined from m n told =
    ap (λ xs. take m (drop from told) ++ take n xs) (sym (drop-drop m from told)) ∙ sym (take-add m n (drop from told))

told_filled : (size start count : ℕ) (got memory : List ℕ) (told : Option (List ℕ)) → start ≤ size
    → count ≡ min 65536 (size - start) → length memory ≡ 65536 → length (got ++ drop count memory) ≡ 65536
    → IfSome told (λ told. size ≡ length told)
    → IfSome told (λ told. got ≡ take (length (take count memory)) (drop start told))
    → IfSome told (λ told. take (size - start) (got ++ drop count memory) ≡ bytes_at start 65536 told)
told_filled size start count got memory None inside some room long whole is = tt
told_filled size start count got memory (Some told) inside some room long whole is =
    let part : length (take count memory) ≡ count = length-take-le count memory (omega (arith, room, some)) in
    filled size start got (drop count memory) told whole inside long
    (is ∙ ap (λ n. take n (drop start told)) (part ∙ some))

-- what a get put over the first of a memory's bytes fills a block
pub is_filled : (receipt : ReceiptState) (start count : ℕ) (got memory : List ℕ) → start ≤ receipt.size
    → count ≡ min 65536 (receipt.size - start) → length memory ≡ 65536 → length got ≡ length (take count memory)
    → IfSome receipt.told (λ told. receipt.size ≡ length told)
    → IfSome receipt.told (λ told. got ≡ take (length (take count memory)) (drop start told))
    → IsFilled receipt start (got ++ drop count memory)
is_filled receipt start count got memory inside some room long whole is =
    let part : length (take count memory) ≡ count = length-take-le count memory (omega (arith, room, some)) in
    let rest = length-drop count memory in
    let both = length-append got (drop count memory) in
    let size : length (got ++ drop count memory) ≡ 65536 = omega (arith, part, rest, both, room, some, long) in
    record { size = size; told = told_filled receipt.size start count got memory receipt.told inside some room size whole is }

gives_told : (size start from at count : ℕ) (bytes : List ℕ) (told : Option (List ℕ)) → from ≡ start + at → from + count ≤ size
    → at + count ≤ 65536 → IfSome told (λ told. take (size - start) bytes ≡ bytes_at start 65536 told)
    → IfSome told (λ told. take count (drop at bytes) ≡ take count (drop from told))
gives_told size start from at count bytes None place inside block is = tt
gives_told size start from at count bytes (Some told) place inside block is =
    given size start at count bytes told (omega (arith, place, inside)) block is
    ∙ ap (λ n. take count (drop n told)) (sym place)

-- bytes that a block gives are told
pub gives : (receipt own : ReceiptState) (start from at count : ℕ) (bytes : List ℕ) → own ≡ receipt → from ≡ start + at
    → from + count ≤ receipt.size → at + count ≤ 65536 → IsFilled own start bytes
    → IfSome receipt.told (λ told. take count (drop at bytes) ≡ take count (drop from told))
gives receipt own start from at count bytes same place inside block is =
    gives_told receipt.size start from at count bytes receipt.told place inside block
    (subst (λ (r : ReceiptState). IfSome r.told (λ told. take (r.size - start) bytes ≡ bytes_at start 65536 told)) same is.told)

-- two parts that are told, one after the other, are told together
pub told_together : (from m n : ℕ) (front back : List ℕ) (told : Option (List ℕ))
    → IfSome told (λ told. front ≡ take m (drop from told)) → IfSome told (λ told. back ≡ take n (drop (from + m) told))
    → IfSome told (λ told. front ++ back ≡ take (m + n) (drop from told))
told_together from m n front back None first second = tt
told_together from m n front back (Some told) first second =
    ap (λ xs. xs ++ back) first ∙ ap (λ xs. take m (drop from told) ++ xs) second ∙ joined from m n told
