-- What is put behind the bytes that wait in a buffer, and taken from their front.
use Rattle.std.proofs.Common.{◌≡◌, ℕ, ◌+◌, ◌-◌, ◌≤◌, List, ◌++◌, length, take, drop, sym, ◌∙◌, ap, arith, length-drop}
use Rattle.std.proofs.Math.Seq.{take-append-add, take-append_seam}
use Rattle.std.proofs.lemmas.List.{drop-drop, drop-take, drop-append-le, length-take-le}
use Rattle.lsvd_listen.specs.Buffer.{bytes_between}

-- how many they are
pub length-between : (bytes : List ℕ) (from to : ℕ) → to ≤ length bytes → length (bytes_between bytes from to) ≡ to - from
length-between bytes from to within =
    length-take-le (to - from) (drop from bytes) (let e = length-drop from bytes in omega (arith, e, within))

-- without their first bytes, they begin so much later
pub skipped : (bytes : List ℕ) (from count to : ℕ) → from + count ≤ to
    → bytes_between bytes (from + count) to ≡ drop count (bytes_between bytes from to)
skipped bytes from count to within =
    let long : to - from ≡ count + (to - (from + count)) = omega (arith, within) in
    ap (λ xs. take (to - (from + count)) xs) (sym (drop-drop count from bytes))
    ∙ sym (drop-take count (to - (from + count)) (drop from bytes))
    ∙ sym (ap (λ n. drop count (take n (drop from bytes))) long)

-- a piece that stands right behind them
pub put_behind : (bytes piece rest : List ℕ) (from to : ℕ) → from ≤ to → to ≤ length bytes
    → bytes_between (take to bytes ++ (piece ++ rest)) from (to + length piece) ≡ bytes_between bytes from to ++ piece
put_behind bytes piece rest from to ordered within =
    let split : to ≡ from + (to - from) = omega (arith, ordered) in
    let front : length (take to bytes) ≡ to = length-take-le to bytes within in
    let begun : drop from (take to bytes) ≡ bytes_between bytes from to =
    ap (λ n. drop from (take n bytes)) split ∙ drop-take from (to - from) bytes in
    let long = length-between bytes from to within in
    let dropped : drop from (take to bytes ++ (piece ++ rest)) ≡ bytes_between bytes from to ++ (piece ++ rest) =
    drop-append-le from (take to bytes) (piece ++ rest) (omega (arith, front, ordered))
    ∙ ap (λ xs. xs ++ (piece ++ rest)) begun in
    let count : to + length piece - from ≡ length (bytes_between bytes from to) + length piece = omega (arith, long, ordered) in
    ap (λ xs. take (to + length piece - from) xs) dropped
    ∙ ap (λ n. take n (bytes_between bytes from to ++ (piece ++ rest))) count
    ∙ take-append-add (bytes_between bytes from to) (piece ++ rest) (length piece)
    ∙ ap (λ xs. bytes_between bytes from to ++ xs) (take-append_seam piece rest)
