-- A window on longer bytes, when a piece is put at one of them.
use Rattle.std.proofs.Common.{take-append-drop, ◌≡◌, ℕ, ◌+◌, ◌-◌, ◌<◌, ◌≤◌, inl, inr, List, [], ◌++◌, length, take, drop, get_or}
use Rattle.std.proofs.Common.{min, refl, sym, ◌∙◌, ap, rules, arith, length-drop, append_assoc}
use Rattle.std.proofs.lemmas.Bool.{cases_lt}
use Rattle.std.proofs.lemmas.List.{places, same_lists, get_or-take, get_or-drop, drop-drop, get_or_append_left}
use Rattle.std.proofs.lemmas.List.{get_or-append_right, length-take-le}
use borrow.Rule.Slice.PartMut.{put_mid}
use Rattle.lsvd_bytes.specs.Places.{with_bytes}

-- what stands below, in and above a part that was written
put_below : (start size k d : ℕ) (old part : List ℕ) → start ≤ length old → k < start
    → get_or (put_mid start size old part) k d ≡ get_or old k d
put_below start size k d old part s h =
    let size_of : length (take start old) ≡ start = length-take-le start old s in
    get_or_append_left (take start old) _ d k (omega arith) ∙ get_or-take start old k d h

put_in : (start size k d : ℕ) (old part : List ℕ) → start ≤ length old → length part ≡ size → start ≤ k → k < start + size
    → get_or (put_mid start size old part) k d ≡ get_or part (k - start) d
put_in start size k d old part s p l h =
    get_or-append_right (take start old) _ start k d (length-take-le start old s) l
    ∙ get_or_append_left part _ d (k - start) (omega arith)

put_above : (start size k d : ℕ) (old part : List ℕ) → start ≤ length old → length part ≡ size → start + size ≤ k
    → get_or (put_mid start size old part) k d ≡ get_or old k d
put_above start size k d old part s p h =
    let at : start + (size + (k - start - size)) ≡ k = omega arith in
    get_or-append_right (take start old) _ start k d (length-take-le start old s) (omega arith)
    ∙ (get_or-append_right part (drop size (drop start old)) size (k - start) d p (omega arith)
    ∙ (get_or-drop size (drop start old) (k - start - size) d
    ∙ (get_or-drop start old (size + (k - start - size)) d ∙ ap (λ i. get_or old i d) at)))

-- to put a piece into bytes is to write over that part
with_bytes-put_mid : (at : ℕ) (piece bytes : List ℕ) → with_bytes at piece bytes ≡ put_mid at (length piece) bytes piece
with_bytes-put_mid at piece bytes =
    append_assoc (take at bytes) piece (drop (at + length piece) bytes)
    ∙ ap (λ rest. take at bytes ++ (piece ++ rest)) (sym (drop-drop (length piece) at bytes))

-- what the window shows of the bytes at k, once both are changed
splice_seen_at : (bytes piece old part : List ℕ) (from at start end k d : ℕ)
    → from + length old ≤ length bytes → at + length piece ≤ length bytes
    → old ≡ take (length old) (drop from bytes)
    → start ≡ min (length old) (at - from) → end ≡ min (length old) (at + length piece - from)
    → part ≡ take (end - start) (drop (from - at) piece) → k < length old
    → get_or (put_mid start (end - start) old part) k d ≡ get_or (with_bytes at piece bytes) (from + k) d
splice_seen_at bytes piece old part from at start end k d window inside shows starts ends is h =
    let below : start ≤ length old = omega arith in
    let size : length part ≡ end - start =
    ap length is ∙ length-take-le (end - start) (drop (from - at) piece) (omega (arith, length-drop (from - at) piece)) in
    let held : get_or old k d ≡ get_or bytes (from + k) d =
    ap (λ xs. get_or xs k d) shows ∙ (get_or-take (length old) (drop from bytes) k d h ∙ get_or-drop from bytes k d) in
    let put : get_or (with_bytes at piece bytes) (from + k) d ≡ get_or (put_mid at (length piece) bytes piece) (from + k) d =
    ap (λ xs. get_or xs (from + k) d) (with_bytes-put_mid at piece bytes) in
    let first : k < start → get_or (put_mid start (end - start) old part) k d ≡ get_or (with_bytes at piece bytes) (from + k) d =
    λ l. put_below start (end - start) k d old part below l
    ∙ (held ∙ sym (put ∙ put_below at (length piece) (from + k) d bytes piece (omega arith) (omega arith))) in
    let within : start ≤ k → k < end → get_or (put_mid start (end - start) old part) k d ≡ get_or (with_bytes at piece bytes)
    (from + k) d =
    λ l m. let place : from - at + (k - start) ≡ from + k - at = omega arith in
    put_in start (end - start) k d old part below size l (omega arith)
    ∙ (ap (λ xs. get_or xs (k - start) d) is
    ∙ (get_or-take (end - start) (drop (from - at) piece) (k - start) d (omega arith)
    ∙ (get_or-drop (from - at) piece (k - start) d
    ∙ (ap (λ i. get_or piece i d) place
    ∙ sym (put ∙ put_in at (length piece) (from + k) d bytes piece (omega arith) refl (omega arith) (omega arith)))))) in
    let last : start ≤ k → end ≤ k → get_or (put_mid start (end - start) old part) k d ≡ get_or (with_bytes at piece bytes)
    (from + k) d =
    λ l m. put_above start (end - start) k d old part below size (omega arith)
    ∙ (held ∙ sym (put ∙ put_above at (length piece) (from + k) d bytes piece (omega arith) refl (omega arith))) in
    elim (cases_lt k start) [ inl l ↦ first l | inr l ↦ elim (cases_lt k end) [ inl m ↦ within l m | inr m ↦ last l m ] ]

-- the part of the piece that the window shows takes its place there
pub splice_seen : (bytes piece old part : List ℕ) (from at start end : ℕ)
    → from + length old ≤ length bytes → at + length piece ≤ length bytes
    → old ≡ take (length old) (drop from bytes)
    → start ≡ min (length old) (at - from) → end ≡ min (length old) (at + length piece - from)
    → part ≡ take (end - start) (drop (from - at) piece)
    → put_mid start (end - start) old part ≡ take (length old) (drop from (with_bytes at piece bytes))
splice_seen bytes piece old part from at start end window inside shows starts ends is =
    let size : length (put_mid start (end - start) old part) ≡ length old = search (rules, places) in
    same_lists _ _ (search (rules, places)) (λ k d h.
    splice_seen_at bytes piece old part from at start end k d window inside shows starts ends is (omega arith)
    ∙ sym (get_or-take (length old) (drop from (with_bytes at piece bytes)) k d (omega arith)
    ∙ get_or-drop from (with_bytes at piece bytes) k d))

-- a piece that the window shows nothing of leaves it as it is
pub splice_unseen : (bytes piece old : List ℕ) (from at start end : ℕ)
    → from + length old ≤ length bytes → at + length piece ≤ length bytes
    → old ≡ take (length old) (drop from bytes)
    → start ≡ min (length old) (at - from) → end ≡ min (length old) (at + length piece - from) → end ≤ start
    → old ≡ take (length old) (drop from (with_bytes at piece bytes))
splice_unseen bytes piece old from at start end window inside shows starts ends h =
    let none : end - start ≡ 0 = omega arith in
    sym (ap (λ size. put_mid start size old []) none ∙ take-append-drop start old)
    ∙ splice_seen bytes piece old [] from at start end window inside shows starts ends
    (sym (ap (λ size. take size (drop (from - at) piece)) none))

-- a part of a list is the same where it begins and how long it is are
pub part_same : (piece : List ℕ) (i j m n : ℕ) → i ≡ j → m ≡ n → take m (drop i piece) ≡ take n (drop j piece)
part_same piece i j m n p q = ap (λ from. take m (drop from piece)) p ∙ ap (λ size. take size (drop j piece)) q
