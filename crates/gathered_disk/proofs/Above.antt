-- What a disk that gathers tells of a moment, against what the disk below holds then.
use Rattle.std.proofs.Common.{◌≡◌, ℕ, ◌+◌, ◌≤◌, List, [], ◌++◌, length, take, drop, get_or, refl, sym, ◌∙◌, ap, subst}
use Rattle.std.proofs.Common.{inl, inr, append_assoc, arith, length-append}
use Rattle.std.specs.List.{All}
use Rattle.std.proofs.lemmas.Bool.{cases_lt}
use Rattle.std.proofs.lemmas.List.{append-nil, take-append-drop, length-take-le, take_at, drop_at, drop-drop}
use Rattle.std.proofs.lemmas.List.Elements.{All-nil, All-cons, All-head, All-tail}
use Rattle.lsvd_bytes.specs.Places.{with_bytes}
use Rattle.lsvd_device.specs.Medium.{Medium, Span, LiesOutside, IsTorn, after_write, after_sync}
use Rattle.gathered_disk.specs.Gathered.{IsAbove, LeavesNoMore}

-- ---- bytes

-- a piece of no bytes changes nothing
pub with_bytes_none : (at : ℕ) (bytes : List ℕ) → with_bytes at [] bytes ≡ bytes
with_bytes_none at bytes =
    let same : at + 0 ≡ at = omega arith in
    ap (λ xs. xs ++ drop (at + 0) bytes) (append-nil (take at bytes))
    ∙ ap (λ n. take at bytes ++ drop n bytes) same
    ∙ take-append-drop at bytes

-- two pieces, the second right behind the first, are one
pub with_bytes_more : (at : ℕ) (first second bytes : List ℕ) → at + length first + length second ≤ length bytes
    → with_bytes (at + length first) second (with_bytes at first bytes) ≡ with_bytes at (first ++ second) bytes
with_bytes_more at first second bytes inside =
    let place : ℕ = at + length first in
    let front : List ℕ = take at bytes ++ first in
    let rest : List ℕ = drop place bytes in
    let short : length (take at bytes) ≡ at = length-take-le at bytes (omega (arith, inside)) in
    let long : length front ≡ place = length-append (take at bytes) first ∙ ap (λ n. n + length first) short in
    let end : at + length first + length second ≡ at + length (first ++ second) =
    (let e = length-append first second in omega (arith, e)) in
    let behind : drop (place + length second) (front ++ rest) ≡ drop (at + length (first ++ second)) bytes =
    sym (drop-drop (length second) place (front ++ rest))
    ∙ ap (drop (length second)) (drop_at front rest place long)
    ∙ drop-drop (length second) place bytes
    ∙ ap (λ n. drop n bytes) end in
    ap (λ xs. xs ++ second ++ drop (place + length second) (front ++ rest)) (take_at front rest place long)
    ∙ ap (λ xs. front ++ second ++ xs) behind
    ∙ ap (λ xs. xs ++ drop (at + length (first ++ second)) bytes) (append_assoc (take at bytes) first second)

-- what stood in the piece's place does not matter
pub with_bytes_torn : (at : ℕ) (piece old new : List ℕ) → take at new ≡ take at old
    → drop (at + length piece) new ≡ drop (at + length piece) old → with_bytes at piece new ≡ with_bytes at piece old
with_bytes_torn at piece old new before behind =
    ap (λ xs. xs ++ piece ++ drop (at + length piece) new) before ∙ ap (λ xs. take at old ++ piece ++ xs) behind

-- ---- ranges

-- each byte lies outside of no bytes
outside_none : (i at : ℕ) → LiesOutside i (record { at = at; count = 0 })
outside_none i at = elim (cases_lt i at) [ inl before ↦ inl before | inr behind ↦ inr (omega (arith, behind)) ]

-- what lies outside of two ranges, the second right behind the first, lies outside of both as one
outside_both : (i at : ℕ) (first second : List ℕ) → LiesOutside i (record { at = at; count = length first })
    → LiesOutside i (record { at = at + length first; count = length second })
    → LiesOutside i (record { at = at; count = length (first ++ second) })
outside_both i at first second (inl before) other = inl before
outside_both i at first second (inr behind) (inl before) = absurd (omega (arith, behind, before))
outside_both i at first second (inr behind) (inr past) = inr (let e = length-append first second in omega (arith, e, past))

-- ---- one moment

-- whatever a stop may leave below, it may leave of what is told
pub leaves_no_more : (at : ℕ) (gathered : List ℕ) (below above : Medium) → IsAbove at gathered below above
    → LeavesNoMore below above
leaves_no_more at gathered below above is = λ left may. record {
  count = may.count ∙ sym (ap length is.synced);
  elsewhere = λ i all. may.elsewhere i (is.pending i all).0 ∙ sym (ap (λ xs. get_or xs i 0) is.synced);
}

-- where nothing is gathered it is what is held below
pub above_itself : (at : ℕ) (medium : Medium) → IsAbove at [] medium medium
above_itself at medium = record {
  bytes = sym (with_bytes_none at medium.bytes);
  synced = refl;
  pending = λ i all. (all, outside_none i at);
}

-- and then the place does not matter
pub above_elsewhere : (at there : ℕ) (below above : Medium) → IsAbove at [] below above → IsAbove there [] below above
above_elsewhere at there below above is = record {
  bytes = is.bytes ∙ with_bytes_none at below.bytes ∙ sym (with_bytes_none there below.bytes);
  synced = is.synced;
  pending = λ i all. ((is.pending i all).0, outside_none i there);
}

-- a piece was gathered behind what was
pub above_gathered : (at : ℕ) (gathered piece : List ℕ) (below above : Medium)
    → at + length gathered + length piece ≤ length below.bytes → IsAbove at gathered below above
    → IsAbove at (gathered ++ piece) below (after_write (at + length gathered) piece above)
above_gathered at gathered piece below above inside is = record {
  bytes = ap (with_bytes (at + length gathered) piece) is.bytes ∙ with_bytes_more at gathered piece below.bytes inside;
  synced = is.synced;
  pending = λ i all.
      let span : Span = record { at = at + length gathered; count = length piece } in
      let others = is.pending i (All-tail (LiesOutside i) span above.pending all) in
      (others.0, outside_both i at gathered piece others.1 (All-head (LiesOutside i) span above.pending all));
}

-- what was gathered was handed over
pub above_handed : (at : ℕ) (gathered : List ℕ) (below above : Medium) → IsAbove at gathered below above
    → IsAbove at [] (after_write at gathered below) above
above_handed at gathered below above is = record {
  bytes = is.bytes ∙ sym (with_bytes_none at (with_bytes at gathered below.bytes));
  synced = is.synced;
  pending = λ i all.
      let span : Span = record { at = at; count = length gathered } in
      (All-cons (LiesOutside i) span below.pending (is.pending i all).1 (is.pending i all).0, outside_none i at);
}

-- it failed to be handed over
pub above_torn : (at : ℕ) (gathered : List ℕ) (below torn above : Medium) → IsTorn at (length gathered) below torn
    → IsAbove at gathered below above → IsAbove at gathered torn above
above_torn at gathered below torn above fails is = record {
  bytes = is.bytes ∙ sym (with_bytes_torn at gathered below.bytes torn.bytes fails.before fails.behind);
  synced = is.synced ∙ sym fails.synced;
  pending = λ i all.
      let span : Span = record { at = at; count = length gathered } in
      let others = All-cons (LiesOutside i) span below.pending (is.pending i all).1 (is.pending i all).0 in
      (subst (All (LiesOutside i)) (sym fails.pending) others, (is.pending i all).1);
}

-- a piece was written to both
pub above_written : (at place : ℕ) (piece : List ℕ) (below above : Medium) → IsAbove at [] below above
    → IsAbove at [] (after_write place piece below) (after_write place piece above)
above_written at place piece below above is = record {
  bytes = ap (with_bytes place piece) (is.bytes ∙ with_bytes_none at below.bytes)
      ∙ sym (with_bytes_none at (with_bytes place piece below.bytes));
  synced = is.synced;
  pending = λ i all.
      let span : Span = record { at = place; count = length piece } in
      let others = is.pending i (All-tail (LiesOutside i) span above.pending all) in
      (All-cons (LiesOutside i) span below.pending (All-head (LiesOutside i) span above.pending all) others.0, outside_none i at);
}

-- a piece that could not be written is gathered
pub above_kept : (at place : ℕ) (piece : List ℕ) (below above : Medium) → IsAbove at [] below above
    → IsAbove place piece below (after_write place piece above)
above_kept at place piece below above is = record {
  bytes = ap (with_bytes place piece) (is.bytes ∙ with_bytes_none at below.bytes);
  synced = is.synced;
  pending = λ i all.
      let span : Span = record { at = place; count = length piece } in
      let others = is.pending i (All-tail (LiesOutside i) span above.pending all) in
      (others.0, All-head (LiesOutside i) span above.pending all);
}

-- both were synced
pub above_synced : (at : ℕ) (below above : Medium) → IsAbove at [] below above
    → IsAbove at [] (after_sync below) (after_sync above)
above_synced at below above is =
    let same : above.bytes ≡ below.bytes = is.bytes ∙ with_bytes_none at below.bytes in
    record {
      bytes = same ∙ sym (with_bytes_none at below.bytes);
      synced = same;
      pending = λ i all. (All-nil (LiesOutside i), outside_none i at);
    }
