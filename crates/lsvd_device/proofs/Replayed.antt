-- The bytes of a disk in memory, made of its changes.
use Rattle.std.proofs.Common.{◌≡◌, ℕ, ◌+◌, ◌-◌, ◌<◌, ◌≤◌, List, [], ◌∷◌, ◌++◌, zero, suc, length, take, drop, replicate, get_or}
use Rattle.std.proofs.Common.{refl, sym, ◌∙◌, ap, subst, arith, max, length-append}
use Rattle.std.proofs.lemmas.List.{drop-drop, drop-take, take-take, take_all, take_more, length-take, length-replicate}
use Rattle.std.proofs.lemmas.List.{drop-replicate, take-replicate, length-take-le, drop_at, take-append-drop}
use Rattle.lsvd_device.specs.Medium.{Medium, durable, after_write, after_sync}
use Rattle.lsvd_bytes.specs.Places.{with_bytes}
use Rattle.lsvd_device.specs.Device.{HoldsNow, moments_after}
use Rattle.lsvd_device.specs.Stop.{HasNow}
use Rattle.lsvd_device.specs.Memory.{moments_from, moments_of, contents_from, bytes_written, LiesInside, LieInside, IsFrontOf}
use Rattle.lsvd_device.specs.Memory.{IsKept}
use Rattle.lsvd_device.specs.declared.change.Change.{Change}
use Rattle.lsvd_device.specs.declared.change.Change.TheVariants.{Write, Sync}
use Rattle.lsvd_device.proofs.Moments.{length-with_bytes, one_count, written_some, inside_more}

-- the bytes after one change more
pub contents_more : (changes : List Change) (bytes written : List ℕ) (change : Change)
    → contents_from bytes (changes ++ change ∷ []) written ≡ contents_from (contents_from bytes changes written) (change ∷ [])
    (drop (bytes_written changes) written)
unfolding contents_from
contents_more [] bytes written change = refl
contents_more (Write from n ∷ changes) bytes written change =
    contents_more changes (with_bytes from (take n written) bytes) (drop n written) change
    ∙ ap (contents_from (contents_from (with_bytes from (take n written) bytes) changes (drop n written)) (change ∷ []))
    (drop-drop (bytes_written changes) n written)
contents_more (Sync ∷ changes) bytes written change = contents_more changes bytes written change

-- changes inside a disk keep its length
pub length-contents : (changes : List Change) (size : ℕ) (bytes written : List ℕ) → length bytes ≡ size → LieInside size changes
    → length (contents_from bytes changes written) ≡ size
unfolding contents_from
length-contents [] size bytes written count inside = count
length-contents (Write at n ∷ changes) size bytes written count inside =
    let some : length (take n written) ≤ n = (let e = length-take n written in omega (arith, e)) in
    length-contents changes size (with_bytes at (take n written) bytes) (drop n written)
    (length-with_bytes at (take n written) bytes (let e = inside.0 in omega (arith, some, e, count)) ∙ count) inside.1
length-contents (Sync ∷ changes) size bytes written count inside = length-contents changes size bytes written count inside.1

-- the bytes of the newest moment
pub now_contents : (changes : List Change) (first now : Medium) (before past : List Medium) (written : List ℕ)
    → moments_from (first ∷ before) changes written ≡ now ∷ past
    → now.bytes ≡ contents_from first.bytes changes written
unfolding moments_from contents_from
now_contents [] first now before past written is = (let e : first ≡ now = cc in sym (ap (λ m. m.bytes) e))
now_contents (Write at n ∷ changes) first now before past written is =
    now_contents changes (after_write at (take n written) first) now (first ∷ before) past (drop n written) is
now_contents (Sync ∷ changes) first now before past written is =
    now_contents changes (after_sync first) now (first ∷ before) past written is

pub holds_contents : (size : ℕ) (changes : List Change) (written buf : List ℕ) (at : ℕ) (now : Medium) (past : List Medium)
    → moments_of size changes written ≡ now ∷ past
    → buf ≡ take (length buf) (drop at (contents_from (replicate size 0) changes written))
    → HoldsNow (λ m. buf ≡ take (length buf) (drop at m.bytes)) (moments_of size changes written)
holds_contents size changes written buf at now past is read =
    let same : now.bytes ≡ contents_from (replicate size 0) changes written =
    now_contents changes (durable (replicate size 0)) now [] past written is in
    subst (HoldsNow (λ m. buf ≡ take (length buf) (drop at m.bytes))) (sym is) (read
    ∙ sym (ap (λ xs. take (length buf) (drop at xs)) same))

-- some of the changes
pub inside_some : (changes : List Change) (k size : ℕ) → LieInside size changes → LieInside size (take k changes)
inside_some [] zero size all = tt
inside_some [] (suc k) size all = tt
inside_some (change ∷ changes) zero size all = tt
inside_some (change ∷ changes) (suc k) size all = (all.0, inside_some changes k size all.1)

pub one_inside : (changes : List Change) (k size : ℕ) (change : Change) → k < length changes → change ≡ get_or changes k change
    → LieInside size changes → LiesInside size change
one_inside [] k size change less is all = absurd (omega (arith, less))
one_inside (first ∷ changes) zero size change less is all = subst (LiesInside size) (sym is) all.0
one_inside (first ∷ changes) (suc k) size change less is all = one_inside changes k size change (omega (arith, less)) is all.1

-- zeros everywhere
pub zeros_part : (n at size : ℕ) → at + n ≤ size → replicate {A = ℕ} n 0 ≡ take n (drop at (replicate size 0))
zeros_part n at size inside = sym (ap (take n) (drop-replicate {X = ℕ} at size 0)
    ∙ take-replicate {X = ℕ} n (size - at) 0 (omega (arith, inside)))

-- what a change makes of a window
pub write_shown : (at count : ℕ) (bytes written : List ℕ) → contents_from bytes (Write at count ∷ []) written
    ≡ with_bytes at (take count written) bytes
unfolding contents_from
write_shown at count bytes written = refl

pub sync_shown : (bytes written : List ℕ) → contents_from bytes (Sync ∷ []) written ≡ bytes
unfolding contents_from
sync_shown bytes written = refl

-- a window on the bytes after some of the changes
abbrev pub ShowsSome : (at : ℕ) (changes : List Change) (k : ℕ) (written first buf : List ℕ) → Type 0
ShowsSome at changes k written first buf =
    (size : ℕ) → at + length first ≤ size → LieInside size changes
    → buf ≡ take (length first) (drop at (contents_from (replicate size 0) (take k changes) written))

-- what a step of a replay knows
pub record IsAsFar (at : ℕ) (changes : List Change) (k used : ℕ) (written first buf : List ℕ) : Type 0 where
  pub used' : used ≡ bytes_written (take k changes)
  pub count : length buf ≡ length first
  pub shown : ShowsSome at changes k written first buf

-- how far a replay has come with its next change
pub written_next : (changes : List Change) (k used : ℕ) (change : Change) (written : List ℕ) → k < length changes
    → change ≡ get_or changes k change → used ≡ bytes_written (take k changes)
    → bytes_written changes ≤ length written → used + bytes_written (change ∷ []) ≤ length written
written_next changes k used change written less is so_far counted =
    let next : take (k + 1) changes ≡ take k changes ++ change ∷ [] = take_more changes k change less
    ∙ ap (λ c. take k changes ++ c ∷ []) (sym is) in
    let sum : bytes_written (take (k + 1) changes) ≡ bytes_written (take k changes) + bytes_written (change ∷ []) =
    ap bytes_written next ∙ one_count (take k changes) change in
    let some = written_some changes (k + 1) in
    omega (arith, sum, some, so_far, counted)

pub first_far : (at : ℕ) (changes : List Change) (written first buf : List ℕ) → buf ≡ replicate (length first) 0
    → IsAsFar at changes 0 0 written first buf
unfolding contents_from
first_far at changes written first buf zeros = record {
  used' = refl;
  count = ap length zeros ∙ length-replicate (length first) 0;
  shown = λ size inside all. zeros ∙ zeros_part (length first) at size inside;
}

pub next_far : (at : ℕ) (changes : List Change) (k used : ℕ) (written first old new : List ℕ) (change : Change)
    → k < length changes → change ≡ get_or changes k change
    → IsAsFar at changes k used written first old → length new ≡ length old
    → ((bytes : List ℕ) → at + length old ≤ length bytes → LiesInside (length bytes) change
    → old ≡ take (length old) (drop at bytes)
    → new ≡ take (length old) (drop at (contents_from bytes (change ∷ []) (drop used written))))
    → IsAsFar at changes (k + 1) (used + bytes_written (change ∷ [])) written first new
next_far at changes k used written first old new change less is far count shown =
    let next : take (k + 1) changes ≡ take k changes ++ change ∷ [] = take_more changes k change less
    ∙ ap (λ c. take k changes ++ c ∷ []) (sym is) in
    record {
      used' = ap (λ n. n + bytes_written (change ∷ [])) far.used'
          ∙ sym (ap bytes_written next ∙ one_count (take k changes) change);
      count = count ∙ far.count;
      shown = λ size inside all.
          let bytes : List ℕ = contents_from (replicate size 0) (take k changes) written in
          let long : length bytes ≡ size = length-contents (take k changes) size (replicate size 0) written
          (length-replicate size 0) (inside_some changes k size all) in
          let lies : LiesInside (length bytes) change =
          subst (λ n. LiesInside n change) (sym long) (one_inside changes k size change less is all) in
          let was : old ≡ take (length old) (drop at bytes) = far.shown size inside all
          ∙ ap (λ n. take n (drop at bytes)) (sym far.count) in
          let put = shown bytes (let e = far.count in omega (arith, e, inside, long)) lies was in
          put ∙ ap (λ n. take n (drop at (contents_from bytes (change ∷ []) (drop used written)))) far.count
          ∙ ap (λ n. take (length first) (drop at (contents_from bytes (change ∷ []) (drop n written)))) far.used'
          ∙ sym (ap (λ xs. take (length first) (drop at xs)) (ap (λ cs. contents_from (replicate size 0) cs written) next
          ∙ contents_more (take k changes) (replicate size 0) written change));
    }

pub last_far : (at : ℕ) (changes : List Change) (k used : ℕ) (written first buf : List ℕ) → length changes ≤ k
    → IsAsFar at changes k used written first buf
    → (size : ℕ) → at + length first ≤ size → LieInside size changes
    → buf ≡ take (length first) (drop at (contents_from (replicate size 0) changes written))
last_far at changes k used written first buf end far = λ size inside all.
    far.shown size inside all ∙ ap (λ cs. take (length first) (drop at (contents_from (replicate size 0) cs written)))
    (take_all k changes end)

pub all_used : (at : ℕ) (changes : List Change) (k used : ℕ) (written first buf : List ℕ) → length changes ≤ k
    → IsAsFar at changes k used written first buf → used ≡ bytes_written changes
all_used at changes k used written first buf end far = far.used' ∙ ap bytes_written (take_all k changes end)

-- what a replay has used is among what was written
pub far_inside : (at : ℕ) (changes : List Change) (k used : ℕ) (written first buf : List ℕ)
    → IsAsFar at changes k used written first buf → bytes_written changes ≤ length written → used ≤ length written
far_inside at changes k used written first buf far counted = (let e = written_some changes k in let f = far.used' in
    omega (arith, e, f, counted))

-- a part of the front is that part of all the bytes
pub front_part : (bytes front : List ℕ) (at n : ℕ) → at + n ≤ length front → IsFrontOf bytes front
    → take n (drop at front) ≡ take n (drop at bytes)
front_part bytes front at n inside is =
    let rest : length front - at ≡ n + ((length front - at) - n) = omega (arith, inside) in
    let whole : at + (length front - at) ≡ length front = omega (arith, inside) in
    ap (λ xs. take n (drop at xs)) is.same
    ∙ ap (λ k. take n (drop at (take k bytes))) (sym whole)
    ∙ ap (take n) (drop-take at (length front - at) bytes)
    ∙ take-take n (length front - at) (drop at bytes) (omega (arith, inside))

-- changes that lie inside a disk lie inside a longer one
pub inside_longer : (changes : List Change) (size longer : ℕ) → size ≤ longer → LieInside size changes → LieInside longer changes
inside_longer [] size longer less all = tt
inside_longer (Write at n ∷ changes) size longer less all =
    ((let e = all.0 in omega (arith, e, less)), inside_longer changes size longer less all.1)
inside_longer (Sync ∷ changes) size longer less all = (tt, inside_longer changes size longer less all.1)

-- the front of what a disk keeps
pub front_kept : (size synced : ℕ) (changes : List Change) (written held : List ℕ)
    → (kept : IsKept size synced changes written held) → IsFrontOf (contents_from (replicate size 0) changes written) held
front_kept size synced changes written held kept =
    subst (λ xs. IsFrontOf xs held) (now_contents changes (durable (replicate size 0)) kept.now [] kept.past written kept.moments)
    kept.front

-- ---- what changes left, written as one piece

-- how far a search has come for the end of what changes wrote
pub record IsEndSoFar (changes : List Change) (k end : ℕ) : Type 0 where
  pub inside : LieInside end (take k changes)
  pub least : (size : ℕ) → LieInside size changes → end ≤ size

pub end_first : (changes : List Change) → IsEndSoFar changes 0 0
end_first changes = record { inside = tt; least = λ size all. omega arith }

one_longer : (change : Change) (size longer : ℕ) → size ≤ longer → LiesInside size change → LiesInside longer change
one_longer (Write at n) size longer less inside = omega (arith, inside, less)
one_longer Sync size longer less inside = tt

pub end_next : (changes : List Change) (k end one : ℕ) (change : Change) → k < length changes → change ≡ get_or changes k change
    → IsEndSoFar changes k end → LiesInside one change → ((size : ℕ) → LiesInside size change → one ≤ size)
    → IsEndSoFar changes (k + 1) (max one end)
end_next changes k end one change less is far inside least =
    let next : take (k + 1) changes ≡ take k changes ++ change ∷ [] = take_more changes k change less
    ∙ ap (λ c. take k changes ++ c ∷ []) (sym is) in
    record {
      inside = subst (LieInside (max one end)) (sym next) (inside_more (max one end) (take k changes) change
          (inside_longer (take k changes) end (max one end) (omega arith) far.inside)
          (one_longer change one (max one end) (omega arith) inside));
      least = λ size all.
          let a = far.least size all in
          let b = least size (one_inside changes k size change less is all) in
          omega (arith, a, b);
    }

pub end_last : (changes : List Change) (k end : ℕ) → length changes ≤ k → IsEndSoFar changes k end → LieInside end changes
end_last changes k end last far = subst (LieInside end) (take_all k changes last) far.inside

-- a piece changes nothing behind it
behind_piece : (at end : ℕ) (piece bytes : List ℕ) → at + length piece ≤ end → end ≤ length bytes
    → drop end (with_bytes at piece bytes) ≡ drop end bytes
behind_piece at end piece bytes inside fits =
    let front : length (take at bytes) ≡ at = length-take-le at bytes (omega (arith, inside, fits)) in
    let long : length (take at bytes ++ piece) ≡ at + length piece =
    (let e = length-append (take at bytes) piece in omega (arith, e, front)) in
    let place : at + length piece + (end - (at + length piece)) ≡ end = omega (arith, inside) in
    ap (λ n. drop n (with_bytes at piece bytes)) (sym place)
    ∙ sym (drop-drop (end - (at + length piece)) (at + length piece) (with_bytes at piece bytes))
    ∙ ap (drop (end - (at + length piece))) (drop_at (take at bytes ++ piece) (drop (at + length piece) bytes)
    (at + length piece) long)
    ∙ drop-drop (end - (at + length piece)) (at + length piece) bytes
    ∙ ap (λ n. drop n bytes) place

-- nor do changes change anything behind their end
contents_behind : (changes : List Change) (end : ℕ) (bytes written : List ℕ) → LieInside end changes → end ≤ length bytes
    → drop end (contents_from bytes changes written) ≡ drop end bytes
unfolding contents_from
contents_behind [] end bytes written all fits = refl
contents_behind (Write at n ∷ changes) end bytes written all fits =
    let some : length (take n written) ≤ n = (let e = length-take n written in omega (arith, e)) in
    let within : at + length (take n written) ≤ end = (let e = all.0 in omega (arith, e, some)) in
    let count = length-with_bytes at (take n written) bytes (omega (arith, within, fits)) in
    contents_behind changes end (with_bytes at (take n written) bytes) (drop n written) all.1 (omega (arith, count, fits))
    ∙ behind_piece at end (take n written) bytes within fits
contents_behind (Sync ∷ changes) end bytes written all fits = contents_behind changes end bytes written all.1 fits

-- what changes left of zeros up to their end, written there over zeros, is all that they left
pub made_at_once : (size end : ℕ) (changes : List Change) (written piece : List ℕ) → length piece ≡ end → end ≤ size
    → LieInside end changes
    → piece ≡ take (length piece) (drop 0 (contents_from (replicate size 0) changes written))
    → with_bytes 0 piece (replicate size 0) ≡ contents_from (replicate size 0) changes written
made_at_once size end changes written piece count fits inside is =
    let zeros : List ℕ = replicate size 0 in
    let all : List ℕ = contents_from zeros changes written in
    let long : length zeros ≡ size = length-replicate {A = ℕ} size 0 in
    let front : piece ≡ take end all = is ∙ ap (λ n. take n all) count in
    let behind : drop end all ≡ drop end zeros = contents_behind changes end zeros written inside (omega (arith, fits, long)) in
    let none : 0 + length piece ≡ end = omega (arith, count) in
    ap (λ n. piece ++ drop n zeros) none
    ∙ ap (λ xs. piece ++ xs) (sym behind)
    ∙ ap (λ xs. xs ++ drop end all) front
    ∙ take-append-drop end all

-- a disk with a piece written at its beginning
pub piece_at_once : (size end : ℕ) (changes : List Change) (written piece : List ℕ) (old new : List Medium)
    → old ≡ durable (replicate size 0) ∷ [] → length piece ≡ end → end ≤ size → LieInside end changes
    → piece ≡ take (length piece) (drop 0 (contents_from (replicate size 0) changes written))
    → new ≡ moments_after (after_write 0 piece) old
    → HasNow (λ now. now.bytes ≡ contents_from (replicate size 0) changes written) new
piece_at_once size end changes written piece old new zeros count fits inside is moments =
    let all : List ℕ = contents_from (replicate size 0) changes written in
    subst (HasNow (λ now. now.bytes ≡ all)) (sym (moments ∙ ap (moments_after (after_write 0 piece)) zeros))
    (made_at_once size end changes written piece count fits inside is)
