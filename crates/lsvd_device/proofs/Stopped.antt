-- What the fates of writes leave of a disk in memory.
use Rattle.std.proofs.Common.{◌≡◌, ℕ, ◌+◌, ◌-◌, ◌/◌, ◌<◌, ◌≤◌, List, [], ◌∷◌, ◌++◌, zero, suc, length, take, drop, reverse}
use Rattle.std.proofs.Common.{replicate, get_or, refl, sym, ◌∙◌, ap, subst, inl, inr, arith}
use Rattle.std.specs.List.{All, AllByRecursion}
use Rattle.std.proofs.lemmas.List.{append_assoc, length-append, take_more, take_all, drop_at, length-take-le, length-drop}
use Rattle.std.proofs.lemmas.List.{length-replicate, get_or-take, get_or-drop, get_or_append_left, get_or-append_right}
use Rattle.std.proofs.lemmas.List.{reverse-append, drop-drop, take-take, drop-take, take-append-drop, take_rest}
use Rattle.std.proofs.lemmas.List.Elements.{All-head, All-tail}
use Rattle.std.proofs.Math.Seq.{take-append_seam}
use Rattle.lsvd_device.specs.Medium.{Medium, MayLeave, LiesOutside, durable, after_write, after_sync}
use Rattle.lsvd_bytes.specs.Places.{with_bytes}
use Rattle.lsvd_device.specs.Device.{DiskState, HasSize, HoldsNow, moments_after}
use Rattle.lsvd_device.specs.Memory.{moments_from, moments_of, bytes_written, IsSynced, IsKept, IsWrite, LiesInside, LieInside}
use Rattle.lsvd_device.specs.Memory.{contents_from}
use Rattle.lsvd_device.specs.declared.change.Change.{Change}
use Rattle.lsvd_device.specs.declared.change.Change.TheVariants.{Write, Sync}
use Rattle.lsvd_device.specs.declared.fate.Fate.{Fate}
use Rattle.lsvd_device.specs.declared.fate.Fate.TheVariants.{Kept, Old, Zeros, Torn}
use Rattle.lsvd_device.specs.Stop.{put_by, left_by, left_in_order, AreLeftBy, change_by, HasNow, Rewrites, LeavesBy, IsStopped}
use Rattle.lsvd_device.specs.Stop.{MayStop}
use Rattle.lsvd_device.proofs.Moments.{length-with_bytes, written_some, one_count, write_has_size}
use Rattle.lsvd_device.proofs.Replayed.{now_contents}

-- ---- one change more

-- the moments after some changes, and then one more
moments_more : (changes : List Change) (moments : List Medium) (written : List ℕ) (change : Change)
    → moments_from moments (changes ++ change ∷ []) written ≡ moments_from (moments_from moments changes written) (change ∷ [])
    (drop (bytes_written changes) written)
unfolding moments_from
moments_more [] moments written change = refl
moments_more (Write at n ∷ changes) moments written change =
    moments_more changes (moments_after (after_write at (take n written)) moments) (drop n written) change
    ∙ ap (moments_from (moments_from (moments_after (after_write at (take n written)) moments) changes (drop n written))
    (change ∷ []))
    (drop-drop (bytes_written changes) n written)
moments_more (Sync ∷ changes) moments written change = moments_more changes (moments_after after_sync moments) written change

one_change_more : (changes : List Change) (k : ℕ) (moments : List Medium) (written : List ℕ) (change : Change)
    → k < length changes → change ≡ get_or changes k change
    → moments_from moments (take (k + 1) changes) written ≡ moments_from (moments_from moments (take k changes) written)
    (change ∷ []) (drop (bytes_written (take k changes)) written)
one_change_more changes k moments written change inside is =
    let next : take (k + 1) changes ≡ take k changes ++ change ∷ [] = take_more changes k change inside
    ∙ ap (λ c. take k changes ++ c ∷ []) (sym is) in
    ap (λ cs. moments_from moments cs written) next ∙ moments_more (take k changes) moments written change

write_made : (moments : List Medium) (at n : ℕ) (written : List ℕ) → moments_from moments (Write at n ∷ []) written
    ≡ moments_after (after_write at (take n written)) moments
unfolding moments_from
write_made moments at n written = refl

-- ---- bytes outside a piece that was put

get_before : (at i : ℕ) (piece bytes : List ℕ) → i < at → at ≤ length bytes → get_or (with_bytes at piece bytes) i 0
    ≡ get_or bytes i 0
get_before at i piece bytes before inside =
    let front : length (take at bytes) ≡ at = length-take-le at bytes inside in
    get_or_append_left (take at bytes ++ piece) (drop (at + length piece) bytes) 0 i (let e =
    length-append (take at bytes) piece in omega (arith, e, front, before))
    ∙ get_or_append_left (take at bytes) piece 0 i (omega (arith, front, before))
    ∙ get_or-take at bytes i 0 before

get_behind : (at i : ℕ) (piece bytes : List ℕ) → at + length piece ≤ i → at + length piece ≤ length bytes
    → get_or (with_bytes at piece bytes) i 0 ≡ get_or bytes i 0
get_behind at i piece bytes behind inside =
    let front : length (take at bytes) ≡ at = length-take-le at bytes (omega (arith, inside)) in
    let count : length (take at bytes ++ piece) ≡ at + length piece =
    (let e = length-append (take at bytes) piece in omega (arith, e, front)) in
    let place : (at + length piece) + (i - (at + length piece)) ≡ i = omega (arith, behind) in
    get_or-append_right (take at bytes ++ piece) (drop (at + length piece) bytes) (at + length piece) i 0 count behind
    ∙ get_or-drop (at + length piece) bytes (i - (at + length piece)) 0
    ∙ ap (λ n. get_or bytes n 0) place

-- a piece no longer than a span, put where it begins, keeps what lies outside the span
pub get_outside : (at count i : ℕ) (piece bytes : List ℕ) → length piece ≤ count → at + count ≤ length bytes
    → LiesOutside i (record { at = at; count = count })
    → get_or (with_bytes at piece bytes) i 0 ≡ get_or bytes i 0
get_outside at count i piece bytes short inside (inl before) = get_before at i piece bytes before (omega (arith, inside))
get_outside at count i piece bytes short inside (inr behind) =
    get_behind at i piece bytes (omega (arith, behind, short)) (omega (arith, inside, short))

-- ---- one fate

half_short : (n : ℕ) → n / 2 ≤ n
half_short n = omega arith

put_keeps : (fate : Fate) (at i : ℕ) (piece bytes : List ℕ) → at + length piece ≤ length bytes
    → LiesOutside i (record { at = at; count = length piece })
    → get_or (put_by fate at piece bytes) i 0 ≡ get_or bytes i 0
put_keeps Kept at i piece bytes inside outside = get_outside at (length piece) i piece bytes (omega arith) inside outside
put_keeps Old at i piece bytes inside outside = refl
put_keeps Zeros at i piece bytes inside outside =
    get_outside at (length piece) i (replicate (length piece) 0) bytes (let e = length-replicate {A = ℕ} (length piece) 0 in
    omega (arith, e)) inside outside
put_keeps Torn at i piece bytes inside outside =
    let short : length (take (length piece / 2) piece) ≡ length piece / 2 =
    length-take-le (length piece / 2) piece (half_short (length piece)) in
    get_outside at (length piece) i (take (length piece / 2) piece) bytes (let e = half_short (length piece) in
    omega (arith, e, short)) inside outside

pub length-put : (fate : Fate) (at : ℕ) (piece bytes : List ℕ) → at + length piece ≤ length bytes
    → length (put_by fate at piece bytes) ≡ length bytes
length-put Kept at piece bytes inside = length-with_bytes at piece bytes inside
length-put Old at piece bytes inside = refl
length-put Zeros at piece bytes inside =
    length-with_bytes at (replicate (length piece) 0) bytes (let e = length-replicate {A = ℕ} (length piece) 0 in
    omega (arith, e, inside))
length-put Torn at piece bytes inside =
    let short : length (take (length piece / 2) piece) ≡ length piece / 2 =
    length-take-le (length piece / 2) piece (half_short (length piece)) in
    length-with_bytes at (take (length piece / 2) piece) bytes (let e = half_short (length piece) in
    omega (arith, e, short, inside))

-- what was written is read there
read_there : (at : ℕ) (piece bytes : List ℕ) → at + length piece ≤ length bytes
    → take (length piece) (drop at (with_bytes at piece bytes)) ≡ piece
read_there at piece bytes inside =
    let front : length (take at bytes) ≡ at = length-take-le at bytes (omega (arith, inside)) in
    let rest : List ℕ = drop (at + length piece) bytes in
    ap (λ xs. take (length piece) (drop at xs)) (append_assoc (take at bytes) piece rest)
    ∙ ap (take (length piece)) (drop_at (take at bytes) (piece ++ rest) at front)
    ∙ take-append_seam piece rest

-- ---- the fates one after the other

next_fate : (size at : ℕ) (fates : List Fate) (fate : Fate) (piece bytes : List ℕ) (now : Medium) (past : List Medium)
    → at + length piece ≤ size → AreLeftBy size fates (now ∷ past) bytes
    → AreLeftBy size (fates ++ fate ∷ []) (after_write at piece now ∷ now ∷ past) (put_by fate at piece bytes)
next_fate size at fates fate piece bytes now past inside left =
    let medium : Medium = after_write at piece now in
    let here : at + length piece ≤ length now.bytes = (let e = left.has_size.bytes in omega (arith, e, inside)) in
    let long : length bytes ≡ size = left.may_leave.count ∙ left.has_size.synced in
    let fits : at + length piece ≤ length bytes = omega (arith, long, inside) in
    let order : reverse (fates ++ fate ∷ []) ≡ fate ∷ reverse fates = reverse-append fates (fate ∷ []) in
    record {
      left =
          ap (λ xs. put_by fate at xs bytes) (sym (read_there at piece now.bytes here))
          ∙ ap (put_by fate at (take (length piece) (drop at medium.bytes))) left.left
          ∙ sym (ap (λ fs. left_by fs (medium ∷ now ∷ past)) order);
      may_leave = record {
        count = length-put fate at piece bytes fits ∙ left.may_leave.count;
        elsewhere = λ i all.
            let outside : LiesOutside i (record { at = at; count = length piece }) =
            All-head (LiesOutside i) (record { at = at; count = length piece }) now.pending all in
            let others : All (LiesOutside i) now.pending = All-tail (LiesOutside i) (record { at = at; count = length piece })
            now.pending all in
            put_keeps fate at i piece bytes fits outside ∙ left.may_leave.elsewhere i others;
      };
      has_size = write_has_size size at piece now inside left.has_size;
    }

first_fate : (size : ℕ) (now : Medium) (past : List Medium) (bytes : List ℕ) → IsSynced now → HasSize size now → bytes ≡ now.bytes
    → AreLeftBy size [] (now ∷ past) bytes
first_fate size now past bytes still has is =
    let same : bytes ≡ now.synced = is ∙ sym still.synced in
    record {
      left = same;
      may_leave = record { count = ap length same; elsewhere = λ i all. ap (λ xs. get_or xs i 0) same };
      has_size = has;
    }

-- ---- a loop over the writes

-- there is a newest moment after changes where there was one before
record HasNewest (moments : List Medium) : Type 0 where
  now : Medium
  past : List Medium
  is : moments ≡ now ∷ past

has_newest : (changes : List Change) (now : Medium) (past : List Medium) (written : List ℕ)
    → HasNewest (moments_from (now ∷ past) changes written)
unfolding moments_from
has_newest [] now past written = record { now = now; past = past; is = refl }
has_newest (Write at n ∷ changes) now past written = has_newest changes (after_write at (take n written) now) (now ∷ past)
    (drop n written)
has_newest (Sync ∷ changes) now past written = has_newest changes (after_sync now) (now ∷ past) written

holds_next : (size at : ℕ) (fates : List Fate) (fate : Fate) (piece : List ℕ) (now : Medium) (past old new : List Medium)
    → at + length piece ≤ size
    → HasNow (λ d. AreLeftBy size fates (now ∷ past) d.bytes) old → Rewrites (put_by fate at piece) old new
    → HasNow (λ d. AreLeftBy size (fates ++ fate ∷ []) (after_write at piece now ∷ now ∷ past) d.bytes) new
holds_next size at fates fate piece now past [] new inside left steps = absurd left
holds_next size at fates fate piece now past (d ∷ before) [] inside left steps = absurd steps
holds_next size at fates fate piece now past (d ∷ before) (n ∷ more) inside left steps =
    subst (AreLeftBy size (fates ++ fate ∷ []) (after_write at piece now ∷ now ∷ past)) (sym steps)
    (next_fate size at fates fate piece d.bytes now past inside left)

step_in : (size used : ℕ) (fates : List Fate) (fate : Fate) (written : List ℕ) (moments old new : List Medium) (change : Change)
    → HasNewest moments → IsWrite change → LiesInside size change
    → used + bytes_written (change ∷ []) ≤ length written → HasNow (λ d. AreLeftBy size fates moments d.bytes) old
    → Rewrites (change_by fate change (drop used written)) old new
    → HasNow (λ d. AreLeftBy size (fates ++ fate ∷ []) (moments_from moments (change ∷ []) (drop used written)) d.bytes) new
step_in size used fates fate written moments old new Sync newest is_write inside fits left steps = absurd is_write
step_in size used fates fate written moments old new (Write at n) newest is_write inside fits left steps =
    let piece : List ℕ = take n (drop used written) in
    let whole : length piece ≡ n = length-take-le n (drop used written) (let e = length-drop used written in
    omega (arith, e, fits)) in
    let within : at + length piece ≤ size = omega (arith, whole, inside) in
    let P : List Medium → Type 0 = λ ms. HasNow (λ d. AreLeftBy size fates ms d.bytes) old in
    let held : HasNow (λ d. AreLeftBy size fates (newest.now ∷ newest.past) d.bytes) old = subst P newest.is left in
    let next = holds_next size at fates fate piece newest.now newest.past old new within held steps in
    let Q : List Medium → Type 0 = λ ms. HasNow (λ d. AreLeftBy size (fates ++ fate ∷ []) ms d.bytes) new in
    subst Q (sym (write_made moments at n (drop used written) ∙ ap (moments_after (after_write at piece)) newest.is)) next

-- one write more has met its fate
pub fates_next : (size k used : ℕ) (fates : List Fate) (fate : Fate) (changes : List Change) (change : Change) (written : List ℕ)
    (before old new : List Medium)
    → k < length changes → change ≡ get_or changes k change → k < length fates → fate ≡ get_or fates k fate → IsWrite change
    → LiesInside size change
    → used ≡ bytes_written (take k changes) → used + bytes_written (change ∷ []) ≤ length written
    → LeavesBy size (take k fates) (take k changes) written before old
    → Rewrites (change_by fate change (drop used written)) old new
    → LeavesBy size (take (k + 1) fates) (take (k + 1) changes) written before new
fates_next size k used fates fate changes change written before old new inside is inside' is' is_write lies so_far fits left
    steps = λ now past still has starts.
    let moments : List Medium = moments_from (now ∷ past) (take k changes) written in
    let next = step_in size used (take k fates) fate written moments old new change (has_newest (take k changes) now past written)
    is_write lies fits (left now past still has starts) steps in
    let order : take (k + 1) fates ≡ take k fates ++ fate ∷ [] = take_more fates k fate inside'
    ∙ ap (λ f. take k fates ++ f ∷ []) (sym is') in
    let more : moments_from (now ∷ past) (take (k + 1) changes) written ≡ moments_from moments (change ∷ []) (drop used written) =
    one_change_more changes k (now ∷ past) written change inside is
    ∙ ap (λ n. moments_from moments (change ∷ []) (drop n written)) (sym so_far) in
    let P : List Fate → Type 0 = λ fs. HasNow (λ d. AreLeftBy size fs (moments_from (now ∷ past) (take (k + 1) changes) written)
    d.bytes) new in
    let Q : List Medium → Type 0 = λ ms. HasNow (λ d. AreLeftBy size (take k fates ++ fate ∷ []) ms d.bytes) new in
    subst P (sym order) (subst Q (sym more) next)

holds_first : (size : ℕ) (now : Medium) (past before : List Medium) → IsSynced now → HasSize size now
    → HasNow (λ d. d.bytes ≡ now.bytes) before → HasNow (λ d. AreLeftBy size [] (now ∷ past) d.bytes) before
holds_first size now past [] still has starts = absurd starts
holds_first size now past (d ∷ more) still has starts = first_fate size now past d.bytes still has starts

pub fates_first : (size : ℕ) (fates : List Fate) (changes : List Change) (written : List ℕ) (before : List Medium)
    → LeavesBy size (take 0 fates) (take 0 changes) written before before
unfolding moments_from
fates_first size fates changes written before = λ now past still has starts. holds_first size now past before still has starts

pub fates_all : (size k : ℕ) (fates : List Fate) (changes : List Change) (written : List ℕ) (before after : List Medium)
    → length fates ≡ length changes → length changes ≤ k
    → LeavesBy size (take k fates) (take k changes) written before after → LeavesBy size fates changes written before after
fates_all size k fates changes written before after same end left =
    let P : List Fate → Type 0 = λ fs. LeavesBy size fs changes written before after in
    let Q : List Change → Type 0 = λ cs. LeavesBy size (take k fates) cs written before after in
    subst P (take_all k fates (omega (arith, same, end))) (subst Q (take_all k changes end) left)

-- how far the changes of a loop have come
pub used_next : (changes : List Change) (k used : ℕ) (change : Change) → k < length changes → change ≡ get_or changes k change
    → used ≡ bytes_written (take k changes)
    → (bytes_written (take (k + 1) changes) ≡ used + bytes_written (change ∷ []))
    × (used + bytes_written (change ∷ []) ≤ bytes_written changes)
used_next changes k used change inside is so_far =
    let next : take (k + 1) changes ≡ take k changes ++ change ∷ [] = take_more changes k change inside
    ∙ ap (λ c. take k changes ++ c ∷ []) (sym is) in
    let sum : bytes_written (take (k + 1) changes) ≡ bytes_written (take k changes) + bytes_written (change ∷ []) =
    ap bytes_written next ∙ one_count (take k changes) change in
    let some = written_some changes (k + 1) in
    (omega (arith, sum, so_far), omega (arith, sum, some, so_far))

pub one_of : (P : Change → Type 0) (changes : List Change) (k : ℕ) (change : Change) → k < length changes
    → change ≡ get_or changes k change → AllByRecursion P changes → P change
one_of P [] k change less is all = absurd (omega (arith, less))
one_of P (first ∷ changes) zero change less is all = subst P (sym is) all.0
one_of P (first ∷ changes) (suc k) change less is all = one_of P changes k change (omega (arith, less)) is all.1

-- what is read after a piece that was put
pub rewrites_write : (f : List ℕ → List ℕ) (at : ℕ) (piece : List ℕ) (old new : List Medium)
    → ((bytes : List ℕ) → f bytes ≡ with_bytes at piece bytes)
    → new ≡ moments_after (after_write at piece) old → Rewrites f old new
rewrites_write f at piece [] new is moments = tt
rewrites_write f at piece (now ∷ past) new is moments =
    subst (HasNow (λ d. d.bytes ≡ f now.bytes)) (sym moments) (sym (is now.bytes))

pub rewrites_none : (f : List ℕ → List ℕ) (old : List Medium) → ((bytes : List ℕ) → f bytes ≡ bytes) → Rewrites f old old
rewrites_none f [] is = tt
rewrites_none f (now ∷ past) is = sym (is now.bytes)

-- ---- the changes up to the last sync, and those after it

moments_split : (a b : List Change) (moments : List Medium) (written : List ℕ)
    → moments_from moments (a ++ b) written ≡ moments_from (moments_from moments a written) b (drop (bytes_written a) written)
unfolding moments_from
moments_split [] b moments written = refl
moments_split (Write at n ∷ a) b moments written =
    moments_split a b (moments_after (after_write at (take n written)) moments) (drop n written)
    ∙ ap (moments_from (moments_from (moments_after (after_write at (take n written)) moments) a (drop n written)) b)
    (drop-drop (bytes_written a) n written)
moments_split (Sync ∷ a) b moments written = moments_split a b (moments_after after_sync moments) written

-- the changes use the first bytes alone
moments_of_front : (a : List Change) (k : ℕ) (moments : List Medium) (written : List ℕ) → bytes_written a ≤ k
    → moments_from moments a (take k written) ≡ moments_from moments a written
unfolding moments_from
moments_of_front [] k moments written fits = refl
moments_of_front (Write at n ∷ a) k moments written fits =
    let sum : n + bytes_written a ≤ k = fits in
    let place : n + (k - n) ≡ k = omega (arith, sum) in
    let piece : take n (take k written) ≡ take n written = take-take n k written (omega (arith, sum)) in
    let rest : drop n (take k written) ≡ take (k - n) (drop n written) = ap (λ m. drop n (take m written)) (sym place)
    ∙ drop-take n (k - n) written in
    ap (λ xs. moments_from (moments_after (after_write at xs) moments) a (drop n (take k written))) piece
    ∙ ap (moments_from (moments_after (after_write at (take n written)) moments) a) rest
    ∙ moments_of_front a (k - n) (moments_after (after_write at (take n written)) moments) (drop n written) (omega (arith, sum))
moments_of_front (Sync ∷ a) k moments written fits = moments_of_front a k (moments_after after_sync moments) written fits

-- writes alone are all pending
writes_pend : (changes : List Change) (now : Medium) (past : List Medium) (written : List ℕ) → AllByRecursion IsWrite changes
    → HoldsNow (λ m. length now.pending + length changes ≡ length m.pending) (moments_from (now ∷ past) changes written)
unfolding moments_from
writes_pend [] now past written all = omega arith
writes_pend (Write at n ∷ changes) now past written all =
    let next : Medium = after_write at (take n written) now in
    let more = writes_pend changes next (now ∷ past) (drop n written) all.1 in
    let count : length now.pending + length (Write at n ∷ changes) ≡ length next.pending + length changes = omega arith in
    let P : ℕ → Type 0 = λ k. HoldsNow (λ m. k ≡ length m.pending) (moments_from (next ∷ now ∷ past) changes (drop n written)) in
    subst P (sym count) more
writes_pend (Sync ∷ changes) now past written all = absurd all.0

-- the moments of a disk in memory, by those at its last sync
record AreSplit (size synced : ℕ) (changes : List Change) (written : List ℕ) : Type 0 where
  now : Medium
  past : List Medium
  at_sync : moments_of size (take synced changes) written ≡ now ∷ past
  still : IsSynced now
  behind : moments_of size changes written ≡ moments_from (now ∷ past) (drop synced changes)
      (drop (bytes_written (take synced changes)) written)

are_split : (size synced : ℕ) (changes : List Change) (written held : List ℕ) → IsKept size synced changes written held
    → AreSplit size synced changes written
are_split size synced changes written held kept =
    let before : List Change = take synced changes in
    let newest = has_newest before (durable (replicate size 0)) [] written in
    let front : moments_of size before (take (bytes_written before) written) ≡ moments_of size before written =
    moments_of_front before (bytes_written before) (durable (replicate size 0) ∷ []) written (omega arith) in
    record {
      now = newest.now;
      past = newest.past;
      at_sync = newest.is;
      still = subst (HoldsNow IsSynced) (front ∙ newest.is) kept.up_to.still;
      behind =
          ap (λ cs. moments_of size cs written) (sym (take-append-drop synced changes))
          ∙ moments_split before (drop synced changes) (durable (replicate size 0) ∷ []) written
          ∙ ap (λ ms. moments_from ms (drop synced changes) (drop (bytes_written before) written)) newest.is;
    }

-- how many writes are pending
pub pending_kept : (size synced : ℕ) (changes : List Change) (written held : List ℕ) → IsKept size synced changes written held
    → HoldsNow (λ now. length changes - synced ≡ length now.pending) (moments_of size changes written)
pending_kept size synced changes written held kept =
    let split = are_split size synced changes written held kept in
    let pend = writes_pend (drop synced changes) split.now split.past (drop (bytes_written (take synced changes)) written)
    kept.up_to.writes in
    let none : length split.now.pending ≡ 0 = ap length split.still.pending in
    let count : length split.now.pending + length (drop synced changes) ≡ length changes - synced =
    (let e = length-drop synced changes in omega (arith, e, none)) in
    let P : ℕ → Type 0 = λ k. HoldsNow (λ m. k ≡ length m.pending) (moments_of size changes written) in
    subst P count (subst (HoldsNow (λ m. length split.now.pending + length (drop synced changes) ≡ length m.pending))
    (sym split.behind) pend)

-- ---- loops over changes

-- the next of the changes, and what is left of the bytes
pub record IsNextOf (changes : List Change) (written : List ℕ) (size used : ℕ) (change : Change) : Type 0 where
  pub fits : used + bytes_written (change ∷ []) ≤ length written
  pub inside : LiesInside size change
  pub left : bytes_written (change ∷ []) ≤ length (take (length written - used) (drop used written))
  pub rest : take (length written - used) (drop used written) ≡ drop used written

pub next_of : (changes : List Change) (written : List ℕ) (size other k used : ℕ) (change : Change) → k < length changes
    → change ≡ get_or changes k change → used ≡ bytes_written (take k changes)
    → bytes_written changes ≤ length written → LieInside size changes → other ≡ size → IsNextOf changes written other used change
next_of changes written size other k used change inside is so_far counted lies same =
    let next = used_next changes k used change inside is so_far in
    let rest : take (length written - used) (drop used written) ≡ drop used written = take_rest written used in
    let fits : used + bytes_written (change ∷ []) ≤ length written = omega (arith, next.1, counted) in
    let long = length-drop used written in
    record {
      fits = fits;
      inside = subst (λ n. LiesInside n change) (sym same) (one_of (LiesInside size) changes k change inside is lies);
      left = (let e = ap length rest in omega (arith, e, long, fits));
      rest = rest;
    }

-- how far the fates have come
pub record AreMet (old : DiskState) (fates : List Fate) (changes : List Change) (written : List ℕ) (disk : DiskState)
    (k used : ℕ) : Type 0 where
  pub used' : used ≡ bytes_written (take k changes)
  pub left : LeavesBy old.size (take k fates) (take k changes) written old.moments disk.moments
  pub size : disk.size ≡ old.size

pub met_next : (old mid new : DiskState) (fates : List Fate) (fate : Fate) (changes : List Change) (written : List ℕ)
    (k used count : ℕ) (change : Change)
    → k < length changes → change ≡ get_or changes k change → k < length fates → fate ≡ get_or fates k fate
    → AllByRecursion IsWrite changes → LieInside old.size changes → bytes_written changes ≤ length written
    → AreMet old fates changes written mid k used → count ≡ bytes_written (change ∷ [])
    → Rewrites (change_by fate change (take (length written - used) (drop used written))) mid.moments new.moments
    → new.size ≡ mid.size
    → AreMet old fates changes written new (k + 1) (used + count)
met_next old mid new fates fate changes written k used count change inside is inside' is' writes lies counted met counts
    steps size =
    let next = used_next changes k used change inside is met.used' in
    let of = next_of changes written old.size old.size k used change inside is met.used' counted lies refl in
    let P : List ℕ → Type 0 = λ xs. Rewrites (change_by fate change xs) mid.moments new.moments in
    record {
      used' = ap (λ n. used + n) counts ∙ sym next.0;
      left =
          fates_next old.size k used fates fate changes change written old.moments mid.moments new.moments inside is inside' is'
          (one_of IsWrite changes k change inside is writes) of.inside met.used' of.fits met.left
          (subst P of.rest steps);
      size = size ∙ met.size;
    }

pub used_inside : (changes : List Change) (written : List ℕ) (k used : ℕ) → used ≡ bytes_written (take k changes)
    → bytes_written changes ≤ length written → used ≤ length written
used_inside changes written k used is counted = (let e = written_some changes k in omega (arith, e, is, counted))

-- ---- a disk that was stopped

-- the parts of a disk's changes
pub record AreParts (size synced : ℕ) (changes : List Change) (written : List ℕ) (fates : List Fate) : Type 0 where
  pub before : bytes_written (take synced changes) ≤ length written
  pub before_inside : LieInside size (take synced changes)
  pub after : bytes_written (drop synced changes) ≤ length written - bytes_written (take synced changes)
  pub after_inside : LieInside size (drop synced changes)
  pub writes : AllByRecursion IsWrite (drop synced changes)
  pub count : length fates ≡ length (drop synced changes)
  pub synced' : synced ≤ length changes

inside_rest : (changes : List Change) (k size : ℕ) → LieInside size changes → LieInside size (drop k changes)
inside_rest [] zero size all = tt
inside_rest [] (suc k) size all = tt
inside_rest (change ∷ changes) zero size all = all
inside_rest (change ∷ changes) (suc k) size all = inside_rest changes k size all.1

inside_front : (changes : List Change) (k size : ℕ) → LieInside size changes → LieInside size (take k changes)
inside_front [] zero size all = tt
inside_front [] (suc k) size all = tt
inside_front (change ∷ changes) zero size all = tt
inside_front (change ∷ changes) (suc k) size all = (all.0, inside_front changes k size all.1)

written_parts : (changes : List Change) (k : ℕ) → bytes_written (take k changes) + bytes_written (drop k changes)
    ≡ bytes_written changes
written_parts [] zero = refl
written_parts [] (suc k) = refl
written_parts (Write at n ∷ changes) zero = omega arith
written_parts (Write at n ∷ changes) (suc k) = (let e = written_parts changes k in omega (arith, e))
written_parts (Sync ∷ changes) zero = omega arith
written_parts (Sync ∷ changes) (suc k) = written_parts changes k

pub parts_of : (size synced : ℕ) (changes : List Change) (written : List ℕ) (fates : List Fate)
    → MayStop size synced changes written fates → AreParts size synced changes written fates
parts_of size synced changes written fates may =
    let sum = written_parts changes synced in
    let all = may.kept.counted in
    record {
      before = omega (arith, sum, all);
      before_inside = inside_front changes synced size may.kept.inside;
      after = omega (arith, sum, all);
      after_inside = inside_rest changes synced size may.kept.inside;
      writes = may.kept.up_to.writes;
      count = may.count ∙ sym (length-drop synced changes);
      synced' = may.kept.up_to.inside;
    }

-- the sizes of all moments
media_at : (size : ℕ) (changes : List Change) (now : Medium) (past : List Medium) (written : List ℕ) → LieInside size changes
    → bytes_written changes ≤ length written → HasSize size now
    → HoldsNow (HasSize size) (moments_from (now ∷ past) changes written)
unfolding moments_from
media_at size [] now past written inside fits has = has
media_at size (Write at n ∷ changes) now past written inside fits has =
    let sum : n + bytes_written changes ≤ length written = fits in
    let count : length (take n written) ≡ n = length-take-le n written (omega (arith, sum)) in
    let rest = length-drop n written in
    let within : at + n ≤ size = inside.0 in
    media_at size changes (after_write at (take n written) now) (now ∷ past) (drop n written) inside.1 (omega (arith, sum, rest))
    (write_has_size size at (take n written) now (omega (arith, within, count)) has)
media_at size (Sync ∷ changes) now past written inside fits has =
    media_at size changes (after_sync now) (now ∷ past) written inside.1 fits (record { bytes = has.bytes; synced = has.bytes })

-- what a stopped disk holds, and that a stop may leave it
pub record HasStopped (size : ℕ) (changes : List Change) (written : List ℕ) (fates : List Fate) (after : List Medium) :
    Type 0 where
  pub stopped : IsStopped fates (moments_of size changes written) after
  pub may_leave : HoldsNow (λ now. MayLeave now (left_in_order fates (moments_of size changes written)))
      (moments_of size changes written)

may_of : (size : ℕ) (fates : List Fate) (moments : List Medium) (bytes : List ℕ) → AreLeftBy size fates moments bytes
    → HoldsNow (λ now. MayLeave now (left_in_order fates moments)) moments
may_of size fates moments bytes left = subst (λ xs. HoldsNow (λ now. MayLeave now xs) moments) left.left left.may_leave

stopped_by : (size : ℕ) (fates : List Fate) (moments behind after : List Medium)
    → HasNow (λ d. AreLeftBy size fates moments d.bytes) behind → after ≡ moments_after after_sync behind
    → IsStopped fates moments after × HoldsNow (λ now. MayLeave now (left_in_order fates moments)) moments
stopped_by size fates moments [] after left synced = absurd left
stopped_by size fates moments (d ∷ past) after left synced = (
  record { past = d ∷ past; moments = synced ∙ ap (λ xs. durable xs ∷ d ∷ past) left.left },
  may_of size fates moments d.bytes left,
)

pub has_stopped : (size synced used : ℕ) (changes : List Change) (written : List ℕ) (fates : List Fate)
    (again behind after : List Medium) → MayStop size synced changes written fates
    → HasNow (λ now. now.bytes ≡ contents_from (replicate size 0) (take synced changes) written) again
    → used ≡ bytes_written (take synced changes)
    → LeavesBy size fates (drop synced changes) (drop used written) again behind → after ≡ moments_after after_sync behind
    → HasStopped size changes written fates after
has_stopped size synced used changes written fates again behind after may made count left synced' =
    let split = are_split size synced changes written may.held may.kept in
    let zeros : length (replicate size 0) ≡ size = length-replicate {A = ℕ} size 0 in
    let parts = parts_of size synced changes written fates may in
    let media = media_at size (take synced changes) (durable (replicate size 0)) [] written parts.before_inside parts.before
    (record { bytes = zeros; synced = zeros }) in
    let has : HasSize size split.now = subst (HoldsNow (HasSize size)) split.at_sync media in
    let same : split.now.bytes ≡ contents_from (replicate size 0) (take synced changes) written =
    now_contents (take synced changes) (durable (replicate size 0)) split.now [] split.past written split.at_sync in
    let reads : HasNow (λ d. d.bytes ≡ split.now.bytes) again =
    subst (λ xs. HasNow (λ d. d.bytes ≡ xs) again) (sym same) made in
    let met = left split.now split.past split.still has reads in
    let all : moments_of size changes written ≡ moments_from (split.now ∷ split.past) (drop synced changes) (drop used written) =
    split.behind ∙ ap (λ n. moments_from (split.now ∷ split.past) (drop synced changes) (drop n written)) (sym count) in
    let P : List Medium → Type 0 = λ ms. HasNow (λ d. AreLeftBy size fates ms d.bytes) behind in
    let both = stopped_by size fates (moments_of size changes written) behind after (subst P (sym all) met) synced' in
    record { stopped = both.0; may_leave = both.1 }

-- where the fates are as many as the pending writes, a disk may be stopped
same_count : (n k : ℕ) (moments : List Medium) (now : Medium) (past : List Medium) → moments ≡ now ∷ past
    → HoldsNow (λ m. n ≡ length m.pending) moments → HoldsNow (λ m. k ≡ length m.pending) moments → n ≡ k
same_count n k moments now past is first second =
    let a : n ≡ length now.pending = subst (HoldsNow (λ m. n ≡ length m.pending)) is first in
    let b : k ≡ length now.pending = subst (HoldsNow (λ m. k ≡ length m.pending)) is second in
    a ∙ sym b

pub may_stop : (size synced : ℕ) (changes : List Change) (written held : List ℕ) (fates : List Fate)
    → IsKept size synced changes written held
    → HoldsNow (λ now. length fates ≡ length now.pending) (moments_of size changes written)
    → MayStop size synced changes written fates
may_stop size synced changes written held fates kept count = record {
  held = held;
  kept = kept;
  count = same_count (length fates) (length changes - synced) (moments_of size changes written) kept.now kept.past kept.moments
      count (pending_kept size synced changes written held kept);
}
