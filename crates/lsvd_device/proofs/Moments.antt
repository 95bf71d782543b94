-- The moments of a disk in memory, change by change.
use Rattle.std.proofs.Common.{◌≡◌, ℕ, ◌+◌, ◌<◌, ◌≤◌, ◌^◌, zero, suc, List, [], ◌∷◌, ◌++◌, length, take, drop, replicate, min}
use Rattle.std.proofs.Common.{refl, sym, ◌∙◌, ap, subst, arith, length-append}
use Rattle.std.specs.List.{AllByRecursion}
use Rattle.std.proofs.lemmas.List.{take-append-le, drop-append-le, take_all, drop_all, length-take-le, length-drop}
use Rattle.std.proofs.lemmas.List.{length-replicate, take-replicate}
use Rattle.lsvd_device.specs.Medium.{Medium, durable, after_write, after_sync}
use Rattle.lsvd_bytes.specs.Places.{with_bytes}
use Rattle.lsvd_device.specs.Device.{DiskState, IsDisk, HasSize, HoldsNow, moments_after}
use Rattle.lsvd_device.specs.Memory.{moments_from, moments_of, bytes_written, LiesInside, LieInside, IsFrontOf, IsSynced, IsWrite}
use Rattle.lsvd_device.specs.Memory.{AreSyncedUpTo, IsKept}
use Rattle.lsvd_device.specs.declared.change.Change.{Change}
use Rattle.lsvd_device.specs.declared.change.Change.TheVariants.{Write, Sync}

-- a list without elements
no_bytes : (xs : List ℕ) → 0 ≡ length xs → xs ≡ []
no_bytes [] e = refl
no_bytes (x ∷ xs) e = absurd (omega (arith, e))

-- a write is one moment more
one_write : (changes : List Change) (moments : List Medium) (written piece : List ℕ) (at : ℕ)
    → bytes_written changes ≡ length written
    → moments_from moments (changes ++ Write at (length piece) ∷ []) (written ++ piece) ≡ moments_after (after_write at piece)
    (moments_from moments changes written)
unfolding moments_from
one_write [] moments written piece at counted =
    let none : written ≡ [] = no_bytes written counted in
    let whole : take (length piece) (written ++ piece) ≡ piece = ap (λ xs. take (length piece) (xs ++ piece)) none
    ∙ take_all (length piece) piece (omega arith) in
    ap (λ data'. moments_after (after_write at data') moments) whole
one_write (Write from count ∷ changes) moments written piece at counted =
    let sum : count + bytes_written changes ≡ length written = counted in
    let within : count ≤ length written = omega (arith, sum) in
    let rest : bytes_written changes ≡ length (drop count written) =
    (let e = length-drop count written in omega (arith, e, sum)) in
    let next : List Medium = moments_after (after_write from (take count written)) moments in
    ap (λ xs. moments_from (moments_after (after_write from xs) moments) (changes ++ Write at (length piece) ∷ [])
    (drop count (written ++ piece))) (take-append-le count written piece within)
    ∙ ap (λ xs. moments_from next (changes ++ Write at (length piece) ∷ []) xs) (drop-append-le count written piece within)
    ∙ one_write changes next (drop count written) piece at rest
one_write (Sync ∷ changes) moments written piece at counted =
    one_write changes (moments_after after_sync moments) written piece at (omega (arith, counted))

-- a sync is one moment more
one_sync : (changes : List Change) (moments : List Medium) (written : List ℕ)
    → moments_from moments (changes ++ Sync ∷ []) written ≡ moments_after after_sync (moments_from moments changes written)
unfolding moments_from
one_sync [] moments written = refl
one_sync (Write from count ∷ changes) moments written =
    one_sync changes (moments_after (after_write from (take count written)) moments) (drop count written)
one_sync (Sync ∷ changes) moments written = one_sync changes (moments_after after_sync moments) written

-- the bytes of changes, and of one more
pub one_count : (changes : List Change) (change : Change) → bytes_written (changes ++ change ∷ []) ≡ bytes_written changes
    + bytes_written (change ∷ [])
one_count [] change = omega arith
one_count (Write at count ∷ changes) change =
    let more : bytes_written (changes ++ change ∷ []) ≡ bytes_written changes + bytes_written (change ∷ []) =
    one_count changes change in
    let all : count + bytes_written (changes ++ change ∷ []) ≡ count + bytes_written changes + bytes_written (change ∷ []) =
    omega (arith, more) in
    all
one_count (Sync ∷ changes) change = one_count changes change

-- bytes are as many with a piece in place of some
pub length-with_bytes : (at : ℕ) (piece bytes : List ℕ) → at + length piece ≤ length bytes
    → length (with_bytes at piece bytes) ≡ length bytes
length-with_bytes at piece bytes inside =
    let front = length-take-le at bytes (omega (arith, inside)) in
    let back = length-drop (at + length piece) bytes in
    let e = length-append (take at bytes ++ piece) (drop (at + length piece) bytes) in
    let f = length-append (take at bytes) piece in
    let sum : length (take at bytes ++ piece) + length (drop (at + length piece) bytes) ≡ length bytes =
    omega (arith, front, back, f, inside) in
    e ∙ sum

-- a medium keeps its size over a write and over a sync
pub write_has_size : (size at : ℕ) (piece : List ℕ) (medium : Medium) → at + length piece ≤ size → HasSize size medium
    → HasSize size (after_write at piece medium)
write_has_size size at piece medium inside has = record {
  bytes = length-with_bytes at piece medium.bytes (let e = has.bytes in omega (arith, e, inside)) ∙ has.bytes;
  synced = has.synced;
}

sync_has_size : (size : ℕ) (medium : Medium) → HasSize size medium → HasSize size (after_sync medium)
sync_has_size size medium has = record { bytes = has.bytes; synced = has.bytes }

-- the moments of a disk that was made
pub made : (size : ℕ) → moments_of size [] [] ≡ durable (replicate size 0) ∷ []
unfolding moments_from
made size = refl

pub kept_made : (size : ℕ) (front : List ℕ) → front ≡ replicate (min size 4096) 0 → IsKept size 0 [] [] front
unfolding moments_from
kept_made size front is =
    let count : length front ≡ min size 4096 = ap length is ∙ length-replicate (min size 4096) 0 in
    let zeros : length (replicate size 0) ≡ size = length-replicate size 0 in
    let less : min size 4096 ≤ size = omega arith in
    record {
      counted = refl;
      inside = tt;
      now = durable (replicate size 0);
      past = [];
      moments = refl;
      media = (record { bytes = zeros; synced = zeros }, tt);
      front = record {
        fits = omega (arith, count, zeros);
        same = is ∙ sym (take-replicate {X = ℕ} (min size 4096) size 0 less) ∙ ap (λ n. take n (replicate size 0)) (sym count);
      };
      up_to = record { inside = omega arith; still = record { pending = refl; synced = refl }; writes = tt };
    }

-- the moments after a write
pub moments_write : (size synced at : ℕ) (changes : List Change) (written piece held : List ℕ)
    → IsKept size synced changes written held
    → moments_of size (changes ++ Write at (length piece) ∷ []) (written ++ piece) ≡ moments_after (after_write at piece)
    (moments_of size changes written)
moments_write size synced at changes written piece held kept = one_write changes (durable (replicate size 0) ∷ []) written piece
    at kept.counted

-- changes inside a disk, and one more
pub inside_more : (size : ℕ) (changes : List Change) (change : Change) → LieInside size changes → LiesInside size change
    → LieInside size (changes ++ change ∷ [])
inside_more size [] change all one = (one, tt)
inside_more size (first ∷ changes) change all one = (all.0, inside_more size changes change all.1 one)

-- the changes up to the last sync are as before after one write more
all_writes_more : (changes : List Change) (at count : ℕ) → AllByRecursion IsWrite changes
    → AllByRecursion IsWrite (changes ++ Write at count ∷ [])
all_writes_more [] at count all = (tt, tt)
all_writes_more (change ∷ changes) at count all = (all.0, all_writes_more changes at count all.1)

pub written_some : (changes : List Change) (k : ℕ) → bytes_written (take k changes) ≤ bytes_written changes
written_some [] zero = omega arith
written_some [] (suc k) = omega arith
written_some (Write at n ∷ changes) zero = omega arith
written_some (Write at n ∷ changes) (suc k) = (let e = written_some changes k in omega (arith, e))
written_some (Sync ∷ changes) zero = omega arith
written_some (Sync ∷ changes) (suc k) = written_some changes k

write_up_to : (size synced at : ℕ) (changes : List Change) (written piece : List ℕ) → bytes_written changes ≡ length written
    → AreSyncedUpTo size synced changes written
    → AreSyncedUpTo size synced (changes ++ Write at (length piece) ∷ []) (written ++ piece)
write_up_to size synced at changes written piece counted up_to =
    let one : List Change = Write at (length piece) ∷ [] in
    let front : take synced (changes ++ one) ≡ take synced changes = take-append-le synced changes one up_to.inside in
    let some : bytes_written (take synced changes) ≤ length written =
    (let e = written_some changes synced in omega (arith, e, counted)) in
    let bytes : take (bytes_written (take synced changes)) (written ++ piece) ≡ take (bytes_written (take synced changes))
    written = take-append-le (bytes_written (take synced changes)) written piece some in
    record {
      inside = (let e = length-append changes one in omega (arith, e, up_to.inside));
      still =
          subst (HoldsNow IsSynced) (sym (ap (λ cs. moments_of size cs (take (bytes_written cs) (written ++ piece))) front
          ∙ ap (moments_of size (take synced changes)) bytes)) up_to.still;
      writes = subst (AllByRecursion IsWrite) (sym (drop-append-le synced changes one up_to.inside))
          (all_writes_more (drop synced changes) at (length piece) up_to.writes);
    }

pub kept_write : (size synced at : ℕ) (changes : List Change) (written piece held front : List ℕ) → at + length piece ≤ size
    → (kept : IsKept size synced changes written held)
    → IsFrontOf (with_bytes at piece kept.now.bytes) front
    → IsKept size synced (changes ++ Write at (length piece) ∷ []) (written ++ piece) front
kept_write size synced at changes written piece held front inside kept is_front = record {
  counted = (let e = one_count changes (Write at (length piece)) in let f = length-append written piece in
      let g : bytes_written (Write at (length piece) ∷ []) ≡ length piece = omega arith in
      omega (arith, e, f, g, kept.counted));
  inside = inside_more size changes (Write at (length piece)) kept.inside inside;
  now = after_write at piece kept.now;
  past = kept.now ∷ kept.past;
  moments = moments_write size synced at changes written piece held kept ∙ ap (moments_after (after_write at piece)) kept.moments;
  media = (write_has_size size at piece kept.now inside kept.media.0, kept.media);
  front = is_front;
  up_to = write_up_to size synced at changes written piece kept.counted kept.up_to;
}

-- the moments after a sync
pub moments_sync : (size : ℕ) (changes : List Change) (written : List ℕ)
    → moments_of size (changes ++ Sync ∷ []) written ≡ moments_after after_sync (moments_of size changes written)
moments_sync size changes written = one_sync changes (durable (replicate size 0) ∷ []) written

-- all changes are those up to a sync after them
sync_up_to : (size : ℕ) (changes : List Change) (written : List ℕ) (now : Medium) (past : List Medium)
    → bytes_written (changes ++ Sync ∷ []) ≡ length written
    → moments_of size (changes ++ Sync ∷ []) written ≡ after_sync now ∷ now ∷ past
    → AreSyncedUpTo size (length (changes ++ Sync ∷ [])) (changes ++ Sync ∷ []) written
sync_up_to size changes written now past counted moments =
    let all : List Change = changes ++ Sync ∷ [] in
    let whole : take (length all) all ≡ all = take_all (length all) all (omega arith) in
    let bytes : take (bytes_written all) written ≡ written = take_all (bytes_written all) written (omega (arith, counted)) in
    record {
      inside = omega arith;
      still =
          subst (HoldsNow IsSynced) (sym (ap (λ cs. moments_of size cs (take (bytes_written cs) written)) whole
          ∙ ap (moments_of size all) bytes ∙ moments)) (record { pending = refl; synced = refl });
      writes = subst (AllByRecursion IsWrite) (sym (drop_all (length all) all (omega arith))) tt;
    }

pub kept_sync : (size synced : ℕ) (changes : List Change) (written held : List ℕ) → IsKept size synced changes written held
    → IsKept size (length (changes ++ Sync ∷ [])) (changes ++ Sync ∷ []) written held
kept_sync size synced changes written held kept = record {
  counted = (let e = one_count changes Sync in let g : bytes_written (Sync ∷ []) ≡ 0 = refl in omega (arith, e, g, kept.counted));
  inside = inside_more size changes Sync kept.inside tt;
  now = after_sync kept.now;
  past = kept.now ∷ kept.past;
  moments = moments_sync size changes written ∙ ap (moments_after after_sync) kept.moments;
  media = (sync_has_size size kept.now kept.media.0, kept.media);
  front = kept.front;
  up_to =
      sync_up_to size changes written kept.now kept.past
      (let e = one_count changes Sync in let g : bytes_written (Sync ∷ []) ≡ 0 = refl in omega (arith, e, g, kept.counted))
      (moments_sync size changes written ∙ ap (moments_after after_sync) kept.moments);
}

-- a disk in memory is a disk
pub kept_is_disk : (disk : DiskState) (synced : ℕ) (changes : List Change) (written held : List ℕ) → disk.size < 2 ^ 64
    → disk.moments ≡ moments_of disk.size changes written
    → IsKept disk.size synced changes written held → IsDisk disk
kept_is_disk disk synced changes written held fits is kept = record {
  fits = fits;
  media = subst (AllByRecursion (HasSize disk.size)) (sym (is ∙ kept.moments)) kept.media;
}
