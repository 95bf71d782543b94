-- What a disk that gathers tells of all its moments, step by step.
use Rattle.std.proofs.Common.{◌≡◌, ℕ, ◌+◌, ◌≤◌, List, [], ◌∷◌, ◌++◌, length, take, drop, refl, sym, ◌∙◌, ap, subst}
use Rattle.std.proofs.Common.{inl, inr, append_assoc, arith, length-append}
use Rattle.std.specs.Prelude.{◌⊎◌}
use Rattle.std.specs.List.{AllByRecursion}
use Rattle.std.proofs.lemmas.List.{length-take-le, take_at, drop_at}
use Rattle.lsvd_bytes.specs.Places.{bytes_at, with_bytes}
use Rattle.lsvd_bytes.proofs.PlaceLemmas.{keeps_length, keeps_other_bytes}
use Rattle.lsvd_device.specs.Medium.{Medium, after_write, after_sync}
use Rattle.lsvd_device.specs.Device.{IsDisk, HasSize, HoldsNow, moments_after, FailsToWrite}
use Rattle.gathered_disk.specs.Gathered.{GatheredState, IsCovered, AreCovered, IsAboveNow, IsGathering}
use Rattle.gathered_disk.proofs.Above.{with_bytes_none, leaves_no_more, above_itself, above_elsewhere, above_gathered}
use Rattle.gathered_disk.proofs.Above.{above_handed, above_torn, above_written, above_kept, above_synced}

-- what is told is above what is held below now, and covers all that was
pub record Follows (at : ℕ) (gathered : List ℕ) (below told : List Medium) : Type 0 where
  pub above : IsAboveNow at gathered below told
  pub covered : AreCovered told below

-- ---- one moment more

-- one moment more covers what those before it do
more_cover : (new : Medium) (told below : List Medium) → AllByRecursion (IsCovered told) below
    → AllByRecursion (IsCovered (new ∷ told)) below
more_cover new told [] all = tt
more_cover new told (held ∷ past) all = (inr all.0, more_cover new told past all.1)

-- moments cover themselves
cover_themselves : (told : List Medium) → AllByRecursion (IsCovered told) told
cover_themselves [] = tt
cover_themselves (now ∷ past) = (inl (λ left may. may), more_cover now past past (cover_themselves past))

-- the disk is new
pub follows_first : (below told : List Medium) → (told ≡ []) ⊎ (told ≡ below) → Follows 0 [] below told
follows_first below told (inl none) =
    subst (λ ms. Follows 0 [] below ms) (sym none) (record { above = tt; covered = tt })
follows_first [] told (inr same) = subst (λ ms. Follows 0 [] [] ms) (sym same) (record { above = tt; covered = tt })
follows_first (now ∷ past) told (inr same) =
    subst (λ ms. Follows 0 [] (now ∷ past) ms) (sym same) (record {
      above = above_itself 0 now;
      covered = cover_themselves (now ∷ past);
    })

-- where nothing is gathered the place does not matter
pub follows_elsewhere : (at there : ℕ) (below told : List Medium) → Follows at [] below told → Follows there [] below told
follows_elsewhere at there below [] is = record { above = tt; covered = tt }
follows_elsewhere at there [] (now ∷ past) is = absurd is.above
follows_elsewhere at there (held ∷ before) (now ∷ past) is = record {
  above = above_elsewhere at there held now is.above;
  covered = is.covered;
}

-- a piece was gathered behind what was
pub follows_gathered : (size at : ℕ) (gathered piece : List ℕ) (below told : List Medium)
    → at + length gathered + length piece ≤ size → AllByRecursion (HasSize size) below → Follows at gathered below told
    → Follows at (gathered ++ piece) below (moments_after (after_write (at + length gathered) piece) told)
follows_gathered size at gathered piece below [] inside media is = record { above = tt; covered = tt }
follows_gathered size at gathered piece [] (now ∷ past) inside media is = absurd is.above
follows_gathered size at gathered piece (held ∷ before) (now ∷ past) inside media is = record {
  above = above_gathered at gathered piece held now (let e = media.0.bytes in omega (arith, e, inside)) is.above;
  covered = more_cover (after_write (at + length gathered) piece now) (now ∷ past) (held ∷ before) is.covered;
}

-- what was gathered was handed over
pub follows_handed : (at : ℕ) (gathered : List ℕ) (below told : List Medium) → Follows at gathered below told
    → Follows at [] (moments_after (after_write at gathered) below) told
follows_handed at gathered below [] is = record { above = tt; covered = tt }
follows_handed at gathered [] (now ∷ past) is = absurd is.above
follows_handed at gathered (held ∷ before) (now ∷ past) is =
    let next = above_handed at gathered held now is.above in
    record { above = next; covered = (inl (leaves_no_more at [] (after_write at gathered held) now next), is.covered) }

-- it failed to be handed over
pub follows_torn : (at : ℕ) (gathered : List ℕ) (below new told : List Medium) → FailsToWrite at (length gathered) below new
    → Follows at gathered below told → Follows at gathered new told
follows_torn at gathered below new [] fails is = record { above = tt; covered = tt }
follows_torn at gathered [] new (now ∷ past) fails is = absurd is.above
follows_torn at gathered (held ∷ before) new (now ∷ past) (inl same) is =
    subst (λ ms. Follows at gathered ms (now ∷ past)) (sym same) is
follows_torn at gathered (held ∷ before) new (now ∷ past) (inr torn) is =
    let next = above_torn at gathered held torn.0 now torn.1 is.above in
    subst (λ ms. Follows at gathered ms (now ∷ past)) (sym torn.2) (record {
      above = next;
      covered = (inl (leaves_no_more at gathered torn.0 now next), is.covered);
    })

-- a piece was written to both
pub follows_written : (at place : ℕ) (piece : List ℕ) (below told : List Medium) → Follows at [] below told
    → Follows at [] (moments_after (after_write place piece) below) (moments_after (after_write place piece) told)
follows_written at place piece below [] is = record { above = tt; covered = tt }
follows_written at place piece [] (now ∷ past) is = absurd is.above
follows_written at place piece (held ∷ before) (now ∷ past) is =
    let next = above_written at place piece held now is.above in
    record {
      above = next;
      covered = (
        inl (leaves_no_more at [] (after_write place piece held) (after_write place piece now) next),
        more_cover (after_write place piece now) (now ∷ past) (held ∷ before) is.covered,
      );
    }

-- a piece that is not written yet is gathered
pub follows_kept : (at place : ℕ) (piece : List ℕ) (below told : List Medium) → Follows at [] below told
    → Follows place piece below (moments_after (after_write place piece) told)
follows_kept at place piece below [] is = record { above = tt; covered = tt }
follows_kept at place piece [] (now ∷ past) is = absurd is.above
follows_kept at place piece (held ∷ before) (now ∷ past) is = record {
  above = above_kept at place piece held now is.above;
  covered = more_cover (after_write place piece now) (now ∷ past) (held ∷ before) is.covered;
}

-- both were synced
pub follows_synced : (at : ℕ) (below told : List Medium) → Follows at [] below told
    → Follows at [] (moments_after after_sync below) (moments_after after_sync told)
follows_synced at below [] is = record { above = tt; covered = tt }
follows_synced at [] (now ∷ past) is = absurd is.above
follows_synced at (held ∷ before) (now ∷ past) is =
    let next = above_synced at held now is.above in
    record {
      above = next;
      covered = (
        inl (leaves_no_more at [] (after_sync held) (after_sync now) next),
        more_cover (after_sync now) (now ∷ past) (held ∷ before) is.covered,
      );
    }

-- ---- sizes

-- each moment has the size after a write, and after a sync
pub write_has_size : (size at : ℕ) (piece : List ℕ) (told : List Medium) → at + length piece ≤ size
    → AllByRecursion (HasSize size) told → AllByRecursion (HasSize size) (moments_after (after_write at piece) told)
write_has_size size at piece [] inside media = tt
write_has_size size at piece (now ∷ past) inside media =
    let bytes : length now.bytes ≡ size = media.0.bytes in (
      record {
        bytes = keeps_length at piece now.bytes (omega (arith, bytes, inside)) ∙ bytes;
        synced = media.0.synced;
      },
      media,
    )

pub sync_has_size : (size : ℕ) (told : List Medium) → AllByRecursion (HasSize size) told
    → AllByRecursion (HasSize size) (moments_after after_sync told)
sync_has_size size [] media = tt
sync_has_size size (now ∷ past) media = (record { bytes = media.0.bytes; synced = media.0.bytes }, media)

-- ---- what callers see

-- a write that was told is one that failed, as the trait's clause has it: any bytes may stand in its range
told_fails : (size at : ℕ) (piece : List ℕ) (told : List Medium) → at + length piece ≤ size
    → AllByRecursion (HasSize size) told → FailsToWrite at (length piece) told (moments_after (after_write at piece) told)
told_fails size at piece [] inside media = refl
told_fails size at piece (now ∷ past) inside media =
    let bytes : List ℕ = now.bytes in
    let fits : at + length piece ≤ length bytes = (let e = media.0.bytes in omega (arith, e, inside)) in
    let rest : List ℕ = drop (at + length piece) bytes in
    let front : length (take at bytes) ≡ at = length-take-le at bytes (omega (arith, fits)) in
    let both : length (take at bytes ++ piece) ≡ at + length piece = length-append (take at bytes) piece
    ∙ ap (λ n. n + length piece) front in
    inr (
      after_write at piece now,
      record {
        before = ap (take at) (append_assoc (take at bytes) piece rest) ∙ take_at (take at bytes) (piece ++ rest) at front;
        behind = drop_at (take at bytes ++ piece) rest (at + length piece) both;
        length = keeps_length at piece bytes fits;
        synced = refl;
        pending = refl;
      },
      refl,
    )

-- a write that failed below, and is gathered, is told as one that failed
pub kept_fails : (size at : ℕ) (piece : List ℕ) (old told new : List Medium) → at + length piece ≤ size
    → AllByRecursion (HasSize size) told → told ≡ old → new ≡ moments_after (after_write at piece) told
    → FailsToWrite at (length piece) old new
kept_fails size at piece old told new inside media same tells =
    subst (λ ms. FailsToWrite at (length piece) ms new) same
    (subst (FailsToWrite at (length piece) told) (sym tells) (told_fails size at piece told inside media))

-- a read that meets nothing of what is gathered gives what is told
pub reads_told : (size at : ℕ) (gathered : List ℕ) (there count : ℕ) (buf : List ℕ) (below told : List Medium)
    → at + length gathered ≤ size → AllByRecursion (HasSize size) below
    → (gathered ≡ []) ⊎ ((there + count ≤ at) ⊎ (at + length gathered ≤ there)) → Follows at gathered below told
    → HoldsNow (λ now. buf ≡ take count (drop there now.bytes)) below
    → HoldsNow (λ now. buf ≡ take count (drop there now.bytes)) told
reads_told size at gathered there count buf below [] inside media apart is read = tt
reads_told size at gathered there count buf [] (now ∷ past) inside media apart is read = absurd is.above
reads_told size at gathered there count buf (held ∷ before) (now ∷ past) inside media (inl none) is read =
    let same : with_bytes at gathered held.bytes ≡ held.bytes =
    ap (λ xs. with_bytes at xs held.bytes) none ∙ with_bytes_none at held.bytes in
    read ∙ sym (ap (bytes_at there count) (is.above.bytes ∙ same))
reads_told size at gathered there count buf (held ∷ before) (now ∷ past) inside media (inr apart) is read =
    let fits : at + length gathered ≤ length held.bytes = (let e = media.0.bytes in omega (arith, e, inside)) in
    read
    ∙ sym (keeps_other_bytes at gathered held.bytes there count fits apart)
    ∙ sym (ap (bytes_at there count) is.above.bytes)

-- what is told of a new disk is of its size
pub first_has_size : (size : ℕ) (below told : List Medium) → (told ≡ []) ⊎ (told ≡ below) → AllByRecursion (HasSize size) below
    → AllByRecursion (HasSize size) told
first_has_size size below told (inl none) media = subst (AllByRecursion (HasSize size)) (sym none) tt
first_has_size size below told (inr same) media = subst (AllByRecursion (HasSize size)) (sym same) media

-- ---- the whole of it

-- it follows the disk below
pub follows : (disk : GatheredState) → IsGathering disk → Follows disk.at disk.gathered disk.below.moments disk.told
follows disk is = record { above = is.above; covered = is.covered }

-- and gathers then
pub gathers : (disk : GatheredState) → IsDisk disk.below → disk.at + length disk.gathered ≤ disk.below.size
    → AllByRecursion (HasSize disk.below.size) disk.told → Follows disk.at disk.gathered disk.below.moments disk.told
    → IsGathering disk
gathers disk below inside media is = record {
  below = below;
  inside = inside;
  media = media;
  above = is.above;
  covered = is.covered;
}
