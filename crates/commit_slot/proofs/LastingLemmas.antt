-- What stands in a range of a device, over writes and syncs.
use Rattle.std.proofs.Common.{◌≡◌, ℕ, ◌+◌, ◌-◌, ◌<◌, ◌≤◌, ◌⊎◌, List, ◌∷◌, length, take, drop, get_or, refl, sym, ◌∙◌, ap, subst}
use Rattle.std.proofs.Common.{inl, inr, arith}
use Rattle.std.specs.List.{All}
use Rattle.std.proofs.lemmas.List.{ext_get_or, drop-drop, drop-take, take-take, length-take-le, length-drop, get_or-take}
use Rattle.std.proofs.lemmas.List.{get_or-drop}
use Rattle.std.proofs.lemmas.List.Elements.{All-cons, All-nil}
use Rattle.lsvd_bytes.specs.Places.{with_bytes, bytes_at}
use Rattle.lsvd_bytes.proofs.PlaceLemmas.{keeps_other_bytes}
use Rattle.lsvd_device.specs.Medium.{Medium, Span, LiesOutside, MayLeave, after_write, after_sync, IsTorn}
use Rattle.commit_slot.specs.Lasting.{MayStandAt, Lasts}

-- this many bytes from a place on end before others, or begin after them
abbrev pub Apart : (at count there many : ℕ) → Type 0
Apart at count there many = (there + many ≤ at) ⊎ (at + count ≤ there)

-- a part of the bytes before a place
pub part_before : (there many at : ℕ) (bytes : List ℕ) → there + many ≤ at
    → bytes_at there many bytes ≡ bytes_at there many (take at bytes)
part_before there many at bytes before =
    sym (drop-take there many bytes)
    ∙ ap (drop there) (sym (take-take (there + many) at bytes before))
    ∙ drop-take there many (take at bytes)

-- a part of the bytes after one
part_past : (there many at : ℕ) (bytes : List ℕ) → at ≤ there
    → bytes_at there many bytes ≡ bytes_at (there - at) many (drop at bytes)
part_past there many at bytes log_area =
    let e : at + (there - at) ≡ there = omega (arith, log_area) in
    ap (λ n. take many (drop n bytes)) (sym e) ∙ ap (take many) (sym (drop-drop (there - at) at bytes))

-- what a write that failed keeps
torn_keeps : (at count there many : ℕ) (old new : Medium) → Apart at count there many → IsTorn at count old new
    → bytes_at there many new.bytes ≡ bytes_at there many old.bytes
torn_keeps at count there many old new (inl before) torn =
    part_before there many at new.bytes before ∙ ap (bytes_at there many) torn.before
    ∙ sym (part_before there many at old.bytes before)
torn_keeps at count there many old new (inr log_area) torn =
    part_past there many (at + count) new.bytes log_area
    ∙ ap (bytes_at (there - (at + count)) many) torn.behind
    ∙ sym (part_past there many (at + count) old.bytes log_area)

-- a byte of a range lies outside those apart from it
outside : (at count there many i : ℕ) → Apart at count there many → i < many
    → LiesOutside (there + i) (record { at = at; count = count })
outside at count there many i (inl before) inside = inl (omega (arith, before, inside))
outside at count there many i (inr log_area) inside = inr (omega (arith, log_area))

-- one range more that was written apart from some bytes leaves them no other
fewer : (at count there many : ℕ) (old new : Medium) (bytes : List ℕ) → Apart at count there many → new.synced ≡ old.synced
    → new.pending ≡ record { at = at; count = count } ∷ old.pending
    → MayStandAt there many new bytes → MayStandAt there many old bytes
fewer at count there many old new bytes apart synced pending may = record {
  length = may.length;
  elsewhere = λ i inside all.
      let P : List Span → Type 0 = λ spans. All (LiesOutside (there + i)) spans in
      let more : P (record { at = at; count = count } ∷ old.pending) =
      All-cons (LiesOutside (there + i)) (record { at = at; count = count }) old.pending
      (outside at count there many i apart inside) all in
      may.elsewhere i inside (subst P (sym pending) more) ∙ ap (λ xs. get_or xs (there + i) 0) synced;
}

-- bytes apart from a write are as before
pub still_there : (at : ℕ) (piece bytes : List ℕ) (there many : ℕ) → at + length piece ≤ length bytes
    → Apart at (length piece) there many
    → bytes_at there many (with_bytes at piece bytes) ≡ bytes_at there many bytes
still_there at piece bytes there many within apart = keeps_other_bytes at piece bytes there many within apart

pub lasts_write : (at : ℕ) (piece : List ℕ) (there many : ℕ) (P : List ℕ → Type 0) (medium : Medium)
    → at + length piece ≤ length medium.bytes → Apart at (length piece) there many
    → Lasts there many P medium → Lasts there many P (after_write at piece medium)
lasts_write at piece there many P medium within apart lasts = record {
  now = subst P (sym (still_there at piece medium.bytes there many within apart)) lasts.now;
  left = λ bytes may. lasts.left bytes (fewer at (length piece) there many medium (after_write at piece medium) bytes apart
      refl refl may);
}

pub lasts_torn : (at count there many : ℕ) (P : List ℕ → Type 0) (old new : Medium) → Apart at count there many
    → IsTorn at count old new → Lasts there many P old → Lasts there many P new
lasts_torn at count there many P old new apart torn lasts = record {
  now = subst P (sym (torn_keeps at count there many old new apart torn)) lasts.now;
  left = λ bytes may. lasts.left bytes (fewer at count there many old new bytes apart torn.synced torn.pending may);
}

-- a byte of a range
byte_at : (at count i : ℕ) (bytes : List ℕ) → i < count → get_or (bytes_at at count bytes) i 0 ≡ get_or bytes (at + i) 0
byte_at at count i bytes inside = get_or-take count (drop at bytes) i 0 inside ∙ get_or-drop at bytes i 0

-- there are this many
bytes_there : (at count : ℕ) (bytes : List ℕ) → at + count ≤ length bytes → length (bytes_at at count bytes) ≡ count
bytes_there at count bytes within = length-take-le count (drop at bytes) (let e = length-drop at bytes in
    omega (arith, e, within))

-- what stands there at a sync lasts
pub lasts_sync : (at count : ℕ) (P : List ℕ → Type 0) (medium : Medium) → at + count ≤ length medium.bytes
    → P (bytes_at at count medium.bytes)
    → Lasts at count P (after_sync medium)
lasts_sync at count P medium within holds = record {
  now = holds;
  left = λ bytes may.
      let size : length (bytes_at at count medium.bytes) ≡ length bytes = bytes_there at count medium.bytes within
      ∙ sym may.length in
      let same : bytes_at at count medium.bytes ≡ bytes =
      ext_get_or 0 (bytes_at at count medium.bytes) bytes size
      (λ i less. let inside : i < count = (let e = may.length in omega (arith, e, less, size)) in
      byte_at at count i medium.bytes inside ∙ sym (may.elsewhere i inside (All-nil (LiesOutside (at + i))))) in
      subst P same holds;
}

-- what lasts is there whenever the device stops
pub lasts_left : (at count : ℕ) (P : List ℕ → Type 0) (medium : Medium) (left : List ℕ) → at + count ≤ length medium.synced
    → Lasts at count P medium → MayLeave medium left
    → P (bytes_at at count left)
lasts_left at count P medium left within lasts may =
    lasts.left (bytes_at at count left) (record {
      length = bytes_there at count left (let e = may.count in omega (arith, e, within));
      elsewhere = λ i inside all. byte_at at count i left inside ∙ may.elsewhere (at + i) all;
    })

-- what follows from what lasts lasts
pub lasts_as : (at count : ℕ) (P Q : List ℕ → Type 0) (medium : Medium) → ((bytes : List ℕ) → P bytes → Q bytes)
    → Lasts at count P medium → Lasts at count Q medium
lasts_as at count P Q medium follows lasts = record {
  now = follows _ lasts.now;
  left = λ bytes may. follows bytes (lasts.left bytes may);
}
