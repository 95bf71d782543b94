-- The sectors of an image, one by one, before and after an entry.
use Rattle.std.proofs.Common.{◌≡◌, ℕ, zero, suc, ◌+◌, ◌-◌, ◌*◌, ◌/◌, ◌<◌, ◌≤◌, ◌⊎◌, inl, inr, Some, List, [], ◌∷◌, ◌++◌, length}
use Rattle.std.proofs.Common.{take, drop, replicate, get_or, refl, sym, ◌∙◌, ap, arith, length-append}
use Rattle.std.proofs.lemmas.Bool.{cases_lt}
use Rattle.std.proofs.lemmas.List.{length-take-le, length-replicate, get_or_append_left, get_or-append_right, get_or-take}
use Rattle.std.proofs.lemmas.List.{get_or-drop, get_or-replicate, drop-drop}
use Rattle.std.proofs.lemmas.Option.{slice_get_past, slice_get-get_or}
use Rattle.std.specs.List.{slice_get}
use Rattle.lsvd_base.specs.declared.entry.Entry.TheVariants.{Write, Zero}
use Rattle.lsvd_base.specs.Image.{Image, zero_sector, cut_into_sectors, overwritten, apply}
use Rattle.lsvd_base.specs.Laws.{KeepsCount, KeepsOtherSectors, WritesData, WritesZeros, AppliesInParts}
use Rattle.lsvd_base.proofs.ImageLemmas.{length-overwritten, length-cut}

-- the sectors below those that were put, among them and above them
get_or-overwritten_below : (lba k : ℕ) (sectors image : Image) (d : List ℕ) → lba ≤ length image → k < lba
    → get_or (overwritten lba sectors image) k d ≡ get_or image k d
get_or-overwritten_below lba k sectors image d inside h =
    let size : length (take lba image) ≡ lba = length-take-le lba image inside in
    get_or_append_left (take lba image ++ sectors) (drop (lba + length sectors) image) d k
    (omega (arith, length-append (take lba image) sectors))
    ∙ (get_or_append_left (take lba image) sectors d k (omega arith) ∙ get_or-take lba image k d h)

get_or-overwritten_in : (lba i : ℕ) (sectors image : Image) (d : List ℕ) → lba ≤ length image → i < length sectors
    → get_or (overwritten lba sectors image) (lba + i) d ≡ get_or sectors i d
get_or-overwritten_in lba i sectors image d inside h =
    let size : length (take lba image) ≡ lba = length-take-le lba image inside in
    let place : lba + i - lba ≡ i = omega arith in
    get_or_append_left (take lba image ++ sectors) (drop (lba + length sectors) image) d (lba + i)
    (omega (arith, length-append (take lba image) sectors))
    ∙ (get_or-append_right (take lba image) sectors lba (lba + i) d size (omega arith) ∙ ap (λ j. get_or sectors j d) place)

get_or-overwritten_above : (lba k : ℕ) (sectors image : Image) (d : List ℕ) → lba ≤ length image → lba + length sectors ≤ k
    → get_or (overwritten lba sectors image) k d ≡ get_or image k d
get_or-overwritten_above lba k sectors image d inside h =
    let end = lba + length sectors in
    let size : length (take lba image ++ sectors) ≡ end = length-append (take lba image) sectors
    ∙ ap (λ n. n + length sectors) (length-take-le lba image inside) in
    let place : end + (k - end) ≡ k = omega arith in
    get_or-append_right (take lba image ++ sectors) (drop end image) end k d size h
    ∙ (get_or-drop end image (k - end) d ∙ ap (λ j. get_or image j d) place)

-- the sectors that were not put are as before
others : (lba k : ℕ) (sectors image : Image) → lba + length sectors ≤ length image → (k < lba) ⊎ (lba + length sectors ≤ k)
    → slice_get (overwritten lba sectors image) k ≡ slice_get image k
others lba k sectors image inside apart =
    let count : length (overwritten lba sectors image) ≡ length image = length-overwritten lba sectors image inside in
    let same : get_or (overwritten lba sectors image) k [] ≡ get_or image k [] =
    elim apart [
      | inl h ↦ get_or-overwritten_below lba k sectors image [] (omega arith) h
      | inr h ↦ get_or-overwritten_above lba k sectors image [] (omega arith) h
    ] in
    elim (cases_lt k (length image)) [
      | inl h ↦ slice_get-get_or (overwritten lba sectors image) k [] (omega arith)
          ∙ (ap Some same ∙ sym (slice_get-get_or image k [] h))
      | inr h ↦ slice_get_past (overwritten lba sectors image) k (omega arith) ∙ sym (slice_get_past image k h)
    ]

-- and those that were put stand there
put : (lba i : ℕ) (sectors image : Image) (d : List ℕ) → lba + length sectors ≤ length image → i < length sectors
    → slice_get (overwritten lba sectors image) (lba + i) ≡ Some (get_or sectors i d)
put lba i sectors image d inside h =
    let count : length (overwritten lba sectors image) ≡ length image = length-overwritten lba sectors image inside in
    slice_get-get_or (overwritten lba sectors image) (lba + i) d (omega arith)
    ∙ ap Some (get_or-overwritten_in lba i sectors image d (omega arith) h)

-- each sector of bytes that were cut is the next 512 of them
get_or-cut : (count i : ℕ) (bytes d : List ℕ) → i < count → get_or (cut_into_sectors count bytes) i d
    ≡ take 512 (drop (512 * i) bytes)
unfolding cut_into_sectors
get_or-cut zero i bytes d h = absurd (omega arith)
get_or-cut (suc count) zero bytes d h = refl
get_or-cut (suc count) (suc i) bytes d h =
    let size : 512 + 512 * i ≡ 512 * suc i = omega arith in
    get_or-cut count i (drop 512 bytes) d (omega arith)
    ∙ ap (take 512) (drop-drop (512 * i) 512 bytes ∙ ap (λ n. drop n bytes) size)

pub keeps_count : KeepsCount
keeps_count (Write lba body) image h =
    length-overwritten lba (cut_into_sectors (length body / 512) body) image (omega (arith, length-cut (length body / 512) body))
keeps_count (Zero lba sectors) image h =
    length-overwritten lba (replicate sectors zero_sector) image (omega (arith, length-replicate sectors zero_sector))

pub keeps_others : KeepsOtherSectors
keeps_others (Write lba body) image k h apart =
    let count = length body / 512 in
    let size : length (cut_into_sectors count body) ≡ count = length-cut count body in
    others lba k (cut_into_sectors count body) image (omega arith) (elim apart [ inl l ↦ inl l | inr l ↦ inr (omega arith) ])
keeps_others (Zero lba sectors) image k h apart =
    let size : length (replicate sectors zero_sector) ≡ sectors = length-replicate sectors zero_sector in
    others lba k (replicate sectors zero_sector) image (omega arith) (elim apart [ inl l ↦ inl l | inr l ↦ inr (omega arith) ])

pub writes_data : WritesData
writes_data lba body image i inside h =
    let count = length body / 512 in
    let size : length (cut_into_sectors count body) ≡ count = length-cut count body in
    put lba i (cut_into_sectors count body) image [] (omega arith) (omega arith) ∙ ap Some (get_or-cut count i body [] h)

pub writes_zeros : WritesZeros
writes_zeros lba sectors image i inside h =
    let size : length (replicate sectors zero_sector) ≡ sectors = length-replicate sectors zero_sector in
    put lba i (replicate sectors zero_sector) image [] (omega arith) (omega arith)
    ∙ ap Some (get_or-replicate sectors i zero_sector [] h)

pub applies_in_parts : AppliesInParts
applies_in_parts image [] more = refl
applies_in_parts image (entry ∷ entries) more = applies_in_parts (apply entry image) entries more
