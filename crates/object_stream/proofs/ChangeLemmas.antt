-- What entries do to a sector, part by part and in an image.
use Rattle.std.proofs.Common.{◌≡◌, ℕ, suc, ◌+◌, ◌-◌, ◌/◌, ◌<◌, ◌≤◌, ◌⊎◌, inl, inr, cond, Option, Some, None, List, [], ◌∷◌}
use Rattle.std.proofs.Common.{length, refl, sym, ◌∙◌, ap, arith}
use Rattle.std.proofs.lemmas.Bool.{cases_lt}
use Rattle.std.specs.List.{slice_get}
use Rattle.lsvd_base.specs.declared.entry.Entry.{Entry}
use Rattle.lsvd_base.specs.declared.entry.Entry.TheVariants.{Write, Zero}
use Rattle.lsvd_base.specs.Image.{Image, apply}
use Rattle.lsvd_base.specs.Laws.{EndsBy, first_sector, sector_count}
use Rattle.lsvd_base.proofs.SectorLemmas.{keeps_count, keeps_others, writes_data, writes_zeros}
use Rattle.extent_map.proofs.Places.{within, not_below, not_past}
use Rattle.object_stream.specs.declared.change.Change.{Change}
use Rattle.object_stream.specs.declared.change.Change.TheVariants.{Put, Clear}
use Rattle.object_stream.specs.Changes.{sector_of, entry_change, change_at}
use Rattle.std.specs.Option.{option_or}
use Rattle.object_stream.specs.Laws.{ChangesInParts, ChangesMakeImage, changed_by}

-- ---- in parts

none_before : (change : Option Change) → option_or change None ≡ change
none_before None = refl
none_before (Some change) = refl

three_parts : (a b c : Option Change) → option_or (option_or a b) c ≡ option_or a (option_or b c)
three_parts None b c = refl
three_parts (Some a) b c = refl

pub changes_in_parts : ChangesInParts
changes_in_parts [] later k = sym (none_before (change_at later k))
changes_in_parts (entry ∷ entries) later k =
    ap (λ change. option_or change (entry_change entry k)) (changes_in_parts entries later k)
    ∙ three_parts (change_at later k) (change_at entries k) (entry_change entry k)

-- ---- in an image

-- what an entry does to a sector that it covers, and to another
abbrev by_entry : Entry → ℕ → Option Change
by_entry (Write lba body) k = Some (Put (sector_of (k - lba) body))
by_entry (Zero lba sectors) k = Some Clear

covered : (entry : Entry) (k : ℕ) → first_sector entry ≤ k → k < first_sector entry + sector_count entry
    → entry_change entry k ≡ by_entry entry k
covered (Write lba body) k from low = ap (λ b. cond b (Some (Put (sector_of (k - lba) body))) None)
    (within lba (length body / 512) k from low)
covered (Zero lba sectors) k from low = ap (λ b. cond b (Some Clear) None) (within lba sectors k from low)

below : (entry : Entry) (k : ℕ) → k < first_sector entry → entry_change entry k ≡ None
below (Write lba body) k low = ap (λ b. cond b (Some (Put (sector_of (k - lba) body))) None)
    (not_below lba (length body / 512) k low)
below (Zero lba sectors) k low = ap (λ b. cond b (Some Clear) None) (not_below lba sectors k low)

past : (entry : Entry) (k : ℕ) → first_sector entry + sector_count entry ≤ k → entry_change entry k ≡ None
past (Write lba body) k high = ap (λ b. cond b (Some (Put (sector_of (k - lba) body))) None)
    (not_past lba (length body / 512) k high)
past (Zero lba sectors) k high = ap (λ b. cond b (Some Clear) None) (not_past lba sectors k high)

-- a sector that an entry covers is as the entry makes it
applied_inside : (entry : Entry) (image : Image) (k : ℕ) → EndsBy (length image) entry
    → first_sector entry ≤ k → k < first_sector entry + sector_count entry
    → slice_get (apply entry image) k ≡ changed_by (by_entry entry k) (slice_get image k)
applied_inside (Write lba body) image k ends from low =
    let place : lba + (k - lba) ≡ k = omega arith in
    ap (λ j. slice_get (apply (Write lba body) image) j) (sym place) ∙ writes_data lba body image (k - lba) ends (omega arith)
applied_inside (Zero lba sectors) image k ends from low =
    let place : lba + (k - lba) ≡ k = omega arith in
    ap (λ j. slice_get (apply (Zero lba sectors) image) j) (sym place)
    ∙ writes_zeros lba sectors image (k - lba) ends (omega arith)

-- a sector after an entry
applied : (entry : Entry) (image : Image) (k : ℕ) → EndsBy (length image) entry
    → slice_get (apply entry image) k ≡ changed_by (entry_change entry k) (slice_get image k)
applied entry image k ends =
    let same =
    λ (no : entry_change entry k ≡ None) (apart : (k < first_sector entry) ⊎ (first_sector entry + sector_count entry ≤ k)).
    keeps_others entry image k ends apart ∙ sym (ap (λ change. changed_by change (slice_get image k)) no) in
    elim (cases_lt k (first_sector entry)) [
      | inl low ↦ same (below entry k low) (inl low)
      | inr from ↦ elim (cases_lt k (first_sector entry + sector_count entry)) [
        | inl low ↦ applied_inside entry image k ends from low
            ∙ sym (ap (λ change. changed_by change (slice_get image k)) (covered entry k from low))
        | inr high ↦ same (past entry k high) (inr high)
      ]
    ]

later_change : (later earlier : Option Change) (sector : Option (List ℕ))
    → changed_by later (changed_by earlier sector) ≡ changed_by (option_or later earlier) sector
later_change None earlier sector = refl
later_change (Some (Put bytes)) earlier sector = refl
later_change (Some Clear) earlier sector = refl

pub changes_make_image : ChangesMakeImage
changes_make_image image [] k ends inside = refl
changes_make_image image (entry ∷ entries) k ends inside =
    let first : EndsBy (length image) entry = ends 0 entry (omega arith) in
    let count : length (apply entry image) ≡ length image = keeps_count entry image first in
    changes_make_image (apply entry image) entries k (λ i x at. rw count (ends (suc i) x (omega arith))) (omega arith)
    ∙ (ap (changed_by (change_at entries k)) (applied entry image k first)
    ∙ later_change (change_at entries k) (entry_change entry k) (slice_get image k))
