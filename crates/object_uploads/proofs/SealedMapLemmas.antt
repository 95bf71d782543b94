-- A copy of the objects' map, in which the objects past the frontier are settled one after the other.
use Rattle.std.proofs.Common.{◌≡◌, ℕ, zero, suc, ◌+◌, ◌<◌, ◌≤◌, Option, List, [], ◌∷◌, ◌++◌, length, take, drop, get_or}
use Rattle.std.proofs.Common.{◌-◌, ◌&&◌, Bool, true, false, cond, Some, refl}
use Rattle.std.proofs.Common.{sym, ◌∙◌, ap, subst, arith, add-one, drop-cons}
use Rattle.std.specs.Prelude.{Result, Ok, Err, IfOk}
use Rattle.std.specs.List.{sum_by}
use Rattle.std.proofs.lemmas.List.{take_more, length-take-le}
use Rattle.std.proofs.lemmas.List.Sums.{sum_by-cons}
use Rattle.std.proofs.Math.Seq.{take-length}
use Rattle.std.proofs.lemmas.Bool.Decides.{nat_tests}
use Rattle.extent_map.specs.Extents.{is_within, place_at}
use Rattle.extent_map.specs.State.{MapState}
use Rattle.volume_maps.specs.declared.place.ObjectPlace.{ObjectPlace}
use Rattle.object_format.specs.declared.copy_row.CopyRow.{CopyRow}
use Rattle.object_format.specs.declared.data_row.DataRow.{DataRow}
use Rattle.volume_maps.specs.Places.{object_on}
use Rattle.volume_maps.specs.Live.{is_live}
use Rattle.volume_maps.specs.Maps.{settled_by, settled_by_copy}
use Rattle.object_uploads.specs.declared.rows.SealedRows.{SealedRows}
use Rattle.object_uploads.specs.declared.rows.SealedRows.TheVariants.{Data, Copy, Checkpoint}
use Rattle.object_format.specs.declared.expected.Expected.{Expected}
use Rattle.object_uploads.specs.Checkpoint.{HoldsPlaces}
use Rattle.object_uploads.specs.State.{SealedState}
use Rattle.object_uploads.specs.Queue.{count_of_rows, row_count, copied_sectors, settled_by_rows, settled_by_all}
use Rattle.object_uploads.specs.Invariant.{MaySettle, AllMaySettle}

-- one more is settled
settled_push : (number : ℕ) (list : List SealedState) (last : SealedState) (before : Option ObjectPlace) (k : ℕ)
    → settled_by_all number (list ++ last ∷ []) before k
    ≡ settled_by_rows (number + length list + 1) last.rows (settled_by_all number list before k) k
settled_push number [] last before k =
    let same : number + 0 + 1 ≡ number + 1 = omega arith in
    rw same refl
settled_push number (sealed ∷ list) last before k =
    let same : number + suc (length list) + 1 ≡ number + 1 + length list + 1 = omega arith in
    rw same (settled_push (number + 1) list last (settled_by_rows (number + 1) sealed.rows before k) k)

-- the first objects past a number, as many as this, are settled in a map, which has room for the rows of the others
pub record AreSettledIn (number : ℕ) (list : List SealedState) (before : ℕ → Option ObjectPlace) (count : ℕ)
    (map : MapState ObjectPlace) : Type 0 where
  pub spare : sum_by row_count (drop count list) ≤ map.spare
  pub places : (k : ℕ) → place_at object_on map.rows k ≡ settled_by_all number (take count list) (before k) k

module _ (number : ℕ) (list : List SealedState) (before : ℕ → Option ObjectPlace) where
  pub none_in : (map : MapState ObjectPlace) → ((k : ℕ) → place_at object_on map.rows k ≡ before k)
      → sum_by row_count list ≤ map.spare → AreSettledIn number list before 0 map
  none_in map same room = record { spare = room; places = same }

  module _ (at : ℕ) (map : MapState ObjectPlace) (sealed : SealedState) (inside : at < length list)
      (is : sealed ≡ get_or list at sealed) (so_far : AreSettledIn number list before at map) where
    first_left : drop at list ≡ sealed ∷ drop (at + 1) list
    first_left = rw add-one (drop-cons list at sealed inside ∙ ap (λ s. s ∷ drop (suc at) list) (sym is))

    rows_left : sum_by row_count (drop at list) ≡ row_count sealed + sum_by row_count (drop (at + 1) list)
    rows_left = ap (sum_by row_count) first_left ∙ sum_by-cons row_count sealed (drop (at + 1) list)

    -- there is room for the next
    pub has_room : row_count sealed ≤ map.spare
    has_room = omega (arith, rows_left, so_far.spare)

    pub more_in : (new : MapState ObjectPlace)
        → ((k : ℕ) → place_at object_on new.rows k
        ≡ settled_by_rows (number + at + 1) sealed.rows (place_at object_on map.rows k) k)
        → map.spare ≤ new.spare + row_count sealed → AreSettledIn number list before (at + 1) new
    more_in new settled room =
        let size : length (take at list) ≡ at = length-take-le at list (omega arith) in
        let whole : take (at + 1) list ≡ take at list ++ sealed ∷ [] =
        take_more list at sealed inside ∙ ap (λ s. take at list ++ s ∷ []) (sym is) in
        record {
          spare = omega (arith, rows_left, so_far.spare);
          places = λ k.
              settled k
              ∙ (ap (λ b. settled_by_rows (number + at + 1) sealed.rows b k) (so_far.places k)
              ∙ (ap (λ n. settled_by_rows (number + n + 1) sealed.rows (settled_by_all number (take at list) (before k) k) k)
              (sym size)
              ∙ (sym (settled_push number (take at list) sealed (before k) k)
              ∙ ap (λ l. settled_by_all number l (before k) k) (sym whole))));
        }

  -- at the end all are
  pub all_in : (map : MapState ObjectPlace) (k : ℕ) → AreSettledIn number list before (length list) map
      → place_at object_on map.rows k ≡ settled_by_all number list (before k) k
  all_in map k so_far = so_far.places k ∙ ap (λ l. settled_by_all number l (before k) k) (take-length list)

-- each of the objects fits
pub each_fits : (list : List SealedState) (at : ℕ) (sealed : SealedState) → AllMaySettle list → at < length list
    → sealed ≡ get_or list at sealed → MaySettle sealed.rows
each_fits [] at sealed fit inside is = absurd (omega arith)
each_fits (first ∷ list) zero sealed fit inside is = subst (λ (s : SealedState). MaySettle s.rows) (sym is) fit.0
each_fits (first ∷ list) (suc at) sealed fit inside is = each_fits list at sealed fit.1 (omega arith) is

-- ---- no row is to be settled

no_rows : (number : ℕ) (rows : List DataRow) (before : Option ObjectPlace) (k : ℕ) → length rows ≡ 0
    → settled_by number rows before k ≡ before
no_rows number [] before k none = refl
no_rows number (row ∷ rows) before k none = absurd (omega arith)

-- a row of a copy without sectors changes no place
no_sectors : (test live : Bool) (own : ObjectPlace) (before : Option ObjectPlace) (row : CopyRow) (k : ℕ)
    → is_within row.lba row.sectors k ≡ test → row.sectors ≡ 0 → cond (test && live) (Some own) before ≡ before
no_sectors true live own before row k within none = absurd (grind (arith, nat_tests))
no_sectors false live own before row k within none = refl

no_copies : (number : ℕ) (rows : List CopyRow) (before : Option ObjectPlace) (k : ℕ) → copied_sectors rows ≡ 0
    → settled_by_copy number rows before k ≡ before
no_copies number [] before k none = refl
no_copies number (row ∷ rows) before k none =
    let sum = sum_by-cons (λ (r : CopyRow). r.sectors) row rows in
    ap (λ b. settled_by_copy number rows b k)
    (no_sectors (is_within row.lba row.sectors k) (is_live row.source.number before)
    (record { level = 0; number = number; sector = row.place + (k - row.lba) }) before row k refl (omega (arith, sum)))
    ∙ no_copies number rows before k (omega (arith, sum))

none_of : (number : ℕ) (rows : SealedRows) (before : Option ObjectPlace) (k : ℕ) → count_of_rows rows ≡ 0
    → settled_by_rows number rows before k ≡ before
none_of number (Data list) before k none = no_rows number list.items before k none
none_of number (Copy list) before k none = no_copies number list.items before k none
none_of number Checkpoint before k none = refl

-- the places stay as they are
pub stays_settled : (number : ℕ) (list : List SealedState) (before : Option ObjectPlace) (k : ℕ)
    → sum_by row_count list ≡ 0 → settled_by_all number list before k ≡ before
stays_settled number [] before k none = refl
stays_settled number (sealed ∷ list) before k none =
    let sum = sum_by-cons row_count sealed list in
    ap (λ b. settled_by_all (number + 1) list b k) (none_of (number + 1) sealed.rows before k (omega (arith, sum)))
    ∙ stays_settled (number + 1) list before k (omega (arith, sum))

-- a checkpoint that was made of places holds those that are the same
pub holds_same : {E : Type 0} (made : Result (List ℕ) E) (expected : Expected) (end : ℕ) (places other : ℕ → Option ObjectPlace)
    → ((k : ℕ) → places k ≡ other k) → IfOk made (λ bytes. HoldsPlaces bytes expected end places)
    → IfOk made (λ bytes. HoldsPlaces bytes expected end other)
holds_same (Ok bytes) expected end places other same holds = record {
  rows = holds.rows;
  is_checkpoint = holds.is_checkpoint;
  same = λ k. holds.same k ∙ same k;
}
holds_same (Err error) expected end places other same holds = tt
