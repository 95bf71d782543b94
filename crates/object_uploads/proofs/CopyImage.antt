-- The copies past the frontier go on to have the sectors of the image: an object up to the frontier never gains one.
use Rattle.std.proofs.Common.{◌≡◌, ℕ, zero, suc, ◌+◌, ◌≤◌, ◌==◌, cond, Bool, true, false, Option, Some, None, List, [], ◌∷◌}
use Rattle.std.proofs.Common.{◌++◌, drop, sym, subst, arith}
use Rattle.std.specs.Prelude.{IsTrue}
use Rattle.std.specs.List.{AllByRecursion, slice_get}
use Rattle.std.proofs.lemmas.Bool.Decides.{nat_tests}
use Rattle.extent_map.specs.declared.extent.Extent.{Extent}
use Rattle.extent_map.specs.Extents.{place_at}
use Rattle.lsvd_base.specs.Image.{Image}
use Rattle.object_format.specs.declared.copy_row.CopyRow.{CopyRow}
use Rattle.object_stream.specs.declared.change.Change.{Change}
use Rattle.object_stream.specs.declared.change.Change.TheVariants.{Put, Clear}
use Rattle.object_stream.specs.Laws.{changed_by}
use Rattle.volume_maps.specs.declared.place.ObjectPlace.{ObjectPlace}
use Rattle.volume_maps.specs.Places.{object_on}
use Rattle.volume_maps.specs.Live.{is_live}
use Rattle.volume_maps.specs.Maps.{MapsState, settled_at}
use Rattle.volume_maps.specs.Laws.{IsPlacedBy}
use Rattle.object_uploads.specs.declared.rows.SealedRows.{SealedRows}
use Rattle.object_uploads.specs.declared.rows.SealedRows.TheVariants as sealed_rows
use Rattle.object_uploads.specs.State.{SealedState, QueueState}
use Rattle.object_uploads.specs.Queue.{with_at}
use Rattle.object_uploads.specs.Image.{IsCopied, IsCopiedIfCopy, AreCopied}

-- ---- facts of each of some objects

pub all_with : (P : SealedState → Type 0) (index : ℕ) (change : SealedState → SealedState) (list : List SealedState)
    → ((s : SealedState) → P s → P (change s)) → AllByRecursion P list → AllByRecursion P (with_at index change list)
all_with P index change [] still all = tt
all_with P zero change (first ∷ more) still all = (still first all.0, all.1)
all_with P (suc index) change (first ∷ more) still all = (all.0, all_with P index change more still all.1)

pub all_more : (P : SealedState → Type 0) (list : List SealedState) (last : SealedState) → P last → AllByRecursion P list
    → AllByRecursion P (list ++ last ∷ [])
all_more P [] last is all = (is, tt)
all_more P (first ∷ list) last is all = (all.0, all_more P list last is all.1)

pub all_left : (P : SealedState → Type 0) (count : ℕ) (list : List SealedState) → AllByRecursion P list
    → AllByRecursion P (drop count list)
all_left P zero list all = all
all_left P (suc count) [] all = tt
all_left P (suc count) (first ∷ list) all = all_left P count list all.1

-- ---- copies

-- a sealed object has its sectors from objects up to a frontier, if it is a copy
abbrev pub CopiedOf : (tells : Bool) → Image → (frontier : ℕ) → MapsState → SealedState → Type 0
CopiedOf tells image frontier maps sealed = IsCopiedIfCopy tells image frontier maps sealed.bytes sealed.rows

-- A sector that is in an object up to a frontier was there before, and the image had it then.
abbrev pub WasThere : (frontier : ℕ) (before now : MapsState) (image after : Image) → Type 0
WasThere frontier before now image after =
    (k source : ℕ) (sector : List ℕ) → source ≤ frontier → IsTrue (is_live source (settled_at now k))
    → slice_get after k ≡ Some sector
    → IsTrue (is_live source (settled_at before k)) × (slice_get image k ≡ Some sector)

module _ (tells : Bool) (frontier later : ℕ) (before now : MapsState) (image after : Image) (order : frontier ≤ later)
    (was : WasThere frontier before now image after) where
  copy_stays : (bytes : List ℕ) (rows : List CopyRow) → IsCopied tells image frontier before bytes rows
      → IsCopied tells after later now bytes rows
  copy_stays bytes rows copied = record {
    sources = λ k source at. omega (arith, order, copied.sources k source at);
    sectors = λ told k source sector at live held.
        let there = was k source sector (copied.sources k source at) live held in
        copied.sectors told k source sector at there.0 there.1;
  }

  rows_stay : (bytes : List ℕ) (rows : SealedRows) → IsCopiedIfCopy tells image frontier before bytes rows
      → IsCopiedIfCopy tells after later now bytes rows
  rows_stay bytes (sealed_rows.Data list) copied = tt
  rows_stay bytes (sealed_rows.Copy list) copied = copy_stays bytes list.items copied
  rows_stay bytes sealed_rows.Checkpoint copied = tt

  pub copies_stay : (list : List SealedState) → AllByRecursion (CopiedOf tells image frontier before) list
      → AllByRecursion (CopiedOf tells after later now) list
  copies_stay [] copied = tt
  copies_stay (first ∷ list) copied = (rows_stay first.bytes first.rows copied.0, copies_stay list copied.1)

-- while the frontier and the places stay
pub same_places : (frontier : ℕ) (before now : MapsState) (image : Image) → now.settled.rows ≡ before.settled.rows
    → WasThere frontier before now image image
same_places frontier before now image same k source sector low live held =
    (subst (λ (rows : List (Extent ObjectPlace)). IsTrue (is_live source (place_at object_on rows k))) same live, held)

pub copies_same : (tells : Bool) (image : Image) (old new : QueueState) → new.frontier ≡ old.frontier
    → new.maps.settled.rows ≡ old.maps.settled.rows → (list : List SealedState)
    → AllByRecursion (CopiedOf tells image old.frontier old.maps) list
    → AllByRecursion (CopiedOf tells image new.frontier new.maps) list
copies_same tells image old new frontier settled list copied =
    copies_stay tells old.frontier new.frontier old.maps new.maps image image (omega (arith, frontier))
    (same_places old.frontier old.maps new.maps image settled) list copied

pub are_copied_same : (tells : Bool) (image : Image) (old new : QueueState) → new.frontier ≡ old.frontier
    → new.maps.settled.rows ≡ old.maps.settled.rows → new.sealed ≡ old.sealed → AreCopied tells image old
    → AreCopied tells image new
are_copied_same tells image old new frontier settled sealed copied =
    subst (AllByRecursion (CopiedOf tells image new.frontier new.maps)) (sym sealed)
    (copies_same tells image old new frontier settled old.sealed copied)

-- ---- while the next object is settled

-- a sector in the next object is in none up to the frontier
not_in_next : (frontier source sector : ℕ) → source ≤ frontier
    → IsTrue (is_live source (Some (record { level = 0; number = frontier + 1; sector = sector }))) → ⊥
not_in_next frontier source sector low live =
    let apart : (frontier + 1 == source) ≡ false = grind (arith, nat_tests) in
    let bad : false ≡ true = rw apart at live in
    absurd cc

-- what a data object's entries did to a sector that is in another object
pub was_there_by_change : (frontier source : ℕ) (payload : List ℕ) (change : Option Change) (before now : Option ObjectPlace)
    (held : Option (List ℕ)) (sector : List ℕ) → source ≤ frontier → IsPlacedBy (frontier + 1) payload change before now
    → IsTrue (is_live source now) → changed_by change held ≡ Some sector
    → IsTrue (is_live source before) × (held ≡ Some sector)
was_there_by_change frontier source payload None before now held sector low placed live made =
    (subst (λ p. IsTrue (is_live source p)) placed live, made)
was_there_by_change frontier source payload (Some Clear) before now held sector low placed live made =
    let bad : false ≡ true = subst (λ p. IsTrue (is_live source p)) placed live in
    absurd cc
was_there_by_change frontier source payload (Some (Put put)) before now held sector low placed live made =
    absurd (not_in_next frontier source placed.0 low (subst (λ p. IsTrue (is_live source p)) placed.1 live))

-- and a copy
pub was_there_by_copy : (test : Bool) (frontier source sector : ℕ) (before : Option ObjectPlace) → source ≤ frontier
    → IsTrue (is_live source (cond test (Some (record { level = 0; number = frontier + 1; sector = sector })) before))
    → IsTrue (is_live source before)
was_there_by_copy true frontier source sector before low live = absurd (not_in_next frontier source sector low live)
was_there_by_copy false frontier source sector before low live = live
