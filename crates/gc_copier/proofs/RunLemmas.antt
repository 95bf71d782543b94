-- Runs: how they grow, and what is read with them.
use Rattle.std.proofs.Common.{◌≡◌, ℕ, ◌+◌, ◌-◌, ◌*◌, ◌<◌, ◌≤◌, List, [], ◌∷◌, length, take, drop, get_or}
use Rattle.std.proofs.Common.{refl, sym, ◌∙◌, ap, subst, arith}
use Rattle.std.specs.Prelude.{IfSome}
use Rattle.std.specs.List.{All}
use Rattle.std.proofs.lemmas.List.{take-take, drop-take, drop-drop, length-take-le, length-drop, get_or-take}
use Rattle.std.proofs.lemmas.List.Elements.{All-nil, All-head, All-tail, All-weaker, All-more, All-take}
use Rattle.std.proofs.lemmas.Option.{IfSome_then}
use Rattle.lsvd_bytes.specs.Places.{bytes_at, with_bytes}
use Rattle.object_format.specs.declared.copy_row.Source.{Source}
use Rattle.object_format.specs.declared.copy_row.CopyRow.{CopyRow}
use Rattle.gc_copier.specs.declared.runs.Run.{Run}
use Rattle.gc_copier.specs.Plan.{SourceState}
use Rattle.gc_copier.specs.Copying.{AreTold}
use Rattle.gc_copier.specs.Runs.{IsInRun, IsLonger, IsRun, IsPartOf, spread_over, AreWritten}

-- ---- a run grows

-- a run of no rows
pub run_of_none : (first : Source) (rows : List CopyRow) → IsRun first rows (record { rows = 0; sectors = 0 })
run_of_none first rows = record {
  count = omega arith;
  most = omega arith;
  has = All-nil (IsInRun first 0);
  reach = λ end from all. omega (arith, from);
}

-- a row that lies in a run lies in a longer one
in_longer : (first : Source) (sectors more : ℕ) (row : CopyRow) → sectors ≤ more → IsInRun first sectors row
    → IsInRun first more row
in_longer first sectors more row longer has = record {
  number = has.number;
  from = has.from;
  to = (let to = has.to in omega (arith, to, longer));
}

-- a run with one more row
pub run_with : (first : Source) (rows : List CopyRow) (run : Run) (index : ℕ) (d : CopyRow) (more : ℕ) → run.rows ≡ index
    → index < length rows → IsLonger first run.sectors (get_or rows index d) more → IsRun first rows run
    → IsRun first rows (record { rows = run.rows + 1; sectors = more })
run_with first rows run index d more count inside longer before =
    let sum = longer.is in
    let grows : run.sectors ≤ more = omega (arith, sum) in
    let next = run.rows + 1 in
    let here : run.rows < length rows = omega (arith, count, inside) in
    let P : CopyRow → Type 0 = IsInRun first more in
    record {
      count = omega (arith, here);
      most = longer.most;
      has = All-more P rows run.rows d here
          (All-weaker (IsInRun first run.sectors) P (λ other has. in_longer first run.sectors more other grows has)
          (take run.rows rows) before.has)
          (subst (λ n. P (get_or rows n d)) (sym count) longer.has);
      reach = λ end from all.
          let Q : CopyRow → Type 0 = λ (other : CopyRow). other.source.place + other.sectors ≤ end in
          let size : length (take next rows) ≡ next = length-take-le next rows (omega (arith, here)) in
          let ends : Q (get_or rows index d) =
          subst (λ n. Q (get_or rows n d)) count
          (subst Q (get_or-take next rows run.rows d (omega arith)) (all run.rows d (omega (arith, size)))) in
          let front : All Q (take run.rows rows) =
          subst (All Q) (take-take run.rows next rows (omega arith)) (All-take Q run.rows (take next rows) all) in
          let far = before.reach end from front in
          let low = longer.has.from in
          omega (arith, sum, ends, far, low);
    }

-- ---- what is read with a run

-- some bytes of a part, which begins at a byte, are bytes of the whole
part_of_part : (at n m k : ℕ) (bytes : List ℕ) → k + m ≤ n → take m (drop k (take n (drop at bytes)))
    ≡ take m (drop (at + k) bytes)
part_of_part at n m k bytes inside =
    let rest = drop at bytes in
    let whole : k + (n - k) ≡ n = omega (arith, inside) in
    ap (λ size. take m (drop k (take size rest))) (sym whole)
    ∙ ap (take m) (drop-take k (n - k) rest)
    ∙ take-take m (n - k) (drop k rest) (omega (arith, inside))
    ∙ ap (take m) (drop-drop k at bytes)

module _ (source : SourceState) (place : ℕ) (piece : List ℕ) where
  -- the data of a row in a piece of its source
  told_in_piece : (row : CopyRow)
      → IfSome source.receipt.told (λ told. piece ≡ bytes_at (512 * (source.front + place)) (length piece) told)
      → IsPartOf place (length piece) row
      → AreTold source row (bytes_at (512 * (row.source.place - place)) (512 * row.sectors) piece)
  told_in_piece row told part =
      let from = part.from in
      let to = part.to in
      let at = 512 * (source.front + place) in
      let further = 512 * (row.source.place - place) in
      let there : at + further ≡ 512 * (source.front + row.source.place) = omega (arith, from) in
      IfSome_then source.receipt.told told (λ bytes is.
      ap (λ xs. bytes_at further (512 * row.sectors) xs) is
      ∙ part_of_part at (length piece) (512 * row.sectors) further bytes (omega (arith, to))
      ∙ ap (λ n. bytes_at n (512 * row.sectors) bytes) there)

  -- rows whose data are spread from a piece of their source are written
  pub spread_is_written : (rows : List CopyRow) (payload : List ℕ)
      → IfSome source.receipt.told (λ told. piece ≡ bytes_at (512 * (source.front + place)) (length piece) told)
      → All (IsPartOf place (length piece)) rows
      → AreWritten source rows payload (spread_over place piece rows payload)
  spread_is_written [] payload told parts = refl
  spread_is_written (row ∷ rows) payload told parts =
      let part = All-head (IsPartOf place (length piece)) row rows parts in
      let to = part.to in
      let further = 512 * (row.source.place - place) in
      let bytes = bytes_at further (512 * row.sectors) piece in
      let size : length bytes ≡ 512 * row.sectors =
      length-take-le (512 * row.sectors) (drop further piece) (omega (arith, to, length-drop further piece)) in (
        bytes,
        size,
        told_in_piece row told part,
        spread_is_written rows (with_bytes (512 * row.place) bytes payload) told
            (All-tail (IsPartOf place (length piece)) row rows parts),
      )
