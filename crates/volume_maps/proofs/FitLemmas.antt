-- For the proofs of callers: the rows that the grammar of objects lets stand fit the maps.
use Rattle.std.proofs.Common.{ℕ, ◌+◌, ◌<◌, ◌≤◌, ◌^◌, nat_le, Option, Some, None, List, [], ◌∷◌, arith}
use Rattle.std.specs.Prelude.{IsTrue, IfSome}
use Rattle.std.proofs.lemmas.Bool.{and_parts}
use Rattle.std.proofs.lemmas.Bool.Decides.{nat_tests}
use Rattle.object_format.specs.declared.copy_row.CopyRow.{CopyRow}
use Rattle.object_format.specs.declared.data_row.DataRow.{DataRow}
use Rattle.object_format.specs.Rows.{payload_at, data_payload, is_at, data_may_stand, data_rows_may_stand}
use Rattle.object_format.specs.Rows.{copy_may_stand, copy_rows_may_stand}
use Rattle.volume_maps.specs.Maps.{RowFits, RowsFit, CopyRowFits, CopyRowsFit}

place_fits : (sectors place payload : ℕ) (at : Option ℕ) → IsTrue (is_at place at)
    → IsTrue (nat_le (place + payload_at sectors at) payload)
    → payload ≤ 131071 → IfSome at (λ p. p + sectors < 2 ^ 32)
place_fits sectors place payload None is within most = tt
place_fits sectors place payload (Some at) is within most = grind (arith, nat_tests)

row_fits : (volume payload place : ℕ) (before : Option DataRow) (row : DataRow) → volume < 2 ^ 63 → payload ≤ 131071
    → IsTrue (data_may_stand volume payload before place row) → RowFits row
row_fits volume payload place before row low most stand = record {
  sectors = grind (arith, nat_tests);
  place = place_fits row.sectors place payload row.place (grind (arith, nat_tests)) (grind (arith, nat_tests)) most;
}

-- rows that may stand in an object of a volume within the limits fit
pub rows_fit : (volume payload place : ℕ) (before : Option DataRow) (rows : List DataRow) → volume < 2 ^ 63
    → payload ≤ 131071
    → IsTrue (data_rows_may_stand volume payload before place rows) → RowsFit rows
rows_fit volume payload place before [] low most stand = tt
rows_fit volume payload place before (row ∷ rows) low most stand = (
  row_fits volume payload place before row low most (grind (arith, nat_tests)),
  rows_fit volume payload (place + data_payload row) (Some row) rows low most (grind (arith, nat_tests)),
)

-- ---- those of a copy

copy_row_fits : (volume payload number place : ℕ) (before : Option CopyRow) (row : CopyRow) → volume < 2 ^ 63
    → payload ≤ 131071 → IsTrue (copy_may_stand volume payload number before place row) → CopyRowFits row
copy_row_fits volume payload number place before row low most stand = record {
  sectors = grind (arith, nat_tests);
  place = grind (arith, nat_tests);
}

pub copy_rows_fit : (volume payload number place : ℕ) (before : Option CopyRow) (rows : List CopyRow) → volume < 2 ^ 63
    → payload ≤ 131071 → IsTrue (copy_rows_may_stand volume payload number before place rows) → CopyRowsFit rows
copy_rows_fit volume payload number place before [] low most stand = tt
copy_rows_fit volume payload number place before (row ∷ rows) low most stand =
    let parts = and_parts (copy_may_stand volume payload number before place row)
    (copy_rows_may_stand volume payload number (Some row) (place + row.sectors) rows) stand in (
      copy_row_fits volume payload number place before row low most parts.0,
      copy_rows_fit volume payload number (place + row.sectors) (Some row) rows low most parts.1,
    )
