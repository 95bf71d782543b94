-- Rows that are made one after the other.
use Rattle.std.proofs.Common.{◌≡◌, ℕ, ◌+◌, ◌≤◌, ◌==◌, ◌&&◌, nat_le, IsTrue, Option, Some, None, List, [], ◌∷◌, ◌++◌, fold, sym}
use Rattle.std.proofs.Common.{ap, subst, arith}
use Rattle.std.proofs.lemmas.Bool.{and_parts, and_from, leb-true, le-leb, eqb-true, eq-eqb}
use Rattle.object_format.specs.declared.data_row.DataRow.{DataRow}
use Rattle.object_format.specs.declared.copy_row.CopyRow.{CopyRow}
use Rattle.object_format.specs.Rows.{is_inside, data_payload, is_at, data_may_follow, data_may_stand, data_rows_may_stand}
use Rattle.object_format.specs.Rows.{copy_may_follow, is_source, copy_may_stand, copy_rows_may_stand}
use Rattle.object_format.specs.Laws.{last_of, DataRowsMayGoOn, CopyRowsMayGoOn, DataRowsHavePayload, CopyRowsHavePayload}

-- ---- rows of data

-- a row may stand in a longer payload too
data_in_longer : (volume payload more : ℕ) (before : Option DataRow) (place : ℕ) (row : DataRow)
    → IsTrue (data_may_stand volume payload before place row) → IsTrue (data_may_stand volume (payload + more) before place row)
data_in_longer volume payload more before place row stands =
    let tests = is_inside volume row.lba row.sectors && data_may_follow before row && is_at place row.place in
    let end = place + data_payload row in
    let parts = and_parts tests (nat_le end payload) stands in
    let room : end ≤ payload = leb-true end payload parts.1 in
    and_from tests (nat_le end (payload + more)) parts.0 (le-leb end (payload + more) (omega (arith, room)))

data_go_on : (volume payload : ℕ) (before : Option DataRow) (place : ℕ) (rows : List DataRow) (row : DataRow)
    → IsTrue (data_rows_may_stand volume payload before place rows)
    → IsTrue (data_may_stand volume (payload + data_payload row) (last_of before rows) payload row)
    → IsTrue (data_rows_may_stand volume (payload + data_payload row) before place (rows ++ row ∷ []))
data_go_on volume payload before place [] row stand may =
    let is : place ≡ payload = eqb-true place payload stand in
    let P : ℕ → Type 0 = λ at. IsTrue (data_may_stand volume (payload + data_payload row) before at row) in
    and_from (data_may_stand volume (payload + data_payload row) before place row)
    (place + data_payload row == payload + data_payload row)
    (subst P (sym is) may) (eq-eqb (place + data_payload row) (payload + data_payload row) (ap (λ n. n + data_payload row) is))
data_go_on volume payload before place (first ∷ rows) row stand may =
    let longer = payload + data_payload row in
    let end = place + data_payload first in
    let parts = and_parts (data_may_stand volume payload before place first)
    (data_rows_may_stand volume payload (Some first) end rows) stand in
    and_from (data_may_stand volume longer before place first)
    (data_rows_may_stand volume longer (Some first) end (rows ++ row ∷ []))
    (data_in_longer volume payload (data_payload row) before place first parts.0)
    (data_go_on volume payload (Some first) end rows row parts.1 may)

pub data_rows_may_go_on : DataRowsMayGoOn
data_rows_may_go_on volume payload rows row stand may = data_go_on volume payload None 0 rows row stand may

data_have : (volume payload : ℕ) (before : Option DataRow) (place : ℕ) (rows : List DataRow)
    → IsTrue (data_rows_may_stand volume payload before place rows)
    → fold (λ sum row. sum + data_payload row) place rows ≡ payload
data_have volume payload before place [] stand = eqb-true place payload stand
data_have volume payload before place (row ∷ rows) stand =
    let end = place + data_payload row in
    let parts = and_parts (data_may_stand volume payload before place row)
    (data_rows_may_stand volume payload (Some row) end rows) stand in
    data_have volume payload (Some row) end rows parts.1

pub data_rows_have_payload : DataRowsHavePayload
data_rows_have_payload volume payload rows stand = data_have volume payload None 0 rows stand

-- ---- rows of a copy

copy_in_longer : (volume payload number more : ℕ) (before : Option CopyRow) (place : ℕ) (row : CopyRow)
    → IsTrue (copy_may_stand volume payload number before place row)
    → IsTrue (copy_may_stand volume (payload + more) number before place row)
copy_in_longer volume payload number more before place row stands =
    let tests = is_inside volume row.lba row.sectors && copy_may_follow before row && (row.place == place) in
    let end = place + row.sectors in
    let source = is_source number row.sectors row.source in
    let parts = and_parts (tests && nat_le end payload) source stands in
    let inner = and_parts tests (nat_le end payload) parts.0 in
    let room : end ≤ payload = leb-true end payload inner.1 in
    and_from (tests && nat_le end (payload + more)) source
    (and_from tests (nat_le end (payload + more)) inner.0 (le-leb end (payload + more) (omega (arith, room)))) parts.1

copy_go_on : (volume payload number : ℕ) (before : Option CopyRow) (place : ℕ) (rows : List CopyRow) (row : CopyRow)
    → IsTrue (copy_rows_may_stand volume payload number before place rows)
    → IsTrue (copy_may_stand volume (payload + row.sectors) number (last_of before rows) payload row)
    → IsTrue (copy_rows_may_stand volume (payload + row.sectors) number before place (rows ++ row ∷ []))
copy_go_on volume payload number before place [] row stand may =
    let is : place ≡ payload = eqb-true place payload stand in
    let P : ℕ → Type 0 = λ at. IsTrue (copy_may_stand volume (payload + row.sectors) number before at row) in
    and_from (copy_may_stand volume (payload + row.sectors) number before place row)
    (place + row.sectors == payload + row.sectors)
    (subst P (sym is) may) (eq-eqb (place + row.sectors) (payload + row.sectors) (ap (λ n. n + row.sectors) is))
copy_go_on volume payload number before place (first ∷ rows) row stand may =
    let longer = payload + row.sectors in
    let end = place + first.sectors in
    let parts = and_parts (copy_may_stand volume payload number before place first)
    (copy_rows_may_stand volume payload number (Some first) end rows) stand in
    and_from (copy_may_stand volume longer number before place first) (copy_rows_may_stand volume longer number (Some first) end
    (rows ++ row ∷ []))
    (copy_in_longer volume payload number row.sectors before place first parts.0)
    (copy_go_on volume payload number (Some first) end rows row parts.1 may)

pub copy_rows_may_go_on : CopyRowsMayGoOn
copy_rows_may_go_on volume payload number rows row stand may = copy_go_on volume payload number None 0 rows row stand may

copy_have : (volume payload number : ℕ) (before : Option CopyRow) (place : ℕ) (rows : List CopyRow)
    → IsTrue (copy_rows_may_stand volume payload number before place rows)
    → fold (λ sum (row : CopyRow). sum + row.sectors) place rows ≡ payload
copy_have volume payload number before place [] stand = eqb-true place payload stand
copy_have volume payload number before place (row ∷ rows) stand =
    let end = place + row.sectors in
    let parts = and_parts (copy_may_stand volume payload number before place row)
    (copy_rows_may_stand volume payload number (Some row) end rows) stand in
    copy_have volume payload number (Some row) end rows parts.1

pub copy_rows_have_payload : CopyRowsHavePayload
copy_rows_have_payload volume payload number rows stand = copy_have volume payload number None 0 rows stand
