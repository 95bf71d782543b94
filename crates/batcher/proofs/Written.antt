-- Changes that may be sealed may be written as an object.
use Rattle.std.proofs.Common.{◌≡◌, ℕ, leb, ltb, None, List, length, refl, sym, ap, subst, ◌∙◌, arith}
use Rattle.std.specs.Prelude.{IsTrue, Vec}
use Rattle.std.specs.List.{sum_by}
use Rattle.std.specs.declared.alloc.Global.{Global}
use Rattle.std.proofs.lemmas.Bool.{and_from, lt-ltb, le-leb, eq-eqb}
use Rattle.lsvd_base.specs.declared.entry.Entry.{Entry}
use Rattle.extent_map.specs.declared.extent.Extent.{Extent}
use Rattle.object_format.specs.declared.data_row.DataRow.{DataRow}
use Rattle.object_format.specs.declared.expected.Expected.{Expected}
use Rattle.object_format.specs.declared.rows.Rows.TheVariants.{Data}
use Rattle.object_format.specs.Header.{begins_at}
use Rattle.object_format.specs.Rows.{data_payload, data_rows_may_stand}
use Rattle.object_format.specs.Writing.{object_header_of, payload_of, MayBeWritten}
use Rattle.batcher.specs.declared.place.BatchPlace.{BatchPlace}
use Rattle.batcher.specs.Rows.{rows_of, extent_payload}
use Rattle.batcher.specs.Writing.{MayBeSealed}
use Rattle.batcher.proofs.RowLemmas.{rows_of_sum}

-- the payload of the rows is that of the extents
pub payload_is : (extents : List (Extent BatchPlace)) (rows : Vec DataRow Global) → rows.items ≡ rows_of extents
    → payload_of (Data rows) ≡ sum_by extent_payload extents
payload_is extents rows is = ap (sum_by data_payload) is ∙ rows_of_sum extents

pub may_be_written : (expected : Expected) (first end : ℕ) (entries : List Entry) (extents : List (Extent BatchPlace))
    (rows : Vec DataRow Global)
    → rows.items ≡ rows_of extents → MayBeSealed expected first end entries extents
    → MayBeWritten expected (object_header_of expected first end (Data rows)) (Data rows)
may_be_written expected first end entries extents rows is may =
    let payload = payload_is extents rows is in
    let sum = sum_by extent_payload extents in
    record {
      seqs =
          and_from (ltb first end) (begins_at first expected.end_before) (lt-ltb first end may.some)
          (subst (λ o. IsTrue (begins_at first o)) (sym may.end_before) (eq-eqb first first refl));
      limits =
          and_from (leb (length rows.items) 65536) (leb (payload_of (Data rows)) 131071)
          (le-leb (length rows.items) 65536 (omega (arith, ap length is, may.rows)))
          (le-leb (payload_of (Data rows)) 131071 (omega (arith, payload, may.payload)));
      spelling =
          subst (λ n. IsTrue (data_rows_may_stand expected.sectors n None 0 rows.items)) (sym payload)
          (subst (λ list. IsTrue (data_rows_may_stand expected.sectors sum None 0 list)) (sym is) may.spelling);
    }
