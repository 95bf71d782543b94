-- Where the same bytes stand in the log area, the same records do.
use Rattle.std.proofs.Common.{◌≡◌, ℕ, ◌+◌, ◌-◌, ◌*◌, List, [], ◌∷◌, length, take, drop, map, sym, ◌∙◌, ap, inr, arith}
use Rattle.std.proofs.lemmas.List.{drop-drop, take_all}
use Rattle.commit_body.specs.declared.body.CommitBody.{CommitBody}
use Rattle.commit_slot.specs.LogArea.{log_area}
use Rattle.cache_log.specs.declared.row.Row.{Row}
use Rattle.cache_log.specs.Rows.{log_sectors, entry_of, next, HaveRecords}
use Rattle.cache_log.specs.Log.{up_to}
use Rattle.cache_log.proofs.Places.{LieApart}
use Rattle.cache_log.proofs.Records.{keeps_records, entries_kept}

log_area_sectors : (sector n : ℕ) (left old : List ℕ) → log_area left ≡ log_area old
    → log_sectors sector n left ≡ log_sectors sector n old
log_area_sectors sector n left old same =
    ap (take (512 * n)) (sym (drop-drop (512 * sector) 4096 left) ∙ ap (drop (512 * sector)) same
    ∙ drop-drop (512 * sector) 4096 old)

-- no sectors lie apart from all
all_apart : (rows : List Row) (log from : ℕ) → LieApart 0 0 log from rows
all_apart [] log from = tt
all_apart (row ∷ rows) log from = (
  record { sectors = inr (omega arith); pad = λ _. inr (omega arith) },
  all_apart rows log
      (next log row),
)

-- where the same bytes stand in the log area, the same records do
pub same_log_area : (rows : List Row) (log from seq : ℕ) (left old : List ℕ) → log_area left ≡ log_area old
    → HaveRecords log from seq rows old
    → HaveRecords log from seq rows left × (map (entry_of left) rows ≡ map (entry_of old) rows)
same_log_area rows log from seq left old same have =
    let kept = keeps_records rows log from 0 0 seq old left (λ sector n apart. log_area_sectors sector n left old same)
    (all_apart rows log from) have in
    (kept.records, kept.entries)

-- and the same entries
pub same_entries : (rows : List Row) (left old : List ℕ) → log_area left ≡ log_area old
    → map (entry_of left) rows ≡ map (entry_of old) rows
same_entries rows left old same = entries_kept rows 0 0 0 0 old left (λ sector n apart. log_area_sectors sector n left old same)
    (all_apart rows 0 0)

-- all rows are those up to the head
pub all_up_to : {A : Type 0} (body : CommitBody) (list : List A) → body.tail.seq + length list ≡ body.head.seq
    → up_to body list ≡ list
all_up_to body list seqs = take_all (body.head.seq - body.tail.seq) list (omega (arith, seqs))
