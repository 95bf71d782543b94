-- The sectors in use when records are released, and what the log keeps of its fields.
use Rattle.std.proofs.Common.{◌≡◌, ℕ, ◌+◌, ◌-◌, ◌<◌, ◌≤◌, ◌==◌, true, false, cond, List, [], ◌∷◌, length, get_or, take, drop}
use Rattle.std.proofs.Common.{if◌then◌else◌, sym, subst, arith}
use Rattle.std.proofs.lemmas.List.Sums.{sum_by-cons, sum_by_more_le, sum_by-take-le, sum_by-take-drop}
use Rattle.plain_disk.specs.declared.log.PlainRecord.{PlainRecord}
use Rattle.plain_disk.specs.declared.log.PlainCommit.{PlainCommit}
use Rattle.plain_disk.specs.Log.{PlainLog, taken_by, used_by, records_from, past_pad, held_from, with_commit}
use Rattle.plain_volume.specs.Fields.{IsInside, IsRecordLog}

pub used_next : (records : List PlainRecord) (i : ℕ) (d : PlainRecord) → i < length records
    → used_by (take i records) + taken_by (get_or records i d) ≤ used_by records
used_next records i d inside = sum_by_more_le taken_by records i d inside

pub used_of_rest : (records : List PlainRecord) (n : ℕ) → used_by (drop n records) ≤ used_by records
used_of_rest records n = omega (arith, sum_by-take-drop taken_by records n)

pub used_of_part : (records : List PlainRecord) (n k : ℕ) → used_by (take k (drop n records)) ≤ used_by records
used_of_part records n k = omega (arith, sum_by-take-le taken_by (drop n records) k, used_of_rest records n)

used_by_less : (first second : PlainRecord) (records : List PlainRecord) → taken_by first ≤ taken_by second
    → used_by (first ∷ records) ≤ used_by (second ∷ records)
used_by_less first second records less = omega (arith, sum_by-cons taken_by first records, sum_by-cons taken_by second records)

pub used_past_pad : (tail : ℕ) (records : List PlainRecord) → used_by (past_pad tail records) ≤ used_by records
used_past_pad tail [] = omega arith
used_past_pad tail (stored ∷ records) =
    used_by_less (if stored.at == tail then record stored { pad = 0 } else stored) stored records
    (elim (stored.at == tail) as (λ b. taken_by (cond b (record stored { pad = 0 }) stored) ≤ taken_by stored) [
      | true ↦ omega arith
      | false ↦ omega arith
    ])

held_is : (found : PlainCommit) (log : PlainLog) → IsInside log.size found → IsRecordLog log → IsRecordLog (held_from found log)
held_is found log inside is = record {
  room = record {
    limit = is.room.limit;
    head = inside.head;
    used = omega (
      arith,
      is.room.used,
      used_of_part log.records (found.tail.seq - log.last.tail.seq)
          (found.head.seq - found.tail.seq),
    );
  };
  last = inside;
  unfinished = tt;
}

made_is : (commit : PlainCommit) (log : PlainLog) → IsInside log.size commit → IsRecordLog log
    → IsRecordLog (with_commit commit log)
made_is commit log inside is = record {
  room = record {
    limit = is.room.limit;
    head = is.room.head;
    used =
        omega (
          arith,
          is.room.used,
          used_past_pad commit.tail.position (records_from log commit.tail.seq),
          used_of_rest log.records (commit.tail.seq - log.last.tail.seq),
        );
  };
  last = inside;
  unfinished = tt;
}

-- of the fields before a call and what contracts see of them
pub held_keeps : (found : PlainCommit) (log seen : PlainLog) (records : List PlainRecord) → log ≡ seen → IsInside seen.size found
    → IsRecordLog log
    → records ≡ take (found.head.seq - found.tail.seq) (records_from log found.tail.seq)
    → IsRecordLog (record (held_from found log) { records = records })
held_keeps found log seen records sees inside is are =
    subst (λ (list : List PlainRecord). IsRecordLog (record (held_from found log) { records = list })) (sym are)
    (held_is found log (subst (λ (l : PlainLog). IsInside l.size found) (sym sees) inside) is)

pub made_keeps : (commit : PlainCommit) (log seen : PlainLog) (records : List PlainRecord) → log ≡ seen
    → IsInside seen.size commit → IsRecordLog log
    → records ≡ past_pad commit.tail.position (records_from log commit.tail.seq)
    → IsRecordLog (record (with_commit commit log) { records = records })
made_keeps commit log seen records sees inside is are =
    subst (λ (list : List PlainRecord). IsRecordLog (record (with_commit commit log) { records = list })) (sym are)
    (made_is commit log (subst (λ (l : PlainLog). IsInside l.size commit) (sym sees) inside) is)
