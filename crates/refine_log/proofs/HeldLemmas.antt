-- The records of a commit among those of a log, and as the plain log holds them once it goes on from the commit.
use Rattle.std.proofs.Common.{◌≡◌, ℕ, zero, suc, ◌+◌, ◌-◌, ◌≤◌, List, [], ◌∷◌, ◌++◌, map, take, drop, refl, sym, ◌∙◌, ap, subst}
use Rattle.std.proofs.Common.{inl, inr, arith, if◌then◌else◌}
use Rattle.std.proofs.Math.Seq.{take-nil}
use Rattle.std.proofs.lemmas.Bool.{cases_lt, cases_Bool, lt-ltb, le-ltb, le-leb, lt-leb, and_from, and_left, and_right}
use Rattle.lsvd_base.specs.declared.entry.Entry.{Entry}
use Rattle.commit_body.specs.declared.body.CommitBody.{CommitBody}
use Rattle.cache_log.specs.declared.row.Row.{Row}
use Rattle.cache_log.specs.Rows.{seq_of, next, end_of_rows, AreNumbered, since, is_between, between, entries_between}
use Rattle.cache_log.specs.Log.{LogState, all_rows}
use Rattle.cache_log.specs.Committed.{sectors_from, EndsAtHead}
use Rattle.plain_disk.specs.declared.log.PlainRecord.{PlainRecord}
use Rattle.plain_disk.specs.Log.{PlainLog, past_pad, held_from}
use Rattle.refine_log.specs.Shows.{commit_of, records_of_rows, record_of_row, StandsAt, ShowsLog}
use Rattle.refine_log.proofs.Following.{Reaches}
use Rattle.refine_log.proofs.Lists.{released}
use Rattle.refine_log.proofs.Shown.{list_of}
use Rattle.refine_log.proofs.RunLemmas.{reach_part}

-- ---- rows by their seqs

-- of numbered rows from a commit's tail on those between it and the head are the first
pub between_first : (rows : List Row) (seq : ℕ) (body : CommitBody) → AreNumbered seq rows → body.tail.seq ≤ seq
    → between body rows ≡ take (body.head.seq - seq) rows
between_first [] seq body are from = sym (take-nil (body.head.seq - seq))
between_first (row ∷ rows) seq body are from =
    let own = are.0 in
    let rest = between_first rows (seq + 1) body are.1 (omega (arith, from)) in
    elim (cases_lt seq body.head.seq) [
      | inl less ↦
          let more : suc (body.head.seq - (seq + 1)) ≡ body.head.seq - seq = omega (arith, less) in
          ap (λ b. if b then row ∷ between body rows else between body rows)
          (and_from _ _ (le-leb body.tail.seq (seq_of row) (omega (arith, own, from)))
          (lt-ltb (seq_of row) body.head.seq (omega (arith, own, less))))
          ∙ ap (λ l. row ∷ l) rest
          ∙ ap (λ n. take n (row ∷ rows)) more
      | inr on ↦
          let later : body.head.seq - (seq + 1) ≡ 0 = omega (arith, on) in
          let none : 0 ≡ body.head.seq - seq = omega (arith, on) in
          ap (λ b. if b then row ∷ between body rows else between body rows)
          (and_right _ _ (le-ltb (seq_of row) body.head.seq (omega (arith, own, on))))
          ∙ rest
          ∙ ap (λ n. take n rows) later
          ∙ first_none rows
          ∙ ap (λ n. take n (row ∷ rows)) none
    ]
  where
    first_none : (l : List Row) → take 0 l ≡ []
    first_none [] = refl
    first_none (r ∷ l) = refl

-- those before the tail are left out
pub between_since : (held rows : List Row) (body : CommitBody)
    → between body (held ++ rows) ≡ between body (since body.tail.seq held ++ rows)
between_since [] rows body = refl
between_since (row ∷ held) rows body =
    let tail : ℕ = body.tail.seq in
    elim (cases_lt (seq_of row) tail) [
      | inl less ↦
          ap (λ b. if b then row ∷ between body (held ++ rows) else between body (held ++ rows))
          (and_left _ _ (lt-leb tail (seq_of row) less))
          ∙ between_since held rows body
          ∙ sym (ap (λ b. between body ((if b then since tail held else row ∷ held) ++ rows)) (lt-ltb (seq_of row) tail less))
      | inr on ↦ sym (ap (λ b. between body ((if b then since tail held else row ∷ held) ++ rows)) (le-ltb (seq_of row) tail on))
    ]

-- and the entries of rows are so those of the ones between
pub entries_are_between : (f : Row → Entry) (rows : List Row) (body : CommitBody)
    → entries_between body rows (map f rows) ≡ map f (between body rows)
entries_are_between f [] body = refl
entries_are_between f (row ∷ rows) body =
    let list : List Entry = entries_between body rows (map f rows) in
    let rest = entries_are_between f rows body in
    elim (cases_Bool (is_between body row)) [
      | inl is ↦
          ap (λ b. if b then f row ∷ list else list) is
          ∙ ap (λ l. f row ∷ l) rest
          ∙ sym (ap (λ b. map f (if b then row ∷ between body rows else between body rows)) is)
      | inr is ↦
          ap (λ b. if b then f row ∷ list else list) is
          ∙ rest
          ∙ sym (ap (λ b. map f (if b then row ∷ between body rows else between body rows)) is)
    ]

-- ---- the first records

records_take : (m : ℕ) (rows : List Row) (log from : ℕ) → take m (records_of_rows log from rows) ≡ records_of_rows log from
    (take m rows)
records_take zero [] log from = refl
records_take zero (row ∷ rows) log from = refl
records_take (suc m) [] log from = refl
records_take (suc m) (row ∷ rows) log from = ap (λ l. record_of_row log from row ∷ l) (records_take m rows log (next log row))

past_take : (m tail : ℕ) (records : List PlainRecord) → past_pad tail (take m records) ≡ take m (past_pad tail records)
past_take zero tail [] = refl
past_take zero tail (stored ∷ records) = refl
past_take (suc m) tail [] = refl
past_take (suc m) tail (stored ∷ records) = refl

-- ---- the records of a commit

-- rows that reach from a commit's tail to its head, and the plain log's records from there on
pub record AreHeld (log : ℕ) (plain : PlainLog) (body : CommitBody) (rows : List Row) : Type 0 where
  pub used : ℕ
  pub reach : Reaches log body.tail.position used body.head.position rows
  pub records : past_pad body.tail.position (held_from (commit_of body) plain).records ≡ records_of_rows log
      body.tail.position rows

pub are_held : (log : LogState) (plain : PlainLog) (body : CommitBody) → ShowsLog log plain
    → log.commits.body.tail.seq ≤ body.tail.seq
    → body.tail.seq ≤ log.first → StandsAt log body → EndsAtHead log body
    → AreHeld log.room.log plain body (between body (all_rows log))
are_held log plain body is order most stands ends =
    let room : ℕ = log.room.log in
    let tail : ℕ = body.tail.position in
    let m : ℕ = body.head.seq - body.tail.seq in
    let rest : List Row = since body.tail.seq log.held ++ log.rows in
    let is_to = released log.room log.commits.body.tail body.tail log.held log.rows log.start log.first (list_of log plain is)
    order most stands in
    let own : take m rest ≡ between body (all_rows log) =
    sym (between_since log.held log.rows body ∙ between_first rest body.tail.seq body is_to.list.numbered (omega arith)) in
    let part = reach_part m rest room tail (sectors_from room tail log.room.head rest) log.room.head is_to.list.reach in
    record {
      used = part.0;
      reach =
          subst (λ h. Reaches room tail part.0 h (between body (all_rows log))) ends
          (subst (λ l. Reaches room tail part.0 (end_of_rows room tail l) l) own part.1);
      records =
          ap (λ c. past_pad tail (take m (drop (body.tail.seq - c.tail.seq) plain.records))) is.last
          ∙ ap (λ l. past_pad tail (take m (drop (body.tail.seq - log.commits.body.tail.seq) l))) is.records
          ∙ past_take m tail (drop (body.tail.seq - log.commits.body.tail.seq)
          (records_of_rows room log.commits.body.tail.position (all_rows log)))
          ∙ ap (take m) is_to.records
          ∙ records_take m rest room tail
          ∙ ap (records_of_rows room tail) own;
    }
