-- Which entries of the plain volume a commit has, among all of a log.
use Rattle.std.proofs.Common.{◌≡◌, ℕ, zero, suc, ◌+◌, ◌-◌, ◌<◌, ◌≤◌, false, max, List, [], ◌∷◌, length, take, drop, map, refl}
use Rattle.std.proofs.Common.{sym, ◌∙◌, ap, subst, inl, inr, arith, if◌then◌else◌}
use Rattle.std.proofs.Math.Seq.{drop-nil}
use Rattle.std.specs.List.{All}
use Rattle.std.proofs.lemmas.Bool.{cases_eq, cases_lt, lt-leb, and_left}
use Rattle.std.proofs.lemmas.List.{length-take, drop-take, drop-drop, drop_all, drop_at, drop-map}
use Rattle.std.proofs.lemmas.List.Elements.{All-take, All-drop}
use Rattle.lsvd_base.specs.declared.entry.Entry.{Entry}
use Rattle.commit_body.specs.declared.body.CommitBody.{CommitBody}
use Rattle.cache_log.specs.declared.row.Row.{Row}
use Rattle.cache_log.specs.Rows.{seq_of, AreNumbered, is_between, entries_between}
use Rattle.cache_log.specs.Log.{LogState, all_rows, up_to}
use Rattle.cache_log.proofs.ForCallers.{is_up_to}
use Rattle.plain_disk.specs.State.{PlainState, frontier_end, logged_entries}
use Rattle.refine_log.specs.Logged.{listed_from}
use Rattle.refine_log.specs.Stops.{entries_past}

-- ---- lists

-- the first N of none
take_none : (n : ℕ) → ◌≡◌ {A = List Entry} (take n []) []
take_none zero = refl
take_none (suc n) = refl

-- of the first K of a list, what is past the first N
pub past_first : (n k : ℕ) (list : List Entry) → drop n (take k list) ≡ take (k - n) (drop n list)
past_first n k list =
    elim (cases_lt k n) [
      | inl less ↦
          let none : k - n ≡ 0 = omega (arith, less) in
          drop_all n (take k list) (omega (arith, length-take k list, less)) ∙ sym (ap (λ m. take m (drop n list)) none)
      | inr on ↦
          let sum : k ≡ n + (k - n) = omega (arith, on) in
          ap (λ m. drop n (take m list)) sum ∙ drop-take n (k - n) list
    ]

-- ---- the entries of a commit

module _ (log : LogState) (body : CommitBody) where
  -- of rows from its tail on they are the first, as in a log that begins there
  entries_from_tail : (rows : List Row) (list : List Entry) → AreNumbered body.tail.seq rows → length list ≡ length rows
      → entries_between body rows list ≡ up_to body list
  entries_from_tail rows list are count =
      is_up_to (record log { held = []; first = body.tail.seq; rows = rows }) list body refl are count refl

  is_before : (row : Row) → seq_of row < body.tail.seq → is_between body row ≡ false
  is_before row less = and_left _ _ (lt-leb body.tail.seq (seq_of row) less)

  -- of rows from an earlier seq on those before its tail are left out
  pub entries_are : (rows : List Row) (list : List Entry) (seq : ℕ) → AreNumbered seq rows → length list ≡ length rows
      → seq ≤ body.tail.seq
      → entries_between body rows list ≡ up_to body (drop (body.tail.seq - seq) list)
  entries_are [] [] seq are count from =
      sym (ap (up_to body) (drop-nil (body.tail.seq - seq)) ∙ take_none (body.head.seq - body.tail.seq))
  entries_are [] (entry ∷ list) seq are count from = absurd (omega (arith, count))
  entries_are (row ∷ rows) [] seq are count from = absurd (omega (arith, count))
  entries_are (row ∷ rows) (entry ∷ list) seq are count from =
      elim (cases_eq seq body.tail.seq) [
        | inl same ↦
            let none : 0 ≡ body.tail.seq - seq = omega (arith, same) in
            entries_from_tail (row ∷ rows) (entry ∷ list) (subst (λ s. AreNumbered s (row ∷ rows)) same are) count
            ∙ ap (λ n. up_to body (drop n (entry ∷ list))) none
        | inr other ↦
            let own = are.0 in
            let more : suc (body.tail.seq - (seq + 1)) ≡ body.tail.seq - seq = omega (arith, from, other) in
            ap (λ b. if b then entry ∷ entries_between body rows list else entries_between body rows list)
            (is_before row (omega (arith, own, from, other)))
            ∙ entries_are rows list (seq + 1) are.1 (omega (arith, count)) (omega (arith, from, other))
            ∙ ap (λ n. up_to body (drop n (entry ∷ list))) more
      ]

  -- the entries past a count that is not before its tail
  pub past_count : (rows : List Row) (list : List Entry) (seq end : ℕ) → AreNumbered seq rows → length list ≡ length rows
      → seq ≤ body.tail.seq → body.tail.seq ≤ end
      → drop (end - body.tail.seq) (entries_between body rows list) ≡ take (body.head.seq - end) (drop (end - seq) list)
  past_count rows list seq end are count from to =
      let tail : ℕ = body.tail.seq in
      let left : (body.head.seq - tail) - (end - tail) ≡ body.head.seq - end = omega (arith, to) in
      let dropped : (tail - seq) + (end - tail) ≡ end - seq = omega (arith, from, to) in
      ap (drop (end - tail)) (entries_are rows list seq are count from)
      ∙ past_first (end - tail) (body.head.seq - tail) (drop (tail - seq) list)
      ∙ ap (take ((body.head.seq - tail) - (end - tail))) (drop-drop (end - tail) (tail - seq) list)
      ∙ λ i. take (left i) (drop (dropped i) list)

  -- what holds of all entries holds of those of a commit
  pub all_of_commit : (P : Entry → Type 0) (rows : List Row) (list : List Entry) (seq : ℕ) → AreNumbered seq rows
      → length list ≡ length rows
      → seq ≤ body.tail.seq → All P list → All P (entries_between body rows list)
  all_of_commit P rows list seq are count from all =
      subst (All P) (sym (entries_are rows list seq are count from))
      (All-take P (body.head.seq - body.tail.seq) (drop (body.tail.seq - seq) list) (All-drop P (body.tail.seq - seq) list all))

-- ---- the entries of the plain volume

-- the entries past a count up to a head
pub entries_past_are : (plain : PlainState) (count head : ℕ) → plain.end ≤ count
    → entries_past plain count head ≡ take (head - count) (drop (count - plain.end) plain.entries)
entries_past_are plain count head from =
    let left : (max count head - plain.end) - (count - plain.end) ≡ head - count = omega (arith, from) in
    past_first (count - plain.end) (max count head - plain.end) plain.entries
    ∙ ap (λ n. take n (drop (count - plain.end) plain.entries)) left

-- past the frontier's end the records of a log have these, also those that are held
pub logged_past : (log : LogState) (plain : PlainState) (entry_at : Row → Entry) (count : ℕ)
    → log.commits.body.tail.seq + length log.held ≡ log.first → log.first ≤ frontier_end plain → plain.end ≤ frontier_end plain
    → frontier_end plain ≤ count → listed_from (frontier_end plain) log (map entry_at log.rows) ≡ logged_entries plain
    → drop (count - log.commits.body.tail.seq) (map entry_at (all_rows log)) ≡ drop (count - plain.end) plain.entries
logged_past log plain entry_at count counted first opened from logged =
    let tail : ℕ = log.commits.body.tail.seq in
    let begins : ℕ = frontier_end plain in
    let more : ℕ = (begins - log.first) + (count - begins) in
    let all : count - tail ≡ length log.held + more = omega (arith, counted, first, from) in
    let past : (begins - plain.end) + (count - begins) ≡ count - plain.end = omega (arith, opened, from) in
    let listed : drop (length log.held) (map entry_at (all_rows log)) ≡ map entry_at log.rows =
    drop-map entry_at (length log.held) (all_rows log) ∙ ap (map entry_at) (drop_at log.held log.rows (length log.held) refl) in
    ap (λ n. drop n (map entry_at (all_rows log))) all
    ∙ sym (drop-drop more (length log.held) (map entry_at (all_rows log)))
    ∙ ap (drop more) listed
    ∙ sym (drop-drop (count - begins) (begins - log.first) (map entry_at log.rows))
    ∙ ap (drop (count - begins)) logged
    ∙ drop-drop (count - begins) (begins - plain.end) plain.entries
    ∙ ap (λ n. drop n plain.entries) past
