-- The list of a log goes on having the entries past the frontier's end.
use Rattle.std.proofs.Common.{◌≡◌, ℕ, ◌+◌, ◌-◌, ◌≤◌, ◌==◌, if◌then◌else◌, List, [], ◌∷◌, ◌++◌, zero, suc, length, drop, refl, sym}
use Rattle.std.proofs.Common.{◌∙◌, ap, subst, arith}
use Rattle.std.specs.Prelude.{Option, Some, None, IfSome, option_map}
use Rattle.std.specs.List.{AllByRecursion}
use Rattle.std.proofs.Math.Path.{subst₂}
use Rattle.std.proofs.lemmas.Bool.{eq-eqb, ne_eqb}
use Rattle.std.proofs.lemmas.List.{drop-drop, drop-append-le, length-map}
use Rattle.lsvd_base.specs.declared.entry.Entry.{Entry}
use Rattle.cache_log.specs.declared.row.Row.{Row}
use Rattle.lsvd_base.specs.declared.entry.Entry.TheVariants as entries
use Rattle.lsvd_device.specs.Medium.{Medium}
use Rattle.log_room.specs.Room.{position, record_sectors}
use Rattle.cache_log.specs.Rows.{seq_of, position_of, entry_of, AreNumbered}
use Rattle.cache_log.specs.Log.{LogState, row_of, AreRowsOf, next_seq, with_appended, entries_in, IsTrimmed, IsAppended}
use Rattle.cache_log.specs.Committed.{IsOnDisk}
use Rattle.cache_log.proofs.ForCallers.{rows_more}
use Rattle.plain_disk.specs.Log.{PlainLog}
use Rattle.plain_disk.specs.State.{PlainState, history_length, frontier_end, logged_entries}
use Rattle.refine_log.specs.Shows.{ShowsLog}
use Rattle.refine_log.specs.Logged.{HasLoggedEntries}

-- the data of a row begin one sector past its record
abbrev pub HasDataBehind : (ℕ → ℕ) → Row → Type 0
HasDataBehind data_at row = data_at (seq_of row) ≡ position_of row + 1

-- ---- the same list

pub logged_alike : (data_at : ℕ → ℕ) (old new : LogState) (plain : PlainState) → new.first ≡ old.first → new.rows ≡ old.rows
    → new.entries ≡ old.entries
    → HasLoggedEntries data_at old plain → HasLoggedEntries data_at new plain
logged_alike data_at old new plain first rows entries is = record {
  first = subst (λ n. n ≤ frontier_end plain) (sym first) is.first;
  rows = subst₂ (λ n l. AreRowsOf (drop (frontier_end plain - n) l) (logged_entries plain)) (sym first) (sym rows) is.rows;
  entries = subst₂ (λ n o. IfSome o (λ list. drop (frontier_end plain - n) list ≡ logged_entries plain)) (sym first) (sym entries)
      is.entries;
  placed = subst (AllByRecursion (HasDataBehind data_at)) (sym rows) is.placed;
}

-- ---- a list whose first entries were dropped

all_left : (P : Row → Type 0) (n : ℕ) (rows : List Row) → AllByRecursion P rows → AllByRecursion P (drop n rows)
all_left P zero rows all = all
all_left P (suc n) [] all = all
all_left P (suc n) (row ∷ rows) all = all_left P n rows all.1

some_left : (n rest : ℕ) (list : List Entry) (entries : Option (List Entry))
    → IfSome entries (λ items. drop (n + rest) items ≡ list)
    → IfSome (option_map (drop n) entries) (λ items. drop rest items ≡ list)
some_left n rest list None is = is
some_left n rest list (Some items) is = drop-drop rest n items ∙ is

-- the log without the first entries of its list
abbrev without_first : (count : ℕ) → LogState → LogState
without_first count log = record log {
  first = log.first + count;
  rows = drop count log.rows;
  entries = option_map (drop count) log.entries;
}

first_dropped : (data_at : ℕ → ℕ) (count : ℕ) (log : LogState) (plain : PlainState) → log.first + count ≤ frontier_end plain
    → HasLoggedEntries data_at log plain
    → HasLoggedEntries data_at (without_first count log) plain
first_dropped data_at count log plain below is =
    let rest : ℕ = frontier_end plain - (log.first + count) in
    let whole : frontier_end plain - log.first ≡ count + rest = omega (arith, below) in
    record {
      first = below;
      rows =
          subst (λ l. AreRowsOf l (logged_entries plain)) (sym (drop-drop rest count log.rows))
          (subst (λ n. AreRowsOf (drop n log.rows) (logged_entries plain)) whole is.rows);
      entries = some_left count rest (logged_entries plain) log.entries
          (subst (λ n. IfSome log.entries (λ list. drop n list ≡ logged_entries plain)) whole is.entries);
      placed = all_left (HasDataBehind data_at) count log.rows is.placed;
    }

pub logged_trimmed : (data_at : ℕ → ℕ) (seq : ℕ) (old new : LogState) (plain : PlainState) → seq ≤ frontier_end plain
    → IsTrimmed seq old new
    → HasLoggedEntries data_at old plain → HasLoggedEntries data_at new plain
logged_trimmed data_at seq old new plain below trimmed is =
    let begins = is.first in
    logged_alike data_at (without_first (seq - old.first) old) new plain trimmed.first trimmed.rows trimmed.entries
    (first_dropped data_at (seq - old.first) old plain (omega (arith, begins, below)) is)

-- ---- one entry more

-- where data begin, with those of the entry of a seq
abbrev pub with_place : (ℕ → ℕ) → (seq place : ℕ) → ℕ → ℕ
with_place data_at seq place k = if k == seq then place else data_at k

pub own_place : (data_at : ℕ → ℕ) (seq place : ℕ) → with_place data_at seq place seq ≡ place
own_place data_at seq place = ap (λ b. if b then place else data_at seq) (eq-eqb seq seq refl)

pub other_place : (data_at : ℕ → ℕ) (seq place k : ℕ) → (k ≡ seq → ⊥) → with_place data_at seq place k ≡ data_at k
other_place data_at seq place k other = ap (λ b. if b then place else data_at k) (ne_eqb k seq other)

-- rows with earlier seqs have the places that they had
placed_before : (data_at : ℕ → ℕ) (later place : ℕ) (rows : List Row) (seq : ℕ) → AreNumbered seq rows → seq + length rows ≤ later
    → AllByRecursion (HasDataBehind data_at) rows → AllByRecursion (HasDataBehind (with_place data_at later place)) rows
placed_before data_at later place [] seq are below all = tt
placed_before data_at later place (row ∷ rows) seq are below all =
    let own = are.0 in (
      other_place data_at later place (seq_of row) (λ same. omega (arith, own, below, same)) ∙ all.0,
      placed_before data_at later place rows (seq + 1) are.1 (omega (arith, below)) all.1,
    )

numbered_behind : (held rows : List Row) (seq : ℕ) → AreNumbered seq (held ++ rows) → AreNumbered (seq + length held) rows
numbered_behind [] rows seq are = subst (λ n. AreNumbered n rows) (omega arith) are
numbered_behind (row ∷ held) rows seq are =
    subst (λ n. AreNumbered n rows) (omega arith) (numbered_behind held rows (seq + 1) are.1)

all_more : (P : Row → Type 0) (rows : List Row) (row : Row) → AllByRecursion P rows → P row → AllByRecursion P (rows ++ row ∷ [])
all_more P [] row all own = (own, tt)
all_more P (first ∷ rows) row all own = (all.0, all_more P rows row all.1 own)

row_is : (entry : Entry) (seq at : ℕ) → row_of seq at entry ≡ row_of (seq_of (row_of seq at entry))
    (position_of (row_of seq at entry)) entry
row_is (entries.Write lba body) seq at = refl
row_is (entries.Zero lba sectors) seq at = refl

own_placed : (data_at : ℕ → ℕ) (entry : Entry) (seq at : ℕ)
    → HasDataBehind (with_place data_at seq (at + 1)) (row_of seq at entry)
own_placed data_at (entries.Write lba body) seq at = own_place data_at seq (at + 1)
own_placed data_at (entries.Zero lba sectors) seq at = own_place data_at seq (at + 1)

-- where the entries of a log are told, they go up to the frontier's end
abbrev pub ReachesEnd : LogState → PlainState → Type 0
ReachesEnd log plain = IfSome log.entries (λ list. frontier_end plain - log.first ≤ length list)

some_more : (skipped : ℕ) (list : List Entry) (entry : Entry) (entries : Option (List Entry))
    → IfSome entries (λ items. drop skipped items ≡ list)
    → IfSome entries (λ items. skipped ≤ length items)
    → IfSome (with_appended entries entry) (λ items. drop skipped items ≡ list ++ entry ∷ [])
some_more skipped list entry None is reaches = tt
some_more skipped list entry (Some items) is reaches = drop-append-le skipped items (entry ∷ []) reaches
    ∙ ap (λ l. l ++ entry ∷ []) is

-- the log with a row more
abbrev with_row : Row → Entry → LogState → LogState
with_row row entry log = record log { rows = log.rows ++ row ∷ []; entries = with_appended log.entries entry }

row_added : (data_at : ℕ → ℕ) (log : LogState) (plain : PlainState) (entry : Entry) (at : ℕ) → AreNumbered log.first log.rows
    → frontier_end plain ≤ next_seq log → next_seq log ≡ history_length plain → ReachesEnd log plain
    → HasLoggedEntries data_at log plain
    → HasLoggedEntries (with_place data_at (next_seq log) (at + 1)) (with_row (row_of (next_seq log) at entry) entry log)
    (record plain { entries = plain.entries ++ entry ∷ [] })
row_added data_at log plain entry at numbered below counted reaches is =
    let row : Row = row_of (next_seq log) at entry in
    let later : ℕ → ℕ = with_place data_at (next_seq log) (at + 1) in
    let skipped : ℕ = frontier_end plain - log.first in
    let logged : drop (frontier_end plain - plain.end) (plain.entries ++ entry ∷ []) ≡ logged_entries plain ++ entry ∷ [] =
    drop-append-le (frontier_end plain - plain.end) plain.entries (entry ∷ []) (omega (arith, below, counted)) in
    record {
      first = is.first;
      rows =
          subst₂ AreRowsOf (sym (drop-append-le skipped log.rows (row ∷ []) (omega (arith, below)))) (sym logged)
          (rows_more (drop skipped log.rows) (logged_entries plain) row entry is.rows (row_is entry (next_seq log) at));
      entries =
          subst (λ l. IfSome (with_appended log.entries entry) (λ list. drop skipped list ≡ l)) (sym logged)
          (some_more skipped (logged_entries plain) entry log.entries is.entries reaches);
      placed = all_more (HasDataBehind later) log.rows row
          (placed_before data_at (next_seq log) (at + 1) log.rows log.first numbered (omega arith) is.placed)
          (own_placed data_at entry (next_seq log) at);
    }

pub logged_appended : (data_at : ℕ → ℕ) (old new : LogState) (plain : PlainState) (entry : Entry) (at : ℕ) (log : PlainLog)
    → ShowsLog old log
    → frontier_end plain ≤ history_length plain → next_seq old ≡ history_length plain → ReachesEnd old plain
    → IsAppended entry at old new
    → HasLoggedEntries data_at old plain
    → HasLoggedEntries (with_place data_at (history_length plain) (at + 1)) new
    (record plain { entries = plain.entries ++ entry ∷ [] })
logged_appended data_at old new plain entry at log shows ends counted reaches appended is =
    let numbered : AreNumbered old.first old.rows =
    subst (λ n. AreNumbered n old.rows) shows.counted (numbered_behind old.held old.rows old.commits.body.tail.seq
    shows.numbered) in
    let row : Row = row_of (next_seq old) (position old.room (record_sectors entry)) entry in
    let here : row ≡ row_of (next_seq old) at entry = ap (λ p. row_of (next_seq old) p entry) (sym appended.at_head) in
    let added = row_added data_at old plain entry at numbered (omega (arith, ends, counted)) counted reaches is in
    subst (λ n. HasLoggedEntries (with_place data_at n (at + 1)) new (record plain { entries = plain.entries ++ entry ∷ [] }))
    counted
    (logged_alike (with_place data_at (next_seq old) (at + 1)) (with_row (row_of (next_seq old) at entry) entry old) new
    (record plain { entries = plain.entries ++ entry ∷ [] })
    appended.first (appended.rows ∙ ap (λ r. old.rows ++ r ∷ []) here) appended.entries added)

-- ---- how far the entries go

told_as_many : (rows : List Row) (moments : List Medium) (n : ℕ) → n ≤ length rows
    → IfSome (entries_in rows moments) (λ list. n ≤ length list)
told_as_many rows [] n most = tt
told_as_many rows (now ∷ past) n most = omega (arith, length-map rows (entry_of now.bytes), most)

pub reaches_on_disk : (log : LogState) (plain : PlainState) → frontier_end plain ≤ next_seq log → IsOnDisk log
    → ReachesEnd log plain
reaches_on_disk log plain below is =
    subst (λ o. IfSome o (λ list. frontier_end plain - log.first ≤ length list)) (sym is.entries)
    (told_as_many log.rows log.commits.disk.moments (frontier_end plain - log.first) (omega (arith, below)))

some_reach : (skipped : ℕ) (entries : Option (List Entry)) → skipped ≡ 0 → IfSome entries (λ list. skipped ≤ length list)
some_reach skipped None none = tt
some_reach skipped (Some list) none = omega (arith, none)

pub reaches_from_end : (log : LogState) (plain : PlainState) → log.first ≡ frontier_end plain → ReachesEnd log plain
reaches_from_end log plain first = some_reach (frontier_end plain - log.first) log.entries (omega (arith, first))
