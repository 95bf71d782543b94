-- The rows of a table that show a plain volume, while objects are added and a checkpoint passes them.
use Rattle.std.proofs.Common.{◌≡◌, ℕ, ◌+◌, ◌<◌, ◌≤◌, ◌==◌, not, Bool, true, false, cond, Option, Some, None, List, []}
use Rattle.std.proofs.Common.{◌∷◌, ◌++◌, inl, inr, refl, sym, ◌∙◌, ap, subst, arith}
use Rattle.std.specs.Prelude.{IfSome, is_some, nat_lt, nat_eq, map, option_map}
use Rattle.std.specs.List.{All}
use Rattle.std.proofs.lemmas.Bool.{cases_lt}
use Rattle.std.proofs.lemmas.Bool.Decides.{nat_tests}
use Rattle.std.proofs.lemmas.List.Elements.{All-head, All-tail, All-weaker}
use Rattle.object_table.specs.declared.row.ObjectRow.{ObjectRow}
use Rattle.object_stream.specs.declared.object.CopiedSector.{CopiedSector}
use Rattle.object_table.specs.Table.{TableState, has_number, row_of, live_in, live_of, new_row, added, passed, acknowledged}
use Rattle.object_table.proofs.Rows.{its_number}
use Rattle.object_table.proofs.Listed.{found_holds}
use Rattle.volume_maps.specs.Live.{but_live, HasSameObjects}
use Rattle.object_uploads.specs.State.{QueueState, UploadsState}
use Rattle.object_uploads.specs.Queue.{pins_of}
use Rattle.object_uploads.specs.Order.{IsUploads}
use Rattle.object_uploads.proofs.DeadRows.{row_through}
use Rattle.plain_disk.specs.State.{PlainState, PlainCheckpoint, payload_of}
use Rattle.plain_disk.specs.Removals.{maps, has, copies_from}
use Rattle.refine_objects.specs.Table.{times_pinned, passes_unmapped, ShowsTable}

-- ---- the row of a number

-- What rows are held against: the newest checkpoint, what was removed, the pins, the plan of a copy, what holds keep, how many
-- sectors of payload each object has, and how many are live.
pub record TableSeen : Type 0 where
  pub checkpoint : PlainCheckpoint
  pub removed : List ℕ
  pub pins : List ℕ
  pub plan : Option (List CopiedSector)
  pub held : List ℕ
  pub payload : ℕ → ℕ
  pub live : ℕ → ℕ

-- that of a plain volume, with these live sectors
abbrev pub seen_of : (ℕ → ℕ) → PlainState → TableSeen
seen_of live plain = record {
  checkpoint = plain.checkpoint;
  removed = plain.removed;
  pins = plain.pins;
  plan = plain.plan;
  held = plain.held;
  payload = payload_of plain;
  live = live;
}

-- What the row of a number shows: it is there where the number is not past the frontier and was not removed, and tells whether a
-- checkpoint passed it and does not map it, its pins, whether a plan takes sectors from it, whether a hold keeps it and, if it
-- has a live sector, its payload.
pub record RowShows (seen : TableSeen) (frontier number : ℕ) (found : Option ObjectRow) : Type 0 where
  pub known : 1 ≤ number → number ≤ frontier → is_some found ≡ not (has seen.removed number)
  pub above : frontier < number → found ≡ None
  pub unmapped : IfSome found (λ row. row.is_unmapped ≡ passes_unmapped seen.checkpoint number)
  pub pins_are : pins_of found ≡ times_pinned number seen.pins
  pub copied : IfSome found (λ row. row.is_copied ≡ copies_from seen.plan number)
  pub held_is : IfSome found (λ row. row.is_held ≡ has seen.held number)
  pub payload_is : IfSome found (λ row. 0 < seen.live number → row.payload ≡ seen.payload number)

-- ---- a row more

-- the row of a number once one was added
abbrev pub or_new : Option ObjectRow → (number : ℕ) → ObjectRow → Option ObjectRow
or_new (Some row) number new = Some row
or_new None number new = cond (has_number number new) (Some new) None

pub row_of_more : (number : ℕ) (rows : List ObjectRow) (new : ObjectRow)
    → row_of number (rows ++ new ∷ []) ≡ or_new (row_of number rows) number new
row_of_more number [] new = refl
row_of_more number (row ∷ rows) new =
    elim (has_number number row) as (λ b. cond b (Some row) (row_of number (rows ++ new ∷ []))
    ≡ or_new (cond b (Some row) (row_of number rows)) number new) [
      | true ↦ refl
      | false ↦ row_of_more number rows new
    ]

-- a number is none of lower ones
not_lower : (bound number : ℕ) (removed : List ℕ) → bound ≤ number → All (λ other. other < bound) removed
    → has removed number ≡ false
not_lower bound number [] past all = refl
not_lower bound number (other ∷ removed) past all =
    let low : other < bound = All-head (λ (n : ℕ). n < bound) other removed all in
    let rest = not_lower bound number removed past (All-tail (λ (n : ℕ). n < bound) other removed all) in
    grind (arith, nat_tests, low, rest)

-- what holds keep up to a number is not past a greater one
pub held_to : (bound later : ℕ) (held : List ℕ) → bound ≤ later → All (λ number. number ≤ bound) held
    → All (λ number. number ≤ later) held
held_to bound later held more =
    All-weaker (λ (n : ℕ). n ≤ bound) (λ (n : ℕ). n ≤ later) (λ n low. omega (arith, low, more)) held

-- and no hold keeps one past those that holds keep
none_held : (bound number : ℕ) (held : List ℕ) → bound < number → All (λ other. other ≤ bound) held → has held number ≡ false
none_held bound number held past all =
    not_lower (bound + 1) number held (omega (arith, past))
    (All-weaker (λ (n : ℕ). n ≤ bound) (λ (n : ℕ). n < bound + 1) (λ n low. omega (arith, low)) held all)

-- the number of a row that is there is not past the frontier
pub not_past : (frontier number : ℕ) (row : ObjectRow) → (frontier < number → Some row ≡ None) → number ≤ frontier
not_past frontier number row above =
    elim (cases_lt frontier number) [
      | inl past ↦ (let bad = above past in absurd cc)
      | inr low ↦ low
    ]

-- a plan that takes sectors of lower numbers alone takes none of a number
not_taken : (frontier number : ℕ) (list : List CopiedSector) → frontier < number
    → All (λ (c : CopiedSector). c.source ≤ frontier) list → copies_from (Some list) number ≡ false
not_taken frontier number [] past all = refl
not_taken frontier number (first ∷ list) past all =
    let low : first.source ≤ frontier = All-head (λ (c : CopiedSector). c.source ≤ frontier) first list all in
    let rest : copies_from (Some list) number ≡ false =
    not_taken frontier number list past (All-tail (λ (c : CopiedSector). c.source ≤ frontier) first list all) in
    let apart : (first.source == number) ≡ false = grind (arith, nat_tests, low, past) in
    rw apart rest

-- a plan takes sectors from objects up to a number alone
abbrev pub IsPlannedTo : (frontier : ℕ) → Option (List CopiedSector) → Type 0
IsPlannedTo frontier plan = IfSome plan (All (λ (copied : CopiedSector). copied.source ≤ frontier))

pub none_taken : (frontier number : ℕ) (plan : Option (List CopiedSector)) → frontier < number → IsPlannedTo frontier plan
    → copies_from plan number ≡ false
none_taken frontier number None past reached = refl
none_taken frontier number (Some list) past reached = not_taken frontier number list past reached

pub planned_more : (frontier later : ℕ) (plan : Option (List CopiedSector)) → frontier ≤ later → IsPlannedTo frontier plan
    → IsPlannedTo later plan
planned_more frontier later None more reached = tt
planned_more frontier later (Some list) more reached =
    All-weaker (λ (c : CopiedSector). c.source ≤ frontier) (λ (c : CopiedSector). c.source ≤ later)
    (λ c low. omega (arith, low, more)) list reached

module _ (seen : TableSeen) (frontier payload front : ℕ) (reached : seen.checkpoint.number ≤ frontier + 1)
    (gone : All (λ number. number < seen.checkpoint.number) seen.removed)
    (kept : All (λ number. number ≤ frontier) seen.held) (planned : IsPlannedTo frontier seen.plan)
    (payload_is : payload ≡ seen.payload (frontier + 1)) where
  abbrev next_row : ObjectRow
  next_row = new_row (frontier + 1) payload front

  -- by a test, whether it is its own
  added_by : (test : Bool) (number : ℕ) → has_number number next_row ≡ test → RowShows seen frontier number None
      → RowShows seen (frontier + 1) number (cond test (Some next_row) None)
  added_by true number test shows =
      let own : frontier + 1 ≡ number = grind (arith, nat_tests) in
      let past : seen.checkpoint.number ≤ number = omega (arith, own, reached) in
      let left : has seen.removed number ≡ false = not_lower seen.checkpoint.number number seen.removed past gone in
      let later : nat_lt number seen.checkpoint.number ≡ false = grind (arith, nat_tests) in
      record {
        known = λ low high. rw left refl;
        above = λ above. absurd (omega (arith, own, above));
        unmapped = rw later refl;
        pins_are = shows.pins_are;
        copied = sym (none_taken frontier number seen.plan (omega (arith, own)) planned);
        held_is = sym (none_held frontier number seen.held (omega (arith, own)) kept);
        payload_is = λ some. payload_is ∙ ap seen.payload own;
      }
  added_by false number test shows =
      let other : frontier + 1 ≡ number → ⊥ =
      λ is. (let it : has_number number next_row ≡ true = grind (arith, nat_tests) in cc) in
      record {
        known = λ low high. shows.known low (omega (arith, high, other));
        above = λ above. refl;
        unmapped = tt;
        pins_are = shows.pins_are;
        copied = tt;
        held_is = tt;
        payload_is = tt;
      }

  -- it is that of the volume whose next object was settled
  pub row_added : (number : ℕ) (found : Option ObjectRow) → RowShows seen frontier number found
      → RowShows seen (frontier + 1) number (or_new found number next_row)
  row_added number None shows = added_by (has_number number next_row) number refl shows
  row_added number (Some row) shows =
      let low = not_past frontier number row shows.above in
      record {
        known = λ least most. shows.known least low;
        above = λ past. absurd (omega (arith, low, past));
        unmapped = shows.unmapped;
        pins_are = shows.pins_are;
        copied = shows.copied;
        held_is = shows.held_is;
        payload_is = shows.payload_is;
      }

-- ---- live sectors do not matter

-- rows that are the same but for live sectors show the same
row_seen : (seen : TableSeen) (frontier number : ℕ) (found now : Option ObjectRow)
    → option_map but_live now ≡ option_map but_live found → RowShows seen frontier number found
    → RowShows seen frontier number now
row_seen seen frontier number None None same shows = shows
row_seen seen frontier number None (Some new) same shows = absurd cc
row_seen seen frontier number (Some old) None same shows = absurd cc
row_seen seen frontier number (Some old) (Some new) same shows =
    let view : but_live new ≡ but_live old = cc in
    let low = not_past frontier number old shows.above in
    record {
      known = shows.known;
      above = λ past. absurd (omega (arith, low, past));
      unmapped = ap (λ (r : ObjectRow). r.is_unmapped) view ∙ shows.unmapped;
      pins_are = ap (λ (r : ObjectRow). r.pins) view ∙ shows.pins_are;
      copied = ap (λ (r : ObjectRow). r.is_copied) view ∙ shows.copied;
      held_is = ap (λ (r : ObjectRow). r.is_held) view ∙ shows.held_is;
      payload_is = λ some. ap (λ (r : ObjectRow). r.payload) view ∙ shows.payload_is some;
    }

pub same_seen : (number : ℕ) (old new : List ObjectRow) → map but_live new ≡ map but_live old
    → option_map but_live (row_of number new) ≡ option_map but_live (row_of number old)
same_seen number old new same =
    sym (row_through but_live number new (λ r. refl)) ∙ (ap (row_of number) same ∙ row_through but_live number old (λ r. refl))

-- ---- a checkpoint passes

-- the checkpoint maps an object that is there just where that has a live sector
abbrev pub MapsLive : PlainCheckpoint → (number : ℕ) → Option ObjectRow → Type 0
MapsLive checkpoint number found = IfSome found (λ row. nat_eq row.live 0 ≡ not (maps checkpoint number))

-- what is seen with another newest checkpoint
abbrev pub with_newest : PlainCheckpoint → TableSeen → TableSeen
with_newest checkpoint seen = record seen { checkpoint = checkpoint }

-- a row that it passes
row_passed : (seen : TableSeen) (after : PlainCheckpoint) (frontier number : ℕ) (found : Option ObjectRow)
    → frontier < after.number → MapsLive after number found → RowShows seen frontier number found
    → RowShows (with_newest after seen) frontier number (option_map passed found)
row_passed seen after frontier number None past live shows = record {
  known = shows.known;
  above = λ above. refl;
  unmapped = tt;
  pins_are = shows.pins_are;
  copied = tt;
  held_is = tt;
  payload_is = tt;
}
row_passed seen after frontier number (Some row) past live shows =
    let low = not_past frontier number row shows.above in
    let passes : nat_lt number after.number ≡ true = grind (arith, nat_tests) in
    record {
      known = shows.known;
      above = λ above. absurd (omega (arith, low, above));
      unmapped = rw passes live;
      pins_are = shows.pins_are;
      copied = shows.copied;
      held_is = shows.held_is;
      payload_is = shows.payload_is;
    }

-- ---- the table

-- A table shows the newest acknowledged checkpoint, which is not past the frontier, as no source of a plan is, and each row what
-- it has to.
pub record RowsShow (seen : TableSeen) (frontier : ℕ) (table : TableState) : Type 0 where
  pub newest : table.checkpoint ≡ seen.checkpoint.number
  pub reached : seen.checkpoint.number ≤ frontier
  pub gone : All (λ number. number < seen.checkpoint.number) seen.removed
  pub kept : All (λ number. number ≤ frontier) seen.held
  pub planned : IsPlannedTo frontier seen.plan
  pub rows_show : (number : ℕ) → RowShows seen frontier number (row_of number table.rows)

-- the next data object or copy is settled
pub data_settled : (seen : TableSeen) (frontier payload front : ℕ) (old new : TableState)
    → HasSameObjects (added (new_row (frontier + 1) payload front) old) new → payload ≡ seen.payload (frontier + 1)
    → RowsShow seen frontier old → RowsShow seen (frontier + 1) new
data_settled seen frontier payload front old new same payload_is shows =
    let object = new_row (frontier + 1) payload front in
    let reached = shows.reached in
    record {
      newest = same.checkpoint ∙ shows.newest;
      reached = omega (arith, reached);
      gone = shows.gone;
      kept = held_to frontier (frontier + 1) seen.held (omega arith) shows.kept;
      planned = planned_more frontier (frontier + 1) seen.plan (omega arith) shows.planned;
      rows_show = λ number.
          let more = row_added seen frontier payload front (omega (arith, reached)) shows.gone shows.kept shows.planned payload_is
          number (row_of number old.rows) (shows.rows_show number) in
          row_seen seen (frontier + 1) number (row_of number (old.rows ++ object ∷ []))
          (row_of number new.rows) (same_seen number (old.rows ++ object ∷ []) new.rows same.rows)
          (subst (RowShows seen (frontier + 1) number) (sym (row_of_more number old.rows object)) more);
    }

-- the next checkpoint is
pub checkpoint_settled : (seen : TableSeen) (after : PlainCheckpoint) (frontier : ℕ) (old : TableState)
    → after.number ≡ frontier + 1 → ((number : ℕ) → MapsLive after number (row_of number old.rows))
    → 0 ≡ seen.payload (frontier + 1) → RowsShow seen frontier old
    → RowsShow (with_newest after seen) (frontier + 1) (acknowledged (frontier + 1) old)
checkpoint_settled seen after frontier old is live payload_is shows =
    let object = new_row (frontier + 1) 0 0 in
    let now = with_newest after seen in
    let reached = shows.reached in
    let gone = All-weaker (λ (n : ℕ). n < seen.checkpoint.number) (λ (n : ℕ). n < after.number)
    (λ n low. omega (arith, low, reached, is)) seen.removed shows.gone in
    record {
      newest = sym is;
      reached = omega (arith, is);
      gone = gone;
      kept = held_to frontier (frontier + 1) seen.held (omega arith) shows.kept;
      planned = planned_more frontier (frontier + 1) seen.plan (omega arith) shows.planned;
      rows_show = λ number.
          let passed_is = row_passed seen after frontier number (row_of number old.rows) (omega (arith, is))
          (live number) (shows.rows_show number) in
          let there = subst (RowShows now frontier number)
          (sym (row_through passed number old.rows (λ r. refl))) passed_is in
          subst (RowShows now (frontier + 1) number) (sym (row_of_more number (map passed old.rows) object))
          (row_added now frontier 0 0 (omega (arith, is)) gone shows.kept shows.planned payload_is number
          (row_of number (map passed old.rows)) there);
    }

-- ---- what a table shows, by its rows

-- no object past the frontier has a row
none_above : (frontier number : ℕ) (rows : List ObjectRow) (found : Option ObjectRow) → row_of number rows ≡ found
    → All (λ (object : ObjectRow). object.number ≤ frontier) rows → frontier < number → found ≡ None
none_above frontier number rows None is all past = refl
none_above frontier number rows (Some row) is all past =
    let within = found_holds (λ (r : ObjectRow). r.number ≤ frontier) number rows row is all in
    absurd (omega (arith, within, its_number number rows row is, past))

-- each row has a live sector where this says so, and only there
abbrev pub HaveLive : (live : ℕ → ℕ) → List ObjectRow → Type 0
HaveLive live rows = (number : ℕ) → IfSome (row_of number rows) (λ row. 0 < live number → 0 < row.live)

abbrev pub LiveAre : (live : ℕ → ℕ) → List ObjectRow → Type 0
LiveAre live rows = (number : ℕ) → IfSome (row_of number rows) (λ row. 0 < row.live → 0 < live number)

own_live_by : (found : Option ObjectRow) → IfSome found (λ row. 0 < live_in found → 0 < row.live)
own_live_by None = tt
own_live_by (Some row) = λ some. some

pub its_live : (found : Option ObjectRow) → IfSome found (λ row. 0 < row.live → 0 < live_in found)
its_live None = tt
its_live (Some row) = λ some. some

pub has_own_live : (rows : List ObjectRow) → HaveLive (λ number. live_of number rows) rows
has_own_live rows number = own_live_by (row_of number rows)

payload_by_live : (payload live : ℕ) (found : Option ObjectRow) → IfSome found (λ row. 0 < live → 0 < row.live)
    → IfSome found (λ row. 0 < row.live → row.payload ≡ payload) → IfSome found (λ row. 0 < live → row.payload ≡ payload)
payload_by_live payload live None some shows = tt
payload_by_live payload live (Some row) some shows = λ is. shows (some is)

payload_of_live : (payload live : ℕ) (found : Option ObjectRow) → IfSome found (λ row. 0 < row.live → 0 < live)
    → IfSome found (λ row. 0 < live → row.payload ≡ payload) → IfSome found (λ row. 0 < row.live → row.payload ≡ payload)
payload_of_live payload live None some shows = tt
payload_of_live payload live (Some row) some shows = λ is. shows (some is)

-- the rows of a table that shows a volume show it, and the other way
pub rows_of_shown : (live : ℕ → ℕ) (uploads : UploadsState) (plain : PlainState) → IsUploads uploads
    → HaveLive live uploads.queue.maps.objects.rows → ShowsTable uploads.queue plain
    → RowsShow (seen_of live plain) uploads.queue.frontier uploads.queue.maps.objects
rows_of_shown live uploads plain is some shows =
    let rows = uploads.queue.maps.objects.rows in
    record {
      newest = shows.checkpoint;
      reached = omega (arith, shows.checkpoint, is.known.checkpoint);
      gone = shows.gone;
      kept = shows.kept;
      planned = shows.reached;
      rows_show = λ number. record {
        known = shows.known number;
        above = none_above uploads.queue.frontier number rows (row_of number rows) refl is.known.within;
        unmapped = shows.unmapped number;
        pins_are = shows.pins number;
        copied = shows.copied number;
        held_is = shows.held number;
        payload_is = payload_by_live (payload_of plain number) (live number) (row_of number rows) (some number)
            (shows.payload number);
      };
    }

pub shown_by_rows : (live : ℕ → ℕ) (new : QueueState) (now : PlainState) → new.removal ≡ now.removal
    → IfSome now.removal (λ number. times_pinned number now.pins ≡ 0) → LiveAre live new.maps.objects.rows
    → RowsShow (seen_of live now) new.frontier new.maps.objects → ShowsTable new now
shown_by_rows live new now removal free some rows = record {
  checkpoint = rows.newest;
  removal = removal;
  known = λ number. (rows.rows_show number).known;
  unmapped = λ number. (rows.rows_show number).unmapped;
  pins = λ number. (rows.rows_show number).pins_are;
  copied = λ number. (rows.rows_show number).copied;
  held = λ number. (rows.rows_show number).held_is;
  payload = λ number.
      payload_of_live (payload_of now number) (live number) (row_of number new.maps.objects.rows) (some number)
      (rows.rows_show number).payload_is;
  free = free;
  gone = rows.gone;
  kept = rows.kept;
  reached = rows.planned;
}
