-- The table of a list that was recovered shows what a mount makes of a plain volume, and goes on showing it with entries more.
use Rattle.std.proofs.Common.{◌≡◌, ℕ, ◌-◌, ◌<◌, ◌≤◌, ◌&&◌, not, nat_lt, Bool, true, false, Option, Some, None, List, []}
use Rattle.std.proofs.Common.{◌∷◌, length, take, get_or, refl, sym, ◌∙◌, ap, subst, arith}
use Rattle.std.specs.Prelude.{IfSome, IsTrue, ◌↔◌}
use Rattle.std.specs.List.{All}
use Rattle.std.proofs.lemmas.Bool.Decides.{nat_tests}
use Rattle.std.proofs.lemmas.List.Elements.{All-weaker}
use Rattle.lsvd_base.specs.declared.entry.Entry.{Entry}
use Rattle.object_stream.specs.Stream.{Owners, after_objects, is_own}
use Rattle.stopped_volume.specs.Opening.{IsCheckpointOf}
use Rattle.upload_window.specs.Window.{below_open}
use Rattle.object_table.specs.declared.row.ObjectRow.{ObjectRow}
use Rattle.object_table.specs.Table.{row_of}
use Rattle.object_table.proofs.Listed.{found_holds}
use Rattle.object_table.proofs.Rows.{its_number}
use Rattle.object_table.specs.Table.{TableState}
use Rattle.object_uploads.specs.Queue.{pins_of}
use Rattle.plain_disk.specs.State.{PlainState, PlainCheckpoint, stream_in, payload_of, frontier_of}
use Rattle.plain_disk.specs.Removals.{maps}
use Rattle.plain_disk.specs.Valid.{IsUnneeded, IsKeptByHold, IsPlainVolume}
use Rattle.plain_disk.proofs.CheckpointLemmas.{some_owns, owns_some}
use Rattle.object_recovery.specs.Checkpoints.{expected_of}
use Rattle.object_recovery.specs.Table.{HasPayloadThere}
use Rattle.object_recovery.proofs.LivePayloads.{live_payload}
use Rattle.obj_log.specs.State.{ObjLogState}
use Rattle.refine_objects.specs.Table.{passes_unmapped}
use Rattle.refine_objects.proofs.PayloadsOf.{payload_with_entries}
use Rattle.refine_objects.proofs.TableLemmas.{HasTableOf, same_table}
use Rattle.refine_mount.specs.Mounted.{end_of_object, mounted_without, going_on, AddsEntries}
use Rattle.refine_mount.proofs.CutPayloads.{payload_of_cut}
use Rattle.refine_mount.specs.Laws.{RecoveredShowsTable, EntriesKeepTable}

-- ---- what was recovered

-- of a table without pins, no row has one
pub none_pinned : (rows : List ObjectRow) (number : ℕ) (found : Option ObjectRow) → row_of number rows ≡ found
    → All (λ (row : ObjectRow). row.pins ≡ 0) rows → pins_of found ≡ 0
none_pinned rows number None is none = refl
none_pinned rows number (Some row) is none = found_holds (λ (row : ObjectRow). row.pins ≡ 0) number rows row is none

-- nor is one copied by a plan
pub none_copied : (rows : List ObjectRow) (number : ℕ) (found : Option ObjectRow) → row_of number rows ≡ found
    → All (λ (row : ObjectRow). row.is_copied ≡ false) rows → IfSome found (λ (row : ObjectRow). row.is_copied ≡ false)
none_copied rows number None is none = tt
none_copied rows number (Some row) is none = found_holds (λ (row : ObjectRow). row.is_copied ≡ false) number rows row is none

-- a checkpoint maps no object that owns none of its sectors, and the other way
unowned_unmapped : (checkpoint : PlainCheckpoint) (number : ℕ)
    → ((k : ℕ) → is_own number (get_or checkpoint.owned k None) ≡ false) → maps checkpoint number ≡ false
unowned_unmapped checkpoint number none =
    elim (maps checkpoint number) as (λ b. maps checkpoint number ≡ b → b ≡ false) [
      | true ↦ λ mapped. (
          let at = some_owns number checkpoint.owned mapped in
          let not_own = none at.0 in
          absurd cc)
      | false ↦ λ unmapped. refl
    ] refl

unmapped_unowned : (checkpoint : PlainCheckpoint) (number k : ℕ) → maps checkpoint number ≡ false
    → is_own number (get_or checkpoint.owned k None) ≡ false
unmapped_unowned checkpoint number k unmapped =
    elim (is_own number (get_or checkpoint.owned k None)) as (λ b.
    is_own number (get_or checkpoint.owned k None) ≡ b → b ≡ false) [
      | true ↦ λ owns. (let mapped = owns_some number checkpoint.owned k owns in absurd cc)
      | false ↦ λ other. refl
    ] refl

-- what is known of a row, as the plain volume's checkpoint says it
told_unmapped : (checkpoint : PlainCheckpoint) (owned : Owners) (number : ℕ) (unmapped : Bool)
    → ((k : ℕ) → get_or checkpoint.owned k None ≡ owned k)
    → (IsTrue unmapped ↔ ((number < checkpoint.number) × ((k : ℕ) → is_own number (owned k) ≡ false)))
    → unmapped ≡ passes_unmapped checkpoint number
told_unmapped checkpoint owned number true same told =
    let is = told.0 refl in
    let early : nat_lt number checkpoint.number ≡ true = (let low = is.0 in grind (arith, nat_tests)) in
    let left : maps checkpoint number ≡ false =
    unowned_unmapped checkpoint number (λ k. ap (is_own number) (same k) ∙ is.1 k) in
    rw (early, left) refl
told_unmapped checkpoint owned number false same told =
    elim (nat_lt number checkpoint.number) as (λ b. nat_lt number checkpoint.number ≡ b
    → false ≡ (b && not (maps checkpoint number))) [
      | true ↦ λ early. elim (maps checkpoint number) as (λ m. maps checkpoint number ≡ m → false ≡ not m) [
        | true ↦ λ mapped. refl
        | false ↦ λ left. (
            let low : number < checkpoint.number = grind (arith, nat_tests) in
            let is = told.1 (low, λ k. ap (is_own number) (sym (same k)) ∙ unmapped_unowned checkpoint number k left) in
            absurd cc)
      ] refl
      | false ↦ λ late. refl
    ] refl

row_told : (checkpoint : PlainCheckpoint) (owned : Owners) (number : ℕ) (found : Option ObjectRow)
    → ((k : ℕ) → get_or checkpoint.owned k None ≡ owned k)
    → IfSome found (λ (row : ObjectRow). IsTrue row.is_unmapped ↔ ((number < checkpoint.number)
    × ((k : ℕ) → is_own number (owned k) ≡ false)))
    → IfSome found (λ (row : ObjectRow). row.is_unmapped ≡ passes_unmapped checkpoint number)
row_told checkpoint owned number None same told = tt
row_told checkpoint owned number (Some row) same told = told_unmapped checkpoint owned number row.is_unmapped same told

-- where a volume opens at its newest checkpoint, that holds the owners that it opens with
opened_holds : (plain : PlainState) → IsPlainVolume plain → plain.checkpoint.number ≡ plain.number
    → (k : ℕ) → get_or plain.checkpoint.owned k None ≡ (stream_in plain).opening k
opened_holds plain valid opened k =
    let none : plain.checkpoint.number - plain.number ≡ 0 = omega (arith, opened) in
    valid.checkpoint.holds (omega (arith, opened)) k
    ∙ ap (λ (n : ℕ). after_objects plain.number plain.end plain.entries (stream_in plain).opening (take n plain.objects) k) none

-- what is known of the payload of a row that has a live sector is what the volume says
row_payload : (There : ℕ → Type 0) (found : Option ObjectRow) (payload : ℕ)
    → IfSome found (λ (row : ObjectRow). 0 < row.live → There row.payload)
    → ((row : ObjectRow) → found ≡ Some row → There row.payload → row.payload ≡ payload)
    → IfSome found (λ (row : ObjectRow). 0 < row.live → row.payload ≡ payload)
row_payload There None payload known same = tt
row_payload There (Some row) payload known same = λ live. same row refl (known live)

-- two tests that mean the same are the same
same_test : {A : Type 0} (a b : Bool) → (IsTrue a ↔ A) → (IsTrue b ↔ A) → a ≡ b
same_test true b first second = sym (second.1 (first.0 refl))
same_test false true first second = let is = first.1 (second.0 refl) in cc
same_test false false first second = refl

-- what is known of whether a hold keeps a row is what the volume says
row_held : {A : Type 0} (found : Option ObjectRow) (held : Bool) → (IsTrue held ↔ A)
    → IfSome found (λ (row : ObjectRow). IsTrue row.is_held ↔ A) → IfSome found (λ (row : ObjectRow). row.is_held ≡ held)
row_held None held same known = tt
row_held (Some row) held same known = same_test row.is_held held known same

pub recovered_shows_table : RecoveredShowsTable
recovered_shows_table uuid size plain number objects log valid has list last order table knows keeps =
    let rows = log.uploads.queue.maps.objects.rows in
    let stream = stream_in plain in
    let volume = expected_of uuid plain.geometry (length plain.chain) in
    let first = subst (λ n. IsCheckpointOf volume objects n stream.end stream.opening) (sym has.opened)
    has.stored.stored.opens.is.checkpoint in
    let frontier : frontier_of plain ≡ number = ap below_open has.window in
    record {
      checkpoint = table.checkpoint_is;
      removal = table.removal;
      known = λ other low high. knows.known other low high
          ∙ has.present other low (omega (arith, high, list.frontier, last));
      unmapped = λ other. row_told plain.checkpoint stream.opening other (row_of other rows) (opened_holds plain valid has.opened)
          (knows.unmapped stream.end stream.opening first other);
      pins = λ other. none_pinned rows other (row_of other rows) refl table.unpinned;
      copied = λ other. none_copied rows other (row_of other rows) refl table.not_copied;
      held = λ other. row_held (row_of other rows) _ (has.holds.same other) (keeps.says other);
      payload = λ other.
          row_payload (HasPayloadThere volume objects other) (row_of other rows)
          (payload_of (mounted_without size number plain) other)
          (live_payload log.uploads.uuid volume objects plain.checkpoint.number log.uploads.queue order.known knows other)
          (λ row at there.
          let within = found_holds (λ (r : ObjectRow). r.number ≤ log.uploads.queue.frontier) other rows row at order.known.within
          in
          let low : other ≤ number =
          omega (arith, within, its_number other rows row at, list.frontier, last) in
          has.payloads other row.payload low there
          ∙ sym (payload_of_cut plain number (end_of_object number plain) other valid
          (omega (arith, has.stored.stored.base, has.stored.stored.missing.above)) has.stored.stored.last (omega arith) low));
      free = tt;
      gone = All-weaker (IsUnneeded plain.checkpoint) (λ other. other < plain.checkpoint.number)
          (λ other unneeded. unneeded.before) plain.removed
          (subst (All (IsUnneeded plain.checkpoint)) has.gone valid.checkpoint.unneeded);
      kept = All-weaker (IsKeptByHold (frontier_of plain) plain.given_out) (λ other. other ≤ log.uploads.queue.frontier)
          (λ other is. omega (arith, is.acknowledged, frontier, list.frontier, last)) plain.held valid.held;
      reached = tt;
    }

-- ---- entries more

-- the table of a list does not change while entries are added
adds_keep : (data_at : ℕ → ℕ) (entries : List Entry) (old new : ObjLogState) → AddsEntries data_at entries old new
    → HasTableOf old.uploads.queue new.uploads.queue
adds_keep data_at [] old new same =
    let settled = same.uploads.settled in
    record {
      frontier = settled.frontier;
      rows = settled.places.objects;
      checkpoint = settled.places.checkpoint;
      removal = settled.removal;
    }
adds_keep data_at (entry ∷ entries) old new adds =
    let settled = adds.2.uploads.settled in
    let e = adds.4.entered in
    let rest = adds_keep data_at entries adds.1 new adds.5 in
    record {
      frontier = rest.frontier ∙ (e.frontier ∙ settled.frontier);
      rows = rest.rows ∙ (ap (λ (t : TableState). t.rows) e.objects ∙ settled.places.objects);
      checkpoint = rest.checkpoint ∙ (ap (λ (t : TableState). t.checkpoint) e.objects ∙ settled.places.checkpoint);
      removal = rest.removal ∙ (e.removal ∙ settled.removal);
    }

pub entries_keep_table : EntriesKeepTable
entries_keep_table data_at plain entries log old new valid shows adds =
    same_table old.uploads.queue new.uploads.queue plain (going_on entries log plain) (adds_keep data_at entries old new adds)
    (record {
      checkpoint = refl;
      removal = refl;
      removed = refl;
      pins = refl;
      plan = refl;
      held = refl;
      payloads = λ number row is. payload_with_entries plain entries number valid;
    }) shows
