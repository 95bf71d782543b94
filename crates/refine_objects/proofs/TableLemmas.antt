-- The table of a list shows a plain volume, and goes on showing it over the calls that leave the table as it is.
use Rattle.std.proofs.Common.{◌≡◌, ℕ, ◌≤◌, ◌<◌, ◌==◌, ◌&&◌, not, Bool, true, false, cond, Option, Some, None, List, [], ◌∷◌}
use Rattle.std.proofs.Common.{refl, sym, ◌∙◌, ap, subst, arith}
use Rattle.std.specs.Prelude.{IfSome, is_some, nat_lt}
use Rattle.std.proofs.lemmas.Bool.Decides.{nat_tests}
use Rattle.std.proofs.lemmas.List.Elements.{All-nil}
use Rattle.upload_window.specs.Window.{WindowState}
use Rattle.object_stream.specs.declared.object.Content.TheVariants.{Data}
use Rattle.object_stream.specs.Stream.{last_number}
use Rattle.object_table.specs.declared.row.ObjectRow.{ObjectRow}
use Rattle.object_table.specs.Table.{TableState, row_of, new_row}
use Rattle.object_table.proofs.Rows.{its_number}
use Rattle.object_table.proofs.Listed.{found_holds}
use Rattle.object_uploads.specs.State.{QueueState}
use Rattle.object_uploads.specs.Queue.{pins_of}
use Rattle.object_uploads.specs.Order.{IsUploads}
use Rattle.obj_log.specs.State.{ObjLogState}
use Rattle.plain_disk.specs.State.{PlainState, PlainCheckpoint, created_volume, stream_in, payload_of}
use Rattle.plain_disk.specs.Objects.{is_busy, has_unsealed, end_of_next, after_seal}
use Rattle.plain_disk.specs.Valid.{IsPlainVolume}
use Rattle.plain_disk.proofs.EndLemmas.{frontier_is_sealed}
use Rattle.refine_objects.specs.Shows.{ShowsObjects}
use Rattle.refine_objects.specs.Table.{passes_unmapped, ShowsTable}
use Rattle.refine_objects.specs.TableLaws.{NewTableShowsCreated, TableShownWithOtherCache, RoomShowsSameTable, AddedShowsTable}
use Rattle.refine_objects.specs.TableLaws.{SealedShowsTable, TakenShowsTable, FailedShowsTable}
use Rattle.refine_objects.proofs.ShowLemmas.{shown_have_counts}
use Rattle.refine_objects.proofs.SealLemmas.{with_sealed}
use Rattle.refine_objects.proofs.PayloadsOf.{payload_with_entries, payload_with_object}

-- ---- the same table

-- what a table with these rows shows is the same of two plain volumes
pub record HasSameTable (rows : List ObjectRow) (plain now : PlainState) : Type 0 where
  pub checkpoint : now.checkpoint ≡ plain.checkpoint
  pub removal : now.removal ≡ plain.removal
  pub removed : now.removed ≡ plain.removed
  pub pins : now.pins ≡ plain.pins
  pub plan : now.plan ≡ plain.plan
  pub held : now.held ≡ plain.held
  pub payloads : (number : ℕ) (row : ObjectRow) → row_of number rows ≡ Some row → payload_of now number ≡ payload_of plain number

-- and of two lists
pub record HasTableOf (old new : QueueState) : Type 0 where
  pub frontier : new.frontier ≡ old.frontier
  pub rows : new.maps.objects.rows ≡ old.maps.objects.rows
  pub checkpoint : new.maps.objects.checkpoint ≡ old.maps.objects.checkpoint
  pub removal : new.removal ≡ old.removal

payload_by : (old new : ℕ) (found : Option ObjectRow) → ((row : ObjectRow) → found ≡ Some row → new ≡ old)
    → IfSome found (λ row. 0 < row.live → row.payload ≡ old) → IfSome found (λ row. 0 < row.live → row.payload ≡ new)
payload_by old new None same shows = tt
payload_by old new (Some row) same shows = λ some. shows some ∙ sym (same row refl)

pub same_table : (old new : QueueState) (plain now : PlainState) → HasTableOf old new
    → HasSameTable old.maps.objects.rows plain now
    → ShowsTable old plain → ShowsTable new now
same_table old new plain now of same shows = record {
  checkpoint = of.checkpoint ∙ (shows.checkpoint ∙ ap (λ (c : PlainCheckpoint). c.number) (sym same.checkpoint));
  removal = of.removal ∙ (shows.removal ∙ sym same.removal);
  known = λ number low high. rw (of.rows, same.removed)
      (shows.known number low (subst (λ n. number ≤ n) of.frontier high));
  unmapped = λ number. rw (of.rows, same.checkpoint) (shows.unmapped number);
  pins = λ number. rw (of.rows, same.pins) (shows.pins number);
  copied = λ number. rw (of.rows, same.plan) (shows.copied number);
  held = λ number. rw (of.rows, same.held) (shows.held number);
  payload = λ number. rw of.rows (payload_by (payload_of plain number) (payload_of now number)
      (row_of number old.maps.objects.rows) (same.payloads number) (shows.payload number));
  free = rw (same.removal, same.pins) shows.free;
  gone = rw (same.checkpoint, same.removed) shows.gone;
  kept = rw (of.frontier, same.held) shows.kept;
  reached = rw (of.frontier, same.plan) shows.reached;
}

-- a plain volume with another cache, other places or another window shows the same
pub same_itself : (rows : List ObjectRow) (plain : PlainState) → HasSameTable rows plain plain
same_itself rows plain = record {
  checkpoint = refl;
  removal = refl;
  removed = refl;
  pins = refl;
  plan = refl;
  held = refl;
  payloads = λ number row is. refl;
}

same_either : (rows : List ObjectRow) (b : Bool) (plain now : PlainState) → HasSameTable rows plain now
    → HasSameTable rows plain (cond b now plain)
same_either rows true plain now same = same
same_either rows false plain now same = same_itself rows plain

-- the window does not matter
same_window : (rows : List ObjectRow) (plain : PlainState) (window : WindowState)
    → HasSameTable rows plain (record plain { window = window })
same_window rows plain window = record {
  checkpoint = refl;
  removal = refl;
  removed = refl;
  pins = refl;
  plan = refl;
  held = refl;
  payloads = λ number row is. refl;
}

-- the object of a row was sealed
pub row_is_sealed : (data_at : ℕ → ℕ) (objects : ObjLogState) (plain : PlainState) → IsUploads objects.uploads
    → IsPlainVolume plain → ShowsObjects data_at objects plain → (number : ℕ) (row : ObjectRow)
    → row_of number objects.uploads.queue.maps.objects.rows ≡ Some row → number ≤ last_number (stream_in plain)
row_is_sealed data_at objects plain uploads valid shows number row at =
    let rows = objects.uploads.queue.maps.objects.rows in
    let counts = shown_have_counts data_at objects plain uploads valid shows in
    let within = found_holds (λ (r : ObjectRow). r.number ≤ objects.uploads.queue.frontier) number rows row at
    uploads.known.within in
    omega (arith, within, its_number number rows row at, counts.frontier, frontier_is_sealed plain valid)

-- ---- a new volume

one_known : (test : Bool) (number : ℕ) → (1 == number) ≡ test → 1 ≤ number → number ≤ 1
    → is_some (row_of number (new_row 1 0 0 ∷ [])) ≡ true
one_known true number test low high = rw test refl
one_known false number test low high = absurd (grind (arith, nat_tests))

one_unmapped : (test : Bool) (number : ℕ) → (1 == number) ≡ test → IfSome (row_of number (new_row 1 0 0 ∷ [])) (λ row.
    row.is_unmapped ≡ passes_unmapped (record { number = 1; owned = [] }) number)
one_unmapped true number test =
    let past : nat_lt number 1 ≡ false = grind (arith, nat_tests) in
    rw (test, past) refl
one_unmapped false number test = rw test tt

one_pins : (test : Bool) (number : ℕ) → (1 == number) ≡ test → pins_of (row_of number (new_row 1 0 0 ∷ [])) ≡ 0
one_pins true number test = rw test refl
one_pins false number test = rw test refl

one_copied : (test : Bool) (number : ℕ) → (1 == number) ≡ test → IfSome (row_of number (new_row 1 0 0 ∷ [])) (λ row.
    row.is_copied ≡ false)
one_copied true number test = rw test refl
one_copied false number test = rw test tt

one_held : (test : Bool) (number : ℕ) → (1 == number) ≡ test → IfSome (row_of number (new_row 1 0 0 ∷ [])) (λ row.
    row.is_held ≡ false)
one_held true number test = rw test refl
one_held false number test = rw test tt

one_payload : (test : Bool) (number : ℕ) (payload : ℕ) → (1 == number) ≡ test
    → IfSome (row_of number (new_row 1 0 0 ∷ [])) (λ row. 0 < row.live → row.payload ≡ payload)
one_payload true number payload test = rw test (λ some. absurd (omega arith))
one_payload false number payload test = rw test tt

pub new_table_shows_created : NewTableShowsCreated
new_table_shows_created queue geometry frontier rows checkpoint removal = record {
  checkpoint = checkpoint;
  removal = removal;
  known = λ number low high. rw rows (one_known (1 == number) number refl low (subst (λ n. number ≤ n) frontier high));
  unmapped = λ number. rw rows (one_unmapped (1 == number) number refl);
  pins = λ number. rw rows (one_pins (1 == number) number refl);
  copied = λ number. rw rows (one_copied (1 == number) number refl);
  held = λ number. rw rows (one_held (1 == number) number refl);
  payload = λ number. rw rows (one_payload (1 == number) number (payload_of (created_volume geometry) number) refl);
  free = tt;
  gone = All-nil (λ (number : ℕ). number < 1);
  kept = All-nil (λ (number : ℕ). number ≤ queue.frontier);
  reached = tt;
}

-- ---- calls that leave it

pub table_shown_with_other_cache : TableShownWithOtherCache
table_shown_with_other_cache queue plain cache shows =
    same_table queue queue plain (record plain { cache = cache })
    (record { frontier = refl; rows = refl; checkpoint = refl; removal = refl })
    (record {
      checkpoint = refl;
      removal = refl;
      removed = refl;
      pins = refl;
      plan = refl;
      held = refl;
      payloads = λ number row is. refl;
    }) shows

pub room_shows_same_table : RoomShowsSameTable
room_shows_same_table old new plain same shows =
    let settled = same.uploads.settled in
    same_table old.uploads.queue new.uploads.queue plain plain
    (record {
      frontier = settled.frontier;
      rows = settled.places.objects;
      checkpoint = settled.places.checkpoint;
      removal = settled.removal;
    }) (same_itself old.uploads.queue.maps.objects.rows plain) shows

pub added_shows_table : AddedShowsTable
added_shows_table old new plain entry data_at added valid shows =
    let e = added.entered in
    same_table old.uploads.queue new.uploads.queue plain _
    (record {
      frontier = e.frontier;
      rows = ap (λ (t : TableState). t.rows) e.objects;
      checkpoint = ap (λ (t : TableState). t.checkpoint) e.objects;
      removal = e.removal;
    })
    (record {
      checkpoint = refl;
      removal = refl;
      removed = refl;
      pins = refl;
      plan = refl;
      held = refl;
      payloads = λ number row is. payload_with_entries plain (entry ∷ []) number valid;
    }) shows

pub sealed_shows_table : SealedShowsTable
sealed_shows_table data_at old new plain uploads valid shows sealed =
    let settled = sealed.uploads.settled in
    let rows = old.uploads.queue.maps.objects.rows in
    same_table old.uploads.queue new.uploads.queue plain (after_seal plain)
    (record {
      frontier = settled.frontier;
      rows = settled.places.objects;
      checkpoint = settled.places.checkpoint;
      removal = settled.removal;
    })
    (same_either rows (has_unsealed plain && not (is_busy plain)) plain (with_sealed plain)
    (record {
      checkpoint = refl;
      removal = refl;
      removed = refl;
      pins = refl;
      plan = refl;
      held = refl;
      payloads = λ number row is.
          payload_with_object plain (record { content = Data; end = end_of_next plain }) number valid
          (row_is_sealed data_at old plain uploads valid shows.objects number row is);
    })) shows.table

pub taken_shows_table : TakenShowsTable
taken_shows_table uploads plain number shows =
    same_table uploads.queue _ plain _ (record { frontier = refl; rows = refl; checkpoint = refl; removal = refl })
    (same_window uploads.queue.maps.objects.rows plain _) shows

pub failed_shows_table : FailedShowsTable
failed_shows_table uploads plain number shows =
    same_table uploads.queue _ plain _ (record { frontier = refl; rows = refl; checkpoint = refl; removal = refl })
    (same_window uploads.queue.maps.objects.rows plain _) shows
