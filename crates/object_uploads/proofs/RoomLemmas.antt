-- What room there is for the objects past the frontier.
use Rattle.std.proofs.Common.{◌≡◌, ◌+◌, ◌-◌, ◌<◌, ◌≤◌, ℕ, zero, suc, List, [], ◌∷◌, ◌++◌, length, drop, refl, sym, ◌∙◌, ap}
use Rattle.std.proofs.Common.{subst, arith, min}
use Rattle.std.specs.Prelude.{Option, Some, None, IsSome, option_map, option_to_list}
use Rattle.std.specs.List.{All, AllByRecursion, sum_by}
use Rattle.std.proofs.lemmas.List.Elements.{All-nil, All-cons}
use Rattle.std.proofs.lemmas.List.Sums.{sum_by-cons, sum_by_push}
use Rattle.lsvd_objstore.specs.Store.{ReceiptState}
use Rattle.object_format.specs.declared.copy_row.CopyRow.{CopyRow}
use Rattle.object_format.specs.declared.data_row.DataRow.{DataRow}
use Rattle.object_uploads.specs.declared.rows.SealedRows.{SealedRows}
use Rattle.volume_maps.specs.Maps.{MapsState}
use Rattle.object_uploads.specs.State.{SealedState, QueueState}
use Rattle.object_uploads.specs.Queue.{count_of_rows, row_count, with_at, FitsVolume, HasRoomForRows, HasRoomForObject}
use Rattle.object_uploads.specs.Queue.{CopyFitsVolume, IsWaiting, FirstWaits}
use Rattle.object_uploads.specs.Invariant.{MaySettle, AllMaySettle}
use Rattle.object_uploads.proofs.QueueLemmas.{rows_with, length-with}

-- the same objects, where no room was lost
pub room_kept : (old new : List SealedState) (before after : MapsState) → new ≡ old → before.settled.spare ≤ after.settled.spare
    → before.log.spare ≤ after.log.spare → HasRoomForRows old before → HasRoomForRows new after
room_kept old new before after same settled log room =
    let kept : HasRoomForRows old after = record {
      settled = omega (arith, room.settled, settled);
      log = omega (arith, room.log, log);
    } in
    subst (λ list. HasRoomForRows list after) (sym same) kept

pub room_same : (sealed : List SealedState) (before after : MapsState) → after.settled ≡ before.settled → after.log ≡ before.log
    → HasRoomForRows sealed before → HasRoomForRows sealed after
room_same sealed before after settled log room = record { settled = rw settled room.settled; log = rw log room.log }

-- where there is no object
pub room_none : (sealed : List SealedState) (maps : MapsState) → sealed ≡ [] → HasRoomForRows sealed maps
room_none sealed maps none =
    let sum : sum_by row_count sealed ≡ 0 = ap (sum_by row_count) none in
    record { settled = omega (arith, sum); log = omega (arith, sum) }

fits_with : (old : List SealedState) (object : SealedState) → AllMaySettle old → MaySettle object.rows
    → AllMaySettle (old ++ object ∷ [])
fits_with [] object fit fits = (fits, tt)
fits_with (sealed ∷ more) object fit fits = (fit.0, fits_with more object fit.1 fits)

pub fit_pushed : (old new : List SealedState) (object : SealedState) → new ≡ old ++ object ∷ [] → AllMaySettle old
    → MaySettle object.rows → AllMaySettle new
fit_pushed old new object same fit fits = subst AllMaySettle (sym same) (fits_with old object fit fits)

-- the rows of the objects with one more
pub rows_pushed : (old new : List SealedState) (object : SealedState) (rows all : ℕ) → new ≡ old ++ object ∷ []
    → rows ≡ sum_by row_count old → all ≡ rows + count_of_rows object.rows → all ≡ sum_by row_count new
rows_pushed old new object rows all same counted added =
    let sum = sum_by_push row_count old object in
    let now : all ≡ sum_by row_count (old ++ object ∷ []) = omega (arith, sum, counted, added) in
    subst (λ list. all ≡ sum_by row_count list) (sym same) now

-- one more object, where there is room for the rows of all
pub room_pushed : (old new : List SealedState) (object : SealedState) (all : ℕ) (before after : MapsState)
    → new ≡ old ++ object ∷ [] → all ≡ sum_by row_count new
    → all ≤ after.settled.spare → all ≤ after.log.spare → HasRoomForRows new after
room_pushed old new object all before after same counted settled log = record {
  settled = omega (arith, counted, settled);
  log = omega (arith, counted, log);
}

-- and the counts with it
pub counts_pushed : (sealed sealed_now out frontier receipts objects limit : ℕ) → sealed_now ≡ sealed + 1
    → sealed + out + 1 ≤ receipts → sealed + 1 ≤ objects → frontier + sealed + 1 < limit
    → (sealed_now + out ≤ receipts) × (sealed_now ≤ objects) × (frontier + sealed_now < limit)
counts_pushed sealed sealed_now out frontier receipts objects limit one_more fit fit_objects below =
    (omega arith, omega arith, omega arith)

-- ---- the first of the objects leaves

-- what is popped of objects of which the first is acknowledged
pub popped_some : (result : Option SealedState) (old rest : List SealedState) → old ≡ option_to_list result ++ rest
    → rest ≡ drop 1 old → (FirstWaits old → ⊥) → IsSome result
popped_some (Some first) old rest whole left waits = refl
popped_some None [] rest whole left waits = absurd (waits tt)
popped_some None (first ∷ more) rest whole left waits =
    let all = ap length whole in
    let one_less = ap length left in
    absurd (omega (arith, all, one_less))

pub popped : (result : Option SealedState) (old rest : List SealedState) (first : SealedState)
    → old ≡ option_to_list result ++ rest → result ≡ Some first → old ≡ first ∷ rest
popped result old rest first whole is = subst (λ r. old ≡ option_to_list r ++ rest) is whole

-- the store gave something for an acknowledged object
pub given_some : {A : Type 0} (state : A → ReceiptState) (given : Option A) (first : SealedState) (rest : List SealedState)
    → option_map state given ≡ first.receipt → (FirstWaits (first ∷ rest) → ⊥) → IsSome given
given_some state (Some receipt) first rest same waits = refl
given_some state None first rest same waits = absurd (waits (subst IsWaiting same tt))

-- the rows of the objects but for the first
pub rows_popped : (old rest : List SealedState) (first : SealedState) (rows taken : ℕ) → old ≡ first ∷ rest
    → rows ≡ sum_by row_count old → taken ≡ count_of_rows first.rows → rows ≡ taken + sum_by row_count rest
rows_popped old rest first rows taken same counted is =
    let sum = sum_by-cons row_count first rest in
    let whole : rows ≡ sum_by row_count (first ∷ rest) = subst (λ list. rows ≡ sum_by row_count list) same counted in
    omega (arith, sum, whole, is)

pub few_popped : (rows taken left : ℕ) → rows ≡ taken + left → taken ≤ rows
few_popped rows taken left is = omega arith

pub left_popped : (rows taken left : ℕ) → rows ≡ taken + left → rows - taken ≡ left
left_popped rows taken left is = omega arith

-- the first object fits, and so do the others
pub first_fits : (old rest : List SealedState) (first : SealedState) → old ≡ first ∷ rest → AllMaySettle old
    → MaySettle first.rows
first_fits old rest first same fit = let whole = subst AllMaySettle same fit in whole.0

pub rest_fit : (old rest : List SealedState) (first : SealedState) → old ≡ first ∷ rest → AllMaySettle old → AllMaySettle rest
rest_fit old rest first same fit = let whole = subst AllMaySettle same fit in whole.1

-- the objects past the first
pub room_popped : (old rest : List SealedState) (first : SealedState) (maps : MapsState) → old ≡ first ∷ rest
    → HasRoomForRows old maps → HasRoomForRows rest maps
room_popped old rest first maps same room =
    let whole : HasRoomForRows (first ∷ rest) maps = subst (λ list. HasRoomForRows list maps) same room in
    let sum = sum_by-cons row_count first rest in
    record {
      settled = omega (arith, sum, whole.settled);
      log = omega (arith, sum, whole.log);
    }

-- and their counts
pub counts_popped : (sealed rest out frontier receipts objects limit : ℕ) → sealed ≡ suc rest → sealed + out ≤ receipts
    → sealed ≤ objects → frontier + sealed < limit → (rest + out ≤ receipts) × (rest ≤ objects) × (frontier + rest < limit)
counts_popped sealed rest out frontier receipts objects limit one_less fit fit_objects below =
    (omega arith, omega arith, omega arith)

-- and a number for it
pub next_popped : (sealed rest frontier limit : ℕ) → sealed ≡ suc rest → frontier + sealed < limit → frontier + rest + 1 < limit
next_popped sealed rest frontier limit one_less below = omega arith

-- so there is room for an object with the rows of the first
pub popped_has_room : (old : List SealedState) (first : SealedState) (queue : QueueState) (rows : SealedRows)
    (out capacity receipts objects : ℕ) → rows ≡ first.rows → old ≡ first ∷ queue.sealed → HasRoomForRows old queue.maps
    → length old ≤ capacity → length old + out ≤ receipts → length old ≤ objects
    → queue.places
    ≡ min (min (capacity - length queue.sealed) (receipts - (length queue.sealed + out))) (objects - length queue.sealed)
    → HasRoomForObject rows queue
popped_has_room old first queue rows out capacity receipts objects own same room fit fit_receipts fit_objects places =
    let whole : HasRoomForRows (first ∷ queue.sealed) queue.maps = subst (λ list. HasRoomForRows list queue.maps) same room in
    let sum = sum_by-cons row_count first queue.sealed in
    let size : length old ≡ suc (length queue.sealed) = ap length same in
    record {
      place = omega (arith, size, places);
      settled = rw own (omega (arith, sum, whole.settled));
      log = rw own (omega (arith, sum, whole.log));
    }

-- ---- an object is settled

-- there is room for the rows of the others yet, where there was room for those of one more
pub room_settled : (sealed : List SealedState) (taken : ℕ) (before after : MapsState)
    → sum_by row_count sealed + taken ≤ before.settled.spare → sum_by row_count sealed + taken ≤ before.log.spare
    → before.settled.spare ≤ after.settled.spare + taken → before.log.spare ≤ after.log.spare + taken
    → HasRoomForRows sealed before → HasRoomForRows sealed after
room_settled sealed taken before after had had_log settled log room = record {
  settled = omega (arith, had, settled);
  log = omega (arith, had_log, log);
}

-- so there is after a copy, of which the log's map takes nothing
pub room_copied : (sealed : List SealedState) (taken : ℕ) (before after : MapsState)
    → sum_by row_count sealed + taken ≤ before.settled.spare → before.settled.spare ≤ after.settled.spare + taken
    → after.log ≡ before.log → HasRoomForRows sealed before → HasRoomForRows sealed after
room_copied sealed taken before after had settled log room = record {
  settled = omega (arith, had, settled);
  log = rw log room.log;
}

-- and the counts, where one more was settled
pub counts_settled : (sealed out frontier receipts receipts_now objects objects_now limit : ℕ) → sealed + out + 1 ≤ receipts
    → receipts ≤ receipts_now + 1 → sealed + 1 ≤ objects → objects_now ≡ objects - 1 → frontier + sealed + 1 < limit
    → (sealed + out ≤ receipts_now) × (sealed ≤ objects_now) × (frontier + 1 + sealed < limit)
counts_settled sealed out frontier receipts receipts_now objects objects_now limit fit less fit_objects less_objects below =
    (omega arith, omega arith, omega arith)

-- ---- one of the objects is changed

fit_with : (index : ℕ) (change : SealedState → SealedState) (list : List SealedState)
    → ((s : SealedState) → (change s).rows ≡ s.rows) → AllMaySettle list → AllMaySettle (with_at index change list)
fit_with index change [] same fit = fit
fit_with zero change (sealed ∷ more) same fit = (subst MaySettle (sym (same sealed)) fit.0, fit.1)
fit_with (suc index) change (sealed ∷ more) same fit = (fit.0, fit_with index change more same fit.1)

-- what a queue keeps, it keeps where an object has the rows that it had
pub kept_with : (index : ℕ) (change : SealedState → SealedState) (list now : List SealedState) (maps : MapsState)
    (rows out frontier receipts objects limit : ℕ) → now ≡ with_at index change list
    → ((s : SealedState) → (change s).rows ≡ s.rows)
    → HasRoomForRows list maps → rows ≡ sum_by row_count list → AllMaySettle list → length list + out ≤ receipts
    → length list ≤ objects → frontier + length list < limit
    → HasRoomForRows now maps × (rows ≡ sum_by row_count now) × AllMaySettle now × (length now + out ≤ receipts)
    × (length now ≤ objects) × (frontier + length now < limit)
kept_with index change list now maps rows out frontier receipts objects limit is same has counted may fit fit_objects below =
    let sum = rows_with index change list same in
    let size = ap length is ∙ length-with index change list in
    let kept : HasRoomForRows (with_at index change list) maps = record {
      settled = omega (arith, sum, has.settled);
      log = omega (arith, sum, has.log);
    } in (
      subst (λ l. HasRoomForRows l maps) (sym is) kept,
      counted ∙ (sym sum ∙ ap (sum_by row_count) (sym is)),
      subst AllMaySettle (sym is) (fit_with index change list same may),
      omega (arith, size, fit),
      omega (arith, size, fit_objects),
      omega (arith, size, below),
    )

-- ---- room for an object

-- a place for an object is one among the objects, one among the receipts and one in the table beside those of the others
pub place_parts : (sealed out capacity receipts objects : ℕ)
    → 1 ≤ min (min (capacity - sealed) (receipts - (sealed + out))) (objects - sealed)
    → (sealed < capacity) × (sealed + out + 1 ≤ receipts) × (sealed + 1 ≤ objects)
place_parts sealed out capacity receipts objects has = (omega (arith, has), omega (arith, has), omega (arith, has))

-- ---- the log's map is changed

-- there is room for the rows yet where there was room for one change more
pub room_entered : (sealed : List SealedState) (before after : MapsState) → sum_by row_count sealed + 1 ≤ before.log.spare
    → before.log.spare ≤ after.log.spare + 1 → after.settled ≡ before.settled → HasRoomForRows sealed before
    → HasRoomForRows sealed after
room_entered sealed before after room log same has = record {
  settled = rw same has.settled;
  log = omega (arith, room, log);
}

-- ---- where rows end

-- rows that fit a volume end at 2^31 at most, as the volume does
pub rows_end : (sectors : ℕ) (rows : List DataRow) → sectors ≤ 2147483648 → AllByRecursion (FitsVolume sectors) rows
    → All (λ (row : DataRow). row.lba + row.sectors ≤ 2147483648) rows
rows_end sectors [] most fit = All-nil (λ (row : DataRow). row.lba + row.sectors ≤ 2147483648)
rows_end sectors (row ∷ rows) most fit =
    let ends = fit.0.sectors_are in
    All-cons (λ (row : DataRow). row.lba + row.sectors ≤ 2147483648) row rows (omega (arith, most, ends))
    (rows_end sectors rows most fit.1)

-- and so do those of a copy
pub copies_end : (sectors : ℕ) (rows : List CopyRow) → sectors ≤ 2147483648 → AllByRecursion (CopyFitsVolume sectors) rows
    → All (λ (row : CopyRow). row.lba + row.sectors ≤ 2147483648) rows
copies_end sectors [] most fit = All-nil (λ (row : CopyRow). row.lba + row.sectors ≤ 2147483648)
copies_end sectors (row ∷ rows) most fit =
    let ends = fit.0.sectors_are in
    All-cons (λ (row : CopyRow). row.lba + row.sectors ≤ 2147483648) row rows (omega (arith, most, ends))
    (copies_end sectors rows most fit.1)
