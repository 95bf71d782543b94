-- The table of a recovered list: which objects it has, and what it says of them once one more is adopted.
use Rattle.std.proofs.Common.{◌≡◌, ℕ, ◌+◌, ◌-◌, ◌<◌, ◌≤◌, ◌==◌, ◌&&◌, inl, inr, true, false, cond, Option, Some, None, List, []}
use Rattle.std.proofs.Common.{◌∷◌}
use Rattle.std.proofs.Common.{◌++◌}
use Rattle.std.proofs.Common.{map, refl, sym, ◌∙◌, ap, subst, arith}
use Rattle.std.specs.Prelude.{IsTrue, is_some, IfSome, ◌↔◌}
use Rattle.std.specs.List.{All}
use Rattle.std.proofs.lemmas.Bool.{cases_lt}
use Rattle.std.proofs.lemmas.Bool.Decides.{nat_tests}
use Rattle.std.proofs.lemmas.List.Elements.{All-nil, All-cons, All-head, All-tail, All-push, All-weaker}
use Rattle.lsvd_objstore.specs.Objects.{Objects}
use Rattle.lsvd_objstore.specs.Store.{ReceiptState}
use Rattle.object_format.specs.declared.copy_row.CopyRow.{CopyRow}
use Rattle.object_format.specs.declared.data_row.DataRow.{DataRow}
use Rattle.object_format.specs.declared.expected.Expected.{Expected}
use Rattle.object_stream.specs.Stream.{Owners, is_own}
use Rattle.stopped_volume.specs.Objects.{landed_in}
use Rattle.stopped_volume.specs.Opening.{IsCheckpointOf}
use Rattle.object_table.specs.declared.row.ObjectRow.{ObjectRow}
use Rattle.object_table.specs.Table.{row_of, new_row, added}
use Rattle.object_table.proofs.Rows.{its_number}
use Rattle.object_table.proofs.Listed.{found_holds}
use Rattle.extent_map.specs.Extents.{is_within}
use Rattle.volume_maps.specs.declared.place.ObjectPlace.{ObjectPlace}
use Rattle.volume_maps.specs.Live.{but_live, is_live, HasSameObjects}
use Rattle.volume_maps.specs.Maps.{settled_at, row_object_place, settled_by_row, settled_by, settled_by_copy_row, settled_by_copy}
use Rattle.object_uploads.specs.State.{QueueState}
use Rattle.object_uploads.specs.declared.rows.SealedRows.{SealedRows}
use Rattle.object_uploads.specs.declared.rows.SealedRows.TheVariants as sealed_rows
use Rattle.object_uploads.specs.Queue.{is_checkpoint, IsNextSettled}
use Rattle.object_uploads.proofs.DeadRows.{row_seen}
use Rattle.object_uploads.proofs.StoredLemmas.{first_row}
use Rattle.lsvd_base.specs.declared.geometry.Geometry.{Geometry}
use Rattle.obj_log.specs.State.{ObjLogState}
use Rattle.obj_log.specs.Changes.{expected_of_volume}
use Rattle.object_recovery.specs.Adoption.{AdoptsNext, KeepsKnown, KeepsTable}
use Rattle.object_recovery.specs.Recovery.{IsListUpTo}
use Rattle.object_recovery.specs.Table.{HasTableUnheld, HasPayloadThere, ArePayloadsThere, IsUpTo, KnowsObjects}
use Rattle.object_recovery.proofs.AdoptionLemmas.{no_checkpoint}
use Rattle.object_recovery.proofs.PayloadLemmas.{joined_payload, joined_front, payload_there}
use Rattle.object_recovery.proofs.PlaceLemmas.{so_some, some_so}

-- ---- the row of a number

-- where each is there if the other is
pub same_presence : {A B : Type 0} (a : Option A) (b : Option B) → ((x : A) → a ≡ Some x → IsTrue (is_some b))
    → ((y : B) → b ≡ Some y → IsTrue (is_some a)) → is_some a ≡ is_some b
same_presence None None there back = refl
same_presence None (Some y) there back = back y refl
same_presence (Some x) None there back = sym (there x refl)
same_presence (Some x) (Some y) there back = refl

-- another number's row is as before once one more came
pub row_of_other : (number : ℕ) (rows : List ObjectRow) (row : ObjectRow) → (row.number ≡ number → ⊥)
    → row_of number (rows ++ row ∷ []) ≡ row_of number rows
row_of_other number [] row other =
    let test : (row.number == number) ≡ false = grind (arith, nat_tests) in
    first_row false row [] number test
row_of_other number (first ∷ rows) row other =
    let test = first.number == number in
    first_row test first (rows ++ row ∷ []) number refl
    ∙ ap (λ more. cond test (Some first) more) (row_of_other number rows row other)
    ∙ sym (first_row test first rows number refl)

-- and its own is there
pub row_of_last : (rows : List ObjectRow) (row : ObjectRow) → All (λ (r : ObjectRow). r.number < row.number) rows
    → row_of row.number (rows ++ row ∷ []) ≡ Some row
row_of_last [] row low =
    let test : (row.number == row.number) ≡ true = grind (arith, nat_tests) in
    first_row true row [] row.number test
row_of_last (first ∷ rows) row low =
    let less = All-head (λ (r : ObjectRow). r.number < row.number) first rows low in
    let test : (first.number == row.number) ≡ false = grind (arith, nat_tests) in
    first_row false first (rows ++ row ∷ []) row.number test
    ∙ row_of_last rows row (All-tail (λ (r : ObjectRow). r.number < row.number) first rows low)

-- ---- places

-- a row puts sectors into its own object alone
no_other : (number : ℕ) (at : Option ℕ) (i : ℕ) (place : ObjectPlace) → (place.level ≡ 0 → place.number ≡ number → ⊥)
    → row_object_place number at i ≡ Some place → ⊥
no_other number None i place other is = cc
no_other number (Some at) i place other is =
    let own : ObjectPlace = record { level = 0; number = number; sector = at + i } in
    let same : own ≡ place = cc in
    other (sym (ap (λ (p : ObjectPlace). p.level) same)) (sym (ap (λ (p : ObjectPlace). p.number) same))

-- so where a sector is in another object once they were settled, it was there before
was_settled : (number : ℕ) (rows : List DataRow) (before : Option ObjectPlace) (k : ℕ) (place : ObjectPlace)
    → (place.level ≡ 0 → place.number ≡ number → ⊥) → settled_by number rows before k ≡ Some place → before ≡ Some place
was_settled number [] before k place other is = is
was_settled number (row ∷ rows) before k place other is =
    elim (is_within row.lba row.sectors k) as (λ b.
    cond b (row_object_place number row.place (k - row.lba)) before ≡ Some place → before ≡ Some place) [
      | true ↦ λ own. absurd (no_other number row.place (k - row.lba) place other own)
      | false ↦ λ was. was
    ] (was_settled number rows (settled_by_row number row before k) k place other is)

-- so it is once the copy of a number was
was_in_copy_row : (number : ℕ) (row : CopyRow) (before : Option ObjectPlace) (k : ℕ) (place : ObjectPlace)
    → (place.level ≡ 0 → place.number ≡ number → ⊥) → settled_by_copy_row number row before k ≡ Some place → before ≡ Some place
was_in_copy_row number row before k place other is =
    let own : ObjectPlace = record { level = 0; number = number; sector = row.place + (k - row.lba) } in
    elim (is_within row.lba row.sectors k && is_live row.source.number before) as (λ b.
    cond b (Some own) before ≡ Some place → before ≡ Some place) [
      | true ↦ λ is_own.
          let same : own ≡ place = cc in
          absurd (other (sym (ap (λ (p : ObjectPlace). p.level) same)) (sym (ap (λ (p : ObjectPlace). p.number) same)))
      | false ↦ λ was. was
    ] is

was_copied : (number : ℕ) (rows : List CopyRow) (before : Option ObjectPlace) (k : ℕ) (place : ObjectPlace)
    → (place.level ≡ 0 → place.number ≡ number → ⊥) → settled_by_copy number rows before k ≡ Some place → before ≡ Some place
was_copied number [] before k place other is = is
was_copied number (row ∷ rows) before k place other is =
    was_in_copy_row number row before k place other
    (was_copied number rows (settled_by_copy_row number row before k) k place other is)

-- ---- an object that joins the table

-- the next object joined the table, and each sector that is in another one was there before
pub record HasJoined (payload front : ℕ) (old new : QueueState) : Type 0 where
  pub objects : HasSameObjects (added (new_row (old.frontier + 1) payload front) old.maps.objects) new.maps.objects
  pub frontier : new.frontier ≡ old.frontier + 1
  pub removal : new.removal ≡ old.removal
  pub was : (k : ℕ) (place : ObjectPlace) → (place.level ≡ 0 → place.number ≡ old.frontier + 1 → ⊥)
      → settled_at new.maps k ≡ Some place → settled_at old.maps k ≡ Some place

pub has_joined : (rows : SealedRows) (end : ℕ) (receipt : ReceiptState) (old new : QueueState) → is_checkpoint rows ≡ false
    → IsNextSettled rows end receipt old new → HasJoined (joined_payload receipt.size rows) (joined_front rows) old new
has_joined (sealed_rows.Data list) end receipt old new other next = record {
  objects = next.maps.objects;
  frontier = next.frontier;
  removal = next.removal;
  was = λ k place elsewhere at.
      was_settled (old.frontier + 1) list.items (settled_at old.maps k) k place elsewhere (sym (next.maps.settled k) ∙ at);
}
has_joined (sealed_rows.Copy list) end receipt old new other next = record {
  objects = next.maps.objects;
  frontier = next.frontier;
  removal = next.removal;
  was = λ k place elsewhere at.
      was_copied (old.frontier + 1) list.items (settled_at old.maps k) k place elsewhere (sym (next.maps.settled k) ∙ at);
}
has_joined sealed_rows.Checkpoint end receipt old new other next = absurd cc

-- ---- pins and plans

abbrev pub AreUnpinned : List ObjectRow → Type 0
AreUnpinned rows = All (λ (row : ObjectRow). row.pins ≡ 0) rows

abbrev pub AreNotCopied : List ObjectRow → Type 0
AreNotCopied rows = All (λ (row : ObjectRow). row.is_copied ≡ false) rows

abbrev pub AreUnheld : List ObjectRow → Type 0
AreUnheld rows = All (λ (row : ObjectRow). row.is_held ≡ false) rows

-- what holds of rows holds of others that look the same
pub all_same : (seen : ObjectRow → ObjectRow) (Is : ObjectRow → Type 0) → ((x y : ObjectRow) → seen x ≡ seen y → Is y → Is x)
    → (new old : List ObjectRow) → map seen new ≡ map seen old → All Is old → All Is new
all_same seen Is keeps [] old same all = All-nil Is
all_same seen Is keeps (x ∷ new) [] same all = absurd cc
all_same seen Is keeps (x ∷ new) (y ∷ old) same all =
    let head : seen x ≡ seen y = cc in
    let tail : map seen new ≡ map seen old = cc in
    All-cons Is x new (keeps x y head (All-head Is y old all)) (all_same seen Is keeps new old tail (All-tail Is y old all))

-- so it is with rows that differ in live sectors alone

pub unpinned_same : (new old : List ObjectRow) → map but_live new ≡ map but_live old → AreUnpinned old → AreUnpinned new
unpinned_same new old same none =
    all_same but_live (λ (row : ObjectRow). row.pins ≡ 0) (λ x y is was. ap (λ (row : ObjectRow). row.pins) is ∙ was) new old
    same none

pub not_copied_same : (new old : List ObjectRow) → map but_live new ≡ map but_live old → AreNotCopied old → AreNotCopied new
not_copied_same new old same none =
    all_same but_live (λ (row : ObjectRow). row.is_copied ≡ false)
    (λ x y is was. ap (λ (row : ObjectRow). row.is_copied) is ∙ was) new old same none

pub unheld_same : (new old : List ObjectRow) → map but_live new ≡ map but_live old → AreUnheld old → AreUnheld new
unheld_same new old same none =
    all_same but_live (λ (row : ObjectRow). row.is_held ≡ false)
    (λ x y is was. ap (λ (row : ObjectRow). row.is_held) is ∙ was) new old same none

-- ---- the next object is adopted

module _ (payload front : ℕ) (old new : QueueState) (next : HasJoined payload front old new)
    (within : All (λ (row : ObjectRow). row.number ≤ old.frontier) old.maps.objects.rows) where
  abbrev number : ℕ
  number = old.frontier + 1

  abbrev own : ObjectRow
  own = new_row number payload front

  abbrev rows : List ObjectRow
  rows = old.maps.objects.rows

  abbrev all : List ObjectRow
  all = rows ++ own ∷ []

  -- but for live sectors the table has that one more
  was : (n : ℕ) (row : ObjectRow) → row_of n new.maps.objects.rows ≡ Some row
      → (other : ObjectRow) × (row_of n all ≡ Some other) × (but_live other ≡ but_live row)
  was n row at =
      row_seen but_live n new.maps.objects.rows all row (λ r. refl) (sym next.objects.rows) at

  now : (n : ℕ) (row : ObjectRow) → row_of n all ≡ Some row → IsTrue (is_some (row_of n new.maps.objects.rows))
  now n row at =
      let there = row_seen but_live n all new.maps.objects.rows row (λ r. refl) next.objects.rows at in
      ap is_some there.1

  pub table_kept : (checkpoint : ℕ) → old.maps.objects.checkpoint ≤ old.frontier → HasTableUnheld checkpoint old
      → HasTableUnheld checkpoint new
  table_kept checkpoint low has =
      let was = has.table in
      record {
        table = record {
          checkpoint_is = next.objects.checkpoint ∙ was.checkpoint_is;
          removal = next.removal ∙ was.removal;
          unpinned =
              unpinned_same new.maps.objects.rows all next.objects.rows
              (All-push (λ (row : ObjectRow). row.pins ≡ 0) rows own was.unpinned refl);
          not_copied =
              not_copied_same new.maps.objects.rows all next.objects.rows
              (All-push (λ (row : ObjectRow). row.is_copied ≡ false) rows own was.not_copied refl);
          exact = λ at. absurd (omega (arith, at, next.frontier, was.checkpoint_is, low));
        };
        unheld =
            unheld_same new.maps.objects.rows all next.objects.rows
            (All-push (λ (row : ObjectRow). row.is_held ≡ false) rows own has.unheld refl);
      }

  own_last : row_of number all ≡ Some own
  own_last =
      row_of_last rows own (All-weaker (λ (row : ObjectRow). row.number ≤ old.frontier)
      (λ (row : ObjectRow). row.number < number) (λ row low. omega (arith, low)) rows within)

  other_row : (n : ℕ) → n ≤ old.frontier → row_of n all ≡ row_of n rows
  other_row n low = row_of_other n rows own (λ same. omega (arith, same, low))

  module _ (volume : Expected) (objects : Objects) (base : ℕ) (there : HasPayloadThere volume objects number payload)
      (from : base ≤ old.frontier) (knows : KnowsObjects volume objects base old) where
    still_known : (n : ℕ) → n ≤ old.frontier → is_some (row_of n new.maps.objects.rows) ≡ is_some (row_of n rows)
    still_known n low =
        same_presence (row_of n new.maps.objects.rows) (row_of n rows)
        (λ row at. let other = was n row at in ap is_some (sym (other_row n low) ∙ other.1))
        (λ row at. now n row (other_row n low ∙ at))

    known : (n : ℕ) → 1 ≤ n → n ≤ new.frontier
        → is_some (row_of n new.maps.objects.rows) ≡ landed_in objects volume n
    known n some to =
        elim (cases_lt old.frontier n) [
          | inl high ↦ (
              let last : n ≡ number = omega (arith, high, to, next.frontier) in
              let own_row : IsTrue (is_some (row_of number new.maps.objects.rows)) = now number own own_last in
              subst (λ m. is_some (row_of m new.maps.objects.rows) ≡ landed_in objects volume m) (sym last)
              (own_row ∙ sym (ap is_some there.present)))
          | inr low ↦ still_known n low ∙ knows.known n some low
        ]

    -- what the newest checkpoint maps is as before of each object, and it came before this one
    abbrev Unmapped : Owners → ℕ → Type 0
    Unmapped owned n = (n < base) × ((k : ℕ) → is_own n (owned k) ≡ false)

    last_number : (n : ℕ) (row : ObjectRow) → row_of n all ≡ Some row → n ≤ number
    last_number n row at =
        let low = found_holds (λ (r : ObjectRow). r.number ≤ number) n all row at
        (All-push (λ (r : ObjectRow). r.number ≤ number) rows own
        (All-weaker (λ (r : ObjectRow). r.number ≤ old.frontier) (λ (r : ObjectRow). r.number ≤ number)
        (λ r less. omega (arith, less)) rows within) (omega arith)) in
        omega (arith, low, its_number n all row at)

    unmapped_at : (owned : Owners) (end : ℕ) → IsCheckpointOf volume objects base end owned → (n : ℕ) (row : ObjectRow)
        → row_of n all ≡ Some row → IsTrue row.is_unmapped ↔ Unmapped owned n
    unmapped_at owned end checkpoint n row at =
        elim (cases_lt old.frontier n) [
          | inl high ↦ (
              let last : n ≡ number = omega (arith, high, last_number n row at) in
              let is : Some row ≡ Some own = sym at ∙ ap (λ m. row_of m all) last ∙ own_last in
              let same : row ≡ own = cc in
              let mapped : row.is_unmapped ≡ false = ap (λ (r : ObjectRow). r.is_unmapped) same in
              (λ unmapped. absurd cc, λ both. absurd (omega (arith, both.0, from, high))))
          | inr low ↦
              some_so (λ (r : ObjectRow). IsTrue r.is_unmapped ↔ Unmapped owned n) (row_of n rows)
              (knows.unmapped end owned checkpoint n) row (sym (other_row n low) ∙ at)
        ]

    was_there : (k : ℕ) (place : ObjectPlace) → settled_at new.maps k ≡ Some place → IsUpTo base place
        → settled_at old.maps k ≡ Some place
    was_there k place at low =
        next.was k place (λ own same. omega (arith, same, low own, from)) at

    -- each object that the map has a sector in has the payload of its row
    payload_at : (n : ℕ) (other : ObjectRow) → row_of n all ≡ Some other
        → ((n ≡ number → ⊥) → IfSome (row_of n rows) (λ (r : ObjectRow). HasPayloadThere volume objects n r.payload))
        → HasPayloadThere volume objects n other.payload
    payload_at n other at before =
        elim (cases_lt old.frontier n) [
          | inl high ↦ (
              let last : n ≡ number = omega (arith, high, last_number n other at) in
              let is : Some other ≡ Some own = sym at ∙ ap (λ m. row_of m all) last ∙ own_last in
              let same : other ≡ own = cc in
              subst (λ m. HasPayloadThere volume objects m other.payload) (sym last)
              (subst (HasPayloadThere volume objects number) (sym (ap (λ (r : ObjectRow). r.payload) same)) there))
          | inr low ↦
              some_so (λ (r : ObjectRow). HasPayloadThere volume objects n r.payload) (row_of n rows)
              (before (λ last. omega (arith, last, low))) other (sym (other_row n low) ∙ at)
        ]

    payloads : ArePayloadsThere volume objects new
    payloads k place at level =
        let n = place.number in
        so_some (λ (r : ObjectRow). HasPayloadThere volume objects n r.payload) (row_of n new.maps.objects.rows)
        (λ row its.
        let other = was n row its in
        subst (HasPayloadThere volume objects n) (ap (λ (r : ObjectRow). r.payload) other.2)
        (payload_at n other.0 other.1 (λ elsewhere. knows.payloads k place (next.was k place (λ own. elsewhere) at) level)))

    pub knows_kept : KnowsObjects volume objects base new
    knows_kept = record {
      known = known;
      unmapped = λ end owned checkpoint n.
          so_some (λ (r : ObjectRow). IsTrue r.is_unmapped ↔ Unmapped owned n) (row_of n new.maps.objects.rows)
          (λ row at.
          let other = was n row at in
          subst (λ b. IsTrue b ↔ Unmapped owned n) (ap (λ (r : ObjectRow). r.is_unmapped) other.2)
          (unmapped_at owned end checkpoint n other.0 other.1));
      places = λ end owned checkpoint k place at low. knows.places end owned checkpoint k place (was_there k place at low) low;
      payloads = payloads;
    }

-- ---- where the store tells its objects

adopted_joins : (Tells : Type 0) (told : Option Objects) (old new : ObjLogState) (adopts : AdoptsNext Tells told old new)
    → HasJoined (joined_payload adopts.receipt.size adopts.rows) (joined_front adopts.rows) old.uploads.queue new.uploads.queue
adopted_joins Tells told old new adopts =
    has_joined adopts.rows adopts.end adopts.receipt old.uploads.queue new.uploads.queue
    (no_checkpoint adopts.read.rows_read adopts.rows adopts.read.adoptable) adopts.adopted.uploads.settled

pub table_more : (Tells : Type 0) (told : Option Objects) (begun old new : ObjLogState) → AdoptsNext Tells told old new
    → KeepsTable begun old → KeepsTable begun new
table_more Tells told begun old new adopts keeps checkpoint has =
    table_kept (joined_payload adopts.receipt.size adopts.rows) (joined_front adopts.rows) old.uploads.queue new.uploads.queue
    (adopted_joins Tells told old new adopts) adopts.order.known.within checkpoint adopts.order.known.checkpoint
    (keeps checkpoint has)

pub told_knows : (told : Option Objects) (volume : Expected) (Tells : Type 0) (uuid : List ℕ) (geometry : Geometry)
    (ancestors end : ℕ)
    (begun old new : ObjLogState)
    → expected_of_volume old ≡ volume → IsListUpTo uuid geometry ancestors old.uploads.window.last end old
    → begun.uploads.queue.frontier ≤ old.uploads.window.last → Tells → AdoptsNext Tells told old new
    → IfSome told (λ objects. KeepsKnown volume objects begun old) → IfSome told (λ objects. KeepsKnown volume objects begun new)
told_knows None volume Tells uuid geometry ancestors end begun old new same is from tells adopts keeps = tt
told_knows (Some objects) volume Tells uuid geometry ancestors end begun old new same is from tells adopts keeps =
    λ base low knows.
    let payload = joined_payload adopts.receipt.size adopts.rows in
    let own = payload_there objects (expected_of_volume old) (old.uploads.window.last + 1) old.batch.first adopts.rows adopts.end
    adopts.receipt (adopts.stored tells) in
    let there : HasPayloadThere volume objects (old.uploads.queue.frontier + 1) payload =
    subst (λ n. HasPayloadThere volume objects (n + 1) payload) (sym is.frontier)
    (subst (λ (v : Expected). HasPayloadThere v objects (old.uploads.window.last + 1) payload) same own) in
    knows_kept payload (joined_front adopts.rows) old.uploads.queue new.uploads.queue
    (adopted_joins Tells (Some objects) old new adopts) adopts.order.known.within volume objects base there
    (omega (arith, low, from, is.frontier)) (keeps base low knows)

pub told_known : (told : Option Objects) (volume : Expected) (log : ObjLogState)
    → IfSome told (λ objects. KeepsKnown volume objects log log)
told_known None volume log = tt
told_known (Some objects) volume log = λ base low knows. knows
