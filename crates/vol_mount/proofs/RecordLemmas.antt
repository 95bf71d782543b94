-- The records of a log over what keeps the log area, as loading the commits does.
use Rattle.std.proofs.Common.{◌≡◌, ℕ, ◌*◌, ◌-◌, List, [], ◌∷◌, take, drop, map, sym, ◌∙◌, ap, subst, inl, inr}
use Rattle.std.specs.Prelude.{Some}
use Rattle.std.proofs.lemmas.List.{drop-drop}
use Rattle.lsvd_base.specs.declared.geometry.Geometry.{Geometry}
use Rattle.lsvd_device.specs.Medium.{Medium}
use Rattle.lsvd_device.specs.Device.{HoldsNow}
use Rattle.log_record.specs.declared.reason.Reason.{Reason}
use Rattle.log_record.specs.declared.head.Head.TheVariants as heads
use Rattle.log_record.specs.declared.head.Place.{Place}
use Rattle.log_record.specs.Grammar.{IsHeader}
use Rattle.log_record.specs.Tests.{IsRefusedAs}
use Rattle.commit_body.specs.declared.body.CommitBody.{CommitBody}
use Rattle.commit_slot.specs.LogArea.{log_area, HasSameLogArea, KeepsLogAreaSince}
use Rattle.cache_log.specs.declared.row.Row.{Row}
use Rattle.cache_log.specs.Rows.{log_sectors, entry_of}
use Rattle.cache_log.specs.Opening.{AreRecordsInRange, IsBadRecord, IsRefusedAt, place_after, after_pad}
use Rattle.cache_log.specs.Log.{entries_in}
use Rattle.cache_log.proofs.ForCallers.{same_log_area}
use Rattle.vol_mount.proofs.Moments.{told}

-- ---- the same bytes in the log area

pub sectors_same : (sector n : ℕ) (a b : List ℕ) → log_area a ≡ log_area b → log_sectors sector n a ≡ log_sectors sector n b
sectors_same sector n a b same =
    ap (take (512 * n)) (sym (drop-drop (512 * sector) 4096 a) ∙ ap (drop (512 * sector)) same ∙ drop-drop (512 * sector) 4096 b)

pub read_same : (geometry : Geometry) (body : CommitBody) (rows : List Row) (a b : List ℕ) → log_area a ≡ log_area b
    → AreRecordsInRange geometry body rows b → AreRecordsInRange geometry body rows a
read_same geometry body rows a b same are = record {
  records = record {
    used = are.records.used;
    most = are.records.most;
    follow = are.records.follow;
    end = are.records.end;
    numbered = are.records.numbered;
    seqs = are.records.seqs;
    records = (same_log_area rows geometry.log body.tail.position body.tail.seq a b same are.records.records).0;
  };
  in_range = are.in_range;
}

pub entries_same : (geometry : Geometry) (body : CommitBody) (rows : List Row) (a b : List ℕ) → log_area a ≡ log_area b
    → AreRecordsInRange geometry body rows b → map (entry_of a) rows ≡ map (entry_of b) rows
entries_same geometry body rows a b same are =
    (same_log_area rows geometry.log body.tail.position body.tail.seq a b same are.records.records).1

refused_same : (geometry : Geometry) (place : Place) (seq : ℕ) (reason : Reason) (a b : List ℕ) → log_area a ≡ log_area b
    → IsRefusedAt geometry place seq b reason → IsRefusedAt geometry place seq a reason
refused_same geometry place seq reason a b same (inl refused) =
    inl (let P : List ℕ → Type 0 = λ s. IsRefusedAs s seq geometry place reason in
    subst P (sym (sectors_same place.position 1 a b same)) refused)
refused_same geometry place seq reason a b same (inr (pad, refused)) =
    let P : List ℕ → Type 0 = λ s. IsHeader s seq geometry place (heads.Pad (geometry.log - place.position - 1)) in
    let Q : List ℕ → Type 0 = λ s. IsRefusedAs s seq geometry (after_pad geometry.log place) reason in
    inr (subst P (sym (sectors_same place.position 1 a b same)) pad, subst Q (sym (sectors_same 0 1 a b same)) refused)

pub bad_same : (geometry : Geometry) (body : CommitBody) (seq : ℕ) (reason : Reason) (a b : List ℕ) → log_area a ≡ log_area b
    → IsBadRecord geometry body seq reason b → IsBadRecord geometry body seq reason a
bad_same geometry body seq reason a b same bad = record {
  rows = bad.rows;
  used = bad.used;
  most = bad.most;
  follow = bad.follow;
  records = (same_log_area bad.rows geometry.log body.tail.position body.tail.seq a b same bad.records).0;
  in_range = bad.in_range;
  next_seq = bad.next_seq;
  before_head = bad.before_head;
  refused = refused_same geometry (place_after geometry.log body bad.used bad.rows) seq reason a b same bad.refused;
}

-- ---- before what kept the log area

-- a thing that holds of the newest moment held before
pub held_before : (P Q : Medium → Type 0) (old new : List Medium) → ((before now : Medium) → HasSameLogArea before now → P now
    → Q before)
    → KeepsLogAreaSince old new → HoldsNow P new → HoldsNow Q old
held_before P Q [] new follows stays holds = tt
held_before P Q (before ∷ past) new follows stays holds =
    let at = told (HasSameLogArea before) before past new stays.0 in
    follows before at.0 (subst (HoldsNow (HasSameLogArea before)) at.2 stays.1) (subst (HoldsNow P) at.2 holds)

pub records_before : (geometry : Geometry) (body : CommitBody) (rows : List Row) (old new : List Medium)
    → KeepsLogAreaSince old new
    → HoldsNow (λ now. AreRecordsInRange geometry body rows now.bytes) new
    → HoldsNow (λ now. AreRecordsInRange geometry body rows now.bytes) old
records_before geometry body rows old new stays holds =
    held_before (λ now. AreRecordsInRange geometry body rows now.bytes) (λ now. AreRecordsInRange geometry body rows now.bytes)
    old new
    (λ before now same is. read_same geometry body rows before.bytes now.bytes (sym same.same) is) stays holds

pub entries_before : (geometry : Geometry) (body : CommitBody) (rows : List Row) (old new : List Medium)
    → KeepsLogAreaSince old new
    → HoldsNow (λ now. AreRecordsInRange geometry body rows now.bytes) new
    → HoldsNow (λ now. entries_in rows new ≡ Some (map (entry_of now.bytes) rows)) old
entries_before geometry body rows [] new stays holds = tt
entries_before geometry body rows (before ∷ past) new stays holds =
    let at = told (HasSameLogArea before) before past new stays.0 in
    let same : HasSameLogArea before at.0 = subst (HoldsNow (HasSameLogArea before)) at.2 stays.1 in
    let is : AreRecordsInRange geometry body rows at.0.bytes =
    subst (HoldsNow (λ now. AreRecordsInRange geometry body rows now.bytes)) at.2 holds in
    ap (entries_in rows) at.2 ∙ sym (ap Some (entries_same geometry body rows before.bytes at.0.bytes (sym same.same) is))

pub bad_before : (geometry : Geometry) (body : CommitBody) (seq : ℕ) (reason : Reason) (old new : List Medium)
    → KeepsLogAreaSince old new
    → HoldsNow (λ now. IsBadRecord geometry body seq reason now.bytes
    × ((rows : List Row) → ¬ AreRecordsInRange geometry body rows now.bytes)) new
    → HoldsNow (λ now. IsBadRecord geometry body seq reason now.bytes
    × ((rows : List Row) → ¬ AreRecordsInRange geometry body rows now.bytes)) old
bad_before geometry body seq reason old new stays holds =
    let P : Medium → Type 0 = λ now. IsBadRecord geometry body seq reason now.bytes
    × ((rows : List Row) → ¬ AreRecordsInRange geometry body rows now.bytes) in
    held_before P P old new
    (λ before now same is. (
      bad_same geometry body seq reason before.bytes now.bytes (sym same.same) is.0,
      λ rows are.
          is.1 rows (read_same geometry body rows now.bytes before.bytes same.same are),
    ))
    stays holds
