-- A list whose objects before the checkpoint are taken up, one by one.
use Rattle.std.proofs.Common.{◌≡◌, ℕ, ◌<◌, List, [], ◌∷◌, ◌++◌, length, sym, ◌∙◌, ap, subst, arith}
use Rattle.std.proofs.Common.{append_assoc, append-nil}
use Rattle.std.specs.List.{All, AllZip, Contains}
use Rattle.std.proofs.Math.Seq.{get_or-append_seam}
use Rattle.std.proofs.lemmas.List.{map_push, get_or_append_left, length-append}
use Rattle.batcher.specs.State.{BatchState}
use Rattle.lsvd_base.specs.declared.geometry.Geometry.{Geometry}
use Rattle.extent_map.specs.Extents.{place_at}
use Rattle.object_table.specs.Table.{IsNewest}
use Rattle.volume_maps.specs.Places.{log_on}
use Rattle.object_uploads.specs.Opening.{IsSameButFound}
use Rattle.obj_log.specs.State.{ObjLogState}
use Rattle.object_recovery.specs.Checkpoints.{expected_of}
use Rattle.object_recovery.specs.Earlier.{EarlierObject}
use Rattle.object_recovery.specs.Beginning.{IsTakenUp, TakesUp, HasTakenUp, receipt_for}
use Rattle.object_recovery.specs.Recovery.{IsListUpTo}
use Rattle.object_recovery.proofs.EarlierLemmas.{Ascend}
use Rattle.object_recovery.proofs.TakenLemmas.{taken_push, taken_below}

-- nothing but what was found changed
pub list_same : (uuid : List ℕ) (geometry : Geometry) (ancestors number end : ℕ) (old new : ObjLogState)
    → IsSameButFound old.uploads new.uploads → new.batch ≡ old.batch
    → IsListUpTo uuid geometry ancestors number end old → IsListUpTo uuid geometry ancestors number end new
list_same uuid geometry ancestors number end old new same batch is = record {
  uuid_is = same.uuid ∙ is.uuid_is;
  ancestors_are = same.ancestors ∙ is.ancestors_are;
  geometry_is = ap (λ (b : BatchState). b.geometry) batch ∙ is.geometry_is;
  sectors = same.sectors ∙ is.sectors;
  first = ap (λ (b : BatchState). b.first) batch ∙ is.first;
  entries = ap (λ (b : BatchState). b.entries) batch ∙ is.entries;
  window = same.window ∙ is.window;
  frontier = same.frontier ∙ is.frontier;
  end_is = same.end ∙ is.end_is;
  sealed = same.sealed ∙ is.sealed;
  logged = λ k. ap (λ rows. place_at log_on rows k) same.log ∙ is.logged k;
}

-- an object more
pub taken_more : (uuid : List ℕ) (geometry : Geometry) (ancestors number end : ℕ) (earlier : List EarlierObject)
    (e : EarlierObject)
    (old new : ObjLogState)
    → TakesUp (expected_of uuid geometry ancestors) e old new → HasTakenUp uuid geometry ancestors number end earlier old
    → HasTakenUp uuid geometry ancestors number end (earlier ++ e ∷ []) new
taken_more uuid geometry ancestors number end earlier e old new takes is = record {
  list = list_same uuid geometry ancestors number end old new takes.found.rest takes.batch is.list;
  objects =
      subst (AllZip (IsTakenUp (expected_of uuid geometry ancestors)) (earlier ++ e ∷ [])) (sym takes.found.rows)
      (taken_push (expected_of uuid geometry ancestors) earlier old.uploads.queue.maps.objects.rows e takes.payload takes.front
      is.objects
      takes.parts);
  receipts =
      takes.found.receipts ∙ ap (λ l. l ++ receipt_for e ∷ []) is.receipts ∙ sym (map_push receipt_for earlier e);
  removal = takes.found.rest.removal ∙ is.removal;
  checkpoint = takes.found.checkpoint ∙ is.checkpoint;
  settled = takes.found.settled ∙ is.settled;
}

-- those of some objects before the rest were taken up
pub record TakenUpTo (uuid : List ℕ) (geometry : Geometry) (ancestors number end : ℕ) (earlier rest : List EarlierObject)
    (log : ObjLogState) : Type 0 where
  pub done : List EarlierObject
  pub split : earlier ≡ done ++ rest
  pub taken : HasTakenUp uuid geometry ancestors number end done log

pub next_taken : (uuid : List ℕ) (geometry : Geometry) (ancestors number end : ℕ) (earlier : List EarlierObject)
    (e : EarlierObject)
    (rest : List EarlierObject) (old new : ObjLogState)
    → TakesUp (expected_of uuid geometry ancestors) e old new
    → TakenUpTo uuid geometry ancestors number end earlier (e ∷ rest) old
    → TakenUpTo uuid geometry ancestors number end earlier rest new
next_taken uuid geometry ancestors number end earlier e rest old new takes is = record {
  done = is.done ++ e ∷ [];
  split = is.split ∙ sym (append_assoc is.done (e ∷ []) rest);
  taken = taken_more uuid geometry ancestors number end is.done e old new takes is.taken;
}

pub all_taken : (uuid : List ℕ) (geometry : Geometry) (ancestors number end : ℕ) (earlier rest : List EarlierObject)
    (log : ObjLogState)
    → rest ≡ [] → TakenUpTo uuid geometry ancestors number end earlier rest log
    → HasTakenUp uuid geometry ancestors number end earlier log
all_taken uuid geometry ancestors number end earlier rest log none is =
    let all : earlier ≡ is.done = is.split ∙ ap (λ r. is.done ++ r) none ∙ append-nil is.done in
    subst (λ l. HasTakenUp uuid geometry ancestors number end l log) (sym all) is.taken

-- the objects before one have lower numbers
pub below_next : (done : List EarlierObject) (e : EarlierObject) (rest : List EarlierObject) → Ascend (done ++ e ∷ rest)
    → All (λ (o : EarlierObject). o.number < e.number) done
below_next done e rest order i d inside =
    let h = order i (length done) d inside (omega (arith, length-append done (e ∷ rest))) in
    let a = ap (λ (o : EarlierObject). o.number) (get_or_append_left done (e ∷ rest) d i inside) in
    let b = ap (λ (o : EarlierObject). o.number) (get_or-append_seam done e rest d) in
    omega (arith, h, a, b)

-- and it is one of them all
pub next_is_in : (earlier done : List EarlierObject) (e : EarlierObject) (rest : List EarlierObject) → earlier ≡ done ++ e ∷ rest
    → Contains earlier e
next_is_in earlier done e rest split =
    subst (λ l. Contains l e) (sym split)
    (length done, omega (arith, length-append done (e ∷ rest)), get_or-append_seam done e rest e)

-- a number past those that were taken up is greater than all of the table
pub newest_next : (uuid : List ℕ) (geometry : Geometry) (ancestors number end next : ℕ) (earlier : List EarlierObject)
    (log : ObjLogState)
    → HasTakenUp uuid geometry ancestors number end earlier log → All (λ (e : EarlierObject). e.number < next) earlier → 0 < next
    → IsNewest log.uploads.queue.maps.objects next
newest_next uuid geometry ancestors number end next earlier log is below some = record {
  above_rows =
      taken_below (expected_of uuid geometry ancestors) earlier log.uploads.queue.maps.objects.rows next is.objects below;
  above_checkpoint = omega (arith, is.checkpoint, some);
}
