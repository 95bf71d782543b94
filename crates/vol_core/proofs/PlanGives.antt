-- A plan gives the sectors of the plain volume, where the log and the receipts tell them.
use Rattle.std.proofs.Common.{◌≡◌, ℕ, zero, suc, ◌+◌, ◌-◌, ◌*◌, ◌<◌, ◌≤◌, ◌⊎◌, inl, inr, List, [], ◌∷◌, ◌++◌, length, take, drop}
use Rattle.std.proofs.Common.{refl, sym, ◌∙◌, ap, subst, arith}
use Rattle.std.specs.Prelude.{Option, Some, None, IfSome}
use Rattle.std.specs.List.{All, AllByRecursion, concat, slice_get}
use Rattle.std.proofs.lemmas.List.{take-append-drop, drop-drop, length-drop, length-take-le}
use Rattle.std.proofs.lemmas.List.Elements.{recursion_from_All}
use Rattle.lsvd_base.specs.declared.entry.Entry.{Entry}
use Rattle.lsvd_objstore.specs.Store.{ReceiptState}
use Rattle.log_record.specs.Grammar.{data_of}
use Rattle.cache_log.specs.declared.row.Row.{Row}
use Rattle.cache_log.specs.Rows.{position_of}
use Rattle.cache_log.specs.Log.{LogState}
use Rattle.object_stream.specs.Changes.{sector_of}
use Rattle.volume_maps.specs.declared.place.ObjectPlace.{ObjectPlace}
use Rattle.volume_maps.specs.declared.place.LogPlace.TheVariants.{Data, Zeros}
use Rattle.volume_maps.specs.declared.place.VolumePlace.{VolumePlace}
use Rattle.volume_maps.specs.declared.place.VolumePlace.TheVariants.{Log, Object}
use Rattle.volume_maps.specs.Maps.{volume_place_at}
use Rattle.object_uploads.specs.State.{StoredObject, QueueState}
use Rattle.object_uploads.specs.Queue.{stored_at}
use Rattle.object_uploads.specs.Image.{GivesSector}
use Rattle.obj_log.specs.State.{ObjLogState}
use Rattle.plain_disk.specs.State.{PlainState, image_now}
use Rattle.plain_disk.specs.Sectors.{sectors_at}
use Rattle.read_plan.specs.Plan.{PieceState, PlanState, TellsWhole, pasted, GivesOver, Gives}
use Rattle.read_plan.specs.Places.{OneFetches, HoldsPlace}
use Rattle.read_plan.specs.Look.{IsReadPlan}
use Rattle.read_plan.specs.Laws.{TellsAll, IsSectorAt}
use Rattle.read_plan.proofs.GivenLemmas.{gives_size, gives_sectors}
use Rattle.vol_core.specs.Places.{IsHeldAt}
use Rattle.vol_core.specs.ReadLaws.{ShowsReads}
use Rattle.vol_core.proofs.HoldLemmas.{places_hold_sectors}
use Rattle.vol_core.proofs.ShownLemmas.{image_has_sectors}

-- ---- the receipts

tells_all : (receipt : ReceiptState) (told : List ℕ) → receipt.told ≡ Some told → TellsWhole receipt → TellsAll receipt
tells_all receipt told is whole = record {
  bytes = told;
  told = is;
  size = subst (λ t. IfSome t (λ all. receipt.size ≡ length all)) is whole;
}

-- all receipts tell, so that pieces over some bytes give some
pub record GiveBytes (pieces : List PieceState) (under : List ℕ) : Type 0 where
  pub told : AllByRecursion (λ piece. TellsAll piece.receipt) pieces
  pub bytes : List ℕ
  pub gives : GivesOver pieces under bytes

-- or one tells none, and nothing is said
abbrev GiveOrTellNone : List PieceState → (under : List ℕ) → Type 0
GiveOrTellNone pieces under = GiveBytes pieces under ⊎ ((bytes : List ℕ) → GivesOver pieces under bytes)

one_more : (piece : PieceState) (pieces : List PieceState) (under : List ℕ) (told : Option (List ℕ)) → TellsWhole piece.receipt
    → piece.receipt.told ≡ told → ((bytes : List ℕ) → GiveOrTellNone pieces (pasted piece bytes under))
    → GiveOrTellNone (piece ∷ pieces) under
one_more piece pieces under None whole is more =
    inr (λ bytes. subst (λ t. IfSome t (λ all. GivesOver pieces (pasted piece all under) bytes)) (sym is) tt)
one_more piece pieces under (Some told) whole is more =
    elim (more told) [
      | inl give ↦
          inl (record {
            told = (tells_all piece.receipt told is whole, give.told);
            bytes = give.bytes;
            gives = subst (λ t. IfSome t (λ all. GivesOver pieces (pasted piece all under) give.bytes)) (sym is) give.gives;
          })
      | inr any ↦ inr (λ bytes. subst (λ t. IfSome t (λ all. GivesOver pieces (pasted piece all under) bytes)) (sym is)
          (any bytes))
    ]

pub give_or_tell_none : (pieces : List PieceState) (under : List ℕ) → AllByRecursion (λ piece. TellsWhole piece.receipt) pieces
    → GiveOrTellNone pieces under
give_or_tell_none [] under whole = inl (record { told = tt; bytes = under; gives = refl })
give_or_tell_none (piece ∷ pieces) under whole =
    one_more piece pieces under piece.receipt.told whole.0 refl
    (λ bytes. give_or_tell_none pieces (pasted piece bytes under) whole.1)

-- ---- one sector

-- the object of the piece that has a sector
record IsFetched (queue : QueueState) (place : ObjectPlace) : Type 0 where
  object : StoredObject
  stored : stored_at queue place ≡ Some object
  tells : TellsAll object.receipt

fetched_told : (queue : QueueState) (place : ObjectPlace) (i : ℕ) (pieces : List PieceState) → OneFetches queue place i pieces
    → AllByRecursion (λ piece. TellsAll piece.receipt) pieces → IsFetched queue place
fetched_told queue place i [] one told = absurd one
fetched_told queue place i (piece ∷ pieces) (inl this) told =
    let piece_of = this.0 in
    record { object = piece_of.object; stored = piece_of.stored; tells = subst TellsAll piece_of.receipt told.0 }
fetched_told queue place i (piece ∷ pieces) (inr later) told = fetched_told queue place i pieces later.1 told.1

-- a sector that a plan gives is the one that is held at its place
pub same_sector : (log : LogState) (queue : QueueState) (place : Option VolumePlace) (i : ℕ) (plan : PlanState)
    (list : List Entry)
    (given sector : List ℕ) → log.entries ≡ Some list → AllByRecursion (λ piece. TellsAll piece.receipt) plan.pieces
    → HoldsPlace log queue place i plan → IsSectorAt log queue place given → IsHeldAt log queue place sector → given ≡ sector
same_sector log queue None i plan list given sector listed told holds at held = at ∙ sym held
same_sector log queue (Some (Log (Zeros seq))) i plan list given sector listed told holds at held = at ∙ sym held
same_sector log queue (Some (Log (Data seq place))) i plan list given sector listed told holds at held =
    let index = seq - log.first in
    let entry = subst (λ l. IfSome l (λ all. slice_get all index ≡ Some held.entry)) listed held.told in
    let each =
    subst
    (λ l. IfSome l (λ all. (row : Row) (entry : Entry)
    → slice_get log.rows index ≡ Some row → slice_get all index ≡ Some entry
    → given ≡ sector_of (place - (position_of row + 1)) (data_of entry)))
    listed at in
    each held.row held.entry held.there entry ∙ sym held.part
same_sector log queue (Some (Object place)) i plan list given sector listed told holds at held =
    let fetched = fetched_told queue place i plan.pieces holds.fetched told in
    let there = fetched.object.front + place.sector in
    let is = subst (λ t. IfSome t (λ all. given ≡ sector_of there all)) fetched.tells.told
    (at fetched.object fetched.stored) in
    let gives = subst (λ object. GivesSector object place.sector sector) fetched.stored held in
    is ∙ subst (λ t. IfSome t (λ all. sector_of there all ≡ sector)) fetched.tells.told gives.1

-- ---- all sectors

no_bytes : (bytes : List ℕ) → length bytes ≡ 0 → [] ≡ bytes
no_bytes [] none = refl
no_bytes (byte ∷ bytes) none = absurd (omega (arith, none))

-- sectors one behind the other are the bytes that have them
pub joined_sectors : (sectors : List (List ℕ)) (bytes : List ℕ) → length bytes ≡ 512 * length sectors
    → ((i : ℕ) (sector : List ℕ) → slice_get sectors i ≡ Some sector → sector_of i bytes ≡ sector) → concat sectors ≡ bytes
joined_sectors [] bytes size each = no_bytes bytes size
joined_sectors (sector ∷ sectors) bytes size each =
    let first : take 512 bytes ≡ sector = each 0 sector refl in
    let left : length (drop 512 bytes) ≡ 512 * length sectors = length-drop 512 bytes ∙ omega (arith, size) in
    let rest = joined_sectors sectors (drop 512 bytes) left (λ i other is.
    let past : 512 + 512 * i ≡ 512 * suc i = omega arith in
    ap (take 512) (drop-drop (512 * i) 512 bytes) ∙ ap (λ n. take 512 (drop n bytes)) past ∙ each (suc i) other is) in
    ap (λ s. s ++ concat sectors) (sym first) ∙ ap (λ more. take 512 bytes ++ more) rest ∙ take-append-drop 512 bytes

-- one of some sectors of an image
item_of_front : {A : Type 0} (n i : ℕ) (items : List A) (item : A) → slice_get (take n items) i ≡ Some item
    → (i < n) × (slice_get items i ≡ Some item)
item_of_front zero i items item is = absurd cc
item_of_front (suc n) i [] item is = absurd cc
item_of_front (suc n) zero (first ∷ items) item is = (omega arith, is)
item_of_front (suc n) (suc i) (first ∷ items) item is =
    (let more = item_of_front n i items item is in ((let h = more.0 in omega (arith, h)), more.1))

item_behind : {A : Type 0} (n i : ℕ) (items : List A) → slice_get (drop n items) i ≡ slice_get items (n + i)
item_behind zero i items = ap (slice_get items) (omega arith)
item_behind (suc n) i [] = refl
item_behind (suc n) i (item ∷ items) =
    let past : suc n + i ≡ suc (n + i) = omega arith in
    item_behind n i items ∙ sym (ap (slice_get (item ∷ items)) past)

pub item_of_part : {A : Type 0} (from n i : ℕ) (items : List A) (item : A) → slice_get (take n (drop from items)) i ≡ Some item
    → (i < n) × (slice_get items (from + i) ≡ Some item)
item_of_part from n i items item is =
    let front = item_of_front n i (drop from items) item is in
    (front.0, sym (item_behind from i items) ∙ front.1)

-- ---- the bytes of a read

module _ (data_at : ℕ → ℕ) (objects : ObjLogState) (log : LogState) (plain : PlainState)
    (shows : ShowsReads data_at objects log plain)
    (lba sectors : ℕ) (inside : lba + sectors ≤ plain.geometry.sectors) (plan : PlanState)
    (is : IsReadPlan lba sectors objects log plan) where
  -- the bytes that the plan gives are the sectors of the plain volume
  given_sectors : (list : List Entry) (given : List ℕ) → log.entries ≡ Some list
      → AllByRecursion (λ piece. TellsAll piece.receipt) plan.pieces
      → Gives plan given → given ≡ sectors_at lba sectors (image_now plain)
  given_sectors list given listed told gives =
      let image = image_now plain in
      let queue : QueueState = objects.uploads.queue in
      let part = take sectors (drop lba image) in
      let behind = length-drop lba image in
      let count = length-take-le sectors (drop lba image) (omega (arith, behind, inside, image_has_sectors plain shows.valid)) in
      let many = ap (λ n. 512 * n) (sym count) in
      let size : length given ≡ 512 * length part =
      gives_size (length plan.bytes) plan.pieces plan.bytes given is.inside told refl gives ∙ (is.size ∙ many) in
      sym (joined_sectors part given size (λ i sector there.
      let at = item_of_part lba sectors i image sector there in
      let place = volume_place_at queue.maps (lba + i) in
      let holds = is.holds i at.0 in
      same_sector log queue place i plan list (sector_of i given) sector listed told holds
      (gives_sectors log queue place i plan given is.inside told holds gives)
      (places_hold_sectors data_at objects log plain (lba + i) sector shows at.1)))

  gives_read : (list : List Entry) → log.entries ≡ Some list → AllByRecursion (λ piece. TellsWhole piece.receipt) plan.pieces
      → Gives plan (sectors_at lba sectors (image_now plain))
  gives_read list listed whole =
      elim (give_or_tell_none plan.pieces plan.bytes whole) [
        | inl give ↦ subst (λ bytes. Gives plan bytes) (given_sectors list give.bytes listed give.told give.gives) give.gives
        | inr any ↦ any (sectors_at lba sectors (image_now plain))
      ]

  where_listed : (entries : Option (List Entry)) → log.entries ≡ entries
      → AllByRecursion (λ piece. TellsWhole piece.receipt) plan.pieces
      → IfSome entries (λ list. Gives plan (sectors_at lba sectors (image_now plain)))
  where_listed None listed whole = tt
  where_listed (Some list) listed whole = gives_read list listed whole

  pub plan_gives_read : All (λ piece. TellsWhole piece.receipt) plan.pieces
      → IfSome log.entries (λ list. Gives plan (sectors_at lba sectors (image_now plain)))
  plan_gives_read whole = where_listed log.entries refl (recursion_from_All (λ (piece : PieceState). TellsWhole piece.receipt)
      plan.pieces whole)
