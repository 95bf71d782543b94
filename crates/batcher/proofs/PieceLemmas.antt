-- The data of extents, one after the other.
use Rattle.std.proofs.Common.{◌≡◌, ℕ, zero, suc, ◌+◌, ◌*◌, ◌<◌, ◌≤◌, List, [], ◌∷◌, ◌++◌, length, get_or, take, drop, refl, sym}
use Rattle.std.proofs.Common.{ap, subst, ◌∙◌, arith, length-take, length-drop, length-append}
use Rattle.std.specs.List.{sum_by}
use Rattle.std.proofs.lemmas.List.{take_more, flat_map_more}
use Rattle.std.proofs.lemmas.List.Sums.{sum_by-cons, sum_by_more, sum_by-take-le}
use Rattle.lsvd_base.specs.declared.entry.Entry.{Entry}
use Rattle.extent_map.specs.declared.extent.Extent.{Extent}
use Rattle.batcher.specs.declared.place.BatchPlace.{BatchPlace}
use Rattle.batcher.specs.declared.place.BatchPlace.TheVariants.{Data, Zeros}
use Rattle.batcher.specs.Places.{entry_body, entry_body_at}
use Rattle.object_format.specs.Rows.{payload_at}
use Rattle.batcher.specs.Rows.{row_place, piece_at, piece_of, payload_bytes, extent_payload, IsInBody, AreInBodies}

-- ---- bodies

pub body_here : (entries : List Entry) (index : ℕ) (d : Entry) → index < length entries
    → entry_body_at entries index ≡ entry_body (get_or entries index d)
unfolding entry_body_at
body_here [] index d inside = absurd (omega arith)
body_here (entry ∷ entries) zero d inside = refl
body_here (entry ∷ entries) (suc index) d inside = body_here entries index d (omega arith)

pub body_read : (entries : List Entry) (index : ℕ) (entry : Entry) → index < length entries → entry ≡ get_or entries index entry
    → entry_body_at entries index ≡ entry_body entry
body_read entries index entry inside reads = body_here entries index entry inside ∙ ap entry_body (sym reads)

pub bodies_at : (entries : List Entry) (extents : List (Extent BatchPlace)) (index : ℕ) (d : Extent BatchPlace)
    → AreInBodies entries extents
    → index < length extents → IsInBody entries (get_or extents index d).sectors (get_or extents index d).place
bodies_at entries [] index d are inside = absurd (omega arith)
bodies_at entries (extent ∷ extents) zero d are inside = are.0
bodies_at entries (extent ∷ extents) (suc index) d are inside = bodies_at entries extents index d are.1 (omega arith)

bodies_take : (entries : List Entry) (n : ℕ) (extents : List (Extent BatchPlace)) → AreInBodies entries extents
    → AreInBodies entries (take n extents)
bodies_take entries zero extents are = tt
bodies_take entries (suc n) [] are = tt
bodies_take entries (suc n) (extent ∷ extents) are = (are.0, bodies_take entries n extents are.1)

-- ---- pieces

length-piece_at : (entries : List Entry) (sectors : ℕ) (place : BatchPlace) → IsInBody entries sectors place
    → length (piece_at entries sectors place) ≡ 512 * payload_at sectors (row_place 0 place)
length-piece_at entries sectors (Data entry from) is =
    let body = entry_body_at entries entry in
    omega (arith, length-take (512 * sectors) (drop (512 * from) body), length-drop (512 * from) body, is.1)
length-piece_at entries sectors Zeros is = refl

pub length-piece : (entries : List Entry) (extent : Extent BatchPlace) → IsInBody entries extent.sectors extent.place
    → length (piece_of entries extent) ≡ 512 * extent_payload extent
length-piece entries extent is = length-piece_at entries extent.sectors extent.place is

pub length-payload : (entries : List Entry) (extents : List (Extent BatchPlace)) → AreInBodies entries extents
    → length (payload_bytes entries extents) ≡ 512 * sum_by extent_payload extents
length-payload entries [] are = refl
length-payload entries (extent ∷ extents) are =
    omega (
      arith,
      length-append (piece_of entries extent) (payload_bytes entries extents),
      length-piece entries extent are.0,
      length-payload entries extents are.1,
      sum_by-cons extent_payload extent extents,
    )

-- the pieces of the first extents, and one more
module _ (entries : List Entry) (extents : List (Extent BatchPlace)) (index : ℕ) (extent d : Extent BatchPlace)
    (inside : index < length extents)
    (reads : extent ≡ get_or extents index d) where
  first_more : take (index + 1) extents ≡ take index extents ++ extent ∷ []
  first_more = take_more extents index d inside ∙ ap (λ e. take index extents ++ e ∷ []) (sym reads)

  pub payload_more : (front bytes : List ℕ) → bytes ≡ front ++ payload_bytes entries (take index extents)
      → bytes ++ piece_of entries extent ≡ front ++ payload_bytes entries (take (index + 1) extents)
  payload_more front bytes is =
      ap (λ list. list ++ piece_of entries extent) is
      ∙ flat_map_more (piece_of entries) front (take index extents) extent
      ∙ ap (λ list. front ++ payload_bytes entries list) (sym first_more)

  -- there is room for it
  pub room_more : (front bytes : List ℕ) (size : ℕ) → AreInBodies entries extents
      → bytes ≡ front ++ payload_bytes entries (take index extents)
      → length front + 512 * sum_by extent_payload extents ≤ size → length bytes + length (piece_of entries extent) ≤ size
  room_more front bytes size are is room =
      let here : extent_payload extent ≡ extent_payload (get_or extents index d) = ap extent_payload reads in
      omega (
        arith,
        ap length is,
        length-append front (payload_bytes entries (take index extents)),
        length-payload entries (take index extents) (bodies_take entries index extents are),
        length-piece_at entries extent.sectors extent.place (subst (λ e. IsInBody entries e.sectors e.place) (sym reads)
            (bodies_at entries extents index d are inside)),
        sum_by_more extent_payload extents index d inside,
        sum_by-take-le extent_payload extents (index + 1),
        here,
        room,
      )
