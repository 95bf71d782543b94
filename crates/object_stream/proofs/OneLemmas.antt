-- One replay of a store's objects, and one value of owners.
use Rattle.std.proofs.Common.{◌≡◌, ℕ, zero, suc, ◌+◌, ◌*◌, ◌^◌, ◌<◌, Option, Some, None, List, [], ◌∷◌, length, drop, refl, sym}
use Rattle.std.proofs.Common.{◌∙◌, ap, subst, arith}
use Rattle.std.specs.List.{slice_get}
use Rattle.lsvd_base.specs.Image.{Image}
use Rattle.lsvd_objstore.specs.Objects.{Objects}
use Rattle.object_format.specs.declared.expected.Expected.{Expected}
use Rattle.object_format.specs.declared.header.Header.{Header}
use Rattle.object_format.specs.declared.rows.Rows.{Rows}
use Rattle.object_format.specs.declared.rows.Rows.TheVariants as rows
use Rattle.object_format.specs.Layout.{front_sectors}
use Rattle.object_format.specs.Laws.{AreSameRows}
use Rattle.object_format.proofs.LawLemmas.{has_one_reading}
use Rattle.object_stream.specs.declared.owner.Owner.{Owner}
use Rattle.object_stream.specs.Changes.{change_in}
use Rattle.object_stream.specs.Stream.{Owners, owner_by_change, owner_by_copy}
use Rattle.object_stream.specs.Replay.{HasParts, expected_at, source_at, after_rows, Replays}
use Rattle.object_stream.specs.Value.{copied_in, sector_put, sector_in, StandsForSector, IsValue}
use Rattle.object_stream.specs.Laws.{ReplaysAsOne, HasOneValue}

-- ---- one object

-- the same bytes have the same payload and the same rows, whatever is expected of them
pub record AreSameParts (list others : Rows) (payload other : List ℕ) (a b : Header) : Type 0 where
  pub headers : a ≡ b
  pub same_rows : AreSameRows list others
  pub payloads : payload ≡ other

pub same_parts : (expected another : Expected) (bytes other_bytes : List ℕ) (a b : Header) (list others : Rows)
    (payload other : List ℕ)
    → expected.sectors < 2 ^ 64 → another.sectors < 2 ^ 64 → bytes ≡ other_bytes
    → HasParts expected bytes a list payload → HasParts another other_bytes b others other
    → AreSameParts list others payload other a b
same_parts expected another bytes other_bytes a b list others payload other wide wide_too same is is_other =
    let P : List ℕ → Type 0 = λ x. HasParts another x b others other in
    let moved : HasParts another bytes b others other = subst P (sym same) is_other in
    let one = has_one_reading bytes (length bytes) expected another a b list others wide wide_too is.is_object moved.is_object in
    record {
      headers = one.0;
      same_rows = one.1;
      payloads = is.payload_is ∙ ap (λ h. drop (512 * front_sectors h) bytes) one.0 ∙ sym moved.payload_is;
    }

-- the same rows do the same to owners that are the same
by_same_rows : (number : ℕ) (list others : Rows) (payload : List ℕ) (before earlier : Owners) (k : ℕ) → AreSameRows list others
    → before k ≡ earlier k
    → after_rows number list payload before k ≡ after_rows number others payload earlier k
by_same_rows number (rows.Data list) (rows.Data others) payload before earlier k same was =
    ap (λ items. owner_by_change number (change_in items payload k) (before k)) same
    ∙ ap (owner_by_change number (change_in others.items payload k)) was
by_same_rows number (rows.Copy list) (rows.Copy others) payload before earlier k same was =
    ap (λ items. owner_by_copy number (source_at items k) (before k)) same
    ∙ ap (owner_by_copy number (source_at others.items k)) was
by_same_rows number rows.Checkpoint rows.Checkpoint payload before earlier k same was = was
by_same_rows number (rows.Data list) (rows.Copy others) payload before earlier k same was = absurd same
by_same_rows number (rows.Data list) rows.Checkpoint payload before earlier k same was = absurd same
by_same_rows number (rows.Copy list) (rows.Data others) payload before earlier k same was = absurd same
by_same_rows number (rows.Copy list) rows.Checkpoint payload before earlier k same was = absurd same
by_same_rows number rows.Checkpoint (rows.Data others) payload before earlier k same was = absurd same
by_same_rows number rows.Checkpoint (rows.Copy others) payload before earlier k same was = absurd same

-- and have the same sectors
sector_of_same : (list others : Rows) (payload : List ℕ) (k : ℕ) → AreSameRows list others
    → sector_in list payload k ≡ sector_in others payload k
sector_of_same (rows.Data list) (rows.Data others) payload k same = ap (λ items. sector_put (change_in items payload k)) same
sector_of_same (rows.Copy list) (rows.Copy others) payload k same = ap (λ items. copied_in items payload k) same
sector_of_same rows.Checkpoint rows.Checkpoint payload k same = refl
sector_of_same (rows.Data list) (rows.Copy others) payload k same = absurd same
sector_of_same (rows.Data list) rows.Checkpoint payload k same = absurd same
sector_of_same (rows.Copy list) (rows.Data others) payload k same = absurd same
sector_of_same (rows.Copy list) rows.Checkpoint payload k same = absurd same
sector_of_same rows.Checkpoint (rows.Data others) payload k same = absurd same
sector_of_same rows.Checkpoint (rows.Copy others) payload k same = absurd same

-- ---- objects one after the other

pub replays_as_one : ReplaysAsOne
replays_as_one objects volume number end before earlier zero last_end after_them other_end others wide same a b =
    (a.0 ∙ sym b.0, λ k. a.1 k ∙ same k ∙ sym (b.1 k))
replays_as_one objects volume number end before earlier (suc count) last_end after_them other_end others wide same a b =
    let expected = expected_at volume (number + 1) end in
    let same_bytes : a.0 ≡ b.0 = let e = a.4 in let f = b.4 in cc in
    let one = same_parts expected expected a.0 b.0 a.1 b.1 a.2 b.2 a.3 b.3 wide wide same_bytes a.5 b.5 in
    let by = after_rows (number + 1) a.2 a.3 before in
    let S : ℕ → Type 0 = λ e. Replays objects volume (number + 1) e (after_rows (number + 1) b.2 b.3 earlier) count
    other_end others in
    replays_as_one objects volume (number + 1) a.1.end_seq by (after_rows (number + 1) b.2 b.3 earlier) count last_end after_them
    other_end others wide
    (λ k. by_same_rows (number + 1) a.2 b.2 a.3 before earlier k one.same_rows (same k)
    ∙ ap (λ p. after_rows (number + 1) b.2 p earlier k) one.payloads)
    a.6 (subst S (sym (ap (λ h. h.end_seq) one.headers)) b.6)

-- ---- values

-- lists of one length that agree wherever both have an element
same_by_get : {X : Type 0} (xs ys : List X) → length xs ≡ length ys
    → ((k : ℕ) (x y : X) → slice_get xs k ≡ Some x → slice_get ys k ≡ Some y → x ≡ y) → xs ≡ ys
same_by_get [] [] long same = refl
same_by_get [] (y ∷ ys) long same = absurd (omega (arith, long))
same_by_get (x ∷ xs) [] long same = absurd (omega (arith, long))
same_by_get (x ∷ xs) (y ∷ ys) long same =
    let head : x ≡ y = same 0 x y refl refl in
    let shorter : length xs ≡ length ys = omega (arith, long) in
    let tail : xs ≡ ys = same_by_get xs ys shorter (λ k. same (suc k)) in
    cc

-- an owner stands for one sector
pub one_sector : (objects : Objects) (uuid_at : ℕ → Option (List ℕ)) (owner : Option Owner) (k : ℕ) (sector other : List ℕ)
    → StandsForSector objects uuid_at owner k sector → StandsForSector objects uuid_at owner k other → sector ≡ other
one_sector objects uuid_at None k sector other a b = a ∙ sym b
one_sector objects uuid_at (Some owner) k sector other a b =
    let same_uuid : a.expected.uuid ≡ b.expected.uuid = let e = a.level in let f = b.level in cc in
    let same_bytes : a.bytes ≡ b.bytes = let e = a.present in let f = b.present in cc in
    let one = same_parts a.expected b.expected a.bytes b.bytes a.header b.header a.rows b.rows a.payload b.payload a.wide b.wide
    same_bytes a.parts b.parts in
    let joined : sector_in a.rows a.payload k ≡ sector_in b.rows b.payload k =
    sector_of_same a.rows b.rows a.payload k one.same_rows ∙ ap (λ p. sector_in b.rows p k) one.payloads in
    let e : sector_in a.rows a.payload k ≡ Some sector = a.has in
    let f : sector_in b.rows b.payload k ≡ Some other = b.has in
    cc

pub has_one_value : HasOneValue
has_one_value objects uuid_at owners others image other same long a b =
    same_by_get image other long (λ k x y at_x at_y.
    one_sector objects uuid_at (owners k) k x y (a k x at_x) (subst (λ o. StandsForSector objects uuid_at o k y) (sym (same k))
    (b k y at_y)))
