-- An image that the objects of a list have whose places lie inside objects.
use Rattle.std.proofs.Common.{◌≡◌, ℕ, zero, suc, ◌+◌, Option, Some, None, List, [], ◌∷◌, length, refl, sym, ◌∙◌, ap, subst, arith}
use Rattle.std.specs.Prelude.{IfSome}
use Rattle.std.specs.List.{slice_get}
use Rattle.lsvd_base.specs.Image.{Image, zero_sector}
use Rattle.object_stream.specs.Changes.{sector_of}
use Rattle.volume_maps.specs.declared.place.ObjectPlace.{ObjectPlace}
use Rattle.volume_maps.specs.Maps.{settled_at}
use Rattle.object_uploads.specs.State.{StoredObject, QueueState}
use Rattle.object_uploads.specs.Queue.{stored_at}
use Rattle.object_uploads.specs.Image.{GivesSector, HoldsSector, HasImage}
use Rattle.object_uploads.specs.Collection.{IsInsideObject}
use Rattle.object_recovery.specs.Laws.{ListHasSomeImage}

-- the sector that is told to stand at a place, or zeros where none is told
abbrev sector_told : Option (List ℕ) → (at : ℕ) → List ℕ
sector_told None at = zero_sector
sector_told (Some bytes) at = sector_of at bytes

abbrev sector_given : Option StoredObject → (at : ℕ) → List ℕ
sector_given None at = zero_sector
sector_given (Some object) at = sector_told object.receipt.told (object.front + at)

abbrev sector_held : QueueState → Option ObjectPlace → List ℕ
sector_held queue None = zero_sector
sector_held queue (Some place) = sector_given (stored_at queue place) place.sector

told_is : (told : Option (List ℕ)) (at : ℕ) → IfSome told (λ bytes. sector_of at bytes ≡ sector_told told at)
told_is None at = tt
told_is (Some bytes) at = refl

gives : (object : Option StoredObject) (at : ℕ) → IsInsideObject object at → GivesSector object at (sector_given object at)
gives None at inside = absurd inside
gives (Some object) at inside = (inside, told_is object.receipt.told (object.front + at))

holds : (queue : QueueState) (held : Option ObjectPlace)
    → ((place : ObjectPlace) → held ≡ Some place → IsInsideObject (stored_at queue place) place.sector)
    → HoldsSector queue held (sector_held queue held)
holds queue None inside = refl
holds queue (Some place) inside = gives (stored_at queue place) place.sector (inside place refl)

-- so many sectors from one on
abbrev sectors_from : QueueState → (first count : ℕ) → Image
sectors_from queue first zero = []
sectors_from queue first (suc count) = sector_held queue (settled_at queue.maps first) ∷ sectors_from queue (first + 1) count

count_is : (queue : QueueState) (first count : ℕ) → length (sectors_from queue first count) ≡ count
count_is queue first zero = refl
count_is queue first (suc count) = ap suc (count_is queue (first + 1) count)

some_is : {X : Type 0} (a b : X) → Some a ≡ Some b → a ≡ b
some_is a b same = cc

sector_is : (queue : QueueState) (first count k : ℕ) (sector : List ℕ) → slice_get (sectors_from queue first count) k
    ≡ Some sector
    → sector_held queue (settled_at queue.maps (first + k)) ≡ sector
sector_is queue first zero k sector at = absurd cc
sector_is queue first (suc count) zero sector at =
    let here : first + 0 ≡ first = omega arith in
    ap (λ n. sector_held queue (settled_at queue.maps n)) here
    ∙ some_is (sector_held queue (settled_at queue.maps first)) sector at
sector_is queue first (suc count) (suc k) sector at =
    let here : first + suc k ≡ first + 1 + k = omega arith in
    ap (λ n. sector_held queue (settled_at queue.maps n)) here ∙ sector_is queue (first + 1) count k sector at

-- For the proofs of callers too: the image of a list whose places lie inside objects.
pub list_has_some_image : ListHasSomeImage
list_has_some_image sectors log inside =
    let queue = log.uploads.queue in
    let has : HasImage (sectors_from queue 0 sectors) queue =
    λ k sector at.
    let here : 0 + k ≡ k = omega arith in
    let is : sector_held queue (settled_at queue.maps k) ≡ sector =
    ap (λ n. sector_held queue (settled_at queue.maps n)) (sym here) ∙ sector_is queue 0 sectors k sector at in
    subst (HoldsSector queue (settled_at queue.maps k)) is (holds queue (settled_at queue.maps k)
    (λ place there. (inside k place there).1)) in
    (sectors_from queue 0 sectors, count_is queue 0 sectors, has)
