-- An image as the flat list of its bytes, and what an entry keeps of it.
use Rattle.std.proofs.Common.{◌≡◌, ℕ, zero, suc, ◌+◌, ◌*◌, ◌/◌, ◌≤◌, true, List, [], ◌∷◌, ◌++◌, length, take, drop, replicate}
use Rattle.std.proofs.Common.{refl, sym, ◌∙◌, ap, arith, length-append, length-drop}
use Rattle.std.proofs.lemmas.Bool.Decides.{nat_tests}
use Rattle.std.proofs.lemmas.List.{length-take, length-take-le, length-replicate, replicate-append-replicate}
use Rattle.std.proofs.lemmas.List.Elements.{All-append, All-take, All-drop, All-replicate, All-cons}
use Rattle.std.proofs.lemmas.List.Folds.{concat-append}
use Rattle.std.proofs.Math.Nat.{mul-suc}
use Rattle.std.proofs.Math.Seq.{take-add, take-nil, drop-nil, take-append-add, drop-append-add}
use Rattle.std.specs.List.{All, concat}
use Rattle.lsvd_base.specs.declared.geometry.Geometry.{Geometry}
use Rattle.lsvd_base.specs.declared.entry.Entry.{Entry}
use Rattle.lsvd_base.specs.declared.entry.Entry.TheVariants.{Write, Zero}
use Rattle.lsvd_base.specs.Range.{is_in_range}
use Rattle.lsvd_base.specs.Image.{Image, zero_sector, blank, cut_into_sectors, overwritten, apply, after}

-- a piece has w bytes, and each of them has
abbrev pub IsOfLength : ℕ → List ℕ → Type 0
IsOfLength w piece = length piece ≡ w

abbrev pub AllOfLength : ℕ → List (List ℕ) → Type 0
AllOfLength w pieces = All (IsOfLength w) pieces

-- the first pieces, as bytes
pub concat-take : (w n : ℕ) (pieces : List (List ℕ)) → AllOfLength w pieces
    → concat (take n pieces) ≡ take (w * n) (concat pieces)
concat-take w zero pieces h = let e : w * 0 ≡ 0 = omega arith in rw e refl
concat-take w (suc n) [] h = sym (take-nil (w * suc n))
concat-take w (suc n) (x ∷ xs) h =
    let first : length x ≡ w = h 0 [] (omega arith) in
    let rest : concat (take n xs) ≡ take (w * n) (concat xs) =
    concat-take w n xs (λ k d l. h (suc k) d (omega arith)) in
    let size : w * suc n ≡ length x + w * n = omega (arith, mul-suc w n) in
    rw (size, take-append-add x (concat xs) (w * n), rest) refl

-- the pieces after the first, as bytes
pub concat-drop : (w n : ℕ) (pieces : List (List ℕ)) → AllOfLength w pieces
    → concat (drop n pieces) ≡ drop (w * n) (concat pieces)
concat-drop w zero pieces h = let e : w * 0 ≡ 0 = omega arith in rw e refl
concat-drop w (suc n) [] h = sym (drop-nil (w * suc n))
concat-drop w (suc n) (x ∷ xs) h =
    let first : length x ≡ w = h 0 [] (omega arith) in
    let rest : concat (drop n xs) ≡ drop (w * n) (concat xs) =
    concat-drop w n xs (λ k d l. h (suc k) d (omega arith)) in
    let size : w * suc n ≡ length x + w * n = omega (arith, mul-suc w n) in
    rw (size, drop-append-add x (concat xs) (w * n), rest) refl

-- how many bytes the pieces have
pub length-concat : (w : ℕ) (pieces : List (List ℕ)) → AllOfLength w pieces → length (concat pieces) ≡ w * length pieces
length-concat w [] h = omega arith
length-concat w (x ∷ xs) h =
    let first : length x ≡ w = h 0 [] (omega arith) in
    let rest : length (concat xs) ≡ w * length xs =
    length-concat w xs (λ k d l. h (suc k) d (omega arith)) in
    omega (arith, length-append x (concat xs), mul-suc w (length xs))

-- the bytes of some pieces in a row
pub concat-window : (w from n : ℕ) (pieces : List (List ℕ)) → AllOfLength w pieces
    → concat (take n (drop from pieces)) ≡ take (w * n) (drop (w * from) (concat pieces))
concat-window w from n pieces h =
    rw (concat-take w n (drop from pieces) (All-drop (IsOfLength w) from pieces h), concat-drop w from pieces h) refl

-- the bytes of an image in which sectors were put at lba
pub concat-overwritten : (w lba : ℕ) (sectors image : Image) → AllOfLength w image → AllOfLength w sectors
    → concat (overwritten lba sectors image)
    ≡ take (w * lba) (concat image) ++ concat sectors ++ drop (w * lba + length (concat sectors)) (concat image)
concat-overwritten w lba sectors image h s =
    let size : w * lba + length (concat sectors) ≡ w * (lba + length sectors) =
    omega (arith, length-concat w sectors s) in
    rw (
      size,
      concat-append (take lba image ++ sectors) (drop (lba + length sectors) image),
      concat-append (take lba image) sectors,
      concat-take w lba image h,
      concat-drop w (lba + length sectors) image h,
    ) refl

-- such an image has as many sectors
pub length-overwritten : (lba : ℕ) (sectors image : Image) → lba + length sectors ≤ length image
    → length (overwritten lba sectors image) ≡ length image
length-overwritten lba sectors image h =
    omega (
      arith,
      length-append (take lba image ++ sectors) (drop (lba + length sectors) image),
      length-append (take lba image) sectors,
      length-take lba image,
      length-drop (lba + length sectors) image,
    )

-- and each of them is whole
pub All-overwritten : (P : List ℕ → Type 0) (lba : ℕ) (sectors image : Image) → All P image → All P sectors
    → All P (overwritten lba sectors image)
All-overwritten P lba sectors image h s =
    All-append P (take lba image ++ sectors) (drop (lba + length sectors) image)
    (All-append P (take lba image) sectors (All-take P lba image h) s) (All-drop P (lba + length sectors) image h)

-- bytes that were cut into sectors
pub concat-cut : (count : ℕ) (bytes : List ℕ) → concat (cut_into_sectors count bytes) ≡ take (512 * count) bytes
unfolding cut_into_sectors
concat-cut zero bytes = refl
concat-cut (suc count) bytes =
    let size : 512 * suc count ≡ 512 + 512 * count = omega arith in
    rw (size, take-add 512 (512 * count) bytes, concat-cut count (drop 512 bytes)) refl

pub length-cut : (count : ℕ) (bytes : List ℕ) → length (cut_into_sectors count bytes) ≡ count
unfolding cut_into_sectors
length-cut zero bytes = refl
length-cut (suc count) bytes = ap suc (length-cut count (drop 512 bytes))

pub All-cut : (count : ℕ) (bytes : List ℕ) → 512 * count ≤ length bytes → AllOfLength 512 (cut_into_sectors count bytes)
unfolding cut_into_sectors
All-cut zero bytes h = λ k d l. absurd (omega arith)
All-cut (suc count) bytes h =
    All-cons (IsOfLength 512) (take 512 bytes) (cut_into_sectors count (drop 512 bytes))
    (length-take-le 512 bytes (omega arith))
    (All-cut count (drop 512 bytes) (omega (arith, length-drop 512 bytes)))

-- the bytes of sectors of zeros
pub length-zero_sector : length zero_sector ≡ 512
unfolding zero_sector
length-zero_sector = length-replicate {A = ℕ} 512 0

pub concat-zeros : (sectors : ℕ) → concat (replicate sectors zero_sector) ≡ replicate (512 * sectors) 0
unfolding zero_sector
concat-zeros zero = refl
concat-zeros (suc sectors) =
    let size : 512 * suc sectors ≡ 512 + 512 * sectors = omega arith in
    rw (size, concat-zeros sectors, replicate-append-replicate {A = ℕ} 512 (512 * sectors) 0) refl

pub All-zeros : (sectors : ℕ) → AllOfLength 512 (replicate sectors zero_sector)
All-zeros sectors = All-replicate (IsOfLength 512) sectors zero_sector length-zero_sector

-- an image of a volume of this many sectors, each of which is whole
pub record IsImage (sectors : ℕ) (image : Image) : Type 0 where
  pub count : length image ≡ sectors
  pub whole : AllOfLength 512 image

-- where the entries end that a volume takes
pub Write-ends : (g : Geometry) (lba : ℕ) (body : List ℕ) → is_in_range g (Write lba body) ≡ true
    → lba + length body / 512 ≤ g.sectors
Write-ends g lba body h = grind (arith, nat_tests)

pub Zero-ends : (g : Geometry) (lba sectors : ℕ) → is_in_range g (Zero lba sectors) ≡ true → lba + sectors ≤ g.sectors
Zero-ends g lba sectors h = grind (arith, nat_tests)

-- what a volume is created as is an image of it, and stays one under the entries that it takes
pub IsImage-blank : (sectors : ℕ) → IsImage sectors (blank sectors)
IsImage-blank sectors = record { count = length-replicate sectors zero_sector; whole = All-zeros sectors }

pub IsImage-apply : (g : Geometry) (entry : Entry) (image : Image) → is_in_range g entry ≡ true → IsImage g.sectors image
    → IsImage g.sectors (apply entry image)
IsImage-apply g (Write lba body) image h i =
    let data_ = cut_into_sectors (length body / 512) body in
    record {
      count = length-overwritten lba data_ image (omega (arith, length-cut (length body / 512) body, Write-ends g lba body h))
          ∙ i.count;
      whole = All-overwritten (IsOfLength 512) lba data_ image i.whole (All-cut (length body / 512) body (omega arith));
    }
IsImage-apply g (Zero lba sectors) image h i =
    let zeros = replicate sectors zero_sector in
    record {
      count = length-overwritten lba zeros image (omega (arith, length-replicate sectors zero_sector, Zero-ends g lba sectors h))
          ∙ i.count;
      whole = All-overwritten (IsOfLength 512) lba zeros image i.whole (All-zeros sectors);
    }

pub IsImage-after : (g : Geometry) (image : Image) (history : List Entry) → All (λ entry. is_in_range g entry ≡ true) history
    → IsImage g.sectors image → IsImage g.sectors (after image history)
IsImage-after g image [] h i = i
IsImage-after g image (entry ∷ entries) h i =
    IsImage-after g (apply entry image) entries (λ k d l. h (suc k) d (omega arith))
    (IsImage-apply g entry image (h 0 entry (omega arith)) i)

-- one entry more
pub after-push : (image : Image) (history : List Entry) (entry : Entry)
    → after image (history ++ entry ∷ []) ≡ apply entry (after image history)
after-push image [] entry = refl
after-push image (first ∷ entries) entry = after-push (apply first image) entries entry
