-- A window on an image, when an entry is applied to it.
use Rattle.std.proofs.Common.{◌≡◌, ℕ, ◌+◌, ◌-◌, ◌*◌, ◌/◌, ◌%◌, ◌^◌, IsTrue, ◌<◌, ◌≤◌, List, [], ◌∷◌, ◌++◌, get_or, true, length}
use Rattle.std.proofs.Common.{take, drop, replicate, sym, ◌∙◌, ap, arith, length-drop}
use Rattle.std.proofs.lemmas.List.{length-take-le, length-replicate, take_all, take_more, take-replicate, drop-replicate}
use Rattle.std.proofs.lemmas.List.Elements.{All-take}
use Rattle.std.specs.List.{All, concat}
use Rattle.lsvd_base.specs.declared.geometry.Geometry.{Geometry}
use Rattle.lsvd_base.specs.declared.entry.Entry.{Entry}
use Rattle.std.proofs.lemmas.Bool.Decides.{nat_tests}
use Rattle.lsvd_base.specs.Limits.{is_within_limits, may_transfer}
use Rattle.lsvd_base.specs.Range.{is_in_range}
use Rattle.lsvd_base.specs.declared.entry.Entry.TheVariants.{Write, Zero}
use Rattle.lsvd_base.specs.Image.{Image, zero_sector, blank, cut_into_sectors, overwritten, after}
use Rattle.lsvd_base.proofs.ImageLemmas.{AllOfLength, concat-window, length-concat, concat-overwritten, All-overwritten}
use Rattle.lsvd_base.proofs.ImageLemmas.{concat-cut, length-cut, All-cut, concat-zeros, All-zeros, IsOfLength, IsImage}
use Rattle.lsvd_base.proofs.ImageLemmas.{IsImage-after, IsImage-blank, after-push, Write-ends, Zero-ends}
use Rattle.plain_disk.specs.Sectors.{sectors_at, AllInRange}
use Rattle.lsvd_bytes.specs.Window.{Pastes}
use Rattle.lsvd_bytes.specs.Places.{with_bytes}
use Rattle.plain_disk.specs.Window.{Overlays}
use Rattle.lsvd_base.specs.Laws.{EndsBy}

-- how many bytes stand there
pub length-bytes_at : (lba sectors : ℕ) (image : Image) → AllOfLength 512 image → lba + sectors ≤ length image
    → length (sectors_at lba sectors image) ≡ 512 * sectors
length-bytes_at lba sectors image whole h =
    let size : length (concat image) ≡ 512 * length image = length-concat 512 image whole in
    ap length (concat-window 512 lba sectors image whole)
    ∙ length-take-le (512 * sectors) (drop (512 * lba) (concat image)) (omega (arith, length-drop (512 * lba) (concat image)))

-- sectors put into an image are their bytes put into its bytes
overlaid : (lba sectors at : ℕ) (piece old new : List ℕ) (pieces image : Image)
    → AllOfLength 512 image → AllOfLength 512 pieces → concat pieces ≡ piece
    → lba + sectors ≤ length image → at + length pieces ≤ length image
    → old ≡ sectors_at lba sectors image → Pastes (512 * lba) (512 * at) piece old new
    → new ≡ sectors_at lba sectors (overwritten at pieces image)
overlaid lba sectors at piece old new pieces image whole whole_pieces are window inside shows splices =
    let size : length (concat image) ≡ 512 * length image = length-concat 512 image whole in
    let piece_size : length piece ≡ 512 * length pieces = ap length (sym are) ∙ length-concat 512 pieces whole_pieces in
    let old_size : length old ≡ 512 * sectors = ap length shows ∙ length-bytes_at lba sectors image whole window in
    let flat : old ≡ take (length old) (drop (512 * lba) (concat image)) =
    shows ∙ (concat-window 512 lba sectors image whole ∙ ap (λ n. take n (drop (512 * lba) (concat image))) (sym old_size)) in
    let put : concat (overwritten at pieces image) ≡ with_bytes (512 * at) piece (concat image) =
    concat-overwritten 512 at pieces image whole whole_pieces ∙ ap (λ bytes. with_bytes (512 * at) bytes (concat image)) are in
    splices (concat image) (omega arith) (omega arith) flat
    ∙ (ap (λ n. take n (drop (512 * lba) (with_bytes (512 * at) piece (concat image)))) old_size
    ∙ sym (concat-window 512 lba sectors (overwritten at pieces image) (All-overwritten (IsOfLength 512) at pieces image whole
    whole_pieces)
    ∙ ap (λ bytes. take (512 * sectors) (drop (512 * lba) bytes)) put))

-- a write is its data put into the bytes
pub overlaid-Write : (lba at : ℕ) (body old new : List ℕ) → length body % 512 ≡ 0
    → Pastes (512 * lba) (512 * at) body old new → Overlays lba (Write at body) old new
overlaid-Write lba at body old new h splices image sectors whole window ends shows =
    let count = length body / 512 in
    let pieces = cut_into_sectors count body in
    let all : 512 * count ≡ length body = omega arith in
    overlaid lba sectors at body old new pieces image whole (All-cut count body (omega arith))
    (concat-cut count body ∙ take_all (512 * count) body (omega arith)) window
    (omega (arith, length-cut count body)) shows splices

-- a zeroing is zeros put into the bytes
pub overlaid-Zero : (lba at count : ℕ) (old new : List ℕ)
    → Pastes (512 * lba) (512 * at) (replicate (512 * count) 0) old new → Overlays lba (Zero at count) old new
overlaid-Zero lba at count old new splices image sectors whole window ends shows =
    overlaid lba sectors at (replicate (512 * count) 0) old new (replicate count zero_sector) image whole (All-zeros count)
    (concat-zeros count) window (omega (arith, length-replicate count zero_sector)) shows splices

-- a disk that was just created shows zeros
pub sectors_at-blank : (lba sectors all : ℕ) → lba + sectors ≤ all
    → sectors_at lba sectors (blank all) ≡ replicate (512 * sectors) 0
sectors_at-blank lba sectors all h =
    ap (λ rest. concat (take sectors rest)) (drop-replicate lba all zero_sector)
    ∙ (ap concat (take-replicate sectors (all - lba) zero_sector (omega arith)) ∙ concat-zeros sectors)

-- an entry that is in range ends inside the volume
pub EndsBy-in_range : (g : Geometry) (entry : Entry) → is_in_range g entry ≡ true → EndsBy g.sectors entry
EndsBy-in_range g (Write lba body) h = Write-ends g lba body h
EndsBy-in_range g (Zero lba sectors) h = Zero-ends g lba sectors h

pub EndsBy-more : (m n : ℕ) (entry : Entry) → EndsBy m entry → m ≤ n → EndsBy n entry
EndsBy-more m n (Write lba body) h l = omega arith
EndsBy-more m n (Zero lba sectors) h l = omega arith

-- a history in range makes an image of the volume
pub history_whole : (g : Geometry) (history : List Entry) (n : ℕ) → AllInRange g history
    → IsImage g.sectors (after (blank g.sectors) (take n history))
history_whole g history n h =
    IsImage-after g (blank g.sectors) (take n history) (All-take (λ entry. is_in_range g entry ≡ true) n history h)
    (IsImage-blank g.sectors)

-- the window after one entry more of the history
pub one_more : (g : Geometry) (history : List Entry) (n lba sectors : ℕ) (entry : Entry) (old new : List ℕ)
    → AllInRange g history → n < length history → entry ≡ get_or history n entry → lba + sectors ≤ g.sectors
    → old ≡ sectors_at lba sectors (after (blank g.sectors) (take n history)) → Overlays lba entry old new
    → new ≡ sectors_at lba sectors (after (blank g.sectors) (take (n + 1) history))
one_more g history n lba sectors entry old new h inside is window shows overlays =
    let image = after (blank g.sectors) (take n history) in
    let whole : IsImage g.sectors image = history_whole g history n h in
    let range : is_in_range g entry ≡ true = rw is (h n entry inside) in
    let next : take (n + 1) history ≡ take n history ++ entry ∷ [] =
    take_more history n entry inside ∙ ap (λ e. take n history ++ e ∷ []) (sym is) in
    overlays image sectors whole.whole (omega (arith, whole.count))
    (EndsBy-more g.sectors (length image) entry (EndsBy-in_range g entry range) (omega (arith, whole.count))) shows
    ∙ sym (ap (λ entries. sectors_at lba sectors (after (blank g.sectors) entries)) next
    ∙ ap (sectors_at lba sectors) (after-push (blank g.sectors) (take n history) entry))

-- a read that is allowed ends inside the volume
pub transfer_ends : (g : Geometry) (lba sectors : ℕ) → may_transfer g lba sectors ≡ true → lba + sectors ≤ g.sectors
transfer_ends g lba sectors h = grind (arith, nat_tests)

-- each entry of the history is in range
pub entry_in_range : (g : Geometry) (history : List Entry) (n : ℕ) (entry : Entry) → AllInRange g history → n < length history
    → entry ≡ get_or history n entry → is_in_range g entry ≡ true
entry_in_range g history n entry h inside is = rw is (h n entry inside)

-- how many sectors a volume within the limits has at most
pub sectors_limit : (g : Geometry) → IsTrue (is_within_limits g) → g.sectors ≤ 2 ^ 31
sectors_limit g h = grind (arith, nat_tests)

-- the entries of a history in range end below the greatest number of 64 bits, as `last_writers` asks
pub history_ends : (g : Geometry) (history : List Entry) → IsTrue (is_within_limits g) → AllInRange g history
    → All (EndsBy (2 ^ 64 - 1)) history
history_ends g history limits range = λ k d inside.
    EndsBy-more g.sectors (2 ^ 64 - 1) (get_or history k d) (EndsBy-in_range g (get_or history k d) (range k d inside))
    (omega (arith, sectors_limit g limits))
