use Rattle.std.proofs.Common.{rules, ◌≡◌, ◌∙◌, ◌+◌, ◌*◌, ◌/◌, ℕ, List, [], ◌∷◌, ◌++◌, length, take, drop, ap}
use Rattle.std.proofs.Common.{refl, arith}
use Rattle.std.proofs.lemmas.List.{take-append-le, take_all}
use Rattle.log_room.specs.Room.{sector_bytes}
use Rattle.lsvd_device.specs.Medium.{Medium}
use Rattle.lsvd_device.specs.Device.{HoldsNow}
use Rattle.lsvd_base.specs.declared.entry.Entry.{Entry}
use Rattle.lsvd_base.specs.declared.entry.Entry.TheVariants as entries
use Rattle.cache_log.specs.Rows.{byte_of, log_sectors}
use Rattle.cache_log.specs.declared.row.Row.{Row}
use Rattle.cache_log.specs.declared.row.Row.TheVariants as rows
use Rattle.cache_log.proofs.ReadCounts.{read_none}
use Rattle.cache_log.proofs.transfer.read_entry.Goals as goal

zero_holds : (lba sectors : ℕ) (moments : List Medium)
    → HoldsNow (λ now. ◌≡◌ {A = Entry} (entries.Zero lba sectors) (entries.Zero lba sectors)) moments
zero_holds lba sectors [] = tt
zero_holds lba sectors (now ∷ past) = refl

write_holds : (moments : List Medium) (buf body : List ℕ) (n place at lba sectors : ℕ)
    → HoldsNow (λ now. buf ≡ take n (drop place now.bytes)) moments → n ≡ sector_bytes * sectors → place ≡ byte_of (at + 1)
    → body ≡ buf
    → HoldsNow (λ now. ◌≡◌ {A = Entry} (entries.Write lba body) (entries.Write lba (log_sectors (at + 1) sectors now.bytes)))
    moments
write_holds [] buf body n place at lba sectors read whole there is = tt
write_holds (now ∷ past) buf body n place at lba sectors read whole there is =
    ap (entries.Write lba) (is ∙ read ∙ ap (λ count. take count (drop place now.bytes)) whole
    ∙ ap (λ from. take (sector_bytes * sectors) (drop from now.bytes)) there)

-- the whole of what was read
all_read : (body buf rest : List ℕ) (n : ℕ) → body ≡ take n (buf ++ rest) → length buf ≡ n → body ≡ buf
all_read body buf rest n is whole =
    is ∙ take-append-le n buf rest (omega (arith, whole)) ∙ take_all n buf (omega (arith, whole))

write_row : (seq at lba sectors : ℕ) (body : List ℕ) → length body ≡ sector_bytes * sectors
    → ◌≡◌ {A = Row} (rows.Write seq at lba sectors) (rows.Write seq at lba (length body / sector_bytes))
write_row seq at lba sectors body whole = ap (rows.Write seq at lba) (omega (arith, whole))

pub returns-in_ok-read-in-Write-clause-entry : goal.returns-in_ok-read-in-Write-clause-entry
returns-in_ok-read-in-Write-clause-entry g c =
    let buf : List ℕ = c.read.new.buf in
    let same : length buf ≡ c.in_ok-bytes-in-Write.bytes.len = search rules in
    let n : ℕ = length c.as_mut_slice.result.now in
    let whole : n ≡ sector_bytes * c.in-Write.sectors = search rules in
    let body : c.from_bytes-body.result ≡ buf = all_read _ buf _ _ c.from_bytes-body.ensures same in
    rw c.in-Write.is
    (write_holds c.args.commits.now.disk.moments buf c.from_bytes-body.result n (byte_of (c.in-Write.at + 1)) c.in-Write.at
    c.in-Write.lba c.in-Write.sectors c.in_ok-read-in-Write.ensures.ok whole refl body)

pub returns-in_ok-read-in-Write-clause-row : goal.returns-in_ok-read-in-Write-clause-row
returns-in_ok-read-in-Write-clause-row g c =
    let buf : List ℕ = c.read.new.buf in
    let same : length buf ≡ c.in_ok-bytes-in-Write.bytes.len = search rules in
    let whole : length buf ≡ sector_bytes * c.in-Write.sectors = search rules in
    let body : c.from_bytes-body.result ≡ buf = all_read _ buf _ _ c.from_bytes-body.ensures same in
    rw (c.in-Write.is, body) (write_row c.in-Write.seq c.in-Write.at c.in-Write.lba c.in-Write.sectors buf whole)

pub returns-in_err-bytes-in-Write-clause-err : goal.returns-in_err-bytes-in-Write-clause-err
returns-in_err-bytes-in-Write-clause-err g c =
    let none = read_none 1 c.args.commits.now c.requires.on_disk in
    search (none, rules)

pub returns-in_err-read-in-Write-clause-err : goal.returns-in_err-read-in-Write-clause-err
returns-in_err-read-in-Write-clause-err g c =
    let one = c.in_err-read-in-Write.ensures.only in
    search (one, rules)

pub returns-in_ok-read-in-Write-clause-read : goal.returns-in_ok-read-in-Write-clause-read
returns-in_ok-read-in-Write-clause-read g c =
    c.in_ok-read-in-Write.ensures.only

pub returns-in-Zero-clause-entry : goal.returns-in-Zero-clause-entry
returns-in-Zero-clause-entry g c = rw c.in-Zero.is (zero_holds c.in-Zero.lba c.in-Zero.sectors c.args.commits.now.disk.moments)

pub returns-in-Zero-clause-row : goal.returns-in-Zero-clause-row
returns-in-Zero-clause-row g c = rw c.in-Zero.is refl

pub returns-in-Zero-clause-read : goal.returns-in-Zero-clause-read
returns-in-Zero-clause-read g c = read_none 1 c.args.commits.now c.requires.on_disk
