-- What entries put of a sector is whole, and lies inside the bytes that have it.
use Rattle.std.proofs.Common.{◌≡◌, ℕ, ◌+◌, ◌-◌, ◌*◌, ◌/◌, ◌<◌, ◌≤◌, cond, Bool, true, false, Option, Some, None, List, [], ◌∷◌}
use Rattle.std.proofs.Common.{length, drop}
use Rattle.std.proofs.Common.{refl, ap, arith, length-take, length-drop}
use Rattle.std.proofs.lemmas.Bool.Decides.{nat_tests}
use Rattle.std.proofs.lemmas.List.{length-take-le}
use Rattle.std.specs.Option.{option_or}
use Rattle.lsvd_base.specs.declared.entry.Entry.{Entry}
use Rattle.lsvd_base.specs.declared.entry.Entry.TheVariants.{Write, Zero}
use Rattle.extent_map.specs.Extents.{is_within}
use Rattle.object_stream.specs.declared.change.Change.{Change}
use Rattle.object_stream.specs.declared.change.Change.TheVariants.{Put, Clear}
use Rattle.object_stream.specs.Changes.{sector_of, entry_change, change_at}

-- a sector that is found at a place lies there as a whole
pub lies_inside : (at : ℕ) (bytes sector : List ℕ) → length sector ≡ 512 → sector_of at bytes ≡ sector
    → 512 * (at + 1) ≤ length bytes
lies_inside at bytes sector whole is =
    omega (arith, ap length is, whole, length-take 512 (drop (512 * at) bytes), length-drop (512 * at) bytes)

-- what a change puts is a whole sector
abbrev pub PutsWhole : Option Change → Type 0
PutsWhole None = Unit {0}
PutsWhole (Some (Put sector)) = length sector ≡ 512
PutsWhole (Some Clear) = Unit {0}

write_puts : (test : Bool) (lba k : ℕ) (body : List ℕ) → is_within lba (length body / 512) k ≡ test
    → PutsWhole (cond test (Some (Put (sector_of (k - lba) body))) None)
write_puts true lba k body inside =
    let low : k - lba < length body / 512 = grind (arith, nat_tests) in
    length-take-le 512 (drop (512 * (k - lba)) body) (omega (arith, low, length-drop (512 * (k - lba)) body))
write_puts false lba k body outside = tt

zero_puts : (test : Bool) → PutsWhole (cond test (Some Clear) None)
zero_puts true = tt
zero_puts false = tt

entry_puts : (entry : Entry) (k : ℕ) → PutsWhole (entry_change entry k)
entry_puts (Write lba body) k = write_puts (is_within lba (length body / 512) k) lba k body refl
entry_puts (Zero lba sectors) k = zero_puts (is_within lba sectors k)

either_puts : (later earlier : Option Change) → PutsWhole later → PutsWhole earlier → PutsWhole (option_or later earlier)
either_puts None earlier of_later of_earlier = of_earlier
either_puts (Some change) earlier of_later of_earlier = of_later

-- so it is of what entries do to a sector
pub puts_whole : (entries : List Entry) (k : ℕ) → PutsWhole (change_at entries k)
puts_whole [] k = tt
puts_whole (entry ∷ entries) k = either_puts (change_at entries k) (entry_change entry k) (puts_whole entries k)
    (entry_puts entry k)
