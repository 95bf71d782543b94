-- A disk that gathers, after each step of its calls.
use Rattle.std.proofs.Common.{◌≡◌, ℕ, ◌+◌, ◌≤◌, List, [], ◌++◌, length, sym, ◌∙◌, ap, subst, arith, length-append}
use Rattle.std.specs.Prelude.{Result, Ok, Err, OnOk}
use Rattle.std.specs.List.{AllByRecursion}
use Rattle.lsvd_device.specs.Medium.{Medium, after_write, after_sync}
use Rattle.lsvd_device.specs.Device.{DiskState, IsDisk, HasSize, moments_after, FailsToWrite}
use Rattle.gathered_disk.specs.Gathered.{GatheredState, IsGathering}
use Rattle.gathered_disk.proofs.Follows.{Follows, follows, gathers, follows_elsewhere, follows_gathered, follows_handed}
use Rattle.gathered_disk.proofs.Follows.{follows_torn, follows_written, follows_kept, follows_synced}
use Rattle.gathered_disk.proofs.Follows.{write_has_size, sync_has_size}

-- what is told is of the size of the disk below
of_size : (old : GatheredState) (below : DiskState) → below.size ≡ old.below.size → IsGathering old
    → AllByRecursion (HasSize below.size) old.told
of_size old below size is = subst (λ n. AllByRecursion (HasSize n) old.told) (sym size) is.media

-- nothing gathered, where nothing was
none_follows : (old : GatheredState) → old.gathered ≡ [] → IsGathering old → Follows old.at [] old.below.moments old.told
none_follows old none is = subst (λ xs. Follows old.at xs old.below.moments old.told) none (follows old is)

-- what was gathered was handed over
pub handed : (old : GatheredState) (below : DiskState) (gathered : List ℕ) → IsGathering old → IsDisk below
    → below.size ≡ old.below.size → below.moments ≡ moments_after (after_write old.at old.gathered) old.below.moments
    → gathered ≡ [] → IsGathering (record old { below = below; gathered = gathered })
handed old below gathered is disk size moments none =
    let count : length gathered ≡ 0 = ap length none in
    let next = follows_handed old.at old.gathered old.below.moments old.told (follows old is) in
    gathers (record old { below = below; gathered = gathered }) disk (omega (arith, count, size, is.inside))
    (of_size old below size is)
    (subst (λ xs. Follows old.at xs below.moments old.told) (sym none)
    (subst (λ ms. Follows old.at [] ms old.told) (sym moments) next))

-- it failed to be handed over
pub torn : (old : GatheredState) (below : DiskState) → IsGathering old → IsDisk below → below.size ≡ old.below.size
    → FailsToWrite old.at (length old.gathered) old.below.moments below.moments → IsGathering (record old { below = below })
torn old below is disk size fails =
    gathers (record old { below = below }) disk (omega (arith, size, is.inside)) (of_size old below size is)
    (follows_torn old.at old.gathered old.below.moments below.moments old.told fails (follows old is))

-- where nothing is gathered the place may be another
pub elsewhere : (old : GatheredState) (at : ℕ) → IsGathering old → old.gathered ≡ [] → at ≤ old.below.size
    → IsGathering (record old { at = at })
elsewhere old at is none inside =
    let count : length old.gathered ≡ 0 = ap length none in
    let next = follows_elsewhere old.at at old.below.moments old.told (none_follows old none is) in
    gathers (record old { at = at }) is.below (omega (arith, count, inside)) is.media
    (subst (λ xs. Follows at xs old.below.moments old.told) (sym none) next)

-- a piece was gathered behind what was
pub gathered_behind : (old : GatheredState) (at : ℕ) (piece gathered : List ℕ) (told : List Medium) → IsGathering old
    → old.at + length old.gathered ≡ at → at + length piece ≤ old.below.size → gathered ≡ old.gathered ++ piece
    → told ≡ moments_after (after_write at piece) old.told → IsGathering (record old { gathered = gathered; told = told })
gathered_behind old at piece gathered told is place inside more tells =
    let fits : old.at + length old.gathered + length piece ≤ old.below.size = omega (arith, place, inside) in
    let count : length gathered ≡ length old.gathered + length piece = ap length more ∙ length-append old.gathered piece in
    let next = follows_gathered old.below.size old.at old.gathered piece old.below.moments old.told fits is.below.media
    (follows old is) in
    let both : List ℕ = old.gathered ++ piece in
    let told' : List Medium = moments_after (after_write at piece) old.told in
    let here = subst (λ n. Follows old.at both old.below.moments (moments_after (after_write n piece) old.told)) place next in
    gathers (record old { gathered = gathered; told = told }) is.below (omega (arith, count, fits))
    (subst (AllByRecursion (HasSize old.below.size)) (sym tells)
    (write_has_size old.below.size at piece old.told inside is.media))
    (subst (λ ms. Follows old.at gathered old.below.moments ms) (sym tells)
    (subst (λ xs. Follows old.at xs old.below.moments told') (sym more) here))

-- a piece was written to the disk below at once
pub written : (old : GatheredState) (below : DiskState) (at : ℕ) (piece gathered : List ℕ) (told : List Medium)
    → IsGathering old → IsDisk below → below.size ≡ old.below.size → old.gathered ≡ [] → at + length piece ≤ old.below.size
    → below.moments ≡ moments_after (after_write at piece) old.below.moments → gathered ≡ []
    → told ≡ moments_after (after_write at piece) old.told
    → IsGathering (record old { below = below; gathered = gathered; told = told })
written old below at piece gathered told is disk size none inside moments still tells =
    let count : length gathered ≡ 0 = ap length still in
    let next = follows_written old.at at piece old.below.moments old.told (none_follows old none is) in
    let media = write_has_size below.size at piece old.told (omega (arith, size, inside)) (of_size old below size is) in
    let told' : List Medium = moments_after (after_write at piece) old.told in
    gathers (record old { below = below; gathered = gathered; told = told }) disk (omega (arith, count, size, is.inside))
    (subst (AllByRecursion (HasSize below.size)) (sym tells) media)
    (subst (λ ms. Follows old.at gathered below.moments ms) (sym tells)
    (subst (λ xs. Follows old.at xs below.moments told') (sym still)
    (subst (λ ms. Follows old.at [] ms told') (sym moments) next)))

-- a piece that failed to be written to it was gathered
pub kept : (old : GatheredState) (below : DiskState) (at faults : ℕ) (piece gathered : List ℕ) (told : List Medium)
    → IsGathering old → IsDisk below → below.size ≡ old.below.size → old.gathered ≡ [] → at + length piece ≤ old.below.size
    → FailsToWrite at (length piece) old.below.moments below.moments → gathered ≡ piece
    → told ≡ moments_after (after_write at piece) old.told
    → IsGathering (record { below = below; at = at; gathered = gathered; told = told; faults = faults })
kept old below at faults piece gathered told is disk size none inside fails whole tells =
    let count : length gathered ≡ length piece = ap length whole in
    let told' : List Medium = moments_after (after_write at piece) old.told in
    let next = follows_torn at piece old.below.moments below.moments told' fails
    (follows_kept old.at at piece old.below.moments old.told (none_follows old none is)) in
    let media = write_has_size below.size at piece old.told (omega (arith, size, inside)) (of_size old below size is) in
    gathers (record { below = below; at = at; gathered = gathered; told = told; faults = faults }) disk
    (omega (arith, count, size, inside)) (subst (AllByRecursion (HasSize below.size)) (sym tells) media)
    (subst (λ ms. Follows at gathered below.moments ms) (sym tells)
    (subst (λ xs. Follows at xs below.moments told') (sym whole) next))

-- the disk below was synced
pub synced : (old : GatheredState) (below : DiskState) (faults : ℕ) (told : List Medium) → IsGathering old → IsDisk below
    → below.size ≡ old.below.size → old.gathered ≡ [] → below.moments ≡ moments_after after_sync old.below.moments
    → told ≡ moments_after after_sync old.told → IsGathering (record old { below = below; told = told; faults = faults })
synced old below faults told is disk size none moments tells =
    let next = follows_synced old.at old.below.moments old.told (none_follows old none is) in
    let media = sync_has_size below.size old.told (of_size old below size is) in
    let told' : List Medium = moments_after after_sync old.told in
    gathers (record old { below = below; told = told; faults = faults }) disk (omega (arith, size, is.inside))
    (subst (AllByRecursion (HasSize below.size)) (sym tells) media)
    (subst (λ ms. Follows old.at old.gathered below.moments ms) (sym tells)
    (subst (λ xs. Follows old.at xs below.moments told') (sym none)
    (subst (λ ms. Follows old.at [] ms told') (sym moments) next)))

-- ---- results

-- what holds at an Ok gives what follows from it
pub on_ok : {T E : Type 0} (outcome : Result T E) (P Q : Type 0) → (P → Q) → OnOk outcome P → OnOk outcome Q
on_ok (Ok value) P Q gives holds = gives holds
on_ok (Err error) P Q gives holds = tt
