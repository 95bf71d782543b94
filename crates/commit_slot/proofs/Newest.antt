-- The newest of the three slots.
use Rattle.std.proofs.Common.{◌≡◌, ℕ, ◌<◌, ◌≤◌, List, [], ◌∷◌, sym, subst, inl, inr, arith}
use Rattle.std.specs.Prelude.{Option, Some, None}
use Rattle.std.proofs.lemmas.Bool.{cases_eq}
use Rattle.lsvd_device.specs.Medium.{Medium}
use Rattle.lsvd_device.specs.Device.{HoldsNow}
use Rattle.commit_body.specs.declared.body.CommitBody.{CommitBody}
use Rattle.commit_slot.specs.Slots.{IsOpenSlot}
use Rattle.commit_slot.specs.Reading.{ReadsAs}
use Rattle.commit_slot.specs.Newer.{SlotHas, IsAtMost, IsNewer}
use Rattle.commit_slot.proofs.SlotStates.{same_number}

abbrev Found : Type 0
Found = Option (CommitBody × ℕ)

at_most_then : (first second third : Found) → IsAtMost first second → IsAtMost second third → IsAtMost first third
at_most_then None second third a b = tt
at_most_then (Some x) None third a b = absurd a
at_most_then (Some x) (Some y) None a b = absurd b
at_most_then (Some x) (Some y) (Some z) a b = omega (arith, a, b)

-- a number is at most that of a commit that there is
abbrev NumberAtMost : ℕ → Found → Type 0
NumberAtMost n None = ⊥
NumberAtMost n (Some newest) = n ≤ newest.1

slot_at_most : (log slot : ℕ) (bytes : List ℕ) (found newest : Found) → SlotHas log bytes slot found → IsAtMost found newest
    → (body : CommitBody) (n : ℕ) → IsOpenSlot log bytes slot body n → NumberAtMost n newest
slot_at_most log slot bytes None newest has most body n is = absurd (has body n is)
slot_at_most log slot bytes (Some x) None has most body n is = absurd most
slot_at_most log slot bytes (Some x) (Some newest) has most body n is =
    let same = (same_number _ log slot slot n x.1 body x.0 is.sector has.sector).1 in
    omega (arith, same, most)

-- it stands in some slot, where there is one
abbrev StandsSomewhere : (log : ℕ) → List ℕ → Found → Type 0
StandsSomewhere log bytes None = Unit {0}
StandsSomewhere log bytes (Some newest) = (slot : ℕ) × IsOpenSlot log bytes slot newest.0 newest.1

somewhere : (log slot : ℕ) (bytes : List ℕ) (found : Found) → SlotHas log bytes slot found → StandsSomewhere log bytes found
somewhere log slot bytes None has = tt
somewhere log slot bytes (Some found) has = (slot, has)

reads_as : (log : ℕ) (bytes : List ℕ) (newest : Found) → StandsSomewhere log bytes newest
    → ((slot : ℕ) (body : CommitBody) (n : ℕ) → IsOpenSlot log bytes slot body n → NumberAtMost n newest)
    → ReadsAs log bytes newest
reads_as log bytes None stands most = most
reads_as log bytes (Some newest) stands most = record { slot = stands.0; is_open = stands.1; newest = most }

each_slot : (log : ℕ) (bytes : List ℕ) (first second third newest : Found) → SlotHas log bytes 0 first
    → SlotHas log bytes 1 second → SlotHas log bytes 2 third
    → IsAtMost first newest → IsAtMost second newest → IsAtMost third newest
    → (slot : ℕ) (body : CommitBody) (n : ℕ) → IsOpenSlot log bytes slot body n → NumberAtMost n newest
each_slot log bytes first second third newest a b c first' second' third' slot body n is =
    let P : ℕ → Type 0 = λ s. IsOpenSlot log bytes s body n in
    let below : slot < 3 = (let e = is.sector.in_slot in omega (arith, e)) in
    elim (cases_eq slot 0) [
      | inl e ↦ slot_at_most log 0 bytes first newest a first' body n (subst P e is)
      | inr other ↦ elim (cases_eq slot 1) [
        | inl e ↦ slot_at_most log 1 bytes second newest b second' body n (subst P e is)
        | inr neither ↦ (let e : slot ≡ 2 = omega (arith, below, other, neither) in
            slot_at_most log 2 bytes third newest c third' body n (subst P e is))
      ]
    ]

pub newest_reads : (log : ℕ) (bytes : List ℕ) (first second third newer newest : Found) → IsNewer second third newer
    → IsNewer first newer newest
    → SlotHas log bytes 0 first → SlotHas log bytes 1 second → SlotHas log bytes 2 third → ReadsAs log bytes newest
newest_reads log bytes first second third newer newest inner outer a b c =
    let P : Found → Type 0 = StandsSomewhere log bytes in
    let inside : P newer = elim inner.one [
      | inl e ↦ subst P (sym e) (somewhere log 1 bytes second b)
      | inr e ↦ subst P (sym e) (somewhere log 2 bytes third c)
    ] in
    let stands : P newest = elim outer.one [
      | inl e ↦ subst P (sym e) (somewhere log 0 bytes first a)
      | inr e ↦ subst P (sym e) inside
    ] in
    reads_as log bytes newest stands
    (each_slot log bytes first second third newest a b c outer.first_at_most (at_most_then second newer newest inner.first_at_most
    outer.second_at_most) (at_most_then third newer newest inner.second_at_most outer.second_at_most))

pub newest_now : (log : ℕ) (moments : List Medium) (first second third newer newest : Found) → IsNewer second third newer
    → IsNewer first newer newest
    → HoldsNow (λ now. SlotHas log now.bytes 0 first) moments → HoldsNow (λ now. SlotHas log now.bytes 1 second) moments
    → HoldsNow (λ now. SlotHas log now.bytes 2 third) moments
    → HoldsNow (λ now. ReadsAs log now.bytes newest) moments
newest_now log [] first second third newer newest inner outer a b c = tt
newest_now log (now ∷ past) first second third newer newest inner outer a b c =
    newest_reads log now.bytes first second third newer newest inner outer a b c
