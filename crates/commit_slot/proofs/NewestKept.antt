-- The newest commit of a device, over what mends its slots.
use Rattle.std.proofs.Common.{◌≡◌, ◌≢◌, ℕ, ◌+◌, ◌%◌, ◌<◌, ◌≤◌, ◌⊎◌, List, [], ◌∷◌, length, get_or, sym, ◌∙◌, ap, subst, inl, inr}
use Rattle.std.proofs.Common.{arith}
use Rattle.std.specs.List.{AllByRecursion}
use Rattle.std.proofs.lemmas.Bool.{cases_eq}
use Rattle.lsvd_bytes.specs.Places.{bytes_at}
use Rattle.lsvd_device.specs.Medium.{Medium, after_write, after_sync}
use Rattle.lsvd_device.specs.Device.{HasSize, HoldsNow, moments_after, FailsToWrite}
use Rattle.lsvd_device.specs.Memory.{IsSynced}
use Rattle.commit_body.specs.declared.body.CommitBody.{CommitBody}
use Rattle.commit_body.specs.Body.{IsBody}
use Rattle.commit_slot.specs.Slots.{body_at, gate_at, IsOpenSlot, Reads}
use Rattle.commit_slot.specs.Lasting.{Lasts}
use Rattle.commit_slot.specs.Commits.{IsOlder}
use Rattle.commit_slot.specs.States.{IsOpen, IsClosed, IsSettled}
use Rattle.commit_slot.specs.Loading.{LeavesRead}
use Rattle.commit_slot.specs.Mending.{IsPassedOver, IsNewest, NextIsClosed, ThirdIsOlder}
use Rattle.commit_slot.proofs.LastingLemmas.{Apart}
use Rattle.commit_slot.proofs.Passing.{PassesTo, to_as, after_step, failed_write}
use Rattle.commit_slot.proofs.SlotStates.{LiesIn, body_lies, gate_lies, gate_past, body_before, slots_apart, Keeps, written_keeps}
use Rattle.commit_slot.proofs.SlotStates.{torn_keeps_lasting, sync_keeps, same_number}
use Rattle.commit_slot.proofs.Readings.{one_byte, not_open, slot_below, left_there}
use Rattle.commit_slot.proofs.Steps.{next_of, third_of}

-- ---- what a stop leaves

newest_of : (log number : ℕ) (body : CommitBody) (left : List ℕ) → IsOpenSlot log left (number % 3) body number
    → ((slot : ℕ) → slot < 3 → slot ≢ number % 3 → IsClosed (bytes_at (gate_at slot) 1 left)
    ⊎ IsOlder log slot number (bytes_at (body_at slot) 512 left))
    → (slot : ℕ) (b : CommitBody) (n : ℕ) → IsOpenSlot log left slot b n → n ≤ number
newest_of log number body left own others slot b n is =
    let P : ℕ → Type 0 = λ s. IsOpenSlot log left s b n in
    elim (cases_eq slot (number % 3)) [
      | inl e ↦ (let same = same_number _ log (number % 3) (number % 3) number n body b own.sector (subst P e is).sector in
          omega (arith, same.1))
      | inr other ↦ elim (others slot (slot_below log slot n left b is) other) [
        | inl closed ↦ absurd (not_open log slot n left b closed is)
        | inr older ↦ (let less = older b n is.sector in omega (arith, less))
      ]
    ]

pub newest_leaves : (size log number : ℕ) (body : CommitBody) (medium : Medium) → 4096 ≤ size → HasSize size medium
    → IsNewest log number body medium → LeavesRead log number body medium
newest_leaves size log number body medium least has newest = λ left may.
    let last : ℕ = number % 3 in
    let below : last < 3 = omega arith in
    let own : IsOpenSlot log left last body number = record {
      gate = sym (one_byte (gate_at last) left) ∙ left_there size last (gate_at last) 1 IsOpen medium left has least below
          (gate_lies last) newest.gate may;
      sector = left_there size last (body_at last) 512 (λ bytes. IsBody bytes log last body number) medium left has least below
          (body_lies last) newest.sector may;
    } in
    let others : (slot : ℕ) → slot < 3 → slot ≢ last → IsClosed (bytes_at (gate_at slot) 1 left)
    ⊎ IsOlder log slot number (bytes_at (body_at slot) 512 left) =
    (λ slot inside other. elim (newest.others slot inside other) [
      | inl closed ↦ inl (left_there size slot (gate_at slot) 1 IsClosed medium left has least inside (gate_lies slot) closed may)
      | inr older ↦ inr (left_there size slot (body_at slot) 512 (IsOlder log slot number) medium left has least inside
          (body_lies slot) older may)
    ]) in
    record { slot = last; is_open = own; newest = newest_of log number body left own others }

-- ---- a sync

-- of a slot that is not that of the newest commit
synced_other : (size log number slot : ℕ) (body : CommitBody) (medium : Medium) → 4096 ≤ size → HasSize size medium → slot < 3
    → slot ≢ number % 3 → Reads log medium.bytes body number
    → IsPassedOver log number slot (after_sync medium)
synced_other size log number slot body medium least has below other reads =
    elim (cases_eq (get_or (bytes_at (gate_at slot) 1 medium.bytes) 0 0) 1) [
      | inr closed ↦ inl (sync_keeps size slot (gate_at slot) 1 IsClosed medium has least below (gate_lies slot) closed)
      | inl one ↦
          (let older : IsOlder log slot number (bytes_at (body_at slot) 512 medium.bytes) =
          (λ b n is.
          let most = reads.newest slot b n (record { gate = sym (one_byte (gate_at slot) medium.bytes) ∙ one; sector = is }) in
          let mine = is.in_slot in
          let differ : n ≢ number = (λ e. other (sym mine ∙ ap (λ k. k % 3) e)) in
          omega (arith, most, differ)) in
          inr (sync_keeps size slot (body_at slot) 512 (IsOlder log slot number) medium has least below (body_lies slot) older))
    ]

-- what a read gives as the newest commit, lasts after a sync
pub read_is_newest : (size log number : ℕ) (body : CommitBody) (medium : Medium) → 4096 ≤ size → HasSize size medium
    → Reads log medium.bytes body number → IsNewest log number body (after_sync medium)
read_is_newest size log number body medium least has reads =
    let last : ℕ = number % 3 in
    let below : last < 3 = omega arith in
    let P : ℕ → Type 0 = λ s. IsOpenSlot log medium.bytes s body number in
    let own : IsOpenSlot log medium.bytes last body number = subst P (sym reads.is_open.sector.in_slot) reads.is_open in
    record {
      sector = sync_keeps size last (body_at last) 512 (λ bytes. IsBody bytes log last body number) medium has least below
          (body_lies last) own.sector;
      gate = sync_keeps size last (gate_at last) 1 IsOpen medium has least below (gate_lies last)
          (one_byte (gate_at last) medium.bytes ∙ own.gate);
      others = λ slot inside other. synced_other size log number slot body medium least has inside other reads;
    }

pub newest_synced : (size log number : ℕ) (body : CommitBody) (medium : Medium) → 4096 ≤ size → HasSize size medium
    → IsNewest log number body medium → IsNewest log number body (after_sync medium)
newest_synced size log number body medium least has newest =
    let last : ℕ = number % 3 in
    let below : last < 3 = omega arith in
    record {
      sector = sync_keeps size last (body_at last) 512 (λ bytes. IsBody bytes log last body number) medium has least below
          (body_lies last) newest.sector.now;
      gate = sync_keeps size last (gate_at last) 1 IsOpen medium has least below (gate_lies last) newest.gate.now;
      others = λ slot inside other. elim (newest.others slot inside other) [
        | inl closed ↦ inl (sync_keeps size slot (gate_at slot) 1 IsClosed medium has least inside (gate_lies slot) closed.now)
        | inr older ↦ inr (sync_keeps size slot (body_at slot) 512 (IsOlder log slot number) medium has least inside
            (body_lies slot) older.now)
      ];
    }

-- the slots are as between two commits after a sync, where a read gave that
pub newest_settled : (size log number : ℕ) (body : CommitBody) (medium : Medium) → 4096 ≤ size → HasSize size medium
    → IsNewest log number body medium → NextIsClosed number medium
    → ThirdIsOlder log number medium → IsSettled log number body (after_sync medium)
newest_settled size log number body medium least has newest closed older =
    let last : ℕ = number % 3 in
    let below : last < 3 = omega arith in
    let below' : next_of number < 3 = omega arith in
    let below'' : third_of number < 3 = omega arith in
    record {
      sector = sync_keeps size last (body_at last) 512 (λ bytes. IsBody bytes log last body number) medium has least below
          (body_lies last) newest.sector.now;
      gate = sync_keeps size last (gate_at last) 1 IsOpen medium has least below (gate_lies last) newest.gate.now;
      closed = sync_keeps size (next_of number) (gate_at (next_of number)) 1 IsClosed medium has least below'
          (gate_lies (next_of number)) closed;
      older = sync_keeps size (third_of number) (body_at (third_of number)) 512 (IsOlder log (third_of number) number) medium has
          least below'' (body_lies (third_of number)) older;
    }

-- a sync of a medium of which nothing is pending changes nothing
pub synced_is_same : (medium : Medium) → IsSynced medium → after_sync medium ≡ medium
synced_is_same medium synced =
    ap (λ s. record { bytes = medium.bytes; synced = s; pending = [] }) (sym synced.synced)
    ∙ ap (λ p. record { bytes = medium.bytes; synced = medium.synced; pending = p }) (sym synced.pending)

-- ---- a write to another slot

-- what the slot is passed over for lies apart from the bytes that are written
pub record IsSpared (log number slot at count : ℕ) (body : CommitBody) (medium : Medium) : Type 0 where
  pub newest : IsNewest log number body medium
  pub other : (Apart at count (gate_at slot) 1 × Lasts (gate_at slot) 1 IsClosed medium)
      ⊎ (Apart at count (body_at slot) 512 × Lasts (body_at slot) 512 (IsOlder log slot number) medium)

-- a gate that is open may be written, and a body that is newer
pub gate_spared : (log number slot : ℕ) (body : CommitBody) (medium : Medium) → slot < 3 → slot ≢ number % 3
    → get_or (bytes_at (gate_at slot) 1 medium.bytes) 0 0 ≡ 1
    → IsNewest log number body medium → IsSpared log number slot (gate_at slot) 1 body medium
gate_spared log number slot body medium below differ one newest = record {
  newest = newest;
  other = elim (newest.others slot below differ) [
    | inl closed ↦ absurd (closed.now one)
    | inr older ↦ inr (body_before slot, older)
  ];
}

pub body_spared : (log number slot n : ℕ) (body b : CommitBody) (medium : Medium) → slot < 3 → slot ≢ number % 3
    → IsBody (bytes_at (body_at slot) 512 medium.bytes) log slot b n → number < n
    → IsNewest log number body medium → IsSpared log number slot (body_at slot) 512 body medium
body_spared log number slot n body b medium below differ is newer newest = record {
  newest = newest;
  other = elim (newest.others slot below differ) [
    | inl closed ↦ inl (gate_past slot, closed)
    | inr older ↦ (let less = older.now b n is in absurd (omega (arith, less, newer)))
  ];
}

-- what a write to the slot leaves of another
spared_other : (log number slot at count i : ℕ) (body : CommitBody) (old new : Medium) → LiesIn slot at count
    → Keeps at count old new → IsSpared log number slot at count body old → i < 3 → i ≢ number % 3
    → IsPassedOver log number i new
spared_other log number slot at count i body old new lies keeps spared below differ =
    elim (cases_eq slot i) [
      | inl e ↦
          (let P : ℕ → Type 0 = λ s. IsPassedOver log number s new in
          subst P e (elim spared.other [
            | inl closed ↦ inl (keeps (gate_at slot) 1 IsClosed closed.0 closed.1)
            | inr older ↦ inr (keeps (body_at slot) 512 (IsOlder log slot number) older.0 older.1)
          ]))
      | inr other ↦ elim (spared.newest.others i below differ) [
        | inl closed ↦ inl (keeps (gate_at i) 1 IsClosed (slots_apart slot i at count (gate_at i) 1 other lies (gate_lies i))
            closed)
        | inr older ↦ inr (keeps (body_at i) 512 (IsOlder log i number) (slots_apart slot i at count (body_at i) 512 other lies
            (body_lies i)) older)
      ]
    ]

pub spared_kept : (log number slot at count : ℕ) (body : CommitBody) (old new : Medium) → slot ≢ number % 3 → LiesIn slot at count
    → Keeps at count old new
    → IsSpared log number slot at count body old → IsSpared log number slot at count body new
spared_kept log number slot at count body old new differ lies keeps spared =
    let last : ℕ = number % 3 in
    record {
      newest = record {
        sector = keeps (body_at last) 512 _ (slots_apart slot last at count (body_at last) 512 differ lies (body_lies last))
            spared.newest.sector;
        gate = keeps (gate_at last) 1 _ (slots_apart slot last at count (gate_at last) 1 differ lies (gate_lies last))
            spared.newest.gate;
        others = λ i below other. spared_other log number slot at count i body old new lies keeps spared below other;
      };
      other = elim spared.other [
        | inl closed ↦ inl (closed.0, keeps (gate_at slot) 1 IsClosed closed.0 closed.1)
        | inr older ↦ inr (older.0, keeps (body_at slot) 512 (IsOlder log slot number) older.0 older.1)
      ];
    }

-- ---- at each moment since

abbrev pub PassesNewest : (log number : ℕ) → CommitBody → List Medium → List Medium → Type 0
PassesNewest log number body old new = PassesTo (IsNewest log number body) (IsNewest log number body) old new

pub holds_with : (P Q R : Medium → Type 0) (moments : List Medium) → ((medium : Medium) → P medium → Q medium → R medium)
    → HoldsNow P moments → HoldsNow Q moments → HoldsNow R moments
holds_with P Q R [] follows first second = tt
holds_with P Q R (now ∷ past) follows first second = follows now first second

pub spared_failed : (log number slot at count : ℕ) (body : CommitBody) (old new : List Medium) → slot ≢ number % 3
    → LiesIn slot at count → HoldsNow (IsSpared log number slot at count body) old
    → FailsToWrite at count old new → PassesNewest log number body old new
spared_failed log number slot at count body old new differ lies spared fails =
    let P : Medium → Type 0 = IsSpared log number slot at count body in
    to_as P P (IsNewest log number body) (IsNewest log number body) old new (λ medium s. s.newest) (λ medium s. s.newest)
    (failed_write P at count old new (λ medium torn is s. spared_kept log number slot at count body medium torn differ lies
    (torn_keeps_lasting at count medium torn is) s) spared fails)

pub spared_written : (size log number slot at count : ℕ) (body : CommitBody) (piece : List ℕ) (old new : List Medium)
    → slot ≢ number % 3 → slot < 3 → 4096 ≤ size → length piece ≡ count → LiesIn slot at count
    → AllByRecursion (HasSize size) old → HoldsNow (IsSpared log number slot at count body) old
    → new ≡ moments_after (after_write at piece) old → PassesNewest log number body old new
spared_written size log number slot at count body piece old new differ below least whole lies sizes spared moments =
    let P : Medium → Type 0 = IsSpared log number slot at count body in
    let within : at + length piece ≤ size = (let e = lies.to in omega (arith, e, whole, below, least)) in
    to_as P P (IsNewest log number body) (IsNewest log number body) old new (λ medium s. s.newest) (λ medium s. s.newest)
    (after_step P P size (after_write at piece) old new
    (λ medium has s.
    let Q : ℕ → Type 1 = λ n. Keeps at n medium (after_write at piece medium) in
    spared_kept log number slot at count body medium (after_write at piece medium) differ lies
    (subst Q whole (written_keeps size at piece medium has within)) s)
    sizes spared moments)
