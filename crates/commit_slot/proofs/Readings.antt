-- What a device reads as whenever it stops.
use Rattle.std.proofs.Common.{◌≡◌, ℕ, ◌+◌, ◌%◌, ◌<◌, ◌≤◌, ◌≢◌, ◌⊎◌, List, get_or, drop, sym, ◌∙◌, ap, subst, inl, inr, arith}
use Rattle.std.proofs.lemmas.List.{get_or-take, get_or-drop}
use Rattle.std.proofs.lemmas.Bool.{cases_eq}
use Rattle.lsvd_bytes.specs.Places.{bytes_at}
use Rattle.lsvd_device.specs.Medium.{Medium, MayLeave}
use Rattle.lsvd_device.specs.Device.{HasSize}
use Rattle.commit_body.specs.declared.body.CommitBody.{CommitBody}
use Rattle.commit_body.specs.Body.{IsBody}
use Rattle.commit_slot.specs.Slots.{body_at, gate_at, IsOpenSlot, Reads}
use Rattle.commit_slot.specs.Lasting.{Lasts}
use Rattle.commit_slot.specs.Commits.{IsOlder, ReadsSettled}
use Rattle.commit_slot.specs.States.{IsOpen, IsClosed, IsSettled, IsSettledIn, IsHalfMade, IsHalfMadeIn}
use Rattle.commit_slot.specs.OnDisk.{ReadsWithGate, HasGate}
use Rattle.commit_slot.proofs.LastingLemmas.{lasts_left}
use Rattle.commit_slot.proofs.SlotStates.{AreThree, three, LiesIn, body_lies, gate_lies, same_number, own_is_older}

-- one byte from a place on
pub one_byte : (at : ℕ) (bytes : List ℕ) → get_or (bytes_at at 1 bytes) 0 0 ≡ get_or bytes at 0
one_byte at bytes = get_or-take 1 (drop at bytes) 0 0 (omega arith) ∙ get_or-drop at bytes 0 0
    ∙ ap (λ n. get_or bytes n 0) (let e : at + 0 ≡ at = omega arith in e)

-- a slot is one of the three
data IsOneOf (last next third slot : ℕ) : Type 0 where
  is_last : slot ≡ last → IsOneOf last next third slot
  is_next : slot ≡ next → IsOneOf last next third slot
  is_third : slot ≡ third → IsOneOf last next third slot

-- what each of the three slots has, in bytes that a stop leaves
pub record HasSettled (log last next third number : ℕ) (body : CommitBody) (bytes : List ℕ) : Type 0 where
  pub is_open : IsOpenSlot log bytes last body number
  pub closed : IsClosed (bytes_at (gate_at next) 1 bytes)
  pub older : IsOlder log third number (bytes_at (body_at third) 512 bytes)

-- a slot that is closed is not open
pub not_open : (log slot n : ℕ) (bytes : List ℕ) (b : CommitBody) → IsClosed (bytes_at (gate_at slot) 1 bytes)
    → IsOpenSlot log bytes slot b n → ⊥
not_open log slot n bytes b closed is_open = closed (one_byte (gate_at slot) bytes ∙ is_open.gate)

-- the slot of a body is below three
pub slot_below : (log slot n : ℕ) (bytes : List ℕ) (b : CommitBody) → IsOpenSlot log bytes slot b n → slot < 3
slot_below log slot n bytes b is_open = (let e = is_open.sector.in_slot in omega (arith, e))

which : (last next third slot : ℕ) → AreThree last next third → slot < 3 → IsOneOf last next third slot
which last next third slot slots below =
    elim (cases_eq slot last) [
      | inl e ↦ is_last e
      | inr other ↦ elim (cases_eq slot next) [
        | inl e ↦ is_next e
        | inr neither ↦ is_third (let a = slots.last' in let b = slots.next' in let c = slots.third' in
            omega (arith, a, b, c, below, other, neither, slots.first, slots.second, slots.both))
      ]
    ]

settled_newest : (log last next third number : ℕ) (body : CommitBody) (bytes : List ℕ) → AreThree last next third
    → HasSettled log last next third number body bytes
    → (slot : ℕ) (b : CommitBody) (n : ℕ) → IsOpenSlot log bytes slot b n → n ≤ number
settled_newest log last next third number body bytes slots has slot b n is_open =
    let P : ℕ → Type 0 = λ s. IsOpenSlot log bytes s b n in
    elim (which last next third slot slots (slot_below log slot n bytes b is_open)) [
      | is_last e ↦ (let own = same_number _ log last last number n body b has.is_open.sector (subst P e is_open).sector in
          omega (arith, own.1))
      | is_next e ↦ absurd (not_open log next n bytes b has.closed (subst P e is_open))
      | is_third e ↦ (let less = has.older b n (subst P e is_open).sector in omega (arith, less))
    ]

-- what lasts in a slot, in bytes that a stop leaves
pub left_there : (size slot at count : ℕ) (P : List ℕ → Type 0) (medium : Medium) (left : List ℕ) → HasSize size medium
    → 4096 ≤ size → slot < 3 → LiesIn slot at count
    → Lasts at count P medium → MayLeave medium left → P (bytes_at at count left)
left_there size slot at count P medium left has least below lies lasts may =
    lasts_left at count P medium left (let e = has.synced in omega (arith, e, least, below, lies.to)) lasts may

settled_in : (size log last next third number : ℕ) (body : CommitBody) (medium : Medium) (left : List ℕ)
    → AreThree last next third → HasSize size medium → 4096 ≤ size
    → IsSettledIn log last next third number body medium → MayLeave medium left → HasSettled log last next third number body left
settled_in size log last next third number body medium left slots has least settled may = record {
  is_open = record {
    gate = sym (one_byte (gate_at last) left) ∙ left_there size last (gate_at last) 1 IsOpen medium left has least slots.last'
        (gate_lies last) settled.gate may;
    sector = left_there size last (body_at last) 512 (λ bytes. IsBody bytes log last body number) medium left has least
        slots.last' (body_lies last) settled.sector may;
  };
  closed = left_there size next (gate_at next) 1 IsClosed medium left has least slots.next' (gate_lies next) settled.closed may;
  older = left_there size third (body_at third) 512 (IsOlder log third number) medium left has least slots.third'
      (body_lies third) settled.older may;
}

pub settled_reads : (size log number : ℕ) (body : CommitBody) (medium : Medium) (left : List ℕ) → HasSize size medium
    → 4096 ≤ size
    → IsSettled log number body medium → MayLeave medium left → ReadsSettled log left body number
settled_reads size log number body medium left has least settled may =
    let last : ℕ = number % 3 in
    let next : ℕ = (number + 1) % 3 in
    let third : ℕ = (number + 2) % 3 in
    let all = settled_in size log last next third number body medium left (three number) has least settled may in
    record {
      reads = record {
        slot = last;
        is_open = all.is_open;
        newest = settled_newest log last next third number body left
            (three number) all;
      };
      next = λ e. all.closed (one_byte (gate_at next) left ∙ e);
      third = all.older;
    }

-- the last commit in an open slot, and the body of the next one
record HasHalf (log last next third number : ℕ) (body more : CommitBody) (bytes : List ℕ) : Type 0 where
  is_open : IsOpenSlot log bytes last body number
  next_sector : IsBody (bytes_at (body_at next) 512 bytes) log next more (number + 1)
  closed : IsClosed (bytes_at (gate_at third) 1 bytes)
  older : IsOlder log third number (bytes_at (body_at third) 512 bytes)

-- no commit is newer than the next one
half_newest : (log last next third number : ℕ) (body more : CommitBody) (bytes : List ℕ) → AreThree last next third
    → HasHalf log last next third number body more bytes
    → (slot : ℕ) (b : CommitBody) (n : ℕ) → IsOpenSlot log bytes slot b n → n ≤ number + 1
half_newest log last next third number body more bytes slots has slot b n is_open =
    let P : ℕ → Type 0 = λ s. IsOpenSlot log bytes s b n in
    elim (which last next third slot slots (slot_below log slot n bytes b is_open)) [
      | is_last e ↦ (let own = same_number _ log last last number n body b has.is_open.sector (subst P e is_open).sector in
          omega (arith, own.1))
      | is_next e ↦ (let own = same_number _ log next next (number + 1) n more b has.next_sector (subst P e is_open).sector in
          omega (arith, own.1))
      | is_third e ↦ absurd (not_open log third n bytes b has.closed (subst P e is_open))
    ]

-- nor than the last one, where the next slot is closed
half_closed : (log last next third number : ℕ) (body more : CommitBody) (bytes : List ℕ) → AreThree last next third
    → HasHalf log last next third number body more bytes
    → IsClosed (bytes_at (gate_at next) 1 bytes) → (slot : ℕ) (b : CommitBody) (n : ℕ) → IsOpenSlot log bytes slot b n
    → n ≤ number
half_closed log last next third number body more bytes slots has gate slot b n is_open =
    let P : ℕ → Type 0 = λ s. IsOpenSlot log bytes s b n in
    elim (which last next third slot slots (slot_below log slot n bytes b is_open)) [
      | is_last e ↦ (let own = same_number _ log last last number n body b has.is_open.sector (subst P e is_open).sector in
          omega (arith, own.1))
      | is_next e ↦ absurd (not_open log next n bytes b gate (subst P e is_open))
      | is_third e ↦ absurd (not_open log third n bytes b has.closed (subst P e is_open))
    ]

-- a byte is 1 or it is not
one_or_other : (byte : ℕ) → (byte ≡ 1) ⊎ (byte ≢ 1)
one_or_other byte = cases_eq byte 1

-- the device reads as the gate of the next slot says
half_opened : (log last next third number : ℕ) (body more : CommitBody) (bytes : List ℕ) → AreThree last next third
    → HasHalf log last next third number body more bytes
    → get_or bytes (gate_at next) 0 ≡ 1 → Reads log bytes more (number + 1)
half_opened log last next third number body more bytes slots has one =
    record {
      slot = next;
      is_open = record { gate = one; sector = has.next_sector };
      newest = half_newest log last next third
          number body more bytes slots has;
    }

half_unopened : (log last next third number : ℕ) (body more : CommitBody) (bytes : List ℕ) → AreThree last next third
    → HasHalf log last next third number body more bytes
    → get_or bytes (gate_at next) 0 ≢ 1 → Reads log bytes body number
half_unopened log last next third number body more bytes slots has other = record {
  slot = last;
  is_open = has.is_open;
  newest = half_closed log last next third number body more bytes slots has
      (λ e. other (sym (one_byte (gate_at next) bytes) ∙ e));
}

-- and its other slots are as between two commits
opened_settled : (log number : ℕ) (body more : CommitBody) (bytes : List ℕ)
    → HasHalf log (number % 3) ((number + 1) % 3) ((number + 2) % 3) number body more bytes
    → get_or bytes (gate_at ((number + 1) % 3)) 0 ≡ 1 → ReadsSettled log bytes more (number + 1)
opened_settled log number body more bytes has one =
    let next : (number + 1 + 1) % 3 ≡ (number + 2) % 3 = omega arith in
    let third : (number + 1 + 2) % 3 ≡ number % 3 = omega arith in
    let P : ℕ → Type 0 = λ slot. get_or bytes (gate_at slot) 0 ≢ 1 in
    let Q : ℕ → Type 0 = λ slot. IsOlder log slot (number + 1) (bytes_at (body_at slot) 512 bytes) in
    record {
      reads = half_opened log (number % 3) ((number + 1) % 3) ((number + 2) % 3) number body more bytes (three number) has one;
      next = subst P (sym next) (λ e. has.closed (one_byte (gate_at ((number + 2) % 3)) bytes ∙ e));
      third = subst Q (sym third) (own_is_older log (number % 3) number body _ has.is_open.sector);
    }

unopened_settled : (log number : ℕ) (body more : CommitBody) (bytes : List ℕ)
    → HasHalf log (number % 3) ((number + 1) % 3) ((number + 2) % 3) number body more bytes
    → get_or bytes (gate_at ((number + 1) % 3)) 0 ≢ 1 → ReadsSettled log bytes body number
unopened_settled log number body more bytes has other = record {
  reads = half_unopened log (number % 3) ((number + 1) % 3) ((number + 2) % 3) number body more bytes (three number) has other;
  next = other;
  third = has.older;
}

half_in : (log number : ℕ) (body more : CommitBody) (bytes : List ℕ)
    → HasHalf log (number % 3) ((number + 1) % 3) ((number + 2) % 3) number body more bytes
    → ReadsSettled log bytes body number ⊎ ReadsSettled log bytes more (number + 1)
half_in log number body more bytes has =
    elim (one_or_other (get_or bytes (gate_at ((number + 1) % 3)) 0)) [
      | inl one ↦ inr (opened_settled log number body more bytes has one)
      | inr other ↦ inl (unopened_settled log number body more bytes has other)
    ]

has_half_left : (size log last next third number : ℕ) (body more : CommitBody) (medium : Medium) (left : List ℕ)
    → AreThree last next third → HasSize size medium → 4096 ≤ size
    → IsHalfMadeIn log last next third number body more medium → MayLeave medium left
    → HasHalf log last next third number body more left
has_half_left size log last next third number body more medium left slots has least half may = record {
  is_open = record {
    gate = sym (one_byte (gate_at last) left) ∙ left_there size last (gate_at last) 1 IsOpen medium left has least slots.last'
        (gate_lies last) half.gate may;
    sector = left_there size last (body_at last) 512 (λ bytes. IsBody bytes log last body number) medium left has least
        slots.last' (body_lies last) half.sector may;
  };
  next_sector = left_there size next (body_at next) 512 (λ bytes. IsBody bytes log next more (number + 1)) medium left has least
      slots.next' (body_lies next) half.next_sector may;
  closed = left_there size third (gate_at third) 1 IsClosed medium left has least slots.third' (gate_lies third) half.closed may;
  older = left_there size third (body_at third) 512 (IsOlder log third number) medium left has least slots.third'
      (body_lies third) half.older may;
}

has_half_now : (log last next third number : ℕ) (body more : CommitBody) (medium : Medium)
    → IsHalfMadeIn log last next third number body more medium
    → HasHalf log last next third number body more medium.bytes
has_half_now log last next third number body more medium half = record {
  is_open = record { gate = sym (one_byte (gate_at last) medium.bytes) ∙ half.gate.now; sector = half.sector.now };
  next_sector = half.next_sector.now;
  closed = half.closed.now;
  older = half.older.now;
}

with_gate : (log number : ℕ) (body more : CommitBody) (bytes : List ℕ)
    → HasHalf log (number % 3) ((number + 1) % 3) ((number + 2) % 3) number body more bytes
    → ReadsWithGate log number body more bytes
with_gate log number body more bytes has = record {
  opened = half_opened log (number % 3) ((number + 1) % 3) ((number + 2) % 3) number body more bytes (three number) has;
  closed = half_unopened log (number % 3) ((number + 1) % 3) ((number + 2) % 3) number body more bytes (three number) has;
}

pub half_gate : (size log number : ℕ) (body more : CommitBody) (medium : Medium) → HasSize size medium → 4096 ≤ size
    → IsHalfMade log number body more medium → HasGate log number body more medium
half_gate size log number body more medium has least half = record {
  now = with_gate log number body more medium.bytes (has_half_now log (number % 3) ((number + 1) % 3) ((number + 2) % 3) number
      body more medium half);
  left = λ left may.
      with_gate log number body more left
      (has_half_left size log (number % 3) ((number + 1) % 3) ((number + 2) % 3) number body more medium left (three number) has
      least half may);
}

pub half_reads : (size log number : ℕ) (body more : CommitBody) (medium : Medium) (left : List ℕ) → HasSize size medium
    → 4096 ≤ size
    → IsHalfMade log number body more medium → MayLeave medium left → ReadsSettled log left body number
    ⊎ ReadsSettled log left more (number + 1)
half_reads size log number body more medium left has least half may =
    half_in log number body more left
    (has_half_left size log (number % 3) ((number + 1) % 3) ((number + 2) % 3) number body more medium left (three number) has
    least half may)
