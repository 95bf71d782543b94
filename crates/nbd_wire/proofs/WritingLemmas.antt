-- How what was written of a message adds up.
use Rattle.std.proofs.Common.{◌≡◌, ℕ, ◌≤◌, Bool, true, false, List, ◌++◌, length, take, drop, replicate, refl, sym, ◌∙◌, ap}
use Rattle.std.proofs.Common.{subst, append_assoc}
use Rattle.std.specs.Int.{w16, w64, to_be_bytes}
use Rattle.std.specs.Prelude.{Option, Result, Ok, Err, IsErrAnd}
use Rattle.std.specs.Io.KnownBytes.{Appends}
use Rattle.std.proofs.lemmas.List.{take-append-drop}
use Rattle.lsvd_fault.proofs.Streams.{appends_more}
use Rattle.nbd_wire.specs.declared.wire_end.WireEnd.{WireEnd}
use Rattle.nbd_wire.specs.declared.wire_end.WireEnd.TheVariants.{LinkFault}
use Rattle.nbd_wire.specs.Messages.{export_bytes}
use Rattle.nbd_wire.specs.Writing.{WritesFront, WritesMessage}

-- the front that a failed write of bytes left
abbrev pub LeavesFront : List ℕ → Option (List ℕ) → Option (List ℕ) → Type 0
LeavesFront bytes old new = (n : ℕ) × (n ≤ length bytes) × Appends old new (take n bytes)

-- it is a front of the bytes and what comes after them
pub writes_front : (bytes more : List ℕ) (old new : Option (List ℕ)) → LeavesFront bytes old new
    → WritesFront (bytes ++ more) old new
writes_front bytes more old new left =
    let n = left.0 in (
      take n bytes,
      drop n bytes ++ more,
      ap (λ xs. xs ++ more) (sym (take-append-drop n bytes)) ∙ append_assoc (take n bytes) (drop n bytes) more,
      left.2,
    )

-- the same after a head that was written
pub writes_front_after : (head bytes : List ℕ) (old mid new : Option (List ℕ)) → Appends old mid head
    → LeavesFront bytes mid new → WritesFront (head ++ bytes) old new
writes_front_after head bytes old mid new written left =
    let n = left.0 in (
      head ++ take n bytes,
      drop n bytes,
      ap (λ xs. head ++ xs) (sym (take-append-drop n bytes)) ∙ sym (append_assoc head (take n bytes) (drop n bytes)),
      appends_more old mid new head (take n bytes) written left.2,
    )

-- a write that failed is told as a fault of the link
pub tells_fault : {T : Type 0} (result : Result T WireEnd) (bytes : List ℕ) (old new : Option (List ℕ))
    → IsErrAnd result (λ e. e ≡ LinkFault) → WritesFront bytes old new → WritesMessage bytes old new result
tells_fault (Ok value) bytes old new told front = absurd told
tells_fault {T} (Err e) bytes old new told front =
    let P : WireEnd → Type 0 = λ w. WritesMessage {T = T} bytes old new (Err w) in subst P (sym told) front

pub whole_front : (bytes : List ℕ) (old new : Option (List ℕ)) → LeavesFront bytes old new → WritesFront bytes old new
whole_front bytes old new left = (take left.0 bytes, drop left.0 bytes, sym (take-append-drop left.0 bytes), left.2)

-- with its zeros an export has all of these bytes, and without them the first ten
pub all_of_export : (size flags end : ℕ) (zeroes : Bool) (bytes : List ℕ)
    → bytes ≡ to_be_bytes w64 size ++ to_be_bytes w16 flags ++ replicate 124 0 → zeroes ≡ true → end ≡ 134
    → take end bytes ≡ export_bytes size flags zeroes
all_of_export size flags end zeroes bytes is with_zeros ends = rw (is, with_zeros, ends) refl

pub front_of_export : (size flags end : ℕ) (zeroes : Bool) (bytes : List ℕ)
    → bytes ≡ to_be_bytes w64 size ++ to_be_bytes w16 flags ++ replicate 124 0 → zeroes ≡ false → end ≡ 10
    → take end bytes ≡ export_bytes size flags zeroes
front_of_export size flags end zeroes bytes is without ends = rw (is, without, ends) refl
