-- How answers that are written one after the other add up.
use Rattle.std.proofs.Common.{◌≡◌, ℕ, List, ◌++◌, sym, ◌∙◌, ap, subst, append_assoc}
use Rattle.std.specs.Prelude.{Option, Result, Ok, Err, IsErrAnd}
use Rattle.std.specs.Io.KnownBytes.{Appends}
use Rattle.lsvd_fault.proofs.Streams.{appends_more}
use Rattle.nbd_wire.specs.declared.wire_end.WireEnd.{WireEnd}
use Rattle.nbd_wire.specs.declared.wire_end.WireEnd.TheVariants.{Ended, Closed, LinkFault}
use Rattle.nbd_wire.specs.Writing.{WritesMessage}

-- one piece was written, and then another, or a front of it
pub writes_more : {T : Type 0} (first second : List ℕ) (old mid new : Option (List ℕ)) (result : Result T WireEnd)
    → Appends old mid first → WritesMessage second mid new result → WritesMessage (first ++ second) old new result
writes_more first second old mid new (Ok value) written more = appends_more old mid new first second written more
writes_more first second old mid new (Err Ended) written more = absurd more
writes_more first second old mid new (Err Closed) written more = absurd more
writes_more first second old mid new (Err LinkFault) written more = (
  first ++ more.0,
  more.1,
  ap (λ xs. first ++ xs) more.2 ∙ sym (append_assoc first more.0 more.1),
  appends_more old mid new first more.0 written more.3,
)

-- a front of one piece was written, and nothing of what comes after it
pub writes_no_more : (first second : List ℕ) (old new : Option (List ℕ)) (e : WireEnd)
    → WritesMessage {T = Unit {0}} first old new (Err e) → WritesMessage {T = Unit {0}} (first ++ second) old new (Err e)
writes_no_more first second old new Ended front = absurd front
writes_no_more first second old new Closed front = absurd front
writes_no_more first second old new LinkFault front =
    (front.0, front.1 ++ second, ap (λ xs. xs ++ second) front.2 ∙ append_assoc front.0 front.1 second, front.3)

-- the same where the fault is told as it came
pub tells_no_more : (first second : List ℕ) (old new : Option (List ℕ)) (result : Result (Unit {0}) WireEnd) (e : WireEnd)
    → IsErrAnd result (λ w. w ≡ e) → WritesMessage {T = Unit {0}} first old new (Err e)
    → WritesMessage (first ++ second) old new result
tells_no_more first second old new (Ok value) e told front = absurd told
tells_no_more first second old new (Err w) e told front =
    let P : WireEnd → Type 0 = λ x. WritesMessage {T = Unit {0}} (first ++ second) old new (Err x) in
    subst P (sym told) (writes_no_more first second old new e front)
