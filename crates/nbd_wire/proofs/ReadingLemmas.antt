-- What was read so far, and which message it is.
use Rattle.std.proofs.Common.{◌≡◌, ℕ, ◌+◌, ◌-◌, ◌≤◌, List, ◌++◌, length, length-drop, take, drop, ◌∙◌, ap, arith}
use Rattle.std.specs.Prelude.{Option, Some, None, Err}
use Rattle.std.specs.Io.KnownBytes.{Consumes}
use Rattle.std.proofs.lemmas.List.{length-append, length-take-le, take_at, drop_at, take-append-le}
use Rattle.std.proofs.Math.Seq.{take-add}
use borrow.Rule.Slice.PartMut.{put_mid}
use Rattle.lsvd_fault.proofs.Streams.{consumes_more}
use Rattle.nbd_wire.specs.declared.wire_end.WireEnd.{WireEnd}
use Rattle.nbd_wire.specs.declared.wire_end.WireEnd.TheVariants.{Ended, Closed, LinkFault}
use Rattle.nbd_wire.specs.Reading.{HasFewerThan, ReadsAtMostOf, ReadsData}

-- ---- filling a buffer

-- what was filled, and some of what a read then put behind it
pub filled_more : (buf part : List ℕ) (at size count : ℕ) → at ≤ length buf → count ≤ length part
    → take (at + count) (put_mid at size buf part) ≡ take at buf ++ take count part
filled_more buf part at size count room fits =
    let rest = part ++ drop size (drop at buf) in
    let front = length-take-le at buf room in
    take-add at count (take at buf ++ rest)
    ∙ ap (λ xs. xs ++ take count (drop at (take at buf ++ rest))) (take_at (take at buf) rest at front)
    ∙ ap (λ xs. take at buf ++ take count xs) (drop_at (take at buf) rest at front)
    ∙ ap (λ xs. take at buf ++ xs) (take-append-le count part (drop size (drop at buf)) fits)

length-filled : (buf part : List ℕ) (at : ℕ) → at ≤ length buf → length part ≡ length buf - at
    → length (put_mid at (length buf - at) buf part) ≡ length buf
length-filled buf part at room size =
    let rest = drop (length buf - at) (drop at buf) in
    omega (
      arith,
      room,
      size,
      length-append (take at buf) (part ++ rest),
      length-append part rest,
      length-take-le at buf room,
      length-drop (length buf - at) (drop at buf),
      length-drop at buf,
    )

-- what a read put behind what was filled stands in the buffer
pub filled_within : (buf part : List ℕ) (at count : ℕ) → at ≤ length buf → length part ≡ length buf - at → count ≤ length part
    → at + count ≤ length (put_mid at (length buf - at) buf part)
filled_within buf part at count room size fits = omega (arith, length-filled buf part at room size, room, size, fits)

-- ---- data

-- some of the data were read
pub record IsPartRead (size left : ℕ) (old new : Option (List ℕ)) : Type 0 where
  pub bytes : List ℕ
  pub count : length bytes + left ≡ size
  pub read : Consumes old new bytes

-- and then no more than a part of what is left
at_most_after : (size left part : ℕ) (bytes : List ℕ) (old mid new : Option (List ℕ)) → length bytes + left ≡ size → part ≤ left
    → Consumes old mid bytes → ReadsAtMostOf part mid new → ReadsAtMostOf size old new
at_most_after size left part bytes old mid new count fits read more = (
  bytes ++ more.0,
  omega (arith, count, fits, more.1, length-append bytes more.0),
  consumes_more old mid new bytes more.0 read more.2,
)

-- the last of them could not be read
pub data_end_after : {T U : Type 0} (size left part : ℕ) (IsOf : List ℕ → T → Type 0) (IsOf' : List ℕ → U → Type 0)
    (old mid new : Option (List ℕ)) → IsPartRead size left old mid → part ≤ left → (e : WireEnd)
    → ReadsData part IsOf mid new (Err e) → ReadsData size IsOf' old new (Err e)
data_end_after size left part IsOf IsOf' old mid new before fits Ended read = absurd read
data_end_after size left part IsOf IsOf' old mid new before fits Closed read = (
  fewer_before size left part before.bytes old mid before.count fits before.read read.0,
  at_most_after size left part before.bytes old mid new before.count fits before.read read.1,
  read.2,
)
  where
    fewer_before : (size left part : ℕ) (bytes : List ℕ) (old mid : Option (List ℕ)) → length bytes + left ≡ size → part ≤ left
        → Consumes old mid bytes → HasFewerThan part mid → HasFewerThan size old
    fewer_before size left part bytes None mid count fits read few = tt
    fewer_before size left part bytes (Some xs) None count fits read few = absurd read
    fewer_before size left part bytes (Some xs) (Some ys) count fits read few =
        omega (arith, count, fits, few, ap length read, length-append bytes ys)
data_end_after size left part IsOf IsOf' old mid new before fits LinkFault read =
    at_most_after size left part before.bytes old mid new before.count fits before.read read

-- one piece more was read
pub part_more : (size left : ℕ) (piece : List ℕ) (old mid new : Option (List ℕ)) → IsPartRead size left old mid
    → length piece ≤ left → Consumes mid new piece → IsPartRead size (left - length piece) old new
part_more size left piece old mid new before fits read = record {
  bytes = before.bytes ++ piece;
  count = omega (arith, before.count, fits, length-append before.bytes piece);
  read = consumes_more old mid new before.bytes piece before.read read;
}
