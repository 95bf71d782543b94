-- The two halves of a commit: what stands in the slots over their writes and syncs.
use Rattle.std.proofs.Common.{◌≡◌, ℕ, ◌+◌, ◌%◌, ◌<◌, ◌≤◌, ◌≢◌, List, [], ◌∷◌, length, get_or, refl, sym, ◌∙◌, ap, subst, inl, inr}
use Rattle.std.proofs.Common.{arith}
use Rattle.std.proofs.lemmas.Bool.{cases_lt}
use Rattle.lsvd_bytes.specs.Places.{with_bytes, bytes_at}
use Rattle.lsvd_bytes.proofs.PlaceLemmas.{reads_bytes_again}
use Rattle.lsvd_device.specs.Medium.{Medium, IsTorn, after_write, after_sync}
use Rattle.lsvd_device.specs.Device.{HasSize}
use Rattle.commit_body.specs.declared.body.CommitBody.{CommitBody}
use Rattle.commit_body.specs.Body.{IsBody}
use Rattle.commit_body.proofs.BodyLemmas.{determines_body}
use Rattle.commit_slot.specs.Slots.{body_at, gate_at}
use Rattle.commit_slot.specs.Lasting.{Lasts}
use Rattle.commit_slot.specs.Commits.{IsOlder}
use Rattle.commit_slot.specs.States.{IsOpen, IsClosed, IsSettledIn, IsHalfMadeIn}
use Rattle.commit_slot.proofs.LastingLemmas.{Apart, lasts_write, lasts_torn, lasts_sync, still_there}

-- ---- places in the slots

-- three slots that are no two the same
pub record AreThree (last next third : ℕ) : Type 0 where
  pub last' : last < 3
  pub next' : next < 3
  pub third' : third < 3
  pub first : last ≢ next
  pub second : next ≢ third
  pub both : last ≢ third

pub three : (number : ℕ) → AreThree (number % 3) ((number + 1) % 3) ((number + 2) % 3)
three number = record {
  last' = omega arith;
  next' = omega arith;
  third' = omega arith;
  first = λ e. omega (arith, e);
  second = λ e. omega (arith, e);
  both = λ e. omega (arith, e);
}

-- this many bytes from a byte on lie in a slot
pub record LiesIn (slot at count : ℕ) : Type 0 where
  pub from : body_at slot ≤ at
  pub to : at + count ≤ body_at slot + 1024

pub body_lies : (slot : ℕ) → LiesIn slot (body_at slot) 512
body_lies slot = record { from = omega arith; to = omega arith }

pub gate_lies : (slot : ℕ) → LiesIn slot (gate_at slot) 1
gate_lies slot = record { from = omega arith; to = omega arith }

-- bytes of two slots lie apart
pub slots_apart : (slot other at count there many : ℕ) → slot ≢ other → LiesIn slot at count → LiesIn other there many
    → Apart at count there many
slots_apart slot other at count there many differ a b =
    elim (cases_lt slot other) [
      | inl less ↦ inr (omega (arith, less, a.to, b.from))
      | inr more ↦ (let above : other < slot = omega (arith, more, differ) in inl (omega (arith, above, a.from, b.to)))
    ]

-- a slot's gate lies after its body
pub gate_past : (slot : ℕ) → Apart (body_at slot) 512 (gate_at slot) 1
gate_past slot = inr (omega arith)

pub body_before : (slot : ℕ) → Apart (gate_at slot) 1 (body_at slot) 512
body_before slot = inl (omega arith)

-- ---- what a change keeps

-- a change of a range keeps what lasts apart from it
abbrev pub Keeps : (at count : ℕ) → (old new : Medium) → Type 1
Keeps at count old new = (there many : ℕ) (P : List ℕ → Type 0) → Apart at count there many → Lasts there many P old
    → Lasts there many P new

pub written_keeps : (size at : ℕ) (piece : List ℕ) (medium : Medium) → HasSize size medium → at + length piece ≤ size
    → Keeps at (length piece) medium (after_write at piece medium)
written_keeps size at piece medium has within = λ there many P apart lasts.
    lasts_write at piece there many P medium (let e = has.bytes in omega (arith, e, within)) apart lasts

pub torn_keeps_lasting : (at count : ℕ) (old new : Medium) → IsTorn at count old new → Keeps at count old new
torn_keeps_lasting at count old new torn = λ there many P apart lasts. lasts_torn at count there many P old new apart torn lasts

-- the body of the next slot, and the gate of the third, are no part of what is settled
pub body_keeps_settled : (log last next third number : ℕ) (body : CommitBody) (old new : Medium) → AreThree last next third
    → Keeps (body_at next) 512 old new
    → IsSettledIn log last next third number body old → IsSettledIn log last next third number body new
body_keeps_settled log last next third number body old new slots keeps settled =
    let backward : next ≢ last = λ e. slots.first (sym e) in
    record {
      sector = keeps (body_at last) 512 _ (slots_apart next last (body_at next) 512 (body_at last) 512 backward (body_lies next)
          (body_lies last)) settled.sector;
      gate = keeps (gate_at last) 1 _ (slots_apart next last (body_at next) 512 (gate_at last) 1 backward (body_lies next)
          (gate_lies last)) settled.gate;
      closed = keeps (gate_at next) 1 _ (gate_past next) settled.closed;
      older = keeps (body_at third) 512 _ (slots_apart next third (body_at next) 512 (body_at third) 512 slots.second
          (body_lies next) (body_lies third)) settled.older;
    }

pub gate_keeps_settled : (log last next third number : ℕ) (body : CommitBody) (old new : Medium) → AreThree last next third
    → Keeps (gate_at third) 1 old new
    → IsSettledIn log last next third number body old → IsSettledIn log last next third number body new
gate_keeps_settled log last next third number body old new slots keeps settled =
    let backward : third ≢ last = λ e. slots.both (sym e) in
    let other : third ≢ next = λ e. slots.second (sym e) in
    record {
      sector = keeps (body_at last) 512 _ (slots_apart third last (gate_at third) 1 (body_at last) 512 backward (gate_lies third)
          (body_lies last)) settled.sector;
      gate = keeps (gate_at last) 1 _ (slots_apart third last (gate_at third) 1 (gate_at last) 1 backward (gate_lies third)
          (gate_lies last)) settled.gate;
      closed = keeps (gate_at next) 1 _ (slots_apart third next (gate_at third) 1 (gate_at next) 1 other (gate_lies third)
          (gate_lies next)) settled.closed;
      older = keeps (body_at third) 512 _ (body_before third) settled.older;
    }

-- the gate of the next slot is no part of what a first half leaves
pub gate_keeps_half : (log last next third number : ℕ) (body more : CommitBody) (old new : Medium) → AreThree last next third
    → Keeps (gate_at next) 1 old new
    → IsHalfMadeIn log last next third number body more old → IsHalfMadeIn log last next third number body more new
gate_keeps_half log last next third number body more old new slots keeps half =
    let backward : next ≢ last = λ e. slots.first (sym e) in
    record {
      sector = keeps (body_at last) 512 _ (slots_apart next last (gate_at next) 1 (body_at last) 512 backward (gate_lies next)
          (body_lies last)) half.sector;
      gate = keeps (gate_at last) 1 _ (slots_apart next last (gate_at next) 1 (gate_at last) 1 backward (gate_lies next)
          (gate_lies last)) half.gate;
      next_sector = keeps (body_at next) 512 _ (body_before next) half.next_sector;
      closed = keeps (gate_at third) 1 _ (slots_apart next third (gate_at next) 1 (gate_at third) 1 slots.second (gate_lies next)
          (gate_lies third)) half.closed;
      older = keeps (body_at third) 512 _ (slots_apart next third (gate_at next) 1 (body_at third) 512 slots.second
          (gate_lies next) (body_lies third)) half.older;
    }

-- ---- syncs

-- what has a slot, and so lies inside the disk
inside : (size slot at count : ℕ) (medium : Medium) → HasSize size medium → 4096 ≤ size → slot < 3 → LiesIn slot at count
    → at + count ≤ length medium.bytes
inside size slot at count medium has least below lies = (let e = has.bytes in omega (arith, e, least, below, lies.to))

pub sync_keeps : (size slot at count : ℕ) (P : List ℕ → Type 0) (medium : Medium) → HasSize size medium → 4096 ≤ size → slot < 3
    → LiesIn slot at count
    → P (bytes_at at count medium.bytes) → Lasts at count P (after_sync medium)
sync_keeps size slot at count P medium has least below lies holds =
    lasts_sync at count P medium (inside size slot at count medium has least below lies) holds

pub sync_keeps_settled : (size log last next third number : ℕ) (body : CommitBody) (medium : Medium) → AreThree last next third
    → HasSize size medium → 4096 ≤ size
    → IsSettledIn log last next third number body medium → IsSettledIn log last next third number body (after_sync medium)
sync_keeps_settled size log last next third number body medium slots has least settled = record {
  sector = sync_keeps size last (body_at last) 512 _ medium has least slots.last' (body_lies last) settled.sector.now;
  gate = sync_keeps size last (gate_at last) 1 _ medium has least slots.last' (gate_lies last) settled.gate.now;
  closed = sync_keeps size next (gate_at next) 1 _ medium has least slots.next' (gate_lies next) settled.closed.now;
  older = sync_keeps size third (body_at third) 512 _ medium has least slots.third' (body_lies third) settled.older.now;
}

-- ---- the first half

-- the body of the next commit was written
pub record IsBodyWritten (log last next third number : ℕ) (body : CommitBody) (piece : List ℕ) (medium : Medium) : Type 0 where
  pub settled : IsSettledIn log last next third number body medium
  pub piece' : bytes_at (body_at next) 512 medium.bytes ≡ piece

-- and the third slot's gate was closed
pub record IsGateClosed (log last next third number : ℕ) (body : CommitBody) (piece : List ℕ) (medium : Medium) : Type 0 where
  pub settled : IsSettledIn log last next third number body medium
  pub piece' : bytes_at (body_at next) 512 medium.bytes ≡ piece
  pub gate : bytes_at (gate_at third) 1 medium.bytes ≡ 0 ∷ []

-- a piece that was written stands there
pub written_there : (at count : ℕ) (piece bytes : List ℕ) → length piece ≡ count → at + length piece ≤ length bytes
    → bytes_at at count (with_bytes at piece bytes) ≡ piece
written_there at count piece bytes whole within = ap (λ n. bytes_at at n (with_bytes at piece bytes)) (sym whole)
    ∙ reads_bytes_again at piece bytes within

pub write_body : (size log last next third number : ℕ) (body : CommitBody) (piece : List ℕ) (medium : Medium)
    → AreThree last next third → 4096 ≤ size → length piece ≡ 512
    → HasSize size medium → IsSettledIn log last next third number body medium
    → IsBodyWritten log last next third number body piece (after_write (body_at next) piece medium)
write_body size log last next third number body piece medium slots least whole has settled =
    let within : body_at next + length piece ≤ size = (let e = slots.next' in omega (arith, e, whole, least)) in
    let keeps : Keeps (body_at next) 512 medium (after_write (body_at next) piece medium) =
    (let Q : ℕ → Type 1 = λ n. Keeps (body_at next) n medium (after_write (body_at next) piece medium) in
    subst Q whole (written_keeps size (body_at next) piece medium has within)) in
    record {
      settled = body_keeps_settled log last next third number body medium (after_write (body_at next) piece medium) slots
          keeps settled;
      piece' = written_there (body_at next) 512 piece medium.bytes whole (let e = has.bytes in omega (arith, e, within));
    }

pub close_gate : (size log last next third number : ℕ) (body : CommitBody) (piece : List ℕ) (medium : Medium)
    → AreThree last next third → 4096 ≤ size
    → HasSize size medium → IsBodyWritten log last next third number body piece medium
    → IsGateClosed log last next third number body piece (after_write (gate_at third) (0 ∷ []) medium)
close_gate size log last next third number body piece medium slots least has written =
    let closed : List ℕ = 0 ∷ [] in
    let other : third ≢ next = λ e. slots.second (sym e) in
    let within : gate_at third + 1 ≤ size = (let e = slots.third' in omega (arith, e, least)) in
    let fits : gate_at third + 1 ≤ length medium.bytes = (let e = has.bytes in omega (arith, e, within)) in
    record {
      settled = gate_keeps_settled log last next third number body medium (after_write (gate_at third) closed medium) slots
          (written_keeps size (gate_at third) closed medium has within) written.settled;
      piece' =
          still_there (gate_at third) closed medium.bytes (body_at next) 512 fits
          (slots_apart third next (gate_at third) 1 (body_at next) 512 other (gate_lies third) (body_lies next))
          ∙ written.piece';
      gate = written_there (gate_at third) 1 closed medium.bytes refl fits;
    }

-- both at once, after the sync
pub record IsReady (log last next third number : ℕ) (body more : CommitBody) (medium : Medium) : Type 0 where
  pub settled : IsSettledIn log last next third number body medium
  pub half : IsHalfMadeIn log last next third number body more medium

pub zero_is_closed : (gate : List ℕ) → gate ≡ 0 ∷ [] → IsClosed gate
zero_is_closed gate is one = (let e : 0 ≡ 1 = ap (λ xs. get_or xs 0 0) (sym is) ∙ one in absurd (omega (arith, e)))

pub sync_first : (size log last next third number : ℕ) (body more : CommitBody) (piece : List ℕ) (medium : Medium)
    → AreThree last next third → 4096 ≤ size
    → IsBody piece log next more (number + 1) → HasSize size medium → IsGateClosed log last next third number body piece medium
    → IsReady log last next third number body more (after_sync medium)
sync_first size log last next third number body more piece medium slots least is has closed =
    let settled = sync_keeps_settled size log last next third number body medium slots has least closed.settled in
    record {
      settled = settled;
      half = record {
        sector = settled.sector;
        gate = settled.gate;
        next_sector =
            sync_keeps size next (body_at next) 512 _ medium has least slots.next' (body_lies next)
            (let P : List ℕ → Type 0 = λ bytes. IsBody bytes log next more (number + 1) in subst P (sym closed.piece') is);
        closed = sync_keeps size third (gate_at third) 1 IsClosed medium has least slots.third' (gate_lies third)
            (zero_is_closed _ closed.gate);
        older = settled.older;
      };
    }

-- ---- the second half

-- the gate of the next slot was opened
pub record IsGateOpened (log last next third number : ℕ) (body more : CommitBody) (medium : Medium) : Type 0 where
  pub half : IsHalfMadeIn log last next third number body more medium
  pub gate : bytes_at (gate_at next) 1 medium.bytes ≡ 1 ∷ []

pub open_gate : (size log last next third number : ℕ) (body more : CommitBody) (medium : Medium) → AreThree last next third
    → 4096 ≤ size
    → HasSize size medium → IsHalfMadeIn log last next third number body more medium
    → IsGateOpened log last next third number body more (after_write (gate_at next) (1 ∷ []) medium)
open_gate size log last next third number body more medium slots least has half =
    let opened : List ℕ = 1 ∷ [] in
    let within : gate_at next + 1 ≤ size = (let e = slots.next' in omega (arith, e, least)) in
    let fits : gate_at next + 1 ≤ length medium.bytes = (let e = has.bytes in omega (arith, e, within)) in
    record {
      half = gate_keeps_half log last next third number body more medium (after_write (gate_at next) opened medium) slots
          (written_keeps size (gate_at next) opened medium has within) half;
      gate = written_there (gate_at next) 1 opened medium.bytes refl fits;
    }

pub one_is_open : (gate : List ℕ) → gate ≡ 1 ∷ [] → IsOpen gate
one_is_open gate is = ap (λ xs. get_or xs 0 0) is

pub same_number : (sector : List ℕ) (log slot other m n : ℕ) (a b : CommitBody) → IsBody sector log slot a m
    → IsBody sector log other b n → (a ≡ b) × (m ≡ n)
same_number sector log slot other m n a b first second = determines_body a b m n first.numbers second.numbers (sym first.bytes
    ∙ second.bytes)

-- the body of a commit is older than the next one
pub own_is_older : (log slot number : ℕ) (body : CommitBody) (bytes : List ℕ) → IsBody bytes log slot body number
    → IsOlder log slot (number + 1) bytes
own_is_older log slot number body bytes is other n also =
    (let e = (same_number bytes log slot slot number n body other is also).1 in omega (arith, e))

pub sync_second : (size log last next third number : ℕ) (body more : CommitBody) (medium : Medium) → AreThree last next third
    → 4096 ≤ size
    → HasSize size medium → IsGateOpened log last next third number body more medium
    → IsSettledIn log next third last (number + 1) more (after_sync medium)
sync_second size log last next third number body more medium slots least has opened = record {
  sector = sync_keeps size next (body_at next) 512 _ medium has least slots.next' (body_lies next) opened.half.next_sector.now;
  gate = sync_keeps size next (gate_at next) 1 IsOpen medium has least slots.next' (gate_lies next) (one_is_open _ opened.gate);
  closed = sync_keeps size third (gate_at third) 1 IsClosed medium has least slots.third' (gate_lies third)
      opened.half.closed.now;
  older = sync_keeps size last (body_at last) 512 (IsOlder log last (number + 1)) medium has least slots.last' (body_lies last)
      (own_is_older log last number body _ opened.half.sector.now);
}

-- after the sync the last commit stands beside the new one
pub record IsMade (log last next third number : ℕ) (body more : CommitBody) (medium : Medium) : Type 0 where
  pub half : IsHalfMadeIn log last next third number body more medium
  pub settled : IsSettledIn log next third last (number + 1) more medium

pub sync_made : (size log last next third number : ℕ) (body more : CommitBody) (medium : Medium) → AreThree last next third
    → 4096 ≤ size
    → HasSize size medium → IsGateOpened log last next third number body more medium
    → IsMade log last next third number body more (after_sync medium)
sync_made size log last next third number body more medium slots least has opened =
    let settled = sync_second size log last next third number body more medium slots least has opened in
    record {
      half = record {
        sector = sync_keeps size last (body_at last) 512 _ medium has least slots.last' (body_lies last) opened.half.sector.now;
        gate = sync_keeps size last (gate_at last) 1 _ medium has least slots.last' (gate_lies last) opened.half.gate.now;
        next_sector = settled.sector;
        closed = settled.closed;
        older = sync_keeps size third (body_at third) 512 _ medium has least slots.third' (body_lies third) opened.half.older.now;
      };
      settled = settled;
    }
