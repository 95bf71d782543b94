use Rattle.std.proofs.Common.{◌≡◌, ℕ, ◌-◌, ◌%◌, List, length, sym, ◌∙◌, ap, subst, arith}
use Rattle.ckpt_format.specs.Writing.{CheckpointSoFar}
use Rattle.ckpt_format.specs.Rows.{AreCheckpointRows}
use Rattle.ckpt_format.specs.Checkpoint.{IsCheckpoint}
use Rattle.ckpt_format.specs.Fields.{writing_at}
use Rattle.ckpt_format.proofs.WritingLemmas.{length-rows_at, room_for_zeros, zeros_are, is_written}
use Rattle.ckpt_format.proofs.writing.CheckpointWriter.finish.Goals as goal

abbrev HasAllRows : CheckpointSoFar → Type 0
HasAllRows so_far = length so_far.rows ≡ so_far.count

-- all rows were pushed
all_pushed : (bytes : List ℕ) (count pushed : ℕ) (so_far : CheckpointSoFar) (expected : _) (end_seq : ℕ)
    → writing_at bytes expected end_seq count pushed ≡ so_far → HasAllRows so_far → pushed ≡ count
all_pushed bytes count pushed so_far expected end_seq is all =
    sym (length-rows_at 0 pushed bytes) ∙ subst HasAllRows (sym is) all

pub append-requires : goal.append-requires
append-requires c =
    let w = c.self.inside in
    let missing = (512 - c.len.result % 512) % 512 in
    let len : c.len.result ≡ length w.bytes.items = c.len.ensures ∙ omega (arith, w.bytes.ok.0) in
    let is : missing ≡ (512 - length w.bytes.items % 512) % 512 = ap (λ n. (512 - n % 512) % 512) len in
    room_for_zeros w.bytes.items _ w.expected w.end_seq w.count w.pushed missing c.self.invariant
    (all_pushed w.bytes.items w.count w.pushed _ w.expected w.end_seq c.self.view_is c.requires.all) is

pub returns : goal.returns
returns c =
    let w = c.self.inside in
    let missing = (512 - c.len.result % 512) % 512 in
    let len : c.len.result ≡ length w.bytes.items = c.len.ensures ∙ omega (arith, w.bytes.ok.0) in
    let is : missing ≡ (512 - length w.bytes.items % 512) % 512 = ap (λ n. (512 - n % 512) % 512) len in
    let all = all_pushed w.bytes.items w.count w.pushed _ w.expected w.end_seq c.self.view_is c.requires.all in
    let S : CheckpointSoFar → Type 0 = λ x. AreCheckpointRows x.expected x.rows in
    let C : CheckpointSoFar → Type 0 = λ x. IsCheckpoint c.append.new.bytes.items x.expected x.end_seq x.rows in
    subst C c.self.view_is
    (is_written w.bytes.items c.append.new.bytes.items _ _ w.expected w.end_seq w.count w.pushed c.self.invariant all
    (zeros_are w.bytes.items _ w.expected w.end_seq w.count w.pushed missing c.self.invariant all is)
    c.append.ensures.items (subst S (sym c.self.view_is) c.requires.spelling))
