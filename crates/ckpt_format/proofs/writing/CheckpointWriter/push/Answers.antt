use Rattle.std.proofs.Common.{◌≡◌, ℕ, ◌<◌, List, ◌++◌, ◌∷◌, [], length, sym, ◌∙◌, ap, subst, arith}
use Rattle.extent_map.specs.declared.extent.Extent.{Extent}
use Rattle.ckpt_format.specs.declared.place.StoredPlace.{StoredPlace}
use Rattle.ckpt_format.specs.Writing.{CheckpointSoFar}
use Rattle.ckpt_format.specs.Fields.{writing_at}
use Rattle.ckpt_format.proofs.WritingLemmas.{length-rows_at, rows_pushed, writer_pushed, room_for_row}
use Rattle.ckpt_format.proofs.writing.CheckpointWriter.push.Goals as goal

abbrev HasRowsLeft : CheckpointSoFar → Type 0
HasRowsLeft so_far = length so_far.rows < so_far.count

-- not all rows were pushed
below : (bytes : List ℕ) (count pushed : ℕ) (so_far : CheckpointSoFar) (expected : _) (end_seq : ℕ)
    → writing_at bytes expected end_seq count pushed ≡ so_far → HasRowsLeft so_far → pushed < count
below bytes count pushed so_far expected end_seq is left =
    let h = subst HasRowsLeft (sym is) left in
    omega (arith, h, length-rows_at 0 pushed bytes)

pub append_row-requires : goal.append_row-requires
append_row-requires c =
    let w = c.self.inside in
    room_for_row w.bytes.items _ w.expected w.end_seq w.count w.pushed c.self.invariant
    (below w.bytes.items w.count w.pushed _ w.expected w.end_seq c.self.view_is c.requires)

pub overflow_add-self : goal.overflow_add-self
overflow_add-self c =
    let w = c.self.inside in
    let is = below w.bytes.items w.count w.pushed _ w.expected w.end_seq c.self.view_is c.requires in
    omega (arith, is, c.self.invariant.widths.rows)

pub invariant_of-self : goal.invariant_of-self
invariant_of-self c =
    let w = c.self.inside in
    let is = below w.bytes.items w.count w.pushed _ w.expected w.end_seq c.self.view_is c.requires in
    writer_pushed w.bytes.items c.append_row.new.bytes.items _ _ w.expected w.end_seq w.count w.pushed c.args.row.now
    c.self.invariant is c.append_row.ensures.widths c.append_row.ensures.items c.append_row.ensures.room

pub returns : goal.returns
returns c =
    let w = c.self.inside in
    let row = c.args.row.now in
    let so_far : List (Extent StoredPlace) → CheckpointSoFar = λ rows. record {
      expected = w.expected;
      end_seq = w.end_seq;
      count = w.count;
      rows = rows;
    } in
    ap so_far
    (rows_pushed w.bytes.items c.append_row.new.bytes.items _ w.expected w.end_seq w.count w.pushed row c.self.invariant
    c.append_row.ensures.widths c.append_row.ensures.items)
    ∙ ap (λ (x : CheckpointSoFar). record x { rows = x.rows ++ row ∷ [] }) c.self.view_is
