use Rattle.std.proofs.Common.{◌≡◌, ◌++◌, drop}
use Rattle.std.specs.List.{All}
use Rattle.read_plan.specs.Plan.{TellsWhole}
use Rattle.read_plan.specs.Rows.{row_pieces}
use Rattle.read_plan.proofs.objects.pieces_of.Given as goal

abbrev pub invariant-loop-row : goal.invariant-loop-row
invariant-loop-row g l = record {
  so_far : l.pieces.items ++ row_pieces l.objects.uploads.queue l.lba (drop l.row-index l.rows)
      ≡ row_pieces l.objects.uploads.queue l.lba l.rows;
  whole : All (λ piece. TellsWhole piece.receipt) l.pieces.items;
}
