use Rattle.std.proofs.Common.{◌-◌, length, sym, ◌∙◌, ap}
use Rattle.ckpt_format.specs.Reading.{CheckpointReading}
use Rattle.ckpt_format.proofs.WritingLemmas.{length-rows_at}
use Rattle.ckpt_format.proofs.reading.CheckpointRows.left.Goals as goal

pub returns : goal.returns
returns c =
    let cursor = c.self.inside in
    sym (length-rows_at cursor.given (cursor.count - cursor.given) cursor.bytes.now)
    ∙ ap (λ (reading : CheckpointReading). length reading.rest) c.self.view_is
