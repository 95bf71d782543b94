use Rattle.std.proofs.Common.{◌++◌, [], Some, None, sym, ap, ◌∙◌}
use Rattle.std.proofs.lemmas.List.{append-nil}
use Rattle.batcher.specs.Rows.{rows_from}
use Rattle.batcher.proofs.RowLemmas.{rows_end}
use Rattle.batcher.proofs.rows.RowMaker.finish.Goals as goal
use Rattle.batcher.proofs.rows.RowMaker.finish.Goals.{in-Some+in_ok-push, in_default}

pub returns : goal.returns
returns c =
    let maker = c.args.self in
    let front = maker.rows.items in
    elim c.match-self.branch [
      | in-Some+in_ok-push w ↦
          ap (λ v. v.items) w.rows-is ∙ w.in_ok-push.ensures.items
          ∙ ap (λ list. front ++ list) (sym (rows_end (Some w.in-Some.last) maker.payload))
          ∙ ap (λ l. front ++ rows_from l maker.payload []) (sym w.in-Some.is)
      | in_default w ↦
          ap (λ v. v.items) w.rows-is ∙ sym (append-nil front)
          ∙ ap (λ list. front ++ list) (sym (rows_end None maker.payload))
          ∙ ap (λ l. front ++ rows_from l maker.payload []) (sym w.in_default.is)
    ]
