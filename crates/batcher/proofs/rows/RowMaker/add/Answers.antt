use Rattle.std.proofs.Common.{sym, ◌∙◌}
use Rattle.batcher.proofs.RowLemmas.{made_first, made_on, made_off}
use Rattle.batcher.proofs.rows.RowMaker.add.Goals as goal

pub returns-in_default-clause-rows : goal.returns-in_default-clause-rows
returns-in_default-clause-rows c more =
    let maker = c.args.self.now in
    made_first maker.rows.items maker.last maker.payload c.payload_sectors.result c.args.extent.now c.extent_row-row.result
    c.extent_row-row.ensures
    c.payload_sectors.ensures more c.in_default.is

pub returns-then-joins-clause-rows : goal.returns-then-joins-clause-rows
returns-then-joins-clause-rows c more =
    let maker = c.args.self.now in
    made_on maker.rows.items maker.last maker.payload c.payload_sectors.result c.args.extent.now c.extent_row-row.result
    c.extent_row-row.ensures
    c.payload_sectors.ensures more c.in-Some.last c.in-Some.is (sym c.joins.ensures ∙ c.if-joins.true)

pub returns-clause-rows : goal.returns-clause-rows
returns-clause-rows c more =
    let maker = c.args.self.now in
    made_off maker.rows.items maker.last maker.payload c.payload_sectors.result c.args.extent.now c.extent_row-row.result
    c.extent_row-row.ensures
    c.payload_sectors.ensures more c.in-Some.last c.push.new.self.items c.in-Some.is (sym c.joins.ensures ∙ c.if-joins.false)
    c.in_ok-push.ensures.items
