use Rattle.std.proofs.Common.{rules, ◌≡◌, ◌∙◌, List, [], take, drop, sym, subst, arith}
use Rattle.std.proofs.Math.Path.{subst₂}
use Rattle.cache_log.specs.declared.row.Row.{Row}
use Rattle.cache_log.specs.Invariant.{IsLog}
use Rattle.cache_log.proofs.FormatLemmas.{begin, formatted_log, is_formatted}
use Rattle.cache_log.proofs.Slices.{take_none, drop_none}
use Rattle.cache_log.proofs.log.CacheLog.format.Goals as goal

pub invariant_of-result : goal.invariant_of-result
invariant_of-result g c =
    let items : List Row = c.new.result.items in
    let none : items ≡ [] = c.new.ensures.items in
    let log = formatted_log c.log.result c.args.uuid c.args.epoch c.args.first c.in-Ok.commits (omega (arith, c.ranges.first))
    (search rules) (search rules) c.log.ensures.log c.in-Ok.ensures.on_disk.size c.in-Ok.ensures.on_disk
    c.in-Ok.ensures.ok.first in (
      omega arith,
      subst₂ (λ h r. IsLog c.new-room.result (begin c.args.first) h r c.in-Ok.commits) (sym (take_none items))
          (sym (drop_none items ∙ none)) (subst (λ p. IsLog p (begin c.args.first) [] [] c.in-Ok.commits)
          (sym c.new-room.ensures) log),
    )

pub returns-in-Ok-clause-ok : goal.returns-in-Ok-clause-ok
returns-in-Ok-clause-ok g c =
    let items : List Row = c.new.result.items in
    let none : items ≡ [] = c.new.ensures.items in
    is_formatted c.args.uuid c.args.epoch c.args.first (g.D.Disk.state c.args.disk) c.in-Ok.commits c.log.result c.new-room.result
    (take 0 items) (drop 0 items) _
    c.in-Ok.ensures.ok (search rules) c.in-Ok.ensures.costs.calls.size c.log.ensures.log c.new-room.ensures (take_none items)
    (drop_none items ∙ none)
