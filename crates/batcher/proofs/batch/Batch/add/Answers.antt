use Rattle.std.proofs.Common.{sym, subst, ◌+◌, ◌-◌, ◌^◌, ◌<◌, length}
use Rattle.std.specs.Prelude.{IsTrue}
use Rattle.lsvd_base.specs.Range.{is_in_range}
use Rattle.batcher.proofs.Fulls.{batch_added}
use Rattle.batcher.proofs.batch.Batch.add.Goals as goal

pub invariant_of-self : goal.invariant_of-self
invariant_of-self c =
    let b = c.self.inside in
    batch_added b.geometry b.first b.entries.items c.push_back_reserved.new.self.items b.sectors c.data_sectors.result b.plan
    c.offer.new.self c.args.entry
    c.self.invariant
    (subst (λ s. IsTrue (is_in_range s.geometry c.args.entry)) (sym c.self.view_is) c.requires.range)
    (subst (λ s. s.first + length s.entries < 2 ^ 64 - 1) (sym c.self.view_is) c.requires.seqs)
    c.data_sectors.ensures c.push_back_reserved.ensures.items
    (record { full = c.offer.ensures.full; put = c.offer.ensures.put })
