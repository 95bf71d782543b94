use Rattle.std.proofs.Common.{rules, ◌≡◌, ◌∙◌, ap, min, replicate}
use Rattle.lsvd_device.proofs.Moments.{kept_made, made}
use Rattle.lsvd_device.proofs.memory.MemDisk.new.Goals as goal

pub invariant_of-result : goal.invariant_of-result
invariant_of-result c =
    let zeros : c.in_ok-vec.field-0.items ≡ replicate (min c.args.len 4096) 0 =
    c.in_ok-vec.ensures.items_if_clones_equal (λ _ e. e) ∙ ap (λ n. replicate n 0) (search rules) in
    rw (c.new.ensures.items, c.new-2.ensures.items) (kept_made c.args.len c.in_ok-vec.field-0.items zeros)

pub returns-clause-moments : goal.returns-clause-moments
returns-clause-moments c = rw (c.new.ensures.items, c.new-2.ensures.items) (made c.args.len)
