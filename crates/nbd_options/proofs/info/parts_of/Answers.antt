use Rattle.std.proofs.Common.{◌+◌, ◌-◌, ◌≡◌, ◌∙◌, ap, take, drop, arith}
use Rattle.std.proofs.lemmas.List.{take_rest}
use Rattle.nbd_options.proofs.InfoLemmas.{asks_for, another_length}
use Rattle.nbd_options.proofs.info.parts_of.Goals as goal

pub returns-then-content-name_size-2-clause-none : goal.returns-then-content-name_size-2-clause-none
returns-then-content-name_size-2-clause-none c =
    another_length c.args.content.now c.read_u32-name_size.result c.from-count.result c.read_u32-name_size.ensures
    (c.from-count.ensures ∙ c.read_u16.ensures) c.if-content-name_size-2.true

pub returns-clause-found : goal.returns-clause-found
returns-clause-found c =
    let content = c.args.content.now in
    let size = c.read_u32-name_size.result in
    let same : 4 + size - 4 ≡ size = omega arith in
    asks_for content _ _ size c.from-count.result (λ i. omega (arith, c.type_inv.content i)) c.read_u32-name_size.ensures
    (c.from-count.ensures ∙ c.read_u16.ensures) (omega arith) (ap (λ n. take n (drop 4 content)) same)
    (take_rest content (6 + size))
