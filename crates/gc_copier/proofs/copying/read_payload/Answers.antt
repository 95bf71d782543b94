use Rattle.std.proofs.Common.{◌≡◌, ◌*◌, length, drop, sym, ◌∙◌, ap, subst, arith}
use Rattle.std.specs.List.Sorted.{IsPermutation}
use Rattle.std.proofs.lemmas.List.{take_at}
use Rattle.std.proofs.lemmas.List.Sorted.{length_permutation}
use Rattle.std.proofs.lemmas.Result.{err_from_is_err_and}
use Rattle.gc_copier.specs.Plan.{sectors_of}
use Rattle.gc_copier.specs.Copying.{IsCopied}
use Rattle.gc_copier.proofs.AskLemmas.{asks_fewer}
use Rattle.gc_copier.proofs.PlanLemmas.{can_read, is_copied}
use Rattle.gc_copier.proofs.copying.read_payload.Given as given
use Rattle.gc_copier.proofs.copying.read_payload.Goals.{After-as_mut_slice-2}
use Rattle.gc_copier.proofs.copying.read_payload.Goals as goal

-- what is read is the plan's rows in another order
moved : (g : given.Over) (c : After-as_mut_slice-2 g) → IsPermutation c.args.plan.now.rows c.in_ok-sorted.sorted.items
moved g c = subst (λ from. IsPermutation from c.in_ok-sorted.sorted.items) c.rows.ensures.rows c.in_ok-sorted.ensures

-- there is just room for it
room : (g : given.Over) (c : After-as_mut_slice-2 g)
    → length c.as_mut_slice-2.result.now ≡ 512 * sectors_of c.args.plan.now.rows
room g c =
    ap length c.as_mut_slice-2.ensures.value ∙ c.in_ok-payload.ensures ∙ ap (λ n. 512 * n) c.sectors.ensures.sectors

pub read_rows-requires-clause-rows : goal.read_rows-requires-clause-rows
read_rows-requires-clause-rows g c =
    let before = (goal.at.read_rows-requires-clause-rows g c).After-as_mut_slice-2 in
    rw (c.sources.ensures.sources, c.deref.ensures.value)
    (can_read c.args.plan.now.rows c.args.plan.now.sources c.rows.ensures.plan
    c.in_ok-sorted.sorted.items (moved g before) (length c.as_mut_slice-2.result.now) (room g before))

pub returns-in_err-read_rows-clause-asks : goal.returns-in_err-read_rows-clause-asks
returns-in_err-read_rows-clause-asks g c =
    let before = (goal.at.returns-in_err-read_rows-clause-asks g c).After-as_mut_slice-2 in
    let rows = c.args.plan.now.rows in
    let sorted = c.in_ok-sorted.sorted.items in
    let few = length_permutation rows sorted (moved g before) in
    let asks = rw (c.sources.ensures.sources, c.deref.ensures.value) at c.in_err-read_rows.ensures.asks in
    let p = err_from_is_err_and c.from_residual-in_err-read_rows.result c.from_residual-in_err-read_rows.ensures.1 in
    rw (p.1, p.2) (asks_fewer _ (length sorted) (length rows) _ _ _ _ _ (omega (arith, few)) asks)

pub returns-clause-asks : goal.returns-clause-asks
returns-clause-asks g c =
    let before = (goal.at.returns-clause-asks g c).After-as_mut_slice-2 in
    let rows = c.args.plan.now.rows in
    let sorted = c.in_ok-sorted.sorted.items in
    let few = length_permutation rows sorted (moved g before) in
    let asks = rw (c.sources.ensures.sources, c.deref.ensures.value) at c.in_ok-read_rows.ensures.asks in
    asks_fewer _ (length sorted) (length rows) _ _ _ _ _ (omega (arith, few)) asks

pub returns-clause-payload : goal.returns-clause-payload
returns-clause-payload g c =
    let before = (goal.at.returns-clause-payload g c).After-as_mut_slice-2 in
    let rows = c.args.plan.now.rows in
    let sources = c.args.plan.now.sources in
    let payload = c.read_rows.new.payload in
    let fills = rw (c.sources.ensures.sources, c.deref.ensures.value) at c.in_ok-read_rows.ensures.read in
    let whole = take_at payload (drop (length payload) c.in_ok-payload.payload.items) c.in_ok-payload.payload.len
    (c.read_rows.auto.payload ∙ c.as_mut_slice-2.ensures.len) in
    subst (IsCopied rows sources) (sym whole)
    (is_copied rows sources c.rows.ensures.plan c.in_ok-sorted.sorted.items (moved g before) c.as_mut_slice-2.result.now payload
    (c.read_rows.auto.payload ∙ room g before) fills)
