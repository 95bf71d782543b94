use Rattle.std.proofs.Common.{◌≡◌, ℕ, ◌+◌, ◌-◌, ◌≤◌, List, length, take, drop, sym, ◌∙◌, subst, arith, length-drop}
use Rattle.std.specs.Prelude.{max}
use Rattle.std.proofs.lemmas.List.{length-take-le}
use Rattle.read_cache.specs.Reading.{AsksGetsOf}
use Rattle.read_plan.specs.Plan.{PieceState, PieceFits, AsksFor}
use Rattle.read_plan.proofs.piece.Piece.fetch.Goals as goal

pub returns-clause-asked : goal.returns-clause-asked
returns-clause-asked g c =
    let at : ℕ = c.self.inside.at in
    let count : ℕ = c.self.inside.count in
    let under : List ℕ = c.args.buf.now in
    let fits = subst (λ (p : PieceState). PieceFits (length under) p) (sym c.self.view_is) c.requires in
    let inside : at + count ≤ length under = fits.read in
    let long = length-drop at under in
    let whole : at + count - at ≡ count = omega arith in
    let part : length (take (at + count - at) (drop at under)) ≡ count =
    length-take-le (at + count - at) (drop at under) (omega (arith, long, inside)) ∙ whole in
    subst (λ (p : PieceState). AsksFor p (g.S.Store.gets c.args.store.now) (g.S.Store.gets c.read_through.new.store))
    c.self.view_is
    (subst (λ n. AsksGetsOf (g.R.Receipt.state c.self.inside.receipt) (max 65536 n) 2 (g.S.Store.gets c.args.store.now)
    (g.S.Store.gets c.read_through.new.store)) part c.read_through.ensures.asked)
