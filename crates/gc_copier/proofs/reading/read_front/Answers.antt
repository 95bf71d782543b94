use Rattle.std.proofs.Common.{◌≡◌, ◌*◌, false, length, take, refl, sym, subst, arith}
use Rattle.std.specs.List.{Contains}
use Rattle.std.specs.List.Sorted.{IsStrictlyIncreasing}
use Rattle.std.proofs.lemmas.List.{length-take-le}
use Rattle.std.proofs.lemmas.Result.{err_from_is_err_and}
use Rattle.gc_copier.specs.Plan.{seen, all_seen}
use Rattle.gc_copier.proofs.SourceLemmas.{numbers_seen, source_seen}
use Rattle.gc_copier.proofs.AskLemmas.{asks_among}
use Rattle.gc_copier.proofs.FrontLemmas.{IsFirstSource, first_of, failure_named, first_number, first_readable, first_fills}
use Rattle.gc_copier.proofs.FrontLemmas.{run_inside, run_fills}
use Rattle.gc_copier.proofs.reading.read_front.Given as given
use Rattle.gc_copier.proofs.reading.read_front.Goals.{After-source_of-source}
use Rattle.gc_copier.proofs.reading.read_front.Goals as goal

-- what was found is the source of the first row
found : (g : given.Over) (c : After-source_of-source g)
    → IsFirstSource (all_seen g.S.Receipt.Receipt.state c.args.sources.now) (length c.args.payload.now) c.args.rows.now
    (seen g.S.Receipt.Receipt.state c.source_of-source.result.now)
found g c = record {
  can = c.requires.rows;
  some = c.requires.some;
  among = source_seen g.S.Receipt.Receipt.state c.args.sources.now c.source_of-source.result.now c.source_of-source.ensures.is;
  number = sym c.source_of-source.ensures.number;
}

pub source_of-source-requires-clause-ascending : goal.source_of-source-requires-clause-ascending
source_of-source-requires-clause-ascending g c =
    subst IsStrictlyIncreasing (numbers_seen g.S.Receipt.Receipt.state c.args.sources.now) c.requires.rows.ascending

pub source_of-source-requires-clause-has : goal.source_of-source-requires-clause-has
source_of-source-requires-clause-has g c =
    subst (λ numbers. Contains numbers (first_of c.args.rows.now).source.number)
    (numbers_seen g.S.Receipt.Receipt.state c.args.sources.now)
    (first_number (all_seen g.S.Receipt.Receipt.state c.args.sources.now) (length c.args.payload.now) c.args.rows.now
    c.requires.rows c.requires.some)

-- ---- one row is read

pub read_one-requires : goal.read_one-requires
read_one-requires g c =
    first_readable _ _ _ _ (found g (goal.at.read_one-requires g c).After-source_of-source)

pub returns-in_err-read_one-clause-failed : goal.returns-in_err-read_one-clause-failed
returns-in_err-read_one-clause-failed g c =
    let of = found g (goal.at.returns-in_err-read_one-clause-failed g c).After-source_of-source in
    let p = err_from_is_err_and c.from_residual.result c.from_residual.ensures.1 in
    rw (p.1, p.2) (failure_named _ _ of.among _ c.in_err-read_one.ensures.failed)

pub returns-in_err-read_one-clause-asks : goal.returns-in_err-read_one-clause-asks
returns-in_err-read_one-clause-asks g c =
    let of = found g (goal.at.returns-in_err-read_one-clause-asks g c).After-source_of-source in
    let p = err_from_is_err_and c.from_residual.result c.from_residual.ensures.1 in
    rw (p.1, p.2) (asks_among _ _ 1 _ _ _ _ _ of.among c.in_err-read_one.ensures.asks)

pub returns-then-run-lt2-clause-read : goal.returns-then-run-lt2-clause-read
returns-then-run-lt2-clause-read g c =
    let of = found g (goal.at.returns-then-run-lt2-clause-read g c).After-source_of-source in
    first_fills _ _ _ _ c.args.payload.now c.read_one.new.payload of refl c.in_ok-read_one.ensures.written

pub returns-then-run-lt2-clause-asks : goal.returns-then-run-lt2-clause-asks
returns-then-run-lt2-clause-asks g c =
    let of = found g (goal.at.returns-then-run-lt2-clause-asks g c).After-source_of-source in
    asks_among _ _ 1 false _ _ _ _ of.among c.in_ok-read_one.ensures.asks

-- ---- a run is read

pub read_run-requires-clause-object : goal.read_run-requires-clause-object
read_run-requires-clause-object g c =
    let of = found g (goal.at.read_run-requires-clause-object g c).After-source_of-source in
    let run = c.run_from-run.result in
    let most = c.run_from-run.ensures.most in
    let room = c.requires.scratch in
    let inside = run_inside _ _ _ _ run of c.run_from-run.ensures in
    let size : length (take (512 * run.sectors) c.args.scratch.now) ≡ 512 * run.sectors =
    length-take-le (512 * run.sectors) c.args.scratch.now (omega (arith, most, room)) in
    omega (arith, inside, size)

pub returns-in_err-read_run-clause-failed : goal.returns-in_err-read_run-clause-failed
returns-in_err-read_run-clause-failed g c =
    let of = found g (goal.at.returns-in_err-read_run-clause-failed g c).After-source_of-source in
    let p = err_from_is_err_and c.from_residual-in_err-read_run.result c.from_residual-in_err-read_run.ensures.1 in
    rw (p.1, p.2) (failure_named _ _ of.among _ c.in_err-read_run.ensures.failed)

pub returns-in_err-read_run-clause-asks : goal.returns-in_err-read_run-clause-asks
returns-in_err-read_run-clause-asks g c =
    let of = found g (goal.at.returns-in_err-read_run-clause-asks g c).After-source_of-source in
    let p = err_from_is_err_and c.from_residual-in_err-read_run.result c.from_residual-in_err-read_run.ensures.1 in
    rw (p.1, p.2) (asks_among _ _ 1 _ _ _ _ _ of.among c.in_err-read_run.ensures.asks)

pub returns-clause-read : goal.returns-clause-read
returns-clause-read g c =
    let of = found g (goal.at.returns-clause-read g c).After-source_of-source in
    run_fills _ _ _ _ c.run_from-run.result c.args.payload.now c.read_run.new.payload of c.run_from-run.ensures refl
    c.in_ok-read_run.ensures.written

pub returns-clause-asks : goal.returns-clause-asks
returns-clause-asks g c =
    let of = found g (goal.at.returns-clause-asks g c).After-source_of-source in
    asks_among _ _ 1 false _ _ _ _ of.among c.in_ok-read_run.ensures.asks
