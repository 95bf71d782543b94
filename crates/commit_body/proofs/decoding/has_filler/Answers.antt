use Rattle.commit_body.proofs.BodyLemmas.{filler-from_zeros, zeros-from_filler}
use Rattle.commit_body.proofs.decoding.has_filler.Goals as goal

pub returns : goal.returns
returns c = (
  λ test. filler-from_zeros c.args.sector.now c.requires (c.is_zeros.ensures.0 test),
  λ is_filler. c.is_zeros.ensures.1 (zeros-from_filler c.args.sector.now c.requires is_filler),
)
