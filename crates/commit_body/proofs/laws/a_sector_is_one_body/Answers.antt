use Rattle.commit_body.proofs.BodyLemmas.{determines_body}
use Rattle.commit_body.proofs.laws.a_sector_is_one_body.Goals as goal

pub returns : goal.returns
returns c = determines_body
