use Rattle.commit_body.proofs.BodyLemmas.{is_one_sector}
use Rattle.commit_body.proofs.laws.a_body_is_one_sector.Goals as goal

pub returns : goal.returns
returns c = is_one_sector
