use Rattle.read_plan.proofs.GivenLemmas.{gives_sectors}
use Rattle.read_plan.proofs.laws.a_plan_gives_its_sectors.Goals as goal

pub returns : goal.returns
returns c = gives_sectors
