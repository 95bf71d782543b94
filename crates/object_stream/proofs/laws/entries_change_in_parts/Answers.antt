use Rattle.object_stream.proofs.ChangeLemmas.{changes_in_parts}
use Rattle.object_stream.proofs.laws.entries_change_in_parts.Goals as goal

pub returns : goal.returns
returns c = changes_in_parts
