use Rattle.volume_maps.proofs.KeptLemmas.{kept_cleared}
use Rattle.volume_maps.proofs.settled.clear_counted.Goals as goal

pub returns-clause-kept : goal.returns-clause-kept
returns-clause-kept c =
    kept_cleared c.args.settled.now.rows c.clear.new.self.rows c.args.lba c.args.sectors c.args.objects.now
    c.lose_sectors.new.objects c.requires.kept c.clear.ensures.shortest c.lose_sectors.ensures.same c.lose_sectors.ensures.lost
    c.clear.ensures.places
