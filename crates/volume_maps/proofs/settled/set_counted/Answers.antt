use Rattle.volume_maps.proofs.TableLemmas.{still_gains}
use Rattle.volume_maps.proofs.KeptLemmas.{gains_mapped, gain_few, same_set, kept_set}
use Rattle.volume_maps.proofs.settled.set_counted.Goals as goal

pub gain_sectors-requires-clause-fits : goal.gain_sectors-requires-clause-fits
gain_sectors-requires-clause-fits c =
    gain_few c.args.settled.now.rows c.set.new.self.rows c.args.lba c.args.sectors c.args.objects.now c.lose_sectors.new.objects
    c.requires.kept c.set.ensures.shortest c.lose_sectors.ensures.same c.lose_sectors.ensures.lost c.args.place
    c.set.ensures.places c.requires.object c.set.ensures.fits

pub gain_sectors-requires-clause-mapped : goal.gain_sectors-requires-clause-mapped
gain_sectors-requires-clause-mapped c own =
    let number = c.args.place.number in
    gains_mapped number c.lose_sectors.new.objects
    (still_gains number c.args.objects.now c.lose_sectors.new.objects c.lose_sectors.ensures.same (c.requires.object own))

pub returns-clause-kept : goal.returns-clause-kept
returns-clause-kept c =
    rw c.gain_sectors.ensures (
    kept_set c.args.settled.now.rows c.set.new.self.rows c.args.lba c.args.sectors c.args.objects.now c.lose_sectors.new.objects
    c.requires.kept c.set.ensures.shortest c.lose_sectors.ensures.same c.lose_sectors.ensures.lost c.args.place
    c.set.ensures.places c.requires.object
    )

pub returns-clause-same : goal.returns-clause-same
returns-clause-same c =
    rw c.gain_sectors.ensures (
    same_set c.args.settled.now.rows c.set.new.self.rows c.args.lba c.args.sectors c.args.objects.now c.lose_sectors.new.objects
    c.requires.kept c.set.ensures.shortest c.lose_sectors.ensures.same c.lose_sectors.ensures.lost c.args.place
    c.set.ensures.places c.requires.object
    )
