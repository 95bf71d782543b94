use Rattle.plain_disk.proofs.Overlaid.{overlaid-Write, overlaid-Zero}
use Rattle.plain_volume.proofs.window.overlay.Goals as goal

pub returns-in-Write : goal.returns-in-Write
returns-in-Write c =
    rw c.in-Write.is (overlaid-Write c.args.lba c.in-Write.at c.in-Write.body c.args.window.now c.paste.new.window
    c.as_bytes.ensures.whole (rw (← c.as_bytes.ensures.bytes) c.paste.ensures))

pub returns-in-Zero : goal.returns-in-Zero
returns-in-Zero c =
    rw c.in-Zero.is (overlaid-Zero c.args.lba c.in-Zero.at c.in-Zero.sectors c.args.window.now c.clear.new.window c.clear.ensures)
