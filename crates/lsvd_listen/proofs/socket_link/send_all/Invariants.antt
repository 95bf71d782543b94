use Rattle.std.proofs.Common.{length}
use Rattle.lsvd_listen.proofs.socket_link.send_all.Given as goal

abbrev pub decreases-loop-held : goal.decreases-loop-held
decreases-loop-held l = length l.output.waiting
