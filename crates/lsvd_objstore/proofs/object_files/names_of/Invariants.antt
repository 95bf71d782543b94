use Rattle.std.proofs.Common.{map}
use Rattle.std.specs.String.{string_bytes}
use Rattle.lsvd_objstore.proofs.Naming.{AreGathered}
use Rattle.lsvd_objstore.proofs.object_files.names_of.Given as goal

abbrev pub invariant-loop-file : goal.invariant-loop-file
invariant-loop-file l = AreGathered l.uuid (map string_bytes l.file-items) l.file-index l.names.keys
