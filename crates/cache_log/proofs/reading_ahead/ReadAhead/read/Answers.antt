use Rattle.std.proofs.Common.{rules, ◌≡◌, ◌-◌, List, ℕ, length, subst}
use Rattle.lsvd_bytes.specs.Places.{bytes_at}
use Rattle.cache_log.specs.Rows.{byte_of}
use Rattle.cache_log.specs.Pieces.{IsReadAhead}
use Rattle.cache_log.proofs.AheadLemmas.{taken_ahead}
use Rattle.cache_log.proofs.reading_ahead.ReadAhead.read.Goals as goal

pub returns-clause-ok : goal.returns-clause-ok
returns-clause-ok g c =
    let buf : List ℕ = c.copy_from_slice.new.self in
    let at : ℕ = byte_of c.args.sector in
    let taken : buf ≡ bytes_at (at - c.hold.new.self.at) (length c.args.buf.now) c.hold.new.self.buffer.items = search rules in
    let is : IsReadAhead c.hold.new.self c.args.commits.now.disk.moments =
    subst (IsReadAhead c.hold.new.self) c.in_ok-hold.ensures.only.moments c.in_ok-hold.ensures.piece in
    taken_ahead c.hold.new.self c.args.commits.now.disk.moments at (length c.args.buf.now) buf is (search rules) taken
