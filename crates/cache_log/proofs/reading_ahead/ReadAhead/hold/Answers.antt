use Rattle.std.proofs.Common.{rules, ◌≡◌, ◌≤◌, List, ℕ, length, take, sym, subst}
use Rattle.lsvd_bytes.specs.Places.{bytes_at}
use Rattle.lsvd_device.specs.Device.{HoldsNow}
use Rattle.cache_log.proofs.AheadLemmas.{given_back, piece_read}
use Rattle.cache_log.proofs.reading_ahead.ReadAhead.hold.Goals as goal

pub returns-clause-piece : goal.returns-clause-piece
returns-clause-piece g c =
    let most : ℕ = c.min-most.result in
    let items : List ℕ = c.args.self.now.buffer.items in
    let after : List ℕ = c.read_front.new.room in
    let long : length items ≡ c.args.self.now.buffer.len = search rules in
    let same : length after ≡ length items = search rules in
    let room : most ≤ length after = search rules in
    piece_read _ after _ (given_back after items c.args.self.now.buffer.len same long) room
    (subst (HoldsNow (λ now. take most after ≡ bytes_at c.args.at most now.bytes)) (sym c.in_ok-read_front.ensures.only.moments)
    c.in_ok-read_front.ensures.ok)
