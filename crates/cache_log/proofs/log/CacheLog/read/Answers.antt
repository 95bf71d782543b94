use Rattle.std.proofs.Common.{rules, ◌≡◌, ℕ, List, length, refl, sym, subst, arith}
use Rattle.std.specs.Prelude.{OnOk, take, drop}
use Rattle.lsvd_device.specs.Device.{HoldsNow}
use Rattle.cache_log.specs.declared.row.Row.{Row}
use Rattle.cache_log.specs.Log.{LogState, AreData, entries_in}
use Rattle.cache_log.proofs.ReadLemmas.{list_inside, data_inside, is_read_on_ok}
use Rattle.cache_log.proofs.WriteLemmas.{read_log}
use Rattle.cache_log.proofs.log.CacheLog.read.Goals as goal

pub byte_of-requires : goal.byte_of-requires
byte_of-requires g c =
    let log : ℕ = c.self.inside.room.log in
    let rows : List Row = drop c.self.inside.dropped c.self.inside.rows.items in
    let of : AreData c.args.self.now.rows c.args.sector (length c.args.buf.now) = c.requires in
    let P : LogState → Type 0 = λ l. AreData l.rows c.args.sector (length c.args.buf.now) in
    let data_there : AreData rows c.args.sector (length c.args.buf.now) = subst P (sym c.self.view_is) of in
    let ends = data_inside rows log c.args.sector (length c.args.buf.now) (list_inside _ _ _ _ _ c.self.invariant.1) data_there in
    omega (arith, ends, c.self.invariant.1.is.room.limit)

pub read-requires : goal.read-requires
read-requires g c =
    let log : ℕ = c.self.inside.room.log in
    let rows : List Row = drop c.self.inside.dropped c.self.inside.rows.items in
    let of : AreData c.args.self.now.rows c.args.sector (length c.args.buf.now) = c.requires in
    let P : LogState → Type 0 = λ l. AreData l.rows c.args.sector (length c.args.buf.now) in
    let data_there : AreData rows c.args.sector (length c.args.buf.now) = subst P (sym c.self.view_is) of in
    let ends = data_inside rows log c.args.sector (length c.args.buf.now) (list_inside _ _ _ _ _ c.self.invariant.1) data_there in
    omega (arith, ends, c.self.invariant.1.is.fits, c.byte_of.ensures)

pub invariant_of-self : goal.invariant_of-self
invariant_of-self g c = (
  c.self.invariant.0,
  read_log _ _ _ _ _ _ c.self.invariant.1 c.read.ensures.same c.read.ensures.moments
      c.read.ensures.costs.size c.read.ensures.on_disk,
)

pub returns-clause-ok : goal.returns-clause-ok
returns-clause-ok g c =
    let same : length c.args.buf.now ≡ length c.read.new.buf = search rules in
    let log : LogState = c.args.self.now in
    let told : log.entries ≡ entries_in log.rows log.commits.disk.moments = rw (← c.self.view_is) refl in
    let read : OnOk c.read.result (HoldsNow (λ now. c.read.new.buf ≡ take (length c.args.buf.now)
    (drop c.byte_of.result now.bytes)) log.commits.disk.moments) =
    rw (← c.self.view_is) c.read.ensures.ok in
    is_read_on_ok c.read.result log c.args.buf.now c.read.new.buf c.args.sector c.byte_of.result c.byte_of.ensures same told read
