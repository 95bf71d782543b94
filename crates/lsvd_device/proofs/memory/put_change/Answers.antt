use Rattle.std.proofs.Common.{◌≡◌, ◌+◌, ◌≤◌, ℕ, List, [], ◌∷◌, length, take, drop, sym, ◌∙◌, ap, subst, arith}
use Rattle.std.proofs.lemmas.List.{length-take-le}
use Rattle.lsvd_device.specs.Memory.{bytes_written, contents_from, LiesInside}
use Rattle.lsvd_device.specs.declared.change.Change.TheVariants.{Write, Sync}
use Rattle.lsvd_device.proofs.Replayed.{write_shown, sync_shown}
use Rattle.lsvd_device.proofs.memory.put_change.Goals as goal

pub returns-in-Write-clause-shown : goal.returns-in-Write-clause-shown
returns-in-Write-clause-shown c =
    let place : ℕ = c.in-Write.place in
    let count : ℕ = c.in-Write.count in
    let written : List ℕ = c.args.written.now in
    let fits : count ≤ length written = (let e : bytes_written (Write place count ∷ []) ≤ length written =
    subst (λ ch. bytes_written (ch ∷ []) ≤ length written) c.in-Write.is c.requires.fits in omega (arith, e)) in
    let whole : length (take count written) ≡ count = length-take-le count written fits in
    λ bytes window inside shows.
    let within : place + count ≤ length bytes = subst (LiesInside (length bytes)) c.in-Write.is inside in
    let pasted : c.paste.new.window ≡ take (length c.args.buf.now)
    (drop c.args.at (contents_from bytes (Write place count ∷ []) written)) =
    c.paste.ensures bytes window (omega (arith, within, whole)) shows
    ∙ sym (ap (λ xs. take (length c.args.buf.now) (drop c.args.at xs)) (write_shown place count bytes written)) in
    subst (λ ch. c.paste.new.window ≡ take (length c.args.buf.now) (drop c.args.at (contents_from bytes (ch ∷ []) written)))
    (sym c.in-Write.is) pasted

pub returns-in-Sync-clause-shown : goal.returns-in-Sync-clause-shown
returns-in-Sync-clause-shown c = λ bytes window inside shows.
    let same : c.args.buf.now ≡ take (length c.args.buf.now)
    (drop c.args.at (contents_from bytes (Sync ∷ []) c.args.written.now)) =
    shows ∙ sym (ap (λ xs. take (length c.args.buf.now) (drop c.args.at xs)) (sync_shown bytes c.args.written.now)) in
    subst (λ ch. c.args.buf.now ≡ take (length c.args.buf.now)
    (drop c.args.at (contents_from bytes (ch ∷ []) c.args.written.now))) (sym c.in-Sync.is) same
