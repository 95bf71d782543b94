use Rattle.std.proofs.Common.{◌≡◌, ◌+◌, ◌*◌, ◌<◌, Option, IsTrue, sym, ◌∙◌, ap, subst, arith}
use Rattle.std.proofs.lemmas.Bool.{both_ways}
use Rattle.std.proofs.lemmas.List.{take_rest}
use Rattle.std.specs.Option.{IfSome}
use Rattle.extent_map.specs.declared.extent.Extent.{Extent}
use Rattle.object_format.specs.declared.reason.BadObject.TheVariants as reasons
use Rattle.object_format.proofs.PartLemmas.{bytes_of_rest}
use Rattle.ckpt_format.specs.declared.place.StoredPlace.{StoredPlace}
use Rattle.ckpt_format.specs.Rows.{row_in, HasRowWidths, may_stand}
use Rattle.ckpt_format.specs.Reading.{CheckpointReading, IsCheckpointRefusedAs, GivesRow, IsAtEnd}
use Rattle.ckpt_format.specs.Fields.{rows_at, reading_at}
use Rattle.ckpt_format.proofs.RowLemmas.{row_fits}
use Rattle.ckpt_format.proofs.SpellingLemmas.{last_stands}
use Rattle.ckpt_format.proofs.CheckpointLemmas.{cursor_more, gives_row, at_end, refuses_row, next_in}
use Rattle.ckpt_format.proofs.reading.CheckpointRows.next_row.Goals as goal

pub returns-then-self-clause-gives : goal.returns-then-self-clause-gives
returns-then-self-clause-gives c =
    let cursor = c.self.inside in
    let P : CheckpointReading → Type 0 = λ reading. IsAtEnd reading reading in
    subst P c.self.view_is
    (at_end cursor.bytes.now cursor.expected cursor.end_seq cursor.count cursor.given cursor.before c.self.invariant
    c.if-self.true)

pub may_come_after-requires : goal.may_come_after-requires
may_come_after-requires c =
    let cursor = c.self.inside in
    let P : Option (Extent StoredPlace) → Type 0 = λ b. IfSome b (λ row. IsTrue (may_stand cursor.expected row)) in
    subst P (sym c.self.invariant.last)
    (last_stands cursor.expected (rows_at 0 cursor.given cursor.bytes.now) c.self.invariant.spelling.all_stand)

pub returns-then-not-may_come_after-clause-refused : goal.returns-then-not-may_come_after-clause-refused
returns-then-not-may_come_after-clause-refused c =
    let cursor = c.self.inside in
    let P : CheckpointReading → Type 0 = λ reading. IsCheckpointRefusedAs reading.object reading.expected reasons.Rows in
    let below : cursor.given < cursor.count = omega (arith, c.self.invariant.within, c.if-self.false) in
    subst P c.self.view_is
    (refuses_row cursor.bytes.now cursor.expected cursor.end_seq cursor.count cursor.given cursor.before c.read_row-row.result
    c.self.invariant below (c.read_row-row.ensures ∙ ap row_in (take_rest cursor.bytes.now (64 + 36 * cursor.given)))
    (λ may. both_ways _ c.if-not-may_come_after.true (c.may_come_after.ensures.1 may)))

pub invariant_of-self : goal.invariant_of-self
invariant_of-self c =
    let cursor = c.self.inside in
    let below : cursor.given < cursor.count = omega (arith, c.self.invariant.within, c.if-self.false) in
    let read : c.read_row-row.result ≡ next_in cursor.given cursor.bytes.now =
    c.read_row-row.ensures ∙ ap row_in (take_rest cursor.bytes.now (64 + 36 * cursor.given)) in
    let fits = row_fits _ (bytes_of_rest (64 + 36 * cursor.given) cursor.bytes.now c.self.invariant.are_bytes) in
    cursor_more cursor.bytes.now cursor.expected cursor.end_seq cursor.count cursor.given cursor.before c.read_row-row.result
    c.self.invariant below read (subst HasRowWidths (sym read) fits)
    (c.may_come_after.ensures.0 c.if-not-may_come_after.false)

pub returns-clause-gives : goal.returns-clause-gives
returns-clause-gives c =
    let cursor = c.self.inside in
    let new = reading_at cursor.bytes.now cursor.expected cursor.end_seq cursor.count (cursor.given + 1) in
    let P : CheckpointReading → Type 0 = λ reading. GivesRow c.read_row-row.result reading new in
    let below : cursor.given < cursor.count = omega (arith, c.self.invariant.within, c.if-self.false) in
    let read : c.read_row-row.result ≡ next_in cursor.given cursor.bytes.now =
    c.read_row-row.ensures ∙ ap row_in (take_rest cursor.bytes.now (64 + 36 * cursor.given)) in
    let fits = row_fits _ (bytes_of_rest (64 + 36 * cursor.given) cursor.bytes.now c.self.invariant.are_bytes) in
    subst P c.self.view_is
    (gives_row cursor.bytes.now cursor.expected cursor.end_seq cursor.count cursor.given cursor.before c.read_row-row.result
    c.self.invariant below read (subst HasRowWidths (sym read) fits)
    (c.may_come_after.ensures.0 c.if-not-may_come_after.false))
