use Rattle.std.proofs.Common.{◌≡◌, sym, ◌∙◌, ap}
use Rattle.std.specs.Prelude.{Bool}
use Rattle.std.specs.Bool.{Decides}
use Rattle.std.proofs.lemmas.Bool.{false≢true}
use Rattle.std.proofs.lemmas.Bool.Decides.{Decides-eqb, Decides-and, Decides-like}
use Rattle.std.proofs.lemmas.Slice.Eq.{slice_eq-Decides}
use Rattle.object_format.specs.declared.copy_row.CopyRow.{CopyRow}
use Rattle.object_format.specs.declared.copy_row.Source.{Source}
use Rattle.object_format.specs.contracts.copy_row.CopyRowPartialEq.TheImpl as rows
use Rattle.object_format.specs.contracts.copy_row.SourcePartialEq.TheImpl as sources
use Rattle.gc_copier.specs.Plan.{all_seen}
use Rattle.gc_copier.specs.Copying.{CopiedState}
use Rattle.gc_copier.proofs.copied.Copied.is_of.Goals as goal

-- what `==` answers is whether all numbers are the same
abbrev same_source : Source → Source → Bool
same_source = (sources.ghosts).eq

abbrev same_row : CopyRow → CopyRow → Bool
same_row = (rows.ghosts).eq

source_decides : (a b : Source) → Decides (same_source a b) (a ≡ b)
source_decides a b =
    Decides-like (same_source a b)
    (λ (e : (a.level ≡ b.level) × ((a.number ≡ b.number) × (a.place ≡ b.place))).
    let same : a ≡ b = λ i. record { level = e.0 i; number = e.1.0 i; place = e.1.1 i } in same)
    (λ (e : a ≡ b).
    (ap (λ (s : Source). s.level) e, (ap (λ (s : Source). s.number) e, ap (λ (s : Source). s.place) e)))
    (Decides-and _ _ (Decides-eqb a.level b.level)
    (Decides-and _ _ (Decides-eqb a.number b.number) (Decides-eqb a.place b.place)))

row_decides : (a b : CopyRow) → Decides (same_row a b) (a ≡ b)
row_decides a b =
    Decides-like (same_row a b)
    (λ (e : (a.lba ≡ b.lba) × ((a.sectors ≡ b.sectors) × ((a.place ≡ b.place) × (a.source ≡ b.source)))).
    let same : a ≡ b = λ i. record { lba = e.0 i; sectors = e.1.0 i; place = e.1.1.0 i; source = e.1.1.1 i } in same)
    (λ (e : a ≡ b). (
      ap (λ (r : CopyRow). r.lba) e,
      (ap (λ (r : CopyRow). r.sectors) e, (ap (λ (r : CopyRow). r.place) e, ap (λ (r : CopyRow). r.source) e)),
    ))
    (Decides-and _ _ (Decides-eqb a.lba b.lba)
    (Decides-and _ _ (Decides-eqb a.sectors b.sectors)
    (Decides-and _ _ (Decides-eqb a.place b.place) (source_decides a.source b.source))))

pub returns-then-eq : goal.returns-then-eq
returns-then-eq g c =
    let state = g.R.Receipt.state in
    let decides = slice_eq-Decides {E = same_row} row_decides c.as_slice.result.now c.rows.result.now c.eq.result c.eq.ensures in
    let rows : c.args.self.now.rows ≡ c.args.plan.now.rows =
    ap (λ (copied : CopiedState). copied.rows) (sym c.self.view_is) ∙ sym c.as_slice.ensures.value
    ∙ decides.0 c.if-eq.true ∙ c.rows.ensures.rows in
    let mine : all_seen state c.as_slice-then-eq.result.now ≡ c.args.self.now.sources =
    ap (all_seen state) c.as_slice-then-eq.ensures.value ∙ ap (λ (copied : CopiedState). copied.sources) c.self.view_is in (
      λ yes. (rows, sym mine ∙ c.are_same.ensures.0 yes ∙ c.sources.ensures.sources),
      λ both. c.are_same.ensures.1 (mine ∙ both.1 ∙ sym c.sources.ensures.sources),
    )

pub returns-else-eq : goal.returns-else-eq
returns-else-eq g c =
    let decides = slice_eq-Decides {E = same_row} row_decides c.as_slice.result.now c.rows.result.now c.eq.result c.eq.ensures
    in (
      λ yes. absurd (false≢true (sym c.if-eq.false ∙ yes)),
      λ both. decides.1 (c.as_slice.ensures.value ∙ ap (λ (copied : CopiedState). copied.rows) c.self.view_is ∙ both.0
          ∙ sym c.rows.ensures.rows),
    )
