use Rattle.std.proofs.Common.{rules, ◌≡◌, ◌≤◌, ◌++◌, ◌∷◌, [], None, Ok, sym, subst, ap, ◌∙◌, arith}
use Rattle.std.specs.List.{All}
use Rattle.std.proofs.lemmas.Bool.Decides.{nat_tests}
use Rattle.std.proofs.lemmas.List.Elements.{All-nil}
use Rattle.object_format.specs.declared.expected.Expected.{Expected}
use Rattle.ckpt_format.specs.Reading.{CheckpointReading}
use Rattle.object_recovery.specs.Inherited.{AreNamedBy, IsOfLevelUpTo}
use Rattle.object_recovery.proofs.MappedLemmas.{given_more, all_given}
use Rattle.object_recovery.proofs.NamedRows.{none_named, own_named, more_named, levels_more}
use Rattle.object_recovery.proofs.RowLemmas.{last_stands_so, last_names}
use Rattle.object_recovery.proofs.inherited.named_in.Goals as goal

pub note-requires-clause-inside : goal.note-requires-clause-inside
note-requires-clause-inside c =
    let gives = rw c.in-Ok-Some.field-0-is at c.in-Ok-Some.ensures.gives in
    (last_stands_so c.loop-row.rows.expected c.loop-row.rows.given c.in-Ok-Some.row gives.spelling).in_payload

pub loop-row-init : goal.loop-row-init
loop-row-init c =
    let begun = c.in-Ok.ensures.begun in
    let rows = c.in-Ok.rows in
    let none = sym c.new-named.ensures.items in
    record {
      object = begun.object;
      expected = begun.expected;
      rest = λ end all is. (begun.rest end all is).1 ∙ ap (λ list. list ++ rows.rest) (sym begun.given);
      named = subst (AreNamedBy rows.given) none (subst (λ list. AreNamedBy list []) (sym begun.given) none_named);
      levels =
          subst (All (IsOfLevelUpTo c.args.expected.now.ancestors)) none
          (All-nil (IsOfLevelUpTo c.args.expected.now.ancestors));
    }

pub loop-row-preserved-in_ok-note : goal.loop-row-preserved-in_ok-note
loop-row-preserved-in_ok-note c =
    let before = c.loop-row.invariant in
    let gives = rw c.in-Ok-Some.field-0-is at c.in-Ok-Some.ensures.gives in
    let old = c.loop-row.rows in
    let new = c.next_row.new.self in
    let row = c.in-Ok-Some.row in
    let given : new.given ≡ old.given ++ row ∷ [] = ap (λ (r : CheckpointReading). r.given) gives.after in
    let stands = last_stands_so old.expected old.given row gives.spelling in
    let names = last_names old.expected old.given row gives.spelling in
    let some : 1 ≤ row.place.level =
    let test = c.if-row-ne0.true in grind (arith, nat_tests) in
    let to : row.place.level ≤ c.args.expected.now.ancestors =
    omega (arith, names.level, ap (λ (e : Expected). e.ancestors) before.expected) in
    record {
      object = ap (λ (r : CheckpointReading). r.object) gives.after ∙ before.object;
      expected = ap (λ (r : CheckpointReading). r.expected) gives.after ∙ before.expected;
      rest = λ end rows is.
          given_more rows old.given old.rest new.rest row gives.first (before.rest end rows is)
          ∙ ap (λ list. list ++ new.rest) (sym given);
      named =
          subst (λ list. AreNamedBy list c.note.new.named.items) (sym given)
          (more_named old.given row c.loop-row.named.items c.note.new.named.items gives.spelling.shortest stands.some some
          c.in_ok-note.ensures before.named);
      levels =
          levels_more c.args.expected.now.ancestors row c.loop-row.named.items c.note.new.named.items some to c.in_ok-note.ensures
          before.levels;
    }

pub loop-row-preserved : goal.loop-row-preserved
loop-row-preserved c =
    let before = c.loop-row.invariant in
    let gives = rw c.in-Ok-Some.field-0-is at c.in-Ok-Some.ensures.gives in
    let old = c.loop-row.rows in
    let new = c.next_row.new.self in
    let row = c.in-Ok-Some.row in
    let given : new.given ≡ old.given ++ row ∷ [] = ap (λ (r : CheckpointReading). r.given) gives.after in
    let own : row.place.level ≡ 0 = c.if-row-ne0.false in
    record {
      object = ap (λ (r : CheckpointReading). r.object) gives.after ∙ before.object;
      expected = ap (λ (r : CheckpointReading). r.expected) gives.after ∙ before.expected;
      rest = λ end rows is.
          given_more rows old.given old.rest new.rest row gives.first (before.rest end rows is)
          ∙ ap (λ list. list ++ new.rest) (sym given);
      named =
          subst (λ list. AreNamedBy list c.loop-row.named.items) (sym given)
          (own_named old.given row c.loop-row.named.items own before.named);
      levels = before.levels;
    }

pub returns-clause-named : goal.returns-clause-named
returns-clause-named c =
    let result : c.next_row.result ≡ Ok None = search rules in
    λ end rows is.
    let before = c.loop-row.invariant in
    let ends = rw result at c.next_row.ensures.gives in
    let all = all_given rows c.loop-row.rows.given c.loop-row.rows.rest ends.none (before.rest end rows is) in
    subst (λ list. AreNamedBy list c.loop-row.named.items) (sym all) before.named
