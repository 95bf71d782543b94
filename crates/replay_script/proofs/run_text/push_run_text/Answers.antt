use Rattle.std.proofs.Common.{rules, ◌≡◌, ◌++◌, ◌∙◌, length, List, [], ℕ, sym, append-nil, ap}
use Rattle.std.proofs.lemmas.List.{nil_from_length}
use Rattle.replay_script.specs.RunText.{text_of_runs, runs_of}
use Rattle.replay_script.proofs.Runs.{runs_text}
use Rattle.replay_script.proofs.run_text.push_run_text.Goals as goal

pub returns-clause-ok : goal.returns-clause-ok
returns-clause-ok c =
    let none : length c.loop-rest.rest.now ≡ 0 = search rules in
    let end : text_of_runs (runs_of c.loop-rest.rest.now) ≡ [] =
    ap (λ (rest : List ℕ). text_of_runs (runs_of rest)) (nil_from_length c.loop-rest.rest.now none) in
    let text : c.loop-rest.out.items ≡ c.args.out.now.items ++ text_of_runs (runs_of c.args.bytes.now) =
    sym (append-nil c.loop-rest.out.items) ∙ ap (λ (rest : List ℕ). c.loop-rest.out.items ++ rest) (sym end)
    ∙ c.loop-rest.invariant.text in
    (text_of_runs (runs_of c.args.bytes.now), runs_text c.args.bytes.now, text)
