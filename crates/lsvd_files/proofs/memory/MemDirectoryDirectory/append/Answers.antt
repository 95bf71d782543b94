use Rattle.std.proofs.Common.{length, subst, sym, ap, ◌∙◌, List, ℕ, ◌≡◌}
use Rattle.std.proofs.Math.Seq.{take-length}
use Rattle.lsvd_files.specs.Directory.{DirectoryState}
use Rattle.lsvd_files.specs.Calls.{appended, with_file}
use Rattle.lsvd_files.proofs.memory.MemDirectoryDirectory.append.Goals as goal

pub returns-in_ok-append_here-in-Unanswered-clause-err : goal.returns-in_ok-append_here-in-Unanswered-clause-err
returns-in_ok-append_here-in-Unanswered-clause-err c =
    let piece = c.args.piece.now in
    let append = λ (written : List ℕ) (old : DirectoryState). with_file c.args.file.now.number (appended written) old in
    let whole = c.in_ok-append_here-in-Unanswered.ensures.ok ∙ ap (append piece) c.self.view_is in (
      length piece,
      subst (λ (it : List ℕ). c.append_here-in-Unanswered.new.self ≡ append it c.args.self.now)
          (sym (take-length piece)) whole,
    )
