use Rattle.std.proofs.Common.{ℕ, List, codes, ◌∙◌, Bor}
use Rattle.replay_script.proofs.Words.{found_in_same, have_same, name_alone, name_and_one, name_and_two, name_and_three}
use Rattle.replay_script.proofs.Words.{name_and_four, names_and_two}
use Rattle.replay_script.proofs.command.form_of.Goals as goal
use Rattle.replay_script.proofs.command.form_of.Goals.{in-New, in-Write, in-Zero, in-Read, in-Flush, in-Seal, in-TakeJob}
use Rattle.replay_script.proofs.command.form_of.Goals.{in-JobDone, in-JobFailed, in-SealCheckpoint, in-Remove, in-PlanCopy}
use Rattle.replay_script.proofs.command.form_of.Goals.{in-SealCopy, in-DropPlan, in-Status, in-Stop}
use Rattle.replay_script.proofs.command.form_of.Goals.{in-CrashKeep+in_ok-crash_keep_of-in-CrashKeep}
use Rattle.replay_script.proofs.command.form_of.Goals.{in-CrashLost+in_ok-crash_lost_of-in-CrashLost}

-- the bytes of a word
abbrev bytes_of : Bor (List ℕ) → List ℕ
bytes_of word = word.now

pub returns-clause-found : goal.returns-clause-found
returns-clause-found c =
    elim c.match-name.branch [
      | in-New w ↦
          let have = have_same bytes_of c.args.words.now _ _ w.in-New.is c.requires.begun c.requires.counted in
          rw w.result-is (found_in_same _ _ w.new_of.result (name_and_four bytes_of c.args.words.now (codes "new") _ have.0
          have.1) w.new_of.ensures.found)
      | in-Write w ↦
          let have = have_same bytes_of c.args.words.now _ _ w.in-Write.is c.requires.begun c.requires.counted in
          rw w.result-is (found_in_same _ _ w.write_of.result (name_and_three bytes_of c.args.words.now (codes "w") _ have.0
          have.1) w.write_of.ensures.found)
      | in-Zero w ↦
          let have = have_same bytes_of c.args.words.now _ _ w.in-Zero.is c.requires.begun c.requires.counted in
          rw w.result-is (found_in_same _ _ w.zero_of.result (name_and_two bytes_of c.args.words.now (codes "z") _ have.0 have.1)
          w.zero_of.ensures.found)
      | in-Read w ↦
          let have = have_same bytes_of c.args.words.now _ _ w.in-Read.is c.requires.begun c.requires.counted in
          rw w.result-is (found_in_same _ _ w.read_of.result (name_and_two bytes_of c.args.words.now (codes "r") _ have.0 have.1)
          w.read_of.ensures.found)
      | in-Flush w ↦
          let have = have_same bytes_of c.args.words.now _ _ w.in-Flush.is c.requires.begun c.requires.counted in
          rw w.result-is (name_alone bytes_of c.args.words.now (codes "f") have.0 have.1, tt)
      | in-Seal w ↦
          let have = have_same bytes_of c.args.words.now _ _ w.in-Seal.is c.requires.begun c.requires.counted in
          rw w.result-is (name_alone bytes_of c.args.words.now (codes "s") have.0 have.1, tt)
      | in-TakeJob w ↦
          let have = have_same bytes_of c.args.words.now _ _ w.in-TakeJob.is c.requires.begun c.requires.counted in
          rw w.result-is (name_alone bytes_of c.args.words.now (codes "u") have.0 have.1, tt)
      | in-JobDone w ↦
          let have = have_same bytes_of c.args.words.now _ _ w.in-JobDone.is c.requires.begun c.requires.counted in
          let spelled = name_and_one bytes_of c.args.words.now (codes "d") _ have.0 have.1 in
          rw w.result-is (found_in_same _ _ w.job_done_of.result spelled w.job_done_of.ensures.found)
      | in-JobFailed w ↦
          let have = have_same bytes_of c.args.words.now _ _ w.in-JobFailed.is c.requires.begun c.requires.counted in
          let spelled = name_and_one bytes_of c.args.words.now (codes "x") _ have.0 have.1 in
          rw w.result-is (found_in_same _ _ w.job_failed_of.result spelled w.job_failed_of.ensures.found)
      | in-SealCheckpoint w ↦
          let have = have_same bytes_of c.args.words.now _ _ w.in-SealCheckpoint.is c.requires.begun c.requires.counted in
          rw w.result-is (name_alone bytes_of c.args.words.now (codes "c") have.0 have.1, tt)
      | in-Remove w ↦
          let have = have_same bytes_of c.args.words.now _ _ w.in-Remove.is c.requires.begun c.requires.counted in
          rw w.result-is (name_alone bytes_of c.args.words.now (codes "k") have.0 have.1, tt)
      | in-PlanCopy w ↦
          let have = have_same bytes_of c.args.words.now _ _ w.in-PlanCopy.is c.requires.begun c.requires.counted in
          rw w.result-is (name_alone bytes_of c.args.words.now (codes "g") have.0 have.1, tt)
      | in-SealCopy w ↦
          let have = have_same bytes_of c.args.words.now _ _ w.in-SealCopy.is c.requires.begun c.requires.counted in
          rw w.result-is (name_alone bytes_of c.args.words.now (codes "G") have.0 have.1, tt)
      | in-DropPlan w ↦
          let have = have_same bytes_of c.args.words.now _ _ w.in-DropPlan.is c.requires.begun c.requires.counted in
          rw w.result-is (name_alone bytes_of c.args.words.now (codes "q") have.0 have.1, tt)
      | in-Status w ↦
          let have = have_same bytes_of c.args.words.now _ _ w.in-Status.is c.requires.begun c.requires.counted in
          rw w.result-is (name_alone bytes_of c.args.words.now (codes "i") have.0 have.1, tt)
      | in-Stop w ↦
          let have = have_same bytes_of c.args.words.now _ _ w.in-Stop.is c.requires.begun c.requires.counted in
          rw w.result-is (found_in_same _ _ w.stop_of.result (name_and_one bytes_of c.args.words.now (codes "stop") _ have.0
          have.1) w.stop_of.ensures.found)
      | in-CrashKeep+in_ok-crash_keep_of-in-CrashKeep w ↦
          let have = have_same bytes_of c.args.words.now _ _ w.in-CrashKeep.is c.requires.begun c.requires.counted in
          let kept = w.in_ok-crash_keep_of-in-CrashKeep.ensures in
          rw w.result-is (names_and_two bytes_of c.args.words.now (codes "crash") (codes "keep") _ have.0 have.1 ∙ kept.0, kept.1)
      | in-CrashLost+in_ok-crash_lost_of-in-CrashLost w ↦
          let have = have_same bytes_of c.args.words.now _ _ w.in-CrashLost.is c.requires.begun c.requires.counted in
          let lost = w.in_ok-crash_lost_of-in-CrashLost.ensures in
          rw w.result-is (names_and_two bytes_of c.args.words.now (codes "crash") (codes "lost") _ have.0 have.1 ∙ lost.0, lost.1)
    ]
