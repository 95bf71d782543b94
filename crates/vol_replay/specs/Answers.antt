-- For this crate's own clauses: which text tells an answer.
use Rattle.std.specs.Prelude.{◌≡◌, ℕ, List, ◌++◌, codes, decimal}
use Rattle.replay_script.specs.RunText.{IsRunText}
use Rattle.transcript.specs.Answers.{text_of_mount}
use Rattle.replay_rig.specs.declared.answer.Answer.{Answer}
use Rattle.replay_rig.specs.declared.answer.Answer.TheVariants.{Created, Entries, Sectors, Sealed, Put, Done, Failed, Gone}
use Rattle.replay_rig.specs.declared.answer.Answer.TheVariants.{Copied, Dropped, Counts, Stopping, Mounted, BatchFull}
use Rattle.replay_rig.specs.declared.answer.Answer.TheVariants.{EntriesFull, NoRoom, Range, Nothing, Busy, Fault}

-- the text that tells an answer
abbrev pub TellsAnswer : Answer → List ℕ → Type 0
TellsAnswer (Created sectors) text = text ≡ codes "new " ++ decimal sectors
TellsAnswer (Entries count) text = text ≡ codes "ok " ++ decimal count
TellsAnswer (Sectors bytes) text = IsRunText bytes.items text
TellsAnswer (Sealed number) text = text ≡ codes "sealed " ++ decimal number
TellsAnswer (Put number) text = text ≡ codes "put " ++ decimal number
TellsAnswer (Done frontier) text = text ≡ codes "done " ++ decimal frontier
TellsAnswer (Failed number) text = text ≡ codes "failed " ++ decimal number
TellsAnswer (Gone number) text = text ≡ codes "gone " ++ decimal number
TellsAnswer (Copied sectors) text = text ≡ codes "copied " ++ decimal sectors
TellsAnswer Dropped text = text ≡ codes "dropped"
TellsAnswer (Counts entries sealed frontier) text =
    text ≡ codes "info " ++ decimal entries ++ codes " " ++ decimal sealed ++ codes " " ++ decimal frontier
TellsAnswer (Stopping calls) text = text ≡ codes "stop " ++ decimal calls
TellsAnswer (Mounted entries number) text = text ≡ text_of_mount entries number
TellsAnswer (BatchFull sectors) text = text ≡ codes "again batch " ++ decimal sectors
TellsAnswer (EntriesFull count) text = text ≡ codes "again entries " ++ decimal count
TellsAnswer (NoRoom lacking left) text = text ≡ codes "again room " ++ decimal lacking ++ codes " " ++ decimal left
TellsAnswer Range text = text ≡ codes "range"
TellsAnswer Nothing text = text ≡ codes "none"
TellsAnswer Busy text = text ≡ codes "busy"
TellsAnswer Fault text = text ≡ codes "fault"
