-- Contract: what is answered to an option, as the NBD protocol document has it for the fixed newstyle.
use Rattle.std.specs.Prelude.{ℕ, ◌≡◌, ◌⊎◌, ◌↔◌, ◌<◌, ◌≤◌, IsTrue, Bool, true, false, List, [], length}
use Rattle.nbd_options.specs.declared.export.Export.{Export}
use Rattle.nbd_options.specs.declared.answer.Answer.{Answer}
use Rattle.nbd_options.specs.declared.answer.Answer.TheVariants.{Exported, Closed, Aborted, Listed, Described, Unknown, Invalid}
use Rattle.nbd_options.specs.declared.answer.Answer.TheVariants.{Unsupported, TooBig}
use Rattle.nbd_options.specs.Export.{IsNameOf}
use Rattle.nbd_options.specs.Info.{AsksFor, AsksForNothing, HasType}

-- the number of an option that asks for information, and whether it enters the export too
abbrev pub info_option : Bool → ℕ
info_option false = 6
info_option true = 7

-- an option is one of the two
abbrev pub IsInfoOption : ℕ → Type 0
IsInfoOption option = (option ≡ info_option false) ⊎ (option ≡ info_option true)

-- an option is none of those that are answered for themselves
pub record IsOther (option : ℕ) : Type 0 where
  pub no_export_name : option ≡ 1 → ⊥
  pub no_abort : option ≡ 2 → ⊥
  pub no_list : option ≡ 3 → ⊥
  pub no_info : IsInfoOption option → ⊥

-- the option with these data has this answer, where its data are not too long
abbrev pub IsAnswer : Export → ℕ → List ℕ → Answer → Type 0
IsAnswer export option content Exported = (option ≡ 1) × IsNameOf export content
IsAnswer export option content Closed = (option ≡ 1) × (IsNameOf export content → ⊥)
IsAnswer export option content Aborted = option ≡ 2
IsAnswer export option content Listed = (option ≡ 3) × (content ≡ [])
IsAnswer export option content (Described enters blocks) =
    (option ≡ info_option enters) × (name : List ℕ) × (types : List ℕ) × AsksFor content name types × IsNameOf export name
    × (IsTrue blocks ↔ HasType types 3)
IsAnswer export option content Unknown =
    IsInfoOption option × (name : List ℕ) × (types : List ℕ) × AsksFor content name types × (IsNameOf export name → ⊥)
IsAnswer export option content Invalid =
    ((option ≡ 3) × (content ≡ [] → ⊥)) ⊎ (IsInfoOption option × AsksForNothing content)
IsAnswer export option content Unsupported = IsOther option
IsAnswer export option content TooBig = ⊥

-- the option has this answer where its data are too long to be read, whatever they are
abbrev pub IsAnswerUnread : ℕ → Answer → Type 0
IsAnswerUnread option Exported = ⊥
IsAnswerUnread option Closed = option ≡ 1
IsAnswerUnread option Aborted = ⊥
IsAnswerUnread option Listed = ⊥
IsAnswerUnread option (Described enters blocks) = ⊥
IsAnswerUnread option Unknown = ⊥
IsAnswerUnread option Invalid = ⊥
IsAnswerUnread option Unsupported = ⊥
IsAnswerUnread option TooBig = option ≡ 1 → ⊥

-- the option has this answer, whatever the length of its data
abbrev pub IsAnswerTo : Export → ℕ → List ℕ → Answer → Type 0
IsAnswerTo export option content answer =
    ((length content ≤ 65536) × IsAnswer export option content answer) ⊎ ((65536 < length content) × IsAnswerUnread option answer)
