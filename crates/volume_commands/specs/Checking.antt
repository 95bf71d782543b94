-- Contract: what a run of `check` does and says.
use Rattle.std.specs.Prelude.{◌≡◌, ◌≢◌, ◌⊎◌, ℕ, Bool, List, [], ◌∷◌, ◌++◌, Option, Result, Ok, Err, IfSome, codes}
use Rattle.std.specs.Prelude.{decimal}
use Rattle.std.specs.Io.KnownBytes.{Appends}
use Rattle.std.specs.List.{flat_map}
use Rattle.uuid.specs.Text.{hyphenated_text, lower}
use Rattle.lsvd_objstore.specs.Objects.{Objects}
use Rattle.lsvd_objstore.specs.Store.{StoreState, ReceiptState}
use Rattle.command_line.specs.declared.check.CheckRequest.{CheckRequest}
use Rattle.refusals.specs.declared.refusal.Refusal.{Refusal as Why}
use Rattle.stopped_volume.specs.Store.{TellsBytes}
use Rattle.vol_check.specs.Report.{IsReport, IsCheckRefused}
use Rattle.vol_check.specs.declared.error.CheckError.{CheckError}
use Rattle.vol_check.specs.declared.error.CheckError.TheVariants as check_errors
use Rattle.vol_check.specs.declared.report.CheckReport.{CheckReport}
use Rattle.vol_check.specs.declared.report.ObjectOfLevel.{ObjectOfLevel}
use Rattle.volume_commands.specs.declared.error.CommandError.{CommandError}
use Rattle.volume_commands.specs.declared.error.CommandError.TheVariants as errors
use Rattle.volume_commands.specs.declared.report.Report.{Report}
use Rattle.volume_commands.specs.declared.report.Report.TheVariants.{Done, Fault, Usage, BadLine, Refused, Missing, Memory}
use Rattle.volume_commands.specs.Output.{AppendsFrontOf}
use Rattle.volume_commands.specs.World.{Places, where_told}

-- how an error of a check ends a command
abbrev pub of_check : CheckError → CommandError
of_check (check_errors.Refused why) = errors.Refused why
of_check check_errors.StoreFault = errors.Fault
of_check check_errors.OutOfMemory = errors.OutOfMemory

-- ---- the output

-- numbers, each after a space
abbrev pub number_words : List ℕ → List ℕ
number_words = flat_map (λ number. codes " " ++ decimal number)

-- the level and the number of each object, likewise
abbrev pub missing_words : List ObjectOfLevel → List ℕ
missing_words = flat_map (λ missing. codes " " ++ decimal missing.level ++ codes ":" ++ decimal missing.number)

-- the seven lines of what was found
abbrev pub check_text : CheckReport → List ℕ
check_text found =
    codes "volume " ++ hyphenated_text lower found.uuid
    ++ codes "\nholds" ++ number_words found.holds.items
    ++ codes "\ncheckpoints" ++ number_words found.checkpoints.items
    ++ codes "\nlast " ++ decimal found.last
    ++ codes "\nstranded" ++ number_words found.stranded.items
    ++ codes "\nunneeded" ++ number_words found.unneeded.items
    ++ codes "\nmissing" ++ missing_words found.missing.items ++ codes "\n"

abbrev pub IsCheckText : List ℕ → Type 0
IsCheckText text = (found : CheckReport) × (text ≡ check_text found)

-- what the output took, where the run ended so
abbrev pub TellsCheck : Report → (old new : Option (List ℕ)) → Type 0
TellsCheck Done old new = (found : CheckReport) × (found.missing.items ≡ []) × Appends old new (check_text found)
TellsCheck Missing old new = (found : CheckReport) × (found.missing.items ≢ []) × Appends old new (check_text found)
TellsCheck (Refused why) old new = new ≡ old
TellsCheck Fault old new = AppendsFrontOf IsCheckText old new
TellsCheck Memory old new = new ≡ old
TellsCheck Usage old new = ⊥
TellsCheck (BadLine number reason) old new = ⊥

-- so it is of a check that has ended
abbrev pub TellsChecked : Result Report CommandError → (old new : Option (List ℕ)) → Type 0
TellsChecked (Ok ended) old new = TellsCheck ended old new
TellsChecked (Err (errors.Refused why)) old new = new ≡ old
TellsChecked (Err errors.Fault) old new = AppendsFrontOf IsCheckText old new
TellsChecked (Err errors.OutOfMemory) old new = new ≡ old

-- ---- what is done

-- how a run ends that found these objects missing
abbrev pub ended_by : List ObjectOfLevel → Report
ended_by [] = Done
ended_by (first ∷ rest) = Missing

-- A volume was checked in a store of these objects, and the lines tell what was found.
pub record ChecksStore {R : Type 0} (receipt_state : R → ReceiptState) (uuid : List ℕ) (objects : Option Objects) (ended : Report)
    (old new : Option (List ℕ)) : Type 0 where
  pub found : CheckReport
  pub is : TellsBytes receipt_state → IfSome objects (λ objects. IsReport uuid objects found)
  pub ends : ended ≡ ended_by found.missing.items
  pub told : Appends old new (check_text found)

-- So was the volume that is asked for, in the store that stood at its path, which stands there with the same objects.
pub record Checks {R : Type 0} (tells : Bool) (receipt_state : R → ReceiptState) (request : CheckRequest) (before after : Places)
    (ended : Report) (old new : Option (List ℕ)) : Type 0 where
  pub store : StoreState
  pub stood : before.stores request.store.now ≡ where_told tells store
  pub checks : ChecksStore receipt_state request.volume store.objects ended old new
  pub store_left : StoreState
  pub same : store_left.objects ≡ store.objects
  pub store_now : after.stores request.store.now ≡ where_told tells store_left

-- However a check ends, at the path of its store stands what stood there; or the same objects do, which were given back.
abbrev pub StandsAgain : (tells : Bool) → (stood stands : Option StoreState) → Type 0
StandsAgain tells stood stands =
    (stands ≡ stood)
    ⊎ ((store : StoreState) × (stood ≡ where_told tells store)
    × (store_left : StoreState) × (store_left.objects ≡ store.objects) × (stands ≡ where_told tells store_left))

-- Or it was refused.
pub record RefusesCheck {R : Type 0} (tells : Bool) (receipt_state : R → ReceiptState) (request : CheckRequest)
    (before after : Places) (why : Why) : Type 0 where
  pub store : StoreState
  pub stood : before.stores request.store.now ≡ where_told tells store
  pub refused : TellsBytes receipt_state
      → IfSome store.objects (λ objects. IsCheckRefused request.volume objects (check_errors.Refused why))
  pub store_left : StoreState
  pub same : store_left.objects ≡ store.objects
  pub store_now : after.stores request.store.now ≡ where_told tells store_left
