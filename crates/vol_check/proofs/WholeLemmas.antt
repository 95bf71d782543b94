-- What is reported of a volume, and why it is refused for its objects, by what was found of it as a whole.
use Rattle.std.proofs.Common.{ℕ, Option, List}
use Rattle.std.specs.Prelude.{IfSome}
use Rattle.lsvd_names.specs.declared.name.ObjName.{ObjName}
use Rattle.lsvd_objstore.specs.Objects.{Objects, Lists}
use Rattle.super_format.specs.declared.super_object.Super.{Super}
use Rattle.stopped_volume.specs.Ancestors.{uuid_in_chain}
use Rattle.stopped_volume.specs.Super.{HasSuper}
use Rattle.super_recovery.proofs.Results.{told_three}
use Rattle.object_recovery.specs.declared.error.RecoverError.{RecoverError}
use Rattle.object_recovery.specs.declared.error.RecoverError.TheVariants as errors
use Rattle.vol_check.specs.Errors.{of_recovery}
use Rattle.vol_check.specs.declared.report.CheckReport.{CheckReport}
use Rattle.vol_check.specs.Report.{AreObjectsRefused, IsCheckRefused, IsReport, IsReportOf, IsWhyNotChecked, volume_said}

-- ---- refusals

-- the objects of a volume are refused
objects_refused : (uuid : List ℕ) (objects : Objects) (error : RecoverError) → AreObjectsRefused uuid objects error
    → IsCheckRefused uuid objects (of_recovery error)
objects_refused uuid objects errors.NoCheckpoint is = is
objects_refused uuid objects (errors.BadObject number reason) is = is
objects_refused uuid objects (errors.MissingObject number) is = is.2
objects_refused uuid objects (errors.BaseMissing ancestor) is = is.2
objects_refused uuid objects errors.StoreFault is = tt
objects_refused uuid objects errors.OutOfMemory is = tt

-- of a volume that was found
pub told_objects : (told : Option Objects) (uuid : List ℕ) (said : Super) (names : List ObjName) (error : RecoverError)
    → IfSome told (λ objects. HasSuper uuid said objects) → IfSome told (λ objects. Lists uuid objects names)
    → IfSome told (λ objects. Lists uuid objects names → IsWhyNotChecked (volume_said uuid said) objects error)
    → IfSome told (λ objects. IsCheckRefused uuid objects (of_recovery error))
told_objects told uuid said names error =
    told_three (λ objects. HasSuper uuid said objects) (λ objects. Lists uuid objects names)
    (λ objects. Lists uuid objects names → IsWhyNotChecked (volume_said uuid said) objects error)
    (λ objects. IsCheckRefused uuid objects (of_recovery error)) told
    (λ objects has list is. objects_refused uuid objects error (said, has, is list))

-- ---- the report

pub told_whole : (told : Option Objects) (uuid : List ℕ) (said : Super) (names : List ObjName) (report : CheckReport)
    → IfSome told (λ objects. HasSuper uuid said objects) → IfSome told (λ objects. Lists uuid objects names)
    → IfSome told (λ objects. Lists uuid objects names
    → IsReportOf (volume_said uuid said) (uuid_in_chain uuid said.chain) objects report)
    → IfSome told (λ objects. IsReport uuid objects report)
told_whole told uuid said names report =
    told_three (λ objects. HasSuper uuid said objects) (λ objects. Lists uuid objects names)
    (λ objects. Lists uuid objects names → IsReportOf (volume_said uuid said) (uuid_in_chain uuid said.chain) objects report)
    (λ objects. IsReport uuid objects report) told
    (λ objects has list is. record { said = said; says = has; is = is list })
