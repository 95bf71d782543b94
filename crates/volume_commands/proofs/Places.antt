-- What was lent of the places of a world, and what stands there when it was given back.
use Rattle.std.proofs.Common.{◌≡◌, Bool, subst, sym}
use Rattle.std.specs.Prelude.{Option, OnOk, Result, Ok, Err}
use Rattle.lsvd_device.specs.Device.{DiskState}
use Rattle.lsvd_objstore.specs.Store.{StoreState, ReceiptState}
use Rattle.command_line.specs.declared.mount.MountRequest.{MountRequest}
use Rattle.volume_commands.specs.declared.error.CommandError.{CommandError}
use Rattle.refusals.specs.declared.refusal.Refusal.{Refusal}
use Rattle.volume_commands.specs.Mounting.{RefusesIn, MountedRelation, WorksOn, WorksIn}

-- what follows of something that a command has done follows where it has done it
pub on_done : {P Q : Type 0} (result : Result (Unit {0}) CommandError) → (P → Q) → OnOk result P → OnOk result Q
on_done (Ok done) then is = then is
on_done (Err error) then is = tt

-- a command does with a volume what it does of the same thing, as a world tells that, and of a store that is the same
pub works_from : {C D R : Type 0} (disk_state : D → DiskState) (receipt_state : R → ReceiptState) (request : MountRequest)
    (Does : C → MountedRelation) (came told : C) (disk disk_left : DiskState) (first store store_left : StoreState) → came ≡ told
    → first ≡ store → WorksOn disk_state receipt_state request (Does came) disk disk_left first store_left
    → WorksOn disk_state receipt_state request (Does told) disk disk_left store store_left
works_from {C} disk_state receipt_state request Does came told disk disk_left first store store_left same stays works =
    subst (λ (t : C). WorksOn disk_state receipt_state request (Does t) disk disk_left store store_left) same
    (subst (λ (s : StoreState). WorksOn disk_state receipt_state request (Does came) disk disk_left s store_left) stays works)

-- ---- done and refused, where other calls of the world came before and after that changed nothing of the cache

pub works_between : {C D R : Type 0} (tells : Bool) (disk_state : D → DiskState) (receipt_state : R → ReceiptState)
    (request : MountRequest) (Does : C → MountedRelation) (came told : C) (first stood stands last : Option DiskState)
    (store store_left : StoreState) → came ≡ told → stood ≡ first → last ≡ stands
    → WorksIn tells disk_state receipt_state request (Does came) stood stands store store_left
    → WorksIn tells disk_state receipt_state request (Does told) first last store store_left
works_between {C} tells disk_state receipt_state request Does came told first stood stands last store store_left same before
    after works =
    subst (λ (t : C). WorksIn tells disk_state receipt_state request (Does t) first last store store_left) same
    (subst (λ (d : Option DiskState). WorksIn tells disk_state receipt_state request (Does came) d last store store_left) before
    (subst (λ (d : Option DiskState). WorksIn tells disk_state receipt_state request (Does came) stood d store store_left)
    (sym after) works))

pub refuses_between : {D R : Type 0} (tells : Bool) (disk_state : D → DiskState) (receipt_state : R → ReceiptState)
    (request : MountRequest) (first stood stands last : Option DiskState) (store store_left : StoreState) (why : Refusal)
    → stood ≡ first → last ≡ stands
    → RefusesIn tells disk_state receipt_state request stood stands store store_left why
    → RefusesIn tells disk_state receipt_state request first last store store_left why
refuses_between tells disk_state receipt_state request first stood stands last store store_left why before after refuses =
    subst (λ (d : Option DiskState). RefusesIn tells disk_state receipt_state request d last store store_left why) before
    (subst (λ (d : Option DiskState). RefusesIn tells disk_state receipt_state request stood d store store_left why) (sym after)
    refuses)
