-- Contract: how the objects of a list are lent: the list has then what they became, and its batch as before.
use Rattle.std.specs.Borrow.{Lends, MutBor, Fml, RattleType}
use Rattle.lsvd_objstore.specs.declared.store.Receipt.{Ghosts}
use Rattle.object_uploads.specs.State.{UploadsState}
use Rattle.object_uploads.specs.contracts.uploads.Uploads as uploads
use Rattle.obj_log.specs.State.{ObjLogState}
use Rattle.obj_log.specs.contracts.obj_log.ObjLog as log

module _ (R : RattleType) (receipt : Ghosts R.Denot) where
  -- once the borrow ends, the objects are those that it shows last
  abbrev pub LendsUploads : MutBor ObjLogState → MutBor UploadsState → Fml
  LendsUploads old lent =
      Lends (log.the_row R receipt) (uploads.the_row R receipt) old lent (λ new. record { batch = old.now.batch; uploads = new })
