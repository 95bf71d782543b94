-- Contract: what the list of a volume's entries and objects means: those of the plain volume that it shows.
use Rattle.std.specs.Prelude.{◌≡◌, ℕ, ◌-◌, Bool, take, length}
use Rattle.lsvd_base.specs.Image.{Image, after}
use Rattle.object_uploads.specs.State.{QueueState}
use Rattle.object_uploads.specs.Image.{HasImage, HasOwnReceipts, AreCopied, TellAlike}
use Rattle.obj_log.specs.State.{ObjLogState}
use Rattle.obj_log.specs.Stream.{IsOfStream}
use Rattle.plain_disk.specs.State.{PlainState, stream_in, frontier_end}

-- the image that the objects up to the frontier have: that after the entries up to the frontier's end
abbrev pub settled_image : PlainState → Image
settled_image plain = after plain.opening (take (frontier_end plain - plain.end) plain.entries)

-- each receipt that a list knows tells its bytes, or none does
abbrev pub TellsAsOne : QueueState → Type 0
TellsAsOne queue = (tells : Bool) × TellAlike tells queue

-- The list shows the entries and objects of a plain volume, whatever its cache: it is of the volume's stream and has as many
-- ancestors, the same objects are on their way to the store, and the objects up to the frontier have their image, as far as
-- receipts tell the bytes. The data of each entry past the frontier's end begin at the sector of the log that is told. Each copy
-- past the frontier has the sectors of that image which are still in its sources.
pub record ShowsObjects (data_at : ℕ → ℕ) (objects : ObjLogState) (plain : PlainState) : Type 0 where
  pub geometry : objects.batch.geometry ≡ plain.geometry
  pub ancestors : objects.uploads.ancestors ≡ length plain.chain
  pub stream : IsOfStream data_at (stream_in plain) objects
  pub window : objects.uploads.window ≡ plain.window
  pub image : HasImage (settled_image plain) objects.uploads.queue
  pub receipts : HasOwnReceipts objects.uploads.queue
  pub copied : (tells : Bool) → TellAlike tells objects.uploads.queue → AreCopied tells (settled_image plain)
      objects.uploads.queue
