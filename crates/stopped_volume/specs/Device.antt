-- Contract: when the bytes of a cache device, with the objects of a store, stand for a volume: what a mount with the cache finds.
use Rattle.std.specs.Prelude.{◌≡◌, ℕ, ◌-◌, ◌≤◌, IsTrue, true, List, length, take, drop}
use Rattle.std.specs.List.{All}
use Rattle.clone_chain.specs.declared.ancestor.Ancestor.{Ancestor}
use Rattle.lsvd_base.specs.declared.entry.Entry.{Entry}
use Rattle.lsvd_base.specs.declared.geometry.Geometry.{Geometry}
use Rattle.lsvd_base.specs.Limits.{is_within_limits}
use Rattle.lsvd_base.specs.Range.{is_in_range}
use Rattle.lsvd_base.specs.Image.{Image, after}
use Rattle.lsvd_objstore.specs.Objects.{Objects}
use Rattle.commit_body.specs.declared.body.CommitBody.{CommitBody}
use Rattle.commit_slot.specs.Commits.{ReadsSettled}
use Rattle.cache_log.specs.Committed.{HasRecords}
use Rattle.object_format.specs.declared.expected.Expected.{Expected}
use Rattle.stopped_volume.specs.Ancestors.{uuid_in_chain, HasAncestors}
use Rattle.stopped_volume.specs.Objects.{ObjectsStandFor}
use Rattle.stopped_volume.specs.Super.{HasVolume}

-- ---- whose cache a device is

-- the volume with this uuid, in this epoch
pub record CacheOwner : Type 0 where
  pub uuid : List ℕ
  pub epoch : ℕ

abbrev pub owner_with : (uuid : List ℕ) → (epoch : ℕ) → CacheOwner
owner_with uuid epoch = record { uuid = uuid; epoch = epoch }

-- the owner that a commit names
abbrev pub owner_of : CommitBody → CacheOwner
owner_of body = owner_with body.uuid body.epoch

-- ---- what it stands for

-- The bytes of a device have the entries of a volume's log from a seq on: some slot is open, and the newest that is has a commit
-- of this owner whose tail is not past that seq; the other slots are as between two commits; and the log has records from that
-- tail up to the head, each of an entry in range. Those of entries before the seq are in objects.
pub record DeviceStandsFor (owner : CacheOwner) (geometry : Geometry) (left : List ℕ) (seq : ℕ) (entries : List Entry) :
    Type 0 where
  pub number : ℕ
  pub body : CommitBody
  pub is_of : owner_of body ≡ owner
  pub slots : ReadsSettled geometry.log left body number
  pub tail : body.tail.seq ≤ seq
  pub list : List Entry
  pub records : HasRecords geometry.log body list left
  pub in_range : All (λ entry. is_in_range geometry entry ≡ true) list
  pub rest : entries ≡ drop (seq - body.tail.seq) list

-- Device and store stand for an image up to the end of the object before the first missing one, and for the entries from there
-- on. The store has the volume and its ancestors, and the device is its cache in the newest epoch.
pub record StandFor (volume : Expected) (geometry : Geometry) (chain : List Ancestor) (owner : CacheOwner)
    (left : List ℕ) (objects : Objects) (image : Image) (number end : ℕ) (entries : List Entry) : Type 0 where
  pub limits : IsTrue (is_within_limits geometry)
  pub sectors : volume.sectors ≡ geometry.sectors
  pub owned : owner.uuid ≡ volume.uuid
  pub described : HasVolume volume.uuid geometry chain owner.epoch objects
  pub ancestors : HasAncestors objects chain
  pub store : ObjectsStandFor volume (uuid_in_chain volume.uuid chain) objects image number end
  pub device : DeviceStandsFor owner geometry left end entries

-- They stand for the first K entries of a history over an opening image: the objects have those up to their end, and the log has
-- the others.
pub record StandForFirst (volume : Expected) (geometry : Geometry) (chain : List Ancestor) (owner : CacheOwner)
    (left : List ℕ) (objects : Objects) (opening : Image) (history : List Entry) (number end kept : ℕ) : Type 0 where
  pub ends : end ≤ kept
  pub taken : kept ≤ length history
  pub stands : StandFor volume geometry chain owner left objects (after opening (take end history)) number end
      (drop end (take kept history))
