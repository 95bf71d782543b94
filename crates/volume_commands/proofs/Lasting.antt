-- What `create`, `serve` and `collect` leave of a volume is whole.
use Rattle.std.proofs.Common.{◌≡◌, ℕ, ◌+◌, true, false, List, [], length, append-nil, refl, sym, ◌∙◌, ap, subst, arith}
use Rattle.std.specs.Prelude.{Option, Some, IfSome, IsSomeAnd, Ok}
use Rattle.clone_chain.specs.declared.ancestor.Ancestor.{Ancestor}
use Rattle.lsvd_base.specs.declared.entry.Entry.{Entry}
use Rattle.lsvd_base.specs.declared.geometry.Geometry.{Geometry}
use Rattle.lsvd_device.specs.Device.{DiskState}
use Rattle.lsvd_names.specs.Spelling.{IsUuid}
use Rattle.lsvd_objstore.specs.Objects.{Objects}
use Rattle.lsvd_objstore.specs.Store.{StoreState, ReceiptState, Becomes}
use Rattle.commit_slot.specs.Slots.{log_of}
use Rattle.command_line.specs.Create.{sizes_of}
use Rattle.command_line.specs.declared.mount.MountRequest.{MountRequest}
use Rattle.command_line.specs.declared.serve.ServeRequest.{ServeRequest}
use Rattle.stopped_volume.specs.Device.{owner_with}
use Rattle.stopped_volume.specs.Store.{TellsBytes}
use Rattle.stopped_volume.specs.Super.{HasVolume}
use Rattle.object_stream.specs.Landed.{Numbers}
use Rattle.plain_disk.specs.declared.log.PlainCommit.{PlainCommit}
use Rattle.plain_disk.specs.State.{PlainState, created_volume, history_length}
use Rattle.plain_disk.specs.Stops.{mounted_from, mounted_on}
use Rattle.plain_disk.specs.Valid.{StopKeepsAcknowledged}
use Rattle.object_recovery.specs.Recovery.{RemovesAllPast}
use Rattle.refine_log.specs.Fuses.{fuse_in}
use Rattle.refine_mount.specs.Mounted.{sizes_with}
use Rattle.refine_store.specs.Laws.{LeftHasVolume}
use Rattle.vol_core.specs.Step.{passing}
use Rattle.vol_core.specs.Stops.{HasOwnCommits}
use Rattle.vol_core.specs.Volume.{SteppedVolume}
use Rattle.vol_mount.specs.Epochs.{BeginsEpoch}
use Rattle.vol_mount.specs.Mounted.{MountedState}
use Rattle.vol_mount.specs.Mounting.{MountsStored, MountsLeft}
use Rattle.vol_recover.specs.Creating.{CreatedWithStore}
use Rattle.vol_recover.specs.Describing.{HasWithAncestors}
use Rattle.vol_recover.specs.Mounting.{MountsKept, MountsLost}
use Rattle.vol_recover.specs.Standing.{StandsWithStore, IsMadeWithStore, CreatedStands, MountedWithStands}
use Rattle.vol_recover.specs.Standing.{MountedWithoutStands, MayMountWith, MayMountWithout, StopLeavesStore, StopLeavesBoth}
use Rattle.vol_recover.proofs.ForCallers.{made_kept, made_lost}
use Rattle.volume_owner.specs.Acts.{Moment, moment_of, IsMadeOfActs}
use Rattle.volume_owner.specs.Calls.{IsCall, IsDrained, IsLengthOf, KeepsOtherNames}
use Rattle.volume_owner.specs.Collecting.{most_of_collection}
use Rattle.volume_owner.specs.History.{GoesOn}
use Rattle.volume_owner.specs.Owner.{most_of_call}
use Rattle.volume_owner.specs.Standing.{StandAt, HasStore, KeepsStore, ActsKeepStore}
use Rattle.volume_owner.proofs.PlainLemmas.{goes_on_nothing}
use Rattle.volume_owner.proofs.StepLemmas.{goes_on_more}
use Rattle.volume_server.specs.History.{Grows}
use Rattle.volume_server.specs.Serving.{ListenerState, ConnectionState, ClientsGrow}
use Rattle.volume_server.proofs.HistoryLemmas.{grows_nothing}
use Rattle.volume_commands.specs.Closing.{IsLetGo}
use Rattle.volume_commands.specs.Lasting.{IsLeftWhole, LeavesWhole, ServesWhole, CreatedIsWhole, ServedWithIsWhole}
use Rattle.volume_commands.specs.Lasting.{ServedWithoutIsWhole, CollectedWithIsWhole, CollectedWithoutIsWhole}
use Rattle.volume_commands.specs.Collecting.{CollectsOn}
use Rattle.volume_commands.specs.Mounting.{MountEnds}
use Rattle.volume_commands.specs.Serving.{ServesOn}
use Rattle.volume_commands.proofs.Whole.{drained_in_objects, is_left_whole}

-- what a store has become that told its objects
told_after : (C : Objects → Objects → Type 0) (old new : Option Objects) (objects : Objects) → old ≡ Some objects
    → Becomes C old new → (left : Objects) × (new ≡ Some left) × C objects left
told_after C old new objects told becomes = subst (λ (o : Option Objects). Becomes C o new) told becomes

-- it does not matter which calls the device passes
goes_on_from : (added : List Entry) (disk : DiskState) (made after : PlainState)
    → GoesOn added (passing (fuse_in disk.budget) made) after → GoesOn added made after
goes_on_from added disk made after is = record {
  opens = is.opens;
  objects = is.objects;
  frontier = is.frontier;
  committed = is.committed;
  checkpoint = is.checkpoint;
  given_out = is.given_out;
  removed = is.removed;
}

-- a history to which nothing is added stays as long
same_length : (plain after : PlainState) → GoesOn [] plain after → history_length plain ≡ history_length after
same_length plain after is =
    ap (λ es. plain.end + length es) (sym (append-nil plain.entries)) ∙ sym (ap (λ (p : PlainState). history_length p) is.opens)

-- ---- the laws of the crates below

-- that a volume which is made stands with its store, and what a stop leaves of the two
pub record StandingLaws : Type 0 where
  pub created : CreatedStands
  pub with_cache : MountedWithStands
  pub without : MountedWithoutStands
  pub store : StopLeavesStore
  pub both : StopLeavesBoth

-- that a mount finds what was acknowledged, and that acts of an owner keep the store standing
pub record KeepingLaws {R : Type 0} (state : R → ReceiptState) : Type 0 where
  pub kept : StopKeepsAcknowledged
  pub left : LeftHasVolume
  pub acts : ActsKeepStore state

-- ---- a call that drains

made_keeps : {R : Type 0} (state : R → ReceiptState) → ActsKeepStore state → TellsBytes state → (added : List Entry)
    (old new : Moment)
    → IsMadeOfActs state added old new → KeepsStore added old new
made_keeps state acts_keep tells added old new made =
    subst (λ es. KeepsStore es old new) made.entered (acts_keep tells made.acts old new made.done)

-- a volume that was mounted stands with its store, which tells its objects, and its commits are its own
pub record StandsMounted (uuid : List ℕ) (epoch : ℕ) (made : PlainState) (mounted : MountedState) (store : StoreState) :
    Type 0 where
  pub objects : Objects
  pub told : store.objects ≡ Some objects
  pub uuid_is : mounted.volume.volume.objects.uploads.uuid ≡ uuid
  pub own : HasOwnCommits (owner_with uuid epoch) mounted.volume.volume
  pub with_store : IsMadeWithStore uuid epoch made mounted.volume.volume objects

-- entries were added to such a volume, a call of its owner added none and drained it, and it was let go
module _ {R : Type 0} (state : R → ReceiptState) (tells : TellsBytes state) (uuid : List ℕ) (epoch : ℕ) (made : PlainState)
    (mounted : MountedState) (mid : StoreState) (stands : StandsMounted uuid epoch made mounted mid) (added : List Entry)
    (last : Moment) (grows : Grows state added (moment_of mounted.volume mid) last) (closing : SteppedVolume)
    (store_left : StoreState) (disk_left : DiskState) (most : ℕ)
    (call : IsCall state most [] false last.volume closing last.store store_left) (drained : IsDrained closing.volume)
    (let_go : IsLetGo closing) (disk_is : disk_left ≡ closing.volume.log.commits.disk) (standing : StandingLaws)
    (keeping : KeepingLaws state) where
  abbrev first : Moment
  first = moment_of mounted.volume mid

  abbrev shown : PlainState
  shown = passing (fuse_in mounted.volume.volume.log.commits.disk.budget) made

  has_store : HasStore epoch first shown
  has_store =
      let its_store : StandsWithStore first.volume.volume.objects.uploads.uuid epoch shown first.volume.volume stands.objects =
      subst (λ (u : List ℕ). StandsWithStore u epoch shown first.volume.volume stands.objects) (sym stands.uuid_is)
      stands.with_store in
      subst (λ (o : Option Objects). IfSome o (StandAt epoch first shown)) (sym stands.told) its_store.stands

  same_uuid : closing.volume.objects.uploads.uuid ≡ uuid
  same_uuid = call.steps.sizes.uuid ∙ grows.sizes.uuid ∙ stands.uuid_is

  own_now : HasOwnCommits (owner_with closing.volume.objects.uploads.uuid epoch) closing.volume
  own_now =
      subst (λ (u : List ℕ). HasOwnCommits (owner_with u epoch) closing.volume) (sym same_uuid)
      (call.steps.own (owner_with uuid epoch) (grows.own (owner_with uuid epoch) stands.own))

  pub leaves_whole : (whole : LeavesWhole (owner_with uuid epoch) added made store_left.objects disk_left)
      × ((count : ℕ) → IsLengthOf count last.volume.volume → count ≡ history_length whole.after)
  leaves_whole =
      let (middle, middle_shows, middle_goes, middle_stands) = grows.stands tells shown stands.with_store.shows in
      let (after, shows, goes, stands_after) =
      made_keeps state keeping.acts tells [] last (moment_of closing store_left) call.acts middle middle_shows in
      let goes_on : GoesOn added shown after =
      subst (λ es. GoesOn es shown after) (append-nil added) (goes_on_more added [] shown middle after middle_goes goes) in
      let then =
      told_after (KeepsOtherNames first.volume.volume.objects.uploads.uuid) mid.objects last.store.objects stands.objects
      stands.told grows.store in
      let left =
      told_after (KeepsOtherNames last.volume.volume.objects.uploads.uuid) last.store.objects store_left.objects then.0 then.1
      call.store in
      let stands_left : StandAt epoch (moment_of closing store_left) after left.0 =
      subst (λ (o : Option Objects). IfSome o (StandAt epoch (moment_of closing store_left) after)) left.1
      (stands_after epoch (middle_stands epoch has_store)) in
      let its_uuid : List ℕ = closing.volume.objects.uploads.uuid in
      let stands_now : StandsWithStore its_uuid epoch after closing.volume left.0 =
      record { shows = shows; stands = stands_left } in
      let in_objects =
      drained_in_objects keeping.kept keeping.left its_uuid epoch after closing.volume left.0 stands_now drained in
      let whole =
      is_left_whole standing.store standing.both closing epoch after left.0 let_go own_now stands_now in_objects in (
        record {
          after = after;
          goes_on = goes_on_from added mounted.volume.volume.log.commits.disk made after goes_on;
          left = left.0;
          told = left.1;
          whole =
              subst (λ (d : DiskState). IsLeftWhole (owner_with uuid epoch) after left.0 d) (sym disk_is)
              (subst (λ (u : List ℕ). IsLeftWhole (owner_with u epoch) after left.0 closing.volume.log.commits.disk) same_uuid
              whole);
        },
        λ count is_length. is_length middle middle_shows ∙ same_length middle after goes,
      )

-- ---- a run of `create`

pub created_is_whole : StandingLaws → CreatedIsWhole
created_is_whole standing request uuid disk disk_left before after new_to creates =
    let sizes = sizes_of request in
    let (left, told, puts) = creates.created.puts in
    let with_store =
    standing.created uuid sizes disk before left creates.volume
    (subst (λ (o : Option Objects). CreatedWithStore uuid sizes disk (Some before) o creates.volume) told creates.created)
    new_to in
    let created = creates.created.volume.is in
    let volume = creates.volume.volume in
    let made : PlainState = created_volume sizes in
    let shown : PlainState = passing (fuse_in volume.log.commits.disk.budget) made in
    let its_store : StandsWithStore volume.objects.uploads.uuid 0 shown volume left =
    subst (λ u. StandsWithStore u 0 shown volume left) (sym created.uuid_is) with_store in
    let its_own : HasOwnCommits (owner_with volume.objects.uploads.uuid 0) volume =
    subst (λ (u : List ℕ). HasOwnCommits (owner_with u 0) volume) (sym created.uuid_is) created.own in
    let whole =
    is_left_whole standing.store standing.both creates.volume 0 shown left creates.let_go its_own its_store (omega arith) in
    record {
      after = shown;
      goes_on = goes_on_from [] volume.log.commits.disk made shown (goes_on_nothing shown);
      left = left;
      told = told;
      whole =
          subst (λ (d : DiskState). IsLeftWhole (owner_with uuid 0) shown left d) (sym creates.disk_is)
          (subst (λ (u : List ℕ). IsLeftWhole (owner_with u 0) shown left volume.log.commits.disk) created.uuid_is whole);
    }

-- ---- mounts

-- where disk and store may be mounted with each other, or the store alone, what is mounted stands with the store that is left
module _ {D R : Type 0} (disk_state : D → DiskState) (receipt_state : R → ReceiptState) (standing : StandingLaws)
    (tells : TellsBytes receipt_state) (request : MountRequest) (is_uuid : IsUuid request.volume) (disk : DiskState)
    (store mid : StoreState) (mounted : MountedState)
    (ends : MountEnds disk_state receipt_state request.is_lost request.volume disk store mid (Ok mounted)) (epoch : ℕ)
    (plain : PlainState) (landed : Numbers) (objects : Objects) (told : store.objects ≡ Some objects) where
  stands_with : (found : PlainCommit) → request.is_lost ≡ false → plain.geometry.log ≡ log_of disk.size
      → MayMountWith (owner_with request.volume epoch) plain found landed objects disk
      → StandsMounted request.volume epoch (mounted_from landed found plain) mounted mid
  stands_with found kept log_is may =
      let uuid : List ℕ = request.volume in
      let ends_kept : MountsKept disk_state (TellsBytes receipt_state) uuid disk store mid (Ok mounted) =
      subst (λ b. MountEnds disk_state receipt_state b uuid disk store mid (Ok mounted)) kept ends in
      let mount = made_kept disk_state (TellsBytes receipt_state) uuid disk store mid mounted ends_kept in
      let chain : List Ancestor = plain.chain in
      let has : IsSomeAnd store.objects (HasWithAncestors uuid plain.geometry chain epoch) =
      subst (λ (o : Option Objects). IsSomeAnd o (HasWithAncestors uuid plain.geometry chain epoch)) (sym told)
      (may.volume.described, may.volume.inherits.ancestors) in
      let volume = mount.volume tells plain.geometry chain epoch log_is has in
      let mounts : MountsLeft (owner_with uuid epoch) plain.geometry chain (Some objects) disk mounted =
      subst (λ (o : Option Objects). MountsLeft (owner_with uuid epoch) plain.geometry chain o disk mounted) told
      (mount.mounts tells plain.geometry chain epoch log_is has) in
      let (left, left_told, removed) =
      told_after (RemovesAllPast uuid mounted.number) store.objects mid.objects objects told mount.removed in
      record {
        objects = left;
        told = left_told;
        uuid_is = volume.uuid_is;
        own = volume.own;
        with_store =
            standing.with_cache (owner_with uuid epoch) plain found landed objects left disk mounted is_uuid may mounts volume
            removed;
      }

  stands_without : request.is_lost ≡ true → MayMountWithout request.volume (log_of disk.size) epoch plain landed objects
      → StandsMounted request.volume (epoch + 1) (mounted_on (log_of disk.size) landed plain) mounted mid
  stands_without lost may =
      let uuid : List ℕ = request.volume in
      let log : ℕ = log_of disk.size in
      let sizes : Geometry = sizes_with log plain.geometry in
      let ends_lost : MountsLost disk_state (TellsBytes receipt_state) uuid disk store mid (Ok mounted) =
      subst (λ b. MountEnds disk_state receipt_state b uuid disk store mid (Ok mounted)) lost ends in
      let mount = made_lost disk_state (TellsBytes receipt_state) uuid disk store mid mounted ends_lost in
      let described = may.volume.described in
      let chain : List Ancestor = plain.chain in
      let resized : HasVolume uuid sizes chain epoch objects =
      record {
        volume = described.volume;
        says = described.says;
        sizes = ap (λ (g : Geometry). sizes_with log g) described.sizes;
        chain_is = described.chain_is;
        epochs = described.epochs;
        whole = described.whole;
        holds = described.holds;
      } in
      let has : IsSomeAnd store.objects (HasWithAncestors uuid sizes chain epoch) =
      subst (λ (o : Option Objects). IsSomeAnd o (HasWithAncestors uuid sizes chain epoch)) (sym told)
      (resized, may.volume.inherits.ancestors) in
      let volume = mount.volume tells sizes chain epoch refl has in
      let mounts : MountsStored uuid sizes chain (Some objects) mounted =
      subst (λ (o : Option Objects). MountsStored uuid sizes chain o mounted) told
      (mount.mounts tells sizes chain epoch refl has) in
      let (left, left_told, begins) =
      told_after (BeginsEpoch uuid mounted.number (epoch + 1)) store.objects mid.objects objects told
      (mount.begun tells sizes chain epoch refl has) in
      record {
        objects = left;
        told = left_told;
        uuid_is = volume.uuid_is;
        own = volume.own;
        with_store =
            standing.without uuid log epoch plain landed objects left mounted is_uuid may mounts volume begins;
      }

-- ---- a run of `serve`

module _ {D R L K : Type 0} (disk_state : D → DiskState) (receipt_state : R → ReceiptState) (listener_state : L → ListenerState)
    (coming : L → Option (List K)) (link_state : K → ConnectionState) (grow : ClientsGrow receipt_state link_state)
    (standing : StandingLaws) (keeping : KeepingLaws receipt_state) where
  module _ (request : ServeRequest) (links : Option (List K)) (disk disk_left : DiskState) (store store_left : StoreState)
      (old new : Option (List ℕ))
      (serves : ServesOn disk_state receipt_state listener_state coming link_state request links disk disk_left store store_left
      old new) where
    -- what clients and a drain make of the volume that was mounted
    served_is_whole : TellsBytes receipt_state → (epoch : ℕ) (made : PlainState)
        → StandsMounted request.mount.volume epoch made serves.mounted serves.mid → ServesWhole request serves epoch made
    served_is_whole tells epoch made stands =
        let by = serves.does in
        let first : Moment = moment_of serves.mounted.volume serves.mid in
        let grown = grow by.lane.served links (coming by.after) first by.last by.served in
        let added : List Entry = grown.0.0 in
        let whole =
        leaves_whole receipt_state tells request.mount.volume epoch made serves.mounted serves.mid stands added by.last
        grown.0.1 serves.closing store_left disk_left most_of_call by.drains.calls by.drains.drained serves.let_go
        serves.disk_is standing keeping in
        record {
          added = added;
          grows = grown.0.1;
          leaves = whole.0;
          count = whole.1 by.entries by.drains.count;
        }

  pub served_with_is_whole : ServedWithIsWhole disk_state receipt_state listener_state coming link_state
  served_with_is_whole request links disk disk_left store store_left old new epoch plain found landed objects tells is_uuid kept
      told log_is may serves =
      served_is_whole request links disk disk_left store store_left old new serves tells epoch _
      (stands_with disk_state receipt_state standing tells request.mount is_uuid disk store serves.mid serves.mounted
      serves.mounts epoch plain landed objects told found kept log_is may)

  pub served_without_is_whole : ServedWithoutIsWhole disk_state receipt_state listener_state coming link_state
  served_without_is_whole request links disk disk_left store store_left old new epoch plain landed objects tells is_uuid lost told
      may serves =
      served_is_whole request links disk disk_left store store_left old new serves tells (epoch + 1) _
      (stands_without disk_state receipt_state standing tells request.mount is_uuid disk store serves.mid serves.mounted
      serves.mounts epoch plain landed objects told lost may)

-- ---- a run of `collect`

module _ {D R : Type 0} (disk_state : D → DiskState) (receipt_state : R → ReceiptState) (standing : StandingLaws)
    (keeping : KeepingLaws receipt_state) where
  module _ (request : MountRequest) (disk disk_left : DiskState) (store store_left : StoreState) (old new : Option (List ℕ))
      (collects : CollectsOn disk_state receipt_state request disk disk_left store store_left old new) where
    -- what a whole collection makes of the volume that was mounted
    collected_is_whole : TellsBytes receipt_state → (epoch : ℕ) (made : PlainState)
        → StandsMounted request.volume epoch made collects.mounted collects.mid
        → LeavesWhole (owner_with request.volume epoch) [] made store_left.objects disk_left
    collected_is_whole tells epoch made stands =
        let all = collects.does.collects in
        let first : Moment = moment_of collects.mounted.volume collects.mid in
        let whole =
        leaves_whole receipt_state tells request.volume epoch made collects.mounted collects.mid stands [] first
        (grows_nothing receipt_state first) collects.closing store_left disk_left most_of_collection all.call all.drained
        collects.let_go collects.disk_is standing keeping in
        whole.0

  pub collected_with_is_whole : CollectedWithIsWhole disk_state receipt_state
  collected_with_is_whole request disk disk_left store store_left old new epoch plain found landed objects tells is_uuid kept told
      log_is may collects =
      collected_is_whole request disk disk_left store store_left old new collects tells epoch _
      (stands_with disk_state receipt_state standing tells request is_uuid disk store collects.mid collects.mounted
      collects.mounts epoch plain landed objects told found kept log_is may)

  pub collected_without_is_whole : CollectedWithoutIsWhole disk_state receipt_state
  collected_without_is_whole request disk disk_left store store_left old new epoch plain landed objects tells is_uuid lost told
      may collects =
      collected_is_whole request disk disk_left store store_left old new collects tells (epoch + 1) _
      (stands_without disk_state receipt_state standing tells request is_uuid disk store collects.mid collects.mounted
      collects.mounts epoch plain landed objects told lost may)
