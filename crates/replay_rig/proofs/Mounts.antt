-- The rig of a volume that was stopped and mounted again.
use Rattle.std.proofs.Common.{◌≡◌, ℕ, ◌+◌, ◌*◌, ◌-◌, ◌%◌, ◌^◌, ◌<◌, ◌≤◌, max, Bool, true, false, List, [], ◌∷◌, length, map, refl}
use Rattle.std.proofs.Common.{sym, ◌∙◌, ap, subst, inl, inr, arith}
use Rattle.std.specs.Prelude.{Option, Some, None, is_some, IsTrue}
use Rattle.std.specs.List.{AllByRecursion, list_any}
use Rattle.std.specs.Option.{option_map}
use Rattle.std.proofs.lemmas.Bool.{cases_lt}
use Rattle.std.proofs.lemmas.List.{length-take}
use Rattle.lsvd_base.specs.declared.geometry.Geometry.{Geometry}
use Rattle.lsvd_names.specs.Names.{numbered_name}
use Rattle.lsvd_device.specs.Calls.{Fuse, Budget, fuse_of}
use Rattle.lsvd_device.specs.Device.{DiskState, HoldsNow}
use Rattle.lsvd_device.specs.Stop.{left_in_order, HasNow}
use Rattle.lsvd_device.specs.declared.fate.Fate.{Fate}
use Rattle.lsvd_objstore.specs.Objects.{Objects, found}
use Rattle.object_stream.specs.Landed.{Numbers}
use Rattle.commit_body.specs.declared.body.CommitBody.{CommitBody}
use Rattle.commit_body.proofs.BodyLemmas.{determines_body}
use Rattle.commit_slot.specs.Slots.{log_of, Reads, IsOpenSlot}
use Rattle.log_room.specs.Room.{Room}
use Rattle.cache_log.specs.declared.row.Row.{Row}
use Rattle.cache_log.specs.Log.{LogState}
use Rattle.cache_log.specs.Opening.{AreRecordsInRange}
use Rattle.cache_log.specs.Committed.{IsOnDisk}
use Rattle.stopped_volume.specs.Store.{PutState}
use Rattle.stopped_volume.specs.Store.PutState.{Acknowledged}
use Rattle.object_uploads.specs.State.{UploadsState}
use Rattle.upload_window.specs.Window.{has_number}
use Rattle.plain_disk.specs.declared.log.PlainCommit.{PlainCommit}
use Rattle.plain_disk.specs.Cache.{is_kept, kept_commit}
use Rattle.plain_disk.specs.State.{PlainState, OpensFirst, stream_in, history_length, frontier_of, frontier_end, folded_to}
use Rattle.plain_disk.specs.Checkpoints.{landed_checkpoint}
use Rattle.plain_disk.specs.Removals.{has}
use Rattle.plain_disk.specs.Found.{SealsCheckpoints, found_in}
use Rattle.plain_disk.specs.Valid.{IsPlainVolume}
use Rattle.plain_disk.specs.Stops.{recovered_number, recovered_end, kept_count, mounted_from, mounted_on, mounted_kept}
use Rattle.plain_disk.specs.Stops.{mounted_lost}
use Rattle.plain_disk.proofs.CheckpointLemmas.{newest_holds}
use Rattle.plain_disk.proofs.FoldLemmas.{MayFold, count_of_fold}
use Rattle.plain_disk.proofs.FoundLemmas.{loses_on_same_log, mounts_from_keep}
use Rattle.plain_disk.proofs.OpeningLemmas.{mounts_keep_opening}
use Rattle.plain_disk.proofs.MarkedLemmas.{mounts_seal}
use Rattle.plain_disk.proofs.StopLemmas.{kept_is_later, recovers_base, recovers_within}
use Rattle.refine_log.specs.Shows.{commit_of}
use Rattle.refine_log.proofs.PendingShown.{synced_shows_pending}
use Rattle.refine_log.specs.Stops.{HasCommit}
use Rattle.refine_mount.specs.Mounted.{end_of_object, mounted_with, mounted_without}
use Rattle.refine_mount.proofs.AsFoundLemmas.{mounts_as_found, found_has_commit}
use Rattle.refine_mount.proofs.LeftLemmas.{fates_keep_commit}
use Rattle.refine_mount.specs.Found.{HasHolds}
use Rattle.refine_store.specs.Puts.{IsObjectOf, state_of_put, AreBytesOfPut}
use Rattle.refine_store.specs.Stored.{StoreStands, HasVolumeUpTo}
use Rattle.refine_store.proofs.StandLemmas.{mounted_stands}
use Rattle.refine_log.specs.Fuses.{fuse_in}
use Rattle.vol_core.specs.Shows.{Shows}
use Rattle.vol_core.specs.Step.{passing}
use Rattle.vol_mount.specs.Mounted.{MountedState, disk_of, NumbersNextCommit}
use Rattle.vol_recover.specs.Describing.{HasWithAncestors, OfVolume}
use Rattle.vol_recover.specs.Standing.{MayMountWith, MayMountWithout}
use Rattle.vol_recover.proofs.MadeLemmas.{with_cache_shows, without_shows}
use Rattle.vol_recover.proofs.StandLemmas.{KeepsUpTo, keeps_up_to}
use Rattle.vol_recover.proofs.StopLemmas.{found_is_stored}
use Rattle.vol_mount.specs.Mounting.{IsStored, IsLeft, MountsStored, MountsLeft}
use Rattle.refusals.specs.declared.refusal.Refusal.TheVariants.{Worn}
use Rattle.vol_mount.specs.declared.error.MountError.TheVariants.{Refused}
use Rattle.vol_mount.specs.Refusals.{IsFirstGreat, IsExtent, IsOwnCommit, IsWhyNotLeft}
use Rattle.transcript.specs.Letters.{landed_by}
use Rattle.replay_rig.specs.declared.answer.Answer.{Answer}
use Rattle.replay_rig.specs.declared.answer.Answer.TheVariants.{Mounted}
use Rattle.replay_rig.specs.Steps.{IsMountTold}
use Rattle.replay_rig.specs.Crash.{IsLeftBy, MayMountStored, MayMountLeft, RemovesNumbers, IsMountedVolume}
use Rattle.replay_rig.specs.Puts.{PutView}
use Rattle.replay_rig.specs.Rig.{RigState, rig_of, script_uuid, owner_at, expected_of_plain, AreUnderWay, IsKeptObject}
use Rattle.replay_rig.specs.Rig.{HasStored, ShowsPlain, Lands}
use Rattle.replay_rig.proofs.CrashLemmas.{left_is_synced}
use Rattle.replay_rig.proofs.Crashing.{done_state, none_past, recovered_same, kept_same, lost_same}
use Rattle.replay_rig.proofs.Opening.{fuse_told}
use Rattle.replay_rig.proofs.Describing.{lands_keep_volume, lands_inherit}
use Rattle.replay_rig.proofs.Standing.{rig_stops, ends_past, landed_left, number_left, up_to, finds, counts, has_left}
use Rattle.replay_rig.proofs.Standing.{left_from}

-- ---- what may be mounted

pub stored_left : (rig : RigState) (plain : PlainState) (letters : List ℕ) (new : Objects) → ShowsPlain rig plain
    → Lands rig.puts letters rig.objects new → rig.lines < 2 ^ 40
    → IsStored script_uuid plain.geometry plain.chain (found_in (landed_left new plain) plain) (number_left new plain) (Some new)
stored_left rig plain letters new h lands few =
    found_is_stored script_uuid plain.geometry.log h.epoch plain (landed_left new plain) new h.shows.valid
    (up_to rig plain letters new h lands) h.shows.valid.limits
    (omega (arith, (counts rig plain letters new h lands).sealed, h.young.objects, few))

-- ---- the numbers of what is left

-- numbers that are low are not too great
no_great : (numbers : List ℕ) (value : ℕ) → AllByRecursion (λ n. n < 2 ^ 60) numbers → IsFirstGreat numbers value → ⊥
no_great [] value low great = great
no_great (number ∷ numbers) value low (inl here) = (let most = low.0 in let least = here.0 in omega (arith, most, least))
no_great (number ∷ numbers) value low (inr later) = no_great numbers value low.1 later.1

some_is : (held : Option (List ℕ)) → held ≡ None → IsTrue (is_some held) → ⊥
some_is None none is = cc
some_is (Some bytes) none is = cc

-- the greatest number and the end of what is left are low
record AreLowLeft (greatest end : ℕ) : Type 0 where
  of_greatest : greatest < 2 ^ 60
  of_end : end < 2 ^ 60

low_left : (rig : RigState) (plain : PlainState) (letters : List ℕ) (new : Objects) (greatest end : ℕ) → ShowsPlain rig plain
    → Lands rig.puts letters rig.objects new → rig.lines < 2 ^ 40
    → IsExtent script_uuid plain.geometry plain.chain new greatest end
    → AreLowLeft greatest end
low_left rig plain letters new greatest end h lands few extent =
    let has = has_left rig plain letters new h lands in
    let there : PlainState = found_in (landed_left new plain) plain in
    let most = h.young.objects in
    let low : greatest < 2 ^ 60 = elim (cases_lt plain.window.last greatest) [
      | inl late ↦ absurd (some_is (found new (numbered_name script_uuid greatest))
          (none_past rig plain letters new h lands greatest late) extent.present)
      | inr low ↦ omega (arith, low, most, few)
    ] in
    let ends = extent.end_is low (stream_in there) there.opening (number_left new plain) has.stored in
    let same = (counts rig plain letters new h lands).end in
    let within = recovers_within plain (landed_left new plain) h.shows.valid in
    let entries = h.young.entries in
    record { of_greatest = low; of_end = omega (arith, ends, same, within, entries, few) }

low_epoch : (rig : RigState) (plain : PlainState) → (h : ShowsPlain rig plain) → rig.lines < 2 ^ 40 → h.epoch < 2 ^ 60
low_epoch rig plain h few = (let begun = h.begun in omega (arith, begun, few))

described_left : (rig : RigState) (plain : PlainState) (letters : List ℕ) (new : Objects) → (h : ShowsPlain rig plain)
    → Lands rig.puts letters rig.objects new → HasWithAncestors script_uuid plain.geometry plain.chain h.epoch new
described_left rig plain letters new h lands = (
  lands_keep_volume rig.puts letters rig.objects new plain.geometry plain.chain h.epoch lands h.described,
  (lands_inherit rig.puts letters rig.objects new plain lands h.inherits).ancestors,
)

pub may_mount_stored : (rig : RigState) (plain : PlainState) (letters : List ℕ) (new : Objects) → ShowsPlain rig plain
    → Lands rig.puts letters rig.objects new → rig.lines < 2 ^ 40 → MayMountStored plain.geometry new
may_mount_stored rig plain letters new h lands few = record {
  plain = found_in (landed_left new plain) plain;
  number = number_left new plain;
  epoch = h.epoch;
  described = described_left rig plain letters new h lands;
  stored = stored_left rig plain letters new h lands few;
  low = λ value worn.
      let are = low_left rig plain letters new worn.0 worn.1 h lands few worn.3 in
      no_great (h.epoch ∷ worn.0 ∷ worn.1 ∷ []) value (low_epoch rig plain h few, (are.of_greatest, (are.of_end, tt))) worn.2;
}

-- the commit that bytes read as is one
reads_one : (log : ℕ) (bytes : List ℕ) (m n : ℕ) (a b : CommitBody) → Reads log bytes a m → Reads log bytes b n
    → (m ≡ n) × (a ≡ b)
reads_one log bytes m n a b first second =
    let less = second.newest first.slot a m first.is_open in
    let more = first.newest second.slot b n second.is_open in
    let same : m ≡ n = omega (arith, less, more) in
    let slot : first.slot ≡ second.slot = sym first.is_open.sector.in_slot ∙ ap (λ k. k % 3) same
    ∙ second.is_open.sector.in_slot in
    let there = subst (λ s. IsOpenSlot log bytes s a m) slot first.is_open in (
      same,
      (determines_body a b m n there.sector.numbers second.is_open.sector.numbers (sym there.sector.bytes
          ∙ second.is_open.sector.bytes)).0,
    )

-- what the fates of the pending writes leave
module _ (rig : RigState) (plain : PlainState) (fates : List Fate) (letters : List ℕ) (new : Objects) (left : DiskState)
    (h : ShowsPlain rig plain)
    (on_disk : IsOnDisk rig.volume.volume.log) (lands : Lands rig.puts letters rig.objects new)
    (is : IsLeftBy fates rig.volume.volume.log.commits.disk left) (count : length fates ≡ length plain.cache.pending) where
  abbrev pub commit_left : PlainCommit
  commit_left = kept_commit (map is_kept fates) plain.cache

  abbrev pub bytes_left : List ℕ
  bytes_left = left_in_order fates rig.volume.volume.log.commits.disk.moments

  abbrev pub end_left : ℕ
  end_left = end_of_object (number_left new plain) plain

  pub has_commit : (has : HasCommit (owner_at h.epoch) plain commit_left end_left bytes_left)
      × (has.number ≤ rig.volume.volume.log.commits.number + 1)
  has_commit =
      let valid = h.shows.valid in
      let ends = ends_past plain (number_left new plain) valid (left_from rig plain letters new h lands)
      (counts rig plain letters new h lands).sealed in
      fates_keep_commit (owner_at h.epoch) h.shows.data_at rig.volume.volume.log plain fates end_left
      (rig_stops rig plain h on_disk) h.pending count
      is.may_leave ends.0 ends.1

  -- so does what a mount finds
  found_commit : HasCommit (owner_at h.epoch) (found_in (landed_left new plain) plain) commit_left
      (end_of_object (number_left new plain) (found_in (landed_left new plain) plain)) bytes_left
  found_commit =
      let has = up_to rig plain letters new h lands in
      subst (λ end. HasCommit (owner_at h.epoch) (found_in (landed_left new plain) plain) commit_left end bytes_left)
      (sym (counts rig plain letters new h lands).end)
      (found_has_commit (owner_at h.epoch) plain (landed_left new plain) commit_left end_left bytes_left h.shows.valid has.may
      (finds rig plain letters new h lands).opened (omega arith) has_commit.0)

  pub is_left : rig.lines < 2 ^ 40
      → IsLeft (owner_at h.epoch) plain.geometry plain.chain (found_in (landed_left new plain) plain) commit_left
      (number_left new plain)
      (Some new) left
  is_left few = record {
    stored = stored_left rig plain letters new h lands few;
    log_is = refl;
    device =
        subst
        (HasNow (λ now. HasCommit (owner_at h.epoch) (found_in (landed_left new plain) plain) commit_left
        (end_of_object (number_left new plain) (found_in (landed_left new plain) plain)) now.bytes))
        (sym is.stopped.moments) found_commit;
  }

  -- the device and the store may be mounted with each other
  pub may_with : rig.lines < 2 ^ 40 → MayMountWith (owner_at h.epoch) plain commit_left (landed_left new plain) new left
  may_with few =
      let later = kept_is_later (frontier_end plain) (history_length plain) (map is_kept fates) plain.cache h.shows.valid.log in
      record {
        valid = h.shows.valid;
        commit = later.within;
        later = later.tail;
        left = is_left few;
        volume = up_to rig plain letters new h lands;
      }

  -- the device reads as that commit alone
  pub reads_left : (P : ℕ → CommitBody → Type 0) → P has_commit.0.number has_commit.0.body
      → HoldsNow (λ now. (n : ℕ) (body : CommitBody) → Reads plain.geometry.log now.bytes body n → P n body) left.moments
  reads_left P holds =
      subst (HoldsNow (λ now. (n : ℕ) (body : CommitBody) → Reads plain.geometry.log now.bytes body n → P n body))
      (sym is.stopped.moments)
      (λ n body reads.
      let has = has_commit.0 in
      let same = reads_one plain.geometry.log bytes_left has.number n has.body body has.slots.reads reads in
      subst (P n) same.1 (subst (λ m. P m has.body) same.0 holds))

  -- the number of the commit and the entries up to its head are low
  low_commit : rig.lines < 2 ^ 40 → (has_commit.0.number < 2 ^ 60) × (has_commit.0.body.head.seq < 2 ^ 60)
  low_commit few =
      let least = has_commit.1 in
      let commits = h.young.commits in
      let entries = h.young.entries in
      let later = kept_is_later (frontier_end plain) (history_length plain) (map is_kept fates) plain.cache h.shows.valid.log in
      let head = later.within.head in
      let same = ap (λ (c : PlainCommit). c.head.seq) has_commit.0.commit in
      (omega (arith, least, commits, few), omega (arith, same, head, entries, few))

  none_worn : rig.lines < 2 ^ 40 → (value : ℕ)
      → IsWhyNotLeft (owner_at h.epoch) plain.geometry plain.chain (Some new) left (Refused (Worn value)) → ⊥
  none_worn few value (inl stored) = absurd stored
  none_worn few value (inr (good, (greatest, end, extent, reads))) =
      let has = has_commit.0 in
      let P : ℕ → CommitBody → Type 0 = λ n body. IsFirstGreat (n ∷ h.epoch ∷ greatest ∷ max end body.head.seq ∷ []) value in
      let here = subst (HoldsNow (λ now. (n : ℕ) × (body : CommitBody) × Reads plain.geometry.log now.bytes body n
      × (P n body × IsOwnCommit (owner_at h.epoch) end body)
      × ((rows : List Row) × AreRecordsInRange plain.geometry body rows now.bytes)))
      is.stopped.moments reads in
      let same = reads_one plain.geometry.log bytes_left here.0 has.number here.1 has.body here.2 has.slots.reads in
      let great : P has.number has.body = subst (P has.number) same.1 (subst (λ n. P n here.1) same.0 here.3.0) in
      let low = low_commit few in
      let are = low_left rig plain letters new greatest end h lands few extent in
      let a = low.1 in
      let b = are.of_end in
      no_great (has.number ∷ h.epoch ∷ greatest ∷ max end has.body.head.seq ∷ []) value
      (low.0, (low_epoch rig plain h few, (are.of_greatest, (omega (arith, a, b), tt)))) great

  pub may_mount_left : rig.lines < 2 ^ 40 → (plain.geometry.log ≡ log_of left.size) × (4096 ≤ left.size)
      → MayMountLeft plain.geometry new left
  may_mount_left few sizes = record {
    log = sizes.0;
    size = sizes.1;
    plain = found_in (landed_left new plain) plain;
    found = commit_left;
    number = number_left new plain;
    epoch = h.epoch;
    described = described_left rig plain letters new h lands;
    left = is_left few;
    synced = left_is_synced fates rig.volume.volume.log.commits.disk left is;
    low = none_worn few;
  }

  -- so the commit that a mount makes has a small number
  pub next_number : (mounted : MountedState) → NumbersNextCommit plain.geometry.log left mounted
      → mounted.volume.volume.log.commits.number ≤ 4 * (rig.lines + 1)
  next_number mounted numbers =
      let has = has_commit.0 in
      let least = has_commit.1 in
      let commits = h.young.commits in
      let next =
      (subst (HoldsNow (λ now. (n : ℕ) (body : CommitBody) → Reads plain.geometry.log now.bytes body n
      → mounted.volume.volume.log.commits.number ≡ n + 1)) is.stopped.moments numbers) has.number has.body has.slots.reads in
      omega (arith, least, commits, next)

-- ---- what was mounted

has_budget : (budget : Option Budget) (fuse : Fuse) → fuse_of budget ≡ Some fuse → IsTrue (is_some budget)
has_budget None fuse is = cc
has_budget (Some budget) fuse is = refl

none_of : (body : Option CommitBody) → option_map commit_of body ≡ None → body ≡ None
none_of None is = refl
none_of (Some body) is = cc

-- The plain volume that a mount made of another one is at rest: no object of it is on its way, and none of its removals.
pub record IsRestingOf (plain made : PlainState) : Type 0 where
  pub entries : history_length made ≤ history_length plain
  pub last : made.window.last ≤ plain.window.last
  pub objects : made.window.objects ≡ []
  pub gone : made.given_out ≡ made.removed
  pub none_out : made.removal ≡ None
  pub opens : OpensFirst made
  pub seals : SealsCheckpoints made
  pub held : made.held ≡ plain.held
  pub told : made.cache.left ≡ None
  pub pending : made.cache.pending ≡ []
  pub finished : made.cache.log.unfinished ≡ None

-- a store that stands for such a volume has its objects that were not removed
module _ (epoch : ℕ) (made : PlainState) (uploads : UploadsState) (objects : Objects) (none : made.window.objects ≡ [])
    (gone : made.given_out ≡ made.removed) (stands : StoreStands script_uuid epoch made uploads objects) where
  no_open : (n : ℕ) → list_any (has_number n) made.window.objects ≡ false
  no_open n = ap (list_any (has_number n)) none

  kept_there : (n : ℕ) → IsKeptObject made n
      → (bytes : List ℕ) × (found objects (numbered_name script_uuid n) ≡ Some bytes)
      × IsObjectOf (expected_of_plain made) made n bytes
  kept_there n is =
      let known = stands.are.known n is.some is.acknowledged.was_entered is.kept in
      let rests : state_of_put made n ≡ Acknowledged =
      done_state made n is.acknowledged.not_open (ap (λ numbers. has numbers n) gone ∙ is.kept) in
      let there : stands.puts n ≡ Some (Acknowledged, known.0) =
      known.1 ∙ ap (λ (state : PutState). Some (state, known.0)) rests in (
        known.0,
        stands.left.held.puts_are n Acknowledged known.0 there,
        subst (λ state. AreBytesOfPut state (expected_of_plain made) made n known.0) rests known.2,
      )

  none_kept : (n : ℕ) (b : Bool) → has made.removed n ≡ b → (IsKeptObject made n → ⊥)
      → found objects (numbered_name script_uuid n) ≡ None
  none_kept n true is not_ = stands.left.held.none_else n (stands.are.removed n is)
  none_kept n false is not_ = elim (cases_lt made.window.last n) [
    | inl late ↦ stands.left.held.none_else n (stands.are.none_else n late)
    | inr low ↦ elim (cases_lt 0 n) [
      | inl some ↦
          absurd (not_ (record {
            some = some;
            acknowledged = record { was_entered = omega (arith, low); not_open = no_open n };
            kept = is;
          }))
      | inr zero_ ↦
          let first : n ≡ 0 = omega (arith, zero_) in
          ap (λ k. found objects (numbered_name script_uuid k)) first ∙ stands.left.held.none_else 0 stands.are.none_first
    ]
  ]

  pub has_stored : HasStored made objects
  has_stored = record { there = kept_there; none_else = λ n not_. none_kept n (has made.removed n) refl not_ }

-- ---- the store after a mount

module _ (rig : RigState) (plain : PlainState) (letters : List ℕ) (new after : Objects) (mounted : MountedState)
    (h : ShowsPlain rig plain) (lands : Lands rig.puts letters rig.objects new) (few : rig.lines < 2 ^ 40)
    (epoch : ℕ) (was : IsMountedVolume plain.geometry plain.chain epoch new mounted after)
    (number_is : mounted.number ≡ number_left new plain) where
  removed : RemovesNumbers (number_left new plain) new after
  removed = subst (λ n. RemovesNumbers n new after) number_is was.removed

  none_left : (n : ℕ) → number_left new plain < n → found after (numbered_name script_uuid n) ≡ None
  none_left n past = elim (cases_lt plain.window.last n) [
    | inl late ↦ removed.none n (none_past rig plain letters new h lands n late)
    | inr low ↦ removed.gone n past (omega (arith, low, h.young.objects, few))
  ]

  keeps : KeepsUpTo script_uuid (number_left new plain) new after
  keeps = record {
    same = λ n low. removed.stay n low;
    later = λ n. elim (cases_lt (number_left new plain) n) [
      | inl past ↦ inr (none_left n past)
      | inr low ↦ inl (removed.stay n (omega (arith, low)))
    ];
    holds = removed.holds;
    others = removed.others;
  }

  still_up_to : HasVolumeUpTo script_uuid epoch plain (landed_left new plain) after
  still_up_to =
      keeps_up_to script_uuid new after h.epoch epoch plain (landed_left new plain) h.shows.valid keeps
      (up_to rig plain letters new h lands) was.described

  -- so it stands for what was made
  pub mounts_stand : (found : PlainCommit)
      → StoreStands script_uuid epoch (mounted_from (landed_left new plain) found plain) mounted.volume.volume.objects.uploads
      after
      × StoreStands script_uuid epoch (mounted_on plain.geometry.log (landed_left new plain) plain)
      mounted.volume.volume.objects.uploads after
  mounts_stand found =
      mounted_stands script_uuid epoch plain (landed_left new plain) found plain.geometry.log
      mounted.volume.volume.objects.uploads after h.shows.valid still_up_to none_left

  -- ---- the whole

  pub mounted_rig : (made : PlainState) → IsRestingOf plain made → epoch ≤ rig.lines + 1
      → Shows mounted.volume.volume (passing (fuse_in mounted.volume.volume.log.commits.disk.budget) made)
      → StoreStands script_uuid epoch made mounted.volume.volume.objects.uploads after
      → mounted.volume.volume.log.commits.number ≤ 4 * (rig.lines + 1)
      → ShowsPlain (rig_of mounted.volume after [] false (rig.lines + 1)) made
  mounted_rig made rests begun shows stands next =
      let fuse : fuse_in (disk_of mounted).budget ≡ None = fuse_told (disk_of mounted).budget None was.fuse in
      let shown : Shows mounted.volume.volume made =
      subst (Shows mounted.volume.volume) (ap (λ f. passing f made) (fuse ∙ sym rests.told)) shows in
      let finished = none_of mounted.volume.volume.log.commits.unfinished (sym shown.log.unfinished ∙ rests.finished) in
      record {
        shows = shown;
        pending =
            synced_shows_pending mounted.volume.volume.log made.cache (has_budget (disk_of mounted).budget None was.fuse) was.now
            finished rests.pending;
        epoch = epoch;
        own = was.volume.own;
        described = stands.left.described;
        inherits = stands.left.inherits;
        begun = begun;
        uuid_is = was.volume.uuid_is;
        opens = rests.opens;
        seals = rests.seals;
        stopping = ap is_some (sym rests.told);
        puts = subst (λ objects. AreUnderWay objects []) (sym rests.objects) refl;
        put_objects = tt;
        bytes = tt;
        stored = has_stored epoch made mounted.volume.volume.objects.uploads after rests.objects rests.gone stands;
        unheld = rests.held ∙ h.unheld;
        holds =
            subst (λ held. HasHolds (expected_of_plain made) held after) (rests.held ∙ h.unheld) stands.left.holds;
        removes = record { none_out = rests.none_out; gone = rests.gone };
        young = record {
          entries = omega (arith, rests.entries, h.young.entries);
          objects = omega (arith, rests.last, h.young.objects);
          commits = next;
          steps = omega (arith, was.volume.steps);
        };
      }

-- ---- with the cache, and without it

-- what a mount on a device whose log has so many sectors made of the volume that a store has
abbrev pub MountedAs : (log : ℕ) → (begun : ℕ → ℕ) → Objects → MountedState → Objects → Type 0
MountedAs log begun new mounted after =
    OfVolume script_uuid log (Some new) (λ geometry chain epoch.
    IsMountedVolume geometry chain (begun epoch) new mounted after)

abbrev pub MountsLeftOf : (log : ℕ) → Objects → DiskState → MountedState → Type 0
MountsLeftOf log new left mounted =
    OfVolume script_uuid log (Some new) (λ geometry chain epoch.
    MountsLeft (owner_at epoch) geometry chain (Some new) left mounted)

abbrev pub MountsStoredOf : (log : ℕ) → Objects → MountedState → Type 0
MountsStoredOf log new mounted =
    OfVolume script_uuid log (Some new) (λ geometry chain epoch. MountsStored script_uuid geometry chain (Some new) mounted)

-- the answer tells of a mount, and the rig shows what it made
abbrev pub IsMountedRig : (rig : RigState) (letters : List ℕ) → PlainState → (made : PlainState) → MountedState → Objects → Type 0
IsMountedRig rig letters plain made mounted after =
    IsMountTold (landed_by plain letters) plain made (Mounted mounted.entries mounted.number)
    × ShowsPlain (rig_of mounted.volume after [] false (rig.lines + 1)) made

told_mount : (mounted : MountedState) (entries to other : ℕ) → mounted.entries ≡ entries → mounted.number ≡ to → to ≡ other
    → Mounted mounted.entries mounted.number ≡ Mounted entries other
told_mount mounted entries to other entries_are is same = ap (λ n. Mounted n mounted.number) entries_are
    ∙ ap (λ n. Mounted entries n) (is ∙ same)

-- a mount has as many entries as what it makes of the volume that it finds
module _ (rig : RigState) (plain : PlainState) (letters : List ℕ) (new : Objects) (h : ShowsPlain rig plain)
    (lands : Lands rig.puts letters rig.objects new) where
  abbrev landed : Numbers
  landed = landed_left new plain

  -- what is made folds to the newest checkpoint that has landed
  may_fold : (made : PlainState) → IsPlainVolume made → made.number ≡ plain.number → frontier_of made ≡ number_left new plain
      → MayFold made (landed_checkpoint landed plain).number
  may_fold made valid opened frontier = record {
    valid = valid;
    from =
        omega (arith, opened, (finds rig plain letters new h lands).opened, (newest_holds plain landed h.shows.valid).0);
    to = omega (arith, frontier, recovers_base plain landed);
  }

  same_entries : (made as_found : PlainState) → IsPlainVolume made → made.number ≡ plain.number
      → frontier_of made ≡ number_left new plain → folded_to (landed_checkpoint landed plain).number made ≡ as_found
      → history_length as_found ≡ history_length made
  same_entries made as_found valid opened frontier same =
      ap history_length (sym same)
      ∙ count_of_fold made (landed_checkpoint landed plain).number (may_fold made valid opened frontier)

  as_found_is : (found : PlainCommit)
      → (folded_to (landed_checkpoint landed plain).number (mounted_from landed found plain)
      ≡ mounted_with found (number_left new plain) (found_in landed plain))
      × (folded_to (landed_checkpoint landed plain).number (mounted_on plain.geometry.log landed plain)
      ≡ mounted_without plain.geometry.log (number_left new plain) (found_in landed plain))
  as_found_is found =
      mounts_as_found plain landed found plain.geometry.log h.shows.valid (up_to rig plain letters new h lands).may
      (finds rig plain letters new h lands).opened

  rests_kept : (found : PlainCommit) → IsRestingOf plain (mounted_from landed found plain)
  rests_kept found = record {
    entries = omega (arith, length-take (kept_count landed found plain - plain.end) plain.entries);
    last = (counts rig plain letters new h lands).sealed;
    objects = refl;
    gone = refl;
    none_out = refl;
    opens = (mounts_keep_opening plain landed found plain.geometry.log h.opens).0;
    seals = (mounts_seal plain landed found plain.geometry.log h.shows.valid h.seals).0;
    held = refl;
    told = refl;
    pending = refl;
    finished = refl;
  }

  loses : mounted_lost landed plain ≡ mounted_on plain.geometry.log landed plain
  loses = loses_on_same_log plain landed h.shows.valid.size

  rests_lost : IsRestingOf plain (mounted_lost landed plain)
  rests_lost =
      let found : PlainCommit = plain.cache.log.last in
      record {
        entries = omega (arith, length-take (recovered_end landed plain - plain.end) plain.entries);
        last = (counts rig plain letters new h lands).sealed;
        objects = refl;
        gone = refl;
        none_out = refl;
        opens = subst OpensFirst (sym loses) (mounts_keep_opening plain landed found plain.geometry.log h.opens).1;
        seals = subst SealsCheckpoints (sym loses) (mounts_seal plain landed found plain.geometry.log h.shows.valid h.seals).1;
        held = refl;
        told = refl;
        pending = refl;
        finished = refl;
      }

pub kept_rig : (rig : RigState) (plain : PlainState) (fates : List Fate) (letters : List ℕ) (new after : Objects)
    (left : DiskState)
    (mounted : MountedState)
    → ShowsPlain rig plain → IsOnDisk rig.volume.volume.log → Lands rig.puts letters rig.objects new
    → IsLeftBy fates rig.volume.volume.log.commits.disk left → length fates ≡ length plain.cache.pending → rig.lines < 2 ^ 40
    → plain.geometry.log ≡ log_of left.size → MountedAs (log_of left.size) (λ epoch. epoch) new mounted after
    → MountsLeftOf (log_of left.size) new left mounted → NumbersNextCommit (log_of left.size) left mounted
    → IsMountedRig rig letters plain (mounted_kept (landed_by plain letters) (map is_kept fates) plain) mounted after
kept_rig rig plain fates letters new after left mounted h on_disk lands is_left_by count few log was mounts numbers =
    let commit : PlainCommit = kept_commit (map is_kept fates) plain.cache in
    let number : ℕ = number_left new plain in
    let there : Numbers = landed_left new plain in
    let made : PlainState = mounted_from there commit plain in
    let described = described_left rig plain letters new h lands in
    let may = may_with rig plain fates letters new left h on_disk lands is_left_by count few in
    let volume = was plain.geometry plain.chain h.epoch log described in
    let is = mounts plain.geometry plain.chain h.epoch log described (found_in there plain) commit number may.left in
    let shows =
    with_cache_shows (owner_at h.epoch) plain commit there new left mounted may volume.volume is in
    let stands = (mounts_stand rig plain letters new after mounted h lands few h.epoch volume is.number_is commit).0 in
    let valid = (mounts_from_keep plain there h.shows.valid may.volume.may).0 commit may.commit may.later in
    let entries = is.entries
    ∙ same_entries rig plain letters new h lands made _ valid refl refl (as_found_is rig plain letters new h lands commit).0 in
    let rig_shows =
    mounted_rig rig plain letters new after mounted h lands few h.epoch volume is.number_is made
    (rests_kept rig plain letters new h lands commit) (omega (arith, h.begun)) shows stands
    (next_number rig plain fates letters new left h on_disk lands is_left_by count mounted
    (subst (λ n. NumbersNextCommit n left mounted) (sym log) numbers)) in
    subst (λ made. IsMountedRig rig letters plain made mounted after) (kept_same rig plain letters new h lands commit) (
      told_mount mounted (history_length made) number (recovered_number (landed_by plain letters) plain) entries is.number_is
          (recovered_same rig plain letters new h lands),
      rig_shows,
    )

pub lost_rig : (rig : RigState) (plain : PlainState) (letters : List ℕ) (new after : Objects) (mounted : MountedState)
    (sectors : ℕ)
    → ShowsPlain rig plain → Lands rig.puts letters rig.objects new → rig.lines < 2 ^ 40
    → plain.geometry.log ≡ sectors → MountedAs sectors (λ epoch. epoch + 1) new mounted after → MountsStoredOf sectors new mounted
    → mounted.volume.volume.log.commits.number ≡ 0
    → IsMountedRig rig letters plain (mounted_lost (landed_by plain letters) plain) mounted after
lost_rig rig plain letters new after mounted sectors h lands few log was mounts numbers =
    let number : ℕ = number_left new plain in
    let size : ℕ = plain.geometry.log in
    let there : Numbers = landed_left new plain in
    let made : PlainState = mounted_lost there plain in
    let described = described_left rig plain letters new h lands in
    let stored = stored_left rig plain letters new h lands few in
    let has = up_to rig plain letters new h lands in
    let may : MayMountWithout script_uuid size h.epoch plain there new =
    record { valid = h.shows.valid; stored = stored; volume = has } in
    let volume = was plain.geometry plain.chain h.epoch log described in
    let is = mounts plain.geometry plain.chain h.epoch log described (found_in there plain) number stored in
    let same = loses rig plain letters new h lands in
    let fuse = fuse_in mounted.volume.volume.log.commits.disk.budget in
    let shows =
    subst (λ p. Shows mounted.volume.volume (passing fuse p)) (sym same)
    (without_shows script_uuid size h.epoch plain there new mounted may volume.volume is) in
    let stands =
    subst (λ p. StoreStands script_uuid (h.epoch + 1) p mounted.volume.volume.objects.uploads after) (sym same)
    (mounts_stand rig plain letters new after mounted h lands few (h.epoch + 1) volume is.number_is plain.cache.log.last).1 in
    let valid = (mounts_from_keep plain there h.shows.valid has.may).1 size h.shows.valid.limits in
    let entries = is.entries
    ∙ same_entries rig plain letters new h lands (mounted_on size there plain) _ valid refl refl
    (as_found_is rig plain letters new h lands plain.cache.log.last).1 in
    let rig_shows =
    mounted_rig rig plain letters new after mounted h lands few (h.epoch + 1) volume is.number_is made
    (rests_lost rig plain letters new h lands) (omega (arith, h.begun)) shows stands (omega (arith, numbers)) in
    subst (λ made. IsMountedRig rig letters plain made mounted after) (lost_same rig plain letters new h lands) (
      told_mount mounted (history_length made) number (recovered_number (landed_by plain letters) plain)
          (entries ∙ ap history_length (sym same)) is.number_is (recovered_same rig plain letters new h lands),
      rig_shows,
    )

-- ---- a rig that was stopped

-- Of a rig that was stopped, and whose objects with some letters landed, these are left: a store, and a device where the pending
-- writes met some fates.
pub record WasStopped (rig : RigState) (fates : List Fate) (letters : List ℕ) (new : Objects) (left : DiskState) : Type 0 where
  pub on_disk : IsOnDisk rig.volume.volume.log
  pub few : rig.lines < 2 ^ 40
  pub count : (plain : PlainState) → ShowsPlain rig plain → length fates ≡ length plain.cache.pending
  pub left_by : IsLeftBy fates rig.volume.volume.log.commits.disk left
  pub lands : Lands rig.puts letters rig.objects new

-- the same without its device
pub record WasLost (rig : RigState) (letters : List ℕ) (new : Objects) : Type 0 where
  pub few : rig.lines < 2 ^ 40
  pub lands : Lands rig.puts letters rig.objects new

pub was_stopped : (rig self : RigState) (fates : List Fate) (letters : List ℕ) (puts : List PutView) (new : Objects)
    (disk left : DiskState)
    → rig ≡ self → IsOnDisk rig.volume.volume.log → self.lines < 2 ^ 40
    → ((plain : PlainState) → ShowsPlain self plain → length fates ≡ length plain.cache.pending)
    → disk ≡ rig.volume.volume.log.commits.disk
    → IsLeftBy fates disk left → puts ≡ rig.puts → Lands puts letters rig.objects new → WasStopped rig fates letters new left
was_stopped rig self fates letters puts new disk left same on_disk few count is left_by are lands = record {
  on_disk = on_disk;
  few = subst (λ (r : RigState). r.lines < 2 ^ 40) (sym same) few;
  count = λ plain h. count plain (subst (λ r. ShowsPlain r plain) same h);
  left_by = subst (λ d. IsLeftBy fates d left) is left_by;
  lands = subst (λ ps. Lands ps letters rig.objects new) are lands;
}

pub was_lost : (rig self : RigState) (letters : List ℕ) (puts : List PutView) (new : Objects)
    → rig ≡ self → self.lines < 2 ^ 40
    → puts ≡ rig.puts → Lands puts letters rig.objects new → WasLost rig letters new
was_lost rig self letters puts new same few are lands = record {
  few = subst (λ (r : RigState). r.lines < 2 ^ 40) (sym same) few;
  lands = subst (λ ps. Lands ps letters rig.objects new) are lands;
}

-- ---- what a mount needs

same_geometry : (rig : RigState) (plain : PlainState) → ShowsPlain rig plain
    → plain.geometry ≡ rig.volume.volume.objects.batch.geometry
same_geometry rig plain h = sym h.shows.objects.geometry

-- the log has the sectors of the device past its slots
pub has_log : (rig : RigState) (plain : PlainState) (fates : List Fate) (left : DiskState) → ShowsPlain rig plain
    → IsOnDisk rig.volume.volume.log → IsLeftBy fates rig.volume.volume.log.commits.disk left
    → (plain.geometry.log ≡ log_of left.size) × (4096 ≤ left.size)
has_log rig plain fates left h on_disk left_by =
    let log : LogState = rig.volume.volume.log in
    let room : plain.cache.log.size ≡ log.room.log = ap (λ (r : Room). r.log) h.shows.log.room in (
      sym h.shows.valid.size ∙ room ∙ on_disk.sectors ∙ ap log_of (sym left_by.size),
      subst (λ n. 4096 ≤ n) (sym left_by.size) on_disk.commits.size,
    )

pub may_mount_again : (rig : RigState) (plain : PlainState) (fates : List Fate) (letters : List ℕ) (new : Objects)
    (left : DiskState)
    → ShowsPlain rig plain → WasStopped rig fates letters new left → MayMountLeft plain.geometry new left
may_mount_again rig plain fates letters new left h was =
    may_mount_left rig plain fates letters new left h was.on_disk was.lands was.left_by (was.count plain h) was.few
    (has_log rig plain fates left h was.on_disk was.left_by)

pub may_mount_anew : (rig : RigState) (plain : PlainState) (letters : List ℕ) (new : Objects)
    → ShowsPlain rig plain → WasLost rig letters new → MayMountStored plain.geometry new
may_mount_anew rig plain letters new h was = may_mount_stored rig plain letters new h was.lands was.few

-- the log of a new device is that of the volume
pub log_anew : (rig : RigState) (plain : PlainState) (geometry : Geometry) (sectors : ℕ) → ShowsPlain rig plain
    → geometry ≡ rig.volume.volume.objects.batch.geometry → geometry.log ≡ sectors → plain.geometry.log ≡ sectors
log_anew rig plain geometry sectors h is log = ap (λ (g : Geometry). g.log) (same_geometry rig plain h ∙ sym is) ∙ log

-- ---- what it makes

pub rig_again : (rig : RigState) (plain : PlainState) (fates : List Fate) (letters : List ℕ) (new after : Objects)
    (left : DiskState) (mounted : MountedState)
    → ShowsPlain rig plain → WasStopped rig fates letters new left
    → MountedAs (log_of left.size) (λ epoch. epoch) new mounted after
    → MountsLeftOf (log_of left.size) new left mounted → NumbersNextCommit (log_of left.size) left mounted
    → IsMountedRig rig letters plain (mounted_kept (landed_by plain letters) (map is_kept fates) plain) mounted after
rig_again rig plain fates letters new after left mounted h was volume mounts numbers =
    kept_rig rig plain fates letters new after left mounted h was.on_disk was.lands was.left_by (was.count plain h) was.few
    (has_log rig plain fates left h was.on_disk was.left_by).0 volume mounts numbers

pub rig_anew : (rig : RigState) (plain : PlainState) (letters : List ℕ) (new after : Objects) (mounted : MountedState)
    (sectors : ℕ)
    → ShowsPlain rig plain → WasLost rig letters new → plain.geometry.log ≡ sectors
    → MountedAs sectors (λ epoch. epoch + 1) new mounted after
    → MountsStoredOf sectors new mounted → mounted.volume.volume.log.commits.number ≡ 0
    → IsMountedRig rig letters plain (mounted_lost (landed_by plain letters) plain) mounted after
rig_anew rig plain letters new after mounted sectors h was log volume mounts numbers =
    lost_rig rig plain letters new after mounted sectors h was.lands was.few log volume mounts numbers

-- no plan of a copy is out then
pub no_plan_again : (rig : RigState) (plain : PlainState) (fates : List Fate) (letters : List ℕ) (new after : Objects)
    (left : DiskState) (mounted : MountedState)
    → ShowsPlain rig plain → WasStopped rig fates letters new left
    → MountedAs (log_of left.size) (λ epoch. epoch) new mounted after → mounted.volume.volume.plan ≡ None
no_plan_again rig plain fates letters new after left mounted h was volume =
    (volume plain.geometry plain.chain h.epoch (has_log rig plain fates left h was.on_disk was.left_by).0
    (described_left rig plain letters new h was.lands)).volume.no_plan

pub no_plan_anew : (rig : RigState) (plain : PlainState) (letters : List ℕ) (new after : Objects) (mounted : MountedState)
    (sectors : ℕ)
    → ShowsPlain rig plain → WasLost rig letters new → plain.geometry.log ≡ sectors
    → MountedAs sectors (λ epoch. epoch + 1) new mounted after → mounted.volume.volume.plan ≡ None
no_plan_anew rig plain letters new after mounted sectors h was log volume =
    (volume plain.geometry plain.chain h.epoch log (described_left rig plain letters new h was.lands)).volume.no_plan

pub told_by : (rig : RigState) (letters : List ℕ) (plain made : PlainState) (mounted : MountedState) (after : Objects)
    (answer : Answer)
    (bench : RigState)
    → bench ≡ rig_of mounted.volume after [] false (rig.lines + 1) → answer ≡ Mounted mounted.entries mounted.number
    → IsMountedRig rig letters plain made mounted after → IsMountTold (landed_by plain letters) plain made answer
    × ShowsPlain bench made
told_by rig letters plain made mounted after answer bench is says made_is =
    (says ∙ made_is.0, subst (λ r. ShowsPlain r made) (sym is) made_is.1)
