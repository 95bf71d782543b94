-- What a device on which a plain volume was left is to a log that was opened on it.
use Rattle.std.proofs.Common.{◌≡◌, ℕ, ◌-◌, ◌≤◌, ◌%◌, List, [], ◌∷◌, length, drop, map, refl, sym, ◌∙◌, ap, subst, inl, inr}
use Rattle.std.proofs.Common.{arith}
use Rattle.std.specs.Prelude.{Option, Some, IsTrue}
use Rattle.std.specs.Option.{option_map}
use Rattle.std.specs.List.{AllByRecursion}
use Rattle.std.proofs.lemmas.List.{ext_get_or}
use Rattle.std.proofs.lemmas.List.Elements.{All-nil}
use Rattle.clone_chain.specs.declared.ancestor.Ancestor.{Ancestor}
use Rattle.lsvd_base.specs.declared.entry.Entry.{Entry}
use Rattle.lsvd_base.specs.declared.geometry.Geometry.{Geometry}
use Rattle.lsvd_base.specs.Limits.{is_within_limits}
use Rattle.lsvd_device.specs.Medium.{Medium, MayLeave, LiesOutside, after_sync}
use Rattle.lsvd_device.specs.Device.{DiskState, IsDisk, HasSize, HoldsNow, HoldsSince}
use Rattle.lsvd_device.specs.Stop.{HasNow}
use Rattle.lsvd_objstore.specs.Objects.{Objects}
use Rattle.commit_body.specs.declared.body.CommitBody.{CommitBody}
use Rattle.commit_body.proofs.BodyLemmas.{determines_body}
use Rattle.commit_slot.specs.Slots.{log_of, Reads, IsOpenSlot}
use Rattle.commit_slot.specs.Commits.{CommitsState, ReadsSettled}
use Rattle.commit_slot.specs.Loading.{LeavesSettled, AreButSynced}
use Rattle.cache_log.specs.Rows.{log_start, byte_of, entry_of}
use Rattle.cache_log.specs.Log.{LogState, entries_in}
use Rattle.cache_log.specs.Opening.{AreRecordsInRange}
use Rattle.cache_log.specs.Laws.{MayBeRead}
use Rattle.cache_log.proofs.ForCallers.{have_one_list}
use Rattle.stopped_volume.specs.Device.{CacheOwner, owner_with}
use Rattle.plain_disk.specs.declared.log.PlainCommit.{PlainCommit}
use Rattle.plain_disk.specs.State.{PlainState}
use Rattle.refine_log.specs.Stops.{entries_past, HasCommit}
use Rattle.refine_mount.specs.Mounted.{end_of_object, sizes_with}
use Rattle.refine_mount.specs.Stops.{StopKeepsMount}
use Rattle.vol_mount.specs.Mounting.{IsLeft}
use Rattle.vol_mount.specs.Steps.{IsOpenedOf}

-- ---- the newest moment

-- the commit that bytes read as is one
pub reads_one : (log : ℕ) (bytes : List ℕ) (m n : ℕ) (a b : CommitBody) → Reads log bytes a m → Reads log bytes b n
    → (m ≡ n) × (a ≡ b)
reads_one log bytes m n a b first second =
    let less = second.newest first.slot a m first.is_open in
    let more = first.newest second.slot b n second.is_open in
    let same : m ≡ n = omega (arith, less, more) in
    let slot : first.slot ≡ second.slot = sym first.is_open.sector.in_slot ∙ ap (λ k. k % 3) same
    ∙ second.is_open.sector.in_slot in
    let P : ℕ → Type 0 = λ s. IsOpenSlot log bytes s a m in
    let there = subst P slot first.is_open in (
      same,
      (determines_body a b m n there.sector.numbers second.is_open.sector.numbers (sym there.sector.bytes
          ∙ second.is_open.sector.bytes)).0,
    )

-- there is a newest moment, which has P
pub record HasNewest (P : Medium → Type 0) (moments : List Medium) : Type 0 where
  pub now : Medium
  pub past : List Medium
  pub moments_are : moments ≡ now ∷ past
  pub holds : P now

pub newest_of : (P : Medium → Type 0) (moments : List Medium) → HasNow P moments → HasNewest P moments
newest_of P [] holds = absurd holds
newest_of P (now ∷ past) holds = record { now = now; past = past; moments_are = refl; holds = holds }

pub at_newest : (P : Medium → Type 0) (moments : List Medium) (now : Medium) (past : List Medium) → moments ≡ now ∷ past
    → HoldsNow P moments → P now
at_newest P moments now past are holds = subst (HoldsNow P) are holds

-- what was but synced reads as before
pub record ReadsAsBefore (now : Medium) (moments : List Medium) : Type 0 where
  pub newest : Medium
  pub older : List Medium
  pub moments_are : moments ≡ newest ∷ older
  pub bytes_are : newest.bytes ≡ now.bytes

but_synced : (now : Medium) (past moments : List Medium) → AreButSynced (now ∷ past) moments → ReadsAsBefore now moments
but_synced now past moments (inl same) = record { newest = now; older = past; moments_are = same; bytes_are = refl }
but_synced now past moments (inr synced) =
    record { newest = after_sync now; older = now ∷ past; moments_are = synced; bytes_are = refl }

synced_leaves : (medium : Medium) (left : List ℕ) → MayLeave (after_sync medium) left → left ≡ medium.bytes
synced_leaves medium left may = ext_get_or 0 left medium.bytes may.count (λ i less. may.elsewhere i (All-nil (LiesOutside i)))

-- what holds of whatever a stop leaves of what is synced holds since
since_synced : (P : Medium → Type 0) (now : Medium) (past moments : List Medium) → P (after_sync now)
    → AreButSynced (now ∷ past) moments
    → HoldsSince P (now ∷ past) moments
since_synced P now past moments holds (inl same) = record { since = []; moments = same; each = tt }
since_synced P now past moments holds (inr synced) = record { since = after_sync now ∷ []; moments = synced; each = (holds, tt) }

-- ---- a plain volume that was left

-- its sizes are these, that of its log too
pub left_sizes : (uuid : List ℕ) (geometry : Geometry) (chain : List Ancestor) (epoch : ℕ) (plain : PlainState)
    (found : PlainCommit) (number : ℕ)
    (told : Option Objects) (old : DiskState) → IsLeft (owner_with uuid epoch) geometry chain plain found number told old
    → plain.geometry ≡ geometry
left_sizes uuid geometry chain epoch plain found number told old left =
    ap (λ log. sizes_with log plain.geometry) left.log_is ∙ sym left.stored.sizes

module _ (uuid : List ℕ) (geometry : Geometry) (chain : List Ancestor) (epoch : ℕ) (plain : PlainState) (found : PlainCommit)
    (number : ℕ)
    (told : Option Objects) (old : DiskState)
    (size : log_start ≤ old.size) (sectors : geometry.log ≡ log_of old.size) (is_disk : IsDisk old)
    (left : IsLeft (owner_with uuid epoch) geometry chain plain found number told old) where
  abbrev count : ℕ
  count = end_of_object number plain

  abbrev owner : CacheOwner
  owner = owner_with uuid epoch

  pub newest : HasNewest (λ now. HasCommit owner plain found count now.bytes) old.moments
  newest = newest_of (λ now. HasCommit owner plain found count now.bytes) old.moments left.device

  pub has_commit : HasCommit owner plain found count newest.now.bytes
  has_commit = newest.holds

  pub settled_slots : ReadsSettled geometry.log newest.now.bytes has_commit.body has_commit.number
  settled_slots = subst (λ log. ReadsSettled log newest.now.bytes has_commit.body has_commit.number) left.log_is has_commit.slots

  pub long : byte_of plain.geometry.log ≤ length newest.now.bytes
  long =
      let media = subst (AllByRecursion (HasSize old.size)) newest.moments_are is_disk.media in
      let bytes = media.0.bytes in
      let same = left.log_is in
      omega (arith, bytes, same, sectors, size)

  -- a load does but sync it
  pub but_synced_to : (new : DiskState) → LeavesSettled old new → AreButSynced (newest.now ∷ newest.past) new.moments
  but_synced_to new settled =
      let P : ℕ → Medium → Type 0 = λ n now. ReadsSettled n now.bytes has_commit.body has_commit.number in
      let slots : HoldsNow (P (log_of old.size)) old.moments =
      subst (HoldsNow (P (log_of old.size))) (sym newest.moments_are) (subst (λ n. P n newest.now) sectors settled_slots) in
      subst (λ m. AreButSynced m new.moments) newest.moments_are (settled has_commit.number has_commit.body slots)

  -- and each stop meanwhile leaves it
  pub load_keeps : (new : DiskState) → LeavesSettled old new
      → HoldsSince (StopKeepsMount owner plain found number) old.moments new.moments
  load_keeps new settled =
      let K : Medium → Type 0 = StopKeepsMount owner plain found number in
      let now : K (after_sync newest.now) = λ bytes may.
      inl (subst (HasCommit owner plain found count) (sym (synced_leaves newest.now bytes may)) has_commit) in
      subst (λ m. HoldsSince K m new.moments) (sym newest.moments_are)
      (since_synced K newest.now newest.past new.moments now (but_synced_to new settled))

  -- ---- the log that is opened on it

  module _ (end : ℕ) (log : LogState) (limits : IsTrue (is_within_limits geometry))
      (opened : IsOpenedOf (owner_with uuid epoch) geometry end old log) where
    abbrev commits : CommitsState
    commits = opened.commits

    reads : Reads geometry.log newest.now.bytes commits.body commits.number
    reads = at_newest (λ now. Reads geometry.log now.bytes commits.body commits.number) old.moments newest.now newest.past
        newest.moments_are
        opened.read

    one : (has_commit.number ≡ commits.number) × (has_commit.body ≡ commits.body)
    one = reads_one geometry.log newest.now.bytes has_commit.number commits.number has_commit.body commits.body
        settled_slots.reads reads

    pub body_is : has_commit.body ≡ commits.body
    body_is = one.1

    pub after : ReadsAsBefore newest.now log.commits.disk.moments
    after = but_synced newest.now newest.past log.commits.disk.moments (but_synced_to log.commits.disk opened.settled)

    pub moments_are : commits.disk.moments ≡ after.newest ∷ after.older
    moments_are = sym opened.up_to.opened.only.moments ∙ after.moments_are

    records_are : AreRecordsInRange geometry commits.body log.rows newest.now.bytes
    records_are =
        subst (AreRecordsInRange geometry commits.body log.rows) after.bytes_are
        (at_newest (λ now. AreRecordsInRange geometry commits.body log.rows now.bytes) commits.disk.moments after.newest
        after.older moments_are
        opened.up_to.opened.records)

    entries_are : log.entries ≡ Some (map (entry_of newest.now.bytes) log.rows)
    entries_are =
        opened.up_to.opened.entries ∙ ap (entries_in log.rows) moments_are
        ∙ ap (λ bytes. Some (map (entry_of bytes) log.rows)) after.bytes_are

    -- its rows are those of the plain volume's records
    pub rows_are : has_commit.rows ≡ log.rows
    rows_are =
        let same = left.log_is in
        let far = long in
        let may : MayBeRead geometry commits.body newest.now.bytes =
        record { limits = limits; may_stand = opened.up_to.may_stand; long = omega (arith, far, same) } in
        let there : AreRecordsInRange geometry commits.body has_commit.rows newest.now.bytes =
        subst (λ b. AreRecordsInRange geometry b has_commit.rows newest.now.bytes) body_is
        (subst (λ g. AreRecordsInRange g has_commit.body has_commit.rows newest.now.bytes)
        (left_sizes uuid geometry chain epoch plain found number told old left) has_commit.records) in
        have_one_list geometry commits.body has_commit.rows log.rows newest.now.bytes may there records_are

    abbrev pub entries_left : List Entry
    entries_left = drop (end - log.first) (map (entry_of newest.now.bytes) log.rows)

    pub told_is : option_map (drop (end - log.first)) log.entries ≡ Some entries_left
    told_is = ap (option_map (drop (end - log.first))) entries_are

    pub left_are : end ≡ count → entries_left ≡ entries_past plain count has_commit.body.head.seq
    left_are same =
        let first : log.first ≡ has_commit.body.tail.seq = opened.up_to.opened.first
        ∙ sym (ap (λ (b : CommitBody). b.tail.seq) body_is) in
        ap (λ n. drop (n - log.first) (map (entry_of newest.now.bytes) log.rows)) same
        ∙ ap (λ n. drop (count - n) (map (entry_of newest.now.bytes) log.rows)) first
        ∙ ap (λ rows. drop (count - has_commit.body.tail.seq) (map (entry_of newest.now.bytes) rows)) (sym rows_are)
        ∙ has_commit.entries
