-- The body of the last commit fills a sector, since it is read there.
use Rattle.std.proofs.Common.{◌≡◌, ◌≢◌, ℕ, ◌+◌, ◌-◌, ◌%◌, ◌<◌, ◌≤◌, List, ◌∷◌, ◌++◌, length, drop, codes, refl, sym, ◌∙◌, ap}
use Rattle.std.proofs.Common.{subst, inl, inr, arith, length-append, length-drop}
use Rattle.std.specs.Prelude.{Option, Some, None, IfSome, slice_index}
use Rattle.std.specs.Int.{w64, to_be_bytes}
use Rattle.std.specs.List.{AllByRecursion}
use Rattle.std.proofs.lemmas.List.{length-take-le}
use Rattle.lsvd_bytes.specs.Places.{bytes_at}
use Rattle.lsvd_device.specs.Medium.{Medium, MayLeave}
use Rattle.lsvd_device.specs.Device.{DiskState, HasSize, HoldsNow}
use Rattle.commit_body.specs.declared.body.CommitBody.{CommitBody}
use Rattle.commit_body.specs.Body.{filler, mark_bytes, body_bytes}
use Rattle.commit_body.proofs.BodyLemmas.{length-filler}
use Rattle.commit_slot.specs.Slots.{log_of, body_at, gate_at, Reads}
use Rattle.commit_slot.specs.Commits.{CommitsState, IsLast, Leaves, finished_body}
use Rattle.commit_slot.specs.OnDisk.{HasGate, AreOnDisk}
use Rattle.plain_disk.specs.declared.cache.PendingWrite.{PendingWrite}
use Rattle.refine_log.specs.Pending.{IsBrokenOff}

length-body : (body : CommitBody) (number : ℕ) → length (body_bytes body number) ≡ 496 + length body.uuid
unfolding body_bytes
length-body body number =
    let front : List ℕ = codes "LSVDCMT1" ++ body.uuid in
    let epoch : List ℕ = front ++ to_be_bytes w64 body.epoch in
    let count : List ℕ = epoch ++ to_be_bytes w64 number in
    let tail : List ℕ = count ++ mark_bytes body.tail in
    let head : List ℕ = tail ++ mark_bytes body.head in
    let a : length front ≡ 8 + length body.uuid = length-append (codes "LSVDCMT1") body.uuid in
    let b : length epoch ≡ length front + 8 = length-append front (to_be_bytes w64 body.epoch) in
    let c : length count ≡ length epoch + 8 = length-append epoch (to_be_bytes w64 number) in
    let d : length tail ≡ length count + 16 = length-append count (mark_bytes body.tail) in
    let e : length head ≡ length tail + 16 = length-append tail (mark_bytes body.head) in
    let whole : length (body_bytes body number) ≡ length head + 440 = length-append head filler
    ∙ ap (λ n. length head + n) length-filler in
    omega (arith, a, b, c, d, e, whole)

-- the uuid of a body that is read has 16 bytes
uuid_read : (log : ℕ) (bytes : List ℕ) (body : CommitBody) (number : ℕ) → 4096 ≤ length bytes → Reads log bytes body number
    → length body.uuid ≡ 16
uuid_read log bytes body number long reads =
    let sector = reads.is_open.sector in
    let in_slot = sector.in_slot in
    let slot : reads.slot < 3 = omega (arith, in_slot) in
    let rest : length (drop (body_at reads.slot) bytes) ≡ length bytes - body_at reads.slot =
    length-drop (body_at reads.slot) bytes in
    let size : length (bytes_at (body_at reads.slot) 512 bytes) ≡ 512 =
    length-take-le 512 (drop (body_at reads.slot) bytes) (omega (arith, rest, slot, long)) in
    let whole : length (body_bytes body number) ≡ 512 = sym (ap length sector.bytes) ∙ size in
    let e = length-body body number in
    omega (arith, e, whole)

-- ---- by what a stop leaves

-- nothing of what is pending
synced_left : (medium : Medium) → MayLeave medium medium.synced
synced_left medium = record { count = refl; elsewhere = λ i _. refl }

uuid_settled : (commits : CommitsState) (now : Medium) → commits.unfinished ≡ None → 4096 ≤ length now.synced
    → Leaves (log_of commits.disk.size) (IsLast commits) now → length commits.body.uuid ≡ 16
uuid_settled commits now none long leaves =
    let found = leaves now.synced (synced_left now) in
    let same : found.1 ≡ commits.body =
    elim found.2 [
      | inl is ↦ is.same_body
      | inr is ↦ is.same_body ∙ ap (finished_body commits.body) none
    ] in
    ap (λ (b : CommitBody). length b.uuid) (sym same) ∙ uuid_read (log_of commits.disk.size) now.synced found.1 found.0 long
    found.3.reads

first_same : {a b : Medium} {xs ys : List Medium} → ◌≡◌ {A = List Medium} (a ∷ xs) (b ∷ ys) → a ≡ b
first_same e = cc

pub now_is : (P : Medium → Type 0) (moments : List Medium) (now : Medium) (past : List Medium) → moments ≡ now ∷ past
    → HoldsNow P moments → P now
now_is P moments now past is holds = subst (HoldsNow P) is holds

-- the gate of a commit that was broken off was closed at the last sync
closed_synced : (gate : ℕ) (disk : DiskState) (pending : List PendingWrite) (now : Medium) (past : List Medium)
    → disk.moments ≡ now ∷ past
    → IsBrokenOff gate disk pending → slice_index now.synced gate ≢ 1
closed_synced gate disk pending now past moments broken =
    elim broken.where_ [
      | inl closed ↦ λ e. closed.0.closed (ap (λ m. slice_index m.synced gate)
          (sym (first_same (sym moments ∙ closed.0.is_still))) ∙ e)
      | inr opened ↦ λ e. opened.0.closed (ap (λ m. slice_index m.synced gate)
          (sym (first_same (sym moments ∙ opened.0.is_written))) ∙ e)
    ]

uuid_in : (unfinished : Option CommitBody) (commits : CommitsState) (pending : List PendingWrite) (now : Medium)
    (past : List Medium)
    → commits.unfinished ≡ unfinished → commits.disk.moments ≡ now ∷ past → AreOnDisk commits
    → IfSome unfinished (λ more. IsBrokenOff (gate_at ((commits.number + 1) % 3)) commits.disk pending)
    → length commits.body.uuid ≡ 16
uuid_in None commits pending now past is moments on_disk broken =
    let size : HasSize commits.disk.size now =
    (subst (AllByRecursion (HasSize commits.disk.size)) moments on_disk.is_disk.media).0 in
    let synced = size.synced in
    let least = on_disk.size in
    uuid_settled commits now is (omega (arith, synced, least))
    (now_is (Leaves (log_of commits.disk.size) (IsLast commits)) commits.disk.moments now past moments on_disk.stands)
uuid_in (Some more) commits pending now past is moments on_disk broken =
    let size : HasSize commits.disk.size now =
    (subst (AllByRecursion (HasSize commits.disk.size)) moments on_disk.is_disk.media).0 in
    let synced = size.synced in
    let least = on_disk.size in
    let log : ℕ = log_of commits.disk.size in
    let G : Option CommitBody → Type 0 = λ u.
    IfSome u (λ b. HoldsNow (HasGate log commits.number commits.body b) commits.disk.moments) in
    let gate : HasGate log commits.number commits.body more now =
    now_is (HasGate log commits.number commits.body more) commits.disk.moments now past moments (subst G is on_disk.gate) in
    let shut = closed_synced (gate_at ((commits.number + 1) % 3)) commits.disk pending now past moments broken in
    uuid_read log now.synced commits.body commits.number (omega (arith, synced, least))
    ((gate.left now.synced (synced_left now)).closed shut)

-- so the uuid of the last commit has
pub last_uuid : (commits : CommitsState) (pending : List PendingWrite) (now : Medium) (past : List Medium)
    → commits.disk.moments ≡ now ∷ past
    → AreOnDisk commits → IfSome commits.unfinished (λ more. IsBrokenOff (gate_at ((commits.number + 1) % 3))
    commits.disk pending)
    → length commits.body.uuid ≡ 16
last_uuid commits pending now past moments on_disk broken = uuid_in commits.unfinished commits pending now past refl moments
    on_disk broken
