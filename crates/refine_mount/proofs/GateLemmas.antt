-- The gate of an unfinished commit in what is left of its device: open exactly where the write that opened it is kept.
use Rattle.std.proofs.Common.{◌≡◌, ◌≢◌, ℕ, ◌+◌, ◌-◌, ◌/◌, ◌<◌, ◌⊎◌, Bool, true, false, List, [], ◌∷◌, ◌++◌, length, length-append}
use Rattle.std.proofs.Common.{take, drop, map, replicate, get_or, refl, sym, ◌∙◌, ap, subst, inl, inr, arith}
use Rattle.std.specs.Prelude.{slice_index}
use Rattle.std.proofs.lemmas.List.{length-take-le, get_or_append_left, get_or-append_right, append_assoc, drop_at}
use Rattle.std.proofs.lemmas.List.Elements.{All-nil}
use Rattle.lsvd_bytes.specs.Places.{with_bytes}
use Rattle.lsvd_device.specs.Medium.{Medium, MayLeave, LiesOutside, durable, after_write}
use Rattle.lsvd_device.specs.Device.{DiskState}
use Rattle.lsvd_device.specs.Stop.{put_by, left_in_order}
use Rattle.lsvd_device.specs.declared.fate.Fate.{Fate}
use Rattle.lsvd_device.specs.declared.fate.Fate.TheVariants.{Kept, Old, Zeros, Torn}
use Rattle.lsvd_device.proofs.Stopped.{get_outside}
use Rattle.plain_disk.specs.declared.cache.PendingWrite.{PendingWrite}
use Rattle.plain_disk.specs.declared.cache.PendingWrite.TheVariants.{OpenedGate}
use Rattle.plain_disk.specs.Cache.{keeps_opened_gate, is_kept}
use Rattle.refine_log.specs.Pending.{HasGateClosed, HasGateOpened, IsBrokenOff}

-- ---- one byte

-- a byte that was written stands there
byte_there : (n at : ℕ) (bytes : List ℕ) → at < length bytes → slice_index (with_bytes at (n ∷ []) bytes) at ≡ n
byte_there n at bytes inside =
    let front : length (take at bytes) ≡ at = length-take-le at bytes (omega (arith, inside)) in
    let one : List ℕ = n ∷ [] in
    get_or_append_left (take at bytes ++ one) (drop (at + length one) bytes) 0 at
    (let e = length-append (take at bytes) one in omega (arith, e, front))
    ∙ get_or-append_right (take at bytes) one at at 0 front (omega arith)
    ∙ (let e : at - at ≡ 0 = omega arith in ap (λ k. get_or one k 0) e)

read_one : (at : ℕ) (bytes : List ℕ) → at < length bytes → take 1 (drop at (with_bytes at (1 ∷ []) bytes)) ≡ 1 ∷ []
read_one at bytes inside =
    let front : length (take at bytes) ≡ at = length-take-le at bytes (omega (arith, inside)) in
    let one : List ℕ = 1 ∷ [] in
    let rest : List ℕ = drop (at + length one) bytes in
    ap (λ l. take 1 (drop at l)) (append_assoc (take at bytes) one rest)
    ∙ ap (take 1) (drop_at (take at bytes) (one ++ rest) at front)

-- ---- the gate

-- a gate is open exactly where its opening is kept
abbrev pub IsOpenBy : (keeps : Bool) → (gate : ℕ) → List ℕ → Type 0
IsOpenBy keeps gate left = ((slice_index left gate ≡ 1) × (keeps ≡ true)) ⊎ ((slice_index left gate ≢ 1) × (keeps ≡ false))

-- so it is of one that was closed, by the fate of its opening: half of one byte is none
gate_by : (fate : Fate) (gate : ℕ) (bytes now : List ℕ) → gate < length bytes → slice_index bytes gate ≢ 1
    → take 1 (drop gate now) ≡ 1 ∷ []
    → IsOpenBy (is_kept fate) gate (put_by fate gate (take 1 (drop gate now)) bytes)
gate_by Kept gate bytes now inside closed piece =
    inl (ap (λ p. slice_index (with_bytes gate p bytes) gate) piece ∙ byte_there 1 gate bytes inside, refl)
gate_by Old gate bytes now inside closed piece = inr (closed, refl)
gate_by Zeros gate bytes now inside closed piece =
    let one : length (take 1 (drop gate now)) ≡ 1 = ap length piece in
    let zero_there : slice_index (with_bytes gate (replicate 1 0) bytes) gate ≡ 0 = byte_there 0 gate bytes inside in
    inr (
      λ e.
          (let none : 0 ≡ 1 = sym zero_there ∙ ap (λ n. slice_index (with_bytes gate (replicate n 0) bytes) gate) (sym one) ∙ e in
          absurd (omega (arith, none))),
      refl,
    )
gate_by Torn gate bytes now inside closed piece =
    let none : take (length (take 1 (drop gate now)) / 2) (take 1 (drop gate now)) ≡ [] = ap (λ p. take (length p / 2) p) piece in
    let same = get_outside gate 0 gate [] bytes (omega arith) (omega (arith, inside)) (inr (omega arith)) in
    inr (λ e. closed (sym same ∙ ap (λ p. slice_index (with_bytes gate p bytes) gate) (sym none) ∙ e), refl)

-- ---- a commit that was broken off

pub first_same : {a b : Medium} {xs ys : List Medium} → ◌≡◌ {A = List Medium} (a ∷ xs) (b ∷ ys) → a ≡ b
first_same e = cc

-- before its gate was opened
closed_left : (gate : ℕ) (moments past : List Medium) (now : Medium) (pending : List PendingWrite) (kept : List Bool)
    (left : List ℕ)
    → moments ≡ now ∷ past → HasGateClosed gate moments → pending ≡ [] → MayLeave now left
    → IsOpenBy (keeps_opened_gate pending kept) gate left
closed_left gate moments past now pending kept left is closed none may =
    let same : now ≡ durable closed.bytes = first_same (sym is ∙ closed.is_still) in
    let still : slice_index left gate ≡ slice_index closed.bytes gate =
    (subst (λ m. MayLeave m left) same may).elsewhere gate (All-nil (LiesOutside gate)) in
    inr (λ e. closed.closed (sym still ∙ e), ap (λ p. keeps_opened_gate p kept) none)

-- and since then
opened_left : (gate : ℕ) (moments past : List Medium) (now : Medium) (pending : List PendingWrite) (fates : List Fate)
    → moments ≡ now ∷ past → HasGateOpened gate moments → pending ≡ OpenedGate ∷ [] → gate < length now.synced → length fates ≡ 1
    → IsOpenBy (keeps_opened_gate pending (map is_kept fates)) gate (left_in_order fates moments)
opened_left gate moments past now pending [] is opened one inside count = absurd (omega (arith, count))
opened_left gate moments past now pending (fate ∷ next ∷ fates) is opened one inside count = absurd (omega (arith, count))
opened_left gate moments past now pending (fate ∷ []) is opened one inside count =
    let bytes : List ℕ = opened.bytes in
    let same : now ≡ after_write gate (1 ∷ []) (durable bytes) = first_same (sym is ∙ opened.is_written) in
    let size : length now.synced ≡ length bytes = ap (λ (m : Medium). length m.synced) same in
    let fits : gate < length bytes = omega (arith, inside, size) in
    let written : List ℕ = with_bytes gate (1 ∷ []) bytes in
    let left : left_in_order (fate ∷ []) moments ≡ put_by fate gate (take 1 (drop gate written)) bytes =
    ap (left_in_order (fate ∷ [])) opened.is_written in
    let keeps : keeps_opened_gate pending (is_kept fate ∷ []) ≡ is_kept fate =
    ap (λ p. keeps_opened_gate p (is_kept fate ∷ [])) one ∙ one_kept (is_kept fate) in
    subst (λ k. IsOpenBy k gate (left_in_order (fate ∷ []) moments)) (sym keeps)
    (subst (IsOpenBy (is_kept fate) gate) (sym left)
    (gate_by fate gate bytes written fits opened.closed (read_one gate bytes fits)))
  where
    one_kept : (kept : Bool) → keeps_opened_gate (OpenedGate ∷ []) (kept ∷ []) ≡ kept
    one_kept true = refl
    one_kept false = refl

pub gate_left : (gate : ℕ) (disk : DiskState) (past : List Medium) (now : Medium) (pending : List PendingWrite)
    (fates : List Fate)
    → disk.moments ≡ now ∷ past → IsBrokenOff gate disk pending → gate < length now.synced → length fates ≡ length pending
    → MayLeave now (left_in_order fates disk.moments)
    → IsOpenBy (keeps_opened_gate pending (map is_kept fates)) gate (left_in_order fates disk.moments)
gate_left gate disk past now pending fates is broken inside count may =
    elim broken.where_ [
      | inl closed ↦
          closed_left gate disk.moments past now pending (map is_kept fates) (left_in_order fates disk.moments) is closed.0
          closed.1 may
      | inr opened ↦
          opened_left gate disk.moments past now pending fates is opened.0 opened.1 inside (count ∙ ap length opened.1)
    ]
