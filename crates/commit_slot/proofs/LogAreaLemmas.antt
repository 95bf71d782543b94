-- What writes to the slots, and syncs, leave past them.
use Rattle.std.proofs.Common.{◌≡◌, ℕ, ◌+◌, ◌-◌, ◌%◌, ◌<◌, ◌≤◌, List, [], ◌∷◌, ◌++◌, length, take, drop, get_or, refl, sym, ◌∙◌}
use Rattle.std.proofs.Common.{ap, subst, inl, inr, arith}
use Rattle.std.specs.List.{All, AllByRecursion}
use Rattle.std.proofs.lemmas.Bool.{cases_lt}
use Rattle.std.proofs.lemmas.List.{ext_get_or, drop-drop, length-drop, length-take, length-append, take_rest, get_or-take}
use Rattle.std.proofs.lemmas.List.{get_or-drop, get_or_append_left, get_or-append_right, get_or_past, append_cancel_right}
use Rattle.std.proofs.Math.ListN.{drop_of_length-le}
use Rattle.std.proofs.lemmas.Slice.{drop-append-drop}
use Rattle.std.proofs.lemmas.List.Elements.{All-cons, All-nil}
use Rattle.lsvd_device.specs.Medium.{Medium, Span, MayLeave, LiesOutside, IsTorn, after_write, after_sync}
use Rattle.lsvd_bytes.specs.Places.{with_bytes}
use Rattle.lsvd_device.specs.Device.{HoldsSince, HasSize, HoldsNow, moments_after, FailsToWrite}
use Rattle.commit_slot.specs.Slots.{body_at, gate_at}
use Rattle.commit_slot.specs.LogArea.{log_area, LeavesAsBefore, LeavesLogArea, HasSameLogArea, KeepsLogAreaSince, KeepsLogArea}
use Rattle.commit_slot.specs.LogArea.{MakesLogAreaDurable}
use Rattle.commit_slot.proofs.LastingLemmas.{still_there}
use Rattle.commit_slot.proofs.Passing.{passes_as, passes_on}

-- ---- one change of the slots

-- the slots as they were at the last sync, and past them what a stop leaves
mended : Medium → List ℕ → List ℕ
mended before left = take 4096 before.synced ++ drop 4096 left

mended_length : (before : Medium) (left : List ℕ) → length left ≡ length before.synced
    → length (mended before left) ≡ length before.synced
unfolding mended
mended_length before left same =
    let a : length (take 4096 before.synced ++ drop 4096 left) ≡ length (take 4096 before.synced) + length (drop 4096 left) =
    length-append (take 4096 before.synced) (drop 4096 left) in
    let b = length-take 4096 before.synced in
    let c = length-drop 4096 left in
    omega (arith, a, b, c, same)

mended_past : (before : Medium) (left : List ℕ) → length left ≡ length before.synced
    → log_area left ≡ log_area (mended before left)
unfolding mended
mended_past before left same = elim (cases_lt (length before.synced) 4096) [
  | inl few ↦
      drop_of_length-le left {i = 4096} (omega (arith, few, same))
      ∙ sym (drop_of_length-le (mended before left) {i = 4096} (let e = mended_length before left same in
      omega (arith, few, e)))
  | inr enough ↦
      sym (drop-append-drop 4096 left (take 4096 before.synced) 4096 (omega arith) (let e = length-take 4096 before.synced in
      omega (arith, e, enough)))
]

-- in the slots it is as it was then
mended_front : (before : Medium) (left : List ℕ) (i : ℕ) → i < 4096 → i < length before.synced
    → get_or (mended before left) i 0 ≡ get_or before.synced i 0
unfolding mended
mended_front before left i front inside =
    get_or_append_left (take 4096 before.synced) (drop 4096 left) 0 i (let e = length-take 4096 before.synced in
    omega (arith, e, front, inside)) ∙ get_or-take 4096 before.synced i 0 front

mended_back : (before : Medium) (left : List ℕ) (i : ℕ) → 4096 ≤ i → i < length before.synced
    → get_or (mended before left) i 0 ≡ get_or left i 0
unfolding mended
mended_back before left i back inside =
    get_or-append_right (take 4096 before.synced) (drop 4096 left) 4096 i 0 (let e = length-take 4096 before.synced in
    omega (arith, e, back, inside)) back
    ∙ get_or-drop 4096 left (i - 4096) 0
    ∙ ap (λ n. get_or left n 0) (let e : 4096 + (i - 4096) ≡ i = omega (arith, back) in e)

-- a change in the slots, which a stop may spoil
pub record IsInSlots (before medium : Medium) : Type 0 where
  pub at : ℕ
  pub count : ℕ
  pub inside : at + count ≤ 4096
  pub synced : medium.synced ≡ before.synced
  pub pending : medium.pending ≡ record { at = at; count = count } ∷ before.pending

mended_elsewhere : (before medium : Medium) (left : List ℕ) → IsInSlots before medium → MayLeave medium left
    → length left ≡ length before.synced
    → (i : ℕ) → All (LiesOutside i) before.pending → get_or (mended before left) i 0 ≡ get_or before.synced i 0
mended_elsewhere before medium left is may same i all =
    elim (cases_lt i (length before.synced)) [
      | inl inside ↦ elim (cases_lt i 4096) [
        | inl front ↦ mended_front before left i front inside
        | inr back ↦
            (let P : List Span → Type 0 = λ spans. All (LiesOutside i) spans in
            let more : P (record { at = is.at; count = is.count } ∷ before.pending) =
            All-cons (LiesOutside i) (record { at = is.at; count = is.count }) before.pending
            (inr (let e = is.inside in omega (arith, e, back))) all in
            mended_back before left i back inside ∙ may.elsewhere i (subst P (sym is.pending) more)
            ∙ ap (λ xs. get_or xs i 0) is.synced)
      ]
      | inr past ↦
          get_or_past (mended before left) i 0 (let e = mended_length before left same in omega (arith, e, past))
          ∙ sym (get_or_past before.synced i 0 past)
    ]

pub slots_leave : (before medium : Medium) → IsInSlots before medium → LeavesAsBefore before medium
slots_leave before medium is = λ left may.
    let same : length left ≡ length before.synced = may.count ∙ ap length is.synced in (
      mended before left,
      record { count = mended_length before left same; elsewhere = mended_elsewhere before medium left is may same },
      mended_past before left same,
    )

-- bytes past the slots after a write in them
kept_past : (at : ℕ) (piece bytes : List ℕ) → at + length piece ≤ 4096 → 4096 ≤ length bytes
    → length (with_bytes at piece bytes) ≡ length bytes → log_area (with_bytes at piece bytes) ≡ log_area bytes
kept_past at piece bytes inside enough same =
    let new : List ℕ = with_bytes at piece bytes in
    let many : ℕ = length bytes - 4096 in
    let there : take many (drop 4096 new) ≡ take many (drop 4096 bytes) =
    still_there at piece bytes 4096 many (omega (arith, inside, enough)) (inr inside) in
    let whole : take many (drop 4096 new) ≡ drop 4096 new = ap (λ n. take (n - 4096) (drop 4096 new)) (sym same)
    ∙ take_rest new 4096 in
    sym whole ∙ there ∙ take_rest bytes 4096

-- from a place on that lies past them
past_from : (at : ℕ) (new old : List ℕ) → at ≤ 4096 → drop at new ≡ drop at old → log_area new ≡ log_area old
past_from at new old less same =
    let e : at + (4096 - at) ≡ 4096 = omega (arith, less) in
    ap (λ n. drop n new) (sym e) ∙ sym (drop-drop (4096 - at) at new) ∙ ap (drop (4096 - at)) same ∙ drop-drop (4096 - at) at old
    ∙ ap (λ n. drop n old) e

-- nothing is left but what a read gives
synced_leaves : (medium : Medium) (left : List ℕ) → MayLeave (after_sync medium) left → left ≡ medium.bytes
synced_leaves medium left may = ext_get_or 0 left medium.bytes may.count (λ i less. may.elsewhere i (All-nil (LiesOutside i)))

-- the slots lie before byte 4,096
pub body_inside : (number : ℕ) → body_at (number % 3) + 512 ≤ 4096
body_inside number = omega arith

pub gate_inside : (number : ℕ) → gate_at (number % 3) + 1 ≤ 4096
gate_inside number = omega arith

-- ---- several

pub as_then : (a b c : Medium) → LeavesAsBefore a b → LeavesAsBefore b c → LeavesAsBefore a c
as_then a b c first second = λ left may.
    let back = second left may in
    let far = first back.0 back.1 in
    (far.0, far.1, back.2 ∙ far.2)

pub durable_as : (a b c : Medium) → LeavesLogArea (log_area a.bytes) b → LeavesAsBefore b c → LeavesLogArea (log_area a.bytes) c
durable_as a b c first second = λ left may.
    let back = second left may in
    back.2 ∙ first back.0 back.1

pub durable_to : (bytes other : List ℕ) (medium : Medium) → other ≡ bytes → LeavesLogArea other medium
    → LeavesLogArea bytes medium
durable_to bytes other medium same leaves = λ left may. leaves left may ∙ same

pub same_then : (a b c : Medium) → HasSameLogArea a b → HasSameLogArea b c → HasSameLogArea a c
same_then a b c first second = record {
  same = second.same ∙ first.same;
  stop = elim second.stop [
    | inr durable ↦ inr (durable_to (log_area a.bytes) (log_area b.bytes) c first.same durable)
    | inl spoilt ↦ elim first.stop [
      | inr durable ↦ inr (durable_as a b c durable spoilt)
      | inl before ↦ inl (as_then a b c before spoilt)
    ]
  ];
}

pub same_self : (medium : Medium) → HasSameLogArea medium medium
same_self medium = record { same = refl; stop = inl (λ left may. (left, may, refl)) }

-- a read gives the same, and a stop leaves just that
pub record IsDurableAs (before medium : Medium) : Type 0 where
  pub same : log_area medium.bytes ≡ log_area before.bytes
  pub durable : LeavesLogArea (log_area before.bytes) medium

pub durable_is_same : (before medium : Medium) → IsDurableAs before medium → HasSameLogArea before medium
durable_is_same before medium durable = record { same = durable.same; stop = inr durable.durable }

pub durable_then : (a b c : Medium) → IsDurableAs a b → HasSameLogArea b c → IsDurableAs a c
durable_then a b c first second = record {
  same = second.same ∙ first.same;
  durable = elim second.stop [
    | inr durable ↦ durable_to (log_area a.bytes) (log_area b.bytes) c first.same durable
    | inl spoilt ↦ durable_as a b c first.durable spoilt
  ];
}

-- ---- the calls

written_length : (size at : ℕ) (piece : List ℕ) (medium : Medium) → at + length piece ≤ size → HasSize size medium
    → length (with_bytes at piece medium.bytes) ≡ length medium.bytes
written_length size at piece medium within has =
    let fits : at + length piece ≤ length medium.bytes = (let e = has.bytes in omega (arith, e, within)) in
    let a : length (with_bytes at piece medium.bytes) ≡ length (take at medium.bytes ++ piece) + length
    (drop (at + length piece) medium.bytes) =
    length-append (take at medium.bytes ++ piece) (drop (at + length piece) medium.bytes) in
    let b = length-append (take at medium.bytes) piece in
    let c = length-take at medium.bytes in
    let d = length-drop (at + length piece) medium.bytes in
    omega (arith, a, b, c, d, fits)

pub write_same : (size at : ℕ) (piece : List ℕ) (medium : Medium) → at + length piece ≤ 4096 → 4096 ≤ size → HasSize size medium
    → HasSameLogArea medium (after_write at piece medium)
write_same size at piece medium inside least has = record {
  same =
      kept_past at piece medium.bytes inside (let e = has.bytes in omega (arith, e, least))
      (written_length size at piece medium (omega (arith, inside, least)) has);
  stop = inl (slots_leave medium (after_write at piece medium)
      (record { at = at; count = length piece; inside = inside; synced = refl; pending = refl }));
}

pub torn_same : (at count : ℕ) (medium torn : Medium) → at + count ≤ 4096 → IsTorn at count medium torn
    → HasSameLogArea medium torn
torn_same at count medium torn inside is = record {
  same = past_from (at + count) torn.bytes medium.bytes inside is.behind;
  stop = inl (slots_leave medium torn (record {
    at = at;
    count = count;
    inside = inside;
    synced = is.synced;
    pending = is.pending;
  }));
}

pub sync_durable : (medium : Medium) → IsDurableAs medium (after_sync medium)
sync_durable medium = record { same = refl; durable = λ left may. ap (drop 4096) (synced_leaves medium left may) }

-- ---- at each moment since

pub write_stays : (size at : ℕ) (piece : List ℕ) (old new : List Medium) → at + length piece ≤ 4096 → 4096 ≤ size
    → AllByRecursion (HasSize size) old
    → new ≡ moments_after (after_write at piece) old → KeepsLogAreaSince old new
write_stays size at piece [] new inside least sizes moments = moments
write_stays size at piece (before ∷ past) new inside least sizes moments =
    let is = write_same size at piece before inside least sizes.0 in (
      record { since = after_write at piece before ∷ []; moments = moments; each = (is, tt) },
      subst
          (HoldsNow (HasSameLogArea before)) (sym moments) is,
    )

pub failed_stays : (at count : ℕ) (old new : List Medium) → at + count ≤ 4096 → FailsToWrite at count old new
    → KeepsLogAreaSince old new
failed_stays at count [] new inside fails = fails
failed_stays at count (before ∷ past) new inside (inl same) =
    (record { since = []; moments = same; each = tt }, subst (HoldsNow (HasSameLogArea before)) (sym same) (same_self before))
failed_stays at count (before ∷ past) new inside (inr (torn, is, moments)) =
    let holds = torn_same at count before torn inside is in (
      record { since = torn ∷ []; moments = moments; each = (holds, tt) },
      subst (HoldsNow (HasSameLogArea before))
          (sym moments) holds,
    )

pub same_stays : (old new : List Medium) → new ≡ old → KeepsLogAreaSince old new
same_stays [] new same = same
same_stays (before ∷ past) new same = (
  record { since = []; moments = same; each = tt },
  subst (HoldsNow (HasSameLogArea before))
      (sym same) (same_self before),
)

pub sync_stays : (old new : List Medium) → new ≡ moments_after after_sync old → KeepsLogAreaSince old new
sync_stays [] new moments = moments
sync_stays (before ∷ past) new moments =
    let is = durable_is_same before (after_sync before) (sync_durable before) in (
      record { since = after_sync before ∷ []; moments = moments; each = (is, tt) },
      subst (HoldsNow (HasSameLogArea before))
          (sym moments) is,
    )

pub sync_is_durable : (old new : List Medium) → new ≡ moments_after after_sync old → MakesLogAreaDurable old new
sync_is_durable [] new moments = tt
sync_is_durable (before ∷ past) new moments = subst (HoldsNow (LeavesLogArea (log_area before.bytes))) (sym moments)
    (sync_durable before).durable

-- ---- one after the other

-- moments that passed on from some have a newest one
told_of : (since past new : List Medium) (before : Medium) → new ≡ since ++ before ∷ past → (now : Medium) × (rest : List Medium)
    × (new ≡ now ∷ rest)
told_of [] past new before is = (before, past, is)
told_of (now ∷ more) past new before is = (now, more ++ before ∷ past, is)

pub told : (P : Medium → Type 0) (before : Medium) (past new : List Medium) → HoldsSince P (before ∷ past) new → (now : Medium)
    × (rest : List Medium) × (new ≡ now ∷ rest)
told P before past new passes = told_of passes.since past new before passes.moments

now_as : (P Q : Medium → Type 0) (moments : List Medium) → ((medium : Medium) → P medium → Q medium) → HoldsNow P moments
    → HoldsNow Q moments
now_as P Q [] follows holds = tt
now_as P Q (now ∷ past) follows holds = follows now holds

pub stays_then : (old middle new : List Medium) → KeepsLogAreaSince old middle → KeepsLogAreaSince middle new
    → KeepsLogAreaSince old new
stays_then [] middle new first second = (let P : List Medium → Type 0 = λ m. KeepsLogAreaSince m new in subst P first second)
stays_then (before ∷ past) middle new first second =
    let at = told (HasSameLogArea before) before past middle first.0 in
    let now : Medium = at.0 in
    let is : HasSameLogArea before now = subst (HoldsNow (HasSameLogArea before)) at.2 first.1 in
    let next : KeepsLogAreaSince (now ∷ at.1) new = (let P : List Medium → Type 0 = λ m. KeepsLogAreaSince m new in
    subst P at.2 second) in
    let passes : HoldsSince (HasSameLogArea now) middle new =
    (let P : List Medium → Type 0 = λ m. HoldsSince (HasSameLogArea now) m new in subst P (sym at.2) next.0) in (
      passes_on (HasSameLogArea before) (before ∷ past) middle new first.0
          (passes_as (HasSameLogArea now) (HasSameLogArea before) middle new
          (λ medium holds. same_then before now medium is holds) passes),
      now_as (HasSameLogArea now) (HasSameLogArea before) new (λ medium holds. same_then before now medium is holds) next.1,
    )

-- what stays is kept
pub stays_keeps : (old new : List Medium) → KeepsLogAreaSince old new → KeepsLogArea old new
stays_keeps [] new stays = stays
stays_keeps (before ∷ past) new stays = now_as (HasSameLogArea before) (λ now. log_area now.bytes ≡ log_area before.bytes) new
    (λ medium is. is.same) stays.1

-- a sync makes durable what stayed until then, and it stays so
pub stays_durable : (old middle new : List Medium) → KeepsLogAreaSince old middle → MakesLogAreaDurable middle new
    → MakesLogAreaDurable old new
stays_durable [] middle new first second = tt
stays_durable (before ∷ past) middle new first second =
    let at = told (HasSameLogArea before) before past middle first.0 in
    let now : Medium = at.0 in
    let is : HasSameLogArea before now = subst (HoldsNow (HasSameLogArea before)) at.2 first.1 in
    let next : MakesLogAreaDurable (now ∷ at.1) new = (let P : List Medium → Type 0 = λ m. MakesLogAreaDurable m new in
    subst P at.2 second) in
    now_as (LeavesLogArea (log_area now.bytes)) (LeavesLogArea (log_area before.bytes)) new
    (λ medium durable. durable_to (log_area before.bytes) (log_area now.bytes) medium is.same durable) next

pub durable_stays : (old middle new : List Medium) → KeepsLogAreaSince old middle → MakesLogAreaDurable old middle
    → KeepsLogAreaSince middle new → MakesLogAreaDurable old new
durable_stays [] middle new first durable second = tt
durable_stays (before ∷ past) middle new first durable second =
    let at = told (HasSameLogArea before) before past middle first.0 in
    let now : Medium = at.0 in
    let is : HasSameLogArea before now = subst (HoldsNow (HasSameLogArea before)) at.2 first.1 in
    let sure : LeavesLogArea (log_area before.bytes) now =
    subst (HoldsNow (LeavesLogArea (log_area before.bytes))) at.2 durable in
    let next : KeepsLogAreaSince (now ∷ at.1) new = (let P : List Medium → Type 0 = λ m. KeepsLogAreaSince m new in
    subst P at.2 second) in
    now_as (HasSameLogArea now) (LeavesLogArea (log_area before.bytes)) new
    (λ medium holds. (durable_then before now medium (record { same = is.same; durable = sure }) holds).durable) next.1

-- two things that hold at each moment since hold together
both_of : (P Q : Medium → Type 0) (media : List Medium) → AllByRecursion P media → AllByRecursion Q media
    → AllByRecursion (λ medium. P medium × Q medium) media
both_of P Q [] first second = tt
both_of P Q (now ∷ past) first second = ((first.0, second.0), both_of P Q past first.1 second.1)

pub passes_both : (P Q : Medium → Type 0) (old new : List Medium) → HoldsSince P old new → HoldsSince Q old new
    → HoldsSince (λ medium. P medium × Q medium) old new
passes_both P Q old new first second =
    let same : second.since ≡ first.since = append_cancel_right second.since first.since old (sym second.moments
    ∙ first.moments) in
    record {
      since = first.since;
      moments = first.moments;
      each = both_of P Q first.since first.each
          (subst (AllByRecursion Q) same second.each);
    }
