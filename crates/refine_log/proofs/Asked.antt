-- What calls within the room of a disk leave of it, and which writes are pending on it then.
use Rattle.std.proofs.Common.{◌≡◌, ℕ, ◌+◌, ◌≤◌, Bool, true, false, zero, suc, List, [], ◌∷◌, ◌++◌, length, take, refl, sym, ◌∙◌}
use Rattle.std.proofs.Common.{ap, subst, inl, inr, arith, length-append, reverse}
use Rattle.std.specs.Prelude.{Option, Some, None, is_some, IfSome, IsTrue}
use Rattle.std.proofs.lemmas.Bool.{cases_Bool}
use Rattle.std.proofs.lemmas.List.{take_all, take-append-le, append_assoc, reverse-append, length-reverse}
use Rattle.std.proofs.Math.Seq.{take-append-add}
use Rattle.lsvd_device.specs.Medium.{Medium, after_write}
use Rattle.lsvd_device.specs.Calls.{Fuse, Budget, Cost, passes, fuse_after, Takes}
use Rattle.lsvd_device.specs.Device.{DiskState}
use Rattle.lsvd_device.specs.Sequence.{Call, Write, Sync, moments_with, moments_with_all, passed_of, bytes_of_all, HasRoomFor}
use Rattle.lsvd_device.specs.Memory.{HasRoom}
use Rattle.lsvd_device.specs.Stop.{HasNow}
use Rattle.commit_slot.specs.Sequence.{Costs}
use Rattle.cache_log.specs.Log.{LogState}
use Rattle.plain_disk.specs.declared.cache.PendingWrite.{PendingWrite}
use Rattle.plain_disk.specs.Cache.{PlainCache}
use Rattle.refine_log.specs.Fuses.{fuse_in}
use Rattle.refine_log.specs.Pending.{AreBytesOf, ArePendingOn, ShowsPending}

-- ---- fuses

pub all_passed : (fuse : Fuse) (n : ℕ) → passes fuse n ≡ true → passed_of fuse n ≡ n
all_passed None n made = refl
all_passed (Some left) n made = grind arith

passed_on : (fuse : Fuse) (m n : ℕ) → passes fuse m ≡ true → passed_of fuse (m + n) ≡ m + passed_of (fuse_after fuse m) n
passed_on None m n made = refl
passed_on (Some left) m n made = grind arith

passed_short : (fuse : Fuse) (m n : ℕ) → passes fuse m ≡ false → (passed_of fuse (m + n) ≡ passed_of fuse m)
    × (passed_of fuse m ≤ m)
passed_short None m n stopped = cc
passed_short (Some left) m n stopped = (grind arith, omega arith)

none_later : (fuse : Fuse) (m n : ℕ) → passes fuse m ≡ false → passed_of (fuse_after fuse m) n ≡ 0
none_later None m n stopped = cc
none_later (Some left) m n stopped = grind arith

pub passed_most : (fuse : Fuse) (n : ℕ) → passed_of fuse n ≤ n
passed_most None n = omega arith
passed_most (Some left) n = omega arith

pub none_of : (n : ℕ) → passed_of (Some 0) n ≡ 0
none_of n = omega arith

pub spent_after : (fuse : Fuse) (n : ℕ) → fuse ≡ Some 0 → fuse_after fuse n ≡ Some 0
spent_after fuse n spent = ap (λ f. fuse_after f n) spent ∙ ap Some (omega arith)

-- ---- moments

-- the moments after those of the calls that a fuse passes
abbrev pub moments_passed : Fuse → List Call → List Medium → List Medium
moments_passed fuse calls moments = moments_with_all (take (passed_of fuse (length calls)) calls) moments

pub one_by_one : (a b : List Call) (moments : List Medium)
    → moments_with_all (a ++ b) moments ≡ moments_with_all b (moments_with_all a moments)
one_by_one [] b moments = refl
one_by_one (call ∷ a) b moments = one_by_one a b (moments_with call moments)

pub all_made : (fuse : Fuse) (calls : List Call) (moments : List Medium) → passes fuse (length calls) ≡ true
    → moments_passed fuse calls moments ≡ moments_with_all calls moments
all_made fuse calls moments made =
    ap (λ n. moments_with_all (take n calls) moments) (all_passed fuse (length calls) made)
    ∙ ap (λ list. moments_with_all list moments) (take_all (length calls) calls (omega arith))

pub none_made : (fuse : Fuse) (calls : List Call) (moments : List Medium) → fuse ≡ Some 0
    → moments_passed fuse calls moments ≡ moments
none_made fuse calls moments spent =
    ap (λ f. moments_passed f calls moments) spent ∙ ap (λ n. moments_with_all (take n calls) moments) (none_of (length calls))

-- calls one after the other
passed_further : (fuse : Fuse) (a b : List Call) (moments : List Medium) → passes fuse (length a) ≡ true
    → moments_passed fuse (a ++ b) moments ≡ moments_passed (fuse_after fuse (length a)) b (moments_passed fuse a moments)
passed_further fuse a b moments made =
    let k : ℕ = passed_of (fuse_after fuse (length a)) (length b) in
    ap (λ n. moments_with_all (take n (a ++ b)) moments)
    (ap (passed_of fuse) (length-append a b) ∙ passed_on fuse (length a) (length b) made)
    ∙ ap (λ list. moments_with_all list moments) (take-append-add a b k)
    ∙ one_by_one a (take k b) moments
    ∙ ap (moments_with_all (take k b)) (sym (all_made fuse a moments made))

passed_no_further : (fuse : Fuse) (a b : List Call) (moments : List Medium) → passes fuse (length a) ≡ false
    → moments_passed fuse (a ++ b) moments ≡ moments_passed (fuse_after fuse (length a)) b (moments_passed fuse a moments)
passed_no_further fuse a b moments stopped =
    let short = passed_short fuse (length a) (length b) stopped in
    let k : ℕ = passed_of fuse (length a) in
    ap (λ n. moments_with_all (take n (a ++ b)) moments) (ap (passed_of fuse) (length-append a b) ∙ short.0)
    ∙ ap (λ list. moments_with_all list moments) (take-append-le k a b short.1)
    ∙ sym (ap (λ n. moments_with_all (take n b) (moments_passed fuse a moments)) (none_later fuse (length a) (length b) stopped))

pub passed_then : (fuse : Fuse) (a b : List Call) (moments : List Medium)
    → moments_passed fuse (a ++ b) moments ≡ moments_passed (fuse_after fuse (length a)) b (moments_passed fuse a moments)
passed_then fuse a b moments =
    elim (cases_Bool (passes fuse (length a))) [
      | inl made ↦ passed_further fuse a b moments made
      | inr stopped ↦ passed_no_further fuse a b moments stopped
    ]

-- ---- calls within the room

-- what calls ask for is covered by a cost
pub record AreCovered (calls : List Call) (cost : Cost) : Type 0 where
  pub count : length calls ≡ cost.calls
  pub changes : length calls ≤ cost.changes
  pub bytes : bytes_of_all calls ≤ cost.bytes

-- calls were asked for, of which those were made that the fuse passes
pub record IsAsked (calls : List Call) (old new : DiskState) : Type 0 where
  pub told : IsTrue (is_some new.budget)
  pub fuse : fuse_in new.budget ≡ fuse_after (fuse_in old.budget) (length calls)
  pub moments : new.moments ≡ moments_passed (fuse_in old.budget) calls old.moments

asked_in : (cost : Cost) (calls : List Call) (are_made : Bool) (before after : Option Budget) (old new : List Medium)
    → AreCovered calls cost
    → HasRoom cost.changes cost.bytes before → Takes cost are_made before after
    → IfSome before (λ b. HasRoomFor calls b → new ≡ moments_passed b.fuse calls old)
    → IsTrue (is_some after) × (fuse_in after ≡ fuse_after (fuse_in before) (length calls))
    × (new ≡ moments_passed (fuse_in before) calls old)
asked_in cost calls are_made None after old new covered room takes those = absurd room
asked_in cost calls are_made (Some budget) after old new covered room takes those =
    let within = takes.2 room.0 room.1 in
    let T : Option Budget → Type 0 = λ o. IsTrue (is_some o) in
    let changes = covered.changes in
    let bytes = covered.bytes in (
      subst T (sym takes.1) refl,
      ap fuse_in takes.1 ∙ within.fuse ∙ ap (fuse_after budget.fuse) (sym covered.count),
      those (omega (arith, changes, room.0), omega (arith, bytes, room.1)),
    )

pub asked : (cost : Cost) (calls : List Call) (are_made : Bool) (old new : DiskState) → AreCovered calls cost
    → HasRoom cost.changes cost.bytes old.budget → Costs cost calls are_made old new → IsAsked calls old new
asked cost calls are_made old new covered room costs =
    let all = asked_in cost calls are_made old.budget new.budget old.moments new.moments covered room costs.calls.budget
    costs.performed in
    record { told = all.0; fuse = all.1; moments = all.2 }

-- ---- pending writes

-- so many writes are pending
abbrev pub HasPending : (count : ℕ) → List Medium → Type 0
HasPending count moments = HasNow (λ now. length now.pending ≡ count) moments

-- as many are as were made
count_writes : (writes : List PendingWrite) (moments : List Medium) → ArePendingOn writes moments
    → HasPending (length writes) moments
count_writes [] [] are = absurd are
count_writes [] (now ∷ past) are = ap length are
count_writes (write ∷ earlier) [] are = absurd are
count_writes (write ∷ earlier) (now ∷ []) are = absurd are.0
count_writes (write ∷ earlier) (now ∷ before ∷ past) are =
    let made = are.0 in
    let rest : length before.pending ≡ length earlier = count_writes earlier (before ∷ past) are.1 in
    let one : length (after_write made.at made.piece before).pending ≡ 1 + length before.pending = omega arith in
    let long : length (write ∷ earlier) ≡ 1 + length earlier = omega arith in
    ap (λ (m : Medium). length m.pending) made.is_written ∙ omega (arith, one, rest, long)

pub pending_count : (log : LogState) (cache : PlainCache) → ShowsPending log cache
    → HasPending (length cache.pending) log.commits.disk.moments
pending_count log cache shows =
    subst (λ n. HasPending n log.commits.disk.moments) (length-reverse cache.pending)
    (count_writes (reverse cache.pending) log.commits.disk.moments shows.pending)

-- calls are these writes
abbrev pub AreWrites : List Call → List PendingWrite → Type 0
AreWrites [] [] = Unit {0}
AreWrites [] (write ∷ writes) = ⊥
AreWrites (Write at piece ∷ calls) [] = ⊥
AreWrites (Write at piece ∷ calls) (write ∷ writes) = AreBytesOf write piece × AreWrites calls writes
AreWrites (Sync ∷ calls) writes = ⊥

pub writes_count : (calls : List Call) (writes : List PendingWrite) → AreWrites calls writes → length calls ≡ length writes
writes_count [] [] are = refl
writes_count [] (write ∷ writes) are = absurd are
writes_count (Write at piece ∷ calls) [] are = absurd are
writes_count (Write at piece ∷ calls) (write ∷ writes) are = (let rest = writes_count calls writes are.1 in omega (arith, rest))
writes_count (Sync ∷ calls) writes are = absurd are

some_are : (calls : List Call) (writes : List PendingWrite) (n : ℕ) → AreWrites calls writes
    → AreWrites (take n calls) (take n writes)
some_are [] [] zero are = tt
some_are [] [] (suc n) are = tt
some_are [] (write ∷ writes) n are = absurd are
some_are (Write at piece ∷ calls) [] n are = absurd are
some_are (Write at piece ∷ calls) (write ∷ writes) zero are = tt
some_are (Write at piece ∷ calls) (write ∷ writes) (suc n) are = (are.0, some_are calls writes n are.1)
some_are (Sync ∷ calls) writes n are = absurd are

-- they are the newest ones then
newest_writes : (calls : List Call) (writes earlier : List PendingWrite) (moments : List Medium) → AreWrites calls writes
    → ArePendingOn earlier moments → ArePendingOn (reverse writes ++ earlier) (moments_with_all calls moments)
newest_writes [] [] earlier moments are has = has
newest_writes [] (write ∷ writes) earlier moments are has = absurd are
newest_writes (Write at piece ∷ calls) [] earlier moments are has = absurd are
newest_writes (Write at piece ∷ calls) (write ∷ writes) [] [] are has = absurd has
newest_writes (Write at piece ∷ calls) (write ∷ writes) (last ∷ earlier) [] are has = absurd has
newest_writes (Write at piece ∷ calls) (write ∷ writes) earlier (now ∷ past) are has =
    let order : reverse (write ∷ writes) ++ earlier ≡ reverse writes ++ write ∷ earlier =
    ap (λ list. list ++ earlier) (reverse-append (write ∷ []) writes) ∙ append_assoc (reverse writes) (write ∷ []) earlier in
    let all : List Medium = after_write at piece now ∷ now ∷ past in
    subst (λ list. ArePendingOn list (moments_with_all calls all)) (sym order)
    (newest_writes calls writes (write ∷ earlier) all are.1
    (record { at = at; piece = piece; bytes = are.0; is_written = refl }, has))
newest_writes (Sync ∷ calls) writes earlier moments are has = absurd are

pub writes_pend : (calls : List Call) (writes pending : List PendingWrite) (moments : List Medium) → AreWrites calls writes
    → ArePendingOn (reverse pending) moments → ArePendingOn (reverse (pending ++ writes)) (moments_with_all calls moments)
writes_pend calls writes pending moments are has =
    subst (λ list. ArePendingOn list (moments_with_all calls moments)) (sym (reverse-append pending writes))
    (newest_writes calls writes (reverse pending) moments are has)

pub passed_pend : (fuse : Fuse) (calls : List Call) (writes pending : List PendingWrite) (moments : List Medium)
    → AreWrites calls writes → ArePendingOn (reverse pending) moments
    → ArePendingOn (reverse (pending ++ take (passed_of fuse (length calls)) writes)) (moments_passed fuse calls moments)
passed_pend fuse calls writes pending moments are has =
    let k : ℕ = passed_of fuse (length calls) in
    writes_pend (take k calls) (take k writes) pending moments (some_are calls writes k are) has

pub sync_clears : (moments : List Medium) (writes : List PendingWrite) → ArePendingOn writes moments
    → ArePendingOn [] (moments_with Sync moments)
sync_clears [] [] are = absurd are
sync_clears [] (write ∷ earlier) are = absurd are
sync_clears (now ∷ past) writes are = refl

-- calls leave a newest moment where there was one
pub has_now : (calls : List Call) (moments : List Medium) → HasNow (λ now. Unit {0}) moments
    → HasNow (λ now. Unit {0}) (moments_with_all calls moments)
has_now [] moments has = has
has_now (call ∷ calls) [] has = absurd has
has_now (Write at piece ∷ calls) (now ∷ past) has = has_now calls (after_write at piece now ∷ now ∷ past) tt
has_now (Sync ∷ calls) (now ∷ past) has = has_now calls _ tt

pub record HasNewest (moments : List Medium) : Type 0 where
  pub now : Medium
  pub past : List Medium
  pub is : moments ≡ now ∷ past

pub newest_of : (moments : List Medium) (count : ℕ) → HasPending count moments → HasNewest moments
newest_of [] count has = absurd has
newest_of (now ∷ past) count has = record { now = now; past = past; is = refl }
