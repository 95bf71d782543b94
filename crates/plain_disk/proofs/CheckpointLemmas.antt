-- The newest checkpoint of a plain volume, what it maps, and what was given out for removal.
use Rattle.std.proofs.Common.{arith, ℕ, zero, suc, ◌+◌, ◌-◌, ◌<◌, ◌≤◌, ◌≡◌, Bool, true, false, cond, not, ◌&&◌, ◌||◌, nat_lt}
use Rattle.std.proofs.Common.{eqb, IsTrue, Option, Some, None, List, [], ◌∷◌, get_or, map, refl, sym, ◌∙◌, ap, subst}
use Rattle.std.proofs.Common.{◌⊎◌, inl, inr}
use Rattle.std.proofs.lemmas.Bool.{cases_lt}
use Rattle.std.proofs.lemmas.Bool.Decides.{nat_tests}
use Rattle.std.proofs.lemmas.List.Elements.{All-nil, All-cons, All-head, All-tail, All-weaker}
use Rattle.std.specs.List.{All, list_any, range_with_len}
use Rattle.lsvd_base.specs.declared.entry.Entry.{Entry}
use Rattle.object_stream.specs.declared.object.StreamObject.{StreamObject}
use Rattle.object_stream.specs.declared.owner.Owner.{Owner}
use Rattle.object_stream.specs.Landed.{Numbers}
use Rattle.object_stream.specs.Stream.{Owners, Stream, owners, is_own, last_number, IsStream}
use Rattle.object_stream.specs.Laws.{from_object}
use Rattle.object_stream.proofs.StreamLemmas.{keeps_owners, owns_by_number}
use Rattle.upload_window.specs.declared.object.OpenObject.{OpenObject}
use Rattle.upload_window.specs.Window.{Ascends, has_number, below_lowest}
use Rattle.upload_window.proofs.Order.{at_most}
use Rattle.plain_disk.specs.State.{PlainState, PlainCheckpoint, stream_in, frontier_of, folded_to}
use Rattle.plain_disk.specs.Checkpoints.{checkpoint_at, newest_landed, landed_checkpoint, is_started_checkpoint}
use Rattle.plain_disk.specs.Removals.{maps, has, copies_from, is_removable}
use Rattle.plain_disk.specs.Valid.{IsUnneeded, IsPlainCheckpoint, IsPlainVolume, NewestLandedHoldsOwners, RemovedIsUnneeded}
use Rattle.plain_disk.proofs.EndLemmas.{frontier_is_sealed}
use Rattle.plain_disk.proofs.FoldLemmas.{owned_at, MayFold, owners_of_fold}

-- ---- elements that pass a test

module _ {X : Type 0} where
  -- what one element that passes tells
  pub any_tells : (p : X → Bool) (Q : X → Type 0) (R : Type 0) (xs : List X) → list_any p xs ≡ true → All Q xs
      → ((x : X) → p x ≡ true → Q x → R) → R
  any_tells p Q R [] is all tells = let bad : ⊥ = cc in absurd bad
  any_tells p Q R (x ∷ xs) is all tells =
      elim (p x) as (λ b. p x ≡ b → (b || list_any p xs) ≡ true → R) [
        | true ↦ λ here any. tells x here (All-head Q x xs all)
        | false ↦ λ here any. any_tells p Q R xs any (All-tail Q x xs all) tells
      ] refl is

  pub any_weaker : (p q : X → Bool) → ((x : X) → p x ≡ true → q x ≡ true) → (xs : List X) → list_any p xs ≡ true
      → list_any q xs ≡ true
  any_weaker p q weaker [] is = is
  any_weaker p q weaker (x ∷ xs) is =
      elim (p x) as (λ b. p x ≡ b → (b || list_any p xs) ≡ true → (q x || list_any q xs) ≡ true) [
        | true ↦ λ here any. ap (λ b. b || list_any q xs) (weaker x here)
        | false ↦ λ here any. elim (q x) as (λ b. (b || list_any q xs) ≡ true) [
          | true ↦ refl
          | false ↦ any_weaker p q weaker xs any
        ]
      ] refl is

pub same_number : (a b : ℕ) → eqb a b ≡ true → a ≡ b
same_number a b is = grind (arith, nat_tests)

pub both_true : (a b : Bool) → (a && b) ≡ true → (a ≡ true) × (b ≡ true)
both_true true b is = (refl, is)
both_true false b is = let bad : ⊥ = cc in absurd bad

-- ---- owners

-- an own object that is named
pub own_by : (number : ℕ) (found : Option Owner) → is_own number found ≡ true
    → (owner : Owner) × (found ≡ Some owner) × (owner.number ≡ number)
own_by number None is = let bad : ⊥ = cc in absurd bad
own_by number (Some owner) is =
    (owner, refl, same_number owner.number number (both_true (eqb owner.level 0) (eqb owner.number number) is).1)

-- an own object owns one of these sectors just where it is at a place among them
pub some_owns : (number : ℕ) (owned : List (Option Owner)) → list_any (is_own number) owned ≡ true
    → (k : ℕ) × (is_own number (get_or owned k None) ≡ true)
some_owns number [] is = let bad : ⊥ = cc in absurd bad
some_owns number (owner ∷ owned) is =
    elim (is_own number owner) as (λ b. is_own number owner ≡ b → (b || list_any (is_own number) owned) ≡ true
    → (k : ℕ) × (is_own number (get_or (owner ∷ owned) k None) ≡ true)) [
      | true ↦ λ here any. (0, here)
      | false ↦ λ here any. (let later = some_owns number owned any in (suc later.0, later.1))
    ] refl is

pub owns_some : (number : ℕ) (owned : List (Option Owner)) (k : ℕ) → is_own number (get_or owned k None) ≡ true
    → list_any (is_own number) owned ≡ true
owns_some number [] k is = let bad : ⊥ = cc in absurd bad
owns_some number (owner ∷ owned) zero is = ap (λ b. b || list_any (is_own number) owned) is
owns_some number (owner ∷ owned) (suc k) is =
    elim (is_own number owner) as (λ b. (b || list_any (is_own number) owned) ≡ true) [
      | true ↦ refl
      | false ↦ owns_some number owned k is
    ]

-- an object that owns a sector after a later one owned it from itself on
still_owned : (stream : Stream) (from to number k : ℕ) → IsStream stream → stream.number ≤ from → from ≤ last_number stream
    → from ≤ to → number ≤ from → is_own number (owners stream to k) ≡ true → is_own number (owners stream from k) ≡ true
still_owned stream from to number k h first sealed order early is =
    let same = (keeps_owners stream from to h first sealed order).0 k in
    let own = own_by number (owners (from_object from stream) to k) (ap (is_own number) same ∙ is) in
    elim (owns_by_number (from_object from stream) to k own.0 own.1) [
      | inl opening ↦ ap (is_own number) (opening ∙ sym own.1 ∙ same) ∙ is
      | inr later ↦ absurd (omega (arith, later.1, own.2))
    ]

-- an object before the checkpoint that owns a sector at or after it is mapped by it
pub maps_what_owns : (stream : Stream) (frontier : ℕ) (given_out : List ℕ) (checkpoint : PlainCheckpoint) (to number k : ℕ)
    → IsStream stream → IsPlainCheckpoint stream frontier given_out checkpoint → frontier ≤ last_number stream
    → checkpoint.number ≤ to → number < checkpoint.number → is_own number (owners stream to k) ≡ true
    → maps checkpoint number ≡ true
maps_what_owns stream frontier given_out checkpoint to number k h is sealed after_it early owns =
    elim (cases_lt checkpoint.number stream.number) [
      | inl before ↦
          let own = own_by number (owners stream to k) owns in
          elim (owns_by_number stream to k own.0 own.1) [
            | inl opening ↦ is.still (omega arith) number k early (ap (is_own number) (opening ∙ sym own.1) ∙ owns)
            | inr later ↦ absurd (omega (arith, later.1, own.2))
          ]
      | inr from ↦
          let then = still_owned stream checkpoint.number to number k h from (omega (arith, is.reached)) after_it
          (omega arith) owns in
          owns_some number checkpoint.owned k (ap (is_own number) (is.holds from k) ∙ then)
    ]

-- ---- open numbers are past the frontier

pub all_past : (low : ℕ) (objects : List OpenObject) (last : ℕ) → Ascends low objects last
    → All (λ object. (low < object.number) × (object.number ≤ last)) objects
all_past low [] last order = All-nil (λ object. (low < object.number) × (object.number ≤ last))
all_past low (object ∷ objects) last order =
    All-cons (λ o. (low < o.number) × (o.number ≤ last)) object objects
    (order.0, at_most object.number objects last order.1)
    (All-weaker (λ o. (object.number < o.number) × (o.number ≤ last)) (λ o. (low < o.number) × (o.number ≤ last))
    (λ o past. (omega (arith, order.0, past.0), past.1)) objects (all_past object.number objects last order.1))

pub open_past : (objects : List OpenObject) (last : ℕ) → Ascends 0 objects last
    → All (λ object. (below_lowest objects last < object.number) × (object.number ≤ last)) objects
open_past [] last order = All-nil (λ object. (last < object.number) × (object.number ≤ last))
open_past (object ∷ objects) last order =
    all_past (object.number - 1) (object ∷ objects) last (omega (arith, order.0), order.1)

pub open_in : (state : PlainState) → IsPlainVolume state
    → All (λ object. (frontier_of state < object.number) × (object.number ≤ last_number (stream_in state))) state.window.objects
open_in state h =
    All-weaker (λ o. (frontier_of state < o.number) × (o.number ≤ state.window.last))
    (λ o. (frontier_of state < o.number) × (o.number ≤ last_number (stream_in state)))
    (λ o past. (past.0, omega (arith, past.1, h.last))) state.window.objects
    (open_past state.window.objects state.window.last h.window.order)

-- where its put was ever begun, a checkpoint is the lowest open object
abbrev pub Begins : (frontier : ℕ) → OpenObject → Type 0
Begins frontier object = IsTrue (object.was_started && object.is_checkpoint) → object.number ≤ frontier + 1

-- a checkpoint whose put is under way is the lowest open object
pub started_is_lowest : (state : PlainState) (number : ℕ) → IsPlainVolume state
    → is_started_checkpoint number state.window.objects ≡ true
    → (number ≡ frontier_of state + 1) × (number ≤ state.window.last)
started_is_lowest state number h is =
    let objects = state.window.objects in
    let past = open_past objects state.window.last h.window.order in
    any_tells (λ o. has_number number o && o.is_started && o.is_checkpoint)
    (λ o. ((frontier_of state < o.number) × (o.number ≤ state.window.last))
    × ((IsTrue o.is_started → IsTrue o.was_started) × Begins (frontier_of state) o))
    ((number ≡ frontier_of state + 1) × (number ≤ state.window.last)) objects is
    (λ k d inside. (past k d inside, (h.window.starts k d inside, h.begun k d inside)))
    (λ o tested of_it.
    let first = both_true (has_number number o && o.is_started) o.is_checkpoint tested in
    let second = both_true (has_number number o) o.is_started first.0 in
    let same = same_number o.number number second.0 in
    let was = of_it.1.0 second.1 in
    let most = of_it.1.1 (ap (λ b. b && o.is_checkpoint) was ∙ first.1) in
    let past_it = of_it.0.0 in
    let within = of_it.0.1 in
    (omega arith, omega arith))

-- ---- a later checkpoint

-- what the newest acknowledged one does not need, a later one does not
later_unneeded : (state : PlainState) (number removed : ℕ) → IsPlainVolume state → frontier_of state < number
    → IsUnneeded state.checkpoint removed → IsUnneeded (checkpoint_at number state) removed
later_unneeded state number removed h past unneeded =
    let stream = stream_in state in
    let checkpoint = state.checkpoint in
    let is = h.checkpoint in
    let new = checkpoint_at number state in
    record {
      before = omega (arith, unneeded.before, is.reached);
      unmapped =
          elim (maps new removed) as (λ b. maps new removed ≡ b → b ≡ false) [
            | true ↦ λ mapped.
                (let at = some_owns removed new.owned mapped in
                let owns = sym (ap (is_own removed) (owned_at state number h at.0)) ∙ at.1 in
                let before = maps_what_owns stream (frontier_of state) state.given_out checkpoint number removed at.0
                h.stream is (frontier_is_sealed state h) (omega (arith, is.reached)) unneeded.before owns in
                let not_so = unneeded.unmapped in
                let bad : ⊥ = cc in absurd bad)
            | false ↦ λ unmapped. refl
          ] refl;
    }

pub later_is : (state : PlainState) (number to : ℕ) → IsPlainVolume state → frontier_of state < number → number ≤ to
    → IsPlainCheckpoint (stream_in state) to state.given_out (checkpoint_at number state)
later_is state number to h past within = record {
  numbered = omega arith;
  reached = within;
  holds = λ from k. owned_at state number h k;
  still = λ before removed k early owns. absurd (omega (arith, h.opened));
  unneeded =
      All-weaker (IsUnneeded state.checkpoint) (IsUnneeded (checkpoint_at number state))
      (λ removed. later_unneeded state number removed h past) state.given_out h.checkpoint.unneeded;
}

-- with other entries and objects that leave the owners after it, and a frontier not before the one that there was
pub same_checkpoint : (stream : Stream) (entries : List Entry) (objects : List StreamObject) (frontier later : ℕ)
    (given_out : List ℕ) (checkpoint : PlainCheckpoint)
    → IsPlainCheckpoint stream frontier given_out checkpoint → frontier ≤ later
    → owners (record stream { entries = entries; objects = objects }) checkpoint.number ≡ owners stream checkpoint.number
    → IsPlainCheckpoint (record stream { entries = entries; objects = objects }) later given_out checkpoint
same_checkpoint stream entries objects frontier later given_out checkpoint is more same = record {
  numbered = is.numbered;
  reached = omega (arith, is.reached);
  holds = λ from k. is.holds from k ∙ sym (ap (λ (f : Owners). f k) same);
  still = is.still;
  unneeded = is.unneeded;
}

-- ---- the newest that has landed

-- it is the one before, or that of an open object
pub newest_is : (P : PlainCheckpoint → Type 0) (landed : Numbers) (state : PlainState) (before : PlainCheckpoint)
    (objects : List OpenObject)
    → P before
    → All (λ object. (object.is_checkpoint && landed object.number) ≡ true → P (checkpoint_at object.number state)) objects
    → P (newest_landed landed state before objects)
newest_is P landed state before [] is all = is
newest_is P landed state before (object ∷ objects) is all =
    let Q : OpenObject → Type 0 =
    λ o. (o.is_checkpoint && landed o.number) ≡ true → P (checkpoint_at o.number state) in
    let here = checkpoint_at object.number state in
    newest_is P landed state (cond (object.is_checkpoint && landed object.number) here before) objects
    (elim (object.is_checkpoint && landed object.number) as (λ b. (b ≡ true → P here) → P (cond b here before)) [
      | true ↦ λ at. at refl
      | false ↦ λ at. is
    ] (All-head Q object objects all))
    (All-tail Q object objects all)

pub newest_of_open : (P : PlainCheckpoint → Type 0) (landed : Numbers) (state : PlainState) → IsPlainVolume state
    → P state.checkpoint
    → ((number : ℕ) → frontier_of state < number → number ≤ last_number (stream_in state) → P (checkpoint_at number state))
    → P (landed_checkpoint landed state)
newest_of_open P landed state h is of_open =
    newest_is P landed state state.checkpoint state.window.objects is
    (All-weaker (λ o. (frontier_of state < o.number) × (o.number ≤ last_number (stream_in state)))
    (λ o. (o.is_checkpoint && landed o.number) ≡ true → P (checkpoint_at o.number state))
    (λ o past test. of_open o.number past.0 past.1) state.window.objects (open_in state h))

pub landed_is : (state : PlainState) (landed : Numbers) → IsPlainVolume state
    → IsPlainCheckpoint (stream_in state) (last_number (stream_in state)) state.given_out (landed_checkpoint landed state)
landed_is state landed h =
    let is = h.checkpoint in
    newest_of_open (IsPlainCheckpoint (stream_in state) (last_number (stream_in state)) state.given_out) landed state h
    (record {
      numbered = is.numbered;
      reached = omega (arith, is.reached, frontier_is_sealed state h);
      holds = is.holds;
      still = is.still;
      unneeded = is.unneeded;
    })
    (λ number past within. later_is state number (last_number (stream_in state)) h past within)

pub landed_from : (state : PlainState) (landed : Numbers) → IsPlainVolume state
    → state.checkpoint.number ≤ (landed_checkpoint landed state).number
landed_from state landed h =
    newest_of_open (λ c. state.checkpoint.number ≤ c.number) landed state h (omega arith)
    (λ number past within. omega (arith, h.checkpoint.reached))

-- ---- folding

-- a checkpoint past the object to which entries are folded holds the same owners
pub at_of_fold : (state : PlainState) (number later : ℕ) → MayFold state number → number ≤ later
    → checkpoint_at later (folded_to number state) ≡ checkpoint_at later state
at_of_fold state number later h above =
    ap (λ (f : Owners). record { number = later; owned = map f (range_with_len 0 state.geometry.sectors) })
    (owners_of_fold state number h later above)

same_newest : (landed : Numbers) (state other : PlainState) (before : PlainCheckpoint) (objects : List OpenObject)
    → All (λ object. checkpoint_at object.number other ≡ checkpoint_at object.number state) objects
    → newest_landed landed other before objects ≡ newest_landed landed state before objects
same_newest landed state other before [] all = refl
same_newest landed state other before (object ∷ objects) all =
    let P : OpenObject → Type 0 = λ o. checkpoint_at o.number other ≡ checkpoint_at o.number state in
    let test = object.is_checkpoint && landed object.number in
    ap (λ (c : PlainCheckpoint). newest_landed landed other (cond test c before) objects) (All-head P object objects all)
    ∙ same_newest landed state other (cond test (checkpoint_at object.number state) before) objects
    (All-tail P object objects all)

pub landed_of_fold : (state : PlainState) (number : ℕ) (landed : Numbers) → MayFold state number
    → landed_checkpoint landed (folded_to number state) ≡ landed_checkpoint landed state
landed_of_fold state number landed h =
    same_newest landed state (folded_to number state) state.checkpoint state.window.objects
    (All-weaker (λ o. (frontier_of state < o.number) × (o.number ≤ last_number (stream_in state)))
    (λ o. checkpoint_at o.number (folded_to number state) ≡ checkpoint_at o.number state)
    (λ o past. at_of_fold state number o.number h (omega (arith, h.to, past.0))) state.window.objects (open_in state h.valid))

-- ---- the laws

pub newest_holds : NewestLandedHoldsOwners
newest_holds state landed h = (landed_from state landed h, (landed_is state landed h).holds)

-- one of those that were given out is unneeded
pub given_is_unneeded : (checkpoint : PlainCheckpoint) (given_out : List ℕ) (number : ℕ)
    → All (IsUnneeded checkpoint) given_out → has given_out number ≡ true → IsUnneeded checkpoint number
given_is_unneeded checkpoint given_out number all is =
    any_tells (λ other. eqb other number) (IsUnneeded checkpoint) (IsUnneeded checkpoint number) given_out is all
    (λ other same unneeded. subst (IsUnneeded checkpoint) (same_number other number same) unneeded)

not_mapped : (b : Bool) → not b ≡ true → b ≡ false
not_mapped true is = let bad : ⊥ = cc in absurd bad
not_mapped false is = refl

below_by : (a b : ℕ) → nat_lt a b ≡ true → a < b
below_by a b is = grind (arith, nat_tests)

pub removable_is_unneeded : (state : PlainState) (number : ℕ) → is_removable state number ≡ true
    → IsUnneeded state.checkpoint number
removable_is_unneeded state number is =
    let mapped = maps state.checkpoint number in
    let pinned = has state.pins number in
    let gone = has state.removed number in
    let below = nat_lt number state.checkpoint.number in
    let copied = copies_from state.plan number in
    let held = has state.held number in
    let there = both_true (below && not mapped && not pinned && not copied && not held) (not gone) is in
    let free = both_true (below && not mapped && not pinned && not copied) (not held) there.0 in
    let uncopied = both_true (below && not mapped && not pinned) (not copied) free.0 in
    let unpinned = both_true (below && not mapped) (not pinned) uncopied.0 in
    let both = both_true below (not mapped) unpinned.0 in
    record { before = below_by number state.checkpoint.number both.0; unmapped = not_mapped mapped both.1 }

-- no hold keeps what may be removed
pub removable_is_not_held : (state : PlainState) (number : ℕ) → is_removable state number ≡ true
    → has state.held number ≡ false
removable_is_not_held state number is =
    let held = has state.held number in
    let first =
    nat_lt number state.checkpoint.number && not (maps state.checkpoint number) && not (has state.pins number)
    && not (copies_from state.plan number) in
    not_mapped held (both_true first (not held) (both_true (first && not held) (not (has state.removed number)) is).0).1

pub none_of_both : (a b : Bool) → (a || b) ≡ false → (a ≡ false) × (b ≡ false)
none_of_both true b is = let bad : ⊥ = cc in absurd bad
none_of_both false b is = (refl, is)

pub either_true : (a b : Bool) → (a || b) ≡ true → (a ≡ true) ⊎ (b ≡ true)
either_true true b is = inl refl
either_true false b is = inr is

pub removed_is_unneeded : RemovedIsUnneeded
removed_is_unneeded state landed number h is =
    let now : IsUnneeded state.checkpoint number =
    elim (either_true (is_removable state number) (has state.given_out number) is) [
      | inl removable ↦ removable_is_unneeded state number removable
      | inr given ↦ given_is_unneeded state.checkpoint state.given_out number h.checkpoint.unneeded given
    ] in
    newest_of_open (λ c. IsUnneeded c number) landed state h now
    (λ later past within. later_unneeded state later number h past now)
