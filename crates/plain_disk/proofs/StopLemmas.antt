-- What a stop of the plain volume keeps, and how far a recovery gets.
use Rattle.std.proofs.Common.{arith, ℕ, zero, suc, ◌+◌, ◌-◌, ◌<◌, ◌≤◌, ◌≡◌, Bool, true, false, cond, IsTrue, Option, Some}
use Rattle.std.proofs.Common.{◌&&◌, ◌||◌, eqb, None, IfSome, List, [], ◌∷◌, get_or, refl, sym, ◌∙◌, ap, subst, inl, inr}
use Rattle.std.proofs.Math.Bool.{or-true}
use Rattle.std.proofs.lemmas.Bool.{cases_lt}
use Rattle.std.proofs.lemmas.Bool.Decides.{nat_tests}
use Rattle.std.proofs.lemmas.List.Elements.{All-nil, All-cons, All-weaker}
use Rattle.std.proofs.lemmas.List.Folds.{list_any_at}
use Rattle.std.specs.List.{All, list_any}
use Rattle.object_stream.specs.Landed.{Numbers}
use Rattle.object_stream.specs.Stream.{last_number}
use Rattle.upload_window.specs.declared.object.OpenObject.{OpenObject}
use Rattle.upload_window.specs.Window.{Ascends, has_number}
use Rattle.upload_window.proofs.Order.{is_frontier}
use Rattle.plain_disk.specs.declared.log.PlainCommit.{PlainCommit}
use Rattle.plain_disk.specs.Log.{PlainLog}
use Rattle.plain_disk.specs.Cache.{PlainCache, commit_or, keeps_opened_gate, kept_commit}
use Rattle.plain_disk.specs.State.{PlainState, PlainCheckpoint, stream_in, history_length, frontier_of, frontier_end}
use Rattle.plain_disk.specs.Checkpoints.{checkpoint_at, newest_landed, landed_checkpoint}
use Rattle.plain_disk.specs.Removals.{maps, has}
use Rattle.plain_disk.specs.Stops.{landed_after, recovered_number, recovered_end}
use Rattle.plain_disk.specs.Valid.{IsLaterCommit, IsPlainLog, IsPlainVolume, MayLand, StopsKeepPlainVolume, StopKeepsAcknowledged}
use Rattle.plain_disk.specs.Valid.{is_checkpoint_from, RecoversBeforeFirstMissing, OwnersHaveLanded}
use Rattle.plain_disk.proofs.EndLemmas.{ends_grow, ends_within, frontier_is_sealed}
use Rattle.plain_disk.proofs.CheckpointLemmas.{any_tells, both_true, either_true, same_number, all_past, newest_is, landed_is}
use Rattle.plain_disk.proofs.CheckpointLemmas.{maps_what_owns, landed_from, given_is_unneeded}

-- ---- numbers that have landed

from_number : (landed : Numbers) (number count : ℕ) → number ≤ landed_after landed number count
from_number landed number zero = omega arith
from_number landed number (suc count) =
    let rest : number + 1 ≤ landed_after landed (number + 1) count = from_number landed (number + 1) count in
    elim (landed (number + 1)) as (λ b. number ≤ cond b (landed_after landed (number + 1) count) number) [
      | true ↦ omega arith
      | false ↦ omega arith
    ]

pub up_to_count : (landed : Numbers) (number count : ℕ) → landed_after landed number count ≤ number + count
up_to_count landed number zero = omega arith
up_to_count landed number (suc count) =
    let rest : landed_after landed (number + 1) count ≤ number + 1 + count = up_to_count landed (number + 1) count in
    elim (landed (number + 1)) as (λ b. cond b (landed_after landed (number + 1) count) number ≤ number + suc count) [
      | true ↦ omega arith
      | false ↦ omega arith
    ]

-- all of them up to a number are reached
pub reaches : (landed : Numbers) (number count to : ℕ) → ((k : ℕ) → number < k → k ≤ to → IsTrue (landed k)) → to ≤ number + count
    → to ≤ landed_after landed number count
reaches landed number zero to all is = omega arith
reaches landed number (suc count) to all is =
    elim (cases_lt number to) [
      | inl below ↦
          let here : landed (number + 1) ≡ true = all (number + 1) (omega arith) (omega arith) in
          rw here (reaches landed (number + 1) count to (λ k above most. all k (omega arith) most) (omega arith))
      | inr from ↦ let first = from_number landed number (suc count) in omega (arith, first)
    ]

-- what is reached has landed, and the next has not
pub have_landed : (landed : Numbers) (number count k : ℕ) → number < k → k ≤ landed_after landed number count → IsTrue (landed k)
have_landed landed number zero k above most = absurd (omega arith)
have_landed landed number (suc count) k above most =
    elim (landed (number + 1)) as (λ b. landed (number + 1) ≡ b → k ≤ cond b (landed_after landed (number + 1) count) number
    → IsTrue (landed k)) [
      | true ↦ λ here reached. elim (cases_lt (number + 1) k) [
        | inl later ↦ have_landed landed (number + 1) count k later reached
        | inr first ↦ let same : k ≡ number + 1 = omega arith in rw same here
      ]
      | false ↦ λ here reached. absurd (omega arith)
    ] refl most

next_has_not : (landed : Numbers) (number count : ℕ) → landed (number + count + 1) ≡ false
    → landed (landed_after landed number count + 1) ≡ false
next_has_not landed number zero absent = let same : number + 1 ≡ number + 0 + 1 = omega arith in rw same absent
next_has_not landed number (suc count) absent =
    let same : number + 1 + count + 1 ≡ number + suc count + 1 = omega arith in
    elim (landed (number + 1)) as (λ b. landed (number + 1) ≡ b
    → landed (cond b (landed_after landed (number + 1) count) number + 1) ≡ false) [
      | true ↦ λ here. next_has_not landed (number + 1) count (rw same absent)
      | false ↦ λ here. here
    ] refl

-- ---- how far a recovery gets

-- no object from the newest acknowledged checkpoint on was given out for removal
none_given : (state : PlainState) (k : ℕ) → IsPlainVolume state → state.checkpoint.number ≤ k → has state.given_out k ≡ false
none_given state k h from =
    elim (has state.given_out k) as (λ b. has state.given_out k ≡ b → b ≡ false) [
      | true ↦ λ is.
          (let old = given_is_unneeded state.checkpoint state.given_out k h.checkpoint.unneeded is in
          absurd (omega (arith, old.before)))
      | false ↦ λ is. refl
    ] refl

-- each object from there up to the frontier has landed
has_landed : (state : PlainState) (landed : Numbers) → IsPlainVolume state → MayLand state landed
    → (k : ℕ) → state.checkpoint.number ≤ k → k ≤ frontier_of state → IsTrue (landed k)
has_landed state landed h may k from most =
    let some : 0 < k = omega (arith, h.checkpoint.numbered) in
    may.surely k some ((is_frontier state.window.objects state.window.last h.window.order).reached k some most)
    (none_given state k h from)

-- the newest checkpoint that has landed is not past the last object
base_is_sealed : (state : PlainState) (landed : Numbers) → IsPlainVolume state
    → (landed_checkpoint landed state).number ≤ last_number (stream_in state)
base_is_sealed state landed h = (landed_is state landed h).reached

-- a recovery gets to the frontier at least, and to the last object at most
pub recovers_frontier : (state : PlainState) (landed : Numbers) → IsPlainVolume state → MayLand state landed
    → frontier_of state ≤ recovered_number landed state
recovers_frontier state landed h may =
    let base = (landed_checkpoint landed state).number in
    let from = landed_from state landed h in
    reaches landed base (last_number (stream_in state) - base) (frontier_of state)
    (λ k above most. has_landed state landed h may k (omega arith) most)
    (omega (arith, frontier_is_sealed state h))

pub recovers_base : (state : PlainState) (landed : Numbers) → (landed_checkpoint landed state).number
    ≤ recovered_number landed state
recovers_base state landed =
    let base = (landed_checkpoint landed state).number in
    from_number landed base (last_number (stream_in state) - base)

pub recovers_sealed : (state : PlainState) (landed : Numbers) → IsPlainVolume state
    → recovered_number landed state ≤ last_number (stream_in state)
recovers_sealed state landed h =
    let base = (landed_checkpoint landed state).number in
    omega (arith, up_to_count landed base (last_number (stream_in state) - base), base_is_sealed state landed h)

pub recovers_end : (state : PlainState) (landed : Numbers) → IsPlainVolume state → MayLand state landed
    → frontier_end state ≤ recovered_end landed state
recovers_end state landed h may =
    ends_grow (stream_in state) (frontier_of state) (recovered_number landed state) h.stream.ends
    (recovers_frontier state landed h may)

pub recovers_within : (state : PlainState) (landed : Numbers) → IsPlainVolume state
    → recovered_end landed state ≤ history_length state
recovers_within state landed h = ends_within state (recovered_number landed state) h (recovers_sealed state landed h)

-- ---- the commit that a stop leaves

pub last_is_later : (end count : ℕ) (log : PlainLog) → IsPlainLog end count log
    → IsLaterCommit log.size end count log.last log.last
last_is_later end count log h = record { within = h.last; tail = omega arith; head = omega arith }

unfinished_is_later : (size end count : ℕ) (last : PlainCommit) (unfinished : Option PlainCommit)
    → IsLaterCommit size end count last last → IfSome unfinished (IsLaterCommit size end count last)
    → IsLaterCommit size end count last (commit_or unfinished last)
unfinished_is_later size end count last None same h = same
unfinished_is_later size end count last (Some commit) same h = h

pub kept_is_later : (end count : ℕ) (kept : List Bool) (cache : PlainCache) → IsPlainLog end count cache.log
    → IsLaterCommit cache.log.size end count cache.log.last (kept_commit kept cache)
kept_is_later end count kept cache h =
    let last = cache.log.last in
    let same : IsLaterCommit cache.log.size end count last last = last_is_later end count cache.log h in
    elim (keeps_opened_gate cache.pending kept) as (λ b. IsLaterCommit cache.log.size end count last
    (cond b (commit_or cache.log.unfinished last) last)) [
      | true ↦ unfinished_is_later cache.log.size end count last cache.log.unfinished same h.unfinished
      | false ↦ same
    ]

-- ---- the laws

pub stops_keep : StopsKeepPlainVolume
stops_keep state calls h = record {
  limits = h.limits;
  sectors = h.sectors;
  owned = h.owned;
  payloads = h.payloads;
  in_range = h.in_range;
  stream = h.stream;
  window = h.window;
  last = h.last;
  opened = h.opened;
  begun = h.begun;
  checkpoint = h.checkpoint;
  held = h.held;
  log = h.log;
  size = h.size;
}

pub stop_keeps_acknowledged : StopKeepsAcknowledged
stop_keeps_acknowledged state landed kept h may =
    let found = kept_is_later (frontier_end state) (history_length state) kept state.cache h.log in
    let within = recovers_within state landed h in
    let last = found.head in
    let count = found.within.head in (
      recovers_frontier state landed h may,
      recovers_end state landed h may,
      omega arith,
      omega (arith, last),
      omega
          (arith, within, count),
    )

-- the newest checkpoint that has landed is one
pub base_is_checkpoint : (state : PlainState) (landed : Numbers)
    → is_checkpoint_from state (landed_checkpoint landed state).number ≡ true
base_is_checkpoint state landed =
    let objects = state.window.objects in
    let own : (n : ℕ) → eqb n n ≡ true = λ n. grind (arith, nat_tests) in
    newest_is (λ c. is_checkpoint_from state c.number ≡ true) landed state state.checkpoint objects
    (ap (λ b. b || list_any (λ o. has_number state.checkpoint.number o && o.is_checkpoint) objects)
    (own state.checkpoint.number))
    (λ k d inside is.
    let n = (get_or objects k d).number in
    let there = list_any_at (λ o. has_number n o && o.is_checkpoint) objects k d inside
    (ap (λ b. b && (get_or objects k d).is_checkpoint) (own n)
    ∙ (both_true (get_or objects k d).is_checkpoint (landed n) is).0) in
    ap (λ b. eqb n state.checkpoint.number || b) there ∙ or-true (eqb n state.checkpoint.number))

pub base_has_landed : (state : PlainState) (landed : Numbers) → IsPlainVolume state → MayLand state landed
    → IsTrue (landed (landed_checkpoint landed state).number)
base_has_landed state landed h may =
    newest_is (λ c. IsTrue (landed c.number)) landed state state.checkpoint state.window.objects
    (has_landed state landed h may state.checkpoint.number (omega arith) h.checkpoint.reached)
    (λ k d inside is. (both_true (get_or state.window.objects k d).is_checkpoint
    (landed (get_or state.window.objects k d).number) is).1)

-- and no open one that has landed has a greater number
none_newer : (landed : Numbers) (state : PlainState) (before : PlainCheckpoint) (low last : ℕ) (objects : List OpenObject)
    → Ascends low objects last
    → All (λ o. (o.is_checkpoint && landed o.number) ≡ true → o.number ≤ (newest_landed landed state before objects).number)
    objects
none_newer landed state before low last [] order =
    All-nil (λ o. (o.is_checkpoint && landed o.number) ≡ true → o.number ≤ before.number)
none_newer landed state before low last (object ∷ objects) order =
    let test = object.is_checkpoint && landed object.number in
    let here = checkpoint_at object.number state in
    let next = cond test here before in
    let itself : object.number ≤ object.number = omega arith in
    let from : (c : PlainCheckpoint) → object.number ≤ c.number → object.number ≤ (newest_landed landed state c objects).number =
    λ c is. newest_is (λ later. object.number ≤ later.number) landed state c objects is
    (All-weaker (λ o. (object.number < o.number) × (o.number ≤ last))
    (λ o. (o.is_checkpoint && landed o.number) ≡ true → object.number ≤ o.number)
    (λ o past tested. omega (arith, past.0)) objects (all_past object.number objects last order.1)) in
    All-cons (λ o. (o.is_checkpoint && landed o.number) ≡ true → o.number ≤ (newest_landed landed state next objects).number)
    object objects
    (λ is. from next (subst (λ b. object.number ≤ (cond b here before).number) (sym is) itself))
    (none_newer landed state next object.number last objects order.1)

pub newest_of_all : (state : PlainState) (landed : Numbers) (other : ℕ) → IsPlainVolume state
    → is_checkpoint_from state other ≡ true → landed other ≡ true → other ≤ (landed_checkpoint landed state).number
newest_of_all state landed other h is there =
    let objects = state.window.objects in
    let base = (landed_checkpoint landed state).number in
    let from = landed_from state landed h in
    elim (either_true (eqb other state.checkpoint.number)
    (list_any (λ o. has_number other o && o.is_checkpoint) objects) is) [
      | inl same ↦ omega (arith, same_number other state.checkpoint.number same)
      | inr any ↦ any_tells (λ o. has_number other o && o.is_checkpoint)
          (λ o. (o.is_checkpoint && landed o.number) ≡ true → o.number ≤ base) (other ≤ base) objects any
          (none_newer landed state state.checkpoint 0 state.window.last objects h.window.order)
          (λ o tested newest.
          let both = both_true (has_number other o) o.is_checkpoint tested in
          let same = same_number o.number other both.0 in
          let landed_too : landed o.number ≡ true = rw same there in
          omega (arith, same, newest (rw both.1 landed_too)))
    ]

pub recovers_before_missing : RecoversBeforeFirstMissing
recovers_before_missing state landed checkpoint h may is =
    let from = (landed_checkpoint landed state).number in
    let count = last_number (stream_in state) - from in
    let sealed : from ≤ last_number (stream_in state) = base_is_sealed state landed h in
    let past : landed (from + count + 1) ≡ false =
    elim (landed (from + count + 1)) as (λ b. landed (from + count + 1) ≡ b → b ≡ false) [
      | true ↦ λ there. absurd (may.perhaps (from + count + 1) (omega (arith, h.last)) there)
      | false ↦ λ there. refl
    ] refl in
    record {
      base = from;
      newest = record {
        is_checkpoint = is from (landed_from state landed h) ∙ base_is_checkpoint state landed;
        has_landed = base_has_landed state landed h may;
        newest = λ other one there. elim (cases_lt other state.checkpoint.number) [
          | inl before ↦ omega (arith, before, landed_from state landed h)
          | inr later ↦ newest_of_all state landed other h (sym (is other later) ∙ one) there
        ];
      };
      above = omega (arith, from_number landed from count);
      absent = next_has_not landed from count past;
      least = λ number above below. have_landed landed from count number above (omega arith);
    }

-- the newest checkpoint that has landed is at most the lowest open object, since its put was begun
pub base_is_lowest : (state : PlainState) (landed : Numbers) → IsPlainVolume state → MayLand state landed
    → (landed_checkpoint landed state).number ≤ frontier_of state + 1
base_is_lowest state landed h may =
    newest_is (λ c. c.number ≤ frontier_of state + 1) landed state state.checkpoint state.window.objects
    (omega (arith, h.checkpoint.reached))
    (λ k d inside is.
    let object = get_or state.window.objects k d in
    let checkpoint = (both_true object.is_checkpoint (landed object.number) is).0 in
    h.begun k d inside (ap (λ b. b && object.is_checkpoint) (may.begun k d inside is) ∙ checkpoint))

-- what it maps has landed
pub mapped_has_landed : (state : PlainState) (landed : Numbers) (number : ℕ) → IsPlainVolume state → MayLand state landed
    → 0 < number → number < (landed_checkpoint landed state).number
    → maps (landed_checkpoint landed state) number ≡ true → IsTrue (landed number)
mapped_has_landed state landed number h may some before mapped =
    let base = landed_checkpoint landed state in
    let is = landed_is state landed h in
    let most : number ≤ frontier_of state = omega (arith, base_is_lowest state landed h may) in
    may.surely number some ((is_frontier state.window.objects state.window.last h.window.order).reached number some most)
    (elim (has state.given_out number) as (λ b. has state.given_out number ≡ b → b ≡ false) [
      | true ↦ λ given.
          (let old = given_is_unneeded base state.given_out number is.unneeded given in
          let unmapped = old.unmapped in
          let bad : ⊥ = cc in absurd bad)
      | false ↦ λ given. refl
    ] refl)

pub owners_have_landed : OwnersHaveLanded
owners_have_landed state landed number k h may some most owns =
    let base = landed_checkpoint landed state in
    let from = base.number in
    let last = last_number (stream_in state) in
    elim (cases_lt number from) [
      | inl before ↦
          mapped_has_landed state landed number h may some before
          (maps_what_owns (stream_in state) last state.given_out base (recovered_number landed state) number k h.stream
          (landed_is state landed h) (omega arith) (recovers_base state landed) before owns)
      | inr later ↦ elim (cases_lt from number) [
        | inl above ↦ have_landed landed from (last - from) number above most
        | inr first ↦ (let same : number ≡ from = omega arith in rw same (base_has_landed state landed h may))
      ]
    ]
