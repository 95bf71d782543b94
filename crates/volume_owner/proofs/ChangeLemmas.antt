-- What a step of a volume makes of how far the plain volume's objects have come, by each of its changes.
use Rattle.std.proofs.Common.{arith, ◌≡◌, ℕ, zero, suc, ◌+◌, ◌-◌, ◌<◌, ◌≤◌, nat_lt, nat_le, nat_eq, ◌||◌, Bool, true, false, cond}
use Rattle.std.proofs.Common.{not, ◌&&◌, find, List, [], ◌∷◌, ◌++◌, refl, sym, ◌∙◌, ap, inl, inr, subst}
use Rattle.std.specs.Prelude.{Some, None, if◌then◌else◌}
use Rattle.std.specs.List.{All, list_any, range_with_len}
use Rattle.std.proofs.Math.Bool.{or-false}
use Rattle.std.proofs.lemmas.Bool.{cases_eq, ne_eqb}
use Rattle.std.proofs.lemmas.Bool.Decides.{nat_tests}
use Rattle.std.proofs.lemmas.List.Folds.{list_any-append}
use Rattle.std.proofs.lemmas.List.Elements.{All-head, All-tail}
use Rattle.lsvd_names.specs.Names.{numbered_name}
use Rattle.lsvd_objstore.specs.Objects.{Objects, found}
use Rattle.refine_mount.specs.Found.{expected_for}
use Rattle.object_uploads.specs.Changes.{IsOut}
use Rattle.plain_disk.specs.State.{PlainState}
use Rattle.plain_disk.specs.Removals.{has, is_removable, to_remove}
use Rattle.plain_disk.specs.Valid.{IsPlainVolume}
use Rattle.plain_disk.proofs.CheckpointLemmas.{given_is_unneeded, removable_is_unneeded}
use Rattle.stopped_volume.specs.Store.PutState.{Acknowledged, GivenOut, Begun}
use Rattle.refine_store.specs.Puts.{IsObjectOf, state_of_put}
use Rattle.upload_window.specs.Window.{WindowState, below_open, has_number, is_started, was_started, entered, marked}
use Rattle.upload_window.specs.Window.{acknowledged}
use Rattle.upload_window.proofs.Starts.{started_were}
use Rattle.vol_core.specs.Volume.{VolumeState}
use Rattle.vol_core.specs.Shows.{Shows}
use Rattle.vol_core.specs.Step.{HasBytesOf}
use Rattle.volume_owner.proofs.EventLeaves.{has_last}
use Rattle.volume_owner.proofs.MarkLemmas.{open_within, started_open, state_by, put_state, was_begun_is, failed_state}
use Rattle.volume_owner.proofs.MarkLemmas.{begun_others, begun_itself, done_others, done_itself}
use Rattle.volume_owner.proofs.MarkLemmas.{closed_state, sealed_others, sealed_itself}
use Rattle.volume_owner.proofs.StandLemmas.{has_put, is_put, past_has_none, removed_has_none}
use Rattle.volume_owner.proofs.KeepLemmas.{SameAt, IsObjectStep, stays, changes, begins, ends, seals, gives_out, removes}

-- ---- where nothing changes

pub same_everywhere : (plain after : PlainState) → after.window ≡ plain.window → after.given_out ≡ plain.given_out
    → after.removed ≡ plain.removed → (n : ℕ) → SameAt plain after n
same_everywhere plain after window given_out removed n = record {
  put = ap (λ (w : WindowState). nat_lt 0 n && (nat_le n w.last && not (has after.removed n))) window
      ∙ ap (λ r. nat_lt 0 n && (nat_le n plain.window.last && not (has r n))) removed;
  state = ap (λ (w : WindowState). put_state w after.given_out n) window ∙ ap (λ g. put_state plain.window g n) given_out;
}

-- ---- numbers that were given out or removed

not_both : (b : Bool) → (b ≡ true → ⊥) → b ≡ false
not_both true other = absurd (other refl)
not_both false other = refl

has_others : (numbers : List ℕ) (n k : ℕ) → (k ≡ n → ⊥) → has (numbers ++ n ∷ []) k ≡ has numbers k
has_others numbers n k other =
    let not_it : nat_eq n k ≡ false = ne_eqb n k (λ e. other (sym e)) in
    list_any-append (λ m. nat_eq m k) numbers (n ∷ []) ∙ ap (λ b. has numbers k || (b || false)) not_it
    ∙ or-false (has numbers k)

all_has : (P : ℕ → Type 0) (numbers : List ℕ) (n : ℕ) → All P numbers → has numbers n ≡ true → P n
all_has P [] n all is = let bad : ⊥ = cc in absurd bad
all_has P (m ∷ numbers) n all is =
    elim (cases_eq m n) [
      | inl same ↦ subst P same (All-head P m numbers all)
      | inr other ↦
          let not_it : nat_eq m n ≡ false = ne_eqb m n other in
          let later : has numbers n ≡ true = rw not_it at is in
          all_has P numbers n (All-tail P m numbers all) later
    ]

-- none that no mount needs is open
unneeded_closed : (plain : PlainState) (n : ℕ) → IsPlainVolume plain → n < plain.checkpoint.number
    → list_any (has_number n) plain.window.objects ≡ false
unneeded_closed plain n valid before =
    not_both (list_any (has_number n) plain.window.objects)
    (λ open_.
    (let within = open_within n 0 plain.window.objects plain.window.last valid.window.order open_ in
    omega (arith, before, within.0, valid.checkpoint.reached)))

given_before : (plain : PlainState) (n : ℕ) → IsPlainVolume plain → has plain.given_out n ≡ true → n < plain.checkpoint.number
given_before plain n valid given =
    (given_is_unneeded plain.checkpoint plain.given_out n valid.checkpoint.unneeded given).before

open_not_given : (plain : PlainState) (n : ℕ) → IsPlainVolume plain → below_open plain.window < n
    → has plain.given_out n ≡ false
open_not_given plain n valid past =
    not_both (has plain.given_out n) (λ given. omega (arith, given_before plain n valid given, past, valid.checkpoint.reached))

pub given_state : (plain : PlainState) (n : ℕ) → IsPlainVolume plain → has plain.given_out n ≡ true
    → state_of_put plain n ≡ GivenOut
given_state plain n valid given =
    closed_state plain.window plain.given_out n (unneeded_closed plain n valid (given_before plain n valid given))
    ∙ ap (λ b. if b then GivenOut else Acknowledged) given

found_is : (test : ℕ → Bool) (from count n : ℕ) → find test (range_with_len from count) ≡ Some n → test n ≡ true
found_is test from zero n is = let bad : ⊥ = cc in absurd bad
found_is test from (suc count) n is =
    elim (test from) as (λ b. test from ≡ b → cond b (Some from) (find test (range_with_len (from + 1) count)) ≡ Some n
    → test n ≡ true) [
      | true ↦ λ passes same. (let e : from ≡ n = cc in subst (λ k. test k ≡ true) e passes)
      | false ↦ λ fails later. found_is test (from + 1) count n later
    ] refl is

-- ---- a put that is out

-- its put was begun, and it was not removed
pub record IsBegunPut (plain : PlainState) (n : ℕ) : Type 0 where
  pub there : has_put plain n ≡ true
  pub past : below_open plain.window < n
  pub begun : state_of_put plain n ≡ Begun
  pub started : is_started n plain.window.objects ≡ true

pub begun_put_is : (volume : VolumeState) (plain : PlainState) (n : ℕ) (bytes : List ℕ) → Shows volume plain
    → IsOut volume.objects.uploads n bytes → IsBegunPut plain n
begun_put_is volume plain n bytes shows out =
    let started : is_started n plain.window.objects ≡ true =
    ap (λ (w : WindowState). is_started n w.objects) (sym shows.objects.window) ∙ out.started in
    let within = open_within n 0 plain.window.objects plain.window.last shows.valid.window.order
    (started_open n plain.window.objects started) in
    let kept : has plain.removed n ≡ false =
    not_both (has plain.removed n) (λ gone.
    (let before = all_has (λ number. number < plain.checkpoint.number) plain.removed n shows.table.gone gone in
    omega (arith, before, within.0, shows.valid.checkpoint.reached))) in
    record {
      there = is_put plain n (record { some = omega (arith, within.0); within = within.1; kept = kept });
      past = within.0;
      begun = was_begun_is plain.window plain.given_out n (started_were plain.window shows.valid.window.starts n started);
      started = started;
    }

-- ---- the changes

le_other : (k last : ℕ) → (k ≡ last + 1 → ⊥) → nat_le k (last + 1) ≡ nat_le k last
le_other k last other = by_test (nat_le k last) refl
  where
    by_test : (b : Bool) → nat_le k last ≡ b → nat_le k (last + 1) ≡ b
    by_test true is = grind (arith, nat_tests)
    by_test false is = not_both (nat_le k (last + 1)) (λ within.
        (let below : k ≤ last + 1 = grind (arith, nat_tests) in
        let past : last < k = grind (arith, nat_tests) in
        other (omega (arith, below, past))))

module _ (uuid : List ℕ) (old : VolumeState) (objects : Objects) (plain after : PlainState) where
  -- a seal
  pub sealed_step : (is_checkpoint : Bool) → IsPlainVolume plain
      → after.window ≡ entered (plain.window.last + 1) is_checkpoint plain.window
      → after.given_out ≡ plain.given_out → after.removed ≡ plain.removed → IsObjectStep uuid old objects plain after
  sealed_step is_checkpoint valid window given_out removed =
      let n : ℕ = plain.window.last + 1 in
      let now : WindowState = entered n is_checkpoint plain.window in
      changes n
      (λ k other. record {
        put = ap (λ (w : WindowState). nat_lt 0 k && (nat_le k w.last && not (has after.removed k))) window
            ∙ ap (λ r. nat_lt 0 k && (nat_le k n && not (has r k))) removed
            ∙ ap (λ b. nat_lt 0 k && (b && not (has plain.removed k))) (le_other k plain.window.last other);
        state = ap (λ (w : WindowState). put_state w after.given_out k) window ∙ ap (λ g. put_state now g k) given_out
            ∙ sealed_others plain.window plain.given_out is_checkpoint k other;
      })
      (seals (past_has_none plain n (omega arith))
      (ap (λ (w : WindowState). put_state w after.given_out n) window
      ∙ sealed_itself plain.window after.given_out is_checkpoint valid.window.order))

  -- a put begins
  pub taken_step : (n : ℕ) (bytes : List ℕ) → after.window ≡ marked n true plain.window
      → after.given_out ≡ plain.given_out → after.removed ≡ plain.removed
      → list_any (has_number n) plain.window.objects ≡ true → HasBytesOf old n bytes
      → IsObjectOf (expected_for uuid plain) plain n bytes → IsObjectStep uuid old objects plain after
  taken_step n bytes window given_out removed open_ out object =
      changes n
      (λ k other. record {
        put = put_same k window removed;
        state = ap (λ (w : WindowState). put_state w after.given_out k) window
            ∙ ap (λ g. put_state (marked n true plain.window) g k) given_out
            ∙ begun_others plain.window plain.given_out k n other;
      })
      (begins bytes (put_same n window removed)
      (ap (λ (w : WindowState). put_state w after.given_out n) window ∙ begun_itself plain.window after.given_out n open_)
      open_ out object)
    where
      put_same : (k : ℕ) → after.window ≡ marked n true plain.window → after.removed ≡ plain.removed
          → has_put after k ≡ has_put plain k
      put_same k window removed =
          ap (λ (w : WindowState). nat_lt 0 k && (nat_le k w.last && not (has after.removed k))) window
          ∙ ap (λ r. nat_lt 0 k && (nat_le k plain.window.last && not (has r k))) removed

  -- a put is done
  pub done_step : (n : ℕ) (bytes : List ℕ) → IsPlainVolume plain
      → after.window ≡ cond (is_started n plain.window.objects) (acknowledged n plain.window) plain.window
      → after.given_out ≡ plain.given_out → after.removed ≡ plain.removed → IsBegunPut plain n → HasBytesOf old n bytes
      → found objects (numbered_name uuid n) ≡ Some bytes → IsObjectStep uuid old objects plain after
  done_step n bytes valid window given_out removed begun out there =
      let now : WindowState = acknowledged n plain.window in
      let is : after.window ≡ now = window ∙ ap (λ b. cond b now plain.window) begun.started in
      changes n
      (λ k other. record {
        put = put_same k is removed;
        state = ap (λ (w : WindowState). put_state w after.given_out k) is ∙ ap (λ g. put_state now g k) given_out
            ∙ done_others plain.window plain.given_out k n other;
      })
      (ends bytes (put_same n is removed)
      (ap (λ (w : WindowState). put_state w after.given_out n) is
      ∙ ap (λ g. put_state now g n) given_out
      ∙ done_itself plain.window plain.given_out n valid.window.order (open_not_given plain n valid begun.past))
      begun.begun out there)
    where
      put_same : (k : ℕ) → after.window ≡ acknowledged n plain.window → after.removed ≡ plain.removed
          → has_put after k ≡ has_put plain k
      put_same k window removed =
          ap (λ (w : WindowState). nat_lt 0 k && (nat_le k w.last && not (has after.removed k))) window
          ∙ ap (λ r. nat_lt 0 k && (nat_le k plain.window.last && not (has r k))) removed

  -- a put fails: it is begun still
  pub failed_step : (n : ℕ)
      → after.window ≡ cond (is_started n plain.window.objects) (marked n false plain.window) plain.window
      → after.given_out ≡ plain.given_out → after.removed ≡ plain.removed → IsBegunPut plain n
      → IsObjectStep uuid old objects plain after
  failed_step n window given_out removed begun =
      let now : WindowState = marked n false plain.window in
      let is : after.window ≡ now = window ∙ ap (λ b. cond b now plain.window) begun.started in
      stays (λ k. record {
        put = ap (λ (w : WindowState). nat_lt 0 k && (nat_le k w.last && not (has after.removed k))) is
            ∙ ap (λ r. nat_lt 0 k && (nat_le k plain.window.last && not (has r k))) removed;
        state = ap (λ (w : WindowState). put_state w after.given_out k) is ∙ ap (λ g. put_state now g k) given_out
            ∙ failed_state plain.window plain.given_out k n;
      })

  -- an object is given out for removal
  pub given_out_step : (n : ℕ) → IsPlainVolume plain → after.window ≡ plain.window
      → after.given_out ≡ plain.given_out ++ n ∷ [] → after.removed ≡ plain.removed
      → to_remove plain ≡ Some n → IsObjectStep uuid old objects plain after
  given_out_step n valid window given_out removed lowest =
      let before = (removable_is_unneeded plain n (found_is (is_removable plain) 1 (plain.checkpoint.number - 1) n lowest)).before
      in
      let closed = unneeded_closed plain n valid before in
      let given : List ℕ = plain.given_out ++ n ∷ [] in
      changes n
      (λ k other. record {
        put = put_same k window removed;
        state = ap (λ (w : WindowState). put_state w after.given_out k) window ∙ ap (λ g. put_state plain.window g k) given_out
            ∙ state_given k (has given k) (has plain.given_out k) (has_others plain.given_out n k other);
      })
      (gives_out (put_same n window removed)
      (ap (λ (w : WindowState). put_state w after.given_out n) window ∙ ap (λ g. put_state plain.window g n) given_out
      ∙ closed_state plain.window given n closed
      ∙ ap (λ b. if b then GivenOut else Acknowledged) (has_last plain.given_out n)) closed)
    where
      put_same : (k : ℕ) → after.window ≡ plain.window → after.removed ≡ plain.removed → has_put after k ≡ has_put plain k
      put_same k window removed =
          ap (λ (w : WindowState). nat_lt 0 k && (nat_le k w.last && not (has after.removed k))) window
          ∙ ap (λ r. nat_lt 0 k && (nat_le k plain.window.last && not (has r k))) removed

      state_given : (k : ℕ) (x y : Bool) → x ≡ y
          → state_by (was_started k plain.window.objects) (list_any (has_number k) plain.window.objects) x
          ≡ state_by (was_started k plain.window.objects) (list_any (has_number k) plain.window.objects) y
      state_given k x y same =
          ap (state_by (was_started k plain.window.objects) (list_any (has_number k) plain.window.objects)) same

  -- an object is removed
  pub removed_step : (n : ℕ) → after.window ≡ plain.window → after.given_out ≡ plain.given_out
      → after.removed ≡ plain.removed ++ n ∷ [] → found objects (numbered_name uuid n) ≡ None
      → IsObjectStep uuid old objects plain after
  removed_step n window given_out removed none =
      changes n
      (λ k other. record {
        put = ap (λ (w : WindowState). nat_lt 0 k && (nat_le k w.last && not (has after.removed k))) window
            ∙ ap (λ b. nat_lt 0 k && (nat_le k plain.window.last && not b))
            (ap (λ r. has r k) removed ∙ has_others plain.removed n k other);
        state = ap (λ (w : WindowState). put_state w after.given_out k) window
            ∙ ap (λ g. put_state plain.window g k) given_out;
      })
      (removes (removed_has_none after n (ap (λ r. has r n) removed ∙ has_last plain.removed n)) none)
