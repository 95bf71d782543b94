-- What a stop leaves of the store of a rig, where some of the objects under way have landed.
use Rattle.std.proofs.Common.{◌≡◌, ℕ, zero, suc, ◌+◌, ◌-◌, ◌<◌, ◌≤◌, ◌==◌, nat_eq, nat_le, Bool, true, false, cond, not, ◌&&◌}
use Rattle.std.proofs.Common.{◌||◌, List, [], ◌∷◌, length}
use Rattle.std.proofs.Common.{map, max, refl, sym, ◌∙◌, ap, subst, inl, inr, arith}
use Rattle.std.specs.Prelude.{Option, Some, None, is_some, option_map, unwrap_or}
use Rattle.std.specs.List.{AllByRecursion, list_any}
use Rattle.std.proofs.Math.Bool.{or-true}
use Rattle.std.proofs.lemmas.Bool.{cases_eq, eq-eqb, ne_eqb, le-leb, lt-leb, leb-true}
use Rattle.lsvd_names.specs.Names.{numbered_name}
use Rattle.lsvd_objstore.specs.Objects.{Objects, found}
use Rattle.lsvd_names.specs.declared.name.ObjName.{ObjName}
use Rattle.object_stream.specs.Landed.{Numbers}
use Rattle.object_stream.specs.Stream.{end_at, last_number}
use Rattle.stopped_volume.specs.Objects.{landed_in}
use Rattle.stopped_volume.specs.Store.{PutState, MayHoldPut}
use Rattle.stopped_volume.specs.Store.PutState.{Acknowledged, GivenOut, Begun, NotBegun}
use Rattle.upload_window.specs.declared.object.OpenObject.{OpenObject}
use Rattle.upload_window.specs.Window.{IsAcknowledged, Ascends, has_number, was_started, was_started_with}
use Rattle.plain_disk.specs.declared.log.PlainCommit.{PlainCommit}
use Rattle.plain_disk.specs.Log.{mounted_log, empty_from}
use Rattle.plain_disk.specs.Cache.{cache_with}
use Rattle.plain_disk.specs.Checkpoints.{checkpoint_at, newest_landed, landed_checkpoint}
use Rattle.plain_disk.specs.Removals.{has, absent_of}
use Rattle.plain_disk.specs.State.{PlainState, PlainCheckpoint, stream_in}
use Rattle.plain_disk.specs.Stops.{landed_after, recovered_number, found_with, mounted_from, mounted_lost}
use Rattle.refine_mount.specs.Found.{HasHolds}
use Rattle.refine_store.specs.Puts.{IsObjectOf, state_of_put, AreBytesOfPut, ArePuts, MayBeLeft}
use Rattle.transcript.specs.Letters.{under_way, has_landed, landed_by}
use Rattle.replay_rig.specs.Puts.{PutView}
use Rattle.replay_rig.specs.Rig.{RigState, script_uuid, expected_of_plain, AreUnderWay, IsFirstUnderWay, HasBytesOfObject}
use Rattle.replay_rig.specs.Rig.{IsKeptObject, ShowsPlain, LandsAs, Lands}
use Rattle.replay_rig.proofs.Describing.{lands_keep_volume, lands_inherit, lands_leave_none}
use Rattle.replay_rig.proofs.Stepped.{all_puts}
use Rattle.replay_rig.proofs.WindowLemmas.{under_way_numbers}
use Rattle.replay_rig.proofs.Putting.{open_within, open_is_kept}

-- ---- the objects under way

all_both : (P Q : PutView → Type 0) (puts : List PutView) → AllByRecursion P puts → AllByRecursion Q puts
    → AllByRecursion (λ put. P put × Q put) puts
all_both P Q [] first second = tt
all_both P Q (put ∷ puts) first second = ((first.0, second.0), all_both P Q puts first.1 second.1)

-- of each a put was ever begun
started_first : (object : OpenObject) (objects : List OpenObject) (n : ℕ) → object.number ≡ n → object.was_started ≡ true
    → was_started n (object ∷ objects) ≡ true
started_first object objects n is was =
    let here : nat_eq object.number n ≡ true = eq-eqb object.number n is in
    rw (here, was) refl

started_later : (object : OpenObject) (objects : List OpenObject) (n : ℕ) → was_started n objects ≡ true
    → was_started n (object ∷ objects) ≡ true
started_later object objects n was = rw was (or-true (was_started_with n object))

puts_started_by : (object : OpenObject) (objects : List OpenObject) (puts : List PutView) (b : Bool) → object.was_started ≡ b
    → ((more : List PutView) → AreUnderWay objects more → AllByRecursion (λ put. was_started put.number objects ≡ true) more)
    → IsFirstUnderWay b object puts (AreUnderWay objects)
    → AllByRecursion (λ put. was_started put.number (object ∷ objects) ≡ true) puts
puts_started_by object objects [] true was more are = absurd are
puts_started_by object objects (put ∷ puts) true was more are = (
  started_first object objects put.number (sym are.0) was,
  all_puts (λ p. was_started p.number objects ≡ true) (λ p. was_started p.number (object ∷ objects) ≡ true) puts
      (λ p is. started_later object objects p.number is) (more puts are.2),
)
puts_started_by object objects puts false was more are =
    all_puts (λ p. was_started p.number objects ≡ true) (λ p. was_started p.number (object ∷ objects) ≡ true) puts
    (λ p is. started_later object objects p.number is) (more puts are)

puts_started : (objects : List OpenObject) (puts : List PutView) → AreUnderWay objects puts
    → AllByRecursion (λ put. was_started put.number objects ≡ true) puts
puts_started [] puts are = subst (AllByRecursion (λ put. was_started put.number [] ≡ true)) (sym are) tt
puts_started (object ∷ objects) puts are = puts_started_by object objects puts object.was_started refl (puts_started objects) are

-- such an object is open
started_is_open : (n : ℕ) (objects : List OpenObject) → was_started n objects ≡ true → list_any (has_number n) objects ≡ true
started_is_open n [] is = cc
started_is_open n (object ∷ objects) is =
    let more = started_is_open n objects in
    elim (has_number n object) as (λ b. ((b && object.was_started) || was_started n objects) ≡ true
    → (b || list_any (has_number n) objects) ≡ true) [
      | true ↦ λ i. refl
      | false ↦ λ i. more i
    ] is

-- the one of a number
abbrev pub put_with : (n : ℕ) → List PutView → Option PutView
put_with n [] = None
put_with n (put ∷ puts) = cond (put.number == n) (Some put) (put_with n puts)

-- an object of which a put was ever begun is under way, and has what each of these has
pub record IsUnderWayWith (P : PutView → Type 0) (n : ℕ) (puts : List PutView) : Type 0 where
  pub put : PutView
  pub is : put_with n puts ≡ Some put
  pub number : put.number ≡ n
  pub has : P put

found_first : (P : PutView → Type 0) (n : ℕ) (put : PutView) (puts : List PutView) → P put → put.number ≡ n
    → IsUnderWayWith P n (put ∷ puts)
found_first P n put puts has is =
    let here : (put.number == n) ≡ true = eq-eqb put.number n is in
    record { put = put; is = ap (λ b. cond b (Some put) (put_with n puts)) here; number = is; has = has }

found_later : (P : PutView → Type 0) (n : ℕ) (put : PutView) (puts : List PutView) → (put.number ≡ n → ⊥)
    → IsUnderWayWith P n puts
    → IsUnderWayWith P n (put ∷ puts)
found_later P n put puts other h =
    let not_here : (put.number == n) ≡ false = ne_eqb put.number n other in
    record { put = h.put; is = ap (λ b. cond b (Some put) (put_with n puts)) not_here ∙ h.is; number = h.number; has = h.has }

under_way_by : (P : PutView → Type 0) (n : ℕ) (object : OpenObject) (objects : List OpenObject) (puts : List PutView) (b : Bool)
    → object.was_started ≡ b
    → ((more : List PutView) → AreUnderWay objects more → AllByRecursion P more → was_started n objects ≡ true
    → IsUnderWayWith P n more)
    → IsFirstUnderWay b object puts (AreUnderWay objects) → AllByRecursion P puts → was_started n (object ∷ objects) ≡ true
    → IsUnderWayWith P n puts
under_way_by P n object objects [] true was more are all started = absurd are
under_way_by P n object objects (put ∷ puts) true was more are all started =
    elim (cases_eq put.number n) [
      | inl is ↦ found_first P n put puts all.0 is
      | inr other ↦
          let not_here : nat_eq object.number n ≡ false = ne_eqb object.number n (λ e. other (are.0 ∙ e)) in
          let rest : was_started n objects ≡ true = rw not_here at started in
          found_later P n put puts other (more puts are.2 all.1 rest)
    ]
under_way_by P n object objects puts false was more are all started =
    let rest : was_started n objects ≡ true =
    (elim (has_number n object) as (λ c. ((c && object.was_started) || was_started n objects) ≡ true
    → was_started n objects ≡ true) [
      | true ↦ λ i. rw was at i
      | false ↦ λ i. i
    ]) started in
    more puts are all rest

under_way_with : (P : PutView → Type 0) (n : ℕ) (objects : List OpenObject) (puts : List PutView) → AreUnderWay objects puts
    → AllByRecursion P puts
    → was_started n objects ≡ true → IsUnderWayWith P n puts
under_way_with P n [] puts are all started = cc
under_way_with P n (object ∷ objects) puts are all started =
    under_way_by P n object objects puts object.was_started refl (under_way_with P n objects) are all started

-- ---- what has landed

-- the object of a number has landed: some put of P
pub record IsLandedAt (P : PutView → Type 0) (n : ℕ) (new : Objects) : Type 0 where
  pub put : PutView
  pub number : put.number ≡ n
  pub has : P put
  pub there : found new (numbered_name script_uuid n) ≡ Some put.bytes

-- the object of a number has landed, or stands as it did
abbrev pub LandedOr : (P : PutView → Type 0) → (n : ℕ) → (landed : Bool) → (old new : Objects) → Type 0
LandedOr P n true old new = IsLandedAt P n new
LandedOr P n false old new = found new (numbered_name script_uuid n) ≡ found old (numbered_name script_uuid n)

other_number : (n m : ℕ) → (m ≡ n → ⊥) → numbered_name script_uuid n ≡ numbered_name script_uuid m → ⊥
other_number n m other same = other (ap (λ (name : ObjName). name.number) (sym same))

-- one object more
lands_first : (P : PutView → Type 0) (n : ℕ) (put : PutView) (rest is_letter : Bool) (old middle new : Objects) → P put
    → LandsAs is_letter put old middle
    → LandedOr P n rest middle new → LandedOr P n ((put.number == n && is_letter) || rest) old new
lands_first P n put true is_letter old middle new has as_ later =
    subst (λ b. LandedOr P n b old new) (sym (or-true (put.number == n && is_letter))) later
lands_first P n put false true old middle new has as_ later =
    elim (cases_eq put.number n) [
      | inl is ↦
          let here : (put.number == n) ≡ true = eq-eqb put.number n is in
          subst (λ b. LandedOr P n ((b && true) || false) old new) (sym here)
          (record {
            put = put;
            number = is;
            has = has;
            there = later ∙ ap (λ k. found middle (numbered_name script_uuid k)) (sym is)
                ∙ as_.put;
          })
      | inr other ↦
          let not_here : (put.number == n) ≡ false = ne_eqb put.number n other in
          subst (λ b. LandedOr P n ((b && true) || false) old new) (sym not_here)
          (later ∙ as_.others (numbered_name script_uuid n) (other_number n put.number other))
    ]
lands_first P n put false false old middle new has as_ later =
    elim (put.number == n) as (λ b. LandedOr P n ((b && false) || false) old new) [
      | true ↦ later ∙ ap (λ os. found os (numbered_name script_uuid n)) as_
      | false ↦ later ∙ ap (λ os. found os (numbered_name script_uuid n)) as_
    ]

pub lands_at : (P : PutView → Type 0) (n : ℕ) (puts : List PutView) (letters : List ℕ) (old new : Objects) → AllByRecursion P puts
    → Lands puts letters old new → LandedOr P n (has_landed (map (λ put. put.number) puts) letters n) old new
lands_at P n [] letters old new all lands = ap (λ os. found os (numbered_name script_uuid n)) lands
lands_at P n (put ∷ puts) [] old new all lands = ap (λ os. found os (numbered_name script_uuid n)) lands
lands_at P n (put ∷ puts) (letter ∷ letters) old new all lands =
    let (middle, as_, more) = lands in
    lands_first P n put (has_landed (map (λ p. p.number) puts) letters n) (letter == 121) old middle new all.0 as_
    (lands_at P n puts letters middle new all.1 more)

-- ---- the store of a rig

-- what is known of an object under way
abbrev pub IsPutOf : PlainState → PutView → Type 0
IsPutOf plain put = HasBytesOfObject plain put × (was_started put.number plain.window.objects ≡ true)

-- the bytes of an object: those that the store has, or those of the put
abbrev pub bytes_now : Objects → List PutView → ℕ → List ℕ
bytes_now objects puts n =
    unwrap_or (found objects (numbered_name script_uuid n))
    (unwrap_or (option_map (λ (put : PutView). put.bytes) (put_with n puts)) [])

-- what a stop may leave of an object of a number
abbrev pub IsHeldAs : PlainState → PutState → (n : ℕ) → (bytes : List ℕ) → Option (List ℕ) → Type 0
IsHeldAs plain state n bytes held = AreBytesOfPut state (expected_of_plain plain) plain n bytes × MayHoldPut state bytes held

-- an object is acknowledged
abbrev pub is_acked : PlainState → ℕ → Bool
is_acked plain n = nat_le n plain.window.last && not (list_any (has_number n) plain.window.objects)

-- and was not removed
abbrev pub is_there : PlainState → ℕ → Bool
is_there plain n = is_acked plain n && not (has plain.removed n)

kept_is : (plain : PlainState) (n : ℕ) → IsKeptObject plain n → is_there plain n ≡ true
kept_is plain n is =
    let low : nat_le n plain.window.last ≡ true = le-leb n plain.window.last is.acknowledged.was_entered in
    let closed : list_any (has_number n) plain.window.objects ≡ false = is.acknowledged.not_open in
    let kept : has plain.removed n ≡ false = is.kept in
    rw (low, closed, kept) refl

gone_object : (rig : RigState) (plain : PlainState) (n : ℕ) → ShowsPlain rig plain → is_there plain n ≡ false
    → found rig.objects (numbered_name script_uuid n) ≡ None
gone_object rig plain n h not_ =
    h.stored.none_else n (λ is. (let e : false ≡ true = sym not_ ∙ kept_is plain n is in cc))

and_parts : (a b : Bool) → (a && not b) ≡ true → (a ≡ true) × (b ≡ false)
and_parts true true is = cc
and_parts true false is = (refl, refl)
and_parts false b is = cc

acked : (plain : PlainState) (n : ℕ) → is_acked plain n ≡ true → IsAcknowledged plain.window n
acked plain n is =
    let parts = and_parts (nat_le n plain.window.last) (list_any (has_number n) plain.window.objects) is in
    record { was_entered = leb-true n plain.window.last parts.0; not_open = parts.1 }

kept : (plain : PlainState) (n : ℕ) → 0 < n → is_there plain n ≡ true → IsKeptObject plain n
kept plain n some is =
    let parts = and_parts (is_acked plain n) (has plain.removed n) is in
    record { some = some; acknowledged = acked plain n parts.0; kept = parts.1 }

and_true : (b : Bool) → (b && true) ≡ b
and_true true = refl
and_true false = refl

-- a number up to the last that is not acknowledged is open
open_else : (plain : PlainState) (n : ℕ) → n ≤ plain.window.last → is_acked plain n ≡ false
    → list_any (has_number n) plain.window.objects ≡ true
open_else plain n low not_ =
    let e : nat_le n plain.window.last ≡ true = le-leb n plain.window.last low in
    let f : not (list_any (has_number n) plain.window.objects) ≡ false = rw e at not_ in
    not_not (list_any (has_number n) plain.window.objects) f
  where
    not_not : (b : Bool) → not b ≡ false → b ≡ true
    not_not true is = refl
    not_not false is = cc

pub puts_of : (rig : RigState) (plain : PlainState) → ShowsPlain rig plain → AllByRecursion (IsPutOf plain) rig.puts
puts_of rig plain h =
    all_both (HasBytesOfObject plain) (λ put. was_started put.number plain.window.objects ≡ true) rig.puts h.put_objects
    (puts_started plain.window.objects rig.puts h.puts)

-- the letters of the objects under way
abbrev letter_of : PlainState → List ℕ → ℕ → Bool
letter_of plain letters n = has_landed (under_way plain.window) letters n

pub landed_or : (rig : RigState) (plain : PlainState) (letters : List ℕ) (new : Objects) (n : ℕ) → ShowsPlain rig plain
    → Lands rig.puts letters rig.objects new → LandedOr (IsPutOf plain) n (letter_of plain letters n) rig.objects new
landed_or rig plain letters new n h lands =
    subst (λ numbers. LandedOr (IsPutOf plain) n (has_landed numbers letters n) rig.objects new)
    (under_way_numbers plain.window.objects rig.puts h.puts)
    (lands_at (IsPutOf plain) n rig.puts letters rig.objects new (puts_of rig plain h) lands)

-- which objects have landed, from 1 on, and of those that were removed
landed_by_case : (rig : RigState) (plain : PlainState) (new : Objects) (n : ℕ) (a b : Bool) → ShowsPlain rig plain
    → (a ≡ true → 0 < n) → is_there plain n ≡ a
    → LandedOr (IsPutOf plain) n b rig.objects new → landed_in new (expected_of_plain plain) n ≡ (a || b)
landed_by_case rig plain new n a true h some is at = ap is_some at.there ∙ sym (or-true a)
landed_by_case rig plain new n true false h some is at =
    (let had = h.stored.there n (kept plain n (some refl) is) in ap is_some (at ∙ had.1))
landed_by_case rig plain new n false false h some is at = ap is_some (at ∙ gone_object rig plain n h is)

module _ (rig : RigState) (plain : PlainState) (letters : List ℕ) (new : Objects) (h : ShowsPlain rig plain)
    (lands : Lands rig.puts letters rig.objects new) where
  pub landed_same : (n : ℕ) → 0 < n → landed_in new (expected_of_plain plain) n ≡ landed_by plain letters n
  landed_same n some =
      landed_by_case rig plain new n (is_there plain n) (letter_of plain letters n) h (λ is. some) refl
      (landed_or rig plain letters new n h lands)

  not_there : (n : ℕ) → has plain.removed n ≡ true → is_there plain n ≡ false
  not_there n removed =
      ap (λ b. is_acked plain n && not b) removed
      ∙ (elim (is_acked plain n) as (λ b. (b && false) ≡ false) [ true ↦ refl | false ↦ refl ])

  pub landed_gone : (n : ℕ) → has plain.removed n ≡ true
      → landed_in new (expected_of_plain plain) n ≡ landed_by plain letters n
  landed_gone n removed =
      landed_by_case rig plain new n (is_there plain n) (letter_of plain letters n) h
      (λ is. (let e : false ≡ true = sym (not_there n removed) ∙ is in cc)) refl
      (landed_or rig plain letters new n h lands)

-- ---- the puts

held_begun : (plain : PlainState) (n : ℕ) (held : Option (List ℕ)) (bytes rest : List ℕ) → held ≡ Some bytes
    → IsObjectOf (expected_of_plain plain) plain n bytes
    → IsHeldAs plain Begun n (unwrap_or held rest) held
held_begun plain n held bytes rest is object =
    subst (λ h. IsHeldAs plain Begun n (unwrap_or h rest) h) (sym is) (object, inr refl)

held_not_yet : (plain : PlainState) (n : ℕ) (held : Option (List ℕ)) (rest : List ℕ) → held ≡ None
    → IsObjectOf (expected_of_plain plain) plain n rest
    → IsHeldAs plain Begun n (unwrap_or held rest) held
held_not_yet plain n held rest is object = subst (λ h. IsHeldAs plain Begun n (unwrap_or h rest) h) (sym is) (object, inl refl)

held_acked : (plain : PlainState) (n : ℕ) (held : Option (List ℕ)) (bytes rest : List ℕ) → held ≡ Some bytes
    → IsObjectOf (expected_of_plain plain) plain n bytes
    → IsHeldAs plain Acknowledged n (unwrap_or held rest) held
held_acked plain n held bytes rest is object =
    subst (λ h. IsHeldAs plain Acknowledged n (unwrap_or h rest) h) (sym is) (object, refl)

-- the object of a put
object_of : (plain : PlainState) (n : ℕ) (put : PutView) → put.number ≡ n → HasBytesOfObject plain put
    → IsObjectOf (expected_of_plain plain) plain n put.bytes
object_of plain n put is has = subst (λ k. IsObjectOf (expected_of_plain plain) plain k put.bytes) is has

-- its state where its put began, where it is open, and else
abbrev rest_of_state : PlainState → (n : ℕ) → (is_open : Bool) → PutState
rest_of_state plain n is_open = cond is_open NotBegun (cond (has plain.given_out n) GivenOut Acknowledged)

begun_state : (plain : PlainState) (n : ℕ) → was_started n plain.window.objects ≡ true → state_of_put plain n ≡ Begun
begun_state plain n was = ap (λ b. cond b Begun (rest_of_state plain n (list_any (has_number n) plain.window.objects))) was

waiting_state : (plain : PlainState) (n : ℕ) → was_started n plain.window.objects ≡ false
    → list_any (has_number n) plain.window.objects ≡ true → state_of_put plain n ≡ NotBegun
waiting_state plain n never is_open =
    ap (λ b. cond b Begun (rest_of_state plain n (list_any (has_number n) plain.window.objects))) never
    ∙ ap (rest_of_state plain n) is_open

pub done_state : (plain : PlainState) (n : ℕ) → list_any (has_number n) plain.window.objects ≡ false
    → has plain.given_out n ≡ false → state_of_put plain n ≡ Acknowledged
done_state plain n closed not_given =
    let never : was_started n plain.window.objects ≡ false =
    (elim (was_started n plain.window.objects) as (λ b. was_started n plain.window.objects ≡ b → b ≡ false) [
      | true ↦ λ was. (let e : false ≡ true = sym closed ∙ started_is_open n plain.window.objects was in cc)
      | false ↦ λ never. refl
    ]) refl in
    ap (λ b. cond b Begun (rest_of_state plain n (list_any (has_number n) plain.window.objects))) never
    ∙ ap (rest_of_state plain n) closed
    ∙ ap (λ b. cond b GivenOut Acknowledged) not_given

-- what an object is held as that was not removed, where it is of this state
abbrev HeldNow : (rig : RigState) (plain : PlainState) (new : Objects) (n : ℕ) → PutState → Type 0
HeldNow rig plain new n state = IsHeldAs plain state n (bytes_now new rig.puts n) (found new (numbered_name script_uuid n))

held_case : (rig : RigState) (plain : PlainState) (new : Objects) (n : ℕ) (a b s : Bool) → ShowsPlain rig plain → 0 < n
    → n ≤ plain.window.last → has plain.removed n ≡ false
    → is_there plain n ≡ a → was_started n plain.window.objects ≡ s → LandedOr (IsPutOf plain) n b rig.objects new
    → HeldNow rig plain new n (state_of_put plain n)
held_case rig plain new n a true s h past low stays is was at =
    let started : was_started n plain.window.objects ≡ true = subst (λ k. was_started k plain.window.objects ≡ true) at.number
    at.has.1 in
    subst (HeldNow rig plain new n) (sym (begun_state plain n started))
    (held_begun plain n (found new (numbered_name script_uuid n)) at.put.bytes _ at.there
    (object_of plain n at.put at.number at.has.0))
held_case rig plain new n true false s h past low stays is was at =
    let own = kept plain n past is in
    let had = h.stored.there n own in
    let not_given : has plain.given_out n ≡ false = ap (λ numbers. has numbers n) h.removes.gone ∙ stays in
    subst (HeldNow rig plain new n) (sym (done_state plain n own.acknowledged.not_open not_given))
    (held_acked plain n (found new (numbered_name script_uuid n)) had.0 _ (at ∙ had.1) had.2)
held_case rig plain new n false false true h past low stays is was at =
    let put = under_way_with (IsPutOf plain) n plain.window.objects rig.puts h.puts (puts_of rig plain h) was in
    let rest : unwrap_or (option_map (λ (p : PutView). p.bytes) (put_with n rig.puts)) [] ≡ put.put.bytes =
    ap (λ p. unwrap_or (option_map (λ (q : PutView). q.bytes) p) []) put.is in
    subst (HeldNow rig plain new n) (sym (begun_state plain n was))
    (held_not_yet plain n (found new (numbered_name script_uuid n)) _ (at ∙ gone_object rig plain n h is)
    (subst (IsObjectOf (expected_of_plain plain) plain n) (sym rest) (object_of plain n put.put put.number put.has.0)))
held_case rig plain new n false false false h past low stays is was at =
    let unacked : is_acked plain n ≡ false = sym (and_true (is_acked plain n)) ∙ ap (λ b. is_acked plain n && not b) (sym stays)
    ∙ is in
    subst (HeldNow rig plain new n) (sym (waiting_state plain n was (open_else plain n low unacked)))
    (tt, at ∙ gone_object rig plain n h is)

held_as : (rig : RigState) (plain : PlainState) (letters : List ℕ) (new : Objects) (n : ℕ) → ShowsPlain rig plain
    → Lands rig.puts letters rig.objects new
    → 0 < n → n ≤ plain.window.last → has plain.removed n ≡ false → HeldNow rig plain new n (state_of_put plain n)
held_as rig plain letters new n h lands past low stays =
    held_case rig plain new n (is_there plain n) (letter_of plain letters n) (was_started n plain.window.objects) h past
    low stays refl refl
    (landed_or rig plain letters new n h lands)

-- what a store may hold of a put that is known
may_hold : (plain : PlainState) (state known : PutState) (bytes told : List ℕ) (held : Option (List ℕ))
    → ◌≡◌ {A = Option (PutState × List ℕ)} (Some (state, bytes)) (Some (known, told)) → MayHoldPut state bytes held
    → MayHoldPut known told held
may_hold plain state known bytes told held is holds =
    let same : ◌≡◌ {A = PutState × List ℕ} (state, bytes) (known, told) =
    ap (λ (o : Option (PutState × List ℕ)). unwrap_or o (state, bytes)) is in
    subst (λ (p : PutState × List ℕ). MayHoldPut p.0 p.1 held) same holds

-- an object that was removed has no put, nor has one that was never sealed
abbrev pub is_known : PlainState → ℕ → Bool
is_known plain n = nat_le 1 n && nat_le n plain.window.last && not (has plain.removed n)

-- the puts of a rig, by what the store has then
abbrev pub puts_now : PlainState → List PutView → Objects → ℕ → Option (PutState × List ℕ)
puts_now plain puts new n = cond (is_known plain n) (Some (state_of_put plain n, bytes_now new puts n)) None

known_is : (plain : PlainState) (n : ℕ) → 0 < n → n ≤ plain.window.last → has plain.removed n ≡ false → is_known plain n ≡ true
known_is plain n some low stays =
    let a : nat_le 1 n ≡ true = le-leb 1 n (omega (arith, some)) in
    let b : nat_le n plain.window.last ≡ true = le-leb n plain.window.last low in
    rw (a, b, stays) refl

-- one that is known is from 1 on, not past the last, and was not removed
record IsKnown (plain : PlainState) (n : ℕ) : Type 0 where
  some : 0 < n
  low : n ≤ plain.window.last
  stays : has plain.removed n ≡ false

both_parts : (a b : Bool) → (a && b) ≡ true → (a ≡ true) × (b ≡ true)
both_parts true b is = (refl, is)
both_parts false b is = cc

known : (plain : PlainState) (n : ℕ) → is_known plain n ≡ true → IsKnown plain n
known plain n is =
    let parts = and_parts (nat_le 1 n && nat_le n plain.window.last) (has plain.removed n) is in
    let within = both_parts (nat_le 1 n) (nat_le n plain.window.last) parts.0 in
    record {
      some = (let least = leb-true 1 n within.0 in omega (arith, least));
      low = leb-true n plain.window.last within.1;
      stays = parts.1;
    }

-- a number that is not known is none of an object on its way
module _ (rig : RigState) (plain : PlainState) (letters : List ℕ) (new : Objects) (h : ShowsPlain rig plain)
    (lands : Lands rig.puts letters rig.objects new) where
  known_if_open : (n : ℕ) → list_any (has_number n) plain.window.objects ≡ true → is_known plain n ≡ true
  known_if_open n is =
      let within = open_within n 0 plain.window.objects plain.window.last h.shows.valid.window.order is in
      known_is plain n (omega (arith, within.0)) within.1 (open_is_kept n rig plain h is)

  -- a number at which none has landed is as it was
  unlanded_case : (n : ℕ) (b : Bool) → LandedOr (IsPutOf plain) n b rig.objects new
      → (list_any (has_number n) plain.window.objects ≡ true → ⊥)
      → found new (numbered_name script_uuid n) ≡ found rig.objects (numbered_name script_uuid n)
  unlanded_case n true at out =
      let started : was_started n plain.window.objects ≡ true =
      subst (λ k. was_started k plain.window.objects ≡ true) at.number at.has.1 in
      absurd (out (started_is_open n plain.window.objects started))
  unlanded_case n false at out = at

  -- nothing is under a number that is not known
  pub none_unknown : (n : ℕ) → is_known plain n ≡ false → found new (numbered_name script_uuid n) ≡ None
  none_unknown n unknown =
      unlanded_case n (letter_of plain letters n) (landed_or rig plain letters new n h lands)
      (λ is. (let e : false ≡ true = sym unknown ∙ known_if_open n is in cc))
      ∙ h.stored.none_else n (λ is.
      (let e : false ≡ true = sym unknown ∙ known_is plain n is.some is.acknowledged.was_entered is.kept in cc))

  unknown_past : (n : ℕ) → plain.window.last < n → is_known plain n ≡ false
  unknown_past n past =
      let e : nat_le n plain.window.last ≡ false = lt-leb n plain.window.last past in
      ap (λ b. nat_le 1 n && b && not (has plain.removed n)) e
      ∙ (elim (nat_le 1 n) as (λ b. (b && false && not (has plain.removed n)) ≡ false) [ true ↦ refl | false ↦ refl ])

  unknown_gone : (n : ℕ) → has plain.removed n ≡ true → is_known plain n ≡ false
  unknown_gone n gone =
      ap (λ b. (nat_le 1 n && nat_le n plain.window.last) && not b) gone
      ∙ (elim (nat_le 1 n && nat_le n plain.window.last) as (λ b. (b && false) ≡ false) [ true ↦ refl | false ↦ refl ])

  -- nothing is past the last
  pub none_past : (n : ℕ) → plain.window.last < n → found new (numbered_name script_uuid n) ≡ None
  none_past n past = none_unknown n (unknown_past n past)

  none_put : (n : ℕ) → is_known plain n ≡ false → puts_now plain rig.puts new n ≡ None
  none_put n unknown = ap (λ b. cond b (Some (state_of_put plain n, bytes_now new rig.puts n)) None) unknown

  some_put : (n : ℕ) → is_known plain n ≡ true
      → puts_now plain rig.puts new n ≡ Some (state_of_put plain n, bytes_now new rig.puts n)
  some_put n is = ap (λ b. cond b (Some (state_of_put plain n, bytes_now new rig.puts n)) None) is

  pub are_puts : ArePuts (expected_of_plain plain) plain (puts_now plain rig.puts new)
  are_puts = record {
    known = λ n some low stays. (
      bytes_now new rig.puts n,
      some_put n (known_is plain n some low stays),
      (held_as rig plain letters new n h lands some low stays).0,
    );
    removed = λ n gone. none_put n (unknown_gone n gone);
    none_first = none_put 0 refl;
    none_else = λ n past. none_put n (unknown_past n past);
  }

  puts_held : (n : ℕ) (state : PutState) (bytes : List ℕ) (b : Bool) → is_known plain n ≡ b
      → puts_now plain rig.puts new n ≡ Some (state, bytes)
      → MayHoldPut state bytes (found new (numbered_name script_uuid n))
  puts_held n state bytes true is there =
      let own = known plain n is in
      may_hold plain (state_of_put plain n) state (bytes_now new rig.puts n) bytes (found new (numbered_name script_uuid n))
      (sym (some_put n is) ∙ there) (held_as rig plain letters new n h lands own.some own.low own.stays).1
  puts_held n state bytes false unknown there =
      (let e : ◌≡◌ {A = Option (PutState × List ℕ)} None (Some (state, bytes)) = sym (none_put n unknown) ∙ there in cc)

  none_held : (n : ℕ) (b : Bool) → is_known plain n ≡ b → puts_now plain rig.puts new n ≡ None
      → found new (numbered_name script_uuid n) ≡ None
  none_held n true is none =
      (let e : ◌≡◌ {A = Option (PutState × List ℕ)} (Some (state_of_put plain n, bytes_now new rig.puts n)) None =
      sym (some_put n is) ∙ none in cc)
  none_held n false unknown none = none_unknown n unknown

  pub may_be_left : MayBeLeft script_uuid h.epoch plain (puts_now plain rig.puts new) new
  may_be_left = record {
    described = lands_keep_volume rig.puts letters rig.objects new plain.geometry plain.chain h.epoch lands h.described;
    opens = h.opens;
    inherits = lands_inherit rig.puts letters rig.objects new plain lands h.inherits;
    seals = h.seals;
    holds =
        subst (λ held. HasHolds (expected_of_plain plain) held new) (sym h.unheld)
        (lands_leave_none rig.puts letters rig.objects new plain.geometry (length plain.chain) lands h.holds);
    held = record {
      puts_are = λ n state bytes is. puts_held n state bytes (is_known plain n) refl is;
      none_else = λ n is. none_held n (is_known plain n) refl is;
    };
  }

-- ---- what is recovered

landed_as : (landed other : Numbers) (number count : ℕ) → ((n : ℕ) → number < n → landed n ≡ other n)
    → landed_after landed number count ≡ landed_after other number count
landed_as landed other number zero same = refl
landed_as landed other number (suc count) same =
    let more = landed_as landed other (number + 1) count (λ n past. same n (omega (arith, past))) in
    ap (λ b. cond b (landed_after landed (number + 1) count) number) (same (number + 1) (omega arith))
    ∙ ap (λ k. cond (other (number + 1)) k number) more

-- the newest checkpoint of open objects, from 1 on
newest_as : (landed other : Numbers) (plain : PlainState) (before : PlainCheckpoint) (low : ℕ) (objects : List OpenObject)
    (last : ℕ) → Ascends low objects last → ((n : ℕ) → 0 < n → landed n ≡ other n)
    → newest_landed landed plain before objects ≡ newest_landed other plain before objects
newest_as landed other plain before low [] last order same = refl
newest_as landed other plain before low (object ∷ objects) last order same =
    let next : Numbers → PlainCheckpoint =
    λ numbers. cond (object.is_checkpoint && numbers object.number) (checkpoint_at object.number plain) before in
    let here : next landed ≡ next other =
    ap (λ b. cond (object.is_checkpoint && b) (checkpoint_at object.number plain) before)
    (same object.number (omega (arith, order.0))) in
    newest_as landed other plain (next landed) object.number objects last order.1 same
    ∙ ap (λ c. newest_landed other plain c objects) here

-- those of some numbers of which tests agree
absent_as : (landed other : Numbers) (numbers : List ℕ) → ((n : ℕ) → has numbers n ≡ true → landed n ≡ other n)
    → absent_of landed numbers ≡ absent_of other numbers
absent_as landed other [] same = refl
absent_as landed other (n ∷ numbers) same =
    let here : landed n ≡ other n = same n (ap (λ b. b || has numbers n) (eq-eqb n n refl)) in
    let rest = absent_as landed other numbers (λ k is. same k (ap (λ b. (n == k) || b) is ∙ or-true (n == k))) in
    ap (λ b. cond (not b) (n ∷ absent_of landed numbers) (absent_of landed numbers)) here
    ∙ ap (λ list. cond (not (other n)) (n ∷ list) list) rest

-- what a mount makes of a plain volume, by the number that it recovers, the newest checkpoint and what is gone
abbrev made_kept : (found : PlainCommit) → PlainState → (number : ℕ) → PlainCheckpoint → (gone : List ℕ) → PlainState
made_kept found plain number checkpoint gone =
    record (found_with number (max (end_at (stream_in plain) number) found.head.seq) checkpoint gone plain) {
      cache = cache_with (mounted_log found (end_at (stream_in plain) number) plain.cache.log);
    }

abbrev made_lost : PlainState → (number : ℕ) → PlainCheckpoint → (gone : List ℕ) → PlainState
made_lost plain number checkpoint gone =
    record (found_with number (end_at (stream_in plain) number) checkpoint gone plain) {
      cache = cache_with (empty_from plain.cache.log.size (end_at (stream_in plain) number));
    }

module _ (rig : RigState) (plain : PlainState) (letters : List ℕ) (new : Objects) (h : ShowsPlain rig plain)
    (lands : Lands rig.puts letters rig.objects new) where
  abbrev there : Numbers
  there = landed_in new (expected_of_plain plain)

  abbrev by_letters : Numbers
  by_letters = landed_by plain letters

  same_checkpoint : landed_checkpoint there plain ≡ landed_checkpoint by_letters plain
  same_checkpoint =
      newest_as there by_letters plain plain.checkpoint 0 plain.window.objects plain.window.last
      h.shows.valid.window.order (landed_same rig plain letters new h lands)

  same_absent : absent_of there plain.given_out ≡ absent_of by_letters plain.given_out
  same_absent =
      absent_as there by_letters plain.given_out (λ n is.
      landed_gone rig plain letters new h lands n (ap (λ numbers. has numbers n) (sym h.removes.gone) ∙ is))

  pub recovered_same : recovered_number there plain ≡ recovered_number by_letters plain
  recovered_same =
      let last = last_number (stream_in plain) in
      let From : Numbers → PlainCheckpoint → ℕ = λ landed c. landed_after landed c.number (last - c.number) in
      landed_as there by_letters (landed_checkpoint there plain).number (last - (landed_checkpoint there plain).number)
      (λ n past. landed_same rig plain letters new h lands n (omega (arith, past)))
      ∙ ap (From by_letters) same_checkpoint

  module _ (made : ℕ → PlainCheckpoint → List ℕ → PlainState) where
    made_same : made (recovered_number there plain) (landed_checkpoint there plain) (absent_of there plain.given_out)
        ≡ made (recovered_number by_letters plain) (landed_checkpoint by_letters plain) (absent_of by_letters plain.given_out)
    made_same =
        ap (λ number. made number (landed_checkpoint there plain) (absent_of there plain.given_out)) recovered_same
        ∙ ap (λ checkpoint. made (recovered_number by_letters plain) checkpoint (absent_of there plain.given_out))
        same_checkpoint
        ∙ ap (made (recovered_number by_letters plain) (landed_checkpoint by_letters plain)) same_absent

  pub kept_same : (found : PlainCommit) → mounted_from there found plain ≡ mounted_from by_letters found plain
  kept_same found = made_same (made_kept found plain)

  pub lost_same : mounted_lost there plain ≡ mounted_lost by_letters plain
  lost_same = made_same (made_lost plain)
