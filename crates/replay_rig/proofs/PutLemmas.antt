-- Where an object under way stands, and what is made of the list there.
use Rattle.std.proofs.Common.{◌≡◌, ℕ, zero, suc, ◌+◌, ◌<◌, ◌≤◌, ◌==◌, Bool, true, false, not, cond, List, [], ◌∷◌, length, refl}
use Rattle.std.proofs.Common.{sym, ◌∙◌, ap, subst, get_or, arith, nat_lt, nat_le, ◌&&◌, ◌⊎◌, inl, inr}
use Rattle.std.specs.Prelude.{Option, Some, None, IsSome, MatchOption, unwrap_or, Result, Ok, Err, IfOk}
use Rattle.std.specs.declared.alloc.AllocError.{AllocError}
use Rattle.object_uploads.specs.State.{JobState}
use Rattle.std.specs.List.{slice_get, insert, remove, position_or_len}
use Rattle.std.proofs.lemmas.Bool.{cases_lt, lt-ltb, le-ltb, le-leb, lt-leb, ltb-true, ltb-false, eqb-true}
use Rattle.replay_rig.specs.Puts.{PutView, put_of, is_put_out, out_put, with_begun, with_failed, without_put, IsPutOut}
use Rattle.replay_rig.specs.Puts.{IsJobTaken}
use Rattle.replay_rig.specs.Places.{place_of_put, is_of_number, stands_at_place}

-- ---- the place

-- one number is not below another where the other is not less
at_least : (a n : ℕ) → (a < n) ⊎ (n ≤ a) → not (nat_le n a) ≡ nat_lt a n
at_least a n (inl less) =
    let e : nat_le n a ≡ false = lt-leb n a less in
    let f : nat_lt a n ≡ true = lt-ltb a n less in
    rw (e, f) refl
at_least a n (inr most) =
    let e : nat_le n a ≡ true = le-leb n a most in
    let f : nat_lt a n ≡ false = le-ltb a n most in
    rw (e, f) refl

pub place_is : (n : ℕ) (puts : List PutView) → position_or_len (λ put. nat_le n put.number) puts ≡ place_of_put n puts
place_is n [] = refl
place_is n (put ∷ puts) =
    let e : not (nat_le n put.number) ≡ nat_lt put.number n = at_least put.number n (cases_lt put.number n) in
    ap (λ (b : Bool). cond b (1 + position_or_len (λ p. nat_le n p.number) puts) 0) e
    ∙ ap (λ (k : ℕ). cond (nat_lt put.number n) k 0) (omega (arith, place_is n puts))

pub place_within : (n : ℕ) (puts : List PutView) → place_of_put n puts ≤ length puts
place_within n [] = omega arith
place_within n (put ∷ puts) =
    let more = place_within n puts in
    elim (nat_lt put.number n) as (λ b. cond b (suc (place_of_put n puts)) 0 ≤ suc (length puts)) [
      | true ↦ omega (arith, more)
      | false ↦ omega arith
    ]

-- ---- what stands there

-- the put of an object at its place is out
abbrev pub is_out_there : (n : ℕ) → Option PutView → Bool
is_out_there n None = false
is_out_there n (Some put) = (put.number == n) && put.is_out

pub out_there : (n : ℕ) (puts : List PutView) → is_put_out (put_of n puts) ≡ is_out_there n (slice_get puts (place_of_put n puts))
out_there n [] = refl
out_there n (put ∷ puts) =
    let more = out_there n puts in
    elim (nat_lt put.number n) as (λ b. is_put_out (cond b (put_of n puts) (cond (put.number == n) (Some put) None))
    ≡ is_out_there n (slice_get (put ∷ puts) (cond b (suc (place_of_put n puts)) 0))) [
      | true ↦ more
      | false ↦ elim (put.number == n) as (λ c. is_put_out (cond c (Some put) None) ≡ (c && put.is_out)) [
        | true ↦ refl
        | false ↦ refl
      ]
    ]

-- a put that is out stands at its place
pub record StandsOut (n : ℕ) (puts : List PutView) : Type 0 where
  pub bytes : List ℕ
  pub there : slice_get puts (place_of_put n puts) ≡ Some (out_put n bytes)
  pub is_out : IsPutOut n bytes puts
  pub within : place_of_put n puts < length puts

first_out : (n : ℕ) (put : PutView) → ((put.number == n) && put.is_out) ≡ true → put ≡ out_put n put.bytes
first_out n put out =
    let number : put.number ≡ n = elim (put.number == n) as (λ c. (put.number == n) ≡ c → (c && put.is_out) ≡ true
    → put.number ≡ n)
    [ true ↦ λ is o. eqb-true put.number n is | false ↦ λ is o. cc ] refl out in
    let is : put.is_out ≡ true = elim (put.number == n) as (λ c. (c && put.is_out) ≡ true → put.is_out ≡ true)
    [ true ↦ λ o. o | false ↦ λ o. cc ] out in
    ap (λ (k : ℕ). record { number = k; bytes = put.bytes; is_out = put.is_out }) number
    ∙ ap (λ (b : Bool). record { number = n; bytes = put.bytes; is_out = b }) is

stands_later : (n : ℕ) (put : PutView) (puts : List PutView) → nat_lt put.number n ≡ true → StandsOut n puts
    → StandsOut n (put ∷ puts)
stands_later n put puts below m = record {
  bytes = m.bytes;
  there = rw below m.there;
  is_out = rw below m.is_out;
  within = (let e = m.within in rw below (omega (arith, e)));
}

stands_first : (n : ℕ) (put : PutView) (puts : List PutView) → nat_lt put.number n ≡ false
    → is_put_out (cond (put.number == n) (Some put) None) ≡ true
    → StandsOut n (put ∷ puts)
stands_first n put puts not_below out =
    let both : ((put.number == n) && put.is_out) ≡ true =
    elim (put.number == n) as (λ c. is_put_out (cond c (Some put) None) ≡ true → (c && put.is_out) ≡ true) [
      | true ↦ λ o. o
      | false ↦ λ o. o
    ] out in
    let is = first_out n put both in
    let same : (put.number == n) ≡ true = elim (put.number == n) as (λ c. (c && put.is_out) ≡ true → c ≡ true) [
      | true ↦ λ o. refl
      | false ↦ λ o. o
    ] both in
    record {
      bytes = put.bytes;
      there = rw not_below (ap Some is);
      is_out = rw (not_below, same) (ap Some is);
      within = rw not_below (omega arith);
    }

pub stands_out : (n : ℕ) (puts : List PutView) → is_put_out (put_of n puts) ≡ true → StandsOut n puts
stands_out n [] out = absurd (cc out)
stands_out n (put ∷ puts) out =
    let more = stands_out n puts in
    elim (nat_lt put.number n) as (λ b. nat_lt put.number n ≡ b
    → is_put_out (cond b (put_of n puts) (cond (put.number == n) (Some put) None)) ≡ true
    → StandsOut n (put ∷ puts)) [
      | true ↦ λ below o. stands_later n put puts below (more o)
      | false ↦ λ not_below o. stands_first n put puts not_below o
    ] refl out

-- ---- what is made of the list there

-- a put begins of an object that stands there
pub begun_again : (n : ℕ) (bytes : List ℕ) (puts : List PutView) → stands_at_place (place_of_put n puts) n puts ≡ true
    → (place_of_put n puts < length puts) × (insert (remove puts (place_of_put n puts)) (place_of_put n puts) (out_put n bytes)
    ≡ with_begun n bytes puts)
begun_again n bytes [] there = absurd (cc there)
begun_again n bytes (put ∷ puts) there =
    let more = begun_again n bytes puts in
    elim (nat_lt put.number n) as (λ b. is_of_number n (slice_get (put ∷ puts) (cond b (suc (place_of_put n puts)) 0)) ≡ true
    → (cond b (suc (place_of_put n puts)) 0 < suc (length puts))
    × (insert (remove (put ∷ puts) (cond b (suc (place_of_put n puts)) 0)) (cond b (suc (place_of_put n puts)) 0)
    (out_put n bytes)
    ≡ cond b (put ∷ with_begun n bytes puts) (cond (put.number == n) (out_put n bytes ∷ puts) (out_put n bytes ∷ put ∷ puts)))) [
      | true ↦ λ t. (let m = more t in (let e = m.0 in omega (arith, e), ap (λ xs. put ∷ xs) m.1))
      | false ↦ λ t. (omega arith, rw t refl)
    ] there

-- or of one that is not under way yet
pub begun_first : (n : ℕ) (bytes : List ℕ) (puts : List PutView) → stands_at_place (place_of_put n puts) n puts ≡ false
    → insert puts (place_of_put n puts) (out_put n bytes) ≡ with_begun n bytes puts
begun_first n bytes [] there = refl
begun_first n bytes (put ∷ puts) there =
    let more = begun_first n bytes puts in
    elim (nat_lt put.number n) as (λ b. is_of_number n (slice_get (put ∷ puts) (cond b (suc (place_of_put n puts)) 0)) ≡ false
    → insert (put ∷ puts) (cond b (suc (place_of_put n puts)) 0) (out_put n bytes)
    ≡ cond b (put ∷ with_begun n bytes puts) (cond (put.number == n) (out_put n bytes ∷ puts) (out_put n bytes ∷ put ∷ puts))) [
      | true ↦ λ t. ap (λ xs. put ∷ xs) (more t)
      | false ↦ λ t. rw t refl
    ] there

-- a put that is out fails
pub failed_there : (n : ℕ) (bytes : List ℕ) (puts : List PutView) → IsPutOut n bytes puts
    → insert (remove puts (place_of_put n puts)) (place_of_put n puts) (record { number = n; bytes = bytes; is_out = false })
    ≡ with_failed n puts
failed_there n bytes [] is = absurd (cc is)
failed_there n bytes (put ∷ puts) is =
    let more = failed_there n bytes puts in
    elim (nat_lt put.number n) as (λ b. cond b (put_of n puts) (cond (put.number == n) (Some put) None) ≡ Some (out_put n bytes)
    → insert (remove (put ∷ puts) (cond b (suc (place_of_put n puts)) 0)) (cond b (suc (place_of_put n puts)) 0)
    (record { number = n; bytes = bytes; is_out = false })
    ≡ cond b (put ∷ with_failed n puts) (cond (put.number == n) (record put { is_out = false } ∷ puts) (put ∷ puts))) [
      | true ↦ λ i. ap (λ xs. put ∷ xs) (more i)
      | false ↦ λ i. elim (put.number == n) as (λ c. cond c (Some put) None ≡ Some (out_put n bytes)
          → record { number = n; bytes = bytes; is_out = false } ∷ puts ≡ cond c (record put { is_out = false } ∷ puts)
          (put ∷ puts)) [
            | true ↦ λ j. (let e : put ≡ out_put n bytes = cc in ap (λ (q : PutView). record q { is_out = false } ∷ puts) (sym e))
            | false ↦ λ j. absurd (cc j)
          ] i
    ] is

-- or it is done
pub finished_there : (n : ℕ) (bytes : List ℕ) (puts : List PutView) → IsPutOut n bytes puts
    → remove puts (place_of_put n puts) ≡ without_put n puts
finished_there n bytes [] is = refl
finished_there n bytes (put ∷ puts) is =
    let more = finished_there n bytes puts in
    elim (nat_lt put.number n) as (λ b. cond b (put_of n puts) (cond (put.number == n) (Some put) None) ≡ Some (out_put n bytes)
    → remove (put ∷ puts) (cond b (suc (place_of_put n puts)) 0)
    ≡ cond b (put ∷ without_put n puts) (cond (put.number == n) puts (put ∷ puts))) [
      | true ↦ λ i. ap (λ xs. put ∷ xs) (more i)
      | false ↦ λ i. elim (put.number == n) as (λ c. cond c (Some put) None ≡ Some (out_put n bytes)
          → puts ≡ cond c puts (put ∷ puts)) [
            | true ↦ λ j. refl
            | false ↦ λ j. absurd (cc j)
          ] i
    ] is

-- ---- for the calls

unwrapped_by : (p n : ℕ) → (p < n) ⊎ (n ≤ p) → p ≤ n → unwrap_or (cond (nat_lt p n) (Some p) None) n ≡ p
unwrapped_by p n (inl less) most = (let e : nat_lt p n ≡ true = lt-ltb p n less in rw e refl)
unwrapped_by p n (inr more) most = (let e : nat_lt p n ≡ false = le-ltb p n more in rw e (omega (arith, more, most)))

-- the place that a search finds, or the end of the list
pub unwrapped_place : (p n : ℕ) (r : Option ℕ) → r ≡ cond (nat_lt p n) (Some p) None → p ≤ n → unwrap_or r n ≡ p
unwrapped_place p n r is most = ap (λ (o : Option ℕ). unwrap_or o n) is ∙ unwrapped_by p n (cases_lt p n) most

-- the same facts of a place that is told
pub begun_again_at : (n place : ℕ) (bytes : List ℕ) (puts : List PutView) → place ≡ place_of_put n puts
    → stands_at_place place n puts ≡ true
    → (place < length puts) × (insert (remove puts place) place (out_put n bytes) ≡ with_begun n bytes puts)
begun_again_at n place bytes puts is =
    let P : ℕ → Type 0 = λ k. stands_at_place k n puts ≡ true
    → (k < length puts) × (insert (remove puts k) k (out_put n bytes) ≡ with_begun n bytes puts) in
    subst P (sym is) (begun_again n bytes puts)

pub begun_first_at : (n place : ℕ) (bytes : List ℕ) (puts : List PutView) → place ≡ place_of_put n puts
    → stands_at_place place n puts ≡ false
    → (place ≤ length puts) × (insert puts place (out_put n bytes) ≡ with_begun n bytes puts)
begun_first_at n place bytes puts is =
    let P : ℕ → Type 0 = λ k. stands_at_place k n puts ≡ false → (k ≤ length puts)
    × (insert puts k (out_put n bytes) ≡ with_begun n bytes puts) in
    subst P (sym is) (λ none. (place_within n puts, begun_first n bytes puts none))

-- what stands at a place, by two ways to look at it
pub read_there : {X : Type 0} (xs : List X) (i : ℕ) (x d : X) → slice_get xs i ≡ Some x → get_or xs i d ≡ x
read_there [] i x d is = absurd (cc is)
read_there (y ∷ ys) zero x d is = cc
read_there (y ∷ ys) (suc i) x d is = read_there ys i x d is

-- the bytes of a put that is out are shared
pub shared_out : (n : ℕ) (puts : List PutView) (s : StandsOut n puts) (result : Result (List ℕ) AllocError) (read : PutView)
    (bytes : List ℕ)
    → read ≡ get_or puts (place_of_put n puts) read → bytes ≡ read.bytes → IfOk result (λ object. object ≡ bytes)
    → IfOk result (λ object. IsPutOut n object puts)
shared_out n puts s (Ok object) read bytes is bytes_are same =
    let read_is : read ≡ out_put n s.bytes = is ∙ read_there puts (place_of_put n puts) (out_put n s.bytes) read s.there in
    let P : List ℕ → Type 0 = λ b. IsPutOut n b puts in
    subst P (sym (same ∙ bytes_are ∙ ap (λ (q : PutView). q.bytes) read_is)) s.is_out
shared_out n puts s (Err error) read bytes is bytes_are same = tt

-- there is a job, that of the put that was out
abbrev pub TakesJob : (n : ℕ) → List PutView → Option JobState → Type 0
TakesJob n puts None = ⊥
TakesJob n puts (Some job) = IsJobTaken n job puts

pub job_there : (n : ℕ) (puts : List PutView) (result : Option JobState) → TakesJob n puts result → IsSome result
job_there n puts None takes = absurd takes
job_there n puts (Some job) takes = refl

pub job_of : (n : ℕ) (puts : List PutView) (result : Option JobState) (job : JobState) → result ≡ Some job
    → TakesJob n puts result → IsJobTaken n job puts
job_of n puts None job is takes = absurd takes
job_of n puts (Some other) job is takes =
    let same : other ≡ job = cc in
    subst (λ (j : JobState). IsJobTaken n j puts) same takes

pub job_taken : (n : ℕ) (puts : List PutView) (s : StandsOut n puts) (put : PutView) (result : Option JobState)
    → slice_get puts (place_of_put n puts) ≡ Some put
    → MatchOption result (put.is_out ≡ false) (λ job. (job.name.number ≡ put.number) × (job.bytes ≡ put.bytes)
    × (put.is_out ≡ true))
    → TakesJob n puts result
job_taken n puts s put None there h =
    let same : Some put ≡ Some (out_put n s.bytes) = sym there ∙ s.there in
    let is : put ≡ out_put n s.bytes = cc in
    let out : put.is_out ≡ true = ap (λ (q : PutView). q.is_out) is in
    cc (out, h)
job_taken n puts s put (Some job) there h =
    let same : Some put ≡ Some (out_put n s.bytes) = sym there ∙ s.there in
    let is : put ≡ out_put n s.bytes = cc in
    let P : List ℕ → Type 0 = λ b. IsPutOut n b puts in (
      h.0 ∙ ap (λ (q : PutView). q.number) is,
      subst P (sym (h.1 ∙ ap (λ (q : PutView). q.bytes) is)) s.is_out,
    )

-- ---- a look at a place

found_there : {X : Type 0} (xs : List X) (i : ℕ) (x : X) → i < length xs → x ≡ get_or xs i x → slice_get xs i ≡ Some x
found_there [] i x less is = absurd (omega (arith, less))
found_there (y ∷ ys) zero x less is = ap Some (sym is)
found_there (y ∷ ys) (suc i) x less is = found_there ys i x (omega (arith, less)) is

none_there : {X : Type 0} (xs : List X) (i : ℕ) → length xs ≤ i → slice_get xs i ≡ None
none_there [] i most = refl
none_there (y ∷ ys) zero most = absurd (omega (arith, most))
none_there (y ∷ ys) (suc i) most = none_there ys i (omega (arith, most))

-- whether the put of a number is out, by what was read at its place
pub out_read : (n place : ℕ) (puts list : List PutView) (put : PutView) → list ≡ puts → place ≡ place_of_put n puts
    → true ≡ nat_lt place (length list) → put ≡ get_or list place put
    → is_put_out (put_of n puts) ≡ ((put.number == n) && put.is_out)
out_read n place puts list put same at within is =
    let found : slice_get list place ≡ Some put = found_there list place put (ltb-true place (length list) (sym within)) is in
    out_there n puts ∙ ap (λ k. is_out_there n (slice_get puts k)) (sym at)
    ∙ ap (λ ps. is_out_there n (slice_get ps place)) (sym same)
    ∙ ap (is_out_there n) found

pub out_unread : (n place : ℕ) (puts list : List PutView) → list ≡ puts → place ≡ place_of_put n puts
    → false ≡ nat_lt place (length list) → is_put_out (put_of n puts) ≡ false
out_unread n place puts list same at past =
    let none : slice_get list place ≡ None = none_there list place (ltb-false place (length list) (sym past)) in
    out_there n puts ∙ ap (λ k. is_out_there n (slice_get puts k)) (sym at)
    ∙ ap (λ ps. is_out_there n (slice_get ps place)) (sym same)
    ∙ ap (is_out_there n) none
