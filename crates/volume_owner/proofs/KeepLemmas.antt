-- A store that stands goes on standing over each act of a call.
use Rattle.std.proofs.Common.{◌≡◌, ℕ, nat_eq, ◌⊎◌, inl, inr, Bool, true, false, cond, List, []}
use Rattle.std.proofs.Common.{refl, sym, ◌∙◌, ap, subst, length}
use Rattle.std.specs.Prelude.{Option, Some, None, IfSome}
use Rattle.std.specs.List.{list_any}
use Rattle.std.proofs.lemmas.Bool.{cases_eq, eq-eqb, ne_eqb}
use Rattle.lsvd_names.specs.Names.{numbered_name}
use Rattle.lsvd_objstore.specs.Objects.{Objects, found}
use Rattle.object_format.specs.declared.expected.Expected.{Expected}
use Rattle.object_recovery.specs.Checkpoints.{expected_of}
use Rattle.object_uploads.specs.Changes.{index_of}
use Rattle.plain_disk.specs.State.{PlainState, OpensFirst}
use Rattle.plain_disk.specs.Removals.{has}
use Rattle.plain_disk.specs.Found.{SealsCheckpoints}
use Rattle.stopped_volume.specs.Store.{PutState, MayHoldPut}
use Rattle.stopped_volume.specs.Store.PutState.{Acknowledged, GivenOut, Begun, NotBegun}
use Rattle.stopped_volume.specs.Super.{HasVolume}
use Rattle.refine_mount.specs.Found.{expected_for, HasHolds}
use Rattle.refine_store.specs.Puts.{Inherits, IsObjectOf, state_of_put, AreBytesOfPut}
use Rattle.refine_store.specs.Stored.{StoreStands}
use Rattle.upload_window.specs.Window.{WindowState, has_number}
use Rattle.vol_core.specs.Volume.{VolumeState}
use Rattle.vol_core.specs.Shows.{Shows}
use Rattle.vol_core.specs.Step.{IsOnItsWay, HasBytesOf, KeepsBytes}
use Rattle.volume_owner.proofs.MarkLemmas.{begun_open, open_waits, closed_state}
use Rattle.volume_owner.proofs.StandLemmas.{has_put, IsSealedIfBegun, PutStands, NumberStands, IsDescribed, is_described}
use Rattle.volume_owner.proofs.StandLemmas.{number_stands, stands_by_each, bytes_at_are}

-- ---- what a step makes of the objects

-- an object has come as far as before, and is there where it was
pub record SameAt (plain after : PlainState) (n : ℕ) : Type 0 where
  pub put : has_put after n ≡ has_put plain n
  pub state : state_of_put after n ≡ state_of_put plain n

-- What a step of a volume makes of one object of a plain volume: its put begins, whose bytes are the plain volume's object; or
-- that is done, whose object the store has; or the object is sealed; or given out for removal; or it is removed, and the store
-- does not have it.
pub data IsChangeAt (uuid : List ℕ) (old : VolumeState) (objects : Objects) (plain after : PlainState) (n : ℕ) : Type 0 where
  begins : (bytes : List ℕ) → has_put after n ≡ has_put plain n → state_of_put after n ≡ Begun
      → list_any (has_number n) plain.window.objects ≡ true → HasBytesOf old n bytes
      → IsObjectOf (expected_for uuid plain) plain n bytes → IsChangeAt uuid old objects plain after n
  ends : (bytes : List ℕ) → has_put after n ≡ has_put plain n → state_of_put after n ≡ Acknowledged → state_of_put plain n ≡ Begun
      → HasBytesOf old n bytes → found objects (numbered_name uuid n) ≡ Some bytes → IsChangeAt uuid old objects plain after n
  seals : has_put plain n ≡ false → state_of_put after n ≡ NotBegun → IsChangeAt uuid old objects plain after n
  gives_out : has_put after n ≡ has_put plain n → state_of_put after n ≡ GivenOut
      → list_any (has_number n) plain.window.objects ≡ false → IsChangeAt uuid old objects plain after n
  removes : has_put after n ≡ false → found objects (numbered_name uuid n) ≡ None → IsChangeAt uuid old objects plain after n

-- nothing, or one object changes
pub data IsObjectStep (uuid : List ℕ) (old : VolumeState) (objects : Objects) (plain after : PlainState) : Type 0 where
  stays : ((n : ℕ) → SameAt plain after n) → IsObjectStep uuid old objects plain after
  changes : (n : ℕ) → ((k : ℕ) → (k ≡ n → ⊥) → SameAt plain after k) → IsChangeAt uuid old objects plain after n
      → IsObjectStep uuid old objects plain after

-- ---- the puts with one changed

abbrev changed : (n : ℕ) → Option (PutState × List ℕ) → (ℕ → Option (PutState × List ℕ)) → ℕ → Option (PutState × List ℕ)
changed n put puts number = cond (nat_eq number n) put (puts number)

changed_there : (n : ℕ) (put : Option (PutState × List ℕ)) (puts : ℕ → Option (PutState × List ℕ))
    → changed n put puts n ≡ put
changed_there n put puts = ap (λ b. cond b put (puts n)) (eq-eqb n n refl)

changed_other : (n number : ℕ) (put : Option (PutState × List ℕ)) (puts : ℕ → Option (PutState × List ℕ)) → (number ≡ n → ⊥)
    → changed n put puts number ≡ puts number
changed_other n number put puts other = ap (λ b. cond b put (puts number)) (ne_eqb number n other)

-- ---- a step

-- what a step leaves of a plain volume as far as a store stands for it
pub record StepLeaves (plain after : PlainState) : Type 0 where
  pub geometry : after.geometry ≡ plain.geometry
  pub chain : after.chain ≡ plain.chain
  pub opens : OpensFirst after
  pub inherits : (uuid : List ℕ) (objects : Objects) → Inherits uuid plain objects → Inherits uuid after objects
  pub seals : SealsCheckpoints after
  pub out : IfSome after.removal (λ number. has after.given_out number ≡ true)
  pub held : after.held ≡ plain.held
  pub objects : (volume : Expected) (n : ℕ) (bytes : List ℕ) → IsObjectOf volume plain n bytes → IsObjectOf volume after n bytes

module _ (uuid : List ℕ) (epoch : ℕ) (plain after : PlainState) (old new : VolumeState) (objects : Objects)
    (shows : Shows old plain) (shown : Shows new after) (bytes_stay : KeepsBytes old new)
    (stands : StoreStands uuid epoch plain old.objects.uploads objects) (leaves : StepLeaves plain after) where
  volume_is : expected_for uuid after ≡ expected_for uuid plain
  volume_is =
      ap (λ g. expected_of uuid g (length after.chain)) leaves.geometry
      ∙ ap (λ c. expected_of uuid plain.geometry (length c)) leaves.chain

  described : IsDescribed uuid epoch after objects
  described =
      let had = is_described uuid epoch plain old.objects.uploads objects stands in
      record {
        described =
            subst (λ g. HasVolume uuid g after.chain epoch objects) (sym leaves.geometry)
            (subst (λ c. HasVolume uuid plain.geometry c epoch objects) (sym leaves.chain) had.described);
        opens = leaves.opens;
        inherits = leaves.inherits uuid objects had.inherits;
        seals = leaves.seals;
        holds =
            subst (λ v. HasHolds v after.held objects) (sym volume_is)
            (subst (λ kept. HasHolds (expected_for uuid plain) kept objects) (sym leaves.held) had.holds);
        out = leaves.out;
      }

  -- an object that is open before and after keeps its bytes
  old_open : (n : ℕ) → list_any (has_number n) plain.window.objects ≡ true → IsOnItsWay old n
  old_open n open_ = ap (λ (w : WindowState). list_any (has_number n) w.objects) shows.objects.window ∙ open_

  new_open : (n : ℕ) → list_any (has_number n) after.window.objects ≡ true → IsOnItsWay new n
  new_open n open_ = ap (λ (w : WindowState). list_any (has_number n) w.objects) shown.objects.window ∙ open_

  object_stays : (n : ℕ) (bytes : List ℕ) → IsObjectOf (expected_for uuid plain) plain n bytes
      → IsObjectOf (expected_for uuid after) after n bytes
  object_stays n bytes is =
      subst (λ v. IsObjectOf v after n bytes) (sym volume_is) (leaves.objects (expected_for uuid plain) n bytes is)

  known_stays : (state : PutState) (n : ℕ) (bytes : List ℕ)
      → AreBytesOfPut state (expected_for uuid plain) plain n bytes
      → AreBytesOfPut state (expected_for uuid after) after n bytes
  known_stays Acknowledged n bytes known = object_stays n bytes known
  known_stays GivenOut n bytes known = object_stays n bytes known
  known_stays Begun n bytes known = object_stays n bytes known
  known_stays NotBegun n bytes known = tt

  sealed_stays : (state : PutState) (n : ℕ) (bytes : List ℕ) → state_of_put plain n ≡ state
      → state_of_put after n ≡ state → IsSealedIfBegun state old.objects.uploads n bytes
      → IsSealedIfBegun state new.objects.uploads n bytes
  sealed_stays Acknowledged n bytes was now sealed = tt
  sealed_stays GivenOut n bytes was now sealed = tt
  sealed_stays Begun n bytes was now sealed =
      bytes_stay n bytes (old_open n (begun_open plain.window plain.given_out n was)) sealed
      (new_open n (begun_open after.window after.given_out n now))
  sealed_stays NotBegun n bytes was now sealed = tt

  -- a put that has come as far as before
  put_stays : (n : ℕ) (put : Option (PutState × List ℕ)) → state_of_put after n ≡ state_of_put plain n
      → PutStands uuid plain old.objects.uploads objects n put → PutStands uuid after new.objects.uploads objects n put
  put_stays n put same had =
      let was : PutState = state_of_put plain n in
      let back = sym same in
      let v : Expected = expected_for uuid after in
      record {
        bytes = had.bytes;
        put_is = had.put_is ∙ ap (λ s. Some (s, had.bytes)) back;
        known = subst (λ s. AreBytesOfPut s v after n had.bytes) back (known_stays was n had.bytes had.known);
        held = subst (λ s. MayHoldPut s had.bytes (found objects (numbered_name uuid n))) back had.held;
        sealed = subst (λ s. IsSealedIfBegun s new.objects.uploads n had.bytes) back
            (sealed_stays was n had.bytes refl same had.sealed);
      }

  number_stays : (n : ℕ) (put : Option (PutState × List ℕ)) → SameAt plain after n
      → NumberStands uuid plain old.objects.uploads objects n put → NumberStands uuid after new.objects.uploads objects n put
  number_stays n put same had = record {
    there = λ is. put_stays n put same.state (had.there (sym same.put ∙ is));
    absent = λ is. had.absent (sym same.put ∙ is);
  }

  -- the puts of all numbers but one have come as far as before, and that one is known
  all_but_one : (n : ℕ) (put : Option (PutState × List ℕ)) → ((k : ℕ) → (k ≡ n → ⊥) → SameAt plain after k)
      → NumberStands uuid after new.objects.uploads objects n put
      → StoreStands uuid epoch after new.objects.uploads objects
  all_but_one n put same here =
      stands_by_each uuid epoch after new.objects.uploads objects (changed n put stands.puts) described
      (λ k. elim (cases_eq k n) [
        | inl is ↦
            subst (λ m. NumberStands uuid after new.objects.uploads objects m (changed n put stands.puts m)) (sym is)
            (subst (λ p. NumberStands uuid after new.objects.uploads objects n p) (sym (changed_there n put stands.puts)) here)
        | inr other ↦
            subst (λ p. NumberStands uuid after new.objects.uploads objects k p) (sym (changed_other n k put stands.puts other))
            (number_stays k (stands.puts k) (same k other)
            (number_stands uuid epoch plain old.objects.uploads objects stands k))
      ])

  -- ---- the changes of one

  module _ (n : ℕ) where
    had : NumberStands uuid plain old.objects.uploads objects n (stands.puts n)
    had = number_stands uuid epoch plain old.objects.uploads objects stands n

    absent_after : (put : Option (PutState × List ℕ)) → has_put after n ≡ has_put plain n → has_put after n ≡ false
        → stands.puts n ≡ None
    absent_after put same is = (had.absent (sym same ∙ is)).0

    -- where it is not there, it has no put
    abbrev put_if : Bool → Option (PutState × List ℕ) → Option (PutState × List ℕ)
    put_if there put = cond there put None

    -- what the store holds of one that is open
    may_hold : (bytes : List ℕ) → HasBytesOf old n bytes → (state : PutState) (known : List ℕ) (held : Option (List ℕ))
        → (state ≡ Begun) ⊎ (state ≡ NotBegun)
        → IsSealedIfBegun state old.objects.uploads n known → MayHoldPut state known held → MayHoldPut Begun bytes held
    may_hold bytes out Acknowledged known held (inl is) sealed may = let bad : ⊥ = cc in absurd bad
    may_hold bytes out Acknowledged known held (inr is) sealed may = let bad : ⊥ = cc in absurd bad
    may_hold bytes out GivenOut known held (inl is) sealed may = let bad : ⊥ = cc in absurd bad
    may_hold bytes out GivenOut known held (inr is) sealed may = let bad : ⊥ = cc in absurd bad
    may_hold bytes out Begun known held is sealed (inl none) = inl none
    may_hold bytes out Begun known held is sealed (inr there) =
        inr (there ∙ ap Some (bytes_at_are (index_of old.objects.uploads n) old.objects.uploads.queue.sealed known bytes sealed
        out))
    may_hold bytes out NotBegun known held is sealed none = inl none

    -- a put that has come so far, by the put before it
    begun_put : (bytes : List ℕ) → state_of_put after n ≡ Begun → list_any (has_number n) plain.window.objects ≡ true
        → HasBytesOf old n bytes → IsObjectOf (expected_for uuid plain) plain n bytes
        → PutStands uuid plain old.objects.uploads objects n (stands.puts n)
        → PutStands uuid after new.objects.uploads objects n (Some (Begun, bytes))
    begun_put bytes now open_ out object was =
        let back = sym now in
        let v : Expected = expected_for uuid after in
        record {
          bytes = bytes;
          put_is = ap (λ s. Some (s, bytes)) back;
          known = subst (λ s. AreBytesOfPut s v after n bytes) back (object_stays n bytes object);
          held = subst (λ s. MayHoldPut s bytes (found objects (numbered_name uuid n))) back
              (may_hold bytes out (state_of_put plain n) was.bytes (found objects (numbered_name uuid n))
              (open_waits plain.window plain.given_out n open_) was.sealed was.held);
          sealed = subst (λ s. IsSealedIfBegun s new.objects.uploads n bytes) back
              (bytes_stay n bytes (old_open n open_) out (new_open n (begun_open after.window after.given_out n now)));
        }

    done_put : (bytes : List ℕ) → state_of_put after n ≡ Acknowledged → state_of_put plain n ≡ Begun
        → HasBytesOf old n bytes → found objects (numbered_name uuid n) ≡ Some bytes
        → PutStands uuid plain old.objects.uploads objects n (stands.puts n)
        → PutStands uuid after new.objects.uploads objects n (Some (Acknowledged, bytes))
    done_put bytes now begun out there was =
        let back = sym now in
        let v : Expected = expected_for uuid after in
        let sealed = subst (λ s. IsSealedIfBegun s old.objects.uploads n was.bytes) begun was.sealed in
        let same : was.bytes ≡ bytes =
        bytes_at_are (index_of old.objects.uploads n) old.objects.uploads.queue.sealed was.bytes bytes sealed out in
        let object : IsObjectOf (expected_for uuid plain) plain n was.bytes =
        subst (λ s. AreBytesOfPut s (expected_for uuid plain) plain n was.bytes) begun was.known in
        record {
          bytes = bytes;
          put_is = ap (λ s. Some (s, bytes)) back;
          known = subst (λ s. AreBytesOfPut s v after n bytes) back
              (object_stays n bytes (subst (λ b. IsObjectOf (expected_for uuid plain) plain n b) same object));
          held = subst (λ s. MayHoldPut s bytes (found objects (numbered_name uuid n))) back there;
          sealed = subst (λ s. IsSealedIfBegun s new.objects.uploads n bytes) back tt;
        }

    sealed_put : state_of_put after n ≡ NotBegun → found objects (numbered_name uuid n) ≡ None
        → PutStands uuid after new.objects.uploads objects n (Some (NotBegun, []))
    sealed_put now none =
        let back = sym now in
        let v : Expected = expected_for uuid after in
        record {
          bytes = [];
          put_is = ap (λ s. Some (s, [])) back;
          known = subst (λ s. AreBytesOfPut s v after n []) back tt;
          held = subst (λ s. MayHoldPut s [] (found objects (numbered_name uuid n))) back none;
          sealed = subst (λ s. IsSealedIfBegun s new.objects.uploads n []) back tt;
        }

    -- one that was acknowledged may be gone, once it was given out
    given_put : (state : PutState) (bytes : List ℕ) → state_of_put after n ≡ GivenOut
        → ((state ≡ Acknowledged) ⊎ (state ≡ GivenOut))
        → AreBytesOfPut state (expected_for uuid plain) plain n bytes
        → MayHoldPut state bytes (found objects (numbered_name uuid n))
        → PutStands uuid after new.objects.uploads objects n (Some (GivenOut, bytes))
    given_put state bytes now is known held =
        let back = sym now in
        let v : Expected = expected_for uuid after in
        record {
          bytes = bytes;
          put_is = ap (λ s. Some (s, bytes)) back;
          known = subst (λ s. AreBytesOfPut s v after n bytes) back (object_stays n bytes (object_of state is known));
          held = subst (λ s. MayHoldPut s bytes (found objects (numbered_name uuid n))) back
              (may_be_gone state (found objects (numbered_name uuid n)) is held);
          sealed = subst (λ s. IsSealedIfBegun s new.objects.uploads n bytes) back tt;
        }
      where
        object_of : (state : PutState) → ((state ≡ Acknowledged) ⊎ (state ≡ GivenOut))
            → AreBytesOfPut state (expected_for uuid plain) plain n bytes
            → IsObjectOf (expected_for uuid plain) plain n bytes
        object_of Acknowledged is known = known
        object_of GivenOut is known = known
        object_of Begun (inl is) known = let bad : ⊥ = cc in absurd bad
        object_of Begun (inr is) known = let bad : ⊥ = cc in absurd bad
        object_of NotBegun (inl is) known = let bad : ⊥ = cc in absurd bad
        object_of NotBegun (inr is) known = let bad : ⊥ = cc in absurd bad

        may_be_gone : (state : PutState) (there : Option (List ℕ)) → ((state ≡ Acknowledged) ⊎ (state ≡ GivenOut))
            → MayHoldPut state bytes there → MayHoldPut GivenOut bytes there
        may_be_gone Acknowledged there is held = inr held
        may_be_gone GivenOut there is held = held
        may_be_gone Begun there (inl is) held = let bad : ⊥ = cc in absurd bad
        may_be_gone Begun there (inr is) held = let bad : ⊥ = cc in absurd bad
        may_be_gone NotBegun there (inl is) held = let bad : ⊥ = cc in absurd bad
        may_be_gone NotBegun there (inr is) held = let bad : ⊥ = cc in absurd bad

    -- by whether it is there
    by_put : (put : Option (PutState × List ℕ)) → has_put after n ≡ has_put plain n
        → (PutStands uuid plain old.objects.uploads objects n (stands.puts n)
        → PutStands uuid after new.objects.uploads objects n put) → (b : Bool) → has_put plain n ≡ b
        → NumberStands uuid after new.objects.uploads objects n (put_if b put)
    by_put put same follows true is = record {
      there = λ now. follows (had.there is);
      absent = λ none. (let bad : ⊥ = (let e = sym none ∙ same ∙ is in cc) in absurd bad);
    }
    by_put put same follows false is = record {
      there = λ now. (let bad : ⊥ = (let e = sym now ∙ same ∙ is in cc) in absurd bad);
      absent = λ none. (refl, (had.absent is).1);
    }

    closed_is : (b : Bool) (state : PutState) → state ≡ cond b GivenOut Acknowledged → (state ≡ Acknowledged) ⊎ (state ≡ GivenOut)
    closed_is true state is = inr is
    closed_is false state is = inl is

    change_stands : ((k : ℕ) → (k ≡ n → ⊥) → SameAt plain after k) → IsChangeAt uuid old objects plain after n
        → StoreStands uuid epoch after new.objects.uploads objects
    change_stands same (begins bytes put now open_ out object) =
        all_but_one n (put_if (has_put plain n) (Some (Begun, bytes))) same
        (by_put (Some (Begun, bytes)) put (begun_put bytes now open_ out object) (has_put plain n) refl)
    change_stands same (ends bytes put now begun out there) =
        all_but_one n (put_if (has_put plain n) (Some (Acknowledged, bytes))) same
        (by_put (Some (Acknowledged, bytes)) put (done_put bytes now begun out there) (has_put plain n) refl)
    change_stands same (seals none now) =
        let put : Option (PutState × List ℕ) = put_if (has_put after n) (Some (NotBegun, [])) in
        all_but_one n put same (by_after (has_put after n) refl)
      where
        by_after : (b : Bool) → has_put after n ≡ b
            → NumberStands uuid after new.objects.uploads objects n (put_if b (Some (NotBegun, [])))
        by_after true is = record {
          there = λ here. sealed_put now (had.absent none).1;
          absent = λ gone. (let bad : ⊥ = (let e = sym gone ∙ is in cc) in absurd bad);
        }
        by_after false is = record {
          there = λ here. (let bad : ⊥ = (let e = sym here ∙ is in cc) in absurd bad);
          absent = λ gone. (refl, (had.absent none).1);
        }
    change_stands same (gives_out put now closed) =
        all_but_one n (given_if (has_put plain n) refl) same (given_by (has_put plain n) refl)
      where
        given_if : (b : Bool) → has_put plain n ≡ b → Option (PutState × List ℕ)
        given_if true is = Some (GivenOut, (had.there is).bytes)
        given_if false is = None

        given_by : (b : Bool) (is : has_put plain n ≡ b)
            → NumberStands uuid after new.objects.uploads objects n (given_if b is)
        given_by true is = record {
          there = λ here.
              (let was = had.there is in
              given_put (state_of_put plain n) was.bytes now
              (closed_is (has plain.given_out n) (state_of_put plain n) (closed_state plain.window plain.given_out n closed))
              was.known was.held);
          absent = λ none. (let bad : ⊥ = (let e = sym none ∙ put ∙ is in cc) in absurd bad);
        }
        given_by false is = record {
          there = λ here. (let bad : ⊥ = (let e = sym here ∙ put ∙ is in cc) in absurd bad);
          absent = λ none. (refl, (had.absent is).1);
        }
    change_stands same (removes gone none) =
        all_but_one n None same (record {
          there = λ here. (let bad : ⊥ = (let e = sym here ∙ gone in cc) in absurd bad);
          absent = λ is. (refl, none);
        })

  -- ---- any of them

  pub step_stands : IsObjectStep uuid old objects plain after → StoreStands uuid epoch after new.objects.uploads objects
  step_stands (stays same) =
      stands_by_each uuid epoch after new.objects.uploads objects stands.puts described
      (λ n. number_stays n (stands.puts n) (same n) (number_stands uuid epoch plain old.objects.uploads objects stands n))
  step_stands (changes n same change) = change_stands n same change
