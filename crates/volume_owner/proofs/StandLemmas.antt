-- A store that stands for a plain volume, told by each of its objects, and what a put or a removal leaves of it.
use Rattle.std.proofs.Common.{arith, ◌≡◌, ℕ, ◌<◌, zero, suc, ◌≤◌, nat_lt, nat_le, Bool, true, false, not, ◌&&◌, ◌⊎◌, inl, inr}
use Rattle.std.proofs.Common.{List, [], ◌∷◌, sym, ◌∙◌, refl, ap, subst}
use Rattle.std.specs.Prelude.{Option, Some, None, IfSome}
use Rattle.std.proofs.lemmas.Bool.{cases_eq, both_ways}
use Rattle.std.proofs.lemmas.Bool.Decides.{nat_tests}
use Rattle.lsvd_names.specs.declared.name.ObjName.{ObjName}
use Rattle.lsvd_names.specs.declared.name.NameKind.{NameKind}
use Rattle.lsvd_names.specs.Names.{super_name, epoch_name, numbered_name, hold_name}
use Rattle.lsvd_objstore.specs.Objects.{Objects, found, IsPut, IsRemoved, KeepsOthers}
use Rattle.stopped_volume.specs.Ancestors.{KeepsOtherVolumes}
use Rattle.stopped_volume.proofs.InheritedLemmas.{inherited_is_kept}
use Rattle.object_uploads.specs.State.{SealedState, UploadsState}
use Rattle.object_uploads.specs.Queue.{HasBytesAt}
use Rattle.object_uploads.specs.Changes.{index_of}
use Rattle.plain_disk.specs.State.{PlainState, OpensFirst, stream_in, frontier_of}
use Rattle.plain_disk.specs.Removals.{has}
use Rattle.plain_disk.specs.Found.{SealsCheckpoints}
use Rattle.plain_disk.specs.Valid.{IsPlainVolume}
use Rattle.stopped_volume.specs.Holds.{IsHeld}
use Rattle.stopped_volume.specs.Store.{PutState, MayHoldPut}
use Rattle.stopped_volume.specs.Store.PutState.{Acknowledged, GivenOut, Begun, NotBegun}
use Rattle.stopped_volume.specs.Super.{HasVolume}
use Rattle.refine_mount.specs.Found.{expected_for, HasHolds}
use Rattle.refine_store.specs.Puts.{Inherits, state_of_put, AreBytesOfPut}
use Rattle.refine_store.specs.Stored.{StoreStands}
use Rattle.refine_store.proofs.HoldLemmas.{holds_stay, held_by_hold}

-- ---- which objects there are

-- the object of a number was sealed, and was not removed
abbrev pub has_put : PlainState → (number : ℕ) → Bool
has_put plain number = nat_lt 0 number && (nat_le number plain.window.last && not (has plain.removed number))

all_of : (a b r : Bool) → (a && (b && not r)) ≡ true → (a ≡ true) × (b ≡ true) × (r ≡ false)
all_of true true false is = (refl, refl, refl)
all_of true true true is = let bad : ⊥ = cc in absurd bad
all_of true false r is = let bad : ⊥ = cc in absurd bad
all_of false b r is = let bad : ⊥ = cc in absurd bad

one_of : (a b r : Bool) → (a && (b && not r)) ≡ false → (a ≡ false) ⊎ ((b ≡ false) ⊎ (r ≡ true))
one_of false b r is = inl refl
one_of true false r is = inr (inl refl)
one_of true true true is = inr (inr refl)
one_of true true false is = let bad : ⊥ = cc in absurd bad

some_by : (number : ℕ) → nat_lt 0 number ≡ true → 0 < number
some_by number is = grind (arith, nat_tests)

none_by : (number : ℕ) → nat_lt 0 number ≡ false → number ≡ 0
none_by number is = grind (arith, nat_tests)

within_by : (number last : ℕ) → nat_le number last ≡ true → number ≤ last
within_by number last is = grind (arith, nat_tests)

past_by : (number last : ℕ) → nat_le number last ≡ false → last < number
past_by number last is = grind (arith, nat_tests)

-- it is one from 1 on up to the last that was sealed
pub record IsSealedNumber (plain : PlainState) (number : ℕ) : Type 0 where
  pub some : 0 < number
  pub within : number ≤ plain.window.last
  pub kept : has plain.removed number ≡ false

pub put_is_there : (plain : PlainState) (number : ℕ) → has_put plain number ≡ true → IsSealedNumber plain number
put_is_there plain number is =
    let all = all_of (nat_lt 0 number) (nat_le number plain.window.last) (has plain.removed number) is in
    record { some = some_by number all.0; within = within_by number plain.window.last all.1; kept = all.2 }

pub is_put : (plain : PlainState) (number : ℕ) → IsSealedNumber plain number → has_put plain number ≡ true
is_put plain number is =
    let some : nat_lt 0 number ≡ true = (let h = is.some in grind (arith, nat_tests)) in
    let within : nat_le number plain.window.last ≡ true = (let h = is.within in grind (arith, nat_tests)) in
    ap (λ b. b && (nat_le number plain.window.last && not (has plain.removed number))) some
    ∙ ap (λ b. b && not (has plain.removed number)) within ∙ ap not is.kept

pub past_has_none : (plain : PlainState) (number : ℕ) → plain.window.last < number → has_put plain number ≡ false
past_has_none plain number past = by_test (has_put plain number) refl
  where
    by_test : (b : Bool) → has_put plain number ≡ b → b ≡ false
    by_test false is = refl
    by_test true is = absurd (let there = put_is_there plain number is in omega (arith, there.within, past))

pub removed_has_none : (plain : PlainState) (number : ℕ) → has plain.removed number ≡ true → has_put plain number ≡ false
removed_has_none plain number gone = by_test (has_put plain number) refl
  where
    by_test : (b : Bool) → has_put plain number ≡ b → b ≡ false
    by_test false is = refl
    by_test true is = (let kept = (put_is_there plain number is).kept in let bad : ⊥ = cc in absurd bad)

-- ---- one put

-- the bytes of a put that was begun are those that were sealed
abbrev pub IsSealedIfBegun : PutState → UploadsState → ℕ → List ℕ → Type 0
IsSealedIfBegun Begun uploads number bytes = HasBytesAt (index_of uploads number) uploads.queue.sealed bytes
IsSealedIfBegun Acknowledged uploads number bytes = Unit {0}
IsSealedIfBegun GivenOut uploads number bytes = Unit {0}
IsSealedIfBegun NotBegun uploads number bytes = Unit {0}

-- what is known of the put of one number that is there
pub record PutStands (uuid : List ℕ) (plain : PlainState) (uploads : UploadsState) (objects : Objects) (number : ℕ)
    (put : Option (PutState × List ℕ)) : Type 0 where
  pub bytes : List ℕ
  pub put_is : put ≡ Some (state_of_put plain number, bytes)
  pub known : AreBytesOfPut (state_of_put plain number) (expected_for uuid plain) plain number bytes
  pub held : MayHoldPut (state_of_put plain number) bytes (found objects (numbered_name uuid number))
  pub sealed : IsSealedIfBegun (state_of_put plain number) uploads number bytes

-- and of each number
pub record NumberStands (uuid : List ℕ) (plain : PlainState) (uploads : UploadsState) (objects : Objects) (number : ℕ)
    (put : Option (PutState × List ℕ)) : Type 0 where
  pub there : has_put plain number ≡ true → PutStands uuid plain uploads objects number put
  pub absent : has_put plain number ≡ false → (put ≡ None) × (found objects (numbered_name uuid number) ≡ None)

abbrev state_in : Option (PutState × List ℕ) → PutState
state_in None = NotBegun
state_in (Some put) = put.0

abbrev bytes_in : List ℕ → Option (PutState × List ℕ) → List ℕ
bytes_in other None = other
bytes_in other (Some put) = put.1

abbrev put_of : PutState → List ℕ → Option (PutState × List ℕ)
put_of state bytes = Some (state, bytes)

same_state : (a b : PutState) (xs ys : List ℕ) → put_of a xs ≡ put_of b ys → a ≡ b
same_state a b xs ys is = ap state_in is

same_bytes : (a b : PutState) (xs ys : List ℕ) → put_of a xs ≡ put_of b ys → xs ≡ ys
same_bytes a b xs ys is = ap (bytes_in xs) is

some_not_none : (put : PutState × List ℕ) → Some put ≡ None → ⊥
some_not_none put is = cc

-- what a store has of a volume beside its objects
pub record IsDescribed (uuid : List ℕ) (epoch : ℕ) (plain : PlainState) (objects : Objects) : Type 0 where
  pub described : HasVolume uuid plain.geometry plain.chain epoch objects
  pub opens : OpensFirst plain
  pub inherits : Inherits uuid plain objects
  pub seals : SealsCheckpoints plain
  pub holds : HasHolds (expected_for uuid plain) plain.held objects
  pub out : IfSome plain.removal (λ number. has plain.given_out number ≡ true)

module _ (uuid : List ℕ) (epoch : ℕ) (plain : PlainState) (uploads : UploadsState) (objects : Objects) where
  -- ---- what stands, by each put

  module _ (stands : StoreStands uuid epoch plain uploads objects) where
    pub is_described : IsDescribed uuid epoch plain objects
    is_described = record {
      described = stands.left.described;
      opens = stands.left.opens;
      inherits = stands.left.inherits;
      seals = stands.left.seals;
      holds = stands.left.holds;
      out = stands.out;
    }

    sealed_by : (state : PutState) (number : ℕ) (bytes : List ℕ) → stands.puts number ≡ Some (state, bytes)
        → IsSealedIfBegun state uploads number bytes
    sealed_by Acknowledged number bytes is = tt
    sealed_by GivenOut number bytes is = tt
    sealed_by Begun number bytes is = stands.sealed number bytes is
    sealed_by NotBegun number bytes is = tt

    put_stands : (number : ℕ) → has_put plain number ≡ true → PutStands uuid plain uploads objects number (stands.puts number)
    put_stands number is =
        let there = put_is_there plain number is in
        let known = stands.are.known number there.some there.within there.kept in
        let state : PutState = state_of_put plain number in
        record {
          bytes = known.0;
          put_is = known.1;
          known = known.2;
          held = stands.left.held.puts_are number state known.0 known.1;
          sealed = sealed_by state number known.0 known.1;
        }

    none_stands : (number : ℕ) → has_put plain number ≡ false → stands.puts number ≡ None
    none_stands number is =
        elim (one_of (nat_lt 0 number) (nat_le number plain.window.last) (has plain.removed number) is) [
          | inl zero_ ↦ ap stands.puts (none_by number zero_) ∙ stands.are.none_first
          | inr (inl over) ↦ stands.are.none_else number (past_by number plain.window.last over)
          | inr (inr gone) ↦ stands.are.removed number gone
        ]

    pub number_stands : (number : ℕ) → NumberStands uuid plain uploads objects number (stands.puts number)
    number_stands number = record {
      there = λ is. put_stands number is;
      absent = λ is. (let none = none_stands number is in (none, stands.left.held.none_else number none));
    }

  -- ---- by each put, it stands

  module _ (puts : ℕ → Option (PutState × List ℕ)) (described : IsDescribed uuid epoch plain objects)
      (each : (number : ℕ) → NumberStands uuid plain uploads objects number (puts number)) where
    held_put : (number : ℕ) (state : PutState) (bytes : List ℕ) → puts number ≡ Some (state, bytes) → (b : Bool)
        → has_put plain number ≡ b
        → MayHoldPut state bytes (found objects (numbered_name uuid number)) × IsSealedIfBegun state uploads number bytes
    held_put number state bytes is false none = absurd (some_not_none (state, bytes) (sym is ∙ ((each number).absent none).0))
    held_put number state bytes is true here =
        let put = (each number).there here in
        let now : PutState = state_of_put plain number in
        let both : put_of now put.bytes ≡ put_of state bytes = sym put.put_is ∙ is in
        let state_is = same_state now state put.bytes bytes both in
        let bytes_are = same_bytes now state put.bytes bytes both in
        let there = found objects (numbered_name uuid number) in (
          subst (λ s. MayHoldPut s bytes there) state_is (subst (λ b. MayHoldPut now b there) bytes_are put.held),
          subst (λ s. IsSealedIfBegun s uploads number bytes) state_is
              (subst (λ b. IsSealedIfBegun now uploads number b) bytes_are put.sealed),
        )

    held_none : (number : ℕ) → puts number ≡ None → (b : Bool) → has_put plain number ≡ b
        → found objects (numbered_name uuid number) ≡ None
    held_none number is false none = ((each number).absent none).1
    held_none number is true here =
        let put = (each number).there here in
        absurd (some_not_none (state_of_put plain number, put.bytes) (sym put.put_is ∙ is))

    zero_has_none : has_put plain 0 ≡ false
    zero_has_none = refl

    pub stands_by_each : StoreStands uuid epoch plain uploads objects
    stands_by_each = record {
      puts = puts;
      are = record {
        known = λ number some within kept.
            (let put = (each number).there (is_put plain number (record { some = some; within = within; kept = kept })) in
            (put.bytes, put.put_is, put.known));
        removed = λ number gone. ((each number).absent (removed_has_none plain number gone)).0;
        none_first = ((each 0).absent zero_has_none).0;
        none_else = λ number over. ((each number).absent (past_has_none plain number over)).0;
      };
      left = record {
        described = described.described;
        opens = described.opens;
        inherits = described.inherits;
        seals = described.seals;
        holds = described.holds;
        held = record {
          puts_are = λ number state bytes is. (held_put number state bytes is (has_put plain number) refl).0;
          none_else = λ number is. held_none number is (has_put plain number) refl;
        };
      };
      sealed = λ number bytes is. (held_put number Begun bytes is (has_put plain number) refl).1;
      out = described.out;
    }

-- ---- the same bytes

-- what is sealed at an index is one
pub bytes_at_are : (index : ℕ) (sealed : List SealedState) (xs ys : List ℕ) → HasBytesAt index sealed xs
    → HasBytesAt index sealed ys → xs ≡ ys
bytes_at_are index [] xs ys first second = absurd first
bytes_at_are zero (one ∷ sealed) xs ys first second = first ∙ sym second
bytes_at_are (suc index) (one ∷ sealed) xs ys first second = bytes_at_are index sealed xs ys first second

-- ---- names

abbrev number_in : ObjName → ℕ
number_in name = name.number

abbrev kind_in : ObjName → NameKind
kind_in name = name.kind

other_number : (uuid : List ℕ) (a b : ℕ) → (a ≡ b → ⊥) → numbered_name uuid a ≡ numbered_name uuid b → ⊥
other_number uuid a b other same = other (ap number_in same)

super_is_other : (uuid : List ℕ) (number : ℕ) → super_name uuid ≡ numbered_name uuid number → ⊥
super_is_other uuid number same = (let kind = ap kind_in same in let bad : ⊥ = cc in bad)

epoch_is_other : (uuid : List ℕ) (epoch number : ℕ) → epoch_name uuid epoch ≡ numbered_name uuid number → ⊥
epoch_is_other uuid epoch number same = (let kind = ap kind_in same in let bad : ⊥ = cc in bad)

hold_is_other : (uuid : List ℕ) (checkpoint number : ℕ) → hold_name uuid checkpoint ≡ numbered_name uuid number → ⊥
hold_is_other uuid checkpoint number same = (let kind = ap kind_in same in let bad : ⊥ = cc in bad)

-- ---- a change of one object

module _ (uuid : List ℕ) (n : ℕ) (old new : Objects) (others : KeepsOthers (numbered_name uuid n) old new) where
  other_object : (number : ℕ) → (number ≡ n → ⊥) → found new (numbered_name uuid number) ≡ found old (numbered_name uuid number)
  other_object number other = others (numbered_name uuid number) (other_number uuid number n other)

  -- and each of another volume
  other_volumes : KeepsOtherVolumes uuid old new
  other_volumes name apart = others name (λ same. apart (ap (λ (other : ObjName). other.uuid) same))

  -- it leaves what the store says of the volume
  change_keeps_volume : (plain : PlainState) (epoch : ℕ) → HasVolume uuid plain.geometry plain.chain epoch old
      → HasVolume uuid plain.geometry plain.chain epoch new
  change_keeps_volume plain epoch has_ = record {
    volume = has_.volume;
    says = record {
      bytes = has_.says.bytes;
      present = others (super_name uuid) (super_is_other uuid n) ∙ has_.says.present;
      is_super = has_.says.is_super;
    };
    sizes = has_.sizes;
    chain_is = has_.chain_is;
    epochs = record {
      bytes = has_.epochs.bytes;
      present = others (epoch_name uuid epoch) (epoch_is_other uuid epoch n) ∙ has_.epochs.present;
      epoch = has_.epochs.epoch;
      is_epoch = has_.epochs.is_epoch;
      newest = λ other more less. others (epoch_name uuid other) (epoch_is_other uuid other n)
          ∙ has_.epochs.newest other more less;
    };
    whole = λ number found_bytes there.
        has_.whole number found_bytes (sym (others (epoch_name uuid number) (epoch_is_other uuid number n)) ∙ there);
    holds = λ number found_bytes there.
        has_.holds number found_bytes (sym (others (hold_name uuid number) (hold_is_other uuid number n)) ∙ there);
  }

  -- so the store stands where the put of that object may have what is there now
  change_stands : (epoch : ℕ) (plain : PlainState) (uploads : UploadsState)
      → ((k : ℕ) → IsHeld (expected_for uuid plain) old k → k ≡ n → ⊥)
      → (stands : StoreStands uuid epoch plain uploads old)
      → (has_put plain n ≡ false → found new (numbered_name uuid n) ≡ None)
      → ((bytes : List ℕ) → stands.puts n ≡ Some (state_of_put plain n, bytes)
      → MayHoldPut (state_of_put plain n) bytes (found old (numbered_name uuid n))
      → IsSealedIfBegun (state_of_put plain n) uploads n bytes
      → MayHoldPut (state_of_put plain n) bytes (found new (numbered_name uuid n)))
      → StoreStands uuid epoch plain uploads new
  change_stands epoch plain uploads not_held stands if_none changes =
      let was = is_described uuid epoch plain uploads old stands in
      stands_by_each uuid epoch plain uploads new stands.puts (record {
        described = change_keeps_volume plain epoch was.described;
        opens = was.opens;
        inherits =
            inherited_is_kept uuid plain.chain (stream_in plain).opening
            (stream_in plain).inherited plain.opening old new other_volumes
            was.inherits;
        seals = was.seals;
        holds =
            holds_stay (expected_for uuid plain) plain.held old new (record {
              names = λ k. others (hold_name uuid k) (hold_is_other uuid k n);
              checkpoints = λ k held. other_object k (not_held k held);
            }) was.holds;
        out = was.out;
      }) each
    where
      held_at : (number : ℕ) (put : PutStands uuid plain uploads old number (stands.puts number))
          → (number ≡ n) ⊎ (number ≡ n → ⊥)
          → MayHoldPut (state_of_put plain number) put.bytes (found new (numbered_name uuid number))
      held_at number put (inl same) =
          let Here = λ (k : ℕ). (bytes : List ℕ) → stands.puts k ≡ Some (state_of_put plain k, bytes)
          → MayHoldPut (state_of_put plain k) bytes (found old (numbered_name uuid k))
          → IsSealedIfBegun (state_of_put plain k) uploads k bytes
          → MayHoldPut (state_of_put plain k) bytes (found new (numbered_name uuid k)) in
          subst Here (sym same) changes put.bytes put.put_is put.held put.sealed
      held_at number put (inr other) =
          subst (λ o. MayHoldPut (state_of_put plain number) put.bytes o) (sym (other_object number other)) put.held

      absent_at : (number : ℕ) → has_put plain number ≡ false → found old (numbered_name uuid number) ≡ None
          → (number ≡ n) ⊎ (number ≡ n → ⊥) → found new (numbered_name uuid number) ≡ None
      absent_at number none had (inl same) =
          ap (λ k. found new (numbered_name uuid k)) same ∙ if_none (ap (has_put plain) (sym same) ∙ none)
      absent_at number none had (inr other) = other_object number other ∙ had

      each : (number : ℕ) → NumberStands uuid plain uploads new number (stands.puts number)
      each number =
          let had = number_stands uuid epoch plain uploads old stands number in
          record {
            there = λ is.
                (let put = had.there is in
                record {
                  bytes = put.bytes;
                  put_is = put.put_is;
                  known = put.known;
                  held = held_at number put (cases_eq number n);
                  sealed = put.sealed;
                });
            absent = λ is. (let none = had.absent is in (none.0, absent_at number is none.1 (cases_eq number n)));
          }

-- ---- a put

-- what a store holds of a put that is under way, after its object was put
held_by : (state : PutState) (known bytes : List ℕ) (now : Option (List ℕ)) → state ≡ Begun → now ≡ Some bytes → bytes ≡ known
    → MayHoldPut state known now
held_by state known bytes now is there same =
    let begun : MayHoldPut Begun known now = inr (there ∙ ap Some same) in
    subst (λ s. MayHoldPut s known now) (sym is) begun

sealed_bytes : (state : PutState) (uploads : UploadsState) (number : ℕ) (known bytes : List ℕ) → state ≡ Begun
    → IsSealedIfBegun state uploads number known
    → HasBytesAt (index_of uploads number) uploads.queue.sealed bytes → bytes ≡ known
sealed_bytes state uploads number known bytes is sealed out =
    bytes_at_are (index_of uploads number) uploads.queue.sealed bytes known out
    (subst (λ s. IsSealedIfBegun s uploads number known) is sealed)

-- the object of a put that was begun is put, and the store stands
pub put_stands_still : (uuid : List ℕ) (epoch n : ℕ) (bytes : List ℕ) (plain : PlainState) (uploads : UploadsState)
    (old new : Objects)
    → IsPlainVolume plain → frontier_of plain < n → has_put plain n ≡ true → state_of_put plain n ≡ Begun
    → HasBytesAt (index_of uploads n) uploads.queue.sealed bytes
    → IsPut (numbered_name uuid n) bytes old new → StoreStands uuid epoch plain uploads old
    → StoreStands uuid epoch plain uploads new
put_stands_still uuid epoch n bytes plain uploads old new valid past there begun out put stands =
    change_stands uuid n old new put.others epoch plain uploads
    (λ k held same.
    let kept = held_by_hold (expected_for uuid plain) plain old k valid stands.left.holds held in
    omega (arith, kept.acknowledged, past, same)) stands
    (λ none. (let bad : ⊥ = (let e = sym none ∙ there in cc) in absurd bad))
    (λ known is held sealed.
    held_by (state_of_put plain n) known bytes (found new (numbered_name uuid n)) begun put.put
    (sealed_bytes (state_of_put plain n) uploads n known bytes begun sealed out))

-- ---- a removal

gone_by : (state : PutState) (known : List ℕ) (now : Option (List ℕ)) → state ≡ GivenOut → now ≡ None → MayHoldPut state known now
gone_by state known now is none =
    let given : MayHoldPut GivenOut known now = inl none in subst (λ s. MayHoldPut s known now) (sym is) given

-- one that was given out for it is removed, and the store stands
pub removal_stands_still : (uuid : List ℕ) (epoch n : ℕ) (plain : PlainState) (uploads : UploadsState) (old new : Objects)
    → IsPlainVolume plain → has plain.given_out n ≡ true → state_of_put plain n ≡ GivenOut
    → IsRemoved (numbered_name uuid n) old new
    → StoreStands uuid epoch plain uploads old → StoreStands uuid epoch plain uploads new
removal_stands_still uuid epoch n plain uploads old new valid out given removed stands =
    change_stands uuid n old new removed.others epoch plain uploads
    (λ k held same.
    let kept = held_by_hold (expected_for uuid plain) plain old k valid stands.left.holds held in
    both_ways (has plain.given_out k) kept.kept (ap (has plain.given_out) same ∙ out)) stands (λ none. removed.absent)
    (λ known is held sealed.
    gone_by (state_of_put plain n) known (found new (numbered_name uuid n)) given removed.absent)
