-- The objects of ancestors that rows name, taken up one by one.
use Rattle.std.proofs.Common.{rules, ◌≡◌, ℕ, ◌==◌, ◌&&◌, inl, inr, true, false, cond, Bool, Option, Some, None}
use Rattle.std.proofs.Common.{List, [], ◌∷◌}
use Rattle.std.proofs.Common.{◌++◌, length, get_or, refl, sym, ◌∙◌, ap, subst, arith, append_assoc, append-nil}
use Rattle.std.specs.Prelude.{IfSome, ◌⊎◌}
use Rattle.std.specs.Option.{IsSome, option_or}
use Rattle.std.specs.List.{All, Contains}
use Rattle.std.proofs.Math.Seq.{get_or-append_seam}
use Rattle.std.proofs.lemmas.Bool.Decides.{nat_tests}
use Rattle.std.proofs.lemmas.List.{get_or_append_left, length-append}
use Rattle.std.proofs.lemmas.List.Elements.{All-nil, All-push, All-weaker, All-head, All-tail, All-contains, Contains-push_cases}
use Rattle.std.proofs.lemmas.List.Elements.{Contains-append_left}
use Rattle.clone_chain.specs.declared.ancestor.Ancestor.{Ancestor}
use Rattle.lsvd_base.specs.declared.geometry.Geometry.{Geometry}
use Rattle.lsvd_names.specs.Names.{numbered_name}
use Rattle.lsvd_objstore.specs.Objects.{Objects, found}
use Rattle.object_stream.specs.declared.owner.Owner.{Owner}
use Rattle.object_uploads.specs.State.{InheritedObject, StoredObject, UploadsState}
use Rattle.object_uploads.specs.Queue.{is_of_owner, inherited_in}
use Rattle.object_uploads.specs.Opening.{with_inherited}
use Rattle.object_uploads.specs.Order.{IsBefore, ComesLast}
use Rattle.obj_log.specs.State.{ObjLogState}
use Rattle.object_recovery.specs.declared.inherited.Inherited.TheVariants as of_ancestors
use Rattle.object_recovery.specs.declared.inherited.Named.{Named}
use Rattle.object_recovery.specs.Earlier.{IsStoredThere}
use Rattle.object_recovery.specs.Inherited.{IsBelow, AreInOrder, found_as, inherited_as, TakesOne, IsAbsent}
use Rattle.object_recovery.specs.Inherited.{IsSameButInherited, expected_there, IsUuidOf, IsTaken, IsAbsentThere, IsNotAbsent}
use Rattle.object_recovery.specs.Inherited.{IsFirstAbsent, HasInherited, TakesInherited}
use Rattle.object_recovery.proofs.FindLemmas.{told_so}

-- ---- which object is that of a level and a number

abbrev stored : InheritedObject → StoredObject
stored object = record { receipt = object.receipt; front = object.front }

first_in : (test : Bool) (owner : Owner) (first : InheritedObject) (rest : List InheritedObject) → is_of_owner owner first ≡ test
    → inherited_in (first ∷ rest) owner ≡ cond test (Some (stored first)) (inherited_in rest owner)
first_in true owner first rest is = rw is refl
first_in false owner first rest is = rw is refl

kept_by : (test : Bool) (owner : Owner) (first : InheritedObject) (rest more : List InheritedObject) (object : StoredObject)
    → is_of_owner owner first ≡ test
    → (inherited_in rest owner ≡ Some object → inherited_in (rest ++ more) owner ≡ Some object)
    → inherited_in (first ∷ rest) owner ≡ Some object → inherited_in (first ∷ (rest ++ more)) owner ≡ Some object
kept_by true owner first rest more object test so is =
    first_in true owner first (rest ++ more) test ∙ sym (first_in true owner first rest test) ∙ is
kept_by false owner first rest more object test so is =
    first_in false owner first (rest ++ more) test ∙ so (sym (first_in false owner first rest test) ∙ is)

-- it is still found where more follow
still_in : (list more : List InheritedObject) (owner : Owner) (object : StoredObject) → inherited_in list owner ≡ Some object
    → inherited_in (list ++ more) owner ≡ Some object
still_in [] more owner object is = absurd cc
still_in (first ∷ rest) more owner object is =
    kept_by (is_of_owner owner first) owner first rest more object refl (still_in rest more owner object) is

both_false : (level number : Bool) → number ≡ false → level && number ≡ false
both_false true number other = other
both_false false number other = refl

other_level : (owner : Owner) (object : InheritedObject) → (object.level ≡ owner.level → ⊥) → is_of_owner owner object ≡ false
other_level owner object apart =
    let differ : (object.level == owner.level) ≡ false = grind (arith, nat_tests) in
    rw differ refl

before_it : (owner : Owner) (object : InheritedObject) → IsBefore object owner.level owner.number
    → is_of_owner owner object ≡ false
before_it owner object (inl low) = other_level owner object (λ same. absurd (omega (arith, low, same)))
before_it owner object (inr low) =
    both_false (object.level == owner.level) (object.number == owner.number) (grind (arith, nat_tests))

own_object : (owner : Owner) (object : InheritedObject) → object.level ≡ owner.level → object.number ≡ owner.number
    → is_of_owner owner object ≡ true
own_object owner object level number =
    let same_level : (object.level == owner.level) ≡ true = grind (arith, nat_tests) in
    let same_number : (object.number == owner.number) ≡ true = grind (arith, nat_tests) in
    rw (same_level, same_number) refl

-- the last of objects, which comes after all others, is found
last_in : (list : List InheritedObject) (owner : Owner) (object : InheritedObject) → ComesLast owner.level owner.number list
    → object.level ≡ owner.level → object.number ≡ owner.number
    → inherited_in (list ++ object ∷ []) owner ≡ Some (stored object)
last_in [] owner object last level number = first_in true owner object [] (own_object owner object level number)
last_in (first ∷ rest) owner object last level number =
    let Before : InheritedObject → Type 0 = λ o. IsBefore o owner.level owner.number in
    first_in false owner first (rest ++ object ∷ []) (before_it owner first (All-head Before first rest last))
    ∙ last_in rest owner object (All-tail Before first rest last) level number

-- ---- the order of those that are named

pub not_both : (a b : Named) → IsBelow a b → IsBelow b a → ⊥
not_both a b (inl low) (inl other) = omega (arith, low, other)
not_both a b (inl low) (inr other) = omega (arith, low, other.0)
not_both a b (inr low) (inl other) = omega (arith, low.0, other)
not_both a b (inr low) (inr other) = omega (arith, low.1, other.1)

not_itself : (a : Named) → IsBelow a a → ⊥
not_itself a below = not_both a a below below

-- the objects before one come before it
pub below_next : (done : List Named) (e : Named) (rest : List Named) → AreInOrder (done ++ e ∷ rest)
    → All (λ (n : Named). IsBelow n e) done
below_next done e rest order i d inside =
    let h = order i (length done) d inside (omega (arith, length-append done (e ∷ rest))) in
    let a = get_or_append_left done (e ∷ rest) d i inside in
    let b = get_or-append_seam done e rest d in
    subst (λ n. IsBelow n e) a (subst (IsBelow (get_or (done ++ e ∷ rest) i d)) b h)

-- and it is one of them all
pub next_is_in : (named done : List Named) (e : Named) (rest : List Named) → named ≡ done ++ e ∷ rest → Contains named e
next_is_in named done e rest split =
    subst (λ l. Contains l e) (sym split)
    (length done, omega (arith, length-append done (e ∷ rest)), get_or-append_seam done e rest e)

-- ---- taken up one by one

-- an object of the list is one of those that are named
abbrev pub IsOneOf : List Named → InheritedObject → Type 0
IsOneOf done o = (n : Named) × Contains done n × (n.level ≡ o.level) × (n.number ≡ o.number)

one_of_more : (done : List Named) (e : Named) (o : InheritedObject) → IsOneOf done o → IsOneOf (done ++ e ∷ []) o
one_of_more done e o is = (is.0, Contains-append_left done (e ∷ []) is.0 is.1, is.2, is.3)

last_contained : (done : List Named) (e : Named) → Contains (done ++ e ∷ []) e
last_contained done e = next_is_in (done ++ e ∷ []) done e [] refl

before_by : (n e : Named) (o : InheritedObject) → n.level ≡ o.level → n.number ≡ o.number → IsBelow n e
    → IsBefore o e.level e.number
before_by n e o level number (inl low) = inl (omega (arith, low, level))
before_by n e o level number (inr low) = inr (sym level ∙ low.0, omega (arith, low.1, number))

-- so one that comes after all that are named comes after all of the list
pub comes_last : (done : List Named) (e : Named) (inherited : List InheritedObject) → All (λ (n : Named). IsBelow n e) done
    → All (IsOneOf done) inherited → ComesLast e.level e.number inherited
comes_last done e inherited below one =
    All-weaker (IsOneOf done) (λ (o : InheritedObject). IsBefore o e.level e.number) (λ o is.
    before_by is.0 e o is.2 is.3 (All-contains (λ (n : Named). IsBelow n e) done is.0 below is.1)) inherited one

module _ (Tells : Type 0) (geometry : Geometry) (chain : List Ancestor) (told : Option Objects) where
  -- an object that was taken up is there
  pub taken_is_there : (inherited : List InheritedObject) (n : Named) → IsTaken Tells geometry chain told inherited n
      → IsNotAbsent Tells geometry chain told n
  taken_is_there inherited n is = (
    is.uuid,
    is.of,
    told_so (λ objects. IsStoredThere is.uuid objects (found_as n is.receipt))
        (λ objects. IsSome (found objects (numbered_name is.uuid n.number))) told (λ objects there.
        subst (λ o. IsSome o) (sym there.1) (search rules)) is.has.found.stored,
  )

  -- and stays so
  still_taken : (inherited more : List InheritedObject) (n : Named) → IsTaken Tells geometry chain told inherited n
      → IsTaken Tells geometry chain told (inherited ++ more) n
  still_taken inherited more n is = record {
    uuid = is.uuid;
    of = is.of;
    receipt = is.receipt;
    front = is.front;
    has = is.has;
    there = still_in inherited more _ _ is.there;
  }

  abbrev Outcome : List InheritedObject → Named → Type 0
  Outcome inherited n = IsTaken Tells geometry chain told inherited n ⊎ IsAbsentThere Tells geometry chain told n

  still_so : (inherited more : List InheritedObject) (n : Named) → Outcome inherited n → Outcome (inherited ++ more) n
  still_so inherited more n (inl taken) = inl (still_taken inherited more n taken)
  still_so inherited more n (inr absent) = inr absent

  -- the first that is absent is so where one more follows that is there, or that comes after it
  first_by : (done : List Named) (e : Named) (uuid : List ℕ) (is : IsFirstAbsent Tells geometry chain told done uuid)
      → (IsBelow e is.first → IsNotAbsent Tells geometry chain told e)
      → IsFirstAbsent Tells geometry chain told (done ++ e ∷ []) uuid
  first_by done e uuid is there = record {
    first = is.first;
    among = Contains-append_left done (e ∷ []) is.first is.among;
    of = is.of;
    absent = is.absent;
    nearer = λ n at below.
        elim (Contains-push_cases done e n at) [
          | inl before ↦ is.nearer n before below
          | inr same ↦ (
              let it : IsBelow e is.first = subst (λ m. IsBelow m is.first) (sym same) below in
              subst (IsNotAbsent Tells geometry chain told) same (there it))
        ];
  }

  first_more : (done : List Named) (e : Named) (absent : Option (List ℕ))
      → ((first : Named) → Contains done first → IsBelow e first → IsNotAbsent Tells geometry chain told e)
      → IfSome absent (IsFirstAbsent Tells geometry chain told done)
      → IfSome absent (IsFirstAbsent Tells geometry chain told (done ++ e ∷ []))
  first_more done e None there is = tt
  first_more done e (Some uuid) there is = first_by done e uuid is (there is.first is.among)

  -- some of the objects were taken up, or found absent
  pub record HasSome (done : List Named) (absent : Option (List ℕ)) (old new : ObjLogState) : Type 0 where
    pub only : IsSameButInherited old new
    pub one_of : All (IsOneOf done) new.uploads.queue.inherited
    pub has : HasInherited Tells geometry chain told done new.uploads.queue.inherited absent

  pub has_none : (log : ObjLogState) → log.uploads.queue.inherited ≡ [] → HasSome [] None log log
  has_none log none = record {
    only = record { batch = refl; uploads = refl };
    one_of = subst (All (IsOneOf [])) (sym none) (All-nil (IsOneOf []));
    has = record { each = All-nil _; whole = λ is. All-nil _; first = tt };
  }

  -- one more was taken up
  module _ (done : List Named) (e : Named) (absent : Option (List ℕ)) (uuid : List ℕ)
      (of : IsUuidOf Tells geometry chain told e uuid)
      (old log new : ObjLogState) (below : All (λ (n : Named). IsBelow n e) done) (some : HasSome done absent old log) where
    module _ (takes : TakesOne Tells (expected_there Tells geometry chain told uuid) told e log new) where
      abbrev object : InheritedObject
      object = inherited_as e takes.receipt takes.front

      abbrev was : List InheritedObject
      was = log.uploads.queue.inherited

      grown : new.uploads.queue.inherited ≡ was ++ object ∷ []
      grown = ap (λ (u : UploadsState). u.queue.inherited) takes.uploads

      only_more : IsSameButInherited old new
      only_more =
          let with_list : List InheritedObject → UploadsState =
          λ list. record old.uploads { queue = record old.uploads.queue { inherited = list } } in
          record {
            batch = takes.batch ∙ some.only.batch;
            uploads =
                takes.uploads ∙ ap (with_inherited object) some.only.uploads ∙ ap with_list (sym grown);
          }

      its : IsTaken Tells geometry chain told (was ++ object ∷ []) e
      its = record {
        uuid = uuid;
        of = of;
        receipt = takes.receipt;
        front = takes.front;
        has = takes.has;
        there = last_in was _ object (comes_last done e was below some.one_of) refl refl;
      }

      has_more : HasInherited Tells geometry chain told (done ++ e ∷ []) (was ++ object ∷ []) absent
      has_more = record {
        each =
            All-push (Outcome (was ++ object ∷ [])) done e
            (All-weaker (Outcome was) (Outcome (was ++ object ∷ [])) (still_so was (object ∷ [])) done some.has.each)
            (inl its);
        whole = λ none.
            All-push (IsTaken Tells geometry chain told (was ++ object ∷ [])) done e
            (All-weaker (IsTaken Tells geometry chain told was) (IsTaken Tells geometry chain told (was ++ object ∷ []))
            (still_taken was (object ∷ [])) done (some.has.whole none)) its;
        first = first_more done e absent (λ first at before. taken_is_there (was ++ object ∷ []) e its) some.has.first;
      }

      pub one_taken : HasSome (done ++ e ∷ []) absent old new
      one_taken = record {
        only = only_more;
        one_of =
            subst (All (IsOneOf (done ++ e ∷ []))) (sym grown)
            (All-push (IsOneOf (done ++ e ∷ [])) was object
            (All-weaker (IsOneOf done) (IsOneOf (done ++ e ∷ [])) (one_of_more done e) was some.one_of)
            (e, last_contained done e, refl, refl));
        has = subst (λ list. HasInherited Tells geometry chain told (done ++ e ∷ []) list absent) (sym grown) has_more;
      }

  -- or it is absent
  module _ (done : List Named) (e : Named) (uuid : List ℕ) (of : IsUuidOf Tells geometry chain told e uuid)
      (is_absent : IsAbsent uuid told e) (below : All (λ (n : Named). IsBelow n e) done) where
    first_now : (absent : Option (List ℕ)) (inherited : List InheritedObject)
        → HasInherited Tells geometry chain told done inherited absent
        → IfSome (option_or absent (Some uuid)) (IsFirstAbsent Tells geometry chain told (done ++ e ∷ []))
    first_now None inherited has = record {
      first = e;
      among = last_contained done e;
      of = of;
      absent = is_absent;
      nearer = λ n at before.
          elim (Contains-push_cases done e n at) [
            | inl earlier ↦
                taken_is_there inherited n
                (All-contains (IsTaken Tells geometry chain told inherited) done n (has.whole refl) earlier)
            | inr same ↦ absurd (not_itself e (subst (λ m. IsBelow m e) (sym same) before))
          ];
    }
    first_now (Some first) inherited has =
        first_by done e first has.first (λ before.
        absurd (not_both e has.first.first before
        (All-contains (λ (n : Named). IsBelow n e) done has.first.first below has.first.among)))

    never_whole : (absent : Option (List ℕ)) → option_or absent (Some uuid) ≡ None → ⊥
    never_whole None is = absurd cc
    never_whole (Some first) is = absurd cc

    pub one_absent : (absent : Option (List ℕ)) (old log : ObjLogState) → HasSome done absent old log
        → HasSome (done ++ e ∷ []) (option_or absent (Some uuid)) old log
    one_absent absent old log some =
        let inherited = log.uploads.queue.inherited in
        record {
          only = some.only;
          one_of = All-weaker (IsOneOf done) (IsOneOf (done ++ e ∷ [])) (one_of_more done e) inherited some.one_of;
          has = record {
            each =
                All-push (Outcome inherited) done e some.has.each
                (inr (record { uuid = uuid; of = of; absent = is_absent }));
            whole = λ none. absurd (never_whole absent none);
            first = first_now absent inherited some.has;
          };
        }

  -- those of some objects before the rest were
  pub record HasSomeOf (named rest : List Named) (absent : Option (List ℕ)) (old new : ObjLogState) : Type 0 where
    pub done : List Named
    pub split : named ≡ done ++ rest
    pub some : HasSome done absent old new

  pub all_come : (named rest : List Named) (absent : Option (List ℕ)) (old new : ObjLogState) → rest ≡ []
      → HasSomeOf named rest absent old new
      → TakesInherited Tells geometry chain told named old new (of_ancestors.Taken absent)
  all_come named rest absent old new none is =
      let all : is.done ≡ named = sym (is.split ∙ ap (λ r. is.done ++ r) none ∙ append-nil is.done) in (
        is.some.only,
        subst (λ l. HasInherited Tells geometry chain told l new.uploads.queue.inherited absent) all is.some.has,
      )

  pub one_more_taken : (named : List Named) (e : Named) (rest : List Named) (absent : Option (List ℕ)) (uuid : List ℕ)
      (old log new : ObjLogState)
      → AreInOrder named → IsUuidOf Tells geometry chain told e uuid
      → TakesOne Tells (expected_there Tells geometry chain told uuid) told e log new → HasSomeOf named (e ∷ rest) absent old log
      → HasSomeOf named rest absent old new
  one_more_taken named e rest absent uuid old log new order of takes is = record {
    done = is.done ++ e ∷ [];
    split = is.split ∙ sym (append_assoc is.done (e ∷ []) rest);
    some =
        one_taken is.done e absent uuid of old log new (below_next is.done e rest (subst AreInOrder is.split order)) is.some
        takes;
  }

  pub one_more_absent : (named : List Named) (e : Named) (rest : List Named) (absent : Option (List ℕ)) (uuid : List ℕ)
      (old log : ObjLogState)
      → AreInOrder named → IsUuidOf Tells geometry chain told e uuid → IsAbsent uuid told e
      → HasSomeOf named (e ∷ rest) absent old log → HasSomeOf named rest (option_or absent (Some uuid)) old log
  one_more_absent named e rest absent uuid old log order of is_absent is = record {
    done = is.done ++ e ∷ [];
    split = is.split ∙ sym (append_assoc is.done (e ∷ []) rest);
    some =
        one_absent is.done e uuid of is_absent (below_next is.done e rest (subst AreInOrder is.split order)) absent old log
        is.some;
  }
