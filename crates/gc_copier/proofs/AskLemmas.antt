-- What is asked of a store in one call after the other.
use Rattle.std.proofs.Common.{◌≡◌, ℕ, zero, suc, ◌+◌, ◌*◌, ◌≤◌, Bool, false, Option, Some, None, List, [], ◌∷◌, ◌++◌}
use Rattle.std.proofs.Common.{refl}
use Rattle.std.proofs.Common.{sym, ◌∙◌, ap, subst, append_assoc, arith}
use Rattle.std.specs.List.{Contains}
use Rattle.std.proofs.lemmas.List.{length-append}
use Rattle.std.proofs.lemmas.List.Elements.{All-nil, All-cons, All-append, All-weaker}
use Rattle.lsvd_fault.specs.Faults.{Counts}
use Rattle.lsvd_objstore.specs.Store.{StoreState, StoreCall, Get, IsAskedOnce, OnlyCounts}
use Rattle.gc_copier.specs.Plan.{SourceState}
use Rattle.gc_copier.specs.Copying.{IsPayloadGet, AddsGets, AsksGets}

pub only_one : {X : Type 0} (one other : X) → Contains (one ∷ []) other → one ≡ other
only_one one other (zero, inside, is) = is
only_one one other (suc k, inside, is) = absurd (omega arith)

-- ---- gets

module _ (sources : List SourceState) where
  adds_none : (gets : Option (List StoreCall)) → AddsGets sources 0 gets gets
  adds_none None = refl
  adds_none (Some calls) = ([], refl, omega arith, All-nil (IsPayloadGet sources))

  adds_one : (call : StoreCall) (old new : Option (List StoreCall)) → IsPayloadGet sources call → IsAskedOnce call old new
      → AddsGets sources 1 old new
  adds_one call None new is once = once
  adds_one call (Some calls) new is once =
      (call ∷ [], once, omega arith, All-cons (IsPayloadGet sources) call [] is (All-nil (IsPayloadGet sources)))

  adds_both : (m n : ℕ) (a b c : Option (List StoreCall)) → AddsGets sources m a b → AddsGets sources n b c
      → AddsGets sources (m + n) a c
  adds_both m n None b c first second = subst (λ gets. AddsGets sources n gets c) first second
  adds_both m n (Some calls) b c (more, is, few, all) second =
      let later = subst (λ gets. AddsGets sources n gets c) is second in
      let fewer = later.2 in (
        later.0 ++ more,
        later.1 ∙ ap Some (sym (append_assoc later.0 more calls)),
        omega (arith, few, fewer, length-append later.0 more),
        All-append (IsPayloadGet sources) later.0 more later.3 all,
      )

  -- no more than so many gets are no more than a greater number
  adds_fewer : (m n : ℕ) (old new : Option (List StoreCall)) → m ≤ n → AddsGets sources m old new → AddsGets sources n old new
  adds_fewer m n None new le adds = adds
  adds_fewer m n (Some calls) new le (more, is, few, all) = (more, is, omega (arith, few, le), all)

  get_among : (source : SourceState) (call : StoreCall) → Contains sources source → IsPayloadGet (source ∷ []) call
      → IsPayloadGet sources call
  get_among source call among get = record {
    source = get.source;
    is = subst (Contains sources) (only_one source get.source get.is) among;
    at = get.at;
    count = get.count;
    gets = get.gets;
    from = get.from;
    to = get.to;
  }

  -- gets of one source are gets of several that it is one of
  adds_among : (source : SourceState) (most : ℕ) (old new : Option (List StoreCall)) → Contains sources source
      → AddsGets (source ∷ []) most old new → AddsGets sources most old new
  adds_among source most None new among adds = adds
  adds_among source most (Some calls) new among (more, is, few, all) = (
    more,
    is,
    few,
    All-weaker (IsPayloadGet (source ∷ [])) (IsPayloadGet sources) (λ call get. get_among source call among get) more all,
  )

-- ---- calls

-- nothing is asked
pub asks_none : (sources : List SourceState) (most : ℕ) (state : StoreState) (gets : Option (List StoreCall))
    → AsksGets sources most false state state gets gets
asks_none sources most state gets = record {
  gets = adds_fewer sources 0 most gets gets (omega arith) (adds_none sources gets);
  unchanged = refl;
  count = refl;
}

-- no more than so many gets are no more than a greater number
pub asks_fewer : (sources : List SourceState) (m n : ℕ) (failed : Bool) (old new : StoreState)
    (old_gets new_gets : Option (List StoreCall)) → m ≤ n → AsksGets sources m failed old new old_gets new_gets
    → AsksGets sources n failed old new old_gets new_gets
asks_fewer sources m n failed old new old_gets new_gets le asks = record {
  gets = adds_fewer sources m n old_gets new_gets le asks.gets;
  unchanged = asks.unchanged;
  count = asks.count;
}

-- one get is
pub asks_one : (source : SourceState) (failed : Bool) (old new : StoreState) (old_gets new_gets : Option (List StoreCall))
    (at count : ℕ)
    → 512 * source.front ≤ at → at + count ≤ source.receipt.size
    → IsAskedOnce (Get source.receipt.name at count) old_gets new_gets
    → OnlyCounts old new → Counts failed old.faults new.faults → AsksGets (source ∷ []) 1 failed old new old_gets new_gets
asks_one source failed old new old_gets new_gets at count from to once unchanged faults =
    let is : Contains (source ∷ []) source = (zero, omega arith, refl) in
    record {
      gets = adds_one (source ∷ []) (Get source.receipt.name at count) old_gets new_gets (record {
        source = source;
        is = is;
        at = at;
        count = count;
        gets = refl;
        from = from;
        to = to;
      }) once;
      unchanged = unchanged;
      count = faults;
    }

-- what was asked without a failure, and then more
pub asks_both : (sources : List SourceState) (m n most : ℕ) (failed : Bool) (a b c : StoreState)
    (a_gets b_gets c_gets : Option (List StoreCall)) → m + n ≤ most
    → AsksGets sources m false a b a_gets b_gets → AsksGets sources n failed b c b_gets c_gets
    → AsksGets sources most failed a c a_gets c_gets
asks_both sources m n most failed a b c a_gets b_gets c_gets le first second = record {
  gets = adds_fewer sources (m + n) most a_gets c_gets le (adds_both sources m n a_gets b_gets c_gets first.gets second.gets);
  unchanged = second.unchanged ∙ ap (λ (s : StoreState). record s { faults = c.faults }) first.unchanged;
  count = subst (λ n. Counts failed n c.faults) first.count second.count;
}

-- what was asked of one source was asked of several that it is one of
pub asks_among : (sources : List SourceState) (source : SourceState) (most : ℕ) (failed : Bool) (old new : StoreState)
    (old_gets new_gets : Option (List StoreCall))
    → Contains sources source → AsksGets (source ∷ []) most failed old new old_gets new_gets
    → AsksGets sources most failed old new old_gets new_gets
asks_among sources source most failed old new old_gets new_gets among asks = record {
  gets = adds_among sources source most old_gets new_gets among asks.gets;
  unchanged = asks.unchanged;
  count = asks.count;
}
