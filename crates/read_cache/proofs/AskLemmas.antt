-- Which gets are asked of a store in one call after the other.
use Rattle.std.proofs.Common.{ℕ, ◌+◌, ◌≤◌, Option, Some, None, List, [], ◌∷◌, ◌++◌, refl, sym, ◌∙◌, ap, subst}
use Rattle.std.proofs.Common.{append_assoc, arith}
use Rattle.std.proofs.lemmas.List.{length-append}
use Rattle.std.proofs.lemmas.List.Elements.{All-nil, All-cons, All-append, All-weaker}
use Rattle.lsvd_objstore.specs.Store.{ReceiptState, StoreCall, Get, IsAskedOnce}
use Rattle.read_cache.specs.Reading.{IsGetOf, AsksGetsOf}

module _ (receipt : ReceiptState) where
  -- a get of some of its bytes
  pub adds_one : (most from count : ℕ) (old new : Option (List StoreCall)) → from + count ≤ receipt.size → count ≤ most
      → IsAskedOnce (Get receipt.name from count) old new → AsksGetsOf receipt most 1 old new
  adds_one most from count None new inside bounded once = once
  adds_one most from count (Some asked) new inside bounded once =
      let get : IsGetOf receipt most (Get receipt.name from count) =
      record { from = from; count = count; gets = refl; inside = inside; bounded = bounded } in (
        Get receipt.name from count ∷ [],
        once,
        omega arith,
        All-cons (IsGetOf receipt most) (Get receipt.name from count) [] get (All-nil (IsGetOf receipt most)),
      )

  pub adds_both : (most m n : ℕ) (a b c : Option (List StoreCall)) → AsksGetsOf receipt most m a b → AsksGetsOf receipt most n b c
      → AsksGetsOf receipt most (m + n) a c
  adds_both most m n None b c first second = subst (λ gets. AsksGetsOf receipt most n gets c) first second
  adds_both most m n (Some asked) b c (more, is, few, all) second =
      let later = subst (λ gets. AsksGetsOf receipt most n gets c) is second in
      let fewer = later.2 in (
        later.0 ++ more,
        later.1 ∙ ap Some (sym (append_assoc later.0 more asked)),
        omega (arith, few, fewer, length-append later.0 more),
        All-append (IsGetOf receipt most) later.0 more later.3 all,
      )

  longer : (most greater : ℕ) (call : StoreCall) → most ≤ greater → IsGetOf receipt most call → IsGetOf receipt greater call
  longer most greater call le get = record {
    from = get.from;
    count = get.count;
    gets = get.gets;
    inside = get.inside;
    bounded = (let bounded = get.bounded in omega (arith, bounded, le));
  }

  -- no more gets and no more bytes than some are no more than greater numbers
  pub adds_fewer : (most greater m n : ℕ) (old new : Option (List StoreCall)) → most ≤ greater → m ≤ n
      → AsksGetsOf receipt most m old new → AsksGetsOf receipt greater n old new
  adds_fewer most greater m n None new longest le adds = adds
  adds_fewer most greater m n (Some asked) new longest le (more, is, few, all) = (
    more,
    is,
    omega (arith, few, le),
    All-weaker (IsGetOf receipt most) (IsGetOf receipt greater) (λ call get. longer most greater call longest get) more all,
  )
