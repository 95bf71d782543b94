-- How what a stream told adds up over several calls.
use Rattle.std.proofs.Common.{◌≡◌, ℕ, ◌≤◌, List, [], ◌++◌, ◌-◌, length, take, drop, refl, sym, ◌∙◌, ap, subst, append_assoc}
use Rattle.std.proofs.Common.{append-nil, arith, length-append}
use Rattle.std.specs.Prelude.{Option, Some, None, Result, Ok, Err, OnErr}
use Rattle.std.proofs.lemmas.List.{take-append-drop, take_rest}
use Rattle.std.specs.Io.KnownBytes.{Appends, Consumes, Keeps}
use Rattle.std.proofs.Math.Seq.{take-append_seam}

-- nothing was taken yet
pub appends_nothing : (known : Option (List ℕ)) → Appends known known []
appends_nothing None = tt
appends_nothing (Some xs) = sym (append-nil xs)

-- a piece, and then another
pub appends_more : (first middle last : Option (List ℕ)) (xs ys : List ℕ) → Appends first middle xs → Appends middle last ys
    → Appends first last (xs ++ ys)
appends_more None middle last xs ys a b = tt
appends_more (Some old) None last xs ys a b = absurd a
appends_more (Some old) (Some mid) None xs ys a b = absurd b
appends_more (Some old) (Some mid) (Some new) xs ys a b = b ∙ ap (λ zs. zs ++ ys) a ∙ append_assoc old xs ys

-- a piece, and then a call that took nothing
pub appends_kept : (first middle last : Option (List ℕ)) (xs : List ℕ) → Appends first middle xs → Keeps middle last
    → Appends first last xs
appends_kept None middle last xs a b = tt
appends_kept (Some old) None last xs a b = absurd a
appends_kept (Some old) (Some mid) None xs a b = absurd b
appends_kept (Some old) (Some mid) (Some new) xs a b = b ∙ a

-- nothing was read yet
pub consumes_nothing : (known : Option (List ℕ)) → Consumes known known []
consumes_nothing None = tt
consumes_nothing (Some xs) = refl

-- a piece, and then another
pub consumes_more : (first middle last : Option (List ℕ)) (xs ys : List ℕ) → Consumes first middle xs → Consumes middle last ys
    → Consumes first last (xs ++ ys)
consumes_more None middle last xs ys a b = tt
consumes_more (Some old) None last xs ys a b = absurd a
consumes_more (Some old) (Some mid) None xs ys a b = absurd b
consumes_more (Some old) (Some mid) (Some new) xs ys a b = a ∙ ap (λ zs. xs ++ zs) b ∙ sym (append_assoc xs ys new)

-- the sink took a front of the bytes, and the rest is still to be written
pub record IsPartWritten (old new : Option (List ℕ)) (bytes rest : List ℕ) : Type 0 where
  pub done : List ℕ
  pub front : bytes ≡ done ++ rest
  pub taken : Appends old new done

-- the same, told by a length
pub front_taken : (old new : Option (List ℕ)) (bytes rest : List ℕ) → IsPartWritten old new bytes rest → (n : ℕ)
    × (n ≤ length bytes) × Appends old new (take n bytes)
front_taken old new bytes rest w = (
  length w.done,
  (let a = length-append w.done rest in omega (arith, a, ap length w.front)),
  (let P : List ℕ → Type 0 = λ xs. Appends old new xs in
      subst P (sym (ap (take (length w.done)) w.front ∙ take-append_seam w.done rest)) w.taken),
)

-- a fact that holds holds at an error
pub holds_at_error : {T E P : Type 0} (r : Result T E) → P → OnErr r P
holds_at_error (Ok x) p = tt
holds_at_error (Err e) p = p

-- one write more; a slice from n on is told by its length
pub part_more : (old mid new : Option (List ℕ)) (bytes rest : List ℕ) (n : ℕ) → IsPartWritten old mid bytes rest
    → Appends mid new (take n rest) → IsPartWritten old new bytes (take (length rest - n) (drop n rest))
part_more old mid new bytes rest n w a = record {
  done = w.done ++ take n rest;
  front = w.front ∙ ap (λ xs. w.done ++ xs) (sym (take-append-drop n rest))
      ∙ sym (append_assoc w.done (take n rest) (drop n rest))
      ∙ ap (λ xs. (w.done ++ take n rest) ++ xs) (sym (take_rest rest n));
  taken = appends_more old mid new w.done (take n rest) w.taken a;
}

-- a write that took nothing
pub part_kept : (old mid new : Option (List ℕ)) (bytes rest : List ℕ) → IsPartWritten old mid bytes rest → Keeps mid new
    → IsPartWritten old new bytes rest
part_kept old mid new bytes rest w k = record {
  done = w.done;
  front = w.front;
  taken = appends_kept old mid new w.done w.taken k;
}
