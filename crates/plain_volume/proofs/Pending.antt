-- Whether the opening of a gate is kept, write by write.
use Rattle.std.proofs.Common.{◌≡◌, ℕ, zero, suc, ◌+◌, ◌<◌, Bool, true, false, cond, ◌&&◌, List, [], ◌∷◌, length, get_or, drop}
use Rattle.std.proofs.Common.{refl, sym, ap, ◌∙◌, arith}
use native.Mathlib.Numerals.{unary_clauses}
use Rattle.plain_disk.specs.declared.cache.PendingWrite.{PendingWrite}
use Rattle.plain_disk.specs.declared.cache.PendingWrite.TheVariants.{Pad, Record, Body, ClosedGate, OpenedGate}
use Rattle.plain_disk.specs.Cache.{keeps_opened_gate}
use Rattle.plain_volume.specs.Fields.{is_opened_gate}

-- nothing is said of any write
abbrev no_choice : List Bool
no_choice = []

-- no write is kept where nothing is said of one
none_kept : (writes : List PendingWrite) → keeps_opened_gate writes [] ≡ false
none_kept [] = refl
none_kept (Pad seq ∷ writes) = refl
none_kept (Record seq ∷ writes) = refl
none_kept (Body ∷ writes) = refl
none_kept (ClosedGate ∷ writes) = refl
none_kept (OpenedGate ∷ writes) = refl

-- one write more
first_kept : (write : PendingWrite) (writes : List PendingWrite) (is_kept : Bool) (kept : List Bool)
    → keeps_opened_gate (write ∷ writes) (is_kept ∷ kept) ≡ cond (is_opened_gate write && is_kept) true
    (keeps_opened_gate writes kept)
first_kept (Pad seq) writes is_kept kept = refl
first_kept (Record seq) writes is_kept kept = refl
first_kept Body writes is_kept kept = refl
first_kept ClosedGate writes is_kept kept = refl
first_kept OpenedGate writes true kept = refl
first_kept OpenedGate writes false kept = refl

no_more : (is_opened : Bool) (writes : List PendingWrite) → cond (is_opened && false) true (keeps_opened_gate writes []) ≡ false
no_more true writes = none_kept writes
no_more false writes = none_kept writes

drop_none : (i : ℕ) → drop i no_choice ≡ no_choice
drop_none zero = refl
drop_none (suc i) = refl

get_none : (i : ℕ) → get_or no_choice i false ≡ false
get_none zero = refl
get_none (suc i) = refl

next_none : (writes : List PendingWrite) (i : ℕ) (write : PendingWrite)
    → keeps_opened_gate (drop i writes) (drop i no_choice)
    ≡ cond (is_opened_gate write && get_or no_choice i false) true
    (keeps_opened_gate (drop (i + 1) writes) (drop (i + 1) no_choice))
next_none writes i write =
    ap (keeps_opened_gate (drop i writes)) (drop_none i) ∙ none_kept (drop i writes)
    ∙ sym (no_more (is_opened_gate write) (drop (i + 1) writes))
    ∙ ap (λ k. cond (is_opened_gate write && k) true (keeps_opened_gate (drop (i + 1) writes) [])) (sym (get_none i))
    ∙ ap (λ rest. cond (is_opened_gate write && get_or no_choice i false) true (keeps_opened_gate (drop (i + 1) writes) rest))
    (sym (drop_none (i + 1)))

next_kept : (writes : List PendingWrite) (kept : List Bool) (i : ℕ) (d : PendingWrite) → i < length writes
    → keeps_opened_gate (drop i writes) (drop i kept)
    ≡ cond (is_opened_gate (get_or writes i d) && get_or kept i false) true
    (keeps_opened_gate (drop (i + 1) writes) (drop (i + 1) kept))
next_kept [] kept i d inside = absurd (omega arith)
next_kept (write ∷ writes) [] i d inside = next_none (write ∷ writes) i (get_or (write ∷ writes) i d)
next_kept (write ∷ writes) (is_kept ∷ kept) zero d inside = first_kept write writes is_kept kept
next_kept (write ∷ writes) (is_kept ∷ kept) (suc i) d inside =
    simp unary_clauses (simp unary_clauses at (next_kept writes kept i d (omega arith)))

-- where the write at a place opens no gate, or is not kept, the rest decides
pub goes_on : (writes : List PendingWrite) (kept : List Bool) (i : ℕ) (d : PendingWrite) (is_kept : Bool) → i < length writes
    → is_kept ≡ get_or kept i false → false ≡ (is_opened_gate (get_or writes i d) && is_kept)
    → keeps_opened_gate (drop (i + 1) writes) (drop (i + 1) kept) ≡ keeps_opened_gate (drop i writes) (drop i kept)
goes_on writes kept i d is_kept inside is closed =
    let rest : Bool = keeps_opened_gate (drop (i + 1) writes) (drop (i + 1) kept) in
    sym (next_kept writes kept i d inside
    ∙ ap (λ k. cond (is_opened_gate (get_or writes i d) && k) true rest) (sym is)
    ∙ ap (λ b. cond b true rest) (sym closed))

-- and where it opens one and is kept, that is all
pub ends_here : (writes : List PendingWrite) (kept : List Bool) (i : ℕ) (d : PendingWrite) (is_kept : Bool) → i < length writes
    → is_kept ≡ get_or kept i false → true ≡ (is_opened_gate (get_or writes i d) && is_kept)
    → true ≡ keeps_opened_gate (drop i writes) (drop i kept)
ends_here writes kept i d is_kept inside is opened =
    let rest : Bool = keeps_opened_gate (drop (i + 1) writes) (drop (i + 1) kept) in
    sym (next_kept writes kept i d inside
    ∙ ap (λ k. cond (is_opened_gate (get_or writes i d) && k) true rest) (sym is)
    ∙ ap (λ b. cond b true rest) (sym opened))
