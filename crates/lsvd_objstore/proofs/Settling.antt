-- What a store knows of its directory.
use Rattle.std.proofs.Common.{◌≡◌, ◌∙◌, sym, subst, Bool, Some, None, inl, inr}
use Rattle.std.specs.Prelude.{Option}
use Rattle.lsvd_files.specs.Directory.{DirectoryState}
use Rattle.lsvd_files.specs.Calls.{Changes, ByPath, IsLeft}
use Rattle.lsvd_files.proofs.Chained.{changes_weaker}
use Rattle.lsvd_objstore.specs.Directory.{IsKnown, Clears}
use Rattle.lsvd_objstore.specs.Placing.{Sweeps}

-- it stays known where files that puts left were removed, at most
pub known_after : (has_failed is_unsynced : Bool) (R : DirectoryState → DirectoryState → Type 0)
    → ((a b : DirectoryState) → R a b → Sweeps a b) → (x y : Option DirectoryState) → Changes R x y
    → IsKnown has_failed is_unsynced x → IsKnown has_failed is_unsynced y
known_after has_failed is_unsynced R sweeps None y h known =
    subst (λ (it : Option DirectoryState). IsKnown has_failed is_unsynced it) (sym h) tt
known_after has_failed is_unsynced R sweeps (Some a) None h known = absurd h
known_after has_failed is_unsynced R sweeps (Some a) (Some b) h known =
    let all = sweeps a b h in
    (λ e. all.doubted ∙ known.0 e, λ e. all.settled (known.1 e))

pub cleared_from : (x old y : Option DirectoryState) → x ≡ old → Changes Sweeps x y → Changes Clears old y
cleared_from x old y same h =
    subst (λ (it : Option DirectoryState). Changes Clears it y) same
    (changes_weaker Sweeps Clears (λ a b swept. swept.clears) x y h)

-- a call by the path that only asks
pub asked_left : (P : DirectoryState → Type 0) (a b : DirectoryState) → ByPath ((b ≡ a) × P a) a b → IsLeft a b
asked_left P a b (inl here) = inl here.1.0
asked_left P a b (inr moved) = inr moved
