-- How calls of a directory that tells its state follow each other.
use Rattle.std.proofs.Common.{◌≡◌, ap, subst, refl, Some, None}
use Rattle.std.specs.Prelude.{Option, Result, Ok, Err, OnErr}
use Rattle.lsvd_files.specs.Directory.{DirectoryState}
use Rattle.lsvd_files.specs.Calls.{Changes}

-- one call, and then another
pub changes_then : (R S T : DirectoryState → DirectoryState → Type 0)
    → ((a b c : DirectoryState) → R a b → S b c → T a c) → (x y z : Option DirectoryState)
    → Changes R x y → Changes S y z → Changes T x z
changes_then R S T join None y z h k = subst (λ (it : Option DirectoryState). Changes S it z) h k
changes_then R S T join (Some a) None z h k = absurd h
changes_then R S T join (Some a) (Some b) None h k = absurd k
changes_then R S T join (Some a) (Some b) (Some c) h k = join a b c h k

-- what a call does is also this
pub changes_weaker : (R T : DirectoryState → DirectoryState → Type 0) → ((a b : DirectoryState) → R a b → T a b)
    → (x y : Option DirectoryState) → Changes R x y → Changes T x y
changes_weaker R T weaker None y h = h
changes_weaker R T weaker (Some a) None h = absurd h
changes_weaker R T weaker (Some a) (Some b) h = weaker a b h

-- nothing was done
pub changes_not : (R : DirectoryState → DirectoryState → Type 0) → ((a : DirectoryState) → R a a) → (x : Option DirectoryState)
    → Changes R x x
changes_not R same None = refl
changes_not R same (Some a) = same a

pub not_changed : (R : DirectoryState → DirectoryState → Type 0) → ((a b : DirectoryState) → R a b → b ≡ a)
    → (x y : Option DirectoryState) → Changes R x y → y ≡ x
not_changed R same None y h = h
not_changed R same (Some a) None h = absurd h
not_changed R same (Some a) (Some b) h = ap Some (same a b h)

-- a call that follows one that did nothing
pub changes_after : (R : DirectoryState → DirectoryState → Type 0) → (x y z : Option DirectoryState) → y ≡ x → Changes R y z
    → Changes R x z
changes_after R x y z e h = subst (λ (it : Option DirectoryState). Changes R it z) e h

-- two calls more
pub changes_three : (R S U T : DirectoryState → DirectoryState → Type 0)
    → ((a b c d : DirectoryState) → R a b → S b c → U c d → T a d) → (x y z w : Option DirectoryState)
    → Changes R x y → Changes S y z → Changes U z w → Changes T x w
changes_three R S U T join None y z w h k l =
    changes_after U None z w (subst (λ (it : Option DirectoryState). Changes S it z) h k) l
changes_three R S U T join (Some a) None z w h k l = absurd h
changes_three R S U T join (Some a) (Some b) None w h k l = absurd k
changes_three R S U T join (Some a) (Some b) (Some c) None h k l = absurd l
changes_three R S U T join (Some a) (Some b) (Some c) (Some d) h k l = join a b c d h k l

-- what an error leaves
pub at_error : {T E P : Type 0} (r : Result T E) → P → OnErr r P
at_error (Ok value) p = tt
at_error (Err error) p = p
