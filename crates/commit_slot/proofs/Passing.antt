-- What holds of the moments of a disk, over one call and over several.
use Rattle.std.proofs.Common.{◌≡◌, ℕ, List, [], ◌∷◌, ◌++◌, refl, sym, ◌∙◌, ap, subst, inl, inr, append_assoc}
use Rattle.std.specs.List.{AllByRecursion}
use Rattle.lsvd_device.specs.Medium.{Medium, IsTorn}
use Rattle.lsvd_device.specs.Device.{HoldsSince, HasSize, HoldsNow, moments_after, FailsToWrite}

-- the moments pass with P, and the newest one has Q
abbrev pub PassesTo : (P Q : Medium → Type 0) → List Medium → List Medium → Type 0
PassesTo P Q old new = HoldsSince P old new × HoldsNow Q new

-- the newest moment after a call of which there was a newest one before
holds_as : (P Q : Medium → Type 0) (moments : List Medium) → ((medium : Medium) → P medium → Q medium) → HoldsNow P moments
    → HoldsNow Q moments
holds_as P Q [] follows holds = tt
holds_as P Q (now ∷ past) follows holds = follows now holds

-- so of each of several
each_as : (P Q : Medium → Type 0) (media : List Medium) → ((medium : Medium) → P medium → Q medium) → AllByRecursion P media
    → AllByRecursion Q media
each_as P Q [] follows all = tt
each_as P Q (now ∷ past) follows all = (follows now all.0, each_as P Q past follows all.1)

pub passes_as : (P Q : Medium → Type 0) (old new : List Medium) → ((medium : Medium) → P medium → Q medium) → HoldsSince P old new
    → HoldsSince Q old new
passes_as P Q old new follows passes = record {
  since = passes.since;
  moments = passes.moments;
  each = each_as P Q passes.since follows passes.each;
}

pub to_as : (P Q R S : Medium → Type 0) (old new : List Medium) → ((medium : Medium) → P medium → R medium)
    → ((medium : Medium) → Q medium → S medium)
    → PassesTo P Q old new → PassesTo R S old new
to_as P Q R S old new first second passes = (passes_as P R old new first passes.0, holds_as Q S new second passes.1)

-- each of some, and of others
each_of_both : (P : Medium → Type 0) (some more : List Medium) → AllByRecursion P some → AllByRecursion P more
    → AllByRecursion P (some ++ more)
each_of_both P [] more all others = others
each_of_both P (now ∷ past) more all others = (all.0, each_of_both P past more all.1 others)

pub passes_on : (P : Medium → Type 0) (old middle new : List Medium) → HoldsSince P old middle → HoldsSince P middle new
    → HoldsSince P old new
passes_on P old middle new first second = record {
  since = second.since ++ first.since;
  moments = second.moments ∙ ap (λ m. second.since ++ m) first.moments ∙ sym (append_assoc second.since first.since old);
  each = each_of_both P second.since first.since second.each first.each;
}

-- a step after which Q holds where P held before
after_in : (P Q : Medium → Type 0) (size : ℕ) (step : Medium → Medium) (old : List Medium)
    → ((medium : Medium) → HasSize size medium → P medium → Q (step medium))
    → AllByRecursion (HasSize size) old → HoldsNow P old → PassesTo Q Q old (moments_after step old)
after_in P Q size step [] goes media holds = (record { since = []; moments = refl; each = tt }, tt)
after_in P Q size step (now ∷ past) goes media holds =
    let q : Q (step now) = goes now media.0 holds in
    (record { since = step now ∷ []; moments = refl; each = (q, tt) }, q)

pub after_step : (P Q : Medium → Type 0) (size : ℕ) (step : Medium → Medium) (old new : List Medium)
    → ((medium : Medium) → HasSize size medium → P medium → Q (step medium))
    → AllByRecursion (HasSize size) old → HoldsNow P old → new ≡ moments_after step old → PassesTo Q Q old new
after_step P Q size step old new goes media holds is =
    subst (PassesTo Q Q old) (sym is) (after_in P Q size step old goes media holds)

-- nothing changed
pub same_moments : (P : Medium → Type 0) (old new : List Medium) → HoldsNow P old → new ≡ old → PassesTo P P old new
same_moments P old new holds is = (record { since = []; moments = is; each = tt }, subst (HoldsNow P) (sym is) holds)

-- a write failed that keeps P
pub failed_write : (P : Medium → Type 0) (at count : ℕ) (old new : List Medium)
    → ((medium torn : Medium) → IsTorn at count medium torn → P medium → P torn)
    → HoldsNow P old → FailsToWrite at count old new → PassesTo P P old new
failed_write P at count [] new goes holds fails = same_moments P [] new tt fails
failed_write P at count (now ∷ past) new goes holds (inl same) = same_moments P (now ∷ past) new holds same
failed_write P at count (now ∷ past) new goes holds (inr (torn, is, moments)) =
    let p : P torn = goes now torn is holds in
    (record { since = torn ∷ []; moments = moments; each = (p, tt) }, subst (HoldsNow P) (sym moments) p)
