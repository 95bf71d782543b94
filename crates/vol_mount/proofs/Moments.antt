-- What holds of the newest moment of a disk.
use Rattle.std.proofs.Common.{◌≡◌, List, [], ◌∷◌, ◌++◌, refl, ◌∙◌}
use Rattle.lsvd_device.specs.Medium.{Medium}
use Rattle.lsvd_device.specs.Device.{HoldsNow, HoldsSince}

pub now_as : (P Q : Medium → Type 0) (moments : List Medium) → ((medium : Medium) → P medium → Q medium) → HoldsNow P moments
    → HoldsNow Q moments
now_as P Q [] follows holds = tt
now_as P Q (now ∷ past) follows holds = follows now holds

pub now_with : (P Q R : Medium → Type 0) (moments : List Medium) → ((medium : Medium) → P medium → Q medium → R medium)
    → HoldsNow P moments
    → HoldsNow Q moments → HoldsNow R moments
now_with P Q R [] follows first second = tt
now_with P Q R (now ∷ past) follows first second = follows now first second

told_in : (since past : List Medium) (before : Medium) → (now : Medium) × (rest : List Medium)
    × (since ++ before ∷ past ≡ now ∷ rest)
told_in [] past before = (before, past, refl)
told_in (now ∷ since) past before = (now, since ++ before ∷ past, refl)

-- a disk that told a moment tells one still
pub told : (P : Medium → Type 0) (before : Medium) (past new : List Medium) → HoldsSince P (before ∷ past) new → (now : Medium)
    × (rest : List Medium) × (new ≡ now ∷ rest)
told P before past new since =
    let there = told_in since.since past before in
    (there.0, there.1, since.moments ∙ there.2)
