-- Places of a list of ancestors, and levels of a chain.
use Rattle.std.proofs.Common.{◌≡◌, ℕ, zero, suc, ◌+◌, ◌<◌, ◌≤◌, true, false, Option, Some, None, List, [], ◌∷◌, length, get_or}
use Rattle.std.proofs.Common.{take, refl, sym, ◌∙◌, ap, subst, arith, inl, inr, MatchOption}
use Rattle.std.specs.List.{AllWithin, HoldsAt, slice_get}
use Rattle.std.specs.Option.{IsSomeAnd, IfSome, IfNone, is_some}
use Rattle.std.proofs.lemmas.Bool.{cases_lt, false≢true}
use Rattle.std.proofs.lemmas.List.{length-take-le, get_or-take, get_or_read}
use Rattle.std.proofs.lemmas.Option.{slice_get-get_or, slice_get_within, get_or_from_slice_get}
use Rattle.clone_chain.specs.declared.ancestor.Ancestor.{Ancestor}
use Rattle.clone_chain.specs.Chain.{IsLevelOf, IsNoAncestor, AreApart, IsChain}
use Rattle.clone_chain.specs.Laws.{HasOneLevel, HasOneUuid, IsAmongLevels}

-- an ancestor for reads past the end of a list
abbrev pub blank : Ancestor
blank = record { uuid = []; checkpoint = 0 }

abbrev pub HasUuid : List ℕ → Ancestor → Type 0
HasUuid uuid ancestor = ancestor.uuid ≡ uuid

abbrev pub HasOther : List ℕ → Ancestor → Type 0
HasOther uuid ancestor = ancestor.uuid ≡ uuid → ⊥

-- ---- levels and places

value_of : (o : Option Ancestor) (P : Ancestor → Type 0) → IsSomeAnd o P → (ancestor : Ancestor) × (o ≡ Some ancestor)
    × P ancestor
value_of None P h = absurd h
value_of (Some ancestor) P h = (ancestor, refl, h)

-- the place of a level is inside the list
pub level_inside : (chain : List Ancestor) (uuid : List ℕ) (place : ℕ) → IsLevelOf chain uuid (suc place) → place < length chain
level_inside chain uuid place is =
    let at = value_of (slice_get chain place) (HasUuid uuid) is in slice_get_within chain place at.0 at.1

-- and has the uuid
pub level_has : (chain : List Ancestor) (uuid : List ℕ) (place : ℕ) (d : Ancestor) → IsLevelOf chain uuid (suc place)
    → (get_or chain place d).uuid ≡ uuid
level_has chain uuid place d is =
    let at = value_of (slice_get chain place) (HasUuid uuid) is in
    ap (λ (a : Ancestor). a.uuid) (get_or_from_slice_get chain place at.0 d at.1) ∙ at.2

pub level_from : (chain : List Ancestor) (uuid : List ℕ) (place : ℕ) (d : Ancestor) → place < length chain
    → (get_or chain place d).uuid ≡ uuid → IsLevelOf chain uuid (suc place)
level_from chain uuid place d inside has =
    let P : Option Ancestor → Type 0 = λ o. IsSomeAnd o (HasUuid uuid) in
    subst P (sym (slice_get-get_or chain place d inside)) has

pub no_level : (chain : List Ancestor) (uuid : List ℕ) → AllWithin (HasOther uuid) chain 0 (length chain)
    → IsNoAncestor chain uuid
no_level chain uuid none zero is = is
no_level chain uuid none (suc place) is =
    none place blank (omega arith) (level_inside chain uuid place is) (level_has chain uuid place blank is)

-- ---- what a search for a uuid answers

abbrev pub IsAnswer : List Ancestor → List ℕ → Option ℕ → Type 0
IsAnswer ancestors uuid result =
    MatchOption result (AllWithin (HasOther uuid) ancestors 0 (length ancestors))
    (λ place. (place < length ancestors) × HoldsAt (HasUuid uuid) ancestors place × AllWithin (HasOther uuid) ancestors 0 place)

pub search_found : (ancestors : List Ancestor) (uuid : List ℕ) (result : Option ℕ) → IsAnswer ancestors uuid result
    → IfSome result (λ place. IsLevelOf ancestors uuid (suc place))
search_found ancestors uuid None is = tt
search_found ancestors uuid (Some place) is = level_from ancestors uuid place blank is.0 (is.1 blank)

pub search_none : (ancestors : List Ancestor) (uuid : List ℕ) (result : Option ℕ) → IsAnswer ancestors uuid result
    → IfNone result (IsNoAncestor ancestors uuid)
search_none ancestors uuid None is = no_level ancestors uuid is
search_none ancestors uuid (Some place) is = tt

-- ---- no two of one uuid

-- no two of the first of these
abbrev pub AreApartTo : ℕ → List Ancestor → Type 0
AreApartTo end ancestors =
    (i j : ℕ) (d : Ancestor) → i < j → j < end → (get_or ancestors i d).uuid ≡ (get_or ancestors j d).uuid → ⊥

-- an ancestor before a place is one of those before it
level_before : (ancestors : List Ancestor) (uuid : List ℕ) (place k : ℕ) (d : Ancestor) → place ≤ length ancestors → k < place
    → (get_or ancestors k d).uuid ≡ uuid → IsLevelOf (take place ancestors) uuid (suc k)
level_before ancestors uuid place k d inside before has =
    level_from (take place ancestors) uuid k d (omega (arith, length-take-le place ancestors inside))
    (ap (λ (a : Ancestor). a.uuid) (get_or-take place ancestors k d before) ∙ has)

pub one_more_apart : (ancestors : List Ancestor) (uuid : List ℕ) (place : ℕ) → place < length ancestors
    → ((d : Ancestor) → (get_or ancestors place d).uuid ≡ uuid) → AreApartTo place ancestors
    → IsNoAncestor (take place ancestors) uuid → AreApartTo (place + 1) ancestors
one_more_apart ancestors uuid place inside here before none i j d first below same =
    elim (cases_lt j place) [
      | inl h ↦ before i j d first h same
      | inr h ↦
          let at : j ≡ place = omega arith in
          none (suc i) (level_before ancestors uuid place i d (omega arith) (omega arith) (same
          ∙ ap (λ k. (get_or ancestors k d).uuid) at ∙ here d))
    ]

pub not_apart : (ancestors : List Ancestor) (uuid : List ℕ) (place k : ℕ) → place < length ancestors
    → ((d : Ancestor) → (get_or ancestors place d).uuid ≡ uuid) → IsLevelOf (take place ancestors) uuid (suc k)
    → AreApart ancestors → ⊥
not_apart ancestors uuid place k inside here is apart =
    let before : k < place = omega (
      arith,
      level_inside (take place ancestors) uuid k is,
      length-take-le place ancestors
          (omega arith),
    ) in
    apart k place blank before inside
    (sym (ap (λ (a : Ancestor). a.uuid) (get_or-take place ancestors k blank before))
    ∙ level_has (take place ancestors) uuid k blank is
    ∙ sym (here blank))

-- what a search before a place tells of that
pub apart_if_none : (ancestors : List Ancestor) (place : ℕ) (ancestor : Ancestor) (result : Option ℕ) → place < length ancestors
    → ancestor ≡ get_or ancestors place ancestor → IfNone result (IsNoAncestor (take place ancestors) ancestor.uuid)
    → is_some result ≡ false → AreApartTo place ancestors → AreApartTo (place + 1) ancestors
apart_if_none ancestors place ancestor None inside here none is before =
    one_more_apart ancestors ancestor.uuid place inside
    (λ d. ap (λ (a : Ancestor). a.uuid) (sym (get_or_read ancestors place ancestor inside here d))) before none
apart_if_none ancestors place ancestor (Some k) inside here none is before = absurd (false≢true (sym is))

pub not_apart_if_some : (ancestors : List Ancestor) (place : ℕ) (ancestor : Ancestor) (result : Option ℕ)
    → place < length ancestors
    → ancestor ≡ get_or ancestors place ancestor
    → IfSome result (λ k. IsLevelOf (take place ancestors) ancestor.uuid (suc k))
    → is_some result ≡ true → AreApart ancestors → ⊥
not_apart_if_some ancestors place ancestor (Some k) inside here found is =
    not_apart ancestors ancestor.uuid place k inside
    (λ d. ap (λ (a : Ancestor). a.uuid) (sym (get_or_read ancestors place ancestor inside here d))) found
not_apart_if_some ancestors place ancestor None inside here found is = absurd (false≢true is)

-- a chain with one more ancestor before the others
apart_extended : (first : Ancestor) (chain : List Ancestor) → IsNoAncestor chain first.uuid → AreApart chain
    → AreApart (first ∷ chain)
apart_extended first chain none apart i zero d before inside same = absurd (omega (arith, before))
apart_extended first chain none apart zero (suc j) d before inside same =
    none (suc j) (level_from chain first.uuid j d (omega (arith, inside)) (sym same))
apart_extended first chain none apart (suc i) (suc j) d before inside same =
    apart i j d (omega (arith, before)) (omega (arith, inside)) same

pub chain_extended : (first : Ancestor) (chain : List Ancestor) → IsNoAncestor chain first.uuid → length chain < 15
    → IsChain chain
    → IsChain (first ∷ chain)
chain_extended first chain none room is = record { few = omega (arith, room); apart = apart_extended first chain none is.apart }

-- ---- levels and uuids, both ways

pub has_one_level : HasOneLevel
has_one_level chain uuid zero n is at_m at_n = absurd at_m
has_one_level chain uuid (suc i) zero is at_m at_n = absurd at_n
has_one_level chain uuid (suc i) (suc j) is at_m at_n =
    let here = level_has chain uuid i blank at_m in
    let there = level_has chain uuid j blank at_n in
    elim (cases_lt i j) [
      | inl h ↦ absurd (is.apart i j blank h (level_inside chain uuid j at_n) (here ∙ sym there))
      | inr h ↦
          elim (cases_lt j i) [
            | inl l ↦ absurd (is.apart j i blank l (level_inside chain uuid i at_m) (there ∙ sym here))
            | inr l ↦ omega (arith, h, l)
          ]
    ]

pub has_one_uuid : HasOneUuid
has_one_uuid chain uuid other zero is same = absurd is
has_one_uuid chain uuid other (suc place) is same =
    sym (level_has chain uuid place blank is) ∙ level_has chain other place blank same

pub is_among_levels : IsAmongLevels
is_among_levels chain zero = (λ h. absurd h.1, λ h. absurd (omega (arith, h.0)))
is_among_levels chain (suc place) = (
  λ h. (omega arith, omega (arith, level_inside chain h.0 place h.1)),
  λ h. ((get_or chain place blank).uuid, level_from chain (get_or chain place blank).uuid place blank (omega (arith, h.1)) refl),
)
