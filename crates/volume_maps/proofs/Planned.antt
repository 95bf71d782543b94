-- The rows that a plan makes of its parts are those of the copy that a collection makes.
use Rattle.std.proofs.Common.{◌≡◌, ℕ, ◌-◌, ◌<◌, true, Option, Some, None, List, [], ◌∷◌, length}
use Rattle.std.proofs.Common.{refl, sym, ◌∙◌, ap, subst, arith, Result, Ok, Err}
use Rattle.std.specs.Prelude.{◌==◌, IfSome, option_map, IfOk, OnOk}
use Rattle.std.specs.List.{All, filter, range_with_len, sum_by}
use Rattle.std.specs.Option.{is_some}
use Rattle.std.proofs.lemmas.Bool.{and_parts, eqb-true}
use Rattle.std.proofs.lemmas.Option.{IfSome_then, same_Some}
use Rattle.extent_map.specs.declared.extent.Extent.{Extent}
use Rattle.extent_map.specs.Extents.{place_at, IsShortest}
use Rattle.gc_policy.specs.Victims.{AreVictims}
use Rattle.object_format.specs.declared.copy_row.CopyRow.{CopyRow}
use Rattle.object_stream.specs.declared.object.CopiedSector.{CopiedSector}
use Rattle.object_stream.specs.Planned.{planned}
use Rattle.object_stream.specs.Replay.{source_at}
use Rattle.object_stream.specs.Stream.{source_in}
use Rattle.object_table.specs.declared.row.ObjectRow.{ObjectRow}
use Rattle.volume_maps.specs.declared.place.ObjectPlace.{ObjectPlace}
use Rattle.volume_maps.specs.Places.{object_on}
use Rattle.volume_maps.specs.Live.{is_live}
use Rattle.volume_maps.specs.Maps.{MapsState, settled_at}
use Rattle.volume_maps.specs.Kept.{IsKept}
use Rattle.volume_maps.specs.CopyPlan.{live_list, PlacesAreIn, source_place_at, PlansCopy}
use Rattle.volume_maps.specs.Parts.{AreBelow, place_of_source, rows_of_parts}
use Rattle.volume_maps.proofs.CopyRows.{sources_of, places_of, total_of, IsCopied, FollowsAll, rows_stand}
use Rattle.volume_maps.proofs.LossLemmas.{known_at, found_by}
use Rattle.volume_maps.proofs.PlanLemmas.{starts_at_none, ends_below}
use Rattle.volume_maps.proofs.RowsLemmas.{same_pass, is_in, in_range, inside_of, sectors_count, sectors_placed}
use Rattle.volume_maps.proofs.VictimLemmas.{Different, in_filter, different_pass, different_victims, in_planned, planned_count}

-- a sector that is live in two objects is in one
one_object : (one other : ℕ) (place : Option ObjectPlace) → is_live one place ≡ true → is_live other place ≡ true → one ≡ other
one_object one other None first second = absurd cc
one_object one other (Some place) first second =
    let in_one = and_parts (place.level == 0) (place.number == one) first in
    let in_other = and_parts (place.level == 0) (place.number == other) second in
    sym (eqb-true place.number one in_one.1) ∙ eqb-true place.number other in_other.1

-- a source that a sector is live in
abbrev IsSource : Option ℕ → Option ObjectPlace → Type 0
IsSource source place = (number : ℕ) → source ≡ Some number → is_live number place ≡ true

-- is the number of its place
number_of : (source : Option ℕ) (place : Option ObjectPlace) → IsSource source place
    → option_map (λ (p : ObjectPlace). p.number) (place_of_source source place) ≡ source
number_of None place live = refl
number_of (Some number) None live = absurd (let no = live number refl in cc)
number_of (Some number) (Some place) live =
    ap Some (eqb-true place.number number (and_parts (place.level == 0) (place.number == number) (live number refl)).1)

some_source : (source : Option ℕ) (place : Option ObjectPlace) → IsSource source place
    → is_some (place_of_source source place) ≡ is_some source
some_source None place live = refl
some_source (Some number) None live = absurd (let no = live number refl in cc)
some_source (Some number) (Some place) live = refl

-- and what a plan gives is the sector's own place
own_place : (source : Option ℕ) (place was : Option ObjectPlace) → was ≡ place
    → IfSome (place_of_source source place) (λ (p : ObjectPlace). was ≡ Some p)
own_place None place was is = tt
own_place (Some number) None was is = tt
own_place (Some number) (Some place) was is = is

-- which is in an object of the volume's own
abbrev IsOwn : Option ObjectPlace → ObjectPlace → Type 0
IsOwn was place = (was ≡ Some place) × (place.level ≡ 0)

own_by : (source : Option ℕ) (was : Option ObjectPlace) (place : ObjectPlace) → IsSource source was
    → place_of_source source was ≡ Some place → IsOwn was place
own_by None was place live is = absurd cc
own_by (Some number) None place live is = absurd cc
own_by (Some number) (Some other) place live is =
    let parts = and_parts (other.level == 0) (other.number == number) (live number refl) in
    let same = same_Some other place is in
    (is, sym (ap (λ (p : ObjectPlace). p.level) same) ∙ eqb-true other.level 0 parts.0)

none_before_all : (parts : List (Extent ObjectPlace)) → FollowsAll None parts
none_before_all [] = tt
none_before_all (part ∷ parts) = λ at. refl

module _ (volume most : ℕ) (maps : MapsState) (victims : List ℕ) (parts : List (Extent ObjectPlace))
    (in_volume : PlacesAreIn volume maps) where
  abbrev plan : List CopiedSector
  plan = planned most (live_list volume maps) victims

  -- a live sector is below the volume's end, and its place in the object
  live_at : (number k : ℕ) → is_in (live_list volume maps number) k ≡ true
      → (k < volume) × (is_live number (settled_at maps k) ≡ true)
  live_at number k is =
      let passes = in_filter (λ k. is_live number (settled_at maps k)) (range_with_len 0 volume) k is in
      let inside = inside_of 0 volume k (sym (in_range 0 volume k) ∙ passes.0) in
      (omega (arith, inside.1), passes.1)

  -- a sector that is planned is live in its source
  plan_lives : (k : ℕ) → IsSource (source_in plan k) (settled_at maps k)
  plan_lives k number is = (live_at number k (in_planned (live_list volume maps) most victims k number is)).1

  module _ (shortest : IsShortest object_on parts)
      (places : (k : ℕ) → place_at object_on parts k ≡ place_of_source (source_in plan k) (settled_at maps k)) where
    sources : (k : ℕ) → source_at (rows_of_parts 0 parts) k ≡ source_in plan k
    sources k =
        sources_of 0 parts k ∙ ap (option_map (λ (p : ObjectPlace). p.number)) (places k)
        ∙ number_of (source_in plan k) (settled_at maps k) (plan_lives k)

    own : (k : ℕ) → IfSome (source_place_at (rows_of_parts 0 parts) k) (λ (place : ObjectPlace). settled_at maps k ≡ Some place)
    own k =
        subst (λ p. IfSome p (λ (place : ObjectPlace). settled_at maps k ≡ Some place)) (sym (places_of 0 parts k ∙ places k))
        (own_place (source_in plan k) (settled_at maps k) (settled_at maps k) refl)

    its_place : (k : ℕ) (place : ObjectPlace) → place_at object_on parts k ≡ Some place → IsOwn (settled_at maps k) place
    its_place k place is = own_by (source_in plan k) (settled_at maps k) place (plan_lives k) (sym (places k) ∙ is)

    fits : (k : ℕ) (place : ObjectPlace) → place_at object_on parts k ≡ Some place → (k < volume) × (place.sector < 131071)
    fits k place is = subst (λ p. IfSome p (λ (place : ObjectPlace). (k < volume) × (place.sector < 131071)))
        (its_place k place is).0 (in_volume k)

    below_by : (k : ℕ) (given : Option ObjectPlace) → place_at object_on parts k ≡ given → is_some given ≡ true → k < volume
    below_by k None is some = absurd cc
    below_by k (Some place) is some = (fits k place is).0

    count : (order : Different victims)
        → sum_by (λ (row : CopyRow). row.sectors) (rows_of_parts 0 parts) ≡ length plan
    count different =
        let whole : volume - 0 ≡ volume = omega arith in
        total_of 0 parts
        ∙ sym (sectors_count object_on parts)
        ∙ ap length (sym (sectors_placed object_on 0 volume parts (omega arith) shortest (starts_at_none parts)
        (ends_below volume parts shortest (λ k some. below_by k (place_at object_on parts k) refl some))))
        ∙ ap (λ n. length (filter (λ k. is_some (place_at object_on parts k)) (range_with_len 0 n))) whole
        ∙ ap length (same_pass (λ k. is_some (place_at object_on parts k)) (λ k. is_some (source_in plan k)) 0 volume
        (λ k low high. ap is_some (places k) ∙ some_source (source_in plan k) (settled_at maps k) (plan_lives k)))
        ∙ planned_count (live_list volume maps)
        (λ one other k first second. one_object one other (settled_at maps k) (live_at one k first).1 (live_at other k second).1)
        (λ number. different_pass (λ k. is_live number (settled_at maps k)) 0 volume) volume
        (λ number k is. (live_at number k is).0) most victims different

    module _ (kept : IsKept maps.settled.rows maps.objects) where
      copied : (number : ℕ) → All (λ (object : ObjectRow). object.number < number) maps.objects.rows
          → (k : ℕ) (place : ObjectPlace) → place_at object_on parts k ≡ Some place → IsCopied volume number k place
      copied number above k place is =
          let was = its_place k place is in
          let known = known_at maps.objects.rows maps.settled.rows k place kept.counted.known was.0 was.1 in
          let object = found_by (λ (object : ObjectRow). object.number < number) place.number maps.objects.rows known above in
          let fit = fits k place is in
          record { inside = fit.0; own = was.1; older = omega (arith, object.1, object.2); payload = fit.1 }

      pub plans_copy : AreVictims maps.objects.rows victims → PlansCopy volume most maps (rows_of_parts 0 parts)
      plans_copy are = record {
        victims = victims;
        are = are;
        sources = sources;
        count = count (different_victims maps.objects.rows victims kept.order are);
        places = own;
        stand = λ number above.
            rows_stand volume number None 0 (sum_by (λ (row : CopyRow). row.sectors) (rows_of_parts 0 parts)) parts shortest
            (copied number above) (omega (arith, total_of 0 parts)) (none_before_all parts);
      }

-- the places of a volume's sectors are below its end
pub places_below : (volume : ℕ) (maps : MapsState) → PlacesAreIn volume maps → AreBelow volume (settled_at maps)
places_below volume maps in_volume k = IfSome_then (settled_at maps k) (in_volume k) (λ place fits. fits.0)

-- what follows from two clauses on an answer
pub both_ok : {T E : Type 0} (r : Result T E) (A : Type 0) (P Q : T → Type 0) → OnOk r A → IfOk r P
    → ((x : T) → A → P x → Q x) → IfOk r Q
both_ok (Ok x) A P Q one two both = both x one two
both_ok (Err e) A P Q one two both = tt
