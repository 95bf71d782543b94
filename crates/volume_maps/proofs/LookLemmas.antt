-- The rows of a look are as long as they can be.
use Rattle.std.proofs.Common.{◌≡◌, ℕ, ◌+◌, ◌-◌, ◌<◌, ◌≤◌, ◌⊎◌, inl, inr, cond, Option, Some, None, Bool, true, false, List, []}
use Rattle.std.proofs.Common.{◌∷◌, ◌++◌, refl, sym, ◌∙◌, ap, arith}
use Rattle.std.specs.Prelude.{slice_get}
use Rattle.std.specs.Option.{option_or}
use Rattle.std.proofs.lemmas.Bool.{cases_lt}
use Rattle.extent_map.specs.declared.extent.Extent.{Extent}
use Rattle.extent_map.specs.Extents.{is_within, place_at, place_in_range, ComesBefore, IsShortest, IsFirstOfRange, StartsRange}
use Rattle.extent_map.specs.Extents.{IsBare, Fits, AllFit}
use Rattle.extent_map.specs.State.{MapState}
use Rattle.extent_map.proofs.Places.{within, not_below, not_past, at_inside, at_past, none_before}
use Rattle.volume_maps.specs.declared.place.ObjectPlace.{ObjectPlace}
use Rattle.volume_maps.specs.declared.place.LogPlace.{LogPlace}
use Rattle.volume_maps.specs.declared.place.LogPlace.TheVariants.{Data, Zeros}
use Rattle.volume_maps.specs.declared.place.VolumePlace.{VolumePlace}
use Rattle.volume_maps.specs.declared.place.VolumePlace.TheVariants.{Log, Object}
use Rattle.volume_maps.specs.Places.{object_on, log_on, volume_on, place_in, as_logged, as_settled}
use Rattle.volume_maps.specs.Look.{combined, BreaksOff, AreClosedAt}

-- ---- one map

module _ {P : Type 0} (on : ℕ → P → P) (on_none : (p : P) → on 0 p ≡ p) where
  -- the rows after one do not go on with it
  next_breaks_off : (row : Extent P) (rest : List (Extent P)) → IsShortest on (row ∷ rest)
      → place_at on rest (row.lba + row.sectors) ≡ Some (on row.sectors row.place) → ⊥
  next_breaks_off row [] shortest goes_on = absurd cc
  next_breaks_off row (next ∷ more) shortest goes_on =
      let e = row.lba + row.sectors in
      let before : ComesBefore on row next = shortest.1 in
      elim (cases_lt e next.lba) [
        | inl low ↦
            let none : place_at on (next ∷ more) e ≡ None =
            none_before on (next ∷ more) next.lba e shortest.2 (omega arith) low in
            absurd cc
        | inr from ↦
            let at : e ≡ next.lba = omega (arith, before.in_order, from) in
            let here : place_at on (next ∷ more) e ≡ Some (on (e - next.lba) next.place) =
            at_inside on next more e from (omega (arith, at, shortest.2.0)) in
            let zero : e - next.lba ≡ 0 = omega (arith, at) in
            let same : on (e - next.lba) next.place ≡ next.place = ap (λ n. on n next.place) zero ∙ on_none next.place in
            absurd (before.apart at cc)
      ]

  -- places do not go on with the first row of a range where that ends before the range
  of_rows : (lba sectors : ℕ) (old : ℕ → Option P) (row : Extent P) (rows : List (Extent P)) → IsShortest on rows
      → ((k : ℕ) → place_at on rows k ≡ place_in_range lba sectors old k) → Some row ≡ slice_get rows 0
      → lba ≤ row.lba → row.lba + row.sectors < lba + sectors → old (row.lba + row.sectors) ≡ Some (on row.sectors row.place) → ⊥
  of_rows lba sectors old row [] shortest places is_first from ends goes_on = absurd cc
  of_rows lba sectors old row (head ∷ rest) shortest places is_first from ends goes_on =
      let same : head ≡ row = cc in
      let e = head.lba + head.sectors in
      let at : e ≡ row.lba + row.sectors = rw same refl in
      let here : place_at on rest e ≡ old e =
      sym (at_past on head rest e (omega arith)) ∙ places e
      ∙ ap (λ b. cond b (old e) None) (within lba sectors e (omega (arith, at)) (omega (arith, at))) in
      next_breaks_off head rest shortest (here ∙ (ap old at ∙ goes_on ∙ rw (sym same) refl))

  pub first_breaks_off : (lba sectors : ℕ) (old : ℕ → Option P) (row : Extent P) → IsFirstOfRange on lba sectors old (Some row)
      → lba ≤ row.lba → row.lba + row.sectors < lba + sectors → old (row.lba + row.sectors) ≡ Some (on row.sectors row.place) → ⊥
  first_breaks_off lba sectors old row first from ends goes_on =
      of_rows lba sectors old row first.rows first.shortest first.places first.is_first from ends goes_on

  -- the first sector of such a row has the row's place
  pub starts_at : (places : ℕ → Option P) (lba sectors : ℕ) (row : Extent P) → StartsRange on lba sectors places row
      → places row.lba ≡ Some row.place
  starts_at places lba sectors row starts =
      let zero : row.lba - row.lba ≡ 0 = omega arith in
      starts.places row.lba (omega arith) (omega (arith, starts.some))
      ∙ ap Some (ap (λ n. on n row.place) zero ∙ on_none row.place)

-- a row, where there is one
abbrev pub row_or : {P : Type 0} → Extent P → Option (Extent P) → Extent P
row_or other None = other
row_or other (Some row) = row

-- ---- both maps

abbrev log_or : LogPlace → Option VolumePlace → LogPlace
log_or other None = other
log_or other (Some (Log place)) = place
log_or other (Some (Object place)) = other

abbrev object_or : ObjectPlace → Option VolumePlace → ObjectPlace
object_or other None = other
object_or other (Some (Log place)) = other
object_or other (Some (Object place)) = place

-- what both maps give is in the log's map, or else in the objects' map
in_log : (logged : Option LogPlace) (settled : Option ObjectPlace) (place : LogPlace) → place_in logged settled ≡ Some (Log place)
    → logged ≡ Some place
in_log None None place is = absurd cc
in_log None (Some other) place is = absurd cc
in_log (Some other) settled place is = ap Some (ap (log_or place) is)

in_objects : (logged : Option LogPlace) (settled : Option ObjectPlace) (place : ObjectPlace)
    → place_in logged settled ≡ Some (Object place)
    → (logged ≡ None) × (settled ≡ Some place)
in_objects None None place is = absurd cc
in_objects None (Some other) place is = (refl, ap Some (ap (object_or place) is))
in_objects (Some other) settled place is = absurd cc

pub log_on_none : (place : LogPlace) → log_on 0 place ≡ place
log_on_none (Data seq sector) = grind arith
log_on_none (Zeros seq) = refl

pub object_on_none : (place : ObjectPlace) → object_on 0 place ≡ place
object_on_none place = grind arith

pub volume_on_none : (place : VolumePlace) → volume_on 0 place ≡ place
volume_on_none (Log place) = ap Log (log_on_none place)
volume_on_none (Object place) = ap Object (object_on_none place)

module _ (settled : MapState ObjectPlace) (log : MapState LogPlace) (lba sectors : ℕ) where
  -- a row of the log's map is as long as it can be
  pub logged_breaks_off : (row : Extent LogPlace) → IsFirstOfRange log_on lba sectors (place_at log_on log.rows) (Some row)
      → lba ≤ row.lba
      → BreaksOff lba sectors (combined settled log) (as_logged row)
  logged_breaks_off row first from ends goes_on =
      let e = row.lba + row.sectors in
      first_breaks_off log_on log_on_none lba sectors (place_at log_on log.rows) row first from ends
      (in_log (place_at log_on log.rows e) (place_at object_on settled.rows e) (log_on row.sectors row.place) goes_on)

  -- and so is one of the objects' map up to the first sector that the log's map has
  pub settled_breaks_off : (end : ℕ) (row : Extent ObjectPlace)
      → IsFirstOfRange object_on lba (end - lba) (place_at object_on settled.rows) (Some row) → lba ≤ row.lba
      → row.lba + row.sectors ≤ lba + (end - lba) → lba ≤ end
      → (end ≡ lba + sectors) ⊎ ((place : LogPlace) × (place_at log_on log.rows end ≡ Some place))
      → BreaksOff lba sectors (combined settled log) (as_settled row)
  settled_breaks_off end row first from to order reason ends goes_on =
      let e = row.lba + row.sectors in
      let both = in_objects (place_at log_on log.rows e) (place_at object_on settled.rows e)
      (object_on row.sectors row.place) goes_on in
      elim (cases_lt e (lba + (end - lba))) [
        | inl low ↦ first_breaks_off object_on object_on_none lba (end - lba) (place_at object_on settled.rows) row first
            from low both.1
        | inr past ↦ elim reason [
          | inl whole ↦ absurd (omega arith)
          | inr logged ↦
              let at : e ≡ end = omega arith in
              let none : place_at log_on log.rows end ≡ None = ap (place_at log_on log.rows) (sym at) ∙ both.0 in
              let some : place_at log_on log.rows end ≡ Some logged.0 = logged.1 in
              absurd cc
        ]
      ]

-- ---- rows one after the other

module _ (end : ℕ) (places : ℕ → Option VolumePlace) where
  -- a further row that begins at a sector from which the rows before it are closed
  pub push_shortest : (from : ℕ) (rows : List (Extent VolumePlace)) (row : Extent VolumePlace) → IsShortest volume_on rows
      → AreClosedAt from end places rows → 0 < row.sectors → from ≤ row.lba → row.lba < end → places row.lba ≡ Some row.place
      → IsShortest volume_on (rows ++ row ∷ [])
  push_shortest from [] row shortest closed some order low at = (some, tt, tt)
  push_shortest from (last ∷ []) row shortest closed some order low at =
      let before : ComesBefore volume_on last row = record {
        in_order = omega (arith, closed.0, order);
        apart = λ touches goes_on.
            let here : row.lba ≡ from = omega (arith, closed.0, order, touches) in
            closed.1 (touches ∙ here) (omega (arith, here, low)) (ap places (sym here) ∙ (at ∙ ap Some (sym goes_on)));
      } in
      (shortest.0, before, (some, tt, tt))
  push_shortest from (first ∷ next ∷ rows) row shortest closed some order low at =
      (shortest.0, shortest.1, push_shortest from (next ∷ rows) row shortest.2 closed some order low at)

  pub push_closed : (from lba sectors : ℕ) (rows : List (Extent VolumePlace)) (row : Extent VolumePlace) → lba + sectors ≡ end
      → BreaksOff lba sectors places row → AreClosedAt (row.lba + row.sectors) end places (rows ++ row ∷ [])
  push_closed from lba sectors [] row range breaks = (omega arith, λ here low goes_on. breaks (omega (arith, range, low)) goes_on)
  push_closed from lba sectors (first ∷ []) row range breaks = push_closed from lba sectors [] row range breaks
  push_closed from lba sectors (first ∷ next ∷ rows) row range breaks =
      push_closed from lba sectors (next ∷ rows) row range breaks

-- rows fit with one more that does
pub push_fits : {P : Type 0} (number : P → ℕ) (rows : List (Extent P)) (row : Extent P) → AllFit number rows → Fits number row
    → AllFit number (rows ++ row ∷ [])
push_fits number [] row all fits = (fits, tt)
push_fits number (first ∷ rows) row all fits = (all.0, push_fits number rows row all.1 fits)

-- a place by a test, or else another
by_test : (test : Bool) (place : VolumePlace) (front all more : Option VolumePlace) → all ≡ option_or front more
    → cond test (Some place) all ≡ option_or (cond test (Some place) front) more
by_test true place front all more same = refl
by_test false place front all more same = same

-- the place that rows give, or else those after them
pub place_in_parts : (rows more : List (Extent VolumePlace)) (k : ℕ)
    → place_at volume_on (rows ++ more) k ≡ option_or (place_at volume_on rows k) (place_at volume_on more k)
place_in_parts [] more k = refl
place_in_parts (row ∷ rows) more k =
    by_test (is_within row.lba row.sectors k) (volume_on (k - row.lba) row.place) (place_at volume_on rows k)
    (place_at volume_on (rows ++ more) k) (place_at volume_on more k)
    (place_in_parts rows more k)

none_after : (place : Option VolumePlace) → option_or place None ≡ place
none_after None = refl
none_after (Some place) = refl

-- a range's places, and those outside it
inside : (lba sectors : ℕ) (places : ℕ → Option VolumePlace) (k : ℕ) → lba ≤ k → k < lba + sectors
    → place_in_range lba sectors places k ≡ places k
inside lba sectors places k from low = ap (λ b. cond b (places k) None) (within lba sectors k from low)

early : (lba sectors : ℕ) (places : ℕ → Option VolumePlace) (k : ℕ) → k < lba → place_in_range lba sectors places k ≡ None
early lba sectors places k low = ap (λ b. cond b (places k) None) (not_below lba sectors k low)

late : (lba sectors : ℕ) (places : ℕ → Option VolumePlace) (k : ℕ) → lba + sectors ≤ k
    → place_in_range lba sectors places k ≡ None
late lba sectors places k high = ap (λ b. cond b (places k) None) (not_past lba sectors k high)

module _ (lba from : ℕ) (places : ℕ → Option VolumePlace) (order : lba ≤ from) where
  -- a row's own place
  own : (row : Extent VolumePlace) (k : ℕ) → row.lba ≤ k → k < row.lba + row.sectors
      → place_at volume_on (row ∷ []) k ≡ Some (volume_on (k - row.lba) row.place)
  own row k low high = at_inside volume_on row [] k low high

  not_own : (row : Extent VolumePlace) (k : ℕ) → (k < row.lba) ⊎ (row.lba + row.sectors ≤ k)
      → place_at volume_on (row ∷ []) k ≡ None
  not_own row k outside = elim outside [
    | inl low ↦ ap (λ b. cond b (Some (volume_on (k - row.lba) row.place)) None) (not_below row.lba row.sectors k low)
    | inr high ↦ ap (λ b. cond b (Some (volume_on (k - row.lba) row.place)) None) (not_past row.lba row.sectors k high)
  ]

  -- the places of a range up to a further row
  pub push_places : (rest : ℕ) (row : Extent VolumePlace) → StartsRange volume_on from rest places row → (k : ℕ)
      → option_or (place_in_range lba (from - lba) places k) (place_at volume_on (row ∷ []) k)
      ≡ place_in_range lba (row.lba + row.sectors - lba) places k
  push_places rest row starts k =
      let all = row.lba + row.sectors - lba in
      let own_at = place_at volume_on (row ∷ []) k in
      elim (cases_lt k from) [
        | inl before ↦
            let none = not_own row k (inl (omega (arith, starts.from))) in
            ap (option_or (place_in_range lba (from - lba) places k)) none
            ∙ (none_after (place_in_range lba (from - lba) places k)
            ∙ elim (cases_lt k lba) [
              | inl low ↦ early lba (from - lba) places k low ∙ sym (early lba all places k low)
              | inr high ↦
                  inside lba (from - lba) places k high (omega arith)
                  ∙ sym (inside lba all places k high (omega (arith, starts.from)))
            ])
        | inr past ↦
            let gone = late lba (from - lba) places k (omega arith) in
            ap (λ p. option_or p own_at) gone
            ∙ elim (cases_lt k row.lba) [
              | inl gap ↦
                  not_own row k (inl gap)
                  ∙ (sym (starts.none_before k past gap) ∙ sym (inside lba all places k (omega arith) (omega arith)))
              | inr at ↦ elim (cases_lt k (row.lba + row.sectors)) [
                | inl low ↦
                    own row k at low
                    ∙ (sym (starts.places k at low) ∙ sym (inside lba all places k (omega arith) (omega arith)))
                | inr high ↦ not_own row k (inr high) ∙ sym (late lba all places k (omega arith))
              ]
            ]
      ]

  -- where the rest of a range is bare, its places are those so far
  pub bare_rest : (sectors : ℕ) → from ≤ lba + sectors → IsBare from (lba + sectors - from) places → (k : ℕ)
      → place_in_range lba (from - lba) places k ≡ place_in_range lba sectors places k
  bare_rest sectors end bare k =
      elim (cases_lt k lba) [
        | inl low ↦ early lba (from - lba) places k low ∙ sym (early lba sectors places k low)
        | inr high ↦ elim (cases_lt k from) [
          | inl before ↦ inside lba (from - lba) places k high (omega arith)
              ∙ sym (inside lba sectors places k high (omega arith))
          | inr past ↦
              late lba (from - lba) places k (omega arith)
              ∙ elim (cases_lt k (lba + sectors)) [
                | inl within_rest ↦ sym (bare k past (omega arith)) ∙ sym (inside lba sectors places k high within_rest)
                | inr out ↦ sym (late lba sectors places k out)
              ]
        ]
      ]
