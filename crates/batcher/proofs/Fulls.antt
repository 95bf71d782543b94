-- Plans of entries, one entry after the other.
use Rattle.std.proofs.Common.{◌≡◌, ℕ, suc, ◌+◌, ◌-◌, ◌<◌, ◌≤◌, inl, inr, true, false, Option, Some, None, List, [], ◌∷◌, ◌++◌}
use Rattle.std.proofs.Common.{length, get_or, take, drop, length-append, length-drop, refl, sym, ap, subst, ◌∙◌, arith}
use Rattle.std.specs.Option.{option_or}
use Rattle.std.specs.Prelude.{◌^◌, IsTrue, is_some, IsNone}
use Rattle.std.specs.List.{sum_by}
use Rattle.std.proofs.lemmas.List.{take_more, get_or-drop, take-append-le, take-append-drop, length-take-le, take_all}
use Rattle.std.proofs.lemmas.List.{length_push}
use Rattle.std.proofs.lemmas.List.Elements.{All-push, All-same, All-drop}
use Rattle.std.proofs.lemmas.List.Sums.{sum_by_push}
use Rattle.std.proofs.lemmas.Bool.{cases_lt, cases_Bool, both_ways}
use Rattle.std.proofs.lemmas.Bool.Decides.{nat_tests}
use Rattle.lsvd_base.specs.declared.geometry.Geometry.{Geometry}
use Rattle.lsvd_base.specs.declared.entry.Entry.{Entry}
use Rattle.lsvd_base.specs.declared.entry.Entry.TheVariants.{Write, Zero}
use Rattle.lsvd_base.specs.Limits.{is_within_limits}
use Rattle.lsvd_base.specs.Range.{is_in_range}
use Rattle.lsvd_base.specs.Laws.{EndsBy}
use Rattle.batcher.specs.declared.place.BatchPlace.{BatchPlace}
use Rattle.batcher.specs.declared.plan.SealPlan.{SealPlan}
use Rattle.batcher.specs.Batch.{data_sectors, max_entries, fullness, fullness_of_first}
use Rattle.batcher.specs.Places.{extent_place, extent_of, place_by}
use Rattle.batcher.specs.Plans.{IsPlanOf}
use Rattle.batcher.specs.Invariant.{IsPutInPlan, IsBatch}

-- ---- what sectors get from one entry more

or_none : (place : Option BatchPlace) → option_or place None ≡ place
or_none None = refl
or_none (Some place) = refl

or_twice : (a b c : Option BatchPlace) → option_or (option_or a b) c ≡ option_or a (option_or b c)
or_twice None b c = refl
or_twice (Some place) b c = refl

pub place_by_push : (index : ℕ) (entries : List Entry) (entry : Entry) (at k : ℕ) → at ≡ index + length entries
    → place_by index (entries ++ entry ∷ []) k ≡ option_or (extent_place (extent_of at entry) k) (place_by index entries k)
place_by_push index [] entry at k is =
    let same : index ≡ at = omega arith in
    ap (λ i. extent_place (extent_of i entry) k) same ∙ sym (or_none (extent_place (extent_of at entry) k))
place_by_push index (first ∷ entries) entry at k is =
    ap (λ place. option_or place (extent_place (extent_of index first) k))
    (place_by_push (suc index) entries entry at k (omega arith))
    ∙ or_twice (extent_place (extent_of at entry) k) (place_by (suc index) entries k) (extent_place (extent_of index first) k)

-- ---- counts

-- what is not full has fewer sectors than the batch, and fewer entries than the most
pub not_full : (batch sectors entries : ℕ) → is_some (fullness batch sectors entries) ≡ false → (sectors < batch)
    × (entries < max_entries)
not_full batch sectors entries none = grind (arith, nat_tests)

-- what is full of no entries has a batch of no sectors
pub full_has_some : (batch : ℕ) → 0 < batch → is_some (fullness batch 0 0) ≡ false
full_has_some batch some = grind (arith, nat_tests)

-- the first entries are as full in a longer list
first_same : (batch : ℕ) (entries more : List Entry) (n : ℕ) → n ≤ length entries
    → fullness_of_first batch (entries ++ more) n ≡ fullness_of_first batch entries n
first_same batch entries more n within =
    ap (λ list. fullness batch (sum_by data_sectors list) n) (take-append-le n entries more within)

-- a plan that is full is one of a longer list too
pub full_stays : (batch : ℕ) (entries more : List Entry) (plan : SealPlan) → IsPlanOf batch entries plan
    → is_some (fullness batch plan.sectors plan.entries) ≡ true → IsPlanOf batch (entries ++ more) plan
full_stays batch entries more plan is full =
    let same : take plan.entries (entries ++ more) ≡ take plan.entries entries =
    take-append-le plan.entries entries more is.count.within in
    let sum : plan.sectors ≡ sum_by data_sectors (take plan.entries (entries ++ more)) = is.sum
    ∙ ap (sum_by data_sectors) (sym same) in
    record {
      count = record {
        within = omega (arith, is.count.within, length-append entries more);
        fewest = λ fewer low.
            ap is_some (first_same batch entries more fewer (omega (arith, is.count.within))) ∙ is.count.fewest fewer low;
        full_or_all = inl (ap (λ s. is_some (fullness batch s plan.entries)) (sym sum) ∙ full);
      };
      sum = sum;
      changes = λ k. is.changes k ∙ ap (λ list. place_by 0 list k) (sym same);
      few = is.few;
    }

-- a plan that is not full has all entries
pub not_full_has_all : (batch : ℕ) (entries : List Entry) (plan : SealPlan) → IsPlanOf batch entries plan
    → is_some (fullness batch plan.sectors plan.entries) ≡ false → plan.entries ≡ length entries
not_full_has_all batch entries plan is none =
    elim is.count.full_or_all [
      | inl full ↦ absurd (both_ways (is_some (fullness batch plan.sectors plan.entries)) none
          (ap (λ s. is_some (fullness batch s plan.entries)) is.sum ∙ full))
      | inr all ↦ all
    ]

-- a plan that is not full, with the next entry put into it, is the plan of the longer list
pub put_is_plan : (batch : ℕ) (entries : List Entry) (entry : Entry) (old new : SealPlan) → IsPlanOf batch entries old
    → is_some (fullness batch old.sectors old.entries) ≡ false → IsPutInPlan old entry new
    → IsPlanOf batch (entries ++ entry ∷ []) new
put_is_plan batch entries entry old new is none put =
    let longer = entries ++ entry ∷ [] in
    let all : old.entries ≡ length entries = not_full_has_all batch entries old is none in
    let had : take old.entries entries ≡ entries = take_all old.entries entries (omega (arith, all)) in
    let whole : new.entries ≡ length longer = omega (arith, all, put.count, length_push entries entry) in
    let has : take new.entries longer ≡ longer = take_all new.entries longer (omega (arith, whole)) in
    let sum : old.sectors ≡ sum_by data_sectors entries = is.sum ∙ ap (sum_by data_sectors) had in
    record {
      count = record {
        within = omega (arith, whole);
        fewest = λ fewer low.
            elim (cases_lt fewer old.entries) [
              | inl before ↦
                  ap is_some (first_same batch entries (entry ∷ []) fewer (omega (arith, all))) ∙ is.count.fewest fewer before
              | inr past ↦
                  let last : old.entries ≡ fewer = omega (arith, put.count) in
                  subst (λ n. IsNone (fullness_of_first batch longer n)) last
                  (ap is_some (first_same batch entries (entry ∷ []) old.entries (omega (arith, all)))
                  ∙ ap (λ s. is_some (fullness batch s old.entries)) (sym is.sum)
                  ∙ none)
            ];
        full_or_all = inr whole;
      };
      sum = put.sum ∙ ap (λ s. s + data_sectors entry) sum ∙ sym (sum_by_push data_sectors entries entry)
          ∙ ap (sum_by data_sectors) (sym has);
      changes = λ k.
          put.changes k
          ∙ ap (option_or (extent_place (extent_of old.entries entry) k)) (is.changes k ∙ ap (λ list. place_by 0 list k) had)
          ∙ sym (place_by_push 0 entries entry old.entries k (omega (arith, all)))
          ∙ ap (λ list. place_by 0 list k) (sym has);
      few = omega (arith, is.few, put.few, put.count);
    }

-- a plan to which an entry was offered
pub record IsOffered (batch : ℕ) (old : SealPlan) (entry : Entry) (new : SealPlan) : Type 0 where
  pub full : is_some (fullness batch old.sectors old.entries) ≡ true → new ≡ old
  pub put : is_some (fullness batch old.sectors old.entries) ≡ false → IsPutInPlan old entry new

pub offered_is_plan : (batch : ℕ) (entries : List Entry) (entry : Entry) (old new : SealPlan) → IsPlanOf batch entries old
    → IsOffered batch old entry new → IsPlanOf batch (entries ++ entry ∷ []) new
offered_is_plan batch entries entry old new is offered =
    elim (cases_Bool (is_some (fullness batch old.sectors old.entries))) [
      | inl full ↦ subst (IsPlanOf batch (entries ++ entry ∷ [])) (sym (offered.full full))
          (full_stays batch entries (entry ∷ []) old is full)
      | inr none ↦ put_is_plan batch entries entry old new is none (offered.put none)
    ]

-- an offer takes at most the room of one entry
pub offered_room : (batch : ℕ) (entry : Entry) (old new : SealPlan) → IsOffered batch old entry new
    → old.changes.spare ≤ new.changes.spare + 1
offered_room batch entry old new offered =
    elim (cases_Bool (is_some (fullness batch old.sectors old.entries))) [
      | inl full ↦ let same : new.changes.spare ≡ old.changes.spare = ap (λ plan. plan.changes.spare) (offered.full full) in
          omega arith
      | inr none ↦ (offered.put none).room
    ]

-- the plan for as many entries as an object takes at most is that for all
pub most_is_plan : (batch : ℕ) (entries : List Entry) (plan : SealPlan) → IsPlanOf batch (take max_entries entries) plan
    → IsPlanOf batch entries plan
most_is_plan batch entries plan is =
    elim (cases_lt (length entries) max_entries) [
      | inl short ↦ subst (λ list. IsPlanOf batch list plan) (take_all max_entries entries (omega arith)) is
      | inr long ↦
          elim (cases_Bool (is_some (fullness batch plan.sectors plan.entries))) [
            | inl full ↦
                subst (λ list. IsPlanOf batch list plan) (take-append-drop max_entries entries)
                (full_stays batch (take max_entries entries) (drop max_entries entries) plan is full)
            | inr none ↦
                let all : plan.entries ≡ length (take max_entries entries) =
                not_full_has_all batch (take max_entries entries) plan is none in
                let few : plan.entries < max_entries = (not_full batch plan.sectors plan.entries none).1 in
                absurd (omega (arith, all, few, length-take-le max_entries entries long))
          ]
    ]

-- what the volume takes is short, and ends by the greatest volume's end
pub entry_is_short : (geometry : Geometry) (entry : Entry) → IsTrue (is_within_limits geometry)
    → IsTrue (is_in_range geometry entry)
    → (data_sectors entry ≤ geometry.max_write) × (geometry.max_write ≤ 65536) × EndsBy geometry.sectors entry
    × (geometry.sectors ≤ 2 ^ 31)
entry_is_short geometry (Write lba body) limits in_range =
    (grind (arith, nat_tests), grind (arith, nat_tests), grind (arith, nat_tests), grind (arith, nat_tests))
entry_is_short geometry (Zero lba sectors) limits in_range =
    (grind (arith, nat_tests), grind (arith, nat_tests), grind (arith, nat_tests), grind (arith, nat_tests))

-- ---- what holds of every batch

pub batch_added : (geometry : Geometry) (first : ℕ) (entries longer : List Entry) (sectors added : ℕ) (old new : SealPlan)
    (entry : Entry)
    → IsBatch geometry first entries sectors old → IsTrue (is_in_range geometry entry) → first + length entries < 2 ^ 64 - 1
    → added ≡ data_sectors entry → longer ≡ entries ++ entry ∷ [] → IsOffered geometry.batch old entry new
    → IsBatch geometry first longer (sectors + added) new
batch_added geometry first entries longer sectors added old new entry is in_range seqs adds grows offered =
    subst (λ list. IsBatch geometry first list (sectors + added) new) (sym grows)
    (record {
      limits = is.limits;
      seqs = omega (arith, seqs, length_push entries entry);
      in_range = All-push (λ e. IsTrue (is_in_range geometry e)) entries entry is.in_range in_range;
      counted = omega (arith, is.counted, adds, sum_by_push data_sectors entries entry);
      planned = offered_is_plan geometry.batch entries entry old new is.planned offered;
    })

pub batch_released : (geometry : Geometry) (first : ℕ) (entries left : List Entry) (sectors removed n : ℕ) (old new : SealPlan)
    → IsBatch geometry first entries sectors old → n ≤ length entries → left ≡ drop n entries
    → removed + sum_by data_sectors left ≡ sum_by data_sectors entries → IsPlanOf geometry.batch (drop n entries) new
    → IsBatch geometry (first + n) left (sectors - removed) new
batch_released geometry first entries left sectors removed n old new is within leaves sum planned =
    let shorter : length left ≡ length entries - n = ap length leaves ∙ length-drop n entries in
    record {
      limits = is.limits;
      seqs = omega (arith, is.seqs, within, shorter);
      in_range = All-same (λ e. IsTrue (is_in_range geometry e)) left (drop n entries) leaves
          (All-drop (λ e. IsTrue (is_in_range geometry e)) n entries is.in_range);
      counted = omega (arith, is.counted, sum);
      planned = subst (λ list. IsPlanOf geometry.batch list new) (sym leaves) planned;
    }

-- the plan of a part of the entries, and of one entry more
pub plan_offered : (batch : ℕ) (entries : List Entry) (from index : ℕ) (entry : Entry) (old new : SealPlan)
    → IsPlanOf batch (take (index - from) (drop from entries)) old → IsOffered batch old entry new
    → from ≤ index → index < length entries → entry ≡ get_or entries index entry
    → IsPlanOf batch (take (index + 1 - from) (drop from entries)) new
plan_offered batch entries from index entry old new is offered after inside reads =
    let rest = drop from entries in
    let at = index - from in
    let next : index + 1 - from ≡ at + 1 = omega arith in
    let low : at < length rest = omega (arith, length-drop from entries) in
    let there : get_or rest at entry ≡ entry =
    get_or-drop from entries at entry ∙ ap (λ i. get_or entries i entry) (omega arith) ∙ sym reads in
    let grows : take (index + 1 - from) rest ≡ take at rest ++ entry ∷ [] =
    ap (λ n. take n rest) next ∙ take_more rest at entry low ∙ ap (λ e. take at rest ++ e ∷ []) there in
    subst (λ list. IsPlanOf batch list new) (sym grows) (offered_is_plan batch (take at rest) entry old new is offered)
