-- The objects past the first missing number, judged by their names.
use Rattle.std.proofs.Common.{◌≡◌, ℕ, ◌+◌, ◌<◌, ◌≤◌, inl, inr, Option, Some, None, List, length, refl, sym, ◌∙◌, ap, subst}
use Rattle.std.proofs.Common.{arith, rules}
use Rattle.std.specs.Prelude.{◌⊎◌, IfSome, slice_index_or}
use Rattle.std.specs.Option.{IsSome}
use Rattle.std.proofs.lemmas.Bool.{cases_lt}
use Rattle.std.proofs.lemmas.List.{get_or_default}
use Rattle.std.proofs.lemmas.Map.Keys.{Less-from_sorted}
use Rattle.std.specs.declared.cmp.Ordering.TheVariants.{Less}
use Rattle.lsvd_names.specs.Spelling.{IsUuid}
use Rattle.lsvd_names.specs.declared.name.ObjName.{ObjName}
use Rattle.lsvd_names.specs.Names.{numbered_name}
use Rattle.lsvd_objstore.specs.Objects.{Objects, name_cmp, found, Lists}
use Rattle.object_format.specs.declared.expected.Expected.{Expected}
use Rattle.object_stream.specs.Replay.{object_name}
use Rattle.object_recovery.specs.declared.judging.Reached.{Reached}
use Rattle.object_recovery.specs.declared.judging.ObjectRefusal.{ObjectRefusal}
use Rattle.object_recovery.specs.Judged.{IsVerdict, IsReached, IsAmong, IsJudgedAlone, JudgesPast}
use Rattle.object_recovery.specs.Removal.{IsPast}
use Rattle.object_recovery.proofs.CheckpointLemmas.{name_order}
use Rattle.object_recovery.proofs.EndLemmas.{before_past}
use Rattle.object_recovery.proofs.FindLemmas.{numbered}
use Rattle.object_recovery.proofs.JudgeLemmas.{verdict_wider, verdict_more}

-- the numbers that are judged by the first names: those up to the gap, and those of these names
abbrev pub JudgedBy : Expected → List ObjName → (base gap count : ℕ) → ℕ → Type 0
JudgedBy volume names base gap count number = (base < number) × ((number ≤ gap) ⊎ IsAmong volume names count number)

module _ (volume : Expected) (objects : Objects) (names : List ObjName) (base : ℕ) (gap : Reached) where
  abbrev By : ℕ → ℕ → Type 0
  By count = JudgedBy volume names base gap.number count

  -- before the first name
  past_begin : IsReached volume objects base gap → IsVerdict volume objects gap.number (By 0) gap.refused
  past_begin is =
      verdict_wider volume objects gap.number (λ number. (base < number) × (number ≤ gap.number)) (By 0) gap.refused
      (λ number such. (such.0, inl such.1))
      (λ number bytes more fits there. elim more.1 [ inl to ↦ inl (more.0, to) | inr among ↦ absurd (omega (arith, among.1)) ])
      (is.verdict gap.number (omega arith))

  module _ (listed : Lists volume.uuid objects names) where
    -- after the last
    past_end : (refused : Option ObjectRefusal) → IsUuid volume.uuid
        → IsVerdict volume objects gap.number (By (length names)) refused
        → IsVerdict volume objects gap.number (λ number. base < number) refused
    past_end refused is_uuid is =
        verdict_wider volume objects gap.number (By (length names)) (λ number. base < number) refused
        (λ number such. such.0)
        (λ number bytes past fits there.
        let some : IsSome (found objects (object_name volume number)) = subst (λ o. IsSome o) (sym there) (search rules) in
        let at = listed.complete (object_name volume number) (record { uuid = is_uuid; number = tt; fits = fits }) refl some in
        inl (past, inr (at.0, at.1, at.1, at.2))) is

    module _ (k : ℕ) (name : ObjName) (inside : k < length names) (at : slice_index_or names k name ≡ name) where
      of_volume : name.uuid ≡ volume.uuid
      of_volume = (listed.present name (k, inside, at)).1

      -- one more name
      last_among : (number : ℕ) → IsAmong volume names (k + 1) number → IsAmong volume names k number
          ⊎ (object_name volume number ≡ name)
      last_among number among =
          elim (cases_lt among.0 k) [
            | inl low ↦ inl (among.0, low, among.2, among.3)
            | inr from ↦
                let same : among.0 ≡ k = omega (arith, among.1, from) in
                let other = object_name volume number in
                inr (sym among.3 ∙ ap (λ i. slice_index_or names i other) same ∙ get_or_default names k other name inside ∙ at)
          ]

      more_names : (number : ℕ) → By k number → By (k + 1) number
      more_names number such =
          (such.0, elim such.1 [ inl to ↦ inl to | inr among ↦ inr (among.0, omega (arith, among.1), among.2, among.3) ])

      -- it is passed over
      past_skip : (refused : Option ObjectRefusal) → (IsPast gap.number name → ⊥)
          → IsVerdict volume objects gap.number (By k) refused
          → IsVerdict volume objects gap.number (By (k + 1)) refused
      past_skip refused not is =
          verdict_wider volume objects gap.number (By k) (By (k + 1)) refused more_names
          (λ number bytes more fits there.
          elim more.1 [
            | inl to ↦ inl (more.0, inl to)
            | inr among ↦
                elim (last_among number among) [
                  | inl before ↦ inl (more.0, inr before)
                  | inr same ↦
                      elim (cases_lt gap.number number) [
                        | inl past ↦ absurd (not (subst (IsPast gap.number) same (refl, past)))
                        | inr to ↦ inl (more.0, inl to)
                      ]
                ]
          ]) is

      module _ (past : IsPast gap.number name) (from : base ≤ gap.number) where
        here : name ≡ object_name volume name.number
        here = numbered name past.0 ∙ ap (λ u. numbered_name u name.number) of_volume

        number_of : (number : ℕ) → object_name volume number ≡ name → number ≡ name.number
        number_of number same = ap (λ (n : ObjName). n.number) same

        -- it is past all before it
        most : (number : ℕ) → By (k + 1) number → number ≤ name.number
        most number more =
            elim more.1 [
              | inl to ↦ omega (arith, to, past.1)
              | inr among ↦
                  elim (last_among number among) [
                    | inl before ↦
                        let less = Less-from_sorted name_cmp names before.0 k name listed.ascending before.1 inside in
                        let first : slice_index_or names before.0 name ≡ object_name volume number =
                        get_or_default names before.0 name (object_name volume number) before.2 ∙ before.3 in
                        let order : name_cmp (object_name volume number) (object_name volume name.number) ≡ Less =
                        ap (λ a. name_cmp a (object_name volume name.number)) (sym first)
                        ∙ ap (name_cmp (slice_index_or names before.0 name)) (sym (at ∙ here)) ∙ less in
                        omega (arith, name_order volume.uuid number name.number order)
                    | inr same ↦ omega (arith, number_of number same)
                  ]
            ]

        among_more : By (k + 1) name.number
        among_more =
            let default = get_or_default names k (object_name volume name.number) name inside in
            (omega (arith, from, past.1), inr (k, omega arith, inside, default ∙ at ∙ here))

        cover : (number : ℕ) → By (k + 1) number → By k number ⊎ (number ≡ name.number)
        cover number more =
            elim more.1 [
              | inl to ↦ inl (more.0, inl to)
              | inr among ↦ elim (last_among number among) [
                | inl before ↦ inl (more.0, inr before)
                | inr same ↦ inr (number_of number same)
              ]
            ]

        past_more : (old new : Option ObjectRefusal) → IsJudgedAlone volume objects name.number old new
            → IsVerdict volume objects gap.number (By k) old → IsVerdict volume objects gap.number (By (k + 1)) new
        past_more old new judged is =
            elim judged [
              | inl none ↦
                  subst (IsVerdict volume objects gap.number (By (k + 1))) (sym none.1)
                  (verdict_wider volume objects gap.number (By k) (By (k + 1)) old more_names
                  (λ number bytes more fits there.
                  elim (cover number more) [
                    | inl such ↦ inl such
                    | inr same ↦ absurd (let absent : found objects (object_name volume number) ≡ None =
                        ap (λ n. found objects (object_name volume n)) same ∙ none.0 in cc)
                  ]) is)
              | inr some ↦
                  subst (IsVerdict volume objects gap.number (By (k + 1))) (sym some.5)
                  (verdict_more volume objects gap.number (By k) (By (k + 1)) name.number some.0 None some.2 some.3
                  (before_past volume objects gap.number name.number past.1) among_more more_names cover most some.1
                  old some.4 is)
            ]

-- ---- where the store tells its objects

-- the objects were judged by the first names
abbrev pub IsJudgedBy : Expected → List ObjName → Reached → (count : ℕ) → Option ObjectRefusal → Objects → Type 0
IsJudgedBy volume names gap count refused objects =
    (base : ℕ) → Lists volume.uuid objects names → IsReached volume objects base gap
    → IsVerdict volume objects gap.number (JudgedBy volume names base gap.number count) refused

pub told_begin : (told : Option Objects) (volume : Expected) (names : List ObjName) (gap : Reached)
    → IfSome told (IsJudgedBy volume names gap 0 gap.refused)
told_begin None volume names gap = tt
told_begin (Some objects) volume names gap = λ base listed is. past_begin volume objects names base gap is

pub told_end : (told : Option Objects) (volume : Expected) (names : List ObjName) (gap : Reached) (refused : Option ObjectRefusal)
    → IsUuid volume.uuid
    → IfSome told (IsJudgedBy volume names gap (length names) refused)
    → IfSome told (λ objects. JudgesPast volume objects names gap refused)
told_end None volume names gap refused is_uuid judged = tt
told_end (Some objects) volume names gap refused is_uuid judged = λ base listed is.
    past_end volume objects names base gap listed refused is_uuid (judged base listed is)

pub told_skip :
    (told : Option Objects) (volume : Expected) (names : List ObjName) (gap : Reached) (refused : Option ObjectRefusal)
    (k : ℕ) (name : ObjName)
    → k < length names → slice_index_or names k name ≡ name → (IsPast gap.number name → ⊥)
    → IfSome told (IsJudgedBy volume names gap k refused) → IfSome told (IsJudgedBy volume names gap (k + 1) refused)
told_skip None volume names gap refused k name inside at not judged = tt
told_skip (Some objects) volume names gap refused k name inside at not judged = λ base listed is.
    past_skip volume objects names base gap listed k name inside at refused not (judged base listed is)

pub told_judged :
    (told : Option Objects) (volume : Expected) (names : List ObjName) (gap : Reached) (old new : Option ObjectRefusal)
    (k : ℕ) (name : ObjName)
    → k < length names → slice_index_or names k name ≡ name → IsPast gap.number name
    → IfSome told (λ objects. IsJudgedAlone volume objects name.number old new)
    → IfSome told (IsJudgedBy volume names gap k old) → IfSome told (IsJudgedBy volume names gap (k + 1) new)
told_judged None volume names gap old new k name inside at past alone judged = tt
told_judged (Some objects) volume names gap old new k name inside at past alone judged = λ base listed is.
    past_more volume objects names base gap listed k name inside at past is.from old new alone (judged base listed is)
