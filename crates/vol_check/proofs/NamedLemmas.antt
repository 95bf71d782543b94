-- The objects that checkpoints name, one checkpoint after the other.
use Rattle.std.proofs.Common.{◌≡◌, ℕ, ◌+◌, ◌<◌, inl, inr, Some, None, List, [], ◌∷◌, length, take, get_or, refl, sym}
use Rattle.std.proofs.Common.{◌∙◌, ap, subst, arith}
use Rattle.std.specs.Prelude.{◌⊎◌}
use Rattle.std.specs.BTreeSet.{BTreeSet}
use Rattle.std.specs.List.{Contains}
use Rattle.std.proofs.lemmas.List.{take_more}
use Rattle.std.proofs.lemmas.List.Elements.{All-nil, All-more, Contains-append_left, Contains-push, Contains-push_cases}
use Rattle.lsvd_objstore.specs.Objects.{Objects, found}
use Rattle.object_format.specs.declared.expected.Expected.{Expected}
use Rattle.object_stream.specs.Replay.{object_name}
use Rattle.stopped_volume.specs.Expected.{expected_alone}
use Rattle.stopped_volume.specs.Opening.{IsCheckpointOf, owned_by}
use Rattle.object_recovery.specs.declared.error.RecoverError.{RecoverError}
use Rattle.object_recovery.proofs.HoldingLemmas.{is_stored}
use Rattle.object_recovery.proofs.RecoverLemmas.{one_reading}
use Rattle.vol_check.specs.declared.report.ObjectOfLevel.{ObjectOfLevel}
use Rattle.vol_check.specs.Report.{own_object}
use Rattle.vol_check.specs.Steps.{Has, GainsJust, AddsRows, AddsKept, IsWholeIfThere, KeepsObject, NamesAll, RefusesKept}
use Rattle.vol_check.specs.Steps.{RefusesNamed}

-- ---- of one hold

module _ (volume : Expected) (objects : Objects) (number : ℕ) (old middle new : BTreeSet ObjectOfLevel)
    (first : GainsJust (λ n. n ≡ own_object number) old middle) where
  -- its checkpoint is there
  module _ (bytes : List ℕ) (present : found objects (object_name volume number) ≡ Some bytes)
      (rows : AddsRows bytes (expected_alone volume number) middle new) where
    abbrev of : IsCheckpointOf volume objects number rows.0 (owned_by rows.1)
    of = is_stored volume objects number rows.0 bytes rows.1 present rows.2

    one : (n : ObjectOfLevel) → KeepsObject volume objects number n → Has new n
    one n (inl same) = (rows.3 n).1 (inl ((first n).1 (inr same)))
    one n (inr (end, owned, checkpoint, mapped)) =
        let k = mapped.0 in
        let same = one_reading volume objects number number rows.0 end (owned_by rows.1) owned refl of checkpoint in
        let is = ap (λ list. owned_by list k) (sym same.1) ∙ sym (checkpoint.says k) in
        (rows.3 n).1 (inr (k, is ∙ mapped.1))

    pub kept_there : AddsKept volume objects number old new
    kept_there = record {
      adds = λ n. (
        λ has. elim ((rows.3 n).0 has) [
          | inl before ↦ elim ((first n).0 before) [ inl had ↦ inl had | inr same ↦ inr (inl same) ]
          | inr mapped ↦ inr (inr (rows.0, owned_by rows.1, of, mapped))
        ],
        λ either. elim either [ inl had ↦ (rows.3 n).1 (inl ((first n).1 (inl had))) | inr keeps ↦ one n keeps ],
      );
      whole = λ there. (rows.0, owned_by rows.1, of);
    }

  -- or it is absent
  pub kept_absent : found objects (object_name volume number) ≡ None → AddsKept volume objects number old middle
  kept_absent none = record {
    adds = λ n. (
      λ has. elim ((first n).0 has) [ inl had ↦ inl had | inr same ↦ inr (inl same) ],
      λ either. elim either [ inl had ↦ (first n).1 (inl had) | inr keeps ↦ (first n).1 (inr (only n keeps)) ],
    );
    whole = λ there. absurd (let gone = none in cc);
  } where
    only : (n : ObjectOfLevel) → KeepsObject volume objects number n → n ≡ own_object number
    only n (inl same) = same
    only n (inr (end, owned, checkpoint, mapped)) = absurd (let present = checkpoint.present in cc)

-- ---- of all

-- the newest checkpoint
pub names_begin : (volume : Expected) (objects : Objects) (base : ℕ) (bytes holds : List ℕ) (empty named : BTreeSet ObjectOfLevel)
    → ((n : ObjectOfLevel) → Has empty n → ⊥) → AddsRows bytes (expected_alone volume base) empty named
    → NamesAll volume objects base bytes (take 0 holds) named
names_begin volume objects base bytes holds empty named none (end, rows, is, adds) = record {
  end = end;
  rows = rows;
  is = is;
  same = λ n. (
    λ has. elim ((adds n).0 has) [ inl had ↦ absurd (none n had) | inr mapped ↦ inl mapped ],
    λ either. elim either [
      | inl mapped ↦ (adds n).1 (inr mapped)
      | inr kept ↦ absurd (omega (arith, kept.1.1))
    ],
  );
  whole = All-nil (IsWholeIfThere volume objects);
}

module _ (volume : Expected) (objects : Objects) (base : ℕ) (bytes holds : List ℕ) (index : ℕ)
    (inside : index < length holds) where
  abbrev next : ℕ
  next = get_or holds index 0

  -- a hold more
  pub names_more : (old new : BTreeSet ObjectOfLevel) → NamesAll volume objects base bytes (take index holds) old
      → AddsKept volume objects next old new → NamesAll volume objects base bytes (take (index + 1) holds) new
  names_more old new before kept = record {
    end = before.end;
    rows = before.rows;
    is = before.is;
    same = λ n. (
      λ has. elim ((kept.adds n).0 has) [
        | inl had ↦ elim ((before.same n).0 had) [
          | inl mapped ↦ inl mapped
          | inr by ↦ inr (by.0, later by.0 by.1, by.2)
        ]
        | inr keeps ↦ inr (next, last, keeps)
      ],
      λ either. elim either [
        | inl mapped ↦ (kept.adds n).1 (inl ((before.same n).1 (inl mapped)))
        | inr by ↦ elim (split by.0 by.1) [
          | inl first ↦ (kept.adds n).1 (inl ((before.same n).1 (inr (by.0, first, by.2))))
          | inr same ↦ (kept.adds n).1 (inr (subst (λ c. KeepsObject volume objects c n) (sym same) by.2))
        ]
      ],
    );
    whole = All-more (IsWholeIfThere volume objects) holds index 0 inside before.whole kept.whole;
  } where
    later : (c : ℕ) → Contains (take index holds) c → Contains (take (index + 1) holds) c
    later c has = subst (λ l. Contains l c) (sym (take_more holds index 0 inside))
        (Contains-append_left (take index holds) (next ∷ []) c has)

    last : Contains (take (index + 1) holds) next
    last = subst (λ l. Contains l next) (sym (take_more holds index 0 inside)) (Contains-push (take index holds) next)

    split : (c : ℕ) → Contains (take (index + 1) holds) c → Contains (take index holds) c ⊎ (next ≡ c)
    split c has =
        Contains-push_cases (take index holds) next c (subst (λ l. Contains l c) (take_more holds index 0 inside) has)

  -- or the checkpoint of one is bad
  pub names_refused : (old : BTreeSet ObjectOfLevel) (error : RecoverError)
      → NamesAll volume objects base bytes (take index holds) old → RefusesKept volume objects next error
      → RefusesNamed volume objects holds error
  names_refused old error before (inl none) = inl none
  names_refused old error before (inr (reason, is, bad)) = inr (record {
    index = index;
    inside = inside;
    reason = reason;
    error_is = is;
    bad = bad;
    before = before.whole;
  })
