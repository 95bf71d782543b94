-- One spelling of what super objects, epochs and holds say.
use Rattle.std.proofs.Common.{◌≡◌, ℕ, ◌+◌, ◌*◌, List, [], ◌++◌, length, take, drop, codes, refl, sym, ◌∙◌, ap, subst, arith}
use Rattle.std.proofs.lemmas.List.{take-append-le, drop-append-le, length-drop}
use Rattle.std.specs.Int.{w32, from_be_bytes}
use Rattle.lsvd_bytes.specs.Places.{number_at}
use Rattle.super_format.specs.declared.reason.SuperReason.TheVariants as reasons
use Rattle.super_format.specs.declared.epoch.Epoch.{Epoch}
use Rattle.super_format.specs.declared.hold.Hold.{Hold}
use Rattle.super_format.specs.Super.{super_bytes, super_in}
use Rattle.super_format.specs.Numbered.{numbered_bytes, IsNumbered}
use Rattle.super_format.specs.Laws.{SupersHaveOneSpelling, EpochsHaveOneSpelling, HoldsHaveOneSpelling}
use Rattle.super_format.specs.Laws.{NoSuperBeginsAnother, NoEpochBeginsAnother, NoHoldBeginsAnother}
use Rattle.super_format.proofs.PartLemmas.{no_more}
use Rattle.super_format.proofs.TestLemmas.{super_in-IsSuper, super_passes}
use Rattle.super_format.proofs.NumberedLemmas.{length_of_numbered, one_uuid, one_number}

pub supers_have_one_spelling : SupersHaveOneSpelling
supers_have_one_spelling bytes others uuid another a b is_a is_b = (
  λ same. is_a.spelled ∙ ap super_bytes same ∙ sym is_b.spelled,
  λ same. sym (super_in-IsSuper bytes uuid a is_a) ∙ ap super_in same ∙ super_in-IsSuper others another b is_b,
)

-- the count of ancestors stands before them, so it is that of longer bytes too
pub no_super_begins_another : NoSuperBeginsAnother
no_super_begins_another bytes more uuid another a b is_a is_b =
    let size = super_passes bytes uuid a is_a reasons.Length in
    let longer = super_passes (bytes ++ more) another b is_b reasons.Length in
    let count : number_at w32 44 (bytes ++ more) ≡ number_at w32 44 bytes =
    ap (λ xs. from_be_bytes w32 (take 4 xs)) (drop-append-le 44 bytes more (omega (arith, size)))
    ∙ ap (from_be_bytes w32) (take-append-le 4 (drop 44 bytes) more (omega (arith, size, length-drop 44 bytes))) in
    no_more bytes more (longer ∙ ap (λ n. 48 + 24 * n) count ∙ sym size)

no_numbered_begins_another : (magic bytes more uuid another : List ℕ) (m n : ℕ) → length magic ≡ 8
    → IsNumbered bytes magic uuid m → IsNumbered (bytes ++ more) magic another n → more ≡ []
no_numbered_begins_another magic bytes more uuid another m n eight is longer =
    no_more bytes more
    (length_of_numbered (bytes ++ more) magic another n eight longer ∙ sym (length_of_numbered bytes magic uuid m eight is))

-- ---- epochs

abbrev epoch_of : List ℕ → ℕ → Epoch
epoch_of uuid number = record { uuid = uuid; number = number }

pub epochs_have_one_spelling : EpochsHaveOneSpelling
epochs_have_one_spelling bytes others uuid another m n a b is_a is_b =
    let magic = codes "LSVDEPO1" in (
      λ same. is_a.numbered.spelled ∙ ap (λ e. numbered_bytes magic e.uuid e.number) same ∙ sym is_b.numbered.spelled,
      λ same.
          let again : IsNumbered bytes magic b.uuid b.number =
          subst (λ xs. IsNumbered xs magic b.uuid b.number) (sym same) is_b.numbered in
          ap (λ u. epoch_of u a.number) (one_uuid bytes magic a.uuid b.uuid a.number b.number refl is_a.numbered again)
          ∙ ap (epoch_of b.uuid) (one_number bytes magic a.uuid b.uuid a.number b.number refl is_a.numbered again),
    )

pub no_epoch_begins_another : NoEpochBeginsAnother
no_epoch_begins_another bytes more uuid another m n a b is_a is_b =
    no_numbered_begins_another (codes "LSVDEPO1") bytes more a.uuid b.uuid a.number b.number refl is_a.numbered is_b.numbered

-- ---- holds

abbrev hold_of : List ℕ → ℕ → Hold
hold_of uuid checkpoint = record { uuid = uuid; checkpoint = checkpoint }

pub holds_have_one_spelling : HoldsHaveOneSpelling
holds_have_one_spelling bytes others uuid another m n a b is_a is_b =
    let magic = codes "LSVDHLD1" in (
      λ same. is_a.numbered.spelled ∙ ap (λ h. numbered_bytes magic h.uuid h.checkpoint) same ∙ sym is_b.numbered.spelled,
      λ same.
          let again : IsNumbered bytes magic b.uuid b.checkpoint =
          subst (λ xs. IsNumbered xs magic b.uuid b.checkpoint) (sym same) is_b.numbered in
          ap (λ u. hold_of u a.checkpoint)
          (one_uuid bytes magic a.uuid b.uuid a.checkpoint b.checkpoint refl is_a.numbered again)
          ∙ ap (hold_of b.uuid) (one_number bytes magic a.uuid b.uuid a.checkpoint b.checkpoint refl is_a.numbered again),
    )

pub no_hold_begins_another : NoHoldBeginsAnother
no_hold_begins_another bytes more uuid another m n a b is_a is_b =
    no_numbered_begins_another (codes "LSVDHLD1") bytes more a.uuid b.uuid a.checkpoint b.checkpoint refl is_a.numbered
    is_b.numbered
