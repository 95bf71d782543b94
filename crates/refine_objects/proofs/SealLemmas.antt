-- A seal of the list is that of the plain volume.
use Rattle.std.proofs.Common.{◌≡◌, ℕ, zero, suc, ◌+◌, ◌-◌, ◌<◌, ◌≤◌, ◌⊎◌, ◌&&◌, ◌==◌, inl, inr, not, Bool, true, false, cond}
use Rattle.std.proofs.Common.{Some}
use Rattle.std.proofs.Common.{unwrap_or, is_some, List, [], ◌∷◌, ◌++◌, length, take, refl, sym, ◌∙◌, ap, subst, arith}
use Rattle.std.specs.List.{find, range_with_len}
use Rattle.std.proofs.lemmas.Bool.{cases_lt}
use Rattle.std.proofs.lemmas.Bool.Decides.{nat_tests}
use Rattle.std.proofs.lemmas.List.{take-append-le}
use Rattle.lsvd_base.specs.declared.entry.Entry.{Entry}
use Rattle.lsvd_base.specs.declared.geometry.Geometry.{Geometry}
use Rattle.lsvd_base.specs.Image.{after}
use Rattle.batcher.specs.Batch.{fullness_of_first, IsSealedCount}
use Rattle.upload_window.specs.declared.object.OpenObject.{OpenObject}
use Rattle.upload_window.specs.Window.{WindowState, below_lowest, entered}
use Rattle.object_stream.specs.declared.object.Content.TheVariants.{Data}
use Rattle.object_stream.specs.declared.object.StreamObject.{StreamObject}
use Rattle.object_stream.specs.Stream.{end_after}
use Rattle.object_uploads.specs.Order.{IsUploads}
use Rattle.object_uploads.specs.Image.{HasImage, AreCopied}
use Rattle.object_uploads.specs.Laws.{with_data_object}
use Rattle.obj_log.specs.State.{ObjLogState}
use Rattle.obj_log.specs.Changes.{HasSealedObject}
use Rattle.obj_log.specs.Stream.{IsOfStream}
use Rattle.obj_log.proofs.StreamLemmas.{sealing_keeps_stream}
use Rattle.obj_log.proofs.ImageLemmas.{sealing_keeps_image}
use Rattle.plain_disk.specs.declared.event.PlainReply.{PlainReply}
use Rattle.plain_disk.specs.declared.event.PlainReply.TheVariants.{Sealed, Nothing, Busy}
use Rattle.plain_disk.specs.State.{PlainState, stream_in, frontier_of, frontier_end, unsealed_entries}
use Rattle.plain_disk.specs.Objects.{sealed_count, is_busy, has_unsealed, end_of_next}
use Rattle.plain_disk.specs.Valid.{IsPlainVolume}
use Rattle.plain_disk.proofs.EndLemmas.{frontier_is_sealed}
use Rattle.refine_objects.specs.Shows.{settled_image, ShowsObjects}
use Rattle.refine_objects.specs.Laws.{SealedShowsSeal, RefusedSealShowsNone}
use Rattle.refine_objects.proofs.AlikeLemmas.{sealed_alike}

-- ---- how many entries are sealed

-- A search of a range that ends at a number, and else gives that, gives the first number that passes, or the end where none does.
module _ (test : ℕ → Bool) (n last : ℕ) (most : n ≤ last) (passes_or_last : (test n ≡ true) ⊎ (n ≡ last)) where
  not_here : (from : ℕ) → from < last → test from ≡ false → n ≡ from → ⊥
  not_here from low fails here =
      elim passes_or_last [
        | inl passes ↦ let same : test n ≡ test from = ap test here in cc
        | inr all ↦ omega arith
      ]

  searched : (from count : ℕ) → from + count ≡ last → from ≤ n → ((fewer : ℕ) → fewer < n → test fewer ≡ false)
      → n ≡ unwrap_or (find test (range_with_len from count)) last
  searched from zero ends low fails = omega arith
  searched from (suc count) ends low fails =
      elim (test from) as (λ b. test from ≡ b
      → n ≡ unwrap_or (cond b (Some from) (find test (range_with_len (from + 1) count))) last) [
        | true ↦ λ passes.
            elim (cases_lt from n) [
              | inl later ↦ let none = fails from later in let bad : ⊥ = cc in absurd bad
              | inr here ↦ omega arith
            ]
        | false ↦ λ none.
            let later : n ≡ from → ⊥ = not_here from (omega arith) none in
            searched (from + 1) count (omega arith) (omega arith) fails
      ] refl

-- a count with which a batch is not full
not_full : (batch : ℕ) (entries : List Entry) (n : ℕ) → IsSealedCount batch entries n → (fewer : ℕ) → fewer < n
    → is_some (fullness_of_first batch entries fewer) ≡ false
not_full batch entries n is fewer low = let none = is.fewest fewer low in grind (arith, nat_tests)

-- the count of a sealed object is the one that the plain volume seals
count_is : (batch : ℕ) (entries : List Entry) (n : ℕ) → IsSealedCount batch entries n → n ≡ sealed_count batch entries
count_is batch entries n is =
    searched (λ k. is_some (fullness_of_first batch entries k)) n (length entries) is.within is.full_or_all
    0 (length entries) (omega arith) (omega arith) (not_full batch entries n is)

-- ---- the frontier stays

pub below_entered : (objects : List OpenObject) (last : ℕ) (object : OpenObject) → object.number ≡ last + 1
    → below_lowest (objects ++ object ∷ []) object.number ≡ below_lowest objects last
below_entered [] last object is = omega arith
below_entered (first ∷ objects) last object is = refl

-- ---- the seal

-- the plain volume with a data object more, which a seal leaves
abbrev pub with_sealed : PlainState → PlainState
with_sealed plain = record plain {
  objects = plain.objects ++ record { content = Data; end = end_of_next plain } ∷ [];
  window = entered (plain.window.last + 1) false plain.window;
}

-- it leaves the frontier's end, and the image up to there
pub sealed_end : (plain : PlainState) → IsPlainVolume plain → frontier_end (with_sealed plain) ≡ frontier_end plain
sealed_end plain valid =
    let object : StreamObject = record { content = Data; end = end_of_next plain } in
    let opened : OpenObject = record {
      number = plain.window.last + 1;
      is_checkpoint = false;
      is_started =
          false;
      was_started = false;
    } in
    let objects = plain.objects ++ object ∷ [] in
    let count = frontier_of plain - plain.number in
    let below : frontier_of (with_sealed plain) ≡ frontier_of plain =
    below_entered plain.window.objects plain.window.last opened refl in
    let within : count ≤ length plain.objects = omega (arith, frontier_is_sealed plain valid) in
    ap (λ n. end_after plain.end (take (n - plain.number) objects)) below
    ∙ ap (end_after plain.end) (take-append-le count plain.objects (object ∷ []) within)

image_same : (plain : PlainState) → IsPlainVolume plain → settled_image (with_sealed plain) ≡ settled_image plain
image_same plain valid = ap (λ end. after plain.opening (take (end - plain.end) plain.entries)) (sealed_end plain valid)

module _ (data_at : ℕ → ℕ) (old new : ObjLogState) (plain : PlainState) (uploads : IsUploads old.uploads)
    (valid : IsPlainVolume plain) (shows : ShowsObjects data_at old plain) (sealed : HasSealedObject old new) where
  end_is : new.batch.first ≡ end_of_next plain
  end_is =
      let counted : sealed.count ≡ sealed_count plain.geometry.batch (unsealed_entries plain) =
      count_is old.batch.geometry.batch old.batch.entries sealed.count sealed.is_count
      ∙ (ap (λ (g : Geometry). sealed_count g.batch old.batch.entries) shows.geometry
      ∙ ap (sealed_count plain.geometry.batch) shows.stream.entries) in
      omega (arith, sealed.first, shows.stream.first, counted)

  sealed_shown : ShowsObjects data_at new (with_sealed plain)
  sealed_shown =
      let kept = sealing_keeps_image old new sealed in
      let stream = sealing_keeps_stream data_at (stream_in plain) old new uploads shows.stream sealed in
      record {
        geometry = sealed.geometry ∙ shows.geometry;
        ancestors = sealed.uploads.ancestors ∙ shows.ancestors;
        stream = subst (λ end. IsOfStream data_at (with_data_object end (stream_in plain)) new) end_is stream;
        window = sealed.uploads.window ∙ ap (λ (w : WindowState). entered (w.last + 1) false w) shows.window;
        image = subst (λ image. HasImage image new.uploads.queue) (sym (image_same plain valid))
            (kept.image (settled_image plain) shows.image);
        receipts = kept.receipts shows.receipts;
        copied = λ tells alike.
            subst (λ image. AreCopied tells image new.uploads.queue) (sym (image_same plain valid))
            (kept.copies tells (settled_image plain) (shows.copied tells
            (sealed_alike tells sealed.bytes _ _ old.uploads new.uploads sealed.uploads alike)));
      }

pub sealed_shows_seal : SealedShowsSeal
sealed_shows_seal data_at old new plain uploads valid shows sealed some free =
    let has : has_unsealed plain ≡ true = grind (arith, nat_tests, shows.stream.entries) in
    let busy : is_busy plain ≡ false = grind (arith, nat_tests, shows.window) in
    let seals : (has_unsealed plain && not (is_busy plain)) ≡ true = rw (has, busy) refl in
    let shown = sealed_shown data_at old new plain uploads valid shows sealed in
    let reply : PlainReply = Sealed (plain.window.last + 1) in (
      subst (ShowsObjects data_at new) (sym (ap (λ b. cond b (with_sealed plain) plain) seals)) shown,
      ap (λ b. cond b (cond (is_busy plain) Busy reply) Nothing) has
          ∙ (ap (λ b. cond b Busy reply) busy ∙ ap (λ (w : WindowState). Sealed (w.last + 1)) (sym shows.window)),
    )

pub refused_seal_shows_none : RefusedSealShowsNone
refused_seal_shows_none data_at objects plain shows =
    let reply : PlainReply = Sealed (plain.window.last + 1) in (
      λ none.
          let has : has_unsealed plain ≡ false = ap (λ (list : List Entry). not (length list == 0)) (sym shows.stream.entries
          ∙ none) in (
            ap (λ b. cond b (cond (is_busy plain) Busy reply) Nothing) has,
            ap (λ b. cond (b && not (is_busy plain)) (with_sealed plain) plain) has,
          ),
      λ some full.
          let has : has_unsealed plain ≡ true = grind (arith, nat_tests, shows.stream.entries) in
          let busy : is_busy plain ≡ true = grind (arith, nat_tests, shows.window) in (
            ap (λ b. cond b (cond (is_busy plain) Busy reply) Nothing) has ∙ ap (λ b. cond b Busy reply) busy,
            ap (λ b. cond (b && not (is_busy plain)) (with_sealed plain) plain) has
                ∙ ap (λ b. cond (not b) (with_sealed plain) plain) busy,
          ),
    )
