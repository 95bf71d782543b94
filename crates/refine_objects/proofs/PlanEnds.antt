-- What was copied by a plan is sealed, or the plan is given up: so it is of the plain volume.
use Rattle.std.proofs.Common.{◌≡◌, ℕ, ◌+◌, ◌-◌, ◌*◌, ◌≤◌, ◌&&◌, not, cond, Bool}
use Rattle.std.proofs.Common.{true, false, Option, Some, None, List, [], ◌∷◌, ◌++◌}
use Rattle.std.proofs.Common.{length, take, drop, refl, sym, ◌∙◌, ap, subst, arith}
use Rattle.std.specs.Prelude.{is_some, IfSome}
use Rattle.std.specs.List.{All}
use Rattle.std.proofs.lemmas.Bool.Decides.{nat_tests}
use Rattle.std.proofs.lemmas.List.{take-append-le}
use Rattle.lsvd_base.specs.declared.geometry.Geometry.{Geometry}
use Rattle.lsvd_base.specs.Image.{after}
use Rattle.gc_copier.specs.Plan.{PlanState, numbers_of}
use Rattle.gc_copier.specs.Copying.{CopiedState, IsCopyOf}
use Rattle.object_stream.specs.declared.object.CopiedSector.{CopiedSector}
use Rattle.object_stream.specs.declared.object.Content.TheVariants.{Copy}
use Rattle.object_stream.specs.declared.object.StreamObject.{StreamObject}
use Rattle.object_stream.specs.Replay.{source_at}
use Rattle.object_stream.specs.Stream.{end_after, end_at, last_number, source_in}
use Rattle.object_stream.specs.Value.{copied_in}
use Rattle.upload_window.specs.declared.object.OpenObject.{OpenObject}
use Rattle.upload_window.specs.Window.{WindowState, entered}
use Rattle.volume_maps.proofs.RowsLemmas.{is_in}
use Rattle.object_uploads.specs.declared.rows.SealedRows.TheVariants as sealed_rows
use Rattle.object_uploads.specs.State.{SealedState, QueueState}
use Rattle.object_uploads.specs.Queue.{copy_front_of, end_of_last, just_sealed}
use Rattle.object_uploads.specs.Order.{IsUploads}
use Rattle.object_uploads.specs.Image.{HasImage, IsReceiptFor, TellAlike, IsCopied, AreCopied}
use Rattle.object_uploads.proofs.CopyImage.{all_more}
use Rattle.object_uploads.proofs.SettleImage.{copy_front_is}
use Rattle.batcher.specs.State.{BatchState}
use Rattle.obj_log.specs.State.{ObjLogState}
use Rattle.obj_log.specs.Changes.{next_of, HasSealedCopy}
use Rattle.obj_log.proofs.StreamLemmas.{sealing_copy_keeps_stream}
use Rattle.obj_log.proofs.ImageLemmas.{sealing_copy_keeps_image}
use Rattle.plain_disk.specs.declared.event.PlainReply.{PlainReply}
use Rattle.plain_disk.specs.declared.event.PlainReply.TheVariants.{Sealed, Dropped, Nothing, Busy}
use Rattle.plain_disk.specs.State.{PlainState, stream_in, frontier_of, frontier_end}
use Rattle.plain_disk.specs.Objects.{is_busy}
use Rattle.plain_disk.specs.Collection.{with_copy, after_sealed_copy, after_seal_copy}
use Rattle.plain_disk.specs.Removals.{copies_from}
use Rattle.plain_disk.specs.Valid.{IsPlainVolume}
use Rattle.plain_disk.proofs.EndLemmas.{frontier_is_sealed}
use Rattle.refine_objects.specs.Shows.{settled_image, ShowsObjects}
use Rattle.refine_objects.specs.TableLaws.{ShowsBoth}
use Rattle.refine_objects.specs.Plan.{IsPlanOf}
use Rattle.refine_objects.specs.PlanLaws.{SealedCopyShowsSeal, RefusedSealCopyShowsNone, EndedShowsDropped}
use Rattle.refine_objects.proofs.AlikeLemmas.{sealed_alike}
use Rattle.refine_objects.proofs.CopiedSectors.{live_sectors_copied}
use Rattle.refine_objects.proofs.MarkShown.{contained_in, in_contained}
use Rattle.refine_objects.proofs.PayloadsOf.{payload_with_object}
use Rattle.refine_objects.proofs.PlanKept.{source_within}
use Rattle.refine_objects.proofs.PlanMade.{marked_both, pass_alike}
use Rattle.refine_objects.proofs.SealLemmas.{below_entered}
use Rattle.refine_objects.proofs.TableLemmas.{same_table, row_is_sealed}

-- ---- no object is marked any more

-- the objects of a plan are just those that it takes sectors from
named_alike : (geometry : Geometry) (queue : QueueState) (pairs : List CopiedSector) (plan : PlanState)
    → IsPlanOf geometry queue pairs plan → (n : ℕ) → is_in (numbers_of plan.sources) n ≡ copies_from (Some pairs) n
named_alike geometry queue pairs plan is n =
    let numbers = numbers_of plan.sources in
    pass_alike (is_in numbers n) (copies_from (Some pairs) n)
    (λ among. (is.named n).0 (in_contained numbers n among))
    (λ taken. contained_in numbers n ((is.named n).1 taken))

no_mark : (test : Bool) → cond test false test ≡ false
no_mark true = refl
no_mark false = refl

-- so without these marks none is
unmarked : (geometry : Geometry) (queue : QueueState) (pairs : List CopiedSector) (plan : PlanState)
    (out : Option (List CopiedSector))
    → IsPlanOf geometry queue pairs plan → out ≡ Some pairs
    → (n : ℕ) → cond (is_in (numbers_of plan.sources) n) false (copies_from out n) ≡ copies_from None n
unmarked geometry queue pairs plan out is out_is n =
    let numbers = numbers_of plan.sources in
    ap (λ p. cond (is_in numbers n) false (copies_from p n)) out_is
    ∙ (ap (cond (is_in numbers n) false) (sym (named_alike geometry queue pairs plan is n)) ∙ no_mark (is_in numbers n))

-- ---- a plan is given up

pub ended_shows_dropped : EndedShowsDropped
ended_shows_dropped data_at old new plain plan is shows (pairs, out, made) uploads batch = (
  marked_both data_at false (numbers_of plan.sources) old new plain None is shows
      (unmarked plain.geometry old.uploads.queue pairs plan plain.plan made out) tt uploads batch,
  ap (λ p. cond (is_some p) Dropped Nothing) out,
)

-- ---- what was copied is sealed

-- the plain volume with a copy more, whose plan is out still
abbrev with_copy_of : List CopiedSector → PlainState → PlainState
with_copy_of pairs plain = record plain {
  objects =
      plain.objects
      ++ record { content = Copy pairs; end = end_at (stream_in plain) (last_number (stream_in plain)) } ∷ [];
  window = entered (plain.window.last + 1) false plain.window;
}

-- it leaves the frontier's end, and the image up to there
pub copy_end : (pairs : List CopiedSector) (plain : PlainState) → IsPlainVolume plain
    → frontier_end (with_copy_of pairs plain) ≡ frontier_end plain
copy_end pairs plain valid =
    let object : StreamObject = record { content = Copy pairs; end = end_at (stream_in plain) (last_number (stream_in plain)) } in
    let opened : OpenObject = record {
      number = plain.window.last + 1;
      is_checkpoint = false;
      is_started = false;
      was_started = false;
    } in
    let objects = plain.objects ++ object ∷ [] in
    let count = frontier_of plain - plain.number in
    let below : frontier_of (with_copy_of pairs plain) ≡ frontier_of plain =
    below_entered plain.window.objects plain.window.last opened refl in
    let within : count ≤ length plain.objects = omega (arith, frontier_is_sealed plain valid) in
    ap (λ n. end_after plain.end (take (n - plain.number) objects)) below
    ∙ ap (end_after plain.end) (take-append-le count plain.objects (object ∷ []) within)

image_same : (pairs : List CopiedSector) (plain : PlainState) → IsPlainVolume plain
    → settled_image (with_copy_of pairs plain) ≡ settled_image plain
image_same pairs plain valid =
    ap (λ end. after plain.opening (take (end - plain.end) plain.entries)) (copy_end pairs plain valid)

module _ (data_at : ℕ → ℕ) (old sealed : ObjLogState) (plain : PlainState) (plan : PlanState) (copied : CopiedState)
    (is : IsUploads old.uploads) (valid : IsPlainVolume plain) (shows : ShowsBoth data_at old plain)
    (pairs : List CopiedSector) (out : plain.plan ≡ Some pairs)
    (made : IsPlanOf plain.geometry old.uploads.queue pairs plan) (copy : IsCopyOf plan copied)
    (has : HasSealedCopy copied old sealed) where
  abbrev queue : QueueState
  queue = old.uploads.queue

  rows_are : has.rows.items ≡ plan.rows
  rows_are = has.rows_are ∙ copy.rows

  takes : (k : ℕ) → source_at copied.rows k ≡ source_in pairs k
  takes k = ap (λ rows. source_at rows k) copy.rows ∙ made.takes k

  reached : All (λ (pair : CopiedSector). pair.source ≤ queue.frontier) pairs
  reached = subst (λ p. IfSome p (All (λ (pair : CopiedSector). pair.source ≤ queue.frontier))) out shows.table.reached

  -- the payload that was copied stands after the front of the object's rows
  payload_is : copied.payload ≡ drop (512 * copy_front_of has.rows.items) has.bytes
  payload_is =
      let front = copy_front_is _ _ has.rows.items (next_of old).sectors refl has.parts.is_object.rows_are in
      has.parts.payload_is ∙ ap (λ n. drop (512 * n) has.bytes) front

  is_copied : (tells : Bool) → TellAlike tells queue
      → IsCopied tells (settled_image plain) queue.frontier queue.maps has.bytes has.rows.items
  is_copied tells alike = record {
    sources = λ k n at.
        source_within queue.frontier k n pairs reached
        (sym (made.takes k) ∙ (ap (λ rows. source_at rows k) (sym rows_are) ∙ at));
    sectors = λ told k n sector at live held.
        (let all = subst (λ t. TellAlike t queue) told alike in
        let own = live_sectors_copied plain.geometry queue pairs plan copied (settled_image plain) made copy
        shows.objects.image all.known k n sector (ap (λ rows. source_at rows k) (sym rows_are) ∙ at) live held in
        ap (λ rows. copied_in rows (drop (512 * copy_front_of has.rows.items) has.bytes) k) rows_are
        ∙ (ap (λ p. copied_in plan.rows p k) (sym payload_is) ∙ own));
  }

  -- a receipt is for its object's own bytes
  abbrev IsOwn : SealedState → Type 0
  IsOwn object = IfSome object.receipt (IsReceiptFor object.bytes)

  objects_shown : ShowsObjects data_at sealed (with_copy_of pairs plain)
  objects_shown =
      let was = shows.objects in
      let settled = has.uploads.settled in
      let end = end_of_last queue.end queue.sealed in
      let object = just_sealed has.bytes (sealed_rows.Copy has.rows) end in
      record {
        geometry = ap (λ (b : BatchState). b.geometry) has.batch ∙ was.geometry;
        ancestors = has.uploads.ancestors ∙ was.ancestors;
        stream =
            sealing_copy_keeps_stream data_at (stream_in plain) old sealed pairs has.bytes has.rows is was.stream
            (has.holds pairs takes) has.uploads has.batch;
        window = has.uploads.window ∙ ap (λ (w : WindowState). entered (w.last + 1) false w) was.window;
        image = subst (λ image. HasImage image sealed.uploads.queue) (sym (image_same pairs plain valid))
            (λ k sector at. rw (settled.places.settled, settled.places.objects, settled.receipts, settled.inherited)
            (was.image k sector at));
        receipts = rw has.uploads.sealed (all_more IsOwn queue.sealed object tt was.receipts);
        copied = λ tells alike.
            (let before = sealed_alike tells has.bytes (sealed_rows.Copy has.rows) end old.uploads sealed.uploads has.uploads
            alike in
            subst (λ image. AreCopied tells image sealed.uploads.queue) (sym (image_same pairs plain valid))
            (sealing_copy_keeps_image has.bytes has.rows end old sealed tells (settled_image plain) has.uploads
            (is_copied tells before) was.image was.receipts (was.copied tells before)).2);
      }

  both_shown : ShowsBoth data_at sealed (with_copy_of pairs plain)
  both_shown =
      let settled = has.uploads.settled in
      record {
        objects = objects_shown;
        table =
            same_table queue sealed.uploads.queue plain (with_copy_of pairs plain)
            (record {
              frontier = settled.frontier;
              rows = settled.places.objects;
              checkpoint = settled.places.checkpoint;
              removal = settled.removal;
            })
            (record {
              checkpoint = refl;
              removal = refl;
              removed = refl;
              pins = refl;
              plan = refl;
              held = refl;
              payloads = λ number row at.
                  payload_with_object plain
                  (record { content = Copy pairs; end = end_at (stream_in plain) (last_number (stream_in plain)) }) number valid
                  (row_is_sealed data_at old plain is valid shows.objects number row at);
            }) shows.table;
      }

pub sealed_copy_shows_seal : SealedCopyShowsSeal
sealed_copy_shows_seal data_at old sealed new plain plan copied is now valid shows (pairs, out, made) copy has free uploads
    batch =
    let window = shows.objects.window in
    let busy : is_busy plain ≡ false = grind (arith, nat_tests, window) in
    let shown = both_shown data_at old sealed plain plan copied is valid shows pairs out made copy has in
    let both = marked_both data_at false (numbers_of plan.sources) sealed new (with_copy_of pairs plain) None now shown
    (unmarked plain.geometry old.uploads.queue pairs plan plain.plan made out) tt uploads batch in
    let reply : PlainReply = Sealed (plain.window.last + 1) in
    let after_is : after_seal_copy true plain ≡ with_copy pairs plain =
    ap (λ b. after_sealed_copy (true && not b) plain.plan plain) busy ∙ ap (λ o. after_sealed_copy true o plain) out in (
      subst (ShowsBoth data_at new) (sym after_is) both,
      ap (λ o. cond (is_some o && true) (cond (is_busy plain) Busy reply) Nothing) out
          ∙ (ap (λ b. cond b Busy reply) busy ∙ ap (λ (w : WindowState). Sealed (w.last + 1)) (sym window)),
      ap (λ (p : PlainState). p.plan) after_is,
    )

-- where nothing is sealed, the volume stays
none_sealed : (out : Option (List CopiedSector)) (plain : PlainState) → after_sealed_copy false out plain ≡ plain
none_sealed None plain = refl
none_sealed (Some pairs) plain = refl

pub refused_seal_copy_shows_none : RefusedSealCopyShowsNone
refused_seal_copy_shows_none data_at list plain plan shows (pairs, out, made) full =
    let window = shows.window in
    let busy : is_busy plain ≡ true = grind (arith, nat_tests, window, full) in
    let reply : PlainReply = Sealed (plain.window.last + 1) in (
      ap (λ o. cond (is_some o && true) (cond (is_busy plain) Busy reply) Nothing) out ∙ ap (λ b. cond b Busy reply) busy,
      ap (λ b. after_sealed_copy (true && not b) plain.plan plain) busy ∙ none_sealed plain.plan plain,
    )
