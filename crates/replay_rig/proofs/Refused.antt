-- A write out of range is refused as the plain volume refuses it.
use Rattle.std.proofs.Common.{◌≡◌, ℕ, ◌+◌, ◌*◌, ◌/◌, Bool, false, cond, not, ◌&&◌, List, [], ◌∷◌, ◌++◌, length, replicate}
use Rattle.std.proofs.Common.{refl, sym, ◌∙◌, ap, subst, arith}
use Rattle.std.specs.Prelude.{Option, Some, is_some, option_map, unwrap_or, if◌then◌else◌}
use Rattle.std.specs.List.{sum_by}
use Rattle.std.proofs.lemmas.List.{length-replicate}
use Rattle.lsvd_base.specs.declared.entry.Entry.{Entry}
use Rattle.lsvd_base.specs.declared.entry.Entry.TheVariants as entries
use Rattle.lsvd_base.specs.declared.geometry.Geometry.{Geometry}
use Rattle.lsvd_base.specs.Limits.{may_transfer}
use Rattle.lsvd_base.specs.Range.{is_in_range}
use Rattle.batcher.specs.Batch.{data_sectors, fullness}
use Rattle.plain_disk.specs.declared.event.PlainEvent.TheVariants as events
use Rattle.plain_disk.specs.declared.event.PlainReply.{PlainReply}
use Rattle.plain_disk.specs.declared.event.PlainReply.TheVariants as replies
use Rattle.plain_disk.specs.Cache.{passes_entry, cache_after_entry}
use Rattle.plain_disk.specs.Entries.{reply_of_full, batch_refusal, has_room_for, cache_for, commits_are_made, room_reply}
use Rattle.plain_disk.specs.Entries.{enter_reply, after_entering}
use Rattle.plain_disk.specs.State.{PlainState, unsealed_entries}
use Rattle.replay_rig.specs.declared.answer.Answer.TheVariants as answers
use Rattle.replay_rig.specs.Answers.{SaysReply}
use Rattle.replay_rig.specs.Steps.{AnswersEvent}
use Rattle.replay_rig.specs.Rig.{RigState, rig_of, ShowsPlain}
use Rattle.replay_rig.proofs.Rooms.{later_rig}

-- what is left of an entry, by why the batch refuses it
abbrev left_by_refusal : PlainState → Entry → Option PlainReply → PlainState
left_by_refusal plain entry refusal = record plain {
  cache =
      if is_some refusal then plain.cache else
      (if not (is_some refusal) && commits_are_made plain entry && has_room_for (cache_for plain entry) entry
      then cache_after_entry entry (cache_for plain entry) else cache_for plain entry);
  entries =
      if (not (is_some refusal) && commits_are_made plain entry && has_room_for (cache_for plain entry) entry)
      && passes_entry (cache_for plain entry) entry then plain.entries ++ entry ∷ [] else plain.entries;
}

range_refuses : (plain : PlainState) (entry : Entry) → is_in_range plain.geometry entry ≡ false
    → (enter_reply plain entry ≡ replies.Range) × (after_entering entry plain ≡ plain)
range_refuses plain entry out =
    let unsealed : List Entry = unsealed_entries plain in
    let full = option_map reply_of_full (fullness plain.geometry.batch (sum_by data_sectors unsealed) (length unsealed)) in
    let refused : batch_refusal plain entry ≡ Some replies.Range = ap (λ (b : Bool). cond b full (Some replies.Range)) out in
    (ap (λ r. unwrap_or r (room_reply plain (cache_for plain entry) entry)) refused, ap (left_by_refusal plain entry) refused)

-- so many sectors of one byte
sectors_of : (sectors byte : ℕ) → length (replicate (512 * sectors) byte) / 512 ≡ sectors
sectors_of sectors byte = (let e = length-replicate (512 * sectors) byte in omega (arith, e))

pub write_range : (old : RigState) (lba sectors byte : ℕ) (geometry : Geometry)
    → geometry ≡ old.volume.volume.objects.batch.geometry
    → may_transfer geometry lba sectors ≡ false
    → AnswersEvent (events.Write lba (replicate (512 * sectors) byte)) answers.Range old
    (rig_of old.volume old.objects old.puts old.is_stopping (old.lines + 1))
write_range old lba sectors byte geometry is out = record {
  by = λ plain h.
      let body : List ℕ = replicate (512 * sectors) byte in
      let entry : Entry = entries.Write lba body in
      let far : is_in_range plain.geometry entry ≡ false =
      ap (may_transfer plain.geometry lba) (sectors_of sectors byte)
      ∙ ap (λ (g : Geometry). may_transfer g lba sectors) (sym (is ∙ h.shows.objects.geometry)) ∙ out in
      let both = range_refuses plain entry far in
      let rig : RigState = rig_of old.volume old.objects old.puts old.is_stopping (old.lines + 1) in (
        subst (λ r. SaysReply r answers.Range) (sym both.0) refl,
        subst (ShowsPlain rig) (sym both.1) (later_rig old (old.lines + 1) plain (omega arith) h),
      );
}
