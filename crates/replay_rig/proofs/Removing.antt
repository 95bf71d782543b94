-- A removal of an object is made where it began, and the rig shows what that makes of the plain volume.
use Rattle.std.proofs.Common.{◌≡◌, ℕ, ◌+◌, Bool, true, false, cond, ◌||◌, nat_eq, List, [], ◌∷◌, ◌++◌, refl, sym, ◌∙◌, ap, subst}
use Rattle.std.proofs.Common.{inl, inr, arith, length}
use Rattle.std.specs.Prelude.{Option, Some, None, is_some, IsTrue}
use Rattle.std.proofs.Math.Bool.{or-false}
use Rattle.std.proofs.lemmas.Bool.{eq-eqb}
use Rattle.lsvd_device.specs.Calls.{Budget}
use Rattle.lsvd_device.specs.Memory.{HasRoom}
use Rattle.lsvd_names.specs.Names.{numbered_name}
use Rattle.lsvd_names.specs.declared.name.ObjName.{ObjName}
use Rattle.lsvd_objstore.specs.Memory.{Kept, told_receipt}
use Rattle.lsvd_objstore.specs.Objects.{Objects, found, IsRemoved}
use Rattle.obj_log.specs.Changes.{expected_of_volume}
use Rattle.object_format.specs.declared.expected.Expected.{Expected}
use Rattle.object_stream.specs.Replay.{object_name}
use Rattle.batcher.specs.declared.full.Full.TheVariants as full
use Rattle.plain_disk.specs.declared.event.PlainEvent.TheVariants as events
use Rattle.plain_disk.specs.declared.event.PlainReply.TheVariants as replies
use Rattle.plain_disk.specs.State.{PlainState}
use Rattle.plain_disk.specs.Removals.{has, to_remove, reply_of_removal, with_removal}
use Rattle.plain_disk.specs.Step.{plain_reply, plain_after}
use Rattle.plain_disk.specs.Found.{SealsCheckpoints}
use Rattle.plain_disk.proofs.CheckpointLemmas.{same_number}
use Rattle.plain_disk.proofs.MarkedLemmas.{events_seal}
use Rattle.refine_store.proofs.KeepLemmas.{copied_too}
use Rattle.refine_store.specs.Puts.{IsObjectOf}
use Rattle.transcript.specs.Answers.{removed_by}
use Rattle.vol_core.specs.declared.event.Event.TheVariants.{TakeRemove, RemoveDone}
use Rattle.vol_core.specs.declared.reply.EntryRefusal.{EntryRefusal}
use Rattle.vol_core.specs.declared.reply.EntryRefusal.TheVariants as refusals
use Rattle.vol_core.specs.declared.reply.SealRefusal.{SealRefusal}
use Rattle.vol_core.specs.declared.reply.SealRefusal.TheVariants as seal_refusals
use Rattle.vol_core.specs.declared.reply.Reply.{Reply}
use Rattle.vol_core.specs.declared.reply.Reply.TheVariants as told
use Rattle.vol_core.specs.Volume.{VolumeState, SteppedVolume}
use Rattle.vol_core.specs.Events.{Tells, TellsRefusal, TellsSealRefusal}
use Rattle.vol_core.specs.Step.{CountedStep}
use Rattle.replay_rig.specs.declared.answer.Answer.TheVariants as answers
use Rattle.replay_rig.specs.Answers.{SaysReply}
use Rattle.replay_rig.specs.Steps.{AnswersRemoval}
use Rattle.replay_rig.specs.Rig.{RigState, rig_of, script_uuid, expected_of_plain, HasBytesOfObject, IsKeptObject, HasStored}
use Rattle.replay_rig.specs.Rig.{ShowsPlain}
use Rattle.replay_rig.proofs.Describing.{removed_keeps_volume, removed_inherits, removed_leaves_none}
use Rattle.replay_rig.proofs.Rooms.{no_step_rig}
use Rattle.replay_rig.proofs.Stepped.{ShowsVolume, volume_shown, step_of_plain, all_puts, bytes_kept, on_its_way}

-- no step of a removal, and none of a copy, needs room on the device
pub no_room_asked : (budget : Option Budget) → IsTrue (is_some budget) → HasRoom 0 0 budget
no_room_asked None told = cc
no_room_asked (Some budget) told = (omega arith, omega arith)

-- ---- none may begin

not_refused : (why : EntryRefusal) (number : ℕ) → TellsRefusal why (replies.Removing number) → ⊥
not_refused refusals.Range number tells = cc
not_refused (refusals.Full (full.Sectors sectors)) number tells = cc
not_refused (refusals.Full (full.Entries count)) number tells = cc
not_refused (refusals.NoRoom lacking left) number tells = cc
not_refused refusals.Fault number tells = cc
not_refused refusals.OutOfMemory number tells = tells

not_unsealed : (why : SealRefusal) (number : ℕ) → TellsSealRefusal why (replies.Removing number) → ⊥
not_unsealed seal_refusals.NotPlanned number tells = cc
not_unsealed seal_refusals.Busy number tells = cc
not_unsealed seal_refusals.OutOfMemory number tells = tells

none_removing : (lowest : Option ℕ) (volume : VolumeState) (reply : Reply Kept)
    → ((receipt : Kept) → reply ≡ told.Removing receipt → ⊥)
    → Tells told_receipt volume reply (reply_of_removal None lowest) → lowest ≡ None
none_removing None volume reply not_removing tells = refl
none_removing (Some number) volume (told.Removing receipt) not_removing tells = absurd (not_removing receipt refl)
none_removing (Some number) volume (told.NotEntered entry why) not_removing tells = absurd (not_refused why number tells)
none_removing (Some number) volume (told.Planned plan) not_removing tells = (let same = tells.1 in cc)
none_removing (Some number) volume (told.Taken job) not_removing tells = (let same = tells.0 in cc)
none_removing (Some number) volume (told.Copying plan) not_removing tells = (let same = tells.1 in cc)
none_removing (Some number) volume (told.NotSealed copied why) not_removing tells = absurd (not_unsealed why number tells)
none_removing (Some number) volume told.OutOfMemory not_removing tells = absurd tells
none_removing (Some number) volume reply not_removing tells = cc

-- what the plain volume answers and is then, where no removal was out
reply_at_once : (plain : PlainState) (lowest : Option ℕ) → plain.removal ≡ None → to_remove plain ≡ lowest
    → plain_reply plain events.TakeRemove ≡ reply_of_removal None lowest
reply_at_once plain lowest none is = ap (λ out. reply_of_removal out (to_remove plain)) none ∙ ap (reply_of_removal None) is

after_at_once : (plain : PlainState) (lowest : Option ℕ) → plain.removal ≡ None → to_remove plain ≡ lowest
    → plain_after events.TakeRemove plain ≡ with_removal None lowest plain
after_at_once plain lowest none is =
    ap (λ out. with_removal out (to_remove plain) plain) none ∙ ap (λ number. with_removal None number plain) is

pub removed_none : (old : RigState) (volume : SteppedVolume) (reply : Reply Kept)
    → ((receipt : Kept) → reply ≡ told.Removing receipt → ⊥) → CountedStep told_receipt TakeRemove reply old.volume volume
    → AnswersRemoval answers.Nothing old (rig_of volume old.objects old.puts old.is_stopping (old.lines + 1))
removed_none old volume reply not_removing of = record {
  by = λ plain h.
      let rig : RigState = rig_of volume old.objects old.puts old.is_stopping (old.lines + 1) in
      let room = no_room_asked old.volume.volume.log.commits.disk.budget h.pending.told in
      let out = h.removes.none_out in
      elim (step_of_plain h.epoch TakeRemove reply plain old.volume volume (volume_shown old plain h) room of) [
        | inl s ↦
            let tells = subst (λ e. Tells told_receipt old.volume.volume reply (plain_reply plain e)) s.asks s.tells in
            let now = subst (λ e. ShowsVolume h.epoch volume.volume (plain_after e plain)) s.asks s.now in
            let none = none_removing (to_remove plain) old.volume.volume reply not_removing
            (subst (Tells told_receipt old.volume.volume reply) (reply_at_once plain (to_remove plain) out refl) tells) in
            let says = reply_at_once plain None out none in
            let same = after_at_once plain None out none in
            let shown =
            no_step_rig old volume plain TakeRemove reply h of (subst (ShowsVolume h.epoch volume.volume) same now) in (
              subst (λ r. SaysReply r answers.Nothing) (sym says) refl,
              subst (λ r. ShowsPlain rig (removed_by r (plain_after events.TakeRemove plain))) (sym says)
                  (subst (ShowsPlain rig) (sym same) shown),
            )
        | inr none ↦ (let e : false ≡ true = none.may in cc)
      ];
}

pub removed_none_shows : (old : RigState) (volume : SteppedVolume) (reply : Reply Kept) (plain : PlainState)
    → ((receipt : Kept) → reply ≡ told.Removing receipt → ⊥) → CountedStep told_receipt TakeRemove reply old.volume volume
    → ShowsPlain old plain
    → (now : PlainState) × ShowsPlain (rig_of volume old.objects old.puts old.is_stopping (old.lines + 1)) now
removed_none_shows old volume reply plain not_removing of h =
    (_, ((removed_none old volume reply not_removing of).by plain h).1)

-- ---- one that is made

some_removing : (lowest : Option ℕ) (n : ℕ) → reply_of_removal None lowest ≡ replies.Removing n → lowest ≡ Some n
some_removing None n is = cc
some_removing (Some number) n is = (let same : number ≡ n = cc in ap Some same)

-- one number more
has_more : (numbers : List ℕ) (n m : ℕ) → has (numbers ++ n ∷ []) m ≡ (has numbers m || nat_eq n m)
has_more [] n m = or-false (nat_eq n m)
has_more (first ∷ numbers) n m =
    let rest = has_more numbers n m in
    elim (nat_eq first m) as (λ b. (b || has (numbers ++ n ∷ []) m) ≡ ((b || has numbers m) || nat_eq n m)) [
      | true ↦ refl
      | false ↦ rest
    ]

neither : (a b : Bool) → (a || b) ≡ false → (a ≡ false) × (b ≡ false)
neither true b is = cc
neither false b is = (refl, is)

-- the plain volume with the object of a number removed, which was given out for it
abbrev gone : ℕ → PlainState → PlainState
gone n plain = record plain {
  given_out = plain.given_out ++ n ∷ [];
  removed = plain.removed ++ n ∷ [];
  removal = None;
}

object_gone : (volume : Expected) (n : ℕ) (plain : PlainState) (number : ℕ) (bytes : List ℕ)
    → IsObjectOf volume plain number bytes → IsObjectOf volume (gone n plain) number bytes
object_gone volume n plain number bytes (inl is) =
    inl (record { first = is.first; rows = is.rows; is_checkpoint = is.is_checkpoint; says = is.says; places = is.places })
object_gone volume n plain number bytes (inr is) =
    inr (record {
      past = is.past;
      object = is.object;
      there = is.there;
      rows = is.rows;
      holds = is.holds;
      copied = copied_too plain (gone n plain) number bytes is.rows refl refl is.copied;
    })

other_name : (number n : ℕ) → (number ≡ n → ⊥) → numbered_name script_uuid number ≡ numbered_name script_uuid n → ⊥
other_name number n other same = other (ap (λ (name : ObjName). name.number) same)

stored_gone : (n : ℕ) (plain : PlainState) (old new : Objects) → IsRemoved (numbered_name script_uuid n) old new
    → HasStored plain old → HasStored (gone n plain) new
stored_gone n plain old new removed stored = record {
  there = λ number is.
      let parts = neither (has plain.removed number) (nat_eq n number) (sym (has_more plain.removed n number) ∙ is.kept) in
      let other : number ≡ n → ⊥ = λ same. (let e : false ≡ true = sym parts.1 ∙ eq-eqb n number (sym same) in cc) in
      let had = stored.there number (record { some = is.some; acknowledged = is.acknowledged; kept = parts.0 }) in (
        had.0,
        removed.others (numbered_name script_uuid number) (other_name number n other) ∙ had.1,
        object_gone (expected_of_plain plain) n plain number had.0 had.2,
      );
  none_else = λ number not_.
      elim (nat_eq n number) as (λ b. nat_eq n number ≡ b → found new (numbered_name script_uuid number) ≡ None) [
        | true ↦ λ same. itself number same
        | false ↦ λ apart. stays number not_ apart
      ] refl;
}
  where
    itself : (number : ℕ) → nat_eq n number ≡ true → found new (numbered_name script_uuid number) ≡ None
    itself number same =
        ap (λ k. found new (numbered_name script_uuid k)) (sym (same_number n number same)) ∙ removed.absent

    stays : (number : ℕ) → (IsKeptObject (gone n plain) number → ⊥) → nat_eq n number ≡ false
        → found new (numbered_name script_uuid number) ≡ None
    stays number not_ apart =
        removed.others (numbered_name script_uuid number)
        (other_name number n (λ same. (let e : false ≡ true = sym apart ∙ eq-eqb n number (sym same) in cc)))
        ∙ stored.none_else number (λ is. not_ (record {
          some = is.some;
          acknowledged = is.acknowledged;
          kept =
              has_more plain.removed n number ∙ ap (λ b. b || nat_eq n number) is.kept ∙ apart;
        }))

-- the plain volume after both steps
taken_is : (n : ℕ) (plain : PlainState) → plain.removal ≡ None → to_remove plain ≡ Some n
    → plain_after (events.RemoveDone n) (plain_after events.TakeRemove plain) ≡ gone n plain
taken_is n plain none is =
    let taken : PlainState = with_removal None (Some n) plain in
    ap (plain_after (events.RemoveDone n)) (after_at_once plain (Some n) none is)
    ∙ ap (λ b. cond b (gone n plain) taken) (eq-eqb n n refl)

-- the name that the receipt has is that of the plain volume's object
name_is : (rig : RigState) (plain : PlainState) (n : ℕ) (name : ObjName) → ShowsPlain rig plain
    → name ≡ object_name (expected_of_volume rig.volume.volume.objects) n → name ≡ numbered_name script_uuid n
name_is rig plain n name h is = is ∙ ap (λ uuid. numbered_name uuid n) h.uuid_is

shows_gone : (n : ℕ) (old : RigState) (middle volume : SteppedVolume) (receipt : Kept) (reply : Reply Kept) (store : Objects)
    (plain : PlainState)
    → (h : ShowsPlain old plain) → CountedStep told_receipt TakeRemove (told.Removing receipt) old.volume middle
    → CountedStep told_receipt (RemoveDone n) reply middle volume
    → ShowsVolume h.epoch middle.volume (plain_after events.TakeRemove plain) → ShowsVolume h.epoch volume.volume (gone n plain)
    → to_remove plain ≡ Some n → IsRemoved (numbered_name script_uuid n) old.objects store
    → ShowsPlain (rig_of volume store old.puts old.is_stopping (old.lines + 1)) (gone n plain)
shows_gone n old middle volume receipt reply store plain h of back between now is removed =
    let taken : PlainState = with_removal None (Some n) plain in
    let halfway = subst (ShowsVolume h.epoch middle.volume) (after_at_once plain (Some n) h.removes.none_out is) between in
    let waits = on_its_way middle.volume taken old.puts halfway.shows h.puts in
    let bytes = bytes_kept old.volume.volume middle.volume old.puts of.step.bytes
    (on_its_way old.volume.volume plain old.puts h.shows h.puts) waits h.bytes in
    record {
      shows = now.shows;
      pending = now.pending;
      epoch = h.epoch;
      own = now.own;
      described = removed_keeps_volume n old.objects store plain.geometry plain.chain h.epoch removed h.described;
      inherits = removed_inherits n old.objects store plain removed h.inherits;
      begun = omega (arith, h.begun);
      uuid_is = now.uuid_is;
      opens = record {
        number = h.opens.number;
        end = h.opens.end;
        payloads = h.opens.payloads;
        inherited = h.opens.inherited;
        zeros = h.opens.zeros;
      };
      seals = subst SealsCheckpoints (taken_is n plain h.removes.none_out is)
          (events_seal (plain_after events.TakeRemove plain) (events.RemoveDone n) between.shows.valid
          (events_seal plain events.TakeRemove h.shows.valid h.seals));
      stopping = h.stopping;
      puts = h.puts;
      put_objects = all_puts (HasBytesOfObject plain) (HasBytesOfObject (gone n plain)) old.puts
          (λ put has. object_gone (expected_of_plain plain) n plain put.number put.bytes has) h.put_objects;
      bytes = bytes_kept middle.volume volume.volume old.puts back.step.bytes waits
          (on_its_way volume.volume (gone n plain) old.puts now.shows h.puts) bytes;
      stored = stored_gone n plain old.objects store removed h.stored;
      unheld = h.unheld;
      holds = removed_leaves_none n old.objects store plain.geometry (length plain.chain) removed h.holds;
      removes = record { none_out = refl; gone = ap (λ numbers. numbers ++ n ∷ []) h.removes.gone };
      young = record {
        entries = omega (arith, h.young.entries);
        objects = omega (arith, h.young.objects);
        commits = omega (arith, h.young.commits, of.step.numbers.commits, back.step.numbers.commits);
        steps = omega (arith, h.young.steps, of.count, back.count);
      };
    }

-- both steps
record IsGone (n : ℕ) (old : RigState) (rig : RigState) (plain : PlainState) : Type 0 where
  says : plain_reply plain events.TakeRemove ≡ replies.Removing n
  now : ShowsPlain rig (plain_after (events.RemoveDone n) (plain_after events.TakeRemove plain))

is_gone : (n : ℕ) (old : RigState) (middle volume : SteppedVolume) (receipt : Kept) (reply : Reply Kept) (store : Objects)
    (plain : PlainState)
    → ShowsPlain old plain → n ≡ receipt.name.number → IsRemoved receipt.name old.objects store
    → CountedStep told_receipt TakeRemove (told.Removing receipt) old.volume middle
    → CountedStep told_receipt (RemoveDone n) reply middle volume
    → IsGone n old (rig_of volume store old.puts old.is_stopping (old.lines + 1)) plain
is_gone n old middle volume receipt reply store plain h number removed of back =
    let room = no_room_asked old.volume.volume.log.commits.disk.budget h.pending.told in
    let out = h.removes.none_out in
    elim (step_of_plain h.epoch TakeRemove (told.Removing receipt) plain old.volume middle (volume_shown old plain h) room of) [
      | inl s ↦
          let tells = subst (λ e. Tells told_receipt old.volume.volume (told.Removing receipt) (plain_reply plain e))
          s.asks s.tells in
          let between = subst (λ e. ShowsVolume h.epoch middle.volume (plain_after e plain)) s.asks s.now in
          let says : plain_reply plain events.TakeRemove ≡ replies.Removing n =
          tells.0 ∙ ap replies.Removing (sym number) in
          let lowest = some_removing (to_remove plain) n (sym (reply_at_once plain (to_remove plain) out refl) ∙ says) in
          let named : receipt.name ≡ numbered_name script_uuid n =
          name_is old plain n receipt.name h
          (tells.1 ∙ ap (object_name (expected_of_volume old.volume.volume.objects)) (sym number)) in
          let gone_now : IsRemoved (numbered_name script_uuid n) old.objects store =
          subst (λ name. IsRemoved name old.objects store) named removed in
          let taken : PlainState = plain_after events.TakeRemove plain in
          let room_too = no_room_asked middle.volume.log.commits.disk.budget between.pending.told in
          elim (step_of_plain h.epoch (RemoveDone n) reply taken middle volume between room_too back) [
            | inl t ↦
                let after = subst (λ e. ShowsVolume h.epoch volume.volume (plain_after e taken)) t.asks t.now in
                let same = taken_is n plain out lowest in
                let shown = shows_gone n old middle volume receipt reply store plain h of back between
                (subst (ShowsVolume h.epoch volume.volume) same after) lowest gone_now in
                record {
                  says = says;
                  now = subst (ShowsPlain (rig_of volume store old.puts old.is_stopping (old.lines + 1))) (sym same) shown;
                }
            | inr none ↦ (let e : false ≡ true = none.may in cc)
          ]
      | inr none ↦ (let e : false ≡ true = none.may in cc)
    ]

pub removed_shows : (n : ℕ) (old : RigState) (middle volume : SteppedVolume) (receipt : Kept) (reply : Reply Kept)
    (store : Objects) (plain : PlainState)
    → ShowsPlain old plain → n ≡ receipt.name.number → IsRemoved receipt.name old.objects store
    → CountedStep told_receipt TakeRemove (told.Removing receipt) old.volume middle
    → CountedStep told_receipt (RemoveDone n) reply middle volume
    → (now : PlainState) × ShowsPlain (rig_of volume store old.puts old.is_stopping (old.lines + 1)) now
removed_shows n old middle volume receipt reply store plain h number removed of back =
    (_, (is_gone n old middle volume receipt reply store plain h number removed of back).now)

pub removed_some : (n : ℕ) (old : RigState) (middle volume : SteppedVolume) (receipt : Kept) (reply : Reply Kept)
    (store : Objects)
    → n ≡ receipt.name.number → IsRemoved receipt.name old.objects store
    → CountedStep told_receipt TakeRemove (told.Removing receipt) old.volume middle
    → CountedStep told_receipt (RemoveDone n) reply middle volume
    → AnswersRemoval (answers.Gone n) old (rig_of volume store old.puts old.is_stopping (old.lines + 1))
removed_some n old middle volume receipt reply store number removed of back = record {
  by = λ plain h.
      let rig : RigState = rig_of volume store old.puts old.is_stopping (old.lines + 1) in
      let is = is_gone n old middle volume receipt reply store plain h number removed of back in (
        subst (λ r. SaysReply r (answers.Gone n)) (sym is.says) refl,
        subst (λ r. ShowsPlain rig (removed_by r (plain_after events.TakeRemove plain))) (sym is.says) is.now,
      );
}
