-- That no object is a victim, once all are acknowledged: what events leave of that, and that the plain volumes that a volume
-- shows agree on it.
use Rattle.std.proofs.Common.{arith, ◌≡◌, ℕ, zero, suc, ◌+◌, ◌-◌, ◌*◌, ◌==◌, ◌≤◌, ◌⊎◌, inl, inr, Bool, true, false, not, ◌&&◌}
use Rattle.std.proofs.Common.{◌||◌, cond, nat_lt, List, [], ◌∷◌, ◌++◌, length, map, take, drop, length-append, append-nil}
use Rattle.std.proofs.Common.{append_assoc}
use Rattle.std.proofs.Common.{add-zero, add-one, refl, sym, ◌∙◌, ap, subst}
use Rattle.std.specs.Prelude.{Option, Some, None, is_some, slice_index_or, if◌then◌else◌}
use Rattle.std.specs.List.{filter, flat_map, range_with_len}
use Rattle.std.specs.List.Sorted.{IsPermutation}
use Rattle.std.proofs.lemmas.Bool.Decides.{nat_tests}
use Rattle.std.proofs.lemmas.List.{take_all, get_or_past, length-take}
use Rattle.std.proofs.lemmas.List.Elements.{filter-append}
use Rattle.std.proofs.lemmas.List.Sorted.{IsPermutation-refl}
use Rattle.std.proofs.Math.Seq.{take-nil}
use mathlib.Core.Path.{fun_ext}
use Rattle.lsvd_base.specs.declared.entry.Entry.{Entry}
use Rattle.lsvd_base.specs.declared.geometry.Geometry.{Geometry}
use Rattle.lsvd_base.specs.Limits.{is_within_limits}
use Rattle.lsvd_device.specs.Calls.{Fuse}
use Rattle.lsvd_objstore.specs.Store.{ReceiptState}
use Rattle.gc_copier.specs.Plan.{PlanState}
use Rattle.gc_policy.specs.Victims.{AreVictims}
use Rattle.object_stream.specs.declared.object.Content.TheVariants.{Data, Copy, Checkpoint}
use Rattle.object_stream.specs.declared.object.CopiedSector.{CopiedSector}
use Rattle.object_stream.specs.declared.object.StreamObject.{StreamObject}
use Rattle.object_stream.specs.Planned.{copied_from, planned}
use Rattle.object_stream.specs.Stream.{Owners, is_own, owners, after_objects, end_after, end_at, last_number}
use Rattle.object_stream.proofs.StreamLemmas.{end_in_parts}
use Rattle.object_table.specs.declared.row.ObjectRow.{ObjectRow}
use Rattle.object_table.specs.Table.{numbers, is_candidate, candidates}
use Rattle.object_uploads.specs.Order.{IsUploads}
use Rattle.object_uploads.specs.State.{QueueState}
use Rattle.upload_window.specs.declared.object.OpenObject.{OpenObject}
use Rattle.upload_window.specs.Window.{WindowState, lowest_ready, is_started, entered, marked, acknowledged}
use Rattle.plain_disk.specs.declared.event.PlainEvent.{PlainEvent}
use Rattle.plain_disk.specs.declared.event.PlainEvent.TheVariants as events
use Rattle.plain_disk.specs.State.{PlainState, stream_in, unsealed_entries, payload_of, payloads_after, payloads_in}
use Rattle.plain_disk.specs.Objects.{is_busy, has_unsealed, end_of_next, window_after_done, window_after_failed, after_seal}
use Rattle.plain_disk.specs.Removals.{has, to_remove, with_removal, is_out}
use Rattle.plain_disk.specs.Collection.{live_sectors, in_order, victims, planned_copy, reply_of_plan, with_copy}
use Rattle.plain_disk.specs.Step.{is_refusal, plain_after}
use Rattle.plain_disk.specs.Valid.{IsPlainVolume}
use Rattle.plain_disk.proofs.FoldLemmas.{payloads_in_parts, length-payloads}
use Rattle.refine_log.specs.Fuses.{fuse_in}
use Rattle.refine_objects.specs.Plan.{ShowsPlan}
use Rattle.refine_objects.specs.TableLaws.{ShowsBoth}
use Rattle.refine_objects.proofs.PlanMade.{rows_are}
use Rattle.refine_objects.proofs.PlanVictims.{victims_show_plan}
use Rattle.refine_objects.proofs.VictimsShown.{planned_is}
use Rattle.vol_core.specs.declared.event.Event.{Event}
use Rattle.vol_core.specs.declared.event.Event.TheVariants as asks
use Rattle.vol_core.specs.declared.reply.Reply.{Reply}
use Rattle.vol_core.specs.Volume.{VolumeState, SteppedVolume}
use Rattle.vol_core.specs.Shows.{Shows}
use Rattle.vol_core.specs.Events.{Asks}
use Rattle.vol_core.specs.Step.{passing, IsStep, IsNoStep, CountedStep}
use Rattle.vol_core.proofs.StepLemmas.{passing_keeps}
use Rattle.volume_owner.specs.Collecting.{may_collect, ShowsAfter, HasNoVictim, with_all_put, NeedsNoCopy}
use Rattle.volume_owner.specs.Helping.{work_of}
use Rattle.volume_owner.proofs.PutLemmas.{with_checkpoint, last_taken}
use Rattle.volume_owner.proofs.StepLemmas.{shown_work}

-- ---- what is planned, by what it depends on

abbrev victim_test : (live : ℕ → List ℕ) (payload : ℕ → ℕ) (held : List ℕ) (number : ℕ) → Bool
victim_test live payload held number =
    nat_lt 0 (length (live number)) && nat_lt (length (live number) * 100) (70 * payload number) && not (has held number)

abbrev before_test : (live : ℕ → List ℕ) (payload : ℕ → ℕ) (number other : ℕ) → Bool
before_test live payload number other =
    let mine : ℕ = length (live number) * payload other in
    let its : ℕ = length (live other) * payload number in
    nat_lt mine its || (mine == its && nat_lt number other)

abbrev plan_by : (most : ℕ) (live : ℕ → List ℕ) (payload : ℕ → ℕ) (held : List ℕ) (frontier : ℕ) → List CopiedSector
plan_by most live payload held frontier =
    planned most live (in_order (before_test live payload) (filter (victim_test live payload held) (range_with_len 1 frontier)))

-- ---- one object more, without payload

range_more : (a n : ℕ) → range_with_len a (suc n) ≡ range_with_len a n ++ (a + n) ∷ []
range_more a zero = ap (λ (k : ℕ). k ∷ []) (sym (add-zero a))
range_more a (suc n) =
    let same : (a + 1) + n ≡ a + suc n = omega arith in
    ap (λ (ks : List ℕ). a ∷ ks) (range_more (a + 1) n ∙ ap (λ (k : ℕ). range_with_len (a + 1) n ++ k ∷ []) same)

filter_more : (test : ℕ → Bool) (a n : ℕ) → test (a + n) ≡ false
    → filter test (range_with_len a (n + 1)) ≡ filter test (range_with_len a n)
filter_more test a n fails =
    ap (λ k. filter test (range_with_len a k)) (add-one n) ∙ ap (filter test) (range_more a n)
    ∙ filter-append test (range_with_len a n) ((a + n) ∷ [])
    ∙ ap (λ b. filter test (range_with_len a n) ++ cond b ((a + n) ∷ []) []) fails
    ∙ append-nil (filter test (range_with_len a n))

never_by : (some kept : Bool) → (some && false && kept) ≡ false
never_by true kept = refl
never_by false kept = refl

-- an object without payload is no victim
no_payload : (live : ℕ → List ℕ) (payload : ℕ → ℕ) (held : List ℕ) (number : ℕ) → payload number ≡ 0
    → victim_test live payload held number ≡ false
no_payload live payload held number none =
    let some : Bool = nat_lt 0 (length (live number)) in
    let kept : Bool = not (has held number) in
    let share : ℕ = length (live number) * 100 in
    let never : nat_lt share (70 * 0) ≡ false = grind (arith, nat_tests) in
    ap (λ p. some && nat_lt share (70 * p) && kept) none ∙ ap (λ b. some && b && kept) never ∙ never_by some kept

more_planned : (most : ℕ) (live : ℕ → List ℕ) (payload : ℕ → ℕ) (held : List ℕ) (n : ℕ) → payload (1 + n) ≡ 0
    → plan_by most live payload held (n + 1) ≡ plan_by most live payload held n
more_planned most live payload held n none =
    ap (λ ns. planned most live (in_order (before_test live payload) ns))
    (filter_more (victim_test live payload held) 1 n (no_payload live payload held (1 + n) none))

-- ---- a checkpoint is sealed

-- it gives no sector another owner
same_owners : (number end : ℕ) (entries : List Entry) (before : Owners) (objects : List StreamObject) (to : ℕ)
    → after_objects number end entries before (objects ++ record { content = Checkpoint; end = to } ∷ [])
    ≡ after_objects number end entries before objects
same_owners number end entries before [] to = refl
same_owners number end entries before (object ∷ objects) to =
    same_owners (number + 1) object.end (drop (object.end - end) entries) _ objects to

-- a default at the end of some numbers changes none of them
default_last : (ns : List ℕ) (k : ℕ) → slice_index_or (ns ++ 0 ∷ []) k 0 ≡ slice_index_or ns k 0
default_last [] zero = refl
default_last [] (suc k) = refl
default_last (n ∷ ns) zero = refl
default_last (n ∷ ns) (suc k) = default_last ns k

module _ (plain : PlainState) (valid : IsPlainVolume plain) where
  abbrev now : PlainState
  now = with_all_put plain

  abbrev later : PlainState
  later = with_all_put (with_checkpoint plain)

  abbrev checkpoint : StreamObject
  checkpoint = record { content = Checkpoint; end = end_at (stream_in plain) (last_number (stream_in plain)) }

  owners_same : owners (stream_in later) (plain.window.last + 1) ≡ owners (stream_in now) plain.window.last
  owners_same =
      let objects : List StreamObject = plain.objects ++ checkpoint ∷ [] in
      let last = valid.last in
      let more = length-append plain.objects (checkpoint ∷ []) in
      let all : take (plain.window.last + 1 - plain.number) objects ≡ objects =
      take_all (plain.window.last + 1 - plain.number) objects (omega (arith, last, more)) in
      let whole : take (plain.window.last - plain.number) plain.objects ≡ plain.objects =
      take_all (plain.window.last - plain.number) plain.objects (omega (arith, last)) in
      let opening : Owners = λ k. slice_index_or plain.owned k None in
      let replay : List StreamObject → Owners = after_objects plain.number plain.end plain.entries opening in
      ap replay all ∙ same_owners plain.number plain.end plain.entries opening plain.objects checkpoint.end
      ∙ ap replay (sym whole)

  live_same : (number : ℕ) → live_sectors later number ≡ live_sectors now number
  live_same number =
      ap (λ (own : Owners). filter (λ k. is_own number (own k)) (range_with_len 0 plain.geometry.sectors)) owners_same

  payloads_same : payloads_in later ≡ payloads_in now ++ 0 ∷ []
  payloads_same =
      let sectors : ℕ = plain.geometry.sectors in
      let own : List ℕ = payloads_after sectors plain.end plain.entries plain.objects in
      ap (λ (more : List ℕ). plain.payloads ++ more)
      (payloads_in_parts sectors plain.end plain.entries plain.objects (checkpoint ∷ []) valid.stream.ends)
      ∙ sym (append_assoc plain.payloads own (0 ∷ []))

  payload_same : (number : ℕ) → payload_of later number ≡ payload_of now number
  payload_same number =
      ap (λ (ns : List ℕ). slice_index_or (0 ∷ ns) number 0) payloads_same ∙ default_last (0 ∷ payloads_in now) number

  none_past : payload_of now (1 + plain.window.last) ≡ 0
  none_past =
      let sectors : ℕ = plain.geometry.sectors in
      let own : List ℕ = payloads_after sectors plain.end plain.entries plain.objects in
      let long = length-append plain.payloads own in
      let as_many = length-payloads sectors plain.end plain.entries plain.objects in
      let first = valid.payloads in
      let last = valid.last in
      get_or_past (0 ∷ payloads_in now) (1 + plain.window.last) 0 (omega (arith, long, as_many, first, last))

  -- and so makes no victim
  pub checkpoint_plans : planned_copy later ≡ planned_copy now
  checkpoint_plans =
      let most : ℕ = plain.geometry.batch in
      let n : ℕ = plain.window.last in
      ap (λ live. plan_by most live (payload_of later) plain.held (n + 1)) (fun_ext live_same)
      ∙ ap (λ payload. plan_by most (live_sectors now) payload plain.held (n + 1)) (fun_ext payload_same)
      ∙ more_planned most (live_sectors now) (payload_of now) plain.held n none_past

-- ---- events

-- an event of the plain volume that makes no victim
abbrev pub makes_no_victim : PlainEvent → Bool
makes_no_victim events.Flush = true
makes_no_victim events.TakeJob = true
makes_no_victim (events.JobDone job) = true
makes_no_victim (events.JobFailed job) = true
makes_no_victim events.SealCheckpoint = true
makes_no_victim events.TakeRemove = true
makes_no_victim (events.RemoveDone number) = true
makes_no_victim (events.RemoveFailed number) = true
makes_no_victim events.Status = true
makes_no_victim event = false

-- what is planned once all objects up to a last one are acknowledged
abbrev planned_at : PlainState → (last : ℕ) → List CopiedSector
planned_at plain last = planned_copy (record plain { window = record { last = last; objects = [] } })

abbrev NonePlanned : PlainState → Type 0
NonePlanned plain = planned_copy (with_all_put plain) ≡ []

done_last : (job : Option ℕ) (window : WindowState) → (window_after_done job window).last ≡ window.last
done_last None window = refl
done_last (Some n) window =
    elim (is_started n window.objects) as (λ b. (if b then acknowledged n window else window).last ≡ window.last) [
      | true ↦ refl
      | false ↦ refl
    ]

failed_last : (job : Option ℕ) (window : WindowState) → (window_after_failed job window).last ≡ window.last
failed_last None window = refl
failed_last (Some n) window =
    elim (is_started n window.objects) as (λ b. (if b then marked n false window else window).last ≡ window.last) [
      | true ↦ refl
      | false ↦ refl
    ]

either_none : (b : Bool) (x y : PlainState) → NonePlanned x → NonePlanned y → NonePlanned (cond b x y)
either_none true x y first second = first
either_none false x y first second = second

removal_none : (out lowest : Option ℕ) (plain : PlainState) → NonePlanned plain → NonePlanned (with_removal out lowest plain)
removal_none None (Some number) plain none = none
removal_none None None plain none = none
removal_none (Some other) lowest plain none = none

event_none : (plain : PlainState) (event : PlainEvent) → IsPlainVolume plain → makes_no_victim event ≡ true → NonePlanned plain
    → NonePlanned (plain_after event plain)
event_none plain events.Flush valid makes none = none
event_none plain events.TakeJob valid makes none =
    ap (planned_at plain) (last_taken (lowest_ready plain.window.objects) plain.window) ∙ none
event_none plain (events.JobDone job) valid makes none = ap (planned_at plain) (done_last job plain.window) ∙ none
event_none plain (events.JobFailed job) valid makes none = ap (planned_at plain) (failed_last job plain.window) ∙ none
event_none plain events.SealCheckpoint valid makes none =
    either_none (is_busy plain) plain (with_checkpoint plain) none (checkpoint_plans plain valid ∙ none)
event_none plain events.TakeRemove valid makes none = removal_none plain.removal (to_remove plain) plain none
event_none plain (events.RemoveDone number) valid makes none = either_none (is_out number plain.removal) _ plain none none
event_none plain (events.RemoveFailed number) valid makes none = either_none (is_out number plain.removal) _ plain none none
event_none plain events.Status valid makes none = none
event_none plain event valid makes none = (let bad : ⊥ = cc in absurd bad)

-- nor is one made where there is nothing to seal
seal_none : (plain : PlainState) → unsealed_entries plain ≡ [] → NonePlanned plain → NonePlanned (after_seal plain)
seal_none plain unsealed none =
    let nothing : has_unsealed plain ≡ false = ap (λ (es : List Entry). not (length es == 0)) unsealed in
    let sealed : PlainState = record plain {
      objects = plain.objects ++ record { content = Data; end = end_of_next plain } ∷ [];
      window = entered (plain.window.last + 1) false plain.window;
    } in
    subst (λ b. NonePlanned (if b && not (is_busy plain) then sealed else plain)) (sym nothing) none

-- ---- steps

none_by : {R : Type 0} (state : R → ReceiptState) (event : Event R) (reply : Reply R) (plain : PlainState) (old new : VolumeState)
    → ((asked : PlainEvent) → Asks state old event asked → makes_no_victim asked ≡ true) → Shows old plain → NonePlanned plain
    → IsStep state event reply plain old new ⊎ IsNoStep state event reply plain old new → NeedsNoCopy new
none_by state event reply plain old new makes shows none (inl s) = record {
  plain = _;
  shows = s.shows;
  none = event_none (passing s.left plain) s.asked (passing_keeps s.left plain shows.valid) (makes s.asked s.asks) none;
}
none_by state event reply plain old new makes shows none (inr n) = record { plain = plain; shows = n.shows; none = none }

pub step_needs : {R : Type 0} (state : R → ReceiptState) (event : Event R) (reply : Reply R) (old new : SteppedVolume)
    → ((asked : PlainEvent) → Asks state old.volume event asked → makes_no_victim asked ≡ true)
    → CountedStep state event reply old new → NeedsNoCopy old.volume → NeedsNoCopy new.volume
step_needs state event reply old new makes of needs =
    none_by state event reply needs.plain old.volume new.volume makes needs.shows needs.none
    (of.step.step needs.plain needs.shows)

seal_by : {R : Type 0} (state : R → ReceiptState) (reply : Reply R) (plain : PlainState) (old new : VolumeState)
    → unsealed_entries plain ≡ [] → NonePlanned plain
    → IsStep state asks.Seal reply plain old new ⊎ IsNoStep state asks.Seal reply plain old new → NeedsNoCopy new
seal_by state reply plain old new unsealed none (inl s) =
    let ready : PlainState = passing s.left plain in
    let now : Fuse = fuse_in new.log.commits.disk.budget in
    record {
      plain = passing now (after_seal ready);
      shows = subst (λ e. Shows new (passing now (plain_after e ready))) s.asks s.shows;
      none = seal_none ready unsealed none;
    }
seal_by state reply plain old new unsealed none (inr n) = record { plain = plain; shows = n.shows; none = none }

pub seal_needs : {R : Type 0} (state : R → ReceiptState) (reply : Reply R) (old new : SteppedVolume)
    → CountedStep state asks.Seal reply old new → old.volume.objects.batch.entries ≡ [] → NeedsNoCopy old.volume
    → NeedsNoCopy new.volume
seal_needs state reply old new of unsealed needs =
    seal_by state reply needs.plain old.volume new.volume (sym needs.shows.objects.stream.entries ∙ unsealed) needs.none
    (of.step.step needs.plain needs.shows)

-- ---- all plain volumes that are shown agree

-- the plan of a copy that is out is the plain volume's
pub plan_shown : (queue : QueueState) (out : Option PlanState) (plain : PlainState) → out ≡ None → ShowsPlan queue out plain
    → plain.plan ≡ None
plan_shown queue None plain none shows = shows
plan_shown queue (Some plan) plain none shows = (let bad : ⊥ = cc in absurd bad)

pub plan_plain : (queue : QueueState) (out : Option PlanState) (plain : PlainState) → plain.plan ≡ None
    → ShowsPlan queue out plain → out ≡ None
plan_plain queue None plain none shows = refl
plan_plain queue (Some plan) plain none shows = (let some = shows.1 in let bad : ⊥ = cc in absurd bad)

nil_unless : (ns : List ℕ) → ((ns ≡ [] → ⊥) → ⊥) → ns ≡ []
nil_unless [] not_some = refl
nil_unless (n ∷ ns) not_some = absurd (not_some (λ is. cc))

no_rows : (rows : List ObjectRow) → numbers rows ≡ [] → rows ≡ []
no_rows [] none = refl
no_rows (row ∷ rows) none = (let bad : ⊥ = cc in absurd bad)

-- a table without candidates has no victims
no_victims : (rows : List ObjectRow) → candidates rows ≡ [] → AreVictims rows []
no_victims rows none = record {
  taken = [];
  each_once =
      subst (λ (kept : List ObjectRow). IsPermutation kept []) (sym (no_rows (filter is_candidate rows) none))
      (IsPermutation-refl []);
  in_order = λ i j d less inside. absurd (omega (arith, inside));
  are = refl;
}

pub none_is_victim : (volume : VolumeState) (plain : PlainState) → IsUploads volume.objects.uploads → Shows volume plain
    → plain.plan ≡ None → planned_copy plain ≡ [] → HasNoVictim volume
none_is_victim volume plain is shows none_out none other others =
    let rows : List ObjectRow = volume.objects.uploads.queue.maps.objects.rows in
    let both : ShowsBoth shows.data_at volume.objects plain = record { objects = shows.objects; table = shows.table } in
    let other_both : ShowsBoth others.data_at volume.objects other =
    record { objects = others.objects; table = others.table } in
    let refuses : is_refusal (reply_of_plan plain.plan (planned_copy plain)) ≡ true =
    ap (λ out. is_refusal (reply_of_plan out (planned_copy plain))) none_out
    ∙ ap (λ ps. is_refusal (reply_of_plan None ps)) none in
    let empty : candidates rows ≡ [] =
    nil_unless (candidates rows) (λ some. (
    let plans = victims_show_plan shows.data_at volume.objects plain is shows.valid both none_out some in
    let bad : ⊥ = cc in
    bad)) in
    let list = planned_is other volume.objects.uploads.queue.maps
    (rows_are others.data_at volume.objects other is others.valid other_both) [] (no_victims rows empty) in
    sym list ∙ take-nil other.geometry.batch

-- where each object is acknowledged, what is planned once all are is what is planned
pub planned_now : (plain : PlainState) → plain.window.objects ≡ [] → planned_copy (with_all_put plain) ≡ planned_copy plain
planned_now plain none =
    ap (λ (objects : List OpenObject).
    planned_copy (record plain { window = record { last = plain.window.last; objects = objects } })) (sym none)

pub needs_no_victim : (volume : VolumeState) → IsUploads volume.objects.uploads → volume.plan ≡ None
    → volume.objects.uploads.window.objects ≡ [] → NeedsNoCopy volume → HasNoVictim volume
needs_no_victim volume is none_out on_way needs =
    let plain : PlainState = needs.plain in
    let no_objects : plain.window.objects ≡ [] =
    ap (λ (w : WindowState). w.objects) (sym needs.shows.objects.window) ∙ on_way in
    none_is_victim volume plain is needs.shows
    (plan_shown volume.objects.uploads.queue volume.plan plain none_out needs.shows.plan)
    (sym (planned_now plain no_objects) ∙ needs.none)

-- ---- a turn where nothing is left to seal or to put

nothing_planned : (out : Option (List CopiedSector)) (is_full : Bool) (sectors : List CopiedSector) → out ≡ None
    → is_full ≡ false → (not (is_some out) && not is_full && nat_lt 0 (length sectors)) ≡ false → sectors ≡ []
nothing_planned None false [] none free idle = refl
nothing_planned None false (first ∷ more) none free idle = absurd (grind (arith, nat_tests))
nothing_planned None true sectors none free idle = (let bad : ⊥ = cc in absurd bad)
nothing_planned (Some plan) is_full sectors none free idle = (let bad : ⊥ = cc in absurd bad)

-- it copies nothing only where there is nothing to copy
pub idle_needs : (old new : VolumeState) (plain : PlainState) → Shows old plain → old.plan ≡ None
    → old.objects.uploads.window.objects ≡ [] → may_collect plain ≡ false → ShowsAfter new plain → NeedsNoCopy new
idle_needs old new plain shows none_out on_way idle after =
    let no_objects : plain.window.objects ≡ [] = ap (λ (w : WindowState). w.objects) (sym shows.objects.window) ∙ on_way in
    let free : is_busy plain ≡ false = ap (λ (o : List OpenObject). length o == 16) no_objects in
    let none : planned_copy plain ≡ [] =
    nothing_planned plain.plan (is_busy plain) (planned_copy plain)
    (plan_shown old.objects.uploads.queue old.plan plain none_out shows.plan) free idle in
    record {
      plain = passing (fuse_in new.log.commits.disk.budget) plain;
      shows = after;
      none = planned_now plain no_objects ∙ none;
    }

-- and leaves as much to do
pub idle_work : (old new : VolumeState) (plain : PlainState) → Shows old plain → ShowsAfter new plain → work_of new ≡ work_of old
idle_work old new plain shows after =
    shown_work new (passing (fuse_in new.log.commits.disk.budget) plain) after ∙ sym (shown_work old plain shows)

-- a copy leaves the entries that are in no object
copy_unsealed : (pairs : List CopiedSector) (plain : PlainState)
    → unsealed_entries (with_copy pairs plain) ≡ unsealed_entries plain
copy_unsealed pairs plain =
    let object : StreamObject =
    record { content = Copy pairs; end = end_at (stream_in plain) (last_number (stream_in plain)) } in
    let objects : List StreamObject = plain.objects ++ object ∷ [] in
    let more = length-append plain.objects (object ∷ []) in
    let all : take (last_number (stream_in (with_copy pairs plain)) - plain.number) objects ≡ objects =
    take_all (last_number (stream_in (with_copy pairs plain)) - plain.number) objects (omega arith) in
    let ends : end_at (stream_in (with_copy pairs plain)) (last_number (stream_in (with_copy pairs plain))) ≡ object.end =
    ap (end_after plain.end) all ∙ end_in_parts plain.end plain.objects (object ∷ []) in
    ap (λ e. drop (e - plain.end) plain.entries) ends

-- the copy alone is left to put
pub copied_work : (old new : VolumeState) (plain : PlainState) (pairs : List CopiedSector) → Shows old plain → work_of old ≡ 0
    → ShowsAfter new (with_copy pairs plain) → work_of new ≡ 1
copied_work old new plain pairs shows work after =
    let object : OpenObject = record {
      number = plain.window.last + 1;
      is_checkpoint = false;
      is_started = false;
      was_started = false;
    } in
    let before = shown_work old plain shows in
    let later = shown_work new (passing (fuse_in new.log.commits.disk.budget) (with_copy pairs plain)) after in
    let unsealed = ap (λ (es : List Entry). length es) (copy_unsealed pairs plain) in
    let long = length-append plain.window.objects (object ∷ []) in
    omega (arith, before, later, unsealed, long, work)

batch_limit : (g : Geometry) → is_within_limits g ≡ true → g.batch ≤ 65536
batch_limit g limits = grind (arith, nat_tests)

planned_few : (most : ℕ) (live : ℕ → List ℕ) (list : List ℕ) → length (planned most live list) ≤ most
planned_few most live list =
    let taken = length-take most (flat_map (λ number. map (copied_from number) (live number)) list) in
    omega (arith, taken)

-- it has no more sectors than a batch
pub few_copied : (plain : PlainState) → IsPlainVolume plain → length (planned_copy plain) ≤ 65536
few_copied plain valid =
    let few = planned_few plain.geometry.batch (live_sectors plain) (victims plain) in
    let limit = batch_limit plain.geometry valid.limits in
    omega (arith, few, limit)
