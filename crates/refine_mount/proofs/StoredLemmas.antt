-- The volume that a mount makes is one that the same store has.
use Rattle.std.proofs.Common.{◌≡◌, ℕ, ◌+◌, ◌-◌, ◌≤◌, true, max, List, [], ◌∷◌, length, take, drop, map, refl, sym, ◌∙◌, ap, subst}
use Rattle.std.proofs.Common.{arith, length-drop}
use Rattle.std.specs.Prelude.{Option}
use Rattle.std.specs.List.{All}
use Rattle.std.proofs.lemmas.List.{take-take, length-take-le, length-map}
use Rattle.std.proofs.lemmas.List.Elements.{All-take, All-drop}
use Rattle.lsvd_base.specs.declared.entry.Entry.{Entry}
use Rattle.lsvd_base.specs.declared.geometry.Geometry.{Geometry}
use Rattle.lsvd_base.specs.Laws.{EndsBy}
use Rattle.lsvd_base.specs.Range.{is_in_range}
use Rattle.lsvd_objstore.specs.Objects.{Objects}
use Rattle.commit_body.specs.declared.body.CommitBody.{CommitBody}
use Rattle.object_format.specs.declared.expected.Expected.{Expected}
use Rattle.object_stream.specs.declared.object.Content.{Content}
use Rattle.object_stream.specs.declared.object.Content.TheVariants.{Data, Copy, Checkpoint}
use Rattle.object_stream.specs.declared.object.StreamObject.{StreamObject}
use Rattle.object_stream.specs.Replay.{expected_at}
use Rattle.object_stream.specs.Stored.{IsObjectStored, AreStored}
use Rattle.object_stream.specs.Stream.{Owners, after_object, GoesTo, EndsFollow, end_after}
use Rattle.object_stream.proofs.StreamLemmas.{end_no_earlier, follow_first}
use Rattle.cache_log.specs.Rows.{entry_of, Follow}
use Rattle.cache_log.specs.Opening.{AreRowsOfLog, sectors_between}
use Rattle.cache_log.proofs.ForCallers.{from_is_between}
use Rattle.plain_disk.specs.declared.log.PlainCommit.{PlainCommit}
use Rattle.plain_disk.specs.State.{stream_in, PlainState}
use Rattle.plain_disk.specs.Valid.{IsPlainVolume}
use Rattle.refine_log.proofs.Following.{Reaches, reach_used}
use Rattle.stopped_volume.specs.Ancestors.{uuid_in_chain}
use Rattle.stopped_volume.specs.Device.{CacheOwner}
use Rattle.refine_log.specs.Stops.{entries_past, HasCommit}
use Rattle.refine_log.proofs.EntryLemmas.{past_first}
use Rattle.object_recovery.specs.Checkpoints.{expected_of}
use Rattle.refine_mount.specs.Found.{HasObjects}
use Rattle.refine_mount.proofs.CutPayloads.{payload_of_cut}
use Rattle.refine_mount.specs.Mounted.{end_of_object, mounted_with, mounted_without}
use Rattle.refine_mount.specs.Laws.{MountedIsStored}
use Rattle.refine_mount.proofs.RestLemmas.{mounted_is_at_rest}
use Rattle.refine_mount.proofs.GoingLemmas.{mounted_is_plain_volume, mounted_is_going_on}

-- ---- a plain volume

mounted_is_valid : (uuid : List ℕ) (owner : CacheOwner) (plain : PlainState) (found : PlainCommit) (number : ℕ)
    (objects : Objects) (left : List ℕ)
    → IsPlainVolume plain → HasObjects uuid plain number objects
    → HasCommit owner plain found (end_of_object number plain) left
    → IsPlainVolume (mounted_with found number plain)
mounted_is_valid uuid owner plain found number objects left valid has_objects has =
    let geometry : Geometry = plain.geometry in
    let body : CommitBody = has.body in
    let end : ℕ = end_of_object number plain in
    let records = has.records.records in
    let may = has.slots.reads.is_open.sector.may_stand in
    let head : ℕ = body.head.seq in
    let entries : List Entry = entries_past plain end head in
    let InRange : Entry → Type 0 = λ entry. is_in_range geometry entry ≡ true in
    let reach : Reaches geometry.log body.tail.position records.used body.head.position has.rows = record {
      inside = may.tail_inside;
      most = records.most;
      follow = records.follow;
      end = records.end;
    } in
    let used : records.used ≡ sectors_between geometry.log body =
    reach_used has.rows geometry.log body.tail.position records.used body.head.position reach
    ∙ from_is_between geometry.log body has.rows records.seqs in
    let are : AreRowsOfLog geometry body has.rows = record {
      follow = subst (λ n. Follow geometry.log body.tail.position n has.rows) used records.follow;
      end = records.end;
      numbered = records.numbered;
      seqs = records.seqs;
      in_range = has.records.in_range;
    } in
    let in_range : All InRange entries =
    All-drop InRange (end - plain.end) (take (max end head - plain.end) plain.entries)
    (All-take InRange (max end head - plain.end) plain.entries valid.in_range) in
    let long = ap length has.entries in
    let rest = length-drop (end - body.tail.seq) (map (entry_of left) has.rows) in
    let all = length-map has.rows (entry_of left) in
    let seqs = records.seqs in
    let tail = has.tail in
    subst IsPlainVolume (mounted_is_going_on uuid owner plain found number objects left valid has_objects has)
    (mounted_is_plain_volume geometry plain.checkpoint.number end (mounted_without geometry.log number plain) body has.rows
    entries (mounted_is_at_rest uuid geometry.log plain number objects valid has_objects valid.limits) may are tail in_range
    (omega (arith, long, rest, all, seqs, tail)))

-- ---- its objects

no_earlier : (content : Content) (end_before end : ℕ) → GoesTo content end_before end → end_before ≤ end
no_earlier Data end_before end goes = omega (arith, goes)
no_earlier (Copy pairs) end_before end goes = omega (arith, goes)
no_earlier Checkpoint end_before end goes = omega (arith, goes)

-- objects have just the entries up to their end
stored_cut : (objects : Objects) (uuid_at : ℕ → Option (List ℕ)) (volume : Expected) (number end many : ℕ) (entries : List Entry)
    (before : Owners) (list : List StreamObject)
    → EndsFollow end list → end_after end list ≤ end + many → AreStored objects uuid_at volume number end entries before list
    → AreStored objects uuid_at volume number end (take many entries) before list
stored_cut objects uuid_at volume number end many entries before [] follow most are = tt
stored_cut objects uuid_at volume number end many entries before (object ∷ more) follow most are =
    let size : ℕ = object.end - end in
    let from = no_earlier object.content end object.end follow.0 in
    let rest = end_no_earlier object.end more follow.1 in
    let own : take size (take many entries) ≡ take size entries =
    take-take size many entries (omega (arith, most, rest)) in
    let After : List Entry → Owners = λ part. after_object (number + 1) object.content part before in (
      subst (IsObjectStored objects uuid_at (expected_at volume (number + 1) end) before object) (sym own) are.0,
      subst (λ part. AreStored objects uuid_at volume (number + 1) object.end (drop size (take many entries)) (After part) more)
          (sym own)
          (subst (λ l. AreStored objects uuid_at volume (number + 1) object.end l (After (take size entries)) more)
          (sym (past_first size many entries))
          (stored_cut objects uuid_at volume (number + 1) object.end (many - size) (drop size entries)
          (After (take size entries)) more follow.1 (omega (arith, most, rest, from)) are.1)),
    )

mounted_has_objects : (uuid : List ℕ) (plain : PlainState) (found : PlainCommit) (number : ℕ) (objects : Objects)
    → IsPlainVolume plain → IsPlainVolume (mounted_with found number plain) → HasObjects uuid plain number objects
    → HasObjects uuid (mounted_with found number plain) number objects
mounted_has_objects uuid plain found number objects plain_is valid has =
    let volume : Expected = expected_of uuid plain.geometry (length plain.chain) in
    let uuid_at = uuid_in_chain uuid plain.chain in
    let stored = has.stored.stored in
    let n : ℕ = number - plain.number in
    let many : ℕ = max (end_of_object number plain) found.head.seq - plain.end in
    let same : take n (take n plain.objects) ≡ take n plain.objects = take-take n n plain.objects (omega arith) in
    let last = stored.last in
    let opening = (stream_in plain).opening in
    let count = length-take-le n plain.objects (omega (arith, last)) in
    record {
      opened = has.opened;
      window = refl;
      pins = refl;
      none_out = refl;
      no_plan = refl;
      gone = has.gone;
      present = has.present;
      payloads = λ other payload low there.
          has.payloads other payload low there
          ∙ sym (payload_of_cut plain number (max (end_of_object number plain) found.head.seq) other plain_is
          (omega (arith, stored.base, stored.missing.above)) last (omega arith) low);
      holds = has.holds;
      stored = record {
        own = has.stored.own;
        valid = valid.stream;
        sectors = has.stored.sectors;
        stored = record {
          checkpoint = stored.checkpoint;
          checkpoints = stored.checkpoints;
          missing = stored.missing;
          base = stored.base;
          opens = record { is = stored.opens.is; value = stored.opens.value; inherited = stored.opens.inherited };
          last = omega (arith, count);
          stored =
              subst (AreStored objects uuid_at volume plain.number plain.end (take many plain.entries) opening) (sym same)
              (stored_cut objects uuid_at volume plain.number plain.end many plain.entries opening (take n plain.objects)
              (follow_first plain.end n plain.objects has.stored.valid.ends) (omega arith) stored.stored);
          past = stored.past;
        };
        no_checkpoint =
            subst (All (λ (object : StreamObject). object.content ≡ Checkpoint → ⊥)) (sym same) has.stored.no_checkpoint;
        inside = All-take (EndsBy plain.geometry.sectors) many plain.entries has.stored.inside;
      };
    }

pub mounted_is_stored : MountedIsStored
mounted_is_stored uuid owner plain found number objects left valid has_objects has =
    let mounted = mounted_is_valid uuid owner plain found number objects left valid has_objects has in
    (mounted, mounted_has_objects uuid plain found number objects valid mounted has_objects)
