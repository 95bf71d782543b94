-- A log that was opened.
use Rattle.std.proofs.Common.{◌≡◌, ℕ, ◌+◌, ◌^◌, ◌<◌, ◌≤◌, IsTrue, List, [], ◌∷◌, ◌++◌, length, append-nil, map, refl, sym, ◌∙◌}
use Rattle.std.proofs.Common.{ap, subst, arith}
use Rattle.std.specs.Prelude.{Option, None, IfSome, true}
use Rattle.std.proofs.Math.Path.{subst₂}
use Rattle.std.proofs.lemmas.Bool.Decides.{nat_tests}
use Rattle.lsvd_base.specs.declared.geometry.Geometry.{Geometry}
use Rattle.lsvd_base.specs.Limits.{is_within_limits}
use Rattle.lsvd_base.specs.Range.{is_in_range}
use Rattle.std.specs.List.{AllByRecursion}
use Rattle.lsvd_device.specs.Medium.{Medium}
use Rattle.lsvd_device.specs.Device.{HasSize, HoldsNow}
use Rattle.log_room.specs.Room.{Room, room_of}
use Rattle.commit_body.specs.declared.body.CommitBody.{CommitBody}
use Rattle.commit_body.specs.declared.body.Mark.{Mark}
use Rattle.commit_body.specs.Body.{MayStand}
use Rattle.commit_slot.specs.Slots.{log_of}
use Rattle.commit_slot.specs.Commits.{CommitsState}
use Rattle.commit_slot.specs.LogArea.{log_area, LeavesLogArea}
use Rattle.cache_log.specs.declared.row.Row.{Row}
use Rattle.cache_log.specs.Rows.{byte_of, entry_of, AreNumbered, Follow, end_of_rows, HaveRecords, since, between}
use Rattle.cache_log.specs.Reads.{AreReadOnly, headers_of_rows, pieces_in}
use Rattle.cache_log.specs.Log.{entries_in}
use Rattle.cache_log.specs.Opening.{sectors_between, AreRowsOfLog, AreRecordsInRange, IsOpenedLog}
use Rattle.cache_log.specs.Invariant.{IsLog, IsCommitOfRows, IsCommitOfLog, AreCommitsOfLog, Holds}
use Rattle.cache_log.proofs.CommittedLemmas.{view_of, none_each, HeldAt}
use Rattle.cache_log.proofs.LogAreaLemmas.{same_log_area}
use Rattle.cache_log.proofs.ReadCounts.{only_more, headers_most}
use Rattle.cache_log.proofs.RowLemmas.{between_most, between_further, entries_range}
use Rattle.cache_log.proofs.Slices.{since_numbered, between_all, map_between}
use Rattle.cache_log.proofs.WriteLemmas.{held_same}

-- ---- a log that was opened

-- the one commit of a log that is opened has all its records
opened_stands : (geometry : Geometry) (body : CommitBody) (rows : List Row) → MayStand body geometry.log
    → AreRowsOfLog geometry body rows
    → IsCommitOfRows (room_of geometry.log body.head.position (sectors_between geometry.log body)) rows
    (sectors_between geometry.log body) body
opened_stands geometry body rows may are =
    let seqs = are.seqs in
    let from = since_numbered rows body.tail.seq body.tail.seq (omega arith) are.numbered in
    let mine = between_all rows body.tail.seq body are.numbered (omega arith) (omega (arith, seqs)) in
    record {
      reach = record {
        inside = may.tail_inside;
        further = between_further geometry.log body may;
        follow = subst (Follow geometry.log body.tail.position (sectors_between geometry.log body)) (sym from) are.follow;
      };
      more = [];
      whole = from ∙ sym (append-nil rows) ∙ ap (λ l. l ++ []) (sym mine);
      numbered = subst (AreNumbered body.tail.seq) (sym mine) are.numbered;
      seqs = ap (λ l. body.tail.seq + length l) mine ∙ are.seqs;
      end = ap (end_of_rows geometry.log body.tail.position) mine ∙ are.end;
    }

opened_commit : (geometry : Geometry) (body : CommitBody) (rows : List Row) → MayStand body geometry.log
    → AreRowsOfLog geometry body rows
    → (c : IsCommitOfLog (room_of geometry.log body.head.position (sectors_between geometry.log body)) body.tail
    (sectors_between geometry.log body) [] rows body) × (c.used ≡ sectors_between geometry.log body)
opened_commit geometry body rows may are =
    let seqs = are.seqs in (
      record {
        used = sectors_between geometry.log body;
        least = omega arith;
        most = omega arith;
        is = opened_stands geometry body rows may are;
        tail = omega arith;
        head = omega (arith, seqs);
      },
      refl,
    )

opened_holds : (log : ℕ) (body : CommitBody) (rows : List Row) (now : Medium) → between body rows ≡ rows
    → HaveRecords log body.tail.position body.tail.seq rows now.bytes
    → LeavesLogArea (log_area now.bytes) now → Holds log rows (map (entry_of now.bytes) rows) now body
opened_holds log body rows now mine have durable =
    let mine_have : HaveRecords log body.tail.position body.tail.seq (between body rows) now.bytes =
    subst (λ r. HaveRecords log body.tail.position body.tail.seq r now.bytes) (sym mine) have in (
      mine_have,
      λ left may.
          let same = same_log_area (between body rows) log body.tail.position body.tail.seq left now.bytes (durable left may)
          mine_have in
          (same.0, same.1 ∙ sym (map_between (entry_of now.bytes) rows body)),
    )

opened_last : (geometry : Geometry) (commits : CommitsState) (rows : List Row) (moments : List Medium) → commits.unfinished ≡ None
    → between commits.body rows ≡ rows
    → HoldsNow (λ now. AreRecordsInRange geometry commits.body rows now.bytes) moments
    → HoldsNow (λ now. LeavesLogArea (log_area now.bytes) now) moments
    → HoldsNow (λ now. HeldAt geometry.log rows (map (entry_of now.bytes) rows) commits now) moments
opened_last geometry commits rows [] none mine read durable = tt
opened_last geometry commits rows (now ∷ past) none mine read durable =
    (opened_holds geometry.log commits.body rows now mine read.records.records durable, none_each _ commits.unfinished none)

opened_records : (geometry : Geometry) (body : CommitBody) (rows : List Row) (moments : List Medium)
    → HoldsNow (λ now. AreRecordsInRange geometry body rows now.bytes) moments
    → HoldsNow (λ now. HaveRecords geometry.log body.tail.position body.tail.seq rows now.bytes) moments
opened_records geometry body rows [] read = tt
opened_records geometry body rows (now ∷ past) read = read.records.records

pub opened_log : (geometry : Geometry) (rows : List Row) (count : ℕ) (old new : CommitsState) → IsTrue (is_within_limits geometry)
    → geometry.log ≡ log_of old.disk.size → 4096 ≤ old.disk.size
    → MayStand old.body geometry.log → old.unfinished ≡ None
    → HoldsNow (λ now. LeavesLogArea (log_area now.bytes) now) old.disk.moments
    → AreRowsOfLog geometry old.body rows → HoldsNow (λ now. AreRecordsInRange geometry old.body rows now.bytes) old.disk.moments
    → AreReadOnly count true old new → old.body.head.seq < 2 ^ 64
    → IsLog (room_of geometry.log old.body.head.position (sectors_between geometry.log old.body)) old.body.tail [] rows new
opened_log geometry rows count old new limits sectors least may none durable are read made numbers =
    let log : ℕ = geometry.log in
    let body : CommitBody = old.body in
    let place : Room = room_of log body.head.position (sectors_between log body) in
    let size = made.reads.calls.size in
    let seqs = are.seqs in
    let one = opened_commit geometry body rows may are in
    let from = since_numbered rows body.tail.seq body.tail.seq (omega arith) are.numbered in
    let mine = between_all rows body.tail.seq body are.numbered (omega arith) (omega (arith, seqs)) in
    let last = opened_last geometry old rows old.disk.moments none mine read durable in
    let S : CommitBody → Option CommitBody → Type 0 =
    λ b u. (c : AreCommitsOfLog place body.tail (sectors_between log body) [] rows b u)
    × (c.0.used ≡ sectors_between log body) × (since b.tail.seq rows ≡ rows) in
    let unfinished = none_each (λ more. (c : IsCommitOfLog place body.tail (sectors_between log body) [] rows more)
    × (c.used ≤ one.0.used) × (body.tail.seq ≤ more.tail.seq)) old.unfinished none in
    let moved : S new.body new.unfinished = subst₂ S (sym made.same.same_body) (sym made.same.same_unfinished)
    ((one.0, unfinished), one.1, from) in
    record {
      is = record {
        room = record { limit = grind (arith, nat_tests); head = may.head_inside; used = between_most log body may };
        least = sectors_between log body;
        reach = record { inside = may.tail_inside; further = between_further log body may; follow = are.follow };
        numbered = are.numbered;
        below = tt;
        records = subst (HoldsNow (λ now. HaveRecords log body.tail.position body.tail.seq rows now.bytes)) (sym made.moments)
            (opened_records geometry body rows old.disk.moments read);
        committed = moved.0;
        last = held_same log rows old new new.disk.moments made.same
            (subst (HoldsNow (λ now. HeldAt log rows (map (entry_of now.bytes) rows) old now)) (sym made.moments) last);
        on_disk = made.on_disk;
        sectors = sectors ∙ ap log_of (sym size);
        fits = omega (arith, sectors, least, size);
        numbers = omega (arith, seqs, numbers);
      };
      from = moved.2;
      used = moved.1;
    }

-- the entries of a log that was opened are in range
pub opened_range : (geometry : Geometry) (rows : List Row) (body : CommitBody) (size : ℕ) (moments : List Medium)
    → MayStand body geometry.log → byte_of geometry.log ≤ size → AllByRecursion (HasSize size) moments
    → AreRowsOfLog geometry body rows → IfSome (entries_in rows moments)
    (AllByRecursion (λ entry. IsTrue (is_in_range geometry entry)))
opened_range geometry rows body size [] may fits media are = tt
opened_range geometry rows body size (now ∷ past) may fits media are =
    entries_range geometry rows body.tail.position (sectors_between geometry.log body) now.bytes may.tail_inside
    (between_most geometry.log body may) (let e = media.0.bytes in omega (arith, e, fits)) are.follow are.in_range

-- the room of a log that is opened
pub opened_room : (log sectors used : ℕ) (place : Room) (body read : CommitBody) → read ≡ body → sectors ≡ log
    → used ≡ sectors_between sectors read → place ≡ room_of sectors read.head.position used
    → place ≡ room_of log body.head.position (sectors_between log body)
opened_room log sectors used place body read read_is sectors_is used_is place_is =
    place_is
    ∙ ap (λ u. room_of sectors read.head.position u) used_is
    ∙ ap (λ n. room_of n read.head.position (sectors_between n read)) sectors_is
    ∙ ap (λ b. room_of log b.head.position (sectors_between log b)) read_is

-- what `open` promises
pub is_opened : (geometry : Geometry) (rows : List Row) (old new : CommitsState) (place : Room) (mark : Mark)
    (held listed : List Row) (reserved : ℕ) → mark ≡ old.body.tail → held ≡ [] → listed ≡ rows
    → place ≡ room_of geometry.log old.body.head.position (sectors_between geometry.log old.body) → MayStand old.body geometry.log
    → byte_of geometry.log ≤ old.disk.size → AllByRecursion (HasSize old.disk.size) old.disk.moments
    → AreRowsOfLog geometry old.body rows → HoldsNow (λ now. AreRecordsInRange geometry old.body rows now.bytes) old.disk.moments
    → AreReadOnly (headers_of_rows geometry.log old.body.tail.position rows) true old new
    → AreReadOnly (pieces_in (sectors_between geometry.log old.body)) true old new
    → IsOpenedLog geometry old (view_of place mark held listed new reserved)
is_opened geometry rows old new place mark held listed reserved mark_is held_is listed_is place_is may fits media are read made
    few_pieces =
    let few = headers_most geometry.log old.body.tail.position rows in
    let seqs = are.seqs in
    subst₂ (λ h l. IsOpenedLog geometry old (view_of place mark h l new reserved)) (sym held_is) (sym listed_is) (record {
      room = place_is;
      held = refl;
      start = ap (λ m. m.position) mark_is;
      first = ap (λ m. m.seq) mark_is;
      rows = are;
      entries = ap (entries_in rows) made.moments;
      all = refl;
      records = read;
      in_range = subst (λ m. IfSome (entries_in rows m) (AllByRecursion (λ entry. IsTrue (is_in_range geometry entry))))
          (sym made.moments) (opened_range geometry rows old.body old.disk.size old.disk.moments may fits media are);
      only = only_more _ _ true old new made (omega (arith, few, seqs));
      reads = made.reads;
      pieces = few_pieces.reads;
    })
