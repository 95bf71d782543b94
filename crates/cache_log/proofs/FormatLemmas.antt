-- A log that was formatted.
use Rattle.std.proofs.Common.{◌≡◌, ℕ, ◌^◌, ◌<◌, ◌≤◌, List, [], ◌∷◌, map, refl, sym, ◌∙◌, ap, subst, inl, arith}
use Rattle.std.specs.Prelude.{None, IfSome}
use Rattle.std.proofs.Math.Path.{subst₂}
use Rattle.lsvd_device.specs.Medium.{Medium}
use Rattle.lsvd_device.specs.Device.{DiskState, HoldsNow}
use Rattle.log_room.specs.Room.{Room, empty_log}
use Rattle.commit_body.specs.declared.body.CommitBody.{CommitBody}
use Rattle.commit_body.specs.declared.body.Mark.{Mark}
use Rattle.commit_slot.specs.Slots.{log_of}
use Rattle.commit_slot.specs.Commits.{CommitsState, IsAt, IsCommit, Leaves}
use Rattle.commit_slot.specs.Formatting.{IsFormatted}
use Rattle.commit_slot.specs.OnDisk.{AreOnDisk}
use Rattle.cache_log.specs.declared.row.Row.{Row}
use Rattle.cache_log.specs.Rows.{entry_of, HaveRecords}
use Rattle.cache_log.specs.Log.{entries_in}
use Rattle.cache_log.specs.Committed.{first_body, LeavesEntries, IsFormattedLog}
use Rattle.cache_log.specs.Invariant.{IsLog, IsCommitOfRows, IsCommitOfLog, Holds}
use Rattle.cache_log.proofs.CommittedLemmas.{view_of, none_each, has_records, leaves_entries, HeldAt}

-- the mark of a log's beginning, where the first entry will have this seq
abbrev pub begin : (first : ℕ) → Mark
begin first = record { position = 0; seq = first }

first_stands : (log : ℕ) (body : CommitBody) (uuid : List ℕ) (epoch first : ℕ) → 0 < log → body ≡ first_body uuid epoch first
    → IsCommitOfRows (empty_log log) [] 0 body
first_stands log body uuid epoch first some is =
    let P : CommitBody → Type 0 = λ b. IsCommitOfRows (empty_log log) [] 0 b in
    subst P (sym is) (record {
      reach = record { inside = some; further = inl refl; follow = refl };
      more = [];
      whole = refl;
      numbered = tt;
      seqs = omega arith;
      end = refl;
    })

-- the one commit of an empty log
first_commit : (log : ℕ) (body : CommitBody) (uuid : List ℕ) (epoch first : ℕ) → 0 < log → body ≡ first_body uuid epoch first
    → (c : IsCommitOfLog (empty_log log) (begin first) 0 [] [] body) × (c.used ≡ 0)
first_commit log body uuid epoch first some is =
    let tail : body.tail.seq ≡ first = ap (λ (b : CommitBody). b.tail.seq) is in
    let head : body.head.seq ≡ first = ap (λ (b : CommitBody). b.head.seq) is in (
      record {
        used = 0;
        least = omega arith;
        most = omega arith;
        is = first_stands log body uuid epoch first some is;
        tail = omega (arith, tail);
        head = omega (arith, head);
      },
      refl,
    )

-- no records last
no_records : (log : ℕ) (body : CommitBody) (medium : Medium) → Holds log [] [] medium body
no_records log body medium = (tt, λ left may. (tt, refl))

first_last : (log : ℕ) (commits : CommitsState) (moments : List Medium) → commits.unfinished ≡ None
    → HoldsNow (λ now. HeldAt log [] (map (entry_of now.bytes) []) commits now) moments
first_last log commits [] none = tt
first_last log commits (now ∷ past) none = (no_records log commits.body now, none_each _ commits.unfinished none)

first_records : (log first : ℕ) (moments : List Medium) → HoldsNow (λ now. HaveRecords log 0 first [] now.bytes) moments
first_records log first [] = tt
first_records log first (now ∷ past) = tt

pub formatted_log : (log : ℕ) (uuid : List ℕ) (epoch first : ℕ) (commits : CommitsState) → first < 2 ^ 64 → 0 < log → log ≤ 2 ^ 31
    → log ≡ log_of commits.disk.size → 4096 ≤ commits.disk.size → AreOnDisk commits
    → IsAt 0 (first_body uuid epoch first) None commits → IsLog (empty_log log) (begin first) [] [] commits
formatted_log log uuid epoch first commits fits some most sectors least on_disk at =
    let one = first_commit log commits.body uuid epoch first some at.same_body in
    record {
      is = record {
        room = record { limit = most; head = some; used = omega arith };
        least = 0;
        reach = record { inside = some; further = inl refl; follow = refl };
        numbered = tt;
        below = tt;
        records = first_records log first commits.disk.moments;
        committed = (one.0, none_each _ commits.unfinished at.same_unfinished);
        last = first_last log commits commits.disk.moments at.same_unfinished;
        on_disk = on_disk;
        sectors = sectors;
        fits = omega (arith, sectors, least);
        numbers = omega (arith, fits);
      };
      from = refl;
      used = one.1;
    }

-- a stop leaves an empty log
pub formatted_entries : (log : ℕ) (uuid : List ℕ) (epoch first : ℕ) (moments : List Medium) → 0 < log
    → HoldsNow (Leaves log (IsCommit 0 (first_body uuid epoch first))) moments
    → IfSome (entries_in [] moments) (λ list. HoldsNow (LeavesEntries log [] list (IsCommit 0 (first_body uuid epoch first)))
    moments)
formatted_entries log uuid epoch first [] some leaves = tt
formatted_entries log uuid epoch first (now ∷ past) some leaves =
    leaves_entries log [] [] (IsCommit 0 (first_body uuid epoch first)) now leaves
    (λ left may number body is. has_records (empty_log log) 0 [] [] body left (omega arith)
    (first_stands log body uuid epoch first some is.same_body) (tt, refl))

-- what `format` promises
pub is_formatted : (uuid : List ℕ) (epoch first : ℕ) (old : DiskState) (commits : CommitsState) (sectors : ℕ) (room : Room)
    (held rows : List Row) (reserved : ℕ) → IsFormatted (first_body uuid epoch first) commits
    → 0 < sectors → commits.disk.size ≡ old.size → sectors ≡ log_of commits.disk.size → room ≡ empty_log sectors → held ≡ []
    → rows ≡ [] → IsFormattedLog uuid epoch first old (view_of room (begin first) held rows commits reserved)
is_formatted uuid epoch first old commits sectors room held rows reserved is some size sectors_is room_is held_is rows_is =
    let P : ℕ → Type 0 = λ n. HoldsNow (Leaves n (IsCommit 0 (first_body uuid epoch first))) commits.disk.moments in
    let entries = formatted_entries sectors uuid epoch first commits.disk.moments some (subst P (sym sectors_is) is.stands) in
    subst₂ (λ r list. IsFormattedLog uuid epoch first old (view_of r (begin first) held list commits reserved)) (sym room_is)
    (sym rows_is)
    (subst (λ h. IsFormattedLog uuid epoch first old (view_of (empty_log sectors) (begin first) h [] commits reserved))
    (sym held_is) (record {
      room = ap empty_log (sectors_is ∙ ap log_of size);
      held = refl;
      start = refl;
      first = refl;
      rows = refl;
      all = refl;
      entries = refl;
      commits = is.first;
      stands = entries;
      synced = is.synced;
    }))
