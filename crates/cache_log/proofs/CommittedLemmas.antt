-- The commits of a log, and the entries of each.
use Rattle.std.proofs.Common.{◌≡◌, ℕ, ◌+◌, ◌-◌, ◌≤◌, List, [], ◌∷◌, ◌++◌, length, map, refl, sym, ◌∙◌, ap, subst, inl, inr, arith}
use Rattle.std.specs.Prelude.{Option, Some, None, IfSome}
use Rattle.std.specs.List.{AllByRecursion}
use Rattle.std.proofs.lemmas.List.{append_cancel_right}
use Rattle.std.proofs.Math.Path.{subst₂}
use Rattle.lsvd_base.specs.declared.entry.Entry.{Entry}
use Rattle.lsvd_device.specs.Medium.{Medium, MayLeave}
use Rattle.lsvd_device.specs.Device.{HoldsSince, HoldsNow}
use Rattle.commit_body.specs.declared.body.CommitBody.{CommitBody}
use Rattle.commit_body.specs.declared.body.Mark.{Mark}
use Rattle.commit_slot.specs.Commits.{CommitsState, Leaves, IsLast, IsAsBefore, finished_number, finished_body}
use Rattle.commit_slot.proofs.Passing.{passes_as}
use Rattle.cache_log.specs.declared.row.Row.{Row}
use Rattle.cache_log.specs.Rows.{seq_of, entry_of, sectors_taken, next, Follow, HaveRecords, between, entries_between}
use Rattle.cache_log.specs.Log.{LogState, entries_in}
use Rattle.cache_log.specs.Committed.{HasRecords, LeavesEntries}
use Rattle.cache_log.specs.Invariant.{RecordsLast, EachCommitted, IsCommitOfRows, IsCommitOfLog, AreCommitsOfLog, Holds}
use Rattle.cache_log.proofs.Slices.{between_more, entries_between_more}
use Rattle.log_room.specs.Room.{Room}

-- how a log is seen
abbrev pub view_of : Room → Mark → (held rows : List Row) → CommitsState → (reserved : ℕ) → LogState
view_of place mark held rows commits reserved = record {
  room = place;
  held = held;
  start = mark.position;
  first = mark.seq;
  rows = rows;
  all = entries_in (held ++ rows) commits.disk.moments;
  entries = entries_in rows commits.disk.moments;
  commits = commits;
  reserved = reserved;
}

-- ---- each commit

some_as : (P Q : CommitBody → Type 0) (unfinished : Option CommitBody) → ((body : CommitBody) → P body → Q body)
    → IfSome unfinished P → IfSome unfinished Q
some_as P Q None follows has = tt
some_as P Q (Some more) follows has = follows more has

pub each_as : (P Q : CommitBody → Type 0) (commits : CommitsState) → ((body : CommitBody) → P body → Q body)
    → EachCommitted P commits → EachCommitted Q commits
each_as P Q commits follows each = (follows commits.body each.0, some_as P Q commits.unfinished follows each.1)

some_both : (P Q : CommitBody → Type 0) (unfinished : Option CommitBody) → IfSome unfinished P → IfSome unfinished Q
    → IfSome unfinished (λ body. P body × Q body)
some_both P Q None a b = tt
some_both P Q (Some more) a b = (a, b)

pub each_both : (P Q : CommitBody → Type 0) (commits : CommitsState) → EachCommitted P commits → EachCommitted Q commits
    → EachCommitted (λ body. P body × Q body) commits
each_both P Q commits a b = ((a.0, b.0), some_both P Q commits.unfinished a.1 b.1)

pub each_same : (P : CommitBody → Type 0) (old new : CommitsState) → IsAsBefore old new → EachCommitted P old
    → EachCommitted P new
each_same P old new same each = subst₂ (λ b u. P b × IfSome u P) (sym same.same_body) (sym same.same_unfinished) each

pub finished_has : (P : CommitBody → Type 0) (body : CommitBody) (unfinished : Option CommitBody) → P body → IfSome unfinished P
    → P (finished_body body unfinished)
finished_has P body None has more = has
finished_has P body (Some other) has more = more

pub each_last : (P : CommitBody → Type 0) (commits : CommitsState) (number : ℕ) (body : CommitBody) → EachCommitted P commits
    → IsLast commits number body → P body
each_last P commits number body each (inl is) = subst P (sym is.same_body) each.0
each_last P commits number body each (inr is) =
    subst P (sym is.same_body) (finished_has P commits.body commits.unfinished each.0 each.1)

-- the last commit is as before
pub last_as : (old new : CommitsState) (number : ℕ) (body : CommitBody) → IsAsBefore old new → IsLast new number body
    → IsLast old number body
last_as old new number body same (inl is) =
    inl (record { same_number = is.same_number ∙ same.same_number; same_body = is.same_body ∙ same.same_body })
last_as old new number body same (inr is) = inr (record {
  same_number = is.same_number ∙ ap (λ n. finished_number n new.unfinished) same.same_number
      ∙ ap (finished_number old.number) same.same_unfinished;
  same_body = is.same_body ∙ ap (λ b. finished_body b new.unfinished) same.same_body
      ∙ ap (finished_body old.body) same.same_unfinished;
})

-- where no second half is left
pub none_each : (P : CommitBody → Type 0) (unfinished : Option CommitBody) → unfinished ≡ None → IfSome unfinished P
none_each P unfinished none = (let Q : Option CommitBody → Type 0 = λ u. IfSome u P in subst Q (sym none) tt)

-- the commits of a log
pub each_of : (place : Room) (mark : Mark) (own : ℕ) (held rows : List Row) (commits : CommitsState)
    → AreCommitsOfLog place mark own held rows commits.body commits.unfinished
    → EachCommitted (IsCommitOfLog place mark own held rows) commits
each_of place mark own held rows commits are = (
  are.0,
  some_as (λ more. (is : IsCommitOfLog place mark own held rows more) × (is.used ≤ are.0.used)
      × (commits.body.tail.seq ≤ more.tail.seq)) (IsCommitOfLog place mark own held rows) commits.unfinished
      (λ more is. is.0) are.1,
)

-- ---- the first rows

pub follow_part : (rows more : List Row) (log from used : ℕ) → Follow log from used (rows ++ more) → (some : ℕ) × (some ≤ used)
    × Follow log from some rows
follow_part [] more log from used follow = (0, omega arith, refl)
follow_part (row ∷ rows) more log from used (stands, enough, after) =
    let rest = follow_part rows more log (next log row) (used - sectors_taken log from row) after in
    let n : ℕ = sectors_taken log from row in
    let left : rest.0 ≡ (n + rest.0) - n = omega arith in
    let P : ℕ → Type 0 = λ u. Follow log (next log row) u rows in
    let part = rest.1 in
    (n + rest.0, omega (arith, part, enough), (stands, omega arith, subst P left rest.2))

-- ---- the entries of a commit

-- bytes with the records of a commit have its entries
pub has_records : (place : Room) (used : ℕ) (rows : List Row) (list : List Entry) (body : CommitBody) (bytes : List ℕ)
    → used ≤ place.log → IsCommitOfRows place rows used body
    → HaveRecords place.log body.tail.position body.tail.seq (between body rows) bytes
    × (map (entry_of bytes) (between body rows) ≡ entries_between body rows list)
    → HasRecords place.log body (entries_between body rows list) bytes
has_records place used rows list body bytes most is have =
    let part = follow_part (between body rows) is.more place.log body.tail.position used
    (subst (Follow place.log body.tail.position used) is.whole is.reach.follow) in
    let few = part.1 in (
      between body rows,
      record {
        used = part.0;
        most = omega (arith, few, most);
        follow = part.2;
        end = is.end;
        numbered = is.numbered;
        seqs = is.seqs;
        records = have.0;
      },
      sym have.1,
    )

-- ---- what a stop leaves

-- at a moment the records of each commit last
abbrev pub HeldAt : (log : ℕ) → List Row → List Entry → CommitsState → Medium → Type 0
HeldAt log rows list commits medium = EachCommitted (Holds log rows list medium) commits

-- a log's commits
pub record AreCommits (place : Room) (rows : List Row) (commits : CommitsState) : Type 0 where
  pub each : EachCommitted (λ body. (used : ℕ) × (used ≤ place.log) × IsCommitOfRows place rows used body) commits

pub are_commits : (place : Room) (mark : Mark) (own : ℕ) (held rows : List Row) (commits : CommitsState) → place.used ≤ place.log
    → AreCommitsOfLog place mark own held rows commits.body commits.unfinished → AreCommits place (held ++ rows) commits
are_commits place mark own held rows commits most are = record {
  each =
      each_as (IsCommitOfLog place mark own held rows) (λ body. (used : ℕ) × (used ≤ place.log)
      × IsCommitOfRows place (held ++ rows) used body) commits
      (λ body is. (is.used, (let m = is.most in omega (arith, m, most)), is.is)) (each_of place mark own held rows commits are);
}

pub held_left : (place : Room) (rows : List Row) (list : List Entry) (commits : CommitsState) (medium : Medium)
    → AreCommits place rows commits → HeldAt place.log rows list commits medium
    → (left : List ℕ) → MayLeave medium left → (number : ℕ) (body : CommitBody) → IsLast commits number body
    → HasRecords place.log body (entries_between body rows list) left
held_left place rows list commits medium are held left may number body is =
    let P : CommitBody → Type 0 = λ b. (used : ℕ) × (used ≤ place.log) × IsCommitOfRows place rows used b in
    let both = each_both P (Holds place.log rows list medium) commits are.each held in
    let one = each_last (λ b. P b × Holds place.log rows list medium b) commits number body both is in
    has_records place one.0.0 rows list body left one.0.1 one.0.2 (one.1.1 left may)

pub leaves_entries : (log : ℕ) (rows : List Row) (list : List Entry) (P : ℕ → CommitBody → Type 0) (medium : Medium)
    → Leaves log P medium
    → ((left : List ℕ) → MayLeave medium left → (number : ℕ) (body : CommitBody) → P number body
    → HasRecords log body (entries_between body rows list) left) → LeavesEntries log rows list P medium
leaves_entries log rows list P medium leaves has = λ left may.
    let is = leaves left may in
    (is.0, is.1, is.2, is.3, has left may is.0 is.1 is.2)

-- two facts of the moments since then
pub both_pass : (P Q : Medium → Type 0) (old new : List Medium) → HoldsSince P old new → HoldsSince Q old new
    → HoldsSince (λ m. P m × Q m) old new
both_pass P Q old new a b =
    let same : b.since ≡ a.since = append_cancel_right b.since a.since old (sym b.moments ∙ a.moments) in
    record { since = a.since; moments = a.moments; each = each_pair a.since a.each (subst (AllByRecursion Q) same b.each) }
  where
    each_pair : (since : List Medium) → AllByRecursion P since → AllByRecursion Q since → AllByRecursion (λ m. P m × Q m) since
    each_pair [] a b = tt
    each_pair (now ∷ past) a b = ((a.0, b.0), each_pair past a.1 b.1)

-- where the entries are told
pub since_entries : (place : Room) (rows : List Row) (commits : CommitsState) (old new : List Medium)
    → AreCommits place rows commits → HoldsSince (Leaves place.log (IsLast commits)) old new
    → HoldsNow (λ now. HoldsSince (HeldAt place.log rows (map (entry_of now.bytes) rows) commits) old new) old
    → IfSome (entries_in rows old) (λ list. HoldsSince (LeavesEntries place.log rows list (IsLast commits)) old new)
since_entries place rows commits [] new are leaves held = tt
since_entries place rows commits (now ∷ past) new are leaves held =
    let log : ℕ = place.log in
    let list : List Entry = map (entry_of now.bytes) rows in
    passes_as (λ m. Leaves log (IsLast commits) m × HeldAt log rows list commits m) (LeavesEntries log rows list (IsLast commits))
    (now ∷ past) new
    (λ medium is. leaves_entries log rows list (IsLast commits) medium is.0 (held_left place rows list commits medium are is.1))
    (both_pass (Leaves log (IsLast commits)) (HeldAt log rows list commits) (now ∷ past) new leaves held)

pub now_entries : (place : Room) (rows : List Row) (commits : CommitsState) (moments : List Medium)
    → AreCommits place rows commits → HoldsNow (Leaves place.log (IsLast commits)) moments
    → HoldsNow (λ now. HeldAt place.log rows (map (entry_of now.bytes) rows) commits now) moments
    → IfSome (entries_in rows moments) (λ list. HoldsNow (LeavesEntries place.log rows list (IsLast commits)) moments)
now_entries place rows commits [] are leaves held = tt
now_entries place rows commits (now ∷ past) are leaves held =
    leaves_entries place.log rows (map (entry_of now.bytes) rows) (IsLast commits) now leaves
    (held_left place rows (map (entry_of now.bytes) rows) commits now are held)

pub now_committed : (place : Room) (rows : List Row) (commits : CommitsState) (moments : List Medium)
    → AreCommits place rows commits
    → HoldsNow (λ now. HeldAt place.log rows (map (entry_of now.bytes) rows) commits now) moments
    → IfSome (entries_in rows moments) (λ list. HoldsNow (λ now. (left : List ℕ) → MayLeave now left
    → (number : ℕ) (body : CommitBody) → IsLast commits number body → HasRecords place.log body (entries_between body rows list)
    left) moments)
now_committed place rows commits [] are held = tt
now_committed place rows commits (now ∷ past) are held = held_left place rows (map (entry_of now.bytes) rows) commits now are held

-- ---- one row more

-- what lasts of some rows and entries lasts of those with more after them
pub holds_more : (log : ℕ) (rows : List Row) (row : Row) (list : List Entry) (entry : Entry) (body : CommitBody) (medium : Medium)
    → body.head.seq ≤ seq_of row → length list ≡ length rows
    → Holds log rows list medium body → Holds log (rows ++ row ∷ []) (list ++ entry ∷ []) medium body
holds_more log rows row list entry body medium on same holds =
    subst₂ (λ r l. HaveRecords log body.tail.position body.tail.seq r medium.bytes
    × RecordsLast log body.tail.position body.tail.seq r l medium)
    (sym (between_more rows row body on)) (sym (entries_between_more rows row list entry body on same)) holds
