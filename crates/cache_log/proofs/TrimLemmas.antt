-- A log before and after `trim_to`.
use Rattle.std.proofs.Common.{◌≡◌, ℕ, ◌+◌, ◌-◌, ◌<◌, ◌≤◌, ◌^◌, List, [], ◌∷◌, ◌++◌, zero, suc, length, take, drop, map, refl, sym}
use Rattle.std.proofs.Common.{◌∙◌, ap, subst, arith, append_assoc}
use Rattle.std.specs.Prelude.{Some, min}
use Rattle.std.specs.Option.{option_map}
use Rattle.std.specs.List.{AllByRecursion}
use Rattle.std.proofs.Math.Path.{subst₂}
use Rattle.std.proofs.Math.Seq.{take-add}
use Rattle.std.proofs.lemmas.List.{take-append-drop, drop-drop, drop-map, take_min, drop_min, length-drop}
use Rattle.lsvd_device.specs.Medium.{Medium}
use Rattle.lsvd_device.specs.Device.{HoldsNow}
use Rattle.log_room.specs.Room.{Room}
use Rattle.commit_body.specs.declared.body.CommitBody.{CommitBody}
use Rattle.commit_body.specs.declared.body.Mark.{Mark}
use Rattle.commit_slot.specs.Commits.{CommitsState}
use Rattle.cache_log.specs.declared.row.Row.{Row}
use Rattle.cache_log.specs.Rows.{seq_of, entry_of, AreNumbered, HaveRecords, since}
use Rattle.cache_log.specs.Log.{LogState, entries_in, start_of, IsTrimmed}
use Rattle.cache_log.specs.Invariant.{IsLog, IsCommitOfRows, IsCommitOfLog}
use Rattle.cache_log.proofs.CommittedLemmas.{view_of, HeldAt}
use Rattle.cache_log.proofs.Reaches.{drop_reach, drop_have, drop_numbered}
use Rattle.cache_log.proofs.WriteLemmas.{moved_commits, moved_first}

-- ---- the rows that are dropped

below_more : (rows : List Row) (m n : ℕ) → m ≤ n → AllByRecursion (λ row. seq_of row < m) rows
    → AllByRecursion (λ row. seq_of row < n) rows
below_more [] m n less all = tt
below_more (row ∷ rows) m n less all = (let e = all.0 in omega (arith, e, less), below_more rows m n less all.1)

below_both : (rows others : List Row) (n : ℕ) → AllByRecursion (λ row. seq_of row < n) rows
    → AllByRecursion (λ row. seq_of row < n) others → AllByRecursion (λ row. seq_of row < n) (rows ++ others)
below_both [] others n a b = b
below_both (row ∷ rows) others n a b = (a.0, below_both rows others n a.1 b)

first_below : (rows : List Row) (k seq : ℕ) → AreNumbered seq rows → AllByRecursion (λ row. seq_of row < seq + k) (take k rows)
first_below [] zero seq are = tt
first_below [] (suc k) seq are = tt
first_below (row ∷ rows) zero seq are = tt
first_below (row ∷ rows) (suc k) seq are =
    let P : ℕ → Type 0 = λ n. AllByRecursion (λ r. seq_of r < n) (take k rows) in
    let e = are.0 in
    (omega (arith, e), subst P (omega arith) (first_below rows k (seq + 1) are.1))

-- as many as there are, at most
pub counted : (d count k : ℕ) (items : List Row) → count ≡ min k (length (drop d items))
    → drop (d + count) items ≡ drop k (drop d items)
counted d count k items is = ap (λ n. drop (d + n) items) is ∙ sym (drop-drop (min k (length (drop d items))) d items)
    ∙ drop_min k (drop d items)

pub counted_first : (d count k : ℕ) (items : List Row) → count ≡ min k (length (drop d items))
    → take (d + count) items ≡ take d items ++ take k (drop d items)
counted_first d count k items is = ap (λ n. take (d + n) items) is ∙ take-add d (min k (length (drop d items))) items
    ∙ ap (λ l. take d items ++ l) (take_min k (drop d items))

-- ---- the log

each_drop : (rows : List Row) (k log from seq head : ℕ) (moments : List Medium)
    → HoldsNow (λ now. HaveRecords log from seq rows now.bytes) moments
    → HoldsNow (λ now. HaveRecords log (start_of head (drop k rows)) (seq + k) (drop k rows) now.bytes) moments
each_drop rows k log from seq head [] have = tt
each_drop rows k log from seq head (now ∷ past) have = drop_have rows k log from seq head now.bytes have

-- the mark when the entries of the first K rows are dropped
abbrev pub mark_after : Room → Mark → (k : ℕ) → List Row → Mark
mark_after place mark k rows = record { position = start_of place.head (drop k rows); seq = mark.seq + k }

pub trim_log : (place : Room) (mark : Mark) (k : ℕ) (held rows : List Row) (commits : CommitsState)
    → IsLog place mark held rows commits → mark.seq + k < 2 ^ 64
    → IsLog place (mark_after place mark k rows) (held ++ take k rows) (drop k rows) commits
trim_log place mark k held rows commits log small =
    let is = log.is in
    let after : Mark = mark_after place mark k rows in
    let dropped : List Row = held ++ take k rows in
    let left : List Row = drop k rows in
    let whole : held ++ rows ≡ dropped ++ left =
    sym (append_assoc held (take k rows) (drop k rows) ∙ ap (λ l. held ++ l) (take-append-drop k rows)) in
    let last = is.committed.0 in
    let a = last.least in
    let b = last.most in
    let u = is.room.used in
    let n = length-drop k rows in
    let own = drop_reach rows k place mark.position is.least is.room (omega (arith, a, b, u)) is.reach in
    let w = own.within in
    let of : (body : CommitBody) → (c : IsCommitOfLog place mark is.least held rows body)
    → (d : IsCommitOfLog place after own.used dropped left body) × (d.used ≡ c.used + 0) =
    λ body c.
    let l = c.least in
    let t = c.tail in
    let h = c.head in
    let P : List Row → Type 0 = λ r. IsCommitOfRows place r c.used body in (
      record {
        used = c.used;
        least = omega (arith, w, l);
        most = c.most;
        is = subst P whole c.is;
        tail = omega (arith, t);
        head = omega (arith, h, n);
      },
      omega arith,
    ) in
    let used = moved_first place place mark after is.least own.used held dropped rows left 0 commits.body commits.unfinished of
    is.committed in
    let F : List Row → Type 0 = λ r. since commits.body.tail.seq r ≡ r in
    let L : List Row → Type 0 = λ r. HoldsNow (λ now. HeldAt place.log r (map (entry_of now.bytes) r) commits now)
    commits.disk.moments in
    record {
      is = record {
        room = is.room;
        least = own.used;
        reach = own.reach;
        numbered = drop_numbered rows k mark.seq is.numbered;
        below = below_both held (take k rows) (mark.seq + k) (below_more held mark.seq (mark.seq + k) (omega arith) is.below)
            (first_below rows k mark.seq is.numbered);
        records = each_drop rows k place.log mark.position mark.seq place.head commits.disk.moments is.records;
        committed = moved_commits place place mark after is.least own.used held dropped rows left 0 commits.body
            commits.unfinished of is.committed;
        last = subst L whole is.last;
        on_disk = is.on_disk;
        sectors = is.sectors;
        fits = is.fits;
        numbers = (let m = is.numbers in omega (arith, n, m, small));
      };
      from = subst F whole log.from;
      used = (let e = log.used in omega (arith, used, e));
    }

-- ---- what `trim_to` promises

dropped_entries : (rows : List Row) (k : ℕ) (moments : List Medium)
    → entries_in (drop k rows) moments ≡ option_map (drop k) (entries_in rows moments)
dropped_entries rows k [] = refl
dropped_entries rows k (now ∷ past) = ap Some (sym (drop-map (entry_of now.bytes) k rows))

trimmed : (place : Room) (mark : Mark) (seq : ℕ) (held rows : List Row) (commits : CommitsState) (reserved : ℕ)
    → IsTrimmed seq (view_of place mark held rows commits reserved)
    (view_of place (mark_after place mark (seq - mark.seq) rows) (held ++ take (seq - mark.seq) rows) (drop (seq - mark.seq) rows)
    commits reserved)
trimmed place mark seq held rows commits reserved =
    let k : ℕ = seq - mark.seq in
    let whole : (held ++ take k rows) ++ drop k rows ≡ held ++ rows = append_assoc held (take k rows) (drop k rows)
    ∙ ap (λ l. held ++ l) (take-append-drop k rows) in
    record {
      held = refl;
      rows = refl;
      entries = dropped_entries rows k commits.disk.moments;
      all = ap (λ r. entries_in r commits.disk.moments) whole;
      first = refl;
      start = refl;
      room = refl;
      commits = refl;
      reserved = refl;
    }

-- the mark, made of its parts
marked : (place : Room) (mark : Mark) (seq position first d n : ℕ) (items : List Row) → first ≡ mark.seq + (seq - mark.seq)
    → n ≡ min (seq - mark.seq) (length (drop d items))
    → position ≡ start_of place.head (drop (d + n) items) → record { position = position; seq = first } ≡ mark_after place mark
    (seq - mark.seq) (drop d items)
marked place mark seq position first d n items begins is at =
    let k : ℕ = seq - mark.seq in
    ap (λ p. record { position = p; seq = first }) (at ∙ ap (start_of place.head) (counted d n k items is))
    ∙ ap (λ s. record { position = start_of place.head (drop k (drop d items)); seq = s }) begins

-- so it is of the rows of which more are held then
pub trimmed_log : (place : Room) (mark : Mark) (seq position first d n : ℕ) (items : List Row) (commits : CommitsState)
    → IsLog place mark (take d items) (drop d items) commits → first < 2 ^ 64
    → first ≡ mark.seq + (seq - mark.seq) → n ≡ min (seq - mark.seq) (length (drop d items))
    → position ≡ start_of place.head (drop (d + n) items)
    → IsLog place (record { position = position; seq = first }) (take (d + n) items) (drop (d + n) items) commits
trimmed_log place mark seq position first d n items commits log small begins is at =
    let k : ℕ = seq - mark.seq in
    let rows : List Row = drop d items in
    let done = trim_log place mark k (take d items) rows commits log (omega (arith, begins, small)) in
    let P : Mark → List Row → List Row → Type 0 = λ m h r. IsLog place m h r commits in
    subst (λ m. P m (take (d + n) items) (drop (d + n) items)) (sym (marked place mark seq position first d n items begins is at))
    (subst₂ (λ h r. P (mark_after place mark k rows) h r) (sym (counted_first d n k items is))
    (sym (counted d n k items is)) done)

pub is_trimmed : (place : Room) (mark : Mark) (seq position first d n : ℕ) (items : List Row) (commits : CommitsState)
    (before after : ℕ) (log : LogState) → view_of place mark (take d items) (drop d items) commits before ≡ log
    → first ≡ mark.seq + (seq - mark.seq) → n ≡ min (seq - mark.seq) (length (drop d items))
    → position ≡ start_of place.head (drop (d + n) items) → after ≡ before
    → IsTrimmed seq log (view_of place (record { position = position; seq = first }) (take (d + n) items) (drop (d + n) items)
    commits after)
is_trimmed place mark seq position first d n items commits before after log seen begins is at same =
    let k : ℕ = seq - mark.seq in
    let rows : List Row = drop d items in
    let done = trimmed place mark seq (take d items) rows commits before in
    let Q : LogState → Mark → List Row → List Row → ℕ → Type 0 = λ l m h r u. IsTrimmed seq l (view_of place m h r commits u) in
    subst₂ (λ l u. Q l (record { position = position; seq = first }) (take (d + n) items) (drop (d + n) items) u) seen (sym same)
    (subst (λ m. Q (view_of place mark (take d items) rows commits before) m (take (d + n) items) (drop (d + n) items) before)
    (sym (marked place mark seq position first d n items begins is at))
    (subst₂ (λ h r. Q (view_of place mark (take d items) rows commits before) (mark_after place mark k rows) h r before)
    (sym (counted_first d n k items is)) (sym (counted d n k items is)) done))
