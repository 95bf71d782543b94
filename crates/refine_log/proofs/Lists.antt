-- What the list of a log shows, also once the records before a later commit's tail are released.
use Rattle.std.proofs.Common.{◌≡◌, ℕ, ◌+◌, ◌-◌, ◌≤◌, ◌⊎◌, ◌==◌, Bool, true, false, List, [], ◌∷◌, ◌++◌, zero, suc, length, take}
use Rattle.std.proofs.Common.{drop, refl, sym, ◌∙◌, ap, subst, inl, inr, arith, if◌then◌else◌, length-append}
use Rattle.std.proofs.Math.Path.{subst₂}
use Rattle.std.proofs.lemmas.Bool.{cases_eq, lt-ltb, le-ltb, eq-eqb, ne_eqb}
use Rattle.std.proofs.lemmas.List.{take-append-drop, drop-append-le, drop_at, length-take-le, length-drop}
use Rattle.log_room.specs.Room.{Room, IsRoom, room_of}
use Rattle.commit_body.specs.declared.body.Mark.{Mark}
use Rattle.cache_log.specs.declared.row.Row.{Row}
use Rattle.cache_log.specs.Rows.{seq_of, position_of, next, end_of_rows, AreNumbered, since}
use Rattle.cache_log.specs.Log.{start_of}
use Rattle.cache_log.specs.Committed.{sectors_from}
use Rattle.plain_disk.specs.declared.log.PlainRecord.{PlainRecord}
use Rattle.plain_disk.specs.Log.{past_pad}
use Rattle.refine_log.specs.Shows.{pad_from, record_of_row, records_of_rows}
use Rattle.refine_log.proofs.Following.{Reaches, reach_behind, reach_from_first, reach_used, records_behind, records_count}

-- ---- rows by their seqs

pub numbered_first : (rows more : List Row) (seq : ℕ) → AreNumbered seq (rows ++ more) → AreNumbered seq rows
numbered_first [] more seq are = tt
numbered_first (row ∷ rows) more seq are = (are.0, numbered_first rows more (seq + 1) are.1)

numbered_from : (rows : List Row) (n seq : ℕ) → AreNumbered seq rows → AreNumbered (seq + n) (drop n rows)
numbered_from [] zero seq are = tt
numbered_from [] (suc n) seq are = tt
numbered_from (row ∷ rows) zero seq are = subst (λ s. AreNumbered s (row ∷ rows)) (omega arith) are
numbered_from (row ∷ rows) (suc n) seq are =
    subst (λ s. AreNumbered s (drop n rows)) (omega arith) (numbered_from rows n (seq + 1) are.1)

pub numbered_more : (rows : List Row) (row : Row) (seq : ℕ) → AreNumbered seq rows → seq_of row ≡ seq + length rows
    → AreNumbered seq (rows ++ row ∷ [])
numbered_more [] row seq are is = (omega (arith, is), tt)
numbered_more (first ∷ rows) row seq are is = (are.0, numbered_more rows row (seq + 1) are.1 (omega (arith, is)))

-- those of a seq and greater ones are left when the first ones are dropped
since_is : (rows : List Row) (n seq : ℕ) → AreNumbered seq rows → since (seq + n) rows ≡ drop n rows
since_is [] zero seq are = refl
since_is [] (suc n) seq are = refl
since_is (row ∷ rows) zero seq are =
    let own = are.0 in
    ap (λ b. if b then since (seq + 0) rows else row ∷ rows) (le-ltb (seq_of row) (seq + 0) (omega (arith, own)))
since_is (row ∷ rows) (suc n) seq are =
    let own = are.0 in
    let next : seq + suc n ≡ (seq + 1) + n = omega arith in
    ap (λ b. if b then since (seq + suc n) rows else row ∷ rows) (lt-ltb (seq_of row) (seq + suc n) (omega (arith, own)))
    ∙ ap (λ m. since m rows) next
    ∙ since_is rows n (seq + 1) are.1

-- ---- the list

-- what a log shows of its list, where the tail of its last commit is this mark
pub record ShowsList (room : Room) (tail : Mark) (held rows : List Row) (start first : ℕ) : Type 0 where
  pub is_room : IsRoom room
  pub reach : Reaches room.log tail.position room.used room.head (held ++ rows)
  pub numbered : AreNumbered tail.seq (held ++ rows)
  pub counted : tail.seq + length held ≡ first
  pub begins : start ≡ start_of room.head rows

-- a later mark stands at the first of these rows, or where those before them end
abbrev pub IsMarkAt : (position head end : ℕ) → List Row → Type 0
IsMarkAt position head end rows = (position ≡ start_of head rows) ⊎ (position ≡ end)

-- a mark stands so in these rows, from a tail on
abbrev pub StandsIn : Room → (tail : Mark) → List Row → (mark : Mark) → Type 0
StandsIn room tail rows mark =
    IsMarkAt mark.position room.head (end_of_rows room.log tail.position (take (mark.seq - tail.seq) rows))
    (drop (mark.seq - tail.seq) rows)

-- ---- without the pad that the mark is past

one_pad : (is_past : Bool) (stored : PlainRecord) (pad : ℕ) → (if is_past then 0 else stored.pad) ≡ pad
    → (if is_past then record stored { pad = 0 } else stored) ≡ record stored { pad = pad }
one_pad true stored pad is = ap (λ (p : ℕ). record stored { pad = p }) is
one_pad false stored pad is = ap (λ (p : ℕ). record stored { pad = p }) is

no_pad : (log from : ℕ) (row : Row) → from ≤ position_of row → pad_from log from row ≡ 0
no_pad log from row on = ap (λ b. if b then log - from else 0) (le-ltb (position_of row) from on)

first_pad : (log end position head : ℕ) (row : Row) (rows : List Row) → IsMarkAt position head end (row ∷ rows)
    → (if position_of row == position then 0 else pad_from log end row) ≡ pad_from log position row
first_pad log end position head row rows (inl at) =
    ap (λ b. if b then 0 else pad_from log end row) (eq-eqb (position_of row) position (sym at))
    ∙ sym (no_pad log position row (omega (arith, at)))
first_pad log end position head row rows (inr at) =
    elim (cases_eq (position_of row) position) [
      | inl same ↦
          ap (λ b. if b then 0 else pad_from log end row) (eq-eqb (position_of row) position same)
          ∙ sym (no_pad log position row (omega (arith, same)))
      | inr other ↦ ap (λ b. if b then 0 else pad_from log end row) (ne_eqb (position_of row) position other)
          ∙ ap (λ f. pad_from log f row) (sym at)
    ]

past_is : (rows : List Row) (log end position head : ℕ) → IsMarkAt position head end rows
    → past_pad position (records_of_rows log end rows) ≡ records_of_rows log position rows
past_is [] log end position head at = refl
past_is (row ∷ rows) log end position head at =
    ap (λ stored. stored ∷ records_of_rows log (next log row) rows)
    (one_pad (position_of row == position) (record_of_row log end row) (pad_from log position row)
    (first_pad log end position head row rows at))

-- ---- released

-- the records from the mark on reach the head
reach_mark : (room : Room) (rows : List Row) (end left position : ℕ) → IsRoom room → Reaches room.log end left room.head rows
    → IsMarkAt position room.head end rows
    → (used : ℕ) × Reaches room.log position used room.head rows
reach_mark room rows end left position is reach (inr at) =
    (left, subst (λ p. Reaches room.log p left room.head rows) (sym at) reach)
reach_mark room [] end left position is reach (inl at) =
    (0, record { inside = (let h = is.head in omega (arith, h, at)); most = omega arith; follow = refl; end = at })
reach_mark room (row ∷ rows) end left position is reach (inl at) =
    subst (λ p. (used : ℕ) × Reaches room.log p used room.head (row ∷ rows)) (sym at)
    (reach_from_first row rows room.log end left room.head reach)

-- the room once the records before a mark are released, of which these are left
abbrev pub released_room : Room → Mark → List Row → Room
released_room room mark rows = room_of room.log room.head (sectors_from room.log mark.position room.head rows)

released_is : (room : Room) (mark : Mark) (rows : List Row) (used : ℕ) → IsRoom room
    → Reaches room.log mark.position used room.head rows
    → IsRoom (released_room room mark rows) × Reaches room.log mark.position (sectors_from room.log mark.position room.head rows)
    room.head rows
released_is room mark rows used is reach =
    let now : used ≡ sectors_from room.log mark.position room.head rows =
    reach_used rows room.log mark.position used room.head reach in
    let most = reach.most in (
      record { limit = is.limit; head = is.head; used = omega (arith, now, most) },
      subst (λ u. Reaches room.log mark.position u room.head rows) now reach,
    )

-- the records of rows, without those of the first ones
records_drop : (rows : List Row) (n log from : ℕ) → n ≤ length rows
    → drop n (records_of_rows log from rows) ≡ records_of_rows log (end_of_rows log from (take n rows)) (drop n rows)
records_drop rows n log from most =
    let before : List Row = take n rows in
    let rest : List Row = drop n rows in
    let count : length (records_of_rows log from before) ≡ n = records_count before log from ∙ length-take-le n rows most in
    ap (λ l. drop n (records_of_rows log from l)) (sym (take-append-drop n rows))
    ∙ ap (drop n) (records_behind before rest log from)
    ∙ drop_at (records_of_rows log from before) (records_of_rows log (end_of_rows log from before) rest) n count

-- ---- a mark in the list

-- The records before a mark are released, and those from it on are left.
pub record IsReleasedTo (room : Room) (tail mark : Mark) (held rows : List Row) (start first : ℕ) : Type 0 where
  pub list : ShowsList (released_room room mark (since mark.seq held ++ rows)) mark (since mark.seq held) rows start first
  pub records :
      past_pad mark.position (drop (mark.seq - tail.seq) (records_of_rows room.log tail.position (held ++ rows)))
      ≡ records_of_rows room.log mark.position (since mark.seq held ++ rows)

pub released : (room : Room) (tail mark : Mark) (held rows : List Row) (start first : ℕ)
    → ShowsList room tail held rows start first
    → tail.seq ≤ mark.seq → mark.seq ≤ first
    → StandsIn room tail (held ++ rows) mark
    → IsReleasedTo room tail mark held rows start first
released room tail mark held rows start first is order most at =
    let all : List Row = held ++ rows in
    let k : ℕ = mark.seq - tail.seq in
    let end : ℕ = end_of_rows room.log tail.position (take k all) in
    let counted = is.counted in
    let seq : tail.seq + k ≡ mark.seq = omega (arith, order) in
    let inside : k ≤ length held = omega (arith, counted, most) in
    let left : since mark.seq held ≡ drop k held =
    ap (λ m. since m held) (sym seq) ∙ since_is held k tail.seq (numbered_first held rows tail.seq is.numbered) in
    let whole : drop k all ≡ since mark.seq held ++ rows = drop-append-le k held rows inside ∙ ap (λ l. l ++ rows) (sym left) in
    let long = length-append held rows in
    let many = length-drop k held in
    let count : length (since mark.seq held) ≡ length held - k = ap length left ∙ many in
    let behind = reach_behind (take k all) (drop k all) room.log tail.position room.used room.head
    (subst (λ l. Reaches room.log tail.position room.used room.head l) (sym (take-append-drop k all)) is.reach) in
    let found = reach_mark room (drop k all) end behind.0 mark.position is.is_room behind.1 at in
    let ready = released_is room mark (since mark.seq held ++ rows) found.0 is.is_room
    (subst (λ l. Reaches room.log mark.position found.0 room.head l) whole found.1) in
    record {
      list = record {
        is_room = ready.0;
        reach = ready.1;
        numbered = subst₂ (λ s l. AreNumbered s l) seq whole (numbered_from all k tail.seq is.numbered);
        counted = omega (arith, counted, count, inside, order);
        begins = is.begins;
      };
      records =
          ap (past_pad mark.position) (records_drop all k room.log tail.position (omega (arith, inside, long)))
          ∙ past_is (drop k all) room.log end mark.position room.head at
          ∙ ap (records_of_rows room.log mark.position) whole;
    }

-- ---- the next commit's mark

-- where the records that are held are dropped, the list's first record is the first
pub next_mark : (room : Room) (tail : Mark) (held rows : List Row) (start first : ℕ) → ShowsList room tail held rows start first
    → start ≡ start_of room.head (drop (first - tail.seq) (held ++ rows))
next_mark room tail held rows start first is =
    let counted = is.counted in
    is.begins ∙ ap (start_of room.head) (sym (drop_at held rows (first - tail.seq) (omega (arith, counted))))

-- none is held where the tail is the list's begin
pub none_since : (rows : List Row) (n seq : ℕ) → AreNumbered seq rows → seq + length rows ≤ n → since n rows ≡ []
none_since [] n seq are most = refl
none_since (row ∷ rows) n seq are most =
    let own = are.0 in
    ap (λ b. if b then since n rows else row ∷ rows) (lt-ltb (seq_of row) n (omega (arith, own, most)))
    ∙ none_since rows n (seq + 1) are.1 (omega (arith, most))

-- and all are from their own tail on
pub all_since : (rows : List Row) (seq : ℕ) → AreNumbered seq rows → since seq rows ≡ rows
all_since [] seq are = refl
all_since (row ∷ rows) seq are =
    let own = are.0 in
    ap (λ b. if b then since seq rows else row ∷ rows) (le-ltb (seq_of row) seq (omega (arith, own)))
