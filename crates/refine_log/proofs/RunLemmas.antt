-- Rows that follow one another from one sector up to another stand where their sizes put them.
use Rattle.std.proofs.Common.{◌≡◌, ℕ, ◌+◌, ◌-◌, ◌*◌, ◌<◌, ◌≤◌, List, [], ◌∷◌, ◌++◌, length, map, get_or, take, drop, refl, sym}
use Rattle.std.proofs.Common.{◌∙◌, ap, subst, inl, inr, arith, if◌then◌else◌, ◌==◌}
use Rattle.std.specs.Prelude.{nat_lt}
use Rattle.std.proofs.lemmas.Bool.{cases_lt}
use Rattle.std.proofs.lemmas.List.{take-append-drop}
use Rattle.log_room.specs.Room.{record_sectors}
use Rattle.cache_log.specs.declared.row.Row.{Row}
use Rattle.cache_log.specs.declared.row.Row.TheVariants.{Write, Zero}
use Rattle.cache_log.specs.Rows.{byte_of, log_sectors, entry_of, position_of, record_size, sectors_taken, next, Follow}
use Rattle.cache_log.specs.Rows.{end_of_rows}
use Rattle.cache_log.proofs.RowLemmas.{sectors_count}
use Rattle.refine_log.specs.Shows.{record_of_row, records_of_rows}
use Rattle.refine_log.proofs.Following.{Reaches, reach_next, reach_used}

-- ---- one row

some_size : (row : Row) → 1 ≤ record_size row
some_size (Write own at lba sectors) = omega arith
some_size (Zero own at lba sectors) = omega arith

taken_here : (log from : ℕ) (row : Row) → position_of row ≡ from → sectors_taken log from row ≡ record_size row
taken_here log from row at = (let on : from ≤ position_of row = omega (arith, at) in grind (arith, on))

taken_round : (log from : ℕ) (row : Row) → position_of row < from → sectors_taken log from row ≡ (log - from) + record_size row
taken_round log from row less = grind (arith, less)

next_inside : (log : ℕ) (row : Row) → position_of row + record_size row < log → next log row ≡ position_of row + record_size row
next_inside log row less = grind (arith, less)

next_end : (log : ℕ) (row : Row) → position_of row + record_size row ≡ log → next log row ≡ 0
next_end log row end = grind (arith, end)

-- ---- how many sectors rows take

-- the sum of some sizes
abbrev sum_of_sizes : List ℕ → ℕ
sum_of_sizes [] = 0
sum_of_sizes (n ∷ sizes) = n + sum_of_sizes sizes

-- the sectors that the records of rows have, without pads
abbrev pub sizes_of : List Row → List ℕ
sizes_of rows = map record_size rows

-- rows that end before the log does need no pad
no_pads : (rows : List Row) (log from used : ℕ) → from < log → from + used ≤ log → Follow log from used rows
    → used ≡ sum_of_sizes (sizes_of rows)
no_pads [] log from used inside most none = none
no_pads (row ∷ rows) log from used inside most (inl here, enough, more) =
    let some = some_size row in
    let takes = taken_here log from row here.0 in
    elim (cases_lt (position_of row + record_size row) log) [
      | inl less ↦
          let to = next_inside log row less in
          let rest =
          no_pads rows log (next log row) (used - sectors_taken log from row) (omega (arith, to, less))
          (omega (arith, to, takes, here.0, enough, most)) more in
          omega (arith, rest, takes, enough)
      | inr on ↦
          let to = next_end log row (omega (arith, on, here.0, here.1)) in
          let rest =
          no_pads rows log (next log row) (used - sectors_taken log from row) (omega (arith, to, inside))
          (omega (arith, to, takes, enough, inside, most)) more in
          omega (arith, rest, takes, enough)
    ]
no_pads (row ∷ rows) log from used inside most (inr round, enough, more) =
    let some = some_size row in
    let takes = taken_round log from row (omega (arith, round.0, round.1)) in
    absurd (omega (arith, takes, enough, some, most, inside))

-- rows of which the first goes round take the sectors of a pad more, up to the log's end
rounds : (row : Row) (rows : List Row) (log from used : ℕ) → from < log → used ≤ log → position_of row ≡ 0 → 0 < from
    → sectors_taken log from row ≤ used → Follow log (next log row) (used - sectors_taken log from row) rows
    → used ≡ sum_of_sizes (sizes_of (row ∷ rows)) + (log - from)
rounds row rows log from used inside most at some enough more =
    let takes = taken_round log from row (omega (arith, at, some)) in
    let less : position_of row + record_size row < log = omega (arith, takes, enough, inside, at, most, some) in
    let to = next_inside log row less in
    let rest =
    no_pads rows log (next log row) (used - sectors_taken log from row) (omega (arith, to, less))
    (omega (arith, to, takes, at, enough, most, inside)) more in
    omega (arith, rest, takes, enough)

-- and those of which the first does not take fewer, where the others take no more than such a pad too
goes_on : (row : Row) (rows : List Row) (log from used : ℕ) → from < log → used ≤ log → position_of row ≡ from
    → from + record_size row ≤ log → sectors_taken log from row ≤ used
    → Follow log (next log row) (used - sectors_taken log from row) rows
    → used - sectors_taken log from row ≤ sum_of_sizes (sizes_of rows) + (log - next log row)
    → used < sum_of_sizes (sizes_of (row ∷ rows)) + (log - from)
goes_on row rows log from used inside most at fits enough more few =
    let some = some_size row in
    let takes = taken_here log from row at in
    elim (cases_lt (position_of row + record_size row) log) [
      | inl less ↦ (let to = next_inside log row less in omega (arith, to, takes, at, some, enough, few, less))
      | inr on ↦
          let to = next_end log row (omega (arith, on, at, fits)) in
          let rest =
          no_pads rows log (next log row) (used - sectors_taken log from row) (omega (arith, to, inside))
          (omega (arith, to, takes, enough, most)) more in
          omega (arith, rest, takes, enough, inside)
    ]

few_pads : (rows : List Row) (log from used : ℕ) → from < log → used ≤ log → Follow log from used rows
    → used ≤ sum_of_sizes (sizes_of rows) + (log - from)
few_pads [] log from used inside most none = omega (arith, none)
few_pads (row ∷ rows) log from used inside most (inl here, enough, more) =
    let some = some_size row in
    let takes = taken_here log from row here.0 in
    let to : next log row < log =
    elim (cases_lt (position_of row + record_size row) log) [
      | inl less ↦ (let e = next_inside log row less in omega (arith, e, less))
      | inr on ↦ (let e = next_end log row (omega (arith, on, here.0, here.1)) in omega (arith, e, inside))
    ] in
    let few = few_pads rows log (next log row) (used - sectors_taken log from row) to (omega (arith, most)) more in
    let fewer = goes_on row rows log from used inside most here.0 here.1 enough more few in
    omega (arith, fewer)
few_pads (row ∷ rows) log from used inside most (inr round, enough, more) =
    let all = rounds row rows log from used inside most round.0 round.1 enough more in
    omega (arith, all)

-- ---- rows of the same sizes

-- where rows reach as far as others of the same sizes, it cannot be that the first goes round in one of them alone
not_both : (log from used head : ℕ) (row : Row) (rows : List Row) (other : Row) (others : List Row)
    → Reaches log from used head (row ∷ rows)
    → Reaches log from used head (other ∷ others) → sizes_of (row ∷ rows) ≡ sizes_of (other ∷ others)
    → position_of row ≡ from → from + record_size row ≤ log → position_of other ≡ 0 → 0 < from → ⊥
not_both log from used head row rows other others a b sizes at fits round some =
    let rest = reach_next row rows log from used head a in
    let few = few_pads rows log (next log row) (used - sectors_taken log from row) rest.inside rest.most rest.follow in
    let fewer = goes_on row rows log from used a.inside a.most at fits a.follow.1 a.follow.2 few in
    let all = rounds other others log from used a.inside a.most round some b.follow.1 b.follow.2 in
    let same = ap sum_of_sizes sizes in
    omega (arith, fewer, all, same)

same_first : (log from used head : ℕ) (row : Row) (rows : List Row) (other : Row) (others : List Row)
    → Reaches log from used head (row ∷ rows)
    → Reaches log from used head (other ∷ others) → sizes_of (row ∷ rows) ≡ sizes_of (other ∷ others)
    → position_of row ≡ position_of other
same_first log from used head row rows other others a b sizes =
    elim a.follow.0 [
      | inl here ↦ elim b.follow.0 [
        | inl there ↦ here.0 ∙ sym there.0
        | inr round ↦ absurd (not_both log from used head row rows other others a b sizes here.0 here.1 round.0 round.1)
      ]
      | inr round ↦ elim b.follow.0 [
        | inl there ↦ absurd (not_both log from used head other others row rows b a (sym sizes) there.0 there.1 round.0 round.1)
        | inr too ↦ round.0 ∙ sym too.0
      ]
    ]

-- rows of the same sizes from one sector up to another have the same records
pub same_records : (rows others : List Row) (log from used taken head : ℕ) → sizes_of rows ≡ sizes_of others
    → Reaches log from used head rows
    → Reaches log from taken head others → records_of_rows log from rows ≡ records_of_rows log from others
same_records [] [] log from used taken head sizes a b = refl
same_records [] (other ∷ others) log from used taken head sizes a b = absurd (let e = ap length sizes in omega (arith, e))
same_records (row ∷ rows) [] log from used taken head sizes a b = absurd (let e = ap length sizes in omega (arith, e))
same_records (row ∷ rows) (other ∷ others) log from used taken head sizes a b =
    let as_many : taken ≡ used =
    reach_used (other ∷ others) log from taken head b ∙ sym (reach_used (row ∷ rows) log from used head a) in
    let too = subst (λ u. Reaches log from u head (other ∷ others)) as_many b in
    let at = same_first log from used head row rows other others a too sizes in
    let size : record_size row ≡ record_size other = ap (λ l. get_or l 0 0) sizes in
    let stored : record_of_row log from row ≡ record_of_row log from other =
    λ i. record { pad = if nat_lt (at i) from then log - from else 0; at = at i; sectors = size i } in
    let to : next log row ≡ next log other = λ i. if at i + size i == log then 0 else at i + size i in
    let rest = same_records rows others log (next log row) (used - sectors_taken log from row)
    (used - sectors_taken log from other) head
    (ap (drop 1) sizes)
    (reach_next row rows log from used head a)
    (subst (λ p. Reaches log p (used - sectors_taken log from other) head others) (sym to)
    (reach_next other others log from used head too)) in
    let all = rest ∙ ap (λ p. records_of_rows log p others) to in
    λ i. stored i ∷ all i

-- ---- sizes by the entries

entry_sectors : (row : Row) (bytes : List ℕ) → byte_of (position_of row + record_size row) ≤ length bytes
    → record_sectors (entry_of bytes row) ≡ record_size row
entry_sectors (Write own at lba n) bytes fits =
    let many : length (log_sectors (at + 1) n bytes) ≡ 512 * n = sectors_count (at + 1) n bytes (omega (arith, fits)) in
    omega (arith, many)
entry_sectors (Zero own at lba n) bytes fits = refl

-- rows have the sizes of the records of their entries, where the bytes have the whole log
pub sizes_are : (rows : List Row) (log from used head : ℕ) (bytes : List ℕ) → Reaches log from used head rows
    → byte_of log ≤ length bytes
    → map record_sectors (map (entry_of bytes) rows) ≡ sizes_of rows
sizes_are [] log from used head bytes is long = refl
sizes_are (row ∷ rows) log from used head bytes is long =
    let fits : position_of row + record_size row ≤ log =
    elim is.follow.0 [
      | inl here ↦ omega (arith, here.0, here.1)
      | inr round ↦ omega (arith, round.0, round.2)
    ] in
    let one = entry_sectors row bytes (omega (arith, fits, long)) in
    let rest =
    sizes_are rows log (next log row) (used - sectors_taken log from row) head bytes
    (reach_next row rows log from used head is) long in
    λ i. one i ∷ rest i

-- ---- the first of some rows

-- the first of rows that reach a sector reach the one after them, by no more sectors
reach_first : (rows more : List Row) (log from used head : ℕ) → Reaches log from used head (rows ++ more)
    → (n : ℕ) × (n ≤ used) × Reaches log from n (end_of_rows log from rows) rows
reach_first [] more log from used head is =
    (0, omega arith, record { inside = is.inside; most = omega arith; follow = refl; end = refl })
reach_first (row ∷ rows) more log from used head is =
    let n : ℕ = sectors_taken log from row in
    let enough = is.follow.1 in
    let most = is.most in
    let rest = reach_first rows more log (next log row) (used - n) head (reach_next row (rows ++ more) log from used head is) in
    let few = rest.1 in
    let left : rest.0 ≡ (n + rest.0) - n = omega arith in (
      n + rest.0,
      omega (arith, few, enough),
      record {
        inside = is.inside;
        most = omega (arith, few, enough, most);
        follow = (is.follow.0, omega arith, subst (λ u. Follow log (next log row) u rows) left rest.2.follow);
        end = refl;
      },
    )

pub reach_part : (m : ℕ) (rows : List Row) (log from used head : ℕ) → Reaches log from used head rows
    → (n : ℕ) × Reaches log from n (end_of_rows log from (take m rows)) (take m rows)
reach_part m rows log from used head is =
    let first = reach_first (take m rows) (drop m rows) log from used head
    (subst (λ l. Reaches log from used head l) (sym (take-append-drop m rows)) is) in
    (first.0, first.2)
