-- Rows by their seqs: those from one on, and those of a commit.
use Rattle.std.proofs.Common.{◌≡◌, ℕ, ◌+◌, ◌-◌, ◌<◌, ◌≤◌, true, false, List, [], ◌∷◌, ◌++◌, zero, suc, length, take, drop, map}
use Rattle.std.proofs.Common.{refl, sym, ◌∙◌, ap, subst, inl, inr, arith, if◌then◌else◌}
use Rattle.std.specs.Prelude.{Option, Some, None, IfSome}
use Rattle.std.specs.Option.{option_map}
use Rattle.std.specs.List.{AllByRecursion}
use Rattle.std.proofs.lemmas.Bool.{cases_lt, lt-ltb, le-ltb, le-leb, lt-leb, and_from, and_left, and_right, cases_Bool}
use Rattle.lsvd_base.specs.declared.entry.Entry.{Entry}
use Rattle.commit_body.specs.declared.body.CommitBody.{CommitBody}
use Rattle.cache_log.specs.declared.row.Row.{Row}
use Rattle.cache_log.specs.Rows.{seq_of, AreNumbered, since, entries_since, is_between, between, entries_between}

-- ---- one row

below : (n : ℕ) (row : Row) (rows : List Row) → seq_of row < n → since n (row ∷ rows) ≡ since n rows
below n row rows less = ap (λ b. if b then since n rows else row ∷ rows) (lt-ltb (seq_of row) n less)

from_on : (n : ℕ) (row : Row) (rows : List Row) → n ≤ seq_of row → since n (row ∷ rows) ≡ row ∷ rows
from_on n row rows on = ap (λ b. if b then since n rows else row ∷ rows) (le-ltb (seq_of row) n on)

is_inside : (body : CommitBody) (row : Row) → body.tail.seq ≤ seq_of row → seq_of row < body.head.seq → is_between body row ≡ true
is_inside body row from to = and_from _ _ (le-leb body.tail.seq (seq_of row) from) (lt-ltb (seq_of row) body.head.seq to)

is_before : (body : CommitBody) (row : Row) → seq_of row < body.tail.seq → is_between body row ≡ false
is_before body row less = and_left _ _ (lt-leb body.tail.seq (seq_of row) less)

is_behind : (body : CommitBody) (row : Row) → body.head.seq ≤ seq_of row → is_between body row ≡ false
is_behind body row on = and_right _ _ (le-ltb (seq_of row) body.head.seq on)

taken : (body : CommitBody) (row : Row) (rows : List Row) → is_between body row ≡ true
    → between body (row ∷ rows) ≡ row ∷ between body rows
taken body row rows is = ap (λ b. if b then row ∷ between body rows else between body rows) is

left : (body : CommitBody) (row : Row) (rows : List Row) → is_between body row ≡ false
    → between body (row ∷ rows) ≡ between body rows
left body row rows is = ap (λ b. if b then row ∷ between body rows else between body rows) is

entry_taken : (body : CommitBody) (row : Row) (rows : List Row) (entry : Entry) (list : List Entry) → is_between body row ≡ true
    → entries_between body (row ∷ rows) (entry ∷ list) ≡ entry ∷ entries_between body rows list
entry_taken body row rows entry list is =
    ap (λ b. if b then entry ∷ entries_between body rows list else entries_between body rows list) is

entry_left : (body : CommitBody) (row : Row) (rows : List Row) (entry : Entry) (list : List Entry) → is_between body row ≡ false
    → entries_between body (row ∷ rows) (entry ∷ list) ≡ entries_between body rows list
entry_left body row rows entry list is =
    ap (λ b. if b then entry ∷ entries_between body rows list else entries_between body rows list) is

-- ---- the rows from a seq on

pub numbered_more : (rows : List Row) (row : Row) (n : ℕ) → AreNumbered n rows → seq_of row ≡ n + length rows
    → AreNumbered n (rows ++ row ∷ [])
numbered_more [] row n are is = (omega (arith, is), tt)
numbered_more (first ∷ rows) row n are is = (are.0, numbered_more rows row (n + 1) are.1 (omega (arith, is)))

pub since_more : (rows : List Row) (row : Row) (n : ℕ) → n ≤ seq_of row → since n (rows ++ row ∷ []) ≡ since n rows ++ row ∷ []
since_more [] row n on = from_on n row [] on
since_more (first ∷ rows) row n on =
    elim (cases_lt (seq_of first) n) [
      | inl less ↦ below n first (rows ++ row ∷ []) less ∙ since_more rows row n on
          ∙ ap (λ r. r ++ row ∷ []) (sym (below n first rows less))
      | inr at ↦ from_on n first (rows ++ row ∷ []) at ∙ ap (λ r. r ++ row ∷ []) (sym (from_on n first rows at))
    ]

-- none is before the first of them
pub since_numbered : (rows : List Row) (m n : ℕ) → m ≤ n → AreNumbered n rows → since m rows ≡ rows
since_numbered [] m n less are = refl
since_numbered (row ∷ rows) m n less are = (let e = are.0 in from_on m row rows (omega (arith, less, e)))

pub since_append : (held rows : List Row) (m n : ℕ) → m ≤ n → AreNumbered n rows → since m (held ++ rows) ≡ since m held ++ rows
since_append [] rows m n less are = since_numbered rows m n less are
since_append (row ∷ held) rows m n less are =
    elim (cases_lt (seq_of row) m) [
      | inl before ↦ below m row (held ++ rows) before ∙ since_append held rows m n less are
          ∙ ap (λ r. r ++ rows) (sym (below m row held before))
      | inr at ↦ from_on m row (held ++ rows) at ∙ ap (λ r. r ++ rows) (sym (from_on m row held at))
    ]

pub since_held : (held rows : List Row) (n : ℕ) → AllByRecursion (λ row. seq_of row < n) held → AreNumbered n rows
    → since n (held ++ rows) ≡ rows
since_held [] rows n all are = since_numbered rows n n (omega arith) are
since_held (row ∷ held) rows n all are = below n row (held ++ rows) all.0 ∙ since_held held rows n all.1 are

pub since_since : (rows : List Row) (m n : ℕ) → m ≤ n → since n (since m rows) ≡ since n rows
since_since [] m n less = refl
since_since (row ∷ rows) m n less =
    elim (cases_lt (seq_of row) m) [
      | inl before ↦ ap (since n) (below m row rows before) ∙ since_since rows m n less
          ∙ sym (below n row rows (omega (arith, before, less)))
      | inr at ↦ ap (since n) (from_on m row rows at)
    ]

pub since_below : (rows : List Row) (m n : ℕ) → AllByRecursion (λ row. seq_of row < n) rows
    → AllByRecursion (λ row. seq_of row < n) (since m rows)
since_below [] m n all = tt
since_below (row ∷ rows) m n all =
    let P : List Row → Type 0 = AllByRecursion (λ r. seq_of r < n) in
    elim (cases_lt (seq_of row) m) [
      | inl before ↦ subst P (sym (below m row rows before)) (since_below rows m n all.1)
      | inr at ↦ subst P (sym (from_on m row rows at)) all
    ]

pub since_shorter : (rows : List Row) (m : ℕ) → length (since m rows) ≤ length rows
since_shorter [] m = omega arith
since_shorter (row ∷ rows) m =
    elim (cases_lt (seq_of row) m) [
      | inl before ↦ (let e = ap length (below m row rows before) in let more = since_shorter rows m in omega (arith, e, more))
      | inr at ↦ (let e = ap length (from_on m row rows at) in omega (arith, e))
    ]

-- where none is before a seq, and all are before another that is no greater, there are none
pub none_held : (held rows : List Row) (m n : ℕ) → n ≤ m → AllByRecursion (λ row. seq_of row < n) held
    → since m (held ++ rows) ≡ held ++ rows → AreNumbered n rows → held ≡ []
none_held [] rows m n less all same are = refl
none_held (row ∷ held) rows m n less all same are =
    let one = all.0 in
    let short : length (since m (held ++ rows)) ≤ length (held ++ rows) = since_shorter (held ++ rows) m in
    let long : length (since m (held ++ rows)) ≡ suc (length (held ++ rows)) =
    ap length (sym (below m row (held ++ rows) (omega (arith, one, less))) ∙ same) in
    absurd (omega (arith, short, long))

-- ---- the rows of a commit

pub between_more : (rows : List Row) (row : Row) (body : CommitBody) → body.head.seq ≤ seq_of row
    → between body (rows ++ row ∷ []) ≡ between body rows
between_more [] row body on = left body row [] (is_behind body row on)
between_more (first ∷ rows) row body on =
    elim (cases_Bool (is_between body first)) [
      | inl is ↦ taken body first (rows ++ row ∷ []) is ∙ ap (λ r. first ∷ r) (between_more rows row body on)
          ∙ sym (taken body first rows is)
      | inr is ↦ left body first (rows ++ row ∷ []) is ∙ between_more rows row body on ∙ sym (left body first rows is)
    ]

pub entries_between_more : (rows : List Row) (row : Row) (list : List Entry) (entry : Entry) (body : CommitBody)
    → body.head.seq ≤ seq_of row → length list ≡ length rows
    → entries_between body (rows ++ row ∷ []) (list ++ entry ∷ []) ≡ entries_between body rows list
entries_between_more [] row [] entry body on same = entry_left body row [] entry [] (is_behind body row on)
entries_between_more [] row (other ∷ list) entry body on same = absurd (omega (arith, same))
entries_between_more (first ∷ rows) row [] entry body on same = absurd (omega (arith, same))
entries_between_more (first ∷ rows) row (other ∷ list) entry body on same =
    let more = entries_between_more rows row list entry body on (omega (arith, same)) in
    elim (cases_Bool (is_between body first)) [
      | inl is ↦ entry_taken body first (rows ++ row ∷ []) other (list ++ entry ∷ []) is ∙ ap (λ r. other ∷ r) more
          ∙ sym (entry_taken body first rows other list is)
      | inr is ↦ entry_left body first (rows ++ row ∷ []) other (list ++ entry ∷ []) is ∙ more
          ∙ sym (entry_left body first rows other list is)
    ]

pub between_since : (rows : List Row) (m : ℕ) (body : CommitBody) → m ≤ body.tail.seq
    → between body (since m rows) ≡ between body rows
between_since [] m body less = refl
between_since (row ∷ rows) m body less =
    elim (cases_lt (seq_of row) m) [
      | inl before ↦ ap (between body) (below m row rows before) ∙ between_since rows m body less
          ∙ sym (left body row rows (is_before body row (omega (arith, before, less))))
      | inr at ↦ ap (between body) (from_on m row rows at)
    ]

pub between_all : (rows : List Row) (n : ℕ) (body : CommitBody) → AreNumbered n rows → body.tail.seq ≤ n
    → n + length rows ≤ body.head.seq → between body rows ≡ rows
between_all [] n body are from to = refl
between_all (row ∷ rows) n body are from to =
    let e = are.0 in
    taken body row rows (is_inside body row (omega (arith, e, from)) (omega (arith, e, to)))
    ∙ ap (λ r. row ∷ r) (between_all rows (n + 1) body are.1 (omega (arith, from)) (omega (arith, to)))

pub between_held : (held rows : List Row) (n : ℕ) (body : CommitBody) → n ≤ body.tail.seq
    → AllByRecursion (λ row. seq_of row < n) held → between body (held ++ rows) ≡ between body rows
between_held [] rows n body less all = refl
between_held (row ∷ held) rows n body less all =
    let e = all.0 in
    left body row (held ++ rows) (is_before body row (omega (arith, e, less))) ∙ between_held held rows n body less all.1

-- ---- their entries

pub map_since : (f : Row → Entry) (rows : List Row) (m : ℕ) → entries_since m rows (map f rows) ≡ map f (since m rows)
map_since f [] m = refl
map_since f (row ∷ rows) m =
    elim (cases_lt (seq_of row) m) [
      | inl before ↦
          ap (λ b. if b then entries_since m rows (map f rows) else f row ∷ map f rows) (lt-ltb (seq_of row) m before)
          ∙ map_since f rows m
          ∙ ap (map f) (sym (below m row rows before))
      | inr at ↦
          ap (λ b. if b then entries_since m rows (map f rows) else f row ∷ map f rows) (le-ltb (seq_of row) m at)
          ∙ ap (map f) (sym (from_on m row rows at))
    ]

pub map_between : (f : Row → Entry) (rows : List Row) (body : CommitBody) → entries_between body rows (map f rows)
    ≡ map f (between body rows)
map_between f [] body = refl
map_between f (row ∷ rows) body =
    elim (cases_Bool (is_between body row)) [
      | inl is ↦ entry_taken body row rows (f row) (map f rows) is ∙ ap (λ l. f row ∷ l) (map_between f rows body)
          ∙ ap (map f) (sym (taken body row rows is))
      | inr is ↦ entry_left body row rows (f row) (map f rows) is ∙ map_between f rows body
          ∙ ap (map f) (sym (left body row rows is))
    ]

pub take_none : {A : Type 0} (list : List A) → take 0 list ≡ []
take_none [] = refl
take_none (x ∷ list) = refl

pub drop_none : {A : Type 0} (list : List A) → drop 0 list ≡ list
drop_none [] = refl
drop_none (x ∷ list) = refl

-- of rows from a commit's tail on these are the first
pub entries_first : (rows : List Row) (list : List Entry) (n : ℕ) (body : CommitBody) → AreNumbered n rows
    → length list ≡ length rows → body.tail.seq ≤ n
    → entries_between body rows list ≡ take (body.head.seq - n) list
entries_first [] [] n body are same from = none_first (body.head.seq - n)
  where
    none_first : (k : ℕ) → ◌≡◌ {A = List Entry} [] (take k [])
    none_first zero = refl
    none_first (suc k) = refl
entries_first [] (entry ∷ list) n body are same from = absurd (omega (arith, same))
entries_first (row ∷ rows) [] n body are same from = absurd (omega (arith, same))
entries_first (row ∷ rows) (entry ∷ list) n body are same from =
    let e = are.0 in
    let more = entries_first rows list (n + 1) body are.1 (omega (arith, same)) (omega (arith, from)) in
    elim (cases_lt n body.head.seq) [
      | inl less ↦
          entry_taken body row rows entry list (is_inside body row (omega (arith, e, from)) (omega (arith, e, less)))
          ∙ ap (λ l. entry ∷ l) more
          ∙ ap (λ k. take k (entry ∷ list)) (let k : suc (body.head.seq - (n + 1)) ≡ body.head.seq - n = omega (arith, less) in k)
      | inr end ↦
          entry_left body row rows entry list (is_behind body row (omega (arith, e, end)))
          ∙ more
          ∙ ap (λ k. take k list) (let k : body.head.seq - (n + 1) ≡ 0 = omega (arith, end) in k)
          ∙ take_none list
          ∙ sym (ap (λ k. take k (entry ∷ list)) (let k : body.head.seq - n ≡ 0 = omega (arith, end) in k)
          ∙ take_none (entry ∷ list))
    ]

-- of numbered rows none is before the first
list_numbered : (rows : List Row) (n : ℕ) (list : List Entry) → AreNumbered n rows → length list ≡ length rows
    → entries_since n rows list ≡ list
list_numbered [] n [] are same = refl
list_numbered [] n (entry ∷ list) are same = absurd (omega (arith, same))
list_numbered (row ∷ rows) n [] are same = absurd (omega (arith, same))
list_numbered (row ∷ rows) n (entry ∷ list) are same =
    let e = are.0 in
    ap (λ b. if b then entries_since n rows list else entry ∷ list) (le-ltb (seq_of row) n (omega (arith, e)))

pub entries_numbered : (rows : List Row) (n : ℕ) (entries : Option (List Entry)) → AreNumbered n rows
    → IfSome entries (λ list. length list ≡ length rows) → option_map (entries_since n rows) entries ≡ entries
entries_numbered rows n None are same = refl
entries_numbered rows n (Some list) are same = ap Some (list_numbered rows n list are same)
