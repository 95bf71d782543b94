-- What is read of the first of some rows, and of those that are read together with it.
use Rattle.std.proofs.Common.{◌≡◌, ℕ, ◌+◌, ◌-◌, ◌*◌, ◌/◌, ◌<◌, ◌≤◌, List, [], ◌∷◌, ◌++◌, length, take, drop, get_or, refl, sym}
use Rattle.std.proofs.Common.{◌∙◌, ap, subst, arith}
use Rattle.std.specs.List.{All, Contains}
use Rattle.std.proofs.lemmas.List.{length-map, get_or-map, take_rest, take-append-drop}
use Rattle.std.proofs.lemmas.List.Elements.{All-nil, All-cons, All-take, All-drop, All-weaker}
use Rattle.object_format.specs.declared.copy_row.CopyRow.{CopyRow}
use Rattle.gc_copier.specs.declared.error.CopyError.{CopyError}
use Rattle.gc_copier.specs.declared.error.CopyError.TheVariants.{Failed}
use Rattle.gc_copier.specs.declared.runs.Run.{Run}
use Rattle.gc_copier.specs.Plan.{SourceState, HasSource, numbers_of}
use Rattle.gc_copier.specs.Runs.{IsInRun, IsRun, IsReadable, HasRoom, CanRead, AreWritten, Fills, IsFailure}
use Rattle.gc_copier.proofs.SourceLemmas.{one_of_number}
use Rattle.gc_copier.proofs.FillLemmas.{fills_both, fills_written}

-- a row for reads outside a list
abbrev pub blank : CopyRow
blank = record {
  lba = 0;
  sectors = 0;
  place = 0;
  source = record { level = 0; number = 0; place = 0 };
}

-- the first of some rows
abbrev pub first_of : List CopyRow → CopyRow
first_of rows = get_or rows 0 blank

-- ---- one of some sources

module _ (sources : List SourceState) (source : SourceState) (among : Contains sources source) where
  -- its number is among theirs
  number_among : Contains (numbers_of sources) source.number
  number_among =
      let number_of : SourceState → ℕ = λ (s : SourceState). s.number in
      let size = length-map sources number_of in
      let inside = among.1 in (
        among.0,
        omega (arith, size, inside),
        get_or-map number_of sources among.0 source source.number inside ∙ ap number_of among.2,
      )

  pub failure_named : (error : CopyError) → error ≡ Failed source.number → IsFailure sources error
  failure_named error is = subst (IsFailure sources) (sym is) number_among

-- ---- the first row

-- the number of its source is one of them
pub first_number : (sources : List SourceState) (size : ℕ) (rows : List CopyRow) → CanRead sources size rows → 0 < length rows
    → Contains (numbers_of sources) (first_of rows).source.number
first_number sources size rows can some =
    let has = can.have 0 blank some in
    subst (Contains (numbers_of sources)) has.number (number_among sources has.source has.is)

take_one : (rows : List CopyRow) → 0 < length rows → take 1 rows ≡ first_of rows ∷ []
take_one [] none = absurd (omega arith)
take_one (row ∷ more) some = refl

-- rows can be read, of which there are some, and this is the source of the first
pub record IsFirstSource (sources : List SourceState) (size : ℕ) (rows : List CopyRow) (source : SourceState) : Type 0 where
  pub can : CanRead sources size rows
  pub some : 0 < length rows
  pub among : Contains sources source
  pub number : (first_of rows).source.number ≡ source.number

module _ (sources : List SourceState) (size : ℕ) (rows : List CopyRow) (source : SourceState) where
  -- the object of a row's source has its data
  is_inside : (row : CopyRow) → IsFirstSource sources size rows source → HasSource sources row → row.source.number ≡ source.number
      → 512 * (source.front + row.source.place + row.sectors) ≤ source.receipt.size
  is_inside row of has is =
      let number_of : SourceState → ℕ = λ (s : SourceState). s.number in
      let same : has.source ≡ source =
      one_of_number number_of sources of.can.ascending has.source source has.is of.among (has.number ∙ is) in
      subst (λ (s : SourceState). 512 * (s.front + row.source.place + row.sectors) ≤ s.receipt.size) same has.inside

  pub first_readable : IsFirstSource sources size rows source → IsReadable source size (first_of rows)
  first_readable of = record {
    object = is_inside (first_of rows) of (of.can.have 0 blank of.some) of.number;
    room = of.can.room 0 blank of.some;
  }

  pub first_fills : (old new : List ℕ) → IsFirstSource sources size rows source → length old ≡ size
      → AreWritten source (first_of rows ∷ []) old new → Fills sources (take 1 rows) old new
  first_fills old new of is written =
      let first = first_of rows in
      let N : CopyRow → Type 0 = λ (row : CopyRow). row.source.number ≡ source.number in
      let R : CopyRow → Type 0 = HasRoom (length old) in
      let fits : R first = subst (λ n. HasRoom n first) (sym is) (of.can.room 0 blank of.some) in
      subst (λ front. Fills sources front old new) (sym (take_one rows of.some))
      (fills_written sources source (first ∷ []) old new of.can.ascending of.among (All-cons N first [] of.number (All-nil N))
      (All-cons R first [] fits (All-nil R)) written)

  -- ---- a run

  -- the object has the data of a run, and what is between them
  pub run_inside : (run : Run) → IsFirstSource sources size rows source → IsRun (first_of rows).source rows run
      → 512 * (source.front + (first_of rows).source.place) + 512 * run.sectors ≤ source.receipt.size
  run_inside run of is =
      let end = source.receipt.size / 512 - source.front in
      let here = (first_readable of).object in
      let have = All-take (HasSource sources) run.rows rows of.can.have in
      let reach =
      is.reach end (omega (arith, here))
      (λ k d inside. let to = is_inside (get_or (take run.rows rows) k d) of (have k d inside)
      ((is.has k d inside).number ∙ of.number) in
      omega (arith, to)) in
      omega (arith, here, reach)

  pub run_fills : (run : Run) (old new : List ℕ) → IsFirstSource sources size rows source → IsRun (first_of rows).source rows run
      → length old ≡ size → AreWritten source (take run.rows rows) old new → Fills sources (take run.rows rows) old new
  run_fills run old new of run_is is written =
      let front = take run.rows rows in
      let N : CopyRow → Type 0 = λ (row : CopyRow). row.source.number ≡ source.number in
      fills_written sources source front old new of.can.ascending of.among
      (All-weaker (IsInRun (first_of rows).source run.sectors) N (λ row has. has.number ∙ of.number) front run_is.has)
      (subst (λ n. All (HasRoom n) front) (sym is) (All-take (HasRoom size) run.rows rows of.can.room)) written

-- ---- the rest

-- the first of some rows are written, and then the rest
pub fills_rest : (sources : List SourceState) (rows : List CopyRow) (count : ℕ) (a b c : List ℕ)
    → Fills sources (take count rows) a b → Fills sources (take (length rows - count) (drop count rows)) b c
    → Fills sources rows a c
fills_rest sources rows count a b c first rest =
    subst (λ all. Fills sources all a c)
    (ap (λ more. take count rows ++ more) (take_rest rows count) ∙ take-append-drop count rows)
    (fills_both sources (take count rows) (take (length rows - count) (drop count rows)) a b c first rest)

pub can_read_rest : (sources : List SourceState) (size next : ℕ) (rows : List CopyRow) (count : ℕ) → next ≡ size
    → CanRead sources size rows → CanRead sources next (take (length rows - count) (drop count rows))
can_read_rest sources size next rows count is can = record {
  ascending = can.ascending;
  have = rw (take_rest rows count) (All-drop (HasSource sources) count rows can.have);
  room = rw (take_rest rows count, is) (All-drop (HasRoom size) count rows can.room);
}
