-- What a payload has once the data of rows are written.
use Rattle.std.proofs.Common.{◌≡◌, ℕ, ◌+◌, ◌*◌, ◌≤◌, ◌⊎◌, inl, inr, List, [], ◌∷◌, ◌++◌, length, refl, sym, ◌∙◌}
use Rattle.std.proofs.Common.{ap, subst, arith}
use Rattle.std.specs.List.{All, Contains}
use Rattle.std.specs.List.Sorted.{IsStrictlyIncreasing}
use Rattle.std.proofs.lemmas.List.{take_at, drop_at}
use Rattle.std.proofs.lemmas.List.Elements.{All-head, All-tail, All-take, All-drop, Contains-append_cases}
use Rattle.lsvd_bytes.specs.Places.{bytes_at, with_bytes}
use Rattle.lsvd_bytes.proofs.PlaceLemmas.{reads_bytes_again, keeps_length, keeps_other_bytes}
use Rattle.object_format.specs.declared.copy_row.CopyRow.{CopyRow}
use Rattle.gc_copier.specs.Plan.{SourceState, numbers_of}
use Rattle.gc_copier.specs.Copying.{AreTold, AreData, data_in}
use Rattle.gc_copier.specs.Runs.{HasRoom, AreWritten, AreApart, Fills}
use Rattle.gc_copier.proofs.SourceLemmas.{one_of_number}
use Rattle.gc_copier.proofs.AskLemmas.{only_one}

-- ---- one row

module _ (sources : List SourceState) (row : CopyRow) (bytes old : List ℕ) where
  -- the row's data stand there
  data_written : HasRoom (length old) row → length bytes ≡ 512 * row.sectors
      → data_in row (with_bytes (512 * row.place) bytes old) ≡ bytes
  data_written room size =
      ap (λ n. bytes_at (512 * row.place) n (with_bytes (512 * row.place) bytes old)) (sym size)
      ∙ reads_bytes_again (512 * row.place) bytes old (omega (arith, room, size))

  -- another row that stands apart is as before
  other_kept : (other : CopyRow) → HasRoom (length old) row → length bytes ≡ 512 * row.sectors
      → (row.place + row.sectors ≤ other.place) ⊎ (other.place + other.sectors ≤ row.place)
      → data_in other (with_bytes (512 * row.place) bytes old) ≡ data_in other old
  other_kept other room size apart =
      keeps_other_bytes (512 * row.place) bytes old (512 * other.place) (512 * other.sectors) (omega (arith, room, size))
      (elim apart [ inl past ↦ inr (omega (arith, past, size)) | inr before ↦ inl (omega (arith, before)) ])

  pub fills_one : HasRoom (length old) row → length bytes ≡ 512 * row.sectors → AreData sources row bytes
      → Fills sources (row ∷ []) old (with_bytes (512 * row.place) bytes old)
  fills_one room size are =
      let new = with_bytes (512 * row.place) bytes old in
      let P : CopyRow → Type 0 = λ other. AreData sources other (data_in other new) in
      let written : P row = subst (AreData sources row) (sym (data_written room size)) are in
      record {
        each = λ other apart has. elim (All-head (AreApart other) row [] apart) [
          | inl same ↦ subst P same written
          | inr away ↦ elim has [
            | inl among ↦ subst P (only_one row other among) written
            | inr before ↦ subst (AreData sources other) (sym (other_kept other room size away)) before
          ]
        ];
      }

-- ---- several rows

pub fills_none : (sources : List SourceState) (payload : List ℕ) → Fills sources [] payload payload
fills_none sources payload = record {
  each = λ other apart has. elim has [
    | inl among ↦ absurd (let less = among.1 in omega (arith, less))
    | inr before ↦ before
  ];
}

-- a fact of each of two lists' items is one of each of their items
all_front : {X : Type 0} (P : X → Type 0) (front back : List X) → All P (front ++ back) → All P front
all_front P front back all =
    subst (All P) (take_at front back (length front) refl) (All-take P (length front) (front ++ back) all)

all_back : {X : Type 0} (P : X → Type 0) (front back : List X) → All P (front ++ back) → All P back
all_back P front back all =
    subst (All P) (drop_at front back (length front) refl) (All-drop P (length front) (front ++ back) all)

-- rows are written, and then more
pub fills_both : (sources : List SourceState) (front back : List CopyRow) (a b c : List ℕ) → Fills sources front a b
    → Fills sources back b c → Fills sources (front ++ back) a c
fills_both sources front back a b c first second = record {
  each = λ row apart has.
      let by_first : Contains front row ⊎ AreData sources row (data_in row a) → AreData sources row (data_in row c) =
      λ had. second.each row (all_back (AreApart row) front back apart)
      (inr (first.each row (all_front (AreApart row) front back apart) had)) in
      elim has [
        | inl among ↦ elim (Contains-append_cases front back row among) [
          | inl at_first ↦ by_first (inl at_first)
          | inr later ↦ second.each row (all_back (AreApart row) front back apart) (inl later)
        ]
        | inr before ↦ by_first (inr before)
      ];
}

-- the source of a row's number tells its data
told_by_source : (sources : List SourceState) (source : SourceState) (row : CopyRow) (bytes : List ℕ)
    → IsStrictlyIncreasing (numbers_of sources) → Contains sources source → row.source.number ≡ source.number
    → AreTold source row bytes → AreData sources row bytes
told_by_source sources source row bytes ascending among number told = λ other has same.
    subst (λ (s : SourceState). AreTold s row bytes)
    (one_of_number (λ (s : SourceState). s.number) sources ascending source other among has (sym number ∙ sym same)) told

-- the rows of one source are written
pub fills_written : (sources : List SourceState) (source : SourceState) (rows : List CopyRow) (old new : List ℕ)
    → IsStrictlyIncreasing (numbers_of sources) → Contains sources source
    → All (λ (row : CopyRow). row.source.number ≡ source.number) rows → All (HasRoom (length old)) rows
    → AreWritten source rows old new → Fills sources rows old new
fills_written sources source [] old new ascending among numbers room written =
    subst (Fills sources [] old) (sym written) (fills_none sources old)
fills_written sources source (row ∷ rows) old new ascending among numbers room (bytes, size, told, more) =
    let N : CopyRow → Type 0 = λ (row : CopyRow). row.source.number ≡ source.number in
    let middle = with_bytes (512 * row.place) bytes old in
    let here = All-head (HasRoom (length old)) row rows room in
    let kept : length middle ≡ length old = keeps_length (512 * row.place) bytes old (omega (arith, here, size)) in
    let one = fills_one sources row bytes old here size
    (told_by_source sources source row bytes ascending among (All-head N row rows numbers) told) in
    let rest = fills_written sources source rows middle new ascending among (All-tail N row rows numbers)
    (subst (λ n. All (HasRoom n) rows) (sym kept) (All-tail (HasRoom (length old)) row rows room)) more in
    fills_both sources (row ∷ []) rows old middle new one rest
