-- The maximal runs of a list of bytes: they are there, and there are no others.
use Rattle.std.proofs.Common.{◌≡◌, ◌≢◌, ℕ, zero, suc, ◌+◌, ◌<◌, ◌==◌, Bool, true, false, cond, List, [], ◌∷◌, ◌++◌, length}
use Rattle.std.proofs.Common.{get_or, drop, replicate, flat_map, arith, refl, ap, sym, ◌∙◌, subst, eqb-true, eq-eqb, ne_eqb}
use Rattle.std.proofs.Common.{append_assoc, append-nil, inl, inr}
use Rattle.std.specs.List.{prefix_len, AllByRecursion}
use Rattle.std.proofs.lemmas.Bool.{eqb-false, cond-true, cond-false, cases_eq}
use Rattle.std.proofs.lemmas.List.{nil_from_length}
use Rattle.replay_script.specs.RunText.{Run, NeighboursDiffer, AreMaximalRuns, IsRunText, text_of_run, text_of_runs, byte_before}
use Rattle.replay_script.specs.RunText.{runs_of}

-- the bytes of a run
abbrev pub laid : Run → List ℕ
laid run = replicate run.count run.byte

-- ---- they are maximal runs

laid_by_cases : (same : Bool) (byte : ℕ) (run : Run) (more : List Run) → (byte == run.byte) ≡ same
    → flat_map laid (cond same (record run { count = suc run.count } ∷ more) (record { byte = byte; count = 1 } ∷ run ∷ more))
    ≡ byte ∷ flat_map laid (run ∷ more)
laid_by_cases true byte run more e = ap (λ b. b ∷ flat_map laid (run ∷ more)) (sym (eqb-true byte run.byte e))
laid_by_cases false byte run more e = refl

laid-byte_before : (byte : ℕ) (runs : List Run) → flat_map laid (byte_before byte runs) ≡ byte ∷ flat_map laid runs
laid-byte_before byte [] = refl
laid-byte_before byte (run ∷ more) = laid_by_cases (byte == run.byte) byte run more refl

laid-runs_of : (bytes : List ℕ) → flat_map laid (runs_of bytes) ≡ bytes
laid-runs_of [] = refl
laid-runs_of (byte ∷ bytes) = laid-byte_before byte (runs_of bytes) ∙ ap (λ rest. byte ∷ rest) (laid-runs_of bytes)

abbrev AreFilled : List Run → Type 0
AreFilled runs = AllByRecursion (λ run. 0 < run.count) runs

filled_by_cases : (same : Bool) (byte : ℕ) (run : Run) (more : List Run) → AreFilled (run ∷ more)
    → AreFilled (cond same (record run { count = suc run.count } ∷ more) (record { byte = byte; count = 1 } ∷ run ∷ more))
filled_by_cases true byte run more filled = (omega arith, filled.1)
filled_by_cases false byte run more filled = (omega arith, filled)

filled-byte_before : (byte : ℕ) (runs : List Run) → AreFilled runs → AreFilled (byte_before byte runs)
filled-byte_before byte [] filled = (omega arith, tt)
filled-byte_before byte (run ∷ more) filled = filled_by_cases (byte == run.byte) byte run more filled

filled-runs_of : (bytes : List ℕ) → AreFilled (runs_of bytes)
filled-runs_of [] = tt
filled-runs_of (byte ∷ bytes) = filled-byte_before byte (runs_of bytes) (filled-runs_of bytes)

-- neighbours speak of no counts
longer_differs : (run : Run) (more : List Run) → NeighboursDiffer (run ∷ more)
    → NeighboursDiffer (record run { count = suc run.count } ∷ more)
longer_differs run [] apart = tt
longer_differs run (next ∷ more) apart = apart

differ_by_cases : (same : Bool) (byte : ℕ) (run : Run) (more : List Run) → (byte == run.byte) ≡ same
    → NeighboursDiffer (run ∷ more) → NeighboursDiffer (cond same (record run { count = suc run.count } ∷ more)
    (record { byte = byte; count = 1 } ∷ run ∷ more))
differ_by_cases true byte run more e apart = longer_differs run more apart
differ_by_cases false byte run more e apart = (eqb-false byte run.byte e, apart)

differ-byte_before : (byte : ℕ) (runs : List Run) → NeighboursDiffer runs → NeighboursDiffer (byte_before byte runs)
differ-byte_before byte [] apart = tt
differ-byte_before byte (run ∷ more) apart = differ_by_cases (byte == run.byte) byte run more refl apart

differ-runs_of : (bytes : List ℕ) → NeighboursDiffer (runs_of bytes)
differ-runs_of [] = tt
differ-runs_of (byte ∷ bytes) = differ-byte_before byte (runs_of bytes) (differ-runs_of bytes)

-- the runs are maximal runs of the bytes
pub runs_are_maximal : (bytes : List ℕ) → AreMaximalRuns bytes (runs_of bytes)
runs_are_maximal bytes = record { laid = laid-runs_of bytes; filled = filled-runs_of bytes; maximal = differ-runs_of bytes }

-- ---- there are no others

-- the list is empty or begins with another byte
abbrev BeginsOtherwise : ℕ → List Run → Type 0
BeginsOtherwise byte [] = Unit {0}
BeginsOtherwise byte (run ∷ more) = byte ≢ run.byte

byte_before-apart : (byte : ℕ) (runs : List Run) → BeginsOtherwise byte runs
    → byte_before byte runs ≡ record { byte = byte; count = 1 } ∷ runs
byte_before-apart byte [] apart = refl
byte_before-apart byte (run ∷ more) apart = rw (ne_eqb byte run.byte apart)

byte_before-same : (byte count : ℕ) (more : List Run) → byte_before byte (record { byte = byte; count = count } ∷ more)
    ≡ record { byte = byte; count = suc count } ∷ more
byte_before-same byte count more = rw (eq-eqb byte byte refl)

runs_of-run : (byte count : ℕ) (rest : List ℕ) → BeginsOtherwise byte (runs_of rest)
    → runs_of (replicate (suc count) byte ++ rest) ≡ record { byte = byte; count = suc count } ∷ runs_of rest
runs_of-run byte zero rest apart = byte_before-apart byte (runs_of rest) apart
runs_of-run byte (suc count) rest apart = ap (byte_before byte) (runs_of-run byte count rest apart)
    ∙ byte_before-same byte (suc count) (runs_of rest)

filled_run : (byte count : ℕ) (rest : List ℕ) → 0 < count → BeginsOtherwise byte (runs_of rest)
    → runs_of (replicate count byte ++ rest) ≡ record { byte = byte; count = count } ∷ runs_of rest
filled_run byte zero rest some apart = absurd (omega arith)
filled_run byte (suc count) rest some apart = runs_of-run byte count rest apart

begins_otherwise : (run : Run) (more : List Run) → NeighboursDiffer (run ∷ more) → BeginsOtherwise run.byte more
begins_otherwise run [] apart = tt
begins_otherwise run (next ∷ more) apart = apart.0

rest_differs : (run : Run) (more : List Run) → NeighboursDiffer (run ∷ more) → NeighboursDiffer more
rest_differs run [] apart = tt
rest_differs run (next ∷ more) apart = apart.1

-- runs that are not empty, and differ from their neighbours, are those of the bytes that they lay
runs_of-laid : (runs : List Run) → AreFilled runs → NeighboursDiffer runs → runs_of (flat_map laid runs) ≡ runs
runs_of-laid [] filled apart = refl
runs_of-laid (run ∷ more) filled apart =
    let rest : runs_of (flat_map laid more) ≡ more = runs_of-laid more filled.1 (rest_differs run more apart) in
    let other : BeginsOtherwise run.byte (runs_of (flat_map laid more)) =
    subst (BeginsOtherwise run.byte) (sym rest) (begins_otherwise run more apart) in
    filled_run run.byte run.count (flat_map laid more) filled.0 other ∙ ap (λ runs. run ∷ runs) rest

-- maximal runs of the bytes are `runs_of`
pub only_runs : (bytes : List ℕ) (runs : List Run) → AreMaximalRuns bytes runs → runs ≡ runs_of bytes
only_runs bytes runs maximal = sym (runs_of-laid runs maximal.filled maximal.maximal) ∙ ap runs_of maximal.laid

-- two lists of maximal runs of the same bytes are equal
pub one_list_of_runs : (bytes : List ℕ) (a b : List Run) → AreMaximalRuns bytes a → AreMaximalRuns bytes b → a ≡ b
one_list_of_runs bytes a b first second = only_runs bytes a first ∙ sym (only_runs bytes b second)

-- ---- run texts

-- the text of `runs_of` is a run text
pub runs_text : (bytes : List ℕ) → IsRunText bytes (text_of_runs (runs_of bytes))
runs_text bytes = record { runs = runs_of bytes; maximal = runs_are_maximal bytes; joined = refl }

-- bytes have a run text
pub some_run_text : (bytes : List ℕ) → (text : List ℕ) × IsRunText bytes text
some_run_text bytes = (text_of_runs (runs_of bytes), runs_text bytes)

-- bytes have one run text
pub one_run_text : (bytes a b : List ℕ) → IsRunText bytes a → IsRunText bytes b → a ≡ b
one_run_text bytes a b first second = first.joined
    ∙ ap text_of_runs (one_list_of_runs bytes first.runs second.runs first.maximal second.maximal) ∙ sym second.joined

-- ---- the first run

abbrev BeginsWithRun : ℕ → List ℕ → Type 0
BeginsWithRun byte bytes = runs_of (byte ∷ bytes) ≡ record { byte = byte; count = suc (prefix_len (λ b. b == byte) bytes) }
    ∷ runs_of (drop (prefix_len (λ b. b == byte) bytes) bytes)

begins-same : (byte : ℕ) (more : List ℕ) → BeginsWithRun byte more → BeginsWithRun byte (byte ∷ more)
begins-same byte more first =
    let n : ℕ = prefix_len (λ b. b == byte) more in
    let next : 1 + n ≡ suc n = omega arith in
    let e : prefix_len (λ b. b == byte) (byte ∷ more) ≡ suc n = cond-true (byte == byte) (1 + n) 0 (eq-eqb byte byte refl)
    ∙ next in
    rw e (ap (byte_before byte) first ∙ byte_before-same byte (suc n) (runs_of (drop n more)))

begins-apart : (byte next : ℕ) (more : List ℕ) → byte ≢ next → BeginsWithRun next more → BeginsWithRun byte (next ∷ more)
begins-apart byte next more apart first =
    let e : prefix_len (λ b. b == byte) (next ∷ more) ≡ 0 = cond-false (next == byte) (1 + prefix_len (λ b. b == byte) more) 0
    (ne_eqb next byte (λ h. apart (sym h))) in
    let other : BeginsOtherwise byte (runs_of (next ∷ more)) = subst (BeginsOtherwise byte) (sym first) apart in
    rw e (byte_before-apart byte (runs_of (next ∷ more)) other)

begins_with_run : (byte : ℕ) (bytes : List ℕ) → BeginsWithRun byte bytes
begins_with_run byte [] = refl
begins_with_run byte (next ∷ more) = elim (cases_eq byte next) [
  | inl e ↦ subst (λ (n : ℕ). BeginsWithRun byte (n ∷ more)) e
      (begins-same byte more (begins_with_run byte more))
  | inr apart ↦ begins-apart byte next more apart (begins_with_run next more)
]

-- the first byte, as often as it stands at the front, is the first run
pub first_run : (bytes : List ℕ) (byte count : ℕ) → 0 < length bytes → byte ≡ get_or bytes 0 0
    → count ≡ prefix_len (λ b. b == byte) bytes → runs_of bytes ≡ record { byte = byte; count = count } ∷ runs_of
    (drop count bytes)
first_run [] byte count some e n = absurd (omega arith)
first_run (first ∷ more) byte count some e n =
    let next : 1 + prefix_len (λ b. b == first) more ≡ suc (prefix_len (λ b. b == first) more) = omega arith in
    let at : prefix_len (λ b. b == byte) (first ∷ more) ≡ prefix_len (λ b. b == first) (first ∷ more) =
    ap (λ x. prefix_len (λ b. b == x) (first ∷ more)) e in
    let whole : prefix_len (λ b. b == first) (first ∷ more) ≡ 1 + prefix_len (λ b. b == first) more =
    cond-true (first == first) (1 + prefix_len (λ b. b == first) more) 0 (eq-eqb first first refl) in
    let m : count ≡ suc (prefix_len (λ b. b == first) more) = n ∙ at ∙ whole ∙ next in
    rw (e, m) (begins_with_run first more)

text-more : (run : Run) (runs : List Run) → 0 < length runs
    → text_of_runs (run ∷ runs) ≡ text_of_run run ++ (32 ∷ text_of_runs runs)
text-more run [] some = absurd (omega arith)
text-more run (next ∷ more) some = refl

some_runs : (bytes : List ℕ) → 0 < length bytes → 0 < length (runs_of bytes)
some_runs bytes some = let e = first_run bytes (get_or bytes 0 0) (prefix_len (λ b. b == get_or bytes 0 0) bytes) some refl
    refl in omega (arith, ap length e)

-- the texts of a run, a space and the other runs
pub text_with_more : (bytes : List ℕ) (byte count : ℕ) (old pushed new : List ℕ) → 0 < length bytes → byte ≡ get_or bytes 0 0
    → count ≡ prefix_len (λ b. b == byte) bytes → pushed ≡ old ++ text_of_run (record { byte = byte; count = count })
    → new ≡ pushed ++ 32 ∷ [] → 0 < length (drop count bytes) → new ++ text_of_runs (runs_of (drop count bytes))
    ≡ old ++ text_of_runs (runs_of bytes)
text_with_more bytes byte count old pushed new some e n pushes adds more =
    let run : Run = record { byte = byte; count = count } in
    let text : text_of_runs (runs_of bytes) ≡ text_of_run run ++ (32 ∷ text_of_runs (runs_of (drop count bytes))) =
    ap text_of_runs (first_run bytes byte count some e n)
    ∙ text-more run (runs_of (drop count bytes)) (some_runs (drop count bytes) more) in
    rw (text, adds, pushes) (simp append_assoc)

-- the text of the last run
pub text_without_more : (bytes : List ℕ) (byte count : ℕ) (old pushed new : List ℕ) → 0 < length bytes → byte ≡ get_or bytes 0 0
    → count ≡ prefix_len (λ b. b == byte) bytes → pushed ≡ old ++ text_of_run (record { byte = byte; count = count })
    → new ≡ pushed → length (drop count bytes) ≡ 0 → new ++ text_of_runs (runs_of (drop count bytes)) ≡ old ++ text_of_runs
    (runs_of bytes)
text_without_more bytes byte count old pushed new some e n pushes same none =
    let run : Run = record { byte = byte; count = count } in
    let end : drop count bytes ≡ [] = nil_from_length (drop count bytes) none in
    let text : text_of_runs (runs_of bytes) ≡ text_of_run run = ap text_of_runs (first_run bytes byte count some e n)
    ∙ ap (λ rest. text_of_runs (run ∷ runs_of rest)) end in
    rw (text, end, same, pushes) (simp append-nil)
