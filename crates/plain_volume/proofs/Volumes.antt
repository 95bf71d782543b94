-- What the program of the plain volume keeps of its fields.
use Rattle.std.proofs.Common.{◌≡◌, ℕ, zero, suc, ◌+◌, ◌-◌, ◌<◌, ◌≤◌, Bool, true, false, cond, Some, None, unwrap_or, is_some}
use Rattle.std.proofs.Common.{List, [], ◌∷◌, ◌++◌, length, take, sym, subst, arith, length-drop}
use Rattle.std.specs.List.{All, find, range_with_len}
use Rattle.std.proofs.lemmas.List.Elements.{All-take, All-append}
use Rattle.std.proofs.lemmas.Bool.Decides.{nat_tests}
use Rattle.lsvd_base.specs.declared.entry.Entry.{Entry}
use Rattle.lsvd_base.specs.declared.geometry.Geometry.{Geometry}
use Rattle.lsvd_base.specs.Range.{is_in_range}
use Rattle.object_stream.specs.declared.object.StreamObject.{StreamObject}
use Rattle.upload_window.specs.declared.object.OpenObject.{OpenObject}
use Rattle.object_stream.specs.declared.plain_stream.PlainStream.{PlainStream}
use Rattle.object_stream.specs.Stream.{end_after, end_at, last_number, unsealed}
use Rattle.object_stream.specs.Plain.{stream_of}
use Rattle.batcher.specs.Batch.{fullness_of_first}
use Rattle.plain_disk.specs.Objects.{sealed_count}
use Rattle.plain_disk.specs.Sectors.{AllInRange}
use Rattle.plain_disk.specs.Entries.{batch_refusal_of}
use Rattle.plain_volume.specs.Fields.{max_seq, IsPlainFields}

-- an object's end is one that a list of entries has
abbrev pub Fits : StreamObject → Type 0
Fits object = object.end ≤ max_seq

end_after_fits : (end : ℕ) (objects : List StreamObject) → end ≤ max_seq → All Fits objects → end_after end objects ≤ max_seq
end_after_fits end [] fits all = fits
end_after_fits end (object ∷ objects) fits all =
    end_after_fits object.end objects (all 0 object (omega arith)) (λ k d inside. all (suc k) d (omega arith))

pub end_fits : (g : Geometry) (stream : PlainStream) (greatest checkpoint number : ℕ) (uploads : List OpenObject)
    → IsPlainFields g stream greatest checkpoint uploads
    → end_at (stream_of stream) number ≤ max_seq
end_fits g stream greatest checkpoint number uploads is =
    end_after_fits stream.end (take (number - stream.number) stream.objects.items) (omega (arith, is.end))
    (All-take Fits (number - stream.number) stream.objects.items is.ends)

-- ---- an object more

-- a search for a number of a range finds one of the range
found_within : (test : ℕ → Bool) (from count : ℕ) → unwrap_or (find test (range_with_len from count)) (from + count)
    ≤ from + count
found_within test from zero = omega arith
found_within test from (suc count) =
    let rest : ℕ = unwrap_or (find test (range_with_len (from + 1) count)) (from + 1 + count) in
    let same : from + 1 + count ≡ from + suc count = omega arith in
    let later : unwrap_or (find test (range_with_len (from + 1) count)) (from + suc count) ≤ from + suc count =
    subst (λ n. unwrap_or (find test (range_with_len (from + 1) count)) n ≤ n) same (found_within test (from + 1) count) in
    elim (test from) as (λ b. unwrap_or (cond b (Some from) (find test (range_with_len (from + 1) count))) (from + suc count)
    ≤ from + suc count) [
      | true ↦ omega arith
      | false ↦ later
    ]

pub sealed_within : (batch : ℕ) (entries : List Entry) → sealed_count batch entries ≤ length entries
sealed_within batch entries =
    let within = found_within (λ n. is_some (fullness_of_first batch entries n)) 0 (length entries) in
    subst (λ n. unwrap_or (find (λ n. is_some (fullness_of_first batch entries n)) (range_with_len 0 (length entries))) n ≤ n)
    (omega arith) within

-- the end of the next object, where an entry is in no object
pub next_end_fits : (stream : PlainStream) (batch end count : ℕ) → stream.end ≡ 0 → length stream.entries.items ≤ max_seq
    → end ≡ end_at (stream_of stream) (last_number (stream_of stream)) → count ≡ sealed_count batch (unsealed (stream_of stream))
    → 0 < length (unsealed (stream_of stream)) → end + count ≤ max_seq
next_end_fits stream batch end count begins fits is counted some =
    let last : ℕ = end_at (stream_of stream) (last_number (stream_of stream)) in
    let size : length (unsealed (stream_of stream)) ≡ length stream.entries.items - (last - stream.end) =
    length-drop (last - stream.end) stream.entries.items in
    omega (arith, size, begins, fits, is, counted, some, sealed_within batch (unsealed (stream_of stream)))

-- ---- an entry more

-- an entry that the batch takes is in range
pub taken_in_range : (g : Geometry) (unsealed : List Entry) (entry : Entry) → batch_refusal_of g unsealed entry ≡ None
    → is_in_range g entry ≡ true
taken_in_range g unsealed entry none = grind (arith, nat_tests)

in_range_alone : (g : Geometry) (entry : Entry) → is_in_range g entry ≡ true → AllInRange g (entry ∷ [])
in_range_alone g entry range zero d inside = range
in_range_alone g entry range (suc k) d inside = absurd (omega arith)

pub entered_fields : (g : Geometry) (entries longer : List Entry) (entry : Entry) → AllInRange g entries
    → is_in_range g entry ≡ true
    → longer ≡ entries ++ entry ∷ [] → AllInRange g longer
entered_fields g entries longer entry is range more =
    subst (λ (list : List Entry). AllInRange g list) (sym more)
    (All-append (λ e. is_in_range g e ≡ true) entries (entry ∷ []) is (in_range_alone g entry range))
