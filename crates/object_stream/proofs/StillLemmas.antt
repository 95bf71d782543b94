-- A sector that an earlier object owns after some objects more was theirs before, and none of their entries changed it.
use Rattle.std.proofs.Common.{◌≡◌, ℕ, ◌+◌, ◌-◌, ◌≤◌, ◌<◌, Bool, true, false, cond, Option, Some, None, List, [], ◌∷◌, take, drop}
use Rattle.std.proofs.Common.{refl, sym, ◌∙◌, ap, arith}
use Rattle.std.specs.Prelude.{nat_eq}
use Rattle.std.specs.Option.{option_or}
use Rattle.std.proofs.lemmas.Bool.Decides.{nat_tests}
use Rattle.std.proofs.Math.Seq.{take-add}
use Rattle.lsvd_base.specs.declared.entry.Entry.{Entry}
use Rattle.object_stream.specs.declared.change.Change.{Change}
use Rattle.object_stream.specs.declared.change.Change.TheVariants.{Put, Clear}
use Rattle.object_stream.specs.declared.object.Content.{Content}
use Rattle.object_stream.specs.declared.object.Content.TheVariants.{Data, Copy, Checkpoint}
use Rattle.object_stream.specs.declared.object.StreamObject.{StreamObject}
use Rattle.object_stream.specs.declared.owner.Owner.{Owner}
use Rattle.object_stream.specs.Changes.{change_at}
use Rattle.object_stream.specs.Stream.{Owners, owner_by_change, source_in, is_own, owner_by_copy, after_object, after_objects}
use Rattle.object_stream.specs.Stream.{end_after, GoesTo, EndsFollow}
use Rattle.object_stream.proofs.ChangeLemmas.{changes_in_parts}
use Rattle.object_stream.proofs.StreamLemmas.{goes_on, end_no_earlier}

-- ---- one object

-- an owner is the object of a later number, which is no earlier one
not_later : (source number : ℕ) → source < number → is_own source (Some (record { level = 0; number = number })) ≡ true → ⊥
not_later source number before own =
    let same : number ≡ source = grind (arith, nat_tests) in
    omega (arith, same, before)

by_change : (source number : ℕ) (change : Option Change) (owner : Option Owner) → source < number
    → is_own source (owner_by_change number change owner) ≡ true → (is_own source owner ≡ true) × (change ≡ None)
by_change source number None owner before own = (own, refl)
by_change source number (Some (Put sector)) owner before own = absurd (not_later source number before own)
by_change source number (Some Clear) owner before own = absurd cc

by_test : (source number : ℕ) (test : Bool) (owner : Option Owner) → source < number
    → is_own source (cond test (Some (record { level = 0; number = number })) owner) ≡ true → is_own source owner ≡ true
by_test source number true owner before own = absurd (not_later source number before own)
by_test source number false owner before own = own

by_copy : (source number : ℕ) (from : Option ℕ) (owner : Option Owner) → source < number
    → is_own source (owner_by_copy number from owner) ≡ true → is_own source owner ≡ true
by_copy source number None owner before own = own
by_copy source number (Some other) owner before own = by_test source number (is_own other owner) owner before own

by_content : (source number end_before end : ℕ) (content : Content) (entries : List Entry) (before : Owners) (k : ℕ)
    → source < number → GoesTo content end_before end
    → is_own source (after_object number content (take (end - end_before) entries) before k) ≡ true
    → (is_own source (before k) ≡ true) × (change_at (take (end - end_before) entries) k ≡ None)
by_content source number end_before end Data entries before k low goes own =
    by_change source number (change_at (take (end - end_before) entries) k) (before k) low own
by_content source number end_before end (Copy pairs) entries before k low goes own =
    let none : end - end_before ≡ 0 = omega (arith, goes) in
    (by_copy source number (source_in pairs k) (before k) low own, ap (λ n. change_at (take n entries) k) none)
by_content source number end_before end Checkpoint entries before k low goes own =
    let none : end - end_before ≡ 0 = omega (arith, goes) in
    (own, ap (λ n. change_at (take n entries) k) none)

-- ---- objects one after the other

pub still_own : (source number end : ℕ) (entries : List Entry) (before : Owners) (list : List StreamObject) (k : ℕ)
    → source ≤ number → EndsFollow end list → is_own source (after_objects number end entries before list k) ≡ true
    → (is_own source (before k) ≡ true) × (change_at (take (end_after end list - end) entries) k ≡ None)
still_own source number end entries before [] k low follow own =
    let none : end - end ≡ 0 = omega arith in
    (own, ap (λ n. change_at (take n entries) k) none)
still_own source number end entries before (object ∷ list) k low follow own =
    let part = take (object.end - end) entries in
    let later = drop (object.end - end) entries in
    let first : end ≤ object.end = goes_on object.content end object.end follow.0 in
    let rest : object.end ≤ end_after object.end list = end_no_earlier object.end list follow.1 in
    let sum : end_after object.end list - end ≡ object.end - end + (end_after object.end list - object.end) = omega arith in
    let past = still_own source (number + 1) object.end later (after_object (number + 1) object.content part before) list k
    (omega arith) follow.1 own in
    let one = by_content source (number + 1) end object.end object.content entries before k (omega arith) follow.0 past.0 in (
      one.0,
      ap (λ n. change_at (take n entries) k) sum
          ∙ ap (λ list. change_at list k) (take-add (object.end - end) (end_after object.end list - object.end) entries)
          ∙ changes_in_parts part (take (end_after object.end list - object.end) later) k
          ∙ ap (λ change. option_or change (change_at part k)) past.1
          ∙ one.1,
    )
