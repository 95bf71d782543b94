-- The owners and the ends of a stream, from a later object on, and which objects own sectors.
use Rattle.std.proofs.Common.{rules, ◌≡◌, ℕ, zero, suc, ◌+◌, ◌-◌, ◌<◌, ◌≤◌, ◌⊎◌, inl, inr, Bool, true, false, cond, Option, Some}
use Rattle.std.proofs.Common.{None, List, [], ◌∷◌, ◌++◌, length, take, drop, refl, sym, ◌∙◌, ap, arith}
use Rattle.std.proofs.lemmas.List.{length-take, drop-drop}
use Rattle.std.proofs.Math.Seq.{take-add}
use Rattle.lsvd_base.specs.declared.entry.Entry.{Entry}
use Rattle.object_stream.specs.declared.change.Change.{Change}
use Rattle.object_stream.specs.declared.change.Change.TheVariants.{Put, Clear}
use Rattle.object_stream.specs.declared.object.Content.{Content}
use Rattle.object_stream.specs.declared.object.Content.TheVariants.{Data, Copy, Checkpoint}
use Rattle.object_stream.specs.declared.object.StreamObject.{StreamObject}
use Rattle.object_stream.specs.declared.owner.Owner.{Owner}
use Rattle.object_stream.specs.Changes.{change_at}
use Rattle.object_stream.specs.Stream.{Owners, owner_by_change, source_in, is_own, owner_by_copy, after_object, after_objects}
use Rattle.object_stream.specs.Stream.{objects_to, owners, end_after, end_at, GoesTo, EndsFollow}
use Rattle.object_stream.specs.Laws.{from_object, KeepsOwnersFromObject, OwnsByNumber}

-- ---- some objects, and then others

-- the end after some objects and then others
pub end_in_parts : (end : ℕ) (a b : List StreamObject) → end_after end (a ++ b) ≡ end_after (end_after end a) b
end_in_parts end [] b = refl
end_in_parts end (object ∷ a) b = end_in_parts object.end a b

-- an object ends no earlier than the one before it, and so do objects one after the other
pub goes_on : (content : Content) (end_before end : ℕ) → GoesTo content end_before end → end_before ≤ end
goes_on Data end_before end h = omega arith
goes_on (Copy pairs) end_before end h = omega arith
goes_on Checkpoint end_before end h = omega arith

pub end_no_earlier : (end : ℕ) (objects : List StreamObject) → EndsFollow end objects → end ≤ end_after end objects
end_no_earlier end [] h = omega arith
end_no_earlier end (object ∷ objects) h =
    let first : end ≤ object.end = goes_on object.content end object.end h.0 in
    let rest : object.end ≤ end_after object.end objects = end_no_earlier object.end objects h.1 in
    omega arith

pub follow_first : (end n : ℕ) (objects : List StreamObject) → EndsFollow end objects → EndsFollow end (take n objects)
follow_first end zero objects h = tt
follow_first end (suc n) [] h = tt
follow_first end (suc n) (object ∷ objects) h = (h.0, follow_first object.end n objects h.1)

-- the owners after some objects and then others
pub after_in_parts : (number end : ℕ) (entries : List Entry) (before : Owners) (a b : List StreamObject) → EndsFollow end a
    → after_objects number end entries before (a ++ b)
    ≡ after_objects (number + length a) (end_after end a) (drop (end_after end a - end) entries)
    (after_objects number end entries before a) b
after_in_parts number end entries before [] b h =
    let none : end - end ≡ 0 = omega arith in
    let same : number + 0 ≡ number = omega arith in
    rw (none, same) refl
after_in_parts number end entries before (object ∷ a) b h =
    let first : end ≤ object.end = goes_on object.content end object.end h.0 in
    let rest : object.end ≤ end_after object.end a = end_no_earlier object.end a h.1 in
    let count : number + suc (length a) ≡ number + 1 + length a = omega arith in
    let dropped : end_after object.end a - end ≡ object.end - end + (end_after object.end a - object.end) = omega arith in
    let twice : drop (end_after object.end a - object.end) (drop (object.end - end) entries)
    ≡ drop (object.end - end + (end_after object.end a - object.end)) entries =
    drop-drop (end_after object.end a - object.end) (object.end - end) entries in
    after_in_parts (number + 1) object.end (drop (object.end - end) entries)
    (after_object (number + 1) object.content (take (object.end - end) entries) before) a b h.1
    ∙ rw (count, dropped, twice) refl

-- ---- from a later object on

pub keeps_owners : KeepsOwnersFromObject
keeps_owners stream from number valid at_least at_most h =
    let first = objects_to stream from in
    let rest = take (number - from) (drop (from - stream.number) stream.objects) in
    let sum : number - stream.number ≡ from - stream.number + (number - from) = omega arith in
    let split : objects_to stream number ≡ first ++ rest =
    ap (λ n. take n stream.objects) sum
    ∙ take-add (from - stream.number) (number - from) stream.objects in
    let count : stream.number + length first ≡ from = omega (arith, length-take (from - stream.number) stream.objects) in
    let whole : owners stream number ≡ owners (from_object from stream) number =
    ap (after_objects stream.number stream.end stream.entries stream.opening) split
    ∙ after_in_parts stream.number stream.end stream.entries stream.opening first rest
    (follow_first stream.end (from - stream.number) stream.objects valid.ends)
    ∙ ap (λ n. after_objects n (end_at stream from) (drop (end_at stream from - stream.end) stream.entries) (owners stream from)
    rest) count in
    let ends : end_at (from_object from stream) number ≡ end_at stream number =
    sym (ap (end_after stream.end) split ∙ end_in_parts stream.end first rest) in
    (λ k. sym (ap (λ f. f k) whole), ends)

-- ---- which objects own

-- an owner, where there is one
abbrev owner_or : Owner → Option Owner → Owner
owner_or other None = other
owner_or other (Some owner) = owner

-- the owner of a sector after an object: as before, or that object
abbrev IsNew : (number : ℕ) → (before : Option Owner) → Owner → Type 0
IsNew number before owner = (before ≡ Some owner) ⊎ (record { level = 0; number = number } ≡ owner)

new_by_change : (number : ℕ) (change : Option Change) (before : Option Owner) (owner : Owner)
    → owner_by_change number change before ≡ Some owner → IsNew number before owner
new_by_change number None before owner h = inl h
new_by_change number (Some (Put sector)) before owner h = inr (ap (owner_or owner) h)
new_by_change number (Some Clear) before owner h = absurd (search rules)

new_by_test : (number : ℕ) (still : Bool) (before : Option Owner) (owner : Owner)
    → cond still (Some (record { level = 0; number = number })) before ≡ Some owner → IsNew number before owner
new_by_test number true before owner h = inr (ap (owner_or owner) h)
new_by_test number false before owner h = inl h

new_by_copy : (number : ℕ) (source : Option ℕ) (before : Option Owner) (owner : Owner)
    → owner_by_copy number source before ≡ Some owner → IsNew number before owner
new_by_copy number None before owner h = inl h
new_by_copy number (Some source) before owner h = new_by_test number (is_own source before) before owner h

new_by_object : (number : ℕ) (content : Content) (entries : List Entry) (before : Owners) (k : ℕ) (owner : Owner)
    → after_object number content entries before k ≡ Some owner → IsNew number (before k) owner
new_by_object number Data entries before k owner h = new_by_change number (change_at entries k) (before k) owner h
new_by_object number (Copy pairs) entries before k owner h = new_by_copy number (source_in pairs k) (before k) owner h
new_by_object number Checkpoint entries before k owner h = inl h

-- and after objects: as before, or one of them
abbrev IsOneOf : (number count : ℕ) → (before : Option Owner) → Owner → Type 0
IsOneOf number count before owner =
    (before ≡ Some owner) ⊎ ((owner.level ≡ 0) × (number < owner.number) × (owner.number ≤ number + count))

one_of_objects : (number end : ℕ) (entries : List Entry) (before : Owners) (objects : List StreamObject) (k : ℕ) (owner : Owner)
    → after_objects number end entries before objects k ≡ Some owner → IsOneOf number (length objects) (before k) owner
one_of_objects number end entries before [] k owner h = inl h
one_of_objects number end entries before (object ∷ objects) k owner h =
    let part = take (object.end - end) entries in
    elim (one_of_objects (number + 1) object.end (drop (object.end - end) entries)
    (after_object (number + 1) object.content part before) objects k owner h) [
      | inl early ↦ elim (new_by_object (number + 1) object.content part before k owner early) [
        | inl old ↦ inl old
        | inr new ↦ inr (
          sym (ap (λ o. o.level) new),
          rw (sym (ap (λ o. o.number) new)) (omega arith),
          rw
              (sym (ap (λ o. o.number) new)) (omega arith),
        )
      ]
      | inr late ↦ inr (late.0, omega (arith, late.1), omega (arith, late.2))
    ]

pub owns_by_number : OwnsByNumber
owns_by_number stream number k owner h =
    elim (one_of_objects stream.number stream.end stream.entries stream.opening (objects_to stream number) k owner h) [
      | inl opening ↦ inl opening
      | inr later ↦ inr (later.0, later.1, omega (arith, later.1, later.2, length-take (number - stream.number) stream.objects))
    ]
