-- A plain volume that opens after a later object has the same objects, entries and owners.
use Rattle.std.proofs.Common.{arith, ℕ, suc, ◌+◌, ◌-◌, ◌/◌, ◌≤◌, ◌≡◌, true, false, cond, ◌&&◌, nat_lt, nat_le, Option, Some, None}
use Rattle.std.proofs.Common.{List, [], ◌∷◌, ◌++◌, map, get_or, length, take, drop, length-drop, refl, sym, ◌∙◌, ap}
use Rattle.std.proofs.Common.{inl, inr}
use Rattle.std.proofs.lemmas.Bool.{cases_lt}
use Rattle.std.proofs.lemmas.Bool.Decides.{nat_tests}
use Rattle.std.proofs.lemmas.List.{take-append-le, drop-append-le, take-append-drop, drop-drop, get_or_past, length-take}
use Rattle.std.proofs.lemmas.List.{take-take, append_assoc}
use Rattle.std.proofs.lemmas.List.Elements.{All-take, All-drop, All-head, All-tail}
use Rattle.std.proofs.lemmas.List.FromFn.{get_or-map-range_with_len, length-map-range_with_len}
use Rattle.std.specs.List.{All, range_with_len}
use Rattle.std.specs.Option.{option_or}
use mathlib.Core.Path.{fun_ext}
use Rattle.lsvd_base.specs.declared.geometry.Geometry.{Geometry}
use Rattle.lsvd_base.specs.declared.entry.Entry.{Entry}
use Rattle.lsvd_base.specs.declared.entry.Entry.TheVariants.{Write, Zero}
use Rattle.lsvd_base.specs.Image.{after}
use Rattle.lsvd_base.specs.Range.{is_in_range}
use Rattle.lsvd_base.proofs.ImageLemmas.{Write-ends, Zero-ends}
use Rattle.lsvd_base.proofs.SectorLemmas.{applies_in_parts}
use Rattle.object_stream.specs.declared.change.Change.TheVariants.{Put, Clear}
use Rattle.object_stream.specs.declared.object.Content.{Content}
use Rattle.object_stream.specs.declared.object.Content.TheVariants.{Data, Copy, Checkpoint}
use Rattle.object_stream.specs.declared.object.StreamObject.{StreamObject}
use Rattle.object_stream.specs.declared.owner.Owner.{Owner}
use Rattle.object_stream.specs.Changes.{entry_change, change_at, sector_of}
use Rattle.object_stream.specs.Stream.{Owners, owner_by_change, source_in, owner_by_copy, after_object, after_objects, objects_to}
use Rattle.object_stream.specs.Stream.{owners, end_after, end_at, last_number, EndsFollow}
use Rattle.object_stream.specs.Laws.{from_object}
use Rattle.object_stream.proofs.StreamLemmas.{goes_on, end_no_earlier, follow_first, keeps_owners}
use Rattle.plain_disk.specs.State.{PlainState, stream_in, history_length, image_now, frontier_of, frontier_end, logged_entries}
use Rattle.plain_disk.specs.State.{unsealed_entries, owned_after, payload_by, payloads_after, payloads_in, folded_to}
use Rattle.plain_disk.specs.Stops.{cut_to_count}
use Rattle.plain_disk.specs.Valid.{IsPlainVolume}
use Rattle.plain_disk.proofs.EndLemmas.{ends_grow, frontier_is_sealed, ends_from, ends_within}

-- ---- sectors past the volume have no owner

not_past : (lba sectors k : ℕ) → lba + sectors ≤ k → (nat_le lba k && nat_lt k (lba + sectors)) ≡ false
not_past lba sectors k past = grind (arith, nat_tests)

no_change_past : (g : Geometry) (entry : Entry) (k : ℕ) → is_in_range g entry ≡ true → g.sectors ≤ k → entry_change entry k ≡ None
no_change_past g (Write lba body) k range past =
    ap (λ b. cond b (Some (Put (sector_of (k - lba) body))) None)
    (not_past lba (length body / 512) k (omega (arith, Write-ends g lba body range)))
no_change_past g (Zero lba sectors) k range past =
    ap (λ b. cond b (Some Clear) None) (not_past lba sectors k (omega (arith, Zero-ends g lba sectors range)))

no_changes_past : (g : Geometry) (entries : List Entry) (k : ℕ) → All (λ e. is_in_range g e ≡ true) entries → g.sectors ≤ k
    → change_at entries k ≡ None
no_changes_past g [] k range past = refl
no_changes_past g (entry ∷ entries) k range past =
    let P : Entry → Type 0 = λ e. is_in_range g e ≡ true in
    let first = no_change_past g entry k (All-head P entry entries range) past in
    let rest = no_changes_past g entries k (All-tail P entry entries range) past in
    ap (λ c. option_or c (entry_change entry k)) rest ∙ first

none_by_copy : (number : ℕ) (source : Option ℕ) (before : Option Owner) → before ≡ None
    → owner_by_copy number source before ≡ None
none_by_copy number None before none = none
none_by_copy number (Some source) before none = ap (owner_by_copy number (Some source)) none

none_after_object : (g : Geometry) (number : ℕ) (content : Content) (entries : List Entry) (before : Owners) (k : ℕ)
    → All (λ e. is_in_range g e ≡ true) entries → g.sectors ≤ k → before k ≡ None
    → after_object number content entries before k ≡ None
none_after_object g number Data entries before k range past none =
    ap (λ c. owner_by_change number c (before k)) (no_changes_past g entries k range past) ∙ none
none_after_object g number (Copy pairs) entries before k range past none =
    none_by_copy number (source_in pairs k) (before k) none
none_after_object g number Checkpoint entries before k range past none = none

none_after : (g : Geometry) (number end : ℕ) (entries : List Entry) (before : Owners) (objects : List StreamObject) (k : ℕ)
    → All (λ e. is_in_range g e ≡ true) entries → g.sectors ≤ k → before k ≡ None
    → after_objects number end entries before objects k ≡ None
none_after g number end entries before [] k range past none = none
none_after g number end entries before (object ∷ objects) k range past none =
    let P : Entry → Type 0 = λ e. is_in_range g e ≡ true in
    let part = take (object.end - end) entries in
    none_after g (number + 1) object.end (drop (object.end - end) entries) (after_object (number + 1) object.content part before)
    objects k
    (All-drop P (object.end - end) entries range) past
    (none_after_object g (number + 1) object.content part before k (All-take P (object.end - end) entries range) past none)

none_owns_past : (state : PlainState) (number k : ℕ) → IsPlainVolume state → state.geometry.sectors ≤ k
    → owners (stream_in state) number k ≡ None
none_owns_past state number k h past =
    none_after state.geometry state.number state.end state.entries (stream_in state).opening (objects_to (stream_in state) number)
    k h.in_range past
    (get_or_past state.owned k None (omega (arith, h.owned)))

-- ---- the stream from a later object on

pub owned_at : (state : PlainState) (number : ℕ) → IsPlainVolume state
    → (k : ℕ) → get_or (owned_after state.geometry.sectors state number) k None ≡ owners (stream_in state) number k
owned_at state number h k =
    let all = state.geometry.sectors in
    let f = owners (stream_in state) number in
    elim (cases_lt k all) [
      | inl inside ↦ get_or-map-range_with_len f 0 all k k None inside (omega arith)
      | inr past ↦ get_or_past (map f (range_with_len 0 all)) k None (omega (arith, length-map-range_with_len f 0 all))
          ∙ sym (none_owns_past state number k h past)
    ]

stream_of_fold : (state : PlainState) (number : ℕ) → IsPlainVolume state
    → stream_in (folded_to number state) ≡ from_object number (stream_in state)
stream_of_fold state number h =
    let same : (stream_in (folded_to number state)).opening ≡ owners (stream_in state) number =
    fun_ext (owned_at state number h) in
    ap (λ (f : Owners). record (from_object number (stream_in state)) { opening = f }) same

-- what is between the volume's number and its frontier
pub record MayFold (state : PlainState) (number : ℕ) : Type 0 where
  pub valid : IsPlainVolume state
  pub from : state.number ≤ number
  pub to : number ≤ frontier_of state

module _ (state : PlainState) (number : ℕ) (h : MayFold state number) where
  pub fold_sealed : number ≤ last_number (stream_in state)
  fold_sealed = omega (arith, h.to, frontier_is_sealed state h.valid)

  pub fold_from : state.end ≤ end_at (stream_in state) number
  fold_from = ends_from state number h.valid

  pub fold_within : end_at (stream_in state) number ≤ history_length state
  fold_within = ends_within state number h.valid fold_sealed

  pub owners_of_fold : (other : ℕ) → number ≤ other → owners (stream_in (folded_to number state)) other
      ≡ owners (stream_in state) other
  owners_of_fold other after_it =
      ap (λ s. owners s other) (stream_of_fold state number h.valid)
      ∙ fun_ext (keeps_owners (stream_in state) number other h.valid.stream h.from fold_sealed after_it).0

  pub ends_of_fold : (other : ℕ) → number ≤ other → end_at (stream_in (folded_to number state)) other
      ≡ end_at (stream_in state) other
  ends_of_fold other after_it =
      ap (λ s. end_at s other) (stream_of_fold state number h.valid)
      ∙ (keeps_owners (stream_in state) number other h.valid.stream h.from fold_sealed after_it).1

  pub last_of_fold : last_number (stream_in (folded_to number state)) ≡ last_number (stream_in state)
  last_of_fold =
      let long = length-drop (number - state.number) state.objects in
      let sealed = fold_sealed in
      let from = h.from in omega arith

  pub frontier_end_of_fold : frontier_end (folded_to number state) ≡ frontier_end state
  frontier_end_of_fold = ends_of_fold (frontier_of state) h.to

  pub count_of_fold : history_length (folded_to number state) ≡ history_length state
  count_of_fold =
      let long = length-drop (end_at (stream_in state) number - state.end) state.entries in
      let from = fold_from in
      let within = fold_within in omega arith

  -- the entries from a later end on
  pub entries_of_fold : (end : ℕ) → end_at (stream_in state) number ≤ end
      → drop (end - end_at (stream_in state) number) (drop (end_at (stream_in state) number - state.end) state.entries)
      ≡ drop (end - state.end) state.entries
  entries_of_fold end after_it =
      let ends = end_at (stream_in state) number in
      let from = fold_from in
      let sum : ends - state.end + (end - ends) ≡ end - state.end = omega arith in
      drop-drop (end - ends) (ends - state.end) state.entries ∙ ap (λ n. drop n state.entries) sum

  pub logged_of_fold : logged_entries (folded_to number state) ≡ logged_entries state
  logged_of_fold =
      let ends = end_at (stream_in state) number in
      ap (λ end. drop (end - ends) (drop (ends - state.end) state.entries)) frontier_end_of_fold
      ∙ entries_of_fold (frontier_end state) (ends_grow (stream_in state) number (frontier_of state) h.valid.stream.ends h.to)

  pub last_end_of_fold : end_at (stream_in (folded_to number state)) (last_number (stream_in (folded_to number state)))
      ≡ end_at (stream_in state) (last_number (stream_in state))
  last_end_of_fold =
      ap (end_at (stream_in (folded_to number state))) last_of_fold ∙ ends_of_fold (last_number (stream_in state)) fold_sealed

  pub unsealed_of_fold : unsealed_entries (folded_to number state) ≡ unsealed_entries state
  unsealed_of_fold =
      let ends = end_at (stream_in state) number in
      ap (λ end. drop (end - ends) (drop (ends - state.end) state.entries)) last_end_of_fold
      ∙ entries_of_fold (end_at (stream_in state) (last_number (stream_in state)))
      (ends_grow (stream_in state) number (last_number (stream_in state)) h.valid.stream.ends fold_sealed)

  pub image_of_fold : image_now (folded_to number state) ≡ image_now state
  image_of_fold =
      let n = end_at (stream_in state) number - state.end in
      sym (applies_in_parts state.opening (take n state.entries) (drop n state.entries))
      ∙ ap (after state.opening) (take-append-drop n state.entries)

-- ---- payloads

-- those of some objects, and then of those after them
pub payloads_in_parts : (sectors end : ℕ) (entries : List Entry) (first rest : List StreamObject) → EndsFollow end first
    → payloads_after sectors end entries (first ++ rest)
    ≡ payloads_after sectors end entries first
    ++ payloads_after sectors (end_after end first) (drop (end_after end first - end) entries) rest
payloads_in_parts sectors end entries [] rest h =
    let none : end - end ≡ 0 = omega arith in
    ap (λ n. payloads_after sectors end (drop n entries) rest) (sym none)
payloads_in_parts sectors end entries (object ∷ first) rest h =
    let n = object.end - end in
    let last = end_after object.end first in
    let grown : object.end ≤ last = end_no_earlier object.end first h.1 in
    let order = goes_on object.content end object.end h.0 in
    let sum : n + (last - object.end) ≡ last - end = omega arith in
    let left : drop (last - object.end) (drop n entries) ≡ drop (last - end) entries =
    drop-drop (last - object.end) n entries ∙ ap (λ k. drop k entries) sum in
    let own = payload_by sectors (take n entries) object.content in
    let now = payloads_after sectors object.end (drop n entries) first in
    ap (λ list. own ∷ list) (payloads_in_parts sectors object.end (drop n entries) first rest h.1
    ∙ ap (λ es. now ++ payloads_after sectors last es rest) left)

-- there are as many as objects
pub length-payloads : (sectors end : ℕ) (entries : List Entry) (objects : List StreamObject)
    → length (payloads_after sectors end entries objects) ≡ length objects
length-payloads sectors end entries [] = refl
length-payloads sectors end entries (object ∷ objects) =
    ap suc (length-payloads sectors object.end (drop (object.end - end) entries) objects)

-- they do not depend on entries past the objects' end
pub payloads_of_first : (sectors end : ℕ) (entries more : List Entry) (objects : List StreamObject) → EndsFollow end objects
    → end_after end objects ≤ end + length entries
    → payloads_after sectors end (entries ++ more) objects ≡ payloads_after sectors end entries objects
payloads_of_first sectors end entries more [] h within = refl
payloads_of_first sectors end entries more (object ∷ objects) h within =
    let n = object.end - end in
    let grown : object.end ≤ end_after object.end objects = end_no_earlier object.end objects h.1 in
    let order = goes_on object.content end object.end h.0 in
    let inside : n ≤ length entries = omega arith in
    let long = length-drop n entries in
    let rest : end_after object.end objects ≤ object.end + length (drop n entries) = omega arith in
    ap (λ es. payload_by sectors es object.content ∷ payloads_after sectors object.end (drop n (entries ++ more)) objects)
    (take-append-le n entries more inside)
    ∙ ap (λ list. payload_by sectors (take n entries) object.content ∷ list)
    (ap (λ es. payloads_after sectors object.end es objects) (drop-append-le n entries more inside)
    ∙ payloads_of_first sectors object.end (drop n entries) more objects h.1 rest)

pub payloads_of_fold : (state : PlainState) (number : ℕ) → MayFold state number
    → payloads_in (folded_to number state) ≡ payloads_in state
payloads_of_fold state number h =
    let sectors = state.geometry.sectors in
    let n = number - state.number in
    let first = take n state.objects in
    let rest = drop n state.objects in
    let now = payloads_after sectors state.end state.entries first in
    let later = payloads_after sectors (end_after state.end first)
    (drop (end_after state.end first - state.end) state.entries) rest in
    append_assoc state.payloads now later
    ∙ ap (λ list. state.payloads ++ list) (sym (payloads_in_parts sectors state.end state.entries first rest
    (follow_first state.end n state.objects h.valid.stream.ends))
    ∙ ap (payloads_after sectors state.end state.entries) (take-append-drop n state.objects))

-- ---- owners do not depend on entries past the objects' end

pub owners_of_first : (number end : ℕ) (entries more : List Entry) (before : Owners) (objects : List StreamObject)
    → EndsFollow end objects
    → end_after end objects ≤ end + length entries
    → after_objects number end (entries ++ more) before objects ≡ after_objects number end entries before objects
owners_of_first number end entries more before [] h within = refl
owners_of_first number end entries more before (object ∷ objects) h within =
    let n = object.end - end in
    let grown : object.end ≤ end_after object.end objects = end_no_earlier object.end objects h.1 in
    let order = goes_on object.content end object.end h.0 in
    let inside : n ≤ length entries = omega arith in
    let long = length-drop n entries in
    let rest : end_after object.end objects ≤ object.end + length (drop n entries) = omega arith in
    ap (λ es. after_objects (number + 1) object.end es (after_object (number + 1) object.content (take n (entries ++ more))
    before) objects) (drop-append-le n entries more inside)
    ∙ ap (λ es. after_objects (number + 1) object.end (drop n entries ++ more)
    (after_object (number + 1) object.content es before) objects) (take-append-le n entries more inside)
    ∙ owners_of_first (number + 1) object.end (drop n entries) more (after_object (number + 1) object.content (take n entries)
    before) objects h.1 rest

-- a volume that is cut off has the owners after the objects that are left
pub owners_of_cut : (state : PlainState) (number count to : ℕ) → IsPlainVolume state → number ≤ last_number (stream_in state)
    → to ≤ number → end_at (stream_in state) number ≤ count
    → owners (stream_in (cut_to_count number count state)) to ≡ owners (stream_in state) to
owners_of_cut state number count to h sealed early ends =
    let m = to - state.number in
    let q = count - state.end in
    let all = state.entries in
    let opening = (stream_in state).opening in
    let first = take m state.objects in
    let from = ends_from state number h in
    let grown = ends_grow (stream_in state) to number h.stream.ends early in
    let within = ends_within state number h sealed in
    let long = length-take q all in
    let inside : end_after state.end first ≤ state.end + length (take q all) = omega arith in
    ap (λ (f : List StreamObject). after_objects state.number state.end (take q all) opening f)
    (take-take m (number - state.number) state.objects (omega arith))
    ∙ sym (owners_of_first state.number state.end (take q all) (drop q all) opening first
    (follow_first state.end m state.objects h.stream.ends) inside)
    ∙ ap (λ (es : List Entry). after_objects state.number state.end es opening first) (take-append-drop q all)
