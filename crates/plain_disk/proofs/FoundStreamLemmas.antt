-- The objects, entries and owners of what a mount finds of a plain volume are the volume's.
use Rattle.std.proofs.Common.{arith, ℕ, zero, suc, ◌+◌, ◌-◌, ◌<◌, ◌≤◌, ◌≡◌, List, [], ◌∷◌, take, drop, refl, ◌∙◌, ap}
use Rattle.std.specs.List.{slice_get}
use Rattle.lsvd_base.specs.declared.entry.Entry.{Entry}
use Rattle.lsvd_base.specs.Image.{after}
use Rattle.object_stream.specs.Landed.{Numbers}
use Rattle.object_stream.specs.Stream.{Owners, owners, end_at, entries_in_object}
use Rattle.plain_disk.specs.State.{PlainState, stream_in, history_length}
use Rattle.plain_disk.specs.Checkpoints.{landed_checkpoint}
use Rattle.plain_disk.specs.Stops.{recovered_number, found_by}
use Rattle.plain_disk.specs.Found.{found_in, Finds, FoundHasStream}
use Rattle.plain_disk.proofs.EndLemmas.{ends_grow}
use Rattle.plain_disk.proofs.FoldLemmas.{ends_of_fold, entries_of_fold, owners_of_cut, owners_of_fold}
use Rattle.plain_disk.proofs.FoundLemmas.{whole_may_fold, whole_entries, whole_ends, base_from}
use Rattle.plain_disk.proofs.StopLemmas.{recovers_base, recovers_sealed, recovers_within}

-- ---- an element of a part of a list

module _ {X : Type 0} where
  pub slice_of_drop : (n i : ℕ) (xs : List X) → slice_get (drop n xs) i ≡ slice_get xs (n + i)
  slice_of_drop zero i xs = let same : i ≡ 0 + i = omega arith in ap (slice_get xs) same
  slice_of_drop (suc n) i [] = refl
  slice_of_drop (suc n) i (x ∷ xs) =
      let same : suc (n + i) ≡ suc n + i = omega arith in
      slice_of_drop n i xs ∙ ap (slice_get (x ∷ xs)) same

  pub slice_of_take : (n i : ℕ) (xs : List X) → i < n → slice_get (take n xs) i ≡ slice_get xs i
  slice_of_take zero i xs early = absurd (omega arith)
  slice_of_take (suc n) i [] early = refl
  slice_of_take (suc n) zero (x ∷ xs) early = refl
  slice_of_take (suc n) (suc i) (x ∷ xs) early = slice_of_take n i xs (omega arith)

-- ---- from the newest checkpoint on

module _ (landed : Numbers) (state : PlainState) (h : Finds landed state) where
  found_ends : (number : ℕ) → (landed_checkpoint landed state).number ≤ number → number ≤ recovered_number landed state
      → end_at (stream_in (found_in landed state)) number ≡ end_at (stream_in state) number
  found_ends number from most =
      ends_of_fold (found_by landed (history_length state) state) (landed_checkpoint landed state).number
      (whole_may_fold landed state h) number from
      ∙ whole_ends landed state h number most

  found_owners : (number k : ℕ) → (landed_checkpoint landed state).number ≤ number → number ≤ recovered_number landed state
      → owners (stream_in (found_in landed state)) number k ≡ owners (stream_in state) number k
  found_owners number k from most =
      ap (λ (f : Owners). f k)
      (owners_of_fold (found_by landed (history_length state) state) (landed_checkpoint landed state).number
      (whole_may_fold landed state h) number from
      ∙ owners_of_cut state (recovered_number landed state) (history_length state) number h.valid
      (recovers_sealed state landed h.valid) most (recovers_within state landed h.valid))

  found_entries : (count : ℕ) → (found_in landed state).end ≤ count
      → drop (count - (found_in landed state).end) (found_in landed state).entries ≡ drop (count - state.end) state.entries
  found_entries count from =
      entries_of_fold (found_by landed (history_length state) state) (landed_checkpoint landed state).number
      (whole_may_fold landed state h) count from
      ∙ ap (λ (es : List Entry). drop (count - state.end) es) (whole_entries landed state h)

  found_in_object : (number : ℕ) → (landed_checkpoint landed state).number < number → number ≤ recovered_number landed state
      → entries_in_object (stream_in (found_in landed state)) number ≡ entries_in_object (stream_in state) number
  found_in_object number past most =
      let base = (landed_checkpoint landed state).number in
      let found : PlainState = found_in landed state in
      let before = number - 1 in
      let from : base ≤ before = omega arith in
      let first = found_ends before from (omega arith) in
      let last = found_ends number (omega arith) most in
      let opens = whole_ends landed state h base (recovers_base state landed) in
      let grown = ends_grow (stream_in state) base before h.valid.stream.ends from in
      let within : found.end ≤ end_at (stream_in state) before = omega (arith, opens, grown) in
      let at = λ (end from : ℕ). take (end - from) (drop (from - found.end) found.entries) in
      ap (λ (end : ℕ). at end (end_at (stream_in found) before)) last
      ∙ ap (λ (end : ℕ). at (end_at (stream_in state) number) end) first
      ∙ ap (λ (es : List Entry). take (end_at (stream_in state) number - end_at (stream_in state) before) es)
      (found_entries (end_at (stream_in state) before) within)

  found_object : (number : ℕ) → (landed_checkpoint landed state).number < number → number ≤ recovered_number landed state
      → slice_get (found_in landed state).objects (number - ((landed_checkpoint landed state).number + 1))
      ≡ slice_get state.objects (number - (state.number + 1))
  found_object number past most =
      let base = (landed_checkpoint landed state).number in
      let m = recovered_number landed state - state.number in
      let from = base_from landed state h in
      let i = number - (base + 1) in
      let sum : base - state.number + i ≡ number - (state.number + 1) = omega arith in
      slice_of_drop (base - state.number) i (take m state.objects)
      ∙ ap (slice_get (take m state.objects)) sum
      ∙ slice_of_take m (number - (state.number + 1)) state.objects (omega arith)

  found_image : (found_in landed state).opening
      ≡ after state.opening (take (end_at (stream_in state) (landed_checkpoint landed state).number - state.end) state.entries)
  found_image =
      let base = (landed_checkpoint landed state).number in
      ap (λ (end : ℕ). after state.opening (take (end - state.end) (take (history_length state - state.end) state.entries)))
      (whole_ends landed state h base (recovers_base state landed))
      ∙ ap (λ (es : List Entry). after state.opening (take (end_at (stream_in state) base - state.end) es))
      (whole_entries landed state h)

pub found_has_stream : FoundHasStream
found_has_stream state landed h = record {
  ends = found_ends landed state h;
  owned = found_owners landed state h;
  entries = found_in_object landed state h;
  objects = found_object landed state h;
  later = found_entries landed state h;
  image = found_image landed state h;
}
