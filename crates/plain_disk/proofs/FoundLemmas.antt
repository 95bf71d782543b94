-- What a mount finds of a plain volume is one, and a mount makes of it what a mount makes of the volume.
use Rattle.std.proofs.Common.{arith, ℕ, ◌-◌, ◌≤◌, ◌≡◌, Bool, true, false, not, ◌&&◌, eqb, List, take, refl, sym, ◌∙◌, ap}
use Rattle.std.proofs.Common.{inl, inr}
use Rattle.std.proofs.lemmas.List.{take-take, take_all}
use Rattle.std.proofs.lemmas.Bool.{cases_lt}
use Rattle.std.proofs.lemmas.Map.Views.{any-filter_same}
use Rattle.lsvd_base.specs.declared.entry.Entry.{Entry}
use Rattle.object_stream.specs.declared.object.StreamObject.{StreamObject}
use Rattle.object_stream.specs.Landed.{Numbers}
use Rattle.object_stream.specs.Stream.{end_after, end_at, last_number}
use Rattle.upload_window.proofs.Order.{is_frontier}
use Rattle.plain_disk.specs.Log.{mounted_log, empty_from}
use Rattle.plain_disk.specs.Cache.{PlainCache, cache_with}
use Rattle.plain_disk.specs.State.{PlainState, stream_in, history_length, frontier_of, frontier_end, folded_to}
use Rattle.plain_disk.specs.Checkpoints.{landed_checkpoint}
use Rattle.plain_disk.specs.Removals.{has, absent_of}
use Rattle.plain_disk.specs.Stops.{recovered_number, recovered_end, kept_count, cut_to_count, found_by}
use Rattle.plain_disk.specs.Valid.{IsPlainVolume, MayLand}
use Rattle.plain_disk.specs.Found.{found_in, Finds, FoundIsPlainVolume, FoundHasCounts}
use Rattle.plain_disk.specs.Found.{MountsOfFound, LosesOnSameLog, MountsFromKeepPlainVolume, CommitsAreLater, FoundHasPresent}
use Rattle.plain_disk.proofs.EndLemmas.{ends_grow}
use Rattle.plain_disk.proofs.CommitLemmas.{log_with_later_end}
use Rattle.plain_disk.proofs.CheckpointLemmas.{landed_from, same_number}
use Rattle.plain_disk.proofs.FoldLemmas.{MayFold, count_of_fold, frontier_end_of_fold}
use Rattle.plain_disk.proofs.FoldMountLemmas.{cut_of_fold}
use Rattle.plain_disk.proofs.FoldVolumeLemmas.{folding_keeps}
use Rattle.plain_disk.proofs.MountLemmas.{cut_is, newest_is_found, held_is_found, cut_count, cut_end, from_is, on_is}
use Rattle.plain_disk.proofs.StopLemmas.{last_is_later, have_landed, recovers_base, recovers_sealed}
use Rattle.plain_disk.proofs.StopLemmas.{recovers_end, recovers_within, base_has_landed, base_is_lowest}

-- ---- what is found

-- the volume with its objects up to the number that a recovery gets to, all of them acknowledged, before it is opened later
module _ (landed : Numbers) (state : PlainState) (h : Finds landed state) where
  pub base_from : state.number ≤ (landed_checkpoint landed state).number
  base_from = omega (arith, h.opened, landed_from state landed h.valid)

  pub whole_is : IsPlainVolume (found_by landed (history_length state) state)
  whole_is =
      let count = history_length state in
      cut_is state (recovered_number landed state) count (landed_checkpoint landed state) (absent_of landed state.given_out)
      state.cache h.valid (omega (arith, base_from, recovers_base state landed)) (recovers_sealed state landed h.valid)
      (recovers_within state landed h.valid) (omega arith) (newest_is_found state landed h.valid)
      (held_is_found state landed h.valid h.may) h.valid.size
      (log_with_later_end (frontier_end state) (recovered_end landed state) count state.cache.log
      (recovers_end state landed h.valid h.may) h.valid.log)

  pub whole_may_fold : MayFold (found_by landed (history_length state) state) (landed_checkpoint landed state).number
  whole_may_fold = record { valid = whole_is; from = base_from; to = recovers_base state landed }

  -- it has all the entries
  pub whole_entries : take (history_length state - state.end) state.entries ≡ state.entries
  whole_entries = take_all (history_length state - state.end) state.entries (omega arith)

  -- and the first objects that there are up to a number
  pub whole_objects : (number : ℕ) → number ≤ recovered_number landed state
      → take (number - state.number) (take (recovered_number landed state - state.number) state.objects)
      ≡ take (number - state.number) state.objects
  whole_objects number most =
      take-take (number - state.number) (recovered_number landed state - state.number) state.objects (omega arith)

  pub whole_ends : (number : ℕ) → number ≤ recovered_number landed state
      → end_at (stream_in (found_by landed (history_length state) state)) number ≡ end_at (stream_in state) number
  whole_ends number most = ap (end_after state.end) (whole_objects number most)

  -- ---- what a mount makes of it

  -- the volume with fewer of its entries, and any cache
  cut_of_whole : (count : ℕ) (cache : PlainCache) → recovered_end landed state ≤ count
      → folded_to (landed_checkpoint landed state).number (record (found_by landed count state) { cache = cache })
      ≡ record (cut_to_count (recovered_number landed state) count (found_in landed state)) { cache = cache }
  cut_of_whole count cache most =
      let base = (landed_checkpoint landed state).number in
      let last = recovered_number landed state in
      let whole : PlainState = found_by landed (history_length state) state in
      let n = last - state.number in
      let at = λ (entries : List Entry) (objects : List StreamObject). folded_to base (record (found_by landed count state) {
        entries = entries;
        objects = objects;
        cache = cache;
      }) in
      let reached = recovers_base state landed in
      let grown : end_at (stream_in state) base ≤ recovered_end landed state =
      ends_grow (stream_in state) base last h.valid.stream.ends reached in
      let ends : end_at (stream_in whole) base ≤ count = omega (arith, whole_ends base reached) in
      sym (cut_of_fold whole base last count whole.checkpoint whole.removed cache whole_may_fold reached ends
      ∙ ap (λ (es : List Entry). at (take (count - state.end) es) (take n (take n state.objects))) whole_entries
      ∙ ap (λ (os : List StreamObject). at (take (count - state.end) state.entries) os) (whole_objects last (omega arith)))

pub found_is : FoundIsPlainVolume
found_is state landed h =
    folding_keeps (found_by landed (history_length state) state) (landed_checkpoint landed state).number
    (whole_is landed state h) (base_from landed state h) (recovers_base state landed)

pub found_has_counts : FoundHasCounts
found_has_counts state landed h =
    let whole : PlainState = found_by landed (history_length state) state in
    let base = (landed_checkpoint landed state).number in
    let last = recovered_number landed state in
    let fold = whole_may_fold landed state h in
    record {
      frontier = refl;
      end = frontier_end_of_fold whole base fold ∙ cut_end state last (history_length state);
      count = count_of_fold whole base fold
          ∙ cut_count state last (history_length state) h.valid (recovers_within state landed h.valid) (omega arith);
      from = recovers_base state landed;
      sealed = omega (arith, recovers_sealed state landed h.valid, h.valid.last);
      lowest = base_is_lowest state landed h.valid h.may;
    }

pub mounts_of_found : MountsOfFound
mounts_of_found state landed found log h =
    let end = recovered_end landed state in
    record {
      kept = cut_of_whole landed state h (kept_count landed found state)
          (cache_with (mounted_log found end state.cache.log)) (omega arith);
      lost = ap (λ (s : PlainState). record s { geometry = record state.geometry { log = log } })
          (cut_of_whole landed state h end (cache_with (empty_from log end)) (omega arith));
    }

pub loses_on_same_log : LosesOnSameLog
loses_on_same_log state landed same =
    let end = recovered_end landed state in
    ap (λ (size : ℕ). record (found_by landed end state) { cache = cache_with (empty_from size end) }) same

pub mounts_from_keep : MountsFromKeepPlainVolume
mounts_from_keep state landed h may =
    (λ found within tail. from_is state landed found h may within tail, λ log limits. on_is state landed log h may limits)

pub commits_are_later : CommitsAreLater
commits_are_later end count log h = (last_is_later end count log h, h.unfinished)

-- ---- which objects are there

-- of those that were given out, one is absent that has not landed
pub has_absent : (landed : Numbers) (given_out : List ℕ) (number : ℕ)
    → has (absent_of landed given_out) number ≡ (not (landed number) && has given_out number)
has_absent landed given_out number =
    any-filter_same (λ other. eqb other number) (λ other. not (landed other)) (not (landed number))
    (λ other same. ap (λ n. not (landed n)) (same_number other number same)) given_out

-- one that was not given out has landed, up to the number that a recovery gets to
not_given_has_landed : (state : PlainState) (landed : Numbers) (number : ℕ) → IsPlainVolume state → MayLand state landed
    → 1 ≤ number → number ≤ recovered_number landed state → has state.given_out number ≡ false → landed number ≡ true
not_given_has_landed state landed number h may some most not_given =
    let base = (landed_checkpoint landed state).number in
    let last = last_number (stream_in state) in
    let frontier = frontier_of state in
    elim (cases_lt frontier number) [
      | inl past ↦ elim (cases_lt base number) [
        | inl above ↦ have_landed landed base (last - base) number above most
        | inr from ↦
            let lowest = base_is_lowest state landed h may in
            let same : number ≡ base = omega arith in
            rw same (base_has_landed state landed h may)
      ]
      | inr reached ↦ may.surely number some
          ((is_frontier state.window.objects state.window.last h.window.order).reached number some reached) not_given
    ]

present_by : (landed given : Bool) → (given ≡ false → landed ≡ true) → landed ≡ not (not landed && given)
present_by true given is = refl
present_by false true is = refl
present_by false false is = is refl

pub found_has_present : FoundHasPresent
found_has_present state landed number h may some most =
    present_by (landed number) (has state.given_out number) (not_given_has_landed state landed number h may some most)
    ∙ ap (λ b. not b) (sym (has_absent landed state.given_out number))
