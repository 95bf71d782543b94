-- Entries of a plain volume may be folded before a mount or after it.
use Rattle.std.proofs.Common.{arith, ℕ, ◌+◌, ◌-◌, ◌≤◌, ◌≡◌, max, Bool, Option, List, ◌++◌, map, length, take, drop, sym, ◌∙◌, ap}
use Rattle.std.proofs.lemmas.List.{length-take, take-take, drop-take, take-append-drop}
use Rattle.std.specs.List.{range_with_len}
use Rattle.lsvd_base.specs.declared.entry.Entry.{Entry}
use Rattle.lsvd_base.specs.Image.{Image, after}
use Rattle.object_stream.specs.declared.object.StreamObject.{StreamObject}
use Rattle.object_stream.specs.declared.owner.Owner.{Owner}
use Rattle.object_stream.specs.Landed.{Numbers}
use Rattle.object_stream.specs.Stream.{Owners, after_objects, end_after, end_at, last_number}
use Rattle.object_stream.proofs.StreamLemmas.{follow_first}
use Rattle.plain_disk.specs.declared.log.PlainCommit.{PlainCommit}
use Rattle.plain_disk.specs.Log.{mounted_log, empty_from}
use Rattle.plain_disk.specs.Cache.{PlainCache, cache_with, kept_commit}
use Rattle.plain_disk.specs.State.{PlainState, PlainCheckpoint, stream_in, payloads_after, folded_to}
use Rattle.plain_disk.specs.Checkpoints.{landed_checkpoint}
use Rattle.plain_disk.specs.Removals.{absent_of}
use Rattle.plain_disk.specs.Stops.{landed_after, recovered_number, recovered_end, kept_count, cut_to_count, mounted_kept}
use Rattle.plain_disk.specs.Stops.{mounted_lost}
use Rattle.plain_disk.specs.Valid.{MayLand, FoldingCommutesWithMounts}
use Rattle.plain_disk.proofs.EndLemmas.{ends_grow}
use Rattle.plain_disk.proofs.StopLemmas.{recovers_frontier}
use Rattle.plain_disk.proofs.FoldLemmas.{MayFold, fold_from, fold_within, ends_of_fold, last_of_fold, owners_of_first}
use Rattle.plain_disk.proofs.FoldLemmas.{payloads_of_first}
use Rattle.plain_disk.proofs.CheckpointLemmas.{landed_of_fold}
use Rattle.plain_disk.proofs.FoldReplyLemmas.{by_three, by_four}
use Rattle.plain_disk.proofs.FoldEventLemmas.{opened_by}

-- of some first elements, those after even fewer first ones
part_of_first : {X : Type 0} (n m : ℕ) (xs : List X) → n ≤ m → take (m - n) (drop n xs) ≡ drop n (take m xs)
part_of_first n m xs h =
    let sum : n + (m - n) ≡ m = omega arith in
    sym (drop-take n (m - n) xs) ∙ ap (λ k. drop n (take k xs)) sum

-- the volume cut off after the object to which its entries are folded
pub cut_of_fold : (state : PlainState) (number last count : ℕ) (checkpoint : PlainCheckpoint) (gone : List ℕ) (cache : PlainCache)
    → MayFold state number → number ≤ last → end_at (stream_in state) number ≤ count
    → record (cut_to_count last count (folded_to number state)) {
      checkpoint = checkpoint;
      removed = gone;
      given_out = gone;
      cache = cache;
    }
    ≡ folded_to number (record (cut_to_count last count state) {
      checkpoint = checkpoint;
      removed = gone;
      given_out = gone;
      cache = cache;
    })
cut_of_fold state number last count checkpoint gone cache h above ends_first =
    let n = number - state.number in
    let m = last - state.number in
    let first = take n state.objects in
    let ends = end_at (stream_in state) number in
    let d = ends - state.end in
    let q = count - state.end in
    let all = state.entries in
    let number_from = h.from in
    let from = fold_from state number h in
    let within = fold_within state number h in
    let long = length-take q all in
    let fewer : n ≤ m = omega arith in
    let less : d ≤ q = omega arith in
    let inside : end_after state.end first ≤ state.end + length (take q all) = omega arith in
    let objects_left : m - n ≡ last - number = omega arith in
    let entries_left : q - d ≡ count - ends = omega arith in
    let objects : take (last - number) (drop n state.objects) ≡ drop n (take m state.objects) =
    ap (λ k. take k (drop n state.objects)) (sym objects_left) ∙ part_of_first n m state.objects fewer in
    let entries : take (count - ends) (drop d all) ≡ drop d (take q all) =
    ap (λ k. take k (drop d all)) (sym entries_left) ∙ part_of_first d q all less in
    let opening : after state.opening (take d all) ≡ after state.opening (take d (take q all)) =
    ap (after state.opening) (sym (take-take d q all less)) in
    let same_owners : after_objects state.number state.end all (stream_in state).opening first ≡ after_objects state.number
    state.end (take q all) (stream_in state).opening first =
    ap (λ (es : List Entry). after_objects state.number state.end es (stream_in state).opening first)
    (sym (take-append-drop q all))
    ∙ owners_of_first state.number state.end (take q all) (drop q all) (stream_in state).opening first
    (follow_first state.end n state.objects h.valid.stream.ends) inside in
    let owned = ap (λ (f : Owners). map f (range_with_len 0 state.geometry.sectors)) same_owners in
    let of = payloads_after state.geometry.sectors state.end in
    let follows = follow_first state.end n state.objects h.valid.stream.ends in
    let payloads = ap (λ list. state.payloads ++ list) (ap (λ (es : List Entry). of es first) (sym (take-append-drop q all))
    ∙ payloads_of_first state.geometry.sectors state.end (take q all) (drop q all) first follows inside) in
    let cut : PlainState = record (cut_to_count last count state) {
      checkpoint = checkpoint;
      removed = gone;
      given_out = gone;
      cache = cache;
    } in
    let folded : PlainState = cut_to_count last count (folded_to number state) in
    by_four (λ (o : Image) (w : List (Option Owner)) (p : List ℕ) (e : List Entry). record folded {
      opening = o;
      owned = w;
      payloads = p;
      entries = e;
      checkpoint = checkpoint;
      removed = gone;
      given_out = gone;
      cache = cache;
    })
    _ _ _ _ _ _ _ _ opening owned payloads entries
    ∙ ap (λ (r : List StreamObject). opened_by cut number (take q all) first r) objects
    ∙ ap (λ (f : List StreamObject). opened_by cut number (take q all) f (drop n (take m state.objects)))
    (sym (take-take n m state.objects fewer))

module _ (state : PlainState) (number : ℕ) (landed : Numbers) (h : MayFold state number) (may : MayLand state landed) where
  number_of_fold : recovered_number landed (folded_to number state) ≡ recovered_number landed state
  number_of_fold =
      let at = λ (base last : ℕ). landed_after landed base (last - base) in
      ap (λ (base : ℕ). at base (last_number (stream_in (folded_to number state))))
      (ap (λ (c : PlainCheckpoint). c.number) (landed_of_fold state number landed h))
      ∙ ap (λ (last : ℕ). at (landed_checkpoint landed state).number last) (last_of_fold state number h)

  is_recovered : number ≤ recovered_number landed state
  is_recovered = omega (arith, h.to, recovers_frontier state landed h.valid may)

  end_of_fold : recovered_end landed (folded_to number state) ≡ recovered_end landed state
  end_of_fold =
      ap (end_at (stream_in (folded_to number state))) number_of_fold
      ∙ ends_of_fold state number h (recovered_number landed state) is_recovered

  recovers_from : end_at (stream_in state) number ≤ recovered_end landed state
  recovers_from = ends_grow (stream_in state) number (recovered_number landed state) h.valid.stream.ends is_recovered

  kept_of_fold : (kept : List Bool) → mounted_kept landed kept (folded_to number state)
      ≡ folded_to number (mounted_kept landed kept state)
  kept_of_fold kept =
      let found : PlainCommit = kept_commit kept state.cache in
      let gone = absent_of landed state.given_out in
      let at = λ (newest : PlainCheckpoint) (last end : ℕ). record (cut_to_count last (max end found.head.seq)
      (folded_to number state)) {
        checkpoint = newest;
        removed = gone;
        given_out = gone;
        cache =
            cache_with (mounted_log found end state.cache.log);
      } in
      let from = recovers_from in
      by_three at (landed_checkpoint landed (folded_to number state)) (landed_checkpoint landed state)
      (recovered_number landed (folded_to number state)) (recovered_number landed state)
      (recovered_end landed (folded_to number state)) (recovered_end landed state)
      (landed_of_fold state number landed h) number_of_fold end_of_fold
      ∙ cut_of_fold state number (recovered_number landed state) (kept_count landed found state)
      (landed_checkpoint landed state) gone
      (cache_with (mounted_log found (recovered_end landed state) state.cache.log)) h is_recovered (omega arith)

  lost_of_fold : mounted_lost landed (folded_to number state) ≡ folded_to number (mounted_lost landed state)
  lost_of_fold =
      let gone = absent_of landed state.given_out in
      let at = λ (newest : PlainCheckpoint) (last end : ℕ). record (cut_to_count last end (folded_to number state)) {
        checkpoint = newest;
        removed = gone;
        given_out = gone;
        cache =
            cache_with (empty_from state.cache.log.size end);
      } in
      by_three at (landed_checkpoint landed (folded_to number state)) (landed_checkpoint landed state)
      (recovered_number landed (folded_to number state)) (recovered_number landed state)
      (recovered_end landed (folded_to number state)) (recovered_end landed state)
      (landed_of_fold state number landed h) number_of_fold end_of_fold
      ∙ cut_of_fold state number (recovered_number landed state) (recovered_end landed state)
      (landed_checkpoint landed state) gone
      (cache_with (empty_from state.cache.log.size (recovered_end landed state))) h is_recovered recovers_from

pub folding_commutes_with_mounts : FoldingCommutesWithMounts
folding_commutes_with_mounts state number landed kept h may from to =
    let fold : MayFold state number = record { valid = h; from = from; to = to } in
    (kept_of_fold state number landed fold may kept, lost_of_fold state number landed fold may)
