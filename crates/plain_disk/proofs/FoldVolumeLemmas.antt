-- A plain volume whose entries were folded is one, and folding in parts is folding at once.
use Rattle.std.proofs.Common.{arith, ℕ, zero, suc, ◌+◌, ◌-◌, ◌≤◌, ◌≡◌, true, Option, List, [], ◌∷◌, ◌++◌, map, length, take, drop}
use Rattle.std.proofs.Common.{sym, ◌∙◌, ap, subst₂}
use Rattle.std.proofs.lemmas.List.{drop-drop, append_assoc, length-append, length-take}
use Rattle.std.proofs.lemmas.List.Elements.{All-take, All-drop, All-head, All-tail}
use Rattle.std.proofs.lemmas.List.FromFn.{length-map-range_with_len}
use Rattle.std.proofs.Math.Seq.{take-add}
use Rattle.std.specs.List.{All, range_with_len}
use Rattle.lsvd_base.specs.declared.geometry.Geometry.{Geometry}
use Rattle.lsvd_base.specs.declared.entry.Entry.{Entry}
use Rattle.lsvd_base.specs.declared.entry.Entry.TheVariants.{Write, Zero}
use Rattle.lsvd_base.specs.Image.{Image, apply, after}
use Rattle.lsvd_base.specs.Laws.{EndsBy}
use Rattle.lsvd_base.specs.Range.{is_in_range}
use Rattle.lsvd_base.proofs.ImageLemmas.{Write-ends, Zero-ends}
use Rattle.lsvd_base.proofs.SectorLemmas.{keeps_count, applies_in_parts}
use Rattle.object_stream.specs.declared.object.StreamObject.{StreamObject}
use Rattle.object_stream.specs.declared.owner.Owner.{Owner}
use Rattle.object_stream.specs.Stream.{Owners, owners, is_own, objects_to, end_after, end_at, EndsFollow}
use Rattle.object_stream.proofs.StreamLemmas.{follow_first}
use Rattle.plain_disk.specs.State.{PlainState, stream_in, frontier_of, payloads_after, folded_to}
use Rattle.plain_disk.specs.Valid.{IsPlainCheckpoint, IsPlainLog, IsPlainVolume, FoldingKeepsPlainVolume, FoldsInParts}
use Rattle.plain_disk.proofs.EndLemmas.{ends_grow, frontier_is_sealed}
use Rattle.plain_disk.proofs.FoldLemmas.{MayFold, owners_of_fold, ends_of_fold, last_of_fold, frontier_end_of_fold, count_of_fold}
use Rattle.plain_disk.proofs.FoldLemmas.{entries_of_fold, last_end_of_fold, fold_from, owned_at, payloads_in_parts}
use Rattle.plain_disk.proofs.FoldLemmas.{length-payloads}
use Rattle.plain_disk.proofs.CheckpointLemmas.{maps_what_owns}
use Rattle.plain_disk.proofs.FoldReplyLemmas.{by_four}

-- ---- a folded volume

ends_by : (g : Geometry) (entry : Entry) (image : Image) → is_in_range g entry ≡ true → length image ≡ g.sectors
    → EndsBy (length image) entry
ends_by g (Write lba body) image range size = omega (arith, Write-ends g lba body range)
ends_by g (Zero lba sectors) image range size = omega (arith, Zero-ends g lba sectors range)

-- entries in range leave as many sectors
sectors_after : (g : Geometry) (image : Image) (entries : List Entry) → All (λ e. is_in_range g e ≡ true) entries
    → length image ≡ g.sectors
    → length (after image entries) ≡ g.sectors
sectors_after g image [] range size = size
sectors_after g image (entry ∷ entries) range size =
    let P : Entry → Type 0 = λ e. is_in_range g e ≡ true in
    let ends = ends_by g entry image (All-head P entry entries range) size in
    sectors_after g (apply entry image) entries (All-tail P entry entries range) (keeps_count entry image ends ∙ size)

-- the objects after some first ones follow those
follow_rest : (end n : ℕ) (objects : List StreamObject) → EndsFollow end objects
    → EndsFollow (end_after end (take n objects)) (drop n objects)
follow_rest end zero objects h = h
follow_rest end (suc n) [] h = tt
follow_rest end (suc n) (object ∷ objects) h = follow_rest object.end n objects h.1

-- the checkpoint holds what it did, or where the volume opens after it, maps what still owns a sector there
checkpoint_of_fold : (state : PlainState) (number : ℕ) → MayFold state number
    → IsPlainCheckpoint (stream_in (folded_to number state)) (frontier_of state) state.given_out state.checkpoint
checkpoint_of_fold state number h =
    let is = h.valid.checkpoint in
    record {
      numbered = is.numbered;
      reached = is.reached;
      holds = λ from k. is.holds (omega (arith, h.from, from)) k
          ∙ sym (ap (λ (f : Owners). f k) (owners_of_fold state number h state.checkpoint.number from));
      still = λ before early k first owns. maps_what_owns (stream_in state) (frontier_of state) state.given_out state.checkpoint
          number early k h.valid.stream is (frontier_is_sealed state h.valid) before first
          (ap (is_own early) (sym (owned_at state number h.valid k)) ∙ owns);
      unneeded = is.unneeded;
    }

-- there is a payload for each object up to that which it opens after then
payloads_counted : (state : PlainState) (number : ℕ) → MayFold state number
    → length (folded_to number state).payloads ≡ number
payloads_counted state number h =
    let first = objects_to (stream_in state) number in
    let more = payloads_after state.geometry.sectors state.end state.entries first in
    let sealed = frontier_is_sealed state h.valid in
    omega (
      arith,
      length-append state.payloads more,
      length-payloads state.geometry.sectors state.end state.entries first,
      length-take (number - state.number) state.objects,
      h.valid.payloads,
      h.from,
      h.to,
      sealed,
    )

fold_is : (state : PlainState) (number : ℕ) → MayFold state number → IsPlainVolume (folded_to number state)
fold_is state number h =
    let was = h.valid in
    let all = state.geometry.sectors in
    let n = end_at (stream_in state) number - state.end in
    let P : Entry → Type 0 = λ e. is_in_range state.geometry e ≡ true in
    let within = was.stream.within in
    let last_end = last_end_of_fold state number h in
    let count = count_of_fold state number h in
    record {
      limits = was.limits;
      sectors = sectors_after state.geometry state.opening (take n state.entries) (All-take P n state.entries was.in_range)
          was.sectors;
      owned = omega (arith, length-map-range_with_len (owners (stream_in state) number) 0 all);
      payloads = payloads_counted state number h;
      in_range = All-drop P n state.entries was.in_range;
      stream = record {
        ends = follow_rest state.end (number - state.number) state.objects was.stream.ends;
        within = omega arith;
      };
      window = was.window;
      last = was.last ∙ sym (last_of_fold state number h);
      opened = h.to;
      begun = was.begun;
      checkpoint = checkpoint_of_fold state number h;
      held = was.held;
      log = subst₂ (λ e c. IsPlainLog e c state.cache.log) (sym (frontier_end_of_fold state number h)) (sym count) was.log;
      size = was.size;
    }

pub folding_keeps : FoldingKeepsPlainVolume
folding_keeps state number h from to = fold_is state number (record { valid = h; from = from; to = to })

-- ---- in parts

pub folds_in_parts : FoldsInParts
folds_in_parts state number later h from above to =
    let fold : MayFold state number = record { valid = h; from = from; to = omega arith } in
    let folded : PlainState = folded_to number state in
    let ends = end_at (stream_in state) number in
    let next = end_at (stream_in state) later in
    let order : ends ≤ next = ends_grow (stream_in state) number later h.stream.ends above in
    let from_end : state.end ≤ ends = fold_from state number fold in
    let d = ends - state.end in
    let sum : next - state.end ≡ d + (next - ends) = omega arith in
    let opening : after (after state.opening (take d state.entries)) (take (next - ends) (drop d state.entries))
    ≡ after state.opening (take (next - state.end) state.entries) =
    sym (applies_in_parts state.opening (take d state.entries) (take (next - ends) (drop d state.entries)))
    ∙ ap (after state.opening) (sym (take-add d (next - ends) state.entries))
    ∙ ap (λ k. after state.opening (take k state.entries)) (sym sum) in
    let owned = ap (λ (f : Owners). map f (range_with_len 0 state.geometry.sectors))
    (owners_of_fold state number fold later above) in
    let sectors = state.geometry.sectors in
    let first = take (number - state.number) state.objects in
    let rest = take (later - number) (drop (number - state.number) state.objects) in
    let count : number - state.number + (later - number) ≡ later - state.number = omega arith in
    let follows = follow_first state.end (number - state.number) state.objects h.stream.ends in
    let payloads = append_assoc state.payloads (payloads_after sectors state.end state.entries first)
    (payloads_after sectors ends (drop d state.entries) rest)
    ∙ ap (λ list. state.payloads ++ list) (sym (payloads_in_parts sectors state.end state.entries first rest follows)
    ∙ ap (payloads_after sectors state.end state.entries) (sym (take-add (number - state.number) (later - number) state.objects)
    ∙ ap (λ k. take k state.objects) count)) in
    let entries = entries_of_fold state number fold next order in
    let objects = drop-drop (later - number) (number - state.number) state.objects ∙ ap (λ k. drop k state.objects) count in
    let at = λ (end : ℕ). record (folded_to later folded) {
      opening = after folded.opening (take (end - ends) folded.entries);
      end = end;
      entries = drop (end - ends) folded.entries;
    } in
    ap at (ends_of_fold state number fold later above)
    ∙ by_four (λ (o : Image) (w : List (Option Owner)) (p : List ℕ) (e : List Entry). record (at next) {
      opening = o;
      owned = w;
      payloads = p;
      entries = e;
    })
    _ _ _ _ _ _ _ _ opening owned payloads entries
    ∙ ap (λ (r : List StreamObject). record (folded_to later state) { objects = r }) objects
