-- The pins of the objects of a plan are those of the plain volume.
use Rattle.std.proofs.Common.{◌≡◌, ℕ, suc, ◌-◌, ◌<◌, ◌==◌, Bool, true, false, cond, List, [], ◌∷◌, ◌++◌, refl, sym, ◌∙◌}
use Rattle.std.proofs.Common.{ap, subst, arith, append_assoc, append-nil, get_or}
use Rattle.std.specs.Prelude.{◌↔◌}
use Rattle.std.specs.List.{All, AllPairs}
use Rattle.std.proofs.lemmas.Bool.Decides.{nat_tests}
use Rattle.std.proofs.lemmas.List.Elements.{All-nil, All-cons, All-head, All-tail, All-weaker}
use Rattle.std.proofs.lemmas.List.Kept.{AllPairs-from_increasing}
use Rattle.object_table.specs.Table.{row_of}
use Rattle.object_uploads.specs.State.{UploadsState}
use Rattle.object_uploads.specs.Queue.{pins_of}
use Rattle.batcher.specs.State.{BatchState}
use Rattle.obj_log.specs.State.{ObjLogState}
use Rattle.plain_disk.specs.State.{PlainState}
use Rattle.plain_disk.specs.Reads.{unpinned as without_pin, is_read_from, are_pinned}
use Rattle.plain_disk.specs.Removals.{has}
use Rattle.plain_disk.specs.Valid.{IsPlainVolume}
use Rattle.plain_disk.proofs.CheckpointLemmas.{both_true}
use Rattle.refine_objects.specs.Table.{times_pinned}
use Rattle.refine_objects.specs.TableLaws.{ShowsBoth, PinnedEachShowPins, UnpinnedEachShowUnpins, PinnedAreShown}
use Rattle.refine_objects.proofs.PinShown.{unpinned_less, pinned_shows_pin, unpinned_shows_unpin}
use Rattle.refine_objects.proofs.RemovalShown.{not_pinned, no_pins}

-- ---- one after the other

-- a plain volume is one whatever its pins are
with_pins : (plain : PlainState) (pins : List ℕ) → IsPlainVolume plain → IsPlainVolume (record plain { pins = pins })
with_pins plain pins valid = record {
  limits = valid.limits;
  sectors = valid.sectors;
  owned = valid.owned;
  payloads = valid.payloads;
  in_range = valid.in_range;
  stream = valid.stream;
  window = valid.window;
  last = valid.last;
  opened = valid.opened;
  begun = valid.begun;
  checkpoint = valid.checkpoint;
  held = valid.held;
  log = valid.log;
  size = valid.size;
}

-- a list that is another one shows what that shows
same_shown : (data_at : ℕ → ℕ) (old new : ObjLogState) (plain : PlainState) → new.uploads ≡ old.uploads
    → new.batch ≡ old.batch → ShowsBoth data_at old plain → ShowsBoth data_at new plain
same_shown data_at old new plain uploads batch shows =
    let same : new ≡ old =
    ap (λ (u : UploadsState). record { batch = new.batch; uploads = u }) uploads
    ∙ ap (λ (b : BatchState). record { batch = b; uploads = old.uploads }) batch in
    subst (λ (list : ObjLogState). ShowsBoth data_at list plain) (sym same) shows

-- a list with other objects
abbrev with_uploads : UploadsState → ObjLogState → ObjLogState
with_uploads uploads list = record { batch = list.batch; uploads = uploads }

pub pinned_each_show_pins : PinnedEachShowPins
pinned_each_show_pins data_at old new plain [] was valid shows reads same batch =
    subst (λ pins. ShowsBoth data_at new (record plain { pins = pins })) (sym (append-nil plain.pins))
    (same_shown data_at old new plain same batch shows)
pinned_each_show_pins data_at old new plain (number ∷ numbers) was valid shows reads (middle, changed_pins, now, rest) batch =
    let IsRead = λ (number : ℕ). (k : ℕ) × (is_read_from plain number k ≡ true) in
    let first = All-head IsRead number numbers reads in
    let pins = plain.pins ++ number ∷ [] in
    let one = pinned_shows_pin data_at old (with_uploads middle old) plain number first.0 was now valid shows first.1
    changed_pins refl in
    let all = pinned_each_show_pins data_at (with_uploads middle old) new (record plain { pins = pins }) numbers now
    (with_pins plain pins valid) one (All-tail IsRead number numbers reads) rest batch in
    subst (λ pins. ShowsBoth data_at new (record plain { pins = pins })) (append_assoc plain.pins (number ∷ []) numbers) all

pub unpinned_each_show_unpins : UnpinnedEachShowUnpins
unpinned_each_show_unpins data_at old new plain [] was shows same batch = same_shown data_at old new plain same batch shows
unpinned_each_show_unpins data_at old new plain (number ∷ numbers) was shows (middle, changed_pins, now, rest) batch =
    let one = unpinned_shows_unpin data_at old (with_uploads middle old) plain number was shows changed_pins refl in
    unpinned_each_show_unpins data_at (with_uploads middle old) new (record plain { pins = without_pin number plain.pins })
    numbers now one rest batch

-- ---- what is pinned

-- by a test, whether a number is among the pins
some_by : (test : Bool) (number : ℕ) (pins : List ℕ) → has pins number ≡ test → test ≡ true → 0 < times_pinned number pins
some_by true number pins is pinned =
    let none : times_pinned number pins ≡ 0 → true ≡ false = λ zero_is. sym is ∙ not_pinned number pins zero_is in
    let some : times_pinned number pins ≡ 0 → ⊥ = λ zero_is. (let bad = none zero_is in cc) in
    omega (arith, some)
some_by false number pins is pinned = absurd cc

among_by : (test : Bool) (number : ℕ) (pins : List ℕ) → has pins number ≡ test → 0 < times_pinned number pins → test ≡ true
among_by true number pins is some = refl
among_by false number pins is some = let none = no_pins number pins is in absurd (omega (arith, some, none))

-- each of some numbers is pinned
abbrev ArePinned : List ℕ → List ℕ → Type 0
ArePinned pins numbers = All (λ number. 0 < times_pinned number pins) numbers

-- the later ones are pinned as often while a lower one is unpinned
later_pins : (number other : ℕ) (pins : List ℕ) → number < other
    → times_pinned other (without_pin number pins) ≡ times_pinned other pins
later_pins number other pins below =
    let differ : (number == other) ≡ false = grind (arith, nat_tests, below) in
    let less = unpinned_less number other pins ∙ ap (λ b. times_pinned other pins - cond b 1 0) differ in
    omega (arith, less)

later_pinned : (number : ℕ) (numbers pins : List ℕ) → All (λ other. number < other) numbers
    → ArePinned (without_pin number pins) numbers ↔ ArePinned pins numbers
later_pinned number numbers pins above = (
  λ all k d inside.
      subst (λ count. 0 < count) (later_pins number (get_or numbers k d) pins (above k d inside)) (all k d inside),
  λ all k d inside.
      subst (λ count. 0 < count) (sym (later_pins number (get_or numbers k d) pins (above k d inside))) (all k d inside),
)

-- in a list where each number is below all later ones
above_first : (number : ℕ) (numbers : List ℕ) → AllPairs (λ x y. x < y) (number ∷ numbers) → All (λ other. number < other) numbers
above_first number numbers pairs = λ k d inside. pairs 0 (suc k) d (omega arith) (omega (arith, inside))

pairs_after : (number : ℕ) (numbers : List ℕ) → AllPairs (λ x y. x < y) (number ∷ numbers) → AllPairs (λ x y. x < y) numbers
pairs_after number numbers pairs = λ i j d less inside. pairs (suc i) (suc j) d (omega (arith, less)) (omega (arith, inside))

pinned_are : (numbers pins : List ℕ) → AllPairs (λ x y. x < y) numbers → ArePinned pins numbers → are_pinned numbers pins ≡ true
pinned_are [] pins ascend all = refl
pinned_are (number ∷ numbers) pins ascend all =
    let Some = λ (n : ℕ). 0 < times_pinned n pins in
    let here = among_by (has pins number) number pins refl (All-head Some number numbers all) in
    let rest = pinned_are numbers (without_pin number pins) (pairs_after number numbers ascend)
    ((later_pinned number numbers pins (above_first number numbers ascend)).1 (All-tail Some number numbers all)) in
    rw here rest

are_pinned_each : (numbers pins : List ℕ) → AllPairs (λ x y. x < y) numbers → are_pinned numbers pins ≡ true
    → ArePinned pins numbers
are_pinned_each [] pins ascend are = All-nil (λ number. 0 < times_pinned number pins)
are_pinned_each (number ∷ numbers) pins ascend are =
    let both = both_true (has pins number) (are_pinned numbers (without_pin number pins)) are in
    let rest = are_pinned_each numbers (without_pin number pins) (pairs_after number numbers ascend) both.1 in
    All-cons (λ n. 0 < times_pinned n pins) number numbers (some_by (has pins number) number pins refl both.0)
    ((later_pinned number numbers pins (above_first number numbers ascend)).0 rest)

pub pinned_are_shown : PinnedAreShown
pinned_are_shown queue plain numbers shows ascending =
    let rows = queue.maps.objects.rows in
    let ascend = AllPairs-from_increasing numbers ascending in (
      λ all. pinned_are numbers plain.pins ascend
          (All-weaker (λ n. 0 < pins_of (row_of n rows)) (λ n. 0 < times_pinned n plain.pins)
          (λ n some. subst (λ count. 0 < count) (shows.pins n) some) numbers all),
      λ are.
          All-weaker (λ n. 0 < times_pinned n plain.pins) (λ n. 0 < pins_of (row_of n rows))
          (λ n some. subst (λ count. 0 < count) (sym (shows.pins n)) some) numbers
          (are_pinned_each numbers plain.pins ascend are),
    )
