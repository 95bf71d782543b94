-- What a mount made is found again, where the objects have landed that it found.
use Rattle.std.proofs.Common.{arith, ℕ, ◌-◌, ◌<◌, ◌≤◌, ◌≡◌, Bool, true, false, cond, not, ◌&&◌, nat_le, List, [], ◌∷◌, take}
use Rattle.std.proofs.Common.{refl, sym, ◌∙◌, ap}
use Rattle.std.specs.Prelude.{IsTrue}
use Rattle.std.proofs.lemmas.Bool.Decides.{nat_tests}
use Rattle.std.proofs.lemmas.List.{take_all}
use Rattle.std.proofs.lemmas.List.Elements.{All-nil}
use Rattle.lsvd_base.specs.declared.entry.Entry.{Entry}
use Rattle.lsvd_base.specs.declared.geometry.Geometry.{Geometry}
use Rattle.object_stream.specs.declared.object.StreamObject.{StreamObject}
use Rattle.object_stream.specs.Landed.{Numbers}
use Rattle.object_stream.specs.Stream.{last_number}
use Rattle.upload_window.specs.declared.object.OpenObject.{OpenObject}
use Rattle.plain_disk.specs.Log.{mounted_log, empty_from}
use Rattle.plain_disk.specs.Cache.{PlainCache, cache_with}
use Rattle.plain_disk.specs.State.{PlainState, stream_in, history_length, folded_to}
use Rattle.plain_disk.specs.Checkpoints.{landed_checkpoint}
use Rattle.plain_disk.specs.Removals.{has, absent_of}
use Rattle.plain_disk.specs.Stops.{landed_after, recovered_number, recovered_end, kept_count, found_by}
use Rattle.plain_disk.specs.Valid.{IsPlainVolume, MayLand}
use Rattle.plain_disk.specs.Found.{Finds, landed_to, IsFoundAgain, FoundAgain}
use Rattle.plain_disk.proofs.StopLemmas.{up_to_count, reaches, have_landed, recovers_base}
use Rattle.plain_disk.proofs.FoundLemmas.{has_absent, found_has_present}

-- ---- numbers

is_to : (landed : Numbers) (last number : ℕ) → landed number ≡ true → number ≤ last → IsTrue (landed_to last landed number)
is_to landed last number is most =
    let within : nat_le number last ≡ true = grind (arith, nat_tests) in
    ap (λ b. b && nat_le number last) is ∙ within

none_past : (b : Bool) → (b && false) ≡ true → ⊥
none_past true is = cc
none_past false is = cc

is_not_past : (landed : Numbers) (last number : ℕ) → last < number → IsTrue (landed_to last landed number) → ⊥
is_not_past landed last number past is =
    let beyond : nat_le number last ≡ false = grind (arith, nat_tests) in
    none_past (landed number) (sym (ap (λ b. landed number && b) beyond) ∙ is)

is_absent : (landed given : Bool) → (not landed && given) ≡ true → landed ≡ false
is_absent true given is = cc
is_absent false given is = refl

has_landed_by : (landed given : Bool) → landed ≡ not given → given ≡ false → landed ≡ true
has_landed_by landed true is not_given = cc
has_landed_by landed false is not_given = is

-- ---- what is gone

-- none of those that have not landed has
gone_step : (landed : Numbers) (last number : ℕ) (rest : List ℕ) (b : Bool) → landed number ≡ b
    → absent_of (landed_to last landed) rest ≡ rest
    → absent_of (landed_to last landed) (cond (not b) (number ∷ rest) rest) ≡ cond (not b) (number ∷ rest) rest
gone_step landed last number rest true is same = same
gone_step landed last number rest false is same =
    let others : List ℕ = absent_of (landed_to last landed) rest in
    ap (λ b. cond (not (b && nat_le number last)) (number ∷ others) others) is ∙ ap (λ xs. number ∷ xs) same

gone_again : (landed : Numbers) (last : ℕ) (given_out : List ℕ)
    → absent_of (landed_to last landed) (absent_of landed given_out) ≡ absent_of landed given_out
gone_again landed last [] = refl
gone_again landed last (number ∷ numbers) =
    gone_step landed last number (absent_of landed numbers) (landed number) refl (gone_again landed last numbers)

-- ---- the volume that a mount made

module _ (landed : Numbers) (state : PlainState) (h : Finds landed state) (count : ℕ) (geometry : Geometry)
    (cache : PlainCache) where
  -- with so many entries, these sizes and this cache
  abbrev made : PlainState
  made = record (found_by landed count state) { geometry = geometry; cache = cache }

  abbrev last : ℕ
  last = recovered_number landed state

  abbrev again : Numbers
  again = landed_to last landed

  abbrev gone : List ℕ
  gone = absent_of landed state.given_out

  abbrev base : ℕ
  base = (landed_checkpoint landed state).number

  again_may_land : MayLand made again
  again_may_land = record {
    surely = λ number some is not_given.
        is_to landed last number (has_landed_by (landed number) (has gone number)
        (found_has_present state landed number h.valid h.may some is.was_entered) not_given) is.was_entered;
    removed = λ number is.
        ap (λ b. b && nat_le number last)
        (is_absent (landed number) (has state.given_out number) (sym (has_absent landed state.given_out number) ∙ is));
    perhaps = λ number past is. is_not_past landed last number past is;
    begun = All-nil (λ (object : OpenObject). IsTrue (object.is_checkpoint && again object.number) → IsTrue object.was_started);
  }

  recovers_again : IsPlainVolume made → recovered_number again made ≡ last
  recovers_again is =
      let sealed = last_number (stream_in made) in
      let reached = recovers_base state landed in
      let ends = is.last in
      let least : last ≤ landed_after again base (sealed - base) =
      reaches again base (sealed - base) last
      (λ k above most. is_to landed last k (have_landed landed base (last_number (stream_in state) - base) k above most) most)
      (omega (arith, ends)) in
      let most = up_to_count again base (sealed - base) in
      omega (arith, ends)

  found_again_by : IsPlainVolume made → found_by again (history_length made) made ≡ made
  found_again_by is =
      let found = recovered_number again made in
      let ends = is.last in
      let at = λ (entries : List Entry) (objects : List StreamObject) (number : ℕ) (removed : List ℕ). record made {
        entries = entries;
        objects = objects;
        window = record { last = number; objects = [] };
        removed = removed;
        given_out = removed;
      } in
      let entries : take (history_length made - made.end) made.entries ≡ made.entries =
      take_all (history_length made - made.end) made.entries (omega arith) in
      let objects : take (last - made.number) made.objects ≡ made.objects =
      take_all (last - made.number) made.objects (omega (arith, ends)) in
      ap (λ (es : List Entry). at es (take (found - made.number) made.objects) found (absent_of again gone)) entries
      ∙ ap (λ n. at made.entries (take (n - made.number) made.objects) n (absent_of again gone)) (recovers_again is)
      ∙ ap (λ (os : List StreamObject). at made.entries os last (absent_of again gone)) objects
      ∙ ap (λ (xs : List ℕ). at made.entries made.objects last xs) (gone_again landed last state.given_out)

  is_found_again : IsPlainVolume made → IsFoundAgain landed last (landed_checkpoint landed state) made
  is_found_again is = record {
    may = again_may_land;
    number = recovers_again is;
    newest = refl;
    found = ap (λ (s : PlainState). folded_to base s) (found_again_by is);
  }

pub found_again : FoundAgain
found_again state landed h =
    let end = recovered_end landed state in (
      λ found is. is_found_again landed state h (kept_count landed found state) state.geometry
          (cache_with (mounted_log found end state.cache.log)) is,
      λ log is. is_found_again landed state h end (record state.geometry { log = log }) (cache_with (empty_from log end)) is,
    )
