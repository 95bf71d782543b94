-- A store stands for the volume that a mount made, once no object past the recovered ones is there.
use Rattle.std.proofs.Common.{◌≡◌, ℕ, ◌<◌, ◌≤◌, inl, inr, Bool, true, false, cond, not, Option, Some, None, List, refl, sym}
use Rattle.std.proofs.Common.{◌∙◌, ap, subst, arith}
use Rattle.std.specs.Prelude.{unwrap_or}
use Rattle.std.proofs.lemmas.Bool.{cases_lt}
use Rattle.clone_chain.specs.declared.ancestor.Ancestor.{Ancestor}
use Rattle.lsvd_base.specs.declared.geometry.Geometry.{Geometry}
use Rattle.lsvd_names.specs.Names.{numbered_name}
use Rattle.lsvd_objstore.specs.Objects.{Objects, found}
use Rattle.object_format.specs.declared.expected.Expected.{Expected}
use Rattle.refine_mount.specs.Found.{expected_for}
use Rattle.object_stream.specs.Landed.{Numbers}
use Rattle.object_stream.specs.Replay.{object_name}
use Rattle.object_uploads.specs.State.{UploadsState}
use Rattle.plain_disk.specs.Log.{mounted_log, empty_from}
use Rattle.plain_disk.specs.Cache.{PlainCache, cache_with}
use Rattle.plain_disk.specs.Checkpoints.{landed_checkpoint}
use Rattle.plain_disk.specs.State.{PlainState, OpensFirst}
use Rattle.plain_disk.specs.Found.{SealsCheckpoints}
use Rattle.plain_disk.specs.Removals.{has, absent_of}
use Rattle.plain_disk.specs.Stops.{recovered_number, recovered_end, kept_count, found_by}
use Rattle.plain_disk.specs.Valid.{IsPlainVolume}
use Rattle.plain_disk.proofs.CheckpointLemmas.{both_true, given_is_unneeded, landed_is}
use Rattle.plain_disk.proofs.MarkedLemmas.{mounts_seal}
use Rattle.plain_disk.proofs.FoundLemmas.{has_absent, found_has_present}
use Rattle.plain_disk.proofs.OpeningLemmas.{mounts_keep_opening}
use Rattle.plain_disk.proofs.StopLemmas.{recovers_base}
use Rattle.stopped_volume.specs.Store.{PutState, MayHoldPut}
use Rattle.stopped_volume.specs.Store.PutState.{Acknowledged, GivenOut, Begun, NotBegun}
use Rattle.stopped_volume.specs.Super.{HasVolume}
use Rattle.refine_store.specs.Puts.{IsObjectOf, state_of_put, AreBytesOfPut, ArePuts, MayBeLeft}
use Rattle.refine_store.specs.Stored.{StoreStands, HasVolumeUpTo, HasNonePast}
use Rattle.refine_store.specs.Laws.{MountedStands, StandsWithAnyCache}
use Rattle.refine_store.proofs.KeepLemmas.{copied_too, mounts_keep_object}

-- ---- puts of what the store has

-- each object that a store has was put, and is acknowledged
abbrev put_held : Option (List ℕ) → Option (PutState × List ℕ)
put_held None = None
put_held (Some bytes) = Some (Acknowledged, bytes)

-- the puts of all those that it has
abbrev pub puts_in : (uuid : List ℕ) → Objects → ℕ → Option (PutState × List ℕ)
puts_in uuid objects number = put_held (found objects (numbered_name uuid number))

-- the put that another one is
same_put : (a b : PutState × List ℕ) → Some a ≡ Some b → a ≡ b
same_put a b is = ap (λ (o : Option (PutState × List ℕ)). unwrap_or o a) is

may_hold : (held : Option (List ℕ)) (state : PutState) (bytes : List ℕ) → put_held held ≡ Some (state, bytes)
    → MayHoldPut state bytes held
may_hold None state bytes is = absurd (cc)
may_hold (Some there) state bytes is =
    subst (λ (p : PutState × List ℕ). MayHoldPut p.0 p.1 (Some there)) (same_put (Acknowledged, there) (state, bytes) is) refl

holds_none : (held : Option (List ℕ)) → put_held held ≡ None → held ≡ None
holds_none None is = refl
holds_none (Some there) is = absurd (cc)

-- none of them is on its way
none_begun : (held : Option (List ℕ)) (bytes : List ℕ) → put_held held ≡ Some (Begun, bytes) → ⊥
none_begun None bytes is = absurd (cc)
none_begun (Some there) bytes is =
    (let state : Acknowledged ≡ Begun = ap (λ (p : PutState × List ℕ). p.0) (same_put (Acknowledged, there) (Begun, bytes) is) in
    cc)

-- ---- what a mount made

-- the same sizes with a log of this many sectors
abbrev sizes_with : (log : ℕ) → Geometry → Geometry
sizes_with log geometry = record geometry { log = log }

-- the volume has the same sizes but for the log, on whatever log
has_with_log : (uuid : List ℕ) (geometry : Geometry) (chain : List Ancestor) (epoch : ℕ) (objects : Objects) (log : ℕ)
    → HasVolume uuid geometry chain epoch objects → HasVolume uuid (sizes_with log geometry) chain epoch objects
has_with_log uuid geometry chain epoch objects log has = record {
  volume = has.volume;
  says = has.says;
  sizes = ap (sizes_with log) has.sizes;
  chain_is = has.chain_is;
  epochs = has.epochs;
  whole = has.whole;
  holds = has.holds;
}

-- what a mount makes of the objects that have landed, with its first N entries, a log and a cache
abbrev made_as : Numbers → (log count : ℕ) → PlainCache → PlainState → PlainState
made_as landed log count cache plain =
    record (found_by landed count plain) { geometry = sizes_with log plain.geometry; cache = cache }

not_of : (a b : Bool) → a ≡ not b → b ≡ false → a ≡ true
not_of a true same is = absurd (cc)
not_of a false same is = same

-- an object that is acknowledged, and was not given out for removal
acknowledged_by : (given : Bool) → given ≡ false → cond given GivenOut Acknowledged ≡ Acknowledged
acknowledged_by given is = ap (λ b. cond b GivenOut Acknowledged) is

module _ (uuid : List ℕ) (epoch : ℕ) (plain : PlainState) (landed : Numbers) (objects : Objects) (valid : IsPlainVolume plain)
    (has_it : HasVolumeUpTo uuid epoch plain landed objects) (none : HasNonePast uuid (recovered_number landed plain) objects)
  where
    abbrev volume : Expected
    volume = expected_for uuid plain

    abbrev number : ℕ
    number = recovered_number landed plain

    abbrev gone : List ℕ
    gone = absent_of landed plain.given_out

    -- an object that a mount found
    kept : (other : ℕ) → 0 < other → other ≤ number → has gone other ≡ false
        → (bytes : List ℕ) × (found objects (object_name volume other) ≡ Some bytes) × IsObjectOf volume plain other bytes
    kept other some most is =
        has_it.there other some most
        (not_of (landed other) (has gone other) (found_has_present plain landed other valid has_it.may some most) is)

    -- and one that is not there any more
    absent : (other : ℕ) → has gone other ≡ true → found objects (object_name volume other) ≡ None
    absent other is =
        let both = both_true (not (landed other)) (has plain.given_out other)
        (sym (has_absent landed plain.given_out other) ∙ is) in
        let unneeded = given_is_unneeded (landed_checkpoint landed plain) plain.given_out other
        (landed_is plain landed valid).unneeded both.1 in
        let most : other ≤ number = omega (arith, unneeded.before, recovers_base plain landed) in
        elim (cases_lt 0 other) [
          | inl some ↦
              has_it.absent other some most
              (found_has_present plain landed other valid has_it.may some most ∙ ap not is)
          | inr zero_is ↦
              let zero : 0 ≡ other = omega (arith, zero_is) in
              subst (λ n. found objects (object_name volume n) ≡ None) zero has_it.none_first
        ]

    -- the volume with these objects, its first N entries and any cache, where each object is one of it
    module _ (log count : ℕ) (cache : PlainCache) (opens : OpensFirst (made_as landed log count cache plain))
        (seals : SealsCheckpoints (made_as landed log count cache plain))
        (keeps : (other : ℕ) (bytes : List ℕ) → other ≤ number → IsObjectOf volume plain other bytes
        → IsObjectOf volume (made_as landed log count cache plain) other bytes)
      where
        abbrev made : PlainState
        made = made_as landed log count cache plain

        are_puts : ArePuts volume made (puts_in uuid objects)
        are_puts = record {
          known = λ other some most is.
              (let there = kept other some most is in
              let state : state_of_put made other ≡ Acknowledged = acknowledged_by (has gone other) is in (
                there.0,
                ap put_held there.1
                    ∙ sym (ap (λ s. let put : PutState × List ℕ = (s, there.0) in Some put) state),
                subst (λ s. AreBytesOfPut s volume made other there.0) (sym state) (keeps other there.0 most there.2),
              ));
          removed = λ other is. ap put_held (absent other is);
          none_first = ap put_held has_it.none_first;
          none_else = λ other past. ap put_held (none other past);
        }

        may_be_left : MayBeLeft uuid epoch made (puts_in uuid objects) objects
        may_be_left = record {
          described = has_with_log uuid plain.geometry plain.chain epoch objects log has_it.described;
          opens = opens;
          inherits = has_it.inherits;
          seals = seals;
          held = record {
            puts_are = λ other state bytes is. may_hold (found objects (object_name volume other)) state bytes is;
            none_else = λ other is. holds_none (found objects (object_name volume other)) is;
          };
          holds = has_it.holds;
        }

        made_stands : (uploads : UploadsState) → StoreStands uuid epoch made uploads objects
        made_stands uploads = record {
          puts = puts_in uuid objects;
          are = are_puts;
          left = may_be_left;
          sealed = λ other bytes is. absurd (none_begun (found objects (object_name volume other)) bytes is);
          out = tt;
        }

-- ---- the laws

pub mounted_stands : MountedStands
mounted_stands uuid epoch plain landed found log uploads objects valid has_it none =
    let volume : Expected = expected_for uuid plain in
    let end = recovered_end landed plain in
    let opens = mounts_keep_opening plain landed found log has_it.opens in
    let seals = mounts_seal plain landed found log valid has_it.seals in (
      made_stands uuid epoch plain landed objects valid has_it none plain.geometry.log (kept_count landed found plain)
          (cache_with (mounted_log found end plain.cache.log)) opens.0 seals.0
          (λ other bytes low is. (mounts_keep_object volume plain landed found log other bytes valid has_it.opens has_it.may low
          is).0) uploads,
      made_stands uuid epoch plain landed objects valid has_it none log end (cache_with (empty_from log end)) opens.1 seals.1
          (λ other bytes low is. (mounts_keep_object volume plain landed found log other bytes valid has_it.opens has_it.may low
          is).1) uploads,
    )

-- an object of a plain volume is one whatever the cache is
object_with : (cache : PlainCache) (expected : Expected) (plain : PlainState) (n : ℕ) (bytes : List ℕ)
    → IsObjectOf expected plain n bytes → IsObjectOf expected (record plain { cache = cache }) n bytes
object_with cache expected plain n bytes (inl is) = inl (record {
  first = is.first;
  rows = is.rows;
  is_checkpoint = is.is_checkpoint;
  says = is.says;
  places = is.places;
})
object_with cache expected plain n bytes (inr is) = inr (record {
  past = is.past;
  object = is.object;
  there = is.there;
  rows = is.rows;
  holds = is.holds;
  copied = copied_too plain (record plain { cache = cache }) n bytes is.rows refl refl is.copied;
})

bytes_with : (cache : PlainCache) (state : PutState) (expected : Expected) (plain : PlainState) (n : ℕ) (bytes : List ℕ)
    → AreBytesOfPut state expected plain n bytes → AreBytesOfPut state expected (record plain { cache = cache }) n bytes
bytes_with cache Acknowledged expected plain n bytes known = object_with cache expected plain n bytes known
bytes_with cache GivenOut expected plain n bytes known = object_with cache expected plain n bytes known
bytes_with cache Begun expected plain n bytes known = object_with cache expected plain n bytes known
bytes_with cache NotBegun expected plain n bytes known = tt

pub stands_with_any_cache : StandsWithAnyCache
stands_with_any_cache uuid epoch plain cache uploads objects stands =
    let volume : Expected = expected_for uuid plain in
    let opens = stands.left.opens in
    let seals = stands.left.seals in
    record {
      puts = stands.puts;
      are = record {
        known = λ number some most is.
            (let known = stands.are.known number some most is in
            (known.0, known.1, bytes_with cache (state_of_put plain number) volume plain number known.0 known.2));
        removed = stands.are.removed;
        none_first = stands.are.none_first;
        none_else = stands.are.none_else;
      };
      left = record {
        described = stands.left.described;
        opens = record {
          number = opens.number;
          end = opens.end;
          payloads = opens.payloads;
          inherited = opens.inherited;
          zeros = opens.zeros;
        };
        inherits = stands.left.inherits;
        seals = record { sealed = seals.sealed; marked = seals.marked; removed = seals.removed; out = seals.out };
        held = stands.left.held;
        holds = stands.left.holds;
      };
      sealed = stands.sealed;
      out = stands.out;
    }
