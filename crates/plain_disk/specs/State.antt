-- Contract: the state of the plain volume.
use Rattle.std.specs.Prelude.{◌≡◌, ℕ, ◌+◌, ◌-◌, ◌≤◌, Option, Some, None, IfSome, List, [], ◌∷◌, ◌++◌, length, take, drop, map}
use Rattle.std.specs.Prelude.{slice_index_or}
use Rattle.std.specs.List.{range_with_len, slice_get}
use Rattle.clone_chain.specs.declared.ancestor.Ancestor.{Ancestor}
use Rattle.lsvd_base.specs.declared.geometry.Geometry.{Geometry}
use Rattle.lsvd_base.specs.declared.entry.Entry.{Entry}
use Rattle.lsvd_base.specs.Image.{Image, blank, zero_sector, after}
use Rattle.object_stream.specs.declared.owner.Owner.{Owner}
use Rattle.object_stream.specs.declared.object.CopiedSector.{CopiedSector}
use Rattle.object_stream.specs.declared.object.StreamObject.{StreamObject}
use Rattle.object_stream.specs.declared.object.Content.{Content}
use Rattle.object_stream.specs.Stream.{Stream, owners, objects_to, end_at, unsealed, place_in_object}
use Rattle.upload_window.specs.Window.{WindowState, below_open}
use Rattle.plain_disk.specs.Log.{empty_from}
use Rattle.plain_disk.specs.Cache.{PlainCache, cache_with}

-- A checkpoint: its number, and the owners of the volume's sectors that it holds.
pub record PlainCheckpoint : Type 0 where
  pub number : ℕ
  pub owned : List (Option Owner)

-- A volume as lists: the volumes that it is a clone of, the nearest first, none for a volume that was created; the image, the
-- count of entries and the owners of the sectors that it opens with, after the object of a number, where the object of an
-- ancestor that owns a sector at the beginning has it in its payload, and how many sectors of payload each object of its own from
-- the first up to that one has; the entries and the objects since then; which of the objects are on their way to the store; the
-- newest checkpoint that is acknowledged; the sectors that the plan of a copy takes which is out; the objects that plans of reads
-- have pinned; those that holds keep; those that were removed, those that were ever given out for it, these among them and any
-- whose removal failed, and the one whose removal is out; and the cache.
pub record PlainState : Type 0 where
  pub geometry : Geometry
  pub chain : List Ancestor
  pub opening : Image
  pub number : ℕ
  pub end : ℕ
  pub owned : List (Option Owner)
  pub inherited : List ℕ
  pub payloads : List ℕ
  pub entries : List Entry
  pub objects : List StreamObject
  pub window : WindowState
  pub checkpoint : PlainCheckpoint
  pub plan : Option (List CopiedSector)
  pub pins : List ℕ
  pub held : List ℕ
  pub removed : List ℕ
  pub given_out : List ℕ
  pub removal : Option ℕ
  pub cache : PlainCache

-- a volume that was just created: its one object is a checkpoint of no sectors, and is acknowledged
abbrev pub created_volume : Geometry → PlainState
created_volume g = record {
  geometry = g;
  chain = [];
  opening = blank g.sectors;
  number = 1;
  end = 0;
  owned = [];
  inherited = [];
  payloads = 0 ∷ [];
  entries = [];
  objects = [];
  window = record { last = 1; objects = [] };
  checkpoint = record { number = 1; owned = [] };
  plan = None;
  pins = [];
  held = [];
  removed = [];
  given_out = [];
  removal = None;
  cache = cache_with (empty_from g.log 0);
}

-- The volume opens at its first object, with no entry before it: so does one that is followed from its beginning on. What it
-- opens with is in objects of its ancestors, and zeros: a volume that was created opens with zeros alone.
pub record OpensFirst (state : PlainState) : Type 0 where
  pub number : state.number ≡ 1
  pub end : state.end ≡ 0
  pub payloads : state.payloads ≡ 0 ∷ []
  pub inherited : (k : ℕ) → IfSome (slice_index_or state.owned k None) (λ owner. 1 ≤ owner.level)
  pub zeros : (k : ℕ) (sector : List ℕ) → slice_index_or state.owned k None ≡ None → slice_get state.opening k ≡ Some sector
      → sector ≡ zero_sector

-- its stream of objects
abbrev pub stream_in : PlainState → Stream
stream_in state = record {
  number = state.number;
  end = state.end;
  opening = λ k. slice_index_or state.owned k None;
  inherited = λ k. slice_index_or state.inherited k 0;
  entries = state.entries;
  objects = state.objects;
}

-- how many entries its history has
abbrev pub history_length : PlainState → ℕ
history_length state = state.end + length state.entries

-- what it holds: the image that its history makes of the one it opens with
abbrev pub image_now : PlainState → Image
image_now state = after state.opening state.entries

-- the frontier: the greatest number up to which all objects are acknowledged; and that object's end
abbrev pub frontier_of : PlainState → ℕ
frontier_of state = below_open state.window

abbrev pub frontier_end : PlainState → ℕ
frontier_end state = end_at (stream_in state) (frontier_of state)

-- the entries past the frontier's end, which a read gets from the log
abbrev pub logged_entries : PlainState → List Entry
logged_entries state = drop (frontier_end state - state.end) state.entries

-- the entries that are in no object
abbrev pub unsealed_entries : PlainState → List Entry
unsealed_entries state = unsealed (stream_in state)

-- ---- payload

-- how many sectors of payload an object with these entries has: those that data put, or that a copy copies
abbrev pub payload_by : (sectors : ℕ) → List Entry → Content → ℕ
payload_by sectors entries content = place_in_object content entries sectors

-- how many objects have, one after the other, where these are the entries from the end before them on
abbrev pub payloads_after : (sectors end : ℕ) → List Entry → List StreamObject → List ℕ
payloads_after sectors end entries [] = []
payloads_after sectors end entries (object ∷ objects) =
    payload_by sectors (take (object.end - end) entries) object.content
    ∷ payloads_after sectors object.end (drop (object.end - end) entries) objects

-- how many all objects have, from the first on
abbrev pub payloads_in : PlainState → List ℕ
payloads_in state = state.payloads ++ payloads_after state.geometry.sectors state.end state.entries state.objects

-- how many the object of a number has
abbrev pub payload_of : PlainState → (number : ℕ) → ℕ
payload_of state number = slice_index_or (0 ∷ payloads_in state) number 0

-- ---- a later opening

-- The owners of the first N sectors after the objects up to a number, as a list.
abbrev pub owned_after : (sectors : ℕ) → PlainState → (number : ℕ) → List (Option Owner)
owned_after sectors state number = map (owners (stream_in state) number) (range_with_len 0 sectors)

-- The volume that opens after a later object: the entries up to that object's end are folded into the image.
abbrev pub folded_to : (number : ℕ) → PlainState → PlainState
folded_to number state =
    let ends : ℕ = end_at (stream_in state) number in
    record state {
      opening = after state.opening (take (ends - state.end) state.entries);
      number = number;
      end = ends;
      owned = owned_after state.geometry.sectors state number;
      payloads =
          state.payloads
          ++ payloads_after state.geometry.sectors state.end state.entries (objects_to (stream_in state) number);
      entries = drop (ends - state.end) state.entries;
      objects = drop (number - state.number) state.objects;
    }
