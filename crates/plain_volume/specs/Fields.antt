-- For this crate's own clauses: what the program of the plain volume keeps of its fields.
use Rattle.std.specs.Prelude.{◌≡◌, ℕ, ◌+◌, ◌*◌, ◌==◌, ◌^◌, ◌<◌, ◌≤◌, not, ◌&&◌, IfSome, IsTrue, Option, Some, None, Bool, true}
use Rattle.std.specs.Prelude.{false, ◌||◌, nat_lt, List, [], ◌∷◌, ◌++◌, length, map, if◌then◌else◌}
use Rattle.std.specs.List.{All, list_any, range_with_len, filter}
use Rattle.lsvd_base.specs.declared.geometry.Geometry.{Geometry}
use Rattle.lsvd_base.specs.declared.entry.Entry.{Entry}
use Rattle.lsvd_base.specs.Limits.{is_within_limits}
use Rattle.log_room.specs.Room.{IsRoom, need, free, record_sectors}
use Rattle.object_stream.specs.declared.plain_stream.PlainStream.{PlainStream}
use Rattle.plain_disk.specs.declared.log.PlainCommit.{PlainCommit}
use Rattle.object_stream.specs.declared.object.StreamObject.{StreamObject}
use Rattle.object_stream.specs.declared.owner.Owner.{Owner}
use Rattle.object_stream.specs.Landed.{Numbers}
use Rattle.object_stream.specs.Stream.{Stream, owners, is_own}
use Rattle.upload_window.specs.declared.object.OpenObject.{OpenObject}
use Rattle.upload_window.specs.Window.{entered}
use Rattle.plain_disk.specs.declared.cache.PendingWrite.{PendingWrite}
use Rattle.plain_disk.specs.declared.cache.PendingWrite.TheVariants.{OpenedGate}
use Rattle.plain_disk.specs.Log.{PlainLog, room_in}
use Rattle.plain_disk.specs.Sectors.{AllInRange}
use Rattle.plain_disk.specs.Writers.{covers_sector}
use Rattle.plain_disk.specs.declared.event.PlainReply.{PlainReply}
use Rattle.plain_disk.specs.declared.event.PlainReply.TheVariants.{NoRoom, Fault}
use Rattle.plain_disk.specs.Cache.{PlainCache, passes_entry, cache_after_entry, passes_commit, cache_after_commit}
use Rattle.plain_disk.specs.Entries.{has_room_for}
use Rattle.plain_disk.specs.State.{PlainState, PlainCheckpoint, frontier_of, payloads_in, payload_of, owned_after}
use Rattle.plain_disk.specs.Collection.{live_in}
use Rattle.plain_volume.specs.declared.collection.Share.{Share}

-- no number of a list of entries comes near to this, since each entry takes memory
abbrev pub max_seq : ℕ
max_seq = 2 ^ 63

-- a commit's head is inside a log of this many sectors, and its tail's seq is one that a list of entries has
pub record IsInside (size : ℕ) (commit : PlainCommit) : Type 0 where
  pub seq : commit.tail.seq ≤ max_seq
  pub head : commit.head.position < size

-- what the log keeps
pub record IsRecordLog (log : PlainLog) : Type 0 where
  pub room : IsRoom (room_in log)
  pub last : IsInside log.size log.last
  pub unfinished : IfSome log.unfinished (IsInside log.size)

-- a write opens a gate
abbrev pub is_opened_gate : PendingWrite → Bool
is_opened_gate OpenedGate = true
is_opened_gate write = false

-- a read gets the sector from the object of this number, where the entries past the frontier's end are these
abbrev pub is_read_at : Stream → (frontier : ℕ) → (logged : List Entry) → (number k : ℕ) → Bool
is_read_at stream frontier logged number k = is_own number (owners stream frontier k)
    && not (list_any (λ entry. covers_sector entry k) logged)

-- the objects that a read gets sectors from
abbrev pub objects_at : Stream → (frontier : ℕ) → (logged : List Entry) → (lba sectors : ℕ) → List ℕ
objects_at stream frontier logged lba sectors =
    filter (λ number. list_any (is_read_at stream frontier logged number) (range_with_len lba sectors))
    (range_with_len 1 frontier)

-- What the program keeps: the limits of the geometry, entries in range, a stream that begins at object 1, ends that fit, and no
-- number past the stream's last object.
pub record IsPlainFields (geometry : Geometry) (stream : PlainStream) (greatest checkpoint : ℕ) (uploads : List OpenObject)
    : Type 0 where
  pub limits : IsTrue (is_within_limits geometry)
  pub in_range : AllInRange geometry stream.entries.items
  pub number : stream.number ≡ 1
  pub end : stream.end ≡ 0
  pub ends : All (λ object. object.end ≤ max_seq) stream.objects.items
  pub last : greatest ≤ 1 + length stream.objects.items
  pub newest : checkpoint ≤ 1 + length stream.objects.items
  pub numbers : All (λ object. object.number ≤ 1 + length stream.objects.items) uploads

-- a commit for room is to be made, where the frontier's end is this seq
abbrev pub commits_first : PlainCache → (end : ℕ) → Entry → Bool
commits_first cache end entry = not (has_room_for cache entry) && nat_lt cache.log.last.tail.seq end

-- the cache that the entry comes to
abbrev pub cache_ready : PlainCache → (end : ℕ) → Entry → PlainCache
cache_ready cache end entry = if commits_first cache end entry then cache_after_commit end cache else cache

-- why the entry, which the batch takes, has no record then
abbrev pub refusal_by : (ready : PlainCache) → Entry → Option PlainReply
refusal_by ready entry =
    if not (has_room_for ready entry) then Some (NoRoom (need (room_in ready.log) (record_sectors entry))
    (free (room_in ready.log))) else
    (if passes_entry ready entry then None else Some Fault)

abbrev pub record_refusal : PlainCache → (end : ℕ) → Entry → Option PlainReply
record_refusal cache end entry =
    if commits_first cache end entry && not (passes_commit cache) then Some Fault else refusal_by
    (cache_ready cache end entry) entry

-- and the cache then
abbrev pub cache_with_record : PlainCache → (end : ℕ) → Entry → PlainCache
cache_with_record cache end entry =
    if (commits_first cache end entry && not (passes_commit cache)) || not (has_room_for (cache_ready cache end entry) entry)
    then cache_ready cache end entry else cache_after_entry entry (cache_ready cache end entry)

-- ---- checkpoints

abbrev pub checkpoint_with : (number : ℕ) → (owned : List (Option Owner)) → PlainCheckpoint
checkpoint_with number owned = record { number = number; owned = owned }

-- the owners of the first N sectors after the objects of a stream up to a number, as a list
abbrev pub owned_in : Stream → (sectors number : ℕ) → List (Option Owner)
owned_in stream sectors number = map (owners stream number) (range_with_len 0 sectors)

-- the number of the last checkpoint of these objects that has landed, or the one before them
abbrev pub last_landed : Numbers → (before : Option ℕ) → List OpenObject → Option ℕ
last_landed landed before [] = before
last_landed landed before (object ∷ objects) =
    last_landed landed (if object.is_checkpoint && landed object.number then Some object.number else before) objects

-- the volume with an object more, which is on its way
abbrev pub sealed_with : StreamObject → (is_checkpoint : Bool) → PlainState → PlainState
sealed_with object is_checkpoint state = record state {
  objects = state.objects ++ object ∷ [];
  window = entered (state.window.last + 1) is_checkpoint state.window;
}

-- ---- collections

-- the owners of a volume's sectors at the frontier
abbrev pub owned_now : PlainState → List (Option Owner)
owned_now state = owned_after state.geometry.sectors state (frontier_of state)

-- these are they, these the payloads of a volume's objects, and these what holds keep
pub record AreSeen (owned : List (Option Owner)) (payloads held : List ℕ) (state : PlainState) : Type 0 where
  pub of_sectors : owned ≡ owned_now state
  pub of_objects : payloads ≡ payloads_in state
  pub of_holds : held ≡ state.held

-- how much of the object of a number is live
abbrev pub share_of : PlainState → (number : ℕ) → Share
share_of state number = record { number = number; live = live_in state number; payload = payload_of state number }

-- it has a live sector, and fewer than 70 in a hundred of its payload
abbrev pub is_little_live : Share → Bool
is_little_live share = nat_lt 0 share.live && nat_lt (share.live * 100) (70 * share.payload)

-- a smaller share is live than of another or, where the shares are the same, the number is smaller
abbrev pub goes_before : Share → Share → Bool
goes_before share other =
    let mine : ℕ = share.live * other.payload in
    let its : ℕ = other.live * share.payload in
    nat_lt mine its || (mine == its && nat_lt share.number other.number)

-- shares in order with one more
abbrev pub put_share : Share → List Share → List Share
put_share share [] = share ∷ []
put_share share (first ∷ rest) = if goes_before first share then first ∷ put_share share rest else share ∷ first ∷ rest
