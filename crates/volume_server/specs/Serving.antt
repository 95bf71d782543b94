-- Contract: what a server does for its clients.
use Rattle.std.specs.Prelude.{ℕ, ◌≡◌, ◌<◌, ◌⊎◌, zero, suc, Bool, true, List, [], Option, IfSome}
use Rattle.lsvd_base.specs.declared.entry.Entry.{Entry}
use Rattle.lsvd_fault.specs.Faults.{HasRisen, CountsOne, counted_with}
use Rattle.lsvd_listen.specs.Listening.{IsFirst, AreNone}
use Rattle.lsvd_objstore.specs.Store.{ReceiptState}
use Rattle.nbd_session.specs.declared.session.SessionEnd.{SessionEnd}
use Rattle.volume_owner.specs.Acts.{Moment}
use Rattle.nbd_session.specs.Session.{LinkBytes, IsSession, export_of}
use Rattle.nbd_session.specs.BlockDevice.{BlockRelations}
use Rattle.volume_server.specs.History.{Grows, LeavesRoom}
use Rattle.volume_server.specs.OwnerDevice.{owner_relations}
use Rattle.volume_server.specs.declared.next.NextClient.{NextClient}
use Rattle.volume_server.specs.declared.next.NextClient.TheVariants.{Served, NoLink, Failed}
use Rattle.volume_server.specs.declared.serving.Lane.{Lane}
use Rattle.volume_server.specs.declared.serving.LaneEnd.{LaneEnd}
use Rattle.volume_server.specs.declared.serving.LaneEnd.TheVariants as ends

-- ---- the listener

-- how many links a listener gave, whether it is closed, and its count of faults
pub record ListenerState : Type 0 where
  pub given : ℕ
  pub closed : Bool
  pub faults : ℕ

-- what a listener tells by these of its ghosts
abbrev pub listener_told : {L : Type 0} → (given : L → ℕ) → (closed : L → Bool) → (faults : L → ℕ) → L → ListenerState
listener_told given closed faults listener = record { given = given listener; closed = closed listener; faults = faults listener }

-- it gave the next client, or is closed, or failed
abbrev pub GivesNext : {K : Type 0} → NextClient K → ListenerState → ListenerState → Type 0
GivesNext (Served link end) old new = new ≡ record old { given = counted_with old.given 1 }
GivesNext NoLink old new = new ≡ record old { closed = true }
GivesNext Failed old new = (new.given ≡ old.given) × (new.closed ≡ old.closed) × CountsOne old.faults new.faults

-- it gave so many clients, and then as many were served as were to be, or it is closed, or failed
abbrev pub ClosesAs : LaneEnd → ListenerState → ListenerState → Type 0
ClosesAs ends.Counted old new = (new.closed ≡ old.closed) × (new.faults ≡ old.faults)
ClosesAs ends.Closed old new = (new.closed ≡ true) × (new.faults ≡ old.faults)
ClosesAs ends.Failed old new = (new.closed ≡ old.closed) × CountsOne old.faults new.faults

-- a count of links after so many more
abbrev pub given_with : (given : ℕ) → (clients : ℕ) → ℕ
given_with given zero = given
given_with given (suc clients) = counted_with (given_with given clients) 1

pub record GivesClients (lane : Lane) (old new : ListenerState) : Type 0 where
  pub given : new.given ≡ given_with old.given lane.served
  pub ends : ClosesAs lane.end old new

-- ---- a client's link

-- what a link tells: its bytes, those that it holds back, and its count of faults
pub record ConnectionState : Type 0 where
  pub bytes : LinkBytes
  pub held : List ℕ
  pub faults : ℕ

-- what a link tells by these of its ghosts
abbrev pub link_told : {K : Type 0} → (remaining contents : K → Option (List ℕ)) → (held : K → List ℕ) → (faults : K → ℕ) → K
    → ConnectionState
link_told remaining contents held faults link = record {
  bytes = record { left = remaining link; sent = contents link };
  held = held link;
  faults = faults link;
}

-- a link holds nothing back, or one of its calls has failed
abbrev pub HasSentAll : (held : List ℕ) → (old_faults new_faults : ℕ) → Type 0
HasSentAll held old_faults new_faults = (held ≡ []) ⊎ HasRisen old_faults new_faults

-- ---- the volume

-- A client was served by a session of the volume, on a link that told this at its end. It was the first of the links that were
-- to come, where these are told, and the session began on it as it came: with all that the client sends, and nothing sent to it.
-- At its end the link holds nothing back, or one of its calls has failed.
pub record IsClient {M K : Type 0} (io : BlockRelations M) (told : K → ConnectionState) (end : SessionEnd)
    (last : ConnectionState) (coming left : Option (List K)) (old new : M) : Type 0 where
  pub link : K
  pub came : IsFirst link coming left
  pub fresh : IfSome (told link).bytes.sent (λ sent. sent ≡ [])
  pub session : IsSession io (export_of io old) end (told link).bytes last.bytes old new
  pub sent : HasSentAll last.held (told link).faults last.faults

-- the client that came was served, or none came, and nothing becomes of the volume
abbrev pub ServesNext : {M K : Type 0} → BlockRelations M → (K → ConnectionState) → NextClient K
    → (coming left : Option (List K))
    → (old new : M) → Type 0
ServesNext io told (Served link end) coming left old new = IsClient io told end (told link) coming left old new
ServesNext io told NoLink coming left old new = AreNone coming left × (new ≡ old)
ServesNext io told Failed coming left old new = (left ≡ coming) × (new ≡ old)

-- so many clients were served, one after the other
abbrev pub AreClients : {M K : Type 0} → BlockRelations M → (K → ConnectionState) → (count : ℕ)
    → (coming left : Option (List K)) → (old new : M) → Type 0
AreClients io told zero coming left old new = (left ≡ coming) × (new ≡ old)
AreClients {M} {K} io told (suc count) coming left old new =
    (between : Option (List K)) × (mid : M) × AreClients io told count coming between old mid
    × (end : SessionEnd) × (last : ConnectionState) × IsClient io told end last between left mid new

-- the server ends where its clients are as many as they were to be, and else, before that, by its listener
abbrev pub EndsAt : (share served : ℕ) → LaneEnd → Type 0
EndsAt share served ends.Counted = served ≡ share
EndsAt share served ends.Closed = served < share
EndsAt share served ends.Failed = served < share

abbrev pub EndsLane : (share : ℕ) → Lane → Type 0
EndsLane share lane = EndsAt share lane.served lane.end

-- ---- the history

-- clients add entries to the history of the owner's volume, and nothing else becomes of it
abbrev pub ClientsGrow : {R K : Type 0} → (R → ReceiptState) → (K → ConnectionState) → Type 0
ClientsGrow {R} {K} state told =
    (count : ℕ) (coming left : Option (List K)) (old new : Moment)
    → AreClients (owner_relations state) told count coming left old new
    → ((added : List Entry) × Grows state added old new) × LeavesRoom old new
