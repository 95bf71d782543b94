-- Contract: what a session makes of the history of its volume.
use Rattle.std.specs.Prelude.{◌≡◌, ℕ, ◌+◌, ◌^◌, ◌≤◌, List, [], ◌++◌, length, flat_map}
use Rattle.lsvd_base.specs.declared.entry.Entry.{Entry}
use Rattle.lsvd_objstore.specs.Store.{ReceiptState, Becomes}
use Rattle.stopped_volume.specs.Device.{CacheOwner}
use Rattle.stopped_volume.specs.Store.{TellsBytes}
use Rattle.vol_core.specs.Step.{HasSameSizes}
use Rattle.vol_core.specs.Stops.{HasOwnCommits}
use Rattle.vol_core.specs.View.{volume_uuid}
use Rattle.volume_owner.specs.Acts.{Moment}
use Rattle.volume_owner.specs.Calls.{Adds, KeepsOtherNames}
use Rattle.volume_owner.specs.Standing.{KeepsStore}
use Rattle.nbd_session.specs.declared.session.SessionEnd.{SessionEnd}
use Rattle.nbd_session.specs.declared.session.SessionEnd.TheVariants.{Ended, Closed, Spent, LinkFault, OutOfMemory}
use Rattle.nbd_session.specs.Exchanges.{RequestExchange, AreRequestExchanges}
use Rattle.nbd_session.specs.Session.{LinkBytes, Transmits}
use Rattle.nbd_session.specs.BlockDevice.{max_session_steps}
use Rattle.volume_server.specs.OwnerDevice.{owner_relations}

-- A volume's history has these entries more. Its sizes stay, the commits stay its own, and the store has changed under the names
-- of the volume's own numbered objects alone. Where all receipts tell their bytes, and the store stood for what the volume
-- showed, it stands for what it shows now.
pub record Grows {R : Type 0} (state : R → ReceiptState) (added : List Entry) (old new : Moment) : Type 0 where
  pub adds : Adds added old.volume.volume new.volume.volume
  pub sizes : HasSameSizes old.volume.volume new.volume.volume
  pub own : (owner : CacheOwner) → HasOwnCommits owner old.volume.volume → HasOwnCommits owner new.volume.volume
  pub store : Becomes (KeepsOtherNames (volume_uuid old.volume.volume)) old.store.objects new.store.objects
  pub stands : TellsBytes state → KeepsStore added old new

-- Each request is made where the volume has made fewer than the most steps of a session, and takes few itself. So a volume that
-- had room for calls of its owner before a session has room after it.
abbrev pub most_steps : ℕ
most_steps = max_session_steps + 2 ^ 41

abbrev pub LeavesRoom : Moment → Moment → Type 0
LeavesRoom old new = old.volume.steps ≤ most_steps → new.volume.steps ≤ most_steps

-- the entries that were entered for requests
abbrev pub entered_in : List RequestExchange → List Entry
entered_in exchanges = flat_map (λ exchange. exchange.entered) exchanges

-- requests that were answered add just the entries that were entered for them, in order and each once
abbrev pub RequestsGrow : {R : Type 0} → (R → ReceiptState) → Type 0
RequestsGrow state =
    (exchanges : List RequestExchange) (old new : Moment) → AreRequestExchanges (owner_relations state) exchanges old new
    → Grows state (entered_in exchanges) old new × LeavesRoom old new

-- what a session adds beside those: one entry at most where its link failed, and else none
abbrev pub MayAdd : SessionEnd → List Entry → Type 0
MayAdd LinkFault more = length more ≤ 1
MayAdd Ended more = more ≡ []
MayAdd Closed more = more ≡ []
MayAdd Spent more = more ≡ []
MayAdd OutOfMemory more = more ≡ []

-- a session adds those, and nothing else but that
abbrev pub SessionGrows : {R : Type 0} → (R → ReceiptState) → Type 0
SessionGrows state =
    (end : SessionEnd) (first last : LinkBytes) (old new : Moment)
    (session : Transmits (owner_relations state) end first last old new)
    → (more : List Entry) × MayAdd end more × Grows state (entered_in session.exchanges ++ more) old new × LeavesRoom old new
