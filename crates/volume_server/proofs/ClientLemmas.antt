-- How clients that were served add up.
use Rattle.std.proofs.Common.{◌≡◌, ℕ, zero, suc, ◌+◌, List, [], ◌++◌, sym, ◌∙◌, ap, subst, inl, inr, arith}
use Rattle.std.specs.Prelude.{Option, Some, None}
use Rattle.lsvd_base.specs.declared.entry.Entry.{Entry}
use Rattle.lsvd_fault.specs.Faults.{counted_with}
use Rattle.lsvd_listen.specs.Listening.{AreNone}
use Rattle.lsvd_objstore.specs.Store.{StoreState, ReceiptState}
use Rattle.vol_core.specs.Volume.{SteppedVolume}
use Rattle.nbd_session.specs.declared.session.SessionEnd.{SessionEnd}
use Rattle.volume_owner.specs.Acts.{Moment}
use Rattle.nbd_session.specs.BlockDevice.{BlockRelations}
use Rattle.nbd_session.specs.Session.{IsSession, export_of}
use Rattle.volume_server.specs.History.{Grows, LeavesRoom, SessionGrows, entered_in}
use Rattle.volume_server.specs.OwnerDevice.{owner_relations}
use Rattle.volume_server.specs.Serving.{ListenerState, ConnectionState, given_with, IsClient, AreClients, ClientsGrow}
use Rattle.volume_server.proofs.HistoryLemmas.{grows_nothing, grows_more, stays_leaves}

-- ---- one after the other

pub one_more : {M K : Type 0} (io : BlockRelations M) (told : K → ConnectionState) (count : ℕ) (end : SessionEnd)
    (last : ConnectionState) (coming between left : Option (List K)) (old mid new : M)
    → AreClients io told count coming between old mid → IsClient io told end last between left mid new
    → AreClients io told (count + 1) coming left old new
one_more io told count end last coming between left old mid new before is =
    let one : suc count ≡ count + 1 = omega arith in
    subst (λ n. AreClients io told n coming left old new) one (between, mid, before, end, last, is)

-- the links that are to come stay where none came
pub none_came : {K : Type 0} (coming left : Option (List K)) → AreNone coming left → left ≡ coming
none_came None left none = none
none_came (Some links) left none = none.1 ∙ ap (λ l. Some l) (sym none.0)

pub then_none : {M K : Type 0} (io : BlockRelations M) (told : K → ConnectionState) (count : ℕ)
    (coming between left : Option (List K)) (old mid new : M) → AreClients io told count coming between old mid
    → left ≡ between → new ≡ mid → AreClients io told count coming left old new
then_none io told count coming between left old mid new before left_is new_is =
    subst (λ l. AreClients io told count coming l old new) (sym left_is)
    (subst (λ m. AreClients io told count coming between old m) (sym new_is) before)

-- so it is of the volume that an owner was made of, and gives back
pub of_volume : {R K : Type 0} (state : R → ReceiptState) (told : K → ConnectionState) (count : ℕ) (coming left : Option (List K))
    (volume owner then closing : SteppedVolume) (old new : StoreState) → owner ≡ volume → closing ≡ then
    → AreClients (owner_relations state) told count coming left (record { volume = owner; store = old })
    (record { volume = then; store = new })
    → AreClients (owner_relations state) told count coming left (record { volume = volume; store = old })
    (record { volume = closing; store = new })
of_volume state told count coming left volume owner then closing old new first last are =
    subst (λ (v : SteppedVolume). AreClients (owner_relations state) told count coming left (record { volume = v; store = old })
    (record { volume = closing; store = new })) first
    (subst (λ (v : SteppedVolume). AreClients (owner_relations state) told count coming left
    (record { volume = owner; store = old })
    (record { volume = v; store = new })) (sym last) are)

-- a count of links that were given
pub given_more : (given clients now next : ℕ) → now ≡ given_with given clients → next ≡ counted_with now 1
    → next ≡ given_with given (clients + 1)
given_more given clients now next before one =
    let more : suc clients ≡ clients + 1 = omega arith in
    subst (λ n. next ≡ given_with given n) more (one ∙ ap (λ g. counted_with g 1) before)

-- what a listener is after a client came
pub gave_one : (old new : ListenerState) → new ≡ record old { given = counted_with old.given 1 }
    → (new.given ≡ counted_with old.given 1) × (new.closed ≡ old.closed) × (new.faults ≡ old.faults)
gave_one old new is = (
  ap (λ (l : ListenerState). l.given) is,
  ap (λ (l : ListenerState). l.closed) is,
  ap
      (λ (l : ListenerState). l.faults) is,
)

-- ---- their history

-- what a client adds
record Adds {R : Type 0} (state : R → ReceiptState) (old new : Moment) : Type 0 where
  added : List Entry
  grows : Grows state added old new
  leaves : LeavesRoom old new

unchanged : {R : Type 0} (state : R → ReceiptState) (old new : Moment) → new ≡ old → Adds state old new
unchanged state old new same = record {
  added = [];
  grows = subst (Grows state [] old) (sym same) (grows_nothing state old);
  leaves = stays_leaves old new same;
}

client_adds : {R K : Type 0} (state : R → ReceiptState) (told : K → ConnectionState) → SessionGrows state
    → (end : SessionEnd) (last : ConnectionState) (coming left : Option (List K)) (old new : Moment)
    → IsClient (owner_relations state) told end last coming left old new → Adds state old new
client_adds state told sessions end last coming left old new is = by_session is.session
  where
    by_session : IsSession (owner_relations state) (export_of (owner_relations state) old) end (told is.link).bytes last.bytes old
        new → Adds state old new
    by_session (inl ended) = unchanged state old new ended.3
    by_session (inr entered) =
        let grown = sessions end entered.0 last.bytes old new entered.2 in
        record { added = entered_in entered.2.exchanges ++ grown.0; grows = grown.2; leaves = grown.3 }

clients_add : {R K : Type 0} (state : R → ReceiptState) (told : K → ConnectionState) → SessionGrows state
    → (count : ℕ) (coming left : Option (List K)) (old new : Moment)
    → AreClients (owner_relations state) told count coming left old new → Adds state old new
clients_add state told sessions zero coming left old new same = unchanged state old new same.1
clients_add state told sessions (suc count) coming left old new (between, mid, clients, end, last, is) =
    let before = clients_add state told sessions count coming between old mid clients in
    let one = client_adds state told sessions end last between left mid new is in
    record {
      added = before.added ++ one.added;
      grows = grows_more state before.added one.added old mid new before.grows one.grows;
      leaves = λ small. one.leaves (before.leaves small);
    }

pub clients_grow : {R K : Type 0} (state : R → ReceiptState) (told : K → ConnectionState) → SessionGrows state
    → ClientsGrow state told
clients_grow state told sessions count coming left old new clients =
    let all = clients_add state told sessions count coming left old new clients in
    ((all.added, all.grows), all.leaves)
