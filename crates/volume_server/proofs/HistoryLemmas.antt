-- What a session adds to the history of its volume.
use Rattle.std.proofs.Common.{◌≡◌, ℕ, ◌+◌, ◌^◌, ◌<◌, ◌≤◌, Bool, true, false, List, [], ◌∷◌, ◌++◌, length, append-nil}
use Rattle.std.proofs.Common.{refl, sym, ap, subst, inl, inr, arith}
use Rattle.std.specs.Prelude.{Option, Some, None, Ok, Err}
use Rattle.lsvd_base.specs.declared.entry.Entry.{Entry}
use Rattle.lsvd_objstore.specs.Store.{StoreState, ReceiptState, Becomes}
use Rattle.vol_core.specs.declared.event.Event.TheVariants as events
use Rattle.vol_core.specs.Volume.{VolumeState}
use Rattle.volume_owner.specs.Calls.{Adds, KeepsOtherNames}
use Rattle.volume_owner.proofs.PlainLemmas.{goes_on_nothing}
use Rattle.volume_owner.proofs.StepLemmas.{goes_on_more, same_sizes}
use Rattle.volume_owner.proofs.ActLemmas.{step_acts}
use Rattle.volume_owner.proofs.StoreLemmas.{keeps_nothing, keeps_then, made_keeps}
use Rattle.volume_owner.proofs.CallLemmas.{becomes_same, becomes_then}
use Rattle.nbd_session.specs.declared.asking.Asked.{Asked}
use Rattle.nbd_session.specs.declared.asking.Asked.TheVariants.{Read, Write, Zero, Flush, Disconnect, Refused}
use Rattle.nbd_session.specs.declared.outcome.ReplyError.TheVariants as errors
use Rattle.nbd_session.specs.declared.session.SessionEnd.{SessionEnd}
use Rattle.nbd_session.specs.declared.session.SessionEnd.TheVariants as ends
use Rattle.volume_owner.specs.Acts.{Moment, moment_of}
use Rattle.volume_owner.specs.Standing.{KeepsStore}
use Rattle.nbd_session.specs.Exchanges.{Outcome, ReadsSectors, as_list, EntersIt, FlushesIf, EntersEntry}
use Rattle.nbd_session.specs.Exchanges.{FlushesAll, CarriesOut, write_of, zero_of, asked_at, RequestExchange, IsRequestExchange}
use Rattle.nbd_session.specs.Exchanges.{AreRequestExchanges}
use Rattle.nbd_session.specs.Session.{LinkBytes, EndsSession, Transmits}
use Rattle.nbd_session.specs.BlockDevice.{max_session_steps}
use Rattle.volume_server.specs.History.{Grows, LeavesRoom, MayAdd, entered_in}
use Rattle.volume_server.specs.OwnerDevice.{Calls, ReadsHistory, Flushes, owner_relations}

-- ---- one after the other

adds_more : (xs ys : List Entry) (old mid new : VolumeState) → Adds xs old mid → Adds ys mid new → Adds (xs ++ ys) old new
adds_more xs ys old mid new first second plain shows =
    let one = first plain shows in
    let two = second one.0 one.1 in
    (two.0, two.1, goes_on_more xs ys plain one.0 two.0 one.2 two.2)

pub grows_nothing : {R : Type 0} (state : R → ReceiptState) (moment : Moment) → Grows state [] moment moment
grows_nothing state moment = record {
  adds = λ plain shows. (plain, shows, goes_on_nothing plain);
  sizes = record { geometry = refl; uuid = refl; ancestors = refl };
  own = λ owner own. own;
  store = becomes_same moment.volume.volume.objects.uploads.uuid moment.store.objects;
  stands = λ tells. keeps_nothing moment;
}

pub grows_more : {R : Type 0} (state : R → ReceiptState) (xs ys : List Entry) (old mid new : Moment) → Grows state xs old mid
    → Grows state ys mid new
    → Grows state (xs ++ ys) old new
grows_more state xs ys old mid new first second = record {
  adds = adds_more xs ys old.volume.volume mid.volume.volume new.volume.volume first.adds second.adds;
  sizes = same_sizes old.volume.volume mid.volume.volume new.volume.volume first.sizes second.sizes;
  own = λ owner own. second.own owner (first.own owner own);
  store =
      becomes_then old.volume.volume.objects.uploads.uuid old.store.objects mid.store.objects new.store.objects first.store
      (subst (λ u. Becomes (KeepsOtherNames u) mid.store.objects new.store.objects) first.sizes.uuid second.store);
  stands = λ tells. keeps_then xs ys old mid new (first.stands tells) (second.stands tells);
}

-- ---- calls of the owner

called : {R : Type 0} (state : R → ReceiptState) (added : List Entry) (failed : Bool) (old new : Moment)
    → Calls state added failed old new → Grows state added old new
called state added failed old new call = record {
  adds = call.steps.adds;
  sizes = call.steps.sizes;
  own = call.steps.own;
  store = call.store;
  stands = λ tells.
      made_keeps state tells added (moment_of old.volume old.store) (moment_of new.volume new.store) call.acts;
}

-- a read is a call that enters nothing
read_call : {R : Type 0} (state : R → ReceiptState) (lba : ℕ) (bytes : List ℕ) (old new : Moment)
    → ReadsHistory state lba bytes old new → Calls state [] false old new
read_call state lba bytes old new (has, call) = call

flushed : {R : Type 0} (state : R → ReceiptState) (failed : Bool) (old new : Moment) → Flushes state failed old new
    → Grows state [] old new
flushed state failed old new flushes = record {
  adds = flushes.steps.adds;
  sizes = flushes.steps.sizes;
  own = flushes.steps.own;
  store =
      subst (λ (s : StoreState). Becomes (KeepsOtherNames old.volume.volume.objects.uploads.uuid) old.store.objects s.objects)
      (sym flushes.store)
      (becomes_same old.volume.volume.objects.uploads.uuid old.store.objects);
  stands = λ tells.
      subst (λ (s : StoreState). KeepsStore [] (moment_of old.volume old.store) (moment_of new.volume s)) (sym flushes.store)
      (made_keeps state tells [] (moment_of old.volume old.store) (moment_of new.volume old.store)
      (step_acts state events.Flush [] old.volume new.volume old.store (λ volume store. tt) flushes.step));
}

flushed_if : {R : Type 0} (state : R → ReceiptState) (durable : Bool) (old new : Moment)
    → FlushesIf (owner_relations state) durable old new
    → Grows state [] old new
flushed_if state false old new same = subst (Grows state [] old) (sym same) (grows_nothing state old)
flushed_if state true old new flushes = flushed state false old new flushes

entered : {R : Type 0} (state : R → ReceiptState) (entry : Option Entry) (old new : Moment)
    → EntersIt (owner_relations state) entry old new
    → Grows state (as_list entry) old new
entered state None old new same = subst (Grows state [] old) (sym same) (grows_nothing state old)
entered state (Some entry) old new call = called state (entry ∷ []) false old new call

-- ---- a request

-- at most one entry is entered for it
record GrowsByOne {R : Type 0} (state : R → ReceiptState) (added : List Entry) (old new : Moment) : Type 0 where
  few : length added ≤ 1
  grows : Grows state added old new

none_more : {R : Type 0} (state : R → ReceiptState) (added : List Entry) (old new : Moment) → added ≡ []
    → Grows state [] old new → GrowsByOne state added old new
none_more state added old new none grows =
    subst (λ a. GrowsByOne state a old new) (sym none) (record { few = omega arith; grows = grows })

one_more : {R : Type 0} (state : R → ReceiptState) (entry : Option Entry) (added : List Entry) (old mid new : Moment)
    → added ≡ as_list entry → EntersIt (owner_relations state) entry old mid
    → Grows state [] mid new
    → GrowsByOne state added old new
one_more state entry added old mid new is enters grows =
    subst (λ a. GrowsByOne state a old new) (sym is) (record {
      few = few entry;
      grows =
          subst (λ a. Grows state a old new) (append-nil (as_list entry))
          (grows_more state (as_list entry) [] old mid new (entered state entry old mid enters) grows);
    })
  where
    few : (entry : Option Entry) → length (as_list entry) ≤ 1
    few None = omega arith
    few (Some entry) = omega arith

read_grows : {R : Type 0} (state : R → ReceiptState) (lba sectors : ℕ) (outcome : Outcome) (old new : Moment)
    → ReadsSectors (owner_relations state) lba sectors outcome old new
    → Grows state [] old new
read_grows state lba sectors (Ok content) old new (size, reads) =
    called state [] false old new (read_call state lba content old new reads)
read_grows state lba sectors (Err (errors.Refused why)) old new reads = absurd reads
read_grows state lba sectors (Err errors.Io) old new reads = called state [] true old new reads
read_grows state lba sectors (Err errors.NoMemory) old new reads = called state [] false old new reads

entry_grows : {R : Type 0} (state : R → ReceiptState) (entry : Option Entry) (durable : Bool) (outcome : Outcome)
    (added : List Entry) (old new : Moment)
    → EntersEntry (owner_relations state) entry durable outcome added old new → GrowsByOne state added old new
entry_grows state entry durable (Ok content) added old new enters =
    one_more state entry added old enters.2 new enters.1 enters.3 (flushed_if state durable enters.2 new enters.4)
entry_grows state entry durable (Err (errors.Refused why)) added old new enters = absurd enters
entry_grows state entry durable (Err errors.Io) added old new (inl failed) =
    none_more state added old new failed.1 (called state [] true old new failed.2)
entry_grows state entry durable (Err errors.Io) added old new (inr failed) =
    one_more state entry added old failed.2 new failed.1 failed.3 (flushed state true failed.2 new failed.4)
entry_grows state entry durable (Err errors.NoMemory) added old new enters =
    none_more state added old new enters.0 (called state [] false old new enters.1)

flush_grows : {R : Type 0} (state : R → ReceiptState) (outcome : Outcome) (added : List Entry) (old new : Moment)
    → FlushesAll (owner_relations state) outcome added old new
    → GrowsByOne state added old new
flush_grows state (Ok content) added old new flushes =
    none_more state added old new flushes.1 (flushed state false old new flushes.2)
flush_grows state (Err (errors.Refused why)) added old new flushes = absurd flushes
flush_grows state (Err errors.Io) added old new flushes =
    none_more state added old new flushes.0 (flushed state true old new flushes.1)
flush_grows state (Err errors.NoMemory) added old new flushes = absurd flushes

stays : {R : Type 0} (state : R → ReceiptState) (old new : Moment) → new ≡ old → Grows state [] old new
stays state old new same = subst (Grows state [] old) (sym same) (grows_nothing state old)

unchanged : {R : Type 0} (state : R → ReceiptState) (added : List Entry) (old new : Moment) → added ≡ [] → new ≡ old
    → GrowsByOne state added old new
unchanged state added old new none same = none_more state added old new none (stays state old new same)

request_grows : {R : Type 0} (state : R → ReceiptState) (asked : Asked) (content : List ℕ) (outcome : Outcome)
    (added : List Entry) (old new : Moment)
    → CarriesOut (owner_relations state) asked content outcome added old new → GrowsByOne state added old new
request_grows state (Read lba sectors) content outcome added old new done =
    none_more state added old new done.0 (read_grows state lba sectors outcome old new done.1)
request_grows state (Write lba sectors durable) content outcome added old new done =
    entry_grows state (write_of lba content) durable outcome added old new done
request_grows state (Zero lba sectors durable) content outcome added old new done =
    entry_grows state (zero_of lba sectors) durable outcome added old new done
request_grows state Flush content outcome added old new done = flush_grows state outcome added old new done
request_grows state Disconnect content outcome added old new done = unchanged state added old new done.1 done.2
request_grows state (Refused why) content outcome added old new done = unchanged state added old new done.1 done.2

exchange_grows : {R : Type 0} (state : R → ReceiptState) (exchange : RequestExchange) (old new : Moment)
    → IsRequestExchange (owner_relations state) exchange old new
    → GrowsByOne state exchange.entered old new
exchange_grows state exchange old new is =
    request_grows state (asked_at (owner_relations state) old exchange.message.request) exchange.message.content exchange.outcome
    exchange.entered old
    new is.done

-- ---- its steps

-- so many at most
abbrev TakesFew : Moment → Moment → Type 0
TakesFew old new = new.volume.steps ≤ old.volume.steps + 2 ^ 41

same_steps : (old new : Moment) → new ≡ old → TakesFew old new
same_steps old new same = omega (arith, ap (λ (m : Moment). m.volume.steps) same)

entered_steps : {R : Type 0} (state : R → ReceiptState) (entry : Option Entry) (old new : Moment)
    → EntersIt (owner_relations state) entry old new
    → new.volume.steps ≤ old.volume.steps + 2 ^ 40
entered_steps state None old new same = omega (arith, ap (λ (m : Moment). m.volume.steps) same)
entered_steps state (Some entry) old new call = call.steps.steps

flushed_steps : {R : Type 0} (state : R → ReceiptState) (durable : Bool) (old new : Moment)
    → FlushesIf (owner_relations state) durable old new
    → new.volume.steps ≤ old.volume.steps + 1
flushed_steps state false old new same = omega (arith, ap (λ (m : Moment). m.volume.steps) same)
flushed_steps state true old new flushes = flushes.steps.steps

read_steps : {R : Type 0} (state : R → ReceiptState) (lba sectors : ℕ) (outcome : Outcome) (old new : Moment)
    → ReadsSectors (owner_relations state) lba sectors outcome old new → TakesFew old new
read_steps state lba sectors (Ok content) old new (size, reads) =
    omega (arith, (read_call state lba content old new reads).steps.steps)
read_steps state lba sectors (Err (errors.Refused why)) old new reads = absurd reads
read_steps state lba sectors (Err errors.Io) old new reads = omega (arith, reads.steps.steps)
read_steps state lba sectors (Err errors.NoMemory) old new reads = omega (arith, reads.steps.steps)

entry_steps : {R : Type 0} (state : R → ReceiptState) (entry : Option Entry) (durable : Bool) (outcome : Outcome)
    (added : List Entry) (old new : Moment)
    → EntersEntry (owner_relations state) entry durable outcome added old new → TakesFew old new
entry_steps state entry durable (Ok content) added old new enters =
    omega (arith, entered_steps state entry old enters.2 enters.3, flushed_steps state durable enters.2 new enters.4)
entry_steps state entry durable (Err (errors.Refused why)) added old new enters = absurd enters
entry_steps state entry durable (Err errors.Io) added old new (inl failed) = omega (arith, failed.2.steps.steps)
entry_steps state entry durable (Err errors.Io) added old new (inr failed) =
    omega (arith, entered_steps state entry old failed.2 failed.3, failed.4.steps.steps)
entry_steps state entry durable (Err errors.NoMemory) added old new enters = omega (arith, enters.1.steps.steps)

flush_steps : {R : Type 0} (state : R → ReceiptState) (outcome : Outcome) (added : List Entry) (old new : Moment)
    → FlushesAll (owner_relations state) outcome added old new → TakesFew old new
flush_steps state (Ok content) added old new flushes = omega (arith, flushes.2.steps.steps)
flush_steps state (Err (errors.Refused why)) added old new flushes = absurd flushes
flush_steps state (Err errors.Io) added old new flushes = omega (arith, flushes.1.steps.steps)
flush_steps state (Err errors.NoMemory) added old new flushes = absurd flushes

request_steps : {R : Type 0} (state : R → ReceiptState) (asked : Asked) (content : List ℕ) (outcome : Outcome)
    (added : List Entry) (old new : Moment)
    → CarriesOut (owner_relations state) asked content outcome added old new → TakesFew old new
request_steps state (Read lba sectors) content outcome added old new done = read_steps state lba sectors outcome old new done.1
request_steps state (Write lba sectors durable) content outcome added old new done =
    entry_steps state (write_of lba content) durable outcome added old new done
request_steps state (Zero lba sectors durable) content outcome added old new done =
    entry_steps state (zero_of lba sectors) durable outcome added old new done
request_steps state Flush content outcome added old new done = flush_steps state outcome added old new done
request_steps state Disconnect content outcome added old new done = same_steps old new done.2
request_steps state (Refused why) content outcome added old new done = same_steps old new done.2

-- a request leaves room for calls, since it is made only where there is some
exchange_leaves : {R : Type 0} (state : R → ReceiptState) (exchange : RequestExchange) (old new : Moment)
    → IsRequestExchange (owner_relations state) exchange old new
    → LeavesRoom old new
exchange_leaves state exchange old new is small =
    let few =
    request_steps state (asked_at (owner_relations state) old exchange.message.request) exchange.message.content
    exchange.outcome exchange.entered old new is.done in
    let room : old.volume.steps < max_session_steps = is.room in
    omega (arith, few, room)

pub stays_leaves : (old new : Moment) → new ≡ old → LeavesRoom old new
stays_leaves old new same small = omega (arith, small, ap (λ (m : Moment). m.volume.steps) same)

-- ---- a session

requests_leave : {R : Type 0} (state : R → ReceiptState) (exchanges : List RequestExchange) (old new : Moment)
    → AreRequestExchanges (owner_relations state) exchanges old new → LeavesRoom old new
requests_leave state [] old new same small = stays_leaves old new same small
requests_leave state (exchange ∷ rest) old new done small =
    requests_leave state rest done.0 new done.2 (exchange_leaves state exchange old done.0 done.1 small)

requests_add : {R : Type 0} (state : R → ReceiptState) (exchanges : List RequestExchange) (old new : Moment)
    → AreRequestExchanges (owner_relations state) exchanges old new
    → Grows state (entered_in exchanges) old new
requests_add state [] old new same = subst (Grows state [] old) (sym same) (grows_nothing state old)
requests_add state (exchange ∷ rest) old new done =
    grows_more state exchange.entered (entered_in rest) old done.0 new (exchange_grows state exchange old done.0 done.1).grows
    (requests_add state rest done.0 new done.2)

pub requests_grow : {R : Type 0} (state : R → ReceiptState) (exchanges : List RequestExchange) (old new : Moment)
    → AreRequestExchanges (owner_relations state) exchanges old new
    → Grows state (entered_in exchanges) old new × LeavesRoom old new
requests_grow state exchanges old new done =
    (requests_add state exchanges old new done, requests_leave state exchanges old new done)

-- how it ends adds an entry at most, and only where a reply was broken off
record GrowsAtEnd {R : Type 0} (state : R → ReceiptState) (end : SessionEnd) (more : List Entry) (old new : Moment) : Type 0 where
  few : MayAdd end more
  grows : Grows state more old new

end_grows : {R : Type 0} (state : R → ReceiptState) (end : SessionEnd) (count : ℕ) (now last : LinkBytes) (old new : Moment)
    → EndsSession (owner_relations state) end count now last old new → (more : List Entry) × GrowsAtEnd state end more old new
end_grows state ends.Ended count now last old new by = ([], record { few = refl; grows = stays state old new by.0 })
end_grows state ends.Closed count now last old new by = ([], record { few = refl; grows = stays state old new by.0 })
end_grows state ends.Spent count now last old new by = ([], record { few = refl; grows = stays state old new by.0 })
end_grows state ends.LinkFault count now last old new (inl by) =
    ([], record { few = omega arith; grows = stays state old new by.0 })
end_grows state ends.LinkFault count now last old new (inr by) =
    let one = exchange_grows state by.exchange old new by.is_exchange in
    (by.exchange.entered, record { few = one.few; grows = one.grows })
end_grows state ends.OutOfMemory count now last old new by = absurd by

end_leaves : {R : Type 0} (state : R → ReceiptState) (end : SessionEnd) (count : ℕ) (now last : LinkBytes) (old new : Moment)
    → EndsSession (owner_relations state) end count now last old new → LeavesRoom old new
end_leaves state ends.Ended count now last old new by = stays_leaves old new by.0
end_leaves state ends.Closed count now last old new by = stays_leaves old new by.0
end_leaves state ends.Spent count now last old new by = stays_leaves old new by.0
end_leaves state ends.LinkFault count now last old new (inl by) = stays_leaves old new by.0
end_leaves state ends.LinkFault count now last old new (inr by) = exchange_leaves state by.exchange old new by.is_exchange
end_leaves state ends.OutOfMemory count now last old new by = absurd by

pub session_grows : {R : Type 0} (state : R → ReceiptState) (end : SessionEnd) (first last : LinkBytes) (old new : Moment)
    (session : Transmits (owner_relations state) end first last old new)
    → (more : List Entry) × MayAdd end more × Grows state (entered_in session.exchanges ++ more) old new × LeavesRoom old new
session_grows state end first last old new session =
    let ended = end_grows state end (length session.exchanges) session.now last session.then new session.ends in (
      ended.0,
      ended.1.few,
      grows_more state (entered_in session.exchanges) ended.0 old session.then new
          (requests_add state session.exchanges old session.then session.served.done) ended.1.grows,
      λ small. end_leaves state end (length session.exchanges) session.now last session.then new session.ends
          (requests_leave state session.exchanges old session.then session.served.done small),
    )
