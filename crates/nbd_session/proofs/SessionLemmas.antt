-- How requests that were answered add up to a session.
use Rattle.std.proofs.Common.{◌≡◌, ℕ, ◌+◌, ◌<◌, ◌≤◌, Bool, true, false, List, [], ◌∷◌, ◌++◌, length, refl, ◌∙◌, ap, subst, ◌⊎◌}
use Rattle.std.proofs.Common.{inl, inr, arith}
use Rattle.std.proofs.KnownBytes.{Consumes-nil, Appends-nil}
use Rattle.std.proofs.lemmas.List.{length-append, flat_map_more}
use Rattle.std.specs.Prelude.{flat_map, Some, Ok, Err}
use Rattle.std.specs.Io.KnownBytes.{Appends, Consumes}
use Rattle.lsvd_base.specs.declared.geometry.Geometry.{Geometry}
use Rattle.lsvd_fault.proofs.Streams.{consumes_more, appends_more}
use Rattle.nbd_wire.specs.declared.wire_end.WireEnd.{WireEnd}
use Rattle.nbd_wire.specs.declared.wire_end.WireEnd.TheVariants as wire
use Rattle.nbd_options.specs.declared.export.Export.{Export}
use Rattle.nbd_options.specs.declared.negotiation.NegotiationEnd.{NegotiationEnd}
use Rattle.nbd_options.specs.declared.negotiation.NegotiationEnd.TheVariants as negotiations
use Rattle.nbd_options.specs.Negotiation.{Negotiates}
use Rattle.nbd_session.specs.declared.session.SessionEnd.{SessionEnd}
use Rattle.nbd_session.specs.declared.session.SessionEnd.TheVariants as ends
use Rattle.nbd_session.specs.Exchanges.{RequestExchange, IsRequestExchange, AreRequestExchanges}
use Rattle.nbd_session.specs.BlockDevice.{BlockRelations, max_session_steps}
use Rattle.nbd_session.specs.Session.{LinkBytes, max_requests, asked_bytes, answered_bytes, HasServed, EndsSession, Transmits}
use Rattle.nbd_session.specs.Session.{ended_in, IsSession, export_with, export_of}
use Rattle.nbd_session.specs.Steps.{ServesRequest, of_wire}

-- this many requests were answered
pub record HaveBeenServed {M : Type 0} (io : BlockRelations M) (count : ℕ) (first now : LinkBytes) (old new : M) :
    Type 0 where
  pub exchanges : List RequestExchange
  pub counted : length exchanges ≡ count
  pub served : HasServed io exchanges first now old new

pub none_served : {M : Type 0} (io : BlockRelations M) (link : LinkBytes) (moment : M)
    → HaveBeenServed io 0 link link moment moment
none_served io link moment = record {
  exchanges = [];
  counted = refl;
  served = record { few = omega arith; passed = (Consumes-nil link.left, Appends-nil link.sent); done = refl };
}

-- one more after others
one_after : {M : Type 0} (io : BlockRelations M) (exchanges : List RequestExchange) (exchange : RequestExchange)
    (old mid new : M)
    → AreRequestExchanges io exchanges old mid → IsRequestExchange io exchange mid new
    → AreRequestExchanges io (exchanges ++ exchange ∷ []) old new
one_after io [] exchange old mid new done is = (new, subst (λ m. IsRequestExchange io exchange m new) done is, refl)
one_after io (first ∷ rest) exchange old mid new done is =
    (done.0, done.1, one_after io rest exchange done.0 mid new done.2 is)

pub one_served : {M : Type 0} (io : BlockRelations M) (count : ℕ) (first now last : LinkBytes) (old mid new : M)
    (goes_on : Bool)
    → count < max_requests → HaveBeenServed io count first now old mid → goes_on ≡ true
    → ServesRequest io (Ok goes_on) now last mid new
    → HaveBeenServed io (count + 1) first last old new
one_served io count first now last old mid new false few before on one = let bad : ⊥ = cc in absurd bad
one_served io count first now last old mid new true few before on one =
    let xs = before.exchanges in
    let x = one.0 in
    let long = length-append xs (x ∷ []) in
    record {
      exchanges = xs ++ x ∷ [];
      counted = omega (arith, long, before.counted);
      served = record {
        few = omega (arith, long, before.counted, few);
        passed = (
          subst (λ (bytes : List ℕ). Consumes first.left last.left bytes) (flat_map_more asked_bytes [] xs x)
              (consumes_more first.left now.left last.left (flat_map asked_bytes xs) (asked_bytes x)
              before.served.passed.0 one.2.0),
          subst (λ (bytes : List ℕ). Appends first.sent last.sent bytes) (flat_map_more answered_bytes [] xs x)
              (appends_more first.sent now.sent last.sent (flat_map answered_bytes xs) (answered_bytes x)
              before.served.passed.1 one.2.1),
        );
        done = one_after io xs x old mid new before.served.done one.1;
      };
    }

-- the client disconnected
pub disconnected : {M : Type 0} (io : BlockRelations M) (count : ℕ) (first now last : LinkBytes) (old mid new : M)
    → HaveBeenServed io count first now old mid → ServesRequest io (Ok false) now last mid new
    → Transmits io ends.Ended first last old new
disconnected io count first now last old mid new before one = record {
  exchanges = before.exchanges;
  now = now;
  then = mid;
  served = before.served;
  ends = (one.0, inl one.1);
}

-- no request was read, or it was broken off; how many came before does not matter
after_any : {M : Type 0} (io : BlockRelations M) (end : WireEnd) (count : ℕ) (now last : LinkBytes) (old new : M)
    → ServesRequest io (Err end) now last old new → EndsSession io (of_wire end) count now last old new
after_any io wire.Ended count now last old new ends = ends
after_any io wire.Closed count now last old new ends = ends
after_any io wire.LinkFault count now last old new ends = ends

pub broken_off : {M : Type 0} (io : BlockRelations M) (end : WireEnd) (count : ℕ) (first now last : LinkBytes)
    (old mid new : M)
    → HaveBeenServed io count first now old mid → ServesRequest io (Err end) now last mid new
    → Transmits io (of_wire end) first last old new
broken_off io end count first now last old mid new before one = record {
  exchanges = before.exchanges;
  now = now;
  then = mid;
  served = before.served;
  ends = after_any io end (length before.exchanges) now last mid new one;
}

-- one request more would be too many, or the volume has made too many steps
pub has_spent : {M : Type 0} (io : BlockRelations M) (count : ℕ) (first now : LinkBytes) (old new : M)
    → HaveBeenServed io count first now old new → (count ≡ max_requests) ⊎ (max_session_steps ≤ io.steps new)
    → Transmits io ends.Spent first now old new
has_spent io count first now old new before why = record {
  exchanges = before.exchanges;
  now = now;
  then = new;
  served = before.served;
  ends = (refl, refl, spent why);
}
  where
    spent : (count ≡ max_requests) ⊎ (max_session_steps ≤ io.steps new)
        → (length before.exchanges ≡ max_requests) ⊎ (max_session_steps ≤ io.steps new)
    spent (inl all) = inl (before.counted ∙ all)
    spent (inr steps) = inr steps

-- ---- the negotiation

-- what was offered is what is exported of the volume
export_is : {M : Type 0} (io : BlockRelations M) (moment : M) (uuid : List ℕ) (geometry : Geometry) → uuid ≡ io.uuid moment
    → geometry ≡ io.geometry moment → export_with uuid geometry ≡ export_of io moment
export_is io moment uuid geometry same_uuid same_sizes =
    ap (λ u. export_with u geometry) same_uuid ∙ ap (λ g. export_with (io.uuid moment) g) same_sizes

-- the client has entered it
pub has_entered : {M : Type 0} (io : BlockRelations M) (uuid : List ℕ) (geometry : Geometry) (end : SessionEnd)
    (first entered last : LinkBytes) (old new : M) → uuid ≡ io.uuid old → geometry ≡ io.geometry old
    → Negotiates (export_with uuid geometry) negotiations.Entered first.left entered.left first.sent entered.sent
    → Transmits io end entered last old new → IsSession io (export_of io old) end first last old new
has_entered io uuid geometry end first entered last old new same_uuid same_sizes negotiates transmits = inr (
  entered,
  subst (λ (e : Export). Negotiates e negotiations.Entered first.left entered.left first.sent entered.sent)
      (export_is io old uuid geometry same_uuid same_sizes) negotiates,
  transmits,
)

-- it has not
pub has_not_entered : {M : Type 0} (io : BlockRelations M) (uuid : List ℕ) (geometry : Geometry) (how : NegotiationEnd)
    (end : SessionEnd) (first last : LinkBytes) (moment : M) → uuid ≡ io.uuid moment → geometry ≡ io.geometry moment
    → Negotiates (export_with uuid geometry) how first.left last.left first.sent last.sent
    → ended_in how ≡ Some end → IsSession io (export_of io moment) end first last moment moment
has_not_entered io uuid geometry how end first last moment same_uuid same_sizes negotiates ends = inl (
  how,
  subst (λ (e : Export). Negotiates e how first.left last.left first.sent last.sent)
      (export_is io moment uuid geometry same_uuid same_sizes) negotiates,
  ends,
  refl,
)
