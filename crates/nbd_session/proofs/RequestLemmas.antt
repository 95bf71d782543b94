-- A request and the data that come next are a request of a client.
use Rattle.std.proofs.Common.{◌≡◌, ℕ, true, false, List, [], ◌++◌, length, refl, sym, ◌∙◌, ap, subst, inl, inr, append_assoc}
use Rattle.std.proofs.Common.{arith}
use Rattle.std.proofs.lemmas.List.{length-append}
use Rattle.std.specs.Prelude.{Option, Some, None, Result, Ok, Err}
use Rattle.std.specs.Io.KnownBytes.{Appends, Consumes}
use Rattle.lsvd_base.specs.declared.entry.Entry.{Entry}
use Rattle.lsvd_base.specs.declared.geometry.Geometry.{Geometry}
use Rattle.lsvd_fault.proofs.Streams.{consumes_more}
use Rattle.nbd_wire.specs.declared.message.Request.{Request}
use Rattle.nbd_wire.specs.declared.wire_end.WireEnd.{WireEnd}
use Rattle.nbd_wire.specs.declared.wire_end.WireEnd.TheVariants.{Ended, Closed, LinkFault}
use Rattle.nbd_wire.specs.Laws.{IsReadOneWay}
use Rattle.nbd_wire.specs.Messages.{request_bytes, IsRequest, simple_reply_bytes}
use Rattle.nbd_wire.specs.Reading.{BeginsNoMessage, HasFewerThan, ReadsMessage, ReadsData}
use Rattle.nbd_wire.specs.Writing.{WritesFront, WritesMessage}
use Rattle.nbd_session.specs.declared.asking.Asked.{Asked}
use Rattle.nbd_session.specs.declared.asking.Asked.TheVariants as askings
use Rattle.nbd_session.specs.declared.outcome.ReplyError.{ReplyError}
use Rattle.nbd_session.specs.Requests.{asked_of, is_to_disconnect}
use Rattle.nbd_session.specs.Exchanges.{ClientRequest, client_request_bytes, IsClientRequest, content_size, reply_number}
use Rattle.nbd_session.specs.Exchanges.{request_reply_bytes, Outcome, CarriesOut, asked_at, RequestExchange}
use Rattle.nbd_session.specs.Exchanges.{IsRequestExchange}
use Rattle.nbd_session.specs.BlockDevice.{BlockRelations, HasRoom}
use Rattle.nbd_session.specs.Session.{LinkBytes, asked_bytes, answered_bytes}
use Rattle.nbd_session.specs.Steps.{IsContent, ServesRequest}

-- bytes that begin with no request begin with none that has its data
no_request : (old : Option (List ℕ)) → BeginsNoMessage IsRequest old → BeginsNoMessage IsClientRequest old
no_request None none = tt
no_request (Some left) none =
    (none.0, λ bytes rest message split is. begins_one left rest message none.1 (split ∙ ap (λ xs. xs ++ rest) is.spelled) is)
  where
    begins_one : (left rest : List ℕ) (message : ClientRequest) {bytes : List ℕ}
        → ((bytes rest : List ℕ) (request : Request) → left ≡ bytes ++ rest → IsRequest bytes request → ⊥)
        → left ≡ client_request_bytes message ++ rest → IsClientRequest bytes message → ⊥
    begins_one left rest message none split is =
        none (request_bytes message.request) (message.content ++ rest) message.request
        (split ∙ append_assoc (request_bytes message.request) message.content rest) is.is_request

-- bytes that begin with a request and end inside its data begin with none that has its data
cut_off : IsReadOneWay IsRequest → (bytes : List ℕ) (request : Request) (old mid : Option (List ℕ)) → IsRequest bytes request
    → Consumes old mid bytes → HasFewerThan (content_size request) mid → BeginsNoMessage IsClientRequest old
cut_off one_way bytes request None mid is read few = tt
cut_off one_way bytes request (Some left) None is read few = absurd read
cut_off one_way bytes request (Some left) (Some next) is read few = (
  omega (arith, ap length (read ∙ ap (λ xs. xs ++ next) is.spelled)),
  λ all rest message again other. too_few message rest other.size
      (one_way bytes (request_bytes message.request) next (message.content ++ rest) request message.request is other.is_request
      (sym read ∙ again ∙ ap (λ xs. xs ++ rest) other.spelled
      ∙ append_assoc (request_bytes message.request) message.content rest)),
)
  where
    too_few : (message : ClientRequest) (rest : List ℕ) → length message.content ≡ content_size message.request
        → (bytes ≡ request_bytes message.request) × (next ≡ message.content ++ rest) × (request ≡ message.request) → ⊥
    too_few message rest size same =
        absurd (omega (arith, few, size, ap content_size same.2, ap length same.1, length-append message.content rest))

-- the request was not read
pub head_broken : {M : Type 0} (io : BlockRelations M) (first last : LinkBytes) (moment : M) (end : WireEnd)
    → ReadsMessage {T = Request} 28 IsRequest first.left last.left (Err end) → last.sent ≡ first.sent
    → ServesRequest io (Err end) first last moment moment
head_broken io first last moment Ended read same = (refl, inr (read.0, read.1, same))
head_broken io first last moment Closed read same = (refl, no_request first.left read.0, (read.1.0, read.1.2, same))
head_broken io first last moment LinkFault read same = inl (refl, (read.0, read.2, same))

-- it was read, but its data were not
pub data_broken : {M : Type 0} (io : BlockRelations M) (first last : LinkBytes) (moment : M) (mid : Option (List ℕ))
    (request : Request)
    (end : WireEnd) → IsReadOneWay IsRequest → ReadsMessage 28 IsRequest first.left mid (Ok request)
    → ReadsData {T = Option (List ℕ)} (content_size request) IsContent mid last.left (Err end)
    → last.sent ≡ first.sent → ServesRequest io (Err end) first last moment moment
data_broken io first last moment mid request Ended one_way head more same = absurd more
data_broken io first last moment mid request Closed one_way head more same = (
  refl,
  cut_off one_way head.0 request first.left mid head.1 head.2 more.0,
  (head.0 ++ more.1.0, consumes_more first.left mid last.left head.0 more.1.0 head.2 more.1.2, same),
)
data_broken io first last moment mid request LinkFault one_way head more same =
    inl (refl, (head.0 ++ more.0, consumes_more first.left mid last.left head.0 more.0 head.2 more.2, same))

-- a request that was read with its data
pub record HasRead (old new : Option (List ℕ)) (request : Request) (body : Option (List ℕ)) : Type 0 where
  pub content : List ℕ
  pub is : IsClientRequest (client_request_bytes (record { request = request; content = content }))
      (record { request = request; content = content })
  pub read : Consumes old new (client_request_bytes (record { request = request; content = content }))
  pub kept : IsContent content body

pub has_read : (old mid new : Option (List ℕ)) (request : Request) (body : Option (List ℕ))
    → ReadsMessage 28 IsRequest old mid (Ok request) → ReadsData (content_size request) IsContent mid new (Ok body)
    → HasRead old new request body
has_read old mid new request body before after =
    let bytes = before.0 in
    let content = after.0 in
    let spelled : bytes ≡ request_bytes request = before.1.spelled in
    record {
      content = content;
      is = record { spelled = refl; is_request = subst (λ xs. IsRequest xs request) spelled before.1; size = after.1 };
      read = subst (λ (xs : List ℕ). Consumes old new xs) (ap (λ xs. xs ++ content) spelled)
          (consumes_more old mid new bytes content before.2 after.3);
      kept = after.2;
    }

-- ---- what is asked

-- what a request was found to ask, by the geometry of the volume of a moment
pub record IsAskedAt {M : Type 0} (io : BlockRelations M) (moment : M) (request : Request) (asked : Asked) : Type 0 where
  pub is : asked_at io moment request ≡ asked

pub is_asked_at : {M : Type 0} (io : BlockRelations M) (moment : M) (request : Request) (asked : Asked) (geometry : Geometry)
    → geometry ≡ io.geometry moment → asked ≡ asked_of geometry request → IsAskedAt io moment request asked
is_asked_at io moment request asked geometry same is = record { is = sym (is ∙ ap (λ g. asked_of g request) same) }

-- it is to disconnect, or is not
it_is : (asked : Asked) → is_to_disconnect asked ≡ true → asked ≡ askings.Disconnect
it_is (askings.Read lba sectors) is = let bad : ⊥ = cc in absurd bad
it_is (askings.Write lba sectors durable) is = let bad : ⊥ = cc in absurd bad
it_is (askings.Zero lba sectors durable) is = let bad : ⊥ = cc in absurd bad
it_is askings.Flush is = let bad : ⊥ = cc in absurd bad
it_is askings.Disconnect is = refl
it_is (askings.Refused why) is = let bad : ⊥ = cc in absurd bad

it_is_not : (asked : Asked) → is_to_disconnect asked ≡ false → asked ≡ askings.Disconnect → ⊥
it_is_not asked is disconnect = let same : true ≡ false = ap is_to_disconnect (sym disconnect) ∙ is in cc

-- the client disconnects
pub disconnects : {M : Type 0} (io : BlockRelations M) (first last : LinkBytes) (moment : M) (request : Request)
    (asked : Asked)
    → IsAskedAt io moment request asked → is_to_disconnect asked ≡ true
    → ReadsMessage 28 IsRequest first.left last.left (Ok request)
    → last.sent ≡ first.sent
    → ServesRequest io (Ok false) first last moment moment
disconnects io first last moment request asked at is read same = (
  refl,
  record {
    request = request;
    is_request = subst (λ xs. IsRequest xs request) read.1.spelled read.1;
    asked = at.is ∙ it_is asked is;
    read = subst (λ (xs : List ℕ). Consumes first.left last.left xs) read.1.spelled read.2;
    sent = same;
  },
)

-- it was carried out
pub record IsCarriedOut {M : Type 0} (io : BlockRelations M) (left right : Option (List ℕ)) (request : Request)
    (outcome : Outcome) (old new : M) : Type 0 where
  pub exchange : RequestExchange
  pub request_is : exchange.message.request ≡ request
  pub outcome_is : exchange.outcome ≡ outcome
  pub is : IsRequestExchange io exchange old new
  pub read : Consumes left right (asked_bytes exchange)

pub is_carried_out : {M : Type 0} (io : BlockRelations M) (left right : Option (List ℕ)) (request : Request)
    (body : Option (List ℕ)) (asked : Asked)
    (outcome : Outcome) (old new : M) → HasRead left right request body → IsAskedAt io old request asked
    → is_to_disconnect asked ≡ false
    → HasRoom io old
    → ((content : List ℕ) → IsContent content body → (entered : List Entry)
    × CarriesOut io asked content outcome entered old new)
    → IsCarriedOut io left right request outcome old new
is_carried_out io left right request body asked outcome old new has at stays room done =
    let carried = done has.content has.kept in
    record {
      exchange = record { message = record { request = request; content = has.content }; outcome = outcome; entered = carried.0 };
      request_is = refl;
      outcome_is = refl;
      is = record {
        message = has.is;
        room = room;
        stays = λ disconnect. it_is_not asked stays (sym at.is ∙ disconnect);
        done = subst (λ a. CarriesOut io a has.content outcome carried.0 old new) (sym at.is) carried.1;
      };
      read = has.read;
    }

-- ---- its reply

reply_is : (exchange : RequestExchange) (request : Request) (outcome : Outcome) → exchange.message.request ≡ request
    → exchange.outcome ≡ outcome
    → request_reply_bytes request.cookie outcome ≡ answered_bytes exchange
reply_is exchange request outcome request_is outcome_is =
    ap (λ (r : Request). request_reply_bytes r.cookie outcome) (sym request_is)
    ∙ ap (λ (o : Outcome). request_reply_bytes exchange.message.request.cookie o) (sym outcome_is)

-- it was written
pub replied : {M : Type 0} (io : BlockRelations M) (first last : LinkBytes) (mid_left mid_sent : Option (List ℕ))
    (request : Request) (outcome : Outcome)
    (old new : M) → IsCarriedOut io first.left mid_left request outcome old new → last.left ≡ mid_left
    → mid_sent ≡ first.sent
    → Appends mid_sent last.sent (request_reply_bytes request.cookie outcome)
    → ServesRequest io (Ok true) first last old new
replied io first last mid_left mid_sent request outcome old new carried same_left same_sent sent =
    let x = carried.exchange in (
      x,
      carried.is,
      (
        subst (λ (r : Option (List ℕ)). Consumes first.left r (asked_bytes x)) (sym same_left) carried.read,
        subst (λ (w : Option (List ℕ)). Appends w last.sent (answered_bytes x)) same_sent
            (subst (λ (xs : List ℕ). Appends mid_sent last.sent xs)
            (reply_is x request outcome carried.request_is carried.outcome_is) sent),
      ),
    )

-- it was not written whole
pub reply_broken : {M : Type 0} (io : BlockRelations M) (first last : LinkBytes) (mid_left mid_sent : Option (List ℕ))
    (request : Request) (outcome : Outcome)
    (old new : M) (end : WireEnd) → IsCarriedOut io first.left mid_left request outcome old new → last.left ≡ mid_left
    → mid_sent ≡ first.sent
    → WritesMessage {T = Unit {0}} (request_reply_bytes request.cookie outcome) mid_sent last.sent (Err end)
    → ServesRequest io (Err end) first last old new
reply_broken io first last mid_left mid_sent request outcome old new Ended carried same_left same_sent sent = absurd sent
reply_broken io first last mid_left mid_sent request outcome old new Closed carried same_left same_sent sent = absurd sent
reply_broken io first last mid_left mid_sent request outcome old new LinkFault carried same_left same_sent sent =
    let x = carried.exchange in
    inr (record {
      exchange = x;
      is_exchange = carried.is;
      read = subst (λ (r : Option (List ℕ)). Consumes first.left r (asked_bytes x)) (sym same_left) carried.read;
      sent =
          subst (λ (w : Option (List ℕ)). WritesFront (answered_bytes x) w last.sent) same_sent
          (subst (λ (xs : List ℕ). WritesFront xs mid_sent last.sent)
          (reply_is x request outcome carried.request_is carried.outcome_is) sent);
    })

-- ---- the bytes of a reply

-- a reply with data
pub writes_data : (cookie : ℕ) (outcome : Outcome) (content bytes : List ℕ) (old new : Option (List ℕ))
    (result : Result (Unit {0}) WireEnd)
    → outcome ≡ Ok content → bytes ≡ content → WritesMessage (simple_reply_bytes 0 cookie bytes) old new result
    → WritesMessage (request_reply_bytes cookie outcome) old new result
writes_data cookie outcome content bytes old new result is same writes =
    subst (λ o. WritesMessage (request_reply_bytes cookie o) old new result) (sym is)
    (subst (λ b. WritesMessage (simple_reply_bytes 0 cookie b) old new result) same writes)

-- a reply with an error
pub writes_error : (cookie : ℕ) (outcome : Outcome) (error : ReplyError) (number : ℕ) (old new : Option (List ℕ))
    (result : Result (Unit {0}) WireEnd)
    → outcome ≡ Err error → number ≡ reply_number error → WritesMessage (simple_reply_bytes number cookie []) old new result
    → WritesMessage (request_reply_bytes cookie outcome) old new result
writes_error cookie outcome error number old new result is same writes =
    subst (λ o. WritesMessage (request_reply_bytes cookie o) old new result) (sym is)
    (subst (λ n. WritesMessage (simple_reply_bytes n cookie []) old new result) same writes)
