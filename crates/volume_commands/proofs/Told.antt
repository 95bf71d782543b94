-- What a command has told, by how far it came.
use Rattle.std.proofs.Common.{arith, ◌≡◌, ℕ, ◌+◌, List, length, take, length-append, refl, sym, subst, inl, inr}
use Rattle.std.proofs.KnownBytes.{Appends-trans}
use Rattle.std.proofs.lemmas.List.{take-append-le}
use Rattle.std.proofs.Math.Seq.{take-append-add, take-append_seam, take-length}
use Rattle.std.specs.Io.KnownBytes.{Appends}
use Rattle.std.specs.Prelude.{OnOk, Option, Result, Err}
use Rattle.lsvd_objstore.specs.Store.{StoreState, ReceiptState}
use Rattle.vol_mount.specs.Mounted.{MountedState}
use Rattle.volume_owner.specs.Acts.{Moment, moment_of}
use Rattle.volume_server.specs.OwnerDevice.{owner_relations}
use Rattle.volume_server.specs.Serving.{ListenerState, ConnectionState, GivesClients, EndsLane, AreClients}
use Rattle.volume_server.specs.declared.serving.Lane.{Lane}
use Rattle.volume_server.specs.declared.serving.LaneEnd.{LaneEnd}
use Rattle.volume_server.specs.declared.serving.LaneEnd.TheVariants as lanes
use Rattle.volume_commands.specs.declared.error.CommandError.{CommandError}
use Rattle.volume_commands.specs.declared.error.CommandError.TheVariants as errors
use Rattle.refusals.specs.declared.refusal.Refusal.{Refusal}
use Rattle.volume_commands.specs.Output.{AppendsFront, AppendsFrontOf, TellsEnd}
use Rattle.volume_commands.specs.Serving.{Drains, ServesMounted, IsServingText, mounted_line, writes_line, serving_text, judged}

-- ---- any command

-- a command that told nothing ends by any error
pub nothing_told : (IsText : List ℕ → Type 0) (error : CommandError) (old : Option (List ℕ)) → TellsEnd IsText (Err error) old old
nothing_told IsText (errors.Refused why) old = refl
nothing_told IsText errors.Fault old = inl refl
nothing_told IsText errors.OutOfMemory old = inl refl

-- ---- a server

-- a front of the first line
pub first_broken : (kept number : ℕ) (old new : Option (List ℕ)) → AppendsFront (mounted_line kept number) old new
    → TellsEnd IsServingText (Err errors.Fault) old new
first_broken kept number old new front =
    let a = mounted_line kept number in
    let b = writes_line 0 in
    inr (
      serving_text kept number 0,
      (kept, number, 0, refl),
      (
        front.0,
        omega (arith, front.1, length-append a b),
        subst (λ (t : List ℕ). Appends old new t) (sym (take-append-le front.0 a b front.1)) front.2,
      ),
    )

-- the first line alone
pub first_told : (kept number : ℕ) (old new : Option (List ℕ)) → Appends old new (mounted_line kept number)
    → AppendsFrontOf IsServingText old new
first_told kept number old new told =
    let a = mounted_line kept number in
    let b = writes_line 0 in
    inr (
      serving_text kept number 0,
      (kept, number, 0, refl),
      (
        length a,
        omega (arith, length-append a b),
        subst (λ (t : List ℕ). Appends old new t) (sym (take-append_seam a b)) told,
      ),
    )

-- the first line, before the server ended by an error
pub only_first : (kept number : ℕ) (error : CommandError) (old new : Option (List ℕ))
    → ((why : Refusal) → error ≡ errors.Refused why → ⊥)
    → Appends old new (mounted_line kept number) → TellsEnd IsServingText (Err error) old new
only_first kept number (errors.Refused why) old new not_refused told = absurd (not_refused why refl)
only_first kept number errors.Fault old new not_refused told = first_told kept number old new told
only_first kept number errors.OutOfMemory old new not_refused told = first_told kept number old new told

-- a front of the second line after it
pub second_broken : (kept number entries : ℕ) (old mid new : Option (List ℕ)) → Appends old mid (mounted_line kept number)
    → AppendsFront (writes_line entries) mid new → TellsEnd IsServingText (Err errors.Fault) old new
second_broken kept number entries old mid new first front =
    let a = mounted_line kept number in
    let b = writes_line entries in
    inr (
      serving_text kept number entries,
      (kept, number, entries, refl),
      (
        length a + front.0,
        omega (arith, front.1, length-append a b),
        subst (λ (t : List ℕ). Appends old new t) (sym (take-append-add a b front.0))
            (Appends-trans old mid new a (take front.0 b) first front.2),
      ),
    )

-- both lines
pub both_told : (kept number entries : ℕ) (end : LaneEnd) (old mid new : Option (List ℕ))
    → Appends old mid (mounted_line kept number)
    → Appends mid new (writes_line entries) → TellsEnd IsServingText (judged end) old new
both_told kept number entries lanes.Counted old mid new first second = (
  serving_text kept number entries,
  (kept, number, entries, refl),
  Appends-trans old mid new (mounted_line kept number) (writes_line entries) first second,
)
both_told kept number entries lanes.Closed old mid new first second = (
  serving_text kept number entries,
  (kept, number, entries, refl),
  Appends-trans old mid new (mounted_line kept number) (writes_line entries) first second,
)
both_told kept number entries lanes.Failed old mid new first second =
    inr (
      serving_text kept number entries,
      (kept, number, entries, refl),
      (
        length (serving_text kept number entries),
        omega arith,
        subst (λ (t : List ℕ). Appends old new t) (sym whole)
            (Appends-trans old mid new (mounted_line kept number) (writes_line entries) first second),
      ),
    )
  where
    whole : take (length (serving_text kept number entries)) (serving_text kept number entries) ≡ serving_text kept number entries
    whole = take-length (serving_text kept number entries)

-- what stands behind both lines
pub serves_with : {R L K : Type 0} (receipt_state : R → ReceiptState) (listener_state : L → ListenerState)
    (coming : L → Option (List K)) (link_state : K → ConnectionState) (sessions : ℕ) (lane : Lane) (shown mounted : MountedState)
    (clients after : L) (store : StoreState) (last closing : Moment) (entries : ℕ) (old mid new : Option (List ℕ))
    → shown ≡ mounted → (lane.end ≡ lanes.Failed → ⊥) → EndsLane sessions lane
    → GivesClients lane (listener_state clients) (listener_state after)
    → AreClients (owner_relations receipt_state) link_state lane.served (coming clients) (coming after)
    (moment_of shown.volume store) last
    → Drains receipt_state entries last closing
    → Appends old mid (mounted_line shown.entries shown.number) → Appends mid new (writes_line entries)
    → ServesMounted receipt_state listener_state coming link_state sessions (coming clients) mounted store closing old new
serves_with receipt_state listener_state coming link_state sessions lane shown mounted clients after store last closing entries
    old mid new same succeeds ends gives served drains first second =
    subst (λ (m : MountedState).
    ServesMounted receipt_state listener_state coming link_state sessions (coming clients) m store closing old new) same
    (record {
      lane = lane;
      succeeds = succeeds;
      ends = ends;
      clients = clients;
      after = after;
      gives = gives;
      last = last;
      served = served;
      entries = entries;
      drains = drains;
      told = Appends-trans old mid new (mounted_line shown.entries shown.number) (writes_line entries) first second;
    })

-- so it is of the same links, as a world told them
pub serves_those : {R L K : Type 0} (receipt_state : R → ReceiptState) (listener_state : L → ListenerState)
    (coming : L → Option (List K)) (link_state : K → ConnectionState) (sessions : ℕ) (came links : Option (List K))
    (mounted : MountedState) (store : StoreState) (closing : Moment) (old new : Option (List ℕ))
    (result : Result (Unit {0}) CommandError) → came ≡ links
    → OnOk result (ServesMounted receipt_state listener_state coming link_state sessions came mounted store closing old new)
    → OnOk result (ServesMounted receipt_state listener_state coming link_state sessions links mounted store closing old new)
serves_those {R} {L} {K} receipt_state listener_state coming link_state sessions came links mounted store closing old new result
    same serves =
    subst (λ (l : Option (List K)).
    OnOk result (ServesMounted receipt_state listener_state coming link_state sessions l mounted store closing old new))
    same serves
