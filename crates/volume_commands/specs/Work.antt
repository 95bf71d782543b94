-- Contract: what each work on a mounted volume does, and what it may tell.
use Rattle.std.specs.Prelude.{ℕ, List, Option}
use Rattle.lsvd_objstore.specs.Store.{ReceiptState}
use Rattle.volume_server.specs.Serving.{ListenerState, ConnectionState}
use Rattle.volume_commands.specs.Collecting.{CollectsMounted, IsCollectedText}
use Rattle.volume_commands.specs.Mounting.{MountedRelation}
use Rattle.volume_commands.specs.Serving.{ServesMounted, IsServingText}
use Rattle.volume_commands.specs.declared.work.Work.{Work}
use Rattle.volume_commands.specs.declared.work.Work.TheVariants.{Serving, Collection}

-- the texts that it may tell
abbrev pub IsTextOf : Work → List ℕ → Type 0
IsTextOf (Serving socket sessions) = IsServingText
IsTextOf Collection = IsCollectedText

-- what it does, where these links are to come to the paths of its world, with what its output had and has then
abbrev pub DoesWork : {R L K : Type 0} → (R → ReceiptState) → (L → ListenerState) → (L → Option (List K)) → (K → ConnectionState)
    → Work → (clients : List ℕ → Option (List K)) → (old new : Option (List ℕ)) → MountedRelation
DoesWork receipt_state listener_state coming link_state (Serving socket sessions) clients old new =
    λ mounted store closing.
    ServesMounted receipt_state listener_state coming link_state sessions (clients socket.now) mounted store closing old new
DoesWork receipt_state listener_state coming link_state Collection clients old new =
    λ mounted store closing. CollectsMounted receipt_state mounted store closing old new
