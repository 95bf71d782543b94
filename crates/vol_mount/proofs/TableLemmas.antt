-- What the table of a recovered list says, and that entries which are added change none of it.
use Rattle.std.proofs.Common.{◌≡◌, ℕ, ◌≤◌, List, refl, sym, ◌∙◌, ap, subst, arith}
use Rattle.std.specs.Prelude.{Option, Some, None, IfSome}
use Rattle.lsvd_objstore.specs.Objects.{Objects}
use Rattle.object_format.specs.declared.expected.Expected.{Expected}
use Rattle.object_table.specs.declared.row.ObjectRow.{ObjectRow}
use Rattle.object_table.specs.Table.{row_of}
use Rattle.object_uploads.specs.Queue.{pins_of}
use Rattle.object_uploads.specs.State.{QueueState}
use Rattle.object_recovery.specs.Table.{HasTableFrom, KnowsObjects}
use Rattle.refine_mount.proofs.TableLemmas.{none_pinned}
use Rattle.vol_mount.proofs.AddLemmas.{HasSameObjects}

-- nothing is pinned
pub no_pins : (queue : QueueState) (checkpoint : ℕ) → HasTableFrom checkpoint queue → (number : ℕ)
    → pins_of (row_of number queue.maps.objects.rows) ≡ 0
no_pins queue checkpoint table number =
    none_pinned queue.maps.objects.rows number (row_of number queue.maps.objects.rows) refl table.unpinned

pub none_more : {n : ℕ} → n ≡ 0 → n ≤ 0
none_more none = omega (arith, none)

-- where no object was changed, nothing is pinned then
pub no_pins_then : (old new : QueueState) (checkpoint : ℕ) → HasTableFrom checkpoint old → HasSameObjects old new → (number : ℕ)
    → pins_of (row_of number new.maps.objects.rows) ≡ 0
no_pins_then old new checkpoint table same number =
    ap (λ (rows : List ObjectRow). pins_of (row_of number rows)) same.rows ∙ no_pins old checkpoint table number

-- and the same is known of the objects of a store
knows_then : (volume : Expected) (objects : Objects) (base : ℕ) (old new : QueueState) → HasSameObjects old new
    → KnowsObjects volume objects base old → KnowsObjects volume objects base new
knows_then volume objects base old new same knows = record {
  known = λ number low high. rw same.rows (knows.known number low (subst (λ n. number ≤ n) same.frontier high));
  unmapped = λ end owned is number. rw same.rows (knows.unmapped end owned is number);
  places = λ end owned is k place there. knows.places end owned is k place (rw (sym same.placed) there);
  payloads = λ k place there. rw same.rows (knows.payloads k place (rw (sym same.placed) there));
}

pub knows_added : (volume : Expected) (objects : Option Objects) (base : ℕ) (old new : QueueState) → HasSameObjects old new
    → IfSome objects (λ o. KnowsObjects volume o base old) → IfSome objects (λ o. KnowsObjects volume o base new)
knows_added volume None base old new same knows = tt
knows_added volume (Some objects) base old new same knows = knows_then volume objects base old new same knows
