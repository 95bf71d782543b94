-- Contract: for which reason a sector is no header of a place, which are the tests and their order.
use Rattle.std.specs.Prelude.{ℕ, ◌≡◌, ◌<◌, ◌≤◌, IsTrue, List, take, drop, codes}
use Rattle.lsvd_base.specs.declared.geometry.Geometry.{Geometry}
use Rattle.log_record.specs.declared.head.Head.{Head}
use Rattle.log_record.specs.declared.head.Place.{Place}
use Rattle.log_record.specs.declared.reason.Reason.{Reason}
use Rattle.log_record.specs.declared.reason.Reason.TheVariants as reasons
use Rattle.log_record.specs.Numbers.{kind_in, seq_in, HasNumbers, filler}
use Rattle.log_record.specs.Grammar.{is_in_range, fits}

-- the number of a reason, in the order of the tests
abbrev pub code_of : Reason → ℕ
code_of reasons.Magic = 1
code_of reasons.Kind = 2
code_of reasons.Seq = 3
code_of reasons.Range = 4
code_of reasons.Zeros = 5
code_of reasons.Place = 6

-- the sector passes the test that a reason stands for
abbrev pub PassesRecordTest : List ℕ → ℕ → Geometry → Place → Reason → Type 0
PassesRecordTest sector seq geometry place reasons.Magic = take 8 sector ≡ codes "LSVDREC1"
PassesRecordTest sector seq geometry place reasons.Kind = (1 ≤ kind_in sector) × (kind_in sector ≤ 3)
PassesRecordTest sector seq geometry place reasons.Seq = seq_in sector ≡ seq
PassesRecordTest sector seq geometry place reasons.Range =
    (head : Head) × HasNumbers sector head × IsTrue (is_in_range geometry place.position head)
PassesRecordTest sector seq geometry place reasons.Zeros = drop 36 sector ≡ filler
PassesRecordTest sector seq geometry place reasons.Place =
    (head : Head) × HasNumbers sector head × IsTrue (fits geometry place head)

-- the first test that the sector does not pass is that of this reason
pub record IsRefusedAs (sector : List ℕ) (seq : ℕ) (geometry : Geometry) (place : Place) (reason : Reason) : Type 0 where
  pub earlier : (other : Reason) → code_of other < code_of reason → PassesRecordTest sector seq geometry place other
  pub failed : ¬ PassesRecordTest sector seq geometry place reason
