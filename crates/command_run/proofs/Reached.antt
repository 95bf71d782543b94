-- What a run makes of what stands at the paths, by what its words were read as.
use Rattle.std.proofs.Common.{◌≡◌, ◌⊎◌, ℕ, Bool, List, inl, inr}
use Rattle.std.specs.Prelude.{Option, Ok}
use Rattle.clap.specs.Walk.{Text}
use Rattle.lsvd_device.specs.Device.{DiskState}
use Rattle.lsvd_objstore.specs.Store.{ReceiptState}
use Rattle.command_line.specs.CommandLine.{IsRead, Line, Spells, create, serve, collect, check}
use Rattle.command_line.specs.declared.check.CheckRequest.{CheckRequest}
use Rattle.command_line.specs.declared.churn.ChurnRequest.{ChurnRequest}
use Rattle.command_line.specs.declared.create.CreateRequest.{CreateRequest}
use Rattle.command_line.specs.declared.mount.MountRequest.{MountRequest}
use Rattle.command_line.specs.declared.serve.ServeRequest.{ServeRequest}
use Rattle.command_line.specs.declared.request.Request.TheVariants.{Replay, Create, Serve, Collect, Check, Churn}
use Rattle.volume_server.specs.Serving.{ListenerState, ConnectionState}
use Rattle.volume_commands.specs.Checking.{Checks, RefusesCheck}
use Rattle.volume_commands.specs.Collecting.{Collects}
use Rattle.volume_commands.specs.Creating.{Creates, RefusesToCreate}
use Rattle.volume_commands.specs.Mounting.{RefusesFor}
use Rattle.volume_commands.specs.Serving.{Serves}
use Rattle.volume_commands.specs.World.{Places}
use Rattle.refusals.specs.declared.refusal.Refusal.{Refusal}
use Rattle.volume_commands.specs.declared.report.Report.{Report}
use Rattle.volume_commands.specs.declared.report.Report.TheVariants.{Done, Missing, Refused}
use Rattle.command_run.specs.Run.{Reaches}

module _ {D R L K : Type 0} (tells : Bool) (disk_state : D → DiskState) (receipt_state : R → ReceiptState)
    (listener_state : L → ListenerState) (coming : L → Option (List K)) (link_state : K → ConnectionState) (words : List Text)
    (report : Report) (clients : List ℕ → Option (List K)) (before after : Places) (old new : Option (List ℕ)) where
  abbrev reaches : Type 0
  reaches = Reaches tells disk_state receipt_state listener_state coming link_state words report clients before after old new

  pub reaches_by_replay : ((line : Line) → Spells words line → IsRead line (Ok Replay)) → reaches
  reaches_by_replay read = record {
    creates = λ options spelled is. absurd (read (create options) spelled);
    creates_none = λ options why spelled is. absurd (read (create options) spelled);
    serves = λ options spelled is. absurd (read (serve options) spelled);
    serves_none = λ options why spelled is. absurd (read (serve options) spelled);
    collects = λ options spelled is. absurd (read (collect options) spelled);
    collects_none = λ options why spelled is. absurd (read (collect options) spelled);
    checks = λ options spelled is. absurd (read (check options) spelled);
    checks_none = λ options why spelled is. absurd (read (check options) spelled);
    check_disks = λ options spelled. absurd (read (check options) spelled);
  }

  pub reaches_by_churn : (request : ChurnRequest) → ((line : Line) → Spells words line → IsRead line (Ok (Churn request)))
      → reaches
  reaches_by_churn request read = record {
    creates = λ options spelled is. absurd (read (create options) spelled);
    creates_none = λ options why spelled is. absurd (read (create options) spelled);
    serves = λ options spelled is. absurd (read (serve options) spelled);
    serves_none = λ options why spelled is. absurd (read (serve options) spelled);
    collects = λ options spelled is. absurd (read (collect options) spelled);
    collects_none = λ options why spelled is. absurd (read (collect options) spelled);
    checks = λ options spelled is. absurd (read (check options) spelled);
    checks_none = λ options why spelled is. absurd (read (check options) spelled);
    check_disks = λ options spelled. absurd (read (check options) spelled);
  }

  pub reaches_by_create : (request : CreateRequest) → ((line : Line) → Spells words line → IsRead line (Ok (Create request)))
      → (report ≡ Done → Creates tells request before after old new)
      → ((why : Refusal) → report ≡ Refused why → RefusesToCreate tells request before after why) → reaches
  reaches_by_create request read creates refuses = record {
    creates = λ options spelled is. (request, read (create options) spelled, creates is);
    creates_none = λ options why spelled is. (request, read (create options) spelled, refuses why is);
    serves = λ options spelled is. absurd (read (serve options) spelled);
    serves_none = λ options why spelled is. absurd (read (serve options) spelled);
    collects = λ options spelled is. absurd (read (collect options) spelled);
    collects_none = λ options why spelled is. absurd (read (collect options) spelled);
    checks = λ options spelled is. absurd (read (check options) spelled);
    checks_none = λ options why spelled is. absurd (read (check options) spelled);
    check_disks = λ options spelled. absurd (read (check options) spelled);
  }

  pub reaches_by_serve : (request : ServeRequest) → ((line : Line) → Spells words line → IsRead line (Ok (Serve request)))
      → (report ≡ Done → Serves tells disk_state receipt_state listener_state coming link_state request
      (clients request.socket.now) before after old new)
      → ((why : Refusal) → report ≡ Refused why → RefusesFor tells disk_state receipt_state request.mount before after why)
      → reaches
  reaches_by_serve request read serves refuses = record {
    creates = λ options spelled is. absurd (read (create options) spelled);
    creates_none = λ options why spelled is. absurd (read (create options) spelled);
    serves = λ options spelled is. (request, read (serve options) spelled, serves is);
    serves_none = λ options why spelled is. (request, read (serve options) spelled, refuses why is);
    collects = λ options spelled is. absurd (read (collect options) spelled);
    collects_none = λ options why spelled is. absurd (read (collect options) spelled);
    checks = λ options spelled is. absurd (read (check options) spelled);
    checks_none = λ options why spelled is. absurd (read (check options) spelled);
    check_disks = λ options spelled. absurd (read (check options) spelled);
  }

  pub reaches_by_collect : (request : MountRequest) → ((line : Line) → Spells words line → IsRead line (Ok (Collect request)))
      → (report ≡ Done → Collects tells disk_state receipt_state request before after old new)
      → ((why : Refusal) → report ≡ Refused why → RefusesFor tells disk_state receipt_state request before after why) → reaches
  reaches_by_collect request read collects refuses = record {
    creates = λ options spelled is. absurd (read (create options) spelled);
    creates_none = λ options why spelled is. absurd (read (create options) spelled);
    serves = λ options spelled is. absurd (read (serve options) spelled);
    serves_none = λ options why spelled is. absurd (read (serve options) spelled);
    collects = λ options spelled is. (request, read (collect options) spelled, collects is);
    collects_none = λ options why spelled is. (request, read (collect options) spelled, refuses why is);
    checks = λ options spelled is. absurd (read (check options) spelled);
    checks_none = λ options why spelled is. absurd (read (check options) spelled);
    check_disks = λ options spelled. absurd (read (check options) spelled);
  }

  pub reaches_by_check : (request : CheckRequest) → ((line : Line) → Spells words line → IsRead line (Ok (Check request)))
      → ((report ≡ Done) ⊎ (report ≡ Missing) → Checks tells receipt_state request before after report old new)
      → ((why : Refusal) → report ≡ Refused why → RefusesCheck tells receipt_state request before after why)
      → after.disks ≡ before.disks → reaches
  reaches_by_check request read checks refuses same = record {
    creates = λ options spelled is. absurd (read (create options) spelled);
    creates_none = λ options why spelled is. absurd (read (create options) spelled);
    serves = λ options spelled is. absurd (read (serve options) spelled);
    serves_none = λ options why spelled is. absurd (read (serve options) spelled);
    collects = λ options spelled is. absurd (read (collect options) spelled);
    collects_none = λ options why spelled is. absurd (read (collect options) spelled);
    checks = λ options spelled is. (request, read (check options) spelled, checks is);
    checks_none = λ options why spelled is. (request, read (check options) spelled, refuses why is);
    check_disks = λ options spelled. same;
  }

  no_check : (report ≡ Done → ⊥) → (report ≡ Missing → ⊥) → (report ≡ Done) ⊎ (report ≡ Missing) → ⊥
  no_check not_done not_missing (inl is) = not_done is
  no_check not_done not_missing (inr is) = not_missing is

  -- a run that is neither done nor refused, nor a check, promises nothing of them but that no disk was changed
  pub reaches_nothing : (report ≡ Done → ⊥) → (report ≡ Missing → ⊥) → ((why : Refusal) → report ≡ Refused why → ⊥)
      → after.disks ≡ before.disks → reaches
  reaches_nothing not_done not_missing not_refused same = record {
    creates = λ options spelled is. absurd (not_done is);
    creates_none = λ options why spelled is. absurd (not_refused why is);
    serves = λ options spelled is. absurd (not_done is);
    serves_none = λ options why spelled is. absurd (not_refused why is);
    collects = λ options spelled is. absurd (not_done is);
    collects_none = λ options why spelled is. absurd (not_refused why is);
    checks = λ options spelled is. absurd (no_check not_done not_missing is);
    checks_none = λ options why spelled is. absurd (not_refused why is);
    check_disks = λ options spelled. same;
  }
