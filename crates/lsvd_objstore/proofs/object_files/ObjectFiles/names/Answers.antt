use Rattle.std.proofs.Common.{◌≡◌, sym, subst}
use Rattle.std.specs.Prelude.{is_some, Option}
use Rattle.lsvd_files.specs.Directory.{DirectoryState}
use Rattle.lsvd_files.specs.Calls.{Changes, IsLeft, ByPath, AreNames}
use Rattle.lsvd_files.specs.Kept.{Stays}
use Rattle.lsvd_files.proofs.Chained.{changes_three}
use Rattle.lsvd_objstore.specs.Objects.{Lists}
use Rattle.lsvd_objstore.specs.Directory.{IsSettled, objects_of}
use Rattle.lsvd_objstore.proofs.Cleared.{sweeps_left}
use Rattle.lsvd_objstore.proofs.Naming.{lists_all}
use Rattle.lsvd_objstore.proofs.Placed.{Stands}
use Rattle.lsvd_objstore.proofs.Settling.{known_after, asked_left}
use Rattle.lsvd_objstore.proofs.object_files.ObjectFiles.names.Goals as goal

pub invariant_of-self : goal.invariant_of-self
invariant_of-self g c =
    known_after (is_some c.self.inside.sync_error) c.self.inside.is_unsynced IsLeft sweeps_left
    (g.D.Directory.state c.self.inside.directory) (g.D.Directory.state c.names.new.self) c.in_err-files.ensures.err
    c.self.invariant

pub invariant_of-self-in_err-stands : goal.invariant_of-self-in_err-stands
invariant_of-self-in_err-stands g c =
    let AreListed = λ (old : DirectoryState). AreNames old c.in_ok-files.files in
    known_after (is_some c.self.inside.sync_error) c.self.inside.is_unsynced IsLeft sweeps_left
    (g.D.Directory.state c.names.new.self) (g.D.Directory.state c.stands.new.directory) c.in_err-stands.ensures.err
    (known_after (is_some c.self.inside.sync_error) c.self.inside.is_unsynced
    (λ old new. ByPath ((new ≡ old) × AreListed old) old new) (λ a b h. sweeps_left a b (asked_left AreListed a b h))
    (g.D.Directory.state c.self.inside.directory) (g.D.Directory.state c.names.new.self) c.in_ok-files.ensures.ok
    c.self.invariant)

pub returns-clause-ok : goal.returns-clause-ok
returns-clause-ok g c =
    let files = c.in_ok-files.files in
    let Settled : DirectoryState → DirectoryState → Type 0 = λ old new. Stays old new × IsSettled new in
    let y = g.D.Directory.state c.self.inside.directory in
    let settled : Changes Settled c.args.self.now y =
    subst (λ (it : Option DirectoryState). Changes Settled c.args.self.now it) (sym c.self.view_is) c.in_ok-settle.ensures.ok in
    changes_three Settled (λ old new. ByPath ((new ≡ old) × AreNames old files) old new) Stands
    (λ old new. Stays old new × IsSettled new × Lists c.args.uuid (objects_of new) c.from_vec.result)
    (lists_all c.args.uuid files c.in_ok-names.names.items c.from_vec.result c.from_vec.ensures c.in_ok-names.ensures.names
    c.in_ok-names.ensures.same) c.args.self.now y (g.D.Directory.state c.names.new.self)
    (g.D.Directory.state c.stands.new.directory) settled c.in_ok-files.ensures.ok c.in_ok-stands.ensures.ok
