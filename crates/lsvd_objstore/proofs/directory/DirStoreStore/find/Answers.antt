use Rattle.std.proofs.Common.{◌≡◌, ap, None, Some, ℕ}
use Rattle.std.specs.Prelude.{Option}
use Rattle.lsvd_names.specs.Spelling.{spelling}
use Rattle.lsvd_files.specs.Calls.{Changes, length_under}
use Rattle.lsvd_files.specs.Kept.{Stays}
use Rattle.lsvd_objstore.specs.Directory.{Shelf, IsSettled}
use Rattle.lsvd_objstore.proofs.Shelved.{at_value, stays_both, only_counts, finds}
use Rattle.lsvd_objstore.proofs.directory.DirStoreStore.find.Goals as goal

pub returns-in_err-len-clause-unchanged : goal.returns-in_err-len-clause-unchanged
returns-in_err-len-clause-unchanged g c =
    let x = c.self.inside.files in
    let y = c.length-outcome.new.self in
    only_counts c.args.self.now c.judge.new.self x y (ap (λ (it : Shelf). it.directory) c.self.view_is)
    (ap (λ (it : Shelf). it.directory) c.judge.ensures.unchanged) Stays (λ a b h. h)
    (stays_both c.length-outcome.result (λ (found : Option ℕ) after. found ≡ length_under after (spelling c.args.name.now)) x y
    c.length-outcome.ensures.ok c.length-outcome.ensures.err)

pub returns-in_default-clause-found : goal.returns-in_default-clause-found
returns-in_default-clause-found g c =
    let x = c.self.inside.files in
    let y = c.length-outcome.new.self in
    let name = c.args.name.now in
    finds name None c.in_ok-len.field-0 c.requires c.in_default.is x y c.args.self.now.directory
    (ap (λ (it : Shelf). it.directory) c.self.view_is)
    (at_value c.length-outcome.result c.in_ok-len.field-0
    (λ (found : Option ℕ). Changes (λ before after. Stays before after × IsSettled after
    × (found ≡ length_under after (spelling name))) x y) c.in_ok-len.ensures.value c.length-outcome.ensures.ok)

pub returns-in_default-clause-unchanged : goal.returns-in_default-clause-unchanged
returns-in_default-clause-unchanged g c =
    let x = c.self.inside.files in
    let y = c.length-outcome.new.self in
    only_counts c.args.self.now c.judge.new.self x y (ap (λ (it : Shelf). it.directory) c.self.view_is)
    (ap (λ (it : Shelf). it.directory) c.judge.ensures.unchanged) Stays (λ a b h. h)
    (stays_both c.length-outcome.result (λ (found : Option ℕ) after. found ≡ length_under after (spelling c.args.name.now)) x y
    c.length-outcome.ensures.ok c.length-outcome.ensures.err)

pub returns-clause-found : goal.returns-clause-found
returns-clause-found g c =
    let x = c.self.inside.files in
    let y = c.length-outcome.new.self in
    let name = c.args.name.now in
    finds name (Some c.in-Some.len) c.in_ok-len.field-0 c.requires c.in-Some.is x y c.args.self.now.directory
    (ap (λ (it : Shelf). it.directory) c.self.view_is)
    (at_value c.length-outcome.result c.in_ok-len.field-0
    (λ (found : Option ℕ). Changes (λ before after. Stays before after × IsSettled after
    × (found ≡ length_under after (spelling name))) x y) c.in_ok-len.ensures.value c.length-outcome.ensures.ok)

pub returns-clause-unchanged : goal.returns-clause-unchanged
returns-clause-unchanged g c =
    let x = c.self.inside.files in
    let y = c.length-outcome.new.self in
    only_counts c.args.self.now c.judge.new.self x y (ap (λ (it : Shelf). it.directory) c.self.view_is)
    (ap (λ (it : Shelf). it.directory) c.judge.ensures.unchanged) Stays (λ a b h. h)
    (stays_both c.length-outcome.result (λ (found : Option ℕ) after. found ≡ length_under after (spelling c.args.name.now)) x y
    c.length-outcome.ensures.ok c.length-outcome.ensures.err)
