use Rattle.std.proofs.Common.{rules, ◌≡◌, ◌∙◌, refl, ℕ, true, false, None, Some, length}
use Rattle.std.specs.Prelude.{Option, is_some}
use Rattle.lsvd_files.specs.Directory.{leads, new_file}
use Rattle.lsvd_files.proofs.Kept.{inside_made, is_made}
use Rattle.lsvd_files.proofs.memory.MemDirectory.make_here.Goals as goal

none_found : (found : Option ℕ) → is_some found ≡ false → found ≡ None
none_found None e = refl
none_found (Some file) e = cc

pub invariant_of-self-2 : goal.invariant_of-self-2
invariant_of-self-2 c =
    let self = c.self.inside in
    let added = c.in_ok-add_file.ensures.ok in
    let number : c.len-number.result ≡ length self.files.items = search rules in
    inside_made c.args.name.now c.len-number.result new_file self.files.items c.add_file.new.files.items self.names
    c.add_file.new.names self.before.items c.add_file.new.before.items number added.0 (added.1 ∙ c.in_ok-changed.ensures)
    added.2 c.self.invariant

pub returns-clause-ok : goal.returns-clause-ok
returns-clause-ok c =
    let self = c.self.inside in
    let added = c.in_ok-add_file.ensures.ok in
    let number : c.len-number.result ≡ length self.files.items = search rules in
    let stands : self.stands ≡ true = search rules in
    let none : is_some (leads self.names c.args.name.now) ≡ false = search rules in
    let absent = none_found (leads self.names c.args.name.now) none in
    is_made c.args.name.now c.len-number.result self.files.items c.add_file.new.files.items self.names c.add_file.new.names
    self.before.items c.add_file.new.before.items self.doubted self.stands c.args.self.now c.self.view_is stands absent number
    added.0 (added.1 ∙ c.in_ok-changed.ensures) added.2 c.self.invariant
