use Rattle.std.proofs.Common.{rules, ◌≡◌, Some, length, sym, subst}
use Rattle.lsvd_files.specs.Directory.{Names, leads}
use Rattle.lsvd_files.specs.Calls.{with_name, without_name}
use Rattle.lsvd_files.specs.Memory.{LeadInside}
use Rattle.lsvd_files.proofs.Kept.{inside_renamed, inside-without_name, inside-with_name, leads_inside}
use Rattle.lsvd_files.proofs.memory.MemDirectory.rename_here.Goals as goal

pub invariant_of-self-2 : goal.invariant_of-self-2
invariant_of-self-2 c =
    let self = c.self.inside in
    let count = length self.files.items in
    let found : leads self.names c.args.from.now ≡ Some c.in-Some.file = search rules in
    let others = without_name c.args.from.now self.names in
    let is : c.replace.new.names ≡ with_name c.args.to.now c.in-Some.file others = search rules in
    let inside = c.self.invariant.0 in
    inside_renamed count self.names c.replace.new.names self.before.items c.replace.new.before.items c.in_ok-replace.ensures.ok.1
    c.self.invariant (subst (λ (them : Names). LeadInside count them) (sym is) (inside-with_name c.args.to.now c.in-Some.file
    others count (leads_inside self.names count c.args.from.now c.in-Some.file inside found)
    (inside-without_name c.args.from.now self.names count inside)))
