use Rattle.std.proofs.Common.{length, ◌∙◌, sym, subst}
use Rattle.lsvd_files.specs.Directory.{Names}
use Rattle.lsvd_files.specs.Memory.{LeadInside}
use Rattle.lsvd_files.proofs.Kept.{inside_renamed, inside-without_name}
use Rattle.lsvd_files.proofs.memory.MemDirectory.remove_here.Goals as goal

pub invariant_of-self-2 : goal.invariant_of-self-2
invariant_of-self-2 c =
    let self = c.self.inside in
    let count = length self.files.items in
    let is = c.in_ok-replace.ensures.ok.0 ∙ c.in_ok-others.ensures in
    inside_renamed count self.names c.replace.new.names self.before.items c.replace.new.before.items c.in_ok-replace.ensures.ok.1
    c.self.invariant (subst (λ (them : Names). LeadInside count them) (sym is) (inside-without_name c.args.name.now self.names
    count c.self.invariant.0))
