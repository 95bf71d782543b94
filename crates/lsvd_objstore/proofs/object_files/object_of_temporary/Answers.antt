use Rattle.lsvd_names.specs.declared.name.ObjName.{ObjName}
use Rattle.lsvd_objstore.specs.Directory.{IsTemporaryOf}
use Rattle.lsvd_objstore.proofs.Temporary.{begins_with_name, all_but_last, if_so}
use Rattle.lsvd_objstore.proofs.object_files.object_of_temporary.Goals as goal

pub returns : goal.returns
returns c =
    let fits = all_but_last _ _ _ c.in_ok-checked_sub.was c.checked_sub.ensures in
    let is : IsTemporaryOf c.in_ok-name.name c.args.file.now =
    begins_with_name _ _ _ _ fits c.in_ok-spelled.ensures.front c.in_ok-name.ensures.found in
    rw c.then_some.ensures (if_so c.is_ending.result c.in_ok-name.name (λ (name : ObjName). IsTemporaryOf name c.args.file.now)
    is)
