use Rattle.std.proofs.Common.{◌≡◌, ◌∙◌, sym, map}
use Rattle.std.specs.Prelude.{◌↔◌, Contains}
use Rattle.std.specs.String.{string_bytes}
use Rattle.std.proofs.lemmas.Result.{IfOk-weaker}
use Rattle.lsvd_names.specs.Spelling.{IsName, spelling}
use Rattle.lsvd_names.specs.declared.name.ObjName.{ObjName}
use Rattle.lsvd_objstore.proofs.Naming.{text_at, gathered_more, gathered_pass, gathered_same}
use Rattle.lsvd_objstore.proofs.object_files.names_of.Goals as goal
use Rattle.lsvd_objstore.proofs.object_files.names_of.Goals.{in-Some+in_ok-insert, in_default}

pub loop-file-preserved : goal.loop-file-preserved
loop-file-preserved c =
    let items = c.as_slice-file-items.result.now in
    let text = string_bytes c.file-item.result in
    let at = text_at string_bytes items c.loop-file.file-index c.file-item.result c.loop-file-test.true c.file-item.is in
    elim c.match-name_in.branch [
      | in-Some+in_ok-insert w ↦
          let is = w.in-Some.ensures.found in
          rw (w.names-is, w.in_ok-insert.ensures.keys)
          (gathered_more c.args.uuid text (map string_bytes items) c.loop-file.file-index w.in-Some.name c.loop-file.names.keys
          at.0 at.1 is.0 is.1 (sym c.as_str.ensures.value ∙ is.2) c.loop-file.invariant)
      | in_default w ↦
          rw w.names-is (gathered_pass c.args.uuid text (map string_bytes items) c.loop-file.file-index c.loop-file.names.keys
          at.0 at.1 (λ name is of_volume e. w.in_default.ensures.none name is of_volume (c.as_str.ensures.value ∙ e))
          c.loop-file.invariant)
    ]

pub returns-clause-same : goal.returns-clause-same
returns-clause-same c =
    let keys = c.loop-file.names.keys in
    IfOk-weaker c.listed-listed.result (λ names. names.items ≡ keys)
    (λ names. (name : ObjName) → IsName name → name.uuid ≡ c.args.uuid
    → (Contains names.items name ↔ Contains c.args.files.now (spelling name)))
    (λ names listed. gathered_same c.args.uuid string_bytes c.as_slice-file-items.result.now c.args.files.now
    c.loop-file.file-index keys names.items c.as_slice-file-items.ensures listed c.loop-file-test.false c.loop-file.invariant)
    c.listed-listed.ensures.names
