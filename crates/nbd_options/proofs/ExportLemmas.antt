-- The length of the text of a uuid.
use Rattle.std.proofs.Common.{◌≡◌, length}
use Rattle.uuid.proofs.TextLemmas.{by_index_length}
use Rattle.nbd_options.specs.declared.export.Export.{Export}
use Rattle.nbd_options.specs.Export.{uuid_text}

pub length-uuid_text : (export : Export) → length (uuid_text export) ≡ 36
length-uuid_text export = by_index_length 36 _
