use Rattle.std.proofs.Common.{length, take, drop, ap, sym, ◌∙◌}
use Rattle.uuid.specs.Text.{hyphenated_text, lower}
use Rattle.nbd_options.proofs.ExportLemmas.{length-uuid_text}
use Rattle.nbd_options.proofs.export.named_export.Goals as goal

pub copy_from_slice-requires : goal.copy_from_slice-requires
copy_from_slice-requires c =
    let text =
    c.as_bytes.ensures.value ∙ c.encode_lower-text.ensures.text ∙ ap (hyphenated_text lower) c.hyphenated.ensures in
    ap (λ bytes. length (take 36 (drop 4 bytes))) c.write_u32.ensures ∙ sym (length-uuid_text c.args.export.now)
    ∙ sym (ap length text)
