use Rattle.volume_commands.proofs.Checked.{text_is}
use Rattle.volume_commands.proofs.checking.text_of.Goals as goal

pub returns : goal.returns
returns c =
    text_is c.args.found.now c.new-text.ensures.items c.in_ok-add.ensures
    (rw c.hyphenated.ensures at c.encode_lower.ensures.text) c.in_ok-add-2.ensures
    c.as_slice.ensures.value c.in_ok-add_numbers.ensures c.as_slice-2.ensures.value c.in_ok-add_numbers-2.ensures
    c.in_ok-add-3.ensures c.format.ensures.text c.in_ok-add-4.ensures c.as_slice-3.ensures.value c.in_ok-add_numbers-3.ensures
    c.as_slice-4.ensures.value c.in_ok-add_numbers-4.ensures c.as_slice-5.ensures.value c.in_ok-add_missing.ensures
    c.in_ok-add-5.ensures
