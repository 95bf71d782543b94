use Rattle.std.proofs.Common.{rules, tests}
use Rattle.std.specs.List.{list_all}
use Rattle.std.proofs.lemmas.Iterator.{YieldsList-from_slice}
use Rattle.std.proofs.lemmas.Iterator.Search.{all_from_yields_List}
use Rattle.transcript.specs.Letters.{is_dash, is_letter}
use Rattle.vol_replay.proofs.Fates.{fits_by_letters}
use Rattle.vol_replay.proofs.letters.fits_writes.Goals as goal

pub returns-then-word-pending : goal.returns-then-word-pending
returns-then-word-pending c =
    let all = all_from_yields_List is_letter _ _ c.all.result c.all.ensures.ran (YieldsList-from_slice c.args.word.now cc)
    (λ x b q k. search (rules, tests)) in
    fits_by_letters (is_dash c.args.word.now) (list_all is_letter c.args.word.now) c.all.result c.args.word.now c.args.pending
    (search rules)
    c.if-word-pending.true all
