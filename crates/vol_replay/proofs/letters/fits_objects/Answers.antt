use Rattle.std.proofs.Common.{rules, tests}
use Rattle.std.specs.List.{list_all}
use Rattle.std.proofs.lemmas.Iterator.{YieldsList-from_slice}
use Rattle.std.proofs.lemmas.Iterator.Search.{all_from_yields_List}
use Rattle.transcript.specs.Letters.{is_dash, is_object_letter}
use Rattle.vol_replay.proofs.Fates.{fits_by_letters}
use Rattle.vol_replay.proofs.letters.fits_objects.Goals as goal

pub returns-then-word-count : goal.returns-then-word-count
returns-then-word-count c =
    let all = all_from_yields_List is_object_letter _ _ c.all.result c.all.ensures.ran (YieldsList-from_slice c.args.word.now cc)
    (λ x b q k. search (rules, tests)) in
    fits_by_letters (is_dash c.args.word.now) (list_all is_object_letter c.args.word.now) c.all.result c.args.word.now
    c.args.count (search rules)
    c.if-word-count.true all
