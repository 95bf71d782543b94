use Rattle.std.proofs.Common.{◌≡◌, rules}
use Rattle.std.specs.Iterator.Adapters.{zip_first, zip_second}
use Rattle.std.specs.Slice.Iter.{iter_rest}
use Rattle.std.proofs.lemmas.Slice.Zip.{zip_turn, zip_end}
use Rattle.replay_rig.proofs.CrashLemmas.{lands_next, lands_all}
use Rattle.replay_rig.proofs.crash.land.Goals as goal

pub loop-put-preserved : goal.loop-put-preserved
loop-put-preserved c =
    let puts = c.args.puts.now in
    let letters = c.args.letters.now in
    let first : iter_rest (zip_first c.into_iter-put-iterator.result) ≡ puts = search rules in
    let second : iter_rest (zip_second c.into_iter-put-iterator.result) ≡ letters = search rules in
    let turn =
    zip_turn puts letters c.loop-put.yielded c.into_iter-put-iterator.result c.loop-put.put-iterator c.next.new.self _
    first second
    c.loop-put.yielded_by _ c.in-Some.is c.next.ensures.steps in
    lands_next puts letters c.loop-put.yielded (c.in-Some.put, c.in-Some.letter) c.in-Some.put.now c.in-Some.letter.now
    c.args.store.now
    c.loop-put.store c.land_as.new.store turn c.loop-put.invariant c.in_ok-land_as.ensures

pub returns : goal.returns
returns c =
    let puts = c.args.puts.now in
    let letters = c.args.letters.now in
    let first : iter_rest (zip_first c.into_iter-put-iterator.result) ≡ puts = search rules in
    let second : iter_rest (zip_second c.into_iter-put-iterator.result) ≡ letters = search rules in
    let ended =
    zip_end puts letters c.loop-put.yielded c.into_iter-put-iterator.result c.loop-put.put-iterator c.next.new.self _ first second
    c.loop-put.yielded_by c.in-None.is c.next.ensures.steps in
    lands_all puts letters _ c.args.store.now c.loop-put.store ended c.loop-put.invariant
