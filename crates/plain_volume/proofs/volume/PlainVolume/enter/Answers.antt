use Rattle.std.proofs.Common.{◌≡◌, ◌+◌, ◌∷◌, [], ◌++◌, List, length, None, sym, ap, ◌∙◌, arith, length-append, rules}
use Rattle.lsvd_base.specs.declared.entry.Entry.{Entry}
use Rattle.plain_disk.specs.declared.event.PlainReply.TheVariants.{Entered}
use Rattle.plain_disk.specs.State.{PlainState, history_length}
use Rattle.plain_disk.specs.Entries.{enter_reply, after_entering}
use Rattle.plain_disk.specs.Entries.{batch_refusal_of}
use Rattle.plain_volume.specs.contracts.volume.PlainVolume.{the_view}
use Rattle.plain_volume.proofs.Entering.{IsWritten, written_is, enter_refused, enter_taken, refused_leaves, taken_leaves}
use Rattle.plain_volume.proofs.Volumes.{taken_in_range, entered_fields}
use Rattle.plain_volume.proofs.volume.PlainVolume.enter.Goals as goal

pub returns-in-Some-refusal-clause-reply : goal.returns-in-Some-refusal-clause-reply
returns-in-Some-refusal-clause-reply c =
    let state : PlainState = the_view c.self.inside in
    let none : batch_refusal_of c.self.inside.geometry c.unsealed.result.now c.args.entry ≡ None = search rules in
    let is : IsWritten state c.args.entry c.in_ok-refusal.refusal c.write_record.new.cache =
    written_is state c.args.self.now c.args.entry c.unsealed.result.now c.in_ok-cache.cache c.write_record.new.cache
    c.frontier_end-end.result
    c.in_ok-refusal.refusal c.self.view_is c.unsealed.ensures none c.in_ok-cache.ensures c.frontier_end-end.ensures.end
    c.in_ok-refusal.ensures.refusal c.in_ok-refusal.ensures.cache in
    enter_refused state c.args.entry c.in-Some-refusal.reply is.none (sym is.refused ∙ c.in-Some-refusal.is)
    ∙ ap (λ (s : PlainState). enter_reply s c.args.entry) c.self.view_is

pub returns-in-Some-refusal-clause-volume : goal.returns-in-Some-refusal-clause-volume
returns-in-Some-refusal-clause-volume c =
    let state : PlainState = the_view c.self.inside in
    let none : batch_refusal_of c.self.inside.geometry c.unsealed.result.now c.args.entry ≡ None = search rules in
    let is : IsWritten state c.args.entry c.in_ok-refusal.refusal c.write_record.new.cache =
    written_is state c.args.self.now c.args.entry c.unsealed.result.now c.in_ok-cache.cache c.write_record.new.cache
    c.frontier_end-end.result
    c.in_ok-refusal.refusal c.self.view_is c.unsealed.ensures none c.in_ok-cache.ensures c.frontier_end-end.ensures.end
    c.in_ok-refusal.ensures.refusal c.in_ok-refusal.ensures.cache in
    refused_leaves state c.args.entry c.in-Some-refusal.reply c.write_record.new.cache c.reserve.new.self.items is.none
    (sym is.refused ∙ c.in-Some-refusal.is) is.written c.reserve.ensures.items
    ∙ ap (λ (s : PlainState). after_entering c.args.entry s) c.self.view_is

pub invariant_of-self-2 : goal.invariant_of-self-2
invariant_of-self-2 c =
    let none : batch_refusal_of c.self.inside.geometry c.unsealed.result.now c.args.entry ≡ None = search rules in
    let longer : c.push_reserved.new.self.items ≡ c.self.inside.stream.entries.items ++ c.args.entry ∷ [] =
    c.push_reserved.ensures.items ∙ ap (λ (xs : List Entry). xs ++ c.args.entry ∷ []) c.reserve.ensures.items in
    let is = c.self.invariant in
    record {
      limits = is.limits;
      in_range = entered_fields c.self.inside.geometry c.self.inside.stream.entries.items c.push_reserved.new.self.items
          c.args.entry is.in_range
          (taken_in_range c.self.inside.geometry c.unsealed.result.now c.args.entry none) longer;
      number = is.number;
      end = is.end;
      ends = is.ends;
      last = is.last;
      newest = is.newest;
      numbers = is.numbers;
    }

pub returns-clause-reply : goal.returns-clause-reply
returns-clause-reply c =
    let state : PlainState = the_view c.self.inside in
    let none : batch_refusal_of c.self.inside.geometry c.unsealed.result.now c.args.entry ≡ None = search rules in
    let is : IsWritten state c.args.entry c.in_ok-refusal.refusal c.write_record.new.cache =
    written_is state c.args.self.now c.args.entry c.unsealed.result.now c.in_ok-cache.cache c.write_record.new.cache
    c.frontier_end-end.result
    c.in_ok-refusal.refusal c.self.view_is c.unsealed.ensures none c.in_ok-cache.ensures c.frontier_end-end.ensures.end
    c.in_ok-refusal.ensures.refusal c.in_ok-refusal.ensures.cache in
    let taken : c.in_ok-refusal.refusal ≡ None = search rules in
    let longer : c.push_reserved.new.self.items ≡ c.self.inside.stream.entries.items ++ c.args.entry ∷ [] =
    c.push_reserved.ensures.items ∙ ap (λ (xs : List Entry). xs ++ c.args.entry ∷ []) c.reserve.ensures.items in
    let counted : c.history_length.result ≡ c.self.inside.stream.end + length c.push_reserved.new.self.items =
    c.history_length.ensures in
    let count : c.history_length.result ≡ history_length state + 1 =
    omega (arith, counted, ap length longer, length-append c.self.inside.stream.entries.items (c.args.entry ∷ [])) in
    ap Entered count
    ∙ enter_taken state c.args.entry is.none (sym is.refused ∙ taken)
    ∙ ap (λ (s : PlainState). enter_reply s c.args.entry) c.self.view_is

pub returns-clause-volume : goal.returns-clause-volume
returns-clause-volume c =
    let state : PlainState = the_view c.self.inside in
    let none : batch_refusal_of c.self.inside.geometry c.unsealed.result.now c.args.entry ≡ None = search rules in
    let is : IsWritten state c.args.entry c.in_ok-refusal.refusal c.write_record.new.cache =
    written_is state c.args.self.now c.args.entry c.unsealed.result.now c.in_ok-cache.cache c.write_record.new.cache
    c.frontier_end-end.result
    c.in_ok-refusal.refusal c.self.view_is c.unsealed.ensures none c.in_ok-cache.ensures c.frontier_end-end.ensures.end
    c.in_ok-refusal.ensures.refusal c.in_ok-refusal.ensures.cache in
    let taken : c.in_ok-refusal.refusal ≡ None = search rules in
    let longer : c.push_reserved.new.self.items ≡ c.self.inside.stream.entries.items ++ c.args.entry ∷ [] =
    c.push_reserved.ensures.items ∙ ap (λ (xs : List Entry). xs ++ c.args.entry ∷ []) c.reserve.ensures.items in
    taken_leaves state c.args.entry c.write_record.new.cache c.push_reserved.new.self.items is.none (sym is.refused ∙ taken)
    is.written longer
    ∙ ap (λ (s : PlainState). after_entering c.args.entry s) c.self.view_is
