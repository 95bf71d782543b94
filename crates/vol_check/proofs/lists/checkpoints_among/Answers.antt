use Rattle.std.proofs.Common.{ℕ, ◌+◌, ◌<◌, ◌≤◌, Bool, List, [], ◌∷◌, ◌++◌, length, take, get_or, refl, sym, ◌∙◌, subst, arith}
use Rattle.std.specs.Prelude.{IfSome}
use Rattle.std.proofs.lemmas.Bool.{both_ways}
use Rattle.lsvd_objstore.specs.Objects.{Objects}
use Rattle.lsvd_objstore.specs.Store.{StoreState}
use Rattle.super_recovery.proofs.Results.{same_store, told_so, told_both}
use Rattle.vol_check.specs.Report.{HasCheckpointHeader}
use Rattle.vol_check.specs.Steps.{IsFilterOf}
use Rattle.vol_check.proofs.FilterLemmas.{begun, pass, more, all}
use Rattle.vol_check.proofs.HeaderLemmas.{SaysHeader}
use Rattle.vol_check.proofs.HeldLemmas.{told_all}
use Rattle.vol_check.proofs.lists.checkpoints_among.Goals as goal

pub loop-number-init : goal.loop-number-init
loop-number-init g c =
    let numbers : List ℕ = c.args.numbers.now in
    let told = (g.S.Store.state c.args.store.now).objects in
    let Such : Objects → ℕ → Type 0 = λ objects number.
    (number ≤ c.args.last) × HasCheckpointHeader c.args.volume.now objects number in
    record {
      same = refl;
      among = λ tells.
          subst (λ (list : List ℕ). IfSome told (λ objects. IsFilterOf (take 0 numbers) (Such objects) list))
          (sym c.new-list.ensures.items)
          (told_all (λ objects. IsFilterOf (take 0 numbers) (Such objects) []) told
          (λ objects. begun numbers c.requires (Such objects)));
    }

pub loop-number-preserved : goal.loop-number-preserved
loop-number-preserved g c =
    let numbers : List ℕ = c.args.numbers.now in
    let volume = c.args.volume.now in
    let index : ℕ = c.loop-number.number-index in
    let next : ℕ = get_or numbers index 0 in
    let inside : index < length numbers = c.loop-number-test.true in
    let list : List ℕ = c.loop-number.list.items in
    let told = (g.S.Store.state c.args.store.now).objects in
    let Such : Objects → ℕ → Type 0 = λ objects number. (number ≤ c.args.last) × HasCheckpointHeader volume objects number in
    let before = c.loop-number.invariant in
    let Before : Objects → Type 0 = λ objects. IsFilterOf (take index numbers) (Such objects) list in
    let After : List ℕ → Objects → Type 0 = λ l objects. IsFilterOf (take (index + 1) numbers) (Such objects) l in
    elim c.if-number-last.branch [
      | goal.then-number-last+in_ok-has_checkpoint_header+then-branch+in_ok-put_last w ↦
          let done = w.in_ok-has_checkpoint_header.ensures in
          let has : Bool = w.in_ok-has_checkpoint_header.field-0 in
          let after = same_store (g.S.Store.state c.loop-number.store) (g.S.Store.state w.has_checkpoint_header.new.store)
          done.unchanged done.faults in
          rw (w.store-is, w.list-is, w.in_ok-put_last.ensures) (record {
            same = after ∙ before.same;
            among = λ tells.
                told_both Before (SaysHeader has volume next) (After (list ++ next ∷ [])) told
                (λ objects is here. more numbers c.requires (Such objects) index inside list is
                (w.if-number-last.true, here.0 w.if-branch.true)) (before.among tells)
                (subst (λ (s : StoreState). IfSome s.objects (SaysHeader has volume next)) before.same (done.told tells));
          })
      | goal.else-number-last w ↦
          elim w.else-number-last.branch [
            | goal.else-number-last-via-then-number-last+in_ok-has_checkpoint_header+else-branch w' ↦
                let done = w'.in_ok-has_checkpoint_header.ensures in
                let has : Bool = w'.in_ok-has_checkpoint_header.field-0 in
                let after = same_store (g.S.Store.state c.loop-number.store) (g.S.Store.state w'.has_checkpoint_header.new.store)
                done.unchanged done.faults in
                rw (w.store-is, w'.store-is, w.list-is) (record {
                  same = after ∙ before.same;
                  among = λ tells.
                      told_both Before (SaysHeader has volume next) (After list) told
                      (λ objects is here. pass numbers c.requires (Such objects) index inside list is
                      (λ such. both_ways has w'.if-branch.false (here.1 such.1))) (before.among tells)
                      (subst (λ (s : StoreState). IfSome s.objects (SaysHeader has volume next)) before.same (done.told tells));
                })
            | goal.else-number-last-via-else-number-last w' ↦
                rw (w.store-is, w'.store-is, w.list-is) (record {
                  same = before.same;
                  among = λ tells.
                      told_so Before (After list) told
                      (λ objects is. pass numbers c.requires (Such objects) index inside list is
                      (λ such. omega (arith, such.0, w'.if-number-last.false))) (before.among tells);
                })
          ]
    ]

pub returns-clause-told : goal.returns-clause-told
returns-clause-told g c = λ tells.
    let numbers : List ℕ = c.args.numbers.now in
    let told = (g.S.Store.state c.args.store.now).objects in
    let index : ℕ = c.loop-number.number-index in
    let list : List ℕ = c.loop-number.list.items in
    let Such : Objects → ℕ → Type 0 = λ objects number.
    (number ≤ c.args.last) × HasCheckpointHeader c.args.volume.now objects number in
    told_so (λ objects. IsFilterOf (take index numbers) (Such objects) list)
    (λ objects. IsFilterOf numbers (Such objects) list) told
    (λ objects. all numbers c.requires (Such objects) index list (omega arith)) (c.loop-number.invariant.among tells)
