use Rattle.std.proofs.Common.{arith, ◌≡◌, [], refl, sym, ◌∙◌, ap, subst}
use Rattle.std.specs.Prelude.{Result, IfOk, IsOkUnless}
use Rattle.gc_copier.specs.Plan.{sectors_of}
use Rattle.gc_copier.specs.Copying.{CopiedState}
use Rattle.lsvd_objstore.specs.Store.{StoreState}
use Rattle.vol_core.specs.declared.event.Event.TheVariants as asks
use Rattle.vol_core.specs.Volume.{SteppedVolume}
use Rattle.volume_owner.specs.declared.collecting.Turn.{Turn}
use Rattle.volume_owner.specs.declared.error.OwnerError.{OwnerError}
use Rattle.volume_owner.specs.declared.error.OwnerError.TheVariants as errors
use Rattle.volume_owner.specs.Acts.{moment_of}
use Rattle.volume_owner.specs.Tally.{IsTally}
use Rattle.volume_owner.specs.Collecting.{copied_in}
use Rattle.volume_owner.specs.Replies.{turn_in}
use Rattle.volume_owner.proofs.ActLemmas.{step_act, made_then}
use Rattle.volume_owner.proofs.StepLemmas.{makes_then}
use Rattle.volume_owner.proofs.CollectLemmas.{copy_makes, copy_faults, seals, tried_leaves, turn_lacks, given_up, seal_tally}
use Rattle.volume_owner.proofs.CollectLemmas.{TriesSeal}
use Rattle.volume_owner.proofs.collecting.seal_copied.Goals as goal

pub give_up-requires : goal.give_up-requires
give_up-requires g c =
    let state = g.R.Receipt.state in
    let of = c.step.ensures in
    record {
      steps = omega (arith, c.requires.steps, of.count);
      idle =
          tried_leaves state c.args.copied c.step.result c.args.volume.now c.step.new.self of c.requires.planned c.requires.idle;
    }

pub returns : goal.returns
returns g c =
    let state = g.R.Receipt.state in
    let copied : CopiedState = c.args.copied in
    let reply = c.step.result in
    let old : SteppedVolume = c.args.volume.now in
    let mid : SteppedVolume = c.step.new.self in
    let last : SteppedVolume = c.give_up.new.volume in
    let of = c.step.ensures in
    let gave = c.give_up.ensures in
    let is : turn_in (sectors_of copied.rows) reply ≡ c.turn_of-turn.result =
    ap (λ n. turn_in n reply) (sym c.sectors-sectors.ensures.sectors)
    ∙ sym {b = turn_in c.sectors-sectors.result reply} c.turn_of-turn.ensures in
    record {
      acts = λ store.
          made_then state [] [] (moment_of old store) (moment_of mid store) (moment_of last store)
          (step_act state (asks.SealCopy copied) reply [] old mid store of tt refl) (gave.acts store);
      steps = makes_then 1 1 [] old mid last (copy_makes state copied reply old mid of) gave.steps;
      tally = subst (λ (r : Result Turn OwnerError). IfOk r (λ t. (store : StoreState)
          → IsTally state (copied_in t) 0 (moment_of old store) (moment_of last store))) is
          (seal_tally state copied reply old mid of last gave.tally);
      none = gave.none;
      ends = λ plain shows.
          given_up c.turn_of-turn.result plain mid.volume last.volume
          (subst (λ (r : Result Turn OwnerError). TriesSeal r plain mid.volume) is
          (seals state copied reply old mid of c.requires.planned plain shows))
          gave.gives_up;
      error = subst (λ (r : Result Turn OwnerError). IsOkUnless r errors.OutOfMemory) is
          (turn_lacks (sectors_of copied.rows) reply);
      faults = gave.faults ∙ copy_faults state copied reply old mid of;
      idle = gave.idle;
    }
