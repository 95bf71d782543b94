use Rattle.std.proofs.Common.{◌≡◌, ℕ, List, Ok, sym, ◌∙◌, subst}
use Rattle.std.specs.Prelude.{◌↔◌, IfSome}
use Rattle.std.specs.BTreeSet.{BTreeSet, IsFromIterResult}
use Rattle.std.specs.List.{AllPairs, Contains}
use Rattle.std.specs.Ordering.{nat_cmp}
use Rattle.std.specs.declared.alloc.AllocError.{AllocError}
use Rattle.std.proofs.lemmas.Cmp.{nat_cmp_total}
use Rattle.std.proofs.lemmas.Iterator.{YieldsList-from_slice}
use Rattle.std.proofs.lemmas.Iterator.Adapters.{fact_from_collect}
use Rattle.std.proofs.lemmas.Iterator.Consumers.{YieldsList-from_copied}
use Rattle.std.proofs.lemmas.Map.Lookups.{exact_unsigned}
use Rattle.std.proofs.lemmas.Map.Views.{btree_set_contains_from_list}
use Rattle.std.proofs.lemmas.Result.{IfOk-weaker}
use Rattle.lsvd_objstore.specs.Objects.{Objects}
use Rattle.super_recovery.proofs.Results.{told_so}
use Rattle.vol_check.specs.declared.report.ObjectOfLevel.{ObjectOfLevel}
use Rattle.vol_check.specs.Report.{ComesBefore}
use Rattle.vol_check.specs.Steps.{Has, IsAway, IsNoneOf, IsNotIn, IsPartOf}
use Rattle.vol_check.proofs.PartLemmas.{away_as, part_as}
use Rattle.vol_check.proofs.SetLemmas.{ascending_of, has_iff}
use Rattle.vol_check.proofs.lists.missing_of.Goals as goal

-- a number is none of a list's where it is not in the set of it
gone_as : (numbers : List ℕ) (there : BTreeSet ℕ) → IsFromIterResult nat_cmp numbers there → (n : ℕ)
    → IsNotIn there n ↔ IsNoneOf numbers n
gone_as numbers there from n =
    let same = btree_set_contains_from_list nat_cmp_total exact_unsigned numbers there from n in (
      λ gone has. gone (same.1 has),
      λ gone is. gone (same.0 is),
    )

pub absent_among-requires : goal.absent_among-requires
absent_among-requires g c =
    let named = c.args.named.now in
    let same : c.as_slice.result.now ≡ named.keys = c.as_slice.ensures.value ∙ c.in_ok-objects.ensures.objects in
    subst (λ (list : List ObjectOfLevel). AllPairs ComesBefore list) (sym same)
    (ascending_of named.keys c.listed.ensures.ascending)

pub returns-clause-told : goal.returns-clause-told
returns-clause-told g c =
    let told = (g.S.Store.state c.args.store.now).objects in
    let numbers : List ℕ = c.args.numbers.now in
    let named = c.args.named.now in
    let chain = c.args.chain.now in
    let there : BTreeSet ℕ = c.in_ok-there.there in
    let items : List ObjectOfLevel = c.as_slice.result.now in
    let from = fact_from_collect {E = AllocError} (IsFromIterResult nat_cmp) (Ok there) c.in_ok-there.ensures.ran
    (YieldsList-from_copied (YieldsList-from_slice numbers cc)) in
    let same : items ≡ named.keys = c.as_slice.ensures.value ∙ c.in_ok-objects.ensures.objects in
    let Part : List ObjectOfLevel → Objects → Type 0 = λ list objects.
    IsPartOf (Contains items) (IsAway (IsNotIn there) objects chain) list in
    let Missing : List ObjectOfLevel → Objects → Type 0 = λ list objects.
    IsPartOf (Has named) (IsAway (IsNoneOf numbers) objects chain) list in
    IfOk-weaker c.absent_among.result (λ list. IfSome told (Part list.items)) (λ list. IfSome told (Missing list.items))
    (λ list. told_so (Part list.items) (Missing list.items) told
    (λ objects. part_as (Contains items) (Has named) (IsAway (IsNotIn there) objects chain)
    (IsAway (IsNoneOf numbers) objects chain) list.items
    (λ n. let iff = has_iff named n in (
      λ has. iff.1 (subst (λ (l : List ObjectOfLevel). Contains l n) same has),
      λ has. subst (λ (l : List ObjectOfLevel). Contains l n) (sym same) (iff.0 has),
    ))
    (away_as (IsNotIn there) (IsNoneOf numbers) objects chain (gone_as numbers there from))))
    c.absent_among.ensures.told
