-- The tests of a super object, one by one and together.
use Rattle.std.proofs.Common.{◌≡◌, ℕ, zero, suc, ◌+◌, ◌-◌, ◌*◌, ◌^◌, ◌<◌, true, false, IsTrue, Option, Some, None, List, length}
use Rattle.std.proofs.Common.{take, drop, refl, sym, ◌∙◌, ap, subst, inl, inr, arith}
use Rattle.std.proofs.lemmas.Bool.{cases_lt, false≢true}
use Rattle.std.proofs.lemmas.List.{take_rest}
use Rattle.std.specs.Option.{IfSome, IfNone, is_some}
use Rattle.std.specs.Int.{w32}
use Rattle.lsvd_bytes.specs.Places.{bytes_at, number_at}
use Rattle.lsvd_bytes.proofs.PlaceLemmas.{IsBytes}
use Rattle.lsvd_base.specs.declared.geometry.Geometry.{Geometry}
use Rattle.clone_chain.specs.declared.ancestor.Ancestor.{Ancestor}
use Rattle.clone_chain.specs.Chain.{IsLevelOf, IsNoAncestor, IsChain}
use Rattle.super_format.specs.declared.super_object.Super.{Super}
use Rattle.super_format.specs.declared.reason.SuperReason.{SuperReason}
use Rattle.super_format.specs.declared.reason.SuperReason.TheVariants as reasons
use Rattle.super_format.specs.Ancestors.{chain_in}
use Rattle.super_format.specs.Super.{super_in, geometry_with, keeps_limits, HasNoVolumeTwice, IsSuper}
use Rattle.super_format.specs.Tests.{code_of, PassesSuperTest, PassesTestsBefore, IsSuperRefusedAs}
use Rattle.super_format.proofs.HeadLemmas.{super_of, few_ancestors, sizes_fit, length-super_bytes, magic_again, version_again}
use Rattle.super_format.proofs.HeadLemmas.{uuid_again, count_again, super_again, bytes_again, widths_again}

-- ---- a super object passes each test

-- it is what is read in its bytes
pub super_in-IsSuper : (bytes uuid : List ℕ) (volume : Super) → IsSuper bytes uuid volume → super_in bytes ≡ volume
super_in-IsSuper bytes uuid volume is = ap super_in is.spelled
    ∙ super_again volume is.widths (sizes_fit volume is.may_stand.limits)

pub super_passes : (bytes uuid : List ℕ) (volume : Super) → IsSuper bytes uuid volume → (reason : SuperReason)
    → PassesSuperTest bytes uuid reason
super_passes bytes uuid volume is reasons.Length =
    let counted = ap (number_at w32 44) is.spelled ∙ count_again volume is.widths.uuid (sizes_fit volume is.may_stand.limits) in
    ap length is.spelled ∙ length-super_bytes volume is.widths ∙ ap (λ n. 48 + 24 * n) (sym counted)
super_passes bytes uuid volume is reasons.Magic = ap (take 8) is.spelled ∙ magic_again volume
super_passes bytes uuid volume is reasons.Version = ap (number_at w32 8) is.spelled ∙ version_again volume
super_passes bytes uuid volume is reasons.Uuid = ap (bytes_at 12 16) is.spelled ∙ uuid_again volume is.widths.uuid ∙ is.uuid_is
super_passes bytes uuid volume is reasons.Limits =
    let P : Super → Type 0 = λ v. IsTrue (keeps_limits v) in
    subst P (sym (super_in-IsSuper bytes uuid volume is)) is.may_stand.limits
super_passes bytes uuid volume is reasons.Ancestors =
    subst HasNoVolumeTwice (sym (super_in-IsSuper bytes uuid volume is)) is.may_stand.once

-- ---- bytes that pass each test are a super object

pub super_if_passes : (bytes uuid : List ℕ) → IsBytes bytes → PassesTestsBefore bytes uuid reasons.Ancestors
    → HasNoVolumeTwice (super_in bytes) → IsSuper bytes uuid (super_in bytes)
super_if_passes bytes uuid fits passes once =
    let size = passes reasons.Length (omega arith) in
    record {
      spelled = bytes_again bytes size fits (passes reasons.Magic (omega arith)) (passes reasons.Version (omega arith));
      uuid_is = passes reasons.Uuid (omega arith);
      may_stand = record { limits = passes reasons.Limits (omega arith); once = once };
      widths = widths_again bytes size fits;
    }

-- ---- the first test that fails

pub refused_as : (bytes uuid : List ℕ) (reason : SuperReason) → PassesTestsBefore bytes uuid reason
    → (PassesSuperTest bytes uuid reason → ⊥) → IsSuperRefusedAs bytes uuid reason
refused_as bytes uuid reason earlier failed = record {
  earlier = earlier;
  failed = failed;
  none = λ volume is. failed (super_passes bytes uuid volume is reason);
}

-- a reason is told by its number
reason_of : ℕ → SuperReason
reason_of zero = reasons.Length
reason_of (suc zero) = reasons.Length
reason_of (suc (suc zero)) = reasons.Magic
reason_of (suc (suc (suc zero))) = reasons.Version
reason_of (suc (suc (suc (suc zero)))) = reasons.Uuid
reason_of (suc (suc (suc (suc (suc zero))))) = reasons.Limits
reason_of (suc (suc (suc (suc (suc (suc n)))))) = reasons.Ancestors

reason_of-code_of : (reason : SuperReason) → reason_of (code_of reason) ≡ reason
unfolding reason_of
reason_of-code_of reasons.Length = refl
reason_of-code_of reasons.Magic = refl
reason_of-code_of reasons.Version = refl
reason_of-code_of reasons.Uuid = refl
reason_of-code_of reasons.Limits = refl
reason_of-code_of reasons.Ancestors = refl

same_reason : (a b : SuperReason) → code_of a ≡ code_of b → a ≡ b
same_reason a b same = sym (reason_of-code_of a) ∙ ap reason_of same ∙ reason_of-code_of b

code_is_positive : (reason : SuperReason) → 0 < code_of reason
code_is_positive reasons.Length = omega arith
code_is_positive reasons.Magic = omega arith
code_is_positive reasons.Version = omega arith
code_is_positive reasons.Uuid = omega arith
code_is_positive reasons.Limits = omega arith
code_is_positive reasons.Ancestors = omega arith

-- no test comes before the first
pub none_before : (bytes uuid : List ℕ) → PassesTestsBefore bytes uuid reasons.Length
none_before bytes uuid other below = absurd (omega (arith, code_is_positive other, below))

-- a test that is passed is one of those before the next
pub one_more_before : (bytes uuid : List ℕ) (this next : SuperReason) → code_of next ≡ code_of this + 1
    → PassesTestsBefore bytes uuid this
    → PassesSuperTest bytes uuid this → PassesTestsBefore bytes uuid next
one_more_before bytes uuid this next is earlier passes other below =
    elim (cases_lt (code_of other) (code_of this)) [
      | inl h ↦ earlier other h
      | inr h ↦ subst (PassesSuperTest bytes uuid) (same_reason this other (omega (arith, is, below, h))) passes
    ]

pub before_magic : (bytes uuid : List ℕ) → PassesSuperTest bytes uuid reasons.Length → PassesTestsBefore bytes uuid reasons.Magic
before_magic bytes uuid has_length =
    one_more_before bytes uuid reasons.Length reasons.Magic refl (none_before bytes uuid) has_length

pub before_version : (bytes uuid : List ℕ) → PassesSuperTest bytes uuid reasons.Length → PassesSuperTest bytes uuid reasons.Magic
    → PassesTestsBefore bytes uuid reasons.Version
before_version bytes uuid has_length magic =
    one_more_before bytes uuid reasons.Magic reasons.Version refl (before_magic bytes uuid has_length) magic

pub before_uuid : (bytes uuid : List ℕ) → PassesSuperTest bytes uuid reasons.Length → PassesSuperTest bytes uuid reasons.Magic
    → PassesSuperTest bytes uuid reasons.Version → PassesTestsBefore bytes uuid reasons.Uuid
before_uuid bytes uuid has_length magic version =
    one_more_before bytes uuid reasons.Version reasons.Uuid refl (before_version bytes uuid has_length magic) version

pub before_limits : (bytes uuid : List ℕ) → PassesSuperTest bytes uuid reasons.Length → PassesSuperTest bytes uuid reasons.Magic
    → PassesSuperTest bytes uuid reasons.Version → PassesSuperTest bytes uuid reasons.Uuid
    → PassesTestsBefore bytes uuid reasons.Limits
before_limits bytes uuid has_length magic version own =
    one_more_before bytes uuid reasons.Uuid reasons.Limits refl (before_uuid bytes uuid has_length magic version) own

pub before_ancestors : (bytes uuid : List ℕ) → PassesSuperTest bytes uuid reasons.Length
    → PassesSuperTest bytes uuid reasons.Magic
    → PassesSuperTest bytes uuid reasons.Version → PassesSuperTest bytes uuid reasons.Uuid
    → PassesSuperTest bytes uuid reasons.Limits
    → PassesTestsBefore bytes uuid reasons.Ancestors
before_ancestors bytes uuid has_length magic version own limits =
    one_more_before bytes uuid reasons.Limits reasons.Ancestors refl (before_limits bytes uuid has_length magic version own)
    limits

-- ---- the ancestors that were read

chain_is : (bytes : List ℕ) (count : ℕ) (chain : List Ancestor) → count ≡ number_at w32 44 bytes
    → chain ≡ chain_in count (take (length bytes - 48) (drop 48 bytes)) → chain ≡ (super_in bytes).chain
chain_is bytes count chain is_count is =
    is ∙ ap (chain_in count) (take_rest bytes 48) ∙ ap (λ n. chain_in n (drop 48 bytes)) is_count

-- what a read knows of the ancestors, once it has them
pub record HasRead (bytes uuid : List ℕ) (count : ℕ) (chain : List Ancestor) : Type 0 where
  pub passes : PassesTestsBefore bytes uuid reasons.Ancestors
  pub count_is : count ≡ number_at w32 44 bytes
  pub chain_is_in : chain ≡ chain_in count (take (length bytes - 48) (drop 48 bytes))

-- two of them are one volume
pub refused_as_no_chain : (bytes uuid : List ℕ) (count : ℕ) (chain : List Ancestor) → HasRead bytes uuid count chain
    → (IsChain chain → ⊥)
    → IsSuperRefusedAs bytes uuid reasons.Ancestors
refused_as_no_chain bytes uuid count chain has none =
    let is = chain_is bytes count chain has.count_is has.chain_is_in in
    refused_as bytes uuid reasons.Ancestors has.passes (λ once. none (subst IsChain (sym is) (record {
      few = few_ancestors (super_in bytes) (has.passes reasons.Limits (omega arith));
      apart = once.apart;
    })))

-- one of them is the volume itself
pub refused_as_own : (bytes uuid : List ℕ) (count : ℕ) (chain : List Ancestor) (result : Option ℕ)
    → HasRead bytes uuid count chain
    → IfSome result (IsLevelOf chain uuid) → is_some result ≡ true → IsSuperRefusedAs bytes uuid reasons.Ancestors
refused_as_own bytes uuid count chain (Some level) has found is_level =
    let is = chain_is bytes count chain has.count_is has.chain_is_in in
    let P : List Ancestor → Type 0 = λ xs. IsNoAncestor xs uuid in
    refused_as bytes uuid reasons.Ancestors has.passes (λ once.
    subst P (sym is) (subst (IsNoAncestor (super_in bytes).chain) (has.passes reasons.Uuid (omega arith)) once.own) level found)
refused_as_own bytes uuid count chain None has found is_level = absurd (false≢true is_level)

-- else the bytes are the super object
pub super_is_read : (bytes uuid : List ℕ) (count : ℕ) (chain : List Ancestor) (result : Option ℕ) (sizes : Geometry)
    → IsBytes bytes
    → HasRead bytes uuid count chain → IsChain chain → IfNone result (IsNoAncestor chain uuid) → is_some result ≡ false
    → sizes ≡ geometry_with (super_in bytes) (2 ^ 31)
    → IsSuper bytes uuid (super_of uuid sizes.sectors sizes.max_write sizes.batch chain)
super_is_read bytes uuid count chain (Some level) sizes fits has is_chain none no_level is_sizes =
    absurd (false≢true (sym no_level))
super_is_read bytes uuid count chain None sizes fits has is_chain none no_level is_sizes =
    let is = chain_is bytes count chain has.count_is has.chain_is_in in
    let own = has.passes reasons.Uuid (omega arith) in
    let P : List Ancestor → Type 0 = λ xs. IsNoAncestor xs uuid in
    let read = super_if_passes bytes uuid fits has.passes (record {
      apart = (subst IsChain is is_chain).apart;
      own = subst (IsNoAncestor (super_in bytes).chain) (sym own) (subst P is none);
    }) in
    subst (IsSuper bytes uuid) (sym
    (ap (λ x. super_of uuid x.sectors x.max_write x.batch chain) is_sizes
    ∙ ap (λ x. super_of uuid (super_in bytes).sectors (super_in bytes).max_write (super_in bytes).batch x) is
    ∙ ap (λ x. super_of x (super_in bytes).sectors (super_in bytes).max_write (super_in bytes).batch (super_in bytes).chain)
    (sym own))) read
