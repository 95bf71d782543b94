-- What the image of a plain volume has of each sector: what the object put that owns it, what it opens with where that is an
-- ancestor's, and zeros where none
-- does.
use Rattle.std.proofs.Common.{◌≡◌, ℕ, zero, suc, ◌+◌, ◌-◌, ◌<◌, ◌≤◌, Bool, true, false, cond, Option, Some, None, List, [], ◌∷◌}
use Rattle.std.proofs.Common.{length, take, drop, refl, sym, ◌∙◌, ap, subst, arith}
use Rattle.std.specs.Prelude.{IfSome}
use Rattle.std.specs.List.{slice_get, All}
use Rattle.std.proofs.lemmas.Bool.Decides.{nat_tests}
use Rattle.std.proofs.lemmas.List.Elements.{All-take, All-drop, All-weaker}
use Rattle.std.proofs.lemmas.Option.{slice_get_within}
use Rattle.std.proofs.Math.Seq.{take-add}
use Rattle.lsvd_base.specs.declared.entry.Entry.{Entry}
use Rattle.lsvd_base.specs.Image.{Image, zero_sector, after}
use Rattle.lsvd_base.specs.Laws.{EndsBy}
use Rattle.lsvd_base.specs.Range.{is_in_range}
use Rattle.lsvd_base.proofs.SectorLemmas.{applies_in_parts}
use Rattle.object_stream.specs.declared.change.Change.{Change}
use Rattle.object_stream.specs.declared.change.Change.TheVariants.{Put, Clear}
use Rattle.object_stream.specs.declared.object.CopiedSector.{CopiedSector}
use Rattle.object_stream.specs.declared.object.Content.{Content}
use Rattle.object_stream.specs.declared.object.Content.TheVariants.{Data, Copy, Checkpoint}
use Rattle.object_stream.specs.declared.object.StreamObject.{StreamObject}
use Rattle.object_stream.specs.declared.owner.Owner.{Owner}
use Rattle.object_stream.specs.Changes.{change_at}
use Rattle.object_stream.specs.Laws.{changed_by}
use Rattle.object_stream.specs.Stream.{Stream, owner_by_change, source_in, owner_by_copy, is_own, after_object, after_objects}
use Rattle.object_stream.specs.Stream.{owners, end_after, end_at, last_number, GoesTo, EndsFollow, entries_in_object}
use Rattle.object_stream.proofs.ChangeLemmas.{changes_make_image}
use Rattle.object_stream.proofs.StreamLemmas.{keeps_owners}
use Rattle.object_stream.proofs.ValueLemmas.{length-after}
use Rattle.plain_disk.specs.State.{PlainState, OpensFirst, stream_in}
use Rattle.plain_disk.specs.Valid.{IsPlainVolume}
use Rattle.plain_disk.proofs.EndLemmas.{ends_grow, ends_from}
use Rattle.plain_disk.proofs.Overlaid.{EndsBy-in_range}
use Rattle.refine_store.specs.Puts.{image_up_to}
use Rattle.refine_store.proofs.ObjectLemmas.{end_up_to}
use Rattle.refine_store.proofs.StoredLemmas.{get_within}

-- ---- lists

one_from : (i : ℕ) (objects : List StreamObject) (object : StreamObject) → slice_get objects i ≡ Some object
    → take 1 (drop i objects) ≡ object ∷ []
one_from i [] object at = absurd (cc)
one_from zero (first ∷ more) object at = let same : first ≡ object = cc in ap (λ (o : StreamObject). o ∷ []) same
one_from (suc i) (first ∷ more) object at = one_from i more object at

abbrev sector_or : List ℕ → Option (List ℕ) → List ℕ
sector_or other None = other
sector_or other (Some sector) = sector

same_sector : (a b : List ℕ) → Some a ≡ Some b → b ≡ a
same_sector a b same = sym (ap (sector_or a) same)

-- an object that is none of data goes nowhere
no_entries : (content : Content) (from to : ℕ) → (content ≡ Data → ⊥) → GoesTo content from to → to - from ≡ 0
no_entries Data from to not_so goes = absurd (not_so refl)
no_entries (Copy pairs) from to not_so goes = omega (arith, goes)
no_entries Checkpoint from to not_so goes = omega (arith, goes)

goes_at : (i end : ℕ) (objects : List StreamObject) (object : StreamObject) → EndsFollow end objects
    → slice_get objects i ≡ Some object
    → GoesTo object.content (end_after end (take i objects)) object.end
goes_at i end [] object follow at = absurd (cc)
goes_at zero end (first ∷ more) object follow at =
    let same : first ≡ object = cc in subst (λ (o : StreamObject). GoesTo o.content end o.end) same follow.0
goes_at (suc i) end (first ∷ more) object follow at = goes_at i first.end more object follow.1 at

own_owner : (owner : Owner) (source : ℕ) → is_own source (Some owner) ≡ true → owner ≡ record { level = 0; number = source }
own_owner owner source own = grind (arith, nat_tests)

-- an owner that is the volume's own object of a number
pub owner_of : (source : ℕ) (owner : Option Owner) → is_own source owner ≡ true
    → owner ≡ Some (record { level = 0; number = source })
owner_of source None own = absurd (cc)
owner_of source (Some owner) own = ap Some (own_owner owner source own)

-- the image after the entries of objects has as many sectors as the volume
pub long_image : (plain : PlainState) → IsPlainVolume plain → (number : ℕ)
    → length (image_up_to plain number) ≡ plain.geometry.sectors
long_image plain valid number =
    let g = plain.geometry in
    let count = end_at (stream_in plain) number - plain.end in
    let first = take count plain.entries in
    let all = All-weaker (λ entry. is_in_range g entry ≡ true) (EndsBy g.sectors) (EndsBy-in_range g) plain.entries
    valid.in_range in
    let inside : All (EndsBy (length plain.opening)) first =
    subst (λ m. All (EndsBy m) first) (sym valid.sectors) (All-take (EndsBy g.sectors) count plain.entries all) in
    length-after plain.opening first inside ∙ valid.sectors

module _ (plain : PlainState) (valid : IsPlainVolume plain) (opens_is : OpensFirst plain) where
  abbrev stream : Stream
  stream = stream_in plain

  -- the image after the entries of the objects up to a number
  abbrev pub image_at : ℕ → Image
  image_at number = image_up_to plain number

  -- ---- what an owner put

  -- An object of this content put a sector that an image has, if the image has it at all. A copy has it from the source that
  -- owned it before, and the image had it then. A checkpoint puts none.
  abbrev pub PutIn : Content → (number k : ℕ) → Image → Type 0
  PutIn Data number k image =
      (sector : List ℕ) × (change_at (entries_in_object stream number) k ≡ Some (Put sector))
      × ((s : List ℕ) → slice_get image k ≡ Some s → s ≡ sector)
  PutIn (Copy pairs) number k image =
      (source : ℕ) × (source_in pairs k ≡ Some source) × (is_own source (owners stream (number - 1) k) ≡ true)
      × ((s : List ℕ) → slice_get image k ≡ Some s → slice_get (image_at (number - 1)) k ≡ Some s)
  PutIn Checkpoint number k image = ⊥

  -- an ancestor's object has there what the volume opens with
  pub record OwnsAt (owner : Owner) (k : ℕ) (image : Image) : Type 0 where
    pub own : owner.level ≡ 0 → (object : StreamObject)
        → slice_get plain.objects (owner.number - (plain.number + 1)) ≡ Some object
        → PutIn object.content owner.number k image
    pub inherited : 1 ≤ owner.level → (s : List ℕ) → slice_get image k ≡ Some s → slice_get plain.opening k ≡ Some s

  abbrev pub OwnsBy : Option Owner → (k : ℕ) → Image → Type 0
  OwnsBy None k image = (s : List ℕ) → slice_get image k ≡ Some s → s ≡ zero_sector
  OwnsBy (Some owner) k image = OwnsAt owner k image

  -- another image that has no other sector there
  put_still : (content : Content) (number k : ℕ) (image other : Image)
      → ((s : List ℕ) → slice_get other k ≡ Some s → slice_get image k ≡ Some s)
      → PutIn content number k image → PutIn content number k other
  put_still Data number k image other same put = (put.0, put.1, λ s at. put.2 s (same s at))
  put_still (Copy pairs) number k image other same put = (put.0, put.1, put.2, λ s at. put.3 s (same s at))
  put_still Checkpoint number k image other same put = put

  owns_still : (owner : Option Owner) (k : ℕ) (image other : Image)
      → ((s : List ℕ) → slice_get other k ≡ Some s → slice_get image k ≡ Some s)
      → OwnsBy owner k image → OwnsBy owner k other
  owns_still None k image other same owns = λ s at. owns s (same s at)
  owns_still (Some owner) k image other same owns = record {
    own = λ level object at. put_still object.content owner.number k image other same (owns.own level object at);
    inherited = λ level s at. owns.inherited level s (same s at);
  }

  -- an owner of the volume's own inherits nothing
  own_by_put : (n k : ℕ) (image : Image)
      → ((object : StreamObject) → slice_get plain.objects (n - (plain.number + 1)) ≡ Some object
      → PutIn object.content n k image)
      → OwnsBy (Some (record { level = 0; number = n })) k image
  own_by_put n k image put = record { own = λ level. put; inherited = λ level. absurd (omega (arith, level)) }

  -- ---- one object more

  module _ (c : ℕ) (object : StreamObject) (at : slice_get plain.objects c ≡ Some object) where
    abbrev n : ℕ
    n = plain.number + c

    abbrev entries : List Entry
    entries = entries_in_object stream (n + 1)

    there : c < length plain.objects
    there = slice_get_within plain.objects c object at

    before : n + 1 - 1 ≡ n
    before = omega arith

    index : n + 1 - (plain.number + 1) ≡ c
    index = omega arith

    end_before : end_at stream n ≡ end_after plain.end (take c plain.objects)
    end_before = let same : n - plain.number ≡ c = omega arith in ap (λ m. end_after plain.end (take m plain.objects)) same

    end_there : end_at stream (n + 1) ≡ object.end
    end_there =
        let same : n + 1 - plain.number ≡ suc c = omega arith in
        ap (λ m. end_after plain.end (take m plain.objects)) same ∙ end_up_to plain.end c plain.objects object at

    entries_are : entries ≡ take (end_at stream (n + 1) - end_at stream n) (drop (end_at stream n - plain.end) plain.entries)
    entries_are =
        ap (λ m. take (end_at stream (n + 1) - end_at stream m) (drop (end_at stream m - plain.end) plain.entries)) before

    next_owners : (k : ℕ) → owners stream (n + 1) k ≡ after_object (n + 1) object.content entries (owners stream n) k
    next_owners k =
        let one : n + 1 - n ≡ 1 = omega arith in
        let place : n - plain.number ≡ c = omega arith in
        let rest = drop (end_at stream n - plain.end) plain.entries in
        let first : take (n + 1 - n) (drop (n - plain.number) plain.objects) ≡ object ∷ [] =
        ap (λ m. take m (drop (n - plain.number) plain.objects)) one
        ∙ ap (λ m. take 1 (drop m plain.objects)) place
        ∙ one_from c plain.objects object at in
        sym ((keeps_owners stream n (n + 1) valid.stream (omega arith) (omega (arith, there)) (omega arith)).0 k)
        ∙ ap (λ (os : List StreamObject). after_objects n (end_at stream n) rest (owners stream n) os k) first
        ∙ ap (λ (es : List Entry). after_object (n + 1) object.content es (owners stream n) k)
        (ap (λ end. take (end - end_at stream n) rest) (sym end_there) ∙ sym entries_are)

    next_image : image_at (n + 1) ≡ after (image_at n) entries
    next_image =
        let from = end_at stream n - plain.end in
        let more = end_at stream (n + 1) - end_at stream n in
        let low = ends_from plain n valid in
        let high = ends_grow stream n (n + 1) valid.stream.ends (omega arith) in
        let sum : end_at stream (n + 1) - plain.end ≡ from + more = omega (arith, low, high) in
        ap (λ m. after plain.opening (take m plain.entries)) sum
        ∙ ap (after plain.opening) (take-add from more plain.entries)
        ∙ applies_in_parts plain.opening (take from plain.entries) (take more (drop from plain.entries))
        ∙ ap (after (image_at n)) (sym entries_are)

    -- the entries lie inside
    all_inside : All (EndsBy plain.geometry.sectors) plain.entries
    all_inside =
        let g = plain.geometry in
        All-weaker (λ entry. is_in_range g entry ≡ true) (EndsBy g.sectors) (EndsBy-in_range g) plain.entries valid.in_range

    sectors_at : length (image_at n) ≡ plain.geometry.sectors
    sectors_at = long_image plain valid n

    inside_image : All (EndsBy (length (image_at n))) entries
    inside_image =
        let P : List Entry → Type 0 = All (EndsBy plain.geometry.sectors) in
        subst (λ m. All (EndsBy m) entries) (sym sectors_at)
        (subst P (sym entries_are)
        (All-take (EndsBy plain.geometry.sectors) (end_at stream (n + 1) - end_at stream n)
        (drop (end_at stream n - plain.end) plain.entries)
        (All-drop (EndsBy plain.geometry.sectors) (end_at stream n - plain.end) plain.entries all_inside)))

    -- what its entries did to a sector
    changed_to : (k : ℕ) (s : List ℕ) → slice_get (after (image_at n) entries) k ≡ Some s
        → changed_by (change_at entries k) (slice_get (image_at n) k) ≡ Some s
    changed_to k s at_k =
        let inside : k < length (image_at n) =
        omega (
          arith,
          length-after (image_at n) entries inside_image,
          slice_get_within (after (image_at n) entries) k s at_k,
        ) in
        sym (changes_make_image (image_at n) entries k inside_image inside) ∙ at_k

    by_change : (k : ℕ) (owner : Option Owner) (change : Option Change) → object.content ≡ Data → change_at entries k ≡ change
        → OwnsBy owner k (image_at n)
        → OwnsBy (owner_by_change (n + 1) change owner) k (after (image_at n) entries)
    by_change k owner None is change owns =
        owns_still owner k (image_at n) (after (image_at n) entries)
        (λ s at_k. ap (λ c. changed_by c (slice_get (image_at n) k)) (sym change) ∙ changed_to k s at_k) owns
    by_change k owner (Some (Put sector)) is change owns =
        own_by_put (n + 1) k (after (image_at n) entries) λ other at_it.
        let same : object ≡ other = let e = ap (slice_get plain.objects) (sym index) ∙ at_it in cc in
        let kind : Data ≡ other.content = sym is ∙ ap (λ (o : StreamObject). o.content) same in
        subst (λ c. PutIn c (n + 1) k (after (image_at n) entries)) kind (
          sector,
          change,
          λ s at_k. same_sector sector s
              (ap (λ c. changed_by c (slice_get (image_at n) k)) (sym change) ∙ changed_to k s at_k),
        )
    by_change k owner (Some Clear) is change owns =
        λ s at_k. same_sector zero_sector s
        (ap (λ c. changed_by c (slice_get (image_at n) k)) (sym change) ∙ changed_to k s at_k)

    none_in : (object.content ≡ Data → ⊥) → after (image_at n) entries ≡ image_at n
    none_in not_so =
        let goes = goes_at c plain.end plain.objects object valid.stream.ends at in
        let none : end_at stream (n + 1) - end_at stream n ≡ 0 =
        omega (
          arith,
          end_there,
          end_before,
          no_entries object.content (end_after plain.end (take c plain.objects)) object.end
              not_so goes,
        ) in
        ap (after (image_at n))
        (entries_are ∙ ap (λ m. take m (drop (end_at stream n - plain.end) plain.entries)) none)

    by_test : (k source : ℕ) (owner : Option Owner) (still : Bool) (pairs : List CopiedSector) → object.content ≡ Copy pairs
        → source_in pairs k ≡ Some source → owners stream n k ≡ owner → is_own source owner ≡ still
        → OwnsBy owner k (image_at n)
        → OwnsBy (cond still (Some (record { level = 0; number = n + 1 })) owner) k (image_at n)
    by_test k source owner true pairs is from at_n still owns =
        own_by_put (n + 1) k (image_at n) λ other at_it.
        let same : object ≡ other = let e = ap (slice_get plain.objects) (sym index) ∙ at_it in cc in
        let kind : Copy pairs ≡ other.content = sym is ∙ ap (λ (o : StreamObject). o.content) same in
        let own : is_own source (owners stream (n + 1 - 1) k) ≡ true =
        ap (λ m. is_own source (owners stream m k)) before ∙ ap (is_own source) at_n ∙ still in
        subst (λ c. PutIn c (n + 1) k (image_at n)) kind
        (source, from, own, λ s at_k. ap (λ m. slice_get (image_at m) k) before ∙ at_k)
    by_test k source owner false pairs is from at_n still owns = owns

    by_copy : (k : ℕ) (owner : Option Owner) (source : Option ℕ) (pairs : List CopiedSector) → object.content ≡ Copy pairs
        → source_in pairs k ≡ source → owners stream n k ≡ owner → OwnsBy owner k (image_at n)
        → OwnsBy (owner_by_copy (n + 1) source owner) k (image_at n)
    by_copy k owner None pairs is from at_n owns = owns
    by_copy k owner (Some source) pairs is from at_n owns =
        by_test k source owner (is_own source owner) pairs is from at_n refl owns

    by_content : (k : ℕ) (content : Content) → object.content ≡ content → OwnsBy (owners stream n k) k (image_at n)
        → OwnsBy (after_object (n + 1) content entries (owners stream n) k) k (after (image_at n) entries)
    by_content k Data is owns = by_change k (owners stream n k) (change_at entries k) is refl owns
    by_content k (Copy pairs) is owns =
        subst (OwnsBy (owner_by_copy (n + 1) (source_in pairs k) (owners stream n k)) k)
        (sym (none_in (λ kind. cc)))
        (by_copy k (owners stream n k) (source_in pairs k) pairs is refl refl owns)
    by_content k Checkpoint is owns = subst (OwnsBy (owners stream n k) k) (sym (none_in (λ kind. cc))) owns

    one_more : (k : ℕ) → OwnsBy (owners stream n k) k (image_at n) → OwnsBy (owners stream (n + 1) k) k (image_at (n + 1))
    one_more k owns =
        subst (λ image. OwnsBy (owners stream (n + 1) k) k image) (sym next_image)
        (subst (λ owner. OwnsBy owner k (after (image_at n) entries)) (sym (next_owners k))
        (by_content k object.content refl owns))

  -- ---- all objects

  -- what the volume opens with is an ancestor's, or zeros
  owns_opening : (k : ℕ) (image : Image) (owner : Option Owner) → stream.opening k ≡ owner
      → IfSome owner (λ (o : Owner). 1 ≤ o.level)
      → ((s : List ℕ) → slice_get image k ≡ Some s → slice_get plain.opening k ≡ Some s)
      → OwnsBy owner k image
  owns_opening k image None is level same = λ s at. opens_is.zeros k s is (same s at)
  owns_opening k image (Some owner) is level same = record {
    own = λ own. absurd (omega (arith, level, own));
    inherited = λ from. same;
  }

  owns_first : (k : ℕ) → OwnsBy (owners stream (plain.number + 0) k) k (image_at (plain.number + 0))
  owns_first k =
      let none : plain.number + 0 - plain.number ≡ 0 = omega arith in
      let owner : owners stream (plain.number + 0) k ≡ stream.opening k =
      ap (λ m. after_objects plain.number plain.end plain.entries stream.opening (take m plain.objects) k) none in
      let nothing : plain.end - plain.end ≡ 0 = omega arith in
      let ends : end_at stream (plain.number + 0) - plain.end ≡ 0 =
      ap (λ m. end_after plain.end (take m plain.objects) - plain.end) none ∙ nothing in
      let image : image_at (plain.number + 0) ≡ plain.opening =
      ap (λ m. after plain.opening (take m plain.entries)) ends in
      subst (λ o. OwnsBy o k (image_at (plain.number + 0))) (sym owner)
      (owns_opening k (image_at (plain.number + 0)) (stream.opening k) refl (opens_is.inherited k)
      (λ s at. ap (λ i. slice_get i k) (sym image) ∙ at))

  owns_up_to : (c k : ℕ) → c ≤ length plain.objects
      → OwnsBy (owners stream (plain.number + c) k) k (image_at (plain.number + c))
  owns_up_to zero k within = owns_first k
  owns_up_to (suc c) k within =
      let object = get_within c plain.objects (omega arith) in
      let sum : plain.number + c + 1 ≡ plain.number + suc c = omega arith in
      subst (λ m. OwnsBy (owners stream m k) k (image_at m)) sum
      (one_more c object.0 object.1 k (owns_up_to c k (omega arith)))

  pub owns_at : (number k : ℕ) → plain.number ≤ number → number ≤ last_number stream
      → OwnsBy (owners stream number k) k (image_at number)
  owns_at number k from most =
      let c = number - plain.number in
      let sum : plain.number + c ≡ number = omega arith in
      subst (λ m. OwnsBy (owners stream m k) k (image_at m)) sum (owns_up_to c k (omega arith))
