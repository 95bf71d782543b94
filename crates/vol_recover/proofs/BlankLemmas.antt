-- A volume that opens at a checkpoint without owners opens blank.
use Rattle.std.proofs.Common.{◌≡◌, ℕ, zero, suc, Option, Some, None, List, [], sym, ◌∙◌, subst}
use Rattle.std.proofs.lemmas.List.Elements.{All-nil}
use Rattle.std.specs.Prelude.{option_map}
use Rattle.clone_chain.specs.Chain.{IsLevelOf}
use Rattle.lsvd_base.specs.Image.{blank}
use Rattle.lsvd_objstore.specs.Objects.{Objects}
use Rattle.extent_map.specs.Extents.{place_at}
use Rattle.object_format.specs.declared.expected.Expected.{Expected}
use Rattle.ckpt_format.specs.declared.place.StoredPlace.{StoredPlace}
use Rattle.ckpt_format.specs.Places.{stored_on}
use Rattle.object_stream.specs.declared.owner.Owner.{Owner}
use Rattle.object_stream.specs.Stream.{Stream}
use Rattle.object_stream.specs.Value.{StandsForSector}
use Rattle.stopped_volume.specs.Ancestors.{HasAncestor, HasInherited}
use Rattle.stopped_volume.specs.Opening.{stored_owner, IsCheckpointOf, HasOpening}
use Rattle.plain_disk.proofs.OpeningLemmas.{blank_sector}

-- rows that give a sector no owner give it no place
pub no_place : (held : Option StoredPlace) (place : StoredPlace) → option_map stored_owner held ≡ None → held ≡ Some place → ⊥
no_place None place none is = cc
no_place (Some there) place none is = cc

pub opens_blank : (volume : Expected) (uuid_at : ℕ → Option (List ℕ)) (objects : Objects) (stream : Stream) (sectors : ℕ)
    → IsCheckpointOf volume objects stream.number stream.end stream.opening → ((k : ℕ) → stream.opening k ≡ None)
    → HasOpening volume uuid_at objects stream (blank sectors)
opens_blank volume uuid_at objects stream sectors checkpoint none = record {
  is = record {
    checkpoint = checkpoint;
    places = λ k place at.
        absurd (no_place (place_at stored_on checkpoint.rows k) place (sym (checkpoint.says k) ∙ none k) at);
  };
  inherited = λ k place at level.
      absurd (no_place (place_at stored_on checkpoint.rows k) place (sym (checkpoint.says k) ∙ none k) at);
  value = λ k sector at.
      subst (λ (owner : Option Owner). StandsForSector objects uuid_at owner k sector) (sym (none k))
      (blank_sector sectors k sector at);
}

-- a volume without ancestors inherits nothing
pub inherits_nothing : (uuid : List ℕ) (sectors : ℕ) (objects : Objects)
    → HasInherited uuid [] (λ k. None) (λ k. 0) (blank sectors) objects
inherits_nothing uuid sectors objects = record {
  apart = λ level is. no_level uuid level is;
  ancestors = All-nil (HasAncestor objects);
  value = λ k sector at. blank_sector sectors k sector at;
  places = λ k owner is. absurd (cc);
}
  where
    no_level : (uuid : List ℕ) (level : ℕ) → IsLevelOf [] uuid level → ⊥
    no_level uuid zero is = is
    no_level uuid (suc place) is = is
