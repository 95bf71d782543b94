-- The payload of an object before a checkpoint, by its header.
use Rattle.std.proofs.Common.{◌≡◌, ℕ, ◌<◌, ◌≤◌, inl, inr, Option, Some, None, List, refl, sym, ◌∙◌, ap, arith}
use Rattle.std.specs.Prelude.{IfSome, ◌⊎◌}
use Rattle.object_format.specs.declared.expected.Expected.{Expected}
use Rattle.object_format.specs.declared.header.Header.{Header}
use Rattle.object_format.specs.declared.kind.Kind.TheVariants as kinds
use Rattle.object_format.specs.Layout.{front_sectors}
use Rattle.object_format.specs.Header.{IsObjectHeader}
use Rattle.object_format.proofs.ObjectLemmas.{same_header}
use Rattle.stopped_volume.specs.Expected.{expected_alone}
use Rattle.object_recovery.specs.Read.{AreFirstOf, IsReadHeader}
use Rattle.object_recovery.specs.Earlier.{EarlierObject}
use Rattle.object_recovery.specs.Beginning.{HasPartsAsked, LacksReach}
use Rattle.object_recovery.proofs.ReadLemmas.{header_of_all}

module _ (volume : Expected) (object : EarlierObject) (bytes : List ℕ) (header : Header)
    (is : IsReadHeader object.receipt (expected_alone volume object.number) bytes header) where
  -- a header that was read is that of the object
  told_header : (told : Option (List ℕ)) → AreFirstOf told bytes
      → IfSome told (λ all. IsObjectHeader all object.receipt.size (expected_alone volume object.number) header)
  told_header None first = tt
  told_header (Some all) first =
      header_of_all all bytes first object.receipt.size (expected_alone volume object.number) header is.header_is

  pub has_parts : (front : ℕ) → (header.kind ≡ kinds.Checkpoint → ⊥) → object.reach ≤ header.payload
      → front_sectors header ≡ front → HasPartsAsked volume object header.payload front
  has_parts front other long front_is = record {
    reach = long;
    header = λ some. record {
      header = header;
      no_checkpoint = other;
      payload_is = refl;
      front_is = front_is;
      size = is.header_is.has_size;
      told = told_header object.receipt.told is.first;
    };
  }

  lacks_told : (told : Option (List ℕ)) → AreFirstOf told bytes
      → (header.kind ≡ kinds.Checkpoint) ⊎ (header.payload < object.reach)
      → IfSome told (λ all. (another : Header)
      → IsObjectHeader all object.receipt.size (expected_alone volume object.number) another
      → (another.kind ≡ kinds.Checkpoint → ⊥) → object.reach ≤ another.payload → ⊥)
  lacks_told None first why = tt
  lacks_told (Some all) first why = λ another head other long.
      let same = same_header all object.receipt.size (expected_alone volume object.number) header another
      (told_header (Some all) first) head in
      elim why [
        | inl checkpoint ↦ other (sym (ap (λ (h : Header). h.kind) same) ∙ checkpoint)
        | inr short ↦ omega (arith, short, long, ap (λ (h : Header). h.payload) same)
      ]

  pub lacks_reach : (object.reach ≡ 0 → ⊥) → (header.kind ≡ kinds.Checkpoint) ⊎ (header.payload < object.reach)
      → LacksReach volume object
  lacks_reach some why = (some, lacks_told object.receipt.told is.first why)
