-- What entries that leave a sector somewhere do to it, and which of them wrote it last.
use Rattle.std.proofs.Common.{◌≡◌, ℕ, suc, ◌+◌, ◌-◌, ◌/◌, ◌<◌, ◌≤◌, cond, Bool, true, false, Option, Some, None, List, [], ◌∷◌}
use Rattle.std.proofs.Common.{length, refl, ◌∙◌, ap}
use Rattle.std.proofs.Common.{arith}
use Rattle.std.specs.List.{slice_get, list_any}
use Rattle.std.specs.Option.{option_or}
use Rattle.std.proofs.lemmas.Bool.{or_left, or_right, or_from}
use Rattle.std.proofs.lemmas.Bool.Decides.{nat_tests}
use Rattle.lsvd_base.specs.declared.entry.Entry.{Entry}
use Rattle.lsvd_base.specs.declared.entry.Entry.TheVariants.{Write, Zero}
use Rattle.extent_map.specs.Extents.{is_within}
use Rattle.object_stream.specs.declared.change.Change.TheVariants.{Put, Clear}
use Rattle.object_stream.specs.Changes.{sector_of, entry_change, change_at}
use Rattle.volume_maps.specs.declared.place.LogPlace.{LogPlace}
use Rattle.volume_maps.specs.declared.place.LogPlace.TheVariants.{Data, Zeros}
use Rattle.volume_maps.specs.Places.{place_left_by, left_at}
use Rattle.plain_disk.specs.Writers.{covers_sector, writer_after, writer_after_all}

-- one of the entries covers the sector
abbrev pub is_covered : List Entry → ℕ → Bool
is_covered entries k = list_any (λ entry. covers_sector entry k) entries

-- The last of the entries that covers the sector is a write, and it is the one of this seq, where the first has the seq `first`.
-- It leaves the sector among its data.
pub record LeavesData (data_at : ℕ → ℕ) (first : ℕ) (entries : List Entry) (k seq at : ℕ) : Type 0 where
  pub lba : ℕ
  pub body : List ℕ
  pub from : first ≤ seq
  pub there : slice_get entries (seq - first) ≡ Some (Write lba body)
  pub begins : lba ≤ k
  pub ends : k < lba + length body / 512
  pub place : at ≡ data_at seq + (k - lba)
  pub change : change_at entries k ≡ Some (Put (sector_of (k - lba) body))
  pub writer : (index : ℕ) (before : Option ℕ) → writer_after_all index entries k before ≡ Some (index + (seq - first))
  pub covered : is_covered entries k ≡ true

-- the last of the entries that covers the sector is a zeroing
pub record LeavesZeros (entries : List Entry) (k : ℕ) : Type 0 where
  pub change : change_at entries k ≡ Some Clear
  pub writer : (index : ℕ) (before : Option ℕ) → writer_after_all index entries k before ≡ None
  pub covered : is_covered entries k ≡ true

-- none of the entries covers the sector
pub record LeavesAlone (entries : List Entry) (k : ℕ) : Type 0 where
  pub change : change_at entries k ≡ None
  pub writer : (index : ℕ) (before : Option ℕ) → writer_after_all index entries k before ≡ before
  pub covered : is_covered entries k ≡ false

-- what the entries do that leave a sector at a place
abbrev pub LeavesAt : (data_at : ℕ → ℕ) (first : ℕ) (entries : List Entry) (k : ℕ) → Option LogPlace → Type 0
LeavesAt data_at first entries k None = LeavesAlone entries k
LeavesAt data_at first entries k (Some (Data seq at)) = LeavesData data_at first entries k seq at
LeavesAt data_at first entries k (Some (Zeros seq)) = LeavesZeros entries k

module _ (data_at : ℕ → ℕ) (first k : ℕ) where
  -- an entry before entries that do not cover the sector
  by_write : (test : Bool) (lba : ℕ) (body : List ℕ) (entries : List Entry) → is_within lba (length body / 512) k ≡ test
      → LeavesAlone entries k
      → LeavesAt data_at first (Write lba body ∷ entries) k (cond test (Some (Data first (data_at first + (k - lba)))) None)
  by_write true lba body entries test rest =
      let own : first - first ≡ 0 = omega arith in
      record {
        lba = lba;
        body = body;
        from = omega arith;
        there = rw own refl;
        begins = grind (arith, nat_tests);
        ends = grind (arith, nat_tests);
        place = refl;
        change =
            ap (λ change. option_or change (entry_change (Write lba body) k)) rest.change
            ∙ ap (λ b. cond b (Some (Put (sector_of (k - lba) body))) None) test;
        writer = λ index before.
            rest.writer (index + 1) (writer_after index (Write lba body) k before)
            ∙ (ap (λ b. cond b (Some index) before) test ∙ ap Some (omega arith));
        covered = or_left (covers_sector (Write lba body) k) (is_covered entries k) test;
      }
  by_write false lba body entries test rest = record {
    change =
        ap (λ change. option_or change (entry_change (Write lba body) k)) rest.change
        ∙ ap (λ b. cond b (Some (Put (sector_of (k - lba) body))) None) test;
    writer = λ index before. rest.writer (index + 1) (writer_after index (Write lba body) k before)
        ∙ ap (λ b. cond b (Some index) before) test;
    covered = or_from (covers_sector (Write lba body) k) (is_covered entries k) test rest.covered;
  }

  by_zeroing : (test : Bool) (lba sectors : ℕ) (entries : List Entry) → is_within lba sectors k ≡ test → LeavesAlone entries k
      → LeavesAt data_at first (Zero lba sectors ∷ entries) k (cond test (Some (Zeros first)) None)
  by_zeroing true lba sectors entries test rest = record {
    change = ap (λ change. option_or change (entry_change (Zero lba sectors) k)) rest.change
        ∙ ap (λ b. cond b (Some Clear) None) test;
    writer = λ index before. rest.writer (index + 1) (writer_after index (Zero lba sectors) k before)
        ∙ ap (λ b. cond b None before) test;
    covered = or_left (covers_sector (Zero lba sectors) k) (is_covered entries k) test;
  }
  by_zeroing false lba sectors entries test rest = record {
    change = ap (λ change. option_or change (entry_change (Zero lba sectors) k)) rest.change
        ∙ ap (λ b. cond b (Some Clear) None) test;
    writer = λ index before. rest.writer (index + 1) (writer_after index (Zero lba sectors) k before)
        ∙ ap (λ b. cond b None before) test;
    covered = or_from (covers_sector (Zero lba sectors) k) (is_covered entries k) test rest.covered;
  }

  by_first : (entry : Entry) (entries : List Entry) → LeavesAlone entries k
      → LeavesAt data_at first (entry ∷ entries) k (place_left_by first (data_at first) entry k)
  by_first (Write lba body) entries rest = by_write (is_within lba (length body / 512) k) lba body entries refl rest
  by_first (Zero lba sectors) entries rest = by_zeroing (is_within lba sectors k) lba sectors entries refl rest

  -- an entry before entries that leave the sector somewhere, or do not
  by_later : (entry : Entry) (entries : List Entry) (rest : Option LogPlace) → LeavesAt data_at (first + 1) entries k rest
      → LeavesAt data_at first (entry ∷ entries) k (option_or rest (place_left_by first (data_at first) entry k))
  by_later entry entries None rest = by_first entry entries rest
  by_later entry entries (Some (Zeros seq)) rest = record {
    change = ap (λ change. option_or change (entry_change entry k)) rest.change;
    writer = λ index before. rest.writer (index + 1) (writer_after index entry k before);
    covered = or_right (covers_sector entry k) (is_covered entries k) rest.covered;
  }
  by_later entry entries (Some (Data seq at)) rest =
      let past : seq - first ≡ suc (seq - (first + 1)) = omega (arith, rest.from) in
      let counts = λ (index : ℕ). let count : index + 1 + (seq - (first + 1)) ≡ index + (seq - first) =
      omega (arith, past) in count in
      record {
        lba = rest.lba;
        body = rest.body;
        from = omega (arith, rest.from);
        there = rw past rest.there;
        begins = rest.begins;
        ends = rest.ends;
        place = rest.place;
        change = ap (λ change. option_or change (entry_change entry k)) rest.change;
        writer = λ index before. rest.writer (index + 1) (writer_after index entry k before) ∙ ap Some (counts index);
        covered = or_right (covers_sector entry k) (is_covered entries k) rest.covered;
      }

pub entries_leave : (data_at : ℕ → ℕ) (first : ℕ) (entries : List Entry) (k : ℕ)
    → LeavesAt data_at first entries k (left_at data_at first entries k)
entries_leave data_at first [] k = record { change = refl; writer = λ index before. refl; covered = refl }
entries_leave data_at first (entry ∷ entries) k =
    by_later data_at first k entry entries (left_at data_at (first + 1) entries k) (entries_leave data_at (first + 1) entries k)
