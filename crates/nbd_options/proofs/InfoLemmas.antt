-- The parts of the data of an option that asks for information.
use Rattle.std.proofs.Common.{◌≡◌, ℕ, ◌+◌, ◌-◌, ◌*◌, ◌/◌, ◌<◌, ◌≤◌, List, ◌++◌, length, take, drop, sym, ◌∙◌, ap, append_assoc}
use Rattle.std.proofs.Common.{arith}
use Rattle.std.proofs.lemmas.List.{length-append, length-take-le, length-drop, drop_at, take-append-drop}
use Rattle.std.proofs.lemmas.Nat.{from_be_bytes-to_be_bytes_2, from_be_bytes-to_be_bytes_4}
use Rattle.std.specs.Int.{w16, w32, to_be_bytes, from_be_bytes}
use Rattle.lsvd_bytes.specs.Places.{number_at}
use Rattle.lsvd_bytes.proofs.PlaceLemmas.{width_16, width_32}
use Rattle.nbd_wire.proofs.MessageLemmas.{AreBytes, part_of, front_more, number_16_fits, number_32_fits}
use Rattle.nbd_options.specs.Info.{AsksFor, AsksForNothing, HasType}

-- data with a name of the size that they say, and as many types, ask for information
pub asks_for : (content name types : List ℕ) (size count : ℕ) → AreBytes content → size ≡ number_at w32 0 content
    → count ≡ number_at w16 (4 + size) content → length content ≡ 6 + size + 2 * count
    → name ≡ take size (drop 4 content) → types ≡ drop (6 + size) content → AsksFor content name types
asks_for content name types size count bytes is_size is_count whole is_name is_types =
    let long : length name ≡ size =
    ap length is_name ∙ length-take-le size (drop 4 content) (omega (arith, length-drop 4 content, whole)) in
    let to_size : take 4 content ≡ to_be_bytes w32 (length name) =
    part_of w32 width_32 0 content (omega (arith, whole)) bytes ∙ ap (to_be_bytes w32) (sym is_size ∙ sym long) in
    let to_name = front_more 4 size content _ _ to_size (sym is_name) in
    let counted : take 2 (drop (4 + size) content) ≡ to_be_bytes w16 count =
    part_of w16 width_16 (4 + size) content (omega (arith, whole)) bytes ∙ ap (to_be_bytes w16) (sym is_count) in
    let to_count = front_more (4 + size) 2 content _ _ to_name counted in
    let place : 4 + size + 2 ≡ 6 + size = omega arith in
    record {
      count = count;
      spelled =
          sym (take-append-drop (6 + size) content)
          ∙ ap (λ xs. xs ++ drop (6 + size) content) (ap (λ n. take n content) (sym place) ∙ to_count)
          ∙ ap (λ xs. to_be_bytes w32 (length name) ++ name ++ to_be_bytes w16 count ++ xs) (sym is_types);
      name_fits = omega (arith, long, is_size, number_32_fits 0 content bytes);
      count_fits = omega (arith, is_count, number_16_fits (4 + size) content bytes);
      two_each = omega (arith, ap length is_types, length-drop (6 + size) content, whole);
    }

-- what data that ask for information say of their length
pub record HaveParts (content name : List ℕ) (count : ℕ) : Type 0 where
  pub size : number_at w32 0 content ≡ length name
  pub counted : number_at w16 (4 + length name) content ≡ count
  pub whole : length content ≡ 6 + length name + 2 * count

pub have_parts : (content name types : List ℕ) (asks : AsksFor content name types) → HaveParts content name asks.count
have_parts content name types asks =
    let head = to_be_bytes w32 (length name) in
    let rest = to_be_bytes w16 asks.count ++ types in
    let parts : content ≡ (head ++ name) ++ rest = asks.spelled
    ∙ append_assoc (head ++ name) (to_be_bytes w16 asks.count) types in
    let front : length (head ++ name) ≡ 4 + length name = length-append head name in
    record {
      size = ap (number_at w32 0) asks.spelled ∙ from_be_bytes-to_be_bytes_4 (length name) asks.name_fits;
      counted =
          ap (λ xs. from_be_bytes w16 (take 2 xs)) (ap (drop (4 + length name)) parts
          ∙ drop_at (head ++ name) rest (4 + length name) front)
          ∙ from_be_bytes-to_be_bytes_2 asks.count asks.count_fits;
      whole =
          omega (
            arith,
            ap length parts,
            length-append (head ++ name) rest,
            front,
            length-append (to_be_bytes w16 asks.count)
                types,
            asks.two_each,
          );
    }

-- data that are too short, also for their name, or have another length than they say, ask for nothing
pub too_short : (content : List ℕ) → length content < 6 → AsksForNothing content
too_short content short name types asks =
    let parts = have_parts content name types asks in absurd (omega (arith, short, parts.whole))

pub name_too_long : (content : List ℕ) (size : ℕ) → size ≡ number_at w32 0 content → length content - 6 < size
    → AsksForNothing content
name_too_long content size is_size short name types asks =
    let parts = have_parts content name types asks in absurd (omega (arith, short, is_size, parts.size, parts.whole))

pub another_length : (content : List ℕ) (size count : ℕ) → size ≡ number_at w32 0 content
    → count ≡ number_at w16 (4 + size) content → (length content - 6 - size ≡ 2 * count → ⊥) → AsksForNothing content
another_length content size count is_size is_count other name types asks =
    let parts = have_parts content name types asks in
    let same : size ≡ length name = is_size ∙ parts.size in
    let counted : count ≡ asks.count = is_count ∙ ap (λ n. number_at w16 (4 + n) content) same ∙ parts.counted in
    other (omega (arith, same, counted, parts.whole))

-- none of the first types is this one
abbrev pub HasNone : List ℕ → ℕ → ℕ → Type 0
HasNone types kind count = (i : ℕ) → i < count → number_at w16 (2 * i) types ≡ kind → ⊥

pub none_in_all : (types : List ℕ) (kind count : ℕ) → length types / 2 ≤ count → HasNone types kind count → HasType types kind → ⊥
none_in_all types kind count all none has = none has.0 (omega (arith, all, has.1)) has.2
