-- Contract: the letters of a crash: what becomes of each write that was not synced, and which of the objects under way have
-- landed.
use Rattle.std.specs.Prelude.{ℕ, ◌==◌, nat_le, Bool, false, not, ◌&&◌, ◌||◌, List, [], ◌∷◌, length, map, replicate}
use Rattle.std.specs.Prelude.{if◌then◌else◌, codes}
use Rattle.std.specs.List.{list_all, list_any, filter}
use Rattle.std.specs.Str.{bytes_eq}
use Rattle.lsvd_device.specs.declared.fate.Fate.{Fate}
use Rattle.lsvd_device.specs.declared.fate.Fate.TheVariants.{Kept, Old, Zeros, Torn}
use Rattle.object_stream.specs.Landed.{Numbers}
use Rattle.plain_disk.specs.Cache.{is_kept}
use Rattle.plain_disk.specs.State.{PlainState}
use Rattle.plain_disk.specs.Removals.{has}
use Rattle.upload_window.specs.Window.{WindowState, has_number}

-- the word that keeps all writes, and lands no object
abbrev pub is_dash : List ℕ → Bool
is_dash word = bytes_eq word (codes "-")

-- ---- writes

-- a letter of a write: it is kept, it is lost, zeros stand in its place, or its first half is kept
abbrev pub is_letter : ℕ → Bool
is_letter letter = letter == 107 || letter == 111 || letter == 122 || letter == 116

-- the word keeps all, or has a letter for each of N writes
abbrev pub fits_writes : ℕ → List ℕ → Bool
fits_writes pending word = is_dash word || (length word == pending && list_all is_letter word)

-- the fate of a letter
abbrev pub fate_of : ℕ → Fate
fate_of letter = if letter == 107 then Kept else (if letter == 111 then Old else (if letter == 122 then Zeros else Torn))

-- the fates of N writes
abbrev pub fates_of : ℕ → List ℕ → List Fate
fates_of pending word = if is_dash word then replicate pending Kept else map fate_of word

-- which of N writes are kept
abbrev pub kept_by : ℕ → List ℕ → List Bool
kept_by pending word = map is_kept (fates_of pending word)

-- ---- objects

-- the objects under way, by their numbers: a put of each was ever begun, and it is not acknowledged
abbrev pub under_way : WindowState → List ℕ
under_way window = map (λ object. object.number) (filter (λ object. object.was_started) window.objects)

-- a letter of an object: it has landed, or not
abbrev pub is_object_letter : ℕ → Bool
is_object_letter letter = letter == 121 || letter == 110

-- the word lands none, or has a letter for each of N objects
abbrev pub fits_objects : ℕ → List ℕ → Bool
fits_objects count word = is_dash word || (length word == count && list_all is_object_letter word)

-- an object of some has the letter of one that has landed
abbrev pub has_landed : List ℕ → (letters : List ℕ) → (number : ℕ) → Bool
has_landed [] letters number = false
has_landed (first ∷ rest) [] number = false
has_landed (first ∷ rest) (letter ∷ letters) number = (first == number && letter == 121) || has_landed rest letters number

-- which objects have landed and are there: those that are acknowledged and were not removed, and of those under way the ones with
-- that letter
abbrev pub landed_by : PlainState → List ℕ → Numbers
landed_by plain word number =
    (nat_le number plain.window.last && not (list_any (has_number number) plain.window.objects) && not (has plain.removed number))
    || has_landed (under_way plain.window) word number
