-- The steps of the plain program: one entry more, and one object more.
use Rattle.std.proofs.Common.{◌≡◌, ℕ, ◌+◌, ◌-◌, ◌*◌, ◌<◌, ◌≤◌, Option, Some, None, List, [], ◌∷◌, length, get_or, take, drop, min}
use Rattle.std.proofs.Common.{refl, sym, ◌∙◌, ap, arith}
use Rattle.std.proofs.lemmas.List.{length-drop, drop-drop, take_more, take_min, drop_min, at_drop_more}
use Rattle.std.specs.Option.{option_or}
use Rattle.std.specs.Prelude.{IsTrue}
use Rattle.lsvd_base.specs.declared.entry.Entry.{Entry}
use Rattle.object_stream.specs.declared.change.Change.{Change}
use Rattle.object_stream.specs.declared.change.Change.TheVariants.{Put, Clear}
use Rattle.object_stream.specs.declared.object.Content.{Content}
use Rattle.object_stream.specs.declared.object.Content.TheVariants.{Data, Copy, Checkpoint}
use Rattle.object_stream.specs.declared.object.StreamObject.{StreamObject}
use Rattle.object_stream.specs.declared.owner.Owner.{Owner}
use Rattle.object_stream.specs.Changes.{sector_of, entry_change, change_at}
use Rattle.std.specs.Option.{option_or}
use Rattle.object_stream.specs.Stream.{Owners, owner_by_change, owner_by_copy, source_in, after_object, after_objects}
use Rattle.object_stream.specs.Landed.{Numbers}
use Rattle.object_stream.proofs.ChangeLemmas.{changes_in_parts}

-- ---- bytes

-- the sector of an index, between two places that are not past the end
pub sector_between : (i start end : ℕ) (bytes : List ℕ) → start ≡ min (512 * i) (length bytes)
    → end ≡ min (start + 512) (length bytes)
    → take (end - start) (drop start bytes) ≡ sector_of i bytes
sector_between i start end bytes first last =
    let rest : drop start bytes ≡ drop (512 * i) bytes = ap (λ n. drop n bytes) first ∙ drop_min (512 * i) bytes in
    let count : end - start ≡ min 512 (length (drop start bytes)) = omega (arith, length-drop start bytes) in
    ap (λ n. take n (drop start bytes)) count ∙ (take_min 512 (drop start bytes) ∙ ap (take 512) rest)

-- ---- entries

-- what the entries up to one more do: what that one does or, where it does nothing, what those before it do
pub change_more : (entries : List Entry) (i : ℕ) (entry : Entry) (k : ℕ) → i < length entries → entry ≡ get_or entries i entry
    → change_at (take (i + 1) entries) k ≡ option_or (entry_change entry k) (change_at (take i entries) k)
change_more entries i entry k inside is =
    ap (λ part. change_at part k) (take_more entries i entry inside)
    ∙ changes_in_parts (take i entries) (get_or entries i entry ∷ []) k
    ∙ ap (λ e. option_or (entry_change e k) (change_at (take i entries) k)) (sym is)

pub or_is : (change before : Option Change) → option_or change before ≡ option_or change before
or_is None before = refl
or_is (Some change) before = refl

-- the owner after a change that comes after another
pub owner_by_later : (number : ℕ) (later earlier : Option Change) (before : Option Owner)
    → owner_by_change number (option_or later earlier) before ≡ owner_by_change number later
    (owner_by_change number earlier before)
owner_by_later number None earlier before = refl
owner_by_later number (Some (Put sector)) earlier before = refl
owner_by_later number (Some Clear) earlier before = refl

-- ---- objects

-- the owner of a sector after an object depends on the owner of that sector alone
pub after_one : (number : ℕ) (content : Content) (entries : List Entry) (f g : Owners) (k : ℕ) → f k ≡ g k
    → after_object number content entries f k ≡ after_object number content entries g k
after_one number Data entries f g k same = ap (owner_by_change number (change_at entries k)) same
after_one number (Copy pairs) entries f g k same = ap (owner_by_copy number (source_in pairs k)) same
after_one number Checkpoint entries f g k same = same

-- and so after objects
pub after_some : (number end : ℕ) (entries : List Entry) (f g : Owners) (list : List StreamObject) (k : ℕ) → f k ≡ g k
    → after_objects number end entries f list k ≡ after_objects number end entries g list k
after_some number end entries f g [] k same = same
after_some number end entries f g (object ∷ list) k same =
    let part = take (object.end - end) entries in
    after_some (number + 1) object.end (drop (object.end - end) entries)
    (after_object (number + 1) object.content part f) (after_object (number + 1) object.content part g) list k
    (after_one (number + 1) object.content part f g k same)

-- the parts of the entries from one place on, up to another that is at most the last
up_to : (count start n : ℕ) (entries : List Entry) → count ≡ min n (length entries - start)
    → take (start + count - start) (drop start entries) ≡ take n (drop start entries)
up_to count start n entries is =
    let same : start + count - start ≡ min n (length (drop start entries)) = omega (arith, length-drop start entries) in
    ap (λ m. take m (drop start entries)) same ∙ take_min n (drop start entries)

beyond : (count start n : ℕ) (entries : List Entry) → count ≡ min n (length entries - start)
    → drop (start + count) entries ≡ drop n (drop start entries)
beyond count start n entries is =
    let same : count ≡ min n (length (drop start entries)) = omega (arith, length-drop start entries) in
    sym (drop-drop count start entries) ∙ (ap (λ m. drop m (drop start entries)) same ∙ drop_min n (drop start entries))

-- the owner of a sector after one object more, and then after the rest, is the one after all of them
pub owner_more : (number end start count i k : ℕ) (entries : List Entry) (before owner : Option Owner) (list : List StreamObject)
    (object : StreamObject)
    → i < length list → object ≡ get_or list i object → count ≡ min (object.end - end) (length entries - start)
    → owner ≡ after_object (number + 1) object.content (take (start + count - start) (drop start entries)) (λ j. before) k
    → after_objects (number + 1) object.end (drop (start + count) entries) (λ j. owner) (drop (i + 1) list) k
    ≡ after_objects number end (drop start entries) (λ j. before) (drop i list) k
owner_more number end start count i k entries before owner list object inside is counted owned =
    let rest = drop start entries in
    let more = drop (i + 1) list in
    let first : Owners = after_object (number + 1) object.content (take (object.end - end) rest) (λ j. before) in
    let same : owner ≡ first k =
    owned ∙ ap (λ part. after_object (number + 1) object.content part (λ j. before) k)
    (up_to count start (object.end - end) entries counted) in
    let all = λ (objects : List StreamObject). after_objects number end rest (λ j. before) objects k in
    ap (λ part. after_objects (number + 1) object.end part (λ j. owner) more k)
    (beyond count start (object.end - end) entries counted)
    ∙ (after_some (number + 1) object.end (drop (object.end - end) rest) (λ j. owner) first more k same
    ∙ sym (at_drop_more all list i object inside ∙ ap (λ o. all (o ∷ more)) (sym is)))

-- ---- what has landed

-- the greatest number below this one of a checkpoint that has landed
abbrev pub IsNewestBelow : (checkpoint landed : Numbers) → ℕ → Option ℕ → Type 0
IsNewestBelow checkpoint landed below None = (k : ℕ) → k < below → IsTrue (checkpoint k) → IsTrue (landed k) → ⊥
IsNewestBelow checkpoint landed below (Some newest) =
    (newest < below) × IsTrue (checkpoint newest) × IsTrue (landed newest)
    × ((k : ℕ) → k < below → IsTrue (checkpoint k) → IsTrue (landed k) → k ≤ newest)
