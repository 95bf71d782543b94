-- The replay of the objects of a stream by what a store has of them.
use Rattle.std.proofs.Common.{◌≡◌, ℕ, ◌+◌, ◌-◌, ◌*◌, Option, List, [], ◌∷◌, length, take, drop, refl, sym, ◌∙◌, ap, subst}
use mathlib.Core.Path.{fun_ext}
use Rattle.lsvd_base.specs.declared.entry.Entry.{Entry}
use Rattle.lsvd_objstore.specs.Objects.{Objects}
use Rattle.object_format.specs.declared.rows.Rows.{Rows}
use Rattle.object_format.specs.declared.rows.Rows.TheVariants as rows
use Rattle.object_format.specs.Layout.{front_sectors}
use Rattle.object_format.specs.Laws.{AreSameRows}
use Rattle.object_format.proofs.LawLemmas.{has_one_reading}
use Rattle.object_stream.specs.declared.object.Content.{Content}
use Rattle.object_stream.specs.declared.object.Content.TheVariants.{Data, Copy, Checkpoint}
use Rattle.object_stream.specs.declared.object.StreamObject.{StreamObject}
use Rattle.object_stream.specs.Changes.{change_in, change_at}
use Rattle.object_stream.specs.Stream.{Owners, owner_by_change, owner_by_copy, source_in, after_object, after_objects, end_after}
use Rattle.object_stream.specs.Replay.{HasParts, expected_at, source_at, after_rows, Replays}
use Rattle.object_stream.specs.Stored.{HasContent}
use Rattle.object_stream.specs.Laws.{StoredObjectsReplay, StoredObjectsAreReplayed}

-- ---- one object

-- the owners after an object are by its rows what they are by its content
by_rows : (objects : Objects) (uuid_at : ℕ → Option (List ℕ)) (number : ℕ) (content : Content) (entries : List Entry)
    (list other : Rows)
    (payload : List ℕ) (before : Owners) (k : ℕ) → HasContent objects uuid_at before content entries list payload
    → AreSameRows list other
    → after_rows number other payload before k ≡ after_object number content entries before k
by_rows objects uuid_at number Data entries (rows.Data list) (rows.Data other) payload before k has same =
    ap (λ change. owner_by_change number change (before k)) (ap (λ items. change_in items payload k) (sym same) ∙ has k)
by_rows objects uuid_at number Data entries (rows.Data list) (rows.Copy other) payload before k has same = absurd same
by_rows objects uuid_at number Data entries (rows.Data list) rows.Checkpoint payload before k has same = absurd same
by_rows objects uuid_at number Data entries (rows.Copy list) other payload before k has same = absurd has
by_rows objects uuid_at number Data entries rows.Checkpoint other payload before k has same = absurd has
by_rows objects uuid_at number (Copy pairs) entries (rows.Data list) other payload before k has same = absurd has
by_rows objects uuid_at number (Copy pairs) entries (rows.Copy list) (rows.Data other) payload before k has same = absurd same
by_rows objects uuid_at number (Copy pairs) entries (rows.Copy list) (rows.Copy other) payload before k has same =
    ap (λ source. owner_by_copy number source (before k)) (ap (λ items. source_at items k) (sym same) ∙ has.0 k)
by_rows objects uuid_at number (Copy pairs) entries (rows.Copy list) rows.Checkpoint payload before k has same = absurd same
by_rows objects uuid_at number (Copy pairs) entries rows.Checkpoint other payload before k has same = absurd has
by_rows objects uuid_at number Checkpoint entries (rows.Data list) other payload before k has same = absurd has
by_rows objects uuid_at number Checkpoint entries (rows.Copy list) other payload before k has same = absurd has
by_rows objects uuid_at number Checkpoint entries rows.Checkpoint (rows.Data other) payload before k has same = absurd same
by_rows objects uuid_at number Checkpoint entries rows.Checkpoint (rows.Copy other) payload before k has same = absurd same
by_rows objects uuid_at number Checkpoint entries rows.Checkpoint rows.Checkpoint payload before k has same = refl

-- rows are the same as themselves
same_rows : (list : Rows) → AreSameRows list list
same_rows (rows.Data list) = refl
same_rows (rows.Copy list) = refl
same_rows rows.Checkpoint = tt

-- ---- objects one after the other

-- owners that are the same before objects are so after them
same_after_change : (number : ℕ) (content : Content) (entries : List Entry) (f g : Owners) (k : ℕ) → f k ≡ g k
    → after_object number content entries f k ≡ after_object number content entries g k
same_after_change number Data entries f g k same = ap (owner_by_change number (change_at entries k)) same
same_after_change number (Copy pairs) entries f g k same = ap (owner_by_copy number (source_in pairs k)) same
same_after_change number Checkpoint entries f g k same = same

pub same_after : (number end : ℕ) (entries : List Entry) (f g : Owners) (list : List StreamObject)
    → ((k : ℕ) → f k ≡ g k) → (k : ℕ)
    → after_objects number end entries f list k ≡ after_objects number end entries g list k
same_after number end entries f g [] same k = same k
same_after number end entries f g (object ∷ list) same k =
    let part = take (object.end - end) entries in
    same_after (number + 1) object.end (drop (object.end - end) entries)
    (after_object (number + 1) object.content part f) (after_object (number + 1) object.content part g) list
    (λ j. same_after_change (number + 1) object.content part f g j (same j)) k

pub replay_as_stream : StoredObjectsReplay
replay_as_stream objects uuid_at volume number end last_end entries before after_them [] wide stored replay = (replay.1, replay.0)
replay_as_stream objects uuid_at volume number end last_end entries before after_them (object ∷ list) wide stored replay =
    let is = stored.0 in
    let bytes = replay.0 in
    let header = replay.1 in
    let list_rows = replay.2 in
    let payload = replay.3 in
    let parts = replay.5 in
    let expected = expected_at volume (number + 1) end in
    let part = take (object.end - end) entries in
    let later = drop (object.end - end) entries in
    let first = after_object (number + 1) object.content part before in
    let by = after_rows (number + 1) list_rows payload before in
    let same_bytes : is.bytes ≡ bytes = cc in
    let P : List ℕ → Type 0 = λ b. HasParts expected b is.header is.rows_of is.payload in
    let same_parts : HasParts expected bytes is.header is.rows_of is.payload = subst P same_bytes is.parts in
    let one = has_one_reading bytes (length bytes) expected expected is.header header is.rows_of list_rows wide wide
    same_parts.is_object parts.is_object in
    let same_payload : is.payload ≡ payload =
    same_parts.payload_is ∙ ap (λ h. drop (512 * front_sectors h) bytes) one.0 ∙ sym parts.payload_is in
    let Q : List ℕ → Type 0 = λ p. HasContent objects uuid_at before object.content part is.rows_of p in
    let content : HasContent objects uuid_at before object.content part is.rows_of payload = subst Q same_payload is.content in
    let one_step = λ (k : ℕ). by_rows objects uuid_at (number + 1) object.content part is.rows_of list_rows payload before k
    content one.1 in
    let same_end : header.end_seq ≡ object.end = sym (ap (λ h. h.end_seq) one.0) ∙ is.ends in
    let S : ℕ → Owners → Type 0 = λ e owners. Replays objects volume (number + 1) e owners (length list) last_end after_them in
    replay_as_stream objects uuid_at volume (number + 1) object.end last_end later first after_them list wide stored.1
    (subst (S object.end) (fun_ext one_step) (subst (λ e. S e by) same_end replay.6))

pub stored_are_replayed : StoredObjectsAreReplayed
stored_are_replayed objects uuid_at volume number end entries before after_them [] stored same = (refl, same)
stored_are_replayed objects uuid_at volume number end entries before after_them (object ∷ list) stored same =
    let is = stored.0 in
    let part = take (object.end - end) entries in
    let later = drop (object.end - end) entries in
    let first = after_object (number + 1) object.content part before in
    let by = after_rows (number + 1) is.rows_of is.payload before in
    let one_step = λ (k : ℕ). by_rows objects uuid_at (number + 1) object.content part is.rows_of is.rows_of is.payload before k
    is.content (same_rows is.rows_of) in
    let S : ℕ → Owners → Type 0 =
    λ e owners. Replays objects volume (number + 1) e owners (length list) (end_after object.end list) after_them in
    let rest = stored_are_replayed objects uuid_at volume (number + 1) object.end later first after_them list stored.1 same in (
      is.bytes,
      is.header,
      is.rows_of,
      is.payload,
      is.present,
      is.parts,
      subst (λ e. S e by) (sym is.ends) (subst (S object.end) (sym (fun_ext one_step)) rest),
    )
