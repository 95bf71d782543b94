-- How a file gets its name.
use Rattle.std.proofs.Common.{◌≡◌, ◌∙◌, sym, ap, subst, refl, ℕ, Bool, true, false, cond, List, [], ◌∷◌, ◌++◌, length, Some}
use Rattle.std.proofs.Common.{None, Ok, Err, inl, inr}
use Rattle.std.specs.Prelude.{◌⊎◌, Option, Result, is_some, slice_get, IfOk, OnOk, OnErr}
use Rattle.std.specs.Result.{result_err}
use Rattle.lsvd_files.specs.Directory.{FileState, DirectoryState, Names, leads, held, new_file, IsUnnamed}
use Rattle.lsvd_files.specs.Stop.{MayLeave}
use Rattle.lsvd_files.specs.Calls.{Changes, IsLeft, ByPath, IsMade, Makes, MayMake, Renames, MayRename, Removes, MayRemove}
use Rattle.lsvd_files.specs.Calls.{with_file, appended, synced_file, after_move, after_rename, after_sync}
use Rattle.lsvd_files.specs.Calls.{after_failed_sync}
use Rattle.lsvd_files.specs.Kept.{KeepsName, HoldsForGood, Stays}
use Rattle.lsvd_files.specs.Written.{written, filled, with_new}
use Rattle.lsvd_files.proofs.Leads.{leads-with_same, leads-with_other}
use Rattle.lsvd_files.proofs.Chained.{changes_then, changes_three, changes_weaker, not_changed}
use Rattle.lsvd_files.proofs.Files.{with_file-with_new, with_file_outside, with_file_not, with_file_alike, with_file-with_file}
use Rattle.lsvd_files.proofs.Files.{nothing_written, written_more, synced-written}
use Rattle.lsvd_files.proofs.Others.{kept_twice, only_same, only_twice, only_new, only_remove, only_move, only_stays}
use Rattle.lsvd_files.proofs.Others.{renamed_others, renamed_held, renamed_left, renamed_for_good}
use Rattle.lsvd_files.proofs.Others.{stays_same, stays_twice, stays_sync, stays_failed_sync, stays_move}
use Rattle.lsvd_names.specs.Spelling.{IsName, spelling}
use Rattle.lsvd_names.specs.declared.name.ObjName.{ObjName}
use Rattle.lsvd_objstore.specs.Directory.{Puts, MayPut, MayPutObject}
use Rattle.lsvd_objstore.specs.Placing.{IsTrusted, Scratches, Writes, Touches, whole_file, MakesAnew, HasMade, Strays, MakesWhole}
use Rattle.lsvd_objstore.specs.Placing.{IsPlaced, Places, MayPlace}

not_both : {test : Bool} → test ≡ true → test ≡ false → ⊥
not_both e f = cc

only_one : {some other : ℕ} → ◌≡◌ {A = Option ℕ} (Some some) (Some other) → some ≡ other
only_one e = cc

-- what is known of failed syncs stays known
pub trusted_after : (has_failed : Bool) (R : DirectoryState → DirectoryState → Type 0)
    → ((a b : DirectoryState) → R a b → b.doubted ≡ a.doubted) → (x y : Option DirectoryState)
    → Changes R x y → IsTrusted has_failed x → IsTrusted has_failed y
trusted_after has_failed R same None y h trusted = subst (λ (it : Option DirectoryState). IsTrusted has_failed it) (sym h) tt
trusted_after has_failed R same (Some a) None h trusted = absurd h
trusted_after has_failed R same (Some a) (Some b) h trusted = λ none. same a b h ∙ trusted none

-- a file that was made under a name, and changed
new_changed : (name : List ℕ) (file : ℕ) (change : FileState → FileState) (a b c : DirectoryState) → IsMade name file a b
    → c ≡ with_file file change b → c ≡ with_new name (change new_file) a
new_changed name file change a b c made changed =
    changed
    ∙ ap (λ (k : ℕ). with_file k change b) made.number
    ∙ ap (λ (it : DirectoryState). with_file (length a.files) change it) made.after
    ∙ with_file-with_new name new_file change a

moved_changed : (file : ℕ) (change : FileState → FileState) (a b c : DirectoryState)
    → (b ≡ after_move a) × (slice_get a.files file ≡ None) → c ≡ with_file file change b → c ≡ after_move a
moved_changed file change a b c moved changed =
    changed
    ∙ ap (λ (it : DirectoryState). with_file file change it) moved.0
    ∙ with_file_outside (after_move a) file change moved.1

new_unnamed : (name : List ℕ) (file : ℕ) (a b : DirectoryState) → IsMade name file a b → IsUnnamed (length a.files) a
new_unnamed name file a b made = subst (λ (k : ℕ). IsUnnamed k a) made.number made.unnamed

elsewhere : (a b : DirectoryState) → b ≡ after_move a → b.stands ≡ false
elsewhere a b e = ap (λ (it : DirectoryState). it.stands) e

-- only the temporary name was touched
module _ (name : List ℕ) where
  scratch_new : (file : FileState) (a b : DirectoryState) → IsUnnamed (length a.files) a → b ≡ with_new name file a
      → Scratches name a b
  scratch_new file a b unnamed e =
      subst (λ (it : DirectoryState). Scratches name a it) (sym e)
      (record { only = only_new name file a unnamed; doubted = refl })

  scratch_same : (a b : DirectoryState) → b ≡ a → Scratches name a b
  scratch_same a b e =
      subst (λ (it : DirectoryState). Scratches name a it) (sym e) (record { only = only_same name a; doubted = refl })

  scratch_move : (a b : DirectoryState) → b ≡ after_move a → Scratches name a b
  scratch_move a b e =
      subst (λ (it : DirectoryState). Scratches name a it) (sym e) (record { only = only_move name a; doubted = refl })

  scratch_twice : (a b c : DirectoryState) → Scratches name a b → Scratches name b c → Scratches name a c
  scratch_twice a b c h k = record { only = only_twice name a b c h.only k.only; doubted = k.doubted ∙ h.doubted }

  scratch_left : (a b : DirectoryState) → IsLeft a b → Scratches name a b
  scratch_left a b (inl e) = scratch_same a b e
  scratch_left a b (inr e) = scratch_move a b e

  strays : (a b c : DirectoryState) → Scratches name a b → c ≡ after_move b → Strays name a c
  strays a b c h moved = (scratch_twice a b c h (scratch_move b c moved), elsewhere b c moved)

  pub makes_not : (a b : DirectoryState) → MayMake name a b → Scratches name a b
  makes_not a b (inl left) = scratch_left a b left
  makes_not a b (inr made) = scratch_new new_file a b made.unnamed made.after

  pub makes_at_once : (file : ℕ) (a b : DirectoryState) → Makes name file a b → MakesAnew name file a b
  makes_at_once file a b made = (a, scratch_same a a refl, made)

  -- a file that was found there was removed, and another made
  pub makes_again : (file : ℕ) (a b c d : DirectoryState) → MayMake name a b → Scratches name b c → Makes name file c d
      → MakesAnew name file a d
  makes_again file a b c d found cleaned made = (c, scratch_twice a b c (makes_not a b found) cleaned, made)

  pub makes_not_again : (a b c d : DirectoryState) → MayMake name a b → Scratches name b c → MayMake name c d
      → Scratches name a d
  makes_not_again a b c d found cleaned failed =
      scratch_twice a c d (scratch_twice a b c (makes_not a b found) cleaned) (makes_not c d failed)

  pub makes_whole : (bytes : List ℕ) (file after : ℕ) (a b c : DirectoryState) → after ≡ file → MakesAnew name file a b
      → c ≡ with_file file (filled bytes) b → MakesWhole name bytes after a c
  makes_whole bytes file after a b c same (first, cleaned, inl made) changed = inl (record {
    first = first;
    cleaned = cleaned;
    number = same ∙ made.number;
    unnamed = new_unnamed name file first b made;
    after = new_changed name file (filled bytes) first b c made changed;
  })
  makes_whole bytes file after a b c same (first, cleaned, inr moved) changed =
      inr (strays a first c cleaned (moved_changed file (filled bytes) first b c moved changed))

  pub makes_part : (file : ℕ) (a b c : DirectoryState) → MakesAnew name file a b → Touches file b c → Scratches name a c
  makes_part file a b c (first, cleaned, inl made) touched =
      scratch_twice a first c cleaned (scratch_new (touched.0 new_file) first c (new_unnamed name file first b made)
      (new_changed name file touched.0 first b c made touched.1))
  makes_part file a b c (first, cleaned, inr moved) touched =
      scratch_twice a first c cleaned (scratch_move first c (moved_changed file touched.0 first b c moved touched.1))

  made_scratches : (bytes : List ℕ) (file : ℕ) (a b : DirectoryState) → MakesWhole name bytes file a b → Scratches name a b
  made_scratches bytes file a b (inl made) =
      scratch_twice a made.first b made.cleaned (scratch_new (whole_file bytes) made.first b made.unnamed made.after)
  made_scratches bytes file a b (inr gone) = gone.0

  removed_scratches : (is_removed : Bool) (a b : DirectoryState) → Removes name is_removed a b → Scratches name a b
  removed_scratches true a b removes =
      subst (λ (it : DirectoryState). Scratches name a it) (sym removes.1) (record { only = only_remove name a; doubted = refl })
  removed_scratches false a b removes = scratch_same a b removes.1

  pub removes : (is_removed : Bool) (a b : DirectoryState) → ByPath (Removes name is_removed a b) a b → Scratches name a b
  removes is_removed a b (inl here) = removed_scratches is_removed a b here.1
  removes is_removed a b (inr moved) = scratch_move a b moved

  pub removes_not : (a b : DirectoryState) → MayRemove name a b → Scratches name a b
  removes_not a b (inl left) = scratch_left a b left
  removes_not a b (inr here) = removed_scratches true a b here.1

-- names stay
pub synced_stays : (a b : DirectoryState) → b ≡ after_sync a → Stays a b
synced_stays a b e = subst (λ (it : DirectoryState). Stays a it) (sym e) (stays_sync a)

pub synced_or_not : (a b : DirectoryState) → (b ≡ a) ⊎ (b ≡ after_failed_sync a) → Stays a b
synced_or_not a b (inl e) = subst (λ (it : DirectoryState). Stays a it) (sym e) (stays_same a)
synced_or_not a b (inr e) = subst (λ (it : DirectoryState). Stays a it) (sym e) (stays_failed_sync a)

pub left_stays : (a b : DirectoryState) → IsLeft a b → Stays a b
left_stays a b (inl e) = subst (λ (it : DirectoryState). Stays a it) (sym e) (stays_same a)
left_stays a b (inr e) = subst (λ (it : DirectoryState). Stays a it) (sym e) (stays_move a)

pub left_doubted : (a b : DirectoryState) → IsLeft a b → b.doubted ≡ a.doubted
left_doubted a b (inl e) = ap (λ (it : DirectoryState). it.doubted) e
left_doubted a b (inr e) = ap (λ (it : DirectoryState). it.doubted) e

-- the calls of a put and of a removal after the first
abbrev pub Syncs : DirectoryState → DirectoryState → Type 0
Syncs old new = (old.doubted ≡ false) × (new ≡ after_sync old)

abbrev pub MaySync : DirectoryState → DirectoryState → Type 0
MaySync old new = (new ≡ old) ⊎ (new ≡ after_failed_sync old)

abbrev pub Stands : DirectoryState → DirectoryState → Type 0
Stands old new = (new ≡ old) × (old.stands ≡ true)

module _ (temporary name bytes : List ℕ) (apart : name ≡ temporary → ⊥) where
  -- the file's name is changed
  renames_placed : (file : ℕ) (a b c : DirectoryState) → HasMade temporary bytes file a b → Renames temporary name b c
      → IsPlaced temporary name bytes a c
  renames_placed file a b c made renames =
      let names : b.names ≡ (with_new temporary (whole_file bytes) made.first).names =
      ap (λ (it : DirectoryState). it.names) made.after in
      let at : renames.0 ≡ length made.first.files =
      only_one (sym renames.1 ∙ ap (λ (it : Names). leads it temporary) names
      ∙ leads-with_same temporary (length made.first.files) made.first.names) in
      which at names renames.2 where
        which : renames.0 ≡ length made.first.files → b.names ≡ (with_new temporary (whole_file bytes) made.first).names
            → ((leads b.names name ≡ Some renames.0) × (c ≡ b)) ⊎ (c ≡ after_rename temporary name renames.0 b)
            → IsPlaced temporary name bytes a c
        which at names (inl both) =
            absurd (made.unnamed.0 name (sym (leads-with_other temporary name (length made.first.files) made.first.names apart)
            ∙ sym (ap (λ (it : Names). leads it name) names) ∙ both.0 ∙ ap Some at))
        which at names (inr e) = record {
          first = made.first;
          cleaned = made.cleaned;
          unnamed = made.unnamed;
          after = e ∙ ap (λ (k : ℕ). after_rename temporary name k b) at
              ∙ ap (λ (it : DirectoryState). after_rename temporary name (length made.first.files) it) made.after;
        }

  pub places : (file : ℕ) (a b c : DirectoryState) → MakesWhole temporary bytes file a b → ByPath (Renames temporary name b c) b c
      → Places temporary name bytes a c
  places file a b c (inl made) (inl here) = inl (renames_placed file a b c made here.1)
  places file a b c (inr gone) (inl here) = absurd (not_both here.0 gone.1)
  places file a b c made (inr moved) = inr (strays temporary a b c (made_scratches temporary bytes file a b made) moved)

  pub places_not : (file : ℕ) (a b c : DirectoryState) → MakesWhole temporary bytes file a b → MayRename temporary name b c
      → MayPlace temporary name bytes a c
  places_not file a b c (inl made) (inr here) = inl (renames_placed file a b c made here.1)
  places_not file a b c (inr gone) (inr here) = absurd (not_both here.0 gone.1)
  places_not file a b c made (inl left) =
      inr (scratch_twice temporary a b c (made_scratches temporary bytes file a b made) (scratch_left temporary b c left))

  pub may_place : (a b : DirectoryState) → Places temporary name bytes a b → MayPlace temporary name bytes a b
  may_place a b (inl placed) = inl placed
  may_place a b (inr gone) = inr gone.0

  pub placed_doubted : (a b : DirectoryState) → MayPlace temporary name bytes a b → b.doubted ≡ a.doubted
  placed_doubted a b (inl placed) = ap (λ (it : DirectoryState). it.doubted) placed.after ∙ placed.cleaned.doubted
  placed_doubted a b (inr scratched) = scratched.doubted

  -- the directory once the file has its name
  abbrev placed_state : DirectoryState → DirectoryState
  placed_state a = after_rename temporary name (length a.files) (with_new temporary (whole_file bytes) a)

  -- the names that a put does not speak of
  placed_others : (a b : DirectoryState) → IsPlaced temporary name bytes a b → (other : List ℕ) → (other ≡ temporary → ⊥)
      → (other ≡ name → ⊥) → KeepsName other a b
  placed_others a b placed other not_temporary differ =
      let first = placed.first in
      let made = with_new temporary (whole_file bytes) first in
      subst (λ (it : DirectoryState). KeepsName other a it) (sym placed.after)
      (kept_twice other a first (placed_state first) (placed.cleaned.only.others other not_temporary)
      (kept_twice other first made (placed_state first)
      ((only_new temporary (whole_file bytes) first placed.unnamed).others other not_temporary)
      (renamed_others temporary name other (length first.files) made not_temporary differ)))

  -- after a sync it has its bytes for good
  pub puts : (a b c d : DirectoryState) → Places temporary name bytes a b → Stands b c → Syncs c d
      → Puts temporary name bytes a d
  puts a b c d (inl placed) stands synced =
      let first = placed.first in
      let state : c ≡ placed_state first = stands.0 ∙ placed.after in
      let trusted : first.doubted ≡ false = sym (ap (λ (it : DirectoryState). it.doubted) state) ∙ synced.0 in
      let after : d ≡ after_sync (placed_state first) = synced.1 ∙ ap after_sync state in
      record {
        put = subst (λ (it : DirectoryState). HoldsForGood name bytes it) (sym after)
            (renamed_for_good temporary name (whole_file bytes) first refl trusted);
        others = λ other not_temporary differ. kept_twice other a b d (placed_others a b placed other not_temporary differ)
            (subst (λ (it : DirectoryState). KeepsName other it d) stands.0 ((synced_stays c d synced.1).kept other));
        settled = ap (λ (it : DirectoryState). it.before) after
            ∙ ap (λ (t : Bool). cond t (placed_state first).before []) trusted;
      }
  puts a b c d (inr gone) stands synced = absurd (not_both stands.1 gone.1)

  -- and without one a stop may leave what was there before
  may_be_left : (a : DirectoryState) (placed : DirectoryState) → IsPlaced temporary name bytes a placed
      → (left : Option (List ℕ)) → MayLeave placed name left → MayLeave a name left ⊎ (left ≡ Some bytes)
  may_be_left a b placed left h =
      which (renamed_left temporary name (whole_file bytes) placed.first refl apart placed.unnamed left
      (subst (λ (it : DirectoryState). MayLeave it name left) placed.after h)) where
        which : MayLeave placed.first name left ⊎ (left ≡ Some bytes) → MayLeave a name left ⊎ (left ≡ Some bytes)
        which (inl before) = inl ((placed.cleaned.only.others name apart).left left before)
        which (inr e) = inr e

  pub may_put : (a b c : DirectoryState) → MayPlace temporary name bytes a b → Stays b c → MayPut temporary name bytes a c
  may_put a b c (inl placed) stays =
      let own = stays.kept name in
      inr (record {
        file = whole_file bytes;
        now = own.now ∙ subst (λ (it : DirectoryState). held it name ≡ Some (whole_file bytes)) (sym placed.after)
            (renamed_held temporary name (whole_file bytes) placed.first);
        content = refl;
        synced = refl;
        left = λ left h. may_be_left a b placed left (own.left left h);
        others = λ other not_temporary differ. kept_twice other a b c (placed_others a b placed other not_temporary differ)
            (stays.kept other);
      })
  may_put a b c (inr scratched) stays = inl (only_twice temporary a b c scratched.only (only_stays temporary b c stays))

  -- what is left under the temporary name is removed
  put_cleaned : (a b c : DirectoryState) → MayPut temporary name bytes a b → Scratches temporary b c
      → MayPut temporary name bytes a c
  put_cleaned a b c (inl only) cleaned = inl (only_twice temporary a b c only cleaned.only)
  put_cleaned a b c (inr put) cleaned =
      let own = cleaned.only.others name apart in
      inr (record {
        file = put.file;
        now = own.now ∙ put.now;
        content = put.content;
        synced = put.synced;
        left = λ left h. put.left left (own.left left h);
        others = λ other not_temporary differ. kept_twice other a b c (put.others other not_temporary differ)
            (cleaned.only.others other not_temporary);
      })

  -- the same of a directory that need not tell its state
  module _ (x y z w : Option DirectoryState) where
    pub put_done : Changes (Places temporary name bytes) x y → Changes Stands y z → Changes Syncs z w
        → Changes (Puts temporary name bytes) x w
    put_done = changes_three (Places temporary name bytes) Stands Syncs (Puts temporary name bytes) puts x y z w

    pub not_placed : Changes (MayPlace temporary name bytes) x y → Changes (MayPut temporary name bytes) x y
    not_placed = changes_weaker (MayPlace temporary name bytes) (MayPut temporary name bytes)
        (λ a b h. may_put a b b h (stays_same b)) x y

    pub not_standing : Changes (Places temporary name bytes) x y → Changes IsLeft y z
        → Changes (MayPut temporary name bytes) x z
    not_standing = changes_then (Places temporary name bytes) IsLeft (MayPut temporary name bytes)
        (λ a b c h k. may_put a b c (may_place a b h) (left_stays b c k)) x y z

    pub not_synced : Changes (Places temporary name bytes) x y → Changes Stands y z → Changes MaySync z w
        → Changes (MayPut temporary name bytes) x w
    not_synced = changes_three (Places temporary name bytes) Stands MaySync (MayPut temporary name bytes)
        (λ a b c d h k l. may_put a b d (may_place a b h)
        (stays_twice b c d (left_stays b c (inl k.0)) (synced_or_not c d l))) x y z w

    pub cleaned_put : Changes (MayPut temporary name bytes) x y → Changes (Scratches temporary) y z
        → Changes (MayPut temporary name bytes) x z
    cleaned_put = changes_then (MayPut temporary name bytes) (Scratches temporary) (MayPut temporary name bytes)
        put_cleaned x y z

pub trusted_placed : (has_failed : Bool) (temporary name bytes : List ℕ) → (name ≡ temporary → ⊥) → (x y : Option DirectoryState)
    → Changes (Places temporary name bytes) x y → IsTrusted has_failed x → IsTrusted has_failed y
trusted_placed has_failed temporary name bytes apart =
    trusted_after has_failed (Places temporary name bytes)
    (λ a b h. placed_doubted temporary name bytes apart a b (may_place temporary name bytes apart a b h))

-- before a put has done anything
pub put_not_begun : (name : ObjName) (bytes : List ℕ) → IsName name → (a : DirectoryState) → MayPutObject name bytes a a
put_not_begun name bytes is a = (
  spelling name ++ 0 ∷ [],
  record { is_name = is; rest = 0 ∷ []; spelled = refl; more = λ e. cc },
  inl (only_same (spelling name ++ 0 ∷ []) a),
)

-- what was written so far
pub writes_none : (number : ℕ) (a : DirectoryState) → Writes number [] a a
writes_none number a = (
  true,
  sym (with_file_not a number) ∙ with_file_alike a number (λ file. file) (written true []) nothing_written,
)

at_number : (number other : ℕ) (change : FileState → FileState) (a b : DirectoryState) → other ≡ number
    → b ≡ with_file other change a → b ≡ with_file number change a
at_number number other change a b same e = e ∙ ap (λ (k : ℕ). with_file k change a) same

pub writes_more : (number other : ℕ) (front piece : List ℕ) (a b c : DirectoryState) → other ≡ number
    → Writes number front a b → c ≡ with_file other (appended piece) b → Writes number (front ++ piece) a c
writes_more number other front piece a b c same wrote e = (
  false,
  at_number number other (appended piece) b c same e
      ∙ ap (λ (it : DirectoryState). with_file number (appended piece) it) wrote.1
      ∙ with_file-with_file a number (written wrote.0 front) (appended piece)
      ∙ with_file_alike a number (λ file. appended piece (written wrote.0 front file)) (written false (front ++ piece))
      (written_more wrote.0 front piece),
)

pub touches_more : (number other : ℕ) (front : List ℕ) (change : FileState → FileState) (a b c : DirectoryState)
    → other ≡ number → Writes number front a b → c ≡ with_file other change b → Touches number a c
touches_more number other front change a b c same wrote e = (
  (λ file. change (written wrote.0 front file)),
  at_number number other change b c same e ∙ ap (λ (it : DirectoryState). with_file number change it) wrote.1
      ∙ with_file-with_file a number (written wrote.0 front) change,
)

pub fills : (number other : ℕ) (bytes : List ℕ) (a b c : DirectoryState) → other ≡ number → Writes number bytes a b
    → c ≡ with_file other synced_file b → c ≡ with_file number (filled bytes) a
fills number other bytes a b c same wrote e =
    at_number number other synced_file b c same e
    ∙ ap (λ (it : DirectoryState). with_file number synced_file it) wrote.1
    ∙ with_file-with_file a number (written wrote.0 bytes) synced_file
    ∙ with_file_alike a number (λ file. synced_file (written wrote.0 bytes file)) (filled bytes) (synced-written wrote.0 bytes)

-- what is known where one of two outcomes came
pub trusted_stands : {T E : Type 0} (outcome : Result T E) (has_failed : Bool) (z w : Option DirectoryState)
    → OnOk outcome (Changes Stands z w) → OnErr outcome (Changes IsLeft z w) → IsTrusted has_failed z → IsTrusted has_failed w
trusted_stands (Ok value) has_failed z w ok err trusted =
    trusted_after has_failed Stands (λ a b h. ap (λ (it : DirectoryState). it.doubted) h.0) z w ok trusted
trusted_stands (Err error) has_failed z w ok err trusted = trusted_after has_failed IsLeft left_doubted z w err trusted

pub not_locked : {E : Type 0} (outcome : Result Bool E) (P : Bool → DirectoryState → Type 0) (x y : Option DirectoryState)
    → IfOk outcome (λ is_locked. Changes (λ old new. (new ≡ old) × P is_locked old) x y) → OnErr outcome (y ≡ x) → y ≡ x
not_locked (Ok is_locked) P x y ok err = not_changed (λ old new. (new ≡ old) × P is_locked old) (λ a b h. h.0) x y ok
not_locked (Err error) P x y ok err = err

pub forgotten : {E : Type 0} (outcome : Result Bool E) (name : List ℕ) (x y : Option DirectoryState)
    → IfOk outcome (λ is_removed. Changes (λ old new. ByPath (Removes name is_removed old new) old new) x y)
    → OnErr outcome (Changes (MayRemove name) x y) → Changes (Scratches name) x y
forgotten (Ok is_removed) name x y ok err =
    changes_weaker (λ old new. ByPath (Removes name is_removed old new) old new) (Scratches name) (removes name is_removed) x y ok
forgotten (Err error) name x y ok err = changes_weaker (MayRemove name) (Scratches name) (removes_not name) x y err

-- a sync of a directory of which none has failed
pub syncs : (x y : Option DirectoryState) → IsTrusted false x → Changes (λ old new. new ≡ after_sync old) x y → Changes Syncs x y
syncs None y trusted h = h
syncs (Some a) None trusted h = absurd h
syncs (Some a) (Some b) trusted h = (trusted refl, h)

after_syncs : (x y : Option DirectoryState) → IsTrusted false x → Changes (λ old new. new ≡ after_sync old) x y
    → IsTrusted false y
after_syncs x y trusted h = trusted_after false (λ old new. new ≡ after_sync old)
    (λ a b e. ap (λ (it : DirectoryState). it.doubted) e) x y h trusted

known_failed : (y : Option DirectoryState) → IsTrusted true y
known_failed None = tt
known_failed (Some directory) = λ e. cc

pub trusted_by : {T E : Type 0} (outcome : Result T E) (failed : Option E) (x y : Option DirectoryState)
    → failed ≡ result_err outcome → IsTrusted false x
    → OnOk outcome (Changes (λ old new. new ≡ after_sync old) x y) → IsTrusted (is_some failed) y
trusted_by (Ok value) None x y e trusted ok = after_syncs x y trusted ok
trusted_by (Ok value) (Some error) x y e trusted ok = known_failed y
trusted_by (Err error) None x y e trusted ok = cc
trusted_by (Err error) (Some other) x y e trusted ok = known_failed y
