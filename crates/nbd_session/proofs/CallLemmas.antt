-- What calls of the block device tell of a request that is carried out.
use Rattle.std.proofs.Common.{◌≡◌, ℕ, zero, suc, ◌*◌, ◌/◌, ◌<◌, ◌≤◌, nat_lt, nat_le, Bool, true, false, ◌&&◌, if◌then◌else◌}
use Rattle.std.proofs.Common.{IsTrue, List, [], ◌∷◌, length, refl, sym, ◌∙◌, ap, subst, inl, inr, arith}
use Rattle.std.proofs.lemmas.Bool.{and_from, lt-ltb, le-leb, ne_eqb}
use Rattle.std.specs.Prelude.{Option, Some, None, IfSome, Result, Ok, Err}
use Rattle.lsvd_base.specs.declared.geometry.Geometry.{Geometry}
use Rattle.lsvd_base.specs.declared.entry.Entry.{Entry}
use Rattle.lsvd_base.specs.declared.entry.Entry.TheVariants as entries
use Rattle.lsvd_base.specs.Limits.{covers, may_transfer}
use Rattle.lsvd_base.specs.Range.{is_in_range}
use Rattle.nbd_session.specs.declared.asking.Asked.{Asked}
use Rattle.nbd_session.specs.declared.asking.Asked.TheVariants.{Flush}
use Rattle.nbd_session.specs.declared.outcome.ReplyError.{ReplyError}
use Rattle.nbd_session.specs.declared.outcome.ReplyError.TheVariants as errors
use Rattle.nbd_session.specs.declared.block_error.BlockError.{BlockError}
use Rattle.nbd_session.specs.declared.block_error.BlockError.TheVariants as block_errors
use Rattle.nbd_session.specs.Exchanges.{Outcome, ReadsSectors, FlushesAll, CarriesOut, write_of, zero_of, as_list, EntersIt}
use Rattle.nbd_session.specs.Exchanges.{EntersEntry, of_block_error}
use Rattle.nbd_session.specs.Steps.{IsContent, WriteFits, FlushesOrNot, done_by}
use Rattle.nbd_session.specs.BlockDevice.{BlockRelations, ReadsNothing, is_io}

-- ---- ranges

pub may_be_transferred : (geometry : Geometry) (lba sectors : ℕ) → 0 < sectors → sectors ≤ geometry.max_write
    → IsTrue (covers geometry lba sectors)
    → may_transfer geometry lba sectors ≡ true
may_be_transferred geometry lba sectors some short covered =
    and_from (nat_lt 0 sectors && nat_le sectors geometry.max_write) (covers geometry lba sectors)
    (and_from (nat_lt 0 sectors) (nat_le sectors geometry.max_write) (lt-ltb 0 sectors some)
    (le-leb sectors geometry.max_write short)) covered

pub may_be_zeroed : (geometry : Geometry) (lba sectors : ℕ) → 0 < sectors → IsTrue (covers geometry lba sectors)
    → is_in_range geometry (entries.Zero lba sectors) ≡ true
may_be_zeroed geometry lba sectors some covered =
    and_from (nat_lt 0 sectors) (covers geometry lba sectors) (lt-ltb 0 sectors some) covered

-- ---- entries

pub write_is : (lba : ℕ) (content : List ℕ) → 0 < length content → write_of lba content ≡ Some (entries.Write lba content)
write_is lba [] some = absurd (omega (arith, some))
write_is lba (byte ∷ rest) some = refl

pub write_is_none : (lba : ℕ) (content : List ℕ) → length content ≡ 0 → write_of lba content ≡ None
write_is_none lba [] none = refl
write_is_none lba (byte ∷ rest) none = absurd (omega (arith, none))

pub zero_is : (lba sectors : ℕ) → (sectors ≡ 0 → ⊥) → zero_of lba sectors ≡ Some (entries.Zero lba sectors)
zero_is lba sectors some = ap (λ (b : Bool). if b then None else Some (entries.Zero lba sectors)) (ne_eqb sectors 0 some)

-- it was not entered
pub not_entered : {M : Type 0} (io : BlockRelations M) (entry : Entry) (durable : Bool) (error : BlockError) (old new : M)
    → io.enters [] (is_io (Err error)) old new → EntersEntry io (Some entry) durable (Err (of_block_error error)) [] old new
not_entered io entry durable block_errors.Io old new call = inl (refl, refl, call)
not_entered io entry durable block_errors.OutOfMemory old new call = (refl, call)

-- it was, or there is none, and it was flushed, if it was to be, or that failed
pub entered_and_flushed : {M : Type 0} (io : BlockRelations M) (entry : Option Entry) (durable : Bool)
    (result : Result (Unit {0}) ReplyError) (old mid new : M)
    → EntersIt io entry old mid → FlushesOrNot io durable result mid new
    → (entered : List Entry) × EntersEntry io entry durable (done_by result) entered old new
entered_and_flushed io entry durable (Ok done) old mid new enters flushes =
    (as_list entry, (refl, refl, mid, enters, flushes))
entered_and_flushed io entry durable (Err (errors.Refused why)) old mid new enters flushes = absurd flushes
entered_and_flushed io entry durable (Err errors.Io) old mid new enters flushes =
    (as_list entry, inr (flushes.0, refl, mid, enters, flushes.1))
entered_and_flushed io entry durable (Err errors.NoMemory) old mid new enters flushes = absurd flushes

-- ---- a write

-- the data that were kept
pub record IsKept (content : List ℕ) (bytes : List ℕ) (sectors : ℕ) : Type 0 where
  pub same : bytes ≡ content
  pub size : 512 * sectors ≡ length bytes

pub is_kept : (content : List ℕ) (body : Option (List ℕ)) (bytes : List ℕ) (sectors : ℕ) → body ≡ Some bytes
    → IsContent content body
    → 512 * sectors ≡ length bytes → IsKept content bytes sectors
is_kept content body bytes sectors some is size = record { same = subst (IsContent content) some is; size = size }

-- there are none
pub nothing_written : {M : Type 0} (io : BlockRelations M) (lba : ℕ) (content bytes : List ℕ) (sectors : ℕ) (moment : M)
    → IsKept content bytes sectors → sectors ≡ 0
    → EntersIt io (write_of lba content) moment moment
nothing_written io lba content bytes sectors moment kept none =
    let empty : length content ≡ 0 = omega (arith, kept.size, ap length kept.same, none) in
    subst (λ (e : Option Entry). EntersIt io e moment moment) (sym (write_is_none lba content empty)) refl

-- they were written
pub written : {M : Type 0} (io : BlockRelations M) (lba : ℕ) (content bytes : List ℕ) (sectors : ℕ) (old new : M)
    → IsKept content bytes sectors
    → (sectors ≡ 0 → ⊥)
    → io.enters (entries.Write lba bytes ∷ []) false old new → EntersIt io (write_of lba content) old new
written io lba content bytes sectors old new kept some call =
    let size = ap length kept.same in
    subst (λ (e : Option Entry). EntersIt io e old new)
    (sym (write_is lba content (some_data (length content) (size_is size))))
    (subst (λ (b : List ℕ). io.enters (entries.Write lba b ∷ []) false old new) kept.same call)
  where
    size_is : length bytes ≡ length content → 512 * sectors ≡ length content
    size_is same = kept.size ∙ same

    some_data : (count : ℕ) → 512 * sectors ≡ count → 0 < count
    some_data zero is = absurd (some (omega (arith, is)))
    some_data (suc count) is = omega arith

-- they were not
pub not_written : {M : Type 0} (io : BlockRelations M) (lba : ℕ) (content bytes : List ℕ) (sectors : ℕ) (durable : Bool)
    (error : BlockError) (old new : M) → IsKept content bytes sectors → (sectors ≡ 0 → ⊥)
    → io.enters [] (is_io (Err error)) old new
    → EntersEntry io (write_of lba content) durable (Err (of_block_error error)) [] old new
not_written io lba content bytes sectors durable error old new kept some call =
    let size : 512 * sectors ≡ length content = kept.size ∙ ap length kept.same in
    subst (λ (e : Option Entry). EntersEntry io e durable (Err (of_block_error error)) [] old new)
    (sym (write_is lba content (some_data (length content) size)))
    (not_entered io (entries.Write lba content) durable error old new call)
  where
    some_data : (count : ℕ) → 512 * sectors ≡ count → 0 < count
    some_data zero is = absurd (some (omega (arith, is)))
    some_data (suc count) is = omega arith

-- data that fit are in range
pub write_is_in_range : (geometry : Geometry) (lba : ℕ) (body : Option (List ℕ)) (bytes : List ℕ) (sectors : ℕ)
    → body ≡ Some bytes → 512 * sectors ≡ length bytes → (sectors ≡ 0 → ⊥) → IfSome body (WriteFits geometry lba)
    → is_in_range geometry (entries.Write lba bytes) ≡ true
write_is_in_range geometry lba body bytes sectors is size some fit =
    let fits : WriteFits geometry lba bytes = subst (λ (b : Option (List ℕ)). IfSome b (WriteFits geometry lba)) is fit in
    may_be_transferred geometry lba (length bytes / 512) (sectors_of (length bytes) size) fits.0 fits.1
  where
    some_data : (count : ℕ) → 512 * sectors ≡ count → 0 < count
    some_data zero is = absurd (some (omega (arith, is)))
    some_data (suc count) is = omega arith

    sectors_of : (count : ℕ) → 512 * sectors ≡ count → 0 < count / 512
    sectors_of count is = omega (arith, is, some_data count is)

-- ---- a zeroing

-- there is nothing to zero
pub nothing_zeroed : {M : Type 0} (io : BlockRelations M) (lba sectors : ℕ) (moment : M) → sectors ≡ 0
    → EntersIt io (zero_of lba sectors) moment moment
nothing_zeroed io lba sectors moment none = subst (λ (n : ℕ). EntersIt io (zero_of lba n) moment moment) (sym none) refl

pub zeroed : {M : Type 0} (io : BlockRelations M) (lba sectors : ℕ) (old new : M) → (sectors ≡ 0 → ⊥)
    → io.enters (entries.Zero lba sectors ∷ []) false old new
    → EntersIt io (zero_of lba sectors) old new
zeroed io lba sectors old new some call =
    subst (λ (e : Option Entry). EntersIt io e old new) (sym (zero_is lba sectors some)) call

pub not_zeroed : {M : Type 0} (io : BlockRelations M) (lba sectors : ℕ) (durable : Bool) (error : BlockError) (old new : M)
    → (sectors ≡ 0 → ⊥) → io.enters [] (is_io (Err error)) old new
    → EntersEntry io (zero_of lba sectors) durable (Err (of_block_error error)) [] old new
not_zeroed io lba sectors durable error old new some call =
    subst (λ (e : Option Entry). EntersEntry io e durable (Err (of_block_error error)) [] old new)
    (sym (zero_is lba sectors some))
    (not_entered io (entries.Zero lba sectors) durable error old new call)

-- there are some
pub some_sectors : (sectors : ℕ) → (sectors ≡ 0 → ⊥) → 0 < sectors
some_sectors zero some = absurd (some refl)
some_sectors (suc n) some = omega arith

-- ---- a read

-- a buffer of the sectors that may be read is one that may
pub read_fits : (geometry : Geometry) (lba sectors : ℕ) → (sectors ≡ 0 → ⊥)
    → (sectors ≤ geometry.max_write) × IsTrue (covers geometry lba sectors) → may_transfer geometry lba sectors ≡ true
read_fits geometry lba sectors some fits =
    may_be_transferred geometry lba sectors (some_sectors sectors some) fits.0 fits.1

-- of no sectors no bytes are read
pub nothing_read : {M : Type 0} (io : BlockRelations M) → ReadsNothing io → (lba sectors : ℕ) (content : List ℕ) (moment : M)
    → sectors ≡ 0 → content ≡ [] → ReadsSectors io lba sectors (Ok content) moment moment
nothing_read io nothing lba sectors content moment none empty =
    rw empty (omega (arith, none), nothing lba moment)

-- they were not read
pub not_read : {M : Type 0} (io : BlockRelations M) (lba sectors : ℕ) (error : BlockError) (old new : M)
    → io.enters [] (is_io (Err error)) old new → ReadsSectors io lba sectors (Err (of_block_error error)) old new
not_read io lba sectors block_errors.Io old new call = call
not_read io lba sectors block_errors.OutOfMemory old new call = call

-- ---- a flush

flushed_or_not : {M : Type 0} (io : BlockRelations M) (result : Result (Unit {0}) ReplyError) (old new : M)
    → FlushesOrNot io true result old new
    → (entered : List Entry) × FlushesAll io (done_by result) entered old new
flushed_or_not io (Ok done) old new flushes = ([], (refl, refl, flushes))
flushed_or_not io (Err (errors.Refused why)) old new flushes = absurd flushes
flushed_or_not io (Err errors.Io) old new flushes = ([], (refl, flushes.1))
flushed_or_not io (Err errors.NoMemory) old new flushes = absurd flushes

pub all_flushed : {M : Type 0} (io : BlockRelations M) (asked : Asked) (content : List ℕ)
    (result : Result (Unit {0}) ReplyError) (outcome : Outcome)
    (old new : M) → asked ≡ Flush → outcome ≡ done_by result → FlushesOrNot io true result old new
    → (entered : List Entry) × CarriesOut io asked content outcome entered old new
all_flushed io asked content result outcome old new is comes flushes =
    let flushed = flushed_or_not io result old new flushes in (
      flushed.0,
      subst (λ (a : Asked). CarriesOut io a content outcome flushed.0 old new) (sym is)
          (subst (λ (o : Outcome). FlushesAll io o flushed.0 old new) (sym comes) flushed.1),
    )
