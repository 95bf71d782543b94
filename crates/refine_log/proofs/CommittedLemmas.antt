-- What a log has committed stays of its volume, of its epoch and in range.
use Rattle.std.proofs.Common.{◌≡◌, ℕ, true, List, [], ◌∷◌, sym, ◌∙◌, ap, subst, inl, inr, refl, if◌then◌else◌}
use Rattle.std.specs.Prelude.{Option, Some, None, IfSome}
use Rattle.std.specs.Option.{option_map}
use Rattle.std.proofs.lemmas.Bool.{cases_lt, lt-ltb, le-ltb}
use Rattle.std.proofs.lemmas.List.Elements.{All-nil, All-tail, All-push}
use Rattle.lsvd_base.specs.declared.entry.Entry.{Entry}
use Rattle.lsvd_base.specs.declared.geometry.Geometry.{Geometry}
use Rattle.lsvd_base.specs.Range.{is_in_range}
use Rattle.lsvd_device.specs.Medium.{Medium}
use Rattle.commit_body.specs.declared.body.CommitBody.{CommitBody}
use Rattle.commit_slot.specs.Commits.{finished_body}
use Rattle.cache_log.specs.declared.row.Row.{Row}
use Rattle.cache_log.specs.Rows.{seq_of, entries_since}
use Rattle.cache_log.specs.Log.{LogState, entries_in, with_appended, all_rows}
use Rattle.cache_log.specs.Committed.{body_of, first_body, IsReleased}
use Rattle.stopped_volume.specs.Device.{CacheOwner, owner_of}
use Rattle.plain_disk.specs.Sectors.{AllInRange}
use Rattle.refine_log.specs.Stops.{HasCommitted}
use Rattle.refine_log.specs.StopLaws.{FormattedHasCommitted, SameHasCommitted, TrimmedHasCommitted, AppendedHasCommitted}
use Rattle.refine_log.specs.StopLaws.{CommitHasCommitted}

-- the commit is of this volume and this epoch
abbrev IsOf : (owner : CacheOwner) → CommitBody → Type 0
IsOf owner body = owner_of body ≡ owner

-- a log with these commits, and these entries
has_committed : (owner : CacheOwner) (geometry : Geometry) (body : CommitBody) (unfinished : Option CommitBody)
    (all : Option (List Entry))
    (log : LogState) → log.commits.body ≡ body → log.commits.unfinished ≡ unfinished → log.all ≡ all → IsOf owner body
    → IfSome unfinished (IsOf owner)
    → IfSome all (AllInRange geometry) → HasCommitted owner geometry log
has_committed owner geometry body unfinished all log last left told is_of are_of in_range = record {
  last = ap owner_of last ∙ is_of;
  unfinished = subst (λ u. IfSome u (IsOf owner)) (sym left) are_of;
  in_range = subst (λ a. IfSome a (AllInRange geometry)) (sym told) in_range;
}

-- ---- just formatted, as before, trimmed

no_entries : (geometry : Geometry) (moments : List Medium) → IfSome (entries_in [] moments) (AllInRange geometry)
no_entries geometry [] = tt
no_entries geometry (now ∷ past) = All-nil (λ entry. is_in_range geometry entry ≡ true)

pub formatted_has_committed : FormattedHasCommitted
formatted_has_committed owner first geometry old log is =
    has_committed owner geometry (first_body owner.uuid owner.epoch first) None
    (entries_in [] log.commits.disk.moments) log is.commits.same_body
    is.commits.same_unfinished
    (is.all ∙ is.entries) refl tt (no_entries geometry log.commits.disk.moments)

pub same_has_committed : SameHasCommitted
same_has_committed owner geometry old new is same commits =
    has_committed owner geometry old.commits.body old.commits.unfinished old.all new commits.same_body commits.same_unfinished
    same.all is.last
    is.unfinished is.in_range

pub trimmed_has_committed : TrimmedHasCommitted
trimmed_has_committed owner geometry old new seq is trimmed =
    has_committed owner geometry old.commits.body old.commits.unfinished old.all new (ap (λ c. c.body) trimmed.commits)
    (ap (λ c. c.unfinished) trimmed.commits)
    trimmed.all is.last is.unfinished is.in_range

-- ---- appended

one_more : (geometry : Geometry) (all : Option (List Entry)) (entry : Entry) → is_in_range geometry entry ≡ true
    → IfSome all (AllInRange geometry) → IfSome (with_appended all entry) (AllInRange geometry)
one_more geometry None entry may are = tt
one_more geometry (Some list) entry may are = All-push (λ e. is_in_range geometry e ≡ true) list entry are may

pub appended_has_committed : AppendedHasCommitted
appended_has_committed owner geometry old new entry at is may appended commits =
    has_committed owner geometry old.commits.body old.commits.unfinished (with_appended old.all entry) new commits.same_body
    commits.same_unfinished appended.all is.last is.unfinished
    (one_more geometry old.all entry may is.in_range)

-- ---- committed

-- of entries in range those since a seq are in range
since_in_range : (geometry : Geometry) (seq : ℕ) (rows : List Row) (list : List Entry) → AllInRange geometry list
    → AllInRange geometry (entries_since seq rows list)
since_in_range geometry seq [] list are = All-nil (λ entry. is_in_range geometry entry ≡ true)
since_in_range geometry seq (row ∷ rows) [] are = All-nil (λ entry. is_in_range geometry entry ≡ true)
since_in_range geometry seq (row ∷ rows) (entry ∷ list) are =
    let rest : List Entry = entries_since seq rows list in
    elim (cases_lt (seq_of row) seq) [
      | inl less ↦
          subst (λ b. AllInRange geometry (if b then rest else entry ∷ list)) (sym (lt-ltb (seq_of row) seq less))
          (since_in_range geometry seq rows list (All-tail (λ e. is_in_range geometry e ≡ true) entry list are))
      | inr on ↦ subst (λ b. AllInRange geometry (if b then rest else entry ∷ list)) (sym (le-ltb (seq_of row) seq on)) are
    ]

-- and so are those that a commit does not release
released_in_range : (geometry : Geometry) (seq : ℕ) (rows : List Row) (all : Option (List Entry))
    → IfSome all (AllInRange geometry)
    → IfSome (option_map (entries_since seq rows) all) (AllInRange geometry)
released_in_range geometry seq rows None are = tt
released_in_range geometry seq rows (Some list) are = since_in_range geometry seq rows list are

-- of the volume is also the unfinished commit once it is made
finished_is_of : (owner : CacheOwner) (body : CommitBody) (unfinished : Option CommitBody) → IsOf owner body
    → IfSome unfinished (IsOf owner)
    → IsOf owner (finished_body body unfinished)
finished_is_of owner body None is_of are_of = is_of
finished_is_of owner body (Some more) is_of are_of = are_of

module _ (owner : CacheOwner) (geometry : Geometry) (old new : LogState) (is : HasCommitted owner geometry old)
    (released : IsReleased old new) where
  -- what a commit leaves, by the commits that it left
  committed_with : (body : CommitBody) (unfinished : Option CommitBody) → new.commits.body ≡ body
      → new.commits.unfinished ≡ unfinished
      → IsOf owner body → IfSome unfinished (IsOf owner) → HasCommitted owner geometry new
  committed_with body unfinished last left is_of are_of =
      let seq : ℕ = new.commits.body.tail.seq in
      has_committed owner geometry body unfinished (option_map (entries_since seq (all_rows old)) old.all) new last left
      released.all is_of are_of
      (released_in_range geometry seq (all_rows old) old.all is.in_range)

  finished : IsOf owner (finished_body old.commits.body old.commits.unfinished)
  finished = finished_is_of owner old.commits.body old.commits.unfinished is.last is.unfinished

pub commit_has_committed : CommitHasCommitted
commit_has_committed owner geometry old new is released (inl made) =
    committed_with owner geometry old new is released (body_of old) None made.same_body made.same_unfinished is.last tt
commit_has_committed owner geometry old new is released (inr (inl at)) =
    committed_with owner geometry old new is released old.commits.body old.commits.unfinished at.same_body at.same_unfinished
    is.last is.unfinished
commit_has_committed owner geometry old new is released (inr (inr (inl at))) =
    committed_with owner geometry old new is released (finished_body old.commits.body old.commits.unfinished) None at.same_body
    at.same_unfinished
    (finished owner geometry old new is released) tt
commit_has_committed owner geometry old new is released (inr (inr (inr at))) =
    committed_with owner geometry old new is released (finished_body old.commits.body old.commits.unfinished) (Some (body_of old))
    at.same_body
    at.same_unfinished
    (finished owner geometry old new is released) is.last
