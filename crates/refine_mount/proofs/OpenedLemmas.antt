-- The commits of a log that was opened are the volume's own, and its list has the entries past the frontier's end.
use Rattle.std.proofs.Common.{◌≡◌, ℕ, ◌+◌, ◌-◌, true, IsTrue, List, [], ◌∷◌, ◌++◌, get_or, drop, refl, sym, ◌∙◌, ap, subst, arith}
use Rattle.std.specs.Prelude.{Option, IfSome}
use Rattle.std.proofs.Math.Path.{subst₂}
use Rattle.std.specs.List.{AllByRecursion}
use Rattle.std.proofs.lemmas.List.{drop-drop, drop_at, get_or-drop}
use Rattle.std.proofs.lemmas.List.Elements.{All-from_recursion}
use Rattle.lsvd_base.specs.declared.entry.Entry.{Entry}
use Rattle.lsvd_base.specs.declared.geometry.Geometry.{Geometry}
use Rattle.lsvd_base.specs.Range.{is_in_range}
use Rattle.cache_log.specs.declared.row.Row.{Row}
use Rattle.cache_log.specs.Rows.{seq_of, position_of, AreNumbered}
use Rattle.cache_log.specs.Log.{AreRowsOf}
use Rattle.plain_disk.specs.State.{frontier_end}
use Rattle.plain_disk.specs.Sectors.{AllInRange}
use Rattle.refine_log.proofs.Shown.{some_as}
use Rattle.stopped_volume.specs.Device.{owner_of}
use Rattle.refine_mount.specs.Laws.{OpenedHasCommitted, AddedAreLogged}

-- ---- its commits

-- entries that are in range one by one are so all
pub all_in_range : (geometry : Geometry) (told : Option (List Entry))
    → IfSome told (AllByRecursion (λ entry. IsTrue (is_in_range geometry entry)))
    → IfSome told (AllInRange geometry)
all_in_range geometry told are =
    some_as (AllByRecursion (λ entry. IsTrue (is_in_range geometry entry))) (AllInRange geometry) told
    (λ list each. All-from_recursion (λ entry. is_in_range geometry entry ≡ true) list each) are

pub opened_has_committed : OpenedHasCommitted
opened_has_committed owner geometry commits log is_of none is =
    let same = is.only.same in
    record {
      last = ap owner_of same.same_body ∙ is_of;
      unfinished = subst (λ u. IfSome u (λ body. owner_of body ≡ owner)) (sym (same.same_unfinished ∙ none)) tt;
      in_range = subst (λ told. IfSome told (AllInRange geometry)) (sym is.all) (all_in_range geometry log.entries is.in_range);
    }

-- ---- its list

-- the row with a seq is that many past the first
row_at : (whole rows : List Row) (n : ℕ) (row none : Row) → drop n whole ≡ row ∷ rows → get_or whole n none ≡ row
row_at whole rows n row none rest =
    let at : n ≡ n + 0 = omega arith in
    ap (λ k. get_or whole k none) at ∙ sym (get_or-drop n whole 0 none) ∙ ap (λ l. get_or l 0 none) rest

placed_from : (whole rows : List Row) (n first : ℕ) (none : Row) → drop n whole ≡ rows → AreNumbered (first + n) rows
    → AllByRecursion (λ row. position_of (get_or whole (seq_of row - first) none) + 1 ≡ position_of row + 1) rows
placed_from whole [] n first none rest are = tt
placed_from whole (row ∷ rows) n first none rest are =
    let own = are.0 in
    let at : seq_of row - first ≡ n = omega (arith, own) in
    let next : (first + n) + 1 ≡ first + (n + 1) = omega arith in (
      ap (λ k. position_of (get_or whole k none) + 1) at ∙ ap (λ r. position_of r + 1) (row_at whole rows n row none rest),
      placed_from whole rows (n + 1) first none (sym (drop-drop 1 n whole) ∙ ap (drop 1) rest)
          (subst (λ s. AreNumbered s rows) next are.1),
    )

pub added_are_logged : AddedAreLogged
added_are_logged geometry checkpoint end plain entries of_log log row_of_none rest first rows told numbered =
    let ends = rest.frontier in
    let history = rest.history in
    let begins : ℕ = frontier_end plain in
    let none : 0 ≡ begins - log.first = omega (arith, ends, first) in
    let past : drop (begins - plain.end) (plain.entries ++ entries) ≡ entries =
    drop_at plain.entries entries (begins - plain.end) (omega (arith, ends, history)) in
    let all : log.first ≡ log.first + 0 = omega arith in
    record {
      first = omega (arith, ends, first);
      rows = subst₂ (λ l e. AreRowsOf l e) (ap (λ n. drop n log.rows) none) (sym past) rows;
      entries =
          some_as (λ list. list ≡ entries) (λ list. drop (begins - log.first) list ≡ drop (begins - plain.end)
          (plain.entries ++ entries)) log.entries
          (λ list is. sym (ap (λ n. drop n list) none) ∙ is ∙ sym past) told;
      placed = placed_from log.rows log.rows 0 log.first row_of_none refl (subst (λ s. AreNumbered s log.rows) all numbered);
    }
