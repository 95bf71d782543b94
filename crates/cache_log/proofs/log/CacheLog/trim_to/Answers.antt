use Rattle.std.proofs.Common.{◌≡◌, ◌-◌, ◌+◌, ◌≤◌, ℕ, List, length, drop, refl, sym, ◌∙◌, ap, arith}
use Rattle.std.specs.Prelude.{min}
use Rattle.std.proofs.lemmas.List.{length-drop}
use Rattle.cache_log.specs.declared.row.Row.{Row}
use Rattle.cache_log.specs.Log.{LogState, start_of}
use Rattle.cache_log.proofs.TrimLemmas.{trimmed_log, is_trimmed}
use Rattle.cache_log.proofs.log.CacheLog.trim_to.Goals as goal

pub invariant_of-self : goal.invariant_of-self
invariant_of-self g c =
    let d : ℕ = c.self.inside.dropped in
    let items : List Row = c.self.inside.rows.items in
    let count : c.count_below.result ≡ min (c.args.seq - c.self.inside.tail.seq) (length (drop d items)) =
    c.count_below.ensures.count ∙ ap (λ (l : LogState). min (c.args.seq - l.first) (length l.rows)) (sym c.self.view_is) in
    let few : c.count_below.result ≤ length (drop d items) = omega (arith, count) in
    let left = length-drop d items in
    let less = c.self.invariant.0 in
    let at = c.start_of-position.ensures ∙ ap (λ h. start_of h (drop (d + c.count_below.result) items)) c.head.ensures.head in
    (omega (arith, few, left, less), trimmed_log _ _ _ _ _ _ _ _ _ c.self.invariant.1 (omega arith) (omega arith) count at)

pub returns : goal.returns
returns g c =
    let d : ℕ = c.self.inside.dropped in
    let items : List Row = c.self.inside.rows.items in
    let count : c.count_below.result ≡ min (c.args.seq - c.self.inside.tail.seq) (length (drop d items)) =
    c.count_below.ensures.count ∙ ap (λ (l : LogState). min (c.args.seq - l.first) (length l.rows)) (sym c.self.view_is) in
    let at = c.start_of-position.ensures ∙ ap (λ h. start_of h (drop (d + c.count_below.result) items)) c.head.ensures.head in
    is_trimmed _ _ _ _ _ _ _ _ _ _ _ _ c.self.view_is (omega arith) count at refl
