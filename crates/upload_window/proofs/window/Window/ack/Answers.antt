use Rattle.std.proofs.Common.{◌≡◌, Some, None, List, true, sym, ◌∙◌, ap, subst}
use Rattle.std.specs.List.{position}
use Rattle.upload_window.specs.declared.object.OpenObject.{OpenObject}
use Rattle.upload_window.specs.Window.{WindowState, IsWindow, has_number, without, acknowledged, is_started, was_started}
use Rattle.upload_window.proofs.Starts.{window_without, started_were}
use Rattle.upload_window.proofs.Places.{blank, first_place, nowhere, removed_at, removed_none}
use Rattle.upload_window.proofs.window.Window.ack.Goals.{After-remove}
use Rattle.upload_window.proofs.window.Window.ack.Goals as goal

removed : (c : After-remove) → c.remove.new.self.items ≡ without c.args.number c.self.inside.objects.items
removed c =
    let objects = c.self.inside.objects.items in
    let is : position (has_number c.args.number) objects ≡ Some c.in-Some.place = cc in
    c.remove.ensures.items
    ∙ removed_at c.args.number objects c.in-Some.place blank
    (first_place (has_number c.args.number) objects c.in-Some.place blank is)

pub invariant_of-self : goal.invariant_of-self
invariant_of-self c =
    let gone = removed (goal.at.invariant_of-self c).After-remove in
    subst (λ (xs : List OpenObject). IsWindow (record { last = c.self.inside.last; objects = xs })) (sym gone)
    (window_without c.args.number c.self.inside.objects.items c.self.inside.last c.self.invariant)

pub returns-in-Some-clause-acknowledged : goal.returns-in-Some-clause-acknowledged
returns-in-Some-clause-acknowledged c done =
    let gone = removed (goal.at.returns-in-Some-clause-acknowledged c).After-remove in
    ap (λ (xs : List OpenObject). let w : WindowState = record { last = c.self.inside.last; objects = xs } in w) gone
    ∙ ap (λ w. acknowledged c.args.number w) c.self.view_is

pub returns-in_default-clause-acknowledged : goal.returns-in_default-clause-acknowledged
returns-in_default-clause-acknowledged c done =
    let objects = c.self.inside.objects.items in
    let is : position (has_number c.args.number) objects ≡ None = cc in
    let same = removed_none c.args.number objects blank (nowhere (has_number c.args.number) objects blank is) in
    sym c.self.view_is
    ∙ ap (λ (xs : List OpenObject). let w : WindowState = record { last = c.self.inside.last; objects = xs } in w) same
    ∙ ap (λ w. acknowledged c.args.number w) c.self.view_is

pub returns-in-Some-clause-begun : goal.returns-in-Some-clause-begun
returns-in-Some-clause-begun c done =
    let window : WindowState = record { last = c.self.inside.last; objects = c.self.inside.objects.items } in
    let started = subst (λ (w : WindowState). is_started c.args.number w.objects ≡ true) (sym c.self.view_is)
    (sym c.if-not-is_started.ensures) in
    subst (λ (w : WindowState). was_started c.args.number w.objects ≡ true) c.self.view_is
    (started_were window c.self.invariant.starts c.args.number started)

pub returns-in_default-clause-begun : goal.returns-in_default-clause-begun
returns-in_default-clause-begun c done =
    let window : WindowState = record { last = c.self.inside.last; objects = c.self.inside.objects.items } in
    let started = subst (λ (w : WindowState). is_started c.args.number w.objects ≡ true) (sym c.self.view_is)
    (sym c.if-not-is_started.ensures) in
    subst (λ (w : WindowState). was_started c.args.number w.objects ≡ true) c.self.view_is
    (started_were window c.self.invariant.starts c.args.number started)
