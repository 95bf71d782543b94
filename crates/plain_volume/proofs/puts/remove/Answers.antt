use Rattle.std.proofs.Common.{◌≡◌, ◌∙◌, Some, None}
use Rattle.std.specs.List.{position}
use Rattle.upload_window.specs.Window.{has_number}
use Rattle.upload_window.proofs.Places.{blank, first_place, nowhere, removed_at, removed_none}
use Rattle.plain_volume.proofs.puts.remove.Goals as goal

pub returns-in-Some : goal.returns-in-Some
returns-in-Some c =
    let test = has_number c.args.number in
    let is : position test c.args.objects.now.items ≡ Some c.in-Some.place = cc in
    c.remove.ensures.items
    ∙ removed_at c.args.number c.args.objects.now.items c.in-Some.place blank
    (first_place test c.args.objects.now.items c.in-Some.place blank is)

pub returns-in_default : goal.returns-in_default
returns-in_default c =
    let test = has_number c.args.number in
    let is : position test c.args.objects.now.items ≡ None = cc in
    removed_none c.args.number c.args.objects.now.items blank (nowhere test c.args.objects.now.items blank is)
