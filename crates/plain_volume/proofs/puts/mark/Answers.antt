use Rattle.std.proofs.Common.{◌≡◌, Some, None}
use Rattle.std.specs.List.{position}
use Rattle.upload_window.specs.Window.{has_number}
use Rattle.upload_window.proofs.Places.{blank, first_place, nowhere, set_at, set_none}
use Rattle.plain_volume.proofs.puts.mark.Goals as goal

pub returns-in-Some : goal.returns-in-Some
returns-in-Some c =
    let test = has_number c.args.number in
    let is : position test c.args.objects.now ≡ Some c.in-Some.place = cc in
    set_at c.args.number c.args.is_started c.args.objects.now c.in-Some.place blank
    (first_place test c.args.objects.now c.in-Some.place blank is)

pub returns-in_default : goal.returns-in_default
returns-in_default c =
    let test = has_number c.args.number in
    let is : position test c.args.objects.now ≡ None = cc in
    set_none c.args.number c.args.is_started c.args.objects.now blank (nowhere test c.args.objects.now blank is)
