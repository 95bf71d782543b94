use Rattle.std.proofs.Common.{nat_lt}
use Rattle.volume_maps.specs.Places.{place_seq}
use Rattle.volume_maps.proofs.maps.drop_older_in.Given as goal

-- which places the closure clears: those that entries before the end left
abbrev pub ghost-clear_if : goal.ghost-clear_if
ghost-clear_if a = λ place. nat_lt (place_seq place) a.is_cleared.0.now
