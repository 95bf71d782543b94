-- Contract: a plain volume whose log has no entry, as the objects of a store alone make it.
use Rattle.std.specs.Prelude.{◌≡◌, ℕ, None, []}
use Rattle.lsvd_base.specs.declared.geometry.Geometry.{Geometry}
use Rattle.plain_disk.specs.Log.{empty_from}
use Rattle.plain_disk.specs.Cache.{cache_with}
use Rattle.plain_disk.specs.State.{PlainState, history_length, frontier_end}
use Rattle.plain_disk.specs.Valid.{IsPlainVolume}

-- All objects of a plain volume are acknowledged, each of its entries is in one, up to an end, and its log is empty. Nothing is
-- pinned, no removal and no plan of a copy is out, and what was given out for removal is removed.
pub record IsAtRest (geometry : Geometry) (checkpoint end : ℕ) (plain : PlainState) : Type 0 where
  pub valid : IsPlainVolume plain
  pub geometry_is : plain.geometry ≡ geometry
  pub checkpoint_is : plain.checkpoint.number ≡ checkpoint
  pub none : plain.window.objects ≡ []
  pub frontier : frontier_end plain ≡ end
  pub history : history_length plain ≡ end
  pub pins : plain.pins ≡ []
  pub none_out : plain.removal ≡ None
  pub no_plan : plain.plan ≡ None
  pub gone : plain.given_out ≡ plain.removed
  pub cache : plain.cache ≡ cache_with (empty_from geometry.log end)
