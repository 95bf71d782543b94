use Rattle.std.proofs.Common.{arith}
use Rattle.std.proofs.lemmas.List.Sums.{sum_by-take-le}
use Rattle.extent_map.proofs.Order.{fits_at}
use Rattle.batcher.specs.declared.place.BatchPlace.TheVariants.{Data}
use Rattle.batcher.specs.Places.{batch_place_number}
use Rattle.batcher.specs.Rows.{extent_payload}
use Rattle.batcher.proofs.rows.data_rows.Goals as goal

pub add-requires-clause-extent : goal.add-requires-clause-extent
add-requires-clause-extent c =
    (fits_at batch_place_number c.loop-extent.extent-index c.args.extents.now _ c.requires.fits c.loop-extent-test.true).sectors

pub add-requires-clause-payload : goal.add-requires-clause-payload
add-requires-clause-payload c =
    omega (
      arith,
      (fits_at batch_place_number c.loop-extent.extent-index c.args.extents.now
          (record { lba = 0; sectors = 0; place = Data 0 0 })
          c.requires.fits c.loop-extent-test.true).sectors,
      sum_by-take-le extent_payload c.args.extents.now c.loop-extent.extent-index,
      c.loop-extent.invariant.payload,
      c.requires.payload,
    )
