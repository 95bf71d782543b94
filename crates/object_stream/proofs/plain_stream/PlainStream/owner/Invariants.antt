use Rattle.std.proofs.Common.{◌≡◌, ◌+◌, ◌≤◌, length, drop}
use Rattle.object_stream.specs.Stream.{after_objects, owners}
use Rattle.object_stream.specs.Plain.{stream_of}
use Rattle.object_stream.proofs.plain_stream.PlainStream.owner.Given as goal

abbrev pub invariant-loop-object : goal.invariant-loop-object
invariant-loop-object l = record {
  counted : l.at ≡ l.self.number + l.object-index;
  listed : l.start ≤ length l.self.entries.items;
  remaining : after_objects l.at l.end (drop l.start l.self.entries.items) (λ k. l.owner)
      (drop l.object-index l.object-items) l.sector
      ≡ owners (stream_of l.self) l.number l.sector;
}
