use Rattle.std.proofs.Common.{◌≡◌, ◌+◌, ◌-◌, ◌++◌, ◌∷◌, [], ℕ, List, Option, map, ap, ◌∙◌, rules}
use Rattle.std.specs.List.{range_with_len}
use Rattle.object_stream.specs.declared.owner.Owner.{Owner}
use Rattle.object_stream.specs.Stream.{owners}
use Rattle.object_stream.specs.Plain.{stream_of}
use Rattle.plain_volume.proofs.Ranges.{mapped}
use Rattle.plain_volume.proofs.checkpoints.owned_in.Goals as goal

pub loop-sector-preserved : goal.loop-sector-preserved
loop-sector-preserved c =
    let owner_of : ℕ → Option Owner = owners (stream_of c.args.stream.now) c.args.number in
    let sector = c.loop-sector.sector in
    let before = c.loop-sector.owned.items in
    let pushed : c.push.new.self.items ≡ before ++ c.owner.result ∷ [] = search rules in
    let longer : c.push.new.self.items ≡ before ++ owner_of sector ∷ [] =
    pushed ∙ ap (λ (owner : Option Owner). before ++ owner ∷ []) c.owner.ensures in
    ap (λ (owned : List (Option Owner)). owned ++ map owner_of (range_with_len (sector + 1) (c.args.sectors - (sector + 1))))
    longer
    ∙ mapped owner_of before sector c.args.sectors c.loop-sector-test.true
    ∙ c.loop-sector.invariant
