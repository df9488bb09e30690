use Rattle.std.proofs.Common.{◌≤◌, ◌-◌}
use Rattle.lowfat_regions.specs.Regions.{last_region, size_of}
use Rattle.lowfat_regions.specs.Shapes.{HasNoRoomBefore}
use Rattle.lowfat_regions.proofs.regions.first_with_room.Given as goal

abbrev pub invariant-loop-low : goal.invariant-loop-low
invariant-loop-low l = (1 ≤ l.low) × (l.low ≤ l.high) × (l.high ≤ last_region) × (l.bytes ≤ size_of l.high) × HasNoRoomBefore l.bytes l.low

abbrev pub decreases-loop-low : goal.decreases-loop-low
decreases-loop-low l = l.high - l.low
