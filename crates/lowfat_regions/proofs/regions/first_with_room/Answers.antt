use Rattle.std.proofs.Common.{arith}
use Rattle.lowfat_regions.specs.Regions.{size_of, sizes}
use Rattle.lowfat_regions.proofs.regions.first_with_room.Goals as goal

pub loop-low-init : goal.loop-low-init
unfolding size_of sizes
loop-low-init c = (omega arith, omega arith, omega arith, c.requires, λ more. absurd (omega (arith, more)))
