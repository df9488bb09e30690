use Rattle.std.proofs.Common.{subst, ◌≤◌, ◌^◌, sym}
use Rattle.lowfat_regions.specs.declared.shapes.Shape.{Shape}
use Rattle.lowfat_regions.proofs.Addresses.{size_ok}
use Rattle.lowfat_regions.proofs.regions.size_of_region.Goals as goal

pub returns-clause-range : goal.returns-clause-range
returns-clause-range c = subst (λ (s : Shape). (32 ≤ s.size) × (s.size ≤ 2 ^ 20)) (sym c.shape_of.ensures) (size_ok c.args.region c.requires.1)
