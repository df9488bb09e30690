use Rattle.std.proofs.Common.{◌<◌, sym, subst, arith}
use Rattle.lowfat_regions.specs.declared.shapes.Shape.{Shape}
use Rattle.lowfat_regions.proofs.Addresses.{size_ok}
use Rattle.lowfat_regions.proofs.Division.{base_from}
use Rattle.lowfat_regions.proofs.slots.base_in_region.Goals as goal

pub base_outside_slots-requires-then-past-ge-NEAR_BYTES : goal.base_outside_slots-requires-then-past-ge-NEAR_BYTES
base_outside_slots-requires-then-past-ge-NEAR_BYTES c =
    subst (λ (s : Shape). 0 < s.size) (sym c.shape_of-shape.ensures) (omega (arith, size_ok c.args.region c.requires.1))

pub returns : goal.returns
returns c =
    base_from c.args.addr c.args.region c.slots_before.result c.shape_of-shape.result c.shape_of-shape.ensures c.if-addr-shape.false
    c.slots_before.ensures
