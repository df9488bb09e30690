use Rattle.std.proofs.Common.{◌<◌, sym, subst, arith}
use Rattle.lowfat_regions.specs.Regions.{slots}
use Rattle.lowfat_regions.proofs.Division.{slot_fits}
use Rattle.lowfat_regions.proofs.slots.slot_address.Goals as goal

pub overflow_mul-result : goal.overflow_mul-result
overflow_mul-result c =
    let inside = subst (λ n. n < slots c.args.region) (sym c.from.ensures) c.requires.slot in
    omega (arith, slot_fits c.shape_of-shape.result c.args.region c.from.result c.requires.region c.shape_of-shape.ensures inside)

pub overflow_add-result : goal.overflow_add-result
overflow_add-result c =
    let inside = subst (λ n. n < slots c.args.region) (sym c.from.ensures) c.requires.slot in
    omega (arith, c.requires.region.1, slot_fits c.shape_of-shape.result c.args.region c.from.result c.requires.region c.shape_of-shape.ensures inside)

pub returns-clause-within : goal.returns-clause-within
returns-clause-within c =
    let inside = subst (λ n. n < slots c.args.region) (sym c.from.ensures) c.requires.slot in
    let fits = slot_fits c.shape_of-shape.result c.args.region c.from.result c.requires.region c.shape_of-shape.ensures inside in
    (fits.1, omega (arith, fits.2))
