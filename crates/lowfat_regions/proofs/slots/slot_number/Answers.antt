use Rattle.std.proofs.Common.{◌≡◌, ◌<◌, ◌≤◌, Some, sym, subst}
use Rattle.lowfat_regions.specs.Regions.{IsRegion, region_of}
use Rattle.lowfat_regions.proofs.Division.{none_before, none_far, some_slot, none_past}
use Rattle.lowfat_regions.proofs.slots.slot_number.Goals.{In_ok-region}
use Rattle.lowfat_regions.proofs.slots.slot_number.Goals as goal

in_region : (c : In_ok-region) → region_of c.args.addr ≡ Some c.in_ok-region.region
in_region c = sym (c.in_ok-region.ensures {u = tt}).value

is_region : (c : In_ok-region) → IsRegion c.in_ok-region.region
is_region c = (c.in_ok-region.ensures {u = tt}).range

pub returns-then-addr-shape : goal.returns-then-addr-shape
returns-then-addr-shape c =
    let at = (goal.at.returns-then-addr-shape c).In_ok-region in
    none_before c.args.addr c.in_ok-region.region c.shape_of-shape.result (in_region at) (is_region at) c.shape_of-shape.ensures c.if-addr-shape.true

pub returns-then-past-ge-NEAR_BYTES : goal.returns-then-past-ge-NEAR_BYTES
returns-then-past-ge-NEAR_BYTES c =
    let at = (goal.at.returns-then-past-ge-NEAR_BYTES c).In_ok-region in
    none_far c.args.addr c.in_ok-region.region c.shape_of-shape.result (in_region at) (is_region at) c.shape_of-shape.ensures c.if-addr-shape.false
    c.if-past-ge-NEAR_BYTES.true

pub returns-then-number-from : goal.returns-then-number-from
returns-then-number-from c =
    let at = (goal.at.returns-then-number-from c).In_ok-region in
    some_slot c.args.addr c.in_ok-region.region c.shape_of-shape.result (in_region at) (is_region at) c.shape_of-shape.ensures
    c.slots_before-number.result c.if-addr-shape.false c.slots_before-number.ensures
    (subst (λ k. c.slots_before-number.result < k) c.from.ensures c.if-number-from.true)

pub returns-else-number-from : goal.returns-else-number-from
returns-else-number-from c =
    let at = (goal.at.returns-else-number-from c).In_ok-region in
    none_past c.args.addr c.in_ok-region.region c.shape_of-shape.result (in_region at) (is_region at) c.shape_of-shape.ensures
    c.slots_before-number.result c.if-addr-shape.false c.slots_before-number.ensures
    (subst (λ k. k ≤ c.slots_before-number.result) c.from.ensures c.if-number-from.false)
