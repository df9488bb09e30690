use Rattle.std.proofs.Common.{ap, sym, ◌∙◌, option_map}
use Rattle.placed_objects.specs.Meant.{slot_name}
use Rattle.placed_objects.proofs.Slots.{in_regions, no_region, slot_is}
use Rattle.placed_objects.proofs.object.slot_of.Goals as goal

pub returns-in_err-region : goal.returns-in_err-region
returns-in_err-region c =
    ap (option_map slot_name) c.from_residual.ensures
    ∙ sym (no_region c.args.address (sym c.region_of.ensures.value ∙ c.in_err-region.was))

pub invariant_of-result : goal.invariant_of-result
invariant_of-result c =
    let region = sym c.region_of.ensures.value ∙ c.in_ok-region.was in
    record {
      in_regions = in_regions c.args.address c.in_ok-region.region region;
      in_slots = (slot_is c.args.address c.in_ok-region.region c.in_ok-number.number region (sym c.slot_number.ensures ∙ c.in_ok-number.was)).1;
    }

pub returns : goal.returns
returns c =
    sym
    (slot_is c.args.address c.in_ok-region.region c.in_ok-number.number (sym c.region_of.ensures.value ∙ c.in_ok-region.was)
    (sym c.slot_number.ensures ∙ c.in_ok-number.was)).0
