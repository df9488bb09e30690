use Rattle.std.proofs.Common.{sym, ◌∙◌}
use Rattle.tree_walk.proofs.Words.{bounds_in_region, bounds_nowhere}
use Rattle.tree_walk.proofs.pointers.slot_bounds.Goals as goal

pub returns-in-Some : goal.returns-in-Some
returns-in-Some c =
    sym (bounds_in_region c.args.word c.parts-address.result.0 c.in-Some.region c.size_of_region-size.result
    c.parts-address.ensures.address c.size_of_region-size.ensures.value (sym c.region_of.ensures.value ∙ c.in-Some.is))

pub returns-in-None : goal.returns-in-None
returns-in-None c =
    sym (bounds_nowhere c.args.word c.parts-address.result.0 c.parts-address.ensures.address (sym c.region_of.ensures.value ∙ c.in-None.is))
