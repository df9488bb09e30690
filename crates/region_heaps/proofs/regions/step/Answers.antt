use Rattle.std.proofs.Common.{◌-◌, get_or, sym, subst}
use Rattle.heap_model.specs.Layouts.{layouts_of}
use Rattle.region_calls.specs.Serving.{KnowsElements}
use Rattle.region_heaps.proofs.ByRegion.{heap_of-index, steps-from}
use Rattle.region_heaps.proofs.regions.step.Goals as goal

pub step-requires-clause-elements : goal.step-requires-clause-elements
step-requires-clause-elements c =
    subst (KnowsElements (layouts_of c.args.table.now))
    (sym (heap_of-index c.args.heaps.now c.args.region c.index-heaps-region.result c.requires.low c.requires.high)) c.requires.elements

pub returns-clause-steps : goal.returns-clause-steps
returns-clause-steps c =
    let heaps = c.args.heaps.now in
    let d = c.index-heaps-region.result in
    steps-from (layouts_of c.args.table.now) heaps c.args.region c.args.call.now (get_or heaps (c.args.region - 1) d) c.step.new.self
    c.requires.low c.requires.high (heap_of-index heaps c.args.region d c.requires.low c.requires.high)
    c.requires.of_region c.step.ensures.elements c.step.ensures.region c.step.result c.step.ensures.answers c.step.ensures.next c.step.ensures.suits
