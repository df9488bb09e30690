use Rattle.std.proofs.Common.{◌-◌, arith, sym, ◌∙◌}
use Rattle.layout_table.proofs.Chains.{past_within}
use Rattle.layout_table.specs.Stored.{chain}
use Rattle.layout_table.proofs.search.start_in.Goals as goal

pub overflow_sub-result : goal.overflow_sub-result
overflow_sub-result c =
    let h = past_within (chain c.args.levels.now c.args.row.now.levels) (c.args.place - c.from-lo.result)
    c.in_ok-past.past (sym c.descend.ensures ∙ c.in_ok-past.was) in
    omega (arith, h)
