use Rattle.std.proofs.Common.{ℕ, ◌%◌, ◌-◌, arith, ap, ◌∙◌, get_or}
use Rattle.layout_table.specs.Strides as strides
use Rattle.layout_table.specs.Stored.{chain}
use Rattle.layout_table.proofs.Chains.{level_ok, descend_in}
use Rattle.layout_table.proofs.search.descend.Goals as goal

pub loop-head-smaller : goal.loop-head-smaller
loop-head-smaller c = (level_ok c.args.levels.now c.requires.levels c.loop-head.head _ c.loop-head-test.true
    c.loop-head.invariant.0).1

pub loop-head-preserved : goal.loop-head-preserved
loop-head-preserved c =
    let ok = level_ok c.args.levels.now c.requires.levels c.loop-head.head (record {
      stride = 0;
      count = 0;
      inside = 0;
    }) c.loop-head-test.true c.loop-head.invariant.0 in (
      omega (arith, ok.1, c.loop-head.invariant.0),
      ap (λ (s : ℕ). strides.descend (chain c.args.levels.now (get_or c.args.levels.now (c.loop-head.head - 1)
          (record { stride = 0; count = 0; inside = 0 })).inside) (c.loop-head.at % s)) c.from-stride.ensures ∙
          descend_in c.args.levels.now c.requires.levels c.loop-head.head (record {
            stride = 0;
            count = 0;
            inside = 0;
          }) c.loop-head-test.true c.loop-head.invariant.0 c.loop-head.at
          (rw (c.from-stride.ensures, c.from.ensures) at c.if-at-stride.false) ∙ c.loop-head.invariant.1,
    )
