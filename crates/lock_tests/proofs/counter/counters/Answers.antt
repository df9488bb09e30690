use Rattle.std.proofs.Common.{ap, ◌∙◌, arith, sym, ◌+◌}
use Rattle.lock_tests.proofs.Ends.{fresh_more}
use Rattle.lock_tests.proofs.counter.counters.Goals as goal

pub loop-at-preserved : goal.loop-at-preserved
loop-at-preserved c = (
  c.in_ok-push.ensures.len ∙ ap (λ n. n + 1) c.loop-at.invariant.0,
  fresh_more _ _ c.loop-at.values.items _ c.loop-at.at _ (sym c.loop-at.values.ok.0
      ∙ c.loop-at.invariant.0) c.loop-at.invariant.1 c.in_ok-push.ensures.items
      (omega arith) c.new_counter.ensures.entries,
)
