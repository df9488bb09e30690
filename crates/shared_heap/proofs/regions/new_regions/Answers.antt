use Rattle.shared_heap.proofs.Starts.{fresh-more}
use Rattle.shared_heap.proofs.regions.new_regions.Goals as goal

pub loop-at-preserved : goal.loop-at-preserved
loop-at-preserved c =
    fresh-more c.args.table.now c.loop-at.regions.items _ c.loop-at.at _ c.loop-at.invariant
    c.in_ok-push.ensures.items c.in_ok-new.ensures
