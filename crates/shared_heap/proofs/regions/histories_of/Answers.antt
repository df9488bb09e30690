use Rattle.std.proofs.Common.{List, sym, subst, ◌++◌, ◌∷◌, []}
use Rattle.heap_model.specs.History.{Log}
use Rattle.shared_heap.specs.Closing.{AreHistoriesOf}
use Rattle.shared_heap.proofs.Parts.{histories-push}
use Rattle.shared_heap.proofs.regions.histories_of.Goals as goal

pub loop-region-preserved : goal.loop-region-preserved
loop-region-preserved c =
    subst (λ (hs : List Log). AreHistoriesOf (c.loop-region.yielded ++ c.in-Some.region ∷ []) hs)
    (sym c.in_ok-push.ensures.items)
    (histories-push c.loop-region.yielded c.loop-region.histories.items c.in-Some.region c.into_history.result
    c.loop-region.invariant
    (record { entries = c.into_history.ensures.entries; legal = c.into_history.ensures.legal }))
