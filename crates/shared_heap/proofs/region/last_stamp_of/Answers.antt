use Rattle.shared_heap.proofs.Steps.{last-is}
use Rattle.shared_heap.proofs.region.last_stamp_of.Goals as goal

pub returns : goal.returns
returns c =
    last-is c.args.history.now.entries c.len-count.result c.get.result c.len-count.ensures.value c.if-count-eq0.false
    c.get.ensures
