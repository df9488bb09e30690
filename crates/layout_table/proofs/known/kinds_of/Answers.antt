use Rattle.layout_table.proofs.Copies.{take_kind, kind_at}
use Rattle.layout_table.proofs.known.kinds_of.Goals as goal

pub loop-i-preserved : goal.loop-i-preserved
loop-i-preserved c =
    take_kind c.args.types.now.kinds c.loop-i.kinds.items c.push.new.self.items c.loop-i.i c.get.result (kind_at
    c.args.types.now c.loop-i.i c.get.result c.get.ensures.kind) c.loop-i.invariant
    c.in_ok-push.ensures.items
