use Rattle.std.proofs.Common.{heap_items, arith}
use Rattle.clock_order.proofs.Starting.{first-more, first-empty}
use Rattle.clock_order.proofs.merging.first_heads.Goals as goal
use Rattle.clock_order.proofs.merging.first_heads.Goals.{then-len-gt0+in_ok-push, else-len-gt0}

pub loop-part-preserved : goal.loop-part-preserved
loop-part-preserved c =
    elim c.if-len-gt0.branch [
      | then-len-gt0+in_ok-push w ↦
          let places = w.head_at.ensures.place in
          rw w.heads-is (record {
            order = w.in_ok-push.ensures.heap_order c.loop-part.invariant.order;
            first =
                first-more c.args.parts.now c.loop-part.part (record { 0 = w.head_at.result })
                (heap_items c.loop-part.heads) (heap_items w.push.new.self) c.loop-part-test.true
                w.head_at.ensures.head places.0 places.1 w.in_ok-push.ensures.permutation
                c.loop-part.invariant.first;
          })
      | else-len-gt0 w ↦
          rw w.heads-is (record {
            order = c.loop-part.invariant.order;
            first =
                first-empty c.args.parts.now c.loop-part.part c.index-parts-part.result
                (heap_items c.loop-part.heads) c.loop-part-test.true c.index-parts-part.is (omega arith)
                c.loop-part.invariant.first;
          })
    ]
