use Rattle.std.proofs.Common.{◌-◌, ◌<◌, ◌∷◌, length, heap_items, arith}
use Rattle.clock_order.specs.Parts.{entries_of}
use Rattle.clock_order.specs.Heads.{left_of, left}
use Rattle.clock_order.proofs.Permuting.{flat_map-permutes}
use Rattle.clock_order.proofs.Moving.{moved-permuted, moved-length}
use Rattle.clock_order.proofs.OnePerPart.{heads-permuted}
use Rattle.clock_order.proofs.merging.merged.Goals as goal

pub advance-requires-clause-heads : goal.advance-requires-clause-heads
advance-requires-clause-heads c =
    heads-permuted c.args.parts.now (heap_items c.loop-head.heads) (c.in-Some.field-0 ∷ heap_items c.pop.new.self)
    c.in-Some.ensures.permutation c.loop-head.invariant.heads

pub advance-requires-clause-moved : goal.advance-requires-clause-moved
advance-requires-clause-moved c =
    moved-permuted (entries_of c.args.parts.now) (left c.args.parts.now (heap_items c.loop-head.heads))
    (left c.args.parts.now (c.in-Some.field-0 ∷ heap_items c.pop.new.self)) c.loop-head.merged.entries
    (flat_map-permutes (λ h. left_of c.args.parts.now h.0) (heap_items c.loop-head.heads)
    (c.in-Some.field-0 ∷ heap_items c.pop.new.self) c.in-Some.ensures.permutation) c.loop-head.invariant.moved

pub loop-head-smaller : goal.loop-head-smaller
loop-head-smaller c =
    let all = length (entries_of c.args.parts.now) in
    let fewer : all - length c.advance.new.merged.entries < all - length c.loop-head.merged.entries =
    omega (
      arith,
      c.in_ok-advance.ensures.longer,
      moved-length (entries_of c.args.parts.now) (left c.args.parts.now (heap_items c.advance.new.heads))
          c.advance.new.merged.entries c.in_ok-advance.ensures.moved,
    ) in
    fewer
