use Rattle.std.proofs.Common.{◌≤◌, ◌+◌, ◌++◌, ◌∷◌, [], length, heap_items, arith, ap, ◌∙◌}
use Rattle.clock_order.specs.Heads.{part_at}
use Rattle.clock_order.proofs.OnePerPart.{heads-permuted, heads-replaced, heads-rest}
use Rattle.clock_order.proofs.Leading.{part-is, stepped, taken-last, taken-more}
use Rattle.clock_order.proofs.merging.advance.Goals as goal

pub returns-in_ok-push-clause-heads : goal.returns-in_ok-push-clause-heads
returns-in_ok-push-clause-heads c =
    let places = c.head_at.ensures.place in
    heads-permuted c.args.parts.now (record { 0 = c.head_at.result } ∷ heap_items c.args.heads.now)
    (heap_items c.push-then-head-count.new.self) c.in_ok-push.ensures.permutation
    (heads-replaced c.args.parts.now (record { 0 = c.args.head }) (record { 0 = c.head_at.result })
    (heap_items c.args.heads.now) c.requires.heads c.head_at.ensures.head places.0)

pub returns-in_ok-push-clause-moved : goal.returns-in_ok-push-clause-moved
returns-in_ok-push-clause-moved c =
    let places = c.head_at.ensures.place in
    taken-more c.args.parts.now c.args.head.part (c.args.head.at + 1) c.head_at.result (heap_items c.args.heads.now)
    (heap_items c.push-then-head-count.new.self) c.push.new.self.entries places.0 places.1
    c.in_ok-push.ensures.permutation
    (stepped c.args.parts.now c.requires.apart c.requires.stamps c.args.head c.get.result c.index-parts-head.result
    (heap_items c.args.heads.now) c.args.merged.now.entries c.push.new.self.entries c.index-parts-head.is c.get.ensures
    c.requires.heads c.requires.least c.requires.moved
    (c.push.ensures.entries ∙ ap (λ es. es ++ c.get.result ∷ []) c.in_ok-room.ensures.entries))

pub returns-else-head-count-clause-heads : goal.returns-else-head-count-clause-heads
returns-else-head-count-clause-heads c =
    heads-rest c.args.parts.now (record { 0 = c.args.head }) (heap_items c.args.heads.now) c.requires.heads

pub returns-else-head-count-clause-moved : goal.returns-else-head-count-clause-moved
returns-else-head-count-clause-moved c =
    let same = part-is c.args.parts.now c.args.head.part c.index-parts-head.result c.requires.heads.each.0.inside
    c.index-parts-head.is in
    let end : length (part_at c.args.parts.now c.args.head.part) ≤ c.args.head.at + 1 = omega (arith, ap length same) in
    taken-last c.args.parts.now c.args.head (heap_items c.args.heads.now) c.push.new.self.entries end
    (stepped c.args.parts.now c.requires.apart c.requires.stamps c.args.head c.get.result c.index-parts-head.result
    (heap_items c.args.heads.now) c.args.merged.now.entries c.push.new.self.entries c.index-parts-head.is c.get.ensures
    c.requires.heads c.requires.least c.requires.moved
    (c.push.ensures.entries ∙ ap (λ es. es ++ c.get.result ∷ []) c.in_ok-room.ensures.entries))
