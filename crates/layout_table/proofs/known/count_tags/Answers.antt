use Rattle.std.proofs.Common.{length, subst, ◌≤◌}
use Rattle.layout_table.proofs.Copies.{count_begun, tags_more, tags_all}
use Rattle.layout_table.proofs.known.count_tags.Goals as goal

pub loop-kind-init : goal.loop-kind-init
loop-kind-init c = count_begun c.args.types.now

pub loop-kind-preserved : goal.loop-kind-preserved
loop-kind-preserved c =
    tags_more c.args.types.now c.law_table.ensures c.args.kinds.now c.loop-kind.kind-index c.loop-kind.count
    c.count_next-count.result _ c.requires c.loop-kind-test.true c.loop-kind.invariant
    c.count_next-count.ensures.count c.count_next-count.ensures.small

pub returns-clause-count : goal.returns-clause-count
returns-clause-count c =
    tags_all c.args.types.now c.law_table.ensures c.loop-kind.kind-index c.loop-kind.count (subst (λ ks. length ks ≤
    c.loop-kind.kind-index) c.requires c.loop-kind-test.false) c.loop-kind.invariant

pub returns-clause-few : goal.returns-clause-few
returns-clause-few c = c.loop-kind.invariant.small
