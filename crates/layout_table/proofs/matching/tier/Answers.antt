use Rattle.std.proofs.Common.{◌∙◌, sym}
use Rattle.layout_table.proofs.Tiers.{tier_known, tier_of_same}
use Rattle.layout_table.proofs.matching.tier.Goals as goal

pub returns-then-kind-want : goal.returns-then-kind-want
returns-then-kind-want c = sym (tier_of_same c.args.types.now c.args.kind c.args.want c.if-kind-want.true)

pub returns : goal.returns
returns c =
    c.tier_of_kinds.ensures ∙
    sym (tier_known c.args.types.now c.args.kind c.args.want c.get.result c.get-2.result c.get.ensures
    c.get-2.ensures c.if-kind-want.false)
