use Rattle.type_layout.proofs.Tiers.{other_tier}
use Rattle.type_layout.proofs.preference.tier.Goals as goal

pub returns-in_default-5 : goal.returns-in_default-5
returns-in_default-5 c =
    other_tier c.args.types.now c.args.kind c.args.want c.get.result c.get.ensures.kind c.in_default.not-Num-0 c.in_default.not-Pointer-0
    c.if-kind-want.false
