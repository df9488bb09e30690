use Rattle.std.proofs.Common.{ap, sym, subst, ◌∙◌, Contains, sum_by}
use Rattle.layout_table.specs.Counting.{capped, member_counts}
use Rattle.layout_table.proofs.Parts.{array_part}
use Rattle.layout_table.proofs.Counted.{members_inner, member_part, open_part}
use Rattle.layout_table.proofs.counting.inner_of.Goals as goal

pub count_of-requires-clause-counted : goal.count_of-requires-clause-counted
count_of-requires-clause-counted c =
    c.requires.counted c.in-Array.of (array_part c.args.types.now c.args.t c.in-Array.of c.in-Array.field-1
    c.in-Array.ensures.kind)

pub count_members-requires-clause-counted : goal.count_members-requires-clause-counted
count_members-requires-clause-counted c = λ m i.
    c.requires.counted m.kind (member_part c.args.types.now c.law_table.ensures c.args.t c.get.result
    c.get.ensures.kind c.in-Struct.is m (subst (λ ms. Contains ms m) c.members.ensures i))

pub returns-in-Struct : goal.returns-in-Struct
returns-in-Struct c =
    c.count_members.ensures ∙ ap (λ ms. capped (sum_by (member_counts c.args.types.now) ms)) c.members.ensures ∙
    ap capped (sym (members_inner c.args.types.now c.law_table.ensures c.args.t c.get.result c.get.ensures.kind
    c.in-Struct.is))

pub count_of-requires-in-Flexible-clause-counted : goal.count_of-requires-in-Flexible-clause-counted
count_of-requires-in-Flexible-clause-counted c =
    c.requires.counted c.in-Flexible.of (open_part c.args.types.now c.law_table.ensures c.args.t c.in-Flexible.of
    c.in-Flexible.ensures.kind)
