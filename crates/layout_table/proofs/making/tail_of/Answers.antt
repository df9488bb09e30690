use Rattle.std.proofs.Common.{ap, sym, subst, ◌∙◌, Contains}
use Rattle.c_types.specs.Table.{members}
use Rattle.type_layout.proofs.Least.{contains_in}
use Rattle.layout_table.specs.Making.{IsTail, tail_of_members}
use Rattle.layout_table.proofs.Tails.{struct_tail, other_tail}
use Rattle.layout_table.proofs.Parts.{struct_members_are}
use Rattle.layout_table.proofs.making.tail_of.Goals as goal

pub tail_of_members-requires : goal.tail_of_members-requires
tail_of_members-requires c = λ m i.
    let are = struct_members_are c.args.types.now c.law_table.ensures c.args.t c.in-Struct.field-0 c.requires
    c.in-Struct.ensures.kind in
    let j : Contains (members c.args.types.now c.args.t) m = subst (λ ms. Contains ms m) c.members.ensures i in
    are.number m (contains_in (members c.args.types.now c.args.t) m j.0 j.1 j.2)

pub returns-in-Struct : goal.returns-in-Struct
returns-in-Struct c =
    subst (IsTail c.args.types.now c.args.t) (sym (c.tail_of_members.ensures ∙
    ap (tail_of_members c.args.types.now) c.members.ensures))
    (struct_tail c.args.types.now c.law_table.ensures c.args.t c.requires c.in-Struct.field-0 c.in-Struct.ensures.kind)

pub returns-in_default : goal.returns-in_default
returns-in_default c = other_tail c.args.types.now c.law_table.ensures c.args.t c.requires c.get.result
    c.get.ensures.kind c.in_default.not-Struct
