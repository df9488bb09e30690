use Rattle.std.proofs.Common.{◌∙◌, sym, ap, Some, subst, ℕ}
use Rattle.std.specs.Prelude.{IfSome, length, ◌-◌}
use Rattle.std.specs.Option.{option_copied}
use Rattle.c_types.specs.Table.{IsNumber, members, shape_of}
use Rattle.type_layout.proofs.Parts.{member_known}
use Rattle.type_layout.proofs.Tails.{last_member, no_struct_no_tail, no_member_no_tail, last_is_tail, last_is_no_tail}
use Rattle.type_layout.proofs.object_runs.tail_of.Goals as goal

pub returns-in_default : goal.returns-in_default
returns-in_default c =
    record {
      tail = no_struct_no_tail c.args.types.now c.args.elem c.get.result c.law_table.ensures.trees
          c.get.ensures.kind c.in_default.not-Struct;
      known = tt;
    }

pub returns-in_err-last-clause-tail : goal.returns-in_err-last-clause-tail
returns-in_err-last-clause-tail c =
    rw c.from_residual.ensures
    (sym
    (no_member_no_tail c.args.types.now c.args.elem c.in-Struct.field-0 c.law_table.ensures (c.get.ensures.kind ∙
    ap Some c.in-Struct.is)
    (ap last_member (sym c.members.ensures) ∙ sym c.last.ensures.value ∙ ap option_copied c.in_err-last.was)))

pub get-requires-2 : goal.get-requires-2
get-requires-2 c =
    subst (λ o. IfSome o (λ m. IsNumber c.args.types.now m.kind))
    (ap last_member (sym c.members.ensures) ∙ sym c.last.ensures.value ∙ ap option_copied c.in_ok-last.was)
    (member_known c.args.types.now c.args.elem (length (members c.args.types.now c.args.elem) - 1)
    c.get.result c.law_table.ensures c.get.ensures.kind)

pub returns-in-Flexible-clause-tail : goal.returns-in-Flexible-clause-tail
returns-in-Flexible-clause-tail c =
    ap (λ (n : ℕ). Some (n, shape_of c.args.types.now c.in-Flexible.of)) c.from.ensures ∙
    sym
    (last_is_tail c.args.types.now c.args.elem c.in-Struct.field-0 c.law_table.ensures (c.get.ensures.kind ∙
    ap Some c.in-Struct.is) c.in_ok-last.last.now
    (ap last_member (sym c.members.ensures) ∙ sym c.last.ensures.value ∙
    ap option_copied c.in_ok-last.was) c.in-Flexible.of
    (c.get-2.ensures.kind ∙ ap Some c.in-Flexible.is))

pub returns-in_default-get : goal.returns-in_default-get
returns-in_default-get c =
    record {
      tail = sym
          (last_is_no_tail c.args.types.now c.args.elem c.in-Struct.field-0 c.law_table.ensures (c.get.ensures.kind ∙
          ap Some c.in-Struct.is)
          c.in_ok-last.last.now
          (ap last_member (sym c.members.ensures) ∙ sym c.last.ensures.value ∙
          ap option_copied c.in_ok-last.was) c.get-2.result c.get-2.ensures.kind
          c.in_default-get.not-Flexible);
      known = tt;
    }
