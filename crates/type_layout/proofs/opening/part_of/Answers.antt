use Rattle.std.proofs.Common.{◌∙◌, sym, subst, ◌<◌, ◌^◌}
use Rattle.std.specs.Prelude.{IfSome}
use Rattle.type_layout.specs.Runs.{end_of}
use Rattle.type_layout.proofs.Parts.{member_known, member_parts, parts_fit, parts_are_runs}
use Rattle.type_layout.proofs.opening.part_of.Goals as goal

pub member_part-requires : goal.member_part-requires
member_part-requires c = record {
  values = c.requires.values.known.0;
  member = member_known c.args.types.now c.args.values.kind c.args.part c.get.result c.law_table.ensures
      c.get.ensures.kind;
  fits = subst (λ o. IfSome o (λ run. end_of run < 2 ^ 64))
      (member_parts c.args.types.now c.args.values.kind c.args.values.lo c.args.part c.get.result
      c.law_table.ensures.trees c.get.ensures.kind
      c.in_default.not-Array c.requires.place)
      (parts_fit c.args.types.now c.args.values c.law_table.ensures c.requires.values c.requires.some c.args.part);
}

pub returns-in_default : goal.returns-in_default
returns-in_default c =
    let part =
    c.member_part.ensures.part ∙
    sym (member_parts c.args.types.now c.args.values.kind c.args.values.lo c.args.part c.get.result
    c.law_table.ensures.trees c.get.ensures.kind
    c.in_default.not-Array c.requires.place) in
    record {
      part = part;
      run = parts_are_runs c.args.types.now c.args.values c.law_table.ensures c.requires.values c.requires.some
          c.args.part c.member_part.result part;
      few = c.member_part.ensures.few;
    }
