use Rattle.std.proofs.Common.{◌∙◌, sym, ap, ◌≤◌, arith}
use Rattle.std.specs.Option.{option_map}
use Rattle.c_types.specs.Table.{shape_of}
use Rattle.type_layout.specs.Search.{run_in}
use Rattle.type_layout.proofs.Values.{values_empty}
use Rattle.type_layout.proofs.Frames.{frame_inside}
use Rattle.type_layout.proofs.opening.frame_of.Goals as goal

pub returns-in_err-next-clause-inside : goal.returns-in_err-next-clause-inside
returns-in_err-next-clause-inside c =
    rw c.from_residual.ensures
    (sym (values_empty (shape_of c.args.types.now c.args.values.kind) c.args.values.lo c.args.values.count
    (sym c.part_of.ensures.part ∙ ap (option_map (run_in c.args.types.now)) c.in_err-next.was)))

pub returns-clause-inside : goal.returns-clause-inside
returns-clause-inside c =
    let some : 1 ≤ c.args.values.count = omega arith in
    frame_inside c.args.types.now c.args.values c.in_ok-next.next some
