use Rattle.std.proofs.Common.{◌∙◌, sym, ap}
use Rattle.std.specs.Option.{option_map}
use Rattle.type_layout.specs.Search.{run_in}
use Rattle.type_layout.specs.Pending.{if_to_come}
use Rattle.type_layout.proofs.Frames.{frame_rest, frame_last}
use Rattle.type_layout.proofs.opening.rest_of.Goals as goal

pub returns-in-Some-clause-rest : goal.returns-in-Some-clause-rest
returns-in-Some-clause-rest c = frame_rest c.args.types.now c.args.frame c.requires

pub returns-clause-rest : goal.returns-clause-rest
returns-clause-rest c =
    frame_last c.args.types.now c.args.frame c.size_in.result (if_to_come c.args.types.now c.frame_of.result) c.requires
    (sym c.part_of.ensures.part ∙ ap (option_map (run_in c.args.types.now)) c.in_default.is)
    c.size_in.ensures c.frame_of.ensures.inside
