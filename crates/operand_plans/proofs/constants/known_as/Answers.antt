use Rattle.std.proofs.Common.{rules, subst, sym}
use Rattle.std.proofs.lemmas.Int.{to_z-of_z}
use Rattle.std.specs.Int.{w128}
use Rattle.well_typed.specs.Kinds.{whole_type}
use Rattle.whole_numbers.specs.Types.{IsNumberOf}
use Rattle.operand_plans.proofs.constants.known_as.Goals as goal

pub returns-in-Number-clause-kept : goal.returns-in-Number-clause-kept
returns-in-Number-clause-kept c =
    subst (IsNumberOf (whole_type c.args.kind)) (sym (to_z-of_z w128 c.wrapped.result (search rules)))
    c.wrapped.ensures.kept
