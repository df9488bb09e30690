use Rattle.std.proofs.Common.{subst, sym}
use Rattle.object_rules.specs.Types.{again}
use Rattle.rule_answers.specs.Gives.{Gives}
use Rattle.object_rules.proofs.functions.function_again.Goals as goal

pub returns-in-Ok : goal.returns-in-Ok
returns-in-Ok c = λ source defined.
    subst (λ type. Gives (again source defined c.args.introduced c.args.number c.args.earlier.now type) c.repeated_function.result c.repeated_function.new.state)
    (sym c.in-Ok.ensures) (c.repeated_function.ensures source defined)
