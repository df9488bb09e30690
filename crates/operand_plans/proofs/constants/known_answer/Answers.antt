use Rattle.std.proofs.Common.{rules, ap, sym, ◌∙◌}
use Rattle.std.proofs.lemmas.Int.{to_z-of_z}
use Rattle.std.specs.Int.{w128}
use Rattle.static_rules.specs.declared.judged.Known.TheVariants as known
use Rattle.operand_plans.proofs.Outcomes.{told_number}
use Rattle.operand_plans.proofs.constants.known_answer.Goals as goal

pub returns-in-Ok : goal.returns-in-Ok
returns-in-Ok c told e h =
    ap known.Number (to_z-of_z w128 c.number_of.result (search rules) ∙ c.number_of.ensures)
    ∙ told_number c.law_values.ensures c.args.kind c.in-Ok.bits told (sym c.in-Ok.is ∙ e) h
