use Rattle.std.proofs.Common.{◌+◌, List, subst, length, []}
use Rattle.c_grammar.specs.declared.units.External.{External}
use Rattle.grammar_descent.specs.AllReaders.{readers, read_unit}
use Rattle.grammar_descent.specs.UnitSteps as step
use Rattle.c_parser.specs.Answers.{Answers}
use Rattle.token_reader.specs.Input.{Input}
use Rattle.c_parser.proofs.UnitLaws.{same_answers}
use Rattle.c_parser.proofs.units.unit_items.Goals as goal

pub returns-clause-answers : goal.returns-clause-answers
unfolding step.unit
returns-clause-answers c =
    same_answers c.externals-found.result c.refused_within.result (read_unit c.args.text.now c.args.tokens.now) c.refused_within.ensures.same
    (subst (λ (i : Input). Answers {A = List External} c.externals-found.result (step.externals i.text i.tokens (readers i.text i.tokens) (length i.tokens + 1) [] i.state))
    c.in_ok-reader.ensures c.externals-found.ensures)
