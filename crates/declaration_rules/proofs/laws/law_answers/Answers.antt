use Rattle.declaration_rules.proofs.Formats.{reader, one_answer}
use Rattle.declaration_rules.proofs.laws.law_answers.Goals as goal

pub returns-clause-formats : goal.returns-clause-formats
returns-clause-formats c = reader c.law_formats.ensures.one_of_both

pub returns-clause-one : goal.returns-clause-one
returns-clause-one c = one_answer (reader c.law_formats.ensures.one_of_both)
