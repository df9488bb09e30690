use Rattle.c_lexer.proofs.StringTokens.{one_meaning, some_meaning}
use Rattle.c_lexer.proofs.strings.law_strings.Goals as goal

pub returns-clause-some : goal.returns-clause-some
returns-clause-some c = some_meaning

pub returns-clause-one : goal.returns-clause-one
returns-clause-one c = one_meaning
