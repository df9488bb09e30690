use Rattle.grammar_descent.specs.AllReaders.{readers}
use Rattle.grammar_descent.proofs.AllExact.{exact}
use Rattle.grammar_descent.proofs.UnitSound.{reads_unit, reads_type}
use Rattle.grammar_descent.proofs.laws.law_readers.Goals as goal

pub returns-clause-phrases : goal.returns-clause-phrases
returns-clause-phrases c = exact

pub returns-clause-unit : goal.returns-clause-unit
returns-clause-unit c = λ text ts unit. reads_unit text ts (readers text ts) (exact text ts) unit

pub returns-clause-type_name : goal.returns-clause-type_name
returns-clause-type_name c = λ text ts typedefs type. reads_type text ts (readers text ts) (exact text ts) typedefs type
