use Rattle.std.proofs.Common.{arith}
use Rattle.grammar_descent.specs.AllReaders.{readers}
use Rattle.grammar_descent.proofs.AllExact.{exact}
use Rattle.grammar_descent.proofs.UnitSound.{one_unit, one_type_name}
use Rattle.grammar_descent.proofs.UnitComplete.{externals_move}
use Rattle.grammar_descent.proofs.laws.law_derivation.Goals as goal

pub returns-clause-unit : goal.returns-clause-unit
returns-clause-unit c = λ text ts a b. one_unit text ts (readers text ts) (exact text ts) (λ known. c.law_texts.ensures.one known text ts) a b

pub returns-clause-type_name : goal.returns-clause-type_name
returns-clause-type_name c = λ text ts typedefs a b. one_type_name text ts (readers text ts) (exact text ts) (λ known. c.law_texts.ensures.one known text ts) typedefs a b

pub returns-clause-few : goal.returns-clause-few
returns-clause-few c = λ text ts unit d. let few = externals_move d.items in omega arith
