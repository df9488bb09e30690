use Rattle.expression_laws.proofs.Converting.{converted_typed}
use Rattle.expression_laws.proofs.Joining.{joined_typed}
use Rattle.expression_laws.proofs.Single.{unary_typed, negated_typed}
use Rattle.expression_laws.proofs.laws.law_operators.Goals as goal

pub returns-clause-binary : goal.returns-clause-binary
returns-clause-binary c = λ around types grows line operator a b x left right made.
    joined_typed c.law_conversion.ensures line a b left right types grows operator x made

pub returns-clause-unary : goal.returns-clause-unary
returns-clause-unary c = λ around line operator x y good made. unary_typed c.law_conversion.ensures line x good
    operator y made

pub returns-clause-negation : goal.returns-clause-negation
returns-clause-negation c = λ around types grows line x y good made. negated_typed c.law_conversion.ensures line x
    good types grows y made

pub returns-clause-converted : goal.returns-clause-converted
returns-clause-converted c = λ around types grows one line to x y good made.
    let is = converted_typed c.law_conversion.ensures types grows one line x good to y made in (is.fits, is.has_kind)
