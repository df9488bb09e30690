use Rattle.std.proofs.Common.{◌∙◌}
use Rattle.whole_numbers.proofs.Tables.{unary_promoted}
use Rattle.whole_numbers.proofs.unary.UnaryOperator.evaluate.Goals as goal

pub returns-clause-value : goal.returns-clause-value
returns-clause-value c =
    c.apply.ensures.value
    ∙ unary_promoted c.args.self c.args.kind _ c.args.word _ c.promoted-promoted.ensures c.converted.ensures.value
