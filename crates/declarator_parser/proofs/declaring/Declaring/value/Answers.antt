use Rattle.std.proofs.Common.{◌≤◌}
use Rattle.c_grammar.specs.Operators.{tightness}
use Rattle.c_grammar.specs.declared.words.Level.TheVariants as of
use Rattle.token_reader.specs.Nests.{FoundExpression}
use Rattle.declarator_parser.proofs.Depths.{expression-low}
use Rattle.token_reader.proofs.Refusals.{same_found}
use Rattle.declarator_parser.proofs.declaring.Declaring.value.Goals as goal

pub returns-clause-low : goal.returns-clause-low
returns-clause-low g c =
    let h = c.requires.value.reads _ _ _ _ _ c.expression-found.ensures in
    same_found (λ (f : FoundExpression). f.1 ≤ c.args.self.now.depth) c.expression-found.result c.refused_at.result c.refused_at.ensures.same
    (expression-low c.args.reader.now.text c.args.reader.now.tokens c.args.self.now.depth
    (c.law_readers.ensures.phrases c.args.reader.now.text c.args.reader.now.tokens c.args.self.now.depth)
    (tightness of.Conditional) c.args.reader.now.state c.expression-found.new.arg3.state c.expression-found.result h.answer)
