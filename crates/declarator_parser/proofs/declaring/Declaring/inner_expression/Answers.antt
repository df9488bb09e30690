use Rattle.std.proofs.Common.{◌-◌, refl}
use Rattle.c_grammar.specs.Operators.{tightness}
use Rattle.c_grammar.specs.declared.words.Level.TheVariants as of
use Rattle.grammar_descent.specs.Reading.{Readers}
use Rattle.token_reader.specs.Nests.{FoundExpression}
use Rattle.declarator_parser.proofs.Depths.{one_less, reads-below, none-below, low-below, expression-low}
use Rattle.declarator_parser.proofs.declaring.Declaring.inner_expression.Goals as goal

pub returns-then-self-eq0-clause-reads : goal.returns-then-self-eq0-clause-reads
returns-then-self-eq0-clause-reads g c = none-below (λ (r : Readers). r.expression (tightness of.Conditional)) c.args.self.now.depth c.if-self-eq0.true (λ s. refl) c.args.reader.now c.refuse.result

pub expression-requires : goal.expression-requires
expression-requires g c = (c.requires.inner (c.args.self.now.depth - 1) (one_less c.args.self.now.depth c.if-self-eq0.false)).expressions.callable _ _ _

pub returns-clause-reads : goal.returns-clause-reads
returns-clause-reads g c = reads-below (λ (r : Readers). r.expression (tightness of.Conditional)) c.args.self.now.depth (c.args.self.now.depth - 1) (one_less c.args.self.now.depth c.if-self-eq0.false)
    c.args.reader.now c.expression.result c.expression.new.arg3 ((c.requires.inner (c.args.self.now.depth - 1) (one_less c.args.self.now.depth c.if-self-eq0.false)).expressions.reads _ _ _ _ _ c.expression.ensures)

pub returns-clause-low : goal.returns-clause-low
returns-clause-low g c = low-below (λ (f : FoundExpression). f.1) (c.args.self.now.depth - 1) c.args.self.now.depth c.expression.result (one_less c.args.self.now.depth c.if-self-eq0.false)
    (expression-low c.args.reader.now.text c.args.reader.now.tokens (c.args.self.now.depth - 1)
    (c.law_readers.ensures.phrases c.args.reader.now.text c.args.reader.now.tokens (c.args.self.now.depth - 1))
    (tightness of.Conditional) c.args.reader.now.state c.expression.new.arg3.state c.expression.result ((c.requires.inner (c.args.self.now.depth - 1) (one_less c.args.self.now.depth c.if-self-eq0.false)).expressions.reads _ _ _ _ _ c.expression.ensures).answer)
