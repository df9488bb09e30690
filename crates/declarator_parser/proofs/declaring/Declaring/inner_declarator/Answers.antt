use Rattle.std.proofs.Common.{◌-◌}
use Rattle.token_reader.specs.declared.found.FoundDeclarator.{FoundDeclarator}
use Rattle.declarator_parser.proofs.Depths.{one_less, declarator-below, no_declarator-below, low-below, declarator-low, declarator-grow}
use Rattle.declarator_parser.proofs.declaring.Declaring.inner_declarator.Goals as goal

pub returns-then-self-eq0-clause-reads : goal.returns-then-self-eq0-clause-reads
returns-then-self-eq0-clause-reads g c = no_declarator-below c.args.self.now.depth c.args.how c.if-self-eq0.true c.args.reader.now c.refuse.result

pub declarator-requires : goal.declarator-requires
declarator-requires g c = (c.requires.inner (c.args.self.now.depth - 1) (one_less c.args.self.now.depth c.if-self-eq0.false)).declarators.callable _ _ _

pub returns-clause-reads : goal.returns-clause-reads
returns-clause-reads g c = declarator-below c.args.self.now.depth (c.args.self.now.depth - 1) c.args.how (one_less c.args.self.now.depth c.if-self-eq0.false)
    c.args.reader.now c.declarator.result c.declarator.new.arg3 ((c.requires.inner (c.args.self.now.depth - 1) (one_less c.args.self.now.depth c.if-self-eq0.false)).declarators.reads _ _ _ _ _ c.declarator.ensures)

pub returns-clause-low : goal.returns-clause-low
returns-clause-low g c = low-below (λ (f : FoundDeclarator). f.height) (c.args.self.now.depth - 1) c.args.self.now.depth c.declarator.result (one_less c.args.self.now.depth c.if-self-eq0.false)
    (declarator-low c.args.reader.now.text c.args.reader.now.tokens (c.args.self.now.depth - 1)
    (c.law_readers.ensures.phrases c.args.reader.now.text c.args.reader.now.tokens (c.args.self.now.depth - 1))
    c.args.how c.args.reader.now.state c.declarator.new.arg3.state c.args.reader.now.texts c.declarator.result ((c.requires.inner (c.args.self.now.depth - 1) (one_less c.args.self.now.depth c.if-self-eq0.false)).declarators.reads _ _ _ _ _ c.declarator.ensures).reads.answer)

pub returns-clause-grows : goal.returns-clause-grows
returns-clause-grows g c = declarator-grow c.args.reader.now.text c.args.reader.now.tokens (c.args.self.now.depth - 1)
    (c.law_readers.ensures.phrases c.args.reader.now.text c.args.reader.now.tokens (c.args.self.now.depth - 1))
    c.args.how c.args.reader.now.state c.declarator.new.arg3.state c.args.reader.now.texts c.declarator.result ((c.requires.inner (c.args.self.now.depth - 1) (one_less c.args.self.now.depth c.if-self-eq0.false)).declarators.reads _ _ _ _ _ c.declarator.ensures).reads.answer
