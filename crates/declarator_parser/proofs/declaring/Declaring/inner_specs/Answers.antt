use Rattle.std.proofs.Common.{◌-◌}
use Rattle.grammar_descent.specs.AllReaders.{readers}
use Rattle.token_reader.specs.declared.found.FoundSpecs.{FoundSpecs}
use Rattle.declarator_parser.proofs.Depths.{one_less, specs-below, no_specs-below, low-below, told, specs-low, specs-grow}
use Rattle.declarator_parser.proofs.declaring.Declaring.inner_specs.Goals as goal

pub returns-then-self-eq0-clause-reads : goal.returns-then-self-eq0-clause-reads
returns-then-self-eq0-clause-reads g c = no_specs-below c.args.self.now.depth c.if-self-eq0.true c.args.reader.now c.refuse.result

pub specs-requires : goal.specs-requires
specs-requires g c = (c.requires.inner (c.args.self.now.depth - 1) (one_less c.args.self.now.depth c.if-self-eq0.false)).specs.callable _ _

pub returns-clause-reads : goal.returns-clause-reads
returns-clause-reads g c = specs-below c.args.self.now.depth (c.args.self.now.depth - 1) (one_less c.args.self.now.depth c.if-self-eq0.false)
    c.args.reader.now c.specs.result c.specs.new.arg3 ((c.requires.inner (c.args.self.now.depth - 1) (one_less c.args.self.now.depth c.if-self-eq0.false)).specs.reads _ _ _ _ c.specs.ensures)

pub returns-clause-low : goal.returns-clause-low
returns-clause-low g c = low-below (λ (f : FoundSpecs). f.height) (c.args.self.now.depth - 1) c.args.self.now.depth c.specs.result (one_less c.args.self.now.depth c.if-self-eq0.false)
    (specs-low c.args.reader.now.text c.args.reader.now.tokens (c.args.self.now.depth - 1)
    (c.law_readers.ensures.phrases c.args.reader.now.text c.args.reader.now.tokens (c.args.self.now.depth - 1))
    c.args.reader.now.state c.specs.new.arg3.state c.specs.result
    (told (readers c.args.reader.now.text c.args.reader.now.tokens (c.args.self.now.depth - 1)).specs c.args.reader.now.state c.specs.result c.specs.new.arg3.state ((c.requires.inner (c.args.self.now.depth - 1) (one_less c.args.self.now.depth c.if-self-eq0.false)).specs.reads _ _ _ _ c.specs.ensures).answer))

pub returns-clause-grows : goal.returns-clause-grows
returns-clause-grows g c = specs-grow c.args.reader.now.text c.args.reader.now.tokens (c.args.self.now.depth - 1)
    (c.law_readers.ensures.phrases c.args.reader.now.text c.args.reader.now.tokens (c.args.self.now.depth - 1))
    c.args.reader.now.state c.specs.new.arg3.state c.specs.result
    (told (readers c.args.reader.now.text c.args.reader.now.tokens (c.args.self.now.depth - 1)).specs c.args.reader.now.state c.specs.result c.specs.new.arg3.state ((c.requires.inner (c.args.self.now.depth - 1) (one_less c.args.self.now.depth c.if-self-eq0.false)).specs.reads _ _ _ _ c.specs.ensures).answer)
