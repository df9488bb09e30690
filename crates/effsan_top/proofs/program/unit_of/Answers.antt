use Rattle.std.proofs.Common.{Err, rules}
use Rattle.std.specs.Prelude.{IsErrOf}
use Rattle.c_grammar.specs.declared.units.Unit.{Unit as Tree}
use Rattle.token_reader.specs.declared.error.ParseError.{ParseError}
use Rattle.token_reader.specs.declared.error.ParseError.TheVariants.{Syntax}
use Rattle.effsan_top.proofs.Reading.{no_unit}
use Rattle.effsan_top.proofs.program.unit_of.Goals as goal

pub returns-in-Err-Syntax-clause-refused : goal.returns-in-Err-Syntax-clause-refused
returns-in-Err-Syntax-clause-refused c =
    let is : IsErrOf {T = Tree} {E = ParseError} (Err c.in-Err-Syntax.field-0) (Syntax c.in-Err-Syntax.at) = search rules in
    rw c.faulty.ensures (no_unit c.args.text.now c.args.tokens.now c.line_of.result c.requires.becomes c.line_of.ensures (c.in-Err-Syntax.ensures.refused c.in-Err-Syntax.at is))
