use Rattle.std.proofs.Common.{◌≡◌, ◌-◌, arith, length, drop, take, take_all, length-drop}
use Rattle.c_lexer.proofs.Decodings.{unit_within}
use Rattle.c_lexer.proofs.escapes.unit_from.Goals as goal

pub returns-clause-within : goal.returns-clause-within
returns-clause-within c =
    let s = c.args.s.now in
    let e : take (length s - c.args.at) (drop c.args.at s) ≡ drop c.args.at s = take_all _ _ (omega (arith, length-drop c.args.at s)) in
    unit_within s c.args.at c.unit.result c.requires (rw e at c.unit.ensures)
