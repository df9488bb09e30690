use Rattle.std.proofs.Common.{◌≡◌, ◌-◌, arith, length, drop, take, take_all, length-drop}
use Rattle.c_lexer.proofs.Steps.{within_at}
use Rattle.c_lexer.proofs.front.lexeme.Goals as goal

pub returns-clause-within : goal.returns-clause-within
returns-clause-within c =
    let s = c.args.text.now in
    let e : take (length s - c.args.at) (drop c.args.at s) ≡ drop c.args.at s = take_all _ _ (omega (arith, length-drop c.args.at s)) in
    within_at s c.args.at c.front.result c.requires (rw e at c.front.ensures)
