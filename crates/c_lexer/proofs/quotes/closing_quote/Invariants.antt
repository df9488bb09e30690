use Rattle.std.proofs.Common.{◌≡◌, false, drop}
use Rattle.c_lexer.specs.Scan as spec
use Rattle.c_lexer.proofs.Runs.{shifted}
use Rattle.c_lexer.proofs.quotes.closing_quote.Given as goal

abbrev pub invariant-loop-i : goal.invariant-loop-i
invariant-loop-i l = shifted l.i (spec.closing_quote l.quote l.escaped (drop l.i l.s)) ≡ spec.closing_quote l.quote false l.s
