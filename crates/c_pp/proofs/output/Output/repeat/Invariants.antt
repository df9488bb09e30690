use Rattle.std.proofs.Common.{◌++◌, List}
use Rattle.std.specs.Prelude.{slice_range}
use Rattle.c_tokens.specs.declared.token.Token.{Token}
use Rattle.c_pp.specs.Macros.{on_line}
use Rattle.c_pp.specs.Walks.{Holds, StandsAt}
use Rattle.c_pp.proofs.output.Output.repeat.Given as goal

abbrev pub invariant-loop-at : goal.invariant-loop-at
invariant-loop-at l = (made piece : List Token) → Holds l.fn.self made → StandsAt made l.fn.span piece →
    Holds l.self (made ++ on_line l.line (slice_range made l.fn.span.start l.at))
