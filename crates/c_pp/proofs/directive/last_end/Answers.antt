use Rattle.std.proofs.Common.{sym}
use Rattle.c_pp.proofs.MarkLemmas.{last_ends}
use Rattle.c_pp.proofs.directive.last_end.Goals as goal

pub returns-in-Some : goal.returns-in-Some
returns-in-Some c = sym (last_ends c.args.tokens.now c.in-Some.token.now 0 (sym c.in-Some.ensures.value))
