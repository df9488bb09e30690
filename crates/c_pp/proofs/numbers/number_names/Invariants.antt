use Rattle.c_pp.proofs.NumberLemmas.{AreKnown}
use Rattle.c_pp.proofs.numbers.number_names.Given as goal

abbrev pub invariant-loop-token : goal.invariant-loop-token
invariant-loop-token l = AreKnown l.fn.text l.tokens l.token-index l.numbers.items l.known
