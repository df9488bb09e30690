use Rattle.std.proofs.lemmas.Bool.{leb-true}
use Rattle.heap_tests.proofs.numbers.is_whole_number.Goals as goal
use Rattle.heap_tests.proofs.WholeNumbers.{whole_number}

pub returns-then-t-ge2 : goal.returns-then-t-ge2
returns-then-t-ge2 c = λ h. whole_number c.args.t c.if-t-ge2.true (leb-true _ _ h)
