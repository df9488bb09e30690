use Rattle.std.proofs.lemmas.List.{take-replicate}
use Rattle.c_print.proofs.numbers.zeros.Goals as goal

pub returns : goal.returns
returns c = take-replicate c.args.count 99 48 c.requires
