use Rattle.whole_numbers.proofs.Quotients.{divides}
use Rattle.whole_numbers.proofs.laws.law_division.Goals as goal

pub returns : goal.returns
returns c = divides
