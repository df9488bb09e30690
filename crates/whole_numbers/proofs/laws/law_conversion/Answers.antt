use Rattle.whole_numbers.proofs.TypeLaws.{converts}
use Rattle.whole_numbers.proofs.laws.law_conversion.Goals as goal

pub returns : goal.returns
returns c = converts
