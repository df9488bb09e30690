use Rattle.whole_numbers.proofs.TypeLaws.{types_agree}
use Rattle.whole_numbers.proofs.laws.law_types.Goals as goal

pub returns : goal.returns
returns c = types_agree
