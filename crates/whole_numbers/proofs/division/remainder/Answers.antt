use Rattle.whole_numbers.proofs.Traps.{divide_refuses, remainder_answers}
use Rattle.whole_numbers.proofs.division.remainder.Goals as goal

pub returns-in-Some-clause-value : goal.returns-in-Some-clause-value
returns-in-Some-clause-value c = (divide_refuses c.args.kind c.args.left c.args.right _ c.in-Some.ensures.value).1

pub returns-in-None-clause-value : goal.returns-in-None-clause-value
returns-in-None-clause-value c =
    remainder_answers c.args.kind c.args.left c.args.right _ _ c.in-None.ensures.value c.remainder_bits.ensures
    c.extended.ensures.value
