use Rattle.plain_meaning.proofs.LawLemmas.{all_spent, turns_within}
use Rattle.plain_meaning.proofs.laws.law_spent.Goals as goal

pub returns : goal.returns
returns c = record { all = all_spent; within = turns_within }
