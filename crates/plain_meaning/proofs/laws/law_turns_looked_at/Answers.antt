use Rattle.plain_meaning.proofs.LawLemmas.{turns_looked_at}
use Rattle.plain_meaning.proofs.laws.law_turns_looked_at.Goals as goal

pub returns : goal.returns
returns c = turns_looked_at
