use Rattle.plain_meaning.proofs.LawLemmas.{is_seen}
use Rattle.plain_meaning.proofs.laws.law_nothing_lost.Goals as goal

pub returns : goal.returns
returns c = is_seen
