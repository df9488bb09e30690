use Rattle.plain_meaning.proofs.LawLemmas.{extends}
use Rattle.plain_meaning.proofs.laws.law_prefix.Goals as goal

pub returns : goal.returns
returns c = extends
