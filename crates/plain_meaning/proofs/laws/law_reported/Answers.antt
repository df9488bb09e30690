use Rattle.plain_meaning.proofs.Reports.{reported_law}
use Rattle.plain_meaning.proofs.laws.law_reported.Goals as goal

pub returns : goal.returns
returns c = reported_law
