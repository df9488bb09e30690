use Rattle.type_layout.proofs.Consequences.{pref_only}
use Rattle.type_layout.proofs.Least.{pref_found}
use Rattle.type_layout.proofs.laws.law_preferred.Goals as goal

pub returns-clause-found : goal.returns-clause-found
returns-clause-found c = λ elem want bytes k. pref_found elem bytes k want

pub returns-clause-only : goal.returns-clause-only
returns-clause-only c = pref_only
