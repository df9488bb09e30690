use Rattle.well_typed.proofs.Growth.{place_grows, value_grows}
use Rattle.well_typed.proofs.StatementGrowth.{initials_grow, statement_grows, block_statement_grows}
use Rattle.well_typed.proofs.laws.law_grows.Goals as goal

pub returns-clause-places : goal.returns-clause-places
returns-clause-places c = λ old new grows q kind typed. place_grows grows typed

pub returns-clause-values : goal.returns-clause-values
returns-clause-values c = λ old new grows x kind typed. value_grows grows typed

pub returns-clause-initials : goal.returns-clause-initials
returns-clause-initials c = λ old new extends before after stores more all. initials_grow extends more stores all

pub returns-clause-statements : goal.returns-clause-statements
returns-clause-statements c = λ old new grows s typed. statement_grows grows typed

pub returns-clause-blocks : goal.returns-clause-blocks
returns-clause-blocks c = λ old new grows b typed. block_statement_grows grows typed
