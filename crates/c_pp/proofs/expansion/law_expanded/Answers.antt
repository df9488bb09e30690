use Rattle.c_pp.proofs.Drawn.{drawn}
use Rattle.c_pp.proofs.Readings.{expanded_one, not_both, refuses_one}
use Rattle.c_pp.proofs.Totality.{one_of_both}
use Rattle.c_pp.proofs.expansion.law_expanded.Goals as goal

pub returns-clause-one_list : goal.returns-clause-one_list
returns-clause-one_list c text ts a b d e = expanded_one d.expanded e.expanded

pub returns-clause-not_both : goal.returns-clause-not_both
returns-clause-not_both c text ts out e d r = not_both d.expanded d.few r

pub returns-clause-one_reason : goal.returns-clause-one_reason
returns-clause-one_reason c text ts d e a b = refuses_one a b

pub returns-clause-one_of_both : goal.returns-clause-one_of_both
returns-clause-one_of_both c text ts = one_of_both text ts

pub returns-clause-drawn : goal.returns-clause-drawn
returns-clause-drawn c text ts out d = drawn d.expanded
