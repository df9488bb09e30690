use Rattle.c_types.proofs.Later.{trees_kept}
use Rattle.c_types.proofs.Laters.{later_added, later_tag, later_completed, chain}
use Rattle.c_types.proofs.laws.law_later.Goals as goal

pub returns-clause-added : goal.returns-clause-added
returns-clause-added c = later_added

pub returns-clause-tag : goal.returns-clause-tag
returns-clause-tag c = later_tag

pub returns-clause-completed : goal.returns-clause-completed
returns-clause-completed c = later_completed

pub returns-clause-chain : goal.returns-clause-chain
returns-clause-chain c = chain

pub returns-clause-trees : goal.returns-clause-trees
returns-clause-trees c old new n before after later number known =
    trees_kept old new before.order before.ordered before.few later n (before.known n number known)
