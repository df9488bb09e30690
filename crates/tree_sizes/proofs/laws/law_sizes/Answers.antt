use Rattle.tree_sizes.proofs.UnitSizes.{unit_small, type_name_small}
use Rattle.tree_sizes.proofs.laws.law_sizes.Goals as goal

pub returns-clause-unit : goal.returns-clause-unit
returns-clause-unit c = unit_small

pub returns-clause-type_name : goal.returns-clause-type_name
returns-clause-type_name c = type_name_small
