use Rattle.tree_sizes.proofs.UnitDepths.{unit_shallow, type_name_shallow}
use Rattle.tree_sizes.proofs.laws.law_depths.Goals as goal

pub returns-clause-unit : goal.returns-clause-unit
returns-clause-unit c = unit_shallow

pub returns-clause-type_name : goal.returns-clause-type_name
returns-clause-type_name c = type_name_shallow
