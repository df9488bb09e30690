use Rattle.std.proofs.Common.{◌≡◌, take}
use Rattle.declaration_rules.specs.Parts.{kinds_of}
use Rattle.declarator_rules.proofs.parts.kinds_of.Given as goal

abbrev pub invariant-loop-variable : goal.invariant-loop-variable
invariant-loop-variable l = l.kinds ≡ kinds_of (take l.variable-index l.variables)
