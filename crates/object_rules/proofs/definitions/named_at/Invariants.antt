use Rattle.std.proofs.Common.{◌≡◌, take, map}
use Rattle.declaration_rules.specs.Definitions.{named_at}
use Rattle.object_rules.proofs.definitions.named_at.Given as goal

abbrev pub invariant-loop-parameter : goal.invariant-loop-parameter
invariant-loop-parameter l = l.named ≡ map (named_at l.line) (take l.parameter-index l.parameters)
