use Rattle.std.proofs.Common.{◌≡◌, ◌++◌, drop}
use Rattle.token_reader.specs.Scoping.{types_of, start_numbers}
use Rattle.token_reader.proofs.scope.Scope.with_typedefs.Given as goal

abbrev pub invariant-loop-i : goal.invariant-loop-i
invariant-loop-i l = l.scope ≡ types_of (drop l.i l.typedefs ++ start_numbers)
