use Rattle.std.proofs.Common.{◌≡◌, drop}
use Rattle.c_lexer.specs.Numbers as numbers
use Rattle.c_lexer.proofs.numbers.first_type.Given as goal

abbrev pub invariant-loop-kind : goal.invariant-loop-kind
invariant-loop-kind l = numbers.first_type l.value (drop l.kind-index l.types) ≡ numbers.first_type l.value l.types
