use Rattle.std.proofs.Common.{◌≡◌, drop, take}
use Rattle.std.specs.Prelude.{reverse}
use Rattle.token_reader.proofs.ScopeLemmas.{all_of}
use Rattle.token_reader.proofs.scope.Scope.since.Given as goal

abbrev pub invariant-loop-place : goal.invariant-loop-place
invariant-loop-place l = l.own ≡ reverse (drop l.count (take l.place (all_of l.self-inside.names l.self-inside.kinds.items)))
