use Rattle.std.proofs.Common.{◌≡◌, ◌++◌, drop}
use Rattle.static_rules.specs.Predefined.{predefined_from}
use Rattle.declarator_rules.proofs.beginning.predefined_names.Given as goal

abbrev pub invariant-loop-place : goal.invariant-loop-place
invariant-loop-place l =
    l.names ++ predefined_from l.place (drop l.place l.texts.names) ≡ predefined_from 0 l.texts.names
