-- How much a state has at a place of the text.
use Rattle.std.specs.Prelude.{length, take}
use Rattle.static_rules.specs.declared.states.State.{State}
use Rattle.declarator_rules.specs.declared.marks.Marks.{Marks}

abbrev pub marks_of : State → Marks
marks_of s = record { variables = length s.variables; symbols = length s.symbols; tags = length s.tags }

-- the state with no more than it had there
abbrev pub back_to : Marks → State → State
back_to before s = record s {
  symbols = take before.symbols s.symbols;
  tags = take before.tags s.tags;
  variables = take before.variables s.variables;
}
