-- What the parameters of the functions that each text has take.
use Rattle.operand_plans.specs.declared.calls.Parameter.{Parameter}
use Rattle.operand_plans.specs.declared.calls.Parameter.TheVariants as p
use Rattle.static_rules.specs.Calls.{Taken, Kind, Pointer_to}

-- what a parameter takes, as the rules of calls have it
abbrev pub taken : Parameter → Taken
taken (p.Kind kind) = Kind kind
taken (p.PointerTo to) = Pointer_to to
