-- How `atomic_fetch_add` adds its second argument to what the first one points to.
use Rattle.std.specs.Prelude.{ℕ, Option, Some, None}
use Rattle.c_types.specs.Table.{Types}
use Rattle.static_rules.specs.Calls.{added_by, whole_target}
use Rattle.static_rules.specs.Operands.{changed, conversion, seen}
use Rattle.static_rules.specs.declared.judged.Operand.{Operand}
use Rattle.static_rules.specs.declared.plans.Change.{Change}
use Rattle.call_steps.specs.declared.added.Addition.{Addition}

abbrev pub addition_by : ℕ → Option Change → Option Addition
addition_by kind (Some how) = Some (record { kind = kind; how = how })
addition_by kind None = None

abbrev pub addition_to : Types → Operand → Option ℕ → Option Addition
addition_to types y (Some kind) = addition_by kind (conversion types kind (seen y))
addition_to types y None = None

-- the type of the sum, and how the second argument becomes one of it; nothing where the two do not fit
unfoldable pub how_added : Types → Operand → Operand → Option Addition
how_added types x y = addition_to types y (whole_target types x.kind)

-- the node of the sum
abbrev pub sum_by : ℕ → Operand → Operand → Option Addition → Option Operand
sum_by line x y (Some a) = added_by line a.kind x (Some (changed line a.how y))
sum_by line x y None = None
