-- Operands that fit surroundings: their value has their type, and what is known of them holds of their tree.
use Rattle.std.specs.Prelude.{◌≡◌, ℕ, Some, Ok, Err, IsFalse}
use Rattle.c_types.specs.Table.{Types}
use Rattle.c_tree.specs.declared.values.Value.{Value}
use Rattle.whole_numbers.specs.declared.trap.Trap.{Trap}
use Rattle.well_typed.specs.Constants.{constant, IsNullConstant}
use Rattle.well_typed.specs.Expressions.{IsValue}
use Rattle.well_typed.specs.Kinds.{is_whole, wrapped}
use Rattle.well_typed.specs.Surroundings.{Surroundings, IsWhole}
use Rattle.static_rules.specs.declared.judged.Known.{Known}
use Rattle.static_rules.specs.declared.judged.Known.TheVariants as known
use Rattle.static_rules.specs.declared.judged.Operand.{Operand}

-- what is known of a value of a type (C11 6.6, 6.3.2.3p3)
abbrev pub IsKnown : Types → Value → ℕ → Known → Type 0
IsKnown types x kind known.Nothing = Unit {0}
IsKnown types x kind (known.Number n) = IsWhole kind × (wrapped kind n ≡ n) × (constant x ≡ Some (Ok n))
IsKnown types x kind known.Traps = IsWhole kind × ((trap : Trap) × (constant x ≡ Some (Err trap)))
IsKnown types x kind known.NullPointer = IsFalse (is_whole kind) × IsNullConstant types x

pub record IsOperand (around : Surroundings) (x : Operand) : Type 0 where
  pub typed : IsValue around x.value x.kind
  pub known : IsKnown around.types x.value x.kind x.known
