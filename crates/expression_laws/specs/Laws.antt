-- What holds of the operands that rules answer.
use Rattle.std.specs.Prelude.{◌≡◌, ℕ, Some}
use Rattle.c_types.specs.Table.{Types}
use Rattle.c_grammar.specs.declared.words.Binary.{Binary}
use Rattle.c_tree.specs.declared.operators.UnaryOperator.{UnaryOperator}
use Rattle.well_typed.specs.Growth.{TypesGrow}
use Rattle.well_typed.specs.Surroundings.{Surroundings}
use Rattle.static_rules.specs.declared.judged.Operand.{Operand}
use Rattle.static_rules.specs.Operands.{converted}
use Rattle.static_rules.specs.Operators.{unary, negated}
use Rattle.static_rules.specs.Plans.{joined}
use Rattle.static_rules.specs.Sorts.{sort_of}
use Rattle.expression_laws.specs.Operands.{IsOperand}
use Rattle.expression_laws.specs.Tables.{HasOneVoidPointer}

-- All surroundings whose table has grown from the one that the rule asks.
abbrev pub BinaryLaw : Type 0
BinaryLaw = (around : Surroundings) (types : Types) → TypesGrow types around.types →
    (line : ℕ) (operator : Binary) (a b x : Operand) →
    IsOperand around a → IsOperand around b → joined types line (sort_of operator) a b ≡ Some x → IsOperand around x

abbrev pub UnaryLaw : Type 0
UnaryLaw = (around : Surroundings) (line : ℕ) (operator : UnaryOperator) (x y : Operand) → IsOperand around x →
    unary line operator x ≡ Some y → IsOperand around y

abbrev pub NotLaw : Type 0
NotLaw = (around : Surroundings) (types : Types) → TypesGrow types around.types → (line : ℕ) (x y : Operand) →
    IsOperand around x →
    negated types line x ≡ Some y → IsOperand around y

-- An operand that is converted has the type to which it is.
abbrev pub ConvertedLaw : Type 0
ConvertedLaw = (around : Surroundings) (types : Types) → TypesGrow types around.types → HasOneVoidPointer types →
    (line to : ℕ) (x y : Operand) →
    IsOperand around x → converted types line to x ≡ Some y → IsOperand around y × (y.kind ≡ to)
