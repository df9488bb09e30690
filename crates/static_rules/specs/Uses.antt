-- What statements and declarations want of an expression, over a reader of expressions.
use Rattle.std.specs.Prelude.{ℕ, ℤ, Bool, true, false, List, Option, Some, None, Ok, if◌then◌else◌}
use Rattle.c_grammar.specs.declared.phrases.Expression.{Expression}
use Rattle.c_tree.specs.declared.values.Value.{Value}
use Rattle.static_rules.specs.declared.faults.CheckKind.TheVariants as why
use Rattle.static_rules.specs.declared.faults.Feature.TheVariants as feature
use Rattle.static_rules.specs.declared.judged.Judged.{Judged}
use Rattle.static_rules.specs.declared.judged.Known.{Known}
use Rattle.static_rules.specs.declared.judged.Known.TheVariants as known
use Rattle.static_rules.specs.declared.judged.Operand.{Operand}
use Rattle.well_typed.specs.Kinds.{is_scalar}
use Rattle.static_rules.specs.Answers.{Answer, ◌>>=◌, fault}
use Rattle.static_rules.specs.Expressions.{literal_of}
use Rattle.static_rules.specs.Lines.{line_of}
use Rattle.static_rules.specs.Operands.{valued}
use Rattle.static_rules.specs.Primaries.{string_type}
use Rattle.static_rules.specs.Source.{Source}
use Rattle.static_rules.specs.declared.states.State.{State}
use Rattle.static_rules.specs.declared.states.Where.{Where}

abbrev pub number_known : ℕ → State → Known → Answer (ℤ × State)
number_known here s (known.Number n) = Ok (n, s)
number_known here s _ = fault (why.LeftOut feature.ArraySize) here

abbrev pub scalar_value : ℕ → Operand × State → Answer (Value × State)
scalar_value here r = if is_scalar r.1.types r.0.kind then Ok (r.0.value, r.1) else fault why.TypeMismatch here

abbrev pub bytes_of : ℕ → State → Option (List ℕ) → Option (Answer (List ℕ × State))
bytes_of here s (Some bytes) = Some (string_type here s bytes >>= λ r. Ok (bytes, r.1))
bytes_of here s None = None

module _ (expression : Where → State → Expression → Answer (Judged × State)) where
  -- its value
  unfoldable pub operand : Where → State → Expression → Answer (Operand × State)
  operand w s e = expression w s e >>= λ r. Ok (valued w.line r.1 r.0)

  -- a constant expression of whole numbers that does not trap (C11 6.6p6), for a size, the value of an enumeration or a case,
  -- which is at fault where it is none
  unfoldable pub constant : ℕ → Where → State → Expression → Answer (ℤ × State)
  constant here w s e = expression w s e >>= λ r. number_known here r.1 r.0.known

  -- the value of a condition: a number or a pointer (C11 6.8.4.1p1, 6.8.5p2)
  unfoldable pub condition : Where → State → Expression → Answer (Value × State)
  condition w s e = operand w s e >>= scalar_value (line_of e)

-- The bytes of string literals without parentheses, with the state that has their type; they make no object.
unfoldable pub literal : Source → Where → State → Expression → Option (Answer (List ℕ × State))
literal source w s e = bytes_of (line_of e) s (literal_of source e)
