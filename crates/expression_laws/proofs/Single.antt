-- Operators before one operand (C11 6.5.3.3).
use Rattle.std.proofs.Common.{◌≡◌, ℕ, pos, Bool, true, false, Some, refl, sym, ap, ◌∙◌}
use Rattle.std.specs.Prelude.{Ok, not}
use Rattle.std.specs.Ordering.{int_eq}
use Rattle.c_types.specs.Table.{Types}
use Rattle.c_tree.specs.declared.operators.UnaryOperator.{UnaryOperator}
use Rattle.c_tree.specs.declared.values.Value.{Value}
use Rattle.c_tree.specs.declared.values.Value.TheVariants as v
use Rattle.whole_numbers.specs.Laws.{ConversionLaw}
use Rattle.whole_numbers.specs.Operators.{unary_outcome, truth}
use Rattle.whole_numbers.specs.declared.unary.UnaryOperator.TheVariants as on_number
use Rattle.well_typed.specs.Constants.{constant, from_one, single_operator}
use Rattle.well_typed.specs.Expressions as t
use Rattle.well_typed.specs.Growth.{TypesGrow}
use Rattle.well_typed.specs.Kinds.{is_whole, whole_type, promoted, is_scalar}
use Rattle.well_typed.specs.Surroundings.{Surroundings, IsWhole, IsPromoted}
use Rattle.well_typed.proofs.Layers.{make_value}
use Rattle.well_typed.proofs.Steps.{constant_is}
use Rattle.static_rules.specs.declared.judged.Known.{Known}
use Rattle.static_rules.specs.declared.judged.Known.TheVariants as known
use Rattle.static_rules.specs.declared.judged.Operand.{Operand}
use Rattle.static_rules.specs.Constants.{known_unary, known_not}
use Rattle.static_rules.specs.Operands.{seen, to_whole, changed}
use Rattle.static_rules.specs.Operators.{unary, unary_node, negated}
use Rattle.expression_laws.specs.Operands.{IsKnown, IsOperand}
use Rattle.expression_laws.proofs.Choices.{if_some}
use Rattle.expression_laws.proofs.Knowing.{of_one, unary_stays, truth_is_int}
use Rattle.expression_laws.proofs.Changing.{suits_whole, value_changed, known_changed}
use Rattle.expression_laws.proofs.Ranks.{promoted_is}

not_not : (t : Bool) → not (not t) ≡ t
not_not true = refl
not_not false = refl

not_known : (types : Types) (x z : Value) (from : ℕ) (k : Known) →
    constant z ≡ from_one (constant x) (λ n. Ok (unary_outcome on_number.Not (whole_type 6) n)) →
    IsKnown types x from k →
    IsKnown types z 6 (known_not k)
unfolding known_not unary_outcome
not_known types x z from (known.Number n) is (whole, stays, p) = (
  refl,
  truth_is_int _,
  is ∙ (ap (λ one. from_one one (λ m. Ok (truth (int_eq m (pos 0))))) p ∙
      ap (λ t. Some (Ok (truth t))) (sym (not_not (int_eq n (pos 0))))),
)
not_known types x z from known.Traps is (whole, (trap, p)) =
    (refl, (trap, is ∙ ap (λ one. from_one one (λ m. Ok (truth (int_eq m (pos 0))))) p))
not_known types x z from known.Nothing is p = tt
not_known types x z from known.NullPointer is p = tt

module _ (lawful : ConversionLaw) {around : Surroundings} (line : ℕ) (x : Operand) (good : IsOperand around x) where
  promoted_typed : (operator : UnaryOperator) → IsWhole x.kind →
      IsOperand around (unary_node line operator (promoted x.kind) (changed line (to_whole (promoted x.kind)
      (seen x)) x))
  unfolding known_unary
  promoted_typed operator whole =
      let is : IsPromoted (promoted x.kind) = promoted_is x.kind in
      let suits = suits_whole lawful x good line (promoted x.kind) whole is.0 in record {
        typed = make_value (v.outs-Unary _ _ _) (t.unary (value_changed lawful x good line _
            (promoted x.kind) suits) is);
        known = of_one around.types _ (promoted x.kind) is.0 (unary_outcome (single_operator operator) (whole_type
            (promoted x.kind)))
            (unary_stays lawful operator (promoted x.kind)) _ (constant_is _ (v.outs-Unary _ _ _)) (promoted x.kind) _
            (known_changed lawful x good line _ (promoted x.kind) suits);
      }

  -- `+x`, `-x` and `~x`
  pub unary_typed : (operator : UnaryOperator) (y : Operand) → unary line operator x ≡ Some y → IsOperand around y
  unfolding unary
  unary_typed operator = if_some (IsOperand around) (is_whole x.kind) (promoted_typed operator) (λ other y found. cc)

  -- `!x`
  pub negated_typed : (types : Types) → TypesGrow types around.types → (y : Operand) → negated types line x ≡ Some y →
      IsOperand around y
  unfolding negated
  negated_typed types grows = if_some (IsOperand around) (is_scalar types x.kind)
      (λ scalar. record {
        typed = make_value (v.outs-Not _ _) (t.is_not good.typed (grows.scalars x.kind scalar));
        known = not_known around.types x.value _ x.kind x.known (constant_is _ (v.outs-Not _ _)) good.known;
      })
      (λ other y found. cc)
