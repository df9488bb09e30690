-- A tree is well typed exactly where its layer fits a rule: how a derivation for a tree is made, and what it says.
--
-- For a variant the equation is `outs-VARIANT` of its type's variants.
use Rattle.std.proofs.Common.{◌≡◌, ℕ, sym, subst}
use Rattle.c_tree.specs.declared.values.Place.{Place, out-Place}
use Rattle.c_tree.specs.declared.values.Value.{Value, out-Value}
use Rattle.c_tree.specs.declared.statements.Statement.{Statement, out-Statement}
use Rattle.well_typed.specs.Surroundings.{PlaceLayer, ValueLayer, Surroundings}
use Rattle.well_typed.specs.Expressions.{IsPlace, place, PlaceRule, IsValue, value, ValueRule}
use Rattle.well_typed.specs.Initialisers.{Declared, IsPart, part, PartRule}
use Rattle.well_typed.specs.Statements.{StatementLayer, Position, IsStatement, statement, StatementRule}

module _ {around : Surroundings} {kind : ℕ} where
  pub make_place : {q : Place} {layer : PlaceLayer} → out-Place q ≡ layer → PlaceRule around layer kind →
      IsPlace around q kind
  make_place opens rule = place (subst (λ layer. PlaceRule around layer kind) (sym opens) rule)

  pub rule_of_place : {q : Place} {layer : PlaceLayer} → out-Place q ≡ layer → IsPlace around q kind →
      PlaceRule around layer kind
  rule_of_place opens (place rule) = subst (λ layer. PlaceRule around layer kind) opens rule

  pub make_value : {x : Value} {layer : ValueLayer} → out-Value x ≡ layer → ValueRule around layer kind →
      IsValue around x kind
  make_value opens rule = value (subst (λ layer. ValueRule around layer kind) (sym opens) rule)

  pub rule_of_value : {x : Value} {layer : ValueLayer} → out-Value x ≡ layer → IsValue around x kind →
      ValueRule around layer kind
  rule_of_value opens (value rule) = subst (λ layer. ValueRule around layer kind) opens rule

  pub make_part : {declares : Declared} {q : Place} {layer : PlaceLayer} → out-Place q ≡ layer →
      PartRule around declares layer kind → IsPart around declares q kind
  make_part {declares} opens rule = part (subst (λ layer. PartRule around declares layer kind) (sym opens) rule)

  pub rule_of_part : {declares : Declared} {q : Place} {layer : PlaceLayer} → out-Place q ≡ layer →
      IsPart around declares q kind → PartRule around declares layer kind
  rule_of_part {declares} opens (part rule) = subst (λ layer. PartRule around declares layer kind) opens rule

module _ {position : Position} where
  pub make_statement : {s : Statement} {layer : StatementLayer} → out-Statement s ≡ layer →
      StatementRule position layer → IsStatement position s
  make_statement opens rule = statement (subst (StatementRule position) (sym opens) rule)

  pub rule_of_statement : {s : Statement} {layer : StatementLayer} → out-Statement s ≡ layer → IsStatement position s →
      StatementRule position layer
  rule_of_statement opens (statement rule) = subst (StatementRule position) opens rule
