-- What `atomic_fetch_add` makes of two arguments.
use Rattle.std.proofs.Common.{◌≡◌, refl, sym, ap, ◌∙◌, ℕ, List, [], ◌∷◌, length, Option, Some, None}
use Rattle.std.specs.Prelude.{is_none, is_some, not}
use Rattle.c_types.specs.Table.{Types}
use Rattle.static_rules.specs.Calls.{added_by, fetch_add_node, fetch_add_of, whole_target}
use Rattle.static_rules.specs.Operands.{changed_if, conversion, converted, seen}
use Rattle.static_rules.specs.declared.judged.Operand.{Operand}
use Rattle.static_rules.specs.declared.plans.Change.{Change}
use Rattle.call_steps.specs.Adding.{how_added, addition_by, addition_to, sum_by}
use Rattle.call_steps.specs.declared.added.Addition.{Addition}

module _ (types : Types) (line : ℕ) (x y : Operand) where
  by_change : (kind : ℕ) (how : Option Change) →
      sum_by line x y (addition_by kind how) ≡ added_by line kind x (changed_if line y how)
  by_change kind (Some how) = refl
  by_change kind None = refl

  by_target : (to : Option ℕ) → sum_by line x y (addition_to types y to) ≡ fetch_add_of types line x y to
  unfolding converted
  by_target (Some kind) = by_change kind (conversion types kind (seen y))
  by_target None = refl

  -- by the type of the sum, and by how the number is converted
  pub sum_is : fetch_add_of types line x y (whole_target types x.kind) ≡ sum_by line x y (how_added types x y)
  unfolding how_added
  sum_is = sym (by_target (whole_target types x.kind))

  is_sum : (found : Option Addition) → not (is_some (sum_by line x y found)) ≡ is_none found
  is_sum (Some a) = refl
  is_sum None = refl

  pub misfits_of_two :
      not (is_some (fetch_add_of types line x y (whole_target types x.kind))) ≡ is_none (how_added types x y)
  misfits_of_two = ap (λ (made : Option Operand). not (is_some made)) sum_is ∙ is_sum (how_added types x y)

pub not_two : (types : Types) (line : ℕ) (xs : List Operand) → ¬ (length xs ≡ 2) → fetch_add_node types line xs ≡ None
not_two types line [] other = refl
not_two types line (x ∷ []) other = refl
not_two types line (x ∷ y ∷ []) other = absurd (other refl)
not_two types line (x ∷ y ∷ z ∷ rest) other = refl
