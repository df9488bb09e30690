-- Conversions as by assignment (C11 6.5.16.1): each that the types decide suits its operand.
use Rattle.std.proofs.Common.{◌≡◌, ℕ, ◌==◌, true, false, Some, None, Option, refl, ap, ◌∙◌, subst}
use Rattle.std.specs.Prelude.{if◌then◌else◌}
use Rattle.std.proofs.lemmas.Bool.{eqb-true, eqb-false}
use Rattle.c_types.specs.Table.{Types}
use Rattle.c_tree.specs.declared.values.Value.{out-Value}
use Rattle.whole_numbers.specs.Laws.{ConversionLaw}
use Rattle.well_typed.specs.Growth.{TypesGrow}
use Rattle.well_typed.specs.Kinds.{is_whole, target, sized_target, sized_by, has_size}
use Rattle.well_typed.specs.Surroundings.{Surroundings}
use Rattle.static_rules.specs.declared.judged.Operand.{Operand}
use Rattle.static_rules.specs.declared.plans.Change.{Change}
use Rattle.static_rules.specs.Operands.{seen, is_null, from_void, between_pointers, to_pointer, conversion, allocates_at, changed, changed_if, converted}
use Rattle.expression_laws.specs.Operands.{IsOperand}
use Rattle.expression_laws.specs.Tables.{HasOneVoidPointer}
use Rattle.expression_laws.proofs.Choices.{if_some, if_allowed, if_either, some_same}
use Rattle.expression_laws.proofs.Changing.{Suits, stays, becomes_null, keeps, checks, allocates, suits_whole, kind_changed, operand_changed}

-- a pointer to a type with a size
pub sized_from : (types : Types) (kind to : ℕ) → target types kind ≡ Some to → has_size types to ≡ true →
    sized_target types kind ≡ Some to
unfolding sized_target
sized_from types kind to is sized = ap (sized_by types) is ∙ ap (λ test. if test then Some to else None) sized

module _ (lawful : ConversionLaw) {around : Surroundings} (types : Types) (grows : TypesGrow types around.types)
    (one : HasOneVoidPointer types)
    (line : ℕ) (x : Operand) (good : IsOperand around x) (to : ℕ) where
  from_void_suits : (wanted : ℕ) → target types to ≡ Some wanted → target types x.kind ≡ Some 1 →
      (x.kind == to) ≡ false → (how : Change) →
      from_void types to wanted (seen x) ≡ Some how → Suits around x how to
  from_void_suits wanted is from other = if_either (λ how. Suits around x how to) (allocates_at (out-Value x.value))
      (λ made. if_allowed (λ how. Suits around x how to) (has_size types wanted)
      (λ sized. allocates made (grows.sized_targets to wanted (sized_from types to wanted is sized))))
      (λ made_not how found. subst (λ c. Suits around x c to) (some_same found) (checks (grows.targets x.kind 1 from)
      (grows.targets to wanted is)
      (λ void. eqb-false x.kind to other (one x.kind to from (is ∙ ap (λ n. Some n) void)))))

  between_suits : (wanted : ℕ) → target types to ≡ Some wanted → (x.kind == to) ≡ false → (found : Option ℕ) →
      target types x.kind ≡ found →
      (how : Change) → between_pointers types to wanted (seen x) found ≡ Some how → Suits around x how to
  between_suits wanted is other (Some has) from how made = if_either (λ how. Suits around x how to) (has == 1)
      (λ void. from_void_suits wanted is (from ∙ ap (λ n. Some n) (eqb-true has 1 void)) other)
      (λ no_void. if_allowed (λ how. Suits around x how to) (wanted == 1)
      (λ void. keeps (has, grows.targets x.kind has from) (grows.targets to 1 (is ∙
      ap (λ n. Some n) (eqb-true wanted 1 void)))))
      how made
  between_suits wanted is other None from how made = cc

  pointer_suits : (found : Option ℕ) → target types to ≡ found → (how : Change) →
      to_pointer types to (seen x) found ≡ Some how → Suits around x how to
  pointer_suits (Some wanted) is how made = if_some (λ how. Suits around x how to) (is_null (seen x))
      (λ null. becomes_null null (wanted, grows.targets to wanted is))
      (λ no_null. if_some (λ how. Suits around x how to) (x.kind == to) (λ same. stays (eqb-true x.kind to same))
      (λ other. between_suits wanted is other (target types x.kind) refl))
      how made
  pointer_suits None is how made = cc

  pub conversion_suits : (how : Change) → conversion types to (seen x) ≡ Some how → Suits around x how to
  unfolding conversion
  conversion_suits = if_either (λ how. Suits around x how to) (is_whole to)
      (λ wanted. if_allowed (λ how. Suits around x how to) (is_whole x.kind)
      (λ from. suits_whole lawful x good line to from wanted))
      (λ other. pointer_suits (target types to) refl)

  -- an operand as one of a type
  pub record Converts (y : Operand) : Type 0 where
    pub has_kind : y.kind ≡ to
    pub fits : IsOperand around y

  converts : (how : Change) → Suits around x how to → Converts (changed line how x)
  converts how suits = record {
    has_kind = kind_changed lawful x good line how to suits;
    fits =
        operand_changed lawful x good line how to suits;
  }

  by_change : (found : Option Change) → conversion types to (seen x) ≡ found → (y : Operand) →
      changed_if line x found ≡ Some y → Converts y
  by_change (Some how) is y made = subst Converts (some_same made) (converts how (conversion_suits how is))
  by_change None is y made = cc

  pub converted_typed : (y : Operand) → converted types line to x ≡ Some y → Converts y
  unfolding converted
  converted_typed y made = by_change (conversion types to (seen x)) refl y made
