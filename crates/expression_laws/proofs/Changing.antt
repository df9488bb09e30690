-- Operands that are converted: each conversion with the types that it wants (C11 6.3).
use Rattle.std.proofs.Common.{◌≡◌, ◌≢◌, ℕ, ◌==◌, pos, Bool, true, false, Some, refl, sym, ap, ◌∙◌, subst, inl}
use Rattle.std.specs.Prelude.{Ok, if◌then◌else◌}
use Rattle.std.proofs.lemmas.Bool.{eqb-true}
use Rattle.std.proofs.lemmas.Bool.Decides.{Decides-int_eq}
use Rattle.c_types.specs.Table.{Types}
use Rattle.c_tree.specs.declared.operators.Written.TheVariants as written
use Rattle.c_tree.specs.declared.values.At.{At}
use Rattle.c_tree.specs.declared.values.Value.{Value, Value-F, out-Value}
use Rattle.c_tree.specs.declared.values.Value.TheVariants as v
use Rattle.whole_numbers.specs.Laws.{ConversionLaw}
use Rattle.well_typed.specs.Constants.{IsNullConstant, zero}
use Rattle.well_typed.specs.Expressions as t
use Rattle.well_typed.specs.Expressions.{IsValue, ValueRule, IsAllocation}
use Rattle.well_typed.specs.Kinds.{wrapped}
use Rattle.well_typed.specs.Surroundings.{Surroundings, ValueLayer, at, IsWhole, PointsTo, PointsToSized, IsPointer, IsVoidPointer}
use Rattle.well_typed.proofs.Layers.{make_value, rule_of_value}
use Rattle.well_typed.proofs.Steps.{constant_is}
use Rattle.static_rules.specs.declared.judged.Operand.{Operand}
use Rattle.static_rules.specs.declared.judged.Known.{Known}
use Rattle.static_rules.specs.declared.judged.Known.TheVariants as known
use Rattle.static_rules.specs.declared.plans.Change.{Change}
use Rattle.static_rules.specs.declared.plans.Change.TheVariants as change
use Rattle.static_rules.specs.Constants.{known_as}
use Rattle.static_rules.specs.Operands.{seen, is_null, is_null_by, to_whole, allocates_at, allocation_at, allocation, changed}
use Rattle.expression_laws.specs.Operands.{IsKnown, IsOperand}
use Rattle.expression_laws.proofs.Knowing.{of_one, as_one, as_it_is, wrapped_stays}

-- a null pointer constant is one in the tree
null_by : (types : Types) (x : Value) (kind : ℕ) (k : Known) → IsKnown types x kind k → is_null_by k ≡ true →
    IsNullConstant types x
null_by types x kind (known.Number n) (whole, stays, is) null =
    zero (is ∙ ap (λ m. Some (Ok m)) ((Decides-int_eq n (pos 0)).0 null))
null_by types x kind known.NullPointer (other, null) is = null
null_by types x kind known.Traps p is = cc
null_by types x kind known.Nothing p is = cc

pub null_constant : (around : Surroundings) (x : Operand) → IsOperand around x → is_null (seen x) ≡ true →
    IsNullConstant around.types x.value
null_constant around x good is = null_by around.types x.value x.kind x.known good.known is

-- ---- `malloc` and `calloc`

-- such a call as one of a type
pub record Allocates (around : Surroundings) (x : Value) (to : ℕ) : Type 0 where
  pub typed : IsValue around x to
  pub itself : IsAllocation (out-Value x)

module _ {around : Surroundings} where
  size_of_one : {a : At} {element kind : ℕ} {size : Value} → ValueRule around (Value-F.Allocate a element size) kind →
      IsValue around size 9
  size_of_one (t.allocate is x) = x

  sizes_of_many : {a : At} {element kind : ℕ} {count size : Value} →
      ValueRule around (Value-F.AllocateMany a element count size) kind → IsValue around count 9 × IsValue around size 9
  sizes_of_many (t.allocate_many is x y) = (x, y)

  allocates_by : (x : Value) (kind to element : ℕ) (layer : ValueLayer) → out-Value x ≡ layer →
      allocates_at layer ≡ true →
      IsValue around x kind → PointsToSized around to element → Allocates around (allocation_at to element x layer) to
  allocates_by x kind to element (Value-F.Allocate a of size) opens is typed sized = record {
    typed = make_value (v.outs-Allocate _ _ _) (t.allocate (inl sized) (size_of_one (rule_of_value opens typed)));
    itself = subst IsAllocation (sym (v.outs-Allocate (at a.line to) element size)) tt;
  }
  allocates_by x kind to element (Value-F.AllocateMany a of count size) opens is typed sized =
      let parts : IsValue around count 9 × IsValue around size 9 = sizes_of_many (rule_of_value opens typed) in record {
        typed = make_value (v.outs-AllocateMany _ _ _ _) (t.allocate_many (inl sized) parts.0 parts.1);
        itself = subst IsAllocation (sym (v.outs-AllocateMany (at a.line to) element count size)) tt;
      }
  allocates_by x kind to element _ opens is typed sized = cc

  pub allocates_again : (x : Value) (kind to element : ℕ) → allocates_at (out-Value x) ≡ true → IsValue around x kind →
      PointsToSized around to element → Allocates around (allocation to element x) to
  allocates_again x kind to element is typed sized = allocates_by x kind to element (out-Value x) refl is typed sized

module _ (around : Surroundings) where
  -- ---- what each conversion wants

  pub data Suits (x : Operand) : Change → ℕ → Type 0 where
    stays : {to : ℕ} → x.kind ≡ to → Suits x change.Stay to
    becomes_whole : {to : ℕ} → IsWhole x.kind → IsWhole to → Suits x (change.Whole to) to
    becomes_null : {to : ℕ} → is_null (seen x) ≡ true → IsPointer around to → Suits x (change.Null to) to
    keeps : {to : ℕ} → IsPointer around x.kind → IsVoidPointer around to → Suits x (change.Keep to) to
    checks : {to wanted : ℕ} → IsVoidPointer around x.kind → PointsTo around to wanted → wanted ≢ 1 →
        Suits x (change.Check to) to
    allocates : {to element : ℕ} → allocates_at (out-Value x.value) ≡ true → PointsToSized around to element →
        Suits x (change.Allocate to element) to

module _ (lawful : ConversionLaw) {around : Surroundings} (x : Operand) (good : IsOperand around x) (line : ℕ) where
  pub value_changed : (how : Change) (to : ℕ) → Suits around x how to → IsValue around (changed line how x).value to
  unfolding changed
  value_changed change.Stay to (stays is) = subst (IsValue around x.value) is good.typed
  value_changed (change.Whole k) to (becomes_whole from wanted) =
      make_value (v.outs-Convert _ _ _) (t.convert good.typed from wanted)
  value_changed (change.Null k) to (becomes_null is pointer) =
      make_value (v.outs-NullPointer _ _ _) (t.null_pointer good.typed (null_constant around x good is) pointer)
  value_changed (change.Keep k) to (keeps from pointer) =
      make_value (v.outs-KeepPointer _ _ _) (t.keep_pointer good.typed from pointer)
  value_changed (change.Check k) to (checks from wanted differs) =
      make_value (v.outs-CheckPointer _ _ _) (t.check_pointer good.typed from wanted differs)
  value_changed (change.Allocate k element) to (allocates is sized) =
      (allocates_again x.value x.kind to element is good.typed sized).typed

  pub kind_changed : (how : Change) (to : ℕ) → Suits around x how to → (changed line how x).kind ≡ to
  unfolding changed
  kind_changed change.Stay to (stays is) = is
  kind_changed (change.Whole k) to (becomes_whole from wanted) = refl
  kind_changed (change.Null k) to (becomes_null is pointer) = refl
  kind_changed (change.Keep k) to (keeps from pointer) = refl
  kind_changed (change.Check k) to (checks from wanted differs) = refl
  kind_changed (change.Allocate k element) to (allocates is sized) = refl

  -- a number as one of another type
  converted_known : (to : ℕ) → IsWhole to →
      IsKnown around.types (v.Convert (at line to) written.Implicit x.value) to (known_as to x.known)
  converted_known to wanted = subst (IsKnown around.types (v.Convert (at line to) written.Implicit x.value) to) (sym
      (as_one to x.known))
      (of_one around.types (v.Convert (at line to) written.Implicit x.value) to wanted (wrapped to)
      (wrapped_stays lawful to) x.value
      (constant_is (v.Convert (at line to) written.Implicit x.value) (v.outs-Convert _ _ _)) x.kind x.known good.known)

  pub known_changed : (how : Change) (to : ℕ) → Suits around x how to →
      IsKnown around.types (changed line how x).value to (changed line how x).known
  unfolding changed
  known_changed change.Stay to (stays is) = subst (λ k. IsKnown around.types x.value k x.known) is good.known
  known_changed (change.Whole k) to (becomes_whole from wanted) = converted_known to wanted
  known_changed (change.Null k) to (becomes_null is pointer) = tt
  known_changed (change.Keep k) to (keeps from pointer) = tt
  known_changed (change.Check k) to (checks from wanted differs) = tt
  known_changed (change.Allocate k element) to (allocates is sized) = tt

  pub operand_changed : (how : Change) (to : ℕ) → Suits around x how to → IsOperand around (changed line how x)
  operand_changed how to suits = record {
    typed = subst (IsValue around (changed line how x).value) (sym (kind_changed how to suits))
        (value_changed how to suits);
    known = subst (λ k. IsKnown around.types (changed line how x).value k (changed line how x).known)
        (sym (kind_changed how to suits)) (known_changed how to suits);
  }

  -- ---- to whole numbers

  whole_by : (to : ℕ) (test : Bool) → (x.kind == to) ≡ test → IsWhole x.kind → IsWhole to →
      Suits around x (if test then change.Stay else change.Whole to) to
  whole_by to true same from wanted = stays (eqb-true x.kind to same)
  whole_by to false same from wanted = becomes_whole from wanted

  pub suits_whole : (to : ℕ) → IsWhole x.kind → IsWhole to → Suits around x (to_whole to (seen x)) to
  suits_whole to from wanted = whole_by to (x.kind == to) refl from wanted

  known_by : (to : ℕ) (test : Bool) → (x.kind == to) ≡ test → IsWhole to →
      IsKnown around.types (changed line (if test then change.Stay else change.Whole to) x).value to
      (known_as to x.known)
  unfolding changed
  known_by to true same wanted = as_it_is around.types x.value to x.known
      (subst (λ k. IsKnown around.types x.value k x.known) (eqb-true x.kind to same) good.known)
  known_by to false same wanted = converted_known to wanted

  -- what is known of it as one of that type, whether it had it before or not
  pub known_whole : (to : ℕ) → IsWhole to →
      IsKnown around.types (changed line (to_whole to (seen x)) x).value to (known_as to x.known)
  known_whole to wanted = known_by to (x.kind == to) refl wanted
