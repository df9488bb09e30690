-- Two operands under an operator (C11 6.5.5 to 6.5.14): what each plan wants of them, and that every plan that the
-- types decide wants no more than they are.
use Rattle.std.proofs.Common.{◌≡◌, ℕ, true, Some, None, Option, refl, sym, ap, ◌∙◌, subst}
use Rattle.std.specs.Prelude.{IsTrue, IsFalse, is_some, ◌&&◌}
use Rattle.std.proofs.lemmas.Bool.{and_parts, eqb-true}
use Rattle.c_types.specs.Table.{Types}
use Rattle.c_grammar.specs.declared.words.Binary.{Binary}
use Rattle.c_grammar.specs.declared.words.Binary.TheVariants as binary
use Rattle.c_tree.specs.declared.operators.Operator.{Operator}
use Rattle.c_tree.specs.declared.operators.Operator.TheVariants as o
use Rattle.c_tree.specs.declared.operators.Comparison.{Comparison}
use Rattle.c_tree.specs.declared.operators.Comparison.TheVariants as c
use Rattle.c_tree.specs.declared.operators.LogicalOperator.{LogicalOperator}
use Rattle.c_tree.specs.declared.values.Value.{Value}
use Rattle.c_tree.specs.declared.values.Value.TheVariants as v
use Rattle.whole_numbers.specs.Laws.{ConversionLaw}
use Rattle.whole_numbers.specs.Operators.{outcome}
use Rattle.well_typed.specs.Constants.{constant, from_two, number_operator, number_comparison}
use Rattle.well_typed.specs.Expressions as t
use Rattle.well_typed.specs.Expressions.{IsValue}
use Rattle.well_typed.specs.Growth.{TypesGrow}
use Rattle.well_typed.specs.Kinds.{is_whole, whole_type, promoted, usual, target, sized_target, is_void_pointer, void_by, is_scalar}
use Rattle.well_typed.specs.Surroundings.{Surroundings, at, is_shift, is_equality, IsWhole, IsPromoted, IsScalar, IsPointer, IsSizedPointer, IsVoidPointer}
use Rattle.well_typed.proofs.Layers.{make_value}
use Rattle.well_typed.proofs.Steps.{constant_is}
use Rattle.static_rules.specs.declared.judged.Operand.{Operand}
use Rattle.static_rules.specs.declared.judged.Known.{Known}
use Rattle.static_rules.specs.declared.judged.Known.TheVariants as known
use Rattle.static_rules.specs.declared.plans.Change.{Change}
use Rattle.static_rules.specs.declared.plans.Change.TheVariants as change
use Rattle.static_rules.specs.declared.plans.Joint.{Joint}
use Rattle.static_rules.specs.declared.plans.Joint.TheVariants as joint
use Rattle.static_rules.specs.declared.plans.Plan.{Plan}
use Rattle.static_rules.specs.Constants.{known_as, known_binary, known_comparison}
use Rattle.static_rules.specs.Operands.{seen, is_null, changed}
use Rattle.static_rules.specs.Plans.{plan, both_whole, computed, compared, in_common, shifted, is_sized, is_pointer, same_type, pointers, sum, difference, equal_pointers, equal, ordered, both_scalar, logical, planned, node, built, built_if, joined}
use Rattle.static_rules.specs.Sorts.{Sort, Arithmetic, Shift, Sum, Difference, Equality, Order, Logical, sort_of}
use Rattle.expression_laws.specs.Operands.{IsKnown, IsOperand}
use Rattle.expression_laws.proofs.Choices.{if_some, if_allowed, is_some_of, some_same}
use Rattle.expression_laws.proofs.Knowing.{of_both, of_logical, outcome_stays, comparison_stays}
use Rattle.expression_laws.proofs.Changing.{Suits, stays, becomes_null, keeps, suits_whole, value_changed, known_whole}
use Rattle.expression_laws.proofs.Ranks.{promoted_is, usual_is}

-- a comparison is the same of each type
comparison_same : (comparison : Comparison) (kind : ℕ) →
    outcome (number_comparison comparison) (whole_type 6) ≡ outcome (number_comparison comparison) (whole_type kind)
unfolding outcome
comparison_same c.Equal kind = refl
comparison_same c.NotEqual kind = refl
comparison_same c.Less kind = refl
comparison_same c.Greater kind = refl
comparison_same c.LessEqual kind = refl
comparison_same c.GreaterEqual kind = refl

-- ---- what each operator is

-- the sorts that operators of the grammar have
pub data IsSort : Sort → Type 0 where
  arithmetic : {operator : Operator} → IsFalse (is_shift operator) → IsSort (Arithmetic operator)
  shift : {operator : Operator} → IsTrue (is_shift operator) → IsSort (Shift operator)
  a_sum : IsSort Sum
  a_difference : IsSort Difference
  equality : {comparison : Comparison} → IsTrue (is_equality comparison) → IsSort (Equality comparison)
  order : {comparison : Comparison} → IsFalse (is_equality comparison) → IsSort (Order comparison)
  a_test : {operator : LogicalOperator} → IsSort (Logical operator)

pub sort_is : (operator : Binary) → IsSort (sort_of operator)
sort_is binary.Multiply = arithmetic refl
sort_is binary.Divide = arithmetic refl
sort_is binary.Remainder = arithmetic refl
sort_is binary.And = arithmetic refl
sort_is binary.ExclusiveOr = arithmetic refl
sort_is binary.Or = arithmetic refl
sort_is binary.Add = a_sum
sort_is binary.Subtract = a_difference
sort_is binary.ShiftLeft = shift refl
sort_is binary.ShiftRight = shift refl
sort_is binary.Equal = equality refl
sort_is binary.NotEqual = equality refl
sort_is binary.Less = order refl
sort_is binary.Greater = order refl
sort_is binary.LessEqual = order refl
sort_is binary.GreaterEqual = order refl
sort_is binary.LogicalOr = a_test
sort_is binary.LogicalAnd = a_test

module _ (around : Surroundings) where
  -- the types that a node wants of its operands, and the one that it has
  pub data Joins : Joint → ℕ → ℕ → ℕ → Type 0 where
    whole : {operator : Operator} {kind : ℕ} → IsFalse (is_shift operator) → IsPromoted kind →
        Joins (joint.Binary operator) kind kind kind
    by_shift : {operator : Operator} {kind by : ℕ} → IsTrue (is_shift operator) → IsPromoted kind → IsPromoted by →
        Joins (joint.Binary operator) kind by kind
    numbers : {comparison : Comparison} {kind : ℕ} → IsPromoted kind → Joins (joint.Compare comparison) kind kind 6
    equal_to : {comparison : Comparison} {kind : ℕ} → IsTrue (is_equality comparison) → IsPointer around kind →
        Joins (joint.ComparePointers comparison) kind kind 6
    before : {comparison : Comparison} {kind : ℕ} → IsFalse (is_equality comparison) → IsSizedPointer around kind →
        Joins (joint.ComparePointers comparison) kind kind 6
    advance : {kind by : ℕ} → IsSizedPointer around kind → IsWhole by → Joins joint.Advance kind by kind
    advance_first : {kind by : ℕ} → IsSizedPointer around kind → IsWhole by → Joins joint.AdvanceFirst by kind kind
    retreat : {kind by : ℕ} → IsSizedPointer around kind → IsWhole by → Joins joint.Retreat kind by kind
    apart : {kind : ℕ} → IsSizedPointer around kind → Joins joint.Difference kind kind 8
    tests : {operator : LogicalOperator} {left right : ℕ} → IsScalar around left → IsScalar around right →
        Joins (joint.Logical operator) left right 6

module _ {around : Surroundings} where
  pub node_typed : (line : ℕ) (how : Joint) (left right kind : ℕ) (x y : Value) → Joins around how left right kind →
      IsValue around x left →
      IsValue around y right → IsValue around (node (at line kind) how x y) kind
  node_typed line (joint.Binary operator) left right kind x y (whole other is) p q =
      make_value (v.outs-Binary _ _ _ _) (t.binary other p q is)
  node_typed line (joint.Binary operator) left right kind x y (by_shift is one two) p q =
      make_value (v.outs-Binary _ _ _ _) (t.shift is p one q two)
  node_typed line (joint.Compare comparison) left right kind x y (numbers is) p q =
      make_value (v.outs-Compare _ _ _ _) (t.compare p q is)
  node_typed line (joint.ComparePointers comparison) left right kind x y (equal_to is pointer) p q =
      make_value (v.outs-ComparePointers _ _ _ _) (t.equal_pointers is p q pointer)
  node_typed line (joint.ComparePointers comparison) left right kind x y (before is pointer) p q =
      make_value (v.outs-ComparePointers _ _ _ _) (t.order_pointers is p q pointer)
  node_typed line joint.Advance left right kind x y (advance pointer by) p q =
      make_value (v.outs-Advance _ _ _) (t.advance p pointer q by)
  node_typed line joint.AdvanceFirst left right kind x y (advance_first pointer by) p q =
      make_value (v.outs-AdvanceFirst _ _ _) (t.advance_first p by q pointer)
  node_typed line joint.Retreat left right kind x y (retreat pointer by) p q =
      make_value (v.outs-Retreat _ _ _) (t.retreat p pointer q by)
  node_typed line joint.Difference left right kind x y (apart pointer) p q =
      make_value (v.outs-Difference _ _ _) (t.difference p q pointer)
  node_typed line (joint.Logical operator) left right kind x y (tests one two) p q =
      make_value (v.outs-Logical _ _ _ _) (t.logical p one q two)

-- What a plan wants of its operands.
pub record Fits (around : Surroundings) (line : ℕ) (a b : Operand) (p : Plan) : Type 0 where
  pub left : ℕ
  pub right : ℕ
  pub left_suits : Suits around a p.left left
  pub right_suits : Suits around b p.right right
  pub joins : Joins around p.joint left right p.kind
  pub knows : IsKnown around.types (node (at line p.kind) p.joint (changed line p.left a).value
      (changed line p.right b).value) p.kind p.known

module _ (lawful : ConversionLaw) {around : Surroundings} (line : ℕ) (a b : Operand) (good : IsOperand around a)
    (other : IsOperand around b) where
  pub built_typed : (p : Plan) → Fits around line a b p → IsOperand around (built line p a b)
  unfolding built
  built_typed p fits = record {
    typed = node_typed line p.joint fits.left fits.right p.kind _ _ fits.joins
        (value_changed lawful a good line p.left fits.left fits.left_suits)
        (value_changed lawful b other line p.right fits.right fits.right_suits);
    known = fits.knows;
  }

  -- ---- whole numbers

  computed_fits : (operator : Operator) (left right : ℕ) → IsWhole a.kind → IsWhole b.kind → IsWhole left →
      IsWhole right →
      Joins around (joint.Binary operator) left right left →
      Fits around line a b (computed operator left right (seen a) (seen b))
  unfolding computed known_binary
  computed_fits operator left right one two wanted by joins = record {
    left = left;
    right = right;
    left_suits = suits_whole lawful a good line left one wanted;
    right_suits = suits_whole lawful b other line right two by;
    joins = joins;
    knows = of_both around.types _ left wanted (outcome (number_operator operator) (whole_type left))
        (outcome_stays lawful operator left) _ _
        (constant_is _ (v.outs-Binary _ _ _ _)) left right (known_as left a.known) (known_as right b.known)
        (known_whole lawful a good line left wanted) (known_whole lawful b other line right by);
  }

  -- what is known of a comparison, whose outcome is the same in each type
  compared_known : (comparison : Comparison) (kind : ℕ) (x y : Value) (k m : Known) → IsKnown around.types x kind k →
      IsKnown around.types y kind m →
      IsKnown around.types (v.Compare (at line 6) comparison x y) 6 (known_comparison comparison kind k m)
  unfolding known_comparison
  compared_known comparison kind x y k m p q = of_both around.types (v.Compare (at line 6) comparison x y) 6 refl
      (outcome (number_comparison comparison) (whole_type kind)) (comparison_stays comparison (whole_type kind)) x y
      (constant_is (v.Compare (at line 6) comparison x y) (v.outs-Compare _ _ _ _) ∙
      ap (from_two (constant x) (constant y)) (comparison_same comparison kind)) kind kind k m p q

  compared_fits : (comparison : Comparison) (kind : ℕ) → IsWhole a.kind → IsWhole b.kind → IsPromoted kind →
      Fits around line a b (compared comparison kind (seen a) (seen b))
  unfolding compared
  compared_fits comparison kind one two is = record {
    left = kind;
    right = kind;
    left_suits = suits_whole lawful a good line kind one is.0;
    right_suits = suits_whole lawful b other line kind two is.0;
    joins = numbers is;
    knows = compared_known comparison kind _ _ (known_as kind a.known) (known_as kind b.known)
        (known_whole lawful a good line kind is.0) (known_whole lawful b other line kind is.0);
  }

  whole_fits : (operator : Operator) → IsFalse (is_shift operator) → IsTrue (both_whole (seen a) (seen b)) →
      Fits around line a b (in_common operator (seen a) (seen b))
  whole_fits operator is both =
      let parts : IsWhole a.kind × IsWhole b.kind = and_parts _ _ both in
      let common : IsPromoted (usual a.kind b.kind) = usual_is a.kind b.kind in
      computed_fits operator (usual a.kind b.kind) (usual a.kind b.kind) parts.0 parts.1 common.0 common.0
      (whole is common)

  shift_fits : (operator : Operator) → IsTrue (is_shift operator) → IsTrue (both_whole (seen a) (seen b)) →
      Fits around line a b (shifted operator (seen a) (seen b))
  shift_fits operator is both =
      let parts : IsWhole a.kind × IsWhole b.kind = and_parts _ _ both in
      computed_fits operator (promoted a.kind) (promoted b.kind) parts.0 parts.1 (promoted_is a.kind).0
      (promoted_is b.kind).0
      (by_shift is (promoted_is a.kind) (promoted_is b.kind))

  numbers_fit : (comparison : Comparison) → IsTrue (both_whole (seen a) (seen b)) →
      Fits around line a b (compared comparison (usual a.kind b.kind) (seen a) (seen b))
  numbers_fit comparison both =
      let parts : IsWhole a.kind × IsWhole b.kind = and_parts _ _ both in
      compared_fits comparison (usual a.kind b.kind) parts.0 parts.1 (usual_is a.kind b.kind)

  -- ---- pointers

  -- operands that stay as they are
  both_stay : (how : Joint) (kind : ℕ) → Joins around how a.kind b.kind kind →
      Fits around line a b (plan change.Stay change.Stay how kind known.Nothing)
  both_stay how kind joins = record {
    left = a.kind;
    right = b.kind;
    left_suits = stays refl;
    right_suits = stays refl;
    joins = joins;
    knows = tt;
  }

  -- two pointers, each as one of a type
  as_one_type : (comparison : Comparison) (left right : Change) (kind : ℕ) → Suits around a left kind →
      Suits around b right kind →
      IsTrue (is_equality comparison) → IsPointer around kind → Fits around line a b (pointers comparison left right)
  as_one_type comparison left right kind one two is pointer = record {
    left = kind;
    right = kind;
    left_suits = one;
    right_suits = two;
    joins = equal_to is pointer;
    knows = tt;
  }

  tests_fit : (operator : LogicalOperator) → IsScalar around a.kind → IsScalar around b.kind →
      Fits around line a b (logical operator (seen a) (seen b))
  unfolding logical changed
  tests_fit operator one two = record {
    left = a.kind;
    right = b.kind;
    left_suits = stays refl;
    right_suits = stays refl;
    joins = tests one two;
    knows = of_logical around.types _ operator a.value b.value a.kind b.kind a.known b.known good.known other.known
        (constant_is _ (v.outs-Logical _ _ _ _));
  }

  -- ---- by the types of a table that has grown to that of the surroundings

  module _ (types : Types) (grows : TypesGrow types around.types) where
    pointer_is : (kind : ℕ) → is_some (target types kind) ≡ true → IsPointer around kind
    pointer_is kind is = let to : (to : ℕ) × (target types kind ≡ Some to) = is_some_of (target types kind) is in
        (to.0, grows.targets kind to.0 to.1)

    sized_is : (kind : ℕ) → is_some (sized_target types kind) ≡ true → IsSizedPointer around kind
    sized_is kind is = let to : (to : ℕ) × (sized_target types kind ≡ Some to) =
        is_some_of (sized_target types kind) is in
        (to.0, grows.sized_targets kind to.0 to.1)

    void_of : (kind : ℕ) (found : Option ℕ) → target types kind ≡ found → void_by found ≡ true →
        IsVoidPointer around kind
    void_of kind (Some to) found is = grows.targets kind 1 (found ∙ ap (λ n. Some n) (eqb-true to 1 is))
    void_of kind None found is = cc

    void_is : (kind : ℕ) → is_void_pointer types kind ≡ true → IsVoidPointer around kind
    unfolding is_void_pointer
    void_is kind is = void_of kind (target types kind) refl is

    void_points : (kind : ℕ) → is_void_pointer types kind ≡ true → IsPointer around kind
    void_points kind is = (1, void_is kind is)

    sum_fits : (p : Plan) → sum types (seen a) (seen b) ≡ Some p → Fits around line a b p
    unfolding sum
    sum_fits = if_some (Fits around line a b) (both_whole (seen a) (seen b)) (λ both. whole_fits o.Add refl both)
        (λ no_both. if_some (Fits around line a b) (is_sized types (seen a) && is_whole b.kind)
        (λ one. let parts : IsTrue (is_sized types (seen a)) × IsWhole b.kind = and_parts _ _ one in
        both_stay joint.Advance a.kind (advance (sized_is a.kind parts.0) parts.1))
        (λ no_one. if_allowed (Fits around line a b) (is_whole a.kind && is_sized types (seen b))
        (λ two. let parts : IsWhole a.kind × IsTrue (is_sized types (seen b)) = and_parts _ _ two in
        both_stay joint.AdvanceFirst b.kind (advance_first (sized_is b.kind parts.1) parts.0))))

    difference_fits : (p : Plan) → difference types (seen a) (seen b) ≡ Some p → Fits around line a b p
    unfolding difference
    difference_fits = if_some (Fits around line a b) (both_whole (seen a) (seen b))
        (λ both. whole_fits o.Subtract refl both)
        (λ no_both. if_some (Fits around line a b) (is_sized types (seen a) && is_whole b.kind)
        (λ one. let parts : IsTrue (is_sized types (seen a)) × IsWhole b.kind = and_parts _ _ one in
        both_stay joint.Retreat a.kind (retreat (sized_is a.kind parts.0) parts.1))
        (λ no_one. if_allowed (Fits around line a b) (is_sized types (seen a) && same_type (seen a) (seen b))
        (λ two. let parts : IsTrue (is_sized types (seen a)) × IsTrue (same_type (seen a) (seen b)) =
        and_parts _ _ two in
        both_stay joint.Difference 8 (subst (λ k. Joins around joint.Difference a.kind k 8)
        (eqb-true a.kind b.kind parts.1)
        (apart (sized_is a.kind parts.0))))))

    ordered_fits : (comparison : Comparison) → IsFalse (is_equality comparison) → (p : Plan) →
        ordered types comparison (seen a) (seen b) ≡ Some p → Fits around line a b p
    unfolding ordered
    ordered_fits comparison is = if_some (Fits around line a b) (both_whole (seen a) (seen b))
        (λ both. numbers_fit comparison both)
        (λ no_both. if_allowed (Fits around line a b) (is_sized types (seen a) && same_type (seen a) (seen b))
        (λ two. let parts : IsTrue (is_sized types (seen a)) × IsTrue (same_type (seen a) (seen b)) =
        and_parts _ _ two in
        both_stay (joint.ComparePointers comparison) 6
        (subst (λ k. Joins around (joint.ComparePointers comparison) a.kind k 6) (eqb-true a.kind b.kind parts.1)
        (before is (sized_is a.kind parts.0)))))

    pointers_fit : (comparison : Comparison) → IsTrue (is_equality comparison) → (p : Plan) →
        equal_pointers types comparison (seen a) (seen b) ≡ Some p → Fits around line a b p
    unfolding equal_pointers
    pointers_fit comparison is = if_some (Fits around line a b) (is_pointer types (seen a) && same_type (seen a)
        (seen b))
        (λ same. let parts : IsTrue (is_pointer types (seen a)) × IsTrue (same_type (seen a) (seen b)) =
        and_parts _ _ same in
        as_one_type comparison change.Stay change.Stay a.kind (stays refl) (stays (sym
        (eqb-true a.kind b.kind parts.1))) is
        (pointer_is a.kind parts.0))
        (λ other_types. if_some (Fits around line a b) (is_pointer types (seen a) && is_null (seen b))
        (λ null. let parts : IsTrue (is_pointer types (seen a)) × IsTrue (is_null (seen b)) = and_parts _ _ null in
        as_one_type comparison change.Stay (change.Null a.kind) a.kind (stays refl)
        (becomes_null parts.1 (pointer_is a.kind parts.0)) is (pointer_is a.kind parts.0))
        (λ no_null. if_some (Fits around line a b) (is_null (seen a) && is_pointer types (seen b))
        (λ null. let parts : IsTrue (is_null (seen a)) × IsTrue (is_pointer types (seen b)) = and_parts _ _ null in
        as_one_type comparison (change.Null b.kind) change.Stay b.kind (becomes_null parts.0
        (pointer_is b.kind parts.1))
        (stays refl) is (pointer_is b.kind parts.1))
        (λ none_null. if_some (Fits around line a b) (is_void_pointer types a.kind && is_pointer types (seen b))
        (λ void. let parts : IsTrue (is_void_pointer types a.kind) × IsTrue (is_pointer types (seen b)) =
        and_parts _ _ void in
        as_one_type comparison change.Stay (change.Keep a.kind) a.kind (stays refl)
        (keeps (pointer_is b.kind parts.1) (void_is a.kind parts.0)) is (void_points a.kind parts.0))
        (λ no_void. if_allowed (Fits around line a b) (is_pointer types (seen a) && is_void_pointer types b.kind)
        (λ void. let parts : IsTrue (is_pointer types (seen a)) × IsTrue (is_void_pointer types b.kind) =
        and_parts _ _ void in
        as_one_type comparison (change.Keep b.kind) change.Stay b.kind (keeps (pointer_is a.kind parts.0)
        (void_is b.kind parts.1))
        (stays refl) is (void_points b.kind parts.1))))))

    equal_fits : (comparison : Comparison) → IsTrue (is_equality comparison) → (p : Plan) →
        equal types comparison (seen a) (seen b) ≡ Some p → Fits around line a b p
    unfolding equal
    equal_fits comparison is = if_some (Fits around line a b) (both_whole (seen a) (seen b))
        (λ both. numbers_fit comparison both)
        (λ no_both p found. pointers_fit comparison is p found)

    -- each plan that the types decide
    planned_fits : (sort : Sort) → IsSort sort → (p : Plan) → planned types sort (seen a) (seen b) ≡ Some p →
        Fits around line a b p
    unfolding planned
    planned_fits (Arithmetic operator) (arithmetic is) =
        if_allowed (Fits around line a b) (both_whole (seen a) (seen b)) (λ both. whole_fits operator is both)
    planned_fits (Shift operator) (shift is) =
        if_allowed (Fits around line a b) (both_whole (seen a) (seen b)) (λ both. shift_fits operator is both)
    planned_fits Sum a_sum = sum_fits
    planned_fits Difference a_difference = difference_fits
    planned_fits (Equality comparison) (equality is) = equal_fits comparison is
    planned_fits (Order comparison) (order is) = ordered_fits comparison is
    planned_fits (Logical operator) a_test = if_allowed (Fits around line a b) (both_scalar types (seen a) (seen b))
        (λ both. let parts : IsTrue (is_scalar types a.kind) × IsTrue (is_scalar types b.kind) = and_parts _ _ both in
        tests_fit operator (grows.scalars a.kind parts.0) (grows.scalars b.kind parts.1))

    joined_by : (found : Option Plan) (sort : Sort) → IsSort sort → planned types sort (seen a) (seen b) ≡ found →
        (x : Operand) →
        built_if line a b found ≡ Some x → IsOperand around x
    joined_by (Some p) sort is found x made =
        subst (IsOperand around) (some_same made) (built_typed p (planned_fits sort is p found))
    joined_by None sort is found x made = cc

    -- What an operator of the grammar makes of two operands that fit the surroundings fits them.
    pub joined_typed : (operator : Binary) (x : Operand) → joined types line (sort_of operator) a b ≡ Some x →
        IsOperand around x
    unfolding joined
    joined_typed operator x made =
        joined_by (planned types (sort_of operator) (seen a) (seen b)) (sort_of operator) (sort_is operator) refl x made
