-- What is known of a result holds of its tree, where what is known of the operands holds of theirs.
use Rattle.std.proofs.Common.{◌≡◌, ℕ, ℤ, pos, negsuc, Bool, true, false, Some, None, Option, refl, sym, ap, ◌∙◌, subst}
use Rattle.std.specs.Prelude.{Result, Ok, Err, IsTrue, if◌then◌else◌, ◌&&◌, nat_lt, not, ◌*ℤ◌, ◌^◌}
use Rattle.std.specs.Int.{int_shr}
use Rattle.std.specs.Ordering.{int_eq}
use Rattle.std.proofs.lemmas.Bool.{and_parts}
use Rattle.c_types.specs.Table.{Types}
use Rattle.c_tree.specs.declared.operators.Operator.{Operator}
use Rattle.c_tree.specs.declared.operators.Operator.TheVariants as o
use Rattle.c_tree.specs.declared.operators.Comparison.{Comparison}
use Rattle.c_tree.specs.declared.operators.Comparison.TheVariants as c
use Rattle.c_tree.specs.declared.operators.UnaryOperator.{UnaryOperator}
use Rattle.c_tree.specs.declared.operators.UnaryOperator.TheVariants as u
use Rattle.c_tree.specs.declared.operators.LogicalOperator.{LogicalOperator}
use Rattle.c_tree.specs.declared.operators.LogicalOperator.TheVariants as l
use Rattle.c_tree.specs.declared.values.Value.{Value}
use Rattle.whole_numbers.specs.Types as w
use Rattle.whole_numbers.specs.Laws.{ConversionLaw}
use Rattle.whole_numbers.specs.Operators.{outcome, unary_outcome, truth, unless, dividing_trap, shift_rule}
use Rattle.whole_numbers.specs.declared.trap.Trap.{Trap}
use Rattle.whole_numbers.specs.declared.trap.Trap.TheVariants.{ShiftCount}
use Rattle.whole_numbers.specs.declared.types.WholeType.{WholeType}
use Rattle.well_typed.specs.Constants.{constant, from_one, from_two, number_from, number_operator, number_comparison, single_operator, logical_constant, decided, truth_of, conditional_constant}
use Rattle.well_typed.specs.Kinds.{whole_type, wrapped}
use Rattle.well_typed.specs.Surroundings.{IsWhole}
use Rattle.static_rules.specs.declared.judged.Known.{Known}
use Rattle.static_rules.specs.declared.judged.Known.TheVariants as known
use Rattle.static_rules.specs.Constants.{is_constant, known_outcome, known_as, known_of_one, known_of_both, is_true, known_logical, known_logical_by, known_right, known_truth, known_conditional, known_chosen}
use Rattle.expression_laws.specs.Operands.{IsKnown}
use Rattle.expression_laws.proofs.Choices.{ok_same}

-- ---- numbers that a type has

abbrev pub Stays : ℕ → ℤ → Type 0
Stays kind n = wrapped kind n ≡ n

truth_stays : (b : Bool) → Stays 6 (truth b)
unfolding wrapped w.wrapped
truth_stays true = refl
truth_stays false = refl

module _ (conversion : ConversionLaw) where
  pub wrapped_stays : (kind : ℕ) (n : ℤ) → Stays kind (wrapped kind n)
  unfolding wrapped
  wrapped_stays kind n = (conversion (whole_type kind) (w.wrapped (whole_type kind) n)).same (conversion
      (whole_type kind) n).within

  -- a result that is a converted number
  from_wrapped : (kind : ℕ) (m n : ℤ) → w.wrapped (whole_type kind) m ≡ n → Stays kind n
  unfolding wrapped
  from_wrapped kind m n is = subst (Stays kind) is (wrapped_stays kind m)

  unless_stays : (kind : ℕ) (trap : Option Trap) (m n : ℤ) → unless trap (w.wrapped (whole_type kind) m) ≡ Ok n →
      Stays kind n
  unless_stays kind None m n is = from_wrapped kind m n (ok_same Trap is)
  unless_stays kind (Some trap) m n is = cc

  if_stays : (kind : ℕ) (test : Bool) (m n : ℤ) (trap : Trap) →
      (if test then Ok (w.wrapped (whole_type kind) m) else Err trap) ≡ Ok n → Stays kind n
  if_stays kind true m n trap is = from_wrapped kind m n (ok_same Trap is)
  if_stays kind false m n trap is = cc

  shift_stays : (kind : ℕ) (value : ℕ → ℤ) (b n : ℤ) → shift_rule (whole_type kind) value b ≡ Ok n → Stays kind n
  shift_stays kind value (pos count) n is =
      if_stays kind (nat_lt count (w.bits (whole_type kind))) (value count) n ShiftCount is
  shift_stays kind value (negsuc count) n is = cc

  pub outcome_stays : (operator : Operator) (kind : ℕ) (a b n : ℤ) →
      outcome (number_operator operator) (whole_type kind) a b ≡ Ok n → Stays kind n
  unfolding outcome
  outcome_stays o.Multiply kind a b n is = from_wrapped kind _ n (ok_same Trap is)
  outcome_stays o.Divide kind a b n is = unless_stays kind (dividing_trap (whole_type kind) a b) _ n is
  outcome_stays o.Remainder kind a b n is = unless_stays kind (dividing_trap (whole_type kind) a b) _ n is
  outcome_stays o.Add kind a b n is = from_wrapped kind _ n (ok_same Trap is)
  outcome_stays o.Subtract kind a b n is = from_wrapped kind _ n (ok_same Trap is)
  outcome_stays o.ShiftLeft kind a b n is = shift_stays kind (λ count. a *ℤ pos (2 ^ count)) b n is
  outcome_stays o.ShiftRight kind a b n is = shift_stays kind (λ count. int_shr a count) b n is
  outcome_stays o.And kind a b n is = from_wrapped kind _ n (ok_same Trap is)
  outcome_stays o.ExclusiveOr kind a b n is = from_wrapped kind _ n (ok_same Trap is)
  outcome_stays o.Or kind a b n is = from_wrapped kind _ n (ok_same Trap is)

  pub unary_stays : (operator : UnaryOperator) (kind : ℕ) (a : ℤ) →
      Stays kind (unary_outcome (single_operator operator) (whole_type kind) a)
  unfolding unary_outcome
  unary_stays u.Plus kind a = from_wrapped kind _ _ refl
  unary_stays u.Minus kind a = from_wrapped kind _ _ refl
  unary_stays u.Complement kind a = from_wrapped kind _ _ refl

-- a comparison has the same outcome in each type, 0 or 1 of type int
pub comparison_stays : (comparison : Comparison) (type : WholeType) (a b n : ℤ) →
    outcome (number_comparison comparison) type a b ≡ Ok n → Stays 6 n
unfolding outcome
comparison_stays c.Equal type a b n is = subst (Stays 6) (ok_same Trap is) (truth_stays _)
comparison_stays c.NotEqual type a b n is = subst (Stays 6) (ok_same Trap is) (truth_stays _)
comparison_stays c.Less type a b n is = subst (Stays 6) (ok_same Trap is) (truth_stays _)
comparison_stays c.Greater type a b n is = subst (Stays 6) (ok_same Trap is) (truth_stays _)
comparison_stays c.LessEqual type a b n is = subst (Stays 6) (ok_same Trap is) (truth_stays _)
comparison_stays c.GreaterEqual type a b n is = subst (Stays 6) (ok_same Trap is) (truth_stays _)

pub comparison_of_any : (comparison : Comparison) (type other : WholeType) (a b : ℤ) →
    outcome (number_comparison comparison) type a b ≡ outcome (number_comparison comparison) other a b
unfolding outcome
comparison_of_any c.Equal type other a b = refl
comparison_of_any c.NotEqual type other a b = refl
comparison_of_any c.Less type other a b = refl
comparison_of_any c.Greater type other a b = refl
comparison_of_any c.LessEqual type other a b = refl
comparison_of_any c.GreaterEqual type other a b = refl

pub truth_is_int : (b : Bool) → Stays 6 (truth b)
truth_is_int b = truth_stays b

-- ---- of the parts

module _ (types : Types) (z : Value) (kind : ℕ) (whole : IsWhole kind) where
  pub of_outcome : (out : Result ℤ Trap) → ((n : ℤ) → out ≡ Ok n → Stays kind n) → constant z ≡ Some out →
      IsKnown types z kind (known_outcome out)
  of_outcome (Ok n) stays is = (whole, stays n refl, is)
  of_outcome (Err trap) stays is = (whole, (trap, is))

  -- of two operands that are evaluated both
  pub of_both : (f : ℤ → ℤ → Result ℤ Trap) → ((a b n : ℤ) → f a b ≡ Ok n → Stays kind n) → (x y : Value) →
      constant z ≡ from_two (constant x) (constant y) f → (left right : ℕ) (k m : Known) → IsKnown types x left k →
      IsKnown types y right m → IsKnown types z kind (known_of_both (λ a b. known_outcome (f a b)) k m)
  of_both f stays x y is left right (known.Number a) (known.Number b) (_, _, p) (_, _, q) =
      of_outcome (f a b) (stays a b) (is ∙ (ap (λ one. from_two one (constant y) f) p ∙
      ap (λ two. from_two (Some (Ok a)) two f) q))
  of_both f stays x y is left right (known.Number a) known.Traps (_, _, p) (_, (trap, q)) =
      (whole, (trap, is ∙ (ap (λ one. from_two one (constant y) f) p ∙ ap (λ two. from_two (Some (Ok a)) two f) q)))
  of_both f stays x y is left right known.Traps (known.Number b) (_, (trap, p)) (_, _, q) =
      (whole, (trap, is ∙ (ap (λ one. from_two one (constant y) f) p ∙ ap (λ two. from_two (Some (Err trap)) two f) q)))
  of_both f stays x y is left right known.Traps known.Traps (_, (trap, p)) (_, (other, q)) =
      (whole, (trap, is ∙ (ap (λ one. from_two one (constant y) f) p ∙ ap (λ two. from_two (Some (Err trap)) two f) q)))
  of_both f stays x y is left right (known.Number a) known.Nothing p q = tt
  of_both f stays x y is left right (known.Number a) known.NullPointer p q = tt
  of_both f stays x y is left right known.Traps known.Nothing p q = tt
  of_both f stays x y is left right known.Traps known.NullPointer p q = tt
  of_both f stays x y is left right known.Nothing m p q = tt
  of_both f stays x y is left right known.NullPointer m p q = tt

  -- of one
  pub of_one : (g : ℤ → ℤ) → ((n : ℤ) → Stays kind (g n)) → (x : Value) →
      constant z ≡ from_one (constant x) (λ n. Ok (g n)) →
      (from : ℕ) (k : Known) → IsKnown types x from k → IsKnown types z kind (known_of_one (λ n. known.Number (g n)) k)
  of_one g stays x is from (known.Number n) (_, _, p) = (
    whole,
    stays n,
    is ∙
        ap (λ one. from_one one (λ n. Ok (g n))) p,
  )
  of_one g stays x is from known.Traps (_, (trap, p)) = (whole, (trap, is ∙ ap (λ one. from_one one (λ n. Ok (g n))) p))
  of_one g stays x is from known.Nothing p = tt
  of_one g stays x is from known.NullPointer p = tt

pub as_one : (kind : ℕ) (k : Known) → known_as kind k ≡ known_of_one (λ n. known.Number (wrapped kind n)) k
as_one kind (known.Number n) = refl
as_one kind known.Traps = refl
as_one kind known.Nothing = refl
as_one kind known.NullPointer = refl

-- what is known as one of a type that it has already
pub as_it_is : (types : Types) (x : Value) (kind : ℕ) (k : Known) → IsKnown types x kind k →
    IsKnown types x kind (known_as kind k)
as_it_is types x kind (known.Number n) (whole, stays, is) = (
  whole,
  ap (wrapped kind) stays,
  is ∙
      ap (λ m. Some (Ok m)) (sym stays),
)
as_it_is types x kind known.Traps p = p
as_it_is types x kind known.Nothing p = tt
as_it_is types x kind known.NullPointer p = tt

-- ---- what is evaluated only where another operand wants it

truth_agrees : (t : Bool) → truth (not t) ≡ (if t then pos 0 else pos 1)
truth_agrees true = refl
truth_agrees false = refl

module _ (types : Types) (z : Value) where
  -- the right operand of `&&` and `||`, which is evaluated
  of_right : (y : Value) (right : ℕ) (m : Known) (out : Result ℤ Trap) → IsKnown types y right m →
      constant y ≡ Some out →
      constant z ≡ Some (number_from out (λ b. Ok (truth_of b))) → IsTrue (is_constant m) →
      IsKnown types z 6 (known_truth m)
  of_right y right (known.Number n) out (whole, stays, is) same z_is one =
      let of : out ≡ Ok n = cc in (
        refl,
        truth_is_int (is_true n),
        z_is ∙ (ap (λ r. Some (number_from r (λ b. Ok (truth_of b)))) of ∙
            ap (λ m. Some (Ok m)) (sym (truth_agrees (int_eq n (pos 0))))),
      )
  of_right y right known.Traps out (whole, (trap, is)) same z_is one =
      let of : out ≡ Err trap = cc in (refl, (trap, z_is ∙ ap (λ r. Some (number_from r (λ b. Ok (truth_of b)))) of))
  of_right y right known.Nothing out p same z_is one = cc
  of_right y right known.NullPointer out p same z_is one = cc

  and_known : (t : Bool) (y : Value) (right : ℕ) (m : Known) (out : Result ℤ Trap) → IsKnown types y right m →
      constant y ≡ Some out →
      constant z ≡ Some (if t then Ok (pos 0) else number_from out (λ b. Ok (truth_of b))) → IsTrue (is_constant m) →
      IsKnown types z 6 (if not (not t) then known.Number (truth (not t)) else known_truth m)
  and_known true y right m out p same z_is one = (refl, truth_is_int false, z_is)
  and_known false y right m out p same z_is one = of_right y right m out p same z_is one

  or_known : (t : Bool) (y : Value) (right : ℕ) (m : Known) (out : Result ℤ Trap) → IsKnown types y right m →
      constant y ≡ Some out →
      constant z ≡ Some (if t then number_from out (λ b. Ok (truth_of b)) else Ok (pos 1)) → IsTrue (is_constant m) →
      IsKnown types z 6 (if not t then known.Number (truth (not t)) else known_truth m)
  or_known true y right m out p same z_is one = of_right y right m out p same z_is one
  or_known false y right m out p same z_is one = (refl, truth_is_int true, z_is)

  -- what a constant is evaluated to
  outcome_of : (y : Value) (right : ℕ) (m : Known) → IsKnown types y right m → IsTrue (is_constant m) →
      (out : Result ℤ Trap) × (constant y ≡ Some out)
  outcome_of y right (known.Number n) (whole, stays, is) one = (Ok n, is)
  outcome_of y right known.Traps (whole, (trap, is)) one = (Err trap, is)
  outcome_of y right known.Nothing p one = cc
  outcome_of y right known.NullPointer p one = cc

  by_number : (operator : LogicalOperator) (n : ℤ) (y : Value) (right : ℕ) (m : Known) (out : Result ℤ Trap) →
      IsKnown types y right m →
      constant y ≡ Some out → constant z ≡ Some (decided operator n out) → IsTrue (is_constant m) →
      IsKnown types z 6 (known_right operator n m)
  by_number l.And n y right m out p same z_is one = and_known (int_eq n (pos 0)) y right m out p same z_is one
  by_number l.Or n y right m out p same z_is one = or_known (int_eq n (pos 0)) y right m out p same z_is one

  logical_both : (operator : LogicalOperator) (x y : Value) (left right : ℕ) (k m : Known) → IsKnown types x left k →
      IsKnown types y right m →
      constant z ≡ logical_constant operator (constant x) (constant y) → IsTrue (is_constant k) →
      IsTrue (is_constant m) →
      IsKnown types z 6 (known_logical_by operator k m)
  logical_both operator x y left right (known.Number n) m (whole, stays, is) q z_is one two =
      let out : (out : Result ℤ Trap) × (constant y ≡ Some out) = outcome_of y right m q two in
      by_number operator n y right m out.0 q out.1
      (z_is ∙ (ap (λ a. logical_constant operator a (constant y)) is ∙
      ap (logical_constant operator (Some (Ok n))) out.1)) two
  logical_both operator x y left right known.Traps m (whole, (trap, is)) q z_is one two =
      let out : (out : Result ℤ Trap) × (constant y ≡ Some out) = outcome_of y right m q two in (
        refl,
        (
          trap,
          z_is ∙ (ap (λ a. logical_constant operator a (constant y)) is ∙
              ap (logical_constant operator (Some (Err trap))) out.1),
        ),
      )
  logical_both operator x y left right known.Nothing m p q z_is one two = cc
  logical_both operator x y left right known.NullPointer m p q z_is one two = cc

  if_constant : (kind : ℕ) (test : Bool) (k : Known) → (IsTrue test → IsKnown types z kind k) →
      IsKnown types z kind (if test then k else known.Nothing)
  if_constant kind true k some = some refl
  if_constant kind false k some = tt

  pub of_logical : (operator : LogicalOperator) (x y : Value) (left right : ℕ) (k m : Known) →
      IsKnown types x left k → IsKnown types y right m →
      constant z ≡ logical_constant operator (constant x) (constant y) → IsKnown types z 6 (known_logical operator k m)
  unfolding known_logical
  of_logical operator x y left right k m p q z_is =
      if_constant 6 (is_constant k && is_constant m) (known_logical_by operator k m)
      (λ both. logical_both operator x y left right k m p q z_is (and_parts (is_constant k) (is_constant m) both).0
      (and_parts (is_constant k) (is_constant m) both).1)

  -- of what evaluates to the same
  alike : (y : Value) (kind : ℕ) (m : Known) (out : Result ℤ Trap) → IsKnown types y kind m → IsTrue (is_constant m) →
      constant y ≡ Some out →
      constant z ≡ Some out → IsKnown types z kind m
  alike y kind (known.Number n) out (whole, stays, is) one same z_is = (whole, stays, z_is ∙ (sym same ∙ is))
  alike y kind known.Traps out (whole, (trap, is)) one same z_is = (whole, (trap, z_is ∙ (sym same ∙ is)))
  alike y kind known.Nothing out p one same z_is = tt
  alike y kind known.NullPointer out p one same z_is = cc

  is_a_number : (y : Value) (kind : ℕ) (m : Known) → IsKnown types y kind m → IsTrue (is_constant m) → IsWhole kind
  is_a_number y kind (known.Number n) p one = p.0
  is_a_number y kind known.Traps p one = p.0
  is_a_number y kind known.Nothing p one = cc
  is_a_number y kind known.NullPointer p one = cc

  one_of : (t : Bool) (x y : Value) (kind : ℕ) (k m : Known) (a b : Result ℤ Trap) → IsKnown types x kind k →
      IsKnown types y kind m →
      IsTrue (is_constant k) → IsTrue (is_constant m) → constant x ≡ Some a → constant y ≡ Some b →
      constant z ≡ Some (if t then b else a) →
      IsKnown types z kind (if not t then k else m)
  one_of true x y kind k m a b p q one two x_is y_is z_is = alike y kind m b q two y_is z_is
  one_of false x y kind k m a b p q one two x_is y_is z_is = alike x kind k a p one x_is z_is

  conditional_by : (test x y : Value) (from kind : ℕ) (s k m : Known) → IsKnown types test from s →
      IsKnown types x kind k →
      IsKnown types y kind m → constant z ≡ conditional_constant (constant test) (constant x) (constant y) →
      IsTrue (is_constant s) →
      IsTrue (is_constant k) → IsTrue (is_constant m) → IsKnown types z kind (known_chosen s k m)
  conditional_by test x y from kind (known.Number n) k m (whole, stays, is) p q z_is zero one two =
      let a : (out : Result ℤ Trap) × (constant x ≡ Some out) = outcome_of x kind k p one in
      let b : (out : Result ℤ Trap) × (constant y ≡ Some out) = outcome_of y kind m q two in
      one_of (int_eq n (pos 0)) x y kind k m a.0 b.0 p q one two a.1 b.1 (z_is ∙
      (ap (λ c. conditional_constant c (constant x) (constant y)) is ∙
      (ap (λ c. conditional_constant (Some (Ok n)) c (constant y)) a.1 ∙
      ap (conditional_constant (Some (Ok n)) (Some a.0)) b.1)))
  conditional_by test x y from kind known.Traps k m (whole, (trap, is)) p q z_is zero one two =
      let a : (out : Result ℤ Trap) × (constant x ≡ Some out) = outcome_of x kind k p one in
      let b : (out : Result ℤ Trap) × (constant y ≡ Some out) = outcome_of y kind m q two in (
        is_a_number x kind k p one,
        (
          trap,
          z_is ∙ (ap (λ c. conditional_constant c (constant x) (constant y)) is ∙
              (ap (λ c. conditional_constant (Some (Err trap)) c (constant y)) a.1 ∙
              ap (conditional_constant (Some (Err trap)) (Some a.0)) b.1)),
        ),
      )
  conditional_by test x y from kind known.Nothing k m p q r z_is zero one two = cc
  conditional_by test x y from kind known.NullPointer k m p q r z_is zero one two = cc

  pub of_conditional : (test x y : Value) (from kind : ℕ) (s k m : Known) → IsKnown types test from s →
      IsKnown types x kind k →
      IsKnown types y kind m → constant z ≡ conditional_constant (constant test) (constant x) (constant y) →
      IsKnown types z kind (known_conditional s k m)
  unfolding known_conditional
  of_conditional test x y from kind s k m o p q z_is =
      if_constant kind (is_constant s && (is_constant k && is_constant m)) (known_chosen s k m)
      (λ all. let parts : IsTrue (is_constant s) × IsTrue (is_constant k && is_constant m) = and_parts _ _ all in
      let both : IsTrue (is_constant k) × IsTrue (is_constant m) = and_parts _ _ parts.1 in
      conditional_by test x y from kind s k m o p q z_is parts.0 both.0 both.1)
