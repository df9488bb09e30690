-- What the calls on whole numbers answer, as what is known.
use Rattle.std.proofs.Common.{◌≡◌, ℕ, ◌+◌, ℤ, pos, negsuc, neg_ℤ, ◌-ℤ◌, Bool, true, false, Option, Some, None, Result, Ok, Err, IfOk, IsTrue, if◌then◌else◌, refl, ap, ◌∙◌, arith, SFits, to_z, of_z}
use Rattle.std.proofs.lemmas.Int.{ints, to_z-of_z}
use Rattle.std.specs.Int.{w128}
use Rattle.c_tree.specs.declared.operators.Operator.{Operator}
use Rattle.c_tree.specs.declared.operators.Operator.TheVariants as o
use Rattle.c_tree.specs.declared.operators.UnaryOperator.{UnaryOperator}
use Rattle.c_tree.specs.declared.operators.UnaryOperator.TheVariants.{Plus, Minus, Complement}
use Rattle.static_rules.specs.declared.judged.Known.TheVariants as known
use Rattle.well_typed.specs.Surroundings.{is_shift}
use Rattle.well_typed.specs.Constants.{single_operator}
use Rattle.static_rules.specs.Constants.{known_outcome}
use Rattle.whole_numbers.specs.declared.operators.BinaryOperator.{BinaryOperator}
use Rattle.whole_numbers.specs.declared.operators.BinaryOperator.TheVariants.{Multiply, Divide, Remainder, Add, Subtract, ShiftLeft, ShiftRight, Less, Greater, LessEqual, GreaterEqual, Equal, NotEqual, And, ExclusiveOr, Or}
use Rattle.whole_numbers.specs.declared.trap.Trap.{Trap}
use Rattle.whole_numbers.specs.declared.types.WholeType.{WholeType}
use Rattle.whole_numbers.specs.declared.types.Width.{Width}
use Rattle.whole_numbers.specs.declared.types.Width.TheVariants.{One, Two, Four, Eight}
use Rattle.whole_numbers.specs.Laws.{ConversionLaw, ValuesLaw, DifferByMultiple}
use Rattle.whole_numbers.specs.Operators.{outcome, unary_outcome, unary_applied, applied, shifted, in_bits, truth, unless, shift_rule}
use Rattle.whole_numbers.specs.Types.{IsNumberOf, number, word_of, wrapped}

-- ---- what is answered is a number of the type

truth_by : (w : Width) (s b : Bool) → IsNumberOf (record { width = w; signed = s }) (truth b)
truth_by One true true = record { from = omega (arith, ints); below = omega (arith, ints) }
truth_by One true false = record { from = omega (arith, ints); below = omega (arith, ints) }
truth_by One false true = record { from = omega (arith, ints); below = omega (arith, ints) }
truth_by One false false = record { from = omega (arith, ints); below = omega (arith, ints) }
truth_by Two true true = record { from = omega (arith, ints); below = omega (arith, ints) }
truth_by Two true false = record { from = omega (arith, ints); below = omega (arith, ints) }
truth_by Two false true = record { from = omega (arith, ints); below = omega (arith, ints) }
truth_by Two false false = record { from = omega (arith, ints); below = omega (arith, ints) }
truth_by Four true true = record { from = omega (arith, ints); below = omega (arith, ints) }
truth_by Four true false = record { from = omega (arith, ints); below = omega (arith, ints) }
truth_by Four false true = record { from = omega (arith, ints); below = omega (arith, ints) }
truth_by Four false false = record { from = omega (arith, ints); below = omega (arith, ints) }
truth_by Eight true true = record { from = omega (arith, ints); below = omega (arith, ints) }
truth_by Eight true false = record { from = omega (arith, ints); below = omega (arith, ints) }
truth_by Eight false true = record { from = omega (arith, ints); below = omega (arith, ints) }
truth_by Eight false false = record { from = omega (arith, ints); below = omega (arith, ints) }

truth_kept : (kind : WholeType) (b : Bool) → IsNumberOf kind (truth b)
truth_kept kind b = truth_by kind.width kind.signed b

module _ (law : ConversionLaw) (kind : WholeType) where
  unless_kept : (trap : Option Trap) (z : ℤ) → IfOk (unless trap (wrapped kind z)) (IsNumberOf kind)
  unless_kept None z = (law kind z).within
  unless_kept (Some trap) z = tt

  if_kept : (b : Bool) (trap : Trap) (z : ℤ)
      → IfOk {T = ℤ} {E = Trap} (if b then Ok (wrapped kind z) else Err trap) (IsNumberOf kind)
  if_kept true trap z = (law kind z).within
  if_kept false trap z = tt

  shift_kept : (value : ℕ → ℤ) (b : ℤ) → IfOk (shift_rule kind value b) (IsNumberOf kind)
  shift_kept value (pos count) = if_kept _ _ (value count)
  shift_kept value (negsuc count) = tt

  pub outcome_kept : (operator : BinaryOperator) (a b : ℤ) → IfOk (outcome operator kind a b) (IsNumberOf kind)
  unfolding outcome
  outcome_kept Multiply a b = (law kind _).within
  outcome_kept Divide a b = unless_kept _ _
  outcome_kept Remainder a b = unless_kept _ _
  outcome_kept Add a b = (law kind _).within
  outcome_kept Subtract a b = (law kind _).within
  outcome_kept ShiftLeft a b = shift_kept _ b
  outcome_kept ShiftRight a b = shift_kept _ b
  outcome_kept Less a b = truth_kept kind _
  outcome_kept Greater a b = truth_kept kind _
  outcome_kept LessEqual a b = truth_kept kind _
  outcome_kept GreaterEqual a b = truth_kept kind _
  outcome_kept Equal a b = truth_kept kind _
  outcome_kept NotEqual a b = truth_kept kind _
  outcome_kept And a b = (law kind _).within
  outcome_kept ExclusiveOr a b = (law kind _).within
  outcome_kept Or a b = (law kind _).within

-- ---- numbers by their bits

-- the bits of a number that is passed as 128 bits
pub word_of_passed : (kind : WholeType) (z : ℤ) (word : ℕ) → SFits w128 z
    → word ≡ word_of (wrapped kind (to_z w128 (of_z w128 z))) → word ≡ word_of (wrapped kind z)
word_of_passed kind z word fits e = e ∙ ap (λ n. word_of (wrapped kind n)) (to_z-of_z w128 z fits)

-- what the bits of an answer tell
pub told_number : ValuesLaw → (kind : WholeType) (bits : ℕ) (told : Result ℤ Trap) → Ok bits ≡ in_bits told
    → IfOk told (IsNumberOf kind) → known.Number (number kind bits) ≡ known_outcome told
told_number law kind bits (Ok z) e h =
    let same : bits ≡ word_of z = cc in ap known.Number (ap (number kind) same ∙ (law kind).number_is z h)
told_number law kind bits (Err trap) e h = cc

pub told_trap : (trap : Trap) (told : Result ℤ Trap) → Err trap ≡ in_bits told → known.Traps ≡ known_outcome told
told_trap trap (Ok z) e = cc
told_trap trap (Err other) e = refl

module _ (conversion : ConversionLaw) (values : ValuesLaw) where
  -- the bits of what a type keeps stand for it
  pub kept_number : (kind : WholeType) (z : ℤ) → number kind (word_of (wrapped kind z)) ≡ wrapped kind z
  kept_number kind z = (values kind).number_is (wrapped kind z) (conversion kind z).within

  same_number : (kind : WholeType) (z : ℤ) → IsNumberOf kind z → number kind (word_of (wrapped kind z)) ≡ z
  same_number kind z h = kept_number kind z ∙ (conversion kind z).same h

  pub applied_told : (operator : BinaryOperator) (kind : WholeType) (a b : ℤ) → IsNumberOf kind a → IsNumberOf kind b
      → applied operator kind (word_of (wrapped kind a)) (word_of (wrapped kind b))
      ≡ in_bits (outcome operator kind a b)
  unfolding applied
  applied_told operator kind a b h k =
      (λ i. in_bits (outcome operator kind (same_number kind a h i) (same_number kind b k i)))

  pub shifted_told : (operator : BinaryOperator) (kind count_kind : WholeType) (a b : ℤ) → IsNumberOf kind a
      → IsNumberOf count_kind b
      → shifted operator kind (word_of (wrapped kind a)) count_kind (word_of (wrapped count_kind b))
      ≡ in_bits (outcome operator kind a b)
  unfolding shifted
  shifted_told operator kind count_kind a b h k =
      (λ i. in_bits (outcome operator kind (same_number kind a h i) (same_number count_kind b k i)))

-- a shift that is not to the left
pub other_shift : (operator : Operator) → IsTrue (is_shift operator) → (operator ≡ o.ShiftLeft → ⊥)
    → operator ≡ o.ShiftRight
other_shift o.ShiftRight is other = refl
other_shift o.ShiftLeft is other = absurd (other refl)
other_shift _ is other = cc

-- ---- operators before one operand

-- what differs by a multiple from a number turned round
turned : (m : ℕ) (z w u : ℤ) → DifferByMultiple m z w → DifferByMultiple m (neg_ℤ z) u → DifferByMultiple m (neg_ℤ w) u
turned m z w u d f =
    let a = d.2 in
    let b = f.2 in
    (d.0 + f.0, d.1 + f.1, omega (arith, ints, a, b))

complemented : (m : ℕ) (z w u : ℤ) → DifferByMultiple m z w → DifferByMultiple m (negsuc 0 -ℤ z) u
    → DifferByMultiple m (negsuc 0 -ℤ w) u
complemented m z w u d f =
    let a = d.2 in
    let b = f.2 in
    (d.0 + f.0, d.1 + f.1, omega (arith, ints, a, b))

module _ (conversion : ConversionLaw) (values : ValuesLaw) where
  -- an operand may be wrapped before
  wrapped_before : (operator : UnaryOperator) (kind : WholeType) (z : ℤ)
      → unary_outcome (single_operator operator) kind (wrapped kind z) ≡ unary_outcome (single_operator operator) kind z
  unfolding unary_outcome
  wrapped_before Plus kind z = let is = conversion kind z in (conversion kind (wrapped kind z)).same is.within
  wrapped_before Minus kind z =
      let is = conversion kind z in
      let of = conversion kind (neg_ℤ z) in
      (conversion kind (neg_ℤ (wrapped kind z))).only _ of.within (turned _ z _ _ is.multiple of.multiple)
  wrapped_before Complement kind z =
      let is = conversion kind z in
      let of = conversion kind (negsuc 0 -ℤ z) in
      (conversion kind (negsuc 0 -ℤ wrapped kind z)).only _ of.within (complemented _ z _ _ is.multiple of.multiple)

  unary_kept : (operator : UnaryOperator) (kind : WholeType) (z : ℤ)
      → IsNumberOf kind (unary_outcome (single_operator operator) kind z)
  unfolding unary_outcome
  unary_kept Plus kind z = (conversion kind _).within
  unary_kept Minus kind z = (conversion kind _).within
  unary_kept Complement kind z = (conversion kind _).within

  pub unary_told : (operator : UnaryOperator) (kind : WholeType) (z : ℤ)
      → number kind (unary_applied (single_operator operator) kind (word_of (wrapped kind z)))
      ≡ unary_outcome (single_operator operator) kind z
  unfolding unary_applied
  unary_told operator kind z =
      let is = (values kind).number_is (wrapped kind z) (conversion kind z).within in
      ap (λ x. number kind (word_of (unary_outcome (single_operator operator) kind x))) is
      ∙ ap (λ x. number kind (word_of x)) (wrapped_before operator kind z)
      ∙ (values kind).number_is _ (unary_kept operator kind z)
