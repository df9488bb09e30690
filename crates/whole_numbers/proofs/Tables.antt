-- Comparisons, and operands that are converted first.
use Rattle.std.proofs.Common.{◌≡◌, ℕ, Bool, true, false, if◌then◌else◌, refl, ap, sym, ◌∙◌, arith}
use Rattle.std.proofs.lemmas.Int.{ints}
use Rattle.std.specs.Int.{from_bool}
use Rattle.whole_numbers.specs.Types.{IsValue, int, number, word_of, wrapped, promoted, converted}
use Rattle.whole_numbers.specs.Operators.{truth, outcome, unary_outcome, shifted, applied, evaluated, unary_applied, unary_evaluated, in_bits, is_shift, working_type}
use Rattle.whole_numbers.specs.declared.types.WholeType.{WholeType}
use Rattle.whole_numbers.specs.declared.operators.BinaryOperator.{BinaryOperator}
use Rattle.whole_numbers.specs.declared.operators.BinaryOperator.TheVariants.{ShiftLeft, ShiftRight}
use Rattle.whole_numbers.specs.declared.unary.UnaryOperator.{UnaryOperator}
use Rattle.whole_numbers.proofs.Words.{wrapped_value}

pub truth_word : (b : Bool) → word_of (truth b) ≡ from_bool b
unfolding word_of
truth_word true = refl
truth_word false = refl

pub bool_kept : (b : Bool) → IsValue int (from_bool b)
unfolding number
bool_kept true =
    record { fits = omega arith; within = record { from = omega (arith, ints); below = omega (arith, ints) } }
bool_kept false =
    record { fits = omega arith; within = record { from = omega (arith, ints); below = omega (arith, ints) } }

-- a shift of a converted operand
shift_converted : (operator : BinaryOperator) (kind left_kind right_kind : WholeType) (left right : ℕ)
    → shifted operator kind (converted kind left_kind left) right_kind right
    ≡ in_bits (outcome operator kind (wrapped kind (number left_kind left)) (number right_kind right))
unfolding shifted converted
shift_converted operator kind left_kind right_kind left right =
    ap (λ z. in_bits (outcome operator kind z (number right_kind right))) (wrapped_value kind (number left_kind left))

-- what the code makes of a shift, in its working type
pub shift_evaluated : (self operator : BinaryOperator) (kind left_kind right_kind : WholeType) (left right word : ℕ)
    → self ≡ operator → is_shift operator ≡ true
    → kind ≡ working_type self left_kind right_kind → word ≡ converted kind left_kind left
    → shifted operator kind word right_kind right ≡ evaluated self left_kind left right_kind right
unfolding evaluated
shift_evaluated self operator kind left_kind right_kind left right word same is kind_is word_is =
    let b = number right_kind right in
    let works = working_type self left_kind right_kind in
    let shifts : is_shift self ≡ true = ap is_shift same ∙ is in
    ap (λ w. shifted operator kind w right_kind right) word_is
    ∙ shift_converted operator kind left_kind right_kind left right
    ∙ (λ i. in_bits (outcome (sym same i) (kind_is i) (wrapped (kind_is i) (number left_kind left)) b))
    ∙ (λ i. in_bits (outcome self works (wrapped works (number left_kind left))
    (if sym shifts i then b else wrapped works b)))

-- what it makes of operands that are both converted
pub other_evaluated : (operator : BinaryOperator) (kind left_kind right_kind : WholeType) (left right word other : ℕ)
    → is_shift operator ≡ false
    → kind ≡ working_type operator left_kind right_kind → word ≡ converted kind left_kind left
    → other ≡ converted kind right_kind right
    → applied operator kind word other ≡ evaluated operator left_kind left right_kind right
unfolding applied evaluated converted
other_evaluated operator kind left_kind right_kind left right word other is kind_is word_is other_is =
    let a = number left_kind left in
    let b = number right_kind right in
    let works = working_type operator left_kind right_kind in
    (λ i. applied operator kind (word_is i) (other_is i))
    ∙ (λ i. in_bits (outcome operator kind (wrapped_value kind a i) (wrapped_value kind b i)))
    ∙ (λ i. in_bits (outcome operator (kind_is i) (wrapped (kind_is i) a) (wrapped (kind_is i) b)))
    ∙ (λ i. in_bits (outcome operator works (wrapped works a) (if sym is i then b else wrapped works b)))

pub not_shift : (operator : BinaryOperator) → (operator ≡ ShiftLeft → ⊥) → (operator ≡ ShiftRight → ⊥)
    → is_shift operator ≡ false
not_shift ShiftLeft h k = absurd (h refl)
not_shift ShiftRight h k = absurd (k refl)
not_shift _ h k = refl

-- an operator of one operand that is promoted
pub unary_promoted : (operator : UnaryOperator) (kind working : WholeType) (word converted_word : ℕ)
    → working ≡ promoted kind → converted_word ≡ converted working kind word
    → unary_applied operator working converted_word ≡ unary_evaluated operator kind word
unfolding unary_applied unary_evaluated converted
unary_promoted operator kind working word converted_word working_is word_is =
    let a = number kind word in
    ap (unary_applied operator working) word_is
    ∙ ap (λ z. word_of (unary_outcome operator working z)) (wrapped_value working a)
    ∙ ap (λ k. word_of (unary_outcome operator k (wrapped k a))) working_is
