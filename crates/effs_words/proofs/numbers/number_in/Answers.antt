use Rattle.std.proofs.Common.{arith, ◌≡◌, true, ap, ◌∙◌, sym, drop, []}
use Rattle.std.proofs.lemmas.Grind.{common_steps}
use Rattle.std.proofs.lemmas.List.{drop_all}
use Rattle.std.specs.List.{list_all}
use Rattle.std.specs.Char.{is_ascii_digit}
use Rattle.effs_words.specs.Numbers.{value_from}
use Rattle.effs_words.proofs.Numerals.{too_short, too_long, other_byte, in_range, below_range, above_range}
use Rattle.effs_words.proofs.numbers.number_in.Goals as goal
use Rattle.effs_words.proofs.numbers.number_in.Goals.{then-is_empty-via-then-is_empty, then-is_empty-via-else-is_empty+then-word-gt-MAX_DIGITS, else-low-value-via-then-low-value+else-value-high, else-low-value-via-else-low-value}

pub returns-then-is_empty-clause-value : goal.returns-then-is_empty-clause-value
returns-then-is_empty-clause-value c =
    elim c.then-is_empty.branch [
      | then-is_empty-via-then-is_empty w ↦ too_short _ _ _ (grind (arith, common_steps))
      | then-is_empty-via-else-is_empty+then-word-gt-MAX_DIGITS w ↦ too_long _ _ _ (omega arith)
    ]

pub returns-then-not-is_ascii_digit-clause-value : goal.returns-then-not-is_ascii_digit-clause-value
returns-then-not-is_ascii_digit-clause-value c =
    other_byte _ _ _ c.loop-digit.invariant.some c.loop-digit.invariant.short (sym c.loop-digit.invariant.digits ∙ grind (arith, common_steps))

pub returns-then-value-high-clause-value : goal.returns-then-value-high-clause-value
returns-then-value-high-clause-value c =
    let ended : drop c.loop-digit.digit-index c.args.word.now ≡ [] = drop_all _ _ c.loop-digit-test.false in
    in_range _ _ _ _ c.loop-digit.invariant.some c.loop-digit.invariant.short (sym c.loop-digit.invariant.digits ∙ ap (list_all is_ascii_digit) ended)
    (sym c.loop-digit.invariant.same ∙ ap (value_from c.loop-digit.value) ended) (omega arith) (omega arith)

pub returns-else-low-value-clause-value : goal.returns-else-low-value-clause-value
returns-else-low-value-clause-value c =
    let ended : drop c.loop-digit.digit-index c.args.word.now ≡ [] = drop_all _ _ c.loop-digit-test.false in
    let good : list_all is_ascii_digit c.args.word.now ≡ true = sym c.loop-digit.invariant.digits ∙ ap (list_all is_ascii_digit) ended in
    let is : value_from 0 c.args.word.now ≡ c.loop-digit.value = sym c.loop-digit.invariant.same ∙ ap (value_from c.loop-digit.value) ended in
    elim c.else-low-value.branch [
      | else-low-value-via-then-low-value+else-value-high w ↦ above_range _ _ _ _ c.loop-digit.invariant.some c.loop-digit.invariant.short good is (omega arith) (omega arith)
      | else-low-value-via-else-low-value w ↦ below_range _ _ _ _ c.loop-digit.invariant.some c.loop-digit.invariant.short good is (omega arith)
    ]
