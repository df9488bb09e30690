use Rattle.std.proofs.Common.{◌≡◌, ◌+◌, ◌*◌, get_or, sym, ◌∙◌, ap, arith, drop}
use Rattle.std.proofs.lemmas.List.{drop_all}
use Rattle.c_lexer.specs.Bytes.{digits_value, digit_value}
use Rattle.c_lexer.proofs.Runs.{value_over, value_fits, valued_more}
use Rattle.c_lexer.proofs.numbers.value_of.Goals as goal

pub loop-b-preserved : goal.loop-b-preserved
loop-b-preserved c = record {
  fits = omega (arith, c.in-Some-checked_add.ensures);
  same =
      let more : c.in-Some-checked_add.more ≡ c.loop-b.n * c.args.base + digit_value (get_or c.args.digits.now c.loop-b.b-index 0) =
      omega (arith, c.in-Some.ensures, c.from.ensures, c.digit_value.ensures, c.in-Some-checked_add.ensures) in
      ap (λ n. digits_value c.args.base n (drop (c.loop-b.b-index + 1) c.args.digits.now)) more
      ∙ valued_more c.args.base c.loop-b.n c.loop-b.b-index c.args.digits.now c.loop-b-test.true ∙ c.loop-b.invariant.same;
}

pub returns-in_default : goal.returns-in_default
returns-in_default c = value_over c.args.base c.loop-b.n c.loop-b.b-index c.args.digits.now c.requires c.loop-b-test.true c.loop-b.invariant.same (omega (arith, c.in_default.ensures))

pub returns-in_default-checked_add : goal.returns-in_default-checked_add
returns-in_default-checked_add c =
    value_over c.args.base c.loop-b.n c.loop-b.b-index c.args.digits.now c.requires c.loop-b-test.true c.loop-b.invariant.same
    (omega (arith, c.in-Some.ensures, c.from.ensures, c.digit_value.ensures, c.in_default-checked_add.ensures))

pub returns : goal.returns
returns c =
    let ended : digits_value c.args.base c.loop-b.n (drop c.loop-b.b-index c.args.digits.now) ≡ c.loop-b.n = ap (digits_value c.args.base c.loop-b.n) (drop_all c.loop-b.b-index c.args.digits.now c.loop-b-test.false) in
    value_fits c.args.base c.loop-b.n c.args.digits.now (sym ended ∙ c.loop-b.invariant.same) c.loop-b.invariant.fits
