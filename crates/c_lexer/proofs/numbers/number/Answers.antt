use Rattle.std.proofs.Common.{ap, ◌∙◌}
use Rattle.c_lexer.specs.Scan.{suffix_at}
use Rattle.c_lexer.proofs.Numerals.{number_result}
use Rattle.c_lexer.proofs.numbers.number.Goals as goal

pub returns : goal.returns
returns c =
    number_result c.args.s.now c.rest_from-rest.result.now c.radix_at-radix.result c.prefix_of-prefix.result c.digits_len-digits.result c.suffix_at-ending.result c.constant.result
    c.radix_at-radix.ensures c.prefix_of-prefix.ensures c.rest_from-rest.ensures c.digits_len-digits.ensures.value (c.suffix_at-ending.ensures.value ∙ ap suffix_at c.rest_from.ensures) c.constant.ensures
