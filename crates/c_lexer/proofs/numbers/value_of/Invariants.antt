use Rattle.std.proofs.Common.{◌≡◌, ◌<◌, ◌^◌, drop}
use Rattle.c_lexer.specs.Bytes.{digits_value}
use Rattle.c_lexer.proofs.numbers.value_of.Given as goal

abbrev pub invariant-loop-b : goal.invariant-loop-b
invariant-loop-b l = record {
  fits : l.n < 2 ^ 64;
  same : digits_value l.base l.n (drop l.b-index l.digits) ≡ digits_value l.base 0 l.digits;
}
