use Rattle.std.proofs.Common.{◌≡◌, ◌<◌, ◌≤◌, ◌^◌, drop, length}
use Rattle.std.specs.Char.{is_ascii_digit}
use Rattle.std.specs.List.{list_all}
use Rattle.effs_words.specs.Numbers.{value_from}
use Rattle.effs_words.proofs.numbers.number_in.Given as goal

abbrev pub invariant-loop-digit : goal.invariant-loop-digit
invariant-loop-digit l = record {
  some : 1 ≤ length l.word;
  short : length l.word ≤ 10;
  fits : l.value < 10 ^ l.digit-index;
  digits : list_all is_ascii_digit (drop l.digit-index l.word) ≡ list_all is_ascii_digit l.word;
  same : value_from l.value (drop l.digit-index l.word) ≡ value_from 0 l.word;
}
