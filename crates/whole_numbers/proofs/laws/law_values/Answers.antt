use Rattle.whole_numbers.proofs.Words.{number_word, word_number}
use Rattle.whole_numbers.proofs.laws.law_values.Goals as goal

pub returns : goal.returns
returns c kind = record { number_is = number_word kind.width kind.signed; word_is = word_number kind }
