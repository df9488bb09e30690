-- How `signed` and `unsigned` stand, as the grammar's readers say it.
use Rattle.grammar_descent.specs.TypeWords.{Sign as SignOfWords, plain, signed, unsigned}
use Rattle.declarator_parser.specs.declared.type_words.Sign.{Sign}
use Rattle.declarator_parser.specs.declared.type_words.Sign.TheVariants as sign

abbrev pub as_sign : Sign → SignOfWords
as_sign sign.Plain = plain
as_sign sign.Signed = signed
as_sign sign.Unsigned = unsigned
