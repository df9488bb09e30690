use Rattle.std.proofs.Common.{refl}
use Rattle.token_texts.proofs.Tables.{one_table, name_there, equal_names, string_there, given_first, names_apart}
use Rattle.token_texts.specs.Names.{predefined}
use Rattle.token_texts.proofs.Distinct.{first_of_all}
use Rattle.token_texts.proofs.laws.law_texts.Goals as goal

pub returns : goal.returns
returns c = record {
  one = one_table c.law_strings.ensures.one;
  names = λ given text tokens texts x at here. (name_there texts x at here.token here.stands here.name).stands;
  equal_names = λ given text tokens texts x i j here there.
      equal_names texts x i j (name_there texts x i here.token here.stands here.name) (name_there texts x j there.token there.stands there.name);
  strings = λ given text tokens texts x at token stands is. string_there texts x at token stands is;
  distinct_names = λ given text tokens texts x m n name first other. (names_apart texts x).same m n name first other;
  predefined_names = λ typedefs text tokens texts x n name stands. given_first texts x n name (first_of_all predefined typedefs n name refl stands);
}
