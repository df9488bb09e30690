use Rattle.c_lexer.proofs.NameTokens.{name_of}
use Rattle.c_lexer.proofs.lexer.law_names.Goals as goal

pub returns : goal.returns
returns c text ts t d m is = name_of text ts t d m is
