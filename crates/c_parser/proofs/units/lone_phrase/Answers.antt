use Rattle.std.proofs.Common.{subst, map}
use Rattle.c_grammar.specs.declared.phrases.TypePhrase.{TypePhrase}
use Rattle.grammar_descent.specs.AllReaders.{read_type_name}
use Rattle.grammar_descent.specs.UnitSteps as step
use Rattle.token_texts.specs.Texts.{name_of}
use Rattle.c_parser.specs.Answers.{Answers, phrase_of}
use Rattle.token_reader.specs.Input.{Input}
use Rattle.c_parser.proofs.UnitLaws.{same_answers}
use Rattle.c_parser.proofs.units.lone_phrase.Goals as goal

pub returns-clause-answers : goal.returns-clause-answers
unfolding step.lone_type
returns-clause-answers c =
    same_answers c.whole_phrase-found.result c.refused_within.result (read_type_name c.args.text.now c.args.tokens.now (map (name_of c.args.texts.now) c.args.typedefs.now)) c.refused_within.ensures.same
    (subst (λ (i : Input). Answers {A = TypePhrase} c.whole_phrase-found.result (phrase_of i.text i.tokens i.state)) c.in_ok-reader.ensures c.whole_phrase-found.ensures)
