use Rattle.std.specs.Prelude.{Contains}
use Rattle.std.proofs.Common.{sym, subst}
use Rattle.std.proofs.lemmas.List.Elements.{All-weaker, All-contains_itself}
use Rattle.c_lexer.specs.Lexes.{Tokens}
use Rattle.token_texts.specs.Strings.{MeansBytes}
use Rattle.call_tests.proofs.calls.form_of.Goals as goal

-- each string literal among the tokens of a text means bytes
pub parse-requires-clause-strings : goal.parse-requires-clause-strings
parse-requires-clause-strings c =
    let text = c.args.text.now in
    let tokens = c.as_slice.result.now in
    let lexed = subst (λ ts. Tokens text ts) (sym c.as_slice.ensures.value) c.in-Ok.ensures.found in
    All-weaker (Contains tokens) (MeansBytes text) (λ t h. c.law_strings.ensures.some text tokens t lexed h) tokens (All-contains_itself tokens)
