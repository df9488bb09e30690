use Rattle.std.proofs.Common.{sym, subst}
use Rattle.c_lexer.specs.Lexes.{Tokens}
use Rattle.tree_cases.proofs.Strings.{drawn}
use Rattle.tree_cases.proofs.reading.tokens_of.Goals as goal

-- each string literal that the text becomes means bytes, as those of the text do
pub returns-clause-strings : goal.returns-clause-strings
returns-clause-strings c =
    let text = c.args.text.now in
    let tokens = c.as_slice.result.now in
    let lexed = subst (λ ts. Tokens text ts) (sym c.as_slice.ensures.value) c.in-Ok.ensures.found in
    drawn text tokens lexed (c.law_strings.ensures.some text) c.in_ok-expand.field-0.items c.in_ok-expand.ensures.drawn
