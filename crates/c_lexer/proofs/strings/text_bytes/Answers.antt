use Rattle.std.proofs.Common.{◌∙◌}
use Rattle.c_lexer.proofs.StringTokens.{meaning_answered}
use Rattle.c_lexer.proofs.strings.text_bytes.Goals as goal

pub returns : goal.returns
returns c bytes i =
    meaning_answered _ _ (λ v. v.items) c.decode.result c.args.text.now c.args.token.now.start c.args.token.now.end bytes c.as_slice.result.now c.inner.result.now i
    (c.as_slice.ensures.value ∙ c.in_ok-joined.ensures.bytes) c.inner.ensures c.decode.ensures
