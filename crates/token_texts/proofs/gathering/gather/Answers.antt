use Rattle.std.proofs.Common.{◌≡◌, ◌∙◌, List, take, refl, ap, sym, subst, rules, arith}
use Rattle.std.proofs.lemmas.Grind.{common_steps}
use Rattle.std.proofs.lemmas.List.{take_all}
use Rattle.token_texts.specs.Texts.{AreTextsFrom}
use Rattle.token_texts.proofs.Steps.{no_tokens}
use Rattle.token_texts.proofs.gathering.gather.Goals as goal

pub loop-token-init : goal.loop-token-init
loop-token-init c =
    let start = c.in_ok-numbering.ensures in
    record {
      many = rw start.2 refl;
      texts = λ given is. no_tokens given c.args.text.now c.in_ok-numbering.numbering (start.0 ∙ is) start.1 start.2;
    }

pub returns : goal.returns
returns c = λ given is.
    let all : take c.loop-token._token-index c.args.tokens.now ≡ c.args.tokens.now = take_all c.loop-token._token-index c.args.tokens.now (omega arith) in
    subst (AreTextsFrom given c.args.text.now c.args.tokens.now) (sym c.into_texts.ensures)
    (subst (λ l. AreTextsFrom given c.args.text.now l c.loop-token.numbering) all (c.loop-token.invariant.texts given is))
