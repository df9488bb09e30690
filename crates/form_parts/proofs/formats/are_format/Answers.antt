use Rattle.std.proofs.Common.{◌≡◌, ◌++◌, ◌-◌, ◌+◌, take, drop, length, true, false, sym, ap, ◌∙◌}
use Rattle.std.specs.Str.{bytes_eq}
use Rattle.token_texts.specs.Texts.{number_at, string_of}
use Rattle.form_parts.specs.Formats.{joined_strings}
use Rattle.form_parts.proofs.FormatLemmas.{bytes_eq-begins, bytes_eq-apart, bytes_eq-nil, joined_strings-end, joined_strings-more}
use Rattle.form_parts.proofs.formats.are_format.Goals as goal

pub returns-in-None : goal.returns-in-None
returns-in-None c =
    let texts = c.args.texts.now in
    let token = c.loop-token.token in
    let more = joined_strings texts (c.args.end - (token + 1)) (token + 1) in
    let spelled : c.string.result.now ≡ string_of texts (number_at texts token) = c.string.ensures ∙ ap (λ n. string_of texts n) c.number.ensures in
    let apart : bytes_eq (take (length c.string.result.now) c.loop-token.rest.now) c.string.result.now ≡ false = c.in-None.ensures.cases in
    sym
    (c.loop-token.invariant
    ∙ ap (λ l. bytes_eq l c.loop-token.rest.now) (joined_strings-more texts token c.args.end c.loop-token-test.true ∙ ap (λ l. l ++ more) (sym spelled))
    ∙ bytes_eq-apart c.string.result.now more c.loop-token.rest.now apart)

pub loop-token-preserved : goal.loop-token-preserved
loop-token-preserved c =
    let texts = c.args.texts.now in
    let token = c.loop-token.token in
    let more = joined_strings texts (c.args.end - (token + 1)) (token + 1) in
    let spelled : c.string.result.now ≡ string_of texts (number_at texts token) = c.string.ensures ∙ ap (λ n. string_of texts n) c.number.ensures in
    let begins : bytes_eq (take (length c.string.result.now) c.loop-token.rest.now) c.string.result.now ≡ true = c.in-Some.ensures.cases.0 in
    let after : c.in-Some.after.now ≡ drop (length c.string.result.now) c.loop-token.rest.now = c.in-Some.ensures.cases.1 in
    c.loop-token.invariant
    ∙ ap (λ l. bytes_eq l c.loop-token.rest.now) (joined_strings-more texts token c.args.end c.loop-token-test.true ∙ ap (λ l. l ++ more) (sym spelled))
    ∙ bytes_eq-begins c.string.result.now more c.loop-token.rest.now c.in-Some.after.now begins after

pub returns : goal.returns
returns c =
    c.is_empty.ensures
    ∙ sym
    (c.loop-token.invariant
    ∙ ap (λ l. bytes_eq l c.loop-token.rest.now) (joined_strings-end c.args.texts.now c.loop-token.token c.args.end c.loop-token-test.false)
    ∙ bytes_eq-nil c.loop-token.rest.now)
