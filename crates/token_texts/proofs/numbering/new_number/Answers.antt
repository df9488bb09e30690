use Rattle.std.proofs.Common.{◌≡◌, ◌∙◌, Some, sym, subst, ap, rules, arith}
use Rattle.std.specs.Prelude.{slice_get}
use Rattle.std.proofs.lemmas.Grind.{common_steps}
use Rattle.c_tokens.specs.Names.{spelling}
use Rattle.token_texts.specs.Texts.{with_one}
use Rattle.token_texts.proofs.Steps.{gains_of_name, gains_of_string, gains_of_other}
use Rattle.token_texts.proofs.numbering.new_number.Goals as goal

pub returns-in_ok-number-in-Name : goal.returns-in_ok-number-in-Name
returns-in_ok-number-in-Name c =
    let bytes : c.as_slice.result.now ≡ spelling c.args.text.now c.args.token.now = c.as_slice.ensures.value ∙ c.in_ok-name-in-Name.ensures in
    gains_of_name c.args.text.now c.args.token.now c.args.names.now c.number_of.new.self c.args.strings.now c.in_ok-number-in-Name.number c.in-Name.is
    (c.in_ok-number-in-Name.ensures.table ∙ ap (with_one c.args.names.now) bytes) (c.in_ok-number-in-Name.ensures.number ∙ ap (λ b. Some b) bytes)

pub returns-in_ok-number-in-Str : goal.returns-in_ok-number-in-Str
returns-in_ok-number-in-Str c =
    let (meant, means) = c.requires.means c.in-Str.is in
    let bytes : c.as_slice-in-Str.result.now ≡ meant = c.as_slice-in-Str.ensures.value ∙ c.in_ok-bytes-in-Str.ensures meant means in
    gains_of_string c.args.text.now c.args.token.now c.args.names.now c.args.strings.now c.number_of-in-Str.new.self c.in_ok-number-in-Str.number meant c.in-Str.is means
    (c.in_ok-number-in-Str.ensures.table ∙ ap (with_one c.args.strings.now) bytes) (c.in_ok-number-in-Str.ensures.number ∙ ap (λ b. Some b) bytes)

pub returns-in_default : goal.returns-in_default
returns-in_default c = gains_of_other c.args.text.now c.args.token.now c.args.names.now c.args.strings.now c.in_default.not-Name c.in_default.not-Str
