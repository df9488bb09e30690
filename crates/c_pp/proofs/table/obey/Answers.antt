use Rattle.std.proofs.Common.{◌+◌, drop, Some, None, refl, sym, subst, ◌∙◌, inr}
use Rattle.std.specs.Prelude.{slice_range}
use Rattle.std.proofs.lemmas.Option.{get_or_from_slice_get}
use Rattle.c_pp.specs.declared.error.PpError.TheVariants.{UnknownHeader, BadDirective}
use Rattle.c_tokens.specs.declared.token.Token.{Token}
use Rattle.c_pp.specs.Expands.{HasPpFault}
use Rattle.c_pp.proofs.Lines.{is_define, is_undef, is_header_refused, is_directive_refused}
use Rattle.c_pp.proofs.Obeying.{obeyed_nothing, obeyed_about, refused_here}
use Rattle.c_pp.proofs.WalkLemmas.{nowhere}
use Rattle.c_pp.proofs.table.obey.Goals as goal

pub returns-in-Nothing-clause-obeyed : goal.returns-in-Nothing-clause-obeyed
returns-in-Nothing-clause-obeyed c macros name hash there begins seen =
    obeyed_nothing c.args.text.now macros name c.args.tokens.now c.args.numbers.now c.args.table.now c.args.at c.line_len.result seen c.line_len.ensures.value
    (sym c.in_ok-read_line.ensures ∙ c.in-Nothing.is)

pub returns-in-Define-clause-obeyed : goal.returns-in-Define-clause-obeyed
returns-in-Define-clause-obeyed c macros name hash there begins seen =
    let end = c.args.at + 1 + c.line_len.result in
    obeyed_about c.args.text.now macros name c.args.tokens.now c.args.numbers.now c.args.table.now c.change.new.table c.args.at c.line_len.result c.number_at.result
    (Some (record { start = c.args.at + 3; end = end })) (λ body. Some body) seen c.line_len.ensures.value c.number_at.ensures refl
    (is_define c.args.text.now (slice_range c.args.tokens.now (c.args.at + 1) end) (sym c.in_ok-read_line.ensures ∙ c.in-Define.is)) c.change.ensures.changed

pub returns-in-Undefine-clause-obeyed : goal.returns-in-Undefine-clause-obeyed
returns-in-Undefine-clause-obeyed c macros name hash there begins seen =
    let end = c.args.at + 1 + c.line_len.result in
    obeyed_about c.args.text.now macros name c.args.tokens.now c.args.numbers.now c.args.table.now c.change-in-Undefine.new.table c.args.at c.line_len.result c.number_at-in-Undefine.result
    None (λ _. None) seen c.line_len.ensures.value c.number_at-in-Undefine.ensures refl
    (is_undef c.args.text.now (slice_range c.args.tokens.now (c.args.at + 1) end) (sym c.in_ok-read_line.ensures ∙ c.in-Undefine.is)) c.change-in-Undefine.ensures.changed

pub returns-in-UnknownHeader-clause-obeyed : goal.returns-in-UnknownHeader-clause-obeyed
returns-in-UnknownHeader-clause-obeyed c macros name hash there begins seen =
    let words = slice_range c.args.tokens.now (c.args.at + 1) (c.args.at + 1 + c.line_len.result) in
    inr (λ room. subst (λ (t : Token). HasPpFault c.args.text.now macros room (drop c.args.at c.args.tokens.now) (UnknownHeader t.line))
    (sym (get_or_from_slice_get c.args.tokens.now c.args.at hash nowhere there))
    (refused_here c.args.text.now macros c.args.tokens.now c.args.at c.line_len.result room hash (UnknownHeader hash.line) there begins c.line_len.ensures.value
    (is_header_refused c.args.text.now words hash.line (sym c.in_ok-read_line.ensures ∙ c.in-UnknownHeader.is))))

pub returns-in-Unknown-clause-obeyed : goal.returns-in-Unknown-clause-obeyed
returns-in-Unknown-clause-obeyed c macros name hash there begins seen =
    let words = slice_range c.args.tokens.now (c.args.at + 1) (c.args.at + 1 + c.line_len.result) in
    inr (λ room. subst (λ (t : Token). HasPpFault c.args.text.now macros room (drop c.args.at c.args.tokens.now) (BadDirective t.line))
    (sym (get_or_from_slice_get c.args.tokens.now c.args.at hash nowhere there))
    (refused_here c.args.text.now macros c.args.tokens.now c.args.at c.line_len.result room hash (BadDirective hash.line) there begins c.line_len.ensures.value
    (is_directive_refused c.args.text.now words hash.line (sym c.in_ok-read_line.ensures ∙ c.in-Unknown.is))))
