use Rattle.std.proofs.Common.{sym, subst}
use Rattle.std.proofs.lemmas.Result.{err_from_is_err_and}
use Rattle.c_lexer.specs.Lexes.{Tokens}
use Rattle.effsan_top.proofs.Reading.{lexer_cause, expander_cause, reading}
use Rattle.effsan_top.proofs.program.read.Goals as goal

pub returns-in-Err-clause-refused : goal.returns-in-Err-clause-refused
returns-in-Err-clause-refused c =
    rw c.unreadable.ensures (lexer_cause c.args.text.now c.in-Err.error c.in-Err.ensures.refused)

pub returns-in_err-expand-clause-refused : goal.returns-in_err-expand-clause-refused
returns-in_err-expand-clause-refused c =
    let p = err_from_is_err_and c.from_residual.result c.from_residual.ensures.1 in
    let lexed = subst (λ ts. Tokens c.args.text.now ts) (sym c.as_slice.ensures.value) c.in-Ok.ensures.found in
    rw (p.1, p.2) (expander_cause c.args.text.now c.as_slice.result.now lexed c.in_err-expand.field-0.0 c.in_err-expand.ensures.refused)

pub returns-clause-found : goal.returns-clause-found
returns-clause-found c =
    let lexed = subst (λ ts. Tokens c.args.text.now ts) (sym c.as_slice.ensures.value) c.in-Ok.ensures.found in
    reading c.args.text.now (c.law_strings.ensures.some c.args.text.now) c.as_slice.result.now lexed c.in_ok-expand.field-0.items
    c.in_ok-expand.ensures.found c.in_ok-expand.ensures.drawn c.in_ok-expand.ensures.few
