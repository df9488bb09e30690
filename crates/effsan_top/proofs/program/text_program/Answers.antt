use Rattle.std.proofs.Common.{sym, subst, Err, rules}
use Rattle.std.specs.Prelude.{IsErrOf}
use Rattle.std.proofs.lemmas.Result.{err_from_is_err_and}
use Rattle.plain_meaning.specs.declared.tree.Program.{Program}
use Rattle.program_form.specs.declared.error.FormError.{FormError}
use Rattle.program_form.specs.declared.error.FormError.TheVariants.{NotYet}
use Rattle.effsan_top.specs.Steps.{IsReading}
use Rattle.effsan_top.proofs.Reading.{form_cause}
use Rattle.effsan_top.proofs.program.text_program.Goals as goal

pub returns-in_err-program_of-clause-refused : goal.returns-in_err-program_of-clause-refused
returns-in_err-program_of-clause-refused c =
    let p = err_from_is_err_and c.from_residual-in_err-program_of.result c.from_residual-in_err-program_of.ensures.1 in
    let text = c.args.text.now in
    let reads = subst (λ ts. IsReading text ts) (sym c.as_slice.ensures.value) c.in_ok-tokens.ensures.found in
    rw (p.1, p.2)
    (form_cause text c.as_slice.result.now c.in_ok-unit.unit reads.becomes c.in_ok-unit.ensures.found c.in_err-program_of.field-0.0 (λ line same.
    let is : IsErrOf {T = Program} {E = FormError} (Err c.in_err-program_of.field-0.0) (NotYet line) = search rules in
    c.in_err-program_of.ensures.refused line is))

pub returns-clause-found : goal.returns-clause-found
returns-clause-found c =
    let reads = subst (λ ts. IsReading c.args.text.now ts) (sym c.as_slice.ensures.value) c.in_ok-tokens.ensures.found in
    record {
      tokens = c.as_slice.result.now;
      becomes = reads.becomes;
      unit = c.in_ok-unit.unit;
      derived = c.in_ok-unit.ensures.found;
      formed = c.in_ok-program_of.ensures.found;
    }
