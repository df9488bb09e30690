use Rattle.std.proofs.Common.{◌≡◌, ◌∙◌, sym, ap, false}
use Rattle.declaration_rules.specs.Parts.{made}
use Rattle.declarator_rules.proofs.ParameterLemmas.{made_by_steps}
use Rattle.declarator_rules.proofs.parameters.parameter_made.Goals as goal

pub returns-in-Ok-parameter_named : goal.returns-in-Ok-parameter_named
returns-in-Ok-parameter_named c = λ source spelled.
    let s = c.args.state.now in
    let base = c.args.base.now in
    made_by_steps source c.args.place c.args.here base c.in-Ok.whole c.args.declared.now s c.made_of.new.state
    c.adjusted.new.state c.parameter_named.new.state c.in-Ok-adjusted.kind
    (sym (c.is_taken_by.ensures source spelled) ∙ c.if-is_taken_by.false)
    (ap (λ parts. made s parts base) (sym c.as_slice.ensures) ∙ c.in-Ok.ensures) c.in-Ok-adjusted.ensures
    (c.in-Ok-parameter_named.ensures source)
