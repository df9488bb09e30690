use Rattle.std.proofs.Common.{◌∙◌, sym}
use Rattle.object_rules.specs.Types.{own_type}
use Rattle.object_rules.proofs.FunctionLemmas.{anew_by_steps}
use Rattle.object_rules.proofs.functions.function_anew.Goals as goal

pub returns-in-Ok-first_function : goal.returns-in-Ok-first_function
returns-in-Ok-first_function c = λ source.
    let s = c.args.state.now in
    let d = c.args.introduced in
    anew_by_steps source c.args.defined.now s d (own_type d.here c.args.parts.now c.args.base.now s) c.in-Ok.signature
    c.own_type.new.state c.first_function.new.state c.in-Ok-first_function.number
    (sym c.is_global_named.ensures ∙ c.if-is_global_named.false) c.in-Ok.ensures (c.in-Ok-first_function.ensures source)
