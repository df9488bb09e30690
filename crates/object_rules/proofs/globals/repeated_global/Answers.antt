use Rattle.std.proofs.Common.{refl, subst, sym}
use Rattle.object_rules.proofs.GlobalLemmas.{repeated_by_steps}
use Rattle.rule_answers.specs.Gives.{Makes}
use Rattle.object_rules.proofs.globals.repeated_global.Goals as goal

pub returns : goal.returns
returns c = λ earlier here.
    subst (λ made. Makes made c.mean_global.result c.mean_global.new.state)
    (sym (repeated_by_steps c.args.place c.args.defines c.args.introduced c.args.number c.args.kind c.in-Some.defined earlier
    c.replace-earlier.result _ c.declared_again-later.result c.args.state.now c.replace-earlier.new.self c.set.new.self here
    c.replace-earlier.ensures.before c.replace-earlier.ensures.after (c.declared_again-later.ensures c.args.state.now refl)
    c.set.ensures c.in-Some.ensures))
    c.mean_global.ensures
