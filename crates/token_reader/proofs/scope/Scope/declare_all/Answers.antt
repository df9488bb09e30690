use Rattle.std.proofs.Common.{◌≡◌, ◌++◌, take, rules, arith}
use Rattle.std.specs.Prelude.{reverse}
use Rattle.std.proofs.lemmas.Grind.{common_steps}
use Rattle.token_reader.proofs.ScopeLemmas.{reverse_more}
use Rattle.token_reader.proofs.scope.Scope.declare_all.Goals as goal

pub loop-i-preserved : goal.loop-i-preserved
loop-i-preserved c =
    let e = reverse_more (reverse c.args.own.now) c.loop-i.i _ c.declaration-declared.ensures in
    first_of (search rules, grind (arith, common_steps))
