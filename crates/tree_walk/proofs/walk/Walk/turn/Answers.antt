use Rattle.std.proofs.Common.{◌≡◌, ◌-◌, refl, ap, arith}
use Rattle.tree_walk.specs.declared.walk.Walk.{Walk}
use Rattle.tree_walk.proofs.Passing.{turned, spent}
use Rattle.tree_walk.proofs.walk.Walk.turn.Goals as goal

pub returns-then-self-eq0-clause-leads : goal.returns-then-self-eq0-clause-leads
returns-then-self-eq0-clause-leads c =
    let walk = c.args.self.now in
    λ next. spent walk walk c.args.line (next tt) (omega arith) (record { heaps = refl; text = refl; left = refl })

pub returns-then-self-eq0-clause-after : goal.returns-then-self-eq0-clause-after
returns-then-self-eq0-clause-after c =
    let walk = c.args.self.now in
    let same : walk.left ≡ walk.left - 1 = omega arith in
    ap (λ l. let w : Walk = record walk { left = l } in w) same

pub returns-clause-leads : goal.returns-clause-leads
returns-clause-leads c = λ next. turned c.args.self.now _ c.args.line (next tt) (omega arith) refl
