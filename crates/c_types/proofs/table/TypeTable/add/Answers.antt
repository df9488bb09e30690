use Rattle.std.proofs.Common.{◌≡◌, ◌+◌, ℕ, Some, sym, ap, ◌∙◌, position, rules, arith}
use Rattle.std.proofs.lemmas.Grind.{common_steps}
use Rattle.c_types.specs.Table.{Types}
use Rattle.c_types.specs.Adding.{is_same}
use Rattle.c_types.proofs.Places.{added_there}
use Rattle.c_types.proofs.table.TypeTable.add.Goals as goal

pub returns-in-Some-clause-number : goal.returns-in-Some-clause-number
returns-in-Some-clause-number c =
    let some : position (is_same c.args.kind) c.args.self.now.kinds ≡ Some c.in-Some.place = first_of (search rules, grind (arith, common_steps)) in
    ap (λ (n : ℕ). (n, c.args.self.now)) (omega arith) ∙ sym (added_there c.args.self.now c.args.kind c.in-Some.place some)
