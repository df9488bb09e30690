use Rattle.std.proofs.Common.{◌≡◌, ℕ, List, IsFalse, Contains, subst, sym}
use Rattle.c_types.specs.Shapes.{is_unknown}
use Rattle.c_types.specs.Table.{Types, IsNumber, shape_of}
use Rattle.c_types.specs.Rows.{types_of}
use Rattle.c_types.proofs.Based.{known_number}
use Rattle.c_types.proofs.table.TypeTable.known_types.Goals as goal

pub returns-clause-all : goal.returns-clause-all
returns-clause-all c =
    subst (λ (order : List ℕ). (n : ℕ) → IsNumber c.args.self.now n → IsFalse (is_unknown (shape_of c.args.self.now n)) → Contains order n)
    (sym c.as_slice.ensures.value)
    (subst (λ (t : Types). (n : ℕ) → IsNumber t n → IsFalse (is_unknown (shape_of t n)) → Contains c.self.inside.order.items n) c.self.view_is
    (known_number (types_of c.self.inside.kinds.keys c.self.inside.tags.items) c.self.inside.order.items c.self.invariant.base))
