use Rattle.std.proofs.Common.{subst}
use Rattle.type_layout.specs.Listed.{In}
use Rattle.layout_table.proofs.making.ordered_rows.Goals as goal

pub order-requires : goal.order-requires
order-requires c = record { each = λ row i. c.requires.each row (subst (λ rs. In row rs) c.deref_mut.ensures.value i) }
