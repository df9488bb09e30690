use Rattle.std.proofs.Common.{◌≡◌, false, ℕ, List, Ok, map, sym, ap, ap₂, ◌∙◌}
use Rattle.c_types.specs.declared.kinds.Field.{Field}
use Rattle.c_types.specs.Table.{Types}
use Rattle.c_types.specs.Adding.{completed_tags}
use Rattle.c_types.proofs.Laid.{completed_is}
use Rattle.c_types.proofs.table.TypeTable.add_struct.Goals as goal

pub returns-clause-completed : goal.returns-clause-completed
returns-clause-completed c =
    ap (λ (t : Types). Ok t)
    (c.in_ok-complete.ensures.completed ∙
    ap₂ (λ (tag : ℕ) (fields : List Field).
    record { kinds = c.args.self.now.kinds; tags = completed_tags c.args.self.now.tags tag fields })
    c.in_ok-laid.ensures.number c.in_ok-laid.ensures.fields) ∙
    sym (completed_is c.args.self.now false c.args.tag c.args.fields.now c.in_ok-laid.ensures.fault)
