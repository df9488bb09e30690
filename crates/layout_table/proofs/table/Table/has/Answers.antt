use Rattle.std.proofs.Common.{◌∙◌, ap, subst, sym, ◌≡◌, true, ℕ}
use Rattle.std.specs.Prelude.{not, ◌==◌, ◌↔◌}
use Rattle.c_types.specs.Table.{HasSize}
use Rattle.layout_table.specs.Tables.{size_in}
use Rattle.layout_table.proofs.Sized.{has_is}
use Rattle.layout_table.proofs.table.Table.has.Goals as goal

pub returns : goal.returns
returns c =
    subst (λ (n : ℕ). (not (n == 0) ≡ true) ↔ HasSize c.args.self.now c.args.t) (sym (c.size_in.ensures ∙
    ap (λ es. size_in es c.args.t) c.deref.ensures.value))
    (subst (λ ts. (not (size_in c.self.inside.entries.items c.args.t == 0) ≡ true) ↔ HasSize ts c.args.t) c.self.view_is
    (has_is c.self.inside.types c.self.inside.entries.items c.self.inside.rows.items c.self.inside.levels.items
    c.self.invariant c.args.t))
