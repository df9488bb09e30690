use Rattle.std.proofs.Common.{subst, sym}
use Rattle.std.proofs.lemmas.List.{take_all}
use Rattle.layout_table.specs.Making.{IsSoFar}
use Rattle.layout_table.specs.Tables.{IsTableOf}
use Rattle.layout_table.proofs.Sized.{all_added}
use Rattle.layout_table.proofs.table.Table.build.Goals as goal

pub invariant_of-result : goal.invariant_of-result
invariant_of-result c =
    subst (λ ts. IsTableOf ts c.loop-i.entries.items c.loop-i.rows.items c.loop-i.levels.items) (sym
    c.in_ok-known.ensures)
    (all_added c.args.types.now c.law_table.ensures c.known_types-numbers.result.now
    c.known_types-numbers.ensures.all c.loop-i.entries.items c.loop-i.rows.items c.loop-i.levels.items
    (subst (λ ns. IsSoFar c.args.types.now ns c.loop-i.entries.items c.loop-i.rows.items c.loop-i.levels.items)
    (take_all c.loop-i.i c.known_types-numbers.result.now c.loop-i-test.false) c.loop-i.invariant))
