use Rattle.std.proofs.Common.{◌∙◌, length, ap, arith}
use Rattle.std.proofs.Math.ListN.{set}
use Rattle.slot_store.specs.Words.{zero_word}
use Rattle.slot_store.proofs.Paging.{cleared_none, cleared_next, length_cleared}
use Rattle.slot_store.proofs.pages.Pages.clear.Goals as goal

pub loop-at-init : goal.loop-at-init
loop-at-init c = cleared_none c.args.self.now c.args.first

pub set-requires : goal.set-requires
set-requires c =
    omega (arith, ap length c.loop-at.invariant, length_cleared c.args.self.now c.args.first c.loop-at.at (omega arith) (omega arith))

pub loop-at-preserved : goal.loop-at-preserved
loop-at-preserved c =
    c.set.ensures ∙ ap (λ l. set l c.loop-at.at zero_word) c.loop-at.invariant
    ∙ cleared_next c.args.self.now c.args.first c.loop-at.at (omega arith) (omega arith)
