use Rattle.std.proofs.Common.{List, [], subst}
use Rattle.std.specs.Result.{IfOk}
use Rattle.std.proofs.lemmas.Result.{IfOk-weaker}
use Rattle.heap_model.specs.History.{Log}
use Rattle.heap_model.specs.Order.{IsMerge}
use Rattle.clock_order.specs.Heads.{IsMoved}
use Rattle.clock_order.specs.Parts.{entries_of, by_region, KeepsLegal, Extends}
use Rattle.clock_order.proofs.Whole.{merges, keeps-legal, extends}
use Rattle.clock_order.proofs.merging.merge.Goals as goal

pub returns-clause-merges : goal.returns-clause-merges
returns-clause-merges c =
    let parts : List Log = c.args.parts.items in
    let moved : IfOk c.merged.result (λ h. IsMoved (entries_of parts) [] h.entries) =
    subst (λ (ps : List Log). IfOk c.merged.result (λ h. IsMoved (entries_of ps) [] h.entries)) c.as_slice.ensures.value
    c.merged.ensures in
    IfOk-weaker c.merged.result (λ h. IsMoved (entries_of parts) [] h.entries) (λ h. IsMerge (by_region parts) h.entries)
    (λ h m. merges parts c.requires.apart c.requires.stamps h.entries m) moved

pub returns-clause-legal : goal.returns-clause-legal
returns-clause-legal c =
    let parts : List Log = c.args.parts.items in
    IfOk-weaker c.merged.result (λ h. IsMerge (by_region parts) h.entries) (λ h. KeepsLegal (by_region parts) h.entries)
    (λ h m. keeps-legal c.law_restrictions.ensures (by_region parts) h.entries m) (returns-clause-merges c)

pub returns-clause-extends : goal.returns-clause-extends
returns-clause-extends c =
    let parts : List Log = c.args.parts.items in
    IfOk-weaker c.merged.result (λ h. IsMerge (by_region parts) h.entries) (λ h. Extends (by_region parts) h.entries)
    (λ h m. extends c.law_extension.ensures (by_region parts) h.entries m) (returns-clause-merges c)
