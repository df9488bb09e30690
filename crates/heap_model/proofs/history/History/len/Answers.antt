use Rattle.std.proofs.Common.{length, ap, arith, length-append}
use Rattle.heap_model.specs.History.{Log}
use Rattle.heap_model.specs.Segments.{entries_of}
use Rattle.heap_model.proofs.Segments.{length-segments}
use Rattle.heap_model.proofs.history.History.len.Goals as goal

pub returns-clause-value : goal.returns-clause-value
returns-clause-value c =
    let full = c.self.inside.full.items in
    omega (arith, length-segments full c.self.invariant.full, length-append (entries_of full) c.self.inside.last.entries, ap (λ (l : Log). length l.entries) c.self.view_is)
