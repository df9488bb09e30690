use Rattle.std.proofs.Common.{List, sym, ap, ◌∙◌}
use lib.ListN.{get_elem?}
use Rattle.shared_heap.specs.Regions.{Region}
use Rattle.shared_heap.proofs.Starts.{fresh-at}
use Rattle.shared_heap.proofs.heap.SharedHeap.start.Goals as goal

pub new-requires-clause-fresh : goal.new-requires-clause-fresh
new-requires-clause-fresh c κs = λ k y e.
    let is = fresh-at c.args.table.now 27 k y
    (ap (λ (l : List Region). get_elem? l k) (sym c.in_ok-regions.ensures) ∙ e) in
    (ap (λ (r : Region). r.number) is, ap (λ (r : Region). r.entries) is)
