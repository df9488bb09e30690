use Rattle.std.proofs.Common.{◌≡◌, Some, arith, rules}
use Rattle.heap_model.specs.Forms.{region_for}
use Rattle.heap_model.proofs.Restricted.{call-region}
use Rattle.shared_heap.proofs.Starts.{allowed}
use Rattle.shared_heap.proofs.heap.SharedHeap.call.Goals as goal

pub with-requires-clause-region : goal.with-requires-clause-region
with-requires-clause-region g c κs within =
    let home : region_for c.args.call ≡ Some c.unwrap-region.result = search rules in
    let range = call-region c.args.call c.unwrap-region.result home in
    (omega (arith, range.0), omega (arith, range.1, c.self.invariant.regions))

pub with-requires-clause-call : goal.with-requires-clause-call
with-requires-clause-call g c κs within =
    let home : region_for c.args.call ≡ Some c.unwrap-region.result = search rules in
    allowed c.self.inside.table.now _ c.unwrap-region.result c.args.call c.self.invariant.rules home c.requires.fits
    (search rules)
