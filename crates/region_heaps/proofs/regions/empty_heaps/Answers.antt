use Rattle.std.proofs.Common.{◌+◌, List, [], ◌∷◌, length, sym, ap, subst, arith, length-append, ℕ, ◌≤◌, ◌<◌}
use Rattle.heap_model.specs.State.{State}
use Rattle.region_heaps.specs.Regions.{IsEmptyHeap, heap_of}
use Rattle.region_heaps.proofs.ByRegion.{each-push}
use Rattle.region_heaps.proofs.regions.empty_heaps.Goals as goal

pub loop-region-preserved : goal.loop-region-preserved
loop-region-preserved c =
    let P : List State → Type 0 = λ heaps. (q : ℕ) → 1 ≤ q → q < c.loop-region.region + 1 → IsEmptyHeap (heap_of heaps q) q in
    record {
      count = omega (arith, c.loop-region.invariant.count, ap length c.in_ok-push.ensures.items, length-append c.loop-region.heaps.items (c.in_ok-new.field-0 ∷ []));
      each =
          subst P (sym {A = List State} c.in_ok-push.ensures.items)
          (each-push c.loop-region.heaps.items c.in_ok-new.field-0 c.loop-region.region c.loop-region.invariant.count c.loop-region.invariant.each
          (record { region_is = c.in_ok-new.ensures.region; states = c.in_ok-new.ensures.empty; stands = c.in_ok-new.ensures.stands }));
    }
