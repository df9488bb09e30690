use Rattle.std.proofs.Common.{refl, ap, ◌∙◌, ◌≡◌, arith, ◌+◌, length}
use Rattle.std.proofs.lemmas.List.Elements.{All-append, All-drop, All-same, All-take}
use Rattle.region_lock.specs.Known.{Known}
use Rattle.region_lock.proofs.Closings.{newcomers_all, length-newcomers}
use Rattle.shared_tests.proofs.threads.run.Goals as goal

pub work_in_turn-requires-clause-own : goal.work_in_turn-requires-clause-own
work_in_turn-requires-clause-own g c κs within =
    let P : Known → _ = λ p. p.locks ≡ c.in_ok-heap.heap.locks in
    All-same P _ _ (c.as_mut_slice.ensures.value ∙ c.in_ok-heap.ensures.passes)
    (newcomers_all P c.in_ok-heap.heap.locks (c.args.workers + 1) (λ k. refl))

pub close-requires-clause-count : goal.close-requires-clause-count
close-requires-clause-count g c = omega (
  arith,
  c.in_ok-heap.passes.ok.0,
  ap length c.in_ok-heap.ensures.passes,
  length-newcomers c.in_ok-heap.heap.locks (c.args.workers + 1),
  c.in_ok-heap.ensures.counts.0,
)

pub close-requires-clause-own : goal.close-requires-clause-own
close-requires-clause-own g c =
    let P : Known → _ = λ p. p.locks ≡ c.in_ok-heap.heap.locks in
    let before = All-same P _ _ c.in_ok-heap.ensures.passes
    (newcomers_all P c.in_ok-heap.heap.locks (c.args.workers + 1) (λ k. refl)) in
    All-take P _ _ (All-append P _ _ c.work_in_turn.ensures (All-drop P _ _ before))
