use Rattle.std.proofs.Common.{refl, ap, ◌∙◌, ◌≡◌, arith, ◌+◌, ◌≤◌, length}
use Rattle.std.proofs.lemmas.List.Elements.{All-same}
use Rattle.region_lock.specs.Known.{Known}
use Rattle.region_lock.specs.Shown.{identity_of, budget_of}
use Rattle.region_lock.proofs.Closings.{newcomers_all, length-newcomers}
use Rattle.lock_tests.proofs.threads.run.Goals as goal

pub work_all-requires-clause-own : goal.work_all-requires-clause-own
work_all-requires-clause-own g c κs h =
    let P : Known → _ = λ p. p.locks ≡ identity_of c.in_ok-locks.locks in
    All-same P _ _ (c.as_mut_slice.ensures.value ∙ c.in_ok-locks.ensures.passes)
    (newcomers_all P (identity_of c.in_ok-locks.locks) c.args.passes (λ k. refl))

pub work_all-requires-clause-room : goal.work_all-requires-clause-room
work_all-requires-clause-room g c κs h =
    let P : Known → _ = λ p. length p.list + c.args.turns ≤ budget_of c.in_ok-locks.locks in
    All-same P _ _ (c.as_mut_slice.ensures.value ∙ c.in_ok-locks.ensures.passes)
    (newcomers_all P (identity_of c.in_ok-locks.locks) c.args.passes
    (λ k. omega (arith, c.in_ok-locks.ensures.counts.2)))

pub close-requires-clause-count : goal.close-requires-clause-count
close-requires-clause-count g c κs = omega (
  arith,
  c.in_ok-locks.passes.ok.0,
  ap length c.in_ok-locks.ensures.passes,
  length-newcomers (identity_of c.in_ok-locks.locks) c.args.passes,
  c.in_ok-locks.ensures.counts.1,
)
