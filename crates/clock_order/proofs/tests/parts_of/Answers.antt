use Rattle.std.proofs.Common.{rules, ◌≡◌, ◌<◌, ℕ, get_or, arith}
use Rattle.std.specs.List.{All}
use Rattle.std.proofs.lemmas.List.Quantifiers.{all_pairs_push}
use Rattle.heap_model.specs.History.{Log}
use Rattle.clock_order.specs.Parts.{AreApart}
use Rattle.clock_order.proofs.tests.parts_of.Goals as goal

apart-above : (r : ℕ) (p q : Log) → All (λ e. r < e.region) p.entries → All (λ f. f.region ≡ r) q.entries → AreApart p q
apart-above r p q above of i e i-is j f j-is same = omega (arith, above i e i-is, of j f j-is, same)

pub loop-own-preserved : goal.loop-own-preserved
loop-own-preserved c = record {
  region = search rules;
  stamps = search rules;
  apart =
      rw c.in_ok-push.ensures.items
      (all_pairs_push AreApart c.loop-own.parts.items c.in_ok-part.field-0 c.loop-own.invariant.apart
      (λ k d below. apart-above c.loop-own.region (get_or c.loop-own.parts.items k d) c.in_ok-part.field-0
      (c.loop-own.invariant.above k d below) c.in_ok-part.ensures.region));
  above = search rules;
}
