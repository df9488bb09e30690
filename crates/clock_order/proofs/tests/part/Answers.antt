use Rattle.std.proofs.Common.{◌≡◌, ◌<◌, ◌≤◌, ◌∷◌, [], ◌++◌, ℕ, List, refl, arith, subst, sym}
use Rattle.std.specs.List.{AllByRecursion}
use Rattle.heap_model.specs.Order.{StampsRise}
use Rattle.heap_model.specs.declared.calls.Entry.{Entry}
use Rattle.heap_model.proofs.Merge.{all-map}
use Rattle.clock_order.proofs.Permuting.{all-append}
use Rattle.clock_order.proofs.tests.part.Goals as goal
use Rattle.clock_order.proofs.tests.part.Goals.{then-stamp-last+in_ok-room, else-stamp-last}

stamps-push : (es : List Entry) (e : Entry) (last : ℕ) → StampsRise es → AllByRecursion (λ f. f.stamp ≤ last) es
    → last < e.stamp → StampsRise (es ++ e ∷ [])
stamps-push [] e last rise below above = (tt, tt)
stamps-push (x ∷ xs) e last rise below above = (
  all-append (λ f. x.stamp < f.stamp) xs (e ∷ []) rise.0 (omega (arith, below.0, above), tt),
  stamps-push xs e last rise.1 below.1 above,
)

record IsSoFar (region last : ℕ) (es : List Entry) : Type 0 where
  of : AllByRecursion (λ e. e.region ≡ region) es
  stamps : StampsRise es
  below : AllByRecursion (λ e. e.stamp ≤ last) es

next : (region last : ℕ) (old new : List Entry) (e : Entry) → new ≡ old ++ e ∷ [] → e.region ≡ region
    → last < e.stamp → IsSoFar region last old → IsSoFar region e.stamp new
next region last old new e grown of above so =
    subst (IsSoFar region e.stamp) (sym grown)
    (record {
      of = all-append (λ f. f.region ≡ region) old (e ∷ []) so.of (of, tt);
      stamps = stamps-push old e last so.stamps so.below above;
      below = all-append (λ f. f.stamp ≤ e.stamp) old (e ∷ [])
          (all-map (λ f low. omega (arith, low, above)) old so.below) (omega arith, tt);
    })

pub loop-stamp-preserved : goal.loop-stamp-preserved
loop-stamp-preserved c =
    let so : IsSoFar c.args.region c.loop-stamp.last c.loop-stamp.history.entries =
    record { of = c.loop-stamp.invariant.region; stamps = c.loop-stamp.invariant.stamps; below = c.loop-stamp.invariant.below } in
    elim c.if-stamp-last.branch [
      | then-stamp-last+in_ok-room w ↦
          let now = next c.args.region c.loop-stamp.last c.loop-stamp.history.entries w.push.new.self.entries _
          (rw w.in_ok-room.ensures.entries at w.push.ensures.entries) refl w.if-stamp-last.true so in
          rw (w.history-is, w.last-is) (record { region = now.of; stamps = now.stamps; below = now.below })
      | else-stamp-last w ↦
          rw (w.history-is, w.last-is) c.loop-stamp.invariant
    ]
