use Rattle.std.proofs.Common.{rules, sym, ap, ◌∙◌, ◌≡◌, []}
use Rattle.std.proofs.lemmas.List.Elements.{All-head, All-same, All-rest}
use Rattle.region_lock.specs.Boxes.{boxed}
use Rattle.region_lock.specs.Known.{Known}
use Rattle.region_lock.specs.Rule.{counter}
use Rattle.region_lock.proofs.Keeps.{enters, joins}
use Rattle.region_lock.proofs.Closings.{gathered}
use Rattle.region_lock.proofs.whole.gather.Goals as goal

pub load_new_seat-seat-requires : goal.load_new_seat-seat-requires
load_new_seat-seat-requires g c = (
  search rules,
  enters (boxed g.V.Kept.region) (boxed g.V.Kept.list)
      (boxed g.V.Kept.plain) _ _ _ _ _ (counter 0, []),
)

pub join_seat-requires : goal.join_seat-requires
join_seat-requires g c =
    let P : Known → _ = λ p. p.locks ≡ c.args.table.now.shared.table_id in
    let step = c.in-Some.ensures.steps in
    let own : c.in-Some.pass.locks ≡ c.args.table.now.shared.table_id = All-head P _ c.next.new.self.rest.items
    (All-same P _ c.loop-pass.pass-iterator.rest.items (sym step.0) c.loop-pass.invariant.left) in (
      c.loop-pass.invariant.seat,
      c.seat_of.ensures.0 ∙ own,
      ap (λ m. m.1) c.seat_of.ensures.1,
      search rules,
      joins _ _ _ _ _ _ _ _ _ _ (ap (λ v. v.region) c.loop-pass.invariant.view)
          (ap (λ m. m.0.region) c.seat_of.ensures.1),
    )

pub loop-pass-preserved : goal.loop-pass-preserved
loop-pass-preserved g c =
    let P : Known → _ = λ p. p.locks ≡ c.args.table.now.shared.table_id in
    record {
      seat = c.join_seat.ensures.0 ∙ c.loop-pass.invariant.seat;
      view = gathered _ c.in-Some.pass _ _ _ c.loop-pass.invariant.view (ap (λ m. m.0) c.seat_of.ensures.1)
          (ap (λ m. m.0) c.join_seat.ensures.2);
      left = All-rest P c.in-Some.pass _ _ c.in-Some.ensures.steps.0 c.loop-pass.invariant.left;
    }
