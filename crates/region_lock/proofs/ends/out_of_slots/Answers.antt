use Rattle.std.proofs.Common.{refl, ap, ◌∙◌, ◌≢◌, ◌<◌, ◌+◌, arith, length, false, get_or, get_or-set_other}
use Rattle.std.proofs.Common.{get_or-set_same, below_more}
use Rattle.std.specs.Mem.Slots.{slots_items, slots_filled}
use Rattle.region_lock.proofs.Closings.{same_at, taken_more, at_from}
use Rattle.region_lock.proofs.ends.out_of_slots.Goals as goal

inside : (g : _) (c : goal.After-take g) → c.loop-i.i < length (slots_items c.args.closed.slots)
inside g c = omega (arith, c.args.closed.slots.ok.0)

pub unwrap-requires : goal.unwrap-requires
unwrap-requires g c = let t = c.requires.there c.loop-i.i (inside g c) in rw
    (same_at _ _ c.loop-i.i _ t.0 c.loop-i.invariant.same.0 c.take.ensures.value t.1) refl

pub loop-i-preserved : goal.loop-i-preserved
loop-i-preserved g c =
    let o = c.take.ensures.others in
    let old = c.loop-i.closed.slots in
    let size : c.loop-i.i < length (slots_filled old) = omega (arith, old.ok.1, c.loop-i.invariant.same.1) in
    record {
      same = (o.0 ∙ c.loop-i.invariant.same.0, o.2 ∙ c.loop-i.invariant.same.1);
      full = λ k low high. let ne : k ≢ c.loop-i.i = λ e. omega arith in ap (λ l. get_or l k false) o.1 ∙
          (get_or-set_other (slots_filled old) c.loop-i.i k false false ne ∙ c.loop-i.invariant.full k (omega arith)
          (omega (arith, o.2)));
      emptied = below_more _ _
          (λ k h. let ne : k ≢ c.loop-i.i = λ e. omega arith in ap (λ l. get_or l k false) o.1 ∙
          (get_or-set_other (slots_filled old) c.loop-i.i k false false ne ∙ c.loop-i.invariant.emptied k h))
          (ap (λ l. get_or l c.loop-i.i false) o.1 ∙ get_or-set_same (slots_filled old) c.loop-i.i false false size);
      taken = taken_more c.loop-i.values.items _ _ c.loop-i.i c.unwrap.result c.loop-i.invariant.taken
          (at_from _ _ c.loop-i.i _ _ c.loop-i.invariant.same.0 c.take.ensures.value c.unwrap.ensures)
          c.push_reserved.ensures.items;
      room = (
        c.push_reserved.ensures.len ∙ ap (λ n. n + 1) c.loop-i.invariant.room.0,
        c.push_reserved.ensures.capacity ∙ c.loop-i.invariant.room.1,
      );
    }
