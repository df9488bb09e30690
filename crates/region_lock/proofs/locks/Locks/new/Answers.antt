use Rattle.std.proofs.Common.{ap, ◌∙◌, arith}
use Rattle.region_lock.proofs.Closings.{opens_at}
use Rattle.region_lock.proofs.locks.Locks.new.Goals as goal

pub new-requires : goal.new-requires
new-requires g c =
    opens_at g.V.Kept.region g.V.Kept.list g.V.Kept.plain c.args.passes c.args.budget _ _ c.args.values.items _
    c.in_ok-boxes.boxes.items _ (ap (λ v. v.items) c.of.ensures) c.in_ok-boxes.ensures c.in_ok-slots.ensures
    (c.as_slice.ensures.value ∙ c.in_ok-words.ensures.items_if_clones_equal (λ y e. e))
    (omega (arith, c.as_slice.ensures.len, c.in_ok-words.ensures.len, c.args.values.ok.0)) c.requires.fresh
    (omega (arith)) (omega (arith))
