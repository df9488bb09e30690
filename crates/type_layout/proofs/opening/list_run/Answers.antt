use Rattle.std.proofs.Common.{subst}
use Rattle.type_layout.specs.Pending.{AreFrames}
use Rattle.type_layout.proofs.Frames.{frames_pop, fewer_pending, listed_more}
use Rattle.type_layout.proofs.opening.list_run.Goals as goal

pub list_part-requires-clause-frame : goal.list_part-requires-clause-frame
list_part-requires-clause-frame c =
    (frames_pop c.args.types.now c.pop.new.self.items c.in-Some.frame
    (subst (λ s. AreFrames c.args.types.now s) c.in-Some.ensures.items c.opening.invariant.0)).1

pub list_part-requires-clause-stack : goal.list_part-requires-clause-stack
list_part-requires-clause-stack c =
    (frames_pop c.args.types.now c.pop.new.self.items c.in-Some.frame
    (subst (λ s. AreFrames c.args.types.now s) c.in-Some.ensures.items c.opening.invariant.0)).0

pub opening-smaller : goal.opening-smaller
opening-smaller c =
    fewer_pending c.args.types.now c.opening.stack.items c.pop.new.self.items c.list_part.new.stack.items
    c.in-Some.frame c.in-Some.ensures.items
    c.in_ok-list_part.ensures.pending

pub opening-preserved : goal.opening-preserved
opening-preserved c = (
  c.in_ok-list_part.ensures.stack,
  listed_more c.args.types.now c.opening.stack.items c.pop.new.self.items c.list_part.new.stack.items c.in-Some.frame
      c.in-Some.ensures.items
      c.in_ok-list_part.ensures.pending c.opening.runs.items c.list_part.new.runs.items _
      c.in_ok-list_part.ensures.run c.opening.invariant.1,
)
