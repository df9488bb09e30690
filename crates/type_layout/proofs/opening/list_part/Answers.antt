use Rattle.type_layout.proofs.Frames.{frames_more, pending_more}
use Rattle.type_layout.proofs.opening.list_part.Goals as goal

pub returns-clause-stack : goal.returns-clause-stack
returns-clause-stack c =
    frames_more c.args.types.now c.args.frame c.args.stack.now.items c.put.new.stack.items c.put-2.new.stack.items
    c.rest_of-rest.result c.frame_of-inner.result
    c.in_ok-put.ensures c.in_ok-put-2.ensures c.requires.stack c.rest_of-rest.ensures.frame
    c.frame_of-inner.ensures.frame

pub returns-clause-pending : goal.returns-clause-pending
returns-clause-pending c =
    pending_more c.args.types.now c.args.frame c.args.stack.now.items c.put.new.stack.items c.put-2.new.stack.items
    c.rest_of-rest.result c.frame_of-inner.result
    c.in_ok-put.ensures c.in_ok-put-2.ensures c.rest_of-rest.ensures.rest c.frame_of-inner.ensures.inside
