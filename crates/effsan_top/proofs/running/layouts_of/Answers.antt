use Rattle.effsan_top.proofs.Basics.{not_too_many}
use Rattle.effsan_top.proofs.running.layouts_of.Goals as goal

pub unreachable-requires : goal.unreachable-requires
unreachable-requires c =
    not_too_many c.args.types.now c.in-Err-TooManyRuns.field-0 c.requires c.in-Err-TooManyRuns.field-0-is
    c.in-Err-TooManyRuns.ensures.told
