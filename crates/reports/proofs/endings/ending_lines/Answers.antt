use Rattle.plain_meaning.specs.declared.record.Ending.TheVariants.{Finished}
use Rattle.reports.specs.Lines.{KnowsType}
use Rattle.reports.proofs.Known.{all_at}
use Rattle.reports.proofs.endings.ending_lines.Goals as goal

pub append_ending-requires : goal.append_ending-requires
append_ending-requires c =
    all_at (KnowsType c.args.types.now) c.as_slice-ending-items.result.now (rw c.as_slice-ending-items.ensures c.requires)
    c.loop-worker.worker Finished c.loop-worker-test.true
