use Rattle.std.proofs.Common.{arith}
use Rattle.slot_store.proofs.Paging.{value_written}
use Rattle.slot_store.proofs.page.Frame.set.Goals as goal

pub returns : goal.returns
returns c =
    value_written c.self.inside.bytes c.write_number.new.bytes c.self.inside.marks c.args.self.now c.args.word c.args.value c.self.view_is c.requires
    (omega arith) (omega arith) c.write_number.ensures.here c.write_number.ensures.elsewhere
