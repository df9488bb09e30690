use Rattle.slot_store.proofs.Paging.{word_written}
use Rattle.slot_store.proofs.page.Frame.write.Goals as goal

pub returns : goal.returns
returns c =
    word_written c.self.inside.bytes c.write_number.new.bytes c.self.inside.marks c.args.self.now c.args.at c.args.width c.args.number
    c.law_bytes.ensures c.self.view_is c.requires.place c.requires.inside c.requires.plain c.write_number.ensures.here c.write_number.ensures.elsewhere
