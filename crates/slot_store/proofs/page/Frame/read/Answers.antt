use Rattle.std.proofs.Common.{◌∙◌}
use Rattle.slot_store.proofs.Paging.{word_read}
use Rattle.slot_store.proofs.page.Frame.read.Goals as goal

pub returns : goal.returns
returns c =
    c.read_number.ensures
    ∙ word_read c.self.inside.bytes c.self.inside.marks c.args.self.now c.args.at c.args.width c.law_bytes.ensures c.self.view_is c.requires.place c.requires.inside
