use Rattle.std.proofs.Common.{ap, sym}
use Rattle.slot_store.specs.Words.{zero_word}
use Rattle.slot_store.proofs.Paging.{word_seen}
use Rattle.slot_store.proofs.page.Frame.is_marked.Goals as goal

pub returns : goal.returns
returns c =
    ap (λ v. v.pointer) (sym (word_seen c.self.inside.bytes c.self.inside.marks c.args.self.now c.args.word zero_word c.self.view_is c.requires))
