use Rattle.std.proofs.Common.{◌∙◌, ap, sym, false, get_or}
use Rattle.slot_store.proofs.Paging.{word_seen}
use Rattle.slot_store.proofs.page.Frame.get.Goals as goal

pub returns : goal.returns
returns c =
    ap (λ n. record { bits = n; pointer = get_or c.self.inside.marks c.args.word false }) c.read_number.ensures
    ∙ sym (word_seen c.self.inside.bytes c.self.inside.marks c.args.self.now c.args.word _ c.self.view_is c.requires)
