use Rattle.std.proofs.Common.{◌≡◌, ◌/◌, ◌%◌, ◌∙◌, length, ap, sym, arith, cond, get_or, set}
use Rattle.slot_headers.specs.declared.value.Value.{Value}
use Rattle.slot_store.specs.Words.{zero_word}
use Rattle.slot_store.proofs.Paging.{number_stored, length-words_of}
use Rattle.slot_store.proofs.page.Frame.store_over_pointer.Goals as goal

pub returns : goal.returns
returns c =
    let size : length c.args.self.now ≡ 8192 = ap length (sym c.self.view_is) ∙ length-words_of c.self.inside.bytes c.self.inside.marks in
    let old : Value = get_or c.args.self.now (c.args.at / 8) zero_word in
    c.write.ensures
    ∙ number_stored c.args.self.now c.set.new.self (c.args.at / 8) (c.args.at % 8) c.args.width c.args.number (omega arith)
    (c.set.ensures ∙ ap (λ p. set c.args.self.now (c.args.at / 8) (cond p zero_word old)) (sym c.requires.marked))
