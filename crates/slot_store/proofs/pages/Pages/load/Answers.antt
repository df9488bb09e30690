use Rattle.std.proofs.Common.{◌≡◌, ◌/◌, ◌%◌, ◌<◌, ◌∙◌, List, [], length, ap, get_or, arith}
use Rattle.std.proofs.lemmas.List.{get_or_read}
use Rattle.slot_headers.specs.declared.value.Value.{Value}
use Rattle.slot_store.specs.Words.{zero_word, number_in_word}
use Rattle.slot_store.specs.Pages.{page_at}
use Rattle.slot_store.proofs.Paging.{byte_page, read_byte}
use Rattle.slot_store.proofs.pages.Pages.load.Goals as goal

pub index-requires : goal.index-requires
index-requires c =
    omega (arith, byte_page c.self.inside.pages.items c.args.self.now c.args.at c.self.invariant c.self.view_is c.requires.place, c.self.inside.pages.ok)

pub returns : goal.returns
returns c =
    let inside : c.args.at / 65536 < length c.self.inside.pages.items =
    byte_page c.self.inside.pages.items c.args.self.now c.args.at c.self.invariant c.self.view_is c.requires.place in
    let page : c.index.result.now ≡ page_at c.self.inside.pages.items (c.args.at / 65536) =
    get_or_read c.self.inside.pages.items (c.args.at / 65536) c.index.result.now inside c.index.ensures [] in
    let low : c.args.at % 65536 % 8 ≡ c.args.at % 8 = omega arith in
    c.load.ensures
    ∙ ap (λ b. number_in_word b c.args.width (get_or c.index.result.now (c.args.at % 65536 / 8) zero_word)) low
    ∙ ap (λ (p : List Value). number_in_word (c.args.at % 8) c.args.width (get_or p (c.args.at % 65536 / 8) zero_word)) page
    ∙ ap (number_in_word (c.args.at % 8) c.args.width)
    (read_byte c.self.inside.pages.items c.args.self.now c.args.at zero_word c.self.invariant c.self.view_is c.requires.place)
