use Rattle.std.proofs.Common.{◌≡◌, ◌/◌, ◌%◌, ◌<◌, ◌∙◌, List, [], length, ap, get_or, arith}
use Rattle.std.proofs.Math.ListN.{set}
use Rattle.std.proofs.lemmas.List.{get_or_read, length-set}
use Rattle.slot_headers.specs.declared.value.Value.{Value}
use Rattle.slot_store.specs.Words.{zero_word, with_number}
use Rattle.slot_store.specs.Pages.{joined, page_at}
use Rattle.slot_store.proofs.Paging.{byte_page, read_byte, write_byte, whole-set}
use Rattle.slot_store.proofs.pages.Pages.store.Goals as goal

pub index_mut-page-requires : goal.index_mut-page-requires
index_mut-page-requires c =
    omega (arith, byte_page c.self.inside.pages.items c.args.self.now c.args.at c.self.invariant c.self.view_is c.requires.place, c.self.inside.pages.ok)

pub invariant_of-self : goal.invariant_of-self
invariant_of-self c =
    let inside : c.args.at / 65536 < length c.self.inside.pages.items =
    byte_page c.self.inside.pages.items c.args.self.now c.args.at c.self.invariant c.self.view_is c.requires.place in
    let page : c.index_mut-page.result.now ≡ page_at c.self.inside.pages.items (c.args.at / 65536) =
    get_or_read c.self.inside.pages.items (c.args.at / 65536) c.index_mut-page.result.now inside c.index_mut-page.ensures.value [] in
    let size : length c.store.new.self ≡ 8192 =
    ap length c.store.ensures ∙ length-set c.index_mut-page.result.now (c.args.at % 65536 / 8) _
    ∙ ap length page ∙ c.self.invariant (c.args.at / 65536) inside in
    whole-set c.self.inside.pages.items (c.args.at / 65536) c.store.new.self c.self.invariant size

pub returns : goal.returns
returns c =
    let inside : c.args.at / 65536 < length c.self.inside.pages.items =
    byte_page c.self.inside.pages.items c.args.self.now c.args.at c.self.invariant c.self.view_is c.requires.place in
    let page : c.index_mut-page.result.now ≡ page_at c.self.inside.pages.items (c.args.at / 65536) =
    get_or_read c.self.inside.pages.items (c.args.at / 65536) c.index_mut-page.result.now inside c.index_mut-page.ensures.value [] in
    let low : c.args.at % 65536 % 8 ≡ c.args.at % 8 = omega arith in
    let word : get_or (page_at c.self.inside.pages.items (c.args.at / 65536)) (c.args.at % 65536 / 8) zero_word ≡ get_or c.args.self.now (c.args.at / 8) zero_word =
    read_byte c.self.inside.pages.items c.args.self.now c.args.at zero_word c.self.invariant c.self.view_is c.requires.place in
    let new : Value = with_number (c.args.at % 8) c.args.width c.args.number (get_or c.args.self.now (c.args.at / 8) zero_word) in
    ap (λ p. joined (set c.self.inside.pages.items (c.args.at / 65536) p))
    (c.store.ensures
    ∙ ap (λ b. set c.index_mut-page.result.now (c.args.at % 65536 / 8)
    (with_number b c.args.width c.args.number (get_or c.index_mut-page.result.now (c.args.at % 65536 / 8) zero_word))) low
    ∙ ap (λ (p : List Value). set p (c.args.at % 65536 / 8) (with_number (c.args.at % 8) c.args.width c.args.number (get_or p (c.args.at % 65536 / 8) zero_word))) page
    ∙ ap (λ v. set (page_at c.self.inside.pages.items (c.args.at / 65536)) (c.args.at % 65536 / 8) (with_number (c.args.at % 8) c.args.width c.args.number v)) word)
    ∙ write_byte c.self.inside.pages.items c.args.self.now c.args.at new c.self.invariant c.self.view_is c.requires.place
