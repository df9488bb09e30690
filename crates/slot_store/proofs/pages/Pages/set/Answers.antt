use Rattle.std.proofs.Common.{◌≡◌, ◌/◌, ◌%◌, ◌<◌, ◌∙◌, [], length, ap, arith}
use Rattle.std.proofs.Math.ListN.{set}
use Rattle.std.proofs.lemmas.List.{get_or_read, length-set}
use Rattle.slot_store.specs.Pages.{joined, page_at}
use Rattle.slot_store.proofs.Paging.{page_inside, write_paged, whole-set}
use Rattle.slot_store.proofs.pages.Pages.set.Goals as goal

pub index_mut-page-requires : goal.index_mut-page-requires
index_mut-page-requires c =
    omega (arith, page_inside c.self.inside.pages.items c.args.self.now c.args.at c.self.invariant c.self.view_is c.requires, c.self.inside.pages.ok)

pub invariant_of-self : goal.invariant_of-self
invariant_of-self c =
    let inside : c.args.at / 8192 < length c.self.inside.pages.items =
    page_inside c.self.inside.pages.items c.args.self.now c.args.at c.self.invariant c.self.view_is c.requires in
    let page : c.index_mut-page.result.now ≡ page_at c.self.inside.pages.items (c.args.at / 8192) =
    get_or_read c.self.inside.pages.items (c.args.at / 8192) c.index_mut-page.result.now inside c.index_mut-page.ensures.value [] in
    let size : length c.set.new.self ≡ 8192 =
    ap length c.set.ensures ∙ length-set c.index_mut-page.result.now (c.args.at % 8192) c.args.value
    ∙ ap length page ∙ c.self.invariant (c.args.at / 8192) inside in
    whole-set c.self.inside.pages.items (c.args.at / 8192) c.set.new.self c.self.invariant size

pub returns : goal.returns
returns c =
    let inside : c.args.at / 8192 < length c.self.inside.pages.items =
    page_inside c.self.inside.pages.items c.args.self.now c.args.at c.self.invariant c.self.view_is c.requires in
    let page : c.index_mut-page.result.now ≡ page_at c.self.inside.pages.items (c.args.at / 8192) =
    get_or_read c.self.inside.pages.items (c.args.at / 8192) c.index_mut-page.result.now inside c.index_mut-page.ensures.value [] in
    ap (λ p. joined (set c.self.inside.pages.items (c.args.at / 8192) p)) (c.set.ensures ∙ ap (λ p. set p (c.args.at % 8192) c.args.value) page)
    ∙ write_paged c.self.inside.pages.items c.args.self.now c.args.at c.args.value c.self.invariant c.self.view_is c.requires
