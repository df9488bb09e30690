use Rattle.std.proofs.Common.{◌/◌, ◌%◌, ◌<◌, ◌∙◌, length, ap, get_or, [], arith}
use Rattle.std.proofs.lemmas.List.{get_or_read}
use Rattle.slot_store.proofs.Paging.{page_inside, read_paged}
use Rattle.slot_store.proofs.pages.Pages.get.Goals as goal

pub index-requires : goal.index-requires
index-requires c =
    omega (arith, page_inside c.self.inside.pages.items c.args.self.now c.args.at c.self.invariant c.self.view_is c.requires, c.self.inside.pages.ok)

pub returns : goal.returns
returns c =
    let inside : c.args.at / 8192 < length c.self.inside.pages.items =
    page_inside c.self.inside.pages.items c.args.self.now c.args.at c.self.invariant c.self.view_is c.requires in
    c.get.ensures
    ∙ ap (λ p. get_or p (c.args.at % 8192) c.get.result)
    (get_or_read c.self.inside.pages.items (c.args.at / 8192) c.index.result.now inside c.index.ensures [])
    ∙ read_paged c.self.inside.pages.items c.args.self.now c.args.at c.get.result c.self.invariant c.self.view_is c.requires
