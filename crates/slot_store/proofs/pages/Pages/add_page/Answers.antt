use Rattle.std.proofs.Common.{◌≡◌, ◌++◌, ◌∙◌, length, refl, ap}
use Rattle.slot_store.specs.Pages.{joined}
use Rattle.slot_store.specs.Words.{zero_words}
use Rattle.slot_store.proofs.Paging.{grown_none, grown_page, grown_by, length_grown, whole-push, length-zero_words}
use Rattle.slot_store.proofs.pages.Pages.add_page.Goals as goal

pub returns-in_err-page-clause-grown : goal.returns-in_err-page-clause-grown
returns-in_err-page-clause-grown c = grown_none c.args.self.now c.args.self.now refl

pub returns-in_err-push-clause-grown : goal.returns-in_err-push-clause-grown
returns-in_err-push-clause-grown c =
    grown_none c.args.self.now (joined c.push.new.self.items) (ap joined c.in_err-push.ensures.items ∙ c.self.view_is)

pub invariant_of-self-2 : goal.invariant_of-self-2
invariant_of-self-2 c =
    rw c.in_ok-push.ensures.items
    (whole-push c.self.inside.pages.items c.in_ok-page.page c.self.invariant (ap length c.in_ok-page.ensures ∙ length-zero_words 8192))

pub returns-clause-grown : goal.returns-clause-grown
returns-clause-grown c =
    let grown : joined c.push.new.self.items ≡ c.args.self.now ++ zero_words 8192 =
    ap joined c.in_ok-push.ensures.items
    ∙ grown_page c.self.inside.pages.items c.args.self.now c.in_ok-page.page c.self.view_is c.in_ok-page.ensures in
    grown_by c.args.self.now (joined c.push.new.self.items) 8192 grown

pub returns-clause-more : goal.returns-clause-more
returns-clause-more c =
    let grown : joined c.push.new.self.items ≡ c.args.self.now ++ zero_words 8192 =
    ap joined c.in_ok-push.ensures.items
    ∙ grown_page c.self.inside.pages.items c.args.self.now c.in_ok-page.page c.self.view_is c.in_ok-page.ensures in
    length_grown c.args.self.now (joined c.push.new.self.items) 8192 grown
