use Rattle.std.proofs.Common.{refl}
use Rattle.slot_store.proofs.Paging.{grown_none, grown_more}
use Rattle.slot_store.proofs.pages.Pages.make_room.Goals as goal

pub loop-self-init : goal.loop-self-init
loop-self-init c = grown_none c.args.self.now c.args.self.now refl

pub loop-self-preserved : goal.loop-self-preserved
loop-self-preserved c = grown_more c.args.self.now c.loop-self.self c.add_page.new.self c.loop-self.invariant c.add_page.ensures.grown

pub returns-in_err-add_page-clause-grown : goal.returns-in_err-add_page-clause-grown
returns-in_err-add_page-clause-grown c =
    grown_more c.args.self.now c.loop-self.self c.add_page.new.self c.loop-self.invariant c.add_page.ensures.grown
