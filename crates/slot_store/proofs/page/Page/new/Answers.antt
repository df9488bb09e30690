use Rattle.std.proofs.Common.{◌∙◌, refl, false}
use Rattle.std.specs.Prelude.{replicate}
use Rattle.slot_store.proofs.Paging.{words_of_zeros}
use Rattle.slot_store.proofs.page.Page.new.Goals as goal

pub returns : goal.returns
returns c = c.in_ok-frame.ensures.ok ∙ words_of_zeros (replicate 65536 0) (replicate 8192 false) refl refl
