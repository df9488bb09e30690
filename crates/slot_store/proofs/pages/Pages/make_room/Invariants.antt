use Rattle.std.proofs.Common.{◌≡◌, ◌-◌, ◌++◌, length}
use Rattle.slot_store.specs.Words.{zero_words}
use Rattle.slot_store.proofs.pages.Pages.make_room.Given as goal

abbrev pub invariant-loop-self : goal.invariant-loop-self
invariant-loop-self l = l.self ≡ l.fn.self ++ zero_words (length l.self - length l.fn.self)

abbrev pub decreases-loop-self : goal.decreases-loop-self
decreases-loop-self l = l.words - length l.self
