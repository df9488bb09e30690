use Rattle.std.proofs.Common.{◌≡◌, ◌-◌, ◌++◌, take, drop}
use Rattle.slot_store.specs.Words.{zero_words}
use Rattle.slot_store.proofs.pages.Pages.clear.Given as goal

abbrev pub invariant-loop-at : goal.invariant-loop-at
invariant-loop-at l = l.self ≡ take l.first l.fn.self ++ (zero_words (l.at - l.first) ++ drop l.at l.fn.self)
