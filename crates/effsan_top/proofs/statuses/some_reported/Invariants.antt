use Rattle.std.proofs.Common.{◌≡◌, drop}
use Rattle.std.specs.List.{list_any}
use Rattle.effsan_top.specs.Statuses.{is_reported}
use Rattle.effsan_top.proofs.statuses.some_reported.Given as goal

abbrev pub invariant-loop-ending : goal.invariant-loop-ending
invariant-loop-ending l = list_any is_reported (drop l.ending-index l.endings) ≡ list_any is_reported l.endings
