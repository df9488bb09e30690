use Rattle.std.proofs.Common.{◌≡◌, ◌-◌, ◌++◌, replicate}
use Rattle.reports.proofs.type_name.append_type.Given as goal

abbrev pub invariant-loop : goal.invariant-loop
invariant-loop l = l.to ++ replicate (l.pointers - l.counter) 42 ≡ l.initial.to ++ replicate l.pointers 42
