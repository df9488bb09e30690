use Rattle.std.proofs.Common.{◌≤◌, length, refl, rules}
use Rattle.c_pp.specs.Marked.{marks_of, met_of}
use Rattle.c_pp.proofs.MarkLemmas.{set_mark, set_beyond}
use Rattle.c_pp.proofs.marks.Marks.set.Goals as goal

pub returns-then-number-len-clause-set : goal.returns-then-number-len-clause-set
unfolding marks_of
returns-then-number-len-clause-set c = set_mark c.args.self.now.changes c.args.self.now.stamped.items c.args.number c.args.mark

pub returns-else-number-len-clause-set : goal.returns-else-number-len-clause-set
unfolding marks_of
returns-else-number-len-clause-set c =
    let low : length c.args.self.now.stamped.items ≤ c.args.number = search rules in
    set_beyond c.args.self.now.changes c.args.self.now.stamped.items c.args.number c.args.mark low

pub returns-then-number-len-clause-same_met : goal.returns-then-number-len-clause-same_met
unfolding met_of
returns-then-number-len-clause-same_met c = refl
