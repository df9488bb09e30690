use Rattle.std.proofs.Common.{◌≤◌, length, refl, rules}
use Rattle.c_pp.specs.Marked.{marks_of, met_of}
use Rattle.c_pp.proofs.MarkLemmas.{set_met, met_beyond}
use Rattle.c_pp.proofs.marks.Marks.meet.Goals as goal

pub returns-then-number-len-clause-met : goal.returns-then-number-len-clause-met
unfolding met_of
returns-then-number-len-clause-met c = set_met c.args.self.now.changes c.args.self.now.meetings.items c.args.number

pub returns-else-number-len-clause-met : goal.returns-else-number-len-clause-met
unfolding met_of
returns-else-number-len-clause-met c =
    let low : length c.args.self.now.meetings.items ≤ c.args.number = search rules in
    met_beyond c.args.self.now.changes c.args.self.now.meetings.items c.args.number low

pub returns-then-number-len-clause-same_marks : goal.returns-then-number-len-clause-same_marks
unfolding marks_of
returns-then-number-len-clause-same_marks c = refl
