use Rattle.c_pp.specs.Marked.{marks_of, met_of}
use Rattle.c_pp.proofs.MarkLemmas.{none_later, none_met_later}
use Rattle.c_pp.proofs.marks.Marks.forget.Goals as goal

pub returns-clause-none : goal.returns-clause-none
unfolding marks_of
returns-clause-none c = none_later c.args.self.now.changes c.args.self.now.stamped.items c.args.self.now.past

pub returns-clause-none_met : goal.returns-clause-none_met
unfolding met_of
returns-clause-none_met c = none_met_later c.args.self.now.changes c.args.self.now.meetings.items c.args.self.now.met_past
