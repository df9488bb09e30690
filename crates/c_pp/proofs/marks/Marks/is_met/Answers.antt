use Rattle.std.proofs.Common.{◌≤◌, ◌<◌, length, get_or, ap, ◌∙◌, arith}
use Rattle.c_pp.specs.Marked.{met_of}
use Rattle.c_pp.proofs.MarkLemmas.{met_there, not_met_beyond}
use Rattle.c_pp.proofs.marks.Marks.is_met.Goals as goal

pub returns-in-Some : goal.returns-in-Some
unfolding met_of
returns-in-Some c =
    let m = c.args.self.now in
    let is = ap length c.deref.ensures.value in
    let h = c.in-Some.ensures.lookup in
    let met = c.in-Some.met.now in
    let low : c.args.number < length m.meetings.items = (let k = h.3.0 in omega arith) in
    met_there m.changes m.meetings.items c.args.number met low (h.1 ∙ ap (λ l. get_or l c.args.number met) c.deref.ensures.value)

pub returns-in-None : goal.returns-in-None
unfolding met_of
returns-in-None c =
    let m = c.args.self.now in
    let is = ap length c.deref.ensures.value in
    let low : length m.meetings.items ≤ c.args.number = (let h = c.in-None.ensures.lookup.3 in omega arith) in
    not_met_beyond m.changes m.meetings.items c.args.number low
