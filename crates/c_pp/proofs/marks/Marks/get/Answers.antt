use Rattle.std.proofs.Common.{◌≤◌, ◌<◌, length, get_or, ap, sym, ◌∙◌, arith}
use Rattle.c_pp.specs.Marked.{marks_of}
use Rattle.c_pp.proofs.MarkLemmas.{mark_beyond, mark_counts, mark_counts_not}
use Rattle.c_pp.proofs.marks.Marks.get.Goals as goal

pub returns-in_err-stamped : goal.returns-in_err-stamped
unfolding marks_of
returns-in_err-stamped c =
    let m = c.args.self.now in
    let is = ap length c.deref.ensures.value in
    let low : length m.stamped.items ≤ c.args.number = (let h = c.in_err-stamped.ensures.lookup.3 in omega arith) in
    c.from_residual.ensures ∙ sym (mark_beyond m.changes m.stamped.items c.args.number low)

pub returns-then-stamped-self : goal.returns-then-stamped-self
unfolding marks_of
returns-then-stamped-self c =
    let m = c.args.self.now in
    let is = ap length c.deref.ensures.value in
    let h = c.in_ok-stamped.ensures.lookup in
    let s = c.in_ok-stamped.stamped.now in
    let low : c.args.number < length m.stamped.items = (let k = h.3.0 in omega arith) in
    mark_counts m.changes m.stamped.items c.args.number s low (h.1 ∙ ap (λ l. get_or l c.args.number s) c.deref.ensures.value) c.if-stamped-self.true

pub returns-else-stamped-self : goal.returns-else-stamped-self
unfolding marks_of
returns-else-stamped-self c =
    let m = c.args.self.now in
    let is = ap length c.deref.ensures.value in
    let h = c.in_ok-stamped.ensures.lookup in
    let s = c.in_ok-stamped.stamped.now in
    let low : c.args.number < length m.stamped.items = (let k = h.3.0 in omega arith) in
    mark_counts_not m.changes m.stamped.items c.args.number s low (h.1 ∙ ap (λ l. get_or l c.args.number s) c.deref.ensures.value) c.if-stamped-self.false
