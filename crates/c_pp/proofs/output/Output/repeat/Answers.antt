use Rattle.std.proofs.Common.{◌≡◌, ◌++◌, List, length, Some, refl, ap, sym, subst, ◌∙◌, ◌≤◌, arith}
use Rattle.std.specs.Prelude.{slice_get, slice_range}
use Rattle.std.proofs.lemmas.Option.{slice_get_read}
use Rattle.c_tokens.specs.declared.token.Token.{Token}
use Rattle.c_pp.specs.Macros.{on_line}
use Rattle.c_pp.specs.Walks.{Holds}
use Rattle.c_pp.proofs.OutputLemmas.{again_first, again_more, again_there, again_all}
use Rattle.c_pp.proofs.output.Output.repeat.Goals as goal

pub loop-at-init : goal.loop-at-init
loop-at-init c made piece h s = again_first c.args.self.now made c.args.span c.args.line h

pub loop-at-preserved : goal.loop-at-preserved
loop-at-preserved c made piece h s =
    let token = c.in-Some.token.now in
    let at = c.loop-at.at in
    let found = c.in-Some.ensures.lookup in
    let there : slice_get c.loop-at.self.tokens.items at ≡ Some token =
    sym (ap (λ (l : List Token). slice_get l at) c.deref.ensures.value) ∙ slice_get_read c.deref.result.now (length c.deref.result.now) at token refl found.3.0 found.1 in
    let before = c.loop-at.invariant made piece h s in
    subst (λ (l : List Token). Holds c.push.new.self l)
    (again_more c.loop-at.self made piece c.args.span c.args.line at token c.if-self.false s c.loop-at.auto.at c.loop-at-test.true there before)
    (c.in_ok-push-in-Some.ensures (made ++ on_line c.args.line (slice_range made c.args.span.start at)) before)

pub returns-then-self : goal.returns-then-self
returns-then-self c made piece h s =
    again_all c.args.self.now c.loop-at.self made piece c.args.span c.args.line c.loop-at.at h s c.loop-at.auto.at-end
    (λ n. absurd (let y = c.if-self.true in cc)) (c.loop-at.invariant made piece h s)

pub returns-in-None : goal.returns-in-None
returns-in-None c made piece h s =
    let past : length c.loop-at.self.tokens.items ≤ c.loop-at.at = (let n = c.in-None.ensures.lookup.3 in let all = ap length c.deref.ensures.value in omega arith) in
    absurd (again_there c.loop-at.self made piece c.args.span c.args.line c.loop-at.at c.if-self.false s c.loop-at-test.true (c.loop-at.invariant made piece h s) past)

pub returns-after-loop-at : goal.returns-after-loop-at
returns-after-loop-at c made piece h s =
    again_all c.args.self.now c.loop-at.self made piece c.args.span c.args.line c.loop-at.at h s c.loop-at.auto.at-end (λ _. c.loop-at-test.false) (c.loop-at.invariant made piece h s)
