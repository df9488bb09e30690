use Rattle.std.proofs.Common.{◌≡◌, ◌+◌, suc, Some, None, ap, sym, ◌∙◌, arith, drop}
use Rattle.c_print.specs.Machine.{reading}
use Rattle.c_print.proofs.Onward.{onward, turn, finished, unfinished}
use Rattle.c_print.proofs.formats.read.Goals as goal

pub returns-in-None-clause-bad : goal.returns-in-None-clause-bad
returns-in-None-clause-bad c =
    let l = c.loop-at in
    sym (turn l.built c.advance.new.self l.state c.args.format.now l.at c.effect_of.result c.in_ok-next.field-0 None
    (omega arith)
    c.effect_of.ensures c.in_ok-next.ensures c.in-None.is l.invariant)

pub loop-at-preserved : goal.loop-at-preserved
loop-at-preserved c =
    let l = c.loop-at in
    let more : l.at + 1 ≡ suc l.at = omega arith in
    ap (λ n. onward c.advance.new.self n (reading c.in-Some.next (drop n c.args.format.now))) more
    ∙ turn l.built c.advance.new.self l.state c.args.format.now l.at c.effect_of.result c.in_ok-next.field-0
    (Some c.in-Some.next) (omega arith)
    c.effect_of.ensures c.in_ok-next.ensures c.in-Some.is l.invariant

pub returns-in_ok-finish-in-Outside-clause-parts :
    goal.returns-in_ok-finish-in-Outside-clause-parts
returns-in_ok-finish-in-Outside-clause-parts c =
    let l = c.loop-at in
    finished l.built l.state c.args.format.now l.at
    (omega arith) c.in-Outside.is l.invariant _ c.in_ok-finish-in-Outside.ensures

pub returns-in_default : goal.returns-in_default
returns-in_default c =
    let l = c.loop-at in
    record {
      parts = tt;
      bad = unfinished l.built l.state c.args.format.now l.at (omega arith) c.in_default.not-Outside l.invariant;
    }
