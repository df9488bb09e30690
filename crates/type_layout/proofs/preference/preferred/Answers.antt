use Rattle.std.proofs.Common.{arith}
use Rattle.c_types.specs.Table.{shape_of}
use Rattle.type_layout.proofs.Wholes.{all_within, with_types}
use Rattle.type_layout.proofs.Least.{pref_found}
use Rattle.type_layout.proofs.Searched.{one_more, all_seen}
use Rattle.type_layout.proofs.preference.preferred.Goals as goal

pub run_match-requires-clause-kind : goal.run_match-requires-clause-kind
run_match-requires-clause-kind c =
    (all_within c.args.types.now c.args.elem c.args.size c.law_table.ensures c.requires.elem c.args.runs.now c.requires.runs c.loop-run.run-index _ c.loop-run-test.true).known

pub run_match-requires-clause-sized : goal.run_match-requires-clause-sized
run_match-requires-clause-sized c =
    (all_within c.args.types.now c.args.elem c.args.size c.law_table.ensures c.requires.elem c.args.runs.now c.requires.runs c.loop-run.run-index _ c.loop-run-test.true).sized

pub run_match-requires-clause-fits : goal.run_match-requires-clause-fits
run_match-requires-clause-fits c =
    let within = (all_within c.args.types.now c.args.elem c.args.size c.law_table.ensures c.requires.elem c.args.runs.now c.requires.runs c.loop-run.run-index (record { kind = 0; lo = 0; count = 0 }) c.loop-run-test.true).within in
    omega arith

pub loop-run-preserved : goal.loop-run-preserved
loop-run-preserved c = (
  one_more c.args.types.now c.args.k (shape_of c.args.types.now c.args.want) c.args.runs.now c.loop-run.run-index _ c.loop-run.best c.run_match.result c.consider-best.result
      c.loop-run-test.true c.loop-run.invariant.0 c.run_match.ensures.value c.consider-best.ensures.value,
  c.consider-best.ensures.ordered,
)

pub returns-clause-value : goal.returns-clause-value
returns-clause-value c =
    all_seen c.args.types.now (shape_of c.args.types.now c.args.elem) (shape_of c.args.types.now c.args.want) c.args.size c.args.k c.args.runs.now
    c.loop-run.run-index c.loop-run.best c.object_match.result c.consider.result c.bounds_of.result
    (with_types c.args.types.now c.args.elem c.args.size c.law_table.ensures c.requires.elem c.args.runs.now c.requires.runs)
    c.loop-run-test.false c.loop-run.invariant.0 c.object_match.ensures.value c.consider.ensures.value c.bounds_of.ensures

pub returns-clause-first : goal.returns-clause-first
returns-clause-first c =
    rw (all_seen c.args.types.now (shape_of c.args.types.now c.args.elem) (shape_of c.args.types.now c.args.want) c.args.size c.args.k c.args.runs.now
    c.loop-run.run-index c.loop-run.best c.object_match.result c.consider.result c.bounds_of.result
    (with_types c.args.types.now c.args.elem c.args.size c.law_table.ensures c.requires.elem c.args.runs.now c.requires.runs)
    c.loop-run-test.false c.loop-run.invariant.0 c.object_match.ensures.value c.consider.ensures.value c.bounds_of.ensures)
    (pref_found (shape_of c.args.types.now c.args.elem) c.args.size c.args.k (shape_of c.args.types.now c.args.want))
