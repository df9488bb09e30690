use Rattle.std.proofs.Common.{◌∙◌, ap, ◌<◌, ◌^◌, arith}
use Rattle.slot_headers.specs.Cells.{cells_at}
use Rattle.heap_model.specs.Forms.{suits_load}
use Rattle.heap_model.specs.declared.calls.AccessKind.TheVariants.{Ptr}
use Rattle.object_slots.specs.SlotStates.{state_at}
use Rattle.region_calls.proofs.Ending.{live-some}
use Rattle.region_calls.proofs.Reading.{pointer-answer, no-pointer-answer, pointer-suits, whole-here}
use Rattle.region_calls.proofs.loads.pointer_at.Goals as goal

pub returns-then-word-eq0-clause-answer : goal.returns-then-word-eq0-clause-answer
returns-then-word-eq0-clause-answer c = λ o e.
    let small : c.load_word-word.result.bits < 2 ^ 64 = omega arith in
    c.marked.ensures
    ∙ pointer-answer c.load_word-word.result small (cells_at c.args.at.offset 8 o.cells)
    (c.load_word-word.ensures o e) c.if-word-eq0.either

pub returns-then-word-eq0-clause-suits : goal.returns-then-word-eq0-clause-suits
returns-then-word-eq0-clause-suits c = λ pieces.
    let small : c.load_word-word.result.bits < 2 ^ 64 = omega arith in
    let live = live-some (state_at c.args.slots.now.states c.args.at.slot).body c.requires.live in
    let o = live.0 in
    ap (suits_load Ptr) c.marked.ensures
    ∙ pointer-suits c.load_word-word.result small (cells_at c.args.at.offset 8 o.cells)
    (c.load_word-word.ensures o live.1)
    (whole-here c.args.at.offset o.cells (pieces c.args.at.slot o live.1) c.requires.aligned) c.if-word-eq0.either

pub returns-else-word-eq0-clause-answer : goal.returns-else-word-eq0-clause-answer
returns-else-word-eq0-clause-answer c = λ o e.
    let small : c.load_word-word.result.bits < 2 ^ 64 = omega arith in
    no-pointer-answer c.load_word-word.result small (cells_at c.args.at.offset 8 o.cells) (c.load_word-word.ensures o e)
    c.if-word-eq0.false.0 c.if-word-eq0.false.1
