use Rattle.std.proofs.Common.{◌∙◌, ap, ◌<◌, ◌^◌, arith}
use Rattle.slot_headers.specs.Cells.{cells_at}
use Rattle.heap_model.specs.Forms.{suits_load}
use Rattle.heap_model.specs.declared.calls.AccessKind.TheVariants.{Word}
use Rattle.object_slots.specs.SlotStates.{state_at}
use Rattle.region_calls.proofs.Ending.{live-some}
use Rattle.region_calls.proofs.Reading.{word-answer, word-suits, whole-here}
use Rattle.region_calls.proofs.loads.word_at.Goals as goal

pub returns-clause-answer : goal.returns-clause-answer
returns-clause-answer c = λ o e.
    let small : c.load_word.result.bits < 2 ^ 64 = omega arith in
    c.marked.ensures
    ∙ word-answer c.load_word.result small (cells_at c.args.at.offset 8 o.cells) (c.load_word.ensures o e)

pub returns-clause-suits : goal.returns-clause-suits
returns-clause-suits c = λ pieces.
    let small : c.load_word.result.bits < 2 ^ 64 = omega arith in
    let live = live-some (state_at c.args.slots.now.states c.args.at.slot).body c.requires.live in
    let o = live.0 in
    ap (suits_load Word) c.marked.ensures
    ∙ word-suits c.load_word.result small (cells_at c.args.at.offset 8 o.cells) (c.load_word.ensures o live.1)
    (whole-here c.args.at.offset o.cells (pieces c.args.at.slot o live.1) c.requires.aligned)
