use Rattle.std.proofs.Common.{◌∙◌, ◌<◌, ◌^◌, ◌*◌, ℕ, false, sym, ap, subst}
use Rattle.slot_headers.specs.Cells.{cells_at, number_in}
use Rattle.heap_model.specs.Cells.{width}
use Rattle.heap_model.specs.Forms.{can_give}
use Rattle.heap_model.specs.declared.calls.Reply.TheVariants.{Value as Moved}
use Rattle.region_calls.proofs.Reading.{load-answer, no-number-answer, gives-sign_extension}
use Rattle.region_calls.proofs.loads.number_at.Goals as goal

pub returns-in-Some-clause-answer : goal.returns-in-Some-clause-answer
returns-in-Some-clause-answer c = λ o e.
    let here = ap (λ w. number_in (cells_at c.args.at.offset w o.cells)) (sym c.width_of.ensures)
    ∙ sym (c.load.ensures.value o e) ∙ c.in-Some.is in
    ap (λ bits. Moved (record { bits = bits; pointer = false })) c.sign_extension.ensures
    ∙ sym (load-answer c.args.kind c.requires.number
    (cells_at c.args.at.offset (width c.args.kind) o.cells) c.in-Some.number here)

pub returns-in-Some-clause-suits : goal.returns-in-Some-clause-suits
returns-in-Some-clause-suits c =
    ap (can_give c.args.kind) c.sign_extension.ensures
    ∙ gives-sign_extension c.args.kind c.requires.number c.in-Some.number
    (subst (λ (w : ℕ). c.in-Some.number < 2 ^ (8 * w)) c.width_of.ensures c.in-Some.ensures.range)

pub returns-in-None-clause-answer : goal.returns-in-None-clause-answer
returns-in-None-clause-answer c = λ o e.
    let here = ap (λ w. number_in (cells_at c.args.at.offset w o.cells)) (sym c.width_of.ensures)
    ∙ sym (c.load.ensures.value o e) ∙ c.in-None.is in
    sym (no-number-answer c.args.kind c.requires.number (cells_at c.args.at.offset (width c.args.kind) o.cells) here)
