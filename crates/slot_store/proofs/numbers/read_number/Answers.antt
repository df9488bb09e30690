use Rattle.std.proofs.Common.{◌≡◌, ◌∙◌, ap, sym, arith}
use Rattle.slot_store.specs.Numbers.{number_at}
use Rattle.slot_store.proofs.Reading.{read_1, read_2, read_4, read_8}
use Rattle.slot_store.proofs.Widths.{width_two, width_eight}
use Rattle.slot_store.proofs.numbers.read_number.Goals as goal

pub returns-then-width-eq1 : goal.returns-then-width-eq1
returns-then-width-eq1 c =
    c.from.ensures ∙ read_1 c.args.bytes.now c.args.at ∙ ap (number_at c.args.bytes.now c.args.at) (sym c.if-width-eq1.true)

pub returns-else-width-eq1 : goal.returns-else-width-eq1
returns-else-width-eq1 c =
    let two : c.args.width ≡ 2 = width_two c.args.width c.requires.width (omega arith) (omega arith) in
    c.from-else-width-eq1.ensures ∙ c.from_le_bytes.ensures ∙ read_2 c.args.bytes.now c.args.at
    ∙ ap (number_at c.args.bytes.now c.args.at) (sym two)

pub returns-then-width-eq4 : goal.returns-then-width-eq4
returns-then-width-eq4 c =
    c.from-then-width-eq4.ensures ∙ c.from_le_bytes-then-width-eq4.ensures ∙ read_4 c.args.bytes.now c.args.at
    ∙ ap (number_at c.args.bytes.now c.args.at) (sym c.if-width-eq4.true)

pub returns-else-width-eq4 : goal.returns-else-width-eq4
returns-else-width-eq4 c =
    let eight : c.args.width ≡ 8 = width_eight c.args.width c.requires.width (omega arith) (omega arith) (omega arith) in
    c.from_le_bytes-else-width-eq4.ensures ∙ read_8 c.args.bytes.now c.args.at
    ∙ ap (number_at c.args.bytes.now c.args.at) (sym eight)
