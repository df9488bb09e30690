use Rattle.std.proofs.Common.{◌≡◌, ◌+◌, ◌-◌, ◌%◌, ◌∙◌, ap, length, arith}
use Rattle.std.proofs.lemmas.List.{get_or-set_same}
use Rattle.slot_store.specs.Numbers.{number_at}
use Rattle.slot_store.proofs.Reading.{written_here, written_elsewhere, length-bytes_low_first}
use Rattle.slot_store.proofs.Widths.{width_two, width_eight}
use Rattle.slot_store.proofs.numbers.write_number.Goals as goal

pub returns-then-width-eq1-clause-here : goal.returns-then-width-eq1-clause-here
unfolding number_at
returns-then-width-eq1-clause-here c =
    rw c.if-width-eq1.true (omega (arith, get_or-set_same c.args.bytes.now c.args.at (c.args.number % 256) 0 (omega arith)))

pub returns-else-width-eq1-clause-here : goal.returns-else-width-eq1-clause-here
returns-else-width-eq1-clause-here c =
    let two : c.args.width ≡ 2 = width_two c.args.width c.requires.width (omega arith) (omega arith) in
    rw two (written_here c.args.bytes.now c.copy_from_slice.new.self c.args.at (c.args.at + 2 - c.args.at) 2 (c.args.number % 65536)
    (c.copy_from_slice.ensures.after ∙ c.to_le_bytes.ensures) (omega arith) (omega arith) ∙ omega arith)

pub returns-else-width-eq1-clause-elsewhere : goal.returns-else-width-eq1-clause-elsewhere
returns-else-width-eq1-clause-elsewhere c =
    let two : c.args.width ≡ 2 = width_two c.args.width c.requires.width (omega arith) (omega arith) in
    let size : length c.copy_from_slice.new.self ≡ 2 =
    ap length (c.copy_from_slice.ensures.after ∙ c.to_le_bytes.ensures) ∙ length-bytes_low_first 0 2 (c.args.number % 65536) in
    rw two (written_elsewhere c.args.bytes.now c.copy_from_slice.new.self c.args.at (c.args.at + 2 - c.args.at) 2
    size (omega arith) (omega arith))

pub returns-then-width-eq4-clause-here : goal.returns-then-width-eq4-clause-here
returns-then-width-eq4-clause-here c =
    rw c.if-width-eq4.true (written_here c.args.bytes.now c.copy_from_slice-then-width-eq4.new.self c.args.at (c.args.at + 4 - c.args.at) 4
    (c.args.number % 4294967296) (c.copy_from_slice-then-width-eq4.ensures.after ∙ c.to_le_bytes-then-width-eq4.ensures)
    (omega arith) (omega arith) ∙ omega arith)

pub returns-else-width-eq4-clause-here : goal.returns-else-width-eq4-clause-here
returns-else-width-eq4-clause-here c =
    let eight : c.args.width ≡ 8 = width_eight c.args.width c.requires.width (omega arith) (omega arith) (omega arith) in
    rw eight (written_here c.args.bytes.now c.copy_from_slice-else-width-eq4.new.self c.args.at (c.args.at + 8 - c.args.at) 8 c.args.number
    (c.copy_from_slice-else-width-eq4.ensures.after ∙ c.to_le_bytes-else-width-eq4.ensures) (omega arith) (omega arith))

pub returns-else-width-eq4-clause-elsewhere : goal.returns-else-width-eq4-clause-elsewhere
returns-else-width-eq4-clause-elsewhere c =
    let eight : c.args.width ≡ 8 = width_eight c.args.width c.requires.width (omega arith) (omega arith) (omega arith) in
    let size : length c.copy_from_slice-else-width-eq4.new.self ≡ 8 =
    ap length (c.copy_from_slice-else-width-eq4.ensures.after ∙ c.to_le_bytes-else-width-eq4.ensures) ∙ length-bytes_low_first 0 8 c.args.number in
    rw eight (written_elsewhere c.args.bytes.now c.copy_from_slice-else-width-eq4.new.self c.args.at (c.args.at + 8 - c.args.at) 8
    size (omega arith) (omega arith))
