use Rattle.std.proofs.Common.{rules}
use Rattle.slot_store.specs.Cells.{value_cells}
use Rattle.slot_store.proofs.Digits.{bytes-read}
use Rattle.slot_store.proofs.header_words.plain_word.Goals as goal

pub returns : goal.returns
unfolding value_cells
returns c = bytes-read c.args.bytes.now c.from_le_bytes-bits.result c.requires (λ i. search rules) c.from_le_bytes-bits.ensures
