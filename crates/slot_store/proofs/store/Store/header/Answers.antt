use Rattle.std.proofs.Common.{◌≡◌, ◌∙◌, sym, ap, arith}
use Rattle.slot_headers.specs.Headers.{header_of}
use Rattle.slot_store.specs.Cells.{header_bytes}
use Rattle.slot_store.specs.Slots.{cells_of}
use Rattle.slot_store.proofs.Values.{header_read}
use Rattle.slot_store.proofs.Stored.{size_facts}
use Rattle.slot_store.proofs.store.Store.header.Goals as goal
use Rattle.slot_store.proofs.store.Store.header.Goals.{After-bytes_of_words}

pub piece-first-requires-clause-inside : goal.piece-first-requires-clause-inside
piece-first-requires-clause-inside c = omega (arith, (size_facts c.args.self.now.region c.law_slots.ensures.region).0)

pub piece-second-requires-clause-inside : goal.piece-second-requires-clause-inside
piece-second-requires-clause-inside c = omega (arith, (size_facts c.args.self.now.region c.law_slots.ensures.region).0)

-- the bytes that are read are the slot's first
read : (c : After-bytes_of_words) → c.bytes_of_words.result ≡ header_bytes (cells_of c.args.self.now c.args.slot)
read c =
    c.bytes_of_words.ensures
    ∙ sym (header_read (cells_of c.args.self.now c.args.slot) c.piece-first.result c.piece-second.result c.piece-first.ensures c.piece-second.ensures)

pub returns-clause-value : goal.returns-clause-value
returns-clause-value c = c.get.ensures.value ∙ ap header_of (read (goal.at.returns-clause-value c).After-bytes_of_words)

pub returns-clause-bytes : goal.returns-clause-bytes
returns-clause-bytes c = c.get.ensures.bytes ∙ read (goal.at.returns-clause-bytes c).After-bytes_of_words
