use Rattle.std.proofs.Common.{◌∙◌, ap, sym, subst, arith}
use Rattle.std.specs.Prelude.{◌<◌}
use Rattle.slot_headers.specs.Cells.{put}
use Rattle.slot_store.specs.Cells.{value_cells}
use Rattle.slot_store.specs.Slots.{Contents, cells_of, with_cells, slot_size}
use Rattle.slot_store.proofs.Values.{length-value_cells, put_two}
use Rattle.slot_store.proofs.Stored.{size_facts, with_cells_twice, cells_of_written}
use Rattle.slot_store.proofs.store.Store.put_header.Goals as goal

pub put_piece-requires-clause-inside : goal.put_piece-requires-clause-inside
put_piece-requires-clause-inside c = omega (arith, (size_facts c.args.self.now.region c.law_slots.ensures.region).0)

pub put_piece-requires-2-clause-inside : goal.put_piece-requires-2-clause-inside
put_piece-requires-2-clause-inside c =
    let P : Contents → Type 0 = λ s. 8 < slot_size s in
    subst P (sym c.put_piece.ensures) (let least = (size_facts c.args.self.now.region c.law_slots.ensures.region).0 in omega arith)

pub returns : goal.returns
returns c =
    let s : Contents = c.args.self.now in
    let cells = cells_of c.args.self.now c.args.slot in
    let first = value_cells c.words_of.result.0 in
    let second = value_cells c.words_of.result.1 in
    c.put_piece-2.ensures
    ∙ ap (λ t. with_cells t c.args.slot (put 8 second (cells_of t c.args.slot))) c.put_piece.ensures
    ∙ with_cells_twice c.args.self.now c.args.slot (put 0 first cells) (put 8 second (cells_of (with_cells c.args.self.now c.args.slot (put 0 first cells)) c.args.slot))
    ∙ ap (λ l. with_cells c.args.self.now c.args.slot (put 8 second l)) (cells_of_written c.args.self.now c.args.slot (put 0 first cells) c.requires.made)
    ∙ ap (with_cells c.args.self.now c.args.slot) (put_two first second cells (length-value_cells c.words_of.result.0) (length-value_cells c.words_of.result.1))
    ∙ ap (λ h. with_cells c.args.self.now c.args.slot (put 0 h cells)) c.words_of.ensures
