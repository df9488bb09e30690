use Rattle.std.proofs.Common.{◌≡◌, ◌*◌, ◌/◌, ◌<◌, ◌^◌, ◌∙◌, ap, sym, arith}
use Rattle.slot_headers.specs.Cells.{cells_at}
use Rattle.slot_store.specs.Cells.{value_cells}
use Rattle.slot_store.specs.Slots.{cells_of}
use Rattle.slot_store.proofs.Values.{pointer_given, pointer_refused}
use Rattle.slot_store.proofs.store.Store.load_ptr.Goals as goal

pub returns-then-piece-eq0 : goal.returns-then-piece-eq0
returns-then-piece-eq0 c =
    let at : 8 * (c.args.at / 8) ≡ c.args.at = omega arith in
    let small : c.piece-piece.result.bits < 2 ^ 64 = omega arith in
    let here : cells_at c.args.at 8 (cells_of c.args.self.now c.args.slot) ≡ value_cells c.piece-piece.result =
    ap (λ k. cells_at k 8 (cells_of c.args.self.now c.args.slot)) (sym at) ∙ c.piece-piece.ensures in
    pointer_given c.args.at (cells_of c.args.self.now c.args.slot) c.piece-piece.result here small c.if-piece-eq0.either

pub returns-else-piece-eq0 : goal.returns-else-piece-eq0
returns-else-piece-eq0 c =
    let at : 8 * (c.args.at / 8) ≡ c.args.at = omega arith in
    let small : c.piece-piece.result.bits < 2 ^ 64 = omega arith in
    let here : cells_at c.args.at 8 (cells_of c.args.self.now c.args.slot) ≡ value_cells c.piece-piece.result =
    ap (λ k. cells_at k 8 (cells_of c.args.self.now c.args.slot)) (sym at) ∙ c.piece-piece.ensures in
    pointer_refused c.args.at (cells_of c.args.self.now c.args.slot) c.piece-piece.result here small c.if-piece-eq0.false.0 c.if-piece-eq0.false.1
