use Rattle.std.proofs.Common.{◌≡◌, ◌+◌, ◌*◌, ◌/◌, ◌∙◌, get_or, ap, sym, arith}
use Rattle.slot_store.specs.Cells.{value_cells}
use Rattle.slot_store.proofs.Stored.{word_inside, few_bytes, byte_word, piece_is}
use Rattle.slot_store.proofs.store.Store.piece.Goals as goal

pub byte_number-byte-requires : goal.byte_number-byte-requires
byte_number-byte-requires c =
    few_bytes c.self.inside.region (c.self.inside.slot_bytes / 8) c.self.inside.made c.self.inside.pages c.args.self.now c.self.invariant.1 c.self.view_is
    c.args.slot c.self.inside.slot_bytes c.args.at c.self.invariant.0 c.requires.made c.requires.inside

pub get-requires : goal.get-requires
get-requires c =
    let place : c.byte_number-byte.result / 8 ≡ c.args.slot * (c.self.inside.slot_bytes / 8) + c.args.at / 8 =
    ap (λ b. b / 8) c.byte_number-byte.ensures ∙ byte_word c.args.slot c.self.inside.slot_bytes (c.self.inside.slot_bytes / 8) c.args.at c.self.invariant.0 in
    omega (
      arith,
      word_inside c.self.inside.region (c.self.inside.slot_bytes / 8) c.self.inside.made c.self.inside.pages c.args.self.now c.self.invariant.1 c.self.view_is
          c.args.slot c.args.at c.requires.made c.requires.inside,
      c.self.invariant.1.room,
      place,
    )

pub returns : goal.returns
returns c =
    let place : c.byte_number-byte.result / 8 ≡ c.args.slot * (c.self.inside.slot_bytes / 8) + c.args.at / 8 =
    ap (λ b. b / 8) c.byte_number-byte.ensures ∙ byte_word c.args.slot c.self.inside.slot_bytes (c.self.inside.slot_bytes / 8) c.args.at c.self.invariant.0 in
    piece_is c.self.inside.region (c.self.inside.slot_bytes / 8) c.self.inside.made c.self.inside.pages c.args.self.now c.self.invariant.1 c.self.view_is
    c.args.slot c.args.at c.get.result c.requires.made c.requires.inside
    ∙ ap value_cells (ap (λ i. get_or c.self.inside.pages i c.get.result) (sym place) ∙ sym c.get.ensures)
