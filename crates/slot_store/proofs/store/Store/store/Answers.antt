use Rattle.std.proofs.Common.{◌≡◌, ◌+◌, ◌*◌, ◌/◌, ◌%◌, ◌<◌, ◌∙◌, get_or, ap, sym, subst, arith}
use Rattle.std.specs.Prelude.{List}
use Rattle.std.proofs.Math.ListN.{set}
use Rattle.slot_headers.specs.declared.value.Value.{Value}
use Rattle.slot_store.specs.Words.{AreSlots, slot_cells, zero_word, with_number}
use Rattle.slot_store.specs.Slots.{cells_of, slot_size, with_cells}
use Rattle.slot_store.proofs.Values.{stored}
use Rattle.slot_store.proofs.Stored.{word_inside, few_bytes, byte_word, byte_rest, piece_is, put_is, kept_set}
use Rattle.slot_store.proofs.Widths.{width_some, width_inside}
use Rattle.slot_store.proofs.store.Store.store.Goals as goal

pub byte_number-byte-requires : goal.byte_number-byte-requires
byte_number-byte-requires c =
    let some = width_some c.args.width c.requires.width in
    few_bytes c.self.inside.region (c.self.inside.slot_bytes / 8) c.self.inside.made c.self.inside.pages c.args.self.now c.self.invariant.1 c.self.view_is
    c.args.slot c.self.inside.slot_bytes c.args.at c.self.invariant.0 c.requires.made (omega arith)

pub store-requires-clause-place : goal.store-requires-clause-place
store-requires-clause-place c =
    let some = width_some c.args.width c.requires.width in
    let place : c.byte_number-byte.result / 8 ≡ c.args.slot * (c.self.inside.slot_bytes / 8) + c.args.at / 8 =
    ap (λ b. b / 8) c.byte_number-byte.ensures ∙ byte_word c.args.slot c.self.inside.slot_bytes (c.self.inside.slot_bytes / 8) c.args.at c.self.invariant.0 in
    omega (
      arith,
      word_inside c.self.inside.region (c.self.inside.slot_bytes / 8) c.self.inside.made c.self.inside.pages c.args.self.now c.self.invariant.1 c.self.view_is
          c.args.slot c.args.at c.requires.made (omega arith),
      c.self.invariant.1.room,
      place,
    )

pub store-requires-clause-inside : goal.store-requires-clause-inside
store-requires-clause-inside c =
    let rest : c.byte_number-byte.result % 8 ≡ c.args.at % 8 =
    ap (λ b. b % 8) c.byte_number-byte.ensures ∙ byte_rest c.args.slot c.self.inside.slot_bytes (c.self.inside.slot_bytes / 8) c.args.at c.self.invariant.0 in
    omega (arith, rest, width_inside c.args.at c.args.width c.requires.width c.requires.aligned)

pub invariant_of-self : goal.invariant_of-self
invariant_of-self c =
    let some = width_some c.args.width c.requires.width in
    let place : c.byte_number-byte.result / 8 ≡ c.args.slot * (c.self.inside.slot_bytes / 8) + c.args.at / 8 =
    ap (λ b. b / 8) c.byte_number-byte.ensures ∙ byte_word c.args.slot c.self.inside.slot_bytes (c.self.inside.slot_bytes / 8) c.args.at c.self.invariant.0 in
    let here = word_inside c.self.inside.region (c.self.inside.slot_bytes / 8) c.self.inside.made c.self.inside.pages c.args.self.now c.self.invariant.1 c.self.view_is
    c.args.slot c.args.at c.requires.made (omega arith) in
    let P : List Value → Type 0 = λ words. AreSlots c.self.inside.region (c.self.inside.slot_bytes / 8) c.self.inside.made words in (
      c.self.invariant.0,
      subst P (sym c.store.ensures) (kept_set c.self.inside.region (c.self.inside.slot_bytes / 8) c.self.inside.made c.self.inside.pages c.args.self.now c.self.invariant.1 c.self.view_is
          (c.byte_number-byte.result / 8) (with_number (c.byte_number-byte.result % 8) c.args.width c.args.bits (get_or c.self.inside.pages (c.byte_number-byte.result / 8) zero_word))
          (omega (arith, here, place))),
    )

pub returns : goal.returns
returns c =
    let some = width_some c.args.width c.requires.width in
    let inside : c.args.at < slot_size c.args.self.now = omega arith in
    let place : c.byte_number-byte.result / 8 ≡ c.args.slot * (c.self.inside.slot_bytes / 8) + c.args.at / 8 =
    ap (λ b. b / 8) c.byte_number-byte.ensures ∙ byte_word c.args.slot c.self.inside.slot_bytes (c.self.inside.slot_bytes / 8) c.args.at c.self.invariant.0 in
    let rest : c.byte_number-byte.result % 8 ≡ c.args.at % 8 =
    ap (λ b. b % 8) c.byte_number-byte.ensures ∙ byte_rest c.args.slot c.self.inside.slot_bytes (c.self.inside.slot_bytes / 8) c.args.at c.self.invariant.0 in
    let word = c.args.slot * (c.self.inside.slot_bytes / 8) + c.args.at / 8 in
    let old : Value = get_or c.self.inside.pages (c.args.slot * (c.self.inside.slot_bytes / 8) + c.args.at / 8) zero_word in
    let same : c.store.new.self ≡ set c.self.inside.pages (c.args.slot * (c.self.inside.slot_bytes / 8) + c.args.at / 8) (with_number (c.args.at % 8) c.args.width c.args.bits old) =
    c.store.ensures
    ∙ ap (λ b. set c.self.inside.pages (c.byte_number-byte.result / 8) (with_number b c.args.width c.args.bits (get_or c.self.inside.pages (c.byte_number-byte.result / 8) zero_word))) rest
    ∙ ap (λ i. set c.self.inside.pages i (with_number (c.args.at % 8) c.args.width c.args.bits (get_or c.self.inside.pages i zero_word))) place in
    ap (λ words. record { region = c.self.inside.region; slots = slot_cells (c.self.inside.slot_bytes / 8) c.self.inside.made words }) same
    ∙ put_is c.self.inside.region (c.self.inside.slot_bytes / 8) c.self.inside.made c.self.inside.pages c.args.self.now c.self.invariant.1 c.self.view_is
    c.args.slot c.args.at (with_number (c.args.at % 8) c.args.width c.args.bits old) c.requires.made inside
    ∙ ap (with_cells c.args.self.now c.args.slot)
    (stored c.args.at c.args.width c.args.bits (cells_of c.args.self.now c.args.slot) old
    (width_inside c.args.at c.args.width c.requires.width c.requires.aligned)
    (piece_is c.self.inside.region (c.self.inside.slot_bytes / 8) c.self.inside.made c.self.inside.pages c.args.self.now c.self.invariant.1 c.self.view_is
    c.args.slot c.args.at zero_word c.requires.made inside))
