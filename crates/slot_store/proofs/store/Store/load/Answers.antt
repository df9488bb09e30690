use Rattle.std.proofs.Common.{◌≡◌, ◌+◌, ◌*◌, ◌/◌, ◌%◌, ◌<◌, ◌∙◌, get_or, ap, sym, arith}
use Rattle.slot_headers.specs.declared.value.Value.{Value}
use Rattle.slot_store.specs.Words.{zero_word, number_in_word}
use Rattle.slot_store.specs.Slots.{cells_of, slot_size}
use Rattle.slot_store.proofs.Values.{loaded, in_word-small}
use Rattle.slot_store.proofs.Stored.{word_inside, few_bytes, byte_word, byte_rest, piece_is}
use Rattle.slot_store.proofs.Widths.{width_some, width_inside}
use Rattle.slot_store.proofs.store.Store.load.Goals as goal

pub byte_number-byte-requires : goal.byte_number-byte-requires
byte_number-byte-requires c =
    let some = width_some c.args.width c.requires.width in
    few_bytes c.self.inside.region (c.self.inside.slot_bytes / 8) c.self.inside.made c.self.inside.pages c.args.self.now c.self.invariant.1 c.self.view_is
    c.args.slot c.self.inside.slot_bytes c.args.at c.self.invariant.0 c.requires.made (omega arith)

pub load-requires-clause-place : goal.load-requires-clause-place
load-requires-clause-place c =
    let some = width_some c.args.width c.requires.width in
    let place : c.byte_number-byte.result / 8 ≡ c.args.slot * (c.self.inside.slot_bytes / 8) + c.args.at / 8 =
    ap (λ b. b / 8) c.byte_number-byte.ensures ∙ byte_word c.args.slot c.self.inside.slot_bytes (c.self.inside.slot_bytes / 8) c.args.at c.self.invariant.0 in
    omega (
      arith,
      word_inside c.self.inside.region (c.self.inside.slot_bytes / 8) c.self.inside.made c.self.inside.pages c.args.self.now c.self.invariant.1 c.self.view_is
          c.args.slot c.args.at c.requires.made (omega arith),
      c.self.invariant.1.room,
      place,
    )

pub load-requires-clause-inside : goal.load-requires-clause-inside
load-requires-clause-inside c =
    let rest : c.byte_number-byte.result % 8 ≡ c.args.at % 8 =
    ap (λ b. b % 8) c.byte_number-byte.ensures ∙ byte_rest c.args.slot c.self.inside.slot_bytes (c.self.inside.slot_bytes / 8) c.args.at c.self.invariant.0 in
    omega (arith, rest, width_inside c.args.at c.args.width c.requires.width c.requires.aligned)

pub returns-clause-value : goal.returns-clause-value
returns-clause-value c =
    let some = width_some c.args.width c.requires.width in
    let inside : c.args.at < slot_size c.args.self.now = omega arith in
    let place : c.byte_number-byte.result / 8 ≡ c.args.slot * (c.self.inside.slot_bytes / 8) + c.args.at / 8 =
    ap (λ b. b / 8) c.byte_number-byte.ensures ∙ byte_word c.args.slot c.self.inside.slot_bytes (c.self.inside.slot_bytes / 8) c.args.at c.self.invariant.0 in
    let rest : c.byte_number-byte.result % 8 ≡ c.args.at % 8 =
    ap (λ b. b % 8) c.byte_number-byte.ensures ∙ byte_rest c.args.slot c.self.inside.slot_bytes (c.self.inside.slot_bytes / 8) c.args.at c.self.invariant.0 in
    let old : Value = get_or c.self.inside.pages (c.args.slot * (c.self.inside.slot_bytes / 8) + c.args.at / 8) zero_word in
    c.load.ensures
    ∙ ap (λ b. number_in_word b c.args.width (get_or c.self.inside.pages (c.byte_number-byte.result / 8) zero_word)) rest
    ∙ ap (λ i. number_in_word (c.args.at % 8) c.args.width (get_or c.self.inside.pages i zero_word)) place
    ∙ sym (loaded c.args.at c.args.width (cells_of c.args.self.now c.args.slot) old some
    (width_inside c.args.at c.args.width c.requires.width c.requires.aligned)
    (piece_is c.self.inside.region (c.self.inside.slot_bytes / 8) c.self.inside.made c.self.inside.pages c.args.self.now c.self.invariant.1 c.self.view_is
    c.args.slot c.args.at zero_word c.requires.made inside))

pub returns-clause-range : goal.returns-clause-range
returns-clause-range c =
    in_word-small (c.byte_number-byte.result % 8) c.args.width (get_or c.self.inside.pages (c.byte_number-byte.result / 8) zero_word) c.load.result c.load.ensures
