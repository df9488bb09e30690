use Rattle.std.proofs.Common.{◌≡◌, ◌+◌, ◌*◌, ◌/◌, ◌∙◌, ap, sym, subst, arith}
use Rattle.std.specs.Prelude.{List}
use Rattle.std.proofs.Math.ListN.{set}
use Rattle.slot_headers.specs.declared.value.Value.{Value}
use Rattle.slot_store.specs.Words.{AreSlots, slot_cells}
use Rattle.slot_store.proofs.Stored.{word_inside, few_bytes, byte_word, put_is, kept_set}
use Rattle.slot_store.proofs.store.Store.put_piece.Goals as goal

pub byte_number-byte-requires : goal.byte_number-byte-requires
byte_number-byte-requires c =
    few_bytes c.self.inside.region (c.self.inside.slot_bytes / 8) c.self.inside.made c.self.inside.pages c.args.self.now c.self.invariant.1 c.self.view_is
    c.args.slot c.self.inside.slot_bytes c.args.at c.self.invariant.0 c.requires.made c.requires.inside

pub set-requires : goal.set-requires
set-requires c =
    let place : c.byte_number-byte.result / 8 ≡ c.args.slot * (c.self.inside.slot_bytes / 8) + c.args.at / 8 =
    ap (λ b. b / 8) c.byte_number-byte.ensures ∙ byte_word c.args.slot c.self.inside.slot_bytes (c.self.inside.slot_bytes / 8) c.args.at c.self.invariant.0 in
    omega (
      arith,
      word_inside c.self.inside.region (c.self.inside.slot_bytes / 8) c.self.inside.made c.self.inside.pages c.args.self.now c.self.invariant.1 c.self.view_is
          c.args.slot c.args.at c.requires.made c.requires.inside,
      c.self.invariant.1.room,
      place,
    )

pub invariant_of-self : goal.invariant_of-self
invariant_of-self c =
    let place : c.byte_number-byte.result / 8 ≡ c.args.slot * (c.self.inside.slot_bytes / 8) + c.args.at / 8 =
    ap (λ b. b / 8) c.byte_number-byte.ensures ∙ byte_word c.args.slot c.self.inside.slot_bytes (c.self.inside.slot_bytes / 8) c.args.at c.self.invariant.0 in
    let same : c.set.new.self ≡ set c.self.inside.pages (c.args.slot * (c.self.inside.slot_bytes / 8) + c.args.at / 8) c.args.value =
    c.set.ensures ∙ ap (λ i. set c.self.inside.pages i c.args.value) place in
    let inside = word_inside c.self.inside.region (c.self.inside.slot_bytes / 8) c.self.inside.made c.self.inside.pages c.args.self.now c.self.invariant.1 c.self.view_is
    c.args.slot c.args.at c.requires.made c.requires.inside in
    let P : List Value → Type 0 = λ words. AreSlots c.self.inside.region (c.self.inside.slot_bytes / 8) c.self.inside.made words in (
      c.self.invariant.0,
      subst P (sym same) (kept_set c.self.inside.region (c.self.inside.slot_bytes / 8) c.self.inside.made c.self.inside.pages c.args.self.now c.self.invariant.1 c.self.view_is
          (c.args.slot * (c.self.inside.slot_bytes / 8) + c.args.at / 8) c.args.value inside),
    )

pub returns : goal.returns
returns c =
    let place : c.byte_number-byte.result / 8 ≡ c.args.slot * (c.self.inside.slot_bytes / 8) + c.args.at / 8 =
    ap (λ b. b / 8) c.byte_number-byte.ensures ∙ byte_word c.args.slot c.self.inside.slot_bytes (c.self.inside.slot_bytes / 8) c.args.at c.self.invariant.0 in
    let same : c.set.new.self ≡ set c.self.inside.pages (c.args.slot * (c.self.inside.slot_bytes / 8) + c.args.at / 8) c.args.value =
    c.set.ensures ∙ ap (λ i. set c.self.inside.pages i c.args.value) place in
    ap (λ words. record { region = c.self.inside.region; slots = slot_cells (c.self.inside.slot_bytes / 8) c.self.inside.made words }) same
    ∙ put_is c.self.inside.region (c.self.inside.slot_bytes / 8) c.self.inside.made c.self.inside.pages c.args.self.now c.self.invariant.1 c.self.view_is
    c.args.slot c.args.at c.args.value c.requires.made c.requires.inside
