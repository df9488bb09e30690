use Rattle.std.proofs.Common.{◌/◌, ◌∙◌, ap, sym, subst, arith}
use Rattle.std.specs.Prelude.{List}
use Rattle.slot_headers.specs.declared.value.Value.{Value}
use Rattle.slot_store.specs.Words.{AreSlots, slot_cells}
use Rattle.slot_store.proofs.Stored.{slot_end, few_words, clear_is, kept_clear}
use Rattle.slot_store.proofs.store.Store.clear_slot.Goals as goal

pub overflow_mul-slot : goal.overflow_mul-slot
overflow_mul-slot c =
    omega (
      arith,
      slot_end c.self.inside.region (c.self.inside.slot_bytes / 8) c.self.inside.made c.self.inside.pages c.args.self.now c.self.invariant.1 c.self.view_is c.args.slot c.requires,
      few_words c.self.inside.region (c.self.inside.slot_bytes / 8) c.self.inside.made c.self.inside.pages c.args.self.now c.self.invariant.1 c.self.view_is,
    )

pub clear-requires-clause-inside : goal.clear-requires-clause-inside
clear-requires-clause-inside c =
    omega (arith, slot_end c.self.inside.region (c.self.inside.slot_bytes / 8) c.self.inside.made c.self.inside.pages c.args.self.now c.self.invariant.1 c.self.view_is c.args.slot c.requires, c.self.invariant.1.room)

pub clear-requires-clause-few : goal.clear-requires-clause-few
clear-requires-clause-few c =
    omega (
      arith,
      slot_end c.self.inside.region (c.self.inside.slot_bytes / 8) c.self.inside.made c.self.inside.pages c.args.self.now c.self.invariant.1 c.self.view_is c.args.slot c.requires,
      few_words c.self.inside.region (c.self.inside.slot_bytes / 8) c.self.inside.made c.self.inside.pages c.args.self.now c.self.invariant.1 c.self.view_is,
    )

pub invariant_of-self : goal.invariant_of-self
invariant_of-self c =
    let P : List Value → Type 0 = λ words. AreSlots c.self.inside.region (c.self.inside.slot_bytes / 8) c.self.inside.made words in
    (c.self.invariant.0, subst P (sym c.clear.ensures) (kept_clear c.self.inside.region (c.self.inside.slot_bytes / 8) c.self.inside.made c.self.inside.pages c.args.self.now c.self.invariant.1 c.self.view_is c.args.slot c.requires))

pub returns : goal.returns
returns c =
    ap (λ words. record { region = c.self.inside.region; slots = slot_cells (c.self.inside.slot_bytes / 8) c.self.inside.made words }) c.clear.ensures
    ∙ clear_is c.self.inside.region (c.self.inside.slot_bytes / 8) c.self.inside.made c.self.inside.pages c.args.self.now c.self.invariant.1 c.self.view_is c.args.slot c.requires
