use Rattle.std.proofs.lemmas.Result.{err_from_is_err_and}
use Rattle.std.proofs.Common.{◌/◌, ap, sym, arith}
use Rattle.slot_store.proofs.Stored.{made_is, few_next, few_slots, left_of, grown_is, kept_grown, kept_next, next_is}
use Rattle.slot_store.proofs.store.Store.open_slot.Goals as goal

pub overflow_mul-slot : goal.overflow_mul-slot
overflow_mul-slot c =
    omega (arith, few_next c.self.inside.region (c.self.inside.slot_bytes / 8) c.self.inside.made c.self.inside.pages c.args.self.now c.self.invariant.1 c.self.view_is c.requires)

pub invariant_of-self : goal.invariant_of-self
invariant_of-self c =
    (c.self.invariant.0, kept_grown c.self.inside.region (c.self.inside.slot_bytes / 8) c.self.inside.made c.self.inside.pages c.args.self.now c.self.invariant.1 c.self.view_is c.make_room.new.self c.make_room.ensures.grown)

pub returns-in_err-make_room-clause-err : goal.returns-in_err-make_room-clause-err
returns-in_err-make_room-clause-err c =
    let p = err_from_is_err_and c.from_residual.result c.from_residual.ensures.1 in
    rw p.1 (grown_is c.self.inside.region (c.self.inside.slot_bytes / 8) c.self.inside.made c.self.inside.pages c.args.self.now
    c.self.invariant.1 c.self.view_is c.make_room.new.self c.make_room.ensures.grown)

pub overflow_add-self : goal.overflow_add-self
overflow_add-self c =
    omega (arith, left_of c.self.inside.region (c.self.inside.slot_bytes / 8) c.self.inside.made c.self.inside.pages c.args.self.now c.self.invariant.1 c.self.view_is c.requires, few_slots c.self.inside.region)

pub invariant_of-self-2 : goal.invariant_of-self-2
invariant_of-self-2 c = (
  c.self.invariant.0,
  kept_next c.self.inside.region (c.self.inside.slot_bytes / 8) c.self.inside.made c.make_room.new.self
      (kept_grown c.self.inside.region (c.self.inside.slot_bytes / 8) c.self.inside.made c.self.inside.pages c.args.self.now c.self.invariant.1 c.self.view_is c.make_room.new.self c.make_room.ensures.grown)
      (left_of c.self.inside.region (c.self.inside.slot_bytes / 8) c.self.inside.made c.self.inside.pages c.args.self.now c.self.invariant.1 c.self.view_is c.requires) c.in_ok-make_room.ensures.room,
)

pub returns : goal.returns
returns c =
    let kept = kept_grown c.self.inside.region (c.self.inside.slot_bytes / 8) c.self.inside.made c.self.inside.pages c.args.self.now c.self.invariant.1 c.self.view_is c.make_room.new.self c.make_room.ensures.grown in
    let seen = grown_is c.self.inside.region (c.self.inside.slot_bytes / 8) c.self.inside.made c.self.inside.pages c.args.self.now c.self.invariant.1 c.self.view_is c.make_room.new.self c.make_room.ensures.grown in
    record {
      region = ap (λ s. s.region) c.self.view_is;
      number = sym (made_is c.self.inside.region (c.self.inside.slot_bytes / 8) c.self.inside.made c.self.inside.pages c.args.self.now c.self.invariant.1 c.self.view_is);
      ok = next_is c.self.inside.region (c.self.inside.slot_bytes / 8) c.self.inside.made c.make_room.new.self c.args.self.now kept seen c.in_ok-make_room.ensures.room;
      err = tt;
    }
